-- Laws of the walk that clears the log, for any number of words a cell. Assumes nothing.
use mathlib.Core.Path.{◌≡◌, refl, sym, ◌∙◌, ap}
use mathlib.Core.List.{List, [], ◌∷◌}
use mathlib.Core.Bool.{Bool, true, false, cond}
use Prim.Native.Nat.{ℕ, zero, suc, ◌+◌, ◌-◌, ◌*◌, ◌%◌, ◌<◌, ◌≤◌}
use native.Mathlib.Nat.{not-suc-le-zero, mod-lt, mod-eq_of_lt, mul-add-mod_self_right}
use native.Mathlib.Omega.{arith}
use native.Mathlib.Decide.{ℕ_discrete, dec_lt}
use borrow.Author.Tests.{lt-ltb, le-ltb, eq-eqb, ne_eqb}
use lib.Dec.{eqb, ltb}
use lib.ListN.{length, get_or, set, replicate, length-set, length-replicate, get_or-replicate}
use lib.Seq.{ext_get_or, get_or-set_other}
use Rattle.spec.specs.Log.{cleared_where, cell_cleared, cells_cleared}

module _ (p : ℕ → Bool) (k : ℕ) where
  where_size : (j : ℕ) (log : List ℕ) → length (cleared_where p k j log) ≡ length log
  unfolding cleared_where
  where_size j [] = refl
  where_size j (w ∷ log) = ap suc (where_size (suc j) log)

  -- One word. Those behind the log's end read as 0.
  where_word : (j : ℕ) (log : List ℕ) (i : ℕ) → get_or (cleared_where p k j log) i 0 ≡ cond (p ((j + i) % k)) 0 (get_or log i 0)
  unfolding cleared_where
  where_word j [] i = none (p ((j + i) % k))
    where
      none : (b : Bool) → ◌≡◌ {A = ℕ} 0 (cond b 0 0)
      none true = refl
      none false = refl
  where_word j (w ∷ log) zero = ap (λ (z : ℕ). cond (p (z % k)) 0 w) (let e : j ≡ j + 0 = omega arith in e)
  where_word j (w ∷ log) (suc i) =
      where_word (suc j) log i ∙ ap (λ (z : ℕ). cond (p (z % k)) 0 (get_or log i 0)) (let e : suc j + i ≡ j + suc i = omega arith in e)

  where_at : (log : List ℕ) (j : ℕ) → get_or (cleared_where p k 0 log) j 0 ≡ cond (p (j % k)) 0 (get_or log j 0)
  where_at log j = where_word 0 log j ∙ ap (λ (z : ℕ). cond (p (z % k)) 0 (get_or log j 0)) (let e : 0 + j ≡ j = omega arith in e)

-- The cell of the word at q * k + c is c, whatever q.
pub place_cell : (q k c : ℕ) → c < k → (q * k + c) % k ≡ c
place_cell q k c h = mul-add-mod_self_right q k c ∙ mod-eq_of_lt h

module _ (k : ℕ) (log : List ℕ) where
  pub cells_size : (n : ℕ) → length (cells_cleared k n log) ≡ length log
  unfolding cells_cleared
  cells_size n = where_size (λ i. ltb i n) k 0 log

  -- A word of one of the n cells, and any other.
  pub cells_zero : (n j : ℕ) → j % k < n → get_or (cells_cleared k n log) j 0 ≡ 0
  unfolding cells_cleared
  cells_zero n j h = where_at (λ i. ltb i n) k log j ∙ rw (lt-ltb (j % k) n h)

  pub cells_kept_lem : (n j : ℕ) → n ≤ j % k → get_or (cells_cleared k n log) j 0 ≡ get_or log j 0
  unfolding cells_cleared
  cells_kept_lem n j h = where_at (λ i. ltb i n) k log j ∙ rw (le-ltb (j % k) n h)

  -- No turn; and where every other word is 0 already, any number of turns clears the whole log.
  pub cells_none : cells_cleared k 0 log ≡ log
  cells_none = ext_get_or 0 (cells_cleared k 0 log) log (cells_size 0) (λ j h. cells_kept_lem 0 j (omega arith))

  pub cells_rest : (n : ℕ) → ((j : ℕ) → j < length log → n ≤ j % k → get_or log j 0 ≡ 0) → cells_cleared k n log ≡ replicate (length log) 0
  cells_rest n rest =
      ext_get_or 0 (cells_cleared k n log) (replicate (length log) 0) (cells_size n ∙ sym (length-replicate (length log) 0))
      (λ j h. by j (omega (arith, cells_size n)) (dec_lt (j % k) n) ∙ sym (get_or-replicate (length log) j 0 0 (omega (arith, cells_size n))))
    where
      by : (j : ℕ) → j < length log → Dec (j % k < n) → get_or (cells_cleared k n log) j 0 ≡ 0
      by j h (yes l) = cells_zero n j l
      by j h (no l) = cells_kept_lem n j (omega arith) ∙ rest j h (omega arith)

  -- As many turns as cells, or more: the cleared log.
  pub cells_all : (n : ℕ) → (0 < length log → 0 < k) → k ≤ n → cells_cleared k n log ≡ replicate (length log) 0
  cells_all n some h = cells_rest n (λ j l e. absurd (let z = mod-lt j {m = k} (some (omega arith)) in omega arith))

  pub cells_enough : (m n : ℕ) → (0 < length log → 0 < k) → k ≤ m → k ≤ n → cells_cleared k m log ≡ cells_cleared k n log
  cells_enough m n some g h = cells_all m some g ∙ sym (cells_all n some h)

-- A turn of the walk at cell c: its words are put to 0 one after the other, q of them so far, and no other cell's changes.
pub record Turning (k c q : ℕ) (log log' : List ℕ) : Type 0 where
  pub size : length log' ≡ length log
  pub zero_below : (j : ℕ) → j < q * k → j % k ≡ c → get_or log' j 0 ≡ 0
  pub kept : (j : ℕ) → (j % k ≡ c → ⊥) → get_or log' j 0 ≡ get_or log j 0

set_zero : (l : List ℕ) (i : ℕ) → get_or (set l i 0) i 0 ≡ 0
set_zero [] i = refl
set_zero (x ∷ l) zero = refl
set_zero (x ∷ l) (suc i) = set_zero l i

module _ (k c : ℕ) (log : List ℕ) where
  pub turn_start : Turning k c 0 log log
  turn_start = record { size = refl; zero_below = λ j h e. absurd (not-suc-le-zero (let z : j < 0 = omega arith in z)); kept = λ j e. refl }

  pub turn_put : (q i : ℕ) (log' : List ℕ) → c < k → i ≡ q * k + c → Turning k c q log log' → Turning k c (suc q) log (set log' i 0)
  turn_put q i log' h e T =
      record {
        size = length-set log' i 0 ∙ T.size;
        zero_below = λ j l m. by j l m (ℕ_discrete j i);
        kept = λ j m. get_or-set_other log' i j 0 0 (λ z. m (ap (λ (x : ℕ). x % k) (z ∙ e) ∙ place_cell q k c h)) ∙ T.kept j m;
      }
    where
      more : suc q * k ≡ q * k + k
      more = omega arith

      -- a word of the mode in turn is the one of its cell
      only : (j : ℕ) → q * k ≤ j → j < suc q * k → j % k ≡ c → j ≡ i
      only j g l m =
          let at : q * k + (j - q * k) ≡ j = omega arith in
          let r : j % k ≡ j - q * k = ap (λ (x : ℕ). x % k) (sym at) ∙ place_cell q k (j - q * k) (omega (arith, more)) in
          omega arith

      by : (j : ℕ) → j < suc q * k → j % k ≡ c → Dec (j ≡ i) → get_or (set log' i 0) j 0 ≡ 0
      by j l m (yes z) = ap (λ (x : ℕ). get_or (set log' i 0) x 0) z ∙ set_zero log' i
      by j l m (no z) = get_or-set_other log' i j 0 0 z ∙ before (dec_lt j (q * k))
        where
          before : Dec (j < q * k) → get_or log' j 0 ≡ 0
          before (yes g) = T.zero_below j g m
          before (no g) = absurd (z (only j (omega arith) l m))

  -- With all its words put to 0 the cell is cleared.
  pub turn_end : (q : ℕ) (log' : List ℕ) → length log ≤ q * k → Turning k c q log log' → log' ≡ cell_cleared k c log
  unfolding cell_cleared
  turn_end q log' h T =
      ext_get_or 0 log' (cleared_where (λ i. eqb i c) k 0 log) (T.size ∙ sym (where_size (λ i. eqb i c) k 0 log))
      (λ j l. by j (omega (arith, T.size)) (ℕ_discrete (j % k) c) ∙ sym (where_at (λ i. eqb i c) k log j))
    where
      by : (j : ℕ) → j < length log → Dec (j % k ≡ c) → get_or log' j 0 ≡ cond (eqb (j % k) c) 0 (get_or log j 0)
      by j l (yes e) = T.zero_below j (omega arith) e ∙ sym (rw (eq-eqb (j % k) c e))
      by j l (no e) = T.kept j e ∙ sym (rw (ne_eqb (j % k) c e))

  -- One turn more.
  pub cells_more : cell_cleared k c (cells_cleared k c log) ≡ cells_cleared k (c + 1) log
  unfolding cell_cleared
  cells_more =
      let now = cells_cleared k c log in
      ext_get_or 0 (cleared_where (λ i. eqb i c) k 0 now) (cells_cleared k (c + 1) log)
      (where_size (λ i. eqb i c) k 0 now ∙ cells_size k log c ∙ sym (cells_size k log (c + 1)))
      (λ j l. where_at (λ i. eqb i c) k now j ∙ by j (ℕ_discrete (j % k) c) (dec_lt (j % k) c))
    where
      by : (j : ℕ) → Dec (j % k ≡ c) → Dec (j % k < c)
          → cond (eqb (j % k) c) 0 (get_or (cells_cleared k c log) j 0) ≡ get_or (cells_cleared k (c + 1) log) j 0
      by j (yes e) d = rw (eq-eqb (j % k) c e) (sym (cells_zero k log (c + 1) j (omega arith)))
      by j (no e) (yes l) = rw (ne_eqb (j % k) c e) (cells_zero k log c j l ∙ sym (cells_zero k log (c + 1) j (omega arith)))
      by j (no e) (no l) = rw (ne_eqb (j % k) c e) (cells_kept_lem k log c j (omega arith) ∙ sym (cells_kept_lem k log (c + 1) j (omega arith)))
