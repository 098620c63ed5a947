-- Numbers at one distance from others cost what these cost. Assumes nothing.
use mathlib.Core.Path.{◌≡◌, refl, sym, ◌∙◌, ap}
use mathlib.Core.Logic.{◌⊎◌, inl, inr}
use mathlib.Core.List.{List, [], ◌∷◌, map}
use mathlib.Core.Bool.{Bool, true, false, cond, ◌||◌}
use Prim.Native.Nat.{ℕ, zero, suc, ◌+◌, ◌-◌, ◌%◌, ◌<◌, ◌≤◌, max}
use native.Mathlib.Omega.{arith}
use native.Mathlib.Decide.{ℕ_discrete}
use borrow.Author.Tests.{eq-eqb, ne_eqb}
use lib.Dec.{eqb}
use lib.ListN.{length}
use Rattle.spec.specs.Word.{sub}
use Rattle.spec.specs.Lists.{any_of}
use Rattle.spec.specs.Mask.{Mask, members, members_from}
use Rattle.spec.specs.Banks.{different, in_bank, most_in_bank, conflict_cost}
use Rattle.spec.proofs.Laws.{lt_or_le}
use Rattle.banks.specs.Counting.{AllCells}
use Rattle.banks.specs.Remembering.{AtOneDistance}

-- All cells moved by k.
abbrev moved : ℕ → List ℕ → List ℕ
moved k cs = map (λ c. c + k) cs

same_test : (x y x' y' : ℕ) → (x ≡ y → x' ≡ y') → (x' ≡ y' → x ≡ y) → eqb x y ≡ eqb x' y'
same_test x y x' y' f g = by (ℕ_discrete x y)
  where
    by : Dec (x ≡ y) → eqb x y ≡ eqb x' y'
    by (yes e) = eq-eqb x y e ∙ sym (eq-eqb x' y' (f e))
    by (no n) = ne_eqb x y n ∙ sym (ne_eqb x' y' (λ e. n (g e)))

among_moved : (k c : ℕ) (cs : List ℕ) → any_of (eqb (c + k)) (moved k cs) ≡ any_of (eqb c) cs
unfolding any_of
among_moved k c [] = refl
among_moved k c (d ∷ cs) =
    ap (λ b. b || any_of (eqb (c + k)) (moved k cs)) (same_test (c + k) (d + k) c d (λ e. omega arith) (λ e. omega arith)) ∙ ap (λ b. eqb c d || b) (among_moved k c cs)

different_moved : (k : ℕ) (cs : List ℕ) → different (moved k cs) ≡ moved k (different cs)
unfolding different
different_moved k [] = refl
different_moved k (c ∷ cs) =
    ap (λ b. cond b (different (moved k cs)) ((c + k) ∷ different (moved k cs))) (among_moved k c cs)
    ∙ ap (λ l. cond (any_of (eqb c) cs) l ((c + k) ∷ l)) (different_moved k cs) ∙ choose (any_of (eqb c) cs)
  where
    choose : (b : Bool) → cond b (moved k (different cs)) ((c + k) ∷ moved k (different cs)) ≡ moved k (cond b (different cs) (c ∷ different cs))
    choose true = refl
    choose false = refl

-- Bank b is bank a moved by k.
bank_moved : (k a b : ℕ) → a < 16 → b < 16 → (a + k) % 16 ≡ b → (cs : List ℕ) → in_bank b (moved k cs) ≡ in_bank a cs
unfolding in_bank
bank_moved k a b ha hb e [] = refl
bank_moved k a b ha hb e (c ∷ cs) =
    ap (λ t. cond t 1 0 + in_bank b (moved k cs)) (same_test ((c + k) % 16) b (c % 16) a (λ q. omega arith) (λ q. omega arith))
    ∙ ap (λ j. cond (eqb (c % 16) a) 1 0 + j) (bank_moved k a b ha hb e cs)

-- The largest number is that of some bank, and no bank has more.
most_least : (k m : ℕ) (cs : List ℕ) → ((b : ℕ) → b < k → in_bank b cs ≤ m) → most_in_bank k cs ≤ m
unfolding most_in_bank
most_least zero m cs h = omega arith
most_least (suc b) m cs h = omega (arith, h b (omega arith), most_least b m cs (λ j l. h j (omega arith)))

most_of : (k b : ℕ) (cs : List ℕ) → b < k → in_bank b cs ≤ most_in_bank k cs
unfolding most_in_bank
most_of zero b cs h = absurd (omega arith)
most_of (suc j) b cs h = by (ℕ_discrete b j) (λ l. most_of j b cs l)
  where
    by : Dec (b ≡ j) → (b < j → in_bank b cs ≤ most_in_bank j cs) → in_bank b cs ≤ max (in_bank j cs) (most_in_bank j cs)
    by (yes e) f = let same = ap (λ (z : ℕ). in_bank z cs) e in omega arith
    by (no n) f = omega (arith, f (omega (arith, n)))

most_moved : (k : ℕ) (cs : List ℕ) → most_in_bank 16 (moved k cs) ≡ most_in_bank 16 cs
most_moved k cs =
    let less : most_in_bank 16 (moved k cs) ≤ most_in_bank 16 cs =
    most_least 16 (most_in_bank 16 cs) (moved k cs)
    (λ b h. let a = (b + 16 - k % 16) % 16 in omega (arith, bank_moved k a b (omega arith) h (omega arith) cs, most_of 16 a cs (omega arith))) in
    let more : most_in_bank 16 cs ≤ most_in_bank 16 (moved k cs) =
    most_least 16 (most_in_bank 16 (moved k cs)) cs
    (λ a h. omega (arith, bank_moved k a ((a + k) % 16) h (omega arith) refl cs, most_of 16 ((a + k) % 16) (moved k cs) (omega arith))) in
    omega arith

pub cost_moved : (k : ℕ) (cs : List ℕ) → conflict_cost (moved k cs) ≡ conflict_cost cs
unfolding conflict_cost
cost_moved k cs = ap (λ n. n - 1) (ap (most_in_bank 16) (different_moved k cs) ∙ most_moved k (different cs))

-- Two rows of numbers that are cells', thread by thread at one distance.
moved_row : (d k : ℕ) (f g : ℕ → ℕ) (E : Mask) → ((t : ℕ) → t < k + length E → f t < 1024 → g t < 1024 → f t ≡ g t + d)
    → AllCells (map f (members_from k E)) → AllCells (map g (members_from k E)) → map f (members_from k E) ≡ moved d (map g (members_from k E))
unfolding members_from
moved_row d k f g [] h a b = refl
moved_row d k f g (false ∷ E) h a b = moved_row d (suc k) f g E (λ t l. h t (omega arith)) a b
moved_row d k f g (true ∷ E) h a b =
    ap (λ c. c ∷ map f (members_from (suc k) E)) (h k (omega arith) a.0 b.0)
    ∙ ap (λ l. (g k + d) ∷ l) (moved_row d (suc k) f g E (λ t l. h t (omega arith)) a.1 b.1)

pub cost_same : (n : ℕ) (cell other : ℕ → ℕ) (E : Mask) → length E ≡ n → AtOneDistance n cell other → AllCells (map cell (members E))
    → AllCells (map other (members E)) → conflict_cost (map cell (members E)) ≡ conflict_cost (map other (members E))
unfolding members
cost_same n cell other E l D a b = by (lt_or_le (sub (cell 0) (other 0)) 1024)
  where
    by : (sub (cell 0) (other 0) < 1024) ⊎ (1024 ≤ sub (cell 0) (other 0)) → conflict_cost (map cell (members E)) ≡ conflict_cost (map other (members E))
    by (inl h) =
        ap conflict_cost (moved_row (sub (cell 0) (other 0)) 0 cell other E (λ t q u v. let s = D t (omega arith) in omega arith) a b)
        ∙ cost_moved (sub (cell 0) (other 0)) (map other (members E))
    by (inr h) =
        sym (ap conflict_cost (moved_row (4294967296 - sub (cell 0) (other 0)) 0 other cell E (λ t q u v. let s = D t (omega arith) in omega arith) b a)
        ∙ cost_moved (4294967296 - sub (cell 0) (other 0)) (map cell (members E)))

-- The numbers of the first t threads, compared one after the other.
pub record Comparing (cell other : ℕ → ℕ) (distance n same t : ℕ) : Type 0 where
  pub come : t ≤ n
  pub few : same ≤ t
  pub alike : same ≡ t → (j : ℕ) → j < t → sub (cell j) (other j) ≡ distance
