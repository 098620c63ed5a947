-- Laws of the definitions that several crates cite: a table's rows and their bytes, the sizes of masks, and a few on numbers. Assumes nothing.
use mathlib.Core.Path.{◌≡◌, refl, ap, ◌∙◌}
use mathlib.Core.Logic.{◌⊎◌, inl, inr, ⊎_elim}
use mathlib.Core.List.{List, [], ◌∷◌, map}
use mathlib.Core.Bool.{Bool, true, ◌&&◌, and-eq-true_iff, false}
use Prim.Native.Nat.{ℕ, zero, suc, ◌+◌, ◌*◌, ◌/◌, ◌<◌, ◌≤◌}
use native.Mathlib.Nat.{eq-or-lt_of_le, le_of_suc-le-suc}
use native.Mathlib.Omega.{arith}
use lib.ListN.{length, get_or, replicate, take, drop}
use lib.Seq.{take_at}
use Rattle.spec.specs.Op.{Op, IF, ELSE, ENDIF, WHILE, ENDWHILE, BARRIER, op_of, op_table}
use Rattle.spec.specs.Table.{row_of, rows_of, row_at, role, opening}
use Rattle.spec.specs.Mask.{Mask, members_from, minus, union, holding}
use Rattle.spec.specs.LockStep.{Saved, top_opener}
use Rattle.spec.specs.Entries.{over}

pub lt_or_le : (a b : ℕ) → (a < b) ⊎ (b ≤ a)
lt_or_le a zero = inr (omega arith)
lt_or_le zero (suc b) = inl (omega arith)
lt_or_le (suc a) (suc b) = ⊎_elim (λ h. inl (omega arith)) (λ h. inr (omega arith)) (lt_or_le a b)

pub zeros : (n i : ℕ) → ◌≡◌ {A = ℕ} (get_or (replicate n 0) i 0) 0
zeros zero i = refl
zeros (suc n) zero = refl
zeros (suc n) (suc i) = zeros n i

-- A test that computes to true at every number below a bound holds of each of them.
abbrev pub all_below : (ℕ → Bool) → ℕ → Bool
all_below f zero = true
all_below f (suc n) = f n && all_below f n

pub below : (f : ℕ → Bool) (n : ℕ) → all_below f n ≡ true → (k : ℕ) → k < n → f k ≡ true
below f zero e k l = absurd (omega arith)
below f (suc n) e k l =
    let h = (and-eq-true_iff (f n) (all_below f n)).0 e in
    ⊎_elim (λ m. ap f m ∙ h.0) (λ m. below f n h.1 k m) (eq-or-lt_of_le (le_of_suc-le-suc l))

-- A table's rows, by its bytes.
pub rows_length : (t : List ℕ) → length (rows_of t) ≡ length t / 4
unfolding rows_of
rows_length [] = refl
rows_length (op ∷ []) = refl
rows_length (op ∷ d ∷ []) = refl
rows_length (op ∷ d ∷ a ∷ []) = refl
rows_length (op ∷ d ∷ a ∷ b ∷ t) = omega (arith, rows_length t)

pub row_bytes_lem : (t : List ℕ) (r : ℕ) → r < length (rows_of t)
    → row_at (rows_of t) r ≡ row_of (get_or t (r * 4) 0) (get_or t (r * 4 + 1) 0) (get_or t (r * 4 + 2) 0) (get_or t (r * 4 + 3) 0)
unfolding rows_of row_at
row_bytes_lem [] r l = absurd (omega arith)
row_bytes_lem (op ∷ []) r l = absurd (omega arith)
row_bytes_lem (op ∷ d ∷ []) r l = absurd (omega arith)
row_bytes_lem (op ∷ d ∷ a ∷ []) r l = absurd (omega arith)
row_bytes_lem (op ∷ d ∷ a ∷ b ∷ t) zero l = refl
row_bytes_lem (op ∷ d ∷ a ∷ b ∷ t) (suc r) l =
    let e : (n : ℕ) → suc r * 4 + n ≡ suc (suc (suc (suc (r * 4 + n)))) = λ n. omega arith in
    let z : suc r * 4 ≡ suc (suc (suc (suc (r * 4)))) = omega arith in
    rw (e 1, e 2, e 3, z) (row_bytes_lem t r (omega arith))

-- What was written over a buffer is its front.
pub front_of_lem : (w xs l : List ℕ) → l ≡ over w xs → take (length w) l ≡ w
unfolding over
front_of_lem w xs l e = ap (take (length w)) e ∙ take_at w (drop (length w) xs) (length w) refl

-- The op bytes of the constructs.
pub byte_if : op_of 32 ≡ IF
unfolding op_of op_table
byte_if = refl

pub byte_else : op_of 33 ≡ ELSE
unfolding op_of op_table
byte_else = refl

pub byte_endif : op_of 34 ≡ ENDIF
unfolding op_of op_table
byte_endif = refl

pub byte_while : op_of 35 ≡ WHILE
unfolding op_of op_table
byte_while = refl

pub byte_endwhile : op_of 36 ≡ ENDWHILE
unfolding op_of op_table
byte_endwhile = refl

pub byte_barrier : op_of 37 ≡ BARRIER
unfolding op_of op_table
byte_barrier = refl

pub role_while : (o : Op) → o ≡ WHILE → role o ≡ opening
unfolding role
role_while o e = ap role e

-- The sizes of masks.
pub minus_size : (m k : Mask) → length (minus m k) ≡ length m
unfolding minus
minus_size [] k = refl
minus_size (b ∷ m) [] = refl
minus_size (b ∷ m) (c ∷ k) = ap suc (minus_size m k)

pub union_size : (m k : Mask) → length m ≡ length k → length (union m k) ≡ length m
unfolding union
union_size [] [] e = refl
union_size [] (c ∷ k) e = absurd (omega arith)
union_size (b ∷ m) [] e = refl
union_size (b ∷ m) (c ∷ k) e = ap suc (union_size m k (omega arith))

pub holding_size : (a : ℕ) (m : Mask) (regs : List (List ℕ)) → length (holding a m regs) ≡ length m
unfolding holding
holding_size a [] regs = refl
holding_size a (b ∷ m) [] = ap suc (holding_size a m [])
holding_size a (b ∷ m) (r ∷ regs) = ap suc (holding_size a m regs)

-- Functions that agree on the threads of a mask, whose first is thread k.
pub map_members : (f g : ℕ → ℕ) (k : ℕ) (E : Mask) → ((t : ℕ) → k ≤ t → t < k + length E → f t ≡ g t) → map f (members_from k E) ≡ map g (members_from k E)
unfolding members_from
map_members f g k [] h = refl
map_members f g k (false ∷ E) h = map_members f g (suc k) E (λ t l m. h t (omega arith) (omega arith))
map_members f g k (true ∷ E) h =
    ap (λ c. c ∷ map f (members_from (suc k) E)) (h k (omega arith) (omega arith))
    ∙ ap (λ l. g k ∷ l) (map_members f g (suc k) E (λ t l m. h t (omega arith) (omega arith)))

pub top_cons : (f : Saved) (v : List Saved) → top_opener (f ∷ v) ≡ f.opener
unfolding top_opener
top_cons f v = refl
