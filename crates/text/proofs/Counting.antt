-- That digits read from the front, up to a bound, are the definition's number. Assumes nothing.
use mathlib.Core.Path.{◌≡◌, refl}
use mathlib.Core.List.{List, [], ◌∷◌}
use mathlib.Core.Bool.{Bool, true, false, cond, not, ◌&&◌, and-false, and-true, or-true}
use mathlib.Core.Logic.{inl, inr}
use mathlib.Core.Option.{none, some}
use Prim.Native.Nat.{ℕ, ◌+◌, ◌-◌, ◌*◌, ◌<◌, ◌≤◌}
use native.Mathlib.Numerals.{add-one}
use native.Mathlib.Omega.{arith}
use borrow.Author.Tests.{eq-eqb, ne_eqb, lt-ltb, le-ltb, le-leb, lt-leb, ltb-true}
use lib.Dec.{eqb, ltb}
use lib.ListN.{length, get_or, drop, drop_of_length-le}
use lib.Seq.{drop-cons}
use Rattle.std.specs.Char.{IsNotAsciiDigit}
use Rattle.spec.specs.Lists.{every}
use Rattle.spec.specs.Text.{is_digit, is_number, digits_value, number_below}
use Rattle.text.specs.Numbers.{digits_below}

none_some : {v : ℕ} → none ≡ some v → ⊥
none_some e = let z : ◌≡◌ {A = ℕ} 0 1 = cc in omega arith

-- The value does not fall as digits are read.
grows : (v : ℕ) (l : List ℕ) → v ≤ digits_value v l
unfolding digits_value
grows v [] = omega arith
grows v (b ∷ bs) = omega (arith, grows (10 * v + (b - 48)) bs)

pub too_large : (bound v : ℕ) (l : List ℕ) → bound ≤ v → digits_below bound v l ≡ none
unfolding digits_below
too_large bound v l h = rw (le-ltb (digits_value v l) bound (omega (arith, grows v l)), and-false (every is_digit l))

pub digit : (bound v : ℕ) (s : List ℕ) (i x : ℕ) → i < length s → x ≡ get_or s i 0 → 48 ≤ x → x ≤ 57
    → digits_below bound v (drop i s) ≡ digits_below bound (10 * v + (x - 48)) (drop (i + 1) s)
unfolding digits_below every is_digit digits_value
digit bound v s i x h e l u =
    rw (add-one i, drop-cons s i 0 h, ← e, le-leb 48 x l, lt-ltb x 58 (omega arith))

pub below_digits : (bound v : ℕ) (s : List ℕ) (i x : ℕ) → i < length s → x ≡ get_or s i 0 → x < 48 → digits_below bound v (drop i s) ≡ none
unfolding digits_below every is_digit digits_value
below_digits bound v s i x h e l = rw (drop-cons s i 0 h, ← e, lt-leb 48 x l)

pub above_digits : (bound v : ℕ) (s : List ℕ) (i x : ℕ) → i < length s → x ≡ get_or s i 0 → 57 < x → digits_below bound v (drop i s) ≡ none
unfolding digits_below every is_digit digits_value
above_digits bound v s i x h e l = rw (drop-cons s i 0 h, ← e, le-leb 48 x (omega arith), le-ltb x 58 (omega arith))

pub no_digit_there : (bound v : ℕ) (s : List ℕ) (i : ℕ) → i < length s → IsNotAsciiDigit (get_or s i 0) → digits_below bound v (drop i s) ≡ none
no_digit_there bound v s i h (inl l) = below_digits bound v s i (get_or s i 0) h refl l
no_digit_there bound v s i h (inr l) = above_digits bound v s i (get_or s i 0) h refl l

pub no_more : (bound v : ℕ) (s : List ℕ) (i : ℕ) → length s ≤ i → v < bound → digits_below bound v (drop i s) ≡ some v
unfolding digits_below every digits_value
no_more bound v s i h l = rw (drop_of_length-le s {i = i} h, lt-ltb v bound l)

-- The first digit.
pub no_digit : (bound : ℕ) (s : List ℕ) → length s ≡ 0 → number_below bound s ≡ none
unfolding number_below is_number
no_digit bound [] e = refl
no_digit bound (x ∷ xs) e = absurd (omega arith)

pub one_digit : (bound : ℕ) (s : List ℕ) → length s ≡ 1 → number_below bound s ≡ digits_below bound 0 s
unfolding number_below is_number digits_below
one_digit bound [] e = absurd (omega arith)
one_digit bound (x ∷ xs) e = rw (eq-eqb (length xs) 0 (omega arith), or-true (not (eqb x 48)), and-true (every is_digit (x ∷ xs)))

pub zero_first : (bound : ℕ) (s : List ℕ) → (length s ≡ 0 → ⊥) → (length s ≡ 1 → ⊥) → get_or s 0 0 ≡ 48 → number_below bound s ≡ none
unfolding number_below is_number
zero_first bound [] n m e = absurd (n refl)
zero_first bound (x ∷ xs) n m e =
    rw (eq-eqb x 48 e, ne_eqb (length xs) 0 (λ z. m (omega arith)), and-false (every is_digit (x ∷ xs)))

pub other_first : (bound : ℕ) (s : List ℕ) → (length s ≡ 0 → ⊥) → (get_or s 0 0 ≡ 48 → ⊥) → number_below bound s ≡ digits_below bound 0 s
unfolding number_below is_number digits_below
other_first bound [] n m = absurd (n refl)
other_first bound (x ∷ xs) n m = rw (ne_eqb x 48 m, and-true (every is_digit (x ∷ xs)))

pub leading_zero : (bound x : ℕ) (xs : List ℕ) → x ≡ 48 → (length xs ≡ 0 → ⊥) → number_below bound (x ∷ xs) ≡ none
leading_zero bound x xs e n = zero_first bound (x ∷ xs) (λ z. omega arith) (λ z. n (omega arith)) e

pub lone_zero : (bound x : ℕ) (xs : List ℕ) → length xs ≡ 0 → number_below bound (x ∷ xs) ≡ digits_below bound 0 (x ∷ xs)
lone_zero bound x xs e = one_digit bound (x ∷ xs) (omega arith)

pub no_zero : (bound x : ℕ) (xs : List ℕ) → (x ≡ 48 → ⊥) → number_below bound (x ∷ xs) ≡ digits_below bound 0 (x ∷ xs)
no_zero bound x xs n = other_first bound (x ∷ xs) (λ z. omega arith) n

-- A number that was read is below its bound.
some_below : (bound v n : ℕ) (t : Bool) → cond (t && ltb n bound) (some n) none ≡ some v → v < bound
some_below bound v n false e = absurd (none_some e)
some_below bound v n true e = under (ltb n bound) refl e
  where
    under : (t : Bool) → ltb n bound ≡ t → cond t (some n) none ≡ some v → v < bound
    under true q p = let w : n ≡ v = cc in omega (arith, ltb-true n bound q)
    under false q p = absurd (none_some p)

pub value_below : (bound v : ℕ) (s : List ℕ) → number_below bound s ≡ some v → v < bound
unfolding number_below
value_below bound v s e = some_below bound v (digits_value 0 s) (is_number s) e
