-- A number of a file has no leading zero, so that it has few digits. Assumes nothing.
use mathlib.Core.Path.{◌≡◌, refl, sym, ◌∙◌}
use mathlib.Core.Logic.{◌⊎◌, inl, inr}
use mathlib.Core.List.{List, [], ◌∷◌}
use mathlib.Core.Bool.{Bool, true, false, cond, ◌&&◌}
use mathlib.Core.Option.{none, some}
use Prim.Native.Nat.{ℕ, zero, suc, ◌+◌, ◌-◌, ◌*◌, ◌<◌, ◌≤◌}
use native.Mathlib.Omega.{arith}
use lib.Dec.{ltb}
use lib.ListN.{length}
use Rattle.spec.specs.Text.{is_number, digits_value, number_below}
use Rattle.spec.specs.LaunchFile.{number}
use Rattle.spec.proofs.Laws.{lt_or_le}
use Rattle.text.proofs.Counting.{below_digits, zero_first, other_first, value_below}

pub none_some : {A B : Type 0} {v : A} → none ≡ some v → B
none_some e = let z : ◌≡◌ {A = ℕ} 0 1 = cc in absurd (omega arith)

-- m with k zeros behind it.
unfoldable pub zeros_behind : (k m : ℕ) → ℕ
zeros_behind zero m = m
zeros_behind (suc k) m = zeros_behind k (10 * m)

grows : (k m s : ℕ) (ds : List ℕ) → k ≤ length ds → m ≤ s → zeros_behind k m ≤ digits_value s ds
unfolding zeros_behind digits_value
grows zero m s [] h l = l
grows zero m s (d ∷ ds) h l = grows zero m (10 * s + (d - 48)) ds (omega arith) (omega arith)
grows (suc k) m s [] h l = absurd (omega arith)
grows (suc k) m s (d ∷ ds) h l = grows k (10 * m) (10 * s + (d - 48)) ds (omega arith) (omega arith)

module _ (bound v : ℕ) where
  value_is : (ds : List ℕ) → number_below bound ds ≡ some v → digits_value 0 ds ≡ v
  unfolding number_below
  value_is ds e = by (is_number ds && ltb (digits_value 0 ds) bound) e
    where
      by : (t : Bool) → cond t (some (digits_value 0 ds)) none ≡ some v → digits_value 0 ds ≡ v
      by true q = cc
      by false q = none_some q

  first_digit : (d e : ℕ) (ds : List ℕ) → number_below bound (d ∷ e ∷ ds) ≡ some v → 49 ≤ d
  first_digit d e ds q = by (lt_or_le d 48) (lt_or_le d 49)
    where
      by : (d < 48) ⊎ (48 ≤ d) → (d < 49) ⊎ (49 ≤ d) → 49 ≤ d
      by a (inr h) = h
      by (inl h) (inl l) =
          none_some
          (sym (other_first bound (d ∷ e ∷ ds) (λ z. omega arith) (λ z. omega arith) ∙ below_digits bound 0 (d ∷ e ∷ ds) 0 d (omega arith) refl h) ∙ q)
      by (inr h) (inl l) = none_some (sym (zero_first bound (d ∷ e ∷ ds) (λ z. omega arith) (λ z. omega arith) (omega arith)) ∙ q)

  many_digits : (k d e : ℕ) (ds : List ℕ) → number_below bound (d ∷ e ∷ ds) ≡ some v → k ≤ suc (length ds) → zeros_behind k 1 ≤ v
  unfolding digits_value
  many_digits k d e ds q h =
      omega (arith, grows k 1 (10 * 0 + (d - 48)) (e ∷ ds) h (omega (arith, first_digit d e ds q)), value_is (d ∷ e ∷ ds) q)

  -- A number below 1 with k zeros behind it has at most k digits.
  pub few_digits : (k : ℕ) → 1 ≤ k → (ds : List ℕ) → number_below bound ds ≡ some v → v < zeros_behind k 1 → length ds ≤ k
  few_digits k h [] e l = omega arith
  few_digits k h (d ∷ []) e l = omega arith
  few_digits k h (d ∷ x ∷ ds) e l = by (lt_or_le (suc (length ds)) k)
    where
      by : (suc (length ds) < k) ⊎ (k ≤ suc (length ds)) → suc (suc (length ds)) ≤ k
      by (inl q) = omega arith
      by (inr q) = absurd (omega (arith, many_digits k d x ds e q))

-- A word has at most ten digits, and a number below 1,000 at most three.
pub word_digits : (v : ℕ) (ds : List ℕ) → number ds ≡ some v → length ds ≤ 10
unfolding number zeros_behind
word_digits v ds e = few_digits 4294967296 v 10 (omega arith) ds e (omega (arith, value_below 4294967296 v ds e))

pub three_digits : (v : ℕ) (ds : List ℕ) → number ds ≡ some v → v < 1000 → length ds ≤ 3
unfolding number zeros_behind
three_digits v ds e h = few_digits 4294967296 v 3 (omega arith) ds e h
