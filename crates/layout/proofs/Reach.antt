-- How far up the cells the log has been written since it was cleared. Assumes nothing.
use mathlib.Core.Path.{◌≡◌, refl, sym, ◌∙◌, ap, subst}
use mathlib.Core.List.{List}
use mathlib.Core.Bool.{Bool, true, false, cond}
use Prim.Native.Nat.{ℕ, zero, suc, ◌+◌, ◌*◌, ◌%◌, ◌<◌, ◌≤◌}
use native.Mathlib.Omega.{arith}
use lib.Bits.{bit_or, or_comm, or_add_and, and_le_r, or_mod}
use lib.Dec.{eqb}
use lib.ListN.{length, get_or, set, replicate}
use lib.Seq.{get_or-set_other}
use Rattle.spec.specs.Limits.{common_from}
use Rattle.spec.specs.Access.{writes}
use Rattle.spec.proofs.ClearingLaws.{place_cell, cells_rest}
use Rattle.spec.specs.Log.{cells_cleared}
use Rattle.spec.specs.LockStep.{LockState}
use Rattle.layout.specs.declared.State.{State}
use Rattle.layout.specs.Logging.{mode_of, rank, value_rank, mark_rank, place_of, word_of, mark_entered, value_entered, mask_entered, entered_words, EmptyAbove, SameAbove, SameBut}
use Rattle.layout.specs.Represents.{Represents, reached}
use Rattle.layout.proofs.PlainRows.{stands_alike}

-- Numbers put together bit by bit are not above what comes out.
pub or_left : (a b : ℕ) → a ≤ bit_or a b
or_left a b = omega (arith, or_add_and a b, and_le_r a b)

pub or_right : (a b : ℕ) → b ≤ bit_or a b
or_right a b = subst (λ (x : ℕ). b ≤ x) (or_comm b a) (or_left b a)

-- An access sets words of its own cell alone.
set_but : (q k i w : ℕ) (log log' : List ℕ) → i < k → SameBut i k log log' → SameBut i k log (set log' (place_of q k i) w)
unfolding place_of
set_but q k i w log log' h S j f = get_or-set_other log' (q * k + i) j w 0 (λ z. f (ap (λ (x : ℕ). x % k) z ∙ place_cell q k i h)) ∙ S j f

value_but : (v k i : ℕ) (log : List ℕ) → i < k → SameBut i k log (value_entered v k i log)
unfolding value_entered mark_entered
value_but v k i log h = by (eqb (word_of (rank writes) k i log) 0) (eqb v (word_of value_rank k i log))
  where
    by : (a b : Bool) → SameBut i k log (cond a (set log (place_of value_rank k i) v) (cond b log (set log (place_of mark_rank k i) 1)))
    by true b = set_but value_rank k i v log log h (λ j f. refl)
    by false true = λ j f. refl
    by false false = set_but mark_rank k i 1 log log h (λ j f. refl)

pub entered_but : (op v k i bit : ℕ) (log log' : List ℕ) → i < k → log' ≡ entered_words op v k i bit log → SameBut i k log log'
unfolding entered_words mask_entered
entered_but op v k i bit log log' h e =
    subst (SameBut i k log) (sym e) (set_but (rank (mode_of op)) k i _ log (cond (eqb op 17) (value_entered v k i log) log) h (by (eqb op 17)))
  where
    by : (b : Bool) → SameBut i k log (cond b (value_entered v k i log) log)
    by true = value_but v k i log h
    by false = λ j f. refl

-- One access after the others, up to the number that theirs and its own are put together to.
pub same_more : (g i k k' : ℕ) (log₀ log log' : List ℕ) → SameAbove g k log₀ log → k' ≡ k → SameBut i k' log log' → SameAbove (bit_or g i) k log₀ log'
same_more g i k k' log₀ log log' A e B j h =
    B j (λ z. let y : j % k ≡ i = ap (λ (x : ℕ). j % x) (sym e) ∙ z in omega (arith, or_right g i)) ∙ A j (omega (arith, or_left g i))

-- The same of numbers below the first common cell's: a common one is as good as the number that it stands at in its table.
pub same_below : (g i k k' : ℕ) (log₀ log log' : List ℕ) → SameAbove (g % common_from) k log₀ log → k' ≡ k → SameBut (i % common_from) k' log log'
    → SameAbove (bit_or g i % common_from) k log₀ log'
same_below g i k k' log₀ log log' A e B =
    subst (λ h. SameAbove h k log₀ log') (sym (or_mod g i 16)) (same_more (g % common_from) (i % common_from) k k' log₀ log log' A e B)

module _ (k : ℕ) (log : List ℕ) where
  pub empty_more : (g h : ℕ) (log' : List ℕ) → EmptyAbove g k log → SameAbove h k log log' → EmptyAbove (bit_or g h) k log'
  empty_more g h log' E S j l = S j (omega (arith, or_right g h)) ∙ E j (omega (arith, or_left g h))

  -- The turns that the reach asks for clear the log whole.
  pub empty_cleared : (h : ℕ) → EmptyAbove h k log → cells_cleared k (h + 1) log ≡ replicate (length log) 0
  empty_cleared h E = cells_rest k log (h + 1) (λ j l g. E j (omega arith))

-- Zeros are empty above any cell.
pub zeros_empty : (h k n : ℕ) (log : List ℕ) → log ≡ replicate n 0 → EmptyAbove h k log
zeros_empty h k n log e j l = ap (λ x. get_or x j 0) e ∙ zeros n j
  where
    zeros : (n j : ℕ) → ◌≡◌ {A = ℕ} (get_or (replicate n 0) j 0) 0
    zeros zero j = refl
    zeros (suc n) zero = refl
    zeros (suc n) (suc j) = zeros n j

-- A state that says less of the log stands for the same.
pub reach_more : (n : ℕ) (z : LockState) (s : State) (h : ℕ) (regs cells log saved openers : List ℕ) → Represents n z s regs cells log saved openers
    → Represents n z (reached s h) regs cells log saved openers
reach_more n z s h regs cells log saved openers R =
    stands_alike n z s regs cells log saved openers R (bit_or s.reach h) s.since (λ j l. R.reach_is j (omega (arith, or_left s.reach h)))
