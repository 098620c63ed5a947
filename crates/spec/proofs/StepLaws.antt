-- The count of steps that each thread has. Assumes nothing.
use mathlib.Core.Path.{◌≡◌, refl, sym, ◌∙◌, ap}
use mathlib.Core.List.{List, [], ◌∷◌}
use mathlib.Core.Bool.{cond}
use Prim.Native.Nat.{ℕ, zero, suc, ◌+◌, ◌<◌}
use native.Mathlib.Omega.{arith}
use native.Mathlib.Decide.{ℕ_discrete}
use borrow.Author.Tests.{eq-eqb, ne_eqb}
use lib.Dec.{eqb}
use lib.ListN.{length, get_or, set, length-set}
use lib.Seq.{get_or-set_same, get_or-set_other}
use Rattle.spec.specs.Steps.{stepped, all_stepped, sum}

pub stepped_size : (steps : List ℕ) (t : ℕ) → length (stepped steps t) ≡ length steps
unfolding stepped
stepped_size steps t = length-set steps t _

pub all_stepped_size : (steps threads : List ℕ) → length (all_stepped steps threads) ≡ length steps
unfolding all_stepped
all_stepped_size steps [] = refl
all_stepped_size steps (t ∷ ts) = all_stepped_size (stepped steps t) ts ∙ stepped_size steps t

-- A step of thread t is counted for t alone.
pub stepped_at : (steps : List ℕ) (t u : ℕ) → u < length steps → get_or (stepped steps t) u 0 ≡ cond (eqb t u) 1 0 + get_or steps u 0
unfolding stepped
stepped_at steps t u l = by (ℕ_discrete t u)
  where
    new : ℕ
    new = suc (get_or steps t 0)

    by : Dec (t ≡ u) → get_or (set steps t new) u 0 ≡ cond (eqb t u) 1 0 + get_or steps u 0
    by (yes e) =
        ap (λ (i : ℕ). get_or (set steps i (suc (get_or steps i 0))) u 0) e ∙ get_or-set_same steps u _ 0 l
        ∙ rw (eq-eqb t u e) (let z : suc (get_or steps u 0) ≡ 1 + get_or steps u 0 = omega arith in z)
    by (no n) = get_or-set_other steps t u new 0 (λ e. n (sym e)) ∙ rw (ne_eqb t u n) (let z : get_or steps u 0 ≡ 0 + get_or steps u 0 = omega arith in z)

-- It is one step of all.
pub sum_stepped : (steps : List ℕ) (t : ℕ) → t < length steps → sum (stepped steps t) ≡ 1 + sum steps
unfolding stepped sum
sum_stepped [] t l = absurd (omega arith)
sum_stepped (k ∷ steps) zero l = omega arith
sum_stepped (k ∷ steps) (suc t) l = omega (arith, sum_stepped steps t (omega arith))
