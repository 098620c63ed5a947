-- The costs of the records, added up one after the other. Assumes nothing.
use mathlib.Core.Path.{◌≡◌, ap}
use mathlib.Core.List.{List}
use Prim.Native.Nat.{ℕ, zero, suc, ◌+◌, ◌*◌, ◌≤◌}
use native.Mathlib.Numerals.{add-one}
use native.Mathlib.Omega.{arith}
use native.Mathlib.Decide.{ℕ_discrete}
use lib.ListN.{get_or}
use Rattle.intervals.specs.Records.{costs_up_to}

-- The first of them cost no more than all.
pub costs_grow : (count k : ℕ) (records : List ℕ) → k ≤ count → costs_up_to k records ≤ costs_up_to count records
unfolding costs_up_to
costs_grow zero zero records h = omega arith
costs_grow zero (suc k) records h = absurd (omega arith)
costs_grow (suc count) k records h = by (ℕ_discrete k (suc count)) (λ l. costs_grow count k records l)
  where
    by : Dec (k ≡ suc count) → (k ≤ count → costs_up_to k records ≤ costs_up_to count records) → costs_up_to k records ≤ costs_up_to count records + get_or records (count * 3 + 2) 0
    by (yes e) f = rw e (let z : costs_up_to count records + get_or records (count * 3 + 2) 0 ≤ costs_up_to count records + get_or records (count * 3 + 2) 0 = omega arith in z)
    by (no n) f = omega (arith, f (omega (arith, n)))

pub costs_next : (k : ℕ) (records : List ℕ) → costs_up_to (k + 1) records ≡ costs_up_to k records + get_or records (k * 3 + 2) 0
unfolding costs_up_to
costs_next k records = ap (λ (j : ℕ). costs_up_to j records) (add-one k)
