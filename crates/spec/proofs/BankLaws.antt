-- What bank conflicts can cost at most. Document 02, item 5. Assumes nothing.
use mathlib.Core.List.{List, [], ◌∷◌}
use mathlib.Core.Bool.{Bool, true, false, cond}
use Prim.Native.Nat.{ℕ, zero, suc, ◌+◌, ◌-◌, ◌%◌, ◌≤◌}
use native.Mathlib.Omega.{arith}
use lib.Dec.{eqb}
use lib.ListN.{length}
use Rattle.spec.specs.Limits.{banks}
use Rattle.spec.specs.Lists.{any_of}
use Rattle.spec.specs.Banks.{different, in_bank, most_in_bank, conflict_cost}

different_size : (cs : List ℕ) → length (different cs) ≤ length cs
unfolding different
different_size [] = omega arith
different_size (c ∷ cs) = by (any_of (eqb c) cs) (different_size cs)
  where
    by : (b : Bool) → length (different cs) ≤ length cs → length (cond b (different cs) (c ∷ different cs)) ≤ suc (length cs)
    by true h = omega arith
    by false h = omega arith

bank_size : (b : ℕ) (cs : List ℕ) → in_bank b cs ≤ length cs
unfolding in_bank
bank_size b [] = omega arith
bank_size b (c ∷ cs) = by (eqb (c % banks) b) (bank_size b cs)
  where
    by : (e : Bool) → in_bank b cs ≤ length cs → cond e 1 0 + in_bank b cs ≤ suc (length cs)
    by true h = omega arith
    by false h = omega arith

most_size : (k : ℕ) (cs : List ℕ) → most_in_bank k cs ≤ length cs
unfolding most_in_bank
most_size zero cs = omega arith
most_size (suc b) cs = omega (arith, bank_size b cs, most_size b cs)

-- A row that n threads use cells at costs at most n - 1, so one of 32 threads at most 31.
pub cost_bound : (used : List ℕ) → conflict_cost used ≤ length used - 1
unfolding conflict_cost
cost_bound used = omega (arith, most_size banks (different used), different_size used)
