-- `intervals::costs` meets its contract. Assumes nothing.
use Prim.Native.Nat.{◌+◌}
use native.Mathlib.Omega.{arith}
use Rattle.intervals.proofs.AddingUp.{costs_grow, costs_next}
use Rattle.intervals.proofs.costs.Goals as goal

-- The sum with the next cost is no more than all of them.
pub overflow_add-sum-in-loop-k : goal.overflow_add-sum-in-loop-k
overflow_add-sum-in-loop-k c =
    let turn = c.loop-k in
    let records = c.args.records.now in
    let most = costs_grow c.args.count (turn.k + 1) records (omega (arith, c.loop-k-test.true)) in
    omega (arith, turn.invariant, costs_next turn.k records, most, c.requires.2)
