-- `intervals::costs` meets its contract. Assumes nothing.
use mathlib.Core.Path.{◌≡◌}
use Rattle.intervals.specs.Records.{costs_up_to}
use Rattle.intervals.proofs.costs.Given as goal

abbrev pub invariant-loop-k : goal.invariant-loop-k
invariant-loop-k l = l.sum ≡ costs_up_to l.k l.records
