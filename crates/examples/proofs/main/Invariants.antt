-- The measure is the number of arguments that are left.
use Rattle.std.proofs.Common.{◌-◌}
use Rattle.examples.proofs.main.Given as goal

abbrev pub decreases-loop-k : goal.decreases-loop-k
decreases-loop-k l = l.count - l.k
