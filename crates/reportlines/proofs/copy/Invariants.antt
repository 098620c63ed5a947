-- `reportlines::copy` meets its contract: each turn copies a byte. Assumes nothing.
use mathlib.Core.Path.{◌≡◌}
use lib.Seq.{paste}
use Rattle.reportlines.proofs.copy.Given as goal

abbrev pub invariant-loop-k : goal.invariant-loop-k
invariant-loop-k l = l.part ≡ paste l.initial.part 0 l.bytes l.k
