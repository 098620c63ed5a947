-- The lanes passed hold what the closure gives. Assumes nothing.
use Rattle.lanes.specs.Lanes.{EachLane}
use Rattle.lanes.proofs.filled.Given as goal

abbrev pub invariant-loop-t : goal.invariant-loop-t
invariant-loop-t g l = EachLane (λ t x. goal.F-post g l.of t x) l.lanes l.t
