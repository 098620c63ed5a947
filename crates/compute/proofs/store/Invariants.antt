-- The lanes passed hold what the closure gives. Assumes nothing.
use Rattle.layout.specs.Memory.{lane}
use Rattle.compute.specs.RowLanes.{Stores}
use Rattle.compute.proofs.store.Given as goal

abbrev pub invariant-loop-t : goal.invariant-loop-t
invariant-loop-t g l = Stores l.d (λ t x. goal.F-post g l.of t (lane l.d l.initial.regs t) x) l.initial.regs l.regs l.t
