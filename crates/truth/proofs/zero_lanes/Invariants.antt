-- `truth::zero_lanes` meets its contract. The invariant: the lanes passed are told apart. Assumes nothing.
use Rattle.layout.specs.Memory.{ZerosAre}
use Rattle.truth.proofs.zero_lanes.Given as goal

abbrev pub invariant-loop-t : goal.invariant-loop-t
invariant-loop-t l = ZerosAre l.a l.regs l.t l.z
