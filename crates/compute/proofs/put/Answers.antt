-- `compute::put` stores the lanes of the mask. Assumes nothing.
use Rattle.std.proofs.Common.{rules}
use native.Mathlib.Omega.{arith}
use Rattle.compute.specs.RowLanes.{picked}
use Rattle.compute.proofs.Putting.{stores_puts}
use Rattle.compute.proofs.put.Goals as goal

pub returns : goal.returns
returns c = stores_puts c.store.ensures (picked c.args.v c.args.on c.args.d c.args.regs.now) (omega arith) (λ j x h k. search rules)
