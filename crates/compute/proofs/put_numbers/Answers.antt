-- `compute::put_numbers` stores the launch numbers of the mask's lanes. Assumes nothing.
use Rattle.std.proofs.Common.{rules}
use native.Mathlib.Omega.{arith}
use Rattle.compute.specs.RowLanes.{numbered}
use Rattle.compute.proofs.Putting.{stores_puts}
use Rattle.compute.proofs.put_numbers.Goals as goal

pub returns : goal.returns
returns c = stores_puts c.store.ensures (numbered c.args.group c.args.n c.args.on c.args.d c.args.regs.now) (omega arith) (λ j x h k. search rules)
