-- `compute::put_all` stores every lane. Assumes nothing.
use Rattle.std.proofs.Common.{rules, get_or}
use native.Mathlib.Omega.{arith}
use Rattle.compute.proofs.Putting.{stores_puts}
use Rattle.compute.proofs.put_all.Goals as goal

pub returns : goal.returns
returns c = stores_puts c.store.ensures (λ t. get_or c.args.v t 0) (omega arith) (λ j x h k. search rules)
