-- `access::is_common` meets its contract. Assumes nothing.
use mathlib.Core.Path.{◌∙◌}
use native.Mathlib.Omega.{arith}
use borrow.Author.Tests.{lt-leb}
use Rattle.access.proofs.Accesses.{below_common, from_common}
use Rattle.access.proofs.is_common.Goals as goal

pub returns-then-x-ge65536 : goal.returns-then-x-ge65536
returns-then-x-ge65536 c = from_common c.args.common.now c.args.x c.if-x-ge65536.true

pub returns-else-x-ge65536 : goal.returns-else-x-ge65536
returns-else-x-ge65536 c =
    lt-leb 65536 c.args.x (omega (arith, c.if-x-ge65536.false)) ∙ below_common c.args.common.now c.args.x (omega (arith, c.if-x-ge65536.false))
