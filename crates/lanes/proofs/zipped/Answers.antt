-- The lanes hold what the closure gives. Assumes nothing.
use Rattle.std.proofs.Common.{rules}
use Rattle.lanes.proofs.zipped.Goals as goal

pub returns : goal.returns
returns g c = (c.filled.ensures.0, λ j h. let k = c.filled.ensures.1 j h in search rules)
