use Rattle.std.proofs.Common.{rules}
use Rattle.compute.proofs.threads.Goals as goal

pub returns : goal.returns
returns c = (c.filled.ensures.0, λ j h. let k = c.filled.ensures.1 j h in search rules)
