-- `stepcounts::settle` meets its contract where the mask is the same. Assumes nothing.
use Rattle.stepcounts.proofs.Adding.{settled_same}
use Rattle.stepcounts.proofs.settle.Goals as goal

pub returns-then-s-mask : goal.returns-then-s-mask
returns-then-s-mask c = settled_same c.args.op c.args.mask c.args.s c.args.counts.now c.if-s-mask.true c.requires.0 c.told-counts
