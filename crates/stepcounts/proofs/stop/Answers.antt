-- `stepcounts::stop` meets its contract: the threads below the one that stopped the row have room. Assumes nothing.
use Rattle.stepcounts.proofs.Adding.{roomy_below}
use Rattle.stepcounts.proofs.stop.Goals as goal

pub add-requires : goal.add-requires
add-requires c = roomy_below c.args.mask 1 _ _ _ c.below.ensures c.requires.1
