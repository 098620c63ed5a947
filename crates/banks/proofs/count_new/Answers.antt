-- `banks::count_new` meets its contract where no number is an own cell's. Assumes nothing.
use Rattle.banks.proofs.Memory.{older_still}
use Rattle.banks.proofs.Near.{counted_far}
use Rattle.banks.proofs.count_new.Goals as goal

pub returns-then-all_far : goal.returns-then-all_far
returns-then-all_far c = counted_far _ _ _ _ _ (c.all_far.ensures c.if-all_far.true) (older_still _ _ c.requires.2)
