-- `reporttable::items_length` meets its contract. Each turn adds one line. Assumes nothing.
use Rattle.reporttable.proofs.Lists.{Measured}
use Rattle.reporttable.proofs.items_length.Given as goal

abbrev pub invariant-loop-item : goal.invariant-loop-item
invariant-loop-item g l = Measured (goal.F-post g l.line) l.items l.item-index l.total
