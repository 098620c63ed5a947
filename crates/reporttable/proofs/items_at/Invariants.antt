-- `reporttable::items_at` meets its contract. Each turn writes one line behind those before it. Assumes nothing.
use Rattle.reporttable.proofs.Lists.{Placed}
use Rattle.reporttable.proofs.items_at.Given as goal

abbrev pub invariant-loop-item : goal.invariant-loop-item
invariant-loop-item g l = Placed (goal.F-post g l.line) l.items l.at l.item-index l.initial.out l.out l.end
