-- `reporttable::lines_length` meets its contract. The items are the lines. Assumes nothing.
use borrow.Author.Rules.{rules}
use Rattle.reportlines.specs.Lines.{told}
use Rattle.reporttable.proofs.lines_length.Goals as goal

pub returns : goal.returns
returns c = (c.items_length.ensures.long told (λ x l e. search rules), c.items_length.ensures.bound 20 (λ i x h l e. search rules))
