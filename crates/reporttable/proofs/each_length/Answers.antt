-- `reporttable::each_length` meets its contract. The lines are those of the numbers. Assumes nothing.
use borrow.Author.Rules.{rules}
use Rattle.spec.specs.declared.Value.TheVariants as value
use Rattle.spec.specs.Report.{each_line}
use Rattle.reportlines.specs.Lines.{told}
use Rattle.reporttable.proofs.each_length.Goals as goal

pub returns : goal.returns
unfolding each_line told
returns c =
    let measured = c.items_length.ensures in
    (measured.long (λ n. record { key = c.args.key.now; value = value.Number n }) (λ x l e. search rules), measured.bound _ (λ i x h l e. search rules))
