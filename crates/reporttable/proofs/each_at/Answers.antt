-- `reporttable::each_at` meets its contract. The lines are those of the numbers. Assumes nothing.
use borrow.Author.Rules.{rules}
use Rattle.spec.specs.declared.Value.TheVariants as value
use Rattle.spec.specs.Report.{each_line}
use Rattle.reportlines.specs.Lines.{told}
use Rattle.reporttable.proofs.each_at.Goals as goal

pub items_at-requires : goal.items_at-requires
unfolding each_line told
items_at-requires c κs = (search rules, (search rules, (λ n. record { key = c.args.key.now; value = value.Number n }, λ x l e. search rules, c.requires)))

pub returns-clause-next : goal.returns-clause-next
unfolding each_line told
returns-clause-next c = c.items_at.ensures.next (λ n. record { key = c.args.key.now; value = value.Number n }) (λ x l e. search rules)

pub returns-clause-written : goal.returns-clause-written
unfolding each_line told
returns-clause-written c = c.items_at.ensures.written (λ n. record { key = c.args.key.now; value = value.Number n }) (λ x l e. search rules)
