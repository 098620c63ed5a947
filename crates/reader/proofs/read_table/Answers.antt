-- `reader::read_table` meets its contract: the table's body is read to the table's end, or something is refused. Assumes nothing.
use mathlib.Core.Path.{sym}
use Rattle.std.proofs.lemmas.Result.{err_from_is_err_and}
use Rattle.reader.proofs.Whole.{refused_whole, stray, accepted, ends_are}
use Rattle.reader.proofs.read_table.Goals as goal

pub returns-in_err-row-clause-answer : goal.returns-in_err-row-clause-answer
returns-in_err-row-clause-answer c =
    let p = err_from_is_err_and c.from_residual.result c.from_residual.ensures.1 in
    rw (p.1, p.2) (sym (refused_whole c.args.table.now _ c.in_err-row.ensures))

pub returns-then-row-table-clause-answer : goal.returns-then-row-table-clause-answer
returns-then-row-table-clause-answer c =
    sym (refused_whole c.args.table.now _ (stray c.args.table.now c.requires _ c.body.new.ends c.in_ok-row.ensures c.if-row-table.true))

pub returns-clause-answer : goal.returns-clause-answer
returns-clause-answer c = sym (accepted c.args.table.now c.requires _ c.body.new.ends c.in_ok-row.ensures c.if-row-table.false)

pub returns-clause-ends : goal.returns-clause-ends
returns-clause-ends c = ends_are c.args.table.now c.requires _ c.body.new.ends c.in_ok-row.ensures c.if-row-table.false
