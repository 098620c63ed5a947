-- `contents::read_rows` meets its contract: the rows still to be read, put behind those in the table, are all. Assumes nothing.
use mathlib.Core.Path.{◌∙◌, ap}
use native.Mathlib.Omega.{arith}
use borrow.Author.Rules.{rules}
use Rattle.filelines.specs.Values.{bytes_in}
use Rattle.contents.proofs.RowLoop.{rows_start, rows_more, rows_stop, rows_end}
use Rattle.contents.proofs.read_rows.Goals as goal

pub loop-k-init : goal.loop-k-init
loop-k-init c = rows_start _ _ _ c.requires.1

pub returns-in_default : goal.returns-in_default
returns-in_default c =
    (c.loop-k-test.true, rows_stop c.loop-k.invariant c.loop-k-test.true (c.row_line.ensures ∙ ap bytes_in c.in_default.is))

pub loop-k-preserved : goal.loop-k-preserved
loop-k-preserved c =
    rows_more c.loop-k.invariant c.requires.0 c.loop-k-test.true _ (search rules) (c.row_line.ensures ∙ ap bytes_in c.in-Some.is) c.put_row.ensures c.next-rest.ensures

pub returns : goal.returns
returns c = rows_end c.loop-k.invariant (omega arith)
