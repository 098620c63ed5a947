-- `contents::read_cells` meets its contract: the cells still to be read, put behind those stored, are all. Assumes nothing.
use mathlib.Core.Path.{◌∙◌, ap}
use native.Mathlib.Omega.{arith}
use Rattle.text.specs.Numbers.{number_of}
use Rattle.contents.proofs.CellLoop.{cells_start, cells_more, cells_stop, cells_end}
use Rattle.contents.proofs.read_cells.Goals as goal

pub loop-k-init : goal.loop-k-init
loop-k-init c = cells_start _ _ _ _

pub returns-in_default : goal.returns-in_default
returns-in_default c =
    (c.loop-k-test.true, cells_stop c.loop-k.invariant c.loop-k-test.true (c.number_line.ensures ∙ ap number_of c.in_default.is))

pub loop-k-preserved : goal.loop-k-preserved
loop-k-preserved c =
    cells_more c.loop-k.invariant c.requires c.loop-k-test.true (c.number_line.ensures ∙ ap number_of c.in-Some.is) c.next-rest.ensures

pub returns : goal.returns
returns c = cells_end c.loop-k.invariant (omega arith)
