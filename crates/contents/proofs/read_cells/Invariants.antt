-- `contents::read_cells` meets its contract: the cells still to be read, put behind those stored, are all. Assumes nothing.
use Rattle.contents.proofs.CellLoop.{CellsGoing}
use Rattle.contents.proofs.read_cells.Given as goal

abbrev pub invariant-loop-k : goal.invariant-loop-k
invariant-loop-k l = CellsGoing l.key l.file l.n l.initial.cells l.cells l.rest l.k
