-- `contents::read_rows` meets its contract: the rows still to be read, put behind those in the table, are all. Assumes nothing.
use Rattle.contents.proofs.RowLoop.{RowsGoing}
use Rattle.contents.proofs.read_rows.Given as goal

abbrev pub invariant-loop-k : goal.invariant-loop-k
invariant-loop-k l = RowsGoing l.file l.n l.initial.table l.table l.rest l.k
