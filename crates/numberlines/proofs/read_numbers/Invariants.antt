-- `numberlines::read_numbers` meets its contract: the lines still to be read, put behind those read, are all. Assumes nothing.
use lib.ListN.{length}
use Rattle.numberlines.proofs.Loop.{FromGoing}
use Rattle.numberlines.proofs.read_numbers.Given as goal

abbrev pub invariant-loop-i : goal.invariant-loop-i
invariant-loop-i l = FromGoing l.from (length l.initial.numbers) l.file l.initial.numbers l.numbers l.rest l.i
