-- `banks::all_far` meets its contract. Assumes nothing.
use Rattle.banks.specs.Counting.{numbers_of}
use Rattle.banks.proofs.Near.{Looking}
use Rattle.banks.proofs.all_far.Given as goal

abbrev pub invariant-loop-number : goal.invariant-loop-number
invariant-loop-number l = Looking (numbers_of l.numbers) l.n l.near l.number-index
