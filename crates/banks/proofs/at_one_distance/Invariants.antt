-- `banks::at_one_distance` meets its contract. Assumes nothing.
use Rattle.banks.specs.Counting.{numbers_of}
use Rattle.banks.specs.Remembering.{lanes_from}
use Rattle.banks.proofs.Distance.{Comparing}
use Rattle.banks.proofs.at_one_distance.Given as goal

abbrev pub invariant-loop-t : goal.invariant-loop-t
invariant-loop-t l = Comparing (numbers_of l.numbers) (lanes_from l.memo l.at) l.distance l.n l.same l.t
