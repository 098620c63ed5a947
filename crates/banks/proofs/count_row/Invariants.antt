-- `banks::count_row` counts the cells of the enabled threads, one after the other. Assumes nothing.
use Rattle.banks.specs.Counting.{numbers_of}
use Rattle.banks.proofs.Costing.{Going}
use Rattle.banks.proofs.count_row.Given as goal

abbrev pub invariant-loop-t : goal.invariant-loop-t
invariant-loop-t l = Going (numbers_of l.numbers) l.mask l.stamp l.t l.stamps l.counts l.most l.far
