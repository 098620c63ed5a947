-- `stepcounts::add` meets its contract: each turn adds to one count. Assumes nothing.
use Rattle.stepcounts.proofs.Adding.{Adding}
use Rattle.stepcounts.proofs.add.Given as goal

abbrev pub invariant-loop-t : goal.invariant-loop-t
invariant-loop-t l = Adding l.mask l.k l.initial.counts l.counts l.t
