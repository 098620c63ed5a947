-- `placing::place_kinds` meets its contract: each turn puts one kind. Assumes nothing.
use mathlib.Core.Path.{◌≡◌}
use Rattle.placing.specs.Kinds.{kinds_placed}
use Rattle.placing.proofs.place_kinds.Given as goal

abbrev pub invariant-loop-j : goal.invariant-loop-j
invariant-loop-j l = l.to ≡ kinds_placed l.first l.total l.at l.k l.j l.words l.initial.to
