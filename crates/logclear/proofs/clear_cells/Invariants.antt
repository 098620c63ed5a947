-- `logclear::clear_cells` meets its contract: the invariant is the promise after i turns. Assumes nothing.
use mathlib.Core.Path.{◌≡◌}
use Rattle.spec.specs.Log.{cells_cleared}
use Rattle.logclear.proofs.clear_cells.Given as goal

abbrev pub invariant-loop-i : goal.invariant-loop-i
invariant-loop-i l = l.log ≡ cells_cleared l.cells l.i l.initial.log
