-- `numberlines::behind_lines` meets its contract, line by line. Assumes nothing.
use mathlib.Core.Path.{◌≡◌}
use Rattle.numberlines.specs.Answered.{lines_behind}
use Rattle.numberlines.proofs.behind_lines.Given as goal

abbrev pub invariant-loop : goal.invariant-loop
invariant-loop l = l.rest ≡ lines_behind l.counter l.file
