-- `launchfile::read_lines` meets its contract, line by line. Assumes nothing.
use mathlib.Core.Path.{refl}
use native.Mathlib.Omega.{arith}
use Rattle.std.proofs.lemmas.Bool.Decides.{nat_tests}
use Rattle.spec.specs.Text.{text}
use Rattle.numberlines.specs.Answered.{line_count}
use Rattle.launchfile.proofs.ContentLines.{refuses, row_missing, cell_missing, global_missing, end_missing, more_behind, accepts}
use Rattle.launchfile.proofs.read_lines.Goals as goal

pub returns-in-Err : goal.returns-in-Err
unfolding line_count
returns-in-Err c = refuses (row_missing c.in-Err.ensures.1 _ _ _ c.in-Err.ensures.0)

pub returns-in-Err-read_cells : goal.returns-in-Err-read_cells
unfolding text line_count
returns-in-Err-read_cells c =
    refuses (cell_missing c.in-Ok.ensures _ _ _ (omega arith) c.in-Err-read_cells.ensures.1 c.in-Err-read_cells.ensures.0)

pub returns-in-Err-read_cells-2 : goal.returns-in-Err-read_cells-2
unfolding text line_count
returns-in-Err-read_cells-2 c =
    refuses
    (global_missing c.in-Ok.ensures _ _ _ (omega arith) c.in-Ok-read_cells.ensures (omega arith) c.in-Err-read_cells-2.ensures.1 c.in-Err-read_cells-2.ensures.0)

pub returns-then-not-word_line : goal.returns-then-not-word_line
unfolding text line_count
returns-then-not-word_line c =
    refuses
    (end_missing c.in-Ok.ensures _ _ _ (omega arith) c.in-Ok-read_cells.ensures (omega arith) c.in-Ok-read_cells-2.ensures (omega arith)
    c.word_line.result c.word_line.ensures c.if-not-word_line.true)

pub returns-then-not-is_empty : goal.returns-then-not-is_empty
unfolding text line_count
returns-then-not-is_empty c =
    refuses
    (more_behind c.in-Ok.ensures _ _ _ (omega arith) c.in-Ok-read_cells.ensures (omega arith) c.in-Ok-read_cells-2.ensures (omega arith)
    c.word_line.result c.word_line.ensures c.if-not-word_line.false c.next.ensures (grind (arith, nat_tests)))

pub returns : goal.returns
unfolding text line_count
returns c =
    accepts c.in-Ok.ensures _ _ _ (omega arith) c.in-Ok-read_cells.ensures (omega arith) c.in-Ok-read_cells-2.ensures (omega arith)
    c.word_line.result c.word_line.ensures c.if-not-word_line.false c.next.ensures c.requires.3 c.requires.4 (grind (arith, nat_tests)) refl
