-- `launchfile::read_launch` meets its contract. Assumes nothing.
use mathlib.Core.Path.{ap, ◌∙◌, subst}
use native.Mathlib.Omega.{arith}
use Rattle.std.proofs.lemmas.Result.{err_from_is_err_and}
use Rattle.std.specs.Prelude.{IfOk}
use Rattle.spec.specs.Text.{text}
use Rattle.numberlines.specs.Answered.{line_count, lines_behind}
use Rattle.launchfile.specs.Parsed.{BytesFrom}
use Rattle.launchfile.proofs.Answered.{answers, refused_is}
use Rattle.launchfile.proofs.Whole.{too_long, no_kernel, size_refused, too_many, length_refused, numbers_read, within}
use Rattle.launchfile.proofs.read_launch.Goals as goal

pub returns-then-file-gt32768 : goal.returns-then-file-gt32768
returns-then-file-gt32768 c = refused_is (too_long _ (omega arith))

pub returns-then-not-word_line : goal.returns-then-not-word_line
unfolding text
returns-then-not-word_line c = refused_is (no_kernel _ (omega arith) c.word_line.result c.word_line.ensures c.if-not-word_line.true)

pub read_numbers-requires : goal.read_numbers-requires
unfolding line_count
read_numbers-requires c = omega arith

pub returns-in_err-read_numbers : goal.returns-in_err-read_numbers
unfolding text
returns-in_err-read_numbers c =
    let p = err_from_is_err_and c.from_residual.result c.from_residual.ensures.1 in
    rw (p.1, p.2)
    (refused_is
    (size_refused _ c.if-file-gt32768.false c.word_line.result c.word_line.ensures c.if-not-word_line.false
    c.next-lines.ensures _ _ _ c.read_numbers.ensures c.in_err-read_numbers.was))

pub returns-then-all_cells-gt1024 : goal.returns-then-all_cells-gt1024
unfolding text
returns-then-all_cells-gt1024 c =
    refused_is
    (too_many _ c.if-file-gt32768.false c.word_line.result c.word_line.ensures c.if-not-word_line.false
    c.next-lines.ensures _ _ _ c.read_numbers.ensures
    c.in_ok-read_numbers.was _ c.all_cells.ensures c.if-all_cells-gt1024.true)

pub read_numbers-requires-2 : goal.read_numbers-requires-2
unfolding line_count
read_numbers-requires-2 c = omega arith

pub returns-in_err-read_numbers-2 : goal.returns-in_err-read_numbers-2
unfolding text
returns-in_err-read_numbers-2 c =
    let p = err_from_is_err_and c.from_residual-in_err-read_numbers-2.result c.from_residual-in_err-read_numbers-2.ensures.1 in
    rw (p.1, p.2)
    (refused_is
    (length_refused _ c.if-file-gt32768.false c.word_line.result c.word_line.ensures c.if-not-word_line.false
    c.next-lines.ensures _ _ _ c.read_numbers.ensures
    c.in_ok-read_numbers.was _ c.all_cells.ensures c.if-all_cells-gt1024.false
    c.behind_lines-behind.ensures _ _ _ c.read_numbers-2.ensures c.in_err-read_numbers-2.was))

pub read_contents-requires : goal.read_contents-requires
unfolding text
read_contents-requires c =
    within _ c.if-file-gt32768.false c.word_line.result c.word_line.ensures c.if-not-word_line.false
    c.next-lines.ensures _ _ _ c.read_numbers.ensures
    c.in_ok-read_numbers.was _ c.all_cells.ensures c.if-all_cells-gt1024.false
    c.behind_lines-behind.ensures _ _ _ c.read_numbers-2.ensures c.in_ok-read_numbers-2.was

pub returns : goal.returns
unfolding text line_count lines_behind
returns c =
    record {
      read_as = answers _
          (numbers_read _ c.if-file-gt32768.false c.word_line.result c.word_line.ensures c.if-not-word_line.false
          c.next-lines.ensures _ _ _ c.read_numbers.ensures
          c.in_ok-read_numbers.was _ c.all_cells.ensures c.if-all_cells-gt1024.false
          c.behind_lines-behind.ensures _ _ _ c.read_numbers-2.ensures c.in_ok-read_numbers-2.was
          c.behind_lines-rest.ensures)
          c.read_contents.ensures.0;
      bytes = subst (λ rows. IfOk c.read_contents.result (BytesFrom rows))
          (c.behind_lines-rest.ensures ∙ ap (lines_behind 2) (c.behind_lines-behind.ensures ∙ ap (lines_behind 4) c.next-lines.ensures))
          c.read_contents.ensures.1;
    }
