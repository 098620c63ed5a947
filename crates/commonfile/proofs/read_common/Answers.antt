-- `commonfile::read_common` meets its contract, line by line. Assumes nothing.
use mathlib.Core.Path.{refl, ap, ◌∙◌}
use native.Mathlib.Omega.{arith}
use Rattle.std.proofs.lemmas.Bool.Decides.{nat_tests}
use Rattle.spec.specs.Text.{text}
use Rattle.text.specs.Numbers.{number_of}
use Rattle.commonfile.proofs.Lines.{refuses, no_number, too_many, cell_missing, end_missing, more_behind, accepts}
use Rattle.commonfile.proofs.read_common.Goals as goal

pub returns-in_default : goal.returns-in_default
unfolding text
returns-in_default c = refuses c.fault.ensures (no_number _ (c.number_line.ensures ∙ ap number_of c.in_default.is))

pub returns-then-found-gt256 : goal.returns-then-found-gt256
unfolding text
returns-then-found-gt256 c =
    refuses c.fault-then-found-gt256.ensures (too_many _ (c.number_line.ensures ∙ ap number_of c.in-Some.is) c.if-found-gt256.true)

pub returns-in-Err : goal.returns-in-Err
unfolding text
returns-in-Err c =
    refuses c.fault-in-Err.ensures
    (cell_missing _ (c.number_line.ensures ∙ ap number_of c.in-Some.is) c.if-found-gt256.false c.next-cells.ensures c.in-Err.ensures.1 c.in-Err.ensures.0)

pub returns-then-not-word_line : goal.returns-then-not-word_line
unfolding text
returns-then-not-word_line c =
    refuses c.fault-then-not-word_line.ensures
    (end_missing _ (c.number_line.ensures ∙ ap number_of c.in-Some.is) c.if-found-gt256.false c.next-cells.ensures
    c.in-Ok.ensures (omega arith) c.word_line.result c.word_line.ensures c.if-not-word_line.true)

pub returns-then-not-is_empty : goal.returns-then-not-is_empty
unfolding text
returns-then-not-is_empty c =
    refuses c.fault-then-not-is_empty.ensures
    (more_behind _ (c.number_line.ensures ∙ ap number_of c.in-Some.is) c.if-found-gt256.false c.next-cells.ensures
    c.in-Ok.ensures (omega arith) c.word_line.result c.word_line.ensures c.if-not-word_line.false c.next.ensures (grind (arith, nat_tests)))

pub returns : goal.returns
unfolding text
returns c =
    accepts _ (c.number_line.ensures ∙ ap number_of c.in-Some.is) c.if-found-gt256.false c.next-cells.ensures
    c.in-Ok.ensures (omega arith) c.word_line.result c.word_line.ensures c.if-not-word_line.false c.next.ensures refl (grind (arith, nat_tests))
