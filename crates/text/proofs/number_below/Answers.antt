-- `text::number_below` meets its contract, by the first digit. Assumes nothing.
use mathlib.Core.Path.{◌∙◌}
use native.Mathlib.Omega.{arith}
use Rattle.std.proofs.lemmas.Bool.Decides.{nat_tests}
use Rattle.text.proofs.Counting.{no_digit, leading_zero, lone_zero, no_zero}
use Rattle.text.proofs.number_below.Goals as goal
use Rattle.text.proofs.number_below.Goals.{else-first-eq48-via-then-first-eq48+else-not-is_empty, else-first-eq48-via-else-first-eq48}

pub returns-in_err-first : goal.returns-in_err-first
returns-in_err-first c = rw c.from_residual.ensures (no_digit _ _ c.in_err-first.ensures.cases)

pub returns-then-not-is_empty : goal.returns-then-not-is_empty
returns-then-not-is_empty c =
    rw c.in_ok-first.ensures.cases.0 (leading_zero _ _ _ c.if-first-eq48.true (grind (arith, nat_tests)))

pub returns : goal.returns
returns c =
    rw c.in_ok-first.ensures.cases.0
    (elim c.else-first-eq48.branch [
      | else-first-eq48-via-then-first-eq48+else-not-is_empty w ↦ lone_zero _ _ _ (grind (arith, nat_tests, w.is_empty.ensures, w.if-not-is_empty.false))
      | else-first-eq48-via-else-first-eq48 w ↦ no_zero _ _ _ w.if-first-eq48.false
    ])
    ∙ rw c.in_ok-first.ensures.cases.0 at c.digits.ensures
