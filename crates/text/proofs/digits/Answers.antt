-- `text::digits` meets its contract: the digits left, put behind the value so far, are the whole, and the value is below the bound. Assumes nothing.
use mathlib.Core.Path.{refl, sym, ◌∙◌}
use native.Mathlib.Omega.{arith}
use Rattle.text.proofs.Counting.{too_large, digit, no_digit_there, no_more}
use Rattle.text.proofs.digits.Goals as goal

pub returns-then-not-is_ascii_digit : goal.returns-then-not-is_ascii_digit
returns-then-not-is_ascii_digit c =
    sym c.loop-byte.invariant.1
    ∙ no_digit_there _ _ _ _ c.loop-byte-test.true c.if-not-is_ascii_digit.ensures.cases

pub returns-then-bound-value : goal.returns-then-bound-value
returns-then-bound-value c =
    sym c.loop-byte.invariant.1
    ∙ digit _ _ _ _ _ c.loop-byte-test.true refl (omega (arith, c.if-not-is_ascii_digit.ensures.cases)) (omega (arith, c.if-not-is_ascii_digit.ensures.cases))
    ∙ too_large _ _ _ (omega arith)

pub loop-byte-preserved : goal.loop-byte-preserved
loop-byte-preserved c =
    let cases = c.if-not-is_ascii_digit.ensures.cases in
    (omega arith, rw c.from.ensures (sym (digit _ _ _ _ _ c.loop-byte-test.true refl (omega (arith, cases)) (omega (arith, cases))) ∙ c.loop-byte.invariant.1))

pub returns : goal.returns
returns c =
    sym c.loop-byte.invariant.1
    ∙ no_more _ _ _ _ c.loop-byte-test.false c.loop-byte.invariant.0
