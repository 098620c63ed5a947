-- `numberlines::read_numbers` meets its contract: the lines still to be read, put behind those read, are all. Assumes nothing.
use mathlib.Core.Path.{refl}
use native.Mathlib.Omega.{arith}
use Rattle.numberlines.proofs.Tables.{count_is_six}
use Rattle.numberlines.proofs.Loop.{from_begins, line_missing, out_of_limits, one_more, all_from}
use Rattle.numberlines.proofs.read_numbers.Goals as goal

pub loop-i-init : goal.loop-i-init
loop-i-init c = from_begins _ _ c.requires _ _ refl

pub returns-in_default : goal.returns-in_default
returns-in_default c = line_missing _ _ c.requires c.loop-i.invariant c.loop-i-test.true c.line_at-line.ensures _ c.number_line.ensures c.in_default.is

pub returns-then-not-within : goal.returns-then-not-within
returns-then-not-within c =
    out_of_limits _ _ c.requires c.loop-i.invariant c.loop-i-test.true c.line_at-line.ensures _ c.number_line.ensures c.in-Some.is c.within.ensures c.if-not-within.true

pub loop-i-preserved : goal.loop-i-preserved
loop-i-preserved c =
    one_more _ _ c.requires c.loop-i.invariant c.loop-i-test.true c.line_at-line.ensures _ c.number_line.ensures c.in-Some.is c.within.ensures c.if-not-within.false
    c.next-rest.ensures

pub returns : goal.returns
returns c = all_from _ _ c.requires c.loop-i.invariant (omega arith)

pub overflow_add-from : goal.overflow_add-from
overflow_add-from c = omega (arith, count_is_six, c.requires, c.loop-i-test.true)

pub line_at-line-requires : goal.line_at-line-requires
line_at-line-requires c = omega (arith, count_is_six, c.requires, c.loop-i-test.true)

pub overflow_add-result : goal.overflow_add-result
overflow_add-result c = omega (arith, count_is_six, c.requires, c.loop-i-test.true)

pub overflow_add-result-in_default : goal.overflow_add-result-in_default
overflow_add-result-in_default c = omega (arith, count_is_six, c.requires, c.loop-i-test.true)

pub overflow_cast-result : goal.overflow_cast-result
overflow_cast-result c = omega (arith, count_is_six, c.requires, c.loop-i-test.true)
