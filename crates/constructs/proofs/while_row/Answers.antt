-- `constructs::while_row` meets its contract. Assumes nothing.
use mathlib.Core.Path.{◌∙◌}
use Rattle.constructs.proofs.Words.{while_left, while_stayed}
use Rattle.constructs.proofs.while_row.Goals as goal

pub returns-then-holding-eq0 : goal.returns-then-holding-eq0
returns-then-holding-eq0 c =
    let holding = c.holding-holding in
    let E = c.enter_while-depth.ensures in
    let gone = c.gone_on.ensures in
    let args = c.args in (
      gone.0,
      gone.1 ∙ while_left args.s args.opened.now.masks args.opened.now.rows E args.a args.end args.regs.now holding.result holding.ensures c.if-holding-eq0.true,
      E.saved_are,
      E.openers_are,
    )

pub returns : goal.returns
returns c =
    let holding = c.holding-holding in
    let E = c.enter_while-depth.ensures in
    let gone = c.gone_on-2.ensures in
    let args = c.args in (
      gone.0,
      gone.1 ∙ while_stayed args.s args.opened.now.masks args.opened.now.rows E args.a args.end args.regs.now holding.result holding.ensures c.if-holding-eq0.false,
      E.saved_are,
      E.openers_are,
    )
