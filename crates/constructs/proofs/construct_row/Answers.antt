-- `constructs::construct_row` meets its contract. Assumes nothing.
use mathlib.Core.Path.{ap}
use Rattle.layout.specs.Ops.{construct_number}
use Rattle.constructs.proofs.Words.{by_if, by_else, by_endif, by_while, by_endwhile}
use Rattle.constructs.proofs.construct_row.Goals as goal

pub returns-in-If : goal.returns-in-If
returns-in-If c =
    let args = c.args in
    by_if (construct_number args.op) args.a args.end args.regs.now args.s args.opened.now.masks args.opened.now.rows (ap construct_number c.in-If.is) c.if_row.ensures

pub returns-in-Else : goal.returns-in-Else
returns-in-Else c =
    let args = c.args in
    by_else (construct_number args.op) args.a args.end args.regs.now args.s args.opened.now.masks args.opened.now.rows (ap construct_number c.in-Else.is) c.else_row.ensures

pub returns-in-EndIf : goal.returns-in-EndIf
returns-in-EndIf c =
    let args = c.args in
    by_endif (construct_number args.op) args.a args.end args.regs.now args.s args.opened.now.masks args.opened.now.rows (ap construct_number c.in-EndIf.is) c.endif_row.ensures

pub returns-in-While : goal.returns-in-While
returns-in-While c =
    let args = c.args in
    by_while (construct_number args.op) args.a args.end args.regs.now args.s args.opened.now.masks args.opened.now.rows (ap construct_number c.in-While.is) c.while_row.ensures

pub returns-in-EndWhile : goal.returns-in-EndWhile
returns-in-EndWhile c =
    let args = c.args in
    by_endwhile (construct_number args.op) args.a args.end args.regs.now args.s args.opened.now.masks args.opened.now.rows (ap construct_number c.in-EndWhile.is) c.endwhile_row.ensures
