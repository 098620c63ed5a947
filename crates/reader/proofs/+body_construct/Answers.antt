-- `reader::body` and `reader::construct` meet their contracts. Assumes nothing.
use mathlib.Core.Path.{sym, ◌∙◌, subst}
use mathlib.Core.Logic.{inl, inr, ⊎_elim}
use Prim.Native.Nat.{◌*◌}
use native.Mathlib.Omega.{arith}
use lib.ListN.{get_or}
use Rattle.std.proofs.lemmas.Result.{err_from_is_err_and}
use Rattle.spec.specs.declared.Refusal.TheVariants.{TooDeep}
use Rattle.spec.specs.Table.{rows_of}
use Rattle.reader.specs.Parts.{Fails}
use Rattle.reader.proofs.OpBytes.{plain_byte}
use Rattle.reader.proofs.Constructs.{else_there, else_none, span_on, span_plain, span_refused, ninth, first_fails, if_closes}
use Rattle.reader.proofs.Constructs.{second_fails, else_closes, loop_fails, loop_closes}
use Rattle.reader.proofs.+body_construct.Goals as goal

pub body-returns-in_err-row_fits : goal.body-returns-in_err-row_fits
body-returns-in_err-row_fits t c =
    let p = err_from_is_err_and c.from_residual.result c.from_residual.ensures.1 in
    rw (p.1, p.2) (span_refused c.args.table.now c.requires.0 c.loop-row.invariant (omega arith) (sym c.in_err-row_fits.ensures))

pub body-loop-row-preserved : goal.body-loop-row-preserved
body-loop-row-preserved t c =
    let table = c.args.table.now in
    let turn = c.loop-row in
    let n = c.in_default.in_default-own.rest in
    let plain =
    plain_byte (get_or table (turn.row * 4) 0) (c.type_inv.table (turn.row * 4)).fits (λ e. n.0.0.1 (inl e))
    (λ e. n.0.1 (inl e)) n.1 (λ e. n.0.0.1 (inr e)) (λ e. n.0.1 (inr e)) in
    span_on table c.requires.0 turn.invariant
    (span_plain table c.requires.0 c.args.depth turn.row turn.ends (omega arith) (sym c.in_ok-row_fits.ensures) plain)

pub construct-returns-then-depth-eq8 : goal.construct-returns-then-depth-eq8
construct-returns-then-depth-eq8 t c =
    let args = c.args in
    let pre = c.requires in
    subst (λ d. Fails (rows_of args.table.now) d args.row (TooDeep args.row)) (sym c.if-depth-eq8.true)
    (ninth args.table.now pre.0 8 args.row pre.1 pre.4 pre.3)

pub construct-returns-in_err-stop : goal.construct-returns-in_err-stop
construct-returns-in_err-stop t c =
    let args = c.args in
    let pre = c.requires in
    let p = err_from_is_err_and c.from_residual.result c.from_residual.ensures.1 in
    rw (p.1, p.2) (first_fails args.table.now pre.0 args.depth args.row pre.1 pre.4 pre.3 (omega (arith, pre, c.if-depth-eq8.false)) c.in_err-stop.ensures)

pub construct-returns-in_err-next : goal.construct-returns-in_err-next
construct-returns-in_err-next t c =
    let args = c.args in
    let pre = c.requires in
    let p = err_from_is_err_and c.from_residual-in_err-next.result c.from_residual-in_err-next.ensures.1 in
    rw (p.1, p.2)
    (loop_fails args.table.now pre.0 args.depth args.row pre.1 pre.4 c.if-table-row-eq-WHILE.true (omega (arith, pre, c.if-depth-eq8.false)) c.in_ok-stop.ensures
    c.in_err-next.ensures)

pub construct-returns-then-table-row-eq-WHILE : goal.construct-returns-then-table-row-eq-WHILE
construct-returns-then-table-row-eq-WHILE t c =
    let args = c.args in
    let pre = c.requires in
    loop_closes args.table.now pre.0 args.depth args.row pre.1 pre.4 c.if-table-row-eq-WHILE.true (omega (arith, pre, c.if-depth-eq8.false)) c.in_ok-stop.ensures
    (omega (arith, pre)) c.in_ok-next.ensures

pub construct-returns-then-not-is_else : goal.construct-returns-then-not-is_else
construct-returns-then-not-is_else t c =
    let args = c.args in
    let pre = c.requires in
    let none = else_none args.table.now c.in_ok-stop.stop (sym c.is_else.ensures ∙ c.if-not-is_else.true) in
    if_closes args.table.now pre.0 args.depth args.row pre.1 pre.4 (⊎_elim (λ e. e) (λ e. absurd (c.if-table-row-eq-WHILE.false e)) pre.3)
    (omega (arith, pre, c.if-depth-eq8.false)) c.in_ok-stop.ensures none c.closes-then-not-is_else.result c.closes-then-not-is_else.ensures

pub construct-returns-in_err-last : goal.construct-returns-in_err-last
construct-returns-in_err-last t c =
    let args = c.args in
    let pre = c.requires in
    let there = else_there args.table.now c.in_ok-stop.stop (sym c.is_else.ensures ∙ c.if-not-is_else.false) in
    let p = err_from_is_err_and c.from_residual-in_err-last.result c.from_residual-in_err-last.ensures.1 in
    rw (p.1, p.2)
    (second_fails args.table.now pre.0 args.depth args.row pre.1 pre.4 (⊎_elim (λ e. e) (λ e. absurd (c.if-table-row-eq-WHILE.false e)) pre.3)
    (omega (arith, pre, c.if-depth-eq8.false)) c.in_ok-stop.ensures there.0 there.1 c.in_err-last.ensures)

pub construct-returns : goal.construct-returns
construct-returns t c =
    let args = c.args in
    let pre = c.requires in
    let there = else_there args.table.now c.in_ok-stop.stop (sym c.is_else.ensures ∙ c.if-not-is_else.false) in
    else_closes args.table.now pre.0 args.depth args.row pre.1 pre.4 (⊎_elim (λ e. e) (λ e. absurd (c.if-table-row-eq-WHILE.false e)) pre.3)
    (omega (arith, pre, c.if-depth-eq8.false)) c.in_ok-stop.ensures there.0 there.1 c.in_ok-last.ensures c.closes-2.result c.closes-2.ensures
