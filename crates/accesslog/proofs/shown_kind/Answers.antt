-- `accesslog::shown_kind` meets its contract. By the op, and what the other did. Assumes nothing.
use mathlib.Core.Path.{refl, sym}
use mathlib.Core.Bool.{true, false}
use borrow.Author.Tests.{eq-eqb, ne_eqb}
use Rattle.layout.proofs.LogTests.{is_zero, not_zero, shown_by}
use Rattle.accesslog.proofs.shown_kind.Goals as goal

pub returns-then-wrote-eq0 : goal.returns-then-wrote-eq0
returns-then-wrote-eq0 c =
    let args = c.args in
    sym (shown_by args.op _ _ true _ false _ (eq-eqb args.op 16 c.if-op-eq16.true) refl (is_zero args.wrote c.if-wrote-eq0.true) refl)

pub returns-then-op-eq16 : goal.returns-then-op-eq16
returns-then-op-eq16 c =
    let args = c.args in
    sym (shown_by args.op _ _ true _ true _ (eq-eqb args.op 16 c.if-op-eq16.true) refl (not_zero args.wrote c.if-wrote-eq0.false) refl)

pub returns-then-added-eq0 : goal.returns-then-added-eq0
returns-then-added-eq0 c =
    let args = c.args in
    let no-load = ne_eqb args.op 16 c.if-op-eq16.false in
    let store = eq-eqb args.op 17 c.if-op-eq17.true in
    sym (shown_by args.op _ _ false true false false no-load store (is_zero args.wrote c.if-wrote-eq0-2.true) (is_zero args.added c.if-added-eq0.true))

pub returns-then-wrote-eq0-2 : goal.returns-then-wrote-eq0-2
returns-then-wrote-eq0-2 c =
    let args = c.args in
    let no-load = ne_eqb args.op 16 c.if-op-eq16.false in
    let store = eq-eqb args.op 17 c.if-op-eq17.true in
    sym (shown_by args.op _ _ false true false true no-load store (is_zero args.wrote c.if-wrote-eq0-2.true) (not_zero args.added c.if-added-eq0.false))

pub returns-then-op-eq17 : goal.returns-then-op-eq17
returns-then-op-eq17 c =
    let args = c.args in
    let no-load = ne_eqb args.op 16 c.if-op-eq16.false in
    let store = eq-eqb args.op 17 c.if-op-eq17.true in
    sym (shown_by args.op _ _ false true true _ no-load store (not_zero args.wrote c.if-wrote-eq0-2.false) refl)

pub returns-then-wrote-eq0-3 : goal.returns-then-wrote-eq0-3
returns-then-wrote-eq0-3 c =
    let args = c.args in
    let no-load = ne_eqb args.op 16 c.if-op-eq16.false in
    let no_store = ne_eqb args.op 17 c.if-op-eq17.false in
    sym (shown_by args.op _ _ false false false _ no-load no_store (is_zero args.wrote c.if-wrote-eq0-3.true) refl)

pub returns : goal.returns
returns c =
    let args = c.args in
    let no-load = ne_eqb args.op 16 c.if-op-eq16.false in
    let no_store = ne_eqb args.op 17 c.if-op-eq17.false in
    sym (shown_by args.op _ _ false false true _ no-load no_store (not_zero args.wrote c.if-wrote-eq0-3.false) refl)
