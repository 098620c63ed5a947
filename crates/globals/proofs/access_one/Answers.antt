-- `globals::access_one` meets its contract: stopped in the group, a race with another group, or made. Assumes nothing.
use mathlib.Core.Path.{refl, sym, ◌∙◌}
use mathlib.Core.List.{[]}
use native.Mathlib.Omega.{arith}
use lib.ListN.{length}
use Rattle.layout.specs.Views.{view_of, global_from}
use Rattle.access.proofs.Accesses.{halts, none_common, passes}
use Rattle.globals.proofs.GlobalAccesses.{group_asks, stopped_did, race_did, made_did}
use Rattle.std.proofs.lemmas.Bool.{not_from_false, not_from_true}
use Rattle.layout.specs.Ops.{number}
use Rattle.globals.proofs.access_one.Goals as goal

pub verdict-requires : goal.verdict-requires
verdict-requires c =
    let pre = c.requires in
    (pre.0, pre.3.access, pre.1, pre.2, halts _ _ c.goes_on.ensures (not_from_false _ c.if-not-goes_on.true))

pub returns-then-not-goes_on : goal.returns-then-not-goes_on
returns-then-not-goes_on c =
    let args = c.args in
    let pre = c.requires in (
      λ L z m x o ed ea h eo M.
          stopped_did L z args.regs.now args.cells.now args.log.now args.masks.now M args.turn.thread h (number args.row.op) args.row.d args.row.a args.own args.turn.cell
          m x o ed ea pre.3.access pre.2 eo c.verdict.result
          (c.verdict.ensures [] (none_common _) L.threads m x o h ed ea (view_of (global_from L) L.global z) M.memory),
      λ i off. refl,
      λ j f. refl,
    )

pub rivals-others-requires : goal.rivals-others-requires
rivals-others-requires c =
    let goes = (passes _ _ c.goes_on.ensures (not_from_true _ c.if-not-goes_on.false)) in
    group_asks _ _ _ _ _ _ _ _ _ _ c.requires.3 goes refl

pub group_race-requires : goal.group_race-requires
group_race-requires c =
    let goes = passes _ _ c.goes_on.ensures (not_from_true _ c.if-not-goes_on.false) in
    (omega (arith, c.if-others-ne0.true), group_asks _ _ _ _ _ _ _ _ _ _ c.requires.3 goes refl)

pub returns-then-others-ne0 : goal.returns-then-others-ne0
returns-then-others-ne0 c =
    let args = c.args in
    let pre = c.requires in
    let goes = passes _ _ c.goes_on.ensures (not_from_true _ c.if-not-goes_on.false) in
    let others = c.rivals-others in
    let count = length args.cells.now in (
      λ L z m x o ed ea h eo M.
          race_did L z args.regs.now args.cells.now args.log.now args.masks.now M args.turn.thread h (number args.row.op) args.row.d args.row.a args.own args.turn.cell
          m x o ed ea pre.3.access pre.2 eo args.turn.bit pre.1 goes others.result c.group_race.result
          (others.ensures)
          (λ e. omega (arith, e, c.if-others-ne0.true)) c.group_race.ensures,
      λ i off. refl,
      λ j f. refl,
    )

pub make-requires : goal.make-requires
make-requires c =
    let pre = c.requires in
    (pre.0, pre.3.access, pre.1, pre.2, passes _ _ c.goes_on.ensures (not_from_true _ c.if-not-goes_on.false))

pub enter-requires : goal.enter-requires
enter-requires c =
    let goes = (passes _ _ c.goes_on.ensures (not_from_true _ c.if-not-goes_on.false)) in
    group_asks _ _ _ _ _ _ _ _ _ _ c.requires.3 goes refl

pub returns : goal.returns
returns c =
    let make = c.make in
    let others = c.rivals-others in
    let goes = passes _ _ c.goes_on.ensures (not_from_true _ c.if-not-goes_on.false) in
    let args = c.args in
    let pre = c.requires in
    let count = length args.cells.now in (
      λ L z m x o ed ea h eo M.
          made_did L z args.regs.now args.cells.now args.log.now args.masks.now M args.turn.thread h (number args.row.op) args.row.d args.row.a args.own args.turn.cell
          m x o ed ea pre.3.access pre.2 eo args.turn.bit pre.1 goes make.new.regs make.new.cells make.new.log _
          (sym others.ensures ∙ c.if-others-ne0.false)
          (make.ensures.0 [] L.threads m x o h ed ea (view_of (global_from L) L.global z) M.memory) make.auto.cells
          c.enter.ensures,
      make.ensures.1,
      make.ensures.2,
    )
