-- `grouprun::run_group` meets its contract. Assumes nothing.
use mathlib.Core.Path.{◌≡◌, refl, sym, ap, ◌∙◌, subst}
use mathlib.Core.List.{List}
use Prim.Native.Nat.{ℕ, ◌+◌, ◌-◌, ◌*◌, ◌≤◌}
use native.Mathlib.Omega.{arith}
use lib.ListN.{length, replicate}
use Rattle.spec.specs.Limits.{log_per_cell, records_lent}
use Rattle.spec.specs.declared.Verdict.{Verdict}
use Rattle.spec.specs.Table.{rows_of}
use Rattle.spec.specs.Shape.{Shape}
use Rattle.spec.specs.LockStep.{LockState, run_from}
use Rattle.spec.specs.Intervals.{Interval, intervals_from}
use Rattle.layout.specs.declared.State.{State}
use Rattle.layout.specs.Next as next
use Rattle.layout.specs.Represents.{Counts}
use Rattle.intervals.specs.Records.{Ledger}
use Rattle.grouprow.specs.Rows.{BufferSizes}
use Rattle.grouprun.specs.Groups.{GroupStart, followed}
use Rattle.grouprun.proofs.Going.{Going, some_going, go_start, go_room, go_asks, go_passed, go_spent, go_ready, go_next, Stops, go_stops}
use Rattle.grouprun.proofs.run_group.Goals as goal
use Rattle.grouprun.proofs.run_group.Goals.{After-group_row, At-loop-s}

pub loop-s-init : goal.loop-s-init
loop-s-init c =
    let shared = c.clear-2 in
    let log = c.clear in
    let args = c.args in
    let pre = c.requires in (
      refl,
      refl,
      refl,
      refl,
      refl,
      refl,
      (λ L z S whole lent more B.
          go_start args.kernel.now.table.now args.kernel.now.ends.now args.kernel.now.threads args.started.group args.kernel.now.limit args.started.rows args.started.barriers L z
          args.kernel.now.common.now args.cells.now args.global.now
          args.masks.now S pre.0 whole lent more c.start-s.result log.new.log shared.new.log args.costs.now.stamps args.costs.now.memo args.records.now
          pre.2 c.start-s.ensures pre.5 pre.6 (log.ensures ∙ ap (λ k. replicate k 0) pre.7.log_sized_lem)
          (shared.ensures ∙ ap (λ k. replicate k 0) pre.7.shared_sized) pre.10 pre.11 B),
    )

-- The lent buffers keep their lengths.
log_kept : (c : At-loop-s) → length c.loop-s.log ≡ length c.args.log.now
log_kept c = c.loop-s.invariant.1 ∙ c.clear.auto.log

shared_kept : (c : At-loop-s) → length c.loop-s.shared ≡ length c.args.shared.now
shared_kept c = c.loop-s.invariant.3 ∙ c.clear-2.auto.log

sizes : (c : At-loop-s) → BufferSizes c.loop-s.cells c.loop-s.log c.loop-s.global c.loop-s.shared c.loop-s.masks
sizes c =
    let inv = c.loop-s.invariant in
    let P = c.requires.7 in
    let log_same = log_kept c in
    let shared_same = shared_kept c in
    record {
      log_sized_lem = log_same ∙ P.log_sized_lem ∙ ap (λ k. log_per_cell * k) (sym inv.0);
      cells_few = omega (arith, inv.0, P.cells_few);
      shared_sized = shared_same ∙ P.shared_sized ∙ ap (λ k. log_per_cell * k) (sym inv.2);
      masks_sized = inv.4 ∙ P.masks_sized ∙ ap (λ k. 3 * k) (sym inv.2);
      global_few = omega (arith, inv.2, P.global_few);
    }

records_lent_lem : (c : At-loop-s) → records_lent ≤ length c.loop-s.records
records_lent_lem c = omega (arith, c.loop-s.invariant.5, c.requires.9)

-- Some state of a launch stands in the buffers.
going : (c : At-loop-s) → let args = c.args in let S = c.requires.12 in let turn = c.loop-s in
    Going args.kernel.now.table.now args.kernel.now.threads args.started.group args.kernel.now.limit args.kernel.now.common.now S.shape
    (run_from (rows_of args.kernel.now.table.now) S.shape (args.kernel.now.limit - args.started.rows) S.state)
    S.whole S.lent S.more turn.s turn.regs turn.cells turn.log turn.opened.masks turn.opened.rows turn.global turn.shared turn.masks
    turn.counts turn.costs.stamps turn.costs.memo turn.records
going c = some_going _ _ _ _ _ _ _ _ _ _ _ _ _ _ _ _ _ _ _ _ _ _ _ _ c.loop-s.invariant.6 c.requires.12

pub finish-requires : goal.finish-requires
finish-requires c =
    go_room _ _ _ _ _ _
    _ _ _ _ _ _ _ _ _ _ _ _ _ _ _ _ _ _ (going (goal.at.finish-requires c).At-loop-s) c.requires.0 c.loop-s.s.since (omega
    arith) c.requires.4

pub returns-then-s-copied : goal.returns-then-s-copied
returns-then-s-copied c =
    let spent = c.if-s-copied.true in
    let inside = c.loop-s-test.true in
    let finish = c.finish in
    λ L z S whole lent more B.
    go_spent _ _ _ _ _ _
    L _ whole lent more _ _ _ _ _ _ _ _ _ _ _ _ _ (c.loop-s.invariant.6 L z S whole lent more B) c.requires.0 inside spent finish.result finish.new.counts
    finish.ensures.answer finish.ensures.counts

pub group_row-requires : goal.group_row-requires
group_row-requires c =
    let unspent = c.if-s-copied.false in
    let inside = c.loop-s-test.true in
    let G = going (goal.at.group_row-requires c).At-loop-s in (
      go_ready _ _ _ _ _ _
          _ _ _ _ _ _ _ _ _ _ _ _ _ _ _ _ _ _ G c.requires.0 inside unspent c.requires.1 c.requires.3
          c.requires.4 (sizes (goal.at.group_row-requires c).At-loop-s),
      go_room _ _ _ _ _ _
          _ _ _ _ _ _ _ _ _ _ _ _ _ _ _ _ _ _ G c.requires.0 (c.loop-s.s.since + 1) (omega arith)
          c.requires.4,
      G.older,
      G.remembered,
      go_asks _ _ _ _ _ _
          _ _ _ _ _ _ _ _ _ _ _ _ _ _ _ _ _ _ G c.requires.0 unspent c.requires.4 (records_lent_lem (goal.at.group_row-requires c).At-loop-s),
    )

pub loop-s-smaller : goal.loop-s-smaller
loop-s-smaller c =
    let unspent = c.if-s-copied.false in
    let C = subst (Counts c.loop-s.s) c.in-Ok.is c.group_row.ensures.0.counts in
    omega (arith, C.rows_one, (going (goal.at.loop-s-smaller c).At-loop-s).rows_most, unspent)

pub loop-s-preserved : goal.loop-s-preserved
loop-s-preserved c =
    let row = c.group_row in
    let unspent = c.if-s-copied.false in
    let inside = c.loop-s-test.true in
    let inv = c.loop-s.invariant in (
      c.group_row.auto.cells ∙ inv.0,
      c.group_row.auto.log ∙ inv.1,
      c.group_row.auto.global ∙ inv.2,
      c.group_row.auto.shared ∙ inv.3,
      c.group_row.auto.masks ∙ inv.4,
      c.group_row.auto.records ∙ inv.5,
      (λ L z S whole lent more B.
          go_next _ _ _ _ _ _
          L _ whole lent more _ _ _ _ _ _ _ _ _ _ _ _ _ (inv.6 L z S whole lent more B) c.requires.0
          inside unspent (sizes (goal.at.loop-s-preserved c).At-loop-s).cells_few c.requires.8 row.result
          _ _ _ _ _ _ _ _ _ _ _ _ row.ensures.0 row.ensures.1 row.ensures.2 _ c.in-Ok.is),
    )

-- A row that stops, from every state that the buffers stood for at the start.
stops : (c : After-group_row) → BufferSizes c.loop-s.cells c.loop-s.log c.loop-s.global c.loop-s.shared c.loop-s.masks → (v : Verdict) (s' : State) → c.group_row.result ≡ next.Stop s' v
    → let args = c.args in
    (L : Shape) (z : LockState) → GroupStart args.kernel.now.threads args.started.group args.started.rows args.started.barriers args.kernel.now.common.now args.cells.now args.global.now
    args.masks.now L z
    → (whole : List Interval) (lent : List ℕ) (more : List Interval)
    → Ledger whole lent (followed (intervals_from (rows_of args.kernel.now.table.now) L (args.kernel.now.limit - args.started.rows) z) more) (args.started.barriers + args.started.group)
    args.started.rows args.records.now
    → Stops args.kernel.now.limit args.started.group L (run_from (rows_of args.kernel.now.table.now) L (args.kernel.now.limit - args.started.rows) z) whole lent more v s'
    c.group_row.new.cells c.group_row.new.log c.group_row.new.global c.group_row.new.shared c.group_row.new.masks c.group_row.new.counts c.group_row.new.costs.stamps
    c.group_row.new.costs.memo c.group_row.new.records
stops c sized v s' e L z S whole lent more B =
    let row = c.group_row in
    let args = c.args in
    go_stops _ _ _ _ _ _
    L _ whole lent more _ _ _ _ _ _ _ _ _ _ _ _ _ (c.loop-s.invariant.6 L z S whole lent more B) c.requires.0 c.loop-s-test.true c.if-s-copied.false
    sized.cells_few c.requires.8 row.result _ _ _ _ _ _ _ _ _ _ _ _ row.ensures.0 row.ensures.1 row.ensures.2 v s' e c.requires.4

pub stop-requires : goal.stop-requires
stop-requires c =
    let S = c.requires.12 in
    let T = stops (goal.at.stop-requires c).After-group_row (sizes (goal.at.stop-requires c).At-loop-s) _ _ c.in-Err.is S.shape S.state S.start S.whole S.lent S.more S.ledger in
    (T.fits, T.room)

pub finish-requires-in-Err : goal.finish-requires-in-Err
finish-requires-in-Err c =
    let stop = c.stop in
    let S = c.requires.12 in
    (stops (goal.at.finish-requires-in-Err c).After-group_row (sizes (goal.at.finish-requires-in-Err c).At-loop-s) _ _ c.in-Err.is S.shape S.state S.start
    S.whole S.lent S.more S.ledger).rest stop.new.counts stop.ensures

pub returns-in-Err : goal.returns-in-Err
returns-in-Err c =
    let finish = c.finish-in-Err in
    let stop = c.stop in
    λ L z S whole lent more B.
    (stops (goal.at.returns-in-Err c).After-group_row (sizes (goal.at.returns-in-Err c).At-loop-s) _ _ c.in-Err.is L z S whole lent more B).ran stop.new.counts
    finish.new.counts finish.result stop.ensures finish.ensures.answer
    finish.ensures.counts

pub finish-requires-2 : goal.finish-requires-2
finish-requires-2 c =
    go_room _ _ _ _ _ _
    _ _ _ _ _ _ _ _ _ _ _ _ _ _ _ _ _ _ (going (goal.at.finish-requires-2 c).At-loop-s) c.requires.0 c.loop-s.s.since (omega
    arith) c.requires.4

pub returns : goal.returns
returns c =
    let finish = c.finish-2 in
    λ L z S whole lent more B.
    go_passed _ _ _ _ _ _
    L _ whole lent more _ _ _ _ _ _ _ _ _ _ _ _ _ (c.loop-s.invariant.6 L z S whole lent more B) c.requires.0 c.loop-s-test.false finish.result finish.new.counts
    finish.ensures.answer finish.ensures.counts
