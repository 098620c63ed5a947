-- `launchrun::run_groups` meets its contract. Assumes nothing.
use mathlib.Core.Path.{◌≡◌, refl, ap, ◌∙◌, subst}
use mathlib.Core.List.{List, ◌++◌}
use Prim.Native.Nat.{ℕ, ◌-◌}
use native.Mathlib.Omega.{arith}
use lib.ListN.{replicate}
use Rattle.launchrun.specs.Launches.{sizes_by}
use Rattle.launchrun.specs.Launches.{LaunchAsks, Fresh}
use Rattle.launchrun.proofs.Buffers.{Buffers, Kept}
use Rattle.launchrun.proofs.Launching.{Launched}
use Rattle.launchrun.proofs.LaunchStart.{launched_start}
use Rattle.launchrun.proofs.Turns.{Between, Turned, few_groups_lem, turn_asks, barriers_fit, close_asks, closed_is, next_is, release_asks}
use Rattle.launchrun.proofs.run_groups.Goals as goal
use Rattle.launchrun.proofs.run_groups.Goals.{After-turn-ended, At-loop-log, Start}

abbrev buffers : (cells global log own shared masks records counts steps stamps memo : List ℕ) → Buffers
buffers cells global log own shared masks records counts steps stamps memo =
    record {
      cells = cells;
      global = global;
      log = log;
      own = own;
      shared = shared;
      masks = masks;
      records = records;
      counts = counts;
      steps = steps;
      stamps = stamps;
      memo = memo;
    }

-- The buffers as they were lent.
abbrev lent_at : Start → Buffers
lent_at c =
    let a = c.args in
    buffers a.cells.now a.global.now a.log.now a.own.now a.shared.now a.masks.now a.records.now a.counts.now a.steps.now a.costs.now.stamps a.costs.now.memo

-- The start of a group's turn.
abbrev between_by : (table ends common : List ℕ) (n groups k limit g rows barriers : ℕ) (lent at : Buffers)
    → LaunchAsks table ends n groups k limit common lent.cells lent.global lent.log lent.records
    → Fresh k lent.global lent.log lent.own lent.shared lent.masks lent.records lent.steps lent.stamps lent.memo → Kept lent at
    → Launched table (sizes_by n groups k common lent.global) limit (lent.cells ++ lent.global) lent.records (groups - 1 - g) g rows barriers at
    → Between
between_by table ends common n groups k limit g rows barriers lent at asks fresh kept launched =
    record {
      table = table;
      ends = ends;
      n = n;
      groups = groups;
      k = k;
      limit = limit;
      common = common;
      lent = lent;
      asks = asks;
      fresh = fresh;
      left = groups - 1 - g;
      g = g;
      rows = rows;
      barriers = barriers;
      at = at;
      kept = kept;
      launched = launched;
    }

abbrev between : At-loop-log → Between
between c =
    let a = c.args in
    let l = c.loop-log in
    between_by a.kernel.now.table.now a.kernel.now.ends.now a.kernel.now.common.now a.kernel.now.threads a.kernel.now.groups a.kernel.now.each a.kernel.now.limit l.started.group
    l.started.rows l.started.barriers
    (buffers a.cells.now a.global.now a.log.now a.own.now a.shared.now a.masks.now a.records.now a.counts.now a.steps.now a.costs.now.stamps a.costs.now.memo)
    (buffers l.cells l.global l.log l.own l.shared l.masks l.records l.counts l.steps l.costs.stamps l.costs.memo) c.requires.0 c.requires.1 l.invariant.0 l.invariant.1

pub loop-log-init : goal.loop-log-init
loop-log-init c =
    let args = c.args in
    let A = c.requires.0 in
    let F = c.requires.1 in
    let j : args.kernel.now.groups - 1 ≡ args.kernel.now.groups - 1 - 0 = omega arith in (
      record {
        cells_long_lem = refl;
        global_long_lem = refl;
        log_long = refl;
        own_long = refl;
        shared_long = refl;
        masks_long = refl;
        records_long = refl;
      },
      subst (λ i. Launched args.kernel.now.table.now (sizes_by args.kernel.now.threads args.kernel.now.groups args.kernel.now.each args.kernel.now.common.now args.global.now)
          args.kernel.now.limit (args.cells.now ++ args.global.now)
          args.records.now i 0 0 0 (lent_at (goal.at.loop-log-init c).Start)) j
          (launched_start args.kernel.now.table.now (sizes_by args.kernel.now.threads args.kernel.now.groups args.kernel.now.each args.kernel.now.common.now args.global.now)
          args.kernel.now.limit (lent_at (goal.at.loop-log-init c).Start)
          A.some_groups A.few_groups_lem A.cells_are refl args.records.now A.lent (F.log_empty ∙ ap (λ i. replicate i 0) A.log_sized_lem)
          (F.masks_empty ∙ ap (λ i. replicate i 0) F.masks_sized) F.begun_once F.steps_empty F.older F.remembered),
    )

pub turn-ended-requires : goal.turn-ended-requires
turn-ended-requires c = turn_asks (between (goal.at.turn-ended-requires c).At-loop-log)

-- The start of the turn that has been made, and what it has left.
abbrev due : After-turn-ended → Between
due c =
    let a = c.args in
    let l = c.loop-log in
    between_by a.kernel.now.table.now a.kernel.now.ends.now a.kernel.now.common.now a.kernel.now.threads a.kernel.now.groups a.kernel.now.each a.kernel.now.limit l.started.group
    l.started.rows l.started.barriers
    (buffers a.cells.now a.global.now a.log.now a.own.now a.shared.now a.masks.now a.records.now a.counts.now a.steps.now a.costs.now.stamps a.costs.now.memo)
    (buffers l.cells l.global l.log l.own l.shared l.masks l.records l.counts l.steps l.costs.stamps l.costs.memo) c.requires.0 c.requires.1 l.invariant.0 l.invariant.1

abbrev left_by : After-turn-ended → Buffers
left_by c =
    let w = c.turn-ended.new in
    buffers w.cells w.global w.log w.own w.shared w.masks w.records w.counts w.steps w.costs.stamps w.costs.memo

kept : (c : After-turn-ended) → Kept (due c).lent (left_by c)
kept c =
    let N = (due c).kept in
    record {
      cells_long_lem = c.turn-ended.auto.cells ∙ N.cells_long_lem;
      global_long_lem = c.turn-ended.auto.global ∙ N.global_long_lem;
      log_long = c.turn-ended.auto.log ∙ N.log_long;
      own_long = c.turn-ended.auto.own ∙ N.own_long;
      shared_long = c.turn-ended.auto.shared ∙ N.shared_long;
      masks_long = c.turn-ended.auto.masks ∙ N.masks_long;
      records_long = c.turn-ended.auto.records ∙ N.records_long;
    }

abbrev turned : (c : After-turn-ended) → Turned (due c)
turned c = record { ended = c.turn-ended.result; after = left_by c; done = c.turn-ended.ensures; kept = kept c }

pub close-requires : goal.close-requires
close-requires c =
    let over = c.goes_on.ensures.over c.if-not-goes_on.true in
    close_asks (due (goal.at.close-requires c).After-turn-ended) (turned (goal.at.close-requires c).After-turn-ended) over

pub returns-then-not-goes_on : goal.returns-then-not-goes_on
returns-then-not-goes_on c =
    let over = c.goes_on.ensures.over c.if-not-goes_on.true in
    let close = c.close in
    closed_is (due (goal.at.returns-then-not-goes_on c).After-turn-ended) (turned (goal.at.returns-then-not-goes_on c).After-turn-ended) over close.result close.new.log close.new.records close.ensures

pub overflow_add-ended : goal.overflow_add-ended
overflow_add-ended c =
    omega (
      arith,
      few_groups_lem (due (goal.at.overflow_add-ended c).After-turn-ended),
      barriers_fit (due (goal.at.overflow_add-ended c).After-turn-ended)
          (turned (goal.at.overflow_add-ended c).After-turn-ended),
    )

pub release-requires : goal.release-requires
release-requires c = (
  omega (arith, (kept (goal.at.release-requires c).After-turn-ended).records_long, (due (goal.at.release-requires c).After-turn-ended).asks.lent),
  release_asks
      (due (goal.at.release-requires c).After-turn-ended) (turned (goal.at.release-requires c).After-turn-ended),
)

pub loop-log-preserved : goal.loop-log-preserved
loop-log-preserved c =
    let release = c.release in
    let more = c.goes_on.ensures.more c.if-not-goes_on.false in
    let N = kept (goal.at.loop-log-preserved c).After-turn-ended in (
      record {
        cells_long_lem = N.cells_long_lem;
        global_long_lem = N.global_long_lem;
        log_long = N.log_long;
        own_long = N.own_long;
        shared_long = N.shared_long;
        masks_long = N.masks_long;
        records_long = release.auto.records ∙ N.records_long;
      },
      next_is (due (goal.at.loop-log-preserved c).After-turn-ended) (turned (goal.at.loop-log-preserved c).After-turn-ended) more.0 more.1 release.new.records release.ensures,
    )
