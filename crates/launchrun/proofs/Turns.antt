-- A group's turn in the launch's buffers: what it asks, and what is done with what it leaves. Assumes nothing.
use mathlib.Core.Path.{◌≡◌, sym, ◌∙◌, ap, subst}
use mathlib.Core.Logic.{◌⊎◌, inl, inr}
use mathlib.Core.List.{List, [], ◌++◌}
use mathlib.Core.Bool.{true, false}
use Prim.Native.Nat.{ℕ, suc, ◌+◌, ◌-◌, ◌*◌, ◌<◌, ◌≤◌}
use native.Mathlib.Omega.{arith}
use lib.ListN.{length, get_or}
use Rattle.spec.specs.Answers.{is_passed}
use Rattle.spec.specs.Limits.{log_per_cell, groups_per_cell}
use Rattle.spec.specs.Shape.{Sizes}
use Rattle.spec.specs.Table.{rows_of}
use Rattle.spec.specs.LaunchRun.{group_result}
use Rattle.allruns.proofs.LaunchCounts.{run_at}
use Rattle.intervals.specs.Records.{in_use, released}
use Rattle.grouprun.specs.declared.Ended.{Ended}
use Rattle.groupturn.specs.Turns.{TurnAsks, TurnDone}
use Rattle.spec.specs.declared.Outcome.{Outcome}
use Rattle.launchend.specs.Ends.{CloseAsks, Closed}
use Rattle.launchrun.specs.Launches.{LaunchAsks, LaunchIs, Fresh, sizes_by}
use Rattle.launchrun.proofs.Buffers.{Buffers, with_records, Kept}
use Rattle.launchrun.proofs.Launching.{Launched, later, later_over, some_start, place_in, threads_in, ending, ledger_began, launched_next, close_ends, launched_end}

-- A launch between two turns: what it was asked with the buffers as they were lent, and how they stand now that group g is to start.
pub record Between : Type 0 where
  pub table : List ℕ
  pub ends : List ℕ
  pub n : ℕ
  pub groups : ℕ
  pub k : ℕ
  pub limit : ℕ
  pub common : List ℕ
  pub lent : Buffers
  pub asks : LaunchAsks table ends n groups k limit common lent.cells lent.global lent.log lent.records
  pub fresh : Fresh k lent.global lent.log lent.own lent.shared lent.masks lent.records lent.steps lent.stamps lent.memo
  pub left : ℕ
  pub g : ℕ
  pub rows : ℕ
  pub barriers : ℕ
  pub at : Buffers
  pub kept : Kept lent at
  pub launched : Launched table (sizes_by n groups k common lent.global) limit (lent.cells ++ lent.global) lent.records left g rows barriers at

abbrev pub sizes : Between → Sizes
sizes B = sizes_by B.n B.groups B.k B.common B.lent.global

abbrev pub cell_count : Between → ℕ
cell_count B = length B.lent.cells + length B.lent.global

-- What its turn has left.
pub record Turned (B : Between) : Type 0 where
  pub ended : Ended
  pub after : Buffers
  pub done : TurnDone B.table B.n B.g B.limit B.rows B.barriers B.k (cell_count B)
      B.common B.at.cells B.at.global B.at.log B.at.masks B.at.records B.at.steps ended
      after.cells after.global after.log after.own after.shared after.masks after.records after.counts after.steps after.stamps after.memo
  pub kept : Kept B.lent after

module _ (B : Between) where
  count_is : cell_count B ≡ B.groups * B.k + length B.lent.global
  count_is = ap (λ c. c + length B.lent.global) B.asks.cells_are

  pub few_groups_lem : B.g < 8
  few_groups_lem = omega (arith, B.launched.behind, B.asks.few_groups_lem)

  pub turn_asks : TurnAsks B.table B.ends B.n B.g B.limit B.rows B.barriers B.k (cell_count B)
      B.common B.at.cells B.at.global B.at.log B.at.own B.at.shared B.at.masks B.at.records B.at.stamps B.at.memo
  turn_asks =
      let A = B.asks in
      let N = B.kept in
      let P = B.launched in
      record {
        runnable = A.runnable;
        some_threads = A.some_threads;
        few_threads_lem = A.few_threads_lem;
        few_groups_lem = few_groups_lem;
        few_rows_lem = A.few_rows_lem;
        rows_most = P.rows_most;
        barriers_few = P.barriers_few;
        cells_in = place_in B.table (sizes B) B.limit (B.lent.cells ++ B.lent.global) B.lent.records B.left B.g B.rows B.barriers B.at P;
        cells_few = omega (arith, N.cells_long_lem, N.global_long_lem);
        total_few = omega (arith, count_is, A.total_few);
        common_few = A.common_few;
        threads_in = threads_in B.table (sizes B) B.limit (B.lent.cells ++ B.lent.global) B.lent.records B.left B.g B.rows B.barriers B.at P
            A.few_groups_lem A.few_threads_lem;
        log_sized_lem = omega (arith, N.log_long, A.log_sized_lem, count_is);
        own_sized = N.own_long ∙ B.fresh.own_sized;
        shared_sized = N.shared_long ∙ B.fresh.shared_sized ∙ ap (λ c. log_per_cell * c) (sym N.global_long_lem);
        masks_sized = N.masks_long ∙ B.fresh.masks_sized ∙ ap (λ c. groups_per_cell * c) (sym N.global_long_lem);
        lent = omega (arith, N.records_long, A.lent);
        older = P.older;
        remembered = P.remembered;
        start = some_start B.table (sizes B) B.limit (B.lent.cells ++ B.lent.global) B.lent.records B.left B.g B.rows B.barriers B.at P;
      }

  module _ (D : Turned B) where
    rows_few : (D.ended.row ≤ 256) × (D.ended.rows ≤ B.limit) × (D.ended.barriers ≤ D.ended.rows)
    rows_few =
        let E = ending B.table (sizes B) B.limit (B.lent.cells ++ B.lent.global) B.lent.records B.left B.g B.rows B.barriers B.at B.launched
        (cell_count B) count_is D.ended D.after D.done in
        (E.row_few, E.rows_most, E.barriers_few)

    pub barriers_fit : D.ended.barriers ≤ 1000000
    barriers_fit = omega (arith, rows_few.1, rows_few.2, B.asks.few_rows_lem)

    same_verdict : D.ended.verdict ≡ (group_result (rows_of B.table) B.limit (run_at (sizes B) B.g B.launched.state)).verdict
    same_verdict =
        (ending B.table (sizes B) B.limit (B.lent.cells ++ B.lent.global) B.lent.records B.left B.g B.rows B.barriers B.at B.launched
        (cell_count B) count_is D.ended D.after D.done).verdict_is

    -- the launch ends here
    module _ (over : (is_passed D.ended.verdict ≡ false) ⊎ (B.groups ≤ B.g + 1)) where
      none_later : later (rows_of B.table) (sizes B) B.limit B.left B.g B.launched.state ≡ []
      none_later = later_over (rows_of B.table) (sizes B) B.limit B.left B.g B.launched.state (by over)
        where
          by : (is_passed D.ended.verdict ≡ false) ⊎ (B.groups ≤ B.g + 1)
              → (is_passed (group_result (rows_of B.table) B.limit (run_at (sizes B) B.g B.launched.state)).verdict ≡ false) ⊎ (B.left ≡ 0)
          by (inl e) = inl (ap is_passed (sym same_verdict) ∙ e)
          by (inr h) = inr (omega (arith, B.launched.behind))

      pub close_asks : CloseAsks B.g (length B.lent.global) (cell_count B) (length B.lent.cells) D.after.log D.after.shared D.after.masks D.after.records D.ended
      close_asks =
          let A = B.asks in
          let N = D.kept in
          record {
            few_groups_lem = few_groups_lem;
            row_few = rows_few.0;
            barriers_few = barriers_fit;
            log_sized_lem = omega (arith, N.log_long, A.log_sized_lem, count_is);
            within = omega arith;
            total_few = omega (arith, count_is, A.total_few);
            shared_sized = N.shared_long ∙ B.fresh.shared_sized;
            masks_sized = N.masks_long ∙ B.fresh.masks_sized;
            ends = close_ends B.table (sizes B) B.limit (B.lent.cells ++ B.lent.global) B.lent.records B.left B.g B.rows B.barriers B.at B.launched
                (cell_count B) count_is D.ended D.after D.done none_later (omega (arith, N.records_long, A.lent)) A.few_rows_lem;
          }

      pub closed_is : (q : Outcome) (log'' records'' : List ℕ)
          → Closed B.g (length B.lent.global) (cell_count B) (length B.lent.cells) D.after.log D.after.shared D.after.masks D.after.records D.ended q log'' records''
          → LaunchIs B.table (sizes B) B.limit (B.lent.cells ++ B.lent.global) B.lent.records q D.after.cells D.after.global log'' records'' D.after.steps
      closed_is q log'' records'' C =
          launched_end B.table (sizes B) B.limit (B.lent.cells ++ B.lent.global) B.lent.records B.left B.g B.rows B.barriers B.at B.launched
          (cell_count B) count_is D.ended D.after D.done none_later B.asks.few_groups_lem B.asks.few_threads_lem q log'' records''
          (subst (λ p. Closed B.g (length B.lent.global) (cell_count B) p D.after.log D.after.shared D.after.masks D.after.records D.ended q log'' records'')
          B.asks.cells_are C)

    -- the next group follows
    pub next_is : is_passed D.ended.verdict ≡ true → B.g + 1 < B.groups
        → (records'' : List ℕ) → records'' ≡ released (D.ended.barriers + B.g) 0 D.ended.rows D.after.records
        → Launched B.table (sizes B) B.limit (B.lent.cells ++ B.lent.global) B.lent.records (B.groups - 1 - (B.g + 1)) (B.g + 1)
        D.ended.rows D.ended.barriers (with_records D.after records'')
    next_is pass more records'' e =
        subst (λ i. Launched B.table (sizes B) B.limit (B.lent.cells ++ B.lent.global) B.lent.records (B.groups - 1 - (B.g + 1)) i
        D.ended.rows D.ended.barriers (with_records D.after records'')) (let y : suc B.g ≡ B.g + 1 = omega arith in y)
        (launched_next B.table (sizes B) B.limit (B.lent.cells ++ B.lent.global) B.lent.records B.left B.g B.rows B.barriers B.at B.launched
        (cell_count B) count_is D.ended D.after D.done (B.groups - 1 - (B.g + 1)) (omega (arith, B.launched.behind)) (ap is_passed (sym same_verdict) ∙ pass)
        B.asks.few_groups_lem B.asks.few_threads_lem records'' e)

    -- what the release of its interval asks
    pub release_asks : get_or D.after.records (in_use (D.ended.barriers + B.g) * 3 + 1) 0 ≤ D.ended.rows
    release_asks =
        ledger_began B.table (sizes B) B.limit (B.lent.cells ++ B.lent.global) B.lent.records B.left B.g B.rows B.barriers B.at B.launched
        (cell_count B) count_is D.ended D.after D.done
