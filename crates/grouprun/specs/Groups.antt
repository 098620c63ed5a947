-- The run of one group of a launch: the states that it can start from, and what it leaves in its buffers. Assumes nothing.
use Rattle.std.specs.Prelude.{◌≡◌, List, [], ◌++◌, true, false, ℕ, ◌+◌, ◌-◌, ◌≤◌, get_or, replicate}
use Rattle.spec.specs.declared.Verdict.TheVariants.{Passed}
use Rattle.spec.specs.Limits.{registers}
use Rattle.spec.specs.Access.{Mode}
use Rattle.spec.specs.Mask.{has}
use Rattle.spec.specs.Log.{empty_log, log_words}
use Rattle.spec.specs.GroupLog.{group_masks_of, group_words}
use Rattle.spec.specs.Shape.{Shape}
use Rattle.spec.specs.Table.{rows_of}
use Rattle.spec.specs.LockStep.{LockState, LockResult, run_from}
use Rattle.spec.specs.Intervals.{Interval, Intervals, started, intervals_from}
use Rattle.spec.specs.Entries.{over}
use Rattle.layout.specs.Views.{part, log_part, own_from, global_from, Sized}
use Rattle.layout.specs.Shared.{group_part}
use Rattle.banks.specs.Counting.{Older}
use Rattle.banks.specs.Remembering.{Memo}
use Rattle.intervals.specs.Records.{Ledger}
use Rattle.grouprun.specs.declared.Ended.{Ended}

-- A group starts at row 0 with all its threads enabled and all registers zero. Nothing is logged of the cells that it can name, and it has not entered
-- the group masks. The buffers hold its own cells, the global ones and their group masks.
pub record GroupStart (n group rows barriers : ℕ) (common cells global masks : List ℕ) (L : Shape) (z : LockState) : Type 0 where
  pub threads_are : L.threads ≡ n
  pub group_is : L.group ≡ group
  pub groups_few : L.groups ≤ 8
  pub common_are : L.common ≡ common
  pub sized : Sized L z
  pub row_is_lem : z.row ≡ 0
  pub enabled_is_lem : z.enabled ≡ replicate L.threads true
  pub saved_is : z.saved ≡ []
  pub regs_are : z.regs ≡ replicate L.threads (replicate registers 0)
  pub steps_are : z.steps ≡ replicate L.threads 0
  pub own_log : log_part (own_from L) L.cells z.log ≡ empty_log L.threads L.cells
  pub global_log : log_part (global_from L) L.global z.log ≡ empty_log L.threads L.global
  pub unentered : (m : Mode) (i : ℕ) → has (get_or (group_masks_of z.group_log m) i []) L.group ≡ false
  pub cells_are : cells ≡ part (own_from L) L.cells z.cells
  pub global_are : global ≡ part (global_from L) L.global z.cells
  pub masks_are : masks ≡ group_words (group_part (global_from L) L.global z.group_log)
  pub rows_is : rows ≡ z.rows
  pub barriers_is : barriers ≡ z.barriers

-- What the run leaves of the state in which the definition's result o has ended.
pub record GroupEnd (limit : ℕ) (L : Shape) (o : LockResult) (r : Ended) (cells log global shared masks counts stamps memo : List ℕ) : Type 0 where
  pub verdict_is : r.verdict ≡ o.verdict
  pub row_is_lem : r.row ≡ o.state.row
  pub rows_is : r.rows ≡ o.state.rows
  pub barriers_is : r.barriers ≡ o.state.barriers
  pub sized : Sized L o.state
  pub cells_are : cells ≡ part (own_from L) L.cells o.state.cells
  pub log_is : log ≡ log_words (log_part (own_from L) L.cells o.state.log)
  pub global_are : global ≡ part (global_from L) L.global o.state.cells
  pub shared_is : shared ≡ log_words (log_part (global_from L) L.global o.state.log)
  pub masks_are : masks ≡ group_words (group_part (global_from L) L.global o.state.group_log)
  pub counts_are : counts ≡ over o.state.steps (replicate 32 0)
  pub row_few : r.row ≤ 256
  pub rows_most : r.rows ≤ limit
  pub barriers_few : r.barriers ≤ r.rows
  pub older : o.verdict ≡ Passed → Older (r.rows + 1) stamps
  pub remembered : Memo memo

-- Intervals with those of later groups behind them.
unfoldable pub followed : Intervals → List Interval → Intervals
followed is more = record { first = is.first; later = is.later ++ more }

-- What is left after the run, from every state that the buffers stood for: the lent list, which stood for the intervals of this group and of later ones,
-- stands for what is left of them, this group's last one and those of later groups.
abbrev pub GroupRan : (table : List ℕ) → (n group limit rows barriers : ℕ) → (common cells global masks records : List ℕ) → Ended
    → (cells' log' global' shared' masks' records' counts' stamps' memo' : List ℕ) → Type 0
GroupRan table n group limit rows barriers common cells global masks records r cells' log' global' shared' masks' records' counts' stamps' memo' =
    (L : Shape) (z : LockState) → GroupStart n group rows barriers common cells global masks L z
    → (whole : List Interval) (lent : List ℕ) (more : List Interval)
    → Ledger whole lent (followed (intervals_from (rows_of table) L (limit - rows) z) more) (barriers + group) rows records
    → GroupEnd limit L (run_from (rows_of table) L (limit - rows) z) r cells' log' global' shared' masks' counts' stamps' memo'
    × ((x : ℕ) × Ledger whole lent (followed (started x) more) (r.barriers + group) r.rows records')

-- Some state of a launch stands in the buffers, and the lent list for its intervals.
pub record SomeStart (table : List ℕ) (n group limit rows barriers : ℕ) (common cells global masks records : List ℕ) : Type 0 where
  pub shape : Shape
  pub state : LockState
  pub start : GroupStart n group rows barriers common cells global masks shape state
  pub whole : List Interval
  pub lent : List ℕ
  pub more : List Interval
  pub ledger : Ledger whole lent (followed (intervals_from (rows_of table) shape (limit - rows) state) more) (barriers + group) rows records
