-- What running an accepted launch asks of the buffers, what the run leaves in them, and what its report does. Assumes nothing.
use Rattle.std.specs.Prelude.{◌≡◌, List, ℕ, ◌+◌, ◌*◌, ◌≤◌, length, replicate, Result, Ok}
use Rattle.spec.specs.Limits as limits
use Rattle.spec.specs.Limits.{max_threads, max_groups, max_cells, max_limit, max_common, max_launch_threads, file_cells, file_log, file_output}
use Rattle.spec.specs.declared.Outcome.{Outcome}
use Rattle.spec.specs.declared.Refusal.{Refusal}
use Rattle.spec.specs.Intervals.{record_words}
use Rattle.spec.specs.Launch.{Launch, launch_intervals, launch_outcome, launch_steps, launch_log, own_after, global_after}
use Rattle.spec.specs.Entries.{over, bare_launch, launch_report}
use Rattle.layout.specs.Running.{Runnable}
use Rattle.launchrun.specs.Launches.{sizes_by}
use Rattle.filelaunch.specs.declared.Loaded.{Loaded}

-- A launch that can be run.
pub record CanRun (l : Loaded) : Type 0 where
  pub checked : Runnable l.kernel.table.now l.kernel.ends.now
  pub some_thread : 1 ≤ l.kernel.threads
  pub few_threads : l.kernel.threads ≤ max_threads
  pub some_group : 1 ≤ l.kernel.groups
  pub few_groups : l.kernel.groups ≤ max_groups
  pub few_runs : l.kernel.limit ≤ max_limit
  pub few_common : length l.kernel.common.now ≤ max_common
  pub own : length l.cells.now ≡ l.kernel.groups * l.kernel.each
  pub some_cell : 1 ≤ l.kernel.each
  pub few_cells : length l.cells.now + length l.global.now ≤ max_cells

-- Buffers that have room for any.
pub record Lent (cells global log records : List ℕ) : Type 0 where
  pub cells_lent : length cells ≡ file_cells
  pub global_lent : length global ≡ file_cells
  pub log_lent : length log ≡ file_log
  pub records_lent : limits.records_lent ≤ length records

-- The launch that is meant.
abbrev pub launch_of : Loaded → Launch
launch_of l =
    bare_launch l.kernel.table.now (sizes_by l.kernel.threads l.kernel.groups l.kernel.each l.kernel.common.now l.global.now) l.kernel.limit l.cells.now l.global.now

-- The run has left its cells, its log and its records at the front of each buffer.
pub record RanLaunch (launch : Launch) (cells global log records : List ℕ) (r : Outcome) (cells' global' log' records' steps' : List ℕ) : Type 0 where
  pub outcome_is : r ≡ launch_outcome launch
  pub cells_left : cells' ≡ over (own_after launch) cells
  pub global_left : global' ≡ over (global_after launch) global
  pub log_left : log' ≡ over (launch_log launch) log
  pub records_left : records' ≡ over (record_words (launch_intervals launch)) records
  pub steps_left : steps' ≡ over (launch_steps launch) (replicate max_launch_threads 0)

-- There are as many cells as before.
pub record Ran (l : Loaded) (cells global log records : List ℕ) (r : Outcome) (cells' global' log' records' steps' : List ℕ) : Type 0 where
  pub ran : RanLaunch (launch_of l) cells global log records r cells' global' log' records' steps'
  pub own_long : length (own_after (launch_of l)) ≡ length l.cells.now
  pub global_long_lem : length (global_after (launch_of l)) ≡ length l.global.now

pub record ReportedLaunch (launch : Launch) (cells global log records output : List ℕ) (r : Result ℕ Refusal) (cells' global' log' records' output' : List ℕ) : Type 0 where
  pub answered : r ≡ Ok (length (launch_report launch))
  pub cells_left : cells' ≡ over (own_after launch) cells
  pub global_left : global' ≡ over (global_after launch) global
  pub log_left : log' ≡ over (launch_log launch) log
  pub records_left : records' ≡ over (record_words (launch_intervals launch)) records
  pub report_written : output' ≡ over (launch_report launch) output
  pub fits : length (launch_report launch) ≤ file_output

abbrev pub Reported : Loaded → (cells global log records output : List ℕ) → (r : Result ℕ Refusal) → (cells' global' log' records' output' : List ℕ) → Type 0
Reported l = ReportedLaunch (launch_of l)
