-- The lock-step run of a launch over lent buffers: what it asks, and what it leaves. Assumes nothing.
use Rattle.std.specs.Prelude.{◌≡◌, List, ◌++◌, ℕ, ◌+◌, ◌*◌, ◌≤◌, length, replicate}
use Rattle.spec.specs.declared.Outcome.{Outcome}
use Rattle.spec.specs.Limits.{log_per_cell, max_common, records_lent, groups_per_cell, max_launch_threads}
use Rattle.spec.specs.Shape.{Sizes, sizes, with_common}
use Rattle.spec.specs.Table.{rows_of}
use Rattle.spec.specs.LockStep.{outcome_of}
use Rattle.spec.specs.LaunchRun.{last_group, lockstep, steps_by_launch}
use Rattle.spec.specs.Launch.{Launch, all_log_words, launch_outcome, launch_intervals, launch_steps, launch_log, own_after, global_after}
use Rattle.spec.specs.Intervals.{interval_records, record_words, conflicts_of}
use Rattle.spec.specs.Entries.{over}
use Rattle.layout.specs.Running.{Runnable}
use Rattle.banks.specs.Counting.{Older}
use Rattle.banks.specs.Remembering.{Memo}
use Rattle.intervals.specs.Records.{begun}

-- What a launch asks, and what it leaves: all is that of the lock-step run of its groups. All cells are the own ones and then the global ones.
pub record LaunchAsks (table ends : List ℕ) (n groups k limit : ℕ) (common cells global log records : List ℕ) : Type 0 where
  pub runnable : Runnable table ends
  pub some_threads : 1 ≤ n
  pub few_threads_lem : n ≤ 32
  pub some_groups : 1 ≤ groups
  pub few_groups_lem : groups ≤ 8
  pub few_rows_lem : limit ≤ 1000000
  pub cells_are : length cells ≡ groups * k
  pub total_few : groups * k + length global ≤ 1024
  pub common_few : length common ≤ max_common
  pub log_sized_lem : length log ≡ (log_per_cell + groups_per_cell) * (groups * k + length global)
  pub lent : records_lent ≤ length records

pub record LaunchIs (table : List ℕ) (Z : Sizes) (limit : ℕ) (all lent : List ℕ) (r : Outcome) (cells global log records steps : List ℕ) : Type 0 where
  pub outcome_is : r ≡ outcome_of (lockstep (rows_of table) Z all limit) (last_group (rows_of table) Z all limit) (conflicts_of (interval_records (rows_of table) Z all limit))
  pub cells_are : cells ++ global ≡ (lockstep (rows_of table) Z all limit).state.cells
  pub log_is : log ≡ all_log_words (lockstep (rows_of table) Z all limit).state
  pub records_are : records ≡ over (record_words (interval_records (rows_of table) Z all limit)) lent
  pub steps_are : steps ≡ over (steps_by_launch (rows_of table) Z all limit) (replicate 256 0)

-- The sizes of a launch, by its numbers, the common cells and its global ones.
abbrev pub sizes_by : (n groups k : ℕ) → (common global : List ℕ) → Sizes
sizes_by n groups k common global = with_common common (sizes n k groups (length global))

-- The buffers at the launch: nothing is logged or counted, and the first record is begun.
pub record Fresh (k : ℕ) (global log own shared masks records steps stamps memo : List ℕ) : Type 0 where
  pub log_empty : log ≡ replicate (length log) 0
  pub own_sized : length own ≡ log_per_cell * k
  pub shared_sized : length shared ≡ log_per_cell * length global
  pub masks_sized : length masks ≡ groups_per_cell * length global
  pub masks_empty : masks ≡ replicate (length masks) 0
  pub begun_once : records ≡ begun 0 0 0 records
  pub steps_empty : steps ≡ replicate 256 0
  pub older : Older 1 stamps
  pub remembered : Memo memo

-- The same, as the definitions say it of a launch.
pub record RunIs (launch : Launch) (lent : List ℕ) (r : Outcome) (cells global log records steps : List ℕ) : Type 0 where
  pub outcome_is : r ≡ launch_outcome launch
  pub cells_are : cells ≡ own_after launch
  pub global_are : global ≡ global_after launch
  pub log_is : log ≡ launch_log launch
  pub records_are : records ≡ over (record_words (launch_intervals launch)) lent
  pub steps_are : steps ≡ over (launch_steps launch) (replicate max_launch_threads 0)
