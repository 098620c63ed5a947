-- A launch, and all that its lock-step run comes to: what every entry answers and leaves is taken from here. Document 02, item 7. Assumes nothing.
use Rattle.std.specs.Prelude.{List, ◌++◌, ℕ, take, drop}
use Rattle.spec.specs.Answers.{Outcome}
use Rattle.spec.specs.Table.{Table}
use Rattle.spec.specs.Shape.{Sizes, all_own}
use Rattle.spec.specs.Log.{log_words}
use Rattle.spec.specs.GroupLog.{group_words}
use Rattle.spec.specs.LockStep.{LockState, LockResult, outcome_of}
use Rattle.spec.specs.LaunchRun.{lockstep, last_group, steps_by_launch}
use Rattle.spec.specs.Intervals.{Interval, interval_records, conflicts_of}

-- What a launch is: its sizes, its limit, its table and the words in its cells, the own ones of group 0, of group 1 and so on, then the global ones.
pub record Launch : Type 0 where
  pub sizes : Sizes
  pub limit : ℕ
  pub table : Table
  pub cells : List ℕ

-- Its run, the records of its intervals, and what it comes to.
unfoldable pub launch_run : Launch → LockResult
launch_run launch = lockstep launch.table launch.sizes launch.cells launch.limit

unfoldable pub launch_intervals : Launch → List Interval
launch_intervals launch = interval_records launch.table launch.sizes launch.cells launch.limit

unfoldable pub launch_outcome : Launch → Outcome
launch_outcome launch =
    outcome_of (launch_run launch) (last_group launch.table launch.sizes launch.cells launch.limit) (conflicts_of (launch_intervals launch))

-- The steps of each thread, by launch number.
unfoldable pub launch_steps : Launch → List ℕ
launch_steps launch = steps_by_launch launch.table launch.sizes launch.cells launch.limit

-- Of all cells: the groups' own ones, and the global ones.
unfoldable pub own_part : Sizes → List ℕ → List ℕ
own_part Z cells = take (all_own Z) cells

unfoldable pub global_part : Sizes → List ℕ → List ℕ
global_part Z cells = drop (all_own Z) cells

-- The cells as the run leaves them.
unfoldable pub own_after : Launch → List ℕ
own_after launch = own_part launch.sizes (launch_run launch).state.cells

unfoldable pub global_after : Launch → List ℕ
global_after launch = global_part launch.sizes (launch_run launch).state.cells

-- The words of a log, kind by kind: readers, writers, adders, values, marks, and then the group masks. In each kind the cells are in their order.
unfoldable pub all_log_words : LockState → List ℕ
all_log_words s = log_words s.log ++ group_words s.group_log

unfoldable pub launch_log : Launch → List ℕ
launch_log launch = all_log_words (launch_run launch).state
