-- A group's turn in the buffers of the launch: what it asks, and what it comes to. Assumes nothing.
use Rattle.std.specs.Prelude.{◌≡◌, List, ℕ, ◌+◌, ◌*◌, ◌<◌, ◌≤◌, length, take}
use Rattle.spec.specs.Limits.{log_per_cell, max_common, records_lent, groups_per_cell}
use Rattle.layout.specs.Running.{Runnable}
use Rattle.layout.specs.Views.{part, put_part}
use Rattle.banks.specs.Counting.{Older}
use Rattle.banks.specs.Remembering.{Memo}
use Rattle.placing.specs.Kinds.{kinds_placed}
use Rattle.grouprun.specs.declared.Ended.{Ended}
use Rattle.grouprun.specs.Groups.{GroupRan, SomeStart}

-- What a group's turn asks: `own` is the log of its own cells while it runs. Its first cell is at place group * k among all, its first thread at group * n.
pub record TurnAsks (table ends : List ℕ) (n group limit rows barriers k total : ℕ)
    (common cells global log own shared masks records stamps memo : List ℕ) : Type 0 where
  pub runnable : Runnable table ends
  pub some_threads : 1 ≤ n
  pub few_threads_lem : n ≤ 32
  pub few_groups_lem : group < 8
  pub few_rows_lem : limit ≤ 1000000
  pub rows_most : rows ≤ limit
  pub barriers_few : barriers ≤ rows
  pub cells_in : group * k + k ≤ length cells
  pub cells_few : length cells + length global ≤ total
  pub total_few : total ≤ 1024
  pub common_few : length common ≤ max_common
  pub threads_in : group * n + n ≤ 256
  pub log_sized_lem : (log_per_cell + groups_per_cell) * total ≤ length log
  pub own_sized : length own ≡ log_per_cell * k
  pub shared_sized : length shared ≡ log_per_cell * length global
  pub masks_sized : length masks ≡ groups_per_cell * length global
  pub lent : records_lent ≤ length records
  pub older : Older (rows + 1) stamps
  pub remembered : Memo memo
  pub start : SomeStart table n group limit rows barriers common (part (group * k) k cells) global masks records

-- What it comes to: the group's run over its stretch of the cells; its log and its steps are put to their places in the launch's.
pub record TurnDone (table : List ℕ) (n group limit rows barriers k total : ℕ) (common cells global log masks records steps : List ℕ) (r : Ended)
    (cells' global' log' own' shared' masks' records' counts' steps' stamps' memo' : List ℕ) : Type 0 where
  pub ran : GroupRan table n group limit rows barriers common (part (group * k) k cells) global masks records r
      (part (group * k) k cells') own' global' shared' masks' records' counts' stamps' memo'
  pub cells_are : cells' ≡ put_part (group * k) (part (group * k) k cells') cells
  pub log_is : log' ≡ kinds_placed 0 total (group * k) k log_per_cell own' log
  pub steps_are : steps' ≡ put_part (group * n) (take n counts') steps
