-- What follows a group's turn: whether another group runs, and what the end of a launch asks and leaves. Assumes nothing.
use Rattle.std.specs.Prelude.{◌≡◌, Bool, true, false, List, ◌⊎◌, ℕ, ◌+◌, ◌*◌, ◌<◌, ◌≤◌, length}
use Rattle.spec.specs.declared.Outcome.{Outcome}
use Rattle.spec.specs.declared.Verdict.{Verdict}
use Rattle.spec.specs.Answers.{is_passed}
use Rattle.spec.specs.Limits.{log_per_cell, groups_per_cell}
use Rattle.intervals.specs.Records.{in_use, ended, costs_up_to, EndAsks}
use Rattle.placing.specs.Kinds.{kinds_placed}
use Rattle.grouprun.specs.declared.Ended.{Ended}

-- Whether another group runs behind group g with this verdict.
pub record GoesOn (v : Verdict) (g groups : ℕ) (on : Bool) : Type 0 where
  pub more : on ≡ true → (is_passed v ≡ true) × (g + 1 < groups)
  pub over : on ≡ false → (is_passed v ≡ false) ⊎ (groups ≤ g + 1)

-- The end of a launch, after the last group's turn: the log of the global cells, from place `at` on, and their group masks are put into the launch's.
pub record CloseAsks (group k total at : ℕ) (log shared masks records : List ℕ) (r : Ended) : Type 0 where
  pub few_groups_lem : group < 8
  pub row_few : r.row ≤ 256
  pub barriers_few : r.barriers ≤ 1000000
  pub log_sized_lem : (log_per_cell + groups_per_cell) * total ≤ length log
  pub within : at + k ≤ total
  pub total_few : total ≤ 1024
  pub shared_sized : length shared ≡ log_per_cell * k
  pub masks_sized : length masks ≡ groups_per_cell * k
  pub ends : EndAsks (r.barriers + group) r.rows records

abbrev pub placed_log : (total at k : ℕ) → (log shared masks : List ℕ) → List ℕ
placed_log total at k log shared masks = kinds_placed log_per_cell total at k groups_per_cell masks (kinds_placed 0 total at k log_per_cell shared log)

pub record Closed (group k total at : ℕ) (log shared masks records : List ℕ) (r : Ended) (q : Outcome) (log' records' : List ℕ) : Type 0 where
  pub log_is : log' ≡ placed_log total at k log shared masks
  pub records_are : records' ≡ ended (in_use (r.barriers + group)) r.rows records
  pub outcome_is : q ≡ record {
    verdict = r.verdict;
    row = r.row;
    group = group;
    rows = r.rows;
    barriers = r.barriers;
    conflicts = costs_up_to (in_use (r.barriers + group) + 1) records';
  }
