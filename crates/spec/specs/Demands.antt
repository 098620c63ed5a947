-- Demand 3, of what the caller of each public entry holds in hand: a bare launch's answer, and the bytes of a report. Assumes nothing.
use Rattle.std.specs.Prelude.{◌≡◌, ◌↔◌, List, [], ◌∷◌, ◌++◌, map, true, false, ℕ, ◌<◌, take, Result, Ok, Err}
use Rattle.std.proofs.Math.Option.{some}
use Rattle.spec.specs.Answers.{Refusal, Outcome}
use Rattle.spec.specs.Shape.{Sizes, all_threads}
use Rattle.spec.specs.LaunchRun.{counted_barriers}
use Rattle.spec.specs.AllRuns.{EveryRunEndsWell, counted_in_all, PassedSays, Demand3}
use Rattle.spec.specs.Launch.{Launch}
use Rattle.spec.specs.LaunchFile.{Checked, accepted, file_launch}
use Rattle.spec.specs.Reading.{begins_with, numbers_at, Readable}
use Rattle.spec.specs.Entries.{bare_launch, subject_of}

-- Of a launch, and what was answered and left of it.
abbrev pub LaunchDemand3 : Launch → Outcome → (steps final : List ℕ) → Type 0
LaunchDemand3 launch o steps final = Demand3 launch.table launch.sizes launch.cells launch.limit o steps final

-- Of a bare launch: of the outcome that it answers, and of both kinds of cells and the step counts as the call leaves them. A refusal speaks of no run.
abbrev pub BareDemand3 : (table : List ℕ) → Sizes → (limit : ℕ) → (lent_cells lent_global : List ℕ) → Result Outcome Refusal → (left left_global counts : List ℕ) → Type 0
BareDemand3 table Z limit lent_cells lent_global (Err why) left left_global counts = Unit {0}
BareDemand3 table Z limit lent_cells lent_global (Ok o) left left_global counts =
    LaunchDemand3 (bare_launch table Z limit lent_cells lent_global) o (take (all_threads Z) counts) (left ++ left_global)

-- Every run of a launch ends well; each group's own cells at its counted barriers.
abbrev pub RunsEndWell : Launch → Type 0
RunsEndWell launch = EveryRunEndsWell launch.table launch.sizes launch.cells

abbrev pub counted_in : Launch → List (List (List ℕ))
counted_in launch = counted_barriers launch.table launch.sizes launch.cells launch.limit

-- What a report that begins with `verdict=passed` says of its launch: every run ends well, and what its own lines say is what every run comes to.
pub record PassedReport (launch : Launch) (report : List ℕ) : Type 0 where
  pub steps : List ℕ
  pub barriers : ℕ
  pub own : List ℕ
  pub global : List ℕ
  pub steps_lines : numbers_at "steps" report ≡ map some steps
  pub barriers_line : numbers_at "barriers" report ≡ some barriers ∷ []
  pub cell_lines : numbers_at "cell" report ≡ map some own
  pub gcell_lines : numbers_at "gcell" report ≡ map some global
  pub runs : RunsEndWell launch
  pub says : PassedSays launch.table launch.sizes launch.cells steps barriers (own ++ global) (counted_in launch)

-- Of the bytes of a report, of what was refused or accepted.
pub record CheckedDemand3 (found : Checked Launch) (report : List ℕ) : Type 0 where
  -- where they begin with `verdict=passed`, a launch was accepted, and the report says this of it
  pub passed : begins_with "verdict=passed" report ≡ true → (launch : Launch) × (found ≡ accepted launch) × PassedReport launch report
  -- where the launch is accepted and not spent, they begin so exactly when every run ends well
  pub exactly : (launch : Launch) → found ≡ accepted launch → begins_with "verdict=spent" report ≡ false
      → begins_with "verdict=passed" report ≡ true ↔ RunsEndWell launch
  -- there are as many counted barriers as the `barriers=` line says, and spent is said only where the `rows=` line says the limit
  pub counted : (launch : Launch) → found ≡ accepted launch → numbers_at "barriers" report ≡ some (counted_in_all (counted_in launch)) ∷ []
  pub spent : (launch : Launch) → found ≡ accepted launch → begins_with "verdict=spent" report ≡ true
      → numbers_at "rows" report ≡ some launch.limit ∷ []

-- Of a file's report.
abbrev pub ReportDemand3 : (file report : List ℕ) → Type 0
ReportDemand3 file report = CheckedDemand3 (file_launch file) report

-- What a loader may go by in the report of a file.
abbrev pub FileReadable : (file report : List ℕ) → Type 0
FileReadable file report = Readable (subject_of (file_launch file)) report

-- Of the report that an entry has written, which stands at the front of its output. A refusal has written none. (Answers for C: length 0.)
abbrev pub OfWritten : (List ℕ → Type 0) → Result ℕ Refusal → (output : List ℕ) → Type 0
OfWritten P (Err why) output = Unit {0}
OfWritten P (Ok size) output = P (take size output)

abbrev pub OfLength : (List ℕ → Type 0) → (size : ℕ) → (output : List ℕ) → Type 0
OfLength P size output = 0 < size → P (take size output)
