-- What a worked launch is, and what the definitions compute for one. Assumes nothing.
use mathlib.Core.List.{List, []}
use Prim.Native.Nat.{ℕ}
use Rattle.spec.specs.Steps.{sum}
use Rattle.spec.specs.Launch.{Launch, launch_intervals, launch_steps, launch_log}
use Rattle.spec.specs.LaunchFile.{Checked, refused, accepted, file_launch}
use Rattle.spec.specs.Intervals.{record_words}
use Rattle.spec.specs.Entries.{printed}

-- A launch file, the report that check prints for it, and the words of the log when the run ends (none where the file is refused).
pub record Worked : Type 0 where
  pub file : List ℕ
  pub report : List ℕ
  pub log : List ℕ

unfoldable pub final_log : Checked Launch → List ℕ
final_log (refused r) = []
final_log (accepted launch) = launch_log launch

unfoldable pub computed : Worked → List ℕ × List ℕ
computed x = let launch = file_launch x.file in (printed launch, final_log launch)

unfoldable pub expected : Worked → List ℕ × List ℕ
expected x = (x.report, x.log)

-- The sum of the counts.
unfoldable pub all_steps : Checked Launch → ℕ
all_steps (refused r) = 0
all_steps (accepted launch) = sum (launch_steps launch)

-- The words of the records.
unfoldable pub final_records : Checked Launch → List ℕ
final_records (refused r) = []
final_records (accepted launch) = record_words (launch_intervals launch)
