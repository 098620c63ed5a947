-- The report that a launch leaves which is run on buffers of its own. Assumes nothing.
use Rattle.std.specs.Prelude.{◌≡◌, List, ℕ, ◌≤◌, length}
use Rattle.spec.specs.Limits.{file_output}
use Rattle.spec.specs.Launch.{Launch}
use Rattle.spec.specs.Entries.{over, launch_report}
use Rattle.filelaunch.specs.declared.Loaded.{Loaded}
use Rattle.filerun.specs.Launches.{launch_of}

pub record ReportIs (launch : Launch) (output : List ℕ) (r : ℕ) (output' : List ℕ) : Type 0 where
  pub long : r ≡ length (launch_report launch)
  pub written : output' ≡ over (launch_report launch) output
  pub fits : r ≤ file_output

abbrev pub OwnReport : Loaded → (output : List ℕ) → (r : ℕ) → (output' : List ℕ) → Type 0
OwnReport l = ReportIs (launch_of l)
