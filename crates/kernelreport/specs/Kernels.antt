-- What is printed of what was refused or accepted, at the front of an output. Assumes nothing.
use Rattle.std.specs.Prelude.{◌≡◌, List, ℕ, ◌≤◌, length}
use Rattle.spec.specs.Limits.{file_output}
use Rattle.spec.specs.Launch.{Launch}
use Rattle.spec.specs.LaunchFile.{Checked}
use Rattle.spec.specs.Entries.{over, printed}

pub record KernelReported (found : Checked Launch) (output : List ℕ) (r : ℕ) (output' : List ℕ) : Type 0 where
  pub long : r ≡ length (printed found)
  pub written : output' ≡ over (printed found) output
  pub fits : r ≤ file_output
