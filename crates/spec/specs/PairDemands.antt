-- Demand 3 of two kernels resident together, of the bytes of their two reports. Document 02, item 12. Assumes nothing.
use Rattle.std.specs.Prelude.{◌≡◌, ◌↔◌, List, ◌++◌, true, false, ℕ}
use Rattle.spec.specs.Launch.{Launch}
use Rattle.spec.specs.LaunchFile.{accepted}
use Rattle.spec.specs.Reading.{begins_with, EndsOnce, Readable}
use Rattle.spec.specs.Entries.{subject_of}
use Rattle.spec.specs.Demands.{RunsEndWell, PassedReport, CheckedDemand3}
use Rattle.spec.specs.PairRuns.{Alternating, PairEndsWell, PairSays}
use Rattle.spec.specs.PairFiles.{kernel_launch, kernel_prints}

-- Two reports that begin with `verdict=passed`: every run of both ends well, and what the lines of each say of it is what every run of both comes to.
pub record PassedPair (F G : Launch) (first second : List ℕ) : Type 0 where
  pub filter : PassedReport F first
  pub trigger : PassedReport G second
  pub runs : PairEndsWell F G
  pub says : PairSays F G filter.steps filter.barriers (filter.own ++ filter.global) trigger.steps trigger.barriers (trigger.own ++ trigger.global)

-- The reports of two accepted kernels.
pub record PairReport (F G : Launch) (first second : List ℕ) : Type 0 where
  pub alternating : Alternating F G
  -- every run of both ends well exactly when every run of each does
  pub well : PairEndsWell F G ↔ (RunsEndWell F × RunsEndWell G)
  -- so, where neither is spent, both are passed exactly when every run of both ends well
  pub exactly : begins_with "verdict=spent" first ≡ false → begins_with "verdict=spent" second ≡ false
      → ((begins_with "verdict=passed" first ≡ true) × (begins_with "verdict=passed" second ≡ true)) ↔ PairEndsWell F G
  -- one that is neither passed nor spent is enough for a run of both that does not end well, whatever the other is
  pub fails₁ : begins_with "verdict=spent" first ≡ false → begins_with "verdict=passed" first ≡ false → PairEndsWell F G → ⊥
  pub fails₂ : begins_with "verdict=spent" second ≡ false → begins_with "verdict=passed" second ≡ false → PairEndsWell F G → ⊥
  pub passed : begins_with "verdict=passed" first ≡ true → begins_with "verdict=passed" second ≡ true → PassedPair F G first second

-- Two reports one behind the other, as they are taken apart by reading lines until `end=report`, and again from there.
pub record Apart (bytes first second : List ℕ) : Type 0 where
  pub whole : bytes ≡ first ++ second
  pub first_ends : EndsOnce first
  pub second_ends : EndsOnce second

-- What was printed of two kernels' files comes apart, in one way only. Each report is the kernel's own, may be gone by as any other, and has its own
-- demand 3, whatever becomes of the other; and both together speak for every run of both.
pub record PairDemand3 (filter trigger common bytes : List ℕ) : Type 0 where
  pub apart : Apart bytes (kernel_prints filter common) (kernel_prints trigger common)
  pub only : (first second : List ℕ) → Apart bytes first second → (first ≡ kernel_prints filter common) × (second ≡ kernel_prints trigger common)
  pub reads₁ : Readable (subject_of (kernel_launch filter common)) (kernel_prints filter common)
  pub reads₂ : Readable (subject_of (kernel_launch trigger common)) (kernel_prints trigger common)
  pub own₁ : CheckedDemand3 (kernel_launch filter common) (kernel_prints filter common)
  pub own₂ : CheckedDemand3 (kernel_launch trigger common) (kernel_prints trigger common)
  pub together : (F G : Launch) → kernel_launch filter common ≡ accepted F → kernel_launch trigger common ≡ accepted G
      → PairReport F G (kernel_prints filter common) (kernel_prints trigger common)
