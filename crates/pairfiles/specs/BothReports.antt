-- The reports of two kernels at the front of an output, and how much of a common file decides them. Assumes nothing.
use Rattle.std.specs.Prelude.{◌≡◌, List, ◌++◌, ℕ, ◌≤◌, length}
use Rattle.spec.specs.Limits.{pair_output}
use Rattle.spec.specs.Entries.{over}
use Rattle.spec.specs.PairFiles.{pair_prints}

pub record BothReported (filter trigger common output : List ℕ) (r : ℕ) (output' : List ℕ) : Type 0 where
  pub long : r ≡ length (pair_prints filter trigger common)
  pub written : output' ≡ over (pair_prints filter trigger common) output
  pub fits : r ≤ pair_output

-- Whoever has read 4,119 bytes of a common file need not read on: whatever follows them, the same is printed.
abbrev pub CutShort : (filter trigger common : List ℕ) → Type 0
CutShort filter trigger common = 4119 ≤ length common → (more : List ℕ) → pair_prints filter trigger (common ++ more) ≡ pair_prints filter trigger common
