-- Item 12, the program pair: the common file, and what is printed of two kernels' files. Assumes nothing.
use Rattle.std.specs.Prelude.{List, ◌++◌, ℕ, leb, length, Result}
use Rattle.std.proofs.Math.Option.{Option}
use Rattle.spec.specs.Limits.{max_common, pair_output}
use Rattle.spec.specs.Answers.{Refusal, CommonFile, OutputLength, refusal_place, unless}
use Rattle.spec.specs.Shape.{with_common}
use Rattle.spec.specs.Launch.{Launch}
use Rattle.spec.specs.LaunchFile.{Checked, refused, accepted, Read, stop, read, Reader, ◌>>=◌, ◌>>◌, gives, times, due, file_ends, exactly, number, due_number, file_launch}
use Rattle.spec.specs.Entries.{over, kept_if, written_of, printed}

-- The lines of the common file, in their order.
unfoldable pub common_lines : Reader (List ℕ)
common_lines = do
  n ← due_number (record { key = "common"; least = 0; greatest = max_common; refusal = CommonFile 1 })
  cells ← times n (due "cell" number)
  due "end" (exactly "common")
  file_ends
  gives cells

-- Every fault in it is 37, at its line there. A file that can't be opened counts as empty.
unfoldable pub common_checked : Read (List ℕ) → Checked (List ℕ)
common_checked (stop r) = refused (CommonFile (refusal_place r))
common_checked (read cells line rest) = accepted cells

unfoldable pub common_cells : (file : List ℕ) → Checked (List ℕ)
common_cells file = common_checked (common_lines 1 file)

-- A launch over these common cells. No kernel changes them: a store or an add there ends a run badly, and is not made.
abbrev pub sharing : (common : List ℕ) → Launch → Launch
sharing common launch = record { sizes = with_common common launch.sizes; limit = launch.limit; table = launch.table; cells = launch.cells }

-- A kernel's own input comes first, then the common file, which refuses both kernels; and then it runs over the common cells.
unfoldable pub kernel_checked : Checked Launch → Checked (List ℕ) → Checked Launch
kernel_checked (refused r) common = refused r
kernel_checked (accepted launch) (refused r) = refused r
kernel_checked (accepted launch) (accepted common) = accepted (sharing common launch)

unfoldable pub kernel_launch : (file common : List ℕ) → Checked Launch
kernel_launch file common = kernel_checked (file_launch file) (common_cells common)

-- The filter's report, and behind it the trigger's. Neither depends on the other's file.
unfoldable pub kernel_prints : (file common : List ℕ) → List ℕ
kernel_prints file common = printed (kernel_launch file common)

unfoldable pub pair_prints : (filter trigger common : List ℕ) → List ℕ
pair_prints filter trigger common = kernel_prints filter common ++ kernel_prints trigger common

-- The pair's entry is refused for nothing but an output with too little room for two reports: 24. A kernel that is refused has a report that says so.
unfoldable pub pair_refusal : (output : List ℕ) → Option Refusal
pair_refusal output = unless (leb pair_output (length output)) OutputLength

unfoldable pub pair_answer : (filter trigger common output : List ℕ) → Result ℕ Refusal
pair_answer filter trigger common output = written_of (pair_refusal output) (length (pair_prints filter trigger common))

unfoldable pub pair_output_after : (filter trigger common output : List ℕ) → List ℕ
pair_output_after filter trigger common output = kept_if (pair_refusal output) output (over (pair_prints filter trigger common) output)
