-- What a whole file comes to, by its length, its first line and its numbers. Assumes nothing.
use mathlib.Core.Path.{◌≡◌, refl, ◌∙◌}
use mathlib.Core.List.{List}
use mathlib.Core.Bool.{Bool, true, false}
use Prim.Native.Nat.{ℕ, ◌+◌, ◌<◌, ◌≤◌}
use native.Mathlib.Omega.{arith}
use borrow.Author.Tests.{le-leb, lt-leb}
use lib.Dec.{leb}
use lib.ListN.{length, get_or}
use Rattle.spec.specs.Text.{text}
use Rattle.spec.specs.Limits.{max_file, max_cells}
use Rattle.spec.specs.Shape.{all_cells}
use Rattle.spec.specs.Launch.{Launch}
use Rattle.spec.specs.LaunchFile.{stop, Reader, continue, ◌>>=◌, ◌>>◌, require, size_lines, length_lines, sizes_in, limit_in, rows_in, numbers, content_lines, launch_lines}
use Rattle.spec.specs.LaunchFile.{file_launch, checked_table}
use Rattle.spec.specs.declared.Refusal.{Refusal}
use Rattle.spec.specs.declared.Refusal.TheVariants.{LineNotDue, FileTooLong, TooManyCells}
use Rattle.std.specs.Prelude.{Result, Ok, Err}
use Rattle.filelines.specs.Lines.{keyed_value, next_in, line_read}
use Rattle.filelines.specs.Values.{exact_bytes, word_in}
use Rattle.filelines.proofs.DueLines.{due_word}
use Rattle.numberlines.specs.Answered.{all_lines, no_line, lines_from, line_count, lines_behind, answered, NumbersRead}
use Rattle.numberlines.proofs.Limits.{Limited, all_limited}
use Rattle.launchfile.specs.Parsed.{Within, lines_read}

-- What was read of the sizes' lines, and of those behind them.
size_lines_lem : {lines old ns : List ℕ} {r : Result (Unit {0}) Refusal} → NumbersRead (lines_from 0 4) 2 lines old ns r → numbers size_lines 2 lines ≡ answered r ns 6 (lines_behind 4 lines)
unfolding lines_from all_lines size_lines length_lines
size_lines_lem S = S.answer

length_lines_lem : {lines old ns : List ℕ} {r : Result (Unit {0}) Refusal} → NumbersRead (lines_from 4 2) 6 lines old ns r
    → numbers length_lines 6 lines ≡ answered r ns 8 (lines_behind 2 lines)
unfolding lines_from all_lines size_lines length_lines
length_lines_lem L = L.answer

pub too_long : (file : List ℕ) → max_file < length file → lines_read file ≡ stop FileTooLong
unfolding lines_read
too_long file h = rw (lt-leb (length file) max_file h, lines_read)

module _ (file : List ℕ) (h : length file ≤ max_file) (t : Bool) (found : keyed_value (text "kernel") (exact_bytes (text "1")) file ≡ word_in t) where
  begun : lines_read file ≡ launch_lines 1 file
  unfolding lines_read
  begun = rw (le-leb (length file) max_file h, lines_read)

  pub no_kernel : t ≡ false → lines_read file ≡ stop (LineNotDue 1)
  unfolding launch_lines ◌>>=◌ ◌>>◌ continue line_read
  no_kernel f = begun ∙ rw (due_word "kernel" "1" 1 file t found, f)

  -- What follows the sizes.
  abbrev behind_sizes : List ℕ → Reader Launch
  behind_sizes ns =
      require (leb (all_cells (sizes_in ns)) max_cells) (TooManyCells 5)
      >> (numbers length_lines >>= λ ms. content_lines (sizes_in ns) (limit_in ms) (rows_in ms))

  module _ (f : t ≡ true) {lines : List ℕ} (q : lines ≡ next_in file) (old ns : List ℕ) (r : Result (Unit {0}) Refusal) (S : NumbersRead (lines_from 0 4) 2 lines old ns r) where
    sized : lines_read file ≡ continue (answered r ns 6 (lines_behind 4 lines)) behind_sizes
    unfolding launch_lines ◌>>=◌ ◌>>◌ continue line_read
    sized = begun ∙ rw (due_word "kernel" "1" 1 file t found, f, ← q, size_lines_lem S)

    pub size_refused : {why : Refusal} → r ≡ Err why → lines_read file ≡ stop why
    unfolding answered continue
    size_refused e = sized ∙ rw e

    module _ (a : r ≡ Ok tt) (total : ℕ) (e : total ≡ all_cells (sizes_in ns)) where
      pub too_many : max_cells < total → lines_read file ≡ stop (TooManyCells 5)
      unfolding answered continue ◌>>◌ require
      too_many h = sized ∙ rw (a, lt-leb (all_cells (sizes_in ns)) max_cells (omega arith))

      module _ (m : total ≤ max_cells) {behind : List ℕ} (b : behind ≡ lines_behind 4 lines) (before ms : List ℕ) (p : Result (Unit {0}) Refusal)
          (L : NumbersRead (lines_from 4 2) 6 behind before ms p) where
        numbered : lines_read file ≡ continue (answered p ms 8 (lines_behind 2 behind)) (λ ms. content_lines (sizes_in ns) (limit_in ms) (rows_in ms))
        unfolding answered continue ◌>>◌ ◌>>=◌ require
        numbered = sized ∙ rw (a, le-leb (all_cells (sizes_in ns)) max_cells (omega arith), ← b, length_lines_lem L)

        pub length_refused : {why : Refusal} → p ≡ Err why → lines_read file ≡ stop why
        unfolding answered continue
        length_refused u = numbered ∙ rw u

        module _ (u : p ≡ Ok tt) where
          pub numbers_read : {rest : List ℕ} → rest ≡ lines_behind 2 behind
              → lines_read file ≡ content_lines (sizes_in ns) (limit_in ms) (rows_in ms) (2 + line_count) rest
          unfolding answered continue line_count
          numbers_read v = numbered ∙ rw (u, v)

          -- Each number is within the limits of its line, which its place tells.
          pub within : Within (sizes_in ns) (limit_in ms) (rows_in ms)
          unfolding answered size_lines length_lines
          within =
              let size : (i : ℕ) → Limited (get_or size_lines i no_line) (get_or ns i 0) =
              all_limited size_lines 2 lines ns 6 (lines_behind 4 lines) (rw (size_lines_lem S, a)) in
              let count : (i : ℕ) → Limited (get_or length_lines i no_line) (get_or ms i 0) =
              all_limited length_lines 6 behind ms 8 (lines_behind 2 behind) (rw (length_lines_lem L, u)) in
              record {
                some_thread = (size 0).low;
                few_threads = (size 0).high;
                some_group = (size 2).low;
                few_groups = (size 2).high;
                some_cell = (size 1).low;
                few_own = (size 1).high;
                few_cells = omega arith;
                few_runs = (count 0).high;
                few_rows = (count 1).high;
              }

-- The definition's whole answer is what it makes of these lines.
by_length : (file : List ℕ) (t : Bool) → leb (length file) max_file ≡ t → file_launch file ≡ checked_table (lines_read file)
unfolding file_launch lines_read checked_table
by_length file true e = rw (e, file_launch, lines_read)
by_length file false e = rw (e, file_launch, lines_read)

pub whole_file : (file : List ℕ) → file_launch file ≡ checked_table (lines_read file)
whole_file file = by_length file (leb (length file) max_file) refl
