-- What the reader answers, by cases on what the definition's lines come to. Assumes nothing.
use Rattle.std.specs.Prelude.{◌≡◌, Result, Ok, Err, IfOk, List, [], ◌++◌, true, false, ℕ, ◌+◌, ◌-◌, ◌*◌, ◌≤◌, leb, length, take, drop, replicate}
use Rattle.spec.specs.Limits.{max_file, max_threads, max_groups, max_cells, max_rows, max_limit}
use Rattle.spec.specs.Table.{rows_of}
use Rattle.spec.specs.Shape.{Sizes, sizes, all_own, all_cells}
use Rattle.spec.specs.LaunchFile.{Read, stop, read, times, due, content_lines, launch_lines}
use Rattle.spec.specs.declared.Refusal.{Refusal}
use Rattle.spec.specs.declared.Refusal.TheVariants.{FileTooLong}
use Rattle.filelines.specs.Lines.{next_in}
use Rattle.filelines.specs.Values.{row_bytes}
use Rattle.contents.specs.Taken.{fours_of}
use Rattle.numberlines.specs.Answered.{line_count, lines_behind, answered}
use Rattle.launchfile.specs.declared.Launch.{Launch}
use Rattle.spec.specs.Launch as definition

-- The figures of a launch are within their limits.
pub record Within (Z : Sizes) (limit rows : ℕ) : Type 0 where
  pub some_thread : 1 ≤ Z.threads
  pub few_threads : Z.threads ≤ max_threads
  pub some_group : 1 ≤ Z.groups
  pub few_groups : Z.groups ≤ max_groups
  pub some_cell : 1 ≤ Z.cells
  pub few_own : Z.cells ≤ max_cells
  pub few_cells : all_cells Z ≤ max_cells
  pub few_runs : limit ≤ max_limit
  pub few_rows : rows ≤ max_rows

-- The sizes that it gives.
abbrev pub sizes_of : Launch → Sizes
sizes_of l = sizes l.threads l.each l.groups l.shared

-- An accepted launch: the table's rows are at the front of its bytes, the words of both kinds of cells at the front of theirs, with zeros behind.
pub record AcceptedAs (launch : definition.Launch) (l : Launch) : Type 0 where
  pub sizes_are : sizes_of l ≡ launch.sizes
  pub limit : l.limit ≡ launch.limit
  pub table : rows_of (take (4 * l.rows) l.table) ≡ launch.table
  pub cells : take l.count l.cells ++ take l.shared l.global ≡ launch.cells
  pub own : l.count ≡ all_own (sizes_of l)
  pub within : Within (sizes_of l) l.limit l.rows
  pub table_long : length l.table ≡ 1024
  pub cells_long : length l.cells ≡ 1024
  pub global_long : length l.global ≡ 1024
  pub table_zeros : drop (4 * l.rows) l.table ≡ replicate (1024 - 4 * l.rows) 0
  pub cells_zeros : drop l.count l.cells ≡ replicate (1024 - l.count) 0
  pub global_zeros : drop l.shared l.global ≡ replicate (1024 - l.shared) 0

abbrev pub ReadAs : Read definition.Launch → Result Launch Refusal → Type 0
ReadAs (stop why) r = r ≡ Err why
ReadAs (read launch line rest) (Ok l) = AcceptedAs launch l
ReadAs (read launch line rest) (Err why) = ⊥

-- The definition's reading of a file, before its table is checked.
unfoldable pub lines_read : List ℕ → Read definition.Launch
lines_read file = elim (leb (length file) max_file) [ true ↦ launch_lines 1 file | false ↦ stop FileTooLong ]

-- The bytes of a table are those that the row lines give, of which the first begins this text.
pub record RowBytes (text : List ℕ) (rows : ℕ) (table : List ℕ) : Type 0 where
  pub left : List ℕ
  pub lines : (line : ℕ) → times rows (due "row" row_bytes) line text ≡ read (fours_of (take (4 * rows) table)) (line + rows) left

abbrev pub BytesFrom : List ℕ → Launch → Type 0
BytesFrom text l = RowBytes text l.rows l.table

-- All rows and cells were read: they are at the front of what was lent for them, and all behind is as it was.
pub record Filled (rest : List ℕ) (rows count shared : ℕ) (table cells global table' cells' global' : List ℕ) : Type 0 where
  pub bytes : RowBytes rest rows table'
  pub table_long : length table' ≡ 1024
  pub cells_long : length cells' ≡ 1024
  pub global_long : length global' ≡ 1024
  pub table_kept : drop (4 * rows) table' ≡ drop (4 * rows) table
  pub cells_kept : drop count cells' ≡ drop count cells
  pub global_kept : drop shared global' ≡ drop shared global

-- The answer for the lines behind the numbers, whatever launch has so many rows, own cells and global ones.
pub record ContentsRead (rest : List ℕ) (rows count shared : ℕ) (table cells global : List ℕ) (r : Result (Unit {0}) Refusal) (table' cells' global' : List ℕ) : Type 0 where
  pub answer : (Z : Sizes) (limit : ℕ) → count ≡ all_own Z → shared ≡ Z.global
      → content_lines Z limit rows (2 + line_count) rest
      ≡ answered r
      (record { sizes = Z; limit = limit; table = rows_of (take (4 * rows) table'); cells = take count cells' ++ take shared global' })
      (2 + line_count + rows + count + shared + 1) []
  pub filled : r ≡ Ok tt → Filled rest rows count shared table cells global table' cells' global'

-- What the reader answers; its table also byte by byte, behind the first line and those of the numbers.
pub record ParsedIs (file : List ℕ) (r : Result Launch Refusal) : Type 0 where
  pub read_as : ReadAs (lines_read file) r
  pub bytes : IfOk r (BytesFrom (lines_behind line_count (next_in file)))
