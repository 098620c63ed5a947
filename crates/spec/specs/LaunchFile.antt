-- The launch file: which line is due at each place, what the lines say, and the first refusal. "The launch file and the report", "Turned back". Assumes nothing.
use Rattle.std.specs.Prelude.{List, [], ◌∷◌, ◌++◌, map, Bool, true, false, cond, ◌&&◌, ℕ, suc, leb, length, get_or, replicate}
use Rattle.std.proofs.Math.Option.{Option, none, some}
use Prim.Native.String.{String}
use Rattle.spec.specs.Limits.{max_threads, max_groups, max_cells, max_rows, max_limit, max_file, words, bytes}
use Rattle.spec.specs.Answers.{Refusal, FileTooLong, LineNotDue, ThreadsOutOfRange, CellsOutOfRange, GroupsOutOfRange, TooManyCells, LimitOutOfRange, TooManyRows}
use Rattle.spec.specs.Lists.{equal_list}
use Rattle.spec.specs.Text.{text, newline, comma, equals, number_below, split_at}
use Rattle.spec.specs.Table.{Row, row_of}
use Rattle.spec.specs.TableCheck.{table_refusal}
use Rattle.spec.specs.Shape.{Sizes, sizes, all_own, all_cells}
use Rattle.spec.specs.Launch.{Launch}

-- A refusal, or what is accepted.
pub data Checked (A : Type 0) : Type 0 where
  refused : Refusal → Checked A
  accepted : A → Checked A

-- What reading lines comes to: a refusal, or a value with the number of the line that is due next and the bytes from there on.
pub data Read (A : Type 0) : Type 0 where
  stop : Refusal → Read A
  read : A → (line : ℕ) → (rest : List ℕ) → Read A

-- A reader, given the number of the line that is due and the bytes from there on. Readers one after the other: the first refusal stays.
abbrev pub Reader : Type 0 → Type 0
Reader A = (line : ℕ) → (rest : List ℕ) → Read A

unfoldable pub continue : {A B : Type 0} → Read A → (A → Reader B) → Read B
continue (stop r) f = stop r
continue (read a line rest) f = f a line rest

infixl 1 ◌>>=◌ ◌>>◌
unfoldable pub ◌>>=◌ : {A B : Type 0} → Reader A → (A → Reader B) → Reader B
◌>>=◌ p f line rest = continue (p line rest) f

unfoldable pub ◌>>◌ : {A B : Type 0} → Reader A → Reader B → Reader B
◌>>◌ p q line rest = continue (p line rest) (λ a. q)

unfoldable pub gives : {A : Type 0} → A → Reader A
gives a line rest = read a line rest

-- What readers give, one after the other; and what one reader gives so many times.
unfoldable pub in_order : {A : Type 0} → List (Reader A) → Reader (List A)
in_order [] = gives []
in_order (p ∷ ps) = p >>= λ x. in_order ps >>= λ xs. gives (x ∷ xs)

unfoldable pub times : {A : Type 0} → ℕ → Reader A → Reader (List A)
times n p = in_order (replicate n p)

-- Where there is a value, go on with it.
unfoldable pub given : {A B : Type 0} → Option A → (A → Option B) → Option B
given none f = none
given (some a) f = f a

-- The line `key=value`, ended by byte 10: what its value reads as, and the bytes behind the line. The value is the part after the first `=`.
unfoldable pub line_value : {A : Type 0} → String → (List ℕ → Option A) → List ℕ → Option (A × List ℕ)
line_value key reads rest =
    given (split_at newline rest) λ line.
    given (split_at equals line.before) λ parts.
    given (cond (equal_list parts.before (text key)) (reads parts.behind) none) λ value.
    some (value, line.behind)

-- A line that is not the one due is refused with 11 at its number.
unfoldable pub is_due : {A : Type 0} → ℕ → Option (A × List ℕ) → Read A
is_due line none = stop (LineNotDue line)
is_due line (some found) = read found.0 (suc line) found.1

unfoldable pub due : {A : Type 0} → String → (List ℕ → Option A) → Reader A
due key reads line rest = is_due line (line_value key reads rest)

-- A test that has to be passed, or else the refusal.
unfoldable pub require : Bool → Refusal → Reader (Unit {0})
require true r line rest = read tt line rest
require false r line rest = stop r

-- Nothing stands behind the last line: what does is 11 at the number that its line has.
unfoldable pub file_ends : Reader (Unit {0})
file_ends line [] = read tt line []
file_ends line (b ∷ rest) = stop (LineNotDue line)

-- Values: a fixed text; a number below 2 ^ 32; a row, which is four numbers below 256 with commas between them.
unfoldable pub exactly : String → List ℕ → Option (Unit {0})
exactly s value = cond (equal_list value (text s)) (some tt) none

unfoldable pub number : List ℕ → Option ℕ
number value = number_below words value

unfoldable pub byte : List ℕ → Option ℕ
byte value = number_below bytes value

unfoldable pub row_value : List ℕ → Option Row
row_value value =
    given (split_at comma value) λ first.
    given (split_at comma first.behind) λ second.
    given (split_at comma second.behind) λ third.
    given (byte first.before) λ op.
    given (byte second.before) λ d.
    given (byte third.before) λ a.
    given (byte third.behind) λ b.
    some (row_of op d a b)

-- A line with one number: its key, the least and the greatest number that it may give, and what any other number is refused with.
pub record NumberLine : Type 0 where
  pub key : String
  pub least : ℕ
  pub greatest : ℕ
  pub refusal : Refusal

-- The lines with one number, in their order: the sizes, from line 2 on; then the limit and the number of rows.
unfoldable pub size_lines : List NumberLine
size_lines =
    record { key = "threads"; least = 1; greatest = max_threads; refusal = ThreadsOutOfRange 2 }
    ∷ record { key = "cells"; least = 1; greatest = max_cells; refusal = CellsOutOfRange 3 }
    ∷ record { key = "groups"; least = 1; greatest = max_groups; refusal = GroupsOutOfRange 4 }
    ∷ record { key = "global"; least = 0; greatest = max_cells; refusal = TooManyCells 5 }
    ∷ []

unfoldable pub length_lines : List NumberLine
length_lines =
    record { key = "limit"; least = 0; greatest = max_limit; refusal = LimitOutOfRange 6 }
    ∷ record { key = "rows"; least = 0; greatest = max_rows; refusal = TooManyRows 7 }
    ∷ []

-- Each number's place among those that the lines give.
abbrev pub sizes_in : List ℕ → Sizes
sizes_in ns = sizes (get_or ns 0 0) (get_or ns 1 0) (get_or ns 2 0) (get_or ns 3 0)

abbrev pub limit_in : List ℕ → ℕ
limit_in ns = get_or ns 0 0

abbrev pub rows_in : List ℕ → ℕ
rows_in ns = get_or ns 1 0

-- The number of one such line: a number that is out of its limits is refused before the next line is looked at.
unfoldable pub due_number : NumberLine → Reader ℕ
due_number l = do
  n ← due l.key number
  require (leb l.least n && leb n l.greatest) l.refusal
  gives n

-- The numbers of such lines, one after the other.
unfoldable pub numbers : List NumberLine → Reader (List ℕ)
numbers ls = in_order (map due_number ls)

-- What follows the numbers: as many rows, own cells of all groups and global cells as they say, the end, and nothing behind it.
unfoldable pub content_lines : Sizes → (limit rows : ℕ) → Reader Launch
content_lines Z limit rows = do
  table ← times rows (due "row" row_value)
  own ← times (all_own Z) (due "cell" number)
  global ← times Z.global (due "gcell" number)
  due "end" (exactly "kernel")
  file_ends
  gives (record { sizes = Z; limit = limit; table = table; cells = own ++ global })

-- The lines of a launch file, in their order. More cells in all than there may be are refused with 33 at the line `global=`, before the next one is looked at.
unfoldable pub launch_lines : Reader Launch
launch_lines = do
  due "kernel" (exactly "1")
  ns ← numbers size_lines
  require (leb (all_cells (sizes_in ns)) max_cells) (TooManyCells 5)
  ms ← numbers length_lines
  content_lines (sizes_in ns) (limit_in ms) (rows_in ms)

-- A launch, unless there is a refusal.
unfoldable pub unless_refused : Option Refusal → Launch → Checked Launch
unless_refused none launch = accepted launch
unless_refused (some r) launch = refused r

-- After all lines the table is checked, row by row.
unfoldable pub checked_table : Read Launch → Checked Launch
checked_table (stop r) = refused r
checked_table (read launch line rest) = unless_refused (table_refusal launch.table) launch

-- A file that is too long is refused before any line is read.
unfoldable pub file_launch : List ℕ → Checked Launch
file_launch file =
    elim (leb (length file) max_file) [
      | true ↦ checked_table (launch_lines 1 file)
      | false ↦ refused FileTooLong
    ]
