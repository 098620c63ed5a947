-- What the reader of the number lines answers, in terms of what the definition reads. Assumes nothing.
use Rattle.std.specs.Prelude.{◌≡◌, Result, Ok, Err, List, ◌++◌, ℕ, zero, suc, ◌+◌, length, get_or, take, drop}
use Rattle.spec.specs.declared.Refusal.{Refusal}
use Rattle.spec.specs.declared.Refusal.TheVariants.{LineNotDue}
use Rattle.spec.specs.Text.{text}
use Rattle.spec.specs.LaunchFile.{NumberLine, Read, stop, read, size_lines, length_lines, numbers}
use Rattle.numberlines.specs.declared.NumberLine as declared
use Rattle.filelines.specs.Lines.{next_in}

-- All number lines, in their order; so many of them, from some place on.
unfoldable pub all_lines : List NumberLine
unfolding size_lines length_lines
all_lines = size_lines ++ length_lines

unfoldable pub lines_from : (from n : ℕ) → List NumberLine
unfolding all_lines
lines_from from n = take n (drop from all_lines)

unfoldable pub line_count : ℕ
unfolding all_lines
line_count = length all_lines

-- Stands for a line where there is none.
abbrev pub no_line : NumberLine
no_line = record { key = ""; least = 0; greatest = 0; refusal = LineNotDue 0 }

abbrev pub line_at : ℕ → NumberLine
line_at i = get_or all_lines i no_line

-- A line that the source declares is that of the definition.
pub record IsLine (l : NumberLine) (r : declared.NumberLine) : Type 0 where
  pub key : r.key.now ≡ text l.key
  pub least : r.least ≡ l.least
  pub greatest : r.greatest ≡ l.greatest
  pub refusal : r.refusal ≡ l.refusal

-- What is left behind so many lines.
unfoldable pub lines_behind : ℕ → List ℕ → List ℕ
lines_behind zero file = file
lines_behind (suc n) file = next_in (lines_behind n file)

-- A refusal, or what was read with the line that is due next and what is left from there on.
unfoldable pub answered : {A : Type 0} → Result (Unit {0}) Refusal → A → (line : ℕ) → (rest : List ℕ) → Read A
answered (Err why) a line rest = stop why
answered (Ok u) a line rest = read a line rest

-- The answer for these lines, of which the first is numbered `line`; and where it is a refusal, what was put into the numbers before: those of the good
-- lines are at the front, and all behind is as it was.
pub record NumbersRead (ls : List NumberLine) (line : ℕ) (file old ns : List ℕ) (r : Result (Unit {0}) Refusal) : Type 0 where
  pub answer : numbers ls line file ≡ answered r ns (line + length ls) (lines_behind (length ls) file)
  pub good : ℕ
  pub front : numbers (take good ls) line file ≡ read (take good ns) (line + good) (lines_behind good file)
  pub next : (why : Refusal) → r ≡ Err why → numbers (take (good + 1) ls) line file ≡ stop why
  pub kept : drop good ns ≡ drop good old
