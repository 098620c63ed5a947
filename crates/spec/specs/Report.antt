-- The report: its lines as one list, and their bytes. "The launch file and the report". Assumes nothing.
use Rattle.std.specs.Prelude.{List, [], ◌∷◌, ◌++◌, map, ℕ}
use Prim.Native.String.{String}
use Rattle.spec.specs.Answers.{AccessKind, ReadWrite, WriteRead, WriteWrite, ReadAdd, AddRead, WriteAdd, AddWrite}
use Rattle.spec.specs.Answers.{Verdict, Passed, Race, GroupRace, Outside, Common, Diverged, Spent, Outcome, Subject, Value, Details}
use Rattle.spec.specs.declared.Subject.TheVariants as subject
use Rattle.spec.specs.declared.Value.TheVariants as value
use Rattle.spec.specs.Text.{text, newline, equals, hyphen, decimal}

-- The word of a verdict, and of a race's kind.
unfoldable pub verdict_text : Verdict → List ℕ
verdict_text Passed = text "passed"
verdict_text (Race thread other kind at) = text "race"
verdict_text (GroupRace thread group kind at) = text "race"
verdict_text (Outside thread at) = text "outside"
verdict_text (Common thread at) = text "common"
verdict_text (Diverged thread other) = text "diverged"
verdict_text Spent = text "spent"

unfoldable pub kind_text : AccessKind → List ℕ
kind_text ReadWrite = text "rw"
kind_text WriteRead = text "wr"
kind_text WriteWrite = text "ww"
kind_text ReadAdd = text "ra"
kind_text AddRead = text "ar"
kind_text WriteAdd = text "wa"
kind_text AddWrite = text "aw"

-- What stands behind a line's `=`.
unfoldable pub value_text : Value → List ℕ
value_text value.Hyphen = hyphen
value_text (value.Number n) = decimal n
value_text (value.Verdict v) = verdict_text v
value_text (value.Kind k) = kind_text k
value_text value.Report = text "report"

-- A line is `key=value`, ended by byte 10.
pub record Line : Type 0 where
  pub key : List ℕ
  pub value : Value

unfoldable pub key_line : (key value : List ℕ) → List ℕ
key_line key value = key ++ (equals ∷ (value ++ (newline ∷ [])))

unfoldable pub line_bytes : Line → List ℕ
line_bytes l = key_line l.key (value_text l.value)

infix 70 ◌is◌
unfoldable pub ◌is◌ : String → Value → Line
key is value = record { key = text key; value = value }

-- Each line begins where the last one ended.
unfoldable pub bytes_of : List Line → List ℕ
bytes_of [] = []
bytes_of (l ∷ ls) = line_bytes l ++ bytes_of ls

-- What each verdict says of where the run stopped. A hyphen stands for a line without meaning: row and group when passed; othergroup unless race; thread
-- unless race, outside, common or diverged; other unless diverged or a race in the own group; kind unless race; at unless race, outside or common.
unfoldable pub details : (row group other_group thread other kind at : Value) → Details
details row group other_group thread other kind at =
    record { row = row; group = group; othergroup = other_group; thread = thread; other = other; kind = kind; at = at }

unfoldable pub details_of : Verdict → (row group : ℕ) → Details
details_of Passed row group = details value.Hyphen value.Hyphen value.Hyphen value.Hyphen value.Hyphen value.Hyphen value.Hyphen
details_of (Race thread other kind at) row group =
    details (value.Number row) (value.Number group) (value.Number group) (value.Number thread) (value.Number other) (value.Kind kind) (value.Number at)
details_of (GroupRace thread other_group kind at) row group =
    details (value.Number row) (value.Number group) (value.Number other_group) (value.Number thread) value.Hyphen (value.Kind kind) (value.Number at)
details_of (Outside thread at) row group =
    details (value.Number row) (value.Number group) value.Hyphen (value.Number thread) value.Hyphen value.Hyphen (value.Number at)
details_of (Common thread at) row group =
    details (value.Number row) (value.Number group) value.Hyphen (value.Number thread) value.Hyphen value.Hyphen (value.Number at)
details_of (Diverged thread other) row group =
    details (value.Number row) (value.Number group) value.Hyphen (value.Number thread) (value.Number other) value.Hyphen value.Hyphen
details_of Spent row group = details (value.Number row) (value.Number group) value.Hyphen value.Hyphen value.Hyphen value.Hyphen value.Hyphen

-- The lines of a run's report before its steps, the head; and those behind them.
unfoldable pub head_with : Outcome → Details → List Line
head_with o d =
    "verdict" is value.Verdict o.verdict
    ∷ "row" is d.row
    ∷ "group" is d.group
    ∷ "othergroup" is d.othergroup
    ∷ "thread" is d.thread
    ∷ "other" is d.other
    ∷ "kind" is d.kind
    ∷ "at" is d.at
    ∷ "rows" is value.Number o.rows
    ∷ []

unfoldable pub head_lines : Outcome → List Line
head_lines o = head_with o (details_of o.verdict o.row o.group)

unfoldable pub interval_lines : Outcome → List Line
interval_lines o = "barriers" is value.Number o.barriers ∷ "conflicts" is value.Number o.conflicts ∷ []

-- One line with the same key for each number.
unfoldable pub each_line : (key : List ℕ) → (numbers : List ℕ) → List Line
each_line key numbers = map (λ n. record { key = key; value = value.Number n }) numbers

-- The report of a run: the head, one `steps=` line per thread of the launch, the barriers and the conflicts, one `cell=` line per own cell of the groups,
-- one `gcell=` line per global cell, and the last line.
unfoldable pub end_line : Line
end_line = "end" is value.Report

unfoldable pub run_lines : Outcome → (steps cells global : List ℕ) → List Line
run_lines o steps cells global =
    head_lines o
    ++ (each_line (text "steps") steps ++ (interval_lines o ++ (each_line (text "cell") cells ++ (each_line (text "gcell") global ++ (end_line ∷ [])))))

unfoldable pub run_report : Outcome → (steps cells global : List ℕ) → List ℕ
run_report o steps cells global = bytes_of (run_lines o steps cells global)

-- The report of a refusal, from its number and place.
unfoldable pub refusal_lines : (number place : ℕ) → List Line
refusal_lines number place = "refused" is value.Number number ∷ "place" is value.Number place ∷ end_line ∷ []

unfoldable pub refusal_report : (number place : ℕ) → List ℕ
refusal_report number place = bytes_of (refusal_lines number place)

-- The report of either; a refusal's has no steps and no cells.
unfoldable pub report_of : Subject → (steps cells global : List ℕ) → List ℕ
report_of (subject.Ran o) steps cells global = run_report o steps cells global
report_of (subject.Refused number place) steps cells global = refusal_report number place
