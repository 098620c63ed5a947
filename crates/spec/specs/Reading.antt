-- A report read from its bytes, line by line, as a loader reads it. "The launch file and the report". Assumes nothing.
use Rattle.std.specs.Prelude.{◌≡◌, List, [], ◌∷◌, ◌++◌, Bool, false, cond, ◌&&◌, ℕ, ◌<◌, eqb, length, take}
use Rattle.std.proofs.Math.Option.{Option, none, some}
use Prim.Native.String.{String}
use Rattle.spec.specs.Answers.{Subject, is_passed}
use Rattle.spec.specs.declared.Subject.TheVariants as subject
use Rattle.spec.specs.Lists.{any_of, equal_list}
use Rattle.spec.specs.Text.{text, newline, equals, is_number, digits_value, Halves, split_at}

-- The lines of a text: what stands before each byte 10. Bytes behind the last byte 10 are no line, since theirs was cut off.
unfoldable pub on_first : ℕ → List (List ℕ) → List (List ℕ)
on_first b [] = []
on_first b (l ∷ ls) = (b ∷ l) ∷ ls

unfoldable pub lines_in : List ℕ → List (List ℕ)
lines_in [] = []
lines_in (b ∷ bs) = cond (eqb b newline) ([] ∷ lines_in bs) (on_first b (lines_in bs))

unfoldable pub is_line : String → List ℕ → Bool
is_line s line = equal_list line (text s)

-- A report has this line somewhere; it begins with it.
unfoldable pub has_line : String → List ℕ → Bool
has_line s report = any_of (is_line s) (lines_in report)

unfoldable pub is_first : String → List (List ℕ) → Bool
is_first s [] = false
is_first s (l ∷ ls) = is_line s l

unfoldable pub begins_with : String → List ℕ → Bool
begins_with s report = is_first s (lines_in report)

-- The numbers on the lines with a key, in their order; none for a value that is no number. A line's value is what stands behind its first `=`.
unfoldable pub number_in : List ℕ → Option ℕ
number_in value = cond (is_number value) (some (digits_value 0 value)) none

unfoldable pub under_key : String → Option Halves → List (Option ℕ)
under_key key none = []
under_key key (some parts) = cond (equal_list parts.before (text key)) (number_in parts.behind ∷ []) []

unfoldable pub numbers_on : String → List (List ℕ) → List (Option ℕ)
numbers_on key [] = []
numbers_on key (l ∷ ls) = under_key key (split_at equals l) ++ numbers_on key ls

unfoldable pub numbers_at : String → List ℕ → List (Option ℕ)
numbers_at key report = numbers_on key (lines_in report)

-- "I read lines until end=report": that line stands exactly once, as the last one, and no report that was cut off has it.
pub record EndsOnce (report : List ℕ) : Type 0 where
  pub before : List (List ℕ)
  pub last : lines_in report ≡ before ++ (text "end=report" ∷ [])
  pub once : any_of (is_line "end=report") before ≡ false
  pub whole : (k : ℕ) → k < length report → has_line "end=report" (take k report) ≡ false

-- Whether it is a run that has passed.
unfoldable pub has_passed : Subject → Bool
has_passed (subject.Ran o) = is_passed o.verdict
has_passed (subject.Refused number place) = false

-- A loader's decision: the first line is `verdict=passed`, and the line `end=report` was read.
unfoldable pub installs : List ℕ → Bool
installs report = begins_with "verdict=passed" report && has_line "end=report" report

-- What a loader may go by in every report: it ends once; `verdict=passed` is its first line for a run that has passed, and stands nowhere in any other
-- report, a refusal's among them. So a loader that decides as above installs what has passed, and nothing by a report that was cut off.
pub record Readable (what : Subject) (report : List ℕ) : Type 0 where
  pub ends : EndsOnce report
  pub begins : begins_with "verdict=passed" report ≡ has_passed what
  pub anywhere : has_line "verdict=passed" report ≡ has_passed what
  pub decides : installs report ≡ has_passed what
  pub cut_off : (k : ℕ) → k < length report → installs (take k report) ≡ false
