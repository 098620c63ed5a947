-- The answers' types, as the source declares them (src/lib.rt), and document 01's numbers for them. Assumes nothing.
use Rattle.std.specs.Prelude.{ℕ, Bool, true, false, List, [], ◌∷◌, Result, Ok, Err}
use Rattle.std.proofs.Math.Option.{Option, none, some}
pub use Rattle.spec.specs.declared.AccessKind.{AccessKind}
pub use Rattle.spec.specs.declared.AccessKind.TheVariants.{ReadWrite, WriteRead, WriteWrite, ReadAdd, AddRead, WriteAdd, AddWrite}
pub use Rattle.spec.specs.declared.Verdict.{Verdict}
pub use Rattle.spec.specs.declared.Verdict.TheVariants.{Passed, Race, GroupRace, Outside, Common, Diverged, Spent}
pub use Rattle.spec.specs.declared.Outcome.{Outcome}
pub use Rattle.spec.specs.declared.Refusal.{Refusal}
pub use Rattle.spec.specs.declared.Refusal.TheVariants.{TableLength, TooManyRows, UnknownOp, BadOperand, Misplaced, TooDeep, LeftOpen}
pub use Rattle.spec.specs.declared.Refusal.TheVariants.{ThreadsOutOfRange, CellsOutOfRange, LimitOutOfRange, LineNotDue, FileTooLong}
pub use Rattle.spec.specs.declared.Refusal.TheVariants.{CellsLength, LogLength, ReportTooLong, ReportLines, OutputLength, RecordsLength}
pub use Rattle.spec.specs.declared.Refusal.TheVariants.{GroupsOutOfRange, TooManyCells, CommonFile}
pub use Rattle.spec.specs.declared.Subject.{Subject}
pub use Rattle.spec.specs.declared.Value.{Value}
pub use Rattle.spec.specs.declared.Details.{Details}

-- "Turned back": the number of a refusal.
unfoldable pub refusal_number : Refusal → ℕ
refusal_number TableLength = 1
refusal_number (TooManyRows p) = 2
refusal_number (UnknownOp p) = 3
refusal_number (BadOperand p) = 4
refusal_number (Misplaced p) = 5
refusal_number (TooDeep p) = 6
refusal_number (LeftOpen p) = 7
refusal_number (ThreadsOutOfRange p) = 8
refusal_number (CellsOutOfRange p) = 9
refusal_number (LimitOutOfRange p) = 10
refusal_number (LineNotDue p) = 11
refusal_number FileTooLong = 12
refusal_number CellsLength = 20
refusal_number LogLength = 21
refusal_number (ReportTooLong p) = 22
refusal_number ReportLines = 23
refusal_number OutputLength = 24
refusal_number RecordsLength = 30
refusal_number (GroupsOutOfRange p) = 32
refusal_number (TooManyCells p) = 33
refusal_number (CommonFile p) = 37

-- "Turned back": its place. A line counts from 1, a row from 0; 0 stands where there is no place.
unfoldable pub refusal_place : Refusal → ℕ
refusal_place TableLength = 0
refusal_place (TooManyRows p) = p
refusal_place (UnknownOp p) = p
refusal_place (BadOperand p) = p
refusal_place (Misplaced p) = p
refusal_place (TooDeep p) = p
refusal_place (LeftOpen p) = p
refusal_place (ThreadsOutOfRange p) = p
refusal_place (CellsOutOfRange p) = p
refusal_place (LimitOutOfRange p) = p
refusal_place (LineNotDue p) = p
refusal_place FileTooLong = 0
refusal_place CellsLength = 0
refusal_place LogLength = 0
refusal_place (ReportTooLong p) = p
refusal_place ReportLines = 0
refusal_place OutputLength = 0
refusal_place RecordsLength = 0
refusal_place (GroupsOutOfRange p) = p
refusal_place (TooManyCells p) = p
refusal_place (CommonFile p) = p

-- A refusal as document 01 names it, by its number and place; and what an answer tells of one.
unfoldable pub named : Refusal → ℕ × ℕ
named r = (refusal_number r, refusal_place r)

unfoldable pub told : Option Refusal → Option (ℕ × ℕ)
told none = none
told (some r) = some (named r)

unfoldable pub told_by : Result Outcome Refusal → Option (ℕ × ℕ)
told_by (Err r) = some (named r)
told_by (Ok o) = none

unfoldable pub told_in : Result ℕ Refusal → Option (ℕ × ℕ)
told_in (Err r) = some (named r)
told_in (Ok size) = none

-- A test that is refused where it fails; and the first refusal of several tests, in their order.
unfoldable pub unless : Bool → Refusal → Option Refusal
unless true r = none
unless false r = some r

unfoldable pub or_else : Option Refusal → Option Refusal → Option Refusal
or_else none y = y
or_else (some r) y = some r

unfoldable pub first : List (Option Refusal) → Option Refusal
first [] = none
first (x ∷ xs) = or_else x (first xs)

-- Whether a verdict is passed.
unfoldable pub is_passed : Verdict → Bool
is_passed Passed = true
is_passed (Race thread other kind at) = false
is_passed (GroupRace thread group kind at) = false
is_passed (Outside thread at) = false
is_passed (Common thread at) = false
is_passed (Diverged thread other) = false
is_passed Spent = false
