-- The number and the place of every refusal, as documents 01 and 02 list them. Assumes nothing.
use mathlib.Core.Path.{◌≡◌, refl}
use mathlib.Core.List.{[], ◌∷◌, map}
use mathlib.Core.Bool.{true, false}
use mathlib.Core.Option.{Option, none, some}
use Prim.Native.Nat.{ℕ}
use Rattle.spec.specs.Answers.{Refusal, TableLength, TooManyRows, UnknownOp, BadOperand, Misplaced, TooDeep, LeftOpen, ThreadsOutOfRange}
use Rattle.spec.specs.Answers.{CellsOutOfRange, LimitOutOfRange, LineNotDue, FileTooLong, CellsLength, LogLength, ReportTooLong, ReportLines}
use Rattle.spec.specs.Answers.{OutputLength, RecordsLength, GroupsOutOfRange, TooManyCells, CommonFile, told, unless, first}
use Rattle.spec.proofs.Computing.{computing}

-- A refusal as its number and place; 0 and 0 stand where there is none.
unfoldable pub or_zero : Option (ℕ × ℕ) → ℕ × ℕ
or_zero none = (0, 0)
or_zero (some p) = p

unfoldable pub told_as : Option Refusal → ℕ × ℕ
told_as x = or_zero (told x)

-- 1, 12, 20, 21, 23, 24 and 30 have place 0; the others have the place that they are told with.
pub all_refusals : map (λ r. told_as (some r))
    (TableLength ∷ TooManyRows 31 ∷ UnknownOp 32 ∷ BadOperand 33 ∷ Misplaced 34 ∷ TooDeep 35 ∷ LeftOpen 36 ∷ ThreadsOutOfRange 37 ∷ CellsOutOfRange 38
    ∷ LimitOutOfRange 39 ∷ LineNotDue 40 ∷ FileTooLong ∷ CellsLength ∷ LogLength ∷ ReportTooLong 41 ∷ ReportLines ∷ OutputLength
    ∷ RecordsLength ∷ GroupsOutOfRange 42 ∷ TooManyCells 43 ∷ CommonFile 44 ∷ [])
    ≡ (1, 0) ∷ (2, 31) ∷ (3, 32) ∷ (4, 33) ∷ (5, 34) ∷ (6, 35) ∷ (7, 36) ∷ (8, 37) ∷ (9, 38)
    ∷ (10, 39) ∷ (11, 40) ∷ (12, 0) ∷ (20, 0) ∷ (21, 0) ∷ (22, 41) ∷ (23, 0) ∷ (24, 0)
    ∷ (30, 0) ∷ (32, 42) ∷ (33, 43) ∷ (37, 44) ∷ []
unfolding computing or_zero told_as
all_refusals = refl

-- Of several tests the first that fails is told.
pub first_of_several : map (λ t. told_as (first t))
    ([]
    ∷ (unless true TableLength ∷ unless true FileTooLong ∷ [])
    ∷ (unless false TableLength ∷ unless false FileTooLong ∷ [])
    ∷ (unless true TableLength ∷ unless false FileTooLong ∷ [])
    ∷ (unless false TableLength ∷ unless true FileTooLong ∷ [])
    ∷ (unless true TableLength ∷ unless true TableLength ∷ unless false FileTooLong ∷ [])
    ∷ [])
    ≡ (0, 0) ∷ (0, 0) ∷ (1, 0) ∷ (12, 0) ∷ (1, 0) ∷ (12, 0) ∷ []
unfolding computing or_zero told_as
first_of_several = refl
