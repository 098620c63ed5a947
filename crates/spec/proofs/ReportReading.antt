-- What is read from the bytes of reports, whole ones, cut off ones and ones that only look alike. Assumes nothing.
use mathlib.Core.Path.{◌≡◌, refl}
use mathlib.Core.List.{List, [], ◌∷◌, ◌++◌, map}
use mathlib.Core.Bool.{true, false}
use mathlib.Core.Option.{none, some}
use Prim.Native.Nat.{ℕ}
use lib.ListN.{take}
use Rattle.spec.specs.Answers.{Verdict, Passed, Race, GroupRace, Outside, Diverged, Spent, WriteWrite, Subject}
use Rattle.spec.specs.declared.Subject.TheVariants as subject
use Rattle.spec.specs.Text.{text}
use Rattle.spec.proofs.Lines.{lines}
use Rattle.spec.specs.Reading.{lines_in, has_line, begins_with, numbers_at, has_passed, installs}
use Rattle.spec.proofs.Computing.{computing}

unfoldable pub passing : List ℕ
passing =
    lines "verdict=passed/row=-/group=-/othergroup=-/thread=-/other=-/kind=-/at=-/rows=8/steps=7/steps=7/barriers=1/conflicts=3/cell=2/cell=40/cell=0"
    ++ lines "gcell=7/gcell=50/end=report"

unfoldable pub racing : List ℕ
racing = lines "verdict=race/row=6/group=0/othergroup=0/thread=1/other=0/kind=rw/at=1/rows=6/steps=7/steps=6/barriers=0/conflicts=0/cell=2/end=report"

-- A line is what a newline ends, an empty one too; what stands behind the last newline is none.
pub lines_read_lem : lines_in (lines "a=1//b" ++ text "c") ≡ text "a=1" ∷ [] ∷ text "b" ∷ []
unfolding computing
lines_read_lem = refl

-- The first line alone and all of it: not one that begins or ends so, not a later one, not one that was cut off.
pub first_lines : map (begins_with "verdict=passed")
    (passing ∷ racing ∷ lines "verdict=passed" ∷ text "verdict=passed" ∷ lines "verdict=passed " ∷ lines " verdict=passed" ∷ lines "verdict=passe"
    ∷ lines "/verdict=passed" ∷ lines "row=-/verdict=passed" ∷ lines "refused=11/place=1/end=report" ∷ [] ∷ [])
    ≡ true ∷ false ∷ true ∷ false ∷ false ∷ false ∷ false ∷ false ∷ false ∷ false ∷ false ∷ []
unfolding computing passing racing
first_lines = refl

-- The last line, of the report whole and without its last byte; a line that only ends so, and one that stands before another.
pub last_lines_lem : map (has_line "end=report") (passing ∷ take 167 passing ∷ take 166 passing ∷ lines "nd=report" ∷ lines "end=report/x" ∷ [])
    ≡ true ∷ true ∷ false ∷ false ∷ true ∷ []
unfolding computing passing
last_lines_lem = refl

-- What has passed: a run with that verdict, no other one and no refusal.
unfoldable pub ending : Verdict → Subject
ending v = subject.Ran (record { verdict = v; row = 1; group = 1; rows = 1; barriers = 1; conflicts = 1 })

pub passing_subjects : map has_passed
    (ending Passed ∷ ending (Race 1 0 WriteWrite 0) ∷ ending (GroupRace 1 0 WriteWrite 0) ∷ ending (Outside 1 1) ∷ ending (Diverged 1 1) ∷ ending Spent
    ∷ subject.Refused 1 1 ∷ [])
    ≡ true ∷ false ∷ false ∷ false ∷ false ∷ false ∷ false ∷ []
unfolding computing ending
passing_subjects = refl

-- What a loader installs: a whole report of a launch that has passed.
pub installed : map installs (passing ∷ racing ∷ take 166 passing ∷ lines "verdict=passed/cell=1" ∷ lines "end=report" ∷ []) ≡ true ∷ false ∷ false ∷ false ∷ false ∷ []
unfolding computing passing racing
installed = refl

-- The numbers under a key, in their order. A hyphen is none; neither is a value that goes on, or that has a leading zero.
pub numbers_read : map (λ r. numbers_at "steps" r) (passing ∷ racing ∷ lines "steps=1=2/step=3/steps4/steps=05/steps=6" ∷ []) ≡
    (some 7 ∷ some 7 ∷ []) ∷ (some 7 ∷ some 6 ∷ []) ∷ (none ∷ none ∷ some 6 ∷ []) ∷ []
unfolding computing passing racing
numbers_read = refl

pub keys_read : numbers_at "cell" passing ++ (numbers_at "rows" passing ++ (numbers_at "row" passing ++ (numbers_at "barriers" passing ++ numbers_at "conflicts" passing)))
    ≡ some 2 ∷ some 40 ∷ some 0 ∷ some 8 ∷ none ∷ some 1 ∷ some 3 ∷ []
unfolding computing passing
keys_read = refl

-- A key is the whole of what stands before the `=`: own cells are read apart from global ones, groups apart from other groups, `row` apart from `rows`.
pub whole_keys_read :
    map (λ k. numbers_at k passing) ("gcell" ∷ "ell" ∷ "group" ∷ "othergroup" ∷ "other" ∷ [])
    ++ map (λ k. numbers_at k racing) ("gcell" ∷ "cell" ∷ "group" ∷ "othergroup" ∷ "other" ∷ "row" ∷ [])
    ++ map (λ k. numbers_at k (lines "group=1/gcell=5/othergroup=0/cell=6/gcell=7")) ("gcell" ∷ "cell" ∷ "group" ∷ "othergroup" ∷ [])
    ≡ ((some 7 ∷ some 50 ∷ []) ∷ [] ∷ (none ∷ []) ∷ (none ∷ []) ∷ (none ∷ []) ∷ [])
    ++ ([] ∷ (some 2 ∷ []) ∷ (some 0 ∷ []) ∷ (some 0 ∷ []) ∷ (some 0 ∷ []) ∷ (some 6 ∷ []) ∷ [])
    ++ ((some 5 ∷ some 7 ∷ []) ∷ (some 6 ∷ []) ∷ (some 1 ∷ []) ∷ (some 0 ∷ []) ∷ [])
unfolding computing passing racing
whole_keys_read = refl
