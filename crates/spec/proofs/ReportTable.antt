-- The report of every verdict and of a refusal, line by line. `/` stands between the lines. Assumes nothing.
use mathlib.Core.Path.{◌≡◌, refl}
use mathlib.Core.List.{List, [], ◌∷◌, ◌++◌, map}
use Prim.Native.Nat.{ℕ}
use Prim.Native.String.{String}
use Rattle.spec.specs.Answers.{Verdict, Passed, Race, GroupRace, Outside, Common, Diverged, Spent, Subject}
use Rattle.spec.specs.Answers.{ReadWrite, WriteRead, WriteWrite, ReadAdd, AddRead, WriteAdd, AddWrite}
use Rattle.spec.specs.declared.Subject.TheVariants as subject
use Rattle.spec.specs.Report.{kind_text, report_of, refusal_report}
use Rattle.spec.specs.Text.{text}
use Rattle.spec.proofs.Lines.{lines}
use Rattle.spec.proofs.Computing.{computing}

-- A run that stopped at row 11 of group 4 after 12 rows, 14 barriers and 105 conflicts, with 130, 0 and 12 steps, own cells 256, 0 and 2 ^ 32 - 1, and
-- global cells 8 and 70.
unfoldable pub stopped : Verdict → Subject
stopped v = subject.Ran (record { verdict = v; row = 11; group = 4; rows = 12; barriers = 14; conflicts = 105 })

unfoldable pub some_steps : List ℕ
some_steps = 130 ∷ 0 ∷ 12 ∷ []

unfoldable pub some_cells : List ℕ
some_cells = 256 ∷ 0 ∷ 4294967295 ∷ []

unfoldable pub some_global : List ℕ
some_global = 8 ∷ 70 ∷ []

-- The lines behind those that the verdict is told in.
unfoldable pub with_rest : String → List ℕ
with_rest head =
    lines head ++ lines "rows=12/steps=130/steps=0/steps=12/barriers=14/conflicts=105/cell=256/cell=0/cell=4294967295/gcell=8/gcell=70/end=report"

-- Hyphens: row and group when passed; othergroup unless race; thread unless race, outside, common or diverged; other unless diverged or a race in the own
-- group, which othergroup names then; kind unless race; at unless race, outside or common.
pub run_reports : map (λ v. report_of (stopped v) some_steps some_cells some_global)
    (Passed ∷ Race 2 1 ReadWrite 5 ∷ Race 2 1 WriteRead 5 ∷ Race 2 1 WriteWrite 5 ∷ GroupRace 2 3 ReadWrite 5 ∷ GroupRace 2 0 WriteRead 5 ∷ GroupRace 2 3 WriteWrite 5
    ∷ Outside 3 4000000000 ∷ Common 3 65791 ∷ Diverged 2 0 ∷ Spent ∷ [])
    ≡ map with_rest
    ("verdict=passed/row=-/group=-/othergroup=-/thread=-/other=-/kind=-/at=-"
    ∷ "verdict=race/row=11/group=4/othergroup=4/thread=2/other=1/kind=rw/at=5"
    ∷ "verdict=race/row=11/group=4/othergroup=4/thread=2/other=1/kind=wr/at=5"
    ∷ "verdict=race/row=11/group=4/othergroup=4/thread=2/other=1/kind=ww/at=5"
    ∷ "verdict=race/row=11/group=4/othergroup=3/thread=2/other=-/kind=rw/at=5"
    ∷ "verdict=race/row=11/group=4/othergroup=0/thread=2/other=-/kind=wr/at=5"
    ∷ "verdict=race/row=11/group=4/othergroup=3/thread=2/other=-/kind=ww/at=5"
    ∷ "verdict=outside/row=11/group=4/othergroup=-/thread=3/other=-/kind=-/at=4000000000"
    ∷ "verdict=common/row=11/group=4/othergroup=-/thread=3/other=-/kind=-/at=65791"
    ∷ "verdict=diverged/row=11/group=4/othergroup=-/thread=2/other=0/kind=-/at=-"
    ∷ "verdict=spent/row=11/group=4/othergroup=-/thread=-/other=-/kind=-/at=-"
    ∷ [])
unfolding computing stopped some_steps some_cells some_global with_rest
run_reports = refl

-- One own cell and none, no global cell and one.
pub cell_lines_lem : map (λ g. report_of (stopped Spent) (9 ∷ []) (7 ∷ []) g) ([] ∷ (7 ∷ []) ∷ []) ++ (report_of (stopped Spent) (9 ∷ []) [] (7 ∷ []) ∷ []) ≡
    map (λ s. lines "verdict=spent/row=11/group=4/othergroup=-/thread=-/other=-/kind=-/at=-/rows=12/steps=9/barriers=14/conflicts=105" ++ lines s)
    ("cell=7/end=report" ∷ "cell=7/gcell=7/end=report" ∷ "gcell=7/end=report" ∷ [])
unfolding computing stopped
cell_lines_lem = refl

-- The other's letter first: r it read, w it wrote, a it added.
pub kind_texts : map kind_text (ReadWrite ∷ WriteRead ∷ WriteWrite ∷ ReadAdd ∷ AddRead ∷ WriteAdd ∷ AddWrite ∷ []) ≡
    text "rw" ∷ text "wr" ∷ text "ww" ∷ text "ra" ∷ text "ar" ∷ text "wa" ∷ text "aw" ∷ []
unfolding computing
kind_texts = refl

-- Races of adds are reported as the others are, in the own group and with another one.
pub add_reports :
    map (λ k. report_of (stopped (Race 2 1 k 5)) some_steps some_cells some_global) (ReadAdd ∷ AddRead ∷ WriteAdd ∷ AddWrite ∷ [])
    ++ map (λ k. report_of (stopped (GroupRace 2 1 k 5)) some_steps some_cells some_global) (ReadAdd ∷ AddRead ∷ WriteAdd ∷ AddWrite ∷ [])
    ≡ map with_rest
    ("verdict=race/row=11/group=4/othergroup=4/thread=2/other=1/kind=ra/at=5"
    ∷ "verdict=race/row=11/group=4/othergroup=4/thread=2/other=1/kind=ar/at=5"
    ∷ "verdict=race/row=11/group=4/othergroup=4/thread=2/other=1/kind=wa/at=5"
    ∷ "verdict=race/row=11/group=4/othergroup=4/thread=2/other=1/kind=aw/at=5"
    ∷ "verdict=race/row=11/group=4/othergroup=1/thread=2/other=-/kind=ra/at=5"
    ∷ "verdict=race/row=11/group=4/othergroup=1/thread=2/other=-/kind=ar/at=5"
    ∷ "verdict=race/row=11/group=4/othergroup=1/thread=2/other=-/kind=wa/at=5"
    ∷ "verdict=race/row=11/group=4/othergroup=1/thread=2/other=-/kind=aw/at=5"
    ∷ [])
unfolding computing stopped some_steps some_cells some_global with_rest
add_reports = refl

-- A refusal's report has its number and place, no steps and no cells.
pub refusal_reports :
    report_of (subject.Refused 11 257) some_steps some_cells some_global ∷ report_of (subject.Refused 33 5) [] [] [] ∷ refusal_report 22 17408 ∷ [] ≡
    lines "refused=11/place=257/end=report" ∷ lines "refused=33/place=5/end=report" ∷ lines "refused=22/place=17408/end=report" ∷ []
unfolding computing some_steps some_cells some_global
refusal_reports = refl
