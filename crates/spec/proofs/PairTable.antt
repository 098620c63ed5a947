-- Item 12, computed: the common file, what two kernels are refused for, whole pairs with all that is printed, the pair's entry, and both kernels' threads in one
-- machine. `/` stands between the lines. Assumes nothing.
use Rattle.std.specs.Prelude.{Ok, Err}
use mathlib.Core.Path.{◌≡◌, refl}
use mathlib.Core.Logic.{◌⊎◌, inl, inr}
use mathlib.Core.List.{List, [], ◌∷◌, ◌++◌, map}
use mathlib.Core.Bool.{Bool, true, false}
use Prim.Native.Nat.{ℕ, ◌+◌, ◌-◌, ◌*◌}
use lib.ListN.{replicate}
use Rattle.spec.specs.Answers.{CommonFile, LineNotDue, OutputLength}
use Rattle.spec.specs.Lists.{joined}
use Rattle.spec.specs.Text.{text}
use Rattle.spec.specs.LaunchFile.{accepted, refused}
use Rattle.spec.specs.Entries.{check_prints}
use Rattle.spec.specs.Table.{row_of}
use Rattle.spec.specs.Shape.{sizes, with_common}
use Rattle.spec.specs.Launch.{Launch}
use Rattle.spec.specs.PairFiles.{common_cells, kernel_checked, pair_prints, pair_refusal, pair_answer, pair_output_after}
use Rattle.spec.specs.Runs.{Machine, after, shown_to}
use Rattle.spec.specs.Threads as own
use Rattle.spec.specs.LaunchThreads.{Move, of_group}
use Rattle.spec.specs.Pairs.{firsts, seconds, pair}
use Rattle.spec.specs.PairRuns.{together, starts, pair_leaves}
use Rattle.spec.proofs.Lines.{lines}
use Rattle.spec.proofs.RefusalTable.{or_zero, told_as}
use Rattle.spec.proofs.Computing.{computing}

-- Common files that are good: two cells, the largest word, and none.
pub good_common_files : map (λ s. common_cells (lines s)) ("common=2/cell=7/cell=8/end=common" ∷ "common=1/cell=4294967295/end=common" ∷ "common=0/end=common" ∷ []) ≡
    accepted (7 ∷ 8 ∷ []) ∷ accepted (4294967295 ∷ []) ∷ accepted [] ∷ []
unfolding computing
good_common_files = refl

-- 256 cells are accepted; 257 are refused by the first line, whatever follows it.
unfoldable pub many_cells : (count : ℕ) → (first : List ℕ) → List ℕ
many_cells n first = first ++ (joined (replicate n (text "cell=7\n")) ++ text "end=common\n")

pub most_common_cells : common_cells (many_cells 256 (text "common=256\n")) ∷ common_cells (many_cells 257 (text "common=257\n")) ∷ common_cells (text "common=257\n") ∷ [] ≡
    accepted (replicate 256 7) ∷ refused (CommonFile 1) ∷ refused (CommonFile 1) ∷ []
unfolding computing many_cells
most_common_cells = refl

-- Its first line: an empty file, no byte 10, another key, a number of another form, a kernel's file.
pub faults_of_the_count : map (λ s. common_cells (text s))
    ("" ∷ "common=0" ∷ "cells=0\nend=common\n" ∷ "common=00\nend=common\n" ∷ "common=\nend=common\n" ∷ "common=4294967296\n" ∷ "kernel=1\n" ∷ [])
    ≡ replicate 7 (refused (CommonFile 1))
unfolding computing
faults_of_the_count = refl

-- A cell's line: of another form, not below 2^32, another key, missing, without its byte 10.
pub faults_of_a_cell : map (λ s. common_cells (text s))
    ("common=2\ncell=07\ncell=8\nend=common\n" ∷ "common=2\ncell=7\ncell=4294967296\nend=common\n" ∷ "common=1\ngcell=7\nend=common\n" ∷ "common=2\ncell=7\nend=common\n"
    ∷ "common=2\ncell=7\n" ∷ "common=2\ncell=7\ncell=8" ∷ [])
    ≡ map (λ line. refused (CommonFile line)) (2 ∷ 3 ∷ 2 ∷ 3 ∷ 3 ∷ 3 ∷ [])
unfolding computing
faults_of_a_cell = refl

-- The last line: another one, one cell too many, missing, without its byte 10, something behind it; the same behind no cell.
pub faults_of_the_end : map (λ s. common_cells (text s))
    ("common=1\ncell=7\nend=kernel\n" ∷ "common=1\ncell=7\ncell=8\nend=common\n" ∷ "common=1\ncell=7\n" ∷ "common=1\ncell=7\nend=common" ∷ "common=1\ncell=7\nend=common\nx"
    ∷ "common=1\ncell=7\nend=common\n\n" ∷ "common=0\n" ∷ "common=0\nend=common\nend=common\n" ∷ [])
    ≡ map (λ line. refused (CommonFile line)) (3 ∷ 3 ∷ 3 ∷ 3 ∷ 4 ∷ 4 ∷ 2 ∷ 3 ∷ [])
unfolding computing
faults_of_the_end = refl

-- A launch, and the same over common cells.
unfoldable pub some_launch : Launch
some_launch = record { sizes = sizes 1 2 3 4; limit = 5; table = row_of 2 0 0 0 ∷ []; cells = replicate 10 6 }

-- A kernel's own refusal comes first; then 37; else it is accepted over the common cells.
pub own_input_first :
    kernel_checked (refused (LineNotDue 4)) (refused (CommonFile 2))
    ∷ kernel_checked (refused (LineNotDue 4)) (accepted (7 ∷ []))
    ∷ kernel_checked (accepted some_launch) (refused (CommonFile 2))
    ∷ kernel_checked (accepted some_launch) (accepted (7 ∷ 8 ∷ []))
    ∷ []
    ≡ refused (LineNotDue 4)
    ∷ refused (LineNotDue 4)
    ∷ refused (CommonFile 2)
    ∷ accepted (record { sizes = with_common (7 ∷ 8 ∷ []) (sizes 1 2 3 4); limit = 5; table = row_of 2 0 0 0 ∷ []; cells = replicate 10 6 })
    ∷ []
unfolding computing some_launch
own_input_first = refl

-- An empty table with one cell; its report, that of another cell, and of 37 at a place.
unfoldable pub empty : (cell : List ℕ) → List ℕ
empty cell = lines "kernel=1/threads=1/cells=1/groups=1/global=0/limit=0/rows=0" ++ (text "cell=" ++ (cell ++ lines "/end=kernel"))

unfoldable pub empty_passed : (cell : List ℕ) → List ℕ
empty_passed cell =
    lines "verdict=passed/row=-/group=-/othergroup=-/thread=-/other=-/kind=-/at=-/rows=0/steps=0/barriers=0/conflicts=0" ++ (text "cell=" ++ (cell ++ lines "/end=report"))

unfoldable pub no_common : List ℕ
no_common = lines "common=0/end=common"

-- Without common cells each report is what check prints, the filter's first, each with its own last line.
pub filter_first : pair_prints (empty (text "5")) (empty (text "6")) no_common ≡ empty_passed (text "5") ++ empty_passed (text "6")
unfolding computing empty empty_passed no_common
filter_first = refl

pub as_check_prints : check_prints (empty (text "5")) ≡ empty_passed (text "5")
unfolding computing empty empty_passed
as_check_prints = refl

-- A refused kernel leaves the other its report, be it the filter or the trigger.
pub one_refused :
    pair_prints [] (empty (text "6")) no_common
    ∷ pair_prints (empty (text "5")) (text "kernel=1\nthreads=33\n") no_common
    ∷ pair_prints [] [] no_common
    ∷ []
    ≡ (lines "refused=11/place=1/end=report" ++ empty_passed (text "6"))
    ∷ (empty_passed (text "5") ++ lines "refused=8/place=2/end=report")
    ∷ (lines "refused=11/place=1/end=report" ++ lines "refused=11/place=1/end=report")
    ∷ []
unfolding computing empty empty_passed no_common
one_refused = refl

-- A bad common file, here one that is cut short, refuses both, but for a kernel that is refused for its own input.
unfoldable pub cut_common : List ℕ
cut_common = lines "common=1/cell=7"

pub both_refused :
    pair_prints (empty (text "5")) (empty (text "6")) cut_common
    ∷ pair_prints [] (empty (text "6")) cut_common
    ∷ pair_prints (empty (text "5")) (text "kernel=1\nthreads=33\n") cut_common
    ∷ pair_prints [] (text "kernel=1\nthreads=33\n") cut_common
    ∷ []
    ≡ lines "refused=37/place=3/end=report/refused=37/place=3/end=report"
    ∷ lines "refused=11/place=1/end=report/refused=37/place=3/end=report"
    ∷ lines "refused=37/place=3/end=report/refused=8/place=2/end=report"
    ∷ lines "refused=11/place=1/end=report/refused=8/place=2/end=report"
    ∷ []
unfolding computing empty cut_common
both_refused = refl

-- A whole pair. Two threads of the filter each copy a common cell to an own one, and pass. The trigger, one thread with three cells, loads the second common
-- cell into its own cell 1 and then adds to it there.
unfoldable pub copying : List ℕ
copying =
    lines "kernel=1/threads=2/cells=2/groups=1/global=0/limit=100/rows=6/row=2,0,0,0/row=1,4,0,1/row=6,5,4,4/row=4,5,5,0/row=16,3,5,0/row=17,0,3,0"
    ++ lines "cell=1/cell=2/end=kernel"

unfoldable pub copied : List ℕ
copied =
    lines "verdict=passed/row=-/group=-/othergroup=-/thread=-/other=-/kind=-/at=-/rows=6/steps=6/steps=6/barriers=0/conflicts=0/cell=77/cell=88/end=report"

unfoldable pub adding : List ℕ
adding =
    lines "kernel=1/threads=1/cells=3/groups=1/global=0/limit=100/rows=7/row=1,4,0,1/row=6,5,4,4/row=1,1,1,0/row=4,5,5,1/row=16,3,5,0/row=17,1,3,0/row=18,5,3,0"
    ++ lines "cell=9/cell=9/cell=9/end=kernel"

unfoldable pub added : List ℕ
added = lines "verdict=common/row=6/group=0/othergroup=-/thread=0/other=-/kind=-/at=65537/rows=6/steps=6/barriers=0/conflicts=0/cell=9/cell=88/cell=9/end=report"

unfoldable pub two_words : List ℕ
two_words = lines "common=2/cell=77/cell=88/end=common"

pub copying_and_adding : pair_prints copying adding two_words ≡ copied ++ added
unfolding computing copying copied adding added two_words
copying_and_adding = refl

pub adding_and_copying : pair_prints adding copying two_words ≡ added ++ copied
unfolding computing copying copied adding added two_words
adding_and_copying = refl

-- With one common cell, thread 1 of the filter and the trigger are outside.
pub past_one_word : pair_prints copying adding (lines "common=1/cell=77/end=common") ≡
    lines "verdict=outside/row=4/group=0/othergroup=-/thread=1/other=-/kind=-/at=65537/rows=4/steps=5/steps=4/barriers=0/conflicts=0/cell=1/cell=2/end=report"
    ++ lines "verdict=outside/row=4/group=0/othergroup=-/thread=0/other=-/kind=-/at=65537/rows=4/steps=4/barriers=0/conflicts=0/cell=9/cell=9/cell=9/end=report"
unfolding computing copying adding
past_one_word = refl

-- The entry: 24 below 49,152 bytes. Else the reports are written, and the bytes behind them are kept.
pub pair_room : map (λ n. told_as (pair_refusal (replicate n 7))) (49152 ∷ 49151 ∷ 49153 ∷ 24576 ∷ 0 ∷ []) ≡ (0, 0) ∷ (24, 0) ∷ (0, 0) ∷ (24, 0) ∷ (24, 0) ∷ []
unfolding computing or_zero told_as
pair_room = refl

pub pair_answers : map (λ n. pair_answer [] (text "kernel=1\nthreads=33\n") no_common (replicate n 7)) (49152 ∷ 49151 ∷ []) ≡ Ok 59 ∷ Err OutputLength ∷ []
unfolding computing no_common
pair_answers = refl

pub pair_outputs : map (λ n. pair_output_after [] (text "kernel=1\nthreads=33\n") no_common (replicate n 7)) (49152 ∷ 49151 ∷ []) ≡
    (lines "refused=11/place=1/end=report/refused=8/place=2/end=report" ++ replicate (49152 - 59) 7) ∷ replicate 49151 7 ∷ []
unfolding computing no_common
pair_outputs = refl

-- The moves of each, of a list of both.
unfoldable pub mixed : List (ℕ ⊎ ℕ)
mixed = inl 1 ∷ inr 2 ∷ inr 3 ∷ inl 4 ∷ inr 5 ∷ []

pub moves_of_each_lem : (firsts mixed ≡ 1 ∷ 4 ∷ []) × (seconds mixed ≡ 2 ∷ 3 ∷ 5 ∷ [])
unfolding mixed
moves_of_each_lem = (refl, refl)

-- Two machines with numbers for states: a move m takes the first one from s to 2 * s + m and is possible where m is s + 2; it has ended at 12 and badly at 22. The
-- second one has 3 in place of 2.
abbrev pub counting : (k : ℕ) → Machine
counting k =
    record {
      State = ℕ;
      Move = ℕ;
      Observer = ℕ;
      Shown = ℕ;
      Possible = λ s m. s + k ≡ m;
      next = λ s m. k * s + m;
      shows = λ w s m. k ∷ w ∷ s ∷ m ∷ [];
      Ended = λ s. s ≡ 10 + k;
      Bad = λ s. s ≡ 20 + k;
    }

abbrev pub both : Machine
both = pair (counting 2) (counting 3)

-- Moves of both by turns: each is one machine's, and the other stays as it is.
pub by_turns_lem : after both (1, 1) (inl 5 ∷ inr 7 ∷ inl 4 ∷ []) ≡ (18, 10)
by_turns_lem = refl

pub one_moves : map (both.next (4, 6)) (inl 5 ∷ inr 5 ∷ []) ≡ (13, 6) ∷ (4, 23) ∷ []
one_moves = refl

-- A move is possible where its machine has it, whatever the other has come to: its end, or a bad end.
pub possible_for_one : (both.Possible (4, 23) (inl 7) ≡ (◌≡◌ {A = ℕ} 6 7)) × (both.Possible (22, 4) (inr 7) ≡ (◌≡◌ {A = ℕ} 7 7))
possible_for_one = (refl, refl)

-- Both have to end; a bad end of one is a bad end.
pub ended_when_both : both.Ended (4, 6) ≡ ((◌≡◌ {A = ℕ} 4 12) × (◌≡◌ {A = ℕ} 6 13))
ended_when_both = refl

pub bad_when_one : both.Bad (4, 6) ≡ ((◌≡◌ {A = ℕ} 4 22) ⊎ (◌≡◌ {A = ℕ} 6 23))
bad_when_one = refl

-- An observer of one machine is shown its moves and not the other's.
pub shown_of_one : map (λ w. shown_to both w (1, 1) (inl 5 ∷ inr 7 ∷ inr 4 ∷ [])) (inl 8 ∷ inr 8 ∷ []) ≡
    (inl 2 ∷ inl 8 ∷ inl 1 ∷ inl 5 ∷ []) ∷ (inr 3 ∷ inr 8 ∷ inr 1 ∷ inr 7 ∷ inr 3 ∷ inr 8 ∷ inr 10 ∷ inr 4 ∷ []) ∷ []
shown_of_one = refl

-- Two kernels over the same common cells. One copies common cell 0 to its own cell 0 behind a BARRIER; the other copies it to cell 1 and then stores there.
unfoldable pub waiting : Launch
waiting =
    record {
      sizes = with_common (77 ∷ []) (sizes 1 1 1 0);
      limit = 10;
      table = row_of 1 4 0 1 ∷ row_of 6 5 4 4 ∷ row_of 16 3 5 0 ∷ row_of 37 0 0 0 ∷ row_of 17 0 3 0 ∷ [];
      cells = 1 ∷ [];
    }

unfoldable pub storing : Launch
storing =
    record {
      sizes = with_common (77 ∷ []) (sizes 1 2 1 0);
      limit = 10;
      table = row_of 1 4 0 1 ∷ row_of 6 5 4 4 ∷ row_of 16 3 5 0 ∷ row_of 1 1 1 0 ∷ row_of 17 1 3 0 ∷ row_of 17 5 3 0 ∷ [];
      cells = 5 ∷ 6 ∷ [];
    }

abbrev pub moves : List (Move ⊎ Move)
moves =
    let f = inl (of_group 0 (own.row 0)) in
    let g = inr (of_group 0 (own.row 0)) in
    f ∷ g ∷ f ∷ g ∷ g ∷ f ∷ g ∷ inl (of_group 0 own.release) ∷ g ∷ f ∷ []

-- After ten moves the first has come to its end, and the other has one to go, which ends badly.
pub both_kernels : ((pair_leaves waiting storing moves).0.cells ≡ 77 ∷ []) × ((pair_leaves waiting storing moves).1.cells ≡ 5 ∷ 77 ∷ [])
unfolding computing waiting storing
both_kernels = (refl, refl)

pub both_kernels_bad : map (λ ms. (together waiting storing).Bad (pair_leaves waiting storing ms)) (moves ∷ (moves ++ (inr (of_group 0 (own.row 0)) ∷ [])) ∷ []) ≡
    ((◌≡◌ {A = Bool} false true) ⊎ (◌≡◌ {A = Bool} false true)) ∷ ((◌≡◌ {A = Bool} false true) ⊎ (◌≡◌ {A = Bool} true true)) ∷ []
unfolding computing waiting storing
both_kernels_bad = refl

-- The observers of the first kernel's group 0 and of the second's: only the first is shown cells, just before the release.
pub both_kernels_shown : map (λ w. shown_to (together waiting storing) w (starts waiting storing) moves) (inl 0 ∷ inr 0 ∷ []) ≡ (inl (1 ∷ []) ∷ []) ∷ [] ∷ []
unfolding computing waiting storing
both_kernels_shown = refl
