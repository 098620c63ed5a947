-- Runs of the threads' own machine, of one group, computed move by move. Assumes nothing.
use mathlib.Core.Path.{◌≡◌, refl}
use mathlib.Core.List.{List, [], ◌∷◌, ◌++◌}
use mathlib.Core.Bool.{Bool, true, false, ◌&&◌}
use Prim.Native.Nat.{ℕ}
use lib.ListN.{replicate}
use Rattle.spec.specs.Table.{Table, row_of}
use Rattle.spec.specs.Shape.{Sizes, one_group}
use Rattle.spec.specs.Threads as own
use Rattle.spec.specs.Threads.{Group, any_below}
use Rattle.spec.specs.LaunchThreads.{Groups, view, Move, of_group, next, possible, at_end, initial_groups}
use Rattle.spec.specs.AllRuns as all
use Rattle.spec.specs.AllRuns.{cells_at_releases}
use Rattle.spec.proofs.Computing.{computing}

-- A launch of one group: its moves, and the group as a list of moves leaves it.
abbrev pub row : ℕ → Move
row t = of_group 0 (own.row t)

abbrev pub release : Move
release = of_group 0 own.release

abbrev pub leaves : Table → ℕ → List ℕ → List Move → Group
leaves T n cells ms = view (one_group n cells) (all.leaves T (one_group n cells) cells ms) 0

-- What a list of moves comes to: whether each is possible where it is made, and what holds afterwards.
pub record Played : Type 0 where
  pub all_possible : Bool
  pub ended : Bool
  pub bad : Bool
  pub may_move : Bool
  pub may_release : Bool
  pub cells : List ℕ
  pub at_releases : List (List ℕ)

unfoldable pub is_run : Table → Sizes → Groups → List Move → Bool
is_run T Z S [] = true
is_run T Z S (m ∷ ms) = possible T Z S m && is_run T Z (next T Z S m) ms

unfoldable pub played : Table → ℕ → List ℕ → List Move → Played
played T n cells ms =
    let Z = one_group n cells in
    let S = all.leaves T Z cells ms in
    record {
      all_possible = is_run T Z (initial_groups T Z cells) ms;
      ended = at_end T S;
      bad = S.bad;
      may_move = any_below n (λ t. possible T Z S (row t));
      may_release = possible T Z S release;
      cells = S.cells;
      at_releases = cells_at_releases T Z cells 0 ms;
    }

-- The tables of P1, of P2 and of the two-loop barrier, and a LOAD outside.
unfoldable pub racing : Table
racing =
    row_of 2 0 0 0
    ∷ row_of 1 1 1 0
    ∷ row_of 4 2 0 1
    ∷ row_of 16 3 2 0
    ∷ row_of 16 4 0 0
    ∷ row_of 4 3 3 4
    ∷ row_of 17 0 3 0 ∷ []

unfoldable pub meeting : Table
meeting =
    row_of 2 0 0 0
    ∷ row_of 1 1 1 0
    ∷ row_of 4 2 0 1
    ∷ row_of 16 3 2 0
    ∷ row_of 37 0 0 0
    ∷ row_of 16 4 0 0
    ∷ row_of 4 3 3 4
    ∷ row_of 17 0 3 0 ∷ []

unfoldable pub two_loops : Table
two_loops =
    row_of 2 0 0 0
    ∷ row_of 1 6 1 0
    ∷ row_of 1 7 4 0
    ∷ row_of 32 0 0 0
    ∷ row_of 4 1 6 15
    ∷ row_of 4 2 7 15
    ∷ row_of 33 0 0 0
    ∷ row_of 4 1 7 15
    ∷ row_of 4 2 6 15
    ∷ row_of 34 0 0 0
    ∷ row_of 13 5 3 1
    ∷ row_of 35 0 5 0
    ∷ row_of 1 4 0 0
    ∷ row_of 13 8 4 2
    ∷ row_of 35 0 8 0
    ∷ row_of 37 0 0 0
    ∷ row_of 4 4 4 6
    ∷ row_of 13 8 4 2
    ∷ row_of 36 0 0 0
    ∷ row_of 4 3 3 6
    ∷ row_of 13 5 3 1
    ∷ row_of 36 0 0 0 ∷ []

unfoldable pub straying : Table
straying = row_of 1 1 2 0 ∷ row_of 16 2 1 0 ∷ []

unfoldable pub of : ℕ → ℕ → List Move
of k t = replicate k (row t)

-- P1, row by row as in lock step: thread 1's store ends the run badly, and no move is possible after it.
pub race_is_bad : played racing 2 (1 ∷ 1 ∷ 1 ∷ [])
    (row 0 ∷ row 1 ∷ row 0 ∷ row 1 ∷ row 0 ∷ row 1 ∷ row 0 ∷ row 1 ∷ row 0 ∷ row 1 ∷ row 0 ∷ row 1 ∷ row 0 ∷ row 1 ∷ [])
    ≡ record { all_possible = true; ended = false; bad = true; may_move = false; may_release = false; cells = 2 ∷ 1 ∷ 1 ∷ []; at_releases = [] }
unfolding computing played is_run racing of
race_is_bad = refl

-- P2, thread 1 always first: all come to the barrier, and only a release is possible.
pub barrier_holds : played meeting 2 (1 ∷ 1 ∷ 1 ∷ []) (of 4 1 ++ of 4 0) ≡
    record { all_possible = true; ended = false; bad = false; may_move = false; may_release = true; cells = 1 ∷ 1 ∷ 1 ∷ []; at_releases = [] }
unfolding computing played is_run meeting of
barrier_holds = refl

-- P2 on to its end: the stores behind the release race with no load before it.
pub release_forgets : played meeting 2 (1 ∷ 1 ∷ 1 ∷ []) (of 4 1 ++ (of 4 0 ++ (release ∷ (of 3 1 ++ of 3 0)))) ≡
    record { all_possible = true; ended = true; bad = false; may_move = false; may_release = false; cells = 2 ∷ 2 ∷ 1 ∷ []; at_releases = (1 ∷ 1 ∷ 1 ∷ []) ∷ [] }
unfolding computing played is_run meeting of
release_forgets = refl

-- The two-loop barrier: after one release both threads wait at the same row, with loop counts 2, 1 and 1, 2, and the run is stuck.
pub counts_differ : played two_loops 2 (0 ∷ []) (of 12 0 ++ (of 13 1 ++ (release ∷ (of 11 0 ++ of 4 1)))) ≡
    record { all_possible = true; ended = false; bad = false; may_move = false; may_release = false; cells = 0 ∷ []; at_releases = (0 ∷ []) ∷ [] }
unfolding computing played is_run two_loops of
counts_differ = refl

-- A LOAD of cell 2 of 2.
pub outside_is_bad : played straying 1 (5 ∷ 6 ∷ []) (of 2 0) ≡
    record { all_possible = true; ended = false; bad = true; may_move = false; may_release = false; cells = 5 ∷ 6 ∷ []; at_releases = [] }
unfolding computing played is_run straying of
outside_is_bad = refl

-- All add t + 1 to cell 0; behind a BARRIER all load it; behind another each adds what it loaded to its own cell.
unfoldable pub summing : Table
summing =
    row_of 2 0 0 0
    ∷ row_of 1 1 1 0
    ∷ row_of 4 2 0 1
    ∷ row_of 18 3 2 0
    ∷ row_of 37 0 0 0
    ∷ row_of 16 4 3 0
    ∷ row_of 37 0 0 0
    ∷ row_of 18 0 4 0 ∷ []

-- Thread 1 first, and thread 0 first: both runs end with the same cells, which are the same at each release too.
pub sums_agree :
    played summing 2 (4 ∷ 5 ∷ []) (of 4 1 ++ (of 4 0 ++ (release ∷ row 1 ∷ row 0 ∷ release ∷ row 1 ∷ row 0 ∷ [])))
    ∷ played summing 2 (4 ∷ 5 ∷ []) (of 3 0 ++ (of 3 1 ++ (row 0 ∷ row 1 ∷ release ∷ row 0 ∷ row 1 ∷ release ∷ row 0 ∷ row 1 ∷ [])))
    ∷ []
    ≡ replicate 2 (record {
      all_possible = true;
      ended = true;
      bad = false;
      may_move = false;
      may_release = false;
      cells = 14 ∷ 12 ∷ [];
      at_releases = (7 ∷ 5 ∷ []) ∷ (7 ∷ 5 ∷ []) ∷ [];
    })
unfolding computing played is_run summing of
sums_agree = refl

-- The same without BARRIERs: where thread 0 has loaded, thread 1's add ends the run badly; where both have added, thread 0's load does.
unfoldable pub hasty : Table
hasty = row_of 2 0 0 0 ∷ row_of 1 1 1 0 ∷ row_of 4 2 0 1 ∷ row_of 18 3 2 0 ∷ row_of 16 4 3 0 ∷ []

pub add_after_load : played hasty 2 (4 ∷ 5 ∷ []) (of 5 0 ++ of 4 1) ≡
    record { all_possible = true; ended = false; bad = true; may_move = false; may_release = false; cells = 5 ∷ 5 ∷ []; at_releases = [] }
unfolding computing played is_run hasty of
add_after_load = refl

pub load_after_add : played hasty 2 (4 ∷ 5 ∷ []) (of 4 0 ++ (of 4 1 ++ (row 0 ∷ []))) ≡
    record { all_possible = true; ended = false; bad = true; may_move = false; may_release = false; cells = 7 ∷ 5 ∷ []; at_releases = [] }
unfolding computing played is_run hasty of
load_after_add = refl

-- Thread t halves 3 + t by SHR with 33 until nothing is left, and stores the number of rounds.
unfoldable pub halving : Table
halving =
    row_of 2 0 0 0
    ∷ row_of 1 1 3 0
    ∷ row_of 4 1 1 0
    ∷ row_of 1 2 33 0
    ∷ row_of 1 3 1 0
    ∷ row_of 35 0 1 0
    ∷ row_of 10 1 1 2
    ∷ row_of 4 4 4 3
    ∷ row_of 36 0 0 0
    ∷ row_of 17 0 4 0 ∷ []

-- Two rounds of thread 0 and three of thread 1, as in lock step.
pub shifts_alike : played halving 2 (9 ∷ 9 ∷ []) (of 19 1 ++ of 15 0) ≡
    record { all_possible = true; ended = true; bad = false; may_move = false; may_release = false; cells = 2 ∷ 3 ∷ []; at_releases = [] }
unfolding computing played is_run halving of
shifts_alike = refl
