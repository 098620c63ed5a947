-- The threads' own machine move by move: where a thread goes, its loop counts and registers, what is recorded, and which moves are possible. Assumes nothing.
use mathlib.Core.Path.{◌≡◌, refl}
use mathlib.Core.List.{List, [], ◌∷◌, ◌++◌, map}
use mathlib.Core.Bool.{Bool, true, false}
use Prim.Native.Nat.{ℕ, zero, suc, ◌+◌}
use lib.ListN.{length, get_or, take, replicate}
use Rattle.spec.specs.Access.{load, store, atomic_add}
use Rattle.spec.specs.Op.{CALC, SET, OWN, GLOBAL, MEM, LOAD, STORE, IF, ELSE, ENDIF, WHILE, ENDWHILE, BARRIER, UNKNOWN}
use Rattle.spec.specs.Table.{Table, row_of}
use Rattle.spec.specs.Shape.{Sizes, Shape, one_group, shape_of, sizes}
use Rattle.spec.specs.Threads as own
use Rattle.spec.specs.Threads.{Thread, Group, at_one_barrier, is_barrier, no_thread, empty_record, machine}
use Rattle.spec.specs.LaunchThreads.{Groups, view, Move, next, possible, at_end, initial_groups}
use Rattle.spec.specs.Runs.{Machine, Run, many, after, shown_to}
use Rattle.spec.specs.Steps.{sum}
use Rattle.spec.specs.LaunchRun.{lockstep}
use Rattle.spec.specs.AllRuns as all
use Rattle.spec.specs.AllRuns.{is_move_of, is_release}
use Rattle.spec.proofs.LockStepTable.{winding, circling}
use Rattle.spec.proofs.MachineRuns.{row, release, leaves, is_run, played, of, racing, meeting, straying}
use Rattle.spec.proofs.Computing.{computing}

-- Thread t's row, and its counts of the loops at rows p and q.
unfoldable pub place : ℕ → ℕ → ℕ → Group → List ℕ
place t p q g = let th = get_or g.threads t no_thread in th.row ∷ get_or th.loops p 0 ∷ get_or th.loops q 0 ∷ []

-- What is seen after each of these moves.
unfoldable pub trail : Table → Sizes → (Group → List ℕ) → Groups → List Move → List (List ℕ)
trail T Z see S [] = []
trail T Z see S (m ∷ ms) = let h = next T Z S m in see (view Z h 0) ∷ trail T Z see h ms

unfoldable pub alone : Table → (n t p q moves : ℕ) → List (List ℕ)
alone T n t p q moves = let Z = one_group n (7 ∷ 7 ∷ 7 ∷ []) in trail T Z (place t p q) (initial_groups T Z (7 ∷ 7 ∷ 7 ∷ [])) (of moves t)

-- Thread 0 of `winding`: IF false goes behind ELSE; in there IF true, and ELSE to ENDIF; the second loop twice; then it waits at the BARRIER.
pub thread_0 : alone winding 3 0 3 13 17 ≡
    (1 ∷ 0 ∷ 0 ∷ []) ∷ (2 ∷ 0 ∷ 0 ∷ []) ∷ (7 ∷ 0 ∷ 0 ∷ []) ∷ (8 ∷ 0 ∷ 0 ∷ []) ∷ (9 ∷ 0 ∷ 0 ∷ []) ∷ (11 ∷ 0 ∷ 0 ∷ [])
    ∷ (12 ∷ 0 ∷ 0 ∷ []) ∷ (13 ∷ 0 ∷ 0 ∷ []) ∷ (14 ∷ 0 ∷ 1 ∷ []) ∷ (15 ∷ 0 ∷ 1 ∷ []) ∷ (13 ∷ 0 ∷ 1 ∷ []) ∷ (14 ∷ 0 ∷ 2 ∷ [])
    ∷ (15 ∷ 0 ∷ 2 ∷ []) ∷ (13 ∷ 0 ∷ 2 ∷ []) ∷ (16 ∷ 0 ∷ 0 ∷ []) ∷ (17 ∷ 0 ∷ 0 ∷ []) ∷ (17 ∷ 0 ∷ 0 ∷ []) ∷ []
unfolding computing of place trail alone winding
thread_0 = refl

-- Thread 2: the first loop twice, its count put back to 0; ELSE goes to ENDIF; the second loop not at all.
pub thread_2 : alone winding 3 2 3 13 14 ≡
    (1 ∷ 0 ∷ 0 ∷ []) ∷ (2 ∷ 0 ∷ 0 ∷ []) ∷ (3 ∷ 0 ∷ 0 ∷ []) ∷ (4 ∷ 1 ∷ 0 ∷ []) ∷ (5 ∷ 1 ∷ 0 ∷ []) ∷ (3 ∷ 1 ∷ 0 ∷ [])
    ∷ (4 ∷ 2 ∷ 0 ∷ []) ∷ (5 ∷ 2 ∷ 0 ∷ []) ∷ (3 ∷ 2 ∷ 0 ∷ []) ∷ (6 ∷ 0 ∷ 0 ∷ []) ∷ (12 ∷ 0 ∷ 0 ∷ []) ∷ (13 ∷ 0 ∷ 0 ∷ [])
    ∷ (16 ∷ 0 ∷ 0 ∷ []) ∷ (17 ∷ 0 ∷ 0 ∷ []) ∷ []
unfolding computing of place trail alone winding
thread_2 = refl

-- A loop (5 to 7) in a loop (3 to 9): the inner count starts anew each time the inner loop is entered.
unfoldable pub loop_in_loop : Table
loop_in_loop =
    row_of 2 0 0 0
    ∷ row_of 1 1 1 0
    ∷ row_of 4 2 0 1
    ∷ row_of 35 0 2 0
    ∷ row_of 4 3 0 15
    ∷ row_of 35 0 3 0
    ∷ row_of 5 3 3 1
    ∷ row_of 36 0 0 0
    ∷ row_of 5 2 2 1
    ∷ row_of 36 0 0 0
    ∷ []

pub loops_anew : alone loop_in_loop 2 1 3 5 20 ≡
    (1 ∷ 0 ∷ 0 ∷ []) ∷ (2 ∷ 0 ∷ 0 ∷ []) ∷ (3 ∷ 0 ∷ 0 ∷ []) ∷ (4 ∷ 1 ∷ 0 ∷ []) ∷ (5 ∷ 1 ∷ 0 ∷ []) ∷ (6 ∷ 1 ∷ 1 ∷ []) ∷ (7 ∷ 1 ∷ 1 ∷ [])
    ∷ (5 ∷ 1 ∷ 1 ∷ []) ∷ (8 ∷ 1 ∷ 0 ∷ []) ∷ (9 ∷ 1 ∷ 0 ∷ []) ∷ (3 ∷ 1 ∷ 0 ∷ []) ∷ (4 ∷ 2 ∷ 0 ∷ []) ∷ (5 ∷ 2 ∷ 0 ∷ []) ∷ (6 ∷ 2 ∷ 1 ∷ [])
    ∷ (7 ∷ 2 ∷ 1 ∷ []) ∷ (5 ∷ 2 ∷ 1 ∷ []) ∷ (8 ∷ 2 ∷ 0 ∷ []) ∷ (9 ∷ 2 ∷ 0 ∷ []) ∷ (3 ∷ 2 ∷ 0 ∷ []) ∷ (10 ∷ 0 ∷ 0 ∷ []) ∷ []
unfolding computing of place trail alone loop_in_loop
loops_anew = refl

-- Each thread's row, its registers 0 to 4, and its loop counts by row.
unfoldable pub stand : Thread → ℕ × (List ℕ × List ℕ)
stand th = (th.row, (take 5 th.regs, th.loops))

unfoldable pub rounds : Thread → ℕ × List ℕ
rounds th = (th.row, th.loops)

-- P1 by both threads up to their STORE, and thread 0's STORE: what each then has, and what is recorded, the newest first.
pub registers_of_threads : map stand (leaves racing 2 (4 ∷ 5 ∷ 6 ∷ []) (of 7 0 ++ of 6 1)).threads ≡
    (7, (0 ∷ 1 ∷ 1 ∷ 9 ∷ 4 ∷ [], replicate 7 0)) ∷ (6, (1 ∷ 1 ∷ 2 ∷ 11 ∷ 5 ∷ [], replicate 7 0)) ∷ []
unfolding computing of racing stand
registers_of_threads = refl

pub recorded_accesses : map (leaves racing 2 (4 ∷ 5 ∷ 6 ∷ []) (of 7 0 ++ of 6 1)).made (0 ∷ 1 ∷ 2 ∷ []) ≡
    (record { cell = 0; kind = store 9 } ∷ record { cell = 0; kind = load } ∷ record { cell = 1; kind = load } ∷ [])
    ∷ (record { cell = 1; kind = load } ∷ record { cell = 2; kind = load } ∷ [])
    ∷ []
    ∷ []
unfolding computing of racing
recorded_accesses = refl

-- A release empties the record, and threads that end leave theirs.
pub record_emptied : map (leaves meeting 2 (1 ∷ 1 ∷ 1 ∷ []) (of 4 1 ++ (of 4 0 ++ (release ∷ [])))).made (0 ∷ 1 ∷ []) ≡ [] ∷ [] ∷ []
unfolding computing of meeting
record_emptied = refl

-- Which of threads 0, 1, 2 and 3 may move, whether a release may be made, and whether the run has come to its end.
unfoldable pub may : Table → ℕ → List ℕ → List Move → List Bool
may T n cells ms =
    let Z = one_group n cells in
    let S = all.leaves T Z cells ms in
    map (λ t. possible T Z S (row t)) (0 ∷ 1 ∷ 2 ∷ 3 ∷ []) ++ (possible T Z S release ∷ at_end T S ∷ [])

-- P2 of two threads; there are no threads 2 and 3. At the start; one waits; both wait; released; one at the end, so that none is ended; both.
pub two_threads : map (may meeting 2 (1 ∷ 1 ∷ 1 ∷ []))
    ([]
    ∷ of 4 0
    ∷ (of 4 0 ++ of 4 1)
    ∷ (of 4 0 ++ (of 4 1 ++ (release ∷ [])))
    ∷ (of 4 0 ++ (of 4 1 ++ (release ∷ of 3 0)))
    ∷ (of 4 0 ++ (of 4 1 ++ (release ∷ (of 3 1))))
    ∷ (of 4 0 ++ (of 4 1 ++ (release ∷ (of 3 0 ++ of 3 1))))
    ∷ [])
    ≡ (true ∷ true ∷ false ∷ false ∷ false ∷ false ∷ [])
    ∷ (false ∷ true ∷ false ∷ false ∷ false ∷ false ∷ [])
    ∷ (false ∷ false ∷ false ∷ false ∷ true ∷ false ∷ [])
    ∷ (true ∷ true ∷ false ∷ false ∷ false ∷ false ∷ [])
    ∷ (false ∷ true ∷ false ∷ false ∷ false ∷ false ∷ [])
    ∷ (true ∷ false ∷ false ∷ false ∷ false ∷ false ∷ [])
    ∷ (false ∷ false ∷ false ∷ false ∷ false ∷ true ∷ [])
    ∷ []
unfolding computing of may meeting
two_threads = refl

-- P5: a BARRIER in each part of an IF. Both wait, each at its own: no release, and the run is stuck. All at rows that are no BARRIER: no release either.
unfoldable pub parted : Table
parted = row_of 2 0 0 0 ∷ row_of 32 0 0 0 ∷ row_of 37 0 0 0 ∷ row_of 33 0 0 0 ∷ row_of 37 0 0 0 ∷ row_of 34 0 0 0 ∷ []

pub two_barriers : map (may parted 2 (0 ∷ [])) (of 2 0 ∷ of 2 1 ∷ (of 2 0 ++ of 2 1) ∷ (of 1 0 ++ of 1 1) ∷ []) ≡
    (false ∷ true ∷ false ∷ false ∷ false ∷ false ∷ [])
    ∷ (true ∷ false ∷ false ∷ false ∷ false ∷ false ∷ [])
    ∷ (false ∷ false ∷ false ∷ false ∷ false ∷ false ∷ [])
    ∷ (true ∷ true ∷ false ∷ false ∷ false ∷ false ∷ [])
    ∷ []
unfolding computing of may parted
two_barriers = refl

-- Three threads, TID, then IF R0: STORE R0 at cell 0, ELSE: LOAD cell 0. Whoever stores after another's access, or loads after another's store, ends
-- the run badly, be it the first thread or the last; the bad access leaves the cells, and no move is possible after it.
unfoldable pub crossing : Table
crossing = row_of 2 0 0 0 ∷ row_of 32 0 0 0 ∷ row_of 17 1 0 0 ∷ row_of 33 0 0 0 ∷ row_of 16 2 1 0 ∷ row_of 34 0 0 0 ∷ []

unfoldable pub comes_to : Table → List Move → List ℕ × (List Bool × Bool)
comes_to T ms = let g = leaves T 3 (9 ∷ []) ms in (g.cells, (may T 3 (9 ∷ []) ms, g.bad))

unfoldable pub nothing : List Bool
nothing = false ∷ false ∷ false ∷ false ∷ false ∷ false ∷ []

pub bad_ends : map (comes_to crossing) (of 3 2 ∷ (of 3 2 ++ of 3 0) ∷ (of 3 2 ++ of 3 1) ∷ (of 3 1 ++ of 3 2) ∷ (of 3 0 ++ of 3 2) ∷ []) ≡
    (2 ∷ [], (true ∷ true ∷ true ∷ false ∷ false ∷ false ∷ [], false))
    ∷ (2 ∷ [], (nothing, true))
    ∷ (2 ∷ [], (nothing, true))
    ∷ (1 ∷ [], (nothing, true))
    ∷ (9 ∷ [], (nothing, true))
    ∷ []
unfolding computing of may crossing comes_to nothing
bad_ends = refl

-- Three threads: thread 0 loads cell 0, thread 1 stores its number there, thread 2 adds its number. An add after another's load or store, and a load or
-- a store after another's add, ends the run badly.
unfoldable pub mingling : Table
mingling =
    row_of 2 0 0 0
    ∷ row_of 1 1 1 0
    ∷ row_of 5 2 0 1
    ∷ row_of 32 0 0 0
    ∷ row_of 32 0 2 0
    ∷ row_of 18 3 0 0
    ∷ row_of 33 0 0 0
    ∷ row_of 17 3 0 0
    ∷ row_of 34 0 0 0
    ∷ row_of 33 0 0 0
    ∷ row_of 16 4 3 0
    ∷ row_of 34 0 0 0
    ∷ []

pub bad_adds : map (comes_to mingling) (of 6 2 ∷ (of 5 0 ++ of 6 2) ∷ (of 6 2 ++ of 5 0) ∷ (of 6 1 ++ of 6 2) ∷ (of 6 2 ++ of 6 1) ∷ []) ≡
    (11 ∷ [], (true ∷ true ∷ true ∷ false ∷ false ∷ false ∷ [], false))
    ∷ (9 ∷ [], (nothing, true))
    ∷ (11 ∷ [], (nothing, true))
    ∷ (1 ∷ [], (nothing, true))
    ∷ (11 ∷ [], (nothing, true))
    ∷ []
unfolding computing of may mingling comes_to nothing
bad_adds = refl

-- Thread t adds R2, which is 10 + t, to cell R1, which is cell 1.
unfoldable pub gathering : Table
gathering = row_of 2 0 0 0 ∷ row_of 1 1 1 0 ∷ row_of 1 2 10 0 ∷ row_of 4 2 2 0 ∷ row_of 18 1 2 0 ∷ []

unfoldable pub gathered : List Move → List ℕ × Bool
gathered ms = let g = leaves gathering 3 (5 ∷ 4294967290 ∷ []) ms in (g.cells, g.bad)

-- Adds of different threads are no race, and in every order they leave the same cells, modulo 2^32.
pub adds_in_any_order : map gathered
    (of 5 0
    ∷ of 5 2
    ∷ (of 5 0 ++ of 5 2)
    ∷ (of 5 2 ++ of 5 0)
    ∷ (of 5 0 ++ (of 5 1 ++ of 5 2))
    ∷ (of 5 1 ++ (of 5 2 ++ of 5 0))
    ∷ (of 5 2 ++ (of 5 1 ++ of 5 0))
    ∷ [])
    ≡ (5 ∷ 4 ∷ [], false)
    ∷ (5 ∷ 6 ∷ [], false)
    ∷ (5 ∷ 16 ∷ [], false)
    ∷ (5 ∷ 16 ∷ [], false)
    ∷ (5 ∷ 27 ∷ [], false)
    ∷ (5 ∷ 27 ∷ [], false)
    ∷ (5 ∷ 27 ∷ [], false)
    ∷ []
unfolding computing of gathering gathered
adds_in_any_order = refl

-- An add leaves its thread's registers, goes to the next row, and is recorded as an add, with its value.
pub registers_kept : map stand (leaves gathering 3 (5 ∷ 4294967290 ∷ []) (of 5 2 ++ of 4 0)).threads ≡
    (4, (0 ∷ 1 ∷ 10 ∷ 0 ∷ 0 ∷ [], replicate 5 0)) ∷ (0, (replicate 5 0, replicate 5 0)) ∷ (5, (2 ∷ 1 ∷ 12 ∷ 0 ∷ 0 ∷ [], replicate 5 0)) ∷ []
unfolding computing of gathering stand
registers_kept = refl

pub recorded_adds : map (leaves gathering 3 (5 ∷ 4294967290 ∷ []) (of 5 2 ++ of 5 0)).made (0 ∷ 1 ∷ 2 ∷ []) ≡
    (record { cell = 1; kind = atomic_add 10 } ∷ []) ∷ [] ∷ (record { cell = 1; kind = atomic_add 12 } ∷ []) ∷ []
unfolding computing of gathering
recorded_adds = refl

-- An add of 0 is an add: thread 1's load after thread 0's, and thread 0's after thread 1's load.
pub zero_adds : map (λ ms. (leaves (row_of 18 0 1 0 ∷ row_of 16 2 0 0 ∷ []) 2 (9 ∷ []) ms).bad)
    ((row 0 ∷ row 1 ∷ []) ∷ (row 0 ∷ row 1 ∷ row 1 ∷ []) ∷ (row 1 ∷ row 1 ∷ row 0 ∷ []) ∷ [])
    ≡ false ∷ true ∷ true ∷ []
unfolding computing
zero_adds = refl

-- One thread's own accesses of one cell are no race.
pub own_accesses : (leaves (row_of 16 1 0 0 ∷ row_of 17 0 1 0 ∷ row_of 16 1 0 0 ∷ row_of 17 0 1 0 ∷ []) 2 (9 ∷ []) (of 4 1)).bad ≡ false
unfolding computing of
own_accesses = refl

-- Its own adds too: add, load, add, store, add.
unfoldable pub adding : Table
adding = row_of 18 0 1 0 ∷ row_of 16 1 0 0 ∷ row_of 18 0 1 0 ∷ row_of 17 0 1 0 ∷ row_of 18 0 1 0 ∷ []

pub own_adds : map (λ k. (leaves adding 2 (9 ∷ []) (of k 1)).cells) (1 ∷ 2 ∷ 3 ∷ 4 ∷ 5 ∷ []) ≡ (9 ∷ []) ∷ (9 ∷ []) ∷ (18 ∷ []) ∷ (9 ∷ []) ∷ (18 ∷ []) ∷ []
unfolding computing of adding
own_adds = refl

pub own_adds_well : (leaves adding 2 (9 ∷ []) (of 5 1)).bad ≡ false
unfolding computing of adding
own_adds_well = refl

-- Two threads store 5 to cell 0, and behind a BARRIER 6, in either order and by turns: these runs come to their end.
unfoldable pub alike : Table
alike = row_of 1 1 5 0 ∷ row_of 17 0 1 0 ∷ row_of 37 0 0 0 ∷ row_of 1 1 6 0 ∷ row_of 17 0 1 0 ∷ []

pub equal_stores : map (played alike 2 (9 ∷ []))
    ((of 2 0 ++ (of 2 1 ++ (release ∷ (of 2 0 ++ of 2 1))))
    ∷ (of 2 1 ++ (of 2 0 ++ (release ∷ (of 2 1 ++ of 2 0))))
    ∷ (row 0 ∷ row 1 ∷ row 1 ∷ row 0 ∷ release ∷ row 1 ∷ row 0 ∷ row 1 ∷ row 0 ∷ [])
    ∷ [])
    ≡ replicate 3 (record {
      all_possible = true;
      ended = true;
      bad = false;
      may_move = false;
      may_release = false;
      cells = 6 ∷ [];
      at_releases = (5 ∷ []) ∷ [];
    })
unfolding computing of played is_run alike
equal_stores = refl

-- The cells that moves of two threads leave, and whether they end badly.
unfoldable pub storing : Table → List Move → List ℕ × Bool
storing T ms = let g = leaves T 2 (9 ∷ []) ms in (g.cells, g.bad)

-- Their own numbers, in either order: the second store ends the run badly.
pub unequal_stores : map (storing (row_of 2 1 0 0 ∷ row_of 17 0 1 0 ∷ [])) (of 2 0 ∷ (of 2 0 ++ of 2 1) ∷ (of 2 1 ++ of 2 0) ∷ []) ≡
    (0 ∷ [], false) ∷ (0 ∷ [], true) ∷ (1 ∷ [], true) ∷ []
unfolding computing of storing
unequal_stores = refl

-- Thread 0 stores 5 and 6 to cell 0, its fifth and sixth move; thread 1 stores 5, its fifth. Thread 0 alone does so well. Whether thread 1's store comes
-- last, between or first, the run ends badly as soon as all three would be made.
unfoldable pub two_and_one : Table
two_and_one =
    row_of 2 0 0 0
    ∷ row_of 1 1 5 0
    ∷ row_of 1 2 6 0
    ∷ row_of 32 0 0 0
    ∷ row_of 17 15 1 0
    ∷ row_of 33 0 0 0
    ∷ row_of 17 15 1 0
    ∷ row_of 17 15 2 0
    ∷ row_of 34 0 0 0
    ∷ []

pub own_unequal_stores : map (storing two_and_one)
    (of 7 0
    ∷ (of 6 0 ++ of 5 1)
    ∷ (of 5 0 ++ of 5 1)
    ∷ (of 5 0 ++ (of 5 1 ++ of 1 0))
    ∷ (of 5 1 ++ of 5 0)
    ∷ (of 5 1 ++ of 6 0)
    ∷ [])
    ≡ (6 ∷ [], false) ∷ (6 ∷ [], true) ∷ (5 ∷ [], false) ∷ (5 ∷ [], true) ∷ (5 ∷ [], false) ∷ (5 ∷ [], true) ∷ []
unfolding computing of storing two_and_one
own_unequal_stores = refl

-- `circling` to its end: two releases in the loop and one behind it, and the cells just before each.
pub three_releases : played circling 2 (9 ∷ 9 ∷ [])
    (of 6 0 ++ (of 6 1 ++ (release ∷ (of 5 1 ++ (of 5 0 ++ (release ∷ (of 3 0 ++ (of 3 1 ++ (release ∷ []))))))))) ≡
    record {
      all_possible = true;
      ended = true;
      bad = false;
      may_move = false;
      may_release = false;
      cells = 1 ∷ 2 ∷ [];
      at_releases = (2 ∷ 3 ∷ []) ∷ (1 ∷ 2 ∷ []) ∷ (1 ∷ 2 ∷ []) ∷ [];
    }
unfolding computing of played is_run circling
three_releases = refl

-- A release puts no loop count back: at the second one the count is 2.
pub count_kept : map rounds (leaves circling 2 (9 ∷ 9 ∷ []) (of 6 0 ++ (of 6 1 ++ (release ∷ (of 5 0 ++ of 5 1))))).threads ≡
    replicate 2 (6, 0 ∷ 0 ∷ 0 ∷ 2 ∷ 0 ∷ 0 ∷ 0 ∷ 0 ∷ 0 ∷ 0 ∷ [])
unfolding computing of circling rounds
count_kept = refl

-- A BARRIER (7) in a loop (6) in a loop (3): thread 0 comes to it in its first round of the outer loop, thread 1 in its second. The inner counts are
-- equal, the outer ones are not, and the run is stuck.
unfoldable pub later_round : Table
later_round =
    row_of 2 0 0 0
    ∷ row_of 1 1 1 0
    ∷ row_of 1 2 2 0
    ∷ row_of 35 0 2 0
    ∷ row_of 5 3 2 1
    ∷ row_of 9 4 3 0
    ∷ row_of 35 0 4 0
    ∷ row_of 37 0 0 0
    ∷ row_of 5 4 4 1
    ∷ row_of 36 0 0 0
    ∷ row_of 5 2 2 1
    ∷ row_of 36 0 0 0
    ∷ []

pub outer_counts : map rounds (leaves later_round 2 (9 ∷ []) (of 7 0 ++ of 13 1)).threads ≡
    (7, 0 ∷ 0 ∷ 0 ∷ 1 ∷ 0 ∷ 0 ∷ 1 ∷ 0 ∷ 0 ∷ 0 ∷ 0 ∷ 0 ∷ []) ∷ (7, 0 ∷ 0 ∷ 0 ∷ 2 ∷ 0 ∷ 0 ∷ 1 ∷ 0 ∷ 0 ∷ 0 ∷ 0 ∷ 0 ∷ []) ∷ []
unfolding computing of later_round rounds
outer_counts = refl

pub outer_counts_stuck : may later_round 2 (9 ∷ []) (of 7 0 ++ of 13 1) ≡ replicate 6 false
unfolding computing of may later_round
outer_counts_stuck = refl

-- Threads at rows of `later_round`, with an outer and an inner count: together only at the same BARRIER row, with all counts equal, all three of them.
unfoldable pub standing : (r outer inner : ℕ) → Thread
standing r outer inner = record { row = r; regs = []; loops = 0 ∷ 0 ∷ 0 ∷ outer ∷ 0 ∷ 0 ∷ inner ∷ 0 ∷ 0 ∷ 0 ∷ 0 ∷ 0 ∷ [] }

pub together : map (at_one_barrier later_round)
    ((standing 7 1 1 ∷ [])
    ∷ (standing 6 1 1 ∷ [])
    ∷ (standing 7 2 3 ∷ standing 7 2 3 ∷ standing 7 2 3 ∷ [])
    ∷ (standing 7 2 3 ∷ standing 7 2 3 ∷ standing 7 2 4 ∷ [])
    ∷ (standing 7 2 3 ∷ standing 7 1 3 ∷ standing 7 2 3 ∷ [])
    ∷ (standing 7 2 3 ∷ standing 7 2 3 ∷ standing 6 2 3 ∷ [])
    ∷ (standing 6 2 3 ∷ standing 7 2 3 ∷ standing 7 2 3 ∷ [])
    ∷ (standing 6 2 3 ∷ standing 6 2 3 ∷ [])
    ∷ (standing 12 0 0 ∷ standing 12 0 0 ∷ [])
    ∷ []
    ∷ [])
    ≡ true ∷ false ∷ true ∷ false ∷ false ∷ false ∷ false ∷ false ∷ false ∷ false ∷ []
unfolding computing later_round standing
together = refl

-- After a bad end nothing is possible, not even a release of threads that stand together, and threads at the table's end have not come to theirs.
unfoldable pub group_of : List Thread → Bool → Group
group_of threads bad = record { threads = threads; cells = 9 ∷ []; made = empty_record; ever = empty_record; barred = λ a. false; bad = bad }

abbrev pub pair : Shape
pair = shape_of (one_group 2 (9 ∷ [])) 0

pub nothing_after_bad : map
    (λ bad.
    own.possible later_round pair (group_of (standing 7 1 1 ∷ standing 7 1 1 ∷ []) bad) own.release
    ∷ own.possible later_round pair (group_of (standing 7 1 1 ∷ standing 6 1 1 ∷ []) bad) (own.row 1)
    ∷ own.at_end later_round (group_of (standing 12 0 0 ∷ standing 12 0 0 ∷ []) bad)
    ∷ (own.next later_round pair (group_of (standing 7 1 1 ∷ standing 7 1 1 ∷ []) bad) own.release).bad
    ∷ [])
    (false ∷ true ∷ [])
    ≡ (true ∷ true ∷ true ∷ false ∷ []) ∷ (false ∷ false ∷ false ∷ true ∷ []) ∷ []
unfolding computing later_round standing group_of
nothing_after_bad = refl

-- A run has come to its end when all threads are behind the last row, not at it.
pub behind_the_last_row : map (λ r. own.at_end later_round (group_of (standing 12 0 0 ∷ standing r 0 0 ∷ []) false)) (0 ∷ 11 ∷ 12 ∷ []) ≡ false ∷ false ∷ true ∷ []
unfolding computing later_round standing group_of
behind_the_last_row = refl

-- BARRIER is the one row of which a release is made.
pub barrier_rows : map is_barrier (CALC SET ∷ MEM OWN LOAD ∷ MEM GLOBAL STORE ∷ IF ∷ ELSE ∷ ENDIF ∷ WHILE ∷ ENDWHILE ∷ BARRIER ∷ UNKNOWN ∷ []) ≡
    false ∷ false ∷ false ∷ false ∷ false ∷ false ∷ false ∷ false ∷ true ∷ false ∷ []
unfolding computing
barrier_rows = refl

-- COUNT beside TID and the number of cells, by thread 1 of three, with five cells; a load of its own cell, and cells beside it.
pub count_of_threads : map (λ th. take 3 th.regs)
    (leaves (row_of 2 0 0 0 ∷ row_of 3 1 0 0 ∷ row_of 16 2 0 0 ∷ []) 3 (10 ∷ 11 ∷ 12 ∷ 13 ∷ 14 ∷ []) (of 3 1 ++ of 3 2)).threads
    ≡ (0 ∷ 0 ∷ 0 ∷ []) ∷ (1 ∷ 3 ∷ 11 ∷ []) ∷ (2 ∷ 3 ∷ 12 ∷ []) ∷ []
unfolding computing of
count_of_threads = refl

-- Address cells - 1 and address cells, of five cells, by LOAD, by STORE and by ATOMIC ADD.
pub edge_of_cells : map (λ x. (leaves (row_of 1 1 4 0 ∷ row_of 1 2 5 0 ∷ x ∷ []) 1 (10 ∷ 11 ∷ 12 ∷ 13 ∷ 14 ∷ []) (of 3 0)).bad)
    (row_of 16 3 1 0 ∷ row_of 16 3 2 0 ∷ row_of 17 1 2 0 ∷ row_of 17 2 1 0 ∷ row_of 18 1 2 0 ∷ row_of 18 2 1 0 ∷ [])
    ≡ false ∷ true ∷ false ∷ true ∷ false ∷ true ∷ []
unfolding computing of
edge_of_cells = refl

-- Of five moves two are releases.
pub releases_counted : many is_release (row 0 ∷ release ∷ row 1 ∷ release ∷ row 2 ∷ []) ≡ 2
unfolding computing
releases_counted = refl

-- Of the moves of threads 0, 1, 2 and a release, each thread has its own alone, and thread 3 has none.
pub own_moves : map (λ t. map (is_move_of 0 t) (row 0 ∷ row 1 ∷ row 2 ∷ release ∷ [])) (0 ∷ 1 ∷ 2 ∷ 3 ∷ []) ≡
    (true ∷ false ∷ false ∷ false ∷ [])
    ∷ (false ∷ true ∷ false ∷ false ∷ [])
    ∷ (false ∷ false ∷ true ∷ false ∷ [])
    ∷ (false ∷ false ∷ false ∷ false ∷ [])
    ∷ []
unfolding computing
own_moves = refl

-- Two runs of `winding`: one thread after the other, thread 2 first; and by turns, for as long as each has rows before its BARRIER.
unfoldable pub by_turns : (rounds : ℕ) → (threads : List ℕ) → List Move
by_turns zero ts = []
by_turns (suc k) ts = map row ts ++ by_turns k ts

unfoldable pub one_by_one : List Move
one_by_one = of 14 2 ++ (of 11 1 ++ (of 16 0 ++ (release ∷ row 1 ∷ row 0 ∷ row 2 ∷ [])))

unfoldable pub turn_about : List Move
turn_about = by_turns 11 (0 ∷ 1 ∷ 2 ∷ []) ++ (by_turns 3 (2 ∷ 0 ∷ []) ++ (of 2 0 ++ (release ∷ row 2 ∷ row 1 ∷ row 0 ∷ [])))

-- Both come to their end, with the same cells.
pub winding_runs : map (played winding 3 (7 ∷ 7 ∷ 7 ∷ [])) (one_by_one ∷ turn_about ∷ []) ≡ replicate 2 (record {
  all_possible = true;
  ended = true;
  bad = false;
  may_move = false;
  may_release = false;
  cells = 1 ∷ 1 ∷ 1 ∷ [];
  at_releases = (7 ∷ 7 ∷ 7 ∷ []) ∷ [];
})
unfolding computing of played is_run winding by_turns one_by_one turn_about
winding_runs = refl

-- In both each thread makes as many moves as it has steps in lock step: 17, 12 and 15.
unfoldable pub moves_of_each : List Move → List ℕ
moves_of_each ms = map (λ t. many (is_move_of 0 t) ms) (0 ∷ 1 ∷ 2 ∷ [])

pub moves_are_steps : moves_of_each one_by_one ∷ moves_of_each turn_about ∷ (lockstep winding (one_group 3 (7 ∷ 7 ∷ 7 ∷ [])) (7 ∷ 7 ∷ 7 ∷ []) 100).state.steps ∷ [] ≡
    replicate 3 (17 ∷ 12 ∷ 15 ∷ [])
unfolding computing of winding by_turns one_by_one turn_about moves_of_each
moves_are_steps = refl

-- All moves are the sum of these and one release.
pub all_moves : length one_by_one ∷ length turn_about ∷ (sum (moves_of_each turn_about) + many is_release turn_about) ∷ [] ≡ 45 ∷ 45 ∷ 45 ∷ []
unfolding computing of by_turns one_by_one turn_about moves_of_each
all_moves = refl

-- The machine as a whole. One thread, TID and BARRIER: its row and a release are a run, which has come to its end. A LOAD outside ends one badly.
unfoldable pub short : Table
short = row_of 2 0 0 0 ∷ row_of 37 0 0 0 ∷ []

abbrev pub single : Shape
single = shape_of (sizes 1 2 1 0) 0

abbrev pub at_start : Table → Group
at_start T = leaves T 1 (5 ∷ 6 ∷ []) []

pub a_run : Run (machine short single) (at_start short) (own.row 0 ∷ own.release ∷ [])
unfolding computing short
a_run = (refl, (refl, tt))

pub its_end : (machine short single).Ended (after (machine short single) (at_start short) (own.row 0 ∷ own.release ∷ []))
unfolding computing short
its_end = refl

pub its_cells : shown_to (machine short single) tt (at_start short) (own.row 0 ∷ own.release ∷ []) ≡ (5 ∷ 6 ∷ []) ∷ []
unfolding computing short
its_cells = refl

pub a_bad_end : (machine straying single).Bad (after (machine straying single) (at_start straying) (own.row 0 ∷ own.row 0 ∷ []))
unfolding computing straying
a_bad_end = refl

-- A machine that adds its moves up and shows each sum before the move: what is left, and what is shown, in its order.
abbrev pub adder : Machine
adder =
    record {
      State = ℕ;
      Move = ℕ;
      Observer = Unit {0};
      Shown = ℕ;
      Possible = λ s m. Unit {0};
      next = λ s m. s + m;
      shows = λ w s m. s ∷ [];
      Ended = λ s. Unit {0};
      Bad = λ s. Unit {0};
    }

pub sums_shown : ◌≡◌ {A = List ℕ} (shown_to adder tt 1 (2 ∷ 3 ∷ 4 ∷ [])) (1 ∷ 3 ∷ 6 ∷ [])
sums_shown = refl

pub sum_left : ◌≡◌ {A = ℕ} (after adder 1 (2 ∷ 3 ∷ 4 ∷ [])) 10
sum_left = refl
