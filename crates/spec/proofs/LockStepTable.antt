-- Counts of steps, lock-step runs row by row, and the cells at their counted barriers. Assumes nothing.
use mathlib.Core.Path.{◌≡◌, refl}
use mathlib.Core.List.{List, [], ◌∷◌, ◌++◌, map}
use Prim.Native.Nat.{ℕ}
use lib.ListN.{take}
use Rattle.spec.specs.Answers.{Race, ReadWrite}
use Rattle.spec.specs.Table.{Table, row_of}
use Rattle.spec.specs.Mask.{mask_word}
use Rattle.spec.specs.Steps.{stepped, all_stepped, sum}
use Rattle.spec.specs.Shape.{one_group}
use Rattle.spec.specs.LockStep.{Saved, LockState}
use Rattle.spec.specs.LaunchRun.{lockstep, counted_barriers}
use Rattle.spec.proofs.OpTable.{bytes_from}
use Rattle.spec.proofs.Computing.{computing}

-- A step of thread 0, 1 and 2, and of a thread that is not there, which counts for nobody.
pub one_steps : map (stepped (40 ∷ 50 ∷ 60 ∷ [])) (0 ∷ 1 ∷ 2 ∷ 3 ∷ []) ≡
    (41 ∷ 50 ∷ 60 ∷ []) ∷ (40 ∷ 51 ∷ 60 ∷ []) ∷ (40 ∷ 50 ∷ 61 ∷ []) ∷ (40 ∷ 50 ∷ 60 ∷ []) ∷ []
unfolding computing
one_steps = refl

-- Likewise with one count and with none.
pub steps_of_few : stepped (9 ∷ []) 0 ∷ stepped (9 ∷ []) 1 ∷ stepped [] 0 ∷ [] ≡ (10 ∷ []) ∷ (9 ∷ []) ∷ [] ∷ []
unfolding computing
steps_of_few = refl

-- Steps of nobody, of two threads in both orders, of one thread twice, of one that is not there before one that is.
pub several_step : map (all_stepped (40 ∷ 50 ∷ 60 ∷ [])) ([] ∷ (0 ∷ 2 ∷ []) ∷ (2 ∷ 0 ∷ []) ∷ (1 ∷ 1 ∷ []) ∷ (7 ∷ 1 ∷ []) ∷ []) ≡
    (40 ∷ 50 ∷ 60 ∷ []) ∷ (41 ∷ 50 ∷ 61 ∷ []) ∷ (41 ∷ 50 ∷ 61 ∷ []) ∷ (40 ∷ 52 ∷ 60 ∷ []) ∷ (40 ∷ 51 ∷ 60 ∷ []) ∷ []
unfolding computing
several_step = refl

-- The sum of no counts, of one, and of several with a 0 and two that are equal.
pub sums : map sum ([] ∷ (9 ∷ []) ∷ (7 ∷ 0 ∷ 5 ∷ 5 ∷ []) ∷ []) ≡ 0 ∷ 9 ∷ 17 ∷ []
unfolding computing
sums = refl

-- TID R0, SET R1 = 1. IF R0: thread t goes t times round a loop (3 to 5). ELSE, in it IF R1, which thread 0 is alone for, with an ELSE for nobody.
-- A loop (13 to 15) that only thread 0 stays in, twice. TID R3, BARRIER, STORE of R1 at R3.
unfoldable pub winding : Table
winding =
    row_of 2 0 0 0
    ∷ row_of 1 1 1 0
    ∷ row_of 32 0 0 0
    ∷ row_of 35 0 0 0
    ∷ row_of 5 0 0 1
    ∷ row_of 36 0 0 0
    ∷ row_of 33 0 0 0
    ∷ row_of 32 0 1 0
    ∷ row_of 4 2 1 1
    ∷ row_of 33 0 0 0
    ∷ row_of 2 3 0 0
    ∷ row_of 34 0 0 0
    ∷ row_of 34 0 0 0
    ∷ row_of 35 0 2 0
    ∷ row_of 5 2 2 1
    ∷ row_of 36 0 0 0
    ∷ row_of 2 3 0 0
    ∷ row_of 37 0 0 0
    ∷ row_of 17 3 1 0
    ∷ []

-- What a state shows: row, enabled mask, rows, each thread's steps, barriers, and for each saved mask, innermost first, its construct's row and the mask.
unfoldable pub saved_numbers : List Saved → List ℕ
saved_numbers [] = []
saved_numbers (x ∷ xs) = x.opener ∷ mask_word x.mask ∷ saved_numbers xs

unfoldable pub numbers_of : LockState → List ℕ
numbers_of s = s.row ∷ mask_word s.enabled ∷ s.rows ∷ (s.steps ++ (s.barriers ∷ saved_numbers s.saved))

-- Three threads. The state after no row, one row, two rows and so on to the end.
pub row_by_row : map (λ k. numbers_of (lockstep winding (one_group 3 (7 ∷ 7 ∷ 7 ∷ [])) (7 ∷ 7 ∷ 7 ∷ []) k).state) (bytes_from 0 29) ≡
    (0 ∷ 7 ∷ 0 ∷ 0 ∷ 0 ∷ 0 ∷ 0 ∷ [])
    ∷ (1 ∷ 7 ∷ 1 ∷ 1 ∷ 1 ∷ 1 ∷ 0 ∷ [])
    ∷ (2 ∷ 7 ∷ 2 ∷ 2 ∷ 2 ∷ 2 ∷ 0 ∷ [])
    ∷ (3 ∷ 6 ∷ 3 ∷ 3 ∷ 3 ∷ 3 ∷ 0 ∷ 2 ∷ 7 ∷ [])
    ∷ (4 ∷ 6 ∷ 4 ∷ 3 ∷ 4 ∷ 4 ∷ 0 ∷ 3 ∷ 6 ∷ 2 ∷ 7 ∷ [])
    ∷ (5 ∷ 6 ∷ 5 ∷ 3 ∷ 5 ∷ 5 ∷ 0 ∷ 3 ∷ 6 ∷ 2 ∷ 7 ∷ [])
    ∷ (3 ∷ 6 ∷ 6 ∷ 3 ∷ 6 ∷ 6 ∷ 0 ∷ 3 ∷ 6 ∷ 2 ∷ 7 ∷ [])
    ∷ (4 ∷ 4 ∷ 7 ∷ 3 ∷ 7 ∷ 7 ∷ 0 ∷ 3 ∷ 6 ∷ 2 ∷ 7 ∷ [])
    ∷ (5 ∷ 4 ∷ 8 ∷ 3 ∷ 7 ∷ 8 ∷ 0 ∷ 3 ∷ 6 ∷ 2 ∷ 7 ∷ [])
    ∷ (3 ∷ 4 ∷ 9 ∷ 3 ∷ 7 ∷ 9 ∷ 0 ∷ 3 ∷ 6 ∷ 2 ∷ 7 ∷ [])
    ∷ (6 ∷ 6 ∷ 10 ∷ 3 ∷ 7 ∷ 10 ∷ 0 ∷ 2 ∷ 7 ∷ [])
    ∷ (7 ∷ 1 ∷ 11 ∷ 3 ∷ 8 ∷ 11 ∷ 0 ∷ 6 ∷ 7 ∷ [])
    ∷ (8 ∷ 1 ∷ 12 ∷ 4 ∷ 8 ∷ 11 ∷ 0 ∷ 7 ∷ 1 ∷ 6 ∷ 7 ∷ [])
    ∷ (9 ∷ 1 ∷ 13 ∷ 5 ∷ 8 ∷ 11 ∷ 0 ∷ 7 ∷ 1 ∷ 6 ∷ 7 ∷ [])
    ∷ (10 ∷ 0 ∷ 14 ∷ 6 ∷ 8 ∷ 11 ∷ 0 ∷ 9 ∷ 1 ∷ 6 ∷ 7 ∷ [])
    ∷ (11 ∷ 0 ∷ 15 ∷ 6 ∷ 8 ∷ 11 ∷ 0 ∷ 9 ∷ 1 ∷ 6 ∷ 7 ∷ [])
    ∷ (12 ∷ 1 ∷ 16 ∷ 7 ∷ 8 ∷ 11 ∷ 0 ∷ 6 ∷ 7 ∷ [])
    ∷ (13 ∷ 7 ∷ 17 ∷ 8 ∷ 9 ∷ 12 ∷ 0 ∷ [])
    ∷ (14 ∷ 1 ∷ 18 ∷ 9 ∷ 10 ∷ 13 ∷ 0 ∷ 13 ∷ 7 ∷ [])
    ∷ (15 ∷ 1 ∷ 19 ∷ 10 ∷ 10 ∷ 13 ∷ 0 ∷ 13 ∷ 7 ∷ [])
    ∷ (13 ∷ 1 ∷ 20 ∷ 11 ∷ 10 ∷ 13 ∷ 0 ∷ 13 ∷ 7 ∷ [])
    ∷ (14 ∷ 1 ∷ 21 ∷ 12 ∷ 10 ∷ 13 ∷ 0 ∷ 13 ∷ 7 ∷ [])
    ∷ (15 ∷ 1 ∷ 22 ∷ 13 ∷ 10 ∷ 13 ∷ 0 ∷ 13 ∷ 7 ∷ [])
    ∷ (13 ∷ 1 ∷ 23 ∷ 14 ∷ 10 ∷ 13 ∷ 0 ∷ 13 ∷ 7 ∷ [])
    ∷ (16 ∷ 7 ∷ 24 ∷ 15 ∷ 10 ∷ 13 ∷ 0 ∷ [])
    ∷ (17 ∷ 7 ∷ 25 ∷ 16 ∷ 11 ∷ 14 ∷ 0 ∷ [])
    ∷ (18 ∷ 7 ∷ 26 ∷ 16 ∷ 11 ∷ 14 ∷ 1 ∷ [])
    ∷ (19 ∷ 7 ∷ 27 ∷ 17 ∷ 12 ∷ 15 ∷ 1 ∷ [])
    ∷ (19 ∷ 7 ∷ 27 ∷ 17 ∷ 12 ∷ 15 ∷ 1 ∷ [])
    ∷ []
unfolding computing bytes_from winding saved_numbers numbers_of
row_by_row = refl

-- Each thread's registers 0 to 3 at the end.
pub registers_at_the_end : map (take 4) (lockstep winding (one_group 3 (7 ∷ 7 ∷ 7 ∷ [])) (7 ∷ 7 ∷ 7 ∷ []) 100).state.regs ≡
    (0 ∷ 1 ∷ 0 ∷ 0 ∷ []) ∷ (0 ∷ 1 ∷ 0 ∷ 1 ∷ []) ∷ (0 ∷ 1 ∷ 0 ∷ 2 ∷ []) ∷ []
unfolding computing winding
registers_at_the_end = refl

-- SET R2 = 2; while R2 is not 0, thread t stores t + R2 in its own cell, passes a BARRIER and takes 1 from R2; then another BARRIER.
unfoldable pub circling : Table
circling =
    row_of 2 0 0 0
    ∷ row_of 1 1 1 0
    ∷ row_of 1 2 2 0
    ∷ row_of 35 0 2 0
    ∷ row_of 4 3 0 2
    ∷ row_of 17 0 3 0
    ∷ row_of 37 0 0 0
    ∷ row_of 5 2 2 1
    ∷ row_of 36 0 0 0
    ∷ row_of 37 0 0 0
    ∷ []

-- The cells of the one group just before each counted barrier: of all three, of those within a limit, of none where the limit comes before the first.
pub cells_at_barriers : map (counted_barriers circling (one_group 2 (9 ∷ 9 ∷ [])) (9 ∷ 9 ∷ [])) (100 ∷ 13 ∷ 7 ∷ 6 ∷ 0 ∷ []) ≡
    map (λ bs. bs ∷ [])
    (((2 ∷ 3 ∷ []) ∷ (1 ∷ 2 ∷ []) ∷ (1 ∷ 2 ∷ []) ∷ []) ∷ ((2 ∷ 3 ∷ []) ∷ (1 ∷ 2 ∷ []) ∷ []) ∷ ((2 ∷ 3 ∷ []) ∷ []) ∷ [] ∷ [] ∷ [])
unfolding computing circling
cells_at_barriers = refl

-- A BARRIER counts neither where nobody comes to it nor where the run diverges; one before a race stays counted.
pub barriers_not_counted :
    counted_barriers (row_of 32 0 0 0 ∷ row_of 37 0 0 0 ∷ row_of 34 0 0 0 ∷ []) (one_group 2 (9 ∷ [])) (9 ∷ []) 10
    ∷ counted_barriers (row_of 2 0 0 0 ∷ row_of 32 0 0 0 ∷ row_of 37 0 0 0 ∷ row_of 34 0 0 0 ∷ row_of 37 0 0 0 ∷ []) (one_group 2 (9 ∷ [])) (9 ∷ []) 10
    ∷ counted_barriers (row_of 37 0 0 0 ∷ row_of 2 1 0 0 ∷ row_of 17 0 1 0 ∷ row_of 37 0 0 0 ∷ []) (one_group 2 (9 ∷ [])) (9 ∷ []) 10
    ∷ []
    ≡ ([] ∷ []) ∷ ([] ∷ []) ∷ (((9 ∷ []) ∷ []) ∷ []) ∷ []
unfolding computing
barriers_not_counted = refl

-- Both threads load; a BARRIER in an IF that nobody enters forgets nothing, and thread 0's store behind it meets the load of thread 1.
unfoldable pub skipping : Table
skipping = row_of 2 0 0 0 ∷ row_of 16 1 2 0 ∷ row_of 32 0 2 0 ∷ row_of 37 0 0 0 ∷ row_of 34 0 0 0 ∷ row_of 17 2 0 0 ∷ []

pub skipped_barrier : (lockstep skipping (one_group 2 (4 ∷ [])) (4 ∷ []) 100).verdict ≡ Race 0 1 ReadWrite 0
unfolding computing skipping
skipped_barrier = refl
