-- The threads of several groups move by move: whose moves are possible, what is forgotten at a group's release and what is not, which accesses of two groups
-- conflict, and what each group shows. Assumes nothing.
use mathlib.Core.Path.{◌≡◌, refl}
use mathlib.Core.List.{List, [], ◌∷◌, ◌++◌, map}
use mathlib.Core.Bool.{Bool, true, false}
use Prim.Native.Nat.{ℕ}
use native.Mathlib.Omega.{arith}
use lib.ListN.{length, get_or, replicate}
use Rattle.spec.specs.Access.{load, store, atomic_add}
use Rattle.spec.specs.Lists.{joined}
use Rattle.spec.specs.Table.{Table, Row, row_of}
use Rattle.spec.specs.Shape.{Sizes, sizes}
use Rattle.spec.specs.Threads as own
use Rattle.spec.specs.LaunchThreads.{Part, Groups, no_part, has_met, barred_to, Move, of_group, possible, at_end, initial_groups}
use Rattle.spec.specs.Runs.{many}
use Rattle.spec.specs.LaunchRun.{steps_by_launch, counted_barriers}
use Rattle.spec.specs.AllRuns.{CompleteRun, leaves, cells_at_releases, is_move_of, is_release_of, is_release, PassedSays}
use Rattle.spec.proofs.GlobalRows.{global_load, global_store, global_add, numbering}
use Rattle.spec.proofs.MachineRuns.{is_run}
use Rattle.spec.proofs.Computing.{computing}

-- k rows of thread t of group g; the release of group g.
unfoldable pub rows : (g t k : ℕ) → List Move
rows g t k = replicate k (of_group g (own.row t))

unfoldable pub release : ℕ → List Move
release g = of_group g own.release ∷ []

-- What a list of moves comes to: whether each is possible where it is made; then for groups 0, 1 and 2 whether threads 0, 1, 2 may move and whether
-- the group may be released; whether the run has ended, and badly; the cells; what groups 0, 1 and 2 have shown.
pub record Moved : Type 0 where
  pub all_possible : Bool
  pub may : List (List Bool)
  pub ended : Bool
  pub bad : Bool
  pub cells : List ℕ
  pub shown : List (List (List ℕ))

unfoldable pub moved : Table → Sizes → List ℕ → List (List Move) → Moved
moved T Z cells mss =
    let ms = joined mss in
    let S = leaves T Z cells ms in
    record {
      all_possible = is_run T Z (initial_groups T Z cells) ms;
      may = map (λ g. map (possible T Z S) (rows g 0 1 ++ (rows g 1 1 ++ (rows g 2 1 ++ release g)))) (0 ∷ 1 ∷ 2 ∷ []);
      ended = at_end T S;
      bad = S.bad;
      cells = S.cells;
      shown = map (λ g. cells_at_releases T Z cells g ms) (0 ∷ 1 ∷ 2 ∷ []);
    }

-- Of that: whether all are possible, whether the run has ended, whether it has badly, and the cells; who may move, and what is shown.
unfoldable pub fate : Moved → List Bool × List ℕ
fate x = (x.all_possible ∷ x.ended ∷ x.bad ∷ [], x.cells)

unfoldable pub chances : Moved → List (List Bool) × List (List (List ℕ))
chances x = (x.may, x.shown)

unfoldable pub nobody : List (List Bool)
nobody = replicate 3 (replicate 4 false)

-- Two groups of two threads. Each thread adds what global cell 0 holds to its own cell; behind a BARRIER it adds that to global cell 1 and stores 1 to
-- its own cell: six rows, and two behind the release.
unfoldable pub sharing : Table
sharing =
    row_of 2 0 0 0
    ∷ row_of 1 3 1 0
    ∷ global_load 1 2
    ∷ row_of 16 4 0 0
    ∷ row_of 4 4 4 1
    ∷ row_of 17 0 4 0
    ∷ row_of 37 0 0 0
    ∷ global_add 3 1
    ∷ row_of 17 0 3 0
    ∷ []

unfoldable pub share : List (List Move) → Moved
share mss = moved sharing (sizes 2 2 2 2) (5 ∷ 6 ∷ 7 ∷ 8 ∷ 4 ∷ 0 ∷ []) mss

-- Group 1 to its end before group 0 moves at all, thread 1 first; all four by turns; and group 1 to its end while group 0's threads stand at rows 3 and 1.
unfoldable pub by_turns : ℕ → List Move
by_turns k = joined (replicate k (rows 0 0 1 ++ (rows 1 0 1 ++ (rows 0 1 1 ++ rows 1 1 1))))

unfoldable pub group_one_first : List (List Move)
group_one_first = rows 1 1 6 ∷ rows 1 0 6 ∷ release 1 ∷ rows 1 1 2 ∷ rows 1 0 2 ∷ rows 0 1 6 ∷ rows 0 0 6 ∷ release 0 ∷ rows 0 1 2 ∷ rows 0 0 2 ∷ []

unfoldable pub all_by_turns : List (List Move)
all_by_turns = by_turns 6 ∷ release 0 ∷ release 1 ∷ by_turns 2 ∷ []

unfoldable pub group_zero_waits : List (List Move)
group_zero_waits =
    rows 0 0 3 ∷ rows 0 1 1 ∷ rows 1 0 6 ∷ rows 1 1 6 ∷ release 1 ∷ rows 1 0 2 ∷ rows 1 1 2 ∷ rows 0 0 3 ∷ rows 0 1 5 ∷ release 0 ∷ rows 0 0 2 ∷ rows 0 1 2 ∷ []

-- All come to their end with the same cells, and each group has shown its own two cells.
pub in_any_order : map share (group_one_first ∷ all_by_turns ∷ group_zero_waits ∷ []) ≡ replicate 3 (record {
  all_possible = true;
  may = nobody;
  ended = true;
  bad = false;
  cells = 1 ∷ 1 ∷ 1 ∷ 1 ∷ 4 ∷ 16 ∷ [];
  shown = ((9 ∷ 10 ∷ []) ∷ []) ∷ ((11 ∷ 12 ∷ []) ∷ []) ∷ [] ∷ [];
})
unfolding computing is_run rows release moved nobody sharing share by_turns group_one_first all_by_turns group_zero_waits
in_any_order = refl

-- A thread's number in its group and its number in the launch, by threads that come to their ends last to first, and by all four by turns.
pub both_numbers : map (λ mss. fate (moved numbering (sizes 2 3 2 4) (replicate 10 9) mss))
    ((rows 1 1 4 ∷ rows 1 0 4 ∷ rows 0 1 4 ∷ rows 0 0 4 ∷ []) ∷ (by_turns 4 ∷ []) ∷ [])
    ≡ replicate 2 (true ∷ true ∷ false ∷ [], 0 ∷ 1 ∷ 9 ∷ 2 ∷ 3 ∷ 9 ∷ 0 ∷ 1 ∷ 0 ∷ 1 ∷ [])
unfolding computing is_run rows release moved fate by_turns
both_numbers = refl

-- Who may move: at the start both groups' threads; where group 1 waits, its release and group 0's threads; behind that release all of them; where
-- group 1 is at its end, group 0's threads. There is no thread 2 and no group 2.
unfoldable pub stages : List (List (List Move))
stages =
    []
    ∷ (rows 1 0 6 ∷ rows 1 1 6 ∷ [])
    ∷ (rows 1 0 6 ∷ rows 1 1 6 ∷ release 1 ∷ [])
    ∷ (rows 1 0 6 ∷ rows 1 1 6 ∷ release 1 ∷ rows 1 0 2 ∷ rows 1 1 2 ∷ [])
    ∷ (rows 0 0 6 ∷ rows 0 1 6 ∷ rows 1 0 6 ∷ [])
    ∷ []

pub who_may_move : map (λ mss. chances (share mss)) stages ≡
    (let both = true ∷ true ∷ false ∷ false ∷ [] in
    let none = replicate 4 false in
    let released = false ∷ false ∷ false ∷ true ∷ [] in
    let one : List (List (List ℕ)) = [] ∷ ((11 ∷ 12 ∷ []) ∷ []) ∷ [] ∷ [] in
    (both ∷ both ∷ none ∷ [], replicate 3 [])
    ∷ (both ∷ released ∷ none ∷ [], replicate 3 [])
    ∷ (both ∷ both ∷ none ∷ [], one)
    ∷ (both ∷ none ∷ none ∷ [], one)
    ∷ (released ∷ (false ∷ true ∷ false ∷ false ∷ []) ∷ none ∷ [], replicate 3 [])
    ∷ [])
unfolding computing is_run rows release moved chances sharing share stages
who_may_move = refl

-- One group at its end is not yet the launch's.
pub not_ended : map (λ mss. (share mss).ended) stages ≡ replicate 5 false
unfolding computing is_run rows release moved sharing share stages
not_ended = refl

-- A release is not possible for a group whose threads wait at different rows or not at all, whatever the other group does.
pub no_release : map (λ mss. (share mss).all_possible)
    ((rows 1 0 6 ∷ release 1 ∷ []) ∷ (rows 1 0 6 ∷ rows 1 1 6 ∷ release 0 ∷ []) ∷ (rows 1 0 6 ∷ rows 1 1 6 ∷ release 2 ∷ []) ∷ (rows 2 0 1 ∷ []) ∷ [])
    ≡ replicate 4 false
unfolding computing is_run rows release moved sharing share
no_release = refl

-- Each group stores what its own cell 0 holds to the global cell: whoever comes second ends the run badly, be the values equal or not.
unfoldable pub both_store : Table
both_store = row_of 16 1 0 0 ∷ global_store 0 1 ∷ []

unfoldable pub either_order : ℕ → List (List (List Move))
either_order k = (rows 0 0 k ∷ rows 1 0 k ∷ []) ∷ (rows 1 0 k ∷ rows 0 0 k ∷ []) ∷ []

pub stores_of_two_groups : map (λ v. map (λ mss. fate (moved both_store (sizes 1 1 2 1) (5 ∷ v ∷ 9 ∷ []) mss)) (either_order 2)) (5 ∷ 6 ∷ []) ≡
    (let badly = true ∷ false ∷ true ∷ [] in
    ((badly, 5 ∷ 5 ∷ 5 ∷ []) ∷ (badly, 5 ∷ 5 ∷ 5 ∷ []) ∷ []) ∷ ((badly, 5 ∷ 6 ∷ 5 ∷ []) ∷ (badly, 5 ∷ 6 ∷ 6 ∷ []) ∷ []) ∷ [])
unfolding computing is_run rows release moved fate both_store either_order
stores_of_two_groups = refl

-- No thread of either group may move then.
pub nobody_after_that : map (λ mss. (moved both_store (sizes 1 1 2 1) (5 ∷ 6 ∷ 9 ∷ []) mss).may) (either_order 2) ≡ nobody ∷ nobody ∷ []
unfolding computing is_run rows release moved nobody both_store either_order
nobody_after_that = refl

-- By own cell 0: group 1 makes one access of the global cell, group 0 another; each in three moves.
unfoldable pub two_accesses : (one other : Row) → Table
two_accesses one other = row_of 16 1 0 0 ∷ row_of 32 0 1 0 ∷ one ∷ row_of 33 0 0 0 ∷ other ∷ row_of 34 0 0 0 ∷ []

-- A store of 1 and a load: group 0 alone, group 1 alone, and both in either order.
pub load_and_store : map (λ mss. fate (moved (two_accesses (global_store 0 1) (global_load 2 0)) (sizes 1 1 2 1) (0 ∷ 1 ∷ 9 ∷ []) mss))
    ((rows 0 0 3 ∷ []) ∷ (rows 1 0 3 ∷ []) ∷ either_order 3)
    ≡ (let well = true ∷ false ∷ false ∷ [] in
    let badly = true ∷ false ∷ true ∷ [] in
    (well, 0 ∷ 1 ∷ 9 ∷ []) ∷ (well, 0 ∷ 1 ∷ 1 ∷ []) ∷ (badly, 0 ∷ 1 ∷ 9 ∷ []) ∷ (badly, 0 ∷ 1 ∷ 1 ∷ []) ∷ [])
unfolding computing is_run rows release moved fate either_order two_accesses
load_and_store = refl

-- Every two kinds: only two loads and two adds are no race, in either order.
unfoldable pub global_accesses : List Row
global_accesses = global_load 2 0 ∷ global_store 0 1 ∷ global_add 0 1 ∷ []

pub every_two_kinds : map
    (λ mss. map (λ x. map (λ y. (moved (two_accesses x y) (sizes 1 1 2 1) (0 ∷ 1 ∷ 9 ∷ []) mss).bad) global_accesses) global_accesses)
    (either_order 3)
    ≡ replicate 2 ((false ∷ true ∷ true ∷ []) ∷ (true ∷ true ∷ true ∷ []) ∷ (true ∷ true ∷ false ∷ []) ∷ [])
unfolding computing is_run rows release moved either_order two_accesses global_accesses
every_two_kinds = refl

-- Two threads a group: all load the global cell, and behind a BARRIER thread 1 stores to it, its fourth move.
unfoldable pub handing : Table
handing = row_of 2 0 0 0 ∷ global_load 2 5 ∷ row_of 37 0 0 0 ∷ row_of 32 0 0 0 ∷ global_store 5 0 ∷ row_of 34 0 0 0 ∷ []

unfoldable pub loading : ℕ → List Move
loading g = rows g 0 2 ++ rows g 1 2

-- Group 0 alone may do so, as its own loads are forgotten: up to the store, and to its end. Not so where group 1 has loaded meanwhile, nor may group 1
-- load behind that, nor, where both have loaded and been released, may thread 1 of group 0 or of group 1 store.
pub released_accesses : map (λ mss. fate (moved handing (sizes 2 1 2 1) (7 ∷ 8 ∷ 9 ∷ []) mss))
    ((loading 0 ∷ release 0 ∷ rows 0 1 2 ∷ [])
    ∷ (loading 0 ∷ release 0 ∷ rows 0 1 3 ∷ rows 0 0 2 ∷ [])
    ∷ (loading 1 ∷ loading 0 ∷ release 0 ∷ rows 0 1 2 ∷ [])
    ∷ (loading 0 ∷ release 0 ∷ rows 0 1 2 ∷ rows 1 1 2 ∷ [])
    ∷ (loading 0 ∷ release 0 ∷ loading 1 ∷ release 1 ∷ rows 0 1 2 ∷ [])
    ∷ (loading 0 ∷ release 0 ∷ loading 1 ∷ release 1 ∷ rows 1 1 2 ∷ [])
    ∷ [])
    ≡ (let well = true ∷ false ∷ false ∷ [] in
    let badly = true ∷ false ∷ true ∷ [] in
    (well, 7 ∷ 8 ∷ 1 ∷ [])
    ∷ (well, 7 ∷ 8 ∷ 1 ∷ [])
    ∷ (badly, 7 ∷ 8 ∷ 9 ∷ [])
    ∷ (badly, 7 ∷ 8 ∷ 1 ∷ [])
    ∷ (badly, 7 ∷ 8 ∷ 9 ∷ [])
    ∷ (badly, 7 ∷ 8 ∷ 9 ∷ [])
    ∷ [])
unfolding computing is_run rows release moved fate handing loading
released_accesses = refl

-- With one group only the same table comes to its end; without the BARRIER thread 1's store is a race within the group.
pub one_group_released : fate (moved handing (sizes 2 1 1 1) (7 ∷ 9 ∷ []) (loading 0 ∷ release 0 ∷ rows 0 1 3 ∷ rows 0 0 2 ∷ [])) ≡
    (true ∷ true ∷ false ∷ [], 7 ∷ 1 ∷ [])
unfolding computing is_run rows release moved fate handing loading
one_group_released = refl

pub within_a_group : map
    (λ mss. (moved (row_of 2 0 0 0 ∷ global_load 2 5 ∷ row_of 32 0 0 0 ∷ global_store 5 0 ∷ row_of 34 0 0 0 ∷ []) (sizes 2 1 2 1) (7 ∷ 8 ∷ 9 ∷ []) mss).bad)
    ((rows 0 1 4 ∷ []) ∷ (rows 0 0 2 ∷ rows 0 1 3 ∷ []) ∷ (rows 0 0 2 ∷ rows 0 1 4 ∷ []) ∷ (rows 0 1 4 ∷ rows 0 0 2 ∷ []) ∷ (rows 0 1 4 ∷ rows 1 0 2 ∷ []) ∷ [])
    ≡ false ∷ false ∷ true ∷ true ∷ true ∷ []
unfolding computing is_run rows release moved
within_a_group = refl

-- Equal stores to a global cell by two threads of one group are no race, by threads of two groups they are.
pub equal_global_stores : map (λ mss. (moved (row_of 1 1 5 0 ∷ global_store 0 1 ∷ []) (sizes 2 1 2 1) (7 ∷ 8 ∷ 9 ∷ []) mss).bad)
    ((rows 0 0 2 ∷ rows 0 1 2 ∷ []) ∷ (rows 1 1 2 ∷ rows 1 0 2 ∷ []) ∷ (rows 0 0 2 ∷ rows 1 0 2 ∷ []) ∷ (rows 0 0 2 ∷ rows 1 1 2 ∷ []) ∷ [])
    ≡ false ∷ false ∷ true ∷ true ∷ []
unfolding computing is_run rows release moved
equal_global_stores = refl

-- Own cells with one number are different cells: both groups store their own, add to it and load it, by turns.
pub own_cells_apart :
    fate (moved (row_of 1 1 3 0 ∷ row_of 17 0 1 0 ∷ row_of 18 0 1 0 ∷ row_of 16 2 0 0 ∷ []) (sizes 1 1 2 1) (7 ∷ 8 ∷ 9 ∷ [])
    (rows 0 0 2 ∷ rows 1 0 2 ∷ rows 0 0 1 ∷ rows 1 0 2 ∷ rows 0 0 1 ∷ []))
    ≡ (true ∷ true ∷ false ∷ [], 6 ∷ 6 ∷ 9 ∷ [])
unfolding computing is_run rows release moved fate
own_cells_apart = refl

-- Two own cells and three global ones, two groups: own cell 1 and global cell 2 are there, own cell 2 and global cell 3 are outside.
pub edges_of_cells : map
    (λ x. map (λ v. (moved (row_of 1 1 v 0 ∷ x ∷ []) (sizes 1 2 2 3) (replicate 7 9) (rows 1 0 2 ∷ [])).bad) (1 ∷ 2 ∷ 3 ∷ []))
    (row_of 16 2 1 0 ∷ row_of 17 1 1 0 ∷ global_load 2 1 ∷ global_store 1 1 ∷ global_add 1 1 ∷ [])
    ≡ (false ∷ true ∷ true ∷ []) ∷ (false ∷ true ∷ true ∷ []) ∷ replicate 3 (false ∷ false ∷ true ∷ [])
unfolding computing is_run rows release moved
edges_of_cells = refl

-- Which of all cells they are.
pub places_of_cells : map
    (λ x. map (λ g. (moved (row_of 1 1 1 0 ∷ row_of 1 2 5 0 ∷ x ∷ []) (sizes 1 2 2 3) (replicate 7 9) (rows g 0 3 ∷ [])).cells) (0 ∷ 1 ∷ []))
    (row_of 17 1 2 0 ∷ global_store 1 2 ∷ [])
    ≡ ((9 ∷ 5 ∷ 9 ∷ 9 ∷ 9 ∷ 9 ∷ 9 ∷ []) ∷ (9 ∷ 9 ∷ 9 ∷ 5 ∷ 9 ∷ 9 ∷ 9 ∷ []) ∷ []) ∷ replicate 2 (9 ∷ 9 ∷ 9 ∷ 9 ∷ 9 ∷ 5 ∷ 9 ∷ []) ∷ []
unfolding computing is_run rows release moved
places_of_cells = refl

-- TID and COUNT are the group's: thread 1 of group 1, of two groups of three threads.
pub numbers_in_group : map (λ p. map (λ th. get_or th.regs 0 9 ∷ get_or th.regs 1 9 ∷ []) p.threads)
    (leaves (row_of 2 0 0 0 ∷ row_of 3 1 0 0 ∷ []) (sizes 3 1 2 0) (7 ∷ 8 ∷ []) (rows 1 1 2)).parts
    ≡ replicate 3 (0 ∷ 0 ∷ []) ∷ ((0 ∷ 0 ∷ []) ∷ (1 ∷ 3 ∷ []) ∷ (0 ∷ 0 ∷ []) ∷ []) ∷ []
unfolding computing rows
numbers_in_group = refl

-- What is recorded of the threads of both groups, by where the cell stands: since the group's last release, and since the launch. Group 1's release
-- empties its own first record and no other; group 0's store behind its release joins both records.
unfoldable pub noted : (Part → own.AccessRecord) → List (List Move) → List (List (List ℕ))
noted part mss = map (λ p. map (λ t. map (λ a. a.cell) (part p t)) (0 ∷ 1 ∷ [])) (leaves handing (sizes 2 1 2 1) (7 ∷ 8 ∷ 9 ∷ []) (joined mss)).parts

pub records_of_groups : map (λ mss. noted (λ p. p.made) mss ++ noted (λ p. p.ever) mss)
    ((loading 0 ∷ rows 1 1 2 ∷ []) ∷ (loading 0 ∷ loading 1 ∷ release 1 ∷ []) ∷ (loading 0 ∷ release 0 ∷ rows 0 1 2 ∷ []) ∷ [])
    ≡ (let one : List ℕ = 2 ∷ [] in
    ((one ∷ one ∷ []) ∷ ([] ∷ one ∷ []) ∷ (one ∷ one ∷ []) ∷ ([] ∷ one ∷ []) ∷ [])
    ∷ ((one ∷ one ∷ []) ∷ ([] ∷ [] ∷ []) ∷ (one ∷ one ∷ []) ∷ (one ∷ one ∷ []) ∷ [])
    ∷ (([] ∷ one ∷ []) ∷ ([] ∷ [] ∷ []) ∷ (one ∷ (2 ∷ 2 ∷ []) ∷ []) ∷ ([] ∷ [] ∷ []) ∷ [])
    ∷ [])
unfolding computing rows release handing loading noted
records_of_groups = refl

-- Of accesses that group 1 has made, of a load of the global cell by its thread 0 and a store to own cell 0 by its thread 1: which accesses group 0 and
-- group 1 are barred from. There is no such thing as being barred from an own cell, or by what the group itself has done.
unfoldable pub some_parts : List Part
some_parts =
    let record1 : own.AccessRecord = own.recorded (own.recorded own.empty_record 0 (record { cell = 2; kind = load } ∷ [])) 1 (record { cell = 1; kind = store 5 } ∷ []) in
    record { threads = replicate 2 own.no_thread; made = own.empty_record; ever = own.empty_record }
    ∷ record { threads = replicate 2 own.no_thread; made = own.empty_record; ever = record1 }
    ∷ []

pub barred : map
    (λ g. map (λ k. barred_to (sizes 2 1 2 1) some_parts g (record { cell = 2; kind = k })) (load ∷ store 5 ∷ atomic_add 5 ∷ [])
    ++ map (λ k. barred_to (sizes 2 1 2 1) some_parts g (record { cell = 1; kind = k })) (load ∷ store 5 ∷ atomic_add 5 ∷ []))
    (0 ∷ 1 ∷ [])
    ≡ (false ∷ true ∷ true ∷ false ∷ false ∷ false ∷ []) ∷ replicate 6 false ∷ []
unfolding computing some_parts
barred = refl

-- Whom the records have met: any thread of the part counts, and a part of no threads has met nobody.
pub met : map (λ p. map (λ c. has_met p (record { cell = c; kind = store 5 })) (0 ∷ 1 ∷ 2 ∷ [])) (no_part ∷ some_parts) ≡
    replicate 3 false ∷ replicate 3 false ∷ (false ∷ true ∷ true ∷ []) ∷ []
unfolding computing some_parts
met = refl

-- Groups whose threads stand at these rows of a table of two rows. The launch is at its end where all stand behind the last row, and it has not ended badly.
unfoldable pub standing : List (List ℕ) → Bool → Groups
standing rss bad =
    record {
      parts = map (λ rs. record { threads = map (λ r. own.goto own.no_thread r) rs; made = own.empty_record; ever = own.empty_record }) rss;
      cells = 9 ∷ [];
      bad = bad;
    }

pub ends_of_launches : map (λ rss. at_end both_store (standing rss false) ∷ at_end both_store (standing rss true) ∷ [])
    (((2 ∷ 2 ∷ []) ∷ (2 ∷ 2 ∷ []) ∷ []) ∷ ((2 ∷ 2 ∷ []) ∷ (2 ∷ 1 ∷ []) ∷ []) ∷ ((1 ∷ 2 ∷ []) ∷ (2 ∷ 2 ∷ []) ∷ []) ∷ ((1 ∷ []) ∷ (1 ∷ []) ∷ []) ∷ [])
    ≡ (true ∷ false ∷ []) ∷ replicate 3 (false ∷ false ∷ [])
unfolding computing both_store standing
ends_of_launches = refl

-- Of the moves of threads 0 and 1 of groups 0 and 1 and both groups' releases: those of thread t of group g; those that are group g's release; releases.
unfoldable pub some_moves : List Move
some_moves = rows 0 0 1 ++ (rows 0 1 1 ++ (rows 1 0 1 ++ (rows 1 1 1 ++ (release 0 ++ release 1))))

pub classes_of_moves :
    map (is_move_of 0 0) some_moves
    ∷ map (is_move_of 0 1) some_moves
    ∷ map (is_move_of 1 0) some_moves
    ∷ map (is_move_of 1 1) some_moves
    ∷ map (is_release_of 0) some_moves
    ∷ map (is_release_of 1) some_moves
    ∷ map is_release some_moves
    ∷ []
    ≡ (true ∷ false ∷ false ∷ false ∷ false ∷ false ∷ [])
    ∷ (false ∷ true ∷ false ∷ false ∷ false ∷ false ∷ [])
    ∷ (false ∷ false ∷ true ∷ false ∷ false ∷ false ∷ [])
    ∷ (false ∷ false ∷ false ∷ true ∷ false ∷ false ∷ [])
    ∷ (false ∷ false ∷ false ∷ false ∷ true ∷ false ∷ [])
    ∷ (false ∷ false ∷ false ∷ false ∷ false ∷ true ∷ [])
    ∷ (false ∷ false ∷ false ∷ false ∷ true ∷ true ∷ [])
    ∷ []
unfolding computing rows release some_moves
classes_of_moves = refl

-- Two groups of one thread, own cells 0 and 1: LOAD, BARRIER, and an IF that group 1 goes into. 3 and 4 moves, and two releases. In lock step the same.
unfoldable pub lopsided : Table
lopsided = row_of 16 1 0 0 ∷ row_of 37 0 0 0 ∷ row_of 32 0 1 0 ∷ row_of 1 2 5 0 ∷ row_of 34 0 0 0 ∷ []

abbrev pub its_sizes : Sizes
its_sizes = sizes 1 1 2 1

unfoldable pub its_moves : List Move
its_moves = rows 1 0 1 ++ (release 1 ++ (rows 1 0 2 ++ (rows 0 0 1 ++ (release 0 ++ (rows 0 0 2 ++ rows 1 0 1)))))

pub its_counts :
    (many (is_move_of 0 0) its_moves ∷ many (is_move_of 1 0) its_moves ∷ [])
    ∷ steps_by_launch lopsided its_sizes (0 ∷ 1 ∷ 9 ∷ []) 100
    ∷ (many is_release its_moves ∷ length its_moves ∷ [])
    ∷ []
    ≡ (3 ∷ 4 ∷ []) ∷ (3 ∷ 4 ∷ []) ∷ (2 ∷ 9 ∷ []) ∷ []
unfolding computing rows release lopsided its_moves
its_counts = refl

pub its_own_cells :
    map (λ g. cells_at_releases lopsided its_sizes (0 ∷ 1 ∷ 9 ∷ []) g its_moves) (0 ∷ 1 ∷ []) ∷ counted_barriers lopsided its_sizes (0 ∷ 1 ∷ 9 ∷ []) 100 ∷ []
    ≡ replicate 2 (((0 ∷ []) ∷ []) ∷ ((1 ∷ []) ∷ []) ∷ [])
unfolding computing rows release lopsided its_moves
its_own_cells = refl

pub comes_to_its_end : CompleteRun lopsided its_sizes (0 ∷ 1 ∷ 9 ∷ []) its_moves
unfolding computing rows release lopsided its_moves
comes_to_its_end = ((refl, (refl, (refl, (refl, (refl, (refl, (refl, (refl, (refl, tt))))))))), refl)

-- What 'passed' would say otherwise is not so: the groups' counts interchanged, one count for both, one release.
abbrev pub Says : (steps : List ℕ) → (barriers : ℕ) → (bs : List (List (List ℕ))) → Type 0
Says steps barriers bs = PassedSays lopsided its_sizes (0 ∷ 1 ∷ 9 ∷ []) steps barriers (0 ∷ 1 ∷ 9 ∷ []) bs

pub not_interchanged : (bs : List (List (List ℕ))) → Says (4 ∷ 3 ∷ []) 2 bs → ⊥
unfolding computing rows release its_moves
not_interchanged bs s = let wrong : ◌≡◌ {A = ℕ} 4 3 = s.each 1 0 (omega arith) (omega arith) its_moves comes_to_its_end in omega (arith, wrong)

pub not_for_both : (bs : List (List (List ℕ))) → Says (7 ∷ []) 2 bs → ⊥
not_for_both bs s = let wrong : ◌≡◌ {A = ℕ} 1 2 = s.every in omega (arith, wrong)

pub not_one_release : (bs : List (List (List ℕ))) → Says (3 ∷ 4 ∷ []) 1 bs → ⊥
unfolding computing rows release its_moves
not_one_release bs s = let wrong : ◌≡◌ {A = ℕ} 2 1 = s.releases its_moves comes_to_its_end in omega (arith, wrong)
