-- Launches of several groups: the letters of their races, the group masks, the start of a group and what the groups show at their barriers. Assumes nothing.
use mathlib.Core.Path.{◌≡◌, refl}
use mathlib.Core.List.{List, [], ◌∷◌, ◌++◌, map}
use mathlib.Core.Bool.{true, false}
use Prim.Native.Nat.{ℕ, ◌*◌}
use lib.ListN.{length, replicate}
use Rattle.spec.specs.Limits.{log_per_cell, groups_per_cell, launch_log_per_cell}
use Rattle.spec.specs.Answers.{Verdict, GroupRace, ReadWrite, WriteRead, WriteWrite, ReadAdd, AddRead, WriteAdd, AddWrite}
use Rattle.spec.specs.Access.{load, store, atomic_add, reads, writes, adds}
use Rattle.spec.specs.Lists.{joined}
use Rattle.spec.specs.Table.{Table, Row, row_of}
use Rattle.spec.specs.Shape.{sizes, all_own, all_cells, all_threads, shape_of, launch_number}
use Rattle.spec.specs.Mask.{mask_word}
use Rattle.spec.specs.Log.{log_kinds, log_words, empty_log, shown_kind}
use Rattle.spec.specs.GroupLog.{GroupLog, group_masks_of, empty_group_log, group_logged, conflicting_groups, group_conflict_mask, group_race_kind, group_kinds, group_words}
use Rattle.spec.specs.LockStep.{LockState}
use Rattle.spec.specs.LaunchRun.{rows_left, next_start, group_runs, lockstep, last_group, steps_by_launch, own_cells, counted_barriers}
use Rattle.spec.specs.Launch.{own_part, global_part, all_log_words}
use Rattle.spec.specs.Intervals.{interval_records, record_words}
use Rattle.spec.specs.AllRuns.{counted_in_all}
use Rattle.spec.proofs.GlobalRows.{global_load, global_store, global_add, growing}
use Rattle.spec.proofs.LogTable.{of_three, every_marked, some_kinds}
use Rattle.spec.proofs.OpTable.{bytes_from}
use Rattle.spec.proofs.Computing.{computing}

unfoldable pub mask_words : GroupLog → List (List ℕ)
mask_words H = map (λ m. map mask_word (group_masks_of H m)) (reads ∷ writes ∷ adds ∷ [])

-- Three groups of four threads: the launch numbers of threads 0, 1 and 3 of each.
pub launch_numbers : map (λ g. map (launch_number (shape_of (sizes 4 5 3 7) g)) (0 ∷ 1 ∷ 3 ∷ [])) (0 ∷ 1 ∷ 2 ∷ []) ≡
    (0 ∷ 1 ∷ 3 ∷ []) ∷ (4 ∷ 5 ∷ 7 ∷ []) ∷ (8 ∷ 9 ∷ 11 ∷ []) ∷ []
unfolding computing
launch_numbers = refl

-- Two groups of one thread: by own cell 0, group 0 makes the accesses `earlier` of the global cell and group 1 then the access `later`.
unfoldable pub behind_group0 : (earlier : Table) → (later : Row) → Table
behind_group0 earlier later = row_of 16 1 0 0 ∷ row_of 32 0 1 0 ∷ later ∷ row_of 33 0 0 0 ∷ (earlier ++ (row_of 34 0 0 0 ∷ []))

unfoldable pub comes_to : Table → Row → Verdict
comes_to earlier later = (lockstep (behind_group0 earlier later) (sizes 1 1 2 1) (0 ∷ 1 ∷ 9 ∷ []) 100).verdict

-- The letter is that of group 0, w before a before r, of the kinds that conflict: a store meets load and add, load and store, add and store, and each alone;
-- a load meets load and add, add and store; an add meets load and add, add and store, load and store.
pub letters_across :
    map (λ e. comes_to e (global_store 0 1))
    ((global_load 2 0 ∷ global_add 0 2 ∷ [])
    ∷ (global_load 2 0 ∷ global_store 0 2 ∷ [])
    ∷ (global_add 0 2 ∷ global_store 0 2 ∷ [])
    ∷ (global_load 2 0 ∷ [])
    ∷ (global_add 0 2 ∷ [])
    ∷ (global_store 0 2 ∷ [])
    ∷ [])
    ∷ map (λ e. comes_to e (global_load 2 0)) ((global_load 2 0 ∷ global_add 0 2 ∷ []) ∷ (global_add 0 2 ∷ global_store 0 2 ∷ []) ∷ [])
    ∷ map (λ e. comes_to e (global_add 0 1))
    ((global_load 2 0 ∷ global_add 0 2 ∷ []) ∷ (global_add 0 2 ∷ global_store 0 2 ∷ []) ∷ (global_load 2 0 ∷ global_store 0 2 ∷ []) ∷ [])
    ∷ []
    ≡ map (map (λ k. GroupRace 0 0 k 0))
    ((AddWrite ∷ WriteWrite ∷ WriteWrite ∷ ReadWrite ∷ AddWrite ∷ WriteWrite ∷ [])
    ∷ (AddRead ∷ WriteRead ∷ [])
    ∷ (ReadAdd ∷ WriteAdd ∷ WriteAdd ∷ [])
    ∷ [])
unfolding computing behind_group0 comes_to
letters_across = refl

-- By whether the other wrote and added: of a load, a store and an add.
pub letters : map (λ m. shown_kind true true m ∷ shown_kind true false m ∷ shown_kind false true m ∷ shown_kind false false m ∷ []) (reads ∷ writes ∷ adds ∷ []) ≡
    (WriteRead ∷ WriteRead ∷ AddRead ∷ AddRead ∷ [])
    ∷ (WriteWrite ∷ WriteWrite ∷ AddWrite ∷ ReadWrite ∷ [])
    ∷ (WriteAdd ∷ WriteAdd ∷ ReadAdd ∷ ReadAdd ∷ [])
    ∷ []
unfolding computing
letters = refl

-- Three groups, two cells: nothing entered; group 1's load, store and add of cell 1, each by itself; then those of group 2 as well.
pub groups_entered :
    mask_words (empty_group_log 3 2)
    ∷ map (λ k. mask_words (group_logged (empty_group_log 3 2) 1 1 k)) (load ∷ store 0 ∷ atomic_add 0 ∷ [])
    ++ map (λ k. mask_words (group_logged (group_logged (empty_group_log 3 2) 1 1 k) 1 2 k)) (load ∷ store 0 ∷ atomic_add 0 ∷ [])
    ≡ ((0 ∷ 0 ∷ []) ∷ (0 ∷ 0 ∷ []) ∷ (0 ∷ 0 ∷ []) ∷ [])
    ∷ ((0 ∷ 2 ∷ []) ∷ (0 ∷ 0 ∷ []) ∷ (0 ∷ 0 ∷ []) ∷ [])
    ∷ ((0 ∷ 0 ∷ []) ∷ (0 ∷ 2 ∷ []) ∷ (0 ∷ 0 ∷ []) ∷ [])
    ∷ ((0 ∷ 0 ∷ []) ∷ (0 ∷ 0 ∷ []) ∷ (0 ∷ 2 ∷ []) ∷ [])
    ∷ ((0 ∷ 6 ∷ []) ∷ (0 ∷ 0 ∷ []) ∷ (0 ∷ 0 ∷ []) ∷ [])
    ∷ ((0 ∷ 0 ∷ []) ∷ (0 ∷ 6 ∷ []) ∷ (0 ∷ 0 ∷ []) ∷ [])
    ∷ ((0 ∷ 0 ∷ []) ∷ (0 ∷ 0 ∷ []) ∷ (0 ∷ 6 ∷ []) ∷ [])
    ∷ []
unfolding computing mask_words
groups_entered = refl

-- Eight groups and two cells, of which cell 1 is used. Bit 0 of a group's number says that it loaded, bit 1 that it stored, bit 2 that it added.
unfoldable pub every_group : GroupLog
every_group = let G = every_marked false in record { readers = G.readers; writers = G.writers; adders = G.adders }

pub group_masks_lem : mask_words every_group ≡ (0 ∷ 170 ∷ []) ∷ (0 ∷ 204 ∷ []) ∷ (0 ∷ 240 ∷ []) ∷ []
unfolding computing every_marked every_group mask_words
group_masks_lem = refl

-- Their words: all readers, all writers, all adders.
pub group_words_lem : group_kinds every_group ++ (group_words every_group ∷ []) ≡
    (0 ∷ 170 ∷ []) ∷ (0 ∷ 204 ∷ []) ∷ (0 ∷ 240 ∷ []) ∷ (0 ∷ 170 ∷ 0 ∷ 204 ∷ 0 ∷ 240 ∷ []) ∷ []
unfolding computing every_marked every_group
group_words_lem = refl

-- By mode: whom a load, a store of the value stored and of another, and an add conflict with. Stores of one value conflict between groups.
pub groups_by_mode : map (λ m. map (λ k. mask_word (conflicting_groups every_group 1 m k)) some_kinds) (reads ∷ writes ∷ adds ∷ []) ≡
    (0 ∷ 170 ∷ 170 ∷ 170 ∷ []) ∷ (204 ∷ 204 ∷ 204 ∷ 204 ∷ []) ∷ (240 ∷ 240 ∷ 240 ∷ 0 ∷ []) ∷ []
unfolding computing every_marked every_group some_kinds
groups_by_mode = refl

-- The accesses of groups 0, 1, 4 and 7: no group meets itself. Cell 0 has met none.
pub groups_met_lem :
    map (λ g. map (λ k. mask_word (group_conflict_mask every_group 1 g k)) some_kinds) (0 ∷ 1 ∷ 4 ∷ 7 ∷ [])
    ∷ map (λ g. map (λ k. mask_word (group_conflict_mask every_group 0 g k)) some_kinds) (0 ∷ [])
    ∷ []
    ≡ ((252 ∷ 254 ∷ 254 ∷ 238 ∷ []) ∷ (252 ∷ 252 ∷ 252 ∷ 236 ∷ []) ∷ (236 ∷ 238 ∷ 238 ∷ 238 ∷ []) ∷ (124 ∷ 126 ∷ 126 ∷ 110 ∷ []) ∷ [])
    ∷ ((0 ∷ 0 ∷ 0 ∷ 0 ∷ []) ∷ [])
    ∷ []
unfolding computing every_marked every_group some_kinds
groups_met_lem = refl

-- The kind of a race with each group that conflicts: of a load, a store and an add.
pub group_kinds_lem :
    map (λ h. group_race_kind every_group 1 h load) (2 ∷ 3 ∷ 4 ∷ 5 ∷ 6 ∷ 7 ∷ [])
    ∷ map (λ h. group_race_kind every_group 1 h (store 9)) (1 ∷ 2 ∷ 3 ∷ 4 ∷ 5 ∷ 6 ∷ 7 ∷ [])
    ∷ map (λ h. group_race_kind every_group 1 h (atomic_add 9)) (1 ∷ 2 ∷ 3 ∷ 5 ∷ 6 ∷ 7 ∷ [])
    ∷ []
    ≡ (WriteRead ∷ WriteRead ∷ AddRead ∷ AddRead ∷ WriteRead ∷ WriteRead ∷ [])
    ∷ (ReadWrite ∷ WriteWrite ∷ WriteWrite ∷ AddWrite ∷ AddWrite ∷ WriteWrite ∷ WriteWrite ∷ [])
    ∷ (ReadAdd ∷ WriteAdd ∷ WriteAdd ∷ ReadAdd ∷ WriteAdd ∷ WriteAdd ∷ [])
    ∷ []
unfolding computing every_marked every_group
group_kinds_lem = refl

-- Group 1 of two starts behind some state of three threads, one own cell and one global cell: row, rows, barriers, mask, saved masks, steps, cells and
-- registers; then the log, of which only the last cell's goes, and the group masks, which stay.
unfoldable pub behind_group : LockState
behind_group =
    let some = replicate 3 (true ∷ false ∷ true ∷ []) in
    record {
      row = 4;
      enabled = true ∷ false ∷ true ∷ [];
      saved = record { opener = 2; mask = true ∷ true ∷ true ∷ [] } ∷ [];
      regs = replicate 3 (replicate 16 8);
      cells = 5 ∷ 6 ∷ 7 ∷ [];
      log = record { readers = some; writers = some; adders = some; values = 1 ∷ 2 ∷ 3 ∷ []; marks = true ∷ true ∷ true ∷ [] };
      group_log = record { readers = replicate 3 (true ∷ false ∷ []); writers = replicate 3 (false ∷ true ∷ []); adders = replicate 3 (true ∷ true ∷ []) };
      rows = 11;
      steps = 12 ∷ 13 ∷ 14 ∷ [];
      barriers = 15;
    }

pub a_group_starts : let s = next_start (shape_of (sizes 3 1 2 1) 1) behind_group in
    (s.row ∷ s.rows ∷ s.barriers ∷ mask_word s.enabled ∷ []) ∷ map (λ f. f.opener) s.saved ∷ s.steps ∷ s.cells ∷ s.regs ≡
    (0 ∷ 11 ∷ 15 ∷ 7 ∷ []) ∷ [] ∷ (0 ∷ 0 ∷ 0 ∷ []) ∷ (5 ∷ 6 ∷ 7 ∷ []) ∷ replicate 3 (replicate 16 0)
unfolding computing behind_group
a_group_starts = refl

pub log_at_its_start : let s = next_start (shape_of (sizes 3 1 2 1) 1) behind_group in log_kinds s.log ++ mask_words s.group_log ≡
    replicate 3 (5 ∷ 5 ∷ 0 ∷ []) ++ ((1 ∷ 2 ∷ 0 ∷ []) ∷ (1 ∷ 1 ∷ 0 ∷ []) ∷ replicate 3 1 ∷ replicate 3 2 ∷ replicate 3 3 ∷ [])
unfolding computing behind_group mask_words
log_at_its_start = refl

-- All words of that log, eight for each cell: the group masks behind the marks.
pub all_words : all_log_words behind_group ≡
    joined (replicate 3 (replicate 3 5)) ++ (1 ∷ 2 ∷ 3 ∷ 1 ∷ 1 ∷ 1 ∷ 1 ∷ 1 ∷ 1 ∷ 2 ∷ 2 ∷ 2 ∷ 3 ∷ 3 ∷ 3 ∷ [])
unfolding computing behind_group
all_words = refl

-- Five words a cell that the threads enter, three of group masks, eight in all.
pub words_a_cell : length (log_words (empty_log 2 7)) ∷ length (group_words (empty_group_log 3 7)) ∷ length (all_log_words behind_group) ∷ [] ≡
    log_per_cell * 7 ∷ groups_per_cell * 7 ∷ launch_log_per_cell * 3 ∷ []
unfolding computing behind_group
words_a_cell = refl

-- The groups that start under limits 0 to 7, three groups of `growing`: the rows that are run before each, and those left to it.
pub starting_groups : map
    (λ k. map (λ u. u.shape.group ∷ u.start.rows ∷ rows_left k u ∷ []) (group_runs growing (sizes 1 1 3 1) (7 ∷ 8 ∷ 9 ∷ 0 ∷ []) k))
    (bytes_from 0 8)
    ≡ ((0 ∷ 0 ∷ 0 ∷ []) ∷ [])
    ∷ ((0 ∷ 0 ∷ 1 ∷ []) ∷ [])
    ∷ ((0 ∷ 0 ∷ 2 ∷ []) ∷ (1 ∷ 2 ∷ 0 ∷ []) ∷ [])
    ∷ ((0 ∷ 0 ∷ 3 ∷ []) ∷ (1 ∷ 2 ∷ 1 ∷ []) ∷ [])
    ∷ ((0 ∷ 0 ∷ 4 ∷ []) ∷ (1 ∷ 2 ∷ 2 ∷ []) ∷ (2 ∷ 4 ∷ 0 ∷ []) ∷ [])
    ∷ ((0 ∷ 0 ∷ 5 ∷ []) ∷ (1 ∷ 2 ∷ 3 ∷ []) ∷ (2 ∷ 4 ∷ 1 ∷ []) ∷ [])
    ∷ ((0 ∷ 0 ∷ 6 ∷ []) ∷ (1 ∷ 2 ∷ 4 ∷ []) ∷ (2 ∷ 4 ∷ 2 ∷ []) ∷ [])
    ∷ ((0 ∷ 0 ∷ 7 ∷ []) ∷ (1 ∷ 2 ∷ 5 ∷ []) ∷ (2 ∷ 4 ∷ 3 ∷ []) ∷ [])
    ∷ []
unfolding computing bytes_from
starting_groups = refl

-- The last of them, the steps by launch number and the records, under limits 1, 3 and 4.
pub last_group_lem : map (last_group growing (sizes 1 1 3 1) (7 ∷ 8 ∷ 9 ∷ 0 ∷ [])) (1 ∷ 3 ∷ 4 ∷ []) ≡ 0 ∷ 1 ∷ 2 ∷ []
unfolding computing
last_group_lem = refl

pub steps_so_far : map (steps_by_launch growing (sizes 2 1 3 1) (7 ∷ 8 ∷ 9 ∷ 0 ∷ [])) (1 ∷ 3 ∷ 4 ∷ []) ≡
    (1 ∷ 1 ∷ 0 ∷ 0 ∷ 0 ∷ 0 ∷ []) ∷ (2 ∷ 2 ∷ 1 ∷ 1 ∷ 0 ∷ 0 ∷ []) ∷ (2 ∷ 2 ∷ 2 ∷ 2 ∷ 0 ∷ 0 ∷ []) ∷ []
unfolding computing
steps_so_far = refl

pub records_so_far : map (λ k. record_words (interval_records growing (sizes 1 1 3 1) (7 ∷ 8 ∷ 9 ∷ 0 ∷ []) k)) (1 ∷ 3 ∷ 4 ∷ []) ≡
    (0 ∷ 1 ∷ 0 ∷ []) ∷ (0 ∷ 2 ∷ 0 ∷ 0 ∷ 1 ∷ 0 ∷ []) ∷ (0 ∷ 2 ∷ 0 ∷ 0 ∷ 2 ∷ 0 ∷ 0 ∷ 0 ∷ 0 ∷ []) ∷ []
unfolding computing
records_so_far = refl

-- Of fourteen cells the own ones of each group.
pub own_cells_lem : map (λ g. own_cells (of_three g) (bytes_from 20 14)) (0 ∷ 1 ∷ 2 ∷ []) ≡
    (20 ∷ 21 ∷ 22 ∷ 23 ∷ []) ∷ (24 ∷ 25 ∷ 26 ∷ 27 ∷ []) ∷ (28 ∷ 29 ∷ 30 ∷ 31 ∷ []) ∷ []
unfolding computing bytes_from of_three
own_cells_lem = refl

-- Those of all groups, and the global ones; three groups of five threads with four cells each and two global ones.
pub both_parts : let Z = sizes 5 4 3 2 in own_part Z (bytes_from 20 14) ∷ global_part Z (bytes_from 20 14) ∷ (all_own Z ∷ all_cells Z ∷ all_threads Z ∷ []) ∷ [] ≡
    bytes_from 20 12 ∷ (32 ∷ 33 ∷ []) ∷ (12 ∷ 14 ∷ 15 ∷ []) ∷ []
unfolding computing bytes_from
both_parts = refl

-- SET R1 = 3, ADD it to own cell 0 and to the global cell, BARRIER, twice. Each group shows its own cell only, at its own barriers: under limits up to both
-- groups' end, within group 1, at its start, and within group 0. The barriers in all.
unfoldable pub depositing : Table
depositing = row_of 1 1 3 0 ∷ row_of 18 0 1 0 ∷ global_add 0 1 ∷ row_of 37 0 0 0 ∷ row_of 18 0 1 0 ∷ row_of 37 0 0 0 ∷ []

unfoldable pub shown_under : ℕ → List (List (List ℕ))
shown_under k = counted_barriers depositing (sizes 2 1 2 1) (10 ∷ 20 ∷ 30 ∷ []) k

pub shown_at_barriers : map shown_under (100 ∷ 12 ∷ 11 ∷ 10 ∷ 6 ∷ 5 ∷ 0 ∷ []) ≡
    (((16 ∷ []) ∷ (22 ∷ []) ∷ []) ∷ ((26 ∷ []) ∷ (32 ∷ []) ∷ []) ∷ [])
    ∷ (((16 ∷ []) ∷ (22 ∷ []) ∷ []) ∷ ((26 ∷ []) ∷ (32 ∷ []) ∷ []) ∷ [])
    ∷ (((16 ∷ []) ∷ (22 ∷ []) ∷ []) ∷ ((26 ∷ []) ∷ []) ∷ [])
    ∷ (((16 ∷ []) ∷ (22 ∷ []) ∷ []) ∷ ((26 ∷ []) ∷ []) ∷ [])
    ∷ (((16 ∷ []) ∷ (22 ∷ []) ∷ []) ∷ [] ∷ [])
    ∷ (((16 ∷ []) ∷ []) ∷ [])
    ∷ ([] ∷ [])
    ∷ []
unfolding computing depositing shown_under
shown_at_barriers = refl

pub barriers_in_all : map (λ k. counted_in_all (shown_under k)) (100 ∷ 11 ∷ 6 ∷ 5 ∷ 0 ∷ []) ≡ 4 ∷ 3 ∷ 2 ∷ 1 ∷ 0 ∷ []
unfolding computing depositing shown_under
barriers_in_all = refl
