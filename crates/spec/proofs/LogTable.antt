-- The access rules and the log, computed: what an access leaves, whom it enters, whom it meets. Assumes nothing.
use mathlib.Core.Path.{◌≡◌, refl}
use mathlib.Core.List.{List, [], ◌∷◌, ◌++◌, map}
use mathlib.Core.Bool.{Bool, true, false}
use Prim.Native.Nat.{ℕ, suc}
use lib.Dec.{eqb, leb}
use lib.ListN.{replicate}
use Rattle.spec.specs.Answers.{Verdict, Race, ReadWrite, WriteRead, WriteWrite, ReadAdd, AddRead, WriteAdd, AddWrite}
use Rattle.spec.specs.Lists.{joined, map_where, last_of}
use Rattle.spec.specs.Op.{OWN, GLOBAL, LOAD, STORE, ATOMICADD}
use Rattle.spec.specs.Table.{row_of, cell_byte, kind_of}
use Rattle.spec.specs.Shape.{Shape, one_group, shape_of, sizes, total, bound, address, is_global, is_own, reaches}
use Rattle.spec.specs.Access.{Kind, load, store, atomic_add, value_of, reads, writes, adds, mode, agree, cell_after, registers_after}
use Rattle.spec.specs.Mask.{Mask, mask_word}
use Rattle.spec.specs.Log.{Log, masks_of, mark_word, log_kinds, log_words, empty_log, nobody, cleared, cell_cleared, cells_cleared}
use Rattle.spec.specs.Log.{first_value, unequal, logged, conflicting, tested_mask, conflict_mask, race_kind}
use Rattle.spec.specs.LockStep.{Step, continues, stops, initial_state, update, try_access}
use Rattle.spec.proofs.Computing.{computing}

-- A load leaves its cell and takes its value into register d; a store leaves its value and no register; an add leaves the sum and no register.
pub cells_left : cell_after load 5 ∷ cell_after (store 9) 5 ∷ cell_after (store 0) 5 ∷ [] ≡ 5 ∷ 9 ∷ 0 ∷ []
unfolding computing
cells_left = refl

-- Sums up to 2^32 - 1 as they are, 2^32 and above modulo 2^32; an add of 0, and an add to 0.
pub cells_grown :
    cell_after (atomic_add 9) 5
    ∷ cell_after (atomic_add 0) 5
    ∷ cell_after (atomic_add 9) 0
    ∷ cell_after (atomic_add 1) 4294967294
    ∷ cell_after (atomic_add 1) 4294967295
    ∷ cell_after (atomic_add 4294967295) 7
    ∷ cell_after (atomic_add 2147483648) 2147483650
    ∷ cell_after (atomic_add 4294967295) 4294967295
    ∷ []
    ≡ 14 ∷ 5 ∷ 9 ∷ 4294967295 ∷ 0 ∷ 6 ∷ 2 ∷ 4294967294 ∷ []
unfolding computing
cells_grown = refl

pub registers_left : map (λ k. registers_after k 2 5 (10 ∷ 11 ∷ 12 ∷ 13 ∷ [])) (load ∷ store 9 ∷ atomic_add 9 ∷ []) ≡
    (10 ∷ 11 ∷ 5 ∷ 13 ∷ []) ∷ (10 ∷ 11 ∷ 12 ∷ 13 ∷ []) ∷ (10 ∷ 11 ∷ 12 ∷ 13 ∷ []) ∷ []
unfolding computing
registers_left = refl

-- LOAD has its cell's number in Ra, STORE and ATOMIC ADD in Rd; their value is Ra.
pub bytes_of_accesses : cell_byte LOAD (row_of 16 3 4 0) ∷ cell_byte STORE (row_of 17 3 4 0) ∷ cell_byte ATOMICADD (row_of 18 3 4 0) ∷ [] ≡ 4 ∷ 3 ∷ 3 ∷ []
unfolding computing
bytes_of_accesses = refl

pub kinds_of_accesses : kind_of LOAD 7 ∷ kind_of STORE 7 ∷ kind_of ATOMICADD 7 ∷ [] ≡ load ∷ store 7 ∷ atomic_add 7 ∷ []
unfolding computing
kinds_of_accesses = refl

pub modes : map mode (load ∷ store 7 ∷ store 0 ∷ atomic_add 7 ∷ atomic_add 0 ∷ []) ≡ reads ∷ writes ∷ writes ∷ adds ∷ adds ∷ []
unfolding computing
modes = refl

pub values : map value_of (load ∷ store 7 ∷ store 0 ∷ atomic_add 8 ∷ []) ≡ 0 ∷ 7 ∷ 0 ∷ 8 ∷ []
unfolding computing
values = refl

-- Only two that read, two that add, and two that write equal values agree. By whether the values are equal.
pub agreeing : map (λ equal. map (λ m. map (agree equal m) (reads ∷ writes ∷ adds ∷ [])) (reads ∷ writes ∷ adds ∷ [])) (false ∷ true ∷ []) ≡
    ((true ∷ false ∷ false ∷ []) ∷ (false ∷ false ∷ false ∷ []) ∷ (false ∷ false ∷ true ∷ []) ∷ [])
    ∷ ((true ∷ false ∷ false ∷ []) ∷ (false ∷ true ∷ false ∷ []) ∷ (false ∷ false ∷ true ∷ []) ∷ [])
    ∷ []
unfolding computing
agreeing = refl

-- Two threads and three cells.
pub shape : let L = shape_of (one_group 2 (7 ∷ 8 ∷ 9 ∷ [])) 0 in
    L.threads ∷ L.cells ∷ L.groups ∷ L.global ∷ L.group ∷ total L ∷ [] ≡ 2 ∷ 3 ∷ 1 ∷ 0 ∷ 0 ∷ 3 ∷ []
unfolding computing
shape = refl

pub reached : let L = shape_of (one_group 2 (7 ∷ 8 ∷ 9 ∷ [])) 0 in map (bound L) (OWN ∷ GLOBAL ∷ []) ∷ map (address L OWN) (1 ∷ 2 ∷ 0 ∷ []) ∷ [] ≡
    (3 ∷ 0 ∷ []) ∷ (1 ∷ 2 ∷ 0 ∷ []) ∷ []
unfolding computing
reached = refl

-- Three groups of two threads with four cells each, and two global cells: the own cells stand at 0 to 3, 4 to 7 and 8 to 11, the global ones at 12 and 13.
unfoldable pub of_three : ℕ → Shape
of_three g = shape_of (sizes 2 4 3 2) g

pub three_shapes : map (λ g. let L = of_three g in L.threads ∷ L.cells ∷ L.groups ∷ L.global ∷ L.group ∷ total L ∷ []) (0 ∷ 1 ∷ 2 ∷ []) ≡
    (2 ∷ 4 ∷ 3 ∷ 2 ∷ 0 ∷ 14 ∷ []) ∷ (2 ∷ 4 ∷ 3 ∷ 2 ∷ 1 ∷ 14 ∷ []) ∷ (2 ∷ 4 ∷ 3 ∷ 2 ∷ 2 ∷ 14 ∷ []) ∷ []
unfolding computing of_three
three_shapes = refl

-- Whatever the group, four cells can be named as own ones and two as global ones. Where own cells 0 and 3, and global cells 0 and 1, stand.
pub three_bounds : map (λ g. map (bound (of_three g)) (OWN ∷ GLOBAL ∷ [])) (0 ∷ 1 ∷ 2 ∷ []) ≡ replicate 3 (4 ∷ 2 ∷ [])
unfolding computing of_three
three_bounds = refl

pub three_addresses : map (λ g. let L = of_three g in address L OWN 0 ∷ address L OWN 3 ∷ address L GLOBAL 0 ∷ address L GLOBAL 1 ∷ []) (0 ∷ 1 ∷ 2 ∷ []) ≡
    (0 ∷ 3 ∷ 12 ∷ 13 ∷ []) ∷ (4 ∷ 7 ∷ 12 ∷ 13 ∷ []) ∷ (8 ∷ 11 ∷ 12 ∷ 13 ∷ []) ∷ []
unfolding computing of_three
three_addresses = refl

-- The first and the last place of each part.
unfoldable pub edges : List ℕ
edges = 0 ∷ 3 ∷ 4 ∷ 7 ∷ 8 ∷ 11 ∷ 12 ∷ 13 ∷ []

unfoldable pub global_edges : List Bool
global_edges = false ∷ false ∷ false ∷ false ∷ false ∷ false ∷ true ∷ true ∷ []

pub global_places : map (λ g. map (is_global (of_three g)) edges) (0 ∷ 1 ∷ 2 ∷ []) ≡ replicate 3 global_edges
unfolding computing of_three edges global_edges
global_places = refl

pub own_places : map (λ g. map (is_own (of_three g)) edges) (0 ∷ 1 ∷ 2 ∷ []) ≡
    (true ∷ true ∷ replicate 6 false) ∷ (false ∷ false ∷ true ∷ true ∷ replicate 4 false) ∷ (replicate 4 false ++ (true ∷ true ∷ false ∷ false ∷ [])) ∷ []
unfolding computing of_three edges
own_places = refl

pub places_in_reach : map (λ g. map (reaches (of_three g)) edges) (0 ∷ 1 ∷ 2 ∷ []) ≡
    (true ∷ true ∷ replicate 4 false ++ replicate 2 true)
    ∷ (false ∷ false ∷ true ∷ true ∷ false ∷ false ∷ true ∷ true ∷ [])
    ∷ (replicate 4 false ++ replicate 4 true)
    ∷ []
unfolding computing of_three edges
places_in_reach = refl

-- Three threads and two cells: threads 0 and 2 load cell 1, thread 2 stores 9 there as well, and thread 1 stores 8 to cell 0.
unfoldable pub some_log : Log
some_log = logged (logged (logged (logged (empty_log 3 2) 1 0 load) 1 2 load) 1 2 (store 9)) 0 1 (store 8)

-- All readers, then all writers, all adders, all first values, all marks. Every thread that read is kept; nobody enters another mask; clearing clears all.
pub log_words_lem : log_words (empty_log 3 2) ∷ log_words (logged (empty_log 3 2) 0 1 load) ∷ log_words some_log ∷ log_words (cleared (λ i. true) some_log) ∷ [] ≡
    replicate 10 0 ∷ (2 ∷ replicate 9 0) ∷ (0 ∷ 5 ∷ 2 ∷ 4 ∷ 0 ∷ 0 ∷ 8 ∷ 9 ∷ 0 ∷ 0 ∷ []) ∷ replicate 10 0 ∷ []
unfolding computing some_log
log_words_lem = refl

-- The words by kind; a mark is 1 or 0; lists one behind the other.
pub log_kinds_lem : log_kinds some_log ≡ (0 ∷ 5 ∷ []) ∷ (2 ∷ 4 ∷ []) ∷ (0 ∷ 0 ∷ []) ∷ (8 ∷ 9 ∷ []) ∷ (0 ∷ 0 ∷ []) ∷ []
unfolding computing some_log
log_kinds_lem = refl

pub mark_words : map mark_word (true ∷ false ∷ []) ≡ 1 ∷ 0 ∷ []
unfolding computing
mark_words = refl

pub joined_lists : joined {A = ℕ} ((4 ∷ 5 ∷ []) ∷ [] ∷ (6 ∷ []) ∷ (7 ∷ 8 ∷ []) ∷ []) ∷ joined [] ∷ joined ([] ∷ []) ∷ [] ≡
    (4 ∷ 5 ∷ 6 ∷ 7 ∷ 8 ∷ []) ∷ [] ∷ [] ∷ []
unfolding computing
joined_lists = refl

-- A change of the elements at some places, counted from 4 on; the last of a list.
pub changed_somewhere :
    map_where (λ i. eqb i 5) suc 4 (10 ∷ 20 ∷ 30 ∷ [])
    ∷ map_where (λ i. leb 5 i) suc 4 (10 ∷ 20 ∷ 30 ∷ [])
    ∷ map_where (λ i. false) suc 4 (10 ∷ 20 ∷ 30 ∷ [])
    ∷ map_where (λ i. true) suc 4 []
    ∷ []
    ≡ (10 ∷ 21 ∷ 30 ∷ []) ∷ (10 ∷ 21 ∷ 31 ∷ []) ∷ (10 ∷ 20 ∷ 30 ∷ []) ∷ [] ∷ []
unfolding computing
changed_somewhere = refl

pub lasts : map {B = ℕ} (last_of 7) ([] ∷ (8 ∷ []) ∷ (8 ∷ 9 ∷ []) ∷ (8 ∷ 9 ∷ 5 ∷ []) ∷ []) ≡ 7 ∷ 8 ∷ 9 ∷ 5 ∷ []
unfolding computing
lasts = refl

-- The walk over three cells with readers 1, 2, 3, writers 4, 5, 6, adders 7, 8, 9, values 10, 11, 12 and marks 13, 14, 15: after none, one, two and
-- three turns, and after more than that.
unfoldable pub fifteen : List ℕ
fifteen = 1 ∷ 2 ∷ 3 ∷ 4 ∷ 5 ∷ 6 ∷ 7 ∷ 8 ∷ 9 ∷ 10 ∷ 11 ∷ 12 ∷ 13 ∷ 14 ∷ 15 ∷ []

pub walked : map (λ n. cells_cleared 3 n fifteen) (0 ∷ 1 ∷ 2 ∷ 3 ∷ 4 ∷ 1000 ∷ []) ≡
    fifteen
    ∷ (0 ∷ 2 ∷ 3 ∷ 0 ∷ 5 ∷ 6 ∷ 0 ∷ 8 ∷ 9 ∷ 0 ∷ 11 ∷ 12 ∷ 0 ∷ 14 ∷ 15 ∷ [])
    ∷ (0 ∷ 0 ∷ 3 ∷ 0 ∷ 0 ∷ 6 ∷ 0 ∷ 0 ∷ 9 ∷ 0 ∷ 0 ∷ 12 ∷ 0 ∷ 0 ∷ 15 ∷ [])
    ∷ replicate 15 0
    ∷ replicate 15 0
    ∷ replicate 15 0
    ∷ []
unfolding computing fifteen
walked = refl

-- Its turns at cells 0, 1 and 2 alone; there is no cell 3.
pub turned : map (λ c. cell_cleared 3 c fifteen) (0 ∷ 1 ∷ 2 ∷ 3 ∷ []) ≡
    (0 ∷ 2 ∷ 3 ∷ 0 ∷ 5 ∷ 6 ∷ 0 ∷ 8 ∷ 9 ∷ 0 ∷ 11 ∷ 12 ∷ 0 ∷ 14 ∷ 15 ∷ [])
    ∷ (1 ∷ 0 ∷ 3 ∷ 4 ∷ 0 ∷ 6 ∷ 7 ∷ 0 ∷ 9 ∷ 10 ∷ 0 ∷ 12 ∷ 13 ∷ 0 ∷ 15 ∷ [])
    ∷ (1 ∷ 2 ∷ 0 ∷ 4 ∷ 5 ∷ 0 ∷ 7 ∷ 8 ∷ 0 ∷ 10 ∷ 11 ∷ 0 ∷ 13 ∷ 14 ∷ 0 ∷ [])
    ∷ fifteen
    ∷ []
unfolding computing fifteen
turned = refl

-- One cell; two cells whose log was written; and no cell at all.
pub walked_few :
    cells_cleared 1 0 (replicate 5 7)
    ∷ cells_cleared 1 1 (replicate 5 7)
    ∷ cells_cleared 2 1 (log_words some_log)
    ∷ cells_cleared 2 2 (log_words some_log)
    ∷ log_words (cleared (λ i. true) some_log)
    ∷ cells_cleared 0 1 []
    ∷ [] ≡
    replicate 5 7
    ∷ replicate 5 0
    ∷ (0 ∷ 5 ∷ 0 ∷ 4 ∷ 0 ∷ 0 ∷ 0 ∷ 9 ∷ 0 ∷ 0 ∷ [])
    ∷ replicate 10 0
    ∷ replicate 10 0
    ∷ []
    ∷ []
unfolding computing some_log
walked_few = refl

-- An add enters the adder mask of its cell and no other; every thread that added is kept.
pub adds_logged :
    map log_words
    (logged (empty_log 3 2) 0 1 (atomic_add 9)
    ∷ logged (logged (empty_log 3 2) 1 0 (atomic_add 9)) 1 2 (atomic_add 0)
    ∷ logged some_log 1 1 (atomic_add 9)
    ∷ logged (logged (logged some_log 1 1 (atomic_add 9)) 1 1 load) 0 0 (store 8)
    ∷ cleared (λ i. true) (logged some_log 1 1 (atomic_add 9))
    ∷ [])
    ≡ (0 ∷ 0 ∷ 0 ∷ 0 ∷ 2 ∷ replicate 5 0)
    ∷ (0 ∷ 0 ∷ 0 ∷ 0 ∷ 0 ∷ 5 ∷ replicate 4 0)
    ∷ (0 ∷ 5 ∷ 2 ∷ 4 ∷ 0 ∷ 2 ∷ 8 ∷ 9 ∷ 0 ∷ 0 ∷ [])
    ∷ (0 ∷ 7 ∷ 3 ∷ 4 ∷ 0 ∷ 2 ∷ 8 ∷ 9 ∷ 0 ∷ 0 ∷ [])
    ∷ replicate 10 0
    ∷ []
unfolding computing some_log
adds_logged = refl

-- A load is tested against the writers, a store against readers and writers of another value.
pub tested : map (λ c. map (λ k. mask_word (tested_mask some_log c k)) (load ∷ store 0 ∷ store 8 ∷ store 9 ∷ [])) (0 ∷ 1 ∷ []) ≡
    (2 ∷ 2 ∷ 0 ∷ 2 ∷ []) ∷ (4 ∷ 5 ∷ 5 ∷ 5 ∷ []) ∷ []
unfolding computing some_log
tested = refl

-- Threads 0, 1 and 2 load cell 1; the same store 9 to it; the same load cell 0. Nobody meets itself.
pub conflicts : map mask_word
    (conflict_mask some_log 1 0 load ∷ conflict_mask some_log 1 1 load ∷ conflict_mask some_log 1 2 load
    ∷ conflict_mask some_log 1 0 (store 9) ∷ conflict_mask some_log 1 1 (store 9) ∷ conflict_mask some_log 1 2 (store 9)
    ∷ conflict_mask some_log 0 0 load ∷ conflict_mask some_log 0 1 load ∷ conflict_mask some_log 0 2 load
    ∷ [])
    ≡ 4 ∷ 4 ∷ 0 ∷ 4 ∷ 5 ∷ 1 ∷ 2 ∷ 0 ∷ 2 ∷ []
unfolding computing some_log
conflicts = refl

-- A load meets a writer; a store meets thread 0, which only read, thread 2, which read and wrote that value, and wrote another, and in cell 0 thread 1,
-- which only wrote another.
pub kinds :
    race_kind some_log 1 2 load
    ∷ race_kind some_log 1 0 (store 9)
    ∷ race_kind some_log 1 2 (store 9)
    ∷ race_kind some_log 1 2 (store 8)
    ∷ race_kind some_log 0 1 (store 9)
    ∷ []
    ≡ WriteRead ∷ ReadWrite ∷ ReadWrite ∷ WriteWrite ∷ WriteWrite ∷ []
unfolding computing some_log
kinds = refl

-- Eight threads and two cells, of which cell 1 is used. Bit 0 of a thread's number says that it read, bit 1 that it wrote 9, bit 2 that it added: every
-- combination has its thread. No run comes to such a log, since it would have stopped before; but by it all tests are told apart.
unfoldable pub every_marked : Bool → Log
every_marked mark =
    let none : Mask = false ∷ false ∷ false ∷ false ∷ false ∷ false ∷ false ∷ false ∷ [] in
    record {
      readers = none ∷ (false ∷ true ∷ false ∷ true ∷ false ∷ true ∷ false ∷ true ∷ []) ∷ [];
      writers = none ∷ (false ∷ false ∷ true ∷ true ∷ false ∷ false ∷ true ∷ true ∷ []) ∷ [];
      adders = none ∷ (false ∷ false ∷ false ∷ false ∷ true ∷ true ∷ true ∷ true ∷ []) ∷ [];
      values = 0 ∷ 9 ∷ [];
      marks = false ∷ mark ∷ [];
    }

unfoldable pub every_log : Log
every_log = every_marked false

unfoldable pub some_kinds : List Kind
some_kinds = load ∷ store 9 ∷ store 8 ∷ atomic_add 9 ∷ []

pub every_log_words : map log_words
    (every_log ∷ every_marked true ∷ cleared (λ i. true) (every_marked true) ∷ logged every_log 0 7 (atomic_add 9) ∷ logged (every_marked true) 0 7 (store 8) ∷ [])
    ≡ (0 ∷ 170 ∷ 0 ∷ 204 ∷ 0 ∷ 240 ∷ 0 ∷ 9 ∷ 0 ∷ 0 ∷ [])
    ∷ (0 ∷ 170 ∷ 0 ∷ 204 ∷ 0 ∷ 240 ∷ 0 ∷ 9 ∷ 0 ∷ 1 ∷ [])
    ∷ replicate 10 0
    ∷ (0 ∷ 170 ∷ 0 ∷ 204 ∷ 128 ∷ 240 ∷ 0 ∷ 9 ∷ 0 ∷ 0 ∷ [])
    ∷ (0 ∷ 170 ∷ 128 ∷ 204 ∷ 0 ∷ 240 ∷ 8 ∷ 9 ∷ 0 ∷ 1 ∷ [])
    ∷ []
unfolding computing every_marked every_log
every_log_words = refl

-- Cleared at cell 0, at cell 1 and nowhere, where thread 7 has stored 8 to cell 0.
pub cleared_somewhere : map (λ p. log_words (cleared p (logged (every_marked true) 0 7 (store 8)))) ((λ i. eqb i 0) ∷ (λ i. eqb i 1) ∷ (λ i. false) ∷ []) ≡
    (0 ∷ 170 ∷ 0 ∷ 204 ∷ 0 ∷ 240 ∷ 0 ∷ 9 ∷ 0 ∷ 1 ∷ [])
    ∷ (0 ∷ 0 ∷ 128 ∷ 0 ∷ 0 ∷ 0 ∷ 8 ∷ 0 ∷ 0 ∷ 0 ∷ [])
    ∷ (0 ∷ 170 ∷ 128 ∷ 204 ∷ 0 ∷ 240 ∷ 8 ∷ 9 ∷ 0 ∷ 1 ∷ [])
    ∷ []
unfolding computing every_marked
cleared_somewhere = refl

pub masks_by_mode : map (λ m. map mask_word (masks_of every_log m)) (reads ∷ writes ∷ adds ∷ []) ≡ (0 ∷ 170 ∷ []) ∷ (0 ∷ 204 ∷ []) ∷ (0 ∷ 240 ∷ []) ∷ []
unfolding computing every_marked every_log
masks_by_mode = refl

-- Nobody is a mask for as many threads.
pub nobodies : nobody (true ∷ false ∷ true ∷ []) ∷ nobody [] ∷ [] ≡ (false ∷ false ∷ false ∷ []) ∷ [] ∷ []
unfolding computing
nobodies = refl

-- By mode: whom a load, a store of that value and of another, and an add conflict with.
pub conflicts_by_mode : map (λ m. map (λ k. mask_word (conflicting every_log 1 m k)) some_kinds) (reads ∷ writes ∷ adds ∷ []) ≡
    (0 ∷ 170 ∷ 170 ∷ 170 ∷ []) ∷ (204 ∷ 0 ∷ 204 ∷ 204 ∷ []) ∷ (240 ∷ 240 ∷ 240 ∷ 0 ∷ []) ∷ []
unfolding computing every_marked every_log some_kinds
conflicts_by_mode = refl

-- Where unequal values were stored every store conflicts with the writers, and nothing else changes.
pub conflicts_marked : map (λ m. map (λ k. mask_word (conflicting (every_marked true) 1 m k)) some_kinds) (reads ∷ writes ∷ adds ∷ []) ≡
    (0 ∷ 170 ∷ 170 ∷ 170 ∷ []) ∷ (204 ∷ 204 ∷ 204 ∷ 204 ∷ []) ∷ (240 ∷ 240 ∷ 240 ∷ 0 ∷ []) ∷ []
unfolding computing every_marked some_kinds
conflicts_marked = refl

-- All but those who only read; those who read or added; all but the one who did nothing; all but those who only added. Cell 0 has met nobody.
pub every_tested : map (λ k. mask_word (tested_mask every_log 1 k)) some_kinds ∷ map (λ k. mask_word (tested_mask every_log 0 k)) some_kinds ∷ [] ≡
    (252 ∷ 250 ∷ 254 ∷ 238 ∷ []) ∷ (0 ∷ 0 ∷ 0 ∷ 0 ∷ []) ∷ []
unfolding computing every_marked every_log some_kinds
every_tested = refl

-- The accesses of threads 0, 1, 4 and 7: nobody meets itself.
pub every_conflict : map (λ t. map (λ k. mask_word (conflict_mask every_log 1 t k)) some_kinds) (0 ∷ 1 ∷ 4 ∷ 7 ∷ []) ≡
    (252 ∷ 250 ∷ 254 ∷ 238 ∷ []) ∷ (252 ∷ 248 ∷ 252 ∷ 236 ∷ []) ∷ (236 ∷ 234 ∷ 238 ∷ 238 ∷ []) ∷ (124 ∷ 122 ∷ 126 ∷ 110 ∷ []) ∷ []
unfolding computing every_marked every_log some_kinds
every_conflict = refl

-- The kind of a race with each thread that conflicts. Of r, w, a: w before a before r, and never r to a load or a to an add.
pub kinds_of_loads : map (λ u. race_kind every_log 1 u load) (2 ∷ 3 ∷ 4 ∷ 5 ∷ 6 ∷ 7 ∷ []) ≡
    WriteRead ∷ WriteRead ∷ AddRead ∷ AddRead ∷ WriteRead ∷ WriteRead ∷ []
unfolding computing every_marked every_log
kinds_of_loads = refl

pub kinds_of_stores : map (λ u. race_kind every_log 1 u (store 8)) (1 ∷ 2 ∷ 3 ∷ 4 ∷ 5 ∷ 6 ∷ 7 ∷ []) ≡
    ReadWrite ∷ WriteWrite ∷ WriteWrite ∷ AddWrite ∷ AddWrite ∷ WriteWrite ∷ WriteWrite ∷ []
unfolding computing every_marked every_log
kinds_of_stores = refl

-- Of the value that was stored, and so no w; thread 2, which stored alone, does not conflict. Where unequal values were stored w is shown again.
pub kinds_of_equal_stores :
    map (λ u. race_kind every_log 1 u (store 9)) (1 ∷ 3 ∷ 4 ∷ 5 ∷ 6 ∷ 7 ∷ [])
    ∷ map (λ u. race_kind (every_marked true) 1 u (store 9)) (1 ∷ 2 ∷ 3 ∷ 4 ∷ 6 ∷ 7 ∷ [])
    ∷ []
    ≡ (ReadWrite ∷ ReadWrite ∷ AddWrite ∷ AddWrite ∷ AddWrite ∷ AddWrite ∷ [])
    ∷ (ReadWrite ∷ WriteWrite ∷ WriteWrite ∷ AddWrite ∷ WriteWrite ∷ WriteWrite ∷ [])
    ∷ []
unfolding computing every_marked every_log
kinds_of_equal_stores = refl

pub kinds_of_adds : map (λ u. race_kind every_log 1 u (atomic_add 9)) (1 ∷ 2 ∷ 3 ∷ 5 ∷ 6 ∷ 7 ∷ []) ≡
    ReadAdd ∷ WriteAdd ∷ WriteAdd ∷ ReadAdd ∷ WriteAdd ∷ WriteAdd ∷ []
unfolding computing every_marked every_log
kinds_of_adds = refl

-- The other is the lowest that conflicts, not the lowest that accessed. Three threads; thread 0 added and thread 1 read; thread 0 added and thread 1
-- wrote and added; thread 0 read and thread 1 added; thread 0 read and thread 1 wrote and read.
unfoldable pub lower_agrees : List Log
lower_agrees =
    logged (logged (empty_log 3 1) 0 0 (atomic_add 5)) 0 1 load
    ∷ logged (logged (logged (empty_log 3 1) 0 0 (atomic_add 5)) 0 1 (store 5)) 0 1 (atomic_add 5)
    ∷ logged (logged (empty_log 3 1) 0 0 load) 0 1 (atomic_add 5)
    ∷ logged (logged (logged (empty_log 3 1) 0 0 load) 0 1 (store 5)) 0 1 load
    ∷ []

-- Thread 2's access of cell 0, and its verdict where it races.
unfoldable pub stopped_with : Step → List Verdict
stopped_with (continues s) = []
stopped_with (stops v s) = v ∷ []

unfoldable pub third : Kind → Log → List Verdict
third k G =
    let Z = one_group 3 (7 ∷ []) in
    let s = initial_state Z (7 ∷ []) in
    stopped_with (try_access (shape_of Z 0) OWN (update s s.regs s.cells G s.steps) 2 4 0 k)

pub third_adds : map (third (atomic_add 9)) lower_agrees ≡ (Race 2 1 ReadAdd 0 ∷ []) ∷ (Race 2 1 WriteAdd 0 ∷ []) ∷ (Race 2 0 ReadAdd 0 ∷ []) ∷ (Race 2 0 ReadAdd 0 ∷ []) ∷ []
unfolding computing lower_agrees stopped_with third
third_adds = refl

pub third_loads : map (third load) lower_agrees ≡ (Race 2 0 AddRead 0 ∷ []) ∷ (Race 2 0 AddRead 0 ∷ []) ∷ (Race 2 1 AddRead 0 ∷ []) ∷ (Race 2 1 WriteRead 0 ∷ []) ∷ []
unfolding computing lower_agrees stopped_with third
third_loads = refl

pub third_stores : map (third (store 9)) lower_agrees ≡ (Race 2 0 AddWrite 0 ∷ []) ∷ (Race 2 0 AddWrite 0 ∷ []) ∷ (Race 2 0 ReadWrite 0 ∷ []) ∷ (Race 2 0 ReadWrite 0 ∷ []) ∷ []
unfolding computing lower_agrees stopped_with third
third_stores = refl

-- Stores to cell 1 of two, by thread 0: none; 0; 5; 5 and 5; 5 and 6; 5, 6 and 5; 5, 6 and 6; 0 and 7. Then a load of it, an add of 5, and an add of 6
-- before a store of 5; 5 and 6 before a load and an add of 5; and 5 by both threads.
unfoldable pub storing : List Log
storing =
    let none = empty_log 2 2 in
    let five = logged none 1 0 (store 5) in
    none
    ∷ logged none 1 0 (store 0)
    ∷ five
    ∷ logged five 1 0 (store 5)
    ∷ logged five 1 0 (store 6)
    ∷ logged (logged five 1 0 (store 6)) 1 0 (store 5)
    ∷ logged (logged five 1 0 (store 6)) 1 0 (store 6)
    ∷ logged (logged none 1 0 (store 0)) 1 0 (store 7)
    ∷ logged none 1 0 load
    ∷ logged none 1 0 (atomic_add 5)
    ∷ logged (logged none 1 0 (atomic_add 6)) 1 0 (store 5)
    ∷ logged (logged (logged five 1 0 (store 6)) 1 0 load) 1 0 (atomic_add 5)
    ∷ logged five 1 1 (store 5)
    ∷ []

-- The first value stays, and the mark stays once set; a 0 is a first value. Loads and adds leave both.
pub stores_logged : map log_words storing ≡
    replicate 10 0
    ∷ (0 ∷ 0 ∷ 0 ∷ 1 ∷ 0 ∷ 0 ∷ 0 ∷ 0 ∷ 0 ∷ 0 ∷ [])
    ∷ (0 ∷ 0 ∷ 0 ∷ 1 ∷ 0 ∷ 0 ∷ 0 ∷ 5 ∷ 0 ∷ 0 ∷ [])
    ∷ (0 ∷ 0 ∷ 0 ∷ 1 ∷ 0 ∷ 0 ∷ 0 ∷ 5 ∷ 0 ∷ 0 ∷ [])
    ∷ (0 ∷ 0 ∷ 0 ∷ 1 ∷ 0 ∷ 0 ∷ 0 ∷ 5 ∷ 0 ∷ 1 ∷ [])
    ∷ (0 ∷ 0 ∷ 0 ∷ 1 ∷ 0 ∷ 0 ∷ 0 ∷ 5 ∷ 0 ∷ 1 ∷ [])
    ∷ (0 ∷ 0 ∷ 0 ∷ 1 ∷ 0 ∷ 0 ∷ 0 ∷ 5 ∷ 0 ∷ 1 ∷ [])
    ∷ (0 ∷ 0 ∷ 0 ∷ 1 ∷ 0 ∷ 0 ∷ 0 ∷ 0 ∷ 0 ∷ 1 ∷ [])
    ∷ (0 ∷ 1 ∷ 0 ∷ 0 ∷ 0 ∷ 0 ∷ 0 ∷ 0 ∷ 0 ∷ 0 ∷ [])
    ∷ (0 ∷ 0 ∷ 0 ∷ 0 ∷ 0 ∷ 1 ∷ 0 ∷ 0 ∷ 0 ∷ 0 ∷ [])
    ∷ (0 ∷ 0 ∷ 0 ∷ 1 ∷ 0 ∷ 1 ∷ 0 ∷ 5 ∷ 0 ∷ 0 ∷ [])
    ∷ (0 ∷ 1 ∷ 0 ∷ 1 ∷ 0 ∷ 1 ∷ 0 ∷ 5 ∷ 0 ∷ 1 ∷ [])
    ∷ (0 ∷ 0 ∷ 0 ∷ 3 ∷ 0 ∷ 0 ∷ 0 ∷ 5 ∷ 0 ∷ 0 ∷ [])
    ∷ []
unfolding computing storing
stores_logged = refl

-- The first value where 7 is stored now, to cell 1 and to cell 0.
pub first_values : map (λ c. map (λ G. first_value G c 7) storing) (1 ∷ 0 ∷ []) ≡ (7 ∷ 0 ∷ 5 ∷ 5 ∷ 5 ∷ 5 ∷ 5 ∷ 0 ∷ 7 ∷ 7 ∷ 5 ∷ 5 ∷ 5 ∷ []) ∷ replicate 13 7 ∷ []
unfolding computing storing
first_values = refl

-- Whether the stores are unequal with one of 0, 5, 6 and 7 to cell 1; to cell 0 none is.
pub unequal_stores : map (λ G. map (unequal G 1) (0 ∷ 5 ∷ 6 ∷ 7 ∷ [])) storing ≡
    (false ∷ false ∷ false ∷ false ∷ [])
    ∷ (false ∷ true ∷ true ∷ true ∷ [])
    ∷ (true ∷ false ∷ true ∷ true ∷ [])
    ∷ (true ∷ false ∷ true ∷ true ∷ [])
    ∷ (true ∷ true ∷ true ∷ true ∷ [])
    ∷ (true ∷ true ∷ true ∷ true ∷ [])
    ∷ (true ∷ true ∷ true ∷ true ∷ [])
    ∷ (true ∷ true ∷ true ∷ true ∷ [])
    ∷ (false ∷ false ∷ false ∷ false ∷ [])
    ∷ (false ∷ false ∷ false ∷ false ∷ [])
    ∷ (true ∷ false ∷ true ∷ true ∷ [])
    ∷ (true ∷ true ∷ true ∷ true ∷ [])
    ∷ (true ∷ false ∷ true ∷ true ∷ [])
    ∷ []
unfolding computing storing
unequal_stores = refl

pub unequal_elsewhere : map (λ G. unequal G 0 7) storing ≡ replicate 13 false
unfolding computing storing
unequal_elsewhere = refl

-- Cleared, every one is as if nothing had been stored: all its words are 0, and a store of 6 is the first.
pub stores_cleared : map (λ G. log_words (cleared (λ i. true) G)) storing ≡ replicate 13 (replicate 10 0)
unfolding computing storing
stores_cleared = refl

pub stores_behind : map (λ G. log_words (logged (cleared (λ i. true) G) 1 1 (store 6))) storing ≡ replicate 13 (0 ∷ 0 ∷ 0 ∷ 2 ∷ 0 ∷ 0 ∷ 0 ∷ 6 ∷ 0 ∷ 0 ∷ [])
unfolding computing storing
stores_behind = refl

-- Thread 2 stores behind: 5 by thread 0, and by thread 1, which read; 5 by both, and thread 1 added; 5 by both; 5 and 6 by thread 0; 5, by thread 0, and an
-- add of it. Of the same value it meets the lowest that conflicts, not the lowest that wrote.
unfoldable pub lower_equal : List Log
lower_equal =
    let five = logged (empty_log 3 1) 0 0 (store 5) in
    logged (logged five 0 1 (store 5)) 0 1 load
    ∷ logged (logged five 0 1 (store 5)) 0 1 (atomic_add 5)
    ∷ logged five 0 1 (store 5)
    ∷ logged five 0 0 (store 6)
    ∷ logged five 0 0 (atomic_add 5)
    ∷ []

pub third_equal : map (third (store 5)) lower_equal ≡
    (Race 2 1 ReadWrite 0 ∷ []) ∷ (Race 2 1 AddWrite 0 ∷ []) ∷ [] ∷ (Race 2 0 WriteWrite 0 ∷ []) ∷ (Race 2 0 AddWrite 0 ∷ []) ∷ []
unfolding computing lower_equal stopped_with third
third_equal = refl

pub third_unequal : map (third (store 6)) lower_equal ≡ replicate 5 (Race 2 0 WriteWrite 0 ∷ [])
unfolding computing lower_equal stopped_with third
third_unequal = refl

-- A load and an add meet the lowest writer, though all stored one value, and though it is theirs.
pub third_beside : map (third load) lower_equal ∷ map (third (atomic_add 5)) lower_equal ∷ [] ≡
    replicate 5 (Race 2 0 WriteRead 0 ∷ []) ∷ replicate 5 (Race 2 0 WriteAdd 0 ∷ []) ∷ []
unfolding computing lower_equal stopped_with third
third_beside = refl
