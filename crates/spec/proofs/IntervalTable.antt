-- Bank conflicts of lists of cells and of rows, the records of intervals, what is lent for them and what it holds afterwards. Assumes nothing.
use Rattle.std.specs.Prelude.{Result, Ok, Err}
use mathlib.Core.Path.{◌≡◌, refl}
use mathlib.Core.List.{List, [], ◌∷◌, ◌++◌, map}
use mathlib.Core.Bool.{true, false}
use Prim.Native.Nat.{ℕ, ◌-◌, ◌*◌}
use lib.ListN.{length, drop, replicate}
use Rattle.spec.specs.Answers.{Outcome, Passed, Race, WriteWrite, Outside, Diverged, Spent, LogLength, RecordsLength, Refusal}
use Rattle.spec.specs.declared.Subject.TheVariants as subject
use Rattle.spec.specs.Op.{GLOBAL, MEM, LOAD, STORE, ATOMICADD, op_of}
use Rattle.spec.specs.Table.{Table, row_of}
use Rattle.spec.specs.Mask.{Mask}
use Rattle.spec.specs.Shape.{sizes, one_group}
use Rattle.spec.specs.Log.{empty_log}
use Rattle.spec.specs.GroupLog.{empty_group_log}
use Rattle.spec.specs.LockStep.{LockState}
use Rattle.spec.specs.Banks.{different, in_bank, most_in_bank, conflict_cost}
use Rattle.spec.specs.Intervals.{Interval, used_cells, row_cost, together, records_of, interval_records, record_words, conflicts_of}
use Rattle.spec.specs.LaunchFile.{file_launch}
use Rattle.spec.specs.Entries.{bare_answer, bare_records, file_records_after, subject_of}
use Rattle.spec.proofs.Lines.{lines}
use Rattle.spec.proofs.OpTable.{bytes_from}
use Rattle.spec.proofs.Computing.{computing}

-- How many different cells: each counts once, wherever it stands again.
pub different_cells : map (λ cs. length (different cs))
    ([] ∷ (5 ∷ []) ∷ (5 ∷ 5 ∷ []) ∷ (5 ∷ 5 ∷ 5 ∷ []) ∷ (5 ∷ 21 ∷ []) ∷ (5 ∷ 21 ∷ 5 ∷ [])
    ∷ (21 ∷ 5 ∷ 5 ∷ 21 ∷ 37 ∷ 5 ∷ []) ∷ (0 ∷ 1 ∷ 0 ∷ []) ∷ [])
    ≡ 0 ∷ 1 ∷ 1 ∷ 1 ∷ 2 ∷ 2 ∷ 3 ∷ 2 ∷ []
unfolding computing
different_cells = refl

-- How many are in banks 0, 3, 4, 5 and 15; the largest number in the first 0, 1, 3, 4, 15 and 16 banks.
pub in_banks : map (λ b. in_bank b (3 ∷ 19 ∷ 35 ∷ 4 ∷ 1023 ∷ 0 ∷ [])) (0 ∷ 3 ∷ 4 ∷ 5 ∷ 15 ∷ []) ≡ 1 ∷ 3 ∷ 1 ∷ 0 ∷ 1 ∷ []
unfolding computing
in_banks = refl

pub most_in_banks : map (λ k. most_in_bank k (3 ∷ 19 ∷ 35 ∷ 0 ∷ 16 ∷ 15 ∷ 31 ∷ 47 ∷ 63 ∷ [])) (0 ∷ 1 ∷ 3 ∷ 4 ∷ 15 ∷ 16 ∷ []) ≡ 0 ∷ 2 ∷ 2 ∷ 3 ∷ 3 ∷ 4 ∷ []
unfolding computing
most_in_banks = refl

-- What cells cost: by modulo 16 and not 8, 32 or a division; at the last cells of 1,024.
pub costs_of_two : map conflict_cost
    ((0 ∷ 16 ∷ []) ∷ (0 ∷ 8 ∷ []) ∷ (0 ∷ 32 ∷ []) ∷ (0 ∷ 15 ∷ []) ∷ (15 ∷ 16 ∷ []) ∷ (15 ∷ 31 ∷ [])
    ∷ (1 ∷ 2 ∷ []) ∷ (17 ∷ 1 ∷ []) ∷ (1023 ∷ 1007 ∷ []) ∷ (1023 ∷ 15 ∷ []) ∷ (1023 ∷ 0 ∷ []) ∷ [])
    ≡ 1 ∷ 0 ∷ 1 ∷ 0 ∷ 0 ∷ 1 ∷ 0 ∷ 1 ∷ 1 ∷ 1 ∷ 0 ∷ []
unfolding computing
costs_of_two = refl

-- None and one; one cell by many; two cells by many; three and four of a bank, where the pairs are three and six.
pub costs_of_a_bank : map conflict_cost
    ([] ∷ (9 ∷ []) ∷ (9 ∷ 9 ∷ []) ∷ replicate 32 9 ∷ (9 ∷ 25 ∷ 9 ∷ 25 ∷ 9 ∷ []) ∷ (9 ∷ 25 ∷ 41 ∷ []) ∷ (9 ∷ 57 ∷ 25 ∷ 41 ∷ []) ∷ [])
    ≡ 0 ∷ 0 ∷ 0 ∷ 0 ∷ 1 ∷ 2 ∷ 3 ∷ []
unfolding computing
costs_of_a_bank = refl

-- Several banks: the largest number, be it of the first, the middle or the last one, and not their sum or how many of them have a conflict.
pub costs_of_banks : map conflict_cost
    ((0 ∷ 16 ∷ 1 ∷ 17 ∷ []) ∷ (0 ∷ 16 ∷ 32 ∷ 48 ∷ 1 ∷ 17 ∷ [])
    ∷ (0 ∷ 16 ∷ 7 ∷ 23 ∷ 39 ∷ 15 ∷ 31 ∷ []) ∷ (0 ∷ 16 ∷ 15 ∷ 31 ∷ 47 ∷ 63 ∷ 15 ∷ []) ∷ bytes_from 0 16
    ∷ bytes_from 0 17 ∷ bytes_from 0 32 ∷ bytes_from 992 32
    ∷ map (λ c. 16 * c) (bytes_from 0 32) ∷ map (λ c. 8 * c) (bytes_from 0 32) ∷ map (λ c. 32 * c) (bytes_from 0 32) ∷ [])
    ≡ 1 ∷ 3 ∷ 2 ∷ 3 ∷ 0 ∷ 1 ∷ 1 ∷ 1 ∷ 31 ∷ 15 ∷ 31 ∷ []
unfolding computing bytes_from
costs_of_banks = refl

-- Four threads whose R1 are 0, 16, 32 and 48, R2 0, 1, 2 and 3, R3 5, 5, 21 and 37.
unfoldable pub four_threads : Mask → LockState
four_threads m =
    record {
      row = 3;
      enabled = m;
      saved = [];
      regs = (9 ∷ 0 ∷ 0 ∷ 5 ∷ []) ∷ (9 ∷ 16 ∷ 1 ∷ 5 ∷ []) ∷ (9 ∷ 32 ∷ 2 ∷ 21 ∷ []) ∷ (9 ∷ 48 ∷ 3 ∷ 37 ∷ []) ∷ [];
      cells = replicate 64 7;
      log = empty_log 4 64;
      group_log = empty_group_log 1 64;
      rows = 3;
      steps = replicate 4 3;
      barriers = 0;
    }

-- LOAD uses the cell that Ra names, STORE and ATOMIC ADD the one that Rd names, in the order of the threads that are enabled.
pub used_cells_lem : map (λ m. used_cells m (row_of 0 1 2 0) (four_threads (replicate 4 true))) (LOAD ∷ STORE ∷ ATOMICADD ∷ []) ≡
    (0 ∷ 1 ∷ 2 ∷ 3 ∷ []) ∷ (0 ∷ 16 ∷ 32 ∷ 48 ∷ []) ∷ (0 ∷ 16 ∷ 32 ∷ 48 ∷ []) ∷ []
unfolding computing four_threads
used_cells_lem = refl

pub row_costs : map (λ x. row_cost x (four_threads (replicate 4 true)) x.op)
    (row_of 16 1 2 0 ∷ row_of 16 2 1 0 ∷ row_of 16 1 1 0 ∷ row_of 16 0 3 0 ∷ row_of 17 1 2 0 ∷ row_of 17 2 1 0 ∷ row_of 17 3 0 0
    ∷ row_of 18 1 2 0 ∷ row_of 18 2 1 0 ∷ row_of 18 3 0 0 ∷ [])
    ≡ 0 ∷ 3 ∷ 3 ∷ 2 ∷ 3 ∷ 0 ∷ 2 ∷ 3 ∷ 0 ∷ 2 ∷ []
unfolding computing four_threads
row_costs = refl

-- Of the 256 op bytes only 16, 17 and 18 cost.
pub costing_ops : map (λ op. row_cost (row_of op 1 1 1) (four_threads (replicate 4 true)) (op_of op)) (bytes_from 0 256) ≡ replicate 16 0 ++ (3 ∷ 3 ∷ 3 ∷ replicate 237 0)
unfolding computing bytes_from four_threads
costing_ops = refl

-- Nor do global cells cost, however they are accessed.
pub global_costs : map (λ m. row_cost (row_of 0 1 1 0) (four_threads (replicate 4 true)) (MEM GLOBAL m)) (LOAD ∷ STORE ∷ ATOMICADD ∷ []) ≡ 0 ∷ 0 ∷ 0 ∷ []
unfolding computing four_threads
global_costs = refl

-- Only enabled threads: all but thread 1, threads 2 and 3, thread 0, nobody.
pub enabled_costs : map (λ m. row_cost (row_of 17 1 2 0) (four_threads m) (op_of 17))
    ((true ∷ false ∷ true ∷ true ∷ []) ∷ (false ∷ false ∷ true ∷ true ∷ []) ∷ (true ∷ false ∷ false ∷ false ∷ []) ∷ replicate 4 false ∷ [])
    ≡ 2 ∷ 1 ∷ 0 ∷ 0 ∷ []
unfolding computing four_threads
enabled_costs = refl

-- Three threads, 16 cells apart: LOAD, BARRIER, ATOMIC ADD by threads 1 and 2, two BARRIERs, LOAD. The records after no row, one row and so on to the end.
unfoldable pub three_apart : Table
three_apart =
    row_of 2 0 0 0
    ∷ row_of 1 1 16 0
    ∷ row_of 6 2 0 1
    ∷ row_of 16 3 2 0
    ∷ row_of 37 0 0 0
    ∷ row_of 32 0 0 0
    ∷ row_of 18 2 1 0
    ∷ row_of 34 0 0 0
    ∷ row_of 37 0 0 0
    ∷ row_of 37 0 0 0
    ∷ row_of 16 3 2 0
    ∷ []

pub record_by_record : map (λ k. record_words (interval_records three_apart (one_group 3 (replicate 33 7)) (replicate 33 7) k)) (bytes_from 0 13) ≡
    (0 ∷ 0 ∷ 0 ∷ [])
    ∷ (0 ∷ 1 ∷ 0 ∷ [])
    ∷ (0 ∷ 2 ∷ 0 ∷ [])
    ∷ (0 ∷ 3 ∷ 0 ∷ [])
    ∷ (0 ∷ 4 ∷ 2 ∷ [])
    ∷ (0 ∷ 5 ∷ 2 ∷ 5 ∷ 0 ∷ 0 ∷ [])
    ∷ (0 ∷ 5 ∷ 2 ∷ 5 ∷ 1 ∷ 0 ∷ [])
    ∷ (0 ∷ 5 ∷ 2 ∷ 5 ∷ 2 ∷ 1 ∷ [])
    ∷ (0 ∷ 5 ∷ 2 ∷ 5 ∷ 3 ∷ 1 ∷ [])
    ∷ (0 ∷ 5 ∷ 2 ∷ 5 ∷ 4 ∷ 1 ∷ 9 ∷ 0 ∷ 0 ∷ [])
    ∷ (0 ∷ 5 ∷ 2 ∷ 5 ∷ 4 ∷ 1 ∷ 9 ∷ 1 ∷ 0 ∷ 10 ∷ 0 ∷ 0 ∷ [])
    ∷ (0 ∷ 5 ∷ 2 ∷ 5 ∷ 4 ∷ 1 ∷ 9 ∷ 1 ∷ 0 ∷ 10 ∷ 1 ∷ 2 ∷ [])
    ∷ (0 ∷ 5 ∷ 2 ∷ 5 ∷ 4 ∷ 1 ∷ 9 ∷ 1 ∷ 0 ∷ 10 ∷ 1 ∷ 2 ∷ [])
    ∷ []
unfolding computing bytes_from three_apart
record_by_record = refl

-- Four intervals with 0 to 4 records of their own: the last record goes on, with the start that it had.
unfoldable pub interval : (start rows cost : ℕ) → Interval
interval s r c = record { start = s; rows = r; cost = c }

unfoldable pub four : List Interval
four = interval 0 5 3 ∷ interval 5 4 20 ∷ interval 9 6 100 ∷ interval 7 8 1000 ∷ []

pub few_records : map (λ k. record_words (records_of k four)) (0 ∷ 1 ∷ 2 ∷ 3 ∷ 4 ∷ []) ≡
    (0 ∷ 23 ∷ 1123 ∷ [])
    ∷ (0 ∷ 5 ∷ 3 ∷ 5 ∷ 18 ∷ 1120 ∷ [])
    ∷ (0 ∷ 5 ∷ 3 ∷ 5 ∷ 4 ∷ 20 ∷ 9 ∷ 14 ∷ 1100 ∷ [])
    ∷ (0 ∷ 5 ∷ 3 ∷ 5 ∷ 4 ∷ 20 ∷ 9 ∷ 6 ∷ 100 ∷ 7 ∷ 8 ∷ 1000 ∷ [])
    ∷ (0 ∷ 5 ∷ 3 ∷ 5 ∷ 4 ∷ 20 ∷ 9 ∷ 6 ∷ 100 ∷ 7 ∷ 8 ∷ 1000 ∷ [])
    ∷ []
unfolding computing interval four
few_records = refl

pub go_together : record_words (together (interval 3 2 1) [] ∷ together (interval 3 2 1) (interval 8 4 30 ∷ []) ∷ together (interval 3 2 1) four ∷ []) ≡
    3 ∷ 2 ∷ 1 ∷ 3 ∷ 6 ∷ 31 ∷ 3 ∷ 25 ∷ 1124 ∷ []
unfolding computing interval four
go_together = refl

-- The sum of their costs does not depend on how many records there are.
pub sums_of_costs : conflicts_of [] ∷ conflicts_of (interval 3 2 9 ∷ []) ∷ map (λ k. conflicts_of (records_of k four)) (0 ∷ 1 ∷ 2 ∷ 3 ∷ []) ≡
    0 ∷ 9 ∷ 1123 ∷ 1123 ∷ 1123 ∷ 1123 ∷ []
unfolding computing interval four
sums_of_costs = refl

-- 1,023 to 1,027 intervals of one row that cost 2, which start at 0, 1, 2 and so on: the number of records, and the last two of them.
unfoldable pub many_records : ℕ → List ℕ
many_records n = record_words (records_of 1024 (map (λ s. interval s 1 2) (bytes_from 0 n)))

unfoldable pub last_two : List ℕ → List ℕ
last_two w = length w ∷ drop (length w - 6) w

pub many_records_lem : map (λ n. last_two (many_records n)) (1023 ∷ 1024 ∷ 1025 ∷ 1026 ∷ 1027 ∷ []) ≡
    (3069 ∷ 1021 ∷ 1 ∷ 2 ∷ 1022 ∷ 1 ∷ 2 ∷ [])
    ∷ (3072 ∷ 1022 ∷ 1 ∷ 2 ∷ 1023 ∷ 1 ∷ 2 ∷ [])
    ∷ (3075 ∷ 1023 ∷ 1 ∷ 2 ∷ 1024 ∷ 1 ∷ 2 ∷ [])
    ∷ (3075 ∷ 1023 ∷ 1 ∷ 2 ∷ 1024 ∷ 2 ∷ 4 ∷ [])
    ∷ (3075 ∷ 1023 ∷ 1 ∷ 2 ∷ 1024 ∷ 3 ∷ 6 ∷ [])
    ∷ []
unfolding computing bytes_from interval many_records last_two
many_records_lem = refl

-- The bytes of a table of two threads that are 16 cells apart, and what a bare launch of it answers and leaves in the records.
unfoldable pub two_apart : List ℕ
two_apart = 2 ∷ 0 ∷ 0 ∷ 0 ∷ 1 ∷ 1 ∷ 16 ∷ 0 ∷ 6 ∷ 2 ∷ 0 ∷ 1 ∷ []

unfoldable pub launched : (table : List ℕ) → (limit : ℕ) → (log records : List ℕ) → Result Outcome Refusal × List ℕ
launched table limit log records =
    let Z = sizes 2 17 1 0 in
    (bare_answer table Z limit (replicate 17 7) [] log records, bare_records table Z limit (replicate 17 7) [] log records)

-- LOAD, BARRIER, ATOMIC ADD; and then the end, a STORE by both into cell 7, a LOAD of cell 49, a BARRIER for thread 1 alone, or the limit. The first
-- interval costs 1, the second too, and the lent words behind their records are kept.
unfoldable pub two_intervals : List ℕ → List ℕ
two_intervals rest = two_apart ++ (16 ∷ 3 ∷ 2 ∷ 0 ∷ 37 ∷ 0 ∷ 0 ∷ 0 ∷ 18 ∷ 2 ∷ 1 ∷ 0 ∷ rest)

pub each_verdict :
    launched (two_intervals []) 100 (replicate 136 9) (replicate 3075 9)
    ∷ launched (two_intervals (17 ∷ 3 ∷ 0 ∷ 0 ∷ [])) 100 (replicate 136 9) (replicate 3076 9)
    ∷ launched (two_intervals (6 ∷ 3 ∷ 3 ∷ 3 ∷ 16 ∷ 4 ∷ 3 ∷ 0 ∷ [])) 100 (replicate 136 9) (replicate 3077 9)
    ∷ launched (two_intervals (32 ∷ 0 ∷ 0 ∷ 0 ∷ 37 ∷ 0 ∷ 0 ∷ 0 ∷ 34 ∷ 0 ∷ 0 ∷ 0 ∷ [])) 100 (replicate 136 9) (replicate 3078 9)
    ∷ launched (two_intervals (37 ∷ 0 ∷ 0 ∷ 0 ∷ [])) 6 (replicate 136 9) (replicate 3079 9)
    ∷ []
    ≡ (Ok (record { verdict = Passed; row = 6; group = 0; rows = 6; barriers = 1; conflicts = 2 }), 0 ∷ 5 ∷ 1 ∷ 5 ∷ 1 ∷ 1 ∷ replicate 3069 9)
    ∷ (Ok (record { verdict = Race 1 0 WriteWrite 7; row = 6; group = 0; rows = 6; barriers = 1; conflicts = 2 }), 0 ∷ 5 ∷ 1 ∷ 5 ∷ 1 ∷ 1 ∷ replicate 3070 9)
    ∷ (Ok (record { verdict = Outside 0 49; row = 7; group = 0; rows = 7; barriers = 1; conflicts = 2 }), 0 ∷ 5 ∷ 1 ∷ 5 ∷ 2 ∷ 1 ∷ replicate 3071 9)
    ∷ (Ok (record { verdict = Diverged 1 0; row = 7; group = 0; rows = 7; barriers = 1; conflicts = 2 }), 0 ∷ 5 ∷ 1 ∷ 5 ∷ 2 ∷ 1 ∷ replicate 3072 9)
    ∷ (Ok (record { verdict = Spent; row = 6; group = 0; rows = 6; barriers = 1; conflicts = 2 }), 0 ∷ 5 ∷ 1 ∷ 5 ∷ 1 ∷ 1 ∷ replicate 3073 9)
    ∷ []
unfolding computing two_apart two_intervals launched
each_verdict = refl

-- The same launch refused: the records are kept, be there enough of them or not.
pub records_kept :
    launched (two_intervals []) 100 (replicate 135 9) (replicate 3075 9)
    ∷ launched (two_intervals []) 100 (replicate 135 9) (replicate 3074 9)
    ∷ launched (two_intervals []) 100 (replicate 136 9) (replicate 3074 9)
    ∷ []
    ≡ (Err LogLength, replicate 3075 9) ∷ (Err LogLength, replicate 3074 9) ∷ (Err RecordsLength, replicate 3074 9) ∷ []
unfolding computing two_apart two_intervals launched
records_kept = refl

-- A file: the records that it leaves, and what its report is made of.
unfoldable pub its_file : List ℕ
its_file =
    lines "kernel=1/threads=2/cells=17/groups=1/global=0/limit=100/rows=7/row=2,0,0,0/row=1,1,16,0/row=6,2,0,1/row=16,3,2,0/row=37,0,0,0/row=18,2,1,0/row=37,0,0,0"
    ++ lines "cell=7/cell=7/cell=7/cell=7/cell=7/cell=7/cell=7/cell=7/cell=7/cell=7/cell=7/cell=7/cell=7/cell=7/cell=7/cell=7/cell=7/end=kernel"

pub file_intervals : file_records_after its_file (replicate 1024 9) (replicate 1024 5) (replicate 8192 8) (replicate 3080 6) (replicate 24576 7) ≡
    0 ∷ 5 ∷ 1 ∷ 5 ∷ 2 ∷ 1 ∷ 7 ∷ 0 ∷ 0 ∷ replicate 3071 6
unfolding computing its_file
file_intervals = refl

pub file_subject : subject_of (file_launch its_file) ≡ subject.Ran (record { verdict = Passed; row = 7; group = 0; rows = 7; barriers = 2; conflicts = 2 })
unfolding computing its_file
file_subject = refl
