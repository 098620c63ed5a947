-- What the entries answer and what they leave in each lent buffer: limits from both sides, two faults at once, lengths, and what is kept. Assumes nothing.
use Rattle.std.specs.Prelude.{Result, Ok, Err}
use mathlib.Core.Path.{◌≡◌, refl}
use mathlib.Core.List.{List, [], ◌∷◌, ◌++◌, map}
use mathlib.Core.Option.{none, some}
use Prim.Native.Nat.{ℕ, ◌-◌}
use lib.ListN.{replicate}
use Rattle.spec.specs.Answers.{Outcome, Passed, Race, GroupRace, WriteWrite, Subject, Refusal, LineNotDue}
use Rattle.spec.specs.Answers.{CellsLength, LogLength, RecordsLength, OutputLength, ReportLines, ReportTooLong, ThreadsOutOfRange, TooManyCells, TooManyRows}
use Rattle.spec.specs.Answers.{told_by, told_in}
use Rattle.spec.specs.declared.Subject.TheVariants as subject
use Rattle.spec.specs.Shape.{Sizes, sizes}
use Rattle.spec.specs.Entries.{over, bare_numbers, bare_lent, bare_refusal, bare_answer, bare_cells, bare_global, bare_log, bare_records, bare_steps}
use Rattle.spec.specs.Entries.{writer_answer, writer_buffer}
use Rattle.spec.specs.Entries.{file_lent, file_answer, file_cells_after, file_global_after, file_log_after, file_records_after, file_output_after, check_prints, subject_of}
use Rattle.spec.specs.LaunchFile.{file_launch}
use Rattle.spec.specs.Text.{text}
use Rattle.spec.proofs.Lines.{lines}
use Rattle.spec.proofs.RefusalTable.{or_zero, told_as}
use Rattle.spec.proofs.Computing.{computing}

-- A bare launch's numbers, each on both sides of its limits. The places are 0.
pub bare_bytes : map (λ n. told_as (bare_numbers n (sizes 1 1 1 0) 0)) (0 ∷ 1 ∷ 2 ∷ 3 ∷ 4 ∷ 1020 ∷ 1024 ∷ 1028 ∷ []) ≡
    (0, 0) ∷ (1, 0) ∷ (1, 0) ∷ (1, 0) ∷ (0, 0) ∷ (0, 0) ∷ (0, 0) ∷ (2, 0) ∷ []
unfolding computing or_zero told_as
bare_bytes = refl

pub bare_limits :
    map (λ n. told_as (bare_numbers 0 (sizes n 1 1 0) 0)) (0 ∷ 1 ∷ 31 ∷ 32 ∷ 33 ∷ [])
    ∷ map (λ n. told_as (bare_numbers 0 (sizes 1 n 1 0) 0)) (0 ∷ 1 ∷ 1023 ∷ 1024 ∷ 1025 ∷ [])
    ∷ map (λ n. told_as (bare_numbers 0 (sizes 1 1 n 0) 0)) (0 ∷ 1 ∷ 7 ∷ 8 ∷ 9 ∷ 4294967295 ∷ [])
    ∷ map (λ n. told_as (bare_numbers 0 (sizes 1 1 1 0) n)) (0 ∷ 999999 ∷ 1000000 ∷ 1000001 ∷ [])
    ∷ []
    ≡ ((8, 0) ∷ (0, 0) ∷ (0, 0) ∷ (0, 0) ∷ (8, 0) ∷ [])
    ∷ ((9, 0) ∷ (0, 0) ∷ (0, 0) ∷ (0, 0) ∷ (9, 0) ∷ [])
    ∷ ((32, 0) ∷ (0, 0) ∷ (0, 0) ∷ (0, 0) ∷ (32, 0) ∷ (32, 0) ∷ [])
    ∷ ((0, 0) ∷ (0, 0) ∷ (0, 0) ∷ (10, 0) ∷ [])
    ∷ []
unfolding computing or_zero told_as
bare_limits = refl

-- The cells of all groups and the global ones together: none, 1,024 and more; also where the sum is 2 ^ 32 or a little more.
pub bare_cells_in_all :
    map (λ n. told_as (bare_numbers 0 (sizes 1 1 1 n) 0)) (0 ∷ 1 ∷ 1023 ∷ 1024 ∷ 1025 ∷ 4294967295 ∷ [])
    ∷ map (λ n. told_as (bare_numbers 0 (sizes 1 1024 1 n) 0)) (0 ∷ 1 ∷ 4294966272 ∷ 4294967295 ∷ [])
    ∷ map (λ n. told_as (bare_numbers 0 (sizes 1 127 8 n) 0)) (7 ∷ 8 ∷ 9 ∷ [])
    ∷ map (λ n. told_as (bare_numbers 0 (sizes 1 n 8 0) 0)) (127 ∷ 128 ∷ 129 ∷ 1024 ∷ [])
    ∷ map (λ n. told_as (bare_numbers 0 (sizes 1 512 n 0) 0)) (1 ∷ 2 ∷ 3 ∷ [])
    ∷ map (λ n. told_as (bare_numbers 0 (sizes 1 1024 8 n) 0)) (0 ∷ 4294959104 ∷ 4294959105 ∷ [])
    ∷ []
    ≡ ((0, 0) ∷ (0, 0) ∷ (0, 0) ∷ (33, 0) ∷ (33, 0) ∷ (33, 0) ∷ [])
    ∷ ((0, 0) ∷ (33, 0) ∷ (33, 0) ∷ (33, 0) ∷ [])
    ∷ ((0, 0) ∷ (0, 0) ∷ (33, 0) ∷ [])
    ∷ ((0, 0) ∷ (0, 0) ∷ (33, 0) ∷ (33, 0) ∷ [])
    ∷ ((0, 0) ∷ (0, 0) ∷ (33, 0) ∷ [])
    ∷ ((33, 0) ∷ (33, 0) ∷ (33, 0) ∷ [])
    ∷ []
unfolding computing or_zero told_as
bare_cells_in_all = refl

-- Two faults at once: 1 before 2, 2 before 8, 8 before 9, 9 before 32 and before 10, 32 before 33, 33 before 10; and 1 before all, 8 before all but 1 and 2.
pub bare_order : map told_as
    (bare_numbers 1029 (sizes 1 1 1 0) 0
    ∷ bare_numbers 1028 (sizes 0 1 1 0) 0
    ∷ bare_numbers 0 (sizes 33 0 1 0) 0
    ∷ bare_numbers 0 (sizes 1 0 9 0) 0
    ∷ bare_numbers 0 (sizes 1 1025 1 0) 1000001
    ∷ bare_numbers 0 (sizes 1 1024 9 0) 0
    ∷ bare_numbers 0 (sizes 1 1 0 1025) 0
    ∷ bare_numbers 0 (sizes 1 1 9 0) 1000001
    ∷ bare_numbers 0 (sizes 1 1024 8 0) 1000001
    ∷ bare_numbers 0 (sizes 1 1 1 1024) 1000001
    ∷ bare_numbers 1030 (sizes 33 0 9 1025) 1000001
    ∷ bare_numbers 0 (sizes 0 0 0 1025) 1000001
    ∷ [])
    ≡ (1, 0)
    ∷ (2, 0)
    ∷ (8, 0)
    ∷ (9, 0)
    ∷ (9, 0)
    ∷ (32, 0)
    ∷ (32, 0)
    ∷ (32, 0)
    ∷ (33, 0)
    ∷ (33, 0)
    ∷ (1, 0)
    ∷ (8, 0)
    ∷ []
unfolding computing or_zero told_as
bare_order = refl

-- The lent lengths of a launch of two groups with three cells each and four global ones: six words of own cells, four of global ones, eighty of log, and room
-- for 1,025 records or more.
unfoldable pub lent : (cell_words global_words log_words record_words : ℕ) → ℕ × ℕ
lent cell_words global_words log_words record_words = told_as (bare_lent (sizes 5 3 2 4) cell_words global_words log_words record_words)

pub bare_lengths :
    lent 6 4 80 3075
    ∷ map (λ n. lent n 4 80 3075) (0 ∷ 3 ∷ 5 ∷ 7 ∷ 10 ∷ [])
    ++ (map (λ n. lent 6 n 80 3075) (0 ∷ 3 ∷ 5 ∷ 6 ∷ 8 ∷ 10 ∷ [])
    ++ (map (λ n. lent 6 4 n 3075) (0 ∷ 32 ∷ 48 ∷ 50 ∷ 56 ∷ 79 ∷ 81 ∷ [])
    ++ map (λ n. lent 6 4 80 n) (0 ∷ 3 ∷ 1025 ∷ 3072 ∷ 3074 ∷ 3076 ∷ 6150 ∷ [])))
    ≡ (0, 0)
    ∷ replicate 5 (20, 0)
    ++ (replicate 6 (20, 0) ++ (replicate 7 (21, 0) ++ (replicate 5 (30, 0) ++ replicate 2 (0, 0))))
unfolding computing or_zero told_as lent
bare_lengths = refl

-- One group without global cells: eight words of log a cell, and no global cell may be lent.
pub bare_lengths_of_one : map told_as
    (bare_lent (sizes 2 3 1 0) 3 0 24 3075
    ∷ bare_lent (sizes 2 3 1 0) 3 1 24 3075
    ∷ bare_lent (sizes 2 3 1 0) 2 1 24 3075
    ∷ bare_lent (sizes 2 3 1 0) 3 0 15 3075
    ∷ bare_lent (sizes 2 3 1 0) 3 0 9 3075
    ∷ [])
    ≡ (0, 0) ∷ (20, 0) ∷ (20, 0) ∷ (21, 0) ∷ (21, 0) ∷ []
unfolding computing or_zero told_as
bare_lengths_of_one = refl

-- Two of them and all wrong: 20 for either kind before 21 before 30. Then the most cells, own ones alone and own and global ones.
pub bare_lent_order :
    (lent 5 4 79 3075 ∷ lent 6 3 79 3075 ∷ lent 5 4 80 3074 ∷ lent 6 3 80 3074 ∷ lent 6 4 79 3074 ∷ lent 6 4 81 0 ∷ lent 7 5 79 3074 ∷ [])
    ++ map told_as (bare_lent (sizes 32 1024 1 0) 1024 0 8192 3074 ∷ bare_lent (sizes 32 127 8 8) 1016 8 8192 3075 ∷ bare_lent (sizes 32 127 8 8) 1024 0 8192 3075 ∷ [])
    ≡ (20, 0) ∷ (20, 0) ∷ (20, 0) ∷ (20, 0) ∷ (21, 0) ∷ (21, 0) ∷ (20, 0) ∷ (30, 0) ∷ (0, 0) ∷ (20, 0) ∷ []
unfolding computing or_zero told_as lent
bare_lent_order = refl

-- Numbers before rows, rows before lent lengths: 10 and 3; 3 and 20; 7 and 21; 20 and 21, of either kind of cells; 10 and 30; 3 and 30; 33 and 3.
pub bare_stages : map told_as
    (bare_refusal (0 ∷ 0 ∷ 0 ∷ 0 ∷ []) (sizes 1 1 1 1) 1000001 (7 ∷ []) (7 ∷ []) (replicate 16 7) (replicate 3075 7)
    ∷ bare_refusal (0 ∷ 0 ∷ 0 ∷ 0 ∷ []) (sizes 1 1 1 1) 0 [] [] [] []
    ∷ bare_refusal (37 ∷ 0 ∷ 0 ∷ 0 ∷ 32 ∷ 0 ∷ 0 ∷ 0 ∷ []) (sizes 1 1 1 1) 0 (7 ∷ []) (7 ∷ []) [] (replicate 3075 7)
    ∷ bare_refusal (37 ∷ 0 ∷ 0 ∷ 0 ∷ []) (sizes 1 1 1 1) 0 [] (7 ∷ []) [] (replicate 3075 7)
    ∷ bare_refusal (37 ∷ 0 ∷ 0 ∷ 0 ∷ []) (sizes 1 1 1 1) 0 (7 ∷ []) [] [] (replicate 3075 7)
    ∷ bare_refusal (37 ∷ 0 ∷ 0 ∷ 0 ∷ []) (sizes 1 1 1 1) 0 (7 ∷ []) (7 ∷ []) [] (replicate 3075 7)
    ∷ bare_refusal (37 ∷ 0 ∷ 0 ∷ 0 ∷ []) (sizes 1 1 1 1) 0 (7 ∷ []) (7 ∷ []) (replicate 15 7) (replicate 3075 7)
    ∷ bare_refusal (37 ∷ 0 ∷ 0 ∷ 0 ∷ []) (sizes 1 1 1 1) 0 (7 ∷ []) (7 ∷ []) (replicate 16 7) (replicate 3075 7)
    ∷ bare_refusal (37 ∷ 0 ∷ 0 ∷ 0 ∷ []) (sizes 1 1 1 1) 1000001 (7 ∷ []) (7 ∷ []) (replicate 16 7) []
    ∷ bare_refusal (0 ∷ 0 ∷ 0 ∷ 0 ∷ []) (sizes 1 1 1 1) 0 (7 ∷ []) (7 ∷ []) (replicate 16 7) []
    ∷ bare_refusal (37 ∷ 0 ∷ 0 ∷ 0 ∷ []) (sizes 1 1 1 1) 0 (7 ∷ []) (7 ∷ []) (replicate 16 7) (replicate 3074 7)
    ∷ bare_refusal (0 ∷ 0 ∷ 0 ∷ 0 ∷ []) (sizes 1 1 1 1024) 0 (7 ∷ []) (7 ∷ []) (replicate 16 7) (replicate 3075 7)
    ∷ [])
    ≡ (10, 0) ∷ (3, 0) ∷ (7, 1) ∷ (20, 0) ∷ (20, 0) ∷ (21, 0) ∷ (21, 0) ∷ (0, 0) ∷ (10, 0) ∷ (3, 0) ∷ (30, 0) ∷ (33, 0) ∷ []
unfolding computing or_zero told_as
bare_stages = refl

-- A bare launch's answer, own cells, global cells, log, step counts and records.
unfoldable pub bare_all : (table : List ℕ) → Sizes → (limit : ℕ) → (lent_cells lent_global lent_log lent_steps lent_records : List ℕ)
    → Result Outcome Refusal × (List ℕ × (List ℕ × (List ℕ × (List ℕ × List ℕ))))
bare_all table Z limit lent_cells lent_global lent_log lent_steps lent_records = (
  bare_answer table Z limit lent_cells lent_global lent_log lent_records,
  (
    bare_cells table Z limit lent_cells lent_global lent_log lent_records,
    (
      bare_global table Z limit lent_cells lent_global lent_log lent_records,
      (
        bare_log table Z limit lent_cells lent_global lent_log lent_records,
        (
          bare_steps table Z limit lent_cells lent_global lent_log lent_records lent_steps,
          bare_records table Z limit lent_cells lent_global lent_log lent_records,
        ),
      ),
    ),
  ),
)

-- Three threads, TID, STORE of each thread's number: what was in the log and in the step counts is not read, and what was in the cells is the
-- launch's. Step counts behind the last thread are 0, and words behind the one record are kept, those that need not have been lent too.
pub bare_passed :
    bare_all (2 ∷ 0 ∷ 0 ∷ 0 ∷ 17 ∷ 0 ∷ 0 ∷ 0 ∷ []) (sizes 3 4 1 0) 2 (5 ∷ 6 ∷ 7 ∷ 8 ∷ []) [] (replicate 32 9) (replicate 256 9) (replicate 3080 9)
    ≡ (
      Ok (record { verdict = Passed; row = 2; group = 0; rows = 2; barriers = 0; conflicts = 0 }),
      (
        0 ∷ 1 ∷ 2 ∷ 8 ∷ [],
        ([], (replicate 4 0 ++ (1 ∷ 2 ∷ 4 ∷ replicate 6 0 ++ (1 ∷ 2 ∷ replicate 17 0)), (2 ∷ 2 ∷ 2 ∷ replicate 253 0, 0 ∷ 2 ∷ 0 ∷ replicate 3077 9))),
      ),
    )
unfolding computing bare_all
bare_passed = refl

-- Thread 1 stops at its STORE; thread 0's has been made, and is its second step. The interval behind the BARRIER has no row that was run.
pub bare_race :
    bare_all (2 ∷ 1 ∷ 0 ∷ 0 ∷ 37 ∷ 0 ∷ 0 ∷ 0 ∷ 17 ∷ 0 ∷ 1 ∷ 0 ∷ []) (sizes 3 2 1 0) 10 (5 ∷ 6 ∷ []) [] (replicate 16 9) (replicate 256 7) (replicate 3075 9)
    ≡ (
      Ok (record { verdict = Race 1 0 WriteWrite 0; row = 2; group = 0; rows = 2; barriers = 1; conflicts = 0 }),
      (0 ∷ 6 ∷ [], ([], (0 ∷ 0 ∷ 1 ∷ replicate 13 0, (2 ∷ 1 ∷ 1 ∷ replicate 253 0, 0 ∷ 2 ∷ 0 ∷ 2 ∷ 0 ∷ 0 ∷ replicate 3069 9)))),
    )
unfolding computing bare_all
bare_race = refl

-- All three add their numbers plus 1 to cell 1: the adders stand behind the readers and writers, before values and marks.
pub bare_added :
    bare_all (2 ∷ 0 ∷ 0 ∷ 0 ∷ 1 ∷ 1 ∷ 1 ∷ 0 ∷ 4 ∷ 2 ∷ 0 ∷ 1 ∷ 18 ∷ 1 ∷ 2 ∷ 0 ∷ []) (sizes 3 2 1 0) 10 (5 ∷ 6 ∷ []) [] (replicate 16 9)
    (replicate 256 7) (replicate 3075 6)
    ≡ (
      Ok (record { verdict = Passed; row = 4; group = 0; rows = 4; barriers = 0; conflicts = 0 }),
      (5 ∷ 12 ∷ [], ([], (replicate 5 0 ++ (7 ∷ replicate 10 0), (4 ∷ 4 ∷ 4 ∷ replicate 253 0, 0 ∷ 4 ∷ 0 ∷ replicate 3072 6)))),
    )
unfolding computing bare_all
bare_added = refl

-- Two groups of two threads with three own cells each, and two global ones. R0 = TID and R1 = launch number; own cell R0 = R1, and global cell 0 grows by R1.
-- Of each kind of the log the own cells of group 0, those of group 1, the global ones. Four step counts by launch number; a record for each group.
unfoldable pub depositing : List ℕ
depositing = 2 ∷ 0 ∷ 0 ∷ 0 ∷ 19 ∷ 1 ∷ 0 ∷ 0 ∷ 17 ∷ 0 ∷ 1 ∷ 0 ∷ 22 ∷ 2 ∷ 1 ∷ 0 ∷ []

pub bare_groups :
    bare_all depositing (sizes 2 3 2 2) 10 (5 ∷ 6 ∷ 7 ∷ 8 ∷ 9 ∷ 10 ∷ []) (100 ∷ 200 ∷ []) (replicate 64 9) (replicate 256 7) (replicate 3075 6)
    ≡ (
      Ok (record { verdict = Passed; row = 4; group = 1; rows = 8; barriers = 0; conflicts = 0 }),
      (
        0 ∷ 1 ∷ 7 ∷ 2 ∷ 3 ∷ 10 ∷ [],
        (
          106 ∷ 200 ∷ [],
          (
            replicate 8 0
                ++ (1 ∷ 2 ∷ 0 ∷ 1 ∷ 2 ∷ 0 ∷ 0 ∷ 0 ∷ [])
                ++ (0 ∷ 0 ∷ 0 ∷ 0 ∷ 0 ∷ 0 ∷ 3 ∷ 0 ∷ [])
                ++ (0 ∷ 1 ∷ 0 ∷ 2 ∷ 3 ∷ 0 ∷ 0 ∷ 0 ∷ [])
                ++ replicate 24 0
                ++ (0 ∷ 0 ∷ 0 ∷ 0 ∷ 0 ∷ 0 ∷ 3 ∷ 0 ∷ []),
            (4 ∷ 4 ∷ 4 ∷ 4 ∷ replicate 252 0, 0 ∷ 4 ∷ 0 ∷ 0 ∷ 4 ∷ 0 ∷ replicate 3069 6),
          ),
        ),
      ),
    )
unfolding computing bare_all depositing
bare_groups = refl

-- SET R1 = 5, and global cell 0 = R1, by two groups of one thread: group 1's meets group 0's. The writers of the group masks have it, the rest of the log is clear.
pub bare_group_race :
    bare_all (1 ∷ 1 ∷ 5 ∷ 0 ∷ 21 ∷ 0 ∷ 1 ∷ 0 ∷ []) (sizes 1 1 2 1) 10 (7 ∷ 8 ∷ []) (9 ∷ []) (replicate 24 9) (replicate 256 7) (replicate 3075 6)
    ≡ (
      Ok (record { verdict = GroupRace 0 0 WriteWrite 0; row = 1; group = 1; rows = 3; barriers = 0; conflicts = 0 }),
      (7 ∷ 8 ∷ [], (5 ∷ [], (replicate 20 0 ++ (1 ∷ 0 ∷ 0 ∷ 0 ∷ []), (2 ∷ 1 ∷ replicate 254 0, 0 ∷ 2 ∷ 0 ∷ 0 ∷ 1 ∷ 0 ∷ replicate 3069 6)))),
    )
unfolding computing bare_all
bare_group_race = refl

-- Eight groups of 32 threads, one row: every count is used.
pub bare_all_threads :
    bare_steps (19 ∷ 0 ∷ 0 ∷ 0 ∷ []) (sizes 32 1 8 0) 100 (replicate 8 7) [] (replicate 64 9) (replicate 3075 6) (replicate 256 7) ≡ replicate 256 1
unfolding computing
bare_all_threads = refl

-- A refusal leaves every buffer: 8; 33; 20 for too many global cells; 21 where the log has five words a cell; 30.
unfoldable pub kept_all : Refusal → (cells global log records : ℕ) → Result Outcome Refusal × (List ℕ × (List ℕ × (List ℕ × (List ℕ × List ℕ))))
kept_all why cells global log records =
    (Err why, (replicate cells 5, (replicate global 6, (replicate log 9, (replicate 256 8, replicate records 7)))))

unfoldable pub lending : Sizes → (cells global log records : ℕ) → Result Outcome Refusal × (List ℕ × (List ℕ × (List ℕ × (List ℕ × List ℕ))))
lending Z cells global log records =
    bare_all depositing Z 10 (replicate cells 5) (replicate global 6) (replicate log 9) (replicate 256 8) (replicate records 7)

pub bare_refused :
    lending (sizes 0 3 2 2) 6 2 64 3075
    ∷ lending (sizes 2 3 2 1019) 6 2 64 3075
    ∷ lending (sizes 2 3 2 2) 6 3 64 3075
    ∷ lending (sizes 2 3 2 2) 6 2 40 3075
    ∷ lending (sizes 2 3 2 2) 6 2 64 3074
    ∷ []
    ≡ kept_all (ThreadsOutOfRange 0) 6 2 64 3075
    ∷ kept_all (TooManyCells 0) 6 2 64 3075
    ∷ kept_all CellsLength 6 3 64 3075
    ∷ kept_all LogLength 6 2 40 3075
    ∷ kept_all RecordsLength 6 2 64 3074
    ∷ []
unfolding computing bare_all depositing kept_all lending
bare_refused = refl

-- The most of everything: 256 rows, 32 threads, 8 groups, 1,024 cells, limit 1,000,000; and a row or a cell more.
unfoldable pub tids : ℕ → List ℕ
tids n = bytes_of_rows (replicate n 2)
  where
    bytes_of_rows : List ℕ → List ℕ
    bytes_of_rows [] = []
    bytes_of_rows (op ∷ ops) = op ∷ 0 ∷ 0 ∷ 0 ∷ bytes_of_rows ops

pub bare_most : map told_as
    (bare_refusal (tids 256) (sizes 32 1024 1 0) 1000000 (replicate 1024 7) [] (replicate 8192 7) (replicate 3075 7)
    ∷ bare_refusal (tids 256) (sizes 32 127 8 8) 1000000 (replicate 1016 7) (replicate 8 7) (replicate 8192 7) (replicate 3075 7)
    ∷ bare_refusal (tids 257) (sizes 32 1024 1 0) 1000000 (replicate 1024 7) [] (replicate 8192 7) (replicate 3075 7)
    ∷ bare_refusal [] (sizes 32 1025 1 0) 1000000 (replicate 1025 7) [] (replicate 8200 7) (replicate 3075 7)
    ∷ bare_refusal [] (sizes 32 127 8 9) 1000000 (replicate 1016 7) (replicate 9 7) (replicate 8200 7) (replicate 3075 7)
    ∷ [])
    ≡ (0, 0) ∷ (0, 0) ∷ (2, 0) ∷ (9, 0) ∷ (33, 0) ∷ []
unfolding computing or_zero told_as tids
bare_most = refl

-- The report writer.
unfoldable pub an_outcome : Subject
an_outcome = subject.Ran (record { verdict = Passed; row = 3; group = 1; rows = 3; barriers = 0; conflicts = 6 })

unfoldable pub its_report : List ℕ
its_report =
    lines "verdict=passed/row=-/group=-/othergroup=-/thread=-/other=-/kind=-/at=-/rows=3/steps=4/steps=2/barriers=0/conflicts=6/cell=5/cell=17/gcell=8/end=report"

-- Its answer and the buffer after it. That report needs 151 bytes: 150 are too short and left as they were, 151 are filled, of 153 the last two are kept.
unfoldable pub wrote : Subject → (steps cells global buffer : List ℕ) → Result ℕ Refusal × List ℕ
wrote what steps cells global buffer = (writer_answer what steps cells global buffer, writer_buffer what steps cells global buffer)

pub writer_lengths : map (λ n. wrote an_outcome (4 ∷ 2 ∷ []) (5 ∷ 17 ∷ []) (8 ∷ []) (replicate n 7)) (0 ∷ 150 ∷ 151 ∷ 153 ∷ []) ≡
    (Err (ReportTooLong 151), [])
    ∷ (Err (ReportTooLong 151), replicate 150 7)
    ∷ (Ok 151, its_report)
    ∷ (Ok 151, its_report ++ (7 ∷ 7 ∷ []))
    ∷ []
unfolding computing an_outcome its_report wrote
writer_lengths = refl

-- 23 goes before 22, and for a run only: the own cells and the global ones are none together, or over 1,024. With one step count the report has 120 bytes, 7
-- for each own cell of one digit and 8 for each such global one.
unfoldable pub writing : (steps cells global : ℕ) → Result ℕ Refusal
writing steps cells global = writer_answer an_outcome (replicate steps 5) (replicate cells 5) (replicate global 5) (replicate 5 7)

pub writer_cells :
    map (λ n. writing 1 n 0) (0 ∷ 1 ∷ 1024 ∷ 1025 ∷ [])
    ∷ map (λ n. writing 1 0 n) (1 ∷ 1024 ∷ 1025 ∷ [])
    ∷ map (λ n. writing 1 1000 n) (24 ∷ 25 ∷ [])
    ∷ (writing 1 1024 1 ∷ writing 1 1 1024 ∷ writing 1 1024 1024 ∷ [])
    ∷ []
    ≡ (Err ReportLines ∷ Err (ReportTooLong 127) ∷ Err (ReportTooLong 7288) ∷ Err ReportLines ∷ [])
    ∷ (Err (ReportTooLong 128) ∷ Err (ReportTooLong 8312) ∷ Err ReportLines ∷ [])
    ∷ (Err (ReportTooLong 7312) ∷ Err ReportLines ∷ [])
    ∷ (Err ReportLines ∷ Err ReportLines ∷ Err ReportLines ∷ [])
    ∷ []
unfolding computing an_outcome writing
writer_cells = refl

-- Likewise 0 and 257 step counts; with 256 of one digit and one own cell the report has 119 + 256 * 8 bytes.
pub writer_steps : map (λ n. writing n 1 0) (0 ∷ 1 ∷ 32 ∷ 33 ∷ 256 ∷ 257 ∷ []) ≡
    Err ReportLines
    ∷ Err (ReportTooLong 127)
    ∷ Err (ReportTooLong 375)
    ∷ Err (ReportTooLong 383)
    ∷ Err (ReportTooLong 2167)
    ∷ Err ReportLines
    ∷ []
unfolding computing an_outcome writing
writer_steps = refl

-- Both at once.
pub writer_both : map (λ n. writer_answer an_outcome (replicate n 5) (replicate (1025 - n) 5) [] (replicate 20000 7)) (0 ∷ 1 ∷ 32 ∷ 256 ∷ 257 ∷ []) ≡
    Err ReportLines ∷ Ok 7288 ∷ Ok 7319 ∷ Ok 7543 ∷ Err ReportLines ∷ []
unfolding computing an_outcome
writer_both = refl

-- Without any cell nothing is written; without own cells the global one is.
pub writer_no_cells :
    wrote an_outcome (3 ∷ []) [] [] (replicate 3 7) ∷ wrote an_outcome (3 ∷ []) [] [] (replicate 200 7) ∷ wrote an_outcome (3 ∷ []) [] (4 ∷ []) (replicate 128 7) ∷ []
    ≡ (Err ReportLines, replicate 3 7)
    ∷ (Err ReportLines, replicate 200 7)
    ∷ (
      Ok 128,
      lines "verdict=passed/row=-/group=-/othergroup=-/thread=-/other=-/kind=-/at=-/rows=3/steps=3/barriers=0/conflicts=6/gcell=4/end=report",
    )
    ∷ []
unfolding computing an_outcome wrote
writer_no_cells = refl

-- A refusal's report: `refused=22`, `place=98`, `end=report` need 31 bytes. Its steps and cells, none or too many, do not matter.
pub writer_refusal_lem :
    wrote (subject.Refused 22 98) [] [] [] (replicate 30 7)
    ∷ wrote (subject.Refused 22 98) [] [] [] (replicate 32 7)
    ∷ wrote (subject.Refused 22 98) (replicate 257 1) (replicate 1025 1) (replicate 1025 1) (replicate 31 7)
    ∷ []
    ≡ (Err (ReportTooLong 31), replicate 30 7)
    ∷ (Ok 31, lines "refused=22/place=98/end=report" ++ (7 ∷ []))
    ∷ (Ok 31, lines "refused=22/place=98/end=report")
    ∷ []
unfolding computing wrote
writer_refusal_lem = refl

-- The whole-file entry. Lent lengths on both sides; more output than 24,576 bytes and more words for records than 3,075 are welcome.
pub file_lengths :
    map (λ n. told_as (file_lent 1024 1024 8192 3075 n)) (24576 ∷ 24577 ∷ 24575 ∷ 17408 ∷ 0 ∷ [])
    ∷ map (λ n. told_as (file_lent n 1024 8192 3075 24576)) (1023 ∷ 1025 ∷ 0 ∷ [])
    ∷ map (λ n. told_as (file_lent 1024 n 8192 3075 24576)) (1023 ∷ 1025 ∷ 0 ∷ [])
    ∷ map (λ n. told_as (file_lent 1024 1024 n 3075 24576)) (8191 ∷ 8193 ∷ 5120 ∷ 16384 ∷ 0 ∷ [])
    ∷ map (λ n. told_as (file_lent 1024 1024 8192 n 24576)) (3074 ∷ 3076 ∷ 6150 ∷ 1025 ∷ 0 ∷ [])
    ∷ []
    ≡ ((0, 0) ∷ (0, 0) ∷ (24, 0) ∷ (24, 0) ∷ (24, 0) ∷ [])
    ∷ ((20, 0) ∷ (20, 0) ∷ (20, 0) ∷ [])
    ∷ ((20, 0) ∷ (20, 0) ∷ (20, 0) ∷ [])
    ∷ ((21, 0) ∷ (21, 0) ∷ (21, 0) ∷ (21, 0) ∷ (21, 0) ∷ [])
    ∷ ((30, 0) ∷ (0, 0) ∷ (0, 0) ∷ (30, 0) ∷ (30, 0) ∷ [])
    ∷ []
unfolding computing or_zero told_as
file_lengths = refl

-- Two and more of them wrong: 20 for either kind of cells before 21 before 30 before 24.
pub file_lent_order : map told_as
    (file_lent 1023 1023 8191 3074 24575 ∷ file_lent 1024 1023 8191 3074 24575 ∷ file_lent 1023 1024 8191 3074 24575
    ∷ file_lent 1024 1024 8191 3074 24575 ∷ file_lent 1024 1024 8192 3074 24575
    ∷ file_lent 1023 1024 8191 3075 24576 ∷ file_lent 1024 1023 8191 3075 24576 ∷ file_lent 1024 1025 8192 3074 24576 ∷ file_lent 1024 1025 8192 3075 24575
    ∷ file_lent 1024 1024 8191 3074 24576 ∷ file_lent 1024 1024 8191 3075 24575
    ∷ [])
    ≡ (20, 0) ∷ (20, 0) ∷ (20, 0)
    ∷ (21, 0) ∷ (30, 0)
    ∷ (20, 0) ∷ (20, 0) ∷ (20, 0) ∷ (20, 0)
    ∷ (21, 0) ∷ (21, 0)
    ∷ []
unfolding computing or_zero told_as
file_lent_order = refl

-- Two threads store their numbers plus 1, each into its own of three cells, and load it again.
unfoldable pub a_file : List ℕ
a_file =
    lines "kernel=1/threads=2/cells=3/groups=1/global=0/limit=9/rows=5/row=2,0,0,0/row=1,1,1,0/row=4,2,0,1/row=17,0,2,0/row=16,3,0,0"
    ++ lines "cell=256/cell=0/cell=4294967295/end=kernel"

unfoldable pub printed_for : List ℕ
printed_for =
    lines "verdict=passed/row=-/group=-/othergroup=-/thread=-/other=-/kind=-/at=-/rows=5/steps=5/steps=5/barriers=0/conflicts=0/cell=1/cell=2/cell=4294967295/end=report"

-- The launch of two groups above, with two own cells each and one global one.
unfoldable pub group_file : List ℕ
group_file =
    lines "kernel=1/threads=2/cells=2/groups=2/global=1/limit=9/rows=4/row=2,0,0,0/row=19,1,0,0/row=17,0,1,0/row=22,2,1,0"
    ++ lines "cell=5/cell=6/cell=7/cell=8/gcell=100/end=kernel"

unfoldable pub printed_for_groups : List ℕ
printed_for_groups =
    lines "verdict=passed/row=-/group=-/othergroup=-/thread=-/other=-/kind=-/at=-/rows=8/steps=4/steps=4/steps=4/steps=4/barriers=0/conflicts=0"
    ++ lines "cell=0/cell=1/cell=2/cell=3/gcell=106/end=report"

-- The answer and, in their order, own cells, global cells, log, records and output.
unfoldable pub file_all : (file lent_cells lent_global lent_log lent_records output : List ℕ)
    → Result ℕ Refusal × (List ℕ × (List ℕ × (List ℕ × (List ℕ × List ℕ))))
file_all file lent_cells lent_global lent_log lent_records output = (
  file_answer file lent_cells lent_global lent_log lent_records output,
  (
    file_cells_after file lent_cells lent_global lent_log lent_records output,
    (
      file_global_after file lent_cells lent_global lent_log lent_records output,
      (
        file_log_after file lent_cells lent_global lent_log lent_records output,
        (file_records_after file lent_cells lent_global lent_log lent_records output, file_output_after file lent_cells lent_global lent_log lent_records output),
      ),
    ),
  ),
)

unfoldable pub lent_to : List ℕ → (records output : ℕ) → Result ℕ Refusal × (List ℕ × (List ℕ × (List ℕ × (List ℕ × List ℕ))))
lent_to file records output = file_all file (replicate 1024 9) (replicate 1024 5) (replicate 8192 8) (replicate records 6) (replicate output 7)

-- The report is written, 158 bytes; behind it, behind the three cells, the twenty-four words of the log and the three of one record all is kept, and all of the
-- global cells.
pub file_passed :
    lent_to a_file 3075 24576
    ≡ (
      Ok 158,
      (
        1 ∷ 2 ∷ 4294967295 ∷ replicate 1021 9,
        (
          replicate 1024 5,
          (
            1 ∷ 2 ∷ 0 ∷ 1 ∷ 2 ∷ 0 ∷ 0 ∷ 0 ∷ 0 ∷ 1 ∷ 2 ∷ 0 ∷ 0 ∷ 0 ∷ 0 ∷ replicate 9 0 ++ replicate 8168 8,
            (0 ∷ 5 ∷ 0 ∷ replicate 3072 6, printed_for ++ replicate (24576 - 158) 7),
          ),
        ),
      ),
    )
unfolding computing a_file printed_for file_all lent_to
file_passed = refl

-- Of two groups: 182 bytes, four own cells, one global one, forty words of the log and six of two records. More is lent for the last two than has to be.
pub file_groups :
    lent_to group_file 3080 25000
    ≡ (
      Ok 182,
      (
        0 ∷ 1 ∷ 2 ∷ 3 ∷ replicate 1020 9,
        (
          106 ∷ replicate 1023 5,
          (
            replicate 5 0
                ++ (1 ∷ 2 ∷ 1 ∷ 2 ∷ 0 ∷ [])
                ++ (0 ∷ 0 ∷ 0 ∷ 0 ∷ 3 ∷ [])
                ++ (0 ∷ 1 ∷ 2 ∷ 3 ∷ 0 ∷ [])
                ++ replicate 15 0
                ++ (0 ∷ 0 ∷ 0 ∷ 0 ∷ 3 ∷ [])
                ++ replicate 8152 8,
            (0 ∷ 4 ∷ 0 ∷ 0 ∷ 4 ∷ 0 ∷ replicate 3074 6, printed_for_groups ++ replicate (25000 - 182) 7),
          ),
        ),
      ),
    )
unfolding computing group_file printed_for_groups file_all lent_to
file_groups = refl

pub file_prints : map check_prints (a_file ∷ group_file ∷ text "kernel=1" ∷ []) ≡ printed_for ∷ printed_for_groups ∷ lines "refused=11/place=1/end=report" ∷ []
unfolding computing a_file printed_for group_file printed_for_groups
file_prints = refl

-- Refusals from the state, and one from the input, which goes first: every buffer is left as it was lent.
unfoldable pub file_kept : Refusal → (cells global log records output : ℕ) → Result ℕ Refusal × (List ℕ × (List ℕ × (List ℕ × (List ℕ × List ℕ))))
file_kept why cells global log records output =
    (Err why, (replicate cells 9, (replicate global 5, (replicate log 8, (replicate records 6, replicate output 7)))))

unfoldable pub lending_to : List ℕ → (cells global log records output : ℕ) → Result ℕ Refusal × (List ℕ × (List ℕ × (List ℕ × (List ℕ × List ℕ))))
lending_to file cells global log records output =
    file_all file (replicate cells 9) (replicate global 5) (replicate log 8) (replicate records 6) (replicate output 7)

pub file_refused :
    lending_to group_file 4 1024 6 3075 24576
    ∷ lending_to group_file 1024 1 8192 3075 24576
    ∷ lending_to group_file 1024 1024 40 9 8
    ∷ lending_to group_file 1024 1024 8192 3074 8
    ∷ lending_to group_file 1024 1024 8192 3075 8
    ∷ lending_to (lines "kernel=2") 4 1 6 9 8
    ∷ lending_to (lines "kernel=1/threads=1/cells=1024/groups=2/global=0") 4 1 6 9 8
    ∷ []
    ≡ file_kept CellsLength 4 1024 6 3075 24576
    ∷ file_kept CellsLength 1024 1 8192 3075 24576
    ∷ file_kept LogLength 1024 1024 40 9 8
    ∷ file_kept RecordsLength 1024 1024 8192 3074 8
    ∷ file_kept OutputLength 1024 1024 8192 3075 8
    ∷ file_kept (LineNotDue 1) 4 1 6 9 8
    ∷ file_kept (TooManyCells 5) 4 1 6 9 8
    ∷ []
unfolding computing group_file file_all file_kept lending_to
file_refused = refl

-- What is written goes over the buffer's start.
pub written_over : over (1 ∷ 2 ∷ []) (7 ∷ 8 ∷ 9 ∷ []) ∷ over [] (7 ∷ 8 ∷ []) ∷ over (1 ∷ 2 ∷ []) (7 ∷ 8 ∷ []) ∷ [] ≡
    (1 ∷ 2 ∷ 9 ∷ []) ∷ (7 ∷ 8 ∷ []) ∷ (1 ∷ 2 ∷ []) ∷ []
unfolding computing
written_over = refl

-- What answers tell of a refusal, by number and place; a run and a report tell of none.
pub answers_tell : told_by (Err (TooManyRows 5)) ∷ told_by (Ok (record { verdict = Passed; row = 1; group = 6; rows = 2; barriers = 4; conflicts = 3 }))
    ∷ told_in (Err (ReportTooLong 31)) ∷ told_in (Ok 31) ∷ []
    ≡ some (2, 5) ∷ none ∷ some (22, 31) ∷ none ∷ []
unfolding computing
answers_tell = refl

-- What a file's report is made of.
pub subjects : map (λ f. subject_of (file_launch f)) (a_file ∷ group_file ∷ lines "kernel=1/threads=33" ∷ []) ≡
    subject.Ran (record { verdict = Passed; row = 5; group = 0; rows = 5; barriers = 0; conflicts = 0 })
    ∷ subject.Ran (record { verdict = Passed; row = 4; group = 1; rows = 8; barriers = 0; conflicts = 0 })
    ∷ subject.Refused 8 2
    ∷ []
unfolding computing a_file group_file
subjects = refl
