-- Item 12, computed: which numbers are common cells', what a row does there, what it counts, logs and costs, and the threads' own machine. Assumes nothing.
use mathlib.Core.Path.{◌≡◌, refl}
use mathlib.Core.List.{List, [], ◌∷◌, ◌++◌, map}
use mathlib.Core.Bool.{Bool, true, false, cond}
use Prim.Native.Nat.{ℕ}
use lib.ListN.{length, get_or, replicate}
use Rattle.spec.specs.Answers.{Verdict, Passed, Race, ReadWrite, Outside, Common}
use Rattle.spec.specs.Lists.{passing}
use Rattle.spec.specs.Access.{load, store, atomic_add}
use Rattle.spec.specs.Op.{OWN, GLOBAL, LOAD, op_of}
use Rattle.spec.specs.Table.{row_of, rows_of}
use Rattle.spec.specs.Shape.{sizes, with_common, Shape, shape_of, in_common, is_common, nowhere, loads, changes, past}
use Rattle.spec.specs.Log.{Log, empty_log, logged, log_words}
use Rattle.spec.specs.GroupLog.{empty_group_log, group_words}
use Rattle.spec.specs.LockStep.{LockState, Step, continues, stops, run_row}
use Rattle.spec.specs.Intervals.{used_cells, row_cost}
use Rattle.spec.specs.Threads.{Thread, strays, goes, accesses, reach, effect_of, row}
use Rattle.spec.specs.LaunchThreads.{Groups, of_group, machine, possible, initial_groups}
use Rattle.spec.specs.Runs.{after}
use Rattle.spec.specs.Launch.{Launch, launch_outcome, launch_steps, own_after, launch_log}
use Rattle.spec.proofs.Computing.{computing}

-- The elements that pass a test, in their order.
pub passing_some : map (passing (λ b. b)) ([] ∷ (true ∷ false ∷ true ∷ []) ∷ (false ∷ []) ∷ []) ≡ [] ∷ (true ∷ true ∷ []) ∷ [] ∷ []
unfolding computing
passing_some = refl

pub passing_in_order : passing (λ c. cond (is_common (shape_of (with_common (7 ∷ 8 ∷ []) (sizes 1 1 1 0)) 0) OWN c) true false) (65537 ∷ 5 ∷ 65536 ∷ 65537 ∷ []) ≡
    65537 ∷ 65536 ∷ 65537 ∷ []
unfolding computing
passing_in_order = refl

-- With 0, 1 and 3 common cells, which of these numbers are theirs; and the last of 256.
pub common_numbers : map (λ n. map (in_common (replicate n 7)) (0 ∷ 2 ∷ 65535 ∷ 65536 ∷ 65537 ∷ 65538 ∷ 65539 ∷ 131072 ∷ [])) (0 ∷ 1 ∷ 3 ∷ []) ≡
    replicate 8 false
    ∷ (false ∷ false ∷ false ∷ true ∷ false ∷ false ∷ false ∷ false ∷ [])
    ∷ (false ∷ false ∷ false ∷ true ∷ true ∷ true ∷ false ∷ false ∷ [])
    ∷ []
unfolding computing
common_numbers = refl

pub common_numbers_of_256 : map (in_common (replicate 256 7)) (255 ∷ 65535 ∷ 65536 ∷ 65791 ∷ 65792 ∷ []) ≡ false ∷ false ∷ true ∷ true ∷ false ∷ []
unfolding computing
common_numbers_of_256 = refl

-- Sizes with common cells are otherwise as they were, and so is a group's shape.
pub common_beside_sizes : (with_common (7 ∷ 8 ∷ []) (sizes 1 2 3 4) ≡ record { threads = 1; cells = 2; groups = 3; global = 4; common = 7 ∷ 8 ∷ [] })
    × (shape_of (with_common (7 ∷ 8 ∷ []) (sizes 1 2 3 4)) 5 ≡ record { threads = 1; cells = 2; groups = 3; global = 4; common = 7 ∷ 8 ∷ []; group = 5 })
unfolding computing
common_beside_sizes = (refl, refl)

pub sizes_without_common : (sizes 1 2 3 4).common ≡ []
sizes_without_common = refl

-- Three common cells beside two groups of so many threads with three own cells each, and two global cells.
abbrev pub shape : (threads group : ℕ) → Shape
shape n g = shape_of (with_common (77 ∷ 88 ∷ 99 ∷ []) (sizes n 3 2 2)) g

-- What a load, a store and an add come to at numbers that are not below the cell count: 3, 65,535, the common cells', and those behind them.
pub past_own : map (λ k. map (λ c. past (shape 1 1) OWN c k) (3 ∷ 65535 ∷ 65536 ∷ 65537 ∷ 65538 ∷ 65539 ∷ 4294967295 ∷ [])) (load ∷ store 5 ∷ atomic_add 5 ∷ [])
    ≡ (nowhere ∷ nowhere ∷ loads 77 ∷ loads 88 ∷ loads 99 ∷ nowhere ∷ nowhere ∷ [])
    ∷ (nowhere ∷ nowhere ∷ changes ∷ changes ∷ changes ∷ nowhere ∷ nowhere ∷ [])
    ∷ (nowhere ∷ nowhere ∷ changes ∷ changes ∷ changes ∷ nowhere ∷ nowhere ∷ [])
    ∷ []
unfolding computing
past_own = refl

-- Ops 20 to 22 never reach common cells.
pub past_global : map (λ k. map (λ c. past (shape 1 1) GLOBAL c k) (2 ∷ 65535 ∷ 65536 ∷ 65538 ∷ 65539 ∷ [])) (load ∷ store 5 ∷ atomic_add 5 ∷ []) ≡
    replicate 3 (replicate 5 nowhere)
unfolding computing
past_global = refl

-- A row of threads whose R1 are these numbers, over this log; it has that register for d and a. The cells are 10, 11, 12 of group 0, 13, 14, 15 of group 1, and
-- 16 and 17. Each thread has made 2 steps, and 5 rows are done.
unfoldable pub standing : Log → (numbers : List ℕ) → LockState
standing G cs =
    record {
      row = 9;
      enabled = map (λ c. true) cs;
      saved = [];
      regs = map (λ c. 6 ∷ c ∷ []) cs;
      cells = 10 ∷ 11 ∷ 12 ∷ 13 ∷ 14 ∷ 15 ∷ 16 ∷ 17 ∷ [];
      log = G;
      group_log = empty_group_log 2 8;
      rows = 5;
      steps = map (λ c. 2) cs;
      barriers = 0;
    }

unfoldable pub done_in : (group : ℕ) → Log → (op : ℕ) → (numbers : List ℕ) → Step
done_in g G op cs = run_row [] (shape (length cs) g) (row_of op 1 1 0) (standing G cs) (op_of op)

unfoldable pub done : (op : ℕ) → (numbers : List ℕ) → Step
done op cs = done_in 0 (empty_log (length cs) 8) op cs

-- Its verdict, passed where the run goes on; the state in which it ends.
unfoldable pub verdict_in : Step → Verdict
verdict_in (continues s) = Passed
verdict_in (stops v s) = v

unfoldable pub state_in : Step → LockState
state_in (continues s) = s
state_in (stops v s) = s

-- Each thread's R1, the cells, and then steps and rows.
unfoldable pub held : Step → List ℕ × List ℕ
held x = (map (λ r. get_or r 1 0) (state_in x).regs, (state_in x).cells)

unfoldable pub counted : Step → List ℕ × ℕ
counted x = ((state_in x).steps, (state_in x).rows)

-- The log's words but for the group masks, which are as they were.
unfoldable pub entered : Step → List ℕ × List ℕ
entered x = (log_words (state_in x).log, group_words (state_in x).group_log)

-- Threads load common cells and own ones in one row; one cell by two of them. Cells stay; each thread has a step more; the row is done.
pub loads_in_a_row : held (done 16 (65536 ∷ 65538 ∷ 65536 ∷ 1 ∷ [])) ≡ (77 ∷ 99 ∷ 77 ∷ 11 ∷ [], 10 ∷ 11 ∷ 12 ∷ 13 ∷ 14 ∷ 15 ∷ 16 ∷ 17 ∷ [])
unfolding computing standing done_in done state_in held
loads_in_a_row = refl

pub loads_counted : counted (done 16 (65536 ∷ 65538 ∷ 65536 ∷ 1 ∷ [])) ≡ (3 ∷ 3 ∷ 3 ∷ 3 ∷ [], 6)
unfolding computing standing done_in done state_in counted
loads_counted = refl

-- Only the load of own cell 1 is logged, by thread 3.
pub loads_logged : entered (done 16 (65536 ∷ 65538 ∷ 65536 ∷ 1 ∷ [])) ≡ (0 ∷ 8 ∷ replicate 38 0, replicate 24 0)
unfolding computing standing done_in done state_in entered
loads_logged = refl

-- In group 1 own numbers are group 1's cells; the common ones are the same.
pub loads_in_group_1 : (held (done_in 1 (empty_log 3 8) 16 (65536 ∷ 0 ∷ 65537 ∷ []))).0 ≡ 77 ∷ 13 ∷ 88 ∷ []
unfolding computing standing done_in state_in held
loads_in_group_1 = refl

-- Numbers below the cell count are own cells', though there are as many common cells.
pub own_cells_are_own : map (λ op. held (done op (0 ∷ 2 ∷ []))) (16 ∷ 17 ∷ 18 ∷ []) ≡
    (10 ∷ 12 ∷ [], 10 ∷ 11 ∷ 12 ∷ 13 ∷ 14 ∷ 15 ∷ 16 ∷ 17 ∷ [])
    ∷ (0 ∷ 2 ∷ [], 0 ∷ 11 ∷ 2 ∷ 13 ∷ 14 ∷ 15 ∷ 16 ∷ 17 ∷ [])
    ∷ (0 ∷ 2 ∷ [], 10 ∷ 11 ∷ 14 ∷ 13 ∷ 14 ∷ 15 ∷ 16 ∷ 17 ∷ [])
    ∷ []
unfolding computing standing done_in done state_in held
own_cells_are_own = refl

-- A store or an add to a common cell stops the run, the last one too; past them, and before them, it is outside, as a load is. Ops 20 to 22 are outside at all of these.
pub verdicts_of_thread_0 : map (λ op. map (λ c. verdict_in (done op (c ∷ []))) (3 ∷ 65535 ∷ 65536 ∷ 65538 ∷ 65539 ∷ [])) (16 ∷ 17 ∷ 18 ∷ 20 ∷ 21 ∷ 22 ∷ [])
    ≡ (Outside 0 3 ∷ Outside 0 65535 ∷ Passed ∷ Passed ∷ Outside 0 65539 ∷ [])
    ∷ (Outside 0 3 ∷ Outside 0 65535 ∷ Common 0 65536 ∷ Common 0 65538 ∷ Outside 0 65539 ∷ [])
    ∷ (Outside 0 3 ∷ Outside 0 65535 ∷ Common 0 65536 ∷ Common 0 65538 ∷ Outside 0 65539 ∷ [])
    ∷ replicate 3 (Outside 0 3 ∷ Outside 0 65535 ∷ Outside 0 65536 ∷ Outside 0 65538 ∷ Outside 0 65539 ∷ [])
unfolding computing standing done_in done verdict_in
verdicts_of_thread_0 = refl

-- It stops where outside does: the threads below have stored, stepped and are logged; the stopping one and those behind it have not. The row isn't in rows.
pub stops_at_common : map (λ op. verdict_in (done op (2 ∷ 65537 ∷ 0 ∷ []))) (17 ∷ 18 ∷ []) ≡ Common 1 65537 ∷ Common 1 65537 ∷ []
unfolding computing standing done_in done verdict_in
stops_at_common = refl

pub stopped_cells : held (done 17 (2 ∷ 65537 ∷ 0 ∷ [])) ≡ (2 ∷ 65537 ∷ 0 ∷ [], 10 ∷ 11 ∷ 2 ∷ 13 ∷ 14 ∷ 15 ∷ 16 ∷ 17 ∷ [])
unfolding computing standing done_in done state_in held
stopped_cells = refl

pub stopped_counts : map (λ op. counted (done op (2 ∷ 65537 ∷ 0 ∷ []))) (17 ∷ 18 ∷ []) ≡ (3 ∷ 2 ∷ 2 ∷ [], 5) ∷ (3 ∷ 2 ∷ 2 ∷ [], 5) ∷ []
unfolding computing standing done_in done state_in counted
stopped_counts = refl

-- Thread 0 wrote 2 to cell 2.
pub stopped_log : entered (done 17 (2 ∷ 65537 ∷ 0 ∷ [])) ≡ (replicate 8 0 ++ (0 ∷ 0 ∷ 1 ∷ replicate 5 0 ++ (replicate 8 0 ++ (0 ∷ 0 ∷ 2 ∷ replicate 13 0))), replicate 24 0)
unfolding computing standing done_in done state_in entered
stopped_log = refl

-- The lowest thread that is stopped is told, whatever stops it. Thread 1 has loaded cell 0, thread 0 cell 1: at these a store of the other one races.
unfoldable pub met : List ℕ → Verdict
met cs = verdict_in (done_in 0 (logged (logged (empty_log 2 8) 0 1 load) 1 0 load) 17 cs)

pub lowest_thread_told : map met
    ((65536 ∷ 1 ∷ []) ∷ (0 ∷ 65536 ∷ []) ∷ (65536 ∷ 3 ∷ []) ∷ (3 ∷ 65536 ∷ []) ∷ (65537 ∷ 65536 ∷ []) ∷ (2 ∷ 65537 ∷ []) ∷ (65538 ∷ 2 ∷ []) ∷ [])
    ≡ Common 0 65536 ∷ Race 0 1 ReadWrite 0 ∷ Common 0 65536 ∷ Outside 0 3 ∷ Common 0 65537 ∷ Common 1 65537 ∷ Common 0 65538 ∷ []
unfolding computing standing done_in verdict_in met
lowest_thread_told = refl

-- What a row costs: of the cells used those with own numbers count, wherever they stand.
pub used_own_cells : map (λ cs. used_cells LOAD (row_of 16 1 1 0) (standing (empty_log 4 8) cs))
    ((0 ∷ 16 ∷ 65536 ∷ 65552 ∷ []) ∷ (65791 ∷ 5 ∷ 65536 ∷ 5 ∷ []) ∷ (65536 ∷ []) ∷ [])
    ≡ (0 ∷ 16 ∷ []) ∷ (5 ∷ 5 ∷ []) ∷ [] ∷ []
unfolding computing standing
used_own_cells = refl

pub common_cost_nothing : map (λ cs. row_cost (row_of 16 1 1 0) (standing (empty_log 5 8) cs) (op_of 16))
    ((0 ∷ 16 ∷ 65536 ∷ 65552 ∷ []) ∷ (0 ∷ 65536 ∷ []) ∷ (65536 ∷ 65552 ∷ 65568 ∷ []) ∷ (0 ∷ 65552 ∷ 16 ∷ 65536 ∷ 32 ∷ []) ∷ [])
    ≡ 1 ∷ 0 ∷ 0 ∷ 2 ∷ []
unfolding computing standing
common_cost_nothing = refl

-- R5 is 65,536 plus the thread's number, R0 that number and R6 the other thread's. Behind it come these rows.
abbrev numbered : List ℕ → List ℕ
numbered rows = 2 ∷ 0 ∷ 0 ∷ 0 ∷ 1 ∷ 4 ∷ 0 ∷ 1 ∷ 6 ∷ 5 ∷ 4 ∷ 4 ∷ 4 ∷ 5 ∷ 5 ∷ 0 ∷ 12 ∷ 6 ∷ 0 ∷ 15 ∷ rows

-- Two threads, one group, two own cells, and these common ones.
abbrev launched : (common : List ℕ) → (rows : List ℕ) → Launch
launched common rows = record { sizes = with_common common (sizes 2 2 1 0); limit = 100; table = rows_of (numbered rows); cells = 1 ∷ 2 ∷ [] }

-- LOAD R3 from R5, STORE it to the own cell of the other thread's number: a load of common cell 1 is none of own cell 1.
abbrev crossing : Launch
crossing = launched (77 ∷ 88 ∷ []) (16 ∷ 3 ∷ 5 ∷ 0 ∷ 17 ∷ 6 ∷ 3 ∷ 0 ∷ [])

pub crossing_passes : ((launch_outcome crossing).verdict ≡ Passed) × (own_after crossing ≡ 88 ∷ 77 ∷ [])
unfolding computing
crossing_passes = (refl, refl)

-- One step each for the seven rows, no bank conflict, and the two stores in the log.
pub crossing_counts :
    (launch_steps crossing ≡ 7 ∷ 7 ∷ []) × ((launch_outcome crossing).conflicts ≡ 0)
    × (launch_log crossing ≡ 0 ∷ 0 ∷ 2 ∷ 1 ∷ 0 ∷ 0 ∷ 88 ∷ 77 ∷ replicate 8 0)
unfolding computing
crossing_counts = (refl, refl, refl)

-- Without common cells its first load is outside.
pub none_is_outside : (launch_outcome (launched [] (16 ∷ 3 ∷ 5 ∷ 0 ∷ []))).verdict ≡ Outside 0 65536
unfolding computing
none_is_outside = refl

-- Of two groups the first is stopped by a store to a common cell, and so is the launch: group 0, row 2, two rows; group 1 has not started.
abbrev stopping : Launch
stopping = record { sizes = with_common (77 ∷ []) (sizes 1 1 2 0); limit = 100; table = row_of 1 4 0 1 ∷ row_of 6 5 4 4 ∷ row_of 17 5 0 0 ∷ []; cells = 1 ∷ 2 ∷ [] }

pub common_ends_the_launch : (launch_outcome stopping ≡ record { verdict = Common 0 65536; row = 2; group = 0; rows = 2; barriers = 0; conflicts = 0 })
    × (launch_steps stopping ≡ 2 ∷ 0 ∷ [])
unfolding computing
common_ends_the_launch = (refl, refl)

-- The threads' own machine: a thread whose R1 is this number, in group 1, at row 4 with R1 for d and a.
unfoldable pub thread : ℕ → Thread
thread c = record { row = 4; regs = 6 ∷ c ∷ []; loops = [] }

pub threads_reach : map (λ k. map (λ c. reach (shape 1 1) (thread 8) OWN c k 1) (2 ∷ 3 ∷ 65535 ∷ 65536 ∷ 65538 ∷ 65539 ∷ [])) (load ∷ store 5 ∷ atomic_add 5 ∷ [])
    ≡ (accesses 5 load 1 ∷ strays ∷ strays ∷ goes (record { row = 5; regs = 6 ∷ 77 ∷ []; loops = [] }) ∷ goes (record { row = 5; regs = 6 ∷ 99 ∷ []; loops = [] }) ∷ strays ∷ [])
    ∷ (accesses 5 (store 5) 1 ∷ replicate 5 strays)
    ∷ (accesses 5 (atomic_add 5) 1 ∷ replicate 5 strays)
    ∷ []
unfolding computing thread
threads_reach = refl

pub threads_reach_global : map (λ k. map (λ c. reach (shape 1 1) (thread 8) GLOBAL c k 1) (1 ∷ 65536 ∷ [])) (load ∷ store 5 ∷ []) ≡
    (accesses 7 load 1 ∷ strays ∷ []) ∷ (accesses 7 (store 5) 1 ∷ strays ∷ []) ∷ []
unfolding computing thread
threads_reach_global = refl

-- By op, at the second common cell.
pub threads_effects : map (λ op. effect_of [] (shape 1 1) 0 (thread 65537) (row_of op 1 1 0) (op_of op)) (16 ∷ 17 ∷ 18 ∷ 20 ∷ 21 ∷ 22 ∷ []) ≡
    goes (record { row = 5; regs = 6 ∷ 88 ∷ []; loops = [] }) ∷ replicate 5 strays
unfolding computing thread
threads_effects = refl

-- Moves of threads 1 and 0 of a launch, so many of each.
unfoldable pub moved : Launch → (ones zeros : ℕ) → Groups
moved l ones zeros =
    after (machine l.table l.sizes) (initial_groups l.table l.sizes l.cells)
    (map (λ t. of_group 0 (row t)) (replicate ones 1 ++ replicate zeros 0))

-- Thread 1 to its end and then thread 0: a common load is one move, and no store races with it.
pub threads_load :
    ((moved crossing 7 7).cells ≡ 88 ∷ 77 ∷ []) × ((moved crossing 7 7).bad ≡ false)
    × (map (λ p. map (λ t. t.row) p.threads) (moved crossing 7 6).parts ≡ (6 ∷ 7 ∷ []) ∷ [])
unfolding computing moved
threads_load = (refl, refl, refl)

-- A common load is recorded nowhere.
pub threads_record_no_load : map (λ p. map p.made (0 ∷ 1 ∷ []) ++ map p.ever (0 ∷ 1 ∷ [])) (moved crossing 6 6).parts ≡ replicate 4 [] ∷ []
unfolding computing moved
threads_record_no_load = refl

-- A store there and an add end the run badly: no move is possible then, and the common cell's word is not taken for a cell's.
unfoldable pub changed : (rows : List ℕ) → List Bool × List ℕ
changed rows =
    let l = launched (77 ∷ 88 ∷ []) rows in
    let S = moved l 6 0 in
    (S.bad ∷ map (λ t. possible l.table l.sizes S (of_group 0 (row t))) (0 ∷ 1 ∷ []), S.cells)

pub threads_change : map changed ((17 ∷ 5 ∷ 0 ∷ 0 ∷ []) ∷ (18 ∷ 5 ∷ 0 ∷ 0 ∷ []) ∷ (16 ∷ 3 ∷ 5 ∷ 0 ∷ []) ∷ []) ≡
    (true ∷ false ∷ false ∷ [], 1 ∷ 2 ∷ []) ∷ (true ∷ false ∷ false ∷ [], 1 ∷ 2 ∷ []) ∷ (false ∷ true ∷ false ∷ [], 1 ∷ 2 ∷ []) ∷ []
unfolding computing moved changed
threads_change = refl
