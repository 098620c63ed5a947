-- The bare launch: what its tests leave known, and its answer. Assumes nothing.
use Rattle.std.specs.Prelude.{Result, Ok, Err}
use mathlib.Core.Path.{◌≡◌, refl, ◌∙◌, ap, subst}
use mathlib.Core.List.{List}
use mathlib.Core.Option.{Option, none, some}
use Prim.Native.Nat.{ℕ, ◌*◌, ◌/◌, ◌%◌, ◌≤◌}
use native.Mathlib.Omega.{arith}
use borrow.Author.Tests.{eqb-true, leb-true}
use lib.Dec.{leb}
use lib.ListN.{length, replicate}
use Rattle.spec.specs.Limits.{launch_log_per_cell, records_lent, max_launch_threads}
use Rattle.spec.specs.declared.Refusal.{Refusal}
use Rattle.spec.specs.declared.Outcome.{Outcome}
use Rattle.spec.specs.Answers.{first, told, told_by}
use Rattle.spec.specs.Table.{rows_of}
use Rattle.spec.specs.TableCheck.{table_refusal}
use Rattle.spec.specs.Shape.{Sizes, all_own, all_cells}
use Rattle.spec.specs.Intervals.{record_words}
use Rattle.spec.specs.Launch.{Launch, launch_outcome, launch_intervals, launch_steps, launch_log, own_after, global_after}
use Rattle.spec.specs.Entries.{bare_numbers, bare_lent, bare_refusal, bare_launch, answer_of, kept_if, bare_answer, bare_cells, bare_global, bare_log, bare_records}
use Rattle.spec.specs.Entries.{bare_steps, over}
use Rattle.spec.specs.Demands.{BareDemand3}
use Rattle.structure.proofs.Refusals.{unless_none, or_else_none}
use Rattle.allruns.proofs.Bools.{and_left, and_right}
use Rattle.allruns.proofs.Launches.{bare_demand3}
use Rattle.launchrun.specs.Launches.{RunIs}
use Rattle.admission.proofs.Answers.{found, passed, ends}

-- What the numbers are where none of them is refused.
pub record Fine (bytes : ℕ) (Z : Sizes) (limit : ℕ) : Type 0 where
  pub fours : bytes % 4 ≡ 0
  pub rows : bytes / 4 ≤ 256
  pub some_threads : 1 ≤ Z.threads
  pub few_threads_lem : Z.threads ≤ 32
  pub some_groups : 1 ≤ Z.groups
  pub few_groups_lem : Z.groups ≤ 8
  pub few_cells_lem : all_cells Z ≤ 1024
  pub few_rows_lem : limit ≤ 1000000

pub fine : (bytes : ℕ) (Z : Sizes) (limit : ℕ) → bare_numbers bytes Z limit ≡ none → Fine bytes Z limit
unfolding bare_numbers first
fine bytes Z limit e =
    let length-tested = (or_else_none _ _).0 e in
    let rows-tested = (or_else_none _ _).0 length-tested.1 in
    let threads-tested = (or_else_none _ _).0 rows-tested.1 in
    let cells-tested = (or_else_none _ _).0 threads-tested.1 in
    let groups_tested = (or_else_none _ _).0 cells-tested.1 in
    let all_tested = (or_else_none _ _).0 groups_tested.1 in
    let limit-tested = (or_else_none _ _).0 all_tested.1 in
    let t = (unless_none _ _).0 threads-tested.0 in
    let g = (unless_none _ _).0 groups_tested.0 in
    record {
      fours = eqb-true _ _ ((unless_none _ _).0 length-tested.0);
      rows = leb-true _ _ ((unless_none _ _).0 rows-tested.0);
      some_threads = leb-true _ _ (and_left (leb 1 Z.threads) _ t);
      few_threads_lem = leb-true _ _ (and_right (leb 1 Z.threads) _ t);
      some_groups = leb-true _ _ (and_left (leb 1 Z.groups) _ g);
      few_groups_lem = leb-true _ _ (and_right (leb 1 Z.groups) _ g);
      few_cells_lem = leb-true _ _ ((unless_none _ _).0 all_tested.0);
      few_rows_lem = leb-true _ _ ((unless_none _ _).0 limit-tested.0);
    }

pub readable : (table : List ℕ) (Z : Sizes) (limit : ℕ) → bare_numbers (length table) Z limit ≡ none → (length table % 4 ≡ 0) × (length table ≤ 4 * 256)
readable table Z limit e = let f = fine (length table) Z limit e in (f.fours, omega (arith, f.fours, f.rows))

pub lent_is : (Z : Sizes) (held shared logged recorded : ℕ) → bare_lent Z held shared logged recorded ≡ none
    → (held ≡ all_own Z) × (shared ≡ Z.global) × (logged ≡ launch_log_per_cell * all_cells Z) × (records_lent ≤ recorded)
unfolding bare_lent first
lent_is Z held shared logged recorded e =
    let own-tested = (or_else_none _ _).0 e in
    let global-tested = (or_else_none _ _).0 own-tested.1 in
    let log_tested = (or_else_none _ _).0 global-tested.1 in
    let records-tested = (or_else_none _ _).0 log_tested.1 in (
      eqb-true _ _ ((unless_none _ _).0 own-tested.0),
      eqb-true _ _ ((unless_none _ _).0 global-tested.0),
      eqb-true _ _ ((unless_none _ _).0 log_tested.0),
      leb-true _ _ ((unless_none _ _).0 records-tested.0),
    )

-- The answer, by its case and by number and place, the buffers, and what the answer says of every run.
pub record Entry (table : List ℕ) (Z : Sizes) (limit : ℕ) (cells global log records steps : List ℕ) (r : Result Outcome Refusal)
    (cells' global' log' records' steps' : List ℕ) : Type 0 where
  pub answer : r ≡ bare_answer table Z limit cells global log records
  pub refusal : told_by r ≡ told (bare_refusal table Z limit cells global log records)
  pub cells_are : cells' ≡ bare_cells table Z limit cells global log records
  pub global_are : global' ≡ bare_global table Z limit cells global log records
  pub log_is : log' ≡ bare_log table Z limit cells global log records
  pub records_are : records' ≡ bare_records table Z limit cells global log records
  pub steps_are : steps' ≡ bare_steps table Z limit cells global log records steps
  pub runs : BareDemand3 table Z limit cells global r cells' global' steps'

told_by_lem : (x : Option Refusal) (o : Outcome) → told_by (answer_of x o) ≡ told x
unfolding answer_of told_by told
told_by_lem none o = refl
told_by_lem (some why) o = refl

module _ (table : List ℕ) (Z : Sizes) (limit : ℕ) (cells global log records steps : List ℕ) where
  abbrev refusal : Option Refusal
  refusal = bare_refusal table Z limit cells global log records

  abbrev launch : Launch
  launch = bare_launch table Z limit cells global

  abbrev Entered : Result Outcome Refusal → (cells' global' log' records' steps' : List ℕ) → Type 0
  Entered = Entry table Z limit cells global log records steps

  -- The entry, by what is refused.
  by_refusal : (x : Option Refusal) → refusal ≡ x → (r : Result Outcome Refusal) (cells' global' log' records' steps' : List ℕ) → r ≡ answer_of x (launch_outcome launch)
      → cells' ≡ kept_if x cells (own_after launch) → global' ≡ kept_if x global (global_after launch) → log' ≡ kept_if x log (launch_log launch)
      → records' ≡ kept_if x records (over (record_words (launch_intervals launch)) records)
      → steps' ≡ kept_if x steps (over (launch_steps launch) (replicate max_launch_threads 0)) → Entered r cells' global' log' records' steps'
  unfolding bare_answer bare_cells bare_global bare_log bare_records bare_steps
  by_refusal x e r cells' global' log' records' steps' a c g l w s =
      let answer : r ≡ bare_answer table Z limit cells global log records = rw e a in
      let cells_are : cells' ≡ bare_cells table Z limit cells global log records = rw e c in
      let global_are : global' ≡ bare_global table Z limit cells global log records = rw e g in
      let steps_are : steps' ≡ bare_steps table Z limit cells global log records steps = rw e s in
      record {
        answer = answer;
        refusal = ap told_by answer ∙ told_by_lem refusal _;
        cells_are = cells_are;
        global_are = global_are;
        log_is = rw e l;
        records_are = rw e w;
        steps_are = steps_are;
        runs = rw (answer, cells_are, global_are, steps_are) (bare_demand3 table Z limit cells global log records steps);
      }

  refused : (why : Refusal) → refusal ≡ some why → Entered (Err why) cells global log records steps
  unfolding answer_of kept_if
  refused why e = by_refusal (some why) e (Err why) cells global log records steps refl refl refl refl refl refl

  abbrev by_numbers : Option Refusal
  by_numbers = bare_numbers (length table) Z limit

  abbrev by_table : Option Refusal
  by_table = table_refusal (rows_of table)

  abbrev by_state : Option Refusal
  by_state = bare_lent Z (length cells) (length global) (length log) (length records)

  pub numbers_refuse : (why : Refusal) → by_numbers ≡ some why → Entered (Err why) cells global log records steps
  unfolding bare_refusal
  numbers_refuse why e = refused why (found by_numbers why _ e)

  pub table_refuses : (why : Refusal) → by_numbers ≡ none → by_table ≡ some why → Entered (Err why) cells global log records steps
  unfolding bare_refusal
  table_refuses why n e = refused why (passed by_numbers _ n ∙ found by_table why _ e)

  pub state_refuses : (why : Refusal) → by_numbers ≡ none → by_table ≡ none → by_state ≡ some why → Entered (Err why) cells global log records steps
  unfolding bare_refusal
  state_refuses why n t e = refused why (passed by_numbers _ n ∙ passed by_table _ t ∙ found by_state why _ e)

  -- The run's sizes are those that were handed in.
  pub ran : (Y : Sizes) → Y ≡ Z → (o : Outcome) (cells' global' log' records' steps' : List ℕ) → by_numbers ≡ none → by_table ≡ none → by_state ≡ none
      → RunIs (bare_launch table Y limit cells global) records o cells' global' log' records' steps' → Entered (Ok o) cells' global' log' records' steps'
  unfolding bare_refusal answer_of kept_if
  ran Y same o cells' global' log' records' steps' n t s R' =
      let R = subst (λ X. RunIs (bare_launch table X limit cells global) records o cells' global' log' records' steps') same R' in
      by_refusal none (passed by_numbers _ n ∙ passed by_table _ t ∙ passed by_state _ s ∙ ends) (Ok o) cells' global' log' records' steps'
      (ap Ok R.outcome_is) R.cells_are R.global_are R.log_is R.records_are R.steps_are
