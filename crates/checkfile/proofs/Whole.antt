-- The whole-file entry: what its tests leave known, and its answer. Assumes nothing.
use Rattle.std.specs.Prelude.{Result, Err}
use mathlib.Core.Path.{◌≡◌, refl, sym, ap, ap₂, subst, ◌∙◌}
use mathlib.Core.List.{List}
use mathlib.Core.Option.{Option, none, some, none-ne-some}
use Prim.Native.Nat.{ℕ, ◌≤◌}
use borrow.Author.Tests.{eqb-true, leb-true}
use lib.ListN.{length}
use Rattle.spec.specs.declared.Refusal.{Refusal}
use Rattle.spec.specs.Answers.{first, told, told_in}
use Rattle.spec.specs.Launch.{Launch, launch_intervals, launch_log, own_after, global_after}
use Rattle.spec.specs.LaunchFile.{Checked, refused, accepted, unless_refused, file_launch}
use Rattle.spec.specs.Entries.{file_lent, and_state, file_checked, launch_report, report_length, if_accepted, file_answer, file_cells_after, file_global_after}
use Rattle.spec.specs.Entries.{file_log_after, file_records_after, file_output_after, checked_refusal, over, check_prints}
use Rattle.spec.specs.Limits.{records_lent, file_output}
use Rattle.spec.specs.Intervals.{record_words}
use Rattle.spec.specs.Demands.{ReportDemand3, FileReadable, OfWritten}
use Rattle.spec.proofs.Laws.{front_of_lem}
use Rattle.structure.proofs.Refusals.{unless_none, or_else_none}
use Rattle.readback.proofs.Runs.{file_readable, launch_printed, report_demand3}
use Rattle.filerun.specs.Launches.{Lent, ReportedLaunch}

pub lent_is : (held shared logged recorded room : ℕ) → file_lent held shared logged recorded room ≡ none
    → (held ≡ 1024) × (shared ≡ 1024) × (logged ≡ 8192) × (records_lent ≤ recorded) × (24576 ≤ room)
unfolding file_lent first
lent_is held shared logged recorded room e =
    let own-tested = (or_else_none _ _).0 e in
    let global-tested = (or_else_none _ _).0 own-tested.1 in
    let log_tested = (or_else_none _ _).0 global-tested.1 in
    let records-tested = (or_else_none _ _).0 log_tested.1 in
    let output-tested = (or_else_none _ _).0 records-tested.1 in (
      eqb-true _ _ ((unless_none _ _).0 own-tested.0),
      eqb-true _ _ ((unless_none _ _).0 global-tested.0),
      eqb-true _ _ ((unless_none _ _).0 log_tested.0),
      leb-true _ _ ((unless_none _ _).0 records-tested.0),
      leb-true _ _ ((unless_none _ _).0 output-tested.0),
    )

-- The answer, by its case and by number and place, the buffers, and what may be read from the report.
pub record Entry (file cells global log records output : List ℕ) (r : Result ℕ Refusal) (cells' global' log' records' output' : List ℕ) : Type 0 where
  pub answer : r ≡ file_answer file cells global log records output
  pub refusal : told_in r ≡ told (checked_refusal (file_checked file cells global log records output))
  pub cells_are : cells' ≡ file_cells_after file cells global log records output
  pub global_are : global' ≡ file_global_after file cells global log records output
  pub log_is : log' ≡ file_log_after file cells global log records output
  pub records_are : records' ≡ file_records_after file cells global log records output
  pub output_is : output' ≡ file_output_after file cells global log records output
  pub reads : OfWritten (FileReadable file) r output'
  pub runs : OfWritten (ReportDemand3 file) r output'

told_in_lem : (x : Checked Launch) → told_in (report_length x) ≡ told (checked_refusal x)
unfolding report_length told_in told checked_refusal
told_in_lem (refused why) = refl
told_in_lem (accepted launch) = refl

-- A launch that is run is the file's.
checked_launch : (x : Checked Launch) (state : Option Refusal) (launch : Launch) → and_state x state ≡ accepted launch → x ≡ accepted launch
unfolding and_state unless_refused checked_refusal
checked_launch (refused why) state launch e = e
checked_launch (accepted l) none launch e = e
checked_launch (accepted l) (some why) launch e = absurd (none-ne-some why (sym (ap checked_refusal e)))

module _ (file cells global log records output : List ℕ) where
  abbrev by_state : Option Refusal
  by_state = file_lent (length cells) (length global) (length log) (length records) (length output)

  abbrev checked : Checked Launch
  checked = file_checked file cells global log records output

  -- What is written is what `check` prints.
  of_written : (P : List ℕ → Type 0) → P (check_prints file) → OfWritten P (file_answer file cells global log records output) (file_output_after file cells global log records output)
  unfolding file_answer file_output_after file_checked report_length if_accepted
  of_written P h = by checked refl
    where
      by : (x : Checked Launch) → checked ≡ x → OfWritten P (report_length x) (if_accepted x output launch_report)
      by (refused why) e = tt
      by (accepted launch) e =
          rw (front_of_lem (launch_report launch) output (over (launch_report launch) output) refl)
          (subst P (launch_printed file launch (checked_launch (file_launch file) by_state launch e)) h)

  -- The entry, by what the file and the state come to.
  by_checked : (x : Checked Launch) → checked ≡ x → (r : Result ℕ Refusal) (cells' global' log' records' output' : List ℕ) → r ≡ report_length x
      → cells' ≡ if_accepted x cells own_after → global' ≡ if_accepted x global global_after → log' ≡ if_accepted x log launch_log
      → records' ≡ if_accepted x records (λ launch. record_words (launch_intervals launch)) → output' ≡ if_accepted x output launch_report
      → Entry file cells global log records output r cells' global' log' records' output'
  unfolding file_answer file_cells_after file_global_after file_log_after file_records_after file_output_after
  by_checked x e r cells' global' log' records' output' a c g l w o =
      let answer : r ≡ file_answer file cells global log records output = rw e a in
      let out : output' ≡ file_output_after file cells global log records output = rw e o in
      let written : (P : List ℕ → Type 0) → P (check_prints file) → OfWritten P r output' = λ P h. rw (answer, out) (of_written P h) in
      record {
        answer = answer;
        refusal = ap told_in answer ∙ told_in_lem checked;
        cells_are = rw e c;
        global_are = rw e g;
        log_is = rw e l;
        records_are = rw e w;
        output_is = out;
        reads = written (FileReadable file) (file_readable file);
        runs = written (ReportDemand3 file) (report_demand3 file);
      }

  turned_back : (why : Refusal) → checked ≡ refused why → Entry file cells global log records output (Err why) cells global log records output
  unfolding report_length if_accepted
  turned_back why e = by_checked (refused why) e (Err why) cells global log records output refl refl refl refl refl refl

  -- From the input, and from the state.
  pub file_refuses : (why : Refusal) → file_launch file ≡ refused why → Entry file cells global log records output (Err why) cells global log records output
  unfolding file_checked and_state
  file_refuses why e = turned_back why (ap (λ x. and_state x by_state) e)

  pub state_refuses : (launch : Launch) (why : Refusal) → file_launch file ≡ accepted launch → by_state ≡ some why
      → Entry file cells global log records output (Err why) cells global log records output
  unfolding file_checked and_state unless_refused
  state_refuses launch why e q = turned_back why (ap₂ and_state e q)

  pub ran : (launch : Launch) (r : Result ℕ Refusal) (cells' global' log' records' output' : List ℕ) → file_launch file ≡ accepted launch → by_state ≡ none
      → ReportedLaunch launch cells global log records output r cells' global' log' records' output'
      → Entry file cells global log records output r cells' global' log' records' output'
  unfolding file_checked and_state unless_refused report_length if_accepted
  ran launch r cells' global' log' records' output' e q d =
      by_checked (accepted launch) (ap₂ and_state e q) r cells' global' log' records' output'
      d.answered d.cells_left d.global_left d.log_left d.records_left d.report_written

  -- What running the launch asks of the buffers.
  pub roomy : by_state ≡ none → Lent cells global log records × (file_output ≤ length output)
  roomy q =
      let lent = lent_is (length cells) (length global) (length log) (length records) (length output) q in
      (record { cells_lent = lent.0; global_lent = lent.1; log_lent = lent.2; records_lent = lent.3 }, lent.4)
