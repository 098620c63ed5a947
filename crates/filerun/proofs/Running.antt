-- An accepted launch that has been run over the front of its buffers, and reported. Assumes nothing.
use Rattle.std.specs.Prelude.{Result, Ok}
use mathlib.Core.Path.{◌≡◌, refl, sym, ap, ap₂, subst, ◌∙◌}
use mathlib.Core.List.{List, ◌++◌}
use mathlib.Core.Option.{Option, none}
use Prim.Native.Nat.{ℕ, ◌+◌, ◌*◌, ◌≤◌}
use native.Mathlib.Nat.{mul-le-mul}
use native.Mathlib.Omega.{arith}
use lib.ListN.{length, take, drop, replicate, length-replicate}
use Rattle.spec.specs.Limits.{launch_log_per_cell, file_output}
use Rattle.spec.specs.declared.Outcome.{Outcome}
use Rattle.spec.specs.declared.Refusal.{Refusal}
use Rattle.spec.specs.Table.{rows_of}
use Rattle.spec.specs.Shape.{Sizes}
use Rattle.spec.specs.Launch.{Launch, launch_steps, own_after, global_after}
use Rattle.spec.specs.Report.{run_report, report_of}
use Rattle.spec.specs.Entries.{over, bare_launch, launch_report, writer_refusal, writer_answer, writer_buffer, written_of, kept_if}
use Rattle.spec.proofs.Laws.{front_of_lem}
use Rattle.allruns.proofs.LaunchSteps.{steps_long}
use Rattle.launchrun.specs.Launches.{RunIs, sizes_by}
use Rattle.report.specs.Subjects.{ran, FitsOutput}
use Rattle.report.proofs.Entry.{lines_right, fitting}
use Rattle.reportlines.proofs.Writing.{over_length}
use Rattle.filerun.specs.Launches.{CanRun, launch_of, Ran, ReportedLaunch}
use Rattle.filelaunch.specs.declared.Loaded.{Loaded}
use Rattle.layout.specs.Views.{put_part}
use Rattle.filerun.proofs.Front.{given_back, given_back_over, placed_over}

-- The writer has room for the report of as many threads and cells as a launch has.
module _ (o : Outcome) (steps cells global output : List ℕ) where
  accepted : 1 ≤ length steps → length steps ≤ 256 → 1 ≤ length cells + length global → length cells + length global ≤ 1024 → 24576 ≤ length output
      → FitsOutput (ran o) steps cells global
      → (writer_refusal (ran o) steps cells global output ≡ none) × (length (run_report o steps cells global) ≤ 24576)
  unfolding report_of
  accepted one most some few room fits =
      let right = lines_right o steps cells global one most some few in
      (fitting (ran o) steps cells global output (length (report_of (ran o) steps cells global)) right refl (omega (arith, fits right)), fits right)

  wrote : writer_refusal (ran o) steps cells global output ≡ none → writer_answer (ran o) steps cells global output ≡ Ok (length (run_report o steps cells global))
  unfolding writer_answer written_of report_of
  wrote e = ap (λ (x : Option Refusal). written_of x (length (run_report o steps cells global))) e

  written : writer_refusal (ran o) steps cells global output ≡ none → writer_buffer (ran o) steps cells global output ≡ over (run_report o steps cells global) output
  unfolding writer_buffer kept_if report_of
  written e = ap (λ (x : Option Refusal). kept_if x output (over (run_report o steps cells global) output)) e

-- A buffer of 1,024 words has room for the words that were put at its front.
pub placed_room : (w xs placed : List ℕ) → placed ≡ put_part 0 w xs → length w ≤ 1024 → length xs ≡ 1024 → length w ≤ length placed
placed_room w xs placed p few long =
    let e = ap length (placed_over w xs placed p) ∙ over_length w xs (omega (arith, few, long)) in omega (arith, few, long, e)

-- A launch's threads are some of 256.
pub threads_few : (groups threads : ℕ) → groups ≤ 8 → threads ≤ 32 → groups * threads ≤ 256
threads_few groups threads g t = let h : groups * threads ≤ 8 * 32 = mul-le-mul g t in omega (arith, h)

threads_some : (groups threads : ℕ) → 1 ≤ groups → 1 ≤ threads → 1 ≤ groups * threads
threads_some groups threads g t = let h : 1 * 1 ≤ groups * threads = mul-le-mul g t in omega (arith, h)

module _ (l : Loaded) (cells global log records : List ℕ) (asks : CanRun l) where
  abbrev launch : Launch
  launch = launch_of l

  abbrev words : List ℕ
  words = l.cells.now

  abbrev shared : List ℕ
  shared = l.global.now

  abbrev groups : ℕ
  groups = l.kernel.groups

  abbrev threads : ℕ
  threads = l.kernel.threads

  -- Its sizes, with these words of global cells.
  abbrev sizes_with : List ℕ → Sizes
  sizes_with = sizes_by threads groups l.kernel.each l.kernel.common.now

  -- The buffers: the words placed, the fronts and the step counts that the run gave back.
  module _ (placed placed_global : List ℕ) (p : placed ≡ over words cells) (pg : placed_global ≡ over shared global) (o : Outcome)
      (ys gs zs ws counts : List ℕ)
      (ran-it : RunIs (bare_launch l.kernel.table.now (sizes_with (take (length shared) placed_global)) l.kernel.limit (take (length words) placed)
      (take (length shared) placed_global)) records o ys gs zs ws counts) where
    -- The run was that of the launch.
    run : RunIs launch records o ys gs zs ws counts
    run =
        subst (λ L. RunIs L records o ys gs zs ws counts)
        (ap₂ (λ w s. bare_launch l.kernel.table.now (sizes_with s) l.kernel.limit w s) (front_of_lem words cells placed p) (front_of_lem shared global placed_global pg)) ran-it

    pub left : length ys ≡ length words → length gs ≡ length shared → length zs ≡ launch_log_per_cell * (length words + length shared)
        → Ran l cells global log records o (ys ++ drop (length words) placed)
        (gs ++ drop (length shared) placed_global) (zs ++ drop (launch_log_per_cell * (length words + length shared)) log) ws counts
    left ly lg lz =
        record {
          ran = record {
            outcome_is = run.outcome_is;
            cells_left = given_back_over words ys cells placed p ly ∙ ap (λ (w : List ℕ). over w cells) run.cells_are;
            global_left = given_back_over shared gs global placed_global pg lg ∙ ap (λ (w : List ℕ). over w global) run.global_are;
            log_left = given_back (launch_log_per_cell * (length words + length shared)) zs log lz ∙ ap (λ (w : List ℕ). over w log) run.log_is;
            records_left = run.records_are;
            steps_left = run.steps_are;
          };
          own_long = sym (ap length run.cells_are) ∙ ly;
          global_long_lem = sym (ap length run.global_are) ∙ lg;
        }

  -- Every thread has its count.
  counted : length (launch_steps launch) ≡ groups * threads
  unfolding launch_steps bare_launch
  counted = steps_long (rows_of l.kernel.table.now) (sizes_with shared) l.kernel.limit (words ++ shared) asks.some_group

  module _ (o : Outcome) (cells' global' log' records' counts : List ℕ)
      (R : Ran l cells global log records o cells' global' log' records' counts) where
    pub counts_long : length counts ≡ 256
    counts_long =
        ap length R.ran.steps_left
        ∙ over_length (launch_steps launch) (replicate 256 0)
        (omega (arith, counted, threads_few groups threads asks.few_groups asks.few_threads, length-replicate {A = ℕ} 256 0))
        ∙ length-replicate {A = ℕ} 256 0

    abbrev front : List ℕ
    front = take (length words) cells'

    abbrev front_global : List ℕ
    front_global = take (length shared) global'

    front_is : front ≡ own_after launch
    front_is = ap (λ k. take k cells') (sym R.own_long) ∙ front_of_lem (own_after launch) cells cells' R.ran.cells_left

    global_is : front_global ≡ global_after launch
    global_is = ap (λ k. take k global') (sym R.global_long_lem) ∙ front_of_lem (global_after launch) global global' R.ran.global_left

    pub reported : (output : List ℕ) → file_output ≤ length output → (used : ℕ) → used ≡ groups * threads → let steps = take used counts in (out : List ℕ) (r : Result ℕ Refusal)
        → r ≡ writer_answer (ran o) steps front front_global output → out ≡ writer_buffer (ran o) steps front front_global output
        → FitsOutput (ran o) steps front front_global → ReportedLaunch launch cells global log records output r cells' global' log' records' out
    unfolding launch_report
    reported output room used eu out r answer buffer fits =
        let steps = take used counts in
        let own_long : length front ≡ length words = ap length front_is ∙ R.own_long in
        let global_long_lem : length front_global ≡ length shared = ap length global_is ∙ R.global_long_lem in
        let steps_are : steps ≡ launch_steps launch =
        subst (λ k. take k counts ≡ launch_steps launch) (counted ∙ sym eu) (front_of_lem (launch_steps launch) (replicate 256 0) counts R.ran.steps_left) in
        let every : length steps ≡ groups * threads = ap length steps_are ∙ counted in
        let some_words : 1 ≤ length words = omega (arith, asks.own, threads_some groups l.kernel.each asks.some_group asks.some_cell) in
        let taken = accepted o steps front front_global output (omega (arith, every, threads_some groups threads asks.some_group asks.some_thread))
        (omega (arith, every, threads_few groups threads asks.few_groups asks.few_threads)) (omega (arith, own_long, global_long_lem, some_words))
        (omega (arith, own_long, global_long_lem, asks.few_cells)) room fits in
        let whole : run_report o steps front front_global ≡ launch_report launch =
        λ i. run_report (R.ran.outcome_is i) (steps_are i) (front_is i) (global_is i) in
        record {
          answered = answer ∙ wrote o steps front front_global output taken.0 ∙ ap (λ (w : List ℕ). Ok (length w)) whole;
          cells_left = R.ran.cells_left;
          global_left = R.ran.global_left;
          log_left = R.ran.log_left;
          records_left = R.ran.records_left;
          fits = omega (arith, ap length whole, taken.1);
          report_written = buffer ∙ written o steps front front_global output taken.0 ∙ ap (λ (w : List ℕ). over w output) whole;
        }
