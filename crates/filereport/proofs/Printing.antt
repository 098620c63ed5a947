-- What is printed, by what the whole-file entry and the report writer answer. Assumes nothing.
use Rattle.std.specs.Prelude.{Result, Ok, Err}
use mathlib.Core.Path.{◌≡◌, refl, sym, ap, ap₂, subst, ◌∙◌}
use mathlib.Core.List.{List}
use mathlib.Core.Option.{Option, none}
use Prim.Native.Nat.{ℕ, ◌≤◌}
use native.Mathlib.Omega.{arith}
use borrow.Author.Tests.{eq-eqb, le-leb}
use lib.ListN.{length, take, drop, length-append, length-drop}
use Rattle.spec.specs.declared.Refusal.{Refusal}
use Rattle.spec.specs.Answers.{unless, or_else, first, refusal_number, refusal_place}
use Rattle.spec.specs.Launch.{Launch}
use Rattle.spec.specs.LaunchFile.{Checked, refused, accepted, unless_refused, file_launch}
use Rattle.spec.specs.Report.{refusal_report}
use Rattle.spec.specs.Entries.{over, file_lent, and_state, file_checked, launch_report}
use Rattle.spec.specs.Entries.{report_length, if_accepted, file_answer, file_output_after, printed, check_prints}
use Rattle.spec.specs.Demands.{ReportDemand3, FileReadable}
use Rattle.spec.proofs.Laws.{front_of_lem}
use Rattle.readback.proofs.Runs.{file_readable, report_demand3}
use Rattle.reportlines.proofs.Writing.{over_length}

-- A text that was written over a buffer of the same length fits into it.
over_fits : (w xs l : List ℕ) → l ≡ over w xs → length l ≡ length xs → length w ≤ length xs
unfolding over
over_fits w xs l e h = omega (arith, h, ap length e, length-append w (drop (length w) xs), length-drop (length w) xs)

-- What is printed, and what may be read from it.
pub record Prints (file output : List ℕ) (size : ℕ) (out : List ℕ) : Type 0 where
  pub long : size ≡ length (check_prints file)
  pub written : out ≡ over (check_prints file) output
  pub fits : size ≤ length out
  pub reads : FileReadable file (take size out)
  pub runs : ReportDemand3 file (take size out)

prints : (file output : List ℕ) (size : ℕ) (out : List ℕ) → size ≡ length (check_prints file) → out ≡ over (check_prints file) output → size ≤ length out
    → Prints file output size out
prints file output size out e q fits =
    let read : check_prints file ≡ take size out = sym (ap (λ n. take n out) e ∙ front_of_lem (check_prints file) output out q) in
    record {
      long = e;
      written = q;
      fits = fits;
      reads = subst (FileReadable file) read (file_readable file);
      runs = subst (ReportDemand3 file) read (report_demand3 file);
    }

-- The whole-file entry with buffers of the right sizes refuses nothing but the file.
by_file : (x : Checked Launch) (state : Option Refusal) → state ≡ none → and_state x state ≡ x
unfolding and_state unless_refused
by_file (refused why) state e = refl
by_file (accepted launch) state e = ap (λ s. unless_refused s launch) e

module _ (file cells global log records output : List ℕ) (c : length cells ≡ 1024) (g : length global ≡ 1024) (l : length log ≡ 8192) (w : length records ≡ 3075)
    (o : length output ≡ 24576) where
  lent : file_lent (length cells) (length global) (length log) (length records) (length output) ≡ none
  unfolding file_lent first or_else unless
  lent =
      rw (
        eq-eqb (length cells) 1024 c,
        eq-eqb (length global) 1024 g,
        eq-eqb (length log) 8192 l,
        le-leb 3075 (length records) (omega arith),
        le-leb 24576 (length output) (omega arith),
      ) refl

  checked : file_checked file cells global log records output ≡ file_launch file
  unfolding file_checked
  checked = by_file (file_launch file) (file_lent (length cells) (length global) (length log) (length records) (length output)) lent

  module _ (r : Result ℕ Refusal) (out : List ℕ) (long : length out ≡ length output) (answer : r ≡ file_answer file cells global log records output)
      (buffer : out ≡ file_output_after file cells global log records output) where
    size_told : r ≡ report_length (file_launch file)
    unfolding file_answer
    size_told = answer ∙ ap report_length checked

    output_told : out ≡ if_accepted (file_launch file) output launch_report
    unfolding file_output_after
    output_told = buffer ∙ ap (λ x. if_accepted x output launch_report) checked

    accepted_one : (x : Checked Launch) (size : ℕ) → r ≡ report_length x → out ≡ if_accepted x output launch_report → r ≡ Ok size
        → (size ≡ length (printed x)) × (out ≡ over (printed x) output)
    unfolding report_length if_accepted printed
    accepted_one (refused why) size e q w = cc
    accepted_one (accepted launch) size e q w = (cc, q)

    refused_one : (x : Checked Launch) (why : Refusal) → r ≡ report_length x → out ≡ if_accepted x output launch_report → r ≡ Err why
        → (refusal_report (refusal_number why) (refusal_place why) ≡ printed x) × (out ≡ output)
    unfolding report_length if_accepted printed
    refused_one (refused again) why e q w = let same : why ≡ again = cc in (cc, q)
    refused_one (accepted launch) why e q w = cc

    pub run_printed : (size : ℕ) → r ≡ Ok size → Prints file output size out
    unfolding check_prints
    run_printed size w =
        let told = accepted_one (file_launch file) size size_told output_told w in
        prints file output size out told.0 told.1 (omega (arith, told.0, long, over_fits (check_prints file) output out told.1 long))

    -- The refusal's report is written over the output as it was lent.
    refusal_is : (why : Refusal) → r ≡ Err why → (refusal_report (refusal_number why) (refusal_place why) ≡ check_prints file) × (out ≡ output)
    unfolding check_prints
    refusal_is why w = refused_one (file_launch file) why size_told output_told w

    pub refusal_printed : (why : Refusal) (size : ℕ) (last : List ℕ) → r ≡ Err why → size ≡ length (refusal_report (refusal_number why) (refusal_place why))
        → last ≡ over (refusal_report (refusal_number why) (refusal_place why)) out → size ≤ 24576 → Prints file output size last
    refusal_printed why size last w counted written short =
        let told = refusal_is why w in
        let room = over_length (refusal_report (refusal_number why) (refusal_place why)) out (omega (arith, counted, short, long, o)) in
        prints file output size last (counted ∙ ap length told.0) (written ∙ ap₂ over told.0 told.1)
        (omega (arith, short, ap length written, room, long, o))
