-- What the report writer answers for a refusal: its report, which has room. Assumes nothing.
use Rattle.std.specs.Prelude.{Result, Ok, get_or}
use mathlib.Core.Path.{◌≡◌, sym, ap, ap₂, ◌∙◌}
use mathlib.Core.List.{List, []}
use mathlib.Core.Option.{none}
use Prim.Native.Nat.{ℕ, ◌≤◌}
use native.Mathlib.Omega.{arith}
use lib.ListN.{length}
use Rattle.spec.specs.declared.Refusal.{Refusal}
use Rattle.spec.specs.declared.Subject.TheVariants as subject
use Rattle.spec.specs.Answers.{refusal_number, refusal_place}
use Rattle.spec.specs.Report.{refusal_report, report_of}
use Rattle.spec.specs.Entries.{over, writer_refusal, writer_answer, writer_buffer, written_of, kept_if}
use Rattle.refusals.specs.Words.{refusal_words}
use Rattle.report.specs.Subjects.{FitsOutput}
use Rattle.report.proofs.Entry.{no_lines_asked, fitting}

-- The answer r and the output are the refusal's report.
pub record RefusalTold (why : Refusal) (output : List ℕ) (r : Result ℕ Refusal) (out : List ℕ) : Type 0 where
  pub answered : r ≡ Ok (length (refusal_report (refusal_number why) (refusal_place why)))
  pub written : out ≡ over (refusal_report (refusal_number why) (refusal_place why)) output
  pub fits : length (refusal_report (refusal_number why) (refusal_place why)) ≤ 24576

told_at : (why : Refusal) (number place : ℕ) → number ≡ refusal_number why → place ≡ refusal_place why → (output : List ℕ) (r : Result ℕ Refusal) (out : List ℕ)
    → 24576 ≤ length output → r ≡ writer_answer (subject.Refused number place) [] [] [] output → out ≡ writer_buffer (subject.Refused number place) [] [] [] output
    → FitsOutput (subject.Refused number place) [] [] [] → RefusalTold why output r out
unfolding report_of writer_answer written_of writer_buffer kept_if
told_at why number place en ep output r out room answer buffer fits =
    let what = subject.Refused number place in
    let text = refusal_report (refusal_number why) (refusal_place why) in
    let same : report_of what [] [] [] ≡ text = ap₂ refusal_report en ep in
    let asked = no_lines_asked number place [] [] [] in
    let short : length text ≤ 24576 = omega (arith, fits asked, ap length same) in
    let taken : writer_refusal what [] [] [] output ≡ none = fitting what [] [] [] output (length text) asked (ap length (sym same)) (omega arith) in
    record {
      answered = answer ∙ ap₂ written_of taken (ap length same);
      written = buffer ∙ ap₂ (λ x w. kept_if x output (over w output)) taken same;
      fits = short;
    }

-- Its words are the number and the place.
pub refusal_told : (why : Refusal) (ws : List ℕ) → ws ≡ refusal_words why → (output : List ℕ) (r : Result ℕ Refusal) (out : List ℕ) → 24576 ≤ length output
    → let what = subject.Refused (get_or ws 0 0) (get_or ws 1 0) in
    r ≡ writer_answer what [] [] [] output → out ≡ writer_buffer what [] [] [] output → FitsOutput what [] [] [] → RefusalTold why output r out
unfolding refusal_words
refusal_told why ws e = told_at why (get_or ws 0 0) (get_or ws 1 0) (ap (λ (w : List ℕ). get_or w 0 0) e) (ap (λ (w : List ℕ). get_or w 1 0) e)
