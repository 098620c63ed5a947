-- The report of a run as the parts that the writer writes: the head, the steps, the lines about intervals, the own cells, the global ones, the last line. Assumes nothing.
use mathlib.Core.Path.{◌≡◌, refl, sym, ap, ◌∙◌}
use mathlib.Core.List.{List, [], ◌∷◌, ◌++◌, append_assoc}
use Prim.Native.Nat.{ℕ, ◌+◌, ◌≤◌}
use native.Mathlib.Omega.{arith}
use lib.ListN.{length, length-append}
use Rattle.spec.specs.declared.Outcome.{Outcome}
use Rattle.spec.specs.Text.{text}
use Rattle.spec.specs.Report.{Line, line_bytes, bytes_of, each_line, head_lines, interval_lines, end_line, run_lines, run_report, refusal_lines, refusal_report, report_of}
use Rattle.spec.specs.Entries.{over}
use Rattle.report.specs.Subjects.{refused}
use Rattle.reportlines.specs.Places.{over_from}
use Rattle.reportlines.proofs.Writing.{Stands, started, next, finished}
use Rattle.reporttable.proofs.Lists.{bytes_append, bytes_one}

-- The lines of a report, part by part, as bytes.
bytes_of_parts : (h s i c g l : List Line)
    → bytes_of (h ++ (s ++ (i ++ (c ++ (g ++ l))))) ≡ ((((bytes_of h ++ bytes_of s) ++ bytes_of i) ++ bytes_of c) ++ bytes_of g) ++ bytes_of l
bytes_of_parts h s i c g l =
    ap bytes_of
    (sym (append_assoc h s (i ++ (c ++ (g ++ l)))) ∙ sym (append_assoc (h ++ s) i (c ++ (g ++ l))) ∙ sym (append_assoc ((h ++ s) ++ i) c (g ++ l))
    ∙ sym (append_assoc (((h ++ s) ++ i) ++ c) g l))
    ∙ bytes_append ((((h ++ s) ++ i) ++ c) ++ g) l
    ∙ ap (λ (x : List ℕ). x ++ bytes_of l) (bytes_append (((h ++ s) ++ i) ++ c) g
    ∙ ap (λ (x : List ℕ). x ++ bytes_of g) (bytes_append ((h ++ s) ++ i) c
    ∙ ap (λ (x : List ℕ). x ++ bytes_of c) (bytes_append (h ++ s) i ∙ ap (λ (x : List ℕ). x ++ bytes_of i) (bytes_append h s))))

-- Nothing has been written.
pub nothing : (xs : List ℕ) → Stands xs xs [] 0
unfolding over
nothing xs = started (omega arith) refl refl

module _ (o : Outcome) (steps cells global : List ℕ) where
  run_parts : run_report o steps cells global
      ≡ ((((bytes_of (head_lines o) ++ bytes_of (each_line (text "steps") steps)) ++ bytes_of (interval_lines o)) ++ bytes_of (each_line (text "cell") cells))
      ++ bytes_of (each_line (text "gcell") global)) ++ line_bytes end_line
  unfolding run_report run_lines
  run_parts =
      bytes_of_parts (head_lines o) (each_line (text "steps") steps) (interval_lines o) (each_line (text "cell") cells) (each_line (text "gcell") global) (end_line ∷ [])
      ∙ ap (λ (l : List ℕ). ((((bytes_of (head_lines o) ++ bytes_of (each_line (text "steps") steps)) ++ bytes_of (interval_lines o)) ++ bytes_of (each_line (text "cell") cells))
      ++ bytes_of (each_line (text "gcell") global)) ++ l) (bytes_one end_line)

  pub run_size :
      length (run_report o steps cells global)
      ≡ length (bytes_of (head_lines o)) + length (bytes_of (each_line (text "steps") steps)) + length (bytes_of (interval_lines o))
      + length (bytes_of (each_line (text "cell") cells)) + length (bytes_of (each_line (text "gcell") global)) + length (line_bytes end_line)
  run_size = rw run_parts (simp length-append)

  -- The parts, written one behind the other, where these are the lines that stand once.
  pub run_written : (heads intervals : List Line) (ending : Line) (xs a b c d e f : List ℕ) (headed stepped behind owned last end : ℕ)
      → heads ≡ head_lines o → intervals ≡ interval_lines o → ending ≡ end_line → length (run_report o steps cells global) ≤ length xs
      → headed ≡ 0 + length (bytes_of heads) → a ≡ over_from 0 (bytes_of heads) xs
      → stepped ≡ headed + length (bytes_of (each_line (text "steps") steps)) → b ≡ over_from headed (bytes_of (each_line (text "steps") steps)) a
      → behind ≡ stepped + length (bytes_of intervals) → c ≡ over_from stepped (bytes_of intervals) b
      → owned ≡ behind + length (bytes_of (each_line (text "cell") cells)) → d ≡ over_from behind (bytes_of (each_line (text "cell") cells)) c
      → last ≡ owned + length (bytes_of (each_line (text "gcell") global)) → e ≡ over_from owned (bytes_of (each_line (text "gcell") global)) d
      → end ≡ last + length (line_bytes ending) → f ≡ over_from last (line_bytes ending) e
      → f ≡ over (run_report o steps cells global) xs
  run_written heads intervals ending xs a b c d e f headed stepped behind owned last end eh ei ee h e1 f1 e2 f2 e3 f3 e4 f4 e5 f5 e6 f6 =
      let size = run_size in
      let head_size = ap (λ (l : List Line). length (bytes_of l)) eh in
      let interval_size = ap (λ (l : List Line). length (bytes_of l)) ei in
      let end_size = ap (λ (l : Line). length (line_bytes l)) ee in
      let s1 = next (bytes_of heads) a (nothing xs) (omega arith) e1 f1 in
      let s2 = next (bytes_of (each_line (text "steps") steps)) b s1 (omega arith) e2 f2 in
      let s3 = next (bytes_of intervals) c s2 (omega arith) e3 f3 in
      let s4 = next (bytes_of (each_line (text "cell") cells)) d s3 (omega arith) e4 f4 in
      let s5 = next (bytes_of (each_line (text "gcell") global)) e s4 (omega arith) e5 f5 in
      let s6 = next (line_bytes ending) f s5 (omega arith) e6 f6 in
      (finished _ s6 (rw (eh, ei, ee) (sym run_parts))).1

-- The lines of a refusal are its report.
pub refusal_part : (number place : ℕ) (lines : List Line) → lines ≡ refusal_lines number place → bytes_of lines ≡ report_of (refused number place) [] [] []
unfolding report_of refusal_report
refusal_part number place lines e = ap bytes_of e

-- What is written from the start.
pub from_start : (w xs : List ℕ) → over_from 0 w xs ≡ over w xs
unfolding over_from
from_start w xs = refl
