-- What the writer's answer and buffer are in each of its cases. Assumes nothing.
use Rattle.std.specs.Prelude.{Result}
use mathlib.Core.Path.{◌≡◌, refl, ap, ◌∙◌}
use mathlib.Core.List.{List}
use mathlib.Core.Option.{Option, none, some}
use mathlib.Core.Bool.{and-false}
use Prim.Native.Nat.{ℕ, ◌+◌, ◌≤◌, ◌<◌}
use native.Mathlib.Omega.{arith}
use borrow.Author.Tests.{le-leb, lt-leb}
use lib.Dec.{leb}
use lib.ListN.{length}
use Rattle.spec.specs.declared.Outcome.{Outcome}
use Rattle.spec.specs.declared.Subject.{Subject}
use Rattle.spec.specs.declared.Refusal.{Refusal}
use Rattle.spec.specs.declared.Refusal.TheVariants.{ReportLines, ReportTooLong}
use Rattle.spec.specs.Answers.{unless, or_else, first, told, told_in}
use Rattle.spec.specs.Report.{report_of}
use Rattle.spec.specs.Reading.{Readable}
use Rattle.spec.specs.Demands.{OfWritten}
use Rattle.spec.proofs.Laws.{front_of_lem}
use Rattle.readback.proofs.Reports.{readable}
use Rattle.spec.specs.Entries.{over, lines_reported, writer_refusal, written_of, writer_answer, writer_buffer, kept_if}
use Rattle.report.specs.Subjects.{ran, refused, FitsOutput}

-- 23.
pub no_steps : (o : Outcome) (steps cells global : List ℕ) → length steps < 1 → lines_reported (ran o) steps cells global ≡ some ReportLines
unfolding lines_reported first or_else unless
no_steps o steps cells global h = rw (lt-leb 1 (length steps) h)

pub many_steps : (o : Outcome) (steps cells global : List ℕ) → 256 < length steps → lines_reported (ran o) steps cells global ≡ some ReportLines
unfolding lines_reported first or_else unless
many_steps o steps cells global h = rw (lt-leb (length steps) 256 h, and-false (leb 1 (length steps)))

module _ (o : Outcome) (steps cells global : List ℕ) (one : 1 ≤ length steps) (few : length steps ≤ 256) where
  abbrev all : ℕ
  all = length cells + length global

  pub no_cells : all < 1 → lines_reported (ran o) steps cells global ≡ some ReportLines
  unfolding lines_reported first or_else unless
  no_cells h = rw (le-leb 1 (length steps) one, le-leb (length steps) 256 few, lt-leb 1 all h)

  pub many_cells_lem : 1024 < all → lines_reported (ran o) steps cells global ≡ some ReportLines
  unfolding lines_reported first or_else unless
  many_cells_lem h = rw (le-leb 1 (length steps) one, le-leb (length steps) 256 few, lt-leb all 1024 h, and-false (leb 1 all))

  pub lines_right : 1 ≤ all → all ≤ 1024 → lines_reported (ran o) steps cells global ≡ none
  unfolding lines_reported first or_else unless
  lines_right l h = rw (le-leb 1 (length steps) one, le-leb (length steps) 256 few, le-leb 1 all l, le-leb all 1024 h)

pub no_lines_asked : (number place : ℕ) (steps cells global : List ℕ) → lines_reported (refused number place) steps cells global ≡ none
unfolding lines_reported
no_lines_asked number place steps cells global = refl

-- The answer by number and place, and what may be read from the report where there is one.
told_in_lem : (x : Option Refusal) (n : ℕ) → told_in (written_of x n) ≡ told x
unfolding written_of told_in told
told_in_lem none n = refl
told_in_lem (some why) n = refl

of_written : (P : List ℕ → Type 0) (x : Option Refusal) (w out : List ℕ) → P w → OfWritten P (written_of x (length w)) (kept_if x out (over w out))
unfolding written_of kept_if
of_written P none w out h = rw (front_of_lem w out (over w out) refl) h
of_written P (some why) w out h = tt

module _ (what : Subject) (steps cells global out : List ℕ) where
  -- The report was counted to n bytes. 22, with the length that is needed.
  pub too_long : (n : ℕ) → lines_reported what steps cells global ≡ none → n ≡ length (report_of what steps cells global) → length out < n
      → writer_refusal what steps cells global out ≡ some (ReportTooLong n)
  unfolding writer_refusal first or_else unless
  too_long n right counted h = rw (right, ← counted, lt-leb n (length out) h)

  pub fitting : (n : ℕ) → lines_reported what steps cells global ≡ none → n ≡ length (report_of what steps cells global) → n ≤ length out
      → writer_refusal what steps cells global out ≡ none
  unfolding writer_refusal first or_else unless
  fitting n right counted h = rw (right, ← counted, le-leb n (length out) h)

  pub fits : (n : ℕ) → n ≡ length (report_of what steps cells global) → n ≤ 24576 → FitsOutput what steps cells global
  fits n e h q = omega arith

  -- What a writer promises that answers and writes as the definition says.
  pub refusal_is : (r : Result ℕ Refusal) → r ≡ writer_answer what steps cells global out → told_in r ≡ told (writer_refusal what steps cells global out)
  unfolding writer_answer
  refusal_is r a = ap told_in a ∙ told_in_lem (writer_refusal what steps cells global out) _

  pub reads_as : (l : List ℕ) (r : Result ℕ Refusal) → r ≡ writer_answer what steps cells global out → l ≡ writer_buffer what steps cells global out
      → OfWritten (Readable what) r l
  unfolding writer_answer writer_buffer
  reads_as l r a b =
      rw (a, b) (of_written (Readable what) (writer_refusal what steps cells global out) (report_of what steps cells global) out (readable what steps cells global))

-- Whoever unfolds this sees what the writer answers and writes.
unfoldable pub defined : Unit {0}
unfolding report_of lines_reported writer_refusal writer_answer writer_buffer written_of kept_if first or_else unless
defined = tt
