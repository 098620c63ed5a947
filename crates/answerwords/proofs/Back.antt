-- What an outcome's words say of it: all but the row and the group of a launch that has passed. Assumes nothing.
use Rattle.std.specs.Prelude.{Result, Ok, Err}
use mathlib.Core.Path.{◌≡◌, refl, sym, ◌∙◌, subst}
use mathlib.Core.List.{List}
use Prim.Native.Nat.{ℕ}
use native.Mathlib.Omega.{arith}
use Rattle.spec.specs.declared.AccessKind.{AccessKind}
use Rattle.spec.specs.declared.AccessKind.TheVariants.{ReadWrite, WriteRead, WriteWrite, ReadAdd, AddRead, WriteAdd, AddWrite}
use Rattle.spec.specs.declared.Verdict.{Verdict}
use Rattle.spec.specs.declared.Verdict.TheVariants.{Passed, Race, GroupRace, Outside, Common, Diverged, Spent}
use Rattle.spec.specs.declared.Outcome.{Outcome}
use Rattle.spec.specs.declared.Refusal.{Refusal}
use Rattle.spec.specs.Table.{Table}
use Rattle.spec.specs.Shape.{Sizes}
use Rattle.spec.specs.LaunchRun.{counted_barriers}
use Rattle.spec.specs.AllRuns.{PassedSays, Demand3}
use Rattle.spec.specs.Report.{details, details_of, head_with, head_lines, interval_lines, run_lines, ◌is◌}
use Rattle.spec.specs.Demands.{OfWritten, OfLength}
use Rattle.answerwords.specs.Codes.{length_in, verdict_code, kind_code, value_code, outcome_words, kind_from, verdict_from, outcome_from}

kind_back : (k : AccessKind) → kind_from (kind_code k) ≡ k
unfolding kind_from kind_code
kind_back ReadWrite = refl
kind_back WriteRead = refl
kind_back WriteWrite = refl
kind_back ReadAdd = refl
kind_back AddRead = refl
kind_back WriteAdd = refl
kind_back AddWrite = refl

-- The outcome that is read from the words of o has its verdict, and its report says the same.
abbrev SameBack : Outcome → Type 0
SameBack o =
    let p = outcome_from (outcome_words o) in
    (p.verdict ≡ o.verdict) × ((steps cells global : List ℕ) → run_lines p steps cells global ≡ run_lines o steps cells global)

words_back : (v : Verdict) (row group rows barriers conflicts : ℕ)
    → SameBack (record { verdict = v; row = row; group = group; rows = rows; barriers = barriers; conflicts = conflicts })
unfolding outcome_from outcome_words run_lines head_lines head_with interval_lines details_of details ◌is◌ value_code verdict_code verdict_from
words_back Passed row group rows barriers conflicts = (refl, λ steps cells global. refl)
words_back (Race thread other kind at) row group rows barriers conflicts = rw (kind_back kind) (refl, λ steps cells global. refl)
words_back (GroupRace thread other_group kind at) row group rows barriers conflicts = rw (kind_back kind) (refl, λ steps cells global. refl)
words_back (Outside thread at) row group rows barriers conflicts = (refl, λ steps cells global. refl)
words_back (Common thread at) row group rows barriers conflicts = (refl, λ steps cells global. refl)
words_back (Diverged thread other) row group rows barriers conflicts = (refl, λ steps cells global. refl)
words_back Spent row group rows barriers conflicts = (refl, λ steps cells global. refl)

pub same_back : (o : Outcome) → SameBack o
same_back o = words_back o.verdict o.row o.group o.rows o.barriers o.conflicts

-- So demand 3 may be said of the words.
demand_of : (T : Table) (Z : Sizes) (cells : List ℕ) (limit : ℕ) (o p : Outcome) (steps final : List ℕ) → p.verdict ≡ o.verdict
    → p.rows ≡ o.rows → p.barriers ≡ o.barriers → Demand3 T Z cells limit o steps final → Demand3 T Z cells limit p steps final
demand_of T Z cells limit o p steps final v r b d =
    record {
      exactly = λ n. let iff = d.exactly (λ s. n (v ∙ s)) in (λ q. iff.0 (sym v ∙ q), λ e. v ∙ iff.1 e);
      passed = λ q. subst (λ k. PassedSays T Z cells steps k final (counted_barriers T Z cells limit)) (sym b) (d.passed (sym v ∙ q));
      counted = d.counted ∙ sym b;
      spent = λ q. r ∙ d.spent (sym v ∙ q);
    }

pub words_demand : (T : Table) (Z : Sizes) (cells : List ℕ) (limit : ℕ) (o : Outcome) (steps final : List ℕ) → Demand3 T Z cells limit o steps final
    → Demand3 T Z cells limit (outcome_from (outcome_words o)) steps final
unfolding outcome_from outcome_words head_lines head_with interval_lines ◌is◌ value_code
words_demand T Z cells limit o steps final d =
    demand_of T Z cells limit o (outcome_from (outcome_words o)) steps final (same_back o).0 refl refl d

-- A report's length is 0 only where none was written.
pub of_length : (P : List ℕ → Type 0) (r : Result ℕ Refusal) (size : ℕ) (output : List ℕ) → size ≡ length_in r → OfWritten P r output → OfLength P size output
unfolding length_in
of_length P (Err why) size output e h l = absurd (omega arith)
of_length P (Ok n) size output e h l = rw e h
