-- Answers as words: a length with a refusal's number and place beside it, and an outcome as eleven words. Assumes nothing.
use Rattle.std.specs.Prelude.{◌≡◌, List, [], ◌∷◌, ◌++◌, map, Bool, true, false, cond, ℕ, eqb, get_or, take, replicate, Result, Ok, Err}
use Rattle.spec.specs.declared.AccessKind.{AccessKind}
use Rattle.spec.specs.declared.AccessKind.TheVariants.{ReadWrite, WriteRead, WriteWrite, ReadAdd, AddRead, WriteAdd, AddWrite}
use Rattle.spec.specs.declared.Verdict.{Verdict}
use Rattle.spec.specs.declared.Verdict.TheVariants.{Passed, Race, GroupRace, Outside, Common, Diverged, Spent}
use Rattle.spec.specs.declared.Outcome.{Outcome}
use Rattle.spec.specs.declared.Value.{Value}
use Rattle.spec.specs.declared.Value.TheVariants as value
use Rattle.spec.specs.declared.Refusal.{Refusal}
use Rattle.refusals.specs.Words.{refusal_words}
use Rattle.spec.specs.Shape.{Sizes, all_threads}
use Rattle.spec.specs.Report.{Line, head_lines, interval_lines}
use Rattle.spec.specs.Entries.{bare_launch}
use Rattle.spec.specs.Demands.{LaunchDemand3}

-- A length with a refusal's number and place beside it; 0, and two zeros, where there is none.
unfoldable pub length_in : Result ℕ Refusal → ℕ
length_in (Err why) = 0
length_in (Ok n) = n

unfoldable pub refusal_in : Result ℕ Refusal → List ℕ
refusal_in (Err why) = refusal_words why
refusal_in (Ok n) = 0 ∷ 0 ∷ []

-- A verdict's code is never 0, so that words that were never written are no verdict. A race with another group has one of its own, so that the way back is exact.
unfoldable pub verdict_code : Verdict → ℕ
verdict_code Passed = 1
verdict_code (Race thread other kind at) = 2
verdict_code (GroupRace thread other_group kind at) = 6
verdict_code (Outside thread at) = 3
verdict_code (Common thread at) = 7
verdict_code (Diverged thread other) = 4
verdict_code Spent = 5

unfoldable pub kind_code : AccessKind → ℕ
kind_code ReadWrite = 1
kind_code WriteRead = 2
kind_code WriteWrite = 3
kind_code ReadAdd = 4
kind_code AddRead = 5
kind_code WriteAdd = 6
kind_code AddWrite = 7

-- What a line of the report says, as a word: 0 where it has no meaning.
unfoldable pub value_code : Value → ℕ
value_code value.Hyphen = 0
value_code (value.Number n) = n
value_code (value.Verdict v) = verdict_code v
value_code (value.Kind k) = kind_code k
value_code value.Report = 0

-- An outcome: a word for each line of the report's head, in their order, and then one for each line about its intervals.
abbrev pub word_count : ℕ
word_count = 11

unfoldable pub outcome_words : Outcome → List ℕ
outcome_words o = map (λ (l : Line). value_code l.value) (head_lines o ++ interval_lines o)

unfoldable pub ran_in : Result Outcome Refusal → Bool
ran_in (Err why) = false
ran_in (Ok o) = true

unfoldable pub outcome_in : Result Outcome Refusal → List ℕ
outcome_in (Err why) = replicate word_count 0
outcome_in (Ok o) = outcome_words o

unfoldable pub why_in : Result Outcome Refusal → List ℕ
why_in (Err why) = refusal_words why
why_in (Ok o) = 0 ∷ 0 ∷ []

-- The way back, for the report writer. A code that there is none of is read as spent, so that no slip becomes passed.
unfoldable pub kind_from : ℕ → AccessKind
kind_from code =
    cond (eqb code 1) ReadWrite (cond (eqb code 2) WriteRead (cond (eqb code 4) ReadAdd (cond (eqb code 5) AddRead (cond (eqb code 6) WriteAdd
    (cond (eqb code 7) AddWrite WriteWrite)))))

unfoldable pub verdict_from : (code other_group thread other kind at : ℕ) → Verdict
verdict_from code other_group thread other kind at =
    cond (eqb code 1) Passed
    (cond (eqb code 2) (Race thread other (kind_from kind) at) (cond (eqb code 3) (Outside thread at) (cond (eqb code 4) (Diverged thread other)
    (cond (eqb code 6) (GroupRace thread other_group (kind_from kind) at) (cond (eqb code 7) (Common thread at) Spent)))))

unfoldable pub outcome_from : List ℕ → Outcome
outcome_from ws =
    record {
      verdict = verdict_from (get_or ws 0 0) (get_or ws 3 0) (get_or ws 4 0) (get_or ws 5 0) (get_or ws 6 0) (get_or ws 7 0);
      row = get_or ws 1 0;
      group = get_or ws 2 0;
      rows = get_or ws 8 0;
      barriers = get_or ws 9 0;
      conflicts = get_or ws 10 0;
    }

-- Demand 3 of a bare launch, of the words that its caller is handed: the flag that it ran, the outcome's words, both kinds of cells and the step counts that
-- are left.
abbrev pub RanDemand3 : (table : List ℕ) → Sizes → (limit : ℕ) → (lent_cells lent_global : List ℕ) → (ran : Bool)
    → (outcome left left_global counts : List ℕ) → Type 0
RanDemand3 table Z limit lent_cells lent_global ran outcome left left_global counts =
    ran ≡ true → LaunchDemand3 (bare_launch table Z limit lent_cells lent_global) (outcome_from outcome) (take (all_threads Z) counts) (left ++ left_global)
