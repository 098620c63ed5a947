-- An outcome's words, filled in one by one from the values of the report's lines. Assumes nothing.
use mathlib.Core.Path.{◌≡◌, refl, sym, ap, ◌∙◌}
use mathlib.Core.List.{List, [], ◌++◌}
use Prim.Native.Nat.{ℕ, ◌<◌}
use native.Mathlib.Omega.{arith}
use lib.ListN.{length, get_or, length-map, get_or-map}
use lib.Seq.{ext_get_or}
use Rattle.spec.specs.declared.Outcome.{Outcome}
use Rattle.spec.specs.declared.Value.{Value}
use Rattle.spec.specs.declared.Value.TheVariants as value
use Rattle.spec.specs.Report.{Line, head_with, head_lines, interval_lines}
use Rattle.reporttable.specs.Values.{run_values}
use Rattle.answerwords.specs.Codes.{value_code, word_count, outcome_words}

-- The first i words are the codes of the first i values.
pub record Coded (values : List Value) (i : ℕ) (words : List ℕ) : Type 0 where
  pub whole : length words ≡ word_count
  pub each : (k : ℕ) → k < i → get_or words k 0 ≡ value_code (get_or values k value.Hyphen)

blank : Line
blank = record { key = []; value = value.Hyphen }

-- The lines that have a word.
abbrev coded : Outcome → List Line
coded o = head_lines o ++ interval_lines o

coded_many : (o : Outcome) → length (coded o) ≡ word_count
unfolding head_lines head_with interval_lines
coded_many o = refl

code_at : (o : Outcome) (k : ℕ) → k < word_count → value_code (get_or (run_values o) k value.Hyphen) ≡ get_or (outcome_words o) k 0
unfolding run_values outcome_words value_code blank
code_at o k h =
    ap value_code (get_or-map (λ (l : Line). l.value) (coded o) k blank) ∙ sym (get_or-map (λ (l : Line). value_code l.value) (coded o) k blank)

pub all_coded : (o : Outcome) (values : List Value) (i : ℕ) (words : List ℕ) → Coded values i words → i ≡ word_count → values ≡ run_values o → words ≡ outcome_words o
unfolding outcome_words
all_coded o values i words d e ev =
    ext_get_or 0 words (outcome_words o) (d.whole ∙ sym (length-map (coded o) (λ (l : Line). value_code l.value) ∙ coded_many o)) λ k h.
    d.each k (omega (arith, d.whole)) ∙ ap (λ (v : List Value). value_code (get_or v k value.Hyphen)) ev ∙ code_at o k (omega (arith, d.whole))
