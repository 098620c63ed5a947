-- A refusal as two words: its number, then its place. Assumes nothing.
use Rattle.std.specs.Prelude.{List, [], ◌∷◌, ℕ}
use Rattle.spec.specs.declared.Refusal.{Refusal}
use Rattle.spec.specs.Answers.{refusal_number, refusal_place}

unfoldable pub refusal_words : Refusal → List ℕ
refusal_words why = refusal_number why ∷ refusal_place why ∷ []
