-- Tests one after the other, as the code makes them. Assumes nothing.
use mathlib.Core.Path.{◌≡◌, refl, ap}
use mathlib.Core.List.{List, [], ◌∷◌}
use mathlib.Core.Option.{Option, none, some}
use Rattle.spec.specs.declared.Refusal.{Refusal}
use Rattle.spec.specs.Answers.{or_else, first}

pub ends : first [] ≡ none
unfolding first
ends = refl

-- A test that is done already: where it fails it is the answer, where it holds it leaves it to those behind it.
pub found : (x : Option Refusal) (r : Refusal) (xs : List (Option Refusal)) → x ≡ some r → first (x ∷ xs) ≡ some r
unfolding first or_else
found x r xs e = ap (λ z. or_else z (first xs)) e

pub passed : (x : Option Refusal) (xs : List (Option Refusal)) → x ≡ none → first (x ∷ xs) ≡ first xs
unfolding first or_else
passed x xs e = ap (λ z. or_else z (first xs)) e
