-- Lines of a text, as examples write them: as in document 01, `/` stands between the lines. Assumes nothing.
use mathlib.Core.List.{List, [], ◌∷◌}
use mathlib.Core.Bool.{cond}
use Prim.Native.Nat.{ℕ}
use Prim.Native.String.{String}
use lib.Dec.{eqb}
use Rattle.spec.specs.Text.{text, newline}

unfoldable pub with_newlines : List ℕ → List ℕ
with_newlines [] = newline ∷ []
with_newlines (b ∷ bs) = cond (eqb b 47) newline b ∷ with_newlines bs

unfoldable pub lines : String → List ℕ
lines s = with_newlines (text s)
