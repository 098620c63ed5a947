-- That `==` compares two texts as the definition does. Assumes nothing.
use mathlib.Core.Path.{◌≡◌, refl, ap}
use mathlib.Core.List.{List, [], ◌∷◌}
use mathlib.Core.Bool.{◌&&◌}
use Prim.Native.Nat.{ℕ}
use lib.Dec.{eqb}
use lib.Pointwise.{pointwise}
use Rattle.spec.specs.Lists.{equal_list}

pub compared : (s t : List ℕ) → pointwise eqb s t ≡ equal_list s t
unfolding equal_list
compared [] [] = refl
compared [] (y ∷ t) = refl
compared (x ∷ s) [] = refl
compared (x ∷ s) (y ∷ t) = ap (λ b. eqb x y && b) (compared s t)
