-- Lists. Assumes nothing.
use mathlib.Core.Path.{◌≡◌, refl}
use mathlib.Core.List.{List, [], ◌∷◌, map}
use Prim.Native.Nat.{ℕ, zero, suc, ◌<◌}
use native.Mathlib.Omega.{arith}
use lib.ListN.{length, get_or}

pub get_d_map_at : {A B : Type 0} (f : A → B) (xs : List A) (i : ℕ) (d : A) (e : B) → i < length xs → get_or (map f xs) i e ≡ f (get_or xs i d)
get_d_map_at f [] i d e l = absurd (omega arith)
get_d_map_at f (x ∷ xs) zero d e l = refl
get_d_map_at f (x ∷ xs) (suc i) d e l = get_d_map_at f xs i d e (omega arith)
