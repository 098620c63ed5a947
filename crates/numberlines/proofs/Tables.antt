-- That the lines which the source declares are those of the definition, one by one. Assumes nothing.
use mathlib.Core.Path.{◌≡◌, refl, ◌∙◌}
use mathlib.Core.List.{List, [], ◌∷◌}
use Prim.Native.Nat.{ℕ, zero, suc, ◌+◌, ◌<◌, ◌≤◌}
use native.Mathlib.Omega.{arith}
use lib.ListN.{length, get_or, drop, length-drop}
use lib.Seq.{length-take-le, get_or-take, get_or-drop}
use Rattle.spec.specs.LaunchFile.{NumberLine}
use Rattle.numberlines.specs.declared.NumberLine as declared
use Rattle.numberlines.specs.Answered.{all_lines, lines_from, line_count, no_line, line_at, IsLine}

pub count_is_six : line_count ≡ 6
unfolding line_count
count_is_six = refl

unfoldable pub Alike : List NumberLine → List declared.NumberLine → Type 0
Alike [] [] = Unit {0}
Alike [] (r ∷ rs) = ⊥
Alike (l ∷ ls) [] = ⊥
Alike (l ∷ ls) (r ∷ rs) = IsLine l r × Alike ls rs

pub alike_at : (ls : List NumberLine) (rs : List declared.NumberLine) → Alike ls rs → (i : ℕ) (d : declared.NumberLine) → i < length ls → IsLine (get_or ls i no_line) (get_or rs i d)
unfolding Alike
alike_at [] rs a i d h = absurd (omega arith)
alike_at (l ∷ ls) [] a i d h = absurd a
alike_at (l ∷ ls) (r ∷ rs) a zero d h = a.0
alike_at (l ∷ ls) (r ∷ rs) a (suc i) d h = alike_at ls rs a.1 i d (omega arith)

-- So many of the lines, from some place on.
module _ (from n : ℕ) where
  pub from_count : from + n ≤ line_count → length (lines_from from n) ≡ n
  unfolding lines_from line_count
  from_count h = length-take-le n (drop from all_lines) (omega (arith, length-drop from all_lines))

  pub line_from : (i : ℕ) → i < n → get_or (lines_from from n) i no_line ≡ line_at (from + i)
  unfolding lines_from
  line_from i h = get_or-take n (drop from all_lines) i no_line h ∙ get_or-drop from all_lines i no_line
