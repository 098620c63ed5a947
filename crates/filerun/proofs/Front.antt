-- The front of a buffer, lent by itself and given back. Assumes nothing.
use mathlib.Core.Path.{◌≡◌, refl, sym, ap, ◌∙◌}
use mathlib.Core.List.{List, ◌++◌}
use Prim.Native.Nat.{ℕ, ◌+◌, ◌≤◌}
use native.Mathlib.Omega.{arith}
use lib.ListN.{length, take, drop}
use lib.Seq.{drop_at, length-take-le}
use Rattle.spec.specs.Entries.{over}
use Rattle.layout.specs.Views.{put_part}

pub front_length : (k : ℕ) (xs : List ℕ) → k ≤ length xs → k ≡ length (take k xs)
front_length k xs h = sym (length-take-le k xs h)

-- As much given back at the front stands over what was there at first.
pub given_back : (k : ℕ) (ys xs : List ℕ) → length ys ≡ k → ys ++ drop k xs ≡ over ys xs
unfolding over
given_back k ys xs e = ap (λ (n : ℕ). ys ++ drop n xs) (sym e)

pub given_back_over : (w ys xs l : List ℕ) → l ≡ over w xs → length ys ≡ length w → ys ++ drop (length w) l ≡ over ys xs
unfolding over
given_back_over w ys xs l q e =
    ap (λ (p : List ℕ). ys ++ p) (ap (drop (length w)) q ∙ drop_at w (drop (length w) xs) (length w) refl) ∙ given_back (length w) ys xs e

-- Words put at the front stand over what was there.
pub placed_over : (w xs placed : List ℕ) → placed ≡ put_part 0 w xs → placed ≡ over w xs
unfolding over put_part
placed_over w xs placed e = e ∙ ap (λ n. w ++ drop n xs) (let z : 0 + length w ≡ length w = omega arith in z)
