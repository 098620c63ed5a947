-- A part of a slice that is lent, and the slice with it given back. Assumes nothing.
use mathlib.Core.Path.{◌≡◌, ◌∙◌, ap}
use mathlib.Core.List.{List, ◌++◌}
use Prim.Native.Nat.{ℕ, ◌+◌, ◌-◌}
use native.Mathlib.Omega.{arith}
use lib.ListN.{length, take, drop}
use lib.Seq.{drop-drop}
use borrow.Rule.Slice.PartMut.{mid_of, put_mid}
use Rattle.layout.specs.Views.{part, put_part}

pub lent_part : (a k : ℕ) (xs : List ℕ) → mid_of a (a + k - a) xs ≡ part a k xs
unfolding part
lent_part a k xs = ap (λ j. take j (drop a xs)) (let z : a + k - a ≡ k = omega arith in z)

pub given_back : (a k : ℕ) (xs ys : List ℕ) → length ys ≡ k → put_mid a (a + k - a) xs ys ≡ put_part a ys xs
unfolding put_part
given_back a k xs ys e =
    let j : a + (a + k - a) ≡ a + length ys = omega arith in
    ap (λ r. take a xs ++ (ys ++ r)) (drop-drop (a + k - a) a xs ∙ ap (λ i. drop i xs) j)
