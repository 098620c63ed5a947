-- Lists that are mapped, joined and changed at one place. Assumes nothing.
use mathlib.Core.Path.{◌≡◌, refl, ◌∙◌, ap, ap₂}
use mathlib.Core.List.{List, [], ◌∷◌, ◌++◌, map}
use Prim.Native.Nat.{ℕ, zero, suc, ◌+◌, ◌*◌, ◌<◌}
use native.Mathlib.Nat.{not-suc-le-zero}
use native.Mathlib.Omega.{arith}
use lib.ListN.{length, get_or, set, replicate, length-append, replicate-append-replicate, get_or-append}
use lib.Seq.{get_or-append-add, set-append_left}
use Rattle.spec.specs.Lists.{joined}

pub map_set : {A B : Type 0} (f : A → B) (l : List A) (i : ℕ) (a : A) → map f (set l i a) ≡ set (map f l) i (f a)
map_set f [] i a = refl
map_set f (x ∷ l) zero a = refl
map_set f (x ∷ l) (suc i) a = ap (λ z. f x ∷ z) (map_set f l i a)

pub set_append_right : {A : Type 0} (xs ys : List A) (i : ℕ) (a : A) → set (xs ++ ys) (length xs + i) a ≡ xs ++ set ys i a
set_append_right [] ys i a = ap (λ k. set ys k a) (let z : 0 + i ≡ i = omega arith in z)
set_append_right (x ∷ xs) ys i a =
    ap (λ k. set (x ∷ (xs ++ ys)) k a) (let z : suc (length xs) + i ≡ suc (length xs + i) = omega arith in z) ∙ ap (λ z. x ∷ z) (set_append_right xs ys i a)

-- Lists of k words each, one behind the other: word c of the q-th is the one at q * k + c.
module _ (k : ℕ) where
  abbrev pub Even : List (List ℕ) → Type 0
  Even xss = (q : ℕ) → q < length xss → length (get_or xss q []) ≡ k

  pub later : (xs : List ℕ) (xss : List (List ℕ)) → Even (xs ∷ xss) → Even xss
  later xs xss E q h = E (suc q) (omega arith)

  pub joined_size : (xss : List (List ℕ)) → Even xss → length (joined xss) ≡ length xss * k
  unfolding joined
  joined_size [] E = omega arith
  joined_size (xs ∷ xss) E = length-append xs (joined xss) ∙ (let e = E 0 (omega arith) in let rest = joined_size xss (later xs xss E) in omega arith)

  pub joined_at : (xss : List (List ℕ)) → Even xss → (q c : ℕ) → q < length xss → c < k → get_or (joined xss) (q * k + c) 0 ≡ get_or (get_or xss q []) c 0
  unfolding joined
  joined_at [] E q c h l = absurd (not-suc-le-zero h)
  joined_at (xs ∷ xss) E zero c h l =
      ap (λ z. get_or (xs ++ joined xss) z 0) (let e : 0 * k + c ≡ c = omega arith in e) ∙ get_or-append xs (joined xss) 0 c (omega (arith, E 0 (omega arith)))
  joined_at (xs ∷ xss) E (suc q) c h l =
      ap (λ z. get_or (xs ++ joined xss) z 0) (let e : suc q * k + c ≡ length xs + (q * k + c) = omega (arith, E 0 (omega arith)) in e)
      ∙ get_or-append-add xs (joined xss) (q * k + c) 0 ∙ joined_at xss (later xs xss E) q c (omega arith) l

  pub joined_set : (xss : List (List ℕ)) → Even xss → (q c w : ℕ) → q < length xss → c < k
      → set (joined xss) (q * k + c) w ≡ joined (set xss q (set (get_or xss q []) c w))
  unfolding joined
  joined_set [] E q c w h l = absurd (not-suc-le-zero h)
  joined_set (xs ∷ xss) E zero c w h l =
      ap (λ z. set (xs ++ joined xss) z w) (let e : 0 * k + c ≡ c = omega arith in e) ∙ set-append_left xs (joined xss) c w (omega (arith, E 0 (omega arith)))
  joined_set (xs ∷ xss) E (suc q) c w h l =
      ap (λ z. set (xs ++ joined xss) z w) (let e : suc q * k + c ≡ length xs + (q * k + c) = omega (arith, E 0 (omega arith)) in e)
      ∙ set_append_right xs (joined xss) (q * k + c) w ∙ ap (λ z. xs ++ z) (joined_set xss (later xs xss E) q c w (omega arith) l)

  pub joined_zeros : (xss : List (List ℕ)) → ((q : ℕ) → q < length xss → get_or xss q [] ≡ replicate k 0) → joined xss ≡ replicate (length xss * k) 0
  unfolding joined
  joined_zeros [] Z = ap (λ (j : ℕ). replicate j 0) (let e : 0 ≡ 0 * k = omega arith in e)
  joined_zeros (xs ∷ xss) Z =
      ap₂ ◌++◌ (Z 0 (omega arith)) (joined_zeros xss (λ q h. Z (suc q) (omega arith))) ∙ replicate-append-replicate k (length xss * k) 0
      ∙ ap (λ (j : ℕ). replicate j 0) (let e : k + length xss * k ≡ suc (length xss) * k = omega arith in e)
