-- Kinds of words put into a buffer of longer kinds: each kind gets its own. Assumes nothing.
use mathlib.Core.Path.{◌≡◌, refl, sym, ◌∙◌, ap, ap₂}
use mathlib.Core.List.{List, [], ◌∷◌, ◌++◌, append_assoc}
use Prim.Native.Nat.{ℕ, zero, suc, ◌+◌, ◌*◌, ◌≤◌}
use native.Mathlib.Omega.{arith}
use lib.ListN.{length, take, drop, length-append}
use lib.Seq.{take_at, drop_at, drop-drop}
use Rattle.spec.specs.Lists.{joined}
use Rattle.layout.specs.Views.{part, put_part}
use Rattle.layout.proofs.Lists.{Even, later}
use Rattle.layout.proofs.Parts.{put_size}
use Rattle.placing.specs.Kinds.{kind_placed, kinds_placed}
use Rattle.placing.proofs.Stretches.{put_behind, put_before}

-- Kind n + 1 is kind n of those behind the first.
kind_later : (first total at k n : ℕ) (words to : List ℕ)
    → kind_placed first total at k (suc n) words to ≡ kind_placed (first + 1) total at k n (drop k words) to
unfolding kind_placed part
kind_later first total at k n words to =
    ap₂ (λ (p : ℕ) (ys : List ℕ). put_part p ys to) (let e : (first + suc n) * total + at ≡ (first + 1 + n) * total + at = omega arith in e)
    (ap (take k) (ap (λ (i : ℕ). drop i words) (let e : suc n * k ≡ k + n * k = omega arith in e) ∙ sym (drop-drop (n * k) k words)))

-- The first kind put before the others.
kinds_first : (first total at k n : ℕ) (words to : List ℕ)
    → kinds_placed first total at k (suc n) words to ≡ kinds_placed (first + 1) total at k n (drop k words) (kind_placed first total at k 0 words to)
unfolding kinds_placed
kinds_first first total at k zero words to = refl
kinds_first first total at k (suc n) words to =
    ap (kind_placed first total at k (suc n) words) (kinds_first first total at k n words to)
    ∙ kind_later first total at k n words (kinds_placed (first + 1) total at k n (drop k words) (kind_placed first total at k 0 words to))

-- Lists of words, each with those of the other list put in.
unfoldable pub put_each : (at : ℕ) → (yss xss : List (List ℕ)) → List (List ℕ)
put_each at [] xss = xss
put_each at (ys ∷ yss) [] = []
put_each at (ys ∷ yss) (xs ∷ xss) = put_part at ys xs ∷ put_each at yss xss

module _ (total at k : ℕ) (h : at + k ≤ total) where
  first_put : (first : ℕ) (front ys xs words rest : List ℕ) → length front ≡ first * total → length ys ≡ k → length xs ≡ total
      → kind_placed first total at k 0 (ys ++ words) (front ++ (xs ++ rest)) ≡ (front ++ put_part at ys xs) ++ rest
  unfolding kind_placed part
  first_put first front ys xs words rest f y x =
      ap₂ (λ (p : ℕ) (vs : List ℕ). put_part p vs (front ++ (xs ++ rest)))
      (let e : (first + 0) * total + at ≡ length front + at = omega arith in e)
      (ap (λ (i : ℕ). take k (drop i (ys ++ words))) (let e : 0 * k ≡ 0 = omega arith in e) ∙ take_at ys words k y)
      ∙ put_behind at ys front (xs ++ rest)
      ∙ ap (λ r. front ++ r) (put_before at ys xs rest (omega arith))
      ∙ sym (append_assoc front (put_part at ys xs) rest)

  -- Each kind of a part's words goes to place `at` of its kind of the launch's; `front` holds the kinds before.
  pub kinds_put : (first : ℕ) (front rest : List ℕ) (yss xss : List (List ℕ)) → length front ≡ first * total → Even k yss → Even total xss
      → length yss ≡ length xss
      → kinds_placed first total at k (length yss) (joined yss) (front ++ (joined xss ++ rest)) ≡ front ++ (joined (put_each at yss xss) ++ rest)
  unfolding joined put_each
  kinds_put first front rest [] xss f Y X e = unfold kinds_placed in refl
  kinds_put first front rest (ys ∷ yss) [] f Y X e = absurd (omega arith)
  kinds_put first front rest (ys ∷ yss) (xs ∷ xss) f Y X e =
      let y : length ys ≡ k = Y 0 (omega arith) in
      let x : length xs ≡ total = X 0 (omega arith) in
      let size : length (front ++ put_part at ys xs) ≡ (first + 1) * total =
      length-append front (put_part at ys xs) ∙ (let s = put_size at ys xs (omega arith) in omega arith) in
      kinds_first first total at k (length yss) (ys ++ joined yss) (front ++ ((xs ++ joined xss) ++ rest))
      ∙ ap₂ (kinds_placed (first + 1) total at k (length yss)) (drop_at ys (joined yss) k y)
      (ap (λ r. kind_placed first total at k 0 (ys ++ joined yss) (front ++ r)) (append_assoc xs (joined xss) rest)
      ∙ first_put first front ys xs (joined yss) (joined xss ++ rest) f y x)
      ∙ kinds_put (first + 1) (front ++ put_part at ys xs) rest yss xss size (later k ys yss Y) (later total xs xss X) (omega arith)
      ∙ append_assoc front (put_part at ys xs) (joined (put_each at yss xss) ++ rest)
      ∙ ap (λ r. front ++ r) (sym (append_assoc (put_part at ys xs) (joined (put_each at yss xss)) rest))
