-- A stretch put into lists that are joined, or word by word. Assumes nothing.
use mathlib.Core.Path.{◌≡◌, sym, ◌∙◌, ap, ap₂}
use mathlib.Core.List.{List, ◌++◌, append_assoc}
use Prim.Native.Nat.{ℕ, ◌+◌, ◌-◌, ◌≤◌, ◌<◌}
use native.Mathlib.Numerals.{add-one}
use native.Mathlib.Omega.{arith}
use lib.ListN.{length, get_or, set, take, drop, replicate, length-append, length-replicate, replicate-append-replicate}
use lib.Seq.{take-append-le, drop-append-le, take-append-add, drop-append-add, drop_at, paste, paste-suc}
use Rattle.layout.specs.Views.{put_part}

module _ {A : Type 0} where
  -- A stretch of what stands behind xs; one of xs.
  pub put_behind : (a : ℕ) (ys xs zs : List A) → put_part (length xs + a) ys (xs ++ zs) ≡ xs ++ put_part a ys zs
  unfolding put_part
  put_behind a ys xs zs =
      ap₂ (λ l r. l ++ (ys ++ r)) (take-append-add xs zs a)
      (ap (λ (j : ℕ). drop j (xs ++ zs)) (let e : length xs + a + length ys ≡ length xs + (a + length ys) = omega arith in e)
      ∙ drop-append-add xs zs (a + length ys))
      ∙ append_assoc xs (take a zs) (ys ++ drop (a + length ys) zs)

  pub put_before : (a : ℕ) (ys xs zs : List A) → a + length ys ≤ length xs → put_part a ys (xs ++ zs) ≡ put_part a ys xs ++ zs
  unfolding put_part
  put_before a ys xs zs h =
      ap₂ (λ l r. l ++ (ys ++ r)) (take-append-le a xs zs (omega arith)) (drop-append-le (a + length ys) xs zs h)
      ∙ ap (λ r. take a xs ++ r) (sym (append_assoc ys (drop (a + length ys) xs) zs))
      ∙ sym (append_assoc (take a xs) (ys ++ drop (a + length ys) xs) zs)

  -- What fills the front of a list.
  pub put_front : (ys xs zs : List A) → length ys ≡ length xs → put_part 0 ys (xs ++ zs) ≡ ys ++ zs
  unfolding put_part
  put_front ys xs zs e = ap (λ r. ys ++ r) (drop_at xs zs (0 + length ys) (omega arith))

-- One word more of ys.
pub put_more : (xs ys l : List ℕ) (at k : ℕ) → l ≡ paste xs at ys k → at + k < length xs → k < length ys → set l (at + k) (get_or ys k 0) ≡ paste xs at ys (k + 1)
put_more xs ys l at k e h m = rw e (paste-suc xs at ys k 0 h m) ∙ ap (paste xs at ys) (sym (add-one k))

-- Counts put behind others, in a buffer of n words that is 0 from there on.
pub counts_put : (n : ℕ) (us vs steps : List ℕ) → steps ≡ us ++ replicate (n - length us) 0 → length us + length vs ≤ n
    → put_part (length us) vs steps ≡ (us ++ vs) ++ replicate (n - length (us ++ vs)) 0
counts_put n us vs steps e h =
    let left = n - length us - length vs in
    let split : replicate {A = ℕ} (n - length us) 0 ≡ replicate (length vs) 0 ++ replicate left 0 =
    ap (λ (j : ℕ). replicate j 0) (let z : n - length us ≡ length vs + left = omega arith in z) ∙ sym (replicate-append-replicate (length vs) left 0) in
    ap₂ (λ (a : ℕ) (r : List ℕ). put_part a vs r) (let z : length us ≡ length us + 0 = omega arith in z) (e ∙ ap (λ r. us ++ r) split)
    ∙ put_behind 0 vs us (replicate (length vs) 0 ++ replicate left 0)
    ∙ ap (λ r. us ++ r) (put_front vs (replicate (length vs) 0) (replicate left 0) (sym (length-replicate (length vs) 0)))
    ∙ sym (append_assoc us vs (replicate left 0))
    ∙ ap (λ (j : ℕ). (us ++ vs) ++ replicate j 0) (let l = length-append us vs in let z : left ≡ n - length (us ++ vs) = omega arith in z)
