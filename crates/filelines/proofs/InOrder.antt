-- That lines are read one by one: what is still to be read, put behind what has been read, is the whole. Assumes nothing.
use mathlib.Core.Path.{◌≡◌, refl, ◌∙◌}
use mathlib.Core.List.{List, [], ◌∷◌, ◌++◌, append_assoc, append-nil}
use Prim.Native.Nat.{ℕ, suc, ◌+◌, ◌<◌}
use native.Mathlib.Numerals.{add-one}
use native.Mathlib.Omega.{arith}
use lib.ListN.{length, get_or, drop, drop_of_length-le}
use lib.Seq.{drop-cons}
use Rattle.spec.specs.LaunchFile.{Read, stop, read, Reader, continue, ◌>>=◌, gives, in_order}
use Rattle.spec.specs.declared.Refusal.{Refusal}

-- The first k of the readers gave xs.
abbrev pub Going : {A : Type 0} → List (Reader A) → (line : ℕ) → (file : List ℕ) → (k : ℕ) → (rest : List ℕ) → List A → Type 0
Going ps line file k rest xs = in_order ps line file ≡ continue (in_order (drop k ps) (line + k) rest) (λ ys. gives (xs ++ ys))

module _ {A : Type 0} where
  behind_none : (r : Read (List A)) → r ≡ continue r (λ ys. gives ([] ++ ys))
  unfolding continue gives
  behind_none (stop why) = refl
  behind_none (read ys line rest) = refl

  behind_one : (xs : List A) (x : A) (r : Read (List A))
      → continue (continue r (λ ys. gives (x ∷ ys))) (λ ys. gives (xs ++ ys)) ≡ continue r (λ ys. gives ((xs ++ (x ∷ [])) ++ ys))
  unfolding continue gives
  behind_one xs x (stop why) = refl
  behind_one xs x (read ys line rest) = rw (append_assoc xs (x ∷ []) ys)

  module _ (p : Reader A) (ps : List (Reader A)) (line : ℕ) (rest : List ℕ) (xs : List A) where
    reads : (x : A) (next : ℕ) (left : List ℕ) → p line rest ≡ read x next left
        → continue (in_order (p ∷ ps) line rest) (λ ys. gives (xs ++ ys)) ≡ continue (in_order ps next left) (λ ys. gives ((xs ++ (x ∷ [])) ++ ys))
    unfolding in_order ◌>>=◌ continue
    reads x next left e = rw e (behind_one xs x (in_order ps next left))

    refuses : (why : Refusal) → p line rest ≡ stop why → continue (in_order (p ∷ ps) line rest) (λ ys. gives (xs ++ ys)) ≡ stop why
    unfolding in_order ◌>>=◌ continue
    refuses why e = rw e

module _ {A : Type 0} (ps : List (Reader A)) (line : ℕ) (file : List ℕ) where
  pub start : Going ps line file 0 file []
  start =
      let e : line + 0 ≡ line = omega arith in
      rw e (behind_none (in_order ps line file))

  -- `d` stands for a reader where there is none.
  module _ (d : Reader A) (k : ℕ) (rest : List ℕ) (xs : List A) (going : Going ps line file k rest xs) where
    pub more : k < length ps → (x : A) (left : List ℕ) → get_or ps k d (line + k) rest ≡ read x (suc (line + k)) left
        → Going ps line file (k + 1) left (xs ++ (x ∷ []))
    more h x left e =
        let next : line + (k + 1) ≡ suc (line + k) = omega arith in
        going ∙ rw (drop-cons ps k d h, next, add-one k) (reads (get_or ps k d) (drop (suc k) ps) (line + k) rest xs x (suc (line + k)) left e)

    pub stops : k < length ps → (why : Refusal) → get_or ps k d (line + k) rest ≡ stop why → in_order ps line file ≡ stop why
    stops h why e = going ∙ rw (drop-cons ps k d h) (refuses (get_or ps k d) (drop (suc k) ps) (line + k) rest xs why e)

    pub ends : k ≡ length ps → in_order ps line file ≡ read xs (line + k) rest
    unfolding in_order continue gives
    ends h = going ∙ rw (drop_of_length-le ps {i = k} (omega arith), append-nil xs)
