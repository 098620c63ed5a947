-- That the first b of a text divides it as the definition does. Assumes nothing.
use mathlib.Core.Path.{◌≡◌, refl, sym}
use mathlib.Core.List.{List, [], ◌∷◌}
use mathlib.Core.Bool.{Bool, true, false, cond}
use mathlib.Core.Option.{none, some}
use Prim.Native.Nat.{ℕ, zero, suc, ◌+◌, ◌<◌}
use native.Mathlib.Numerals.{add-one}
use native.Mathlib.Omega.{arith}
use borrow.Author.Tests.{eq-eqb, ne_eqb, eqb-true, eqb-false, ltb-true, ltb-false}
use lib.Dec.{eqb, ltb}
use lib.ListN.{length, get_or, take, drop}
use Rattle.std.specs.Prelude.{Option, Some, None}
use Rattle.std.specs.List.{position_or_len}
use Rattle.std.proofs.lemmas.List.Sums.{passes_at_first, fails_before_first}
use Rattle.std.proofs.lemmas.Option.{cond_some, none-some}
use Rattle.spec.specs.Text.{starting_with, split_at}

first_at : (b : ℕ) (s : List ℕ) (i : ℕ) → i < length s → get_or s i 0 ≡ b → ((k : ℕ) → k < i → get_or s k 0 ≡ b → ⊥)
    → split_at b s ≡ some (record { before = take i s; behind = drop (suc i) s })
unfolding split_at starting_with
first_at b [] i h e n = absurd (omega arith)
first_at b (x ∷ xs) zero h e n = simp (eq-eqb x b e)
first_at b (x ∷ xs) (suc i) h e n =
    simp (ne_eqb x b (n zero (omega arith)), first_at b xs i (omega arith) e (λ k l. n (suc k) (omega arith)))

never : (b : ℕ) (s : List ℕ) → ((k : ℕ) → k < length s → get_or s k 0 ≡ b → ⊥) → split_at b s ≡ none
unfolding split_at starting_with
never b [] n = refl
never b (x ∷ xs) n = simp (ne_eqb x b (n zero (omega arith)), never b xs (λ k l. n (suc k) (omega arith)))

-- The place of the first b, as `position` answers it.
abbrev pub place_of : ℕ → List ℕ → Option ℕ
place_of b s = cond (ltb (position_or_len (λ x. eqb x b) s) (length s)) (Some (position_or_len (λ x. eqb x b) s)) None

pub found : (b : ℕ) (s : List ℕ) (i : ℕ) → place_of b s ≡ Some i → split_at b s ≡ some (record { before = take i s; behind = drop (i + 1) s })
found b s i e =
    let h = cond_some _ _ _ e in
    rw (add-one i, ← h.1)
    (first_at b s _ (ltb-true _ _ h.0) (eqb-true _ _ (passes_at_first (λ x. eqb x b) s 0 (ltb-true _ _ h.0))) (λ k l. eqb-false _ _ (fails_before_first (λ x. eqb x b) s k 0 l)))

pub missing : (b : ℕ) (s : List ℕ) → place_of b s ≡ None → split_at b s ≡ none
missing b s e = by (ltb (position_or_len (λ x. eqb x b) s) (length s)) refl e
  where
    by : (t : Bool) → ltb (position_or_len (λ x. eqb x b) s) (length s) ≡ t → cond t (Some (position_or_len (λ x. eqb x b) s)) None ≡ None → split_at b s ≡ none
    by true q p = absurd (none-some _ (sym p))
    by false q p = never b s (λ k l. eqb-false _ _ (fails_before_first (λ x. eqb x b) s k 0 (omega (arith, ltb-false _ _ q))))
