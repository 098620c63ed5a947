-- Facts on Booleans and on `any_below`. Assumes nothing.
use mathlib.Core.Path.{◌≡◌, refl, sym, ◌∙◌, ap, ap₂}
use mathlib.Core.Logic.{◌↔◌}
use mathlib.Core.Bool.{Bool, true, false, not, ◌&&◌, ◌||◌, or_comm, true≢false, false≢true, and-false, or-false}
use Prim.Native.Nat.{ℕ, zero, suc, ◌<◌}
use native.Mathlib.Omega.{arith}
use native.Mathlib.Decide.{ℕ_discrete}
use lib.Dec.{eqb}
use borrow.Author.Tests.{eq-eqb, ne_eqb}
use Rattle.spec.specs.Threads.{any_below}

pub and_left : (a b : Bool) → (a && b) ≡ true → a ≡ true
and_left true b h = refl
and_left false b h = h

pub and_right : (a b : Bool) → (a && b) ≡ true → b ≡ true
and_right true b h = h
and_right false b h = absurd (false≢true h)

pub and_make : {a b : Bool} → a ≡ true → b ≡ true → (a && b) ≡ true
and_make {a} {b} p q = ap₂ ◌&&◌ p q

pub not_is : (a : Bool) → not a ≡ true → a ≡ false
not_is true h = sym h
not_is false h = refl

pub or_left_false : (a b : Bool) → (a || b) ≡ false → a ≡ false
or_left_false true b q = q
or_left_false false b q = refl

pub or_right_false : (a b : Bool) → (a || b) ≡ false → b ≡ false
or_right_false true b q = absurd (true≢false q)
or_right_false false b q = q

pub or_never : (a b c : Bool) → (a || (b && (c && false))) ≡ a
or_never a b c = ap (λ x. a || (b && x)) (and-false c) ∙ ap (λ x. a || x) (and-false b) ∙ or-false a

-- Of four, the inner two swapped.
pub or_pairs : (a b c d : Bool) → (a || b || (c || d)) ≡ (a || c || (b || d))
or_pairs true b c d = refl
or_pairs false true true d = refl
or_pairs false true false d = refl
or_pairs false false c d = refl

pub below_same : (n : ℕ) (p q : ℕ → Bool) → ((v : ℕ) → v < n → p v ≡ q v) → any_below n p ≡ any_below n q
unfolding any_below
below_same zero p q h = refl
below_same (suc n) p q h = ap₂ ◌||◌ (h n (omega arith)) (below_same n p q (λ v l. h v (omega arith)))

-- The test holds for no number below n, or for one.
pub below_none : (n : ℕ) (p : ℕ → Bool) → (any_below n p ≡ false) ↔ ((v : ℕ) → v < n → p v ≡ false)
unfolding any_below
below_none zero p = (λ q v l. absurd (omega arith), λ h. refl)
below_none (suc n) p = (
  λ q v l. at v (ℕ_discrete v n) l (or_left_false (p n) _ q) ((below_none n p).0 (or_right_false (p n) _ q)),
  λ h. ap₂ ◌||◌ (h n (omega arith)) ((below_none n p).1 (λ v l. h v (omega arith))),
)
  where
    at : (v : ℕ) → Dec (v ≡ n) → v < suc n → p n ≡ false → ((v : ℕ) → v < n → p v ≡ false) → p v ≡ false
    at v (yes e) l q ih = ap p e ∙ q
    at v (no e) l q ih = ih v (omega arith)

pub below_some : (n : ℕ) (p : ℕ → Bool) → any_below n p ≡ true → (v : ℕ) × (v < n) × (p v ≡ true)
unfolding any_below
below_some zero p q = absurd (false≢true q)
below_some (suc n) p q = at (p n) refl (below_some n p)
  where
    at : (b : Bool) → p n ≡ b → (any_below n p ≡ true → (v : ℕ) × (v < n) × (p v ≡ true)) → (v : ℕ) × (v < suc n) × (p v ≡ true)
    at true e ih = (n, omega arith, e)
    at false e ih = let (v, l, h) = ih (sym (ap (λ b. b || any_below n p) e) ∙ q) in (v, omega arith, h)

-- One more number for which the test holds where w does.
pub below_more : (n : ℕ) (p : ℕ → Bool) (t : ℕ) (w : Bool) → t < n → any_below n (λ v. p v || (eqb v t && w)) ≡ (any_below n p || w)
unfolding any_below
below_more zero p t w h = absurd (omega arith)
below_more (suc n) p t w h = at (ℕ_discrete n t) (below_more n p t w)
  where
    swap : (a b c : Bool) → (a || c || b) ≡ (a || b || c)
    swap true b c = refl
    swap false b c = or_comm c b

    at : Dec (n ≡ t) → (t < n → any_below n (λ v. p v || (eqb v t && w)) ≡ (any_below n p || w))
        → (p n || (eqb n t && w) || any_below n (λ v. p v || (eqb v t && w))) ≡ (p n || any_below n p || w)
    at (yes e) ih =
        ap₂ (λ x y. p n || (x && w) || y) (eq-eqb n t e)
        (below_same n (λ v. p v || (eqb v t && w)) p (λ v l. ap (λ x. p v || (x && w)) (ne_eqb v t (λ q. omega arith)) ∙ or-false (p v)))
        ∙ swap (p n) (any_below n p) w
    at (no e) ih =
        ap₂ (λ x y. p n || (x && w) || y) (ne_eqb n t e) (ih (omega arith)) ∙ fin (p n) (any_below n p) w
      where
        fin : (a b c : Bool) → (a || false || (b || c)) ≡ (a || b || c)
        fin true b c = refl
        fin false b c = refl

pub below_or : (n : ℕ) (p q : ℕ → Bool) → any_below n (λ v. p v || q v) ≡ (any_below n p || any_below n q)
unfolding any_below
below_or zero p q = refl
below_or (suc n) p q = ap (λ b. p n || q n || b) (below_or n p q) ∙ or_pairs (p n) (q n) (any_below n p) (any_below n q)

pub below_and : (n : ℕ) (c : Bool) (p : ℕ → Bool) → any_below n (λ v. c && p v) ≡ (c && any_below n p)
unfolding any_below
below_and zero true p = refl
below_and zero false p = refl
below_and (suc n) true p = refl
below_and (suc n) false p = below_and n false p
