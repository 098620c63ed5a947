-- The cells that a row has used, in any order: how many of them are in a bank. Assumes nothing.
use mathlib.Core.Path.{◌≡◌, refl, sym, ◌∙◌, ap}
use mathlib.Core.List.{List, [], ◌∷◌, ◌++◌}
use mathlib.Core.Bool.{Bool, true, false, cond, ◌||◌}
use Prim.Native.Nat.{ℕ, zero, suc, ◌+◌}
use native.Mathlib.Omega.{arith}
use native.Mathlib.Decide.{ℕ_discrete}
use borrow.Author.Tests.{eq-eqb, ne_eqb}
use lib.Dec.{eqb}
use Rattle.spec.specs.Lists.{any_of}
use Rattle.spec.specs.Banks.{different, in_bank, most_in_bank}

pub among_self : (i : ℕ) (used : List ℕ) → any_of (eqb i) (i ∷ used) ≡ true
unfolding any_of
among_self i used = ap (λ (b : Bool). b || any_of (eqb i) used) (eq-eqb i i refl)

pub among_other : (x i : ℕ) (used : List ℕ) → (x ≡ i → ⊥) → any_of (eqb x) (i ∷ used) ≡ any_of (eqb x) used
unfolding any_of
among_other x i used n = ap (λ (b : Bool). b || any_of (eqb x) used) (ne_eqb x i n)

-- A cell more counts in its bank unless it is among the others.
abbrev weight : (b : ℕ) → (among : Bool) → (c : ℕ) → ℕ
weight b among c = cond among 0 (in_bank b (c ∷ []))

pub bank_cons : (b c : ℕ) (cs : List ℕ) → in_bank b (different (c ∷ cs)) ≡ weight b (any_of (eqb c) cs) c + in_bank b (different cs)
unfolding different in_bank
bank_cons b c cs = by (any_of (eqb c) cs)
  where
    by : (a : Bool) → in_bank b (cond a (different cs) (c ∷ different cs)) ≡ weight b a c + in_bank b (different cs)
    by true = omega arith
    by false = omega arith

-- Two cells change places.
swap : (b x y : ℕ) (cs : List ℕ) → in_bank b (different (y ∷ x ∷ cs)) ≡ in_bank b (different (x ∷ y ∷ cs))
swap b x y cs = by (ℕ_discrete x y)
  where
    by : Dec (x ≡ y) → in_bank b (different (y ∷ x ∷ cs)) ≡ in_bank b (different (x ∷ y ∷ cs))
    by (yes e) = rw e refl
    by (no n) =
        let xs = bank_cons b y (x ∷ cs) ∙ ap (λ a. weight b a y + in_bank b (different (x ∷ cs))) (among_other y x cs (λ e. n (sym e))) in
        let ys = bank_cons b x (y ∷ cs) ∙ ap (λ a. weight b a x + in_bank b (different (y ∷ cs))) (among_other x y cs n) in
        omega (arith, xs, ys, bank_cons b x cs, bank_cons b y cs)

among_front : (z x : ℕ) (l cs : List ℕ) → any_of (eqb z) (l ++ (x ∷ cs)) ≡ any_of (eqb z) (x ∷ (l ++ cs))
unfolding any_of
among_front z x [] cs = refl
among_front z x (y ∷ l) cs = ap (λ a. eqb z y || a) (among_front z x l cs) ∙ turn (eqb z y) (eqb z x) (any_of (eqb z) (l ++ cs))
  where
    turn : (p q r : Bool) → p || (q || r) ≡ q || (p || r)
    turn true true r = refl
    turn true false r = refl
    turn false true r = refl
    turn false false r = refl

-- A cell goes to the front.
front : (b x : ℕ) (l cs : List ℕ) → in_bank b (different (l ++ (x ∷ cs))) ≡ in_bank b (different (x ∷ (l ++ cs)))
front b x [] cs = refl
front b x (y ∷ l) cs =
    bank_cons b y (l ++ (x ∷ cs)) ∙ ap (λ a. weight b a y + in_bank b (different (l ++ (x ∷ cs)))) (among_front y x l cs)
    ∙ ap (λ k. weight b (any_of (eqb y) (x ∷ (l ++ cs))) y + k) (front b x l cs) ∙ sym (bank_cons b y (x ∷ (l ++ cs))) ∙ swap b x y (l ++ cs)

-- The cells of l, each put in front of those that are there.
unfoldable pub turned : List ℕ → List ℕ → List ℕ
turned [] there = there
turned (c ∷ l) there = turned l (c ∷ there)

bank_turned : (b : ℕ) (l there : List ℕ) → in_bank b (different (turned l there)) ≡ in_bank b (different (l ++ there))
unfolding turned
bank_turned b [] there = refl
bank_turned b (c ∷ l) there = bank_turned b l (c ∷ there) ∙ front b c l there

nil_right : (l : List ℕ) → l ++ [] ≡ l
nil_right [] = refl
nil_right (c ∷ l) = ap (λ r. c ∷ r) (nil_right l)

-- The order makes no difference to the largest number in one bank.
pub most_turned : (k : ℕ) (l : List ℕ) → most_in_bank k (different (turned l [])) ≡ most_in_bank k (different l)
unfolding most_in_bank
most_turned zero l = refl
most_turned (suc b) l =
    let same = bank_turned b l [] ∙ ap (λ r. in_bank b (different r)) (nil_right l) in
    omega (arith, same, most_turned b l)
