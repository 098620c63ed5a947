-- Where the cells stand that a group's threads can name. Assumes nothing.
use mathlib.Core.Path.{◌≡◌, refl, ◌∙◌, ap, ap₂}
use mathlib.Core.Logic.{◌⊎◌, inl, inr}
use mathlib.Core.Bool.{Bool, true, false, cond, ◌&&◌, ◌||◌, or-true}
use Prim.Native.Nat.{ℕ, ◌+◌, ◌*◌, ◌<◌, ◌≤◌}
use native.Mathlib.Omega.{arith}
use native.Mathlib.Nat.{mul-le-mul_right, suc-mul}
use lib.Dec.{leb, ltb}
use borrow.Author.Tests.{le-leb, leb-true, lt-leb, lt-ltb, ltb-true}
use Rattle.spec.specs.Op.{Space, OWN, GLOBAL}
use Rattle.spec.specs.Access.{Kind}
use Rattle.spec.specs.Shape.{Shape, Sizes, Past, address, bound, changes, is_global, is_own, loads, nowhere, past, reaches, shape_of, total}
use Rattle.spec.specs.Threads.{Effect, Thread, accesses, beyond, goes, put, reach, strays}
use Rattle.spec.proofs.Laws.{lt_or_le}
use Rattle.allruns.proofs.Bools.{and_left, and_right}

pub global_place : (L : Shape) (c : ℕ) → is_global L (address L GLOBAL c) ≡ true
unfolding is_global address
global_place L c = le-leb (L.groups * L.cells) (L.groups * L.cells + c) (omega arith)

pub address_reached : (L : Shape) (p : Space) (c : ℕ) → c < bound L p → reaches L (address L p c) ≡ true
unfolding reaches is_own is_global address bound
address_reached L OWN c l =
    ap₂ (λ a b. (a && b) || leb (L.groups * L.cells) (L.group * L.cells + c)) (le-leb (L.group * L.cells) (L.group * L.cells + c) (omega arith))
    (lt-ltb (L.group * L.cells + c) (L.group * L.cells + L.cells) (omega arith))
address_reached L GLOBAL c l = ap (λ b. is_own L (L.groups * L.cells + c) || b) (global_place L c) ∙ or-true (is_own L (L.groups * L.cells + c))

module _ (L : Shape) (g : L.group < L.groups) where
  -- The group's own cells end where those of the next group start, at the latest where the global ones do.
  pub own_end : L.group * L.cells + L.cells ≤ L.groups * L.cells
  own_end = let h = mul-le-mul_right L.cells g in let e = suc-mul L.group L.cells in omega (arith, h, e)

  pub own_apart : (c : ℕ) → c < bound L OWN → is_global L (address L OWN c) ≡ false
  unfolding is_global address bound
  own_apart c l = let h = own_end in lt-leb (L.groups * L.cells) (L.group * L.cells + c) (omega (arith, h, l))

  pub address_within : (p : Space) (c : ℕ) → c < bound L p → address L p c < total L
  unfolding address bound total
  address_within OWN c l = let h = own_end in omega (arith, h, l)
  address_within GLOBAL c l = omega arith

-- Two groups: which cells are global is one for both, and neither reaches the other's own cells.
pub global_same : (Z : Sizes) (g h i : ℕ) → is_global (shape_of Z g) i ≡ is_global (shape_of Z h) i
unfolding is_global
global_same Z g h i = refl

either : (g h : ℕ) → ¬ (g ≡ h) → (g < h) ⊎ (h < g)
either g h n = by (lt_or_le g h) (lt_or_le h g)
  where
    by : (g < h) ⊎ (h ≤ g) → (h < g) ⊎ (g ≤ h) → (g < h) ⊎ (h < g)
    by (inl l) o = inl l
    by (inr l) (inl m) = inr m
    by (inr l) (inr m) = absurd (n (omega arith))

pub out_of_own : (Z : Sizes) (g h c : ℕ) → ¬ (g ≡ h) → h < Z.groups → reaches (shape_of Z g) c ≡ true
    → (c < h * Z.cells) ⊎ (h * Z.cells + Z.cells ≤ c)
unfolding reaches is_own is_global
out_of_own Z g h c ne l r = by (leb (g * Z.cells) c && ltb c (g * Z.cells + Z.cells)) refl r (either g h ne)
  where
    by : (z : Bool) → (leb (g * Z.cells) c && ltb c (g * Z.cells + Z.cells)) ≡ z → (z || leb (Z.groups * Z.cells) c) ≡ true → (g < h) ⊎ (h < g)
        → (c < h * Z.cells) ⊎ (h * Z.cells + Z.cells ≤ c)
    by true z q (inl o) =
        inl
        (let a = mul-le-mul_right Z.cells o in
        let b = suc-mul g Z.cells in
        let e = ltb-true c (g * Z.cells + Z.cells) (and_right (leb (g * Z.cells) c) _ z) in
        omega arith)
    by true z q (inr o) =
        inr
        (let a = mul-le-mul_right Z.cells o in
        let b = suc-mul h Z.cells in
        let e = leb-true (g * Z.cells) c (and_left _ (ltb c (g * Z.cells + Z.cells)) z) in
        omega arith)
    by false z q o =
        inr (let a = mul-le-mul_right Z.cells l in let b = suc-mul h Z.cells in let e = leb-true (Z.groups * Z.cells) c q in omega arith)

-- What two groups reach is global.
pub shared_is_global : (Z : Sizes) (g h c : ℕ) → ¬ (g ≡ h) → h < Z.groups → reaches (shape_of Z g) c ≡ true → reaches (shape_of Z h) c ≡ true
    → is_global (shape_of Z 0) c ≡ true
shared_is_global Z g h c ne l r q = by (out_of_own Z g h c ne l r) (is_own (shape_of Z h) c) refl (unfold reaches in q)
  where
    inside : is_own (shape_of Z h) c ≡ true → (h * Z.cells ≤ c) × (c < h * Z.cells + Z.cells)
    inside e =
        unfold is_own in
        (leb-true (h * Z.cells) c (and_left _ (ltb c (h * Z.cells + Z.cells)) e), ltb-true c (h * Z.cells + Z.cells) (and_right (leb (h * Z.cells) c) _ e))

    by : (c < h * Z.cells) ⊎ (h * Z.cells + Z.cells ≤ c) → (z : Bool) → is_own (shape_of Z h) c ≡ z → (z || is_global (shape_of Z h) c) ≡ true
        → is_global (shape_of Z 0) c ≡ true
    by o false e u = unfold is_global in u
    by (inl o) true e u = absurd (let i = inside e in let a = i.0 in omega arith)
    by (inr o) true e u = absurd (let i = inside e in let a = i.1 in omega arith)

-- What LOAD, STORE and ATOMIC ADD come to: an access, one that ends the run badly, or a load of a common cell.
pub reach_cases : (F : Effect → Type 0) (L : Shape) (x : Thread) (p : Space) (c : ℕ) (k : Kind) (d : ℕ) → (c < bound L p → F (accesses (address L p c) k d))
    → F strays → ((v : ℕ) → past L p c k ≡ loads v → F (goes (put x d v))) → F (reach L x p c k d)
unfolding reach
reach_cases F L x p c k d made bad taken = by (ltb c (bound L p)) refl (past L p c k) refl
  where
    by : (z : Bool) → ltb c (bound L p) ≡ z → (y : Past) → past L p c k ≡ y → F (cond z (accesses (address L p c) k d) (beyond x d y))
    by true e y q = made (ltb-true c (bound L p) e)
    by false e nowhere q = unfold beyond in bad
    by false e (loads v) q = unfold beyond in (taken v q)
    by false e changes q = unfold beyond in bad
