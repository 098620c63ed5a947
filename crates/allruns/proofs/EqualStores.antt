-- Item 6: the lock-step run lets a store through beside others if every store to its cell, by anyone, wrote one value, and knows this by a first value
-- and a mark. The threads' machine compares the stores of two threads pair by pair. `mark_says` and `writer_says`: the two tests are one.
-- Assumes nothing.
use mathlib.Core.Path.{◌≡◌, refl, sym, ◌∙◌, ap, ap₂, subst}
use mathlib.Core.Logic.{◌↔◌}
use mathlib.Core.List.{List, [], ◌∷◌}
use mathlib.Core.Bool.{Bool, true, false, cond, not, ◌&&◌, ◌||◌, false≢true, or-true, or-false, and-true, and-false}
use Prim.Native.Nat.{ℕ, zero, suc, ◌<◌}
use native.Mathlib.Omega.{arith}
use native.Mathlib.Decide.{ℕ_discrete}
use lib.Dec.{eqb}
use borrow.Author.Tests.{eqb-true, eq-eqb, ne_eqb}
use lib.ListN.{length, get_or, set}
use lib.Seq.{get_or-set_other, get_or-set_same}
use Rattle.spec.specs.Access.{Access, Kind, load, store, atomic_add, value_of, writes, mode, agree, conflict}
use Rattle.spec.specs.Lists.{any_of}
use Rattle.spec.specs.Log.{Log, masks_of, with_thread, first_value, unequal, logged}
use Rattle.spec.specs.Mask.{Mask, any, has}
use Rattle.spec.specs.Threads.{AccessRecord, races}
use Rattle.spec.proofs.LogLaws.{same}
use Rattle.allruns.proofs.Bools.{and_left, and_right, and_make, or_left_false, or_right_false, or_never, below_none, below_some}
use Rattle.allruns.proofs.Accesses.{eqb_swap, conflict_agree, some_apart}
use Rattle.allruns.proofs.LogMatches.{in_mode, is_other, holds, LogMatches}

any_set : (m : Mask) (t : ℕ) → t < length m → any (set m t true) ≡ true
unfolding any
any_set [] t l = absurd (omega arith)
any_set (b ∷ m) zero l = refl
any_set (b ∷ m) (suc t) l = ap (λ z. b || z) (any_set m t (omega arith)) ∙ or-true b

-- The first store of an interval is unequal to none.
pub unequal_first : (G : Log) (c v : ℕ) → get_or G.marks c false ≡ false → any (get_or G.writers c []) ≡ false → unequal G c v ≡ false
unfolding unequal first_value
unequal_first G c v m w = ap₂ (λ a b. a || not (eqb v (cond b (get_or G.values c 0) v))) m w ∙ ap not (eq-eqb v v refl)

-- The first value stays with the store of v: that v or w differs from it is that w differs from it or from v.
first_kept : (mark written : Bool) (f v w : ℕ)
    → (mark || not (eqb v (cond written f v)) || not (eqb w (cond written f v))) ≡ (mark || not (eqb w (cond written f w)) || not (eqb w v))
first_kept mark false f v w = ap (λ b. mark || not b || not (eqb w v)) (eq-eqb v v refl ∙ sym (eq-eqb w w refl))
first_kept mark true f v w = by (ℕ_discrete w f)
  where
    by : Dec (w ≡ f) → (mark || not (eqb v f) || not (eqb w f)) ≡ (mark || not (eqb w f) || not (eqb w v))
    by (yes e) = rw (eq-eqb w f e) (or-false (mark || not (eqb v f)) ∙ ap₂ (λ a b. a || not b) (sym (or-false mark)) (ap (eqb v) (sym e) ∙ eqb_swap v w))
    by (no e) = rw (ne_eqb w f e) (or-true (mark || not (eqb v f)) ∙ sym (ap (λ b. b || not (eqb w v)) (or-true mark)))

module _ (G : Log) (c t : ℕ) (i : c < length G.writers) (l : t < length (get_or G.writers c [])) (j : c < length G.values)
    (m : c < length G.marks) where
  unequal_stored : (v w : ℕ) → unequal (logged G c t (store v)) c w ≡ (unequal G c w || not (eqb w v))
  unfolding unequal first_value logged with_thread
  unequal_stored v w =
      ap₂ ◌||◌ (get_or-set_same G.marks c _ false m)
      (ap₂ (λ b f. not (eqb w (cond b f w))) (ap any (get_or-set_same G.writers c _ [] i) ∙ any_set (get_or G.writers c []) t l)
      (get_or-set_same G.values c _ 0 j))
      ∙ first_kept (get_or G.marks c false) (any (get_or G.writers c [])) (get_or G.values c 0) v w

  unequal_elsewhere : (v e w : ℕ) → ¬ (e ≡ c) → unequal (logged G c t (store v)) e w ≡ unequal G e w
  unfolding unequal first_value logged with_thread
  unequal_elsewhere v e w d =
      ap₂ ◌||◌ (get_or-set_other G.marks c e _ false d)
      (ap₂ (λ b f. not (eqb w (cond b f w))) (ap any (get_or-set_other G.writers c e _ [] d)) (get_or-set_other G.values c e _ 0 d))

  -- After an access x of cell c, a store of w to cell e is unequal to one before it where it was before x, or where x is a store of another value to e.
  pub unequal_logged : (x : Kind) (e w : ℕ) → unequal (logged G c t x) e w ≡ (unequal G e w || (eqb e c && is_other w x))
  unfolding is_other in_mode same mode value_of
  unequal_logged load e w = unfold unequal first_value logged in (sym (or_never (unequal G e w) (eqb e c) (not (eqb w 0))))
  unequal_logged (store v) e w = by (ℕ_discrete e c) ∙ ap (λ b. unequal G e w || (eqb e c && b)) (sym (and-true (not (eqb w v))))
    where
      by : Dec (e ≡ c) → unequal (logged G c t (store v)) e w ≡ (unequal G e w || (eqb e c && not (eqb w v)))
      by (yes d) = rw (eq-eqb e c d) (subst (λ e. unequal (logged G c t (store v)) e w ≡ (unequal G e w || not (eqb w v))) (sym d) (unequal_stored v w))
      by (no d) = rw (ne_eqb e c d) (unequal_elsewhere v e w d ∙ sym (or-false (unequal G e w)))
  unequal_logged (atomic_add v) e w = unfold unequal first_value logged in (sym (or_never (unequal G e w) (eqb e c) (not (eqb w v))))

-- What agrees with a store of another value than v is of another value too, if it is a store: two stores that agree store one value.
other_agrees : (v : ℕ) (x y : Kind) → is_other v x ≡ true → agree (eqb (value_of x) (value_of y)) (mode x) (mode y) ≡ true → is_other v y ≡ in_mode writes y
unfolding is_other in_mode same agree value_of mode
other_agrees v load y p q = absurd (false≢true (sym (and-false (not (eqb v 0))) ∙ p))
other_agrees v (store w) load p q = and-false (not (eqb v 0))
other_agrees v (store w) (store z) p q = ap (λ a. not (eqb v a) && true) (sym (eqb-true w z q)) ∙ p
other_agrees v (store w) (atomic_add z) p q = and-false (not (eqb v z))
other_agrees v (atomic_add w) y p q = absurd (false≢true (sym (and-false (not (eqb v w))) ∙ p))

-- A store of another value is a store.
other_stored : (v c : ℕ) (xs : List Access) → holds (is_other v) c xs ≡ true → holds (in_mode writes) c xs ≡ true
unfolding holds is_other
other_stored v c xs o = by (holds (in_mode writes) c xs) refl
  where
    by : (b : Bool) → holds (in_mode writes) c xs ≡ b → b ≡ true
    by true q = refl
    by false q =
        unfold holds is_other in
        (let (a, p, r) = some_apart (λ a. eqb c a.cell && is_other v a.kind) (λ a. eqb c a.cell && in_mode writes a.kind) xs o q in
        sym r ∙ and_make (and_left (eqb c a.cell) _ p) (and_right (not (eqb v (value_of a.kind))) _ (and_right (eqb c a.cell) _ p)))

-- Beside a store of another value than v, with which none of ys conflicts, all stores of ys are of another value.
all_other : (v c : ℕ) (a : Access) (ys : List Access) → (eqb c a.cell && is_other v a.kind) ≡ true → any_of (conflict a) ys ≡ false
    → holds (is_other v) c ys ≡ holds (in_mode writes) c ys
unfolding holds any_of
all_other v c a [] p q = refl
all_other v c a (y ∷ ys) p q = ap₂ ◌||◌ (by (ℕ_discrete c y.cell)) (all_other v c a ys p (or_right_false (conflict a y) _ q))
  where
    by : Dec (c ≡ y.cell) → (eqb c y.cell && is_other v y.kind) ≡ (eqb c y.cell && in_mode writes y.kind)
    by (yes d) =
        ap (λ b. eqb c y.cell && b)
        (other_agrees v a.kind y.kind (and_right (eqb c a.cell) (is_other v a.kind) p)
        (conflict_agree a y (or_left_false (conflict a y) (any_of (conflict a) ys) q)
        (sym (eqb-true c a.cell (and_left (eqb c a.cell) (is_other v a.kind) p)) ∙ d)))
    by (no d) = rw (ne_eqb c y.cell d)

-- An access of thread t that does not race conflicts with none of another thread's.
pub race_free : (n : ℕ) (R : AccessRecord) (t u : ℕ) (x : Access) → races n R t x ≡ false → u < n → ¬ (u ≡ t) → any_of (conflict x) (R u) ≡ false
unfolding races
race_free n R t u x q l e = sym (ap (λ b. not b && any_of (conflict x) (R u)) (ne_eqb u t e)) ∙ (below_none n _).0 q u l

module _ (n k : ℕ) (p : ℕ → Bool) (R : AccessRecord) (G : Log) (h : LogMatches n k p R G) (c v : ℕ) (i : c < k) (r : p c ≡ true) where
  -- First value and mark say that a store of v is equal to all before it exactly if every store to its cell, by anyone, wrote v.
  pub mark_says : (unequal G c v ≡ false) ↔ ((u : ℕ) → u < n → holds (is_other v) c (R u) ≡ false)
  mark_says = (λ q. (below_none n _).0 (sym (h.differ c v i r) ∙ q), λ a. h.differ c v i r ∙ (below_none n _).1 a)

  -- Where thread w has a store of another value than v, thread u has one if it has a store at all: its stores don't conflict with those of w.
  differ_alike : (u w : ℕ) → u < n → w < n → holds (is_other v) c (R w) ≡ true → holds (is_other v) c (R u) ≡ holds (in_mode writes) c (R u)
  differ_alike u w l m o = by (ℕ_discrete u w)
    where
      by : Dec (u ≡ w) → holds (is_other v) c (R u) ≡ holds (in_mode writes) c (R u)
      by (yes e) = ap (λ t. holds (is_other v) c (R t)) e ∙ o ∙ sym (ap (λ t. holds (in_mode writes) c (R t)) e ∙ other_stored v c (R w) o)
      by (no e) =
          unfold holds in
          (let (a, q, f) = some_apart (λ a. eqb c a.cell && is_other v a.kind) (races n R w) (R w) o (h.free w m) in
          all_other v c a (R u) q (race_free n R w u a f l e))

  -- So the lock-step test, that there are unequal stores and u is among the writers, says of each thread u what the machine's test of its stores, one by
  -- one, says: it has a store of another value than v.
  pub writer_says : (u : ℕ) → u < n → holds (is_other v) c (R u) ≡ (unequal G c v && has (get_or (masks_of G writes) c []) u)
  writer_says u l = by (unequal G c v) refl
    where
      by : (b : Bool) → unequal G c v ≡ b → holds (is_other v) c (R u) ≡ (b && has (get_or (masks_of G writes) c []) u)
      by false q = mark_says.0 q u l
      by true q = let (w, m, o) = below_some n (λ t. holds (is_other v) c (R t)) (sym (h.differ c v i r) ∙ q) in differ_alike u w l m o ∙ h.says writes u c l i r
