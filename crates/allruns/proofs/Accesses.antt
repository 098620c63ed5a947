-- The laws of the access table: what the rest of the proof knows of kinds. Assumes nothing.
use mathlib.Core.Path.{◌≡◌, refl, sym, ◌∙◌, ap, ap₂}
use mathlib.Core.List.{List, [], ◌∷◌, ◌++◌}
use mathlib.Core.Bool.{Bool, true, false, not, ◌&&◌, ◌||◌, false≢true, or_assoc}
use Prim.Native.Nat.{ℕ}
use native.Mathlib.Omega.{arith}
use native.Mathlib.Decide.{ℕ_discrete}
use lib.Dec.{eqb, ltb}
use borrow.Author.Tests.{eqb-true, eq-eqb, ne_eqb, ltb-true, ltb-false}
use lib.ListN.{length, get_or, set}
use lib.Seq.{get_or-set_other, get_or-set_same, set_comm, set-set, set_out}
use Rattle.spec.specs.Access.{Access, Kind, load, store, atomic_add, cell_after, registers_after, value_of, Mode, reads, writes, adds, mode, agree, conflict}
use Rattle.spec.specs.Lists.{any_of}
use Rattle.allruns.proofs.Bools.{or_left_false, or_right_false, or_pairs}

pub eqb_swap : (a b : ℕ) → eqb a b ≡ eqb b a
eqb_swap a b = at (ℕ_discrete a b)
  where
    at : Dec (a ≡ b) → eqb a b ≡ eqb b a
    at (yes e) = eq-eqb a b e ∙ sym (eq-eqb b a (sym e))
    at (no e) = ne_eqb a b e ∙ sym (ne_eqb b a (λ q. e (sym q)))

-- The three laws of the table.
pub agree_swap : (equal : Bool) (m l : Mode) → agree equal m l ≡ agree equal l m
unfolding agree
agree_swap equal reads reads = refl
agree_swap equal reads writes = refl
agree_swap equal reads adds = refl
agree_swap equal writes reads = refl
agree_swap equal writes writes = refl
agree_swap equal writes adds = refl
agree_swap equal adds reads = refl
agree_swap equal adds writes = refl
agree_swap equal adds adds = refl

-- Sums modulo 2^32 do not depend on the order of the adds, and stores that agree store one value.
pub agree_left : (k l : Kind) (old : ℕ) → agree (eqb (value_of k) (value_of l)) (mode k) (mode l) ≡ true
    → cell_after l (cell_after k old) ≡ cell_after k (cell_after l old)
unfolding agree mode value_of cell_after
agree_left load l old q = refl
agree_left (store v) load old q = refl
agree_left (store v) (store w) old q = sym (eqb-true v w q)
agree_left (store v) (atomic_add w) old q = absurd (false≢true q)
agree_left (atomic_add v) load old q = refl
agree_left (atomic_add v) (store w) old q = absurd (false≢true q)
agree_left (atomic_add v) (atomic_add w) old q = omega arith

pub agree_taken : (k l : Kind) (d old : ℕ) (regs : List ℕ) → agree (eqb (value_of k) (value_of l)) (mode k) (mode l) ≡ true
    → registers_after l d (cell_after k old) regs ≡ registers_after l d old regs
unfolding agree mode cell_after registers_after
agree_taken load l d old regs q = refl
agree_taken (store v) load d old regs q = absurd (false≢true q)
agree_taken (store v) (store w) d old regs q = refl
agree_taken (store v) (atomic_add w) d old regs q = refl
agree_taken (atomic_add v) load d old regs q = absurd (false≢true q)
agree_taken (atomic_add v) (store w) d old regs q = refl
agree_taken (atomic_add v) (atomic_add w) d old regs q = refl

-- What follows from them.
pub conflict_swap : (x y : Access) → conflict x y ≡ conflict y x
unfolding conflict
conflict_swap x y =
    ap₂ (λ a b. a && not b) (eqb_swap x.cell y.cell)
    (ap (λ b. agree b (mode x.kind) (mode y.kind)) (eqb_swap (value_of x.kind) (value_of y.kind)) ∙ agree_swap _ (mode x.kind) (mode y.kind))

pub conflict_agree : (x y : Access) → conflict x y ≡ false → x.cell ≡ y.cell
    → agree (eqb (value_of x.kind) (value_of y.kind)) (mode x.kind) (mode y.kind) ≡ true
unfolding conflict
conflict_agree x y q e = by (agree (eqb (value_of x.kind) (value_of y.kind)) (mode x.kind) (mode y.kind)) (rw (eq-eqb x.cell y.cell e) at q)
  where
    by : (b : Bool) → not b ≡ false → b ≡ true
    by true q = refl
    by false q = sym q

-- A cell touched.
pub touch_twice : (cells : List ℕ) (c : ℕ) (k l : Kind)
    → set (set cells c (cell_after k (get_or cells c 0))) c (cell_after l (get_or (set cells c (cell_after k (get_or cells c 0))) c 0))
    ≡ set cells c (cell_after l (cell_after k (get_or cells c 0)))
touch_twice cells c k l = by (ltb c (length cells)) refl
  where
    by : (z : Bool) → ltb c (length cells) ≡ z
        → set (set cells c (cell_after k (get_or cells c 0))) c (cell_after l (get_or (set cells c (cell_after k (get_or cells c 0))) c 0))
        ≡ set cells c (cell_after l (cell_after k (get_or cells c 0)))
    by true z = ap (λ v. set (set cells c (cell_after k (get_or cells c 0))) c (cell_after l v)) (get_or-set_same cells c _ 0 (ltb-true _ _ z)) ∙ set-set cells c _ _
    by false z =
        ap (λ m. set m c (cell_after l (get_or m c 0))) (set_out cells c _ (ltb-false _ _ z)) ∙ set_out cells c _ (ltb-false _ _ z)
        ∙ sym (set_out cells c _ (ltb-false _ _ z))

-- What an access of cell e, after one of cell c with which it does not conflict, finds in its cell.
pub taken_after : (cells : List ℕ) (c e : ℕ) (k l : Kind) (d : ℕ) (regs : List ℕ)
    → conflict (record { cell = c; kind = k }) (record { cell = e; kind = l }) ≡ false
    → registers_after l d (get_or (set cells c (cell_after k (get_or cells c 0))) e 0) regs ≡ registers_after l d (get_or cells e 0) regs
taken_after cells c e k l d regs q = by (ℕ_discrete c e) (ltb c (length cells)) refl
  where
    by : Dec (c ≡ e) → (z : Bool) → ltb c (length cells) ≡ z
        → registers_after l d (get_or (set cells c (cell_after k (get_or cells c 0))) e 0) regs ≡ registers_after l d (get_or cells e 0) regs
    by (no n) z p = ap (λ v. registers_after l d v regs) (get_or-set_other cells c e _ 0 (λ s. n (sym s)))
    by (yes y) true p =
        ap (λ i. registers_after l d (get_or (set cells c (cell_after k (get_or cells c 0))) i 0) regs) (sym y)
        ∙ ap (λ v. registers_after l d v regs) (get_or-set_same cells c _ 0 (ltb-true _ _ p))
        ∙ agree_taken k l d (get_or cells c 0) regs (conflict_agree (record { cell = c; kind = k }) (record { cell = e; kind = l }) q y)
        ∙ ap (λ i. registers_after l d (get_or cells i 0) regs) y
    by (yes y) false p = ap (λ m. registers_after l d (get_or m e 0) regs) (set_out cells c _ (ltb-false _ _ p))

pub cells_swap : (cells : List ℕ) (c e : ℕ) (k l : Kind) → conflict (record { cell = c; kind = k }) (record { cell = e; kind = l }) ≡ false
    → set (set cells c (cell_after k (get_or cells c 0))) e (cell_after l (get_or (set cells c (cell_after k (get_or cells c 0))) e 0))
    ≡ set (set cells e (cell_after l (get_or cells e 0))) c (cell_after k (get_or (set cells e (cell_after l (get_or cells e 0))) c 0))
cells_swap cells c e k l q = by (ℕ_discrete c e)
  where
    by : Dec (c ≡ e) → set (set cells c (cell_after k (get_or cells c 0))) e (cell_after l (get_or (set cells c (cell_after k (get_or cells c 0))) e 0))
        ≡ set (set cells e (cell_after l (get_or cells e 0))) c (cell_after k (get_or (set cells e (cell_after l (get_or cells e 0))) c 0))
    by (no n) =
        ap (λ v. set (set cells c (cell_after k (get_or cells c 0))) e (cell_after l v)) (get_or-set_other cells c e _ 0 (λ s. n (sym s)))
        ∙ set_comm cells c e _ _ n
        ∙ ap (λ v. set (set cells e (cell_after l (get_or cells e 0))) c (cell_after k v)) (sym (get_or-set_other cells e c _ 0 n))
    by (yes y) =
        ap (λ i. set (set cells c (cell_after k (get_or cells c 0))) i (cell_after l (get_or (set cells c (cell_after k (get_or cells c 0))) i 0))) (sym y)
        ∙ touch_twice cells c k l
        ∙ ap (set cells c) (agree_left k l (get_or cells c 0) (conflict_agree (record { cell = c; kind = k }) (record { cell = e; kind = l }) q y))
        ∙ sym (touch_twice cells c l k)
        ∙ ap (λ i. set (set cells i (cell_after l (get_or cells i 0))) c (cell_after k (get_or (set cells i (cell_after l (get_or cells i 0))) c 0))) y

-- On `some`.
pub some_same : {A : Type 0} (p q : A → Bool) (xs : List A) → ((x : A) → p x ≡ q x) → any_of p xs ≡ any_of q xs
unfolding any_of
some_same p q [] h = refl
some_same p q (x ∷ xs) h = ap₂ ◌||◌ (h x) (some_same p q xs h)

pub some_append : {A : Type 0} (p : A → Bool) (xs ys : List A) → any_of p (xs ++ ys) ≡ (any_of p xs || any_of p ys)
unfolding any_of
some_append p [] ys = refl
some_append p (x ∷ xs) ys = ap (λ b. p x || b) (some_append p xs ys) ∙ sym (or_assoc (p x) (any_of p xs) (any_of p ys))

pub some_or : {A : Type 0} (p q : A → Bool) (xs : List A) → any_of (λ x. p x || q x) xs ≡ (any_of p xs || any_of q xs)
unfolding any_of
some_or p q [] = refl
some_or p q (x ∷ xs) = ap (λ b. p x || q x || b) (some_or p q xs) ∙ or_pairs (p x) (q x) (any_of p xs) (any_of q xs)

pub some_and : {A : Type 0} (c : Bool) (p : A → Bool) (xs : List A) → (c && any_of p xs) ≡ any_of (λ x. c && p x) xs
unfolding any_of
some_and true p [] = refl
some_and false p [] = refl
some_and true p (x ∷ xs) = refl
some_and false p (x ∷ xs) = some_and false p xs

pub some_none : {A : Type 0} (xs : List A) → any_of (λ x. false) xs ≡ false
unfolding any_of
some_none [] = refl
some_none (x ∷ xs) = some_none xs

pub some_swap : {A B : Type 0} (p : A → B → Bool) (xs : List A) (ys : List B) → any_of (λ x. any_of (p x) ys) xs ≡ any_of (λ y. any_of (λ x. p x y) xs) ys
unfolding any_of
some_swap p [] ys = sym (some_none ys)
some_swap p (x ∷ xs) ys = ap (λ b. any_of (p x) ys || b) (some_swap p xs ys) ∙ sym (some_or (p x) (λ y. any_of (λ x. p x y) xs) ys)

-- Where p holds of some and q of none, p holds of one of which q does not.
pub some_apart : {A : Type 0} (p q : A → Bool) (xs : List A) → any_of p xs ≡ true → any_of q xs ≡ false → (x : A) × (p x ≡ true) × (q x ≡ false)
unfolding any_of
some_apart p q [] s n = absurd (false≢true s)
some_apart {A = A} p q (x ∷ xs) s n = by (p x) refl s (λ r. some_apart p q xs r (or_right_false (q x) (any_of q xs) n))
  where
    by : (b : Bool) → p x ≡ b → (b || any_of p xs) ≡ true → (any_of p xs ≡ true → (y : A) × (p y ≡ true) × (q y ≡ false)) → (y : A) × (p y ≡ true) × (q y ≡ false)
    by true e s ih = (x, e, or_left_false (q x) (any_of q xs) n)
    by false e s ih = ih s
