-- The numbers that a finished row of accesses used are cells'. Assumes nothing.
use mathlib.Core.Path.{◌≡◌, refl, sym, ◌∙◌, ap, subst}
use mathlib.Core.List.{List, [], ◌∷◌, map}
use mathlib.Core.Logic.{◌⊎◌, inl, inr}
use mathlib.Core.Bool.{Bool, true, false, cond, ◌&&◌, false≢true}
use Prim.Native.Nat.{ℕ, suc, ◌+◌, ◌-◌, ◌<◌, ◌≤◌}
use native.Mathlib.Omega.{arith}
use borrow.Author.Tests.{leb-false, leb-true, ltb-true}
use lib.Dec.{leb}
use lib.ListN.{length, get_or}
use lib.Seq.{get_or-set_other}
use Rattle.spec.specs.Access.{Kind, load, store, atomic_add}
use Rattle.spec.specs.Answers.{Verdict, Outside, Common}
use Rattle.spec.specs.Limits.{common_from}
use Rattle.spec.specs.Op.{Space, OWN, GLOBAL, Mem, MEM}
use Rattle.spec.specs.Table.{Table, Row, cell_byte, kind_of}
use Rattle.spec.specs.Shape.{Shape, bound, address, in_common, is_common, nowhere, at_common, past}
use Rattle.spec.specs.Mask.{Mask, any, members, members_from}
use Rattle.spec.specs.Log.{conflict_mask}
use Rattle.spec.specs.LockStep.{LockState, Step, continues, stops, and_then, in_turn, advance, reg, update, made_access, enter_group, rivals, try_access}
use Rattle.spec.specs.LockStep.{access_turn, for_enabled, past_turn, run_row, set_reg}
use Rattle.spec.proofs.Laws.{map_members}

-- A step that stops does not go on.
never : {A : Type 0} (v : Verdict) (s z : LockState) → stops v s ≡ continues z → A
never v s z e = let q : ◌≡◌ {A = ℕ} 0 1 = cc in absurd (omega arith)

-- A number below k, or one of the numbers of m common cells; and each of these is.
abbrev pub Named : (k m c : ℕ) → Type 0
Named k m c = (c < k) ⊎ ((common_from ≤ c) × (c < common_from + m))

abbrev pub AllNamed : (k m : ℕ) → List ℕ → Type 0
AllNamed k m [] = Unit {0}
AllNamed k m (c ∷ cs) = Named k m c × AllNamed k m cs

-- A thread's access that is made: its cell is one of them or a common one, and other threads' registers are as they were.
record Made (L : Shape) (p : Space) (b : ℕ) (s : LockState) (t : ℕ) (z : LockState) : Type 0 where
  pub inside : Named (bound L p) (length L.common) (reg s t b)
  pub others : (u : ℕ) → (u ≡ t → ⊥) → reg z u b ≡ reg s u b

try_others : (L : Shape) (p : Space) (s : LockState) (t d c b : ℕ) (k : Kind) (z : LockState) → try_access L p s t d c k ≡ continues z → (u : ℕ) → (u ≡ t → ⊥)
    → reg z u b ≡ reg s u b
unfolding try_access reg
try_others L p s t d c b k z = by (any (conflict_mask s.log i t k)) (any (rivals p s L.group i k)) _ _
  where
    i : ℕ
    i = address L p c

    entered : (p : Space) → (enter_group p L.group i k (made_access s t d i k)).regs ≡ (made_access s t d i k).regs
    entered OWN = unfold enter_group in refl
    entered GLOBAL = unfold enter_group in refl

    by : (o g : Bool) (v w : Verdict)
        → cond o (stops v s) (cond g (stops w s) (continues (enter_group p L.group i k (made_access s t d i k)))) ≡ continues z → (u : ℕ) → (u ≡ t → ⊥)
        → get_or (get_or z.regs u []) b 0 ≡ get_or (get_or s.regs u []) b 0
    by true g v w e u n = never v s z e
    by false true v w e u n = never w s z e
    by false false v w e u n =
        let same : enter_group p L.group i k (made_access s t d i k) ≡ z = cc in
        ap (λ y. get_or (get_or y.regs u []) b 0) (sym same) ∙ ap (λ r. get_or (get_or r u []) b 0) (entered p)
        ∙ (unfold made_access update in (ap (λ r. get_or r b 0) (get_or-set_other s.regs t u _ [] n)))

common_named : (L : Shape) (p : Space) (c : ℕ) → is_common L p c ≡ true → (common_from ≤ c) × (c < common_from + length L.common)
unfolding is_common in_common
common_named L OWN c q =
    let h = both (leb common_from c) _ q in
    (leb-true common_from c h.0, ltb-true c (common_from + length L.common) h.1)
  where
    both : (a b : Bool) → (a && b) ≡ true → (a ≡ true) × (b ≡ true)
    both true b e = (refl, e)
    both false b e = absurd (false≢true e)
common_named L GLOBAL c q = absurd (false≢true q)

-- What is past the cells goes on only where it loads from a common cell.
past_made : (L : Shape) (p : Space) (s : LockState) (t d c b : ℕ) (k : Kind) (z : LockState) → past_turn s t d c (past L p c k) ≡ continues z
    → ((common_from ≤ c) × (c < common_from + length L.common)) × ((u : ℕ) → (u ≡ t → ⊥) → reg z u b ≡ reg s u b)
unfolding past
past_made L p s t d c b k z = by (is_common L p c) refl k
  where
    v : ℕ
    v = get_or L.common (c - common_from) 0

    by : (o : Bool) → is_common L p c ≡ o → (k : Kind) → past_turn s t d c (cond o (at_common k v) nowhere) ≡ continues z
        → ((common_from ≤ c) × (c < common_from + length L.common)) × ((u : ℕ) → (u ≡ t → ⊥) → reg z u b ≡ reg s u b)
    by false q k e = never (Outside t c) s z (unfold past_turn in e)
    by true q (store w) e = never (Common t c) s z (unfold past_turn at_common in e)
    by true q (atomic_add w) e = never (Common t c) s z (unfold past_turn at_common in e)
    by true q load e =
        let at : continues (set_reg s t d v) ≡ continues z = unfold past_turn at_common in e in
        let same : set_reg s t d v ≡ z = cc in (
          common_named L p c q,
          λ u n. ap (λ y. reg y u b) (sym same) ∙ (unfold set_reg update reg in (ap (λ r. get_or r b 0) (get_or-set_other s.regs t u _ [] n))),
        )

made : (L : Shape) (p : Space) (m : Mem) (x : Row) (s : LockState) (t : ℕ) (z : LockState) → access_turn L p m x s t ≡ continues z
    → Made L p (cell_byte m x) s t z
unfolding access_turn
made L p m x s t z = by (leb (bound L p) (reg s t (cell_byte m x))) refl
  where
    c : ℕ
    c = reg s t (cell_byte m x)

    k : Kind
    k = kind_of m (reg s t x.a)

    by : (o : Bool) → leb (bound L p) c ≡ o → cond o (past_turn s t x.d c (past L p c k)) (try_access L p s t x.d c k) ≡ continues z
        → Made L p (cell_byte m x) s t z
    by true q e = let h = past_made L p s t x.d c (cell_byte m x) k z e in record { inside = inr h.0; others = h.1 }
    by false q e = record { inside = inl (leb-false (bound L p) _ q); others = try_others L p s t x.d _ (cell_byte m x) k z e }

turns_named : (L : Shape) (p : Space) (m : Mem) (x : Row) (k : ℕ) (E : Mask) (s z : LockState) → in_turn (access_turn L p m x) (members_from k E) s ≡ continues z
    → AllNamed (bound L p) (length L.common) (map (λ t. reg s t (cell_byte m x)) (members_from k E))
unfolding members_from in_turn
turns_named L p m x k [] s z e = tt
turns_named L p m x k (false ∷ E) s z e = turns_named L p m x (suc k) E s z e
turns_named L p m x k (true ∷ E) s z e = by (access_turn L p m x s k) refl e (λ y. turns_named L p m x (suc k) E y z)
  where
    b : ℕ
    b = cell_byte m x

    Each : List ℕ → Type 0
    Each cs = AllNamed (bound L p) (length L.common) cs

    by : (o : Step) → access_turn L p m x s k ≡ o → and_then o (in_turn (access_turn L p m x) (members_from (suc k) E)) ≡ continues z
        → ((y : LockState) → in_turn (access_turn L p m x) (members_from (suc k) E) y ≡ continues z → Each (map (λ t. reg y t b) (members_from (suc k) E)))
        → Each (reg s k b ∷ map (λ t. reg s t b) (members_from (suc k) E))
    by (stops v y) q w f = never v y z (unfold and_then in w)
    by (continues y) q w f =
        let M = made L p m x s k y q in
        (M.inside, subst Each (map_members (λ t. reg y t b) (λ t. reg s t b) (suc k) E (λ t l q. M.others t (λ j. omega arith))) (f y (unfold and_then in w)))

-- Each number that the enabled threads of a finished row used is below the cell count, or a common cell's.
pub used_named : (T : Table) (L : Shape) (x : Row) (s z : LockState) (p : Space) (m : Mem) → run_row T L x s (MEM p m) ≡ continues z
    → AllNamed (bound L p) (length L.common) (map (λ t. reg s t (cell_byte m x)) (members s.enabled))
unfolding run_row for_enabled members
used_named T L x s z p m e = by (in_turn (access_turn L p m x) (members_from 0 s.enabled) s) refl (λ y. continues (advance (suc y.row) y.enabled y.saved y)) e
  where
    by : (o : Step) → in_turn (access_turn L p m x) (members_from 0 s.enabled) s ≡ o → (f : LockState → Step) → and_then o f ≡ continues z
        → AllNamed (bound L p) (length L.common) (map (λ t. reg s t (cell_byte m x)) (members_from 0 s.enabled))
    by (stops v y) q f w = never v y z (unfold and_then in w)
    by (continues y) q f w = turns_named L p m x 0 s.enabled s y q
