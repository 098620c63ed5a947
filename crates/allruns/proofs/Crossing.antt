-- What a move of one group does to another group: they meet at global cells only. Assumes nothing.
use mathlib.Core.Path.{◌≡◌, refl, sym, ◌∙◌, ap, ap₂, fun_ext}
use mathlib.Core.Logic.{◌⊎◌, inl, inr}
use mathlib.Core.List.{List, [], ◌∷◌, ◌++◌}
use mathlib.Core.Bool.{Bool, true, false, cond, not, ◌&&◌, ◌||◌, or_assoc, or_comm, or-false, true≢false, false≢true}
use Prim.Native.Nat.{ℕ, zero, suc, ◌+◌, ◌*◌, ◌<◌, ◌≤◌}
use native.Mathlib.Omega.{arith}
use native.Mathlib.Decide.{ℕ_discrete}
use lib.Dec.{eqb, leb, ltb}
use borrow.Author.Tests.{eqb-true, eq-eqb, ne_eqb}
use lib.ListN.{length, get_or, set, take, drop, length-set, length-map}
use lib.Seq.{get_or-set_other, get_or-set_same}
use Rattle.spec.specs.Access.{Access, Mode, reads, writes, adds, mode, value_of, agree, conflict, group_conflict}
use Rattle.spec.specs.Lists.{any_of}
use Rattle.spec.specs.Op.{BARRIER, CALC, ELSE, ENDIF, ENDWHILE, IF, MEM, Op, UNKNOWN, WHILE}
use Rattle.spec.specs.Shape.{Sizes, Shape, shape_of, is_global, reaches}
use Rattle.spec.specs.Table.{Table, Row, row_at}
use Rattle.spec.specs.Threads as own
use Rattle.spec.specs.Threads.{Effect, Group, Thread, accesses, accesses_of, any_below, cells_after, effect, effect_at, effect_of, ends_badly, goes}
use Rattle.spec.specs.Threads.{is_outside, mark_bad, no_thread, past_barrier, performed, races, reach, recorded, released, strays, thread_after, thread_count, waits}
use Rattle.spec.specs.LaunchRun.{own_cells}
use Rattle.spec.specs.LaunchThreads.{Part, no_part, part_of, has_met, barred_to}
use Rattle.allruns.proofs.Bools.{and_left, and_make, or_left_false, below_same, below_more}
use Rattle.allruns.proofs.Accesses.{eqb_swap, agree_swap, some_same, some_and, some_append, some_or, some_swap}
use Rattle.allruns.proofs.Places.{address_reached, out_of_own, reach_cases, shared_is_global}
use Rattle.allruns.proofs.Diamond.{clashes, thread_after_lem, can_count}

-- The cells that a group's effects name: its own and the global ones.
abbrev pub Reaching : Shape → Effect → Type 0
Reaching L waits = Unit {0}
Reaching L (goes th) = Unit {0}
Reaching L strays = Unit {0}
Reaching L (accesses c k d) = reaches L c ≡ true

op_reaches : (T : Table) (L : Shape) (t : ℕ) (th : Thread) (x : Row) (o : Op) → Reaching L (effect_of T L t th x o)
unfolding effect_of
op_reaches T L t th x (CALC c) = tt
op_reaches T L t th x (MEM p m) = reach_cases (Reaching L) L th p _ _ _ (λ l. address_reached L p _ l) tt (λ v q. tt)
op_reaches T L t th x IF = tt
op_reaches T L t th x ELSE = tt
op_reaches T L t th x ENDIF = tt
op_reaches T L t th x WHILE = tt
op_reaches T L t th x ENDWHILE = tt
op_reaches T L t th x BARRIER = tt
op_reaches T L t th x UNKNOWN = tt

pub effect_reaches : (T : Table) (L : Shape) (t : ℕ) (th : Thread) → Reaching L (effect T L t th)
unfolding effect
effect_reaches T L t th = by (ltb th.row (length T))
  where
    by : (z : Bool) → Reaching L (cond z (effect_of T L t th (row_at T th.row) (row_at T th.row).op) waits)
    by true = op_reaches T L t th (row_at T th.row) (row_at T th.row).op
    by false = tt

-- The two laws of the conflict table between groups: it is symmetric, and what conflicts within a group conflicts between groups.
group_conflict_swap : (x y : Access) → group_conflict x y ≡ group_conflict y x
unfolding group_conflict
group_conflict_swap x y = ap₂ (λ a b. a && not b) (eqb_swap x.cell y.cell) (agree_swap false (mode x.kind) (mode y.kind))

agree_weaker : (equal : Bool) (m l : Mode) → agree false m l ≡ true → agree equal m l ≡ true
unfolding agree
agree_weaker equal reads reads q = refl
agree_weaker equal reads writes q = q
agree_weaker equal reads adds q = q
agree_weaker equal writes reads q = q
agree_weaker equal writes writes q = absurd (false≢true q)
agree_weaker equal writes adds q = q
agree_weaker equal adds reads q = q
agree_weaker equal adds writes q = q
agree_weaker equal adds adds q = refl

group_conflict_free : (x y : Access) → group_conflict x y ≡ false → conflict x y ≡ false
unfolding group_conflict conflict
group_conflict_free x y = by (eqb x.cell y.cell) (agree false (mode x.kind) (mode y.kind)) refl
  where
    by : (e b : Bool) → agree false (mode x.kind) (mode y.kind) ≡ b → (e && not b) ≡ false
        → (e && not (agree (eqb (value_of x.kind) (value_of y.kind)) (mode x.kind) (mode y.kind))) ≡ false
    by false b p q = refl
    by true true p q = ap not (agree_weaker _ (mode x.kind) (mode y.kind) p)
    by true false p q = absurd (true≢false q)

-- A conflict of two groups at a global cell.
unfoldable pub global_conflict : Sizes → Access → Access → Bool
global_conflict Z a b = is_global (shape_of Z 0) a.cell && group_conflict a b

global_conflict_swap : (Z : Sizes) (a b : Access) → global_conflict Z a b ≡ global_conflict Z b a
unfolding global_conflict
global_conflict_swap Z a b = by (group_conflict a b) refl ∙ ap (λ z. is_global (shape_of Z 0) b.cell && z) (group_conflict_swap a b)
  where
    one_cell : group_conflict a b ≡ true → a.cell ≡ b.cell
    one_cell q = unfold group_conflict in (eqb-true a.cell b.cell (and_left _ _ q))

    neither : (x y : Bool) → (x && false) ≡ (y && false)
    neither true true = refl
    neither true false = refl
    neither false true = refl
    neither false false = refl

    by : (z : Bool) → group_conflict a b ≡ z → (is_global (shape_of Z 0) a.cell && group_conflict a b) ≡ (is_global (shape_of Z 0) b.cell && group_conflict a b)
    by true q = ap (λ c. is_global (shape_of Z 0) c && group_conflict a b) (one_cell q)
    by false q = rw q (neither (is_global (shape_of Z 0) a.cell) (is_global (shape_of Z 0) b.cell))

-- Effects of two groups cross: an access of the one conflicts with one of the other.
unfoldable pub crosses : Sizes → Effect → Effect → Bool
crosses Z x y = any_of (λ b. any_of (global_conflict Z b) (accesses_of x)) (accesses_of y)

pub crosses_swap : (Z : Sizes) (x y : Effect) → crosses Z x y ≡ crosses Z y x
unfolding crosses
crosses_swap Z x y =
    some_swap (global_conflict Z) (accesses_of y) (accesses_of x)
    ∙ some_same _ _ (accesses_of x) (λ a. some_same _ _ (accesses_of y) (λ b. global_conflict_swap Z b a))

-- Where they don't, they don't clash: their own cells are apart.
pub crosses_free : (Z : Sizes) (g h : ℕ) (x y : Effect) → ¬ (g ≡ h) → h < Z.groups → Reaching (shape_of Z g) x → Reaching (shape_of Z h) y
    → crosses Z x y ≡ false → clashes x y ≡ false
unfolding crosses clashes accesses_of any_of
crosses_free Z g h x waits ne l r s q = refl
crosses_free Z g h x (goes th) ne l r s q = refl
crosses_free Z g h x strays ne l r s q = refl
crosses_free Z g h waits (accesses e n f) ne l r s q = refl
crosses_free Z g h (goes u) (accesses e n f) ne l r s q = refl
crosses_free Z g h strays (accesses e n f) ne l r s q = refl
crosses_free Z g h (accesses c k d) (accesses e n f) ne l r s q =
    ap (λ b. b || false || false) (group_conflict_free b a (by (group_conflict b a) refl (or_left_false (global_conflict Z b a) false (or_left_false (global_conflict Z b a || false) false q))))
  where
    a : Access
    a = record { cell = c; kind = k }

    b : Access
    b = record { cell = e; kind = n }

    same_cell : group_conflict b a ≡ true → e ≡ c
    same_cell u = unfold group_conflict in (eqb-true e c (and_left _ _ u))

    global : group_conflict b a ≡ true → is_global (shape_of Z 0) e ≡ true
    global u =
        ap (is_global (shape_of Z 0)) (same_cell u) ∙ shared_is_global Z g h c ne l r (ap (reaches (shape_of Z h)) (sym (same_cell u)) ∙ s)

    by : (z : Bool) → group_conflict b a ≡ z → global_conflict Z b a ≡ false → group_conflict b a ≡ false
    by true u w = absurd (unfold global_conflict in (true≢false (sym (and_make (global u) u) ∙ w)))
    by false u w = u

-- A move of one group: the effect that it has, whether it ends badly, and what it leaves otherwise.
unfoldable pub move_effect : Table → Shape → Group → own.Move → Effect
move_effect T L v (own.row t) = effect_at T L v t
move_effect T L v own.release = waits

unfoldable pub move_ends_badly : Table → Shape → Group → own.Move → Bool
move_ends_badly T L v (own.row t) = ends_badly v t (effect_at T L v t)
move_ends_badly T L v own.release = false

unfoldable pub move_leaves : Table → Shape → Group → own.Move → Group
move_leaves T L v (own.row t) = performed v t (effect_at T L v t)
move_leaves T L v own.release = released v

pub next_is : (T : Table) (L : Shape) (v : Group) (m : own.Move) → own.next T L v m ≡ cond (move_ends_badly T L v m) (mark_bad v) (move_leaves T L v m)
unfolding own.next move_ends_badly move_leaves
next_is T L v (own.row t) = refl
next_is T L v own.release = refl

pub leaves_cells : (T : Table) (L : Shape) (v : Group) (m : own.Move) → (move_leaves T L v m).cells ≡ cells_after v.cells (move_effect T L v m)
unfolding move_leaves move_effect performed released cells_after
leaves_cells T L v (own.row t) = refl
leaves_cells T L v own.release = refl

pub leaves_bad : (T : Table) (L : Shape) (v : Group) (m : own.Move) → (move_leaves T L v m).bad ≡ v.bad
unfolding move_leaves performed released
leaves_bad T L v (own.row t) = refl
leaves_bad T L v own.release = refl

pub move_reaches : (T : Table) (L : Shape) (v : Group) (m : own.Move) → Reaching L (move_effect T L v m)
unfolding move_effect effect_at
move_reaches T L v (own.row t) = effect_reaches T L t (get_or v.threads t no_thread)
move_reaches T L v own.release = tt

-- A group as its machine has it: its part, the launch's cells, what other groups forbid, and whether the run has ended badly.
abbrev pub group_at : Part → List ℕ → (Access → Bool) → Bool → Group
group_at p cells barred bad = record { threads = p.threads; cells = cells; made = p.made; ever = p.ever; barred = barred; bad = bad }

-- Of a group's move, what another group's move before it leaves as it is, and what it changes.
module _ (T : Table) (L : Shape) (p : Part) (cs ds : List ℕ) (F H : Access → Bool) (b : Bool) where
  pub effect_same : (m : own.Move) → move_effect T L (group_at p cs F b) m ≡ move_effect T L (group_at p ds H b) m
  unfolding move_effect effect_at
  effect_same (own.row t) = refl
  effect_same own.release = refl

  pub possible_same : (m : own.Move) → own.possible T L (group_at p cs F b) m ≡ own.possible T L (group_at p ds H b) m
  unfolding own.possible effect_at thread_count
  possible_same (own.row t) = refl
  possible_same own.release = refl

  -- what other groups forbid has grown by w
  pub badly_more : (w : Access → Bool) → ((a : Access) → F a ≡ (H a || w a)) → (m : own.Move)
      → move_ends_badly T L (group_at p cs F b) m
      ≡ (move_ends_badly T L (group_at p ds H b) m || any_of w (accesses_of (move_effect T L (group_at p ds H b) m)))
  unfolding move_ends_badly move_effect effect_at ends_badly thread_count
  badly_more w e (own.row t) =
      ap (λ r. is_outside y || r)
      (some_same _ (λ a. races (length p.threads) p.made t a || H a || w a) (accesses_of y)
      (λ a. ap (λ r. races (length p.threads) p.made t a || r) (e a) ∙ sym (or_assoc (races (length p.threads) p.made t a) (H a) (w a)))
      ∙ some_or _ _ (accesses_of y))
      ∙ sym (or_assoc (is_outside y) (any_of (λ a. races (length p.threads) p.made t a || H a) (accesses_of y)) (any_of w (accesses_of y)))
    where
      y : Effect
      y = effect T L t (get_or p.threads t no_thread)
  badly_more w e own.release = unfold accesses_of any_of in refl

  -- what is left of the group, where another group's effect x has changed the cells and does not clash
  pub part_same : (x : Effect) → cs ≡ cells_after ds x → (m : own.Move) → clashes x (move_effect T L (group_at p ds H b) m) ≡ false
      → part_of (move_leaves T L (group_at p cs F b) m) ≡ part_of (move_leaves T L (group_at p ds H b) m)
  unfolding move_leaves move_effect performed effect_at released
  part_same x e (own.row t) q = ap with_cells e ∙ ap with_thread_lem (thread_after_lem th ds x y q)
    where
      th : Thread
      th = get_or p.threads t no_thread

      y : Effect
      y = effect T L t th

      with_thread_lem : Thread → Part
      with_thread_lem h = record { threads = set p.threads t h; made = recorded p.made t (accesses_of y); ever = recorded p.ever t (accesses_of y) }

      with_cells : List ℕ → Part
      with_cells c = with_thread_lem (thread_after th c y)
  part_same x e own.release q = refl

-- What a move adds to what its group has met.
pub met_performed : (v : Group) (t : ℕ) (x : Effect) (a : Access) → t < length v.threads
    → has_met (part_of (performed v t x)) a ≡ (has_met (part_of v) a || any_of (group_conflict a) (accesses_of x))
unfolding has_met performed recorded
met_performed v t x a l =
    ap (λ n. any_below n (λ u. any_of (group_conflict a) (cond (eqb u t) (accesses_of x ++ v.ever u) (v.ever u)))) (length-set v.threads t _)
    ∙ below_same (length v.threads) _ (λ u. any_of (group_conflict a) (v.ever u) || (eqb u t && any_of (group_conflict a) (accesses_of x)))
    (λ u k. each (eqb u t) u)
    ∙ below_more (length v.threads) (λ u. any_of (group_conflict a) (v.ever u)) t (any_of (group_conflict a) (accesses_of x)) l
  where
    each : (d : Bool) (u : ℕ) → any_of (group_conflict a) (cond d (accesses_of x ++ v.ever u) (v.ever u))
        ≡ (any_of (group_conflict a) (v.ever u) || (d && any_of (group_conflict a) (accesses_of x)))
    each true u = some_append (group_conflict a) (accesses_of x) (v.ever u) ∙ or_comm (any_of (group_conflict a) (accesses_of x)) (any_of (group_conflict a) (v.ever u))
    each false u = sym (or-false _)

pub met_released : (v : Group) (a : Access) → has_met (part_of (released v)) a ≡ has_met (part_of v) a
unfolding has_met released
met_released v a = ap (λ n. any_below n (λ u. any_of (group_conflict a) (v.ever u))) (length-map v.threads past_barrier)

pub met_more : (T : Table) (L : Shape) (v : Group) (m : own.Move) (a : Access) → own.possible T L v m ≡ true
    → has_met (part_of (move_leaves T L v m)) a ≡ (has_met (part_of v) a || any_of (group_conflict a) (accesses_of (move_effect T L v m)))
unfolding move_leaves move_effect accesses_of any_of
met_more T L v own.release a c = met_released v a ∙ sym (or-false _)
met_more T L v (own.row t) a c = met_performed v t (effect_at T L v t) a (inside (can_count T L v t c))
  where
    inside : t < thread_count v → t < length v.threads
    inside l = unfold thread_count in l

-- What is forbidden to a group does not depend on its own part, and grows with another's.
pub barred_own : (Z : Sizes) (ps : List Part) (g : ℕ) (p : Part) → barred_to Z (set ps g p) g ≡ barred_to Z ps g
unfolding barred_to
barred_own Z ps g p =
    fun_ext
    (λ a. ap (λ b. is_global (shape_of Z g) a.cell && b)
    (ap (λ n. any_below n (λ h. not (eqb h g) && has_met (get_or (set ps g p) h no_part) a)) (length-set ps g p)
    ∙ below_same (length ps) _ _ (λ h l. each a h (ℕ_discrete h g))))
  where
    each : (a : Access) (h : ℕ) → Dec (h ≡ g)
        → (not (eqb h g) && has_met (get_or (set ps g p) h no_part) a) ≡ (not (eqb h g) && has_met (get_or ps h no_part) a)
    each a h (yes e) = rw (eq-eqb h g e)
    each a h (no e) = ap (λ q. not (eqb h g) && has_met q a) (get_or-set_other ps g h p no_part e)

pub barred_other : (Z : Sizes) (ps : List Part) (g h : ℕ) (p : Part) (a : Access) (xs : List Access) → ¬ (g ≡ h) → g < length ps
    → has_met p a ≡ (has_met (get_or ps g no_part) a || any_of (group_conflict a) xs)
    → barred_to Z (set ps g p) h a ≡ (barred_to Z ps h a || any_of (global_conflict Z a) xs)
unfolding barred_to global_conflict is_global
barred_other Z ps g h p a xs ne l q =
    ap (λ b. global && b)
    (ap (λ n. any_below n (λ k. not (eqb k h) && has_met (get_or (set ps g p) k no_part) a)) (length-set ps g p)
    ∙ below_same (length ps) _ (λ k. not (eqb k h) && has_met (get_or ps k no_part) a || (eqb k g && w)) (λ k j. each k (ℕ_discrete k g))
    ∙ below_more (length ps) _ g w l)
    ∙ spread global (any_below (length ps) (λ k. not (eqb k h) && has_met (get_or ps k no_part) a)) w
    ∙ ap (λ b. (global && any_below (length ps) (λ k. not (eqb k h) && has_met (get_or ps k no_part) a)) || b) (some_and global (group_conflict a) xs)
  where
    global : Bool
    global = leb (Z.groups * Z.cells) a.cell

    w : Bool
    w = any_of (group_conflict a) xs

    spread : (c x y : Bool) → (c && (x || y)) ≡ ((c && x) || (c && y))
    spread true x y = refl
    spread false x y = refl

    each : (k : ℕ) → Dec (k ≡ g)
        → (not (eqb k h) && has_met (get_or (set ps g p) k no_part) a) ≡ (not (eqb k h) && has_met (get_or ps k no_part) a || (eqb k g && w))
    each k (yes e) =
        rw (eq-eqb k g e, ne_eqb k h (λ z. ne (sym e ∙ z)))
        (ap (λ i. has_met (get_or (set ps g p) i no_part) a) e ∙ ap (λ z. has_met z a) (get_or-set_same ps g p no_part l) ∙ q
        ∙ ap (λ i. has_met (get_or ps i no_part) a || w) (sym e))
    each k (no e) = rw (ne_eqb k g e) (ap (λ z. not (eqb k h) && has_met z a) (get_or-set_other ps g k p no_part e) ∙ sym (or-false _))

-- A group's own cells are out of other groups' reach: what its observer is shown stays.
slice_set : (n a c v : ℕ) (xs : List ℕ) → (c < a) ⊎ (a + n ≤ c) → take n (drop a (set xs c v)) ≡ take n (drop a xs)
slice_set n a c v [] h = refl
slice_set zero zero c v (x ∷ xs) h = refl
slice_set (suc n) zero zero v (x ∷ xs) (inl l) = absurd (omega arith)
slice_set (suc n) zero zero v (x ∷ xs) (inr l) = absurd (omega arith)
slice_set (suc n) zero (suc c) v (x ∷ xs) (inl l) = absurd (omega arith)
slice_set (suc n) zero (suc c) v (x ∷ xs) (inr l) = ap (λ r. x ∷ r) (slice_set n zero c v xs (inr (omega arith)))
slice_set n (suc a) zero v (x ∷ xs) h = refl
slice_set n (suc a) (suc c) v (x ∷ xs) (inl l) = slice_set n a c v xs (inl (omega arith))
slice_set n (suc a) (suc c) v (x ∷ xs) (inr l) = slice_set n a c v xs (inr (omega arith))

pub own_kept : (Z : Sizes) (g h : ℕ) (x : Effect) (cells : List ℕ) → ¬ (g ≡ h) → h < Z.groups → Reaching (shape_of Z g) x
    → own_cells (shape_of Z h) (cells_after cells x) ≡ own_cells (shape_of Z h) cells
unfolding cells_after own_cells
own_kept Z g h waits cells ne l r = refl
own_kept Z g h (goes th) cells ne l r = refl
own_kept Z g h strays cells ne l r = refl
own_kept Z g h (accesses c k d) cells ne l r = slice_set Z.cells (h * Z.cells) c _ cells (out_of_own Z g h c ne l r)
