-- The diamond of all groups together: of one group it is that group's own; moves of two groups commute unless their global accesses conflict.
-- Assumes nothing.
use mathlib.Core.Path.{◌≡◌, refl, sym, ◌∙◌, ap, ap₂, subst}
use mathlib.Core.List.{List, [], ◌∷◌, ◌++◌, append-nil}
use mathlib.Core.Bool.{Bool, true, false, cond, not, ◌&&◌, ◌||◌, true≢false, false≢true}
use Prim.Native.Nat.{ℕ, ◌<◌}
use native.Mathlib.Omega.{arith}
use native.Mathlib.Decide.{ℕ_discrete}
use lib.Dec.{eqb, leb, ltb}
use borrow.Author.Tests.{ne_eqb, ltb-true, ltb-false}
use lib.ListN.{length, get_or, set, get_or-eq_default}
use lib.Seq.{get_or-set_other, get_or-set_same, set_comm, set-set}
use Rattle.spec.specs.Access.{Access}
use Rattle.spec.specs.Lists.{any_of, every}
use Rattle.spec.specs.Shape.{Sizes, Shape, shape_of}
use Rattle.spec.specs.Table.{Table}
use Rattle.spec.specs.Threads as own
use Rattle.spec.specs.Threads.{Effect, Group, accesses_of, at_one_barrier, cells_after, mark_bad, thread_count}
use Rattle.spec.specs.LaunchRun.{own_cells}
use Rattle.spec.specs.LaunchThreads.{Groups, Move, Part, at_end, barred_to, machine, next, no_part, of_group, part_at_end, part_of, possible, shown, view, with_group}
use Rattle.allruns.proofs.Bools.{and_left, and_right, and_make}
use Rattle.allruns.proofs.Descent.{Close, meet, clash, dead, Laws}
use Rattle.allruns.proofs.Diamond.{same_move, clashes, close, bad_stops, end_stops, never_both, cells_after_lem, every_at}
use Rattle.allruns.proofs.StepCounts.{barred_next}
use Rattle.allruns.proofs.Crossing.{global_conflict, crosses, crosses_swap, crosses_free, move_effect, move_ends_badly, move_leaves, next_is}
use Rattle.allruns.proofs.Crossing.{leaves_cells, leaves_bad, move_reaches, group_at, effect_same, possible_same, badly_more, part_same, met_more}
use Rattle.allruns.proofs.Crossing.{barred_own, barred_other, own_kept}

empty_still : (T : Table) (L : Shape) (cs : List ℕ) (F : Access → Bool) (b : Bool) (m : own.Move) → own.possible T L (group_at no_part cs F b) m ≡ true → ⊥
unfolding own.possible thread_count no_part at_one_barrier
empty_still T L cs F b (own.row t) d = let l = ltb-true t 0 (and_left (ltb t 0) _ (and_right (not b) _ d)) in omega arith
empty_still T L cs F b own.release d = false≢true (and_right (not b) _ d)

-- A group that can move is there.
pub is_there : (T : Table) (Z : Sizes) (S : Groups) (g : ℕ) (m : own.Move) → own.possible T (shape_of Z g) (view Z S g) m ≡ true → g < length S.parts
is_there T Z S g m c = by (ltb g (length S.parts)) refl
  where
    by : (z : Bool) → ltb g (length S.parts) ≡ z → g < length S.parts
    by true z = ltb-true _ _ z
    by false z =
        absurd
        (empty_still T (shape_of Z g) S.cells (barred_to Z S.parts g) S.bad m
        (subst (λ q. own.possible T (shape_of Z g) (group_at q S.cells (barred_to Z S.parts g) S.bad) m ≡ true)
        (get_or-eq_default S.parts no_part (ltb-false _ _ z)) c))

pub next_group : (T : Table) (Z : Sizes) (S : Groups) (g : ℕ) (m : own.Move)
    → next T Z S (of_group g m) ≡ with_group S g (own.next T (shape_of Z g) (view Z S g) m)
unfolding next
next_group T Z S g m = refl

pub possible_own : (T : Table) (Z : Sizes) (S : Groups) (g : ℕ) (m : own.Move) → possible T Z S (of_group g m) ≡ true
    → own.possible T (shape_of Z g) (view Z S g) m ≡ true
unfolding possible
possible_own T Z S g m c = and_right (ltb g Z.groups) _ c

pub possible_group : (T : Table) (Z : Sizes) (S : Groups) (g : ℕ) (m : own.Move) → possible T Z S (of_group g m) ≡ true → g < Z.groups
unfolding possible
possible_group T Z S g m c = ltb-true g Z.groups (and_left (ltb g Z.groups) _ c)

-- One group's moves, the others standing still, are the moves of its own machine: v is that group as its machine has it.
module _ (T : Table) (Z : Sizes) (S : Groups) (g : ℕ) (l : g < length S.parts) (v : Group) (b : v.barred ≡ barred_to Z S.parts g) where
  pub view_with : view Z (with_group S g v) g ≡ v
  view_with =
      ap₂ (λ p F. group_at p v.cells F v.bad) (get_or-set_same S.parts g (part_of v) no_part l)
      (barred_own Z S.parts g (part_of v) ∙ sym b)

  pub next_with : (m : own.Move) → next T Z (with_group S g v) (of_group g m) ≡ with_group S g (own.next T (shape_of Z g) v m)
  unfolding next
  next_with m =
      ap (λ u. with_group (with_group S g v) g (own.next T (shape_of Z g) u m)) view_with
      ∙ ap (λ ps. record { parts = ps; cells = (own.next T (shape_of Z g) v m).cells; bad = (own.next T (shape_of Z g) v m).bad })
      (set-set S.parts g (part_of v) _)

  pub possible_with : (m : own.Move) → possible T Z (with_group S g v) (of_group g m) ≡ (ltb g Z.groups && own.possible T (shape_of Z g) v m)
  unfolding possible
  possible_with m = ap (λ u. ltb g Z.groups && own.possible T (shape_of Z g) u m) view_with

-- Two threads of one group.
same_group : (T : Table) (Z : Sizes) (S : Groups) (g t u : ℕ) → possible T Z S (of_group g (own.row t)) ≡ true
    → possible T Z S (of_group g (own.row u)) ≡ true → ¬ (t ≡ u) → Close (machine T Z) S (of_group g (own.row t)) (of_group g (own.row u))
unfolding shown
same_group T Z S g t u p q ne = by (close T L G (own.row t) (own.row u) cp cq (λ e. ne (cc)))
  where
    L : Shape
    L = shape_of Z g

    G : Group
    G = view Z S g

    gl : ltb g Z.groups ≡ true
    gl = unfold possible in (and_left _ (own.possible T (shape_of Z g) (view Z S g) (own.row t)) p)

    cp : own.possible T L G (own.row t) ≡ true
    cp = possible_own T Z S g (own.row t) p

    cq : own.possible T L G (own.row u) ≡ true
    cq = possible_own T Z S g (own.row u) q

    l : g < length S.parts
    l = is_there T Z S g (own.row t) cp

    may : (m k : own.Move) → own.possible T L (own.next T L G m) k ≡ true → possible T Z (next T Z S (of_group g m)) (of_group g k) ≡ true
    may m k c =
        ap (λ R. possible T Z R (of_group g k)) (next_group T Z S g m)
        ∙ possible_with T Z S g l (own.next T L G m) (barred_next T L G m) k ∙ and_make gl c

    second : (m k : own.Move) → next T Z (next T Z S (of_group g m)) (of_group g k) ≡ with_group S g (own.next T L (own.next T L G m) k)
    second m k = ap (λ R. next T Z R (of_group g k)) (next_group T Z S g m) ∙ next_with T Z S g l (own.next T L G m) (barred_next T L G m) k

    by : Close (own.machine T L) G (own.row t) (own.row u) → Close (machine T Z) S (of_group g (own.row t)) (of_group g (own.row u))
    by (dead d) = dead (ap (λ R. R.bad) (next_group T Z S g (own.row t)) ∙ d)
    by (clash k d) = clash (may (own.row t) (own.row u) k) (ap (λ R. R.bad) (second (own.row t) (own.row u)) ∙ d)
    by (meet k j e w) =
        meet (may (own.row t) (own.row u) k) (may (own.row u) (own.row t) j)
        (second (own.row t) (own.row u) ∙ ap (with_group S g) e ∙ sym (second (own.row u) (own.row t))) (λ w. refl)

-- What a move of group g leaves, where it does not end badly.
abbrev moved : Table → Sizes → Groups → ℕ → own.Move → Groups
moved T Z S g m =
    record {
      parts = set S.parts g (part_of (move_leaves T (shape_of Z g) (view Z S g) m));
      cells = cells_after S.cells (move_effect T (shape_of Z g) (view Z S g) m);
      bad = S.bad;
    }

module _ (T : Table) (Z : Sizes) (S : Groups) (g : ℕ) (m : own.Move) where
  next_bad : move_ends_badly T (shape_of Z g) (view Z S g) m ≡ true → (next T Z S (of_group g m)).bad ≡ true
  unfolding next mark_bad
  next_bad q =
      ap (λ v. v.bad) (next_is T (shape_of Z g) (view Z S g) m)
      ∙ ap (λ z. (cond z (mark_bad (view Z S g)) (move_leaves T (shape_of Z g) (view Z S g) m)).bad) q

  next_good : move_ends_badly T (shape_of Z g) (view Z S g) m ≡ false → next T Z S (of_group g m) ≡ moved T Z S g m
  unfolding next
  next_good q =
      ap (with_group S g)
      (next_is T (shape_of Z g) (view Z S g) m ∙ ap (λ z. cond z (mark_bad (view Z S g)) (move_leaves T (shape_of Z g) (view Z S g) m)) q)
      ∙ ap₂ (λ cs b. record { parts = set S.parts g (part_of (move_leaves T (shape_of Z g) (view Z S g) m)); cells = cs; bad = b })
      (leaves_cells T (shape_of Z g) (view Z S g) m) (leaves_bad T (shape_of Z g) (view Z S g) m)

-- A move of group g, then one of group h.
module _ (T : Table) (Z : Sizes) (S : Groups) (g h : ℕ) (m k : own.Move) (ne : ¬ (g ≡ h)) (cm : possible T Z S (of_group g m) ≡ true)
    (ck : possible T Z S (of_group h k) ≡ true) where
  abbrev x : Effect
  x = move_effect T (shape_of Z g) (view Z S g) m

  abbrev y : Effect
  y = move_effect T (shape_of Z h) (view Z S h) k

  abbrev A : Groups
  A = moved T Z S g m

  abbrev hs : Part
  hs = get_or S.parts h no_part

  gl : g < length S.parts
  gl = is_there T Z S g m (possible_own T Z S g m cm)

  clear : crosses Z x y ≡ false → clashes x y ≡ false
  clear =
      crosses_free Z g h x y ne (possible_group T Z S h k ck) (move_reaches T (shape_of Z g) (view Z S g) m)
      (move_reaches T (shape_of Z h) (view Z S h) k)

  -- what the second finds
  found : view Z A h ≡ group_at hs (cells_after S.cells x) (barred_to Z A.parts h) S.bad
  found =
      ap (λ p. group_at p (cells_after S.cells x) (barred_to Z A.parts h) S.bad)
      (get_or-set_other S.parts g h _ no_part (λ e. ne (sym e)))

  possible_second : possible T Z A (of_group h k) ≡ true
  unfolding possible
  possible_second =
      ap (λ v. ltb h Z.groups && own.possible T (shape_of Z h) v k) found
      ∙ ap (λ c. ltb h Z.groups && c)
      (possible_same T (shape_of Z h) hs (cells_after S.cells x) S.cells (barred_to Z A.parts h) (barred_to Z S.parts h) S.bad k)
      ∙ ck

  badly_second : move_ends_badly T (shape_of Z h) (view Z A h) k ≡ (move_ends_badly T (shape_of Z h) (view Z S h) k || crosses Z x y)
  unfolding crosses
  badly_second =
      ap (λ v. move_ends_badly T (shape_of Z h) v k) found
      ∙ badly_more T (shape_of Z h) hs (cells_after S.cells x) S.cells (barred_to Z A.parts h) (barred_to Z S.parts h) S.bad
      (λ a. any_of (global_conflict Z a) (accesses_of x))
      (λ a. barred_other Z S.parts g h _ a (accesses_of x) ne gl (met_more T (shape_of Z g) (view Z S g) m a (possible_own T Z S g m cm))) k

  effect_second : move_effect T (shape_of Z h) (view Z A h) k ≡ y
  effect_second =
      ap (λ v. move_effect T (shape_of Z h) v k) found
      ∙ effect_same T (shape_of Z h) hs (cells_after S.cells x) S.cells (barred_to Z A.parts h) (barred_to Z S.parts h) S.bad k

  part_second : crosses Z x y ≡ false → part_of (move_leaves T (shape_of Z h) (view Z A h) k) ≡ part_of (move_leaves T (shape_of Z h) (view Z S h) k)
  part_second q =
      ap (λ v. part_of (move_leaves T (shape_of Z h) v k)) found
      ∙ part_same T (shape_of Z h) hs (cells_after S.cells x) S.cells (barred_to Z A.parts h) (barred_to Z S.parts h) S.bad x refl k (clear q)

  -- the second made after the first, where neither ends badly and they do not cross
  both : move_ends_badly T (shape_of Z h) (view Z S h) k ≡ false → crosses Z x y ≡ false
      → next T Z A (of_group h k)
      ≡ record {
        parts = set A.parts h (part_of (move_leaves T (shape_of Z h) (view Z S h) k));
        cells = cells_after (cells_after S.cells x) y;
        bad = S.bad;
      }
  both b q =
      next_good T Z A h k (badly_second ∙ ap₂ ◌||◌ b q)
      ∙ ap₂ (λ p f. record { parts = set A.parts h p; cells = cells_after A.cells f; bad = S.bad }) (part_second q) effect_second

-- What an observer is shown of a move, by the group's own cells alone.
shown_by_cells : (Z : Sizes) (w : ℕ) (S R : Groups) (g : ℕ) (m : own.Move)
    → own_cells (shape_of Z g) S.cells ≡ own_cells (shape_of Z g) R.cells → shown Z w S (of_group g m) ≡ shown Z w R (of_group g m)
unfolding shown
shown_by_cells Z w S R g (own.row t) e = refl
shown_by_cells Z w S R g own.release e = ap (λ c. cond (eqb g w) (c ∷ []) []) e

pub shown_to_others : (Z : Sizes) (w : ℕ) (S : Groups) (g : ℕ) (m : own.Move) → ¬ (g ≡ w) → shown Z w S (of_group g m) ≡ []
unfolding shown
shown_to_others Z w S g (own.row t) e = refl
shown_to_others Z w S g own.release e = rw (ne_eqb g w e)

-- No observer is shown moves of two groups.
shown_apart : (Z : Sizes) (w : ℕ) (S R : Groups) (g h : ℕ) (m k : own.Move) → ¬ (g ≡ h)
    → shown Z w S (of_group g m) ++ shown Z w R (of_group h k) ≡ shown Z w R (of_group h k) ++ shown Z w S (of_group g m)
shown_apart Z w S R g h m k ne = by (ℕ_discrete g w) (ℕ_discrete h w)
  where
    by : Dec (g ≡ w) → Dec (h ≡ w) → shown Z w S (of_group g m) ++ shown Z w R (of_group h k) ≡ shown Z w R (of_group h k) ++ shown Z w S (of_group g m)
    by (yes a) (yes b) = absurd (ne (a ∙ sym b))
    by (no a) d =
        ap (λ r. r ++ shown Z w R (of_group h k)) (shown_to_others Z w S g m a) ∙ sym (append-nil _)
        ∙ ap (λ r. shown Z w R (of_group h k) ++ r) (sym (shown_to_others Z w S g m a))
    by (yes a) (no b) =
        ap (λ r. shown Z w S (of_group g m) ++ r) (shown_to_others Z w R h k b) ∙ append-nil _
        ∙ ap (λ r. r ++ shown Z w S (of_group g m)) (sym (shown_to_others Z w R h k b))

-- Moves of two groups.
module _ (T : Table) (Z : Sizes) (S : Groups) (g h : ℕ) (m k : own.Move) (ne : ¬ (g ≡ h)) (cm : possible T Z S (of_group g m) ≡ true)
    (ck : possible T Z S (of_group h k) ≡ true) where
  en : ¬ (h ≡ g)
  en e = ne (sym e)

  abbrev X : Effect
  X = move_effect T (shape_of Z g) (view Z S g) m

  abbrev Y : Effect
  Y = move_effect T (shape_of Z h) (view Z S h) k

  two_groups_lem : (z : Bool) → move_ends_badly T (shape_of Z g) (view Z S g) m ≡ z → Close (machine T Z) S (of_group g m) (of_group h k)
  two_groups_lem true q = dead (next_bad T Z S g m q)
  two_groups_lem false q = on (move_ends_badly T (shape_of Z h) (view Z S h) k) (crosses Z X Y) refl refl
    where
      first : next T Z S (of_group g m) ≡ moved T Z S g m
      first = next_good T Z S g m q

      may : possible T Z (next T Z S (of_group g m)) (of_group h k) ≡ true
      may = ap (λ R. possible T Z R (of_group h k)) first ∙ possible_second T Z S g h m k ne cm ck

      bad : (move_ends_badly T (shape_of Z h) (view Z S h) k || crosses Z X Y) ≡ true → (next T Z (next T Z S (of_group g m)) (of_group h k)).bad ≡ true
      bad e = ap (λ R. (next T Z R (of_group h k)).bad) first ∙ next_bad T Z (moved T Z S g m) h k (badly_second T Z S g h m k ne cm ck ∙ e)

      on : (b c : Bool) → move_ends_badly T (shape_of Z h) (view Z S h) k ≡ b → crosses Z X Y ≡ c → Close (machine T Z) S (of_group g m) (of_group h k)
      on true c e f = clash may (bad (ap (λ z. z || crosses Z X Y) e))
      on false true e f = clash may (bad (ap₂ ◌||◌ e f))
      on false false e f =
          meet may (ap (λ R. possible T Z R (of_group g m)) other ∙ possible_second T Z S h g k m en ck cm)
          (ap (λ R. next T Z R (of_group h k)) first ∙ both T Z S g h m k ne cm ck e f ∙ joined
          ∙ sym (both T Z S h g k m en ck cm q (crosses_swap Z Y X ∙ f)) ∙ sym (ap (λ R. next T Z R (of_group g m)) other))
          watched
        where
          other : next T Z S (of_group h k) ≡ moved T Z S h k
          other = next_good T Z S h k e

          pm : Part
          pm = part_of (move_leaves T (shape_of Z g) (view Z S g) m)

          pk : Part
          pk = part_of (move_leaves T (shape_of Z h) (view Z S h) k)

          joined : ◌≡◌ {A = Groups} (record { parts = set (set S.parts g pm) h pk; cells = cells_after (cells_after S.cells X) Y; bad = S.bad })
              (record { parts = set (set S.parts h pk) g pm; cells = cells_after (cells_after S.cells Y) X; bad = S.bad })
          joined =
              ap₂ (λ ps cs. record { parts = ps; cells = cs; bad = S.bad }) (set_comm S.parts g h pm pk ne)
              (cells_after_lem S.cells X Y (clear T Z S g h m k ne cm ck f))

          watched : (w : ℕ) → shown Z w S (of_group g m) ++ shown Z w (next T Z S (of_group g m)) (of_group h k)
              ≡ shown Z w S (of_group h k) ++ shown Z w (next T Z S (of_group h k)) (of_group g m)
          watched w =
              ap (λ r. shown Z w S (of_group g m) ++ r)
              (ap (λ R. shown Z w R (of_group h k)) first
              ∙ shown_by_cells Z w (moved T Z S g m) S h k
              (own_kept Z g h X S.cells ne (possible_group T Z S h k ck) (move_reaches T (shape_of Z g) (view Z S g) m)))
              ∙ shown_apart Z w S S g h m k ne
              ∙ ap (λ r. shown Z w S (of_group h k) ++ r)
              (sym
              (ap (λ R. shown Z w R (of_group g m)) other
              ∙ shown_by_cells Z w (moved T Z S h k) S g m
              (own_kept Z h g Y S.cells en (possible_group T Z S g m cm) (move_reaches T (shape_of Z h) (view Z S h) k))))

-- Any two different moves.
all_close : (T : Table) (Z : Sizes) (S : Groups) (a b : Move) → possible T Z S a ≡ true → possible T Z S b ≡ true → ¬ (a ≡ b) → Close (machine T Z) S a b
all_close T Z S (of_group g m) (of_group h k) p q ne = by (ℕ_discrete g h)
  where
    here : (m k : own.Move) → possible T Z S (of_group g m) ≡ true → possible T Z S (of_group g k) ≡ true → ¬ (of_group g m ≡ of_group g k)
        → Close (machine T Z) S (of_group g m) (of_group g k)
    here (own.row t) (own.row u) p q n = same_group T Z S g t u p q (λ e. n (ap (λ i. of_group g (own.row i)) e))
    here (own.row t) own.release p q n =
        absurd (never_both T (shape_of Z g) (view Z S g) t (possible_own T Z S g own.release q) (possible_own T Z S g (own.row t) p))
    here own.release (own.row u) p q n =
        absurd (never_both T (shape_of Z g) (view Z S g) u (possible_own T Z S g own.release p) (possible_own T Z S g (own.row u) q))
    here own.release own.release p q n = absurd (n refl)

    by : Dec (g ≡ h) → Close (machine T Z) S (of_group g m) (of_group h k)
    by (no n) = two_groups_lem T Z S g h m k n p q (move_ends_badly T (shape_of Z g) (view Z S g) m) refl
    by (yes e) =
        subst (λ i. Close (machine T Z) S (of_group g m) (of_group i k)) e
        (here m k p (subst (λ i. possible T Z S (of_group i k) ≡ true) (sym e) q) (λ z. ne (z ∙ ap (λ i. of_group i k) e)))

all_same : (a b : Move) → Dec (a ≡ b)
all_same (of_group g m) (of_group h k) = by (ℕ_discrete g h) (same_move m k)
  where
    by : Dec (g ≡ h) → Dec (m ≡ k) → Dec (of_group g m ≡ of_group h k)
    by (yes p) (yes q) = yes (ap₂ of_group p q)
    by (no p) d = no (λ e. p (cc))
    by (yes p) (no q) = no (λ e. q (cc))

pub view_end : (T : Table) (Z : Sizes) (S : Groups) (g : ℕ) → at_end T S ≡ true → g < length S.parts → own.at_end T (view Z S g) ≡ true
unfolding at_end own.at_end part_at_end
view_end T Z S g e l =
    and_make (and_left (not S.bad) _ e)
    (every_at (λ p. every (λ th. leb (length T) th.row) p.threads) S.parts g no_part (and_right (not S.bad) _ e) l)

all_end : (T : Table) (Z : Sizes) (S : Groups) (m : Move) → at_end T S ≡ true → possible T Z S m ≡ true → ⊥
all_end T Z S (of_group g m) e c =
    let d = possible_own T Z S g m c in end_stops T (shape_of Z g) (view Z S g) m (view_end T Z S g e (is_there T Z S g m d)) d

all_bad : (T : Table) (Z : Sizes) (S : Groups) (m : Move) → S.bad ≡ true → possible T Z S m ≡ true → ⊥
all_bad T Z S (of_group g m) b c = bad_stops T (shape_of Z g) (view Z S g) m b (possible_own T Z S g m c)

end_good : (T : Table) (S : Groups) → at_end T S ≡ true → S.bad ≡ true → ⊥
unfolding at_end
end_good T S e b = true≢false (sym (and_left _ _ e) ∙ ap not b)

-- Random descent holds of all groups together.
pub all_laws : (T : Table) (Z : Sizes) → Laws (machine T Z)
all_laws T Z = record { same = all_same; end_last = all_end T Z; bad_last = all_bad T Z; end_good = end_good T; diamond = all_close T Z }
