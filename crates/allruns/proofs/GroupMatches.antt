-- What the group masks say of a group's own accesses and of what other groups' accesses forbid it. Document 02, item 7. Assumes nothing.
use mathlib.Core.Path.{◌≡◌, refl, sym, ◌∙◌, ap, ap₂}
use mathlib.Core.List.{List, [], ◌∷◌}
use mathlib.Core.Bool.{Bool, true, false, cond, not, ◌&&◌, ◌||◌, true≢false, and-true, and-false, or-false}
use Prim.Native.Nat.{ℕ, ◌<◌}
use native.Mathlib.Omega.{arith}
use native.Mathlib.Decide.{ℕ_discrete}
use lib.Dec.{eqb, ltb}
use borrow.Author.Tests.{eq-eqb, ne_eqb, ltb-true, ltb-false}
use lib.ListN.{length, get_or, set, replicate, length-set, length-replicate, get_or-replicate}
use lib.Seq.{get_or-set_other, get_or-set_same, set_out}
use Rattle.spec.specs.Access.{Access, Kind, Mode, reads, writes, adds, mode, agree}
use Rattle.spec.specs.GroupLog.{GroupLog, empty_group_log, group_masks_of, group_logged, conflicting_groups, group_conflict_mask}
use Rattle.spec.specs.Log.{nobody, with_thread}
use Rattle.spec.specs.LockStep.{LockState, rivals}
use Rattle.spec.specs.Mask.{Mask, any, has, union}
use Rattle.spec.specs.Op.{Space, OWN, GLOBAL}
use Rattle.spec.specs.Shape.{Shape, address, bound, is_global}
use Rattle.spec.specs.Threads.{AccessRecord, any_below, recorded}
use Rattle.spec.proofs.Laws.{union_size}
use Rattle.spec.proofs.LogLaws.{same, groups_logged, nobody_size}
use Rattle.allruns.proofs.Bools.{below_more, below_none, below_same}
use Rattle.allruns.proofs.LogMatches.{in_mode, holds}
use Rattle.allruns.proofs.LogRecord.{any_below_lem, enter_has, enter_size, has_set, has_union, holds_recorded, nobody_has, replicate_has}
use Rattle.allruns.proofs.Places.{global_place, own_apart}

-- The group masks of k cells: for each cell and mode a mask of all groups.
pub record GroupSized (groups k : ℕ) (H : GroupLog) : Type 0 where
  pub count : (m : Mode) → length (group_masks_of H m) ≡ k
  pub size : (m : Mode) (i : ℕ) → i < k → length (get_or (group_masks_of H m) i []) ≡ groups

-- At a global cell the group's own bit says whether one of its threads has ever accessed the cell in this mode. The other bits say what is barred to
-- the group: nothing but at global cells.
pub record GroupMatches (L : Shape) (k : ℕ) (ever : AccessRecord) (barred : Access → Bool) (H : GroupLog) : Type 0 where
  pub sized : GroupSized L.groups k H
  pub own : (m : Mode) (i : ℕ) → i < k → is_global L i ≡ true
      → has (get_or (group_masks_of H m) i []) L.group ≡ any_below L.threads (λ t. holds (in_mode m) i (ever t))
  pub others : (i : ℕ) (x : Kind) → i < k → barred (record { cell = i; kind = x }) ≡ (is_global L i && any (group_conflict_mask H i L.group x))

-- The group masks of K are those of H but for what group g has entered at the places for which p holds.
pub record GroupsKept (g : ℕ) (p : ℕ → Bool) (H K : GroupLog) : Type 0 where
  pub sized : (n k : ℕ) → GroupSized n k H → GroupSized n k K
  pub beside : (m : Mode) (i h : ℕ) → ¬ (h ≡ g) → has (get_or (group_masks_of K m) i []) h ≡ has (get_or (group_masks_of H m) i []) h
  pub elsewhere : (m : Mode) (i : ℕ) → p i ≡ false → get_or (group_masks_of K m) i [] ≡ get_or (group_masks_of H m) i []

-- Other bits than the one that is entered.
enter_beside : (masks : List Mask) (i g e h : ℕ) → ¬ (h ≡ g) → has (get_or (with_thread masks i g) e []) h ≡ has (get_or masks e []) h
unfolding with_thread has
enter_beside masks i g e h d = by (ℕ_discrete e i) (ltb i (length masks)) refl
  where
    by : Dec (e ≡ i) → (z : Bool) → ltb i (length masks) ≡ z
        → get_or (get_or (set masks i (set (get_or masks i []) g true)) e []) h false ≡ get_or (get_or masks e []) h false
    by (no q) z p = ap (λ m. get_or m h false) (get_or-set_other masks i e _ [] q)
    by (yes q) true p =
        ap (λ v. get_or (get_or (set masks i (set (get_or masks i []) g true)) v []) h false) q
        ∙ ap (λ m. get_or m h false) (get_or-set_same masks i _ [] (ltb-true _ _ p))
        ∙ get_or-set_other (get_or masks i []) g h true false d ∙ ap (λ v. get_or (get_or masks v []) h false) (sym q)
    by (yes q) false p = ap (λ m. get_or (get_or m e []) h false) (set_out masks i _ (ltb-false _ _ p))

pub entered_kept : (H : GroupLog) (i g : ℕ) (x : Kind) (p : ℕ → Bool) → p i ≡ true → GroupsKept g p H (group_logged H i g x)
entered_kept H i g x p r =
    record {
      sized = λ n k z. record {
        count = λ m. ap length (groups_logged H i g x m) ∙ counted m (same m (mode x)) ∙ z.count m;
        size = λ m e l. ap (λ y. length (get_or y e [])) (groups_logged H i g x m) ∙ long m (same m (mode x)) e ∙ z.size m e l;
      };
      beside = λ m e h d. ap (λ y. has (get_or y e []) h) (groups_logged H i g x m) ∙ bit m (same m (mode x)) e h d;
      elsewhere = λ m e q. ap (λ y. get_or y e []) (groups_logged H i g x m) ∙ apart m (same m (mode x)) e (λ s. true≢false (sym r ∙ ap p (sym s) ∙ q));
    }
  where
    after : Mode → Bool → List Mask
    after m b = cond b (with_thread (group_masks_of H m) i g) (group_masks_of H m)

    counted : (m : Mode) (b : Bool) → length (after m b) ≡ length (group_masks_of H m)
    counted m true = unfold with_thread in (length-set (group_masks_of H m) i _)
    counted m false = refl

    long : (m : Mode) (b : Bool) (e : ℕ) → length (get_or (after m b) e []) ≡ length (get_or (group_masks_of H m) e [])
    long m true e = enter_size (group_masks_of H m) i g e
    long m false e = refl

    bit : (m : Mode) (b : Bool) (e h : ℕ) → ¬ (h ≡ g) → has (get_or (after m b) e []) h ≡ has (get_or (group_masks_of H m) e []) h
    bit m true e h d = enter_beside (group_masks_of H m) i g e h d
    bit m false e h d = refl

    apart : (m : Mode) (b : Bool) (e : ℕ) → ¬ (e ≡ i) → get_or (after m b) e [] ≡ get_or (group_masks_of H m) e []
    apart m true e d = unfold with_thread in (get_or-set_other (group_masks_of H m) i e _ [] d)
    apart m false e d = refl

pub groups_same : (g : ℕ) (p : ℕ → Bool) (H : GroupLog) → GroupsKept g p H H
groups_same g p H = record { sized = λ n k z. z; beside = λ m i h d. refl; elsewhere = λ m i q. refl }

pub groups_then : (g : ℕ) (p : ℕ → Bool) (H K J : GroupLog) → GroupsKept g p H K → GroupsKept g p K J → GroupsKept g p H J
groups_then g p H K J a b =
    record {
      sized = λ n k z. b.sized n k (a.sized n k z);
      beside = λ m i h d. b.beside m i h d ∙ a.beside m i h d;
      elsewhere = λ m i q. b.elsewhere m i q ∙ a.elsewhere m i q;
    }

-- What the groups other than g have done to a cell, as far as it conflicts with an access of kind x: group h has.
unfoldable pub met_by : GroupLog → (i : ℕ) → Kind → (h : ℕ) → Mode → Bool
met_by H i x h m = not (agree false m (mode x)) && has (get_or (group_masks_of H m) i []) h

unfoldable pub met : GroupLog → (i : ℕ) → Kind → (h : ℕ) → Bool
met H i x h = met_by H i x h writes || (met_by H i x h adds || met_by H i x h reads)

conflicting_size : (H : GroupLog) (i : ℕ) (x : Kind) (m : Mode) → length (conflicting_groups H i m x) ≡ length (get_or (group_masks_of H m) i [])
unfolding conflicting_groups
conflicting_size H i x m = by (agree false m (mode x))
  where
    by : (b : Bool) → length (cond b (nobody (get_or (group_masks_of H m) i [])) (get_or (group_masks_of H m) i [])) ≡ length (get_or (group_masks_of H m) i [])
    by true = nobody_size (get_or (group_masks_of H m) i [])
    by false = refl

conflicting_has : (H : GroupLog) (i : ℕ) (x : Kind) (m : Mode) (h : ℕ) → has (conflicting_groups H i m x) h ≡ met_by H i x h m
unfolding conflicting_groups met_by
conflicting_has H i x m h = by (agree false m (mode x))
  where
    by : (b : Bool) → has (cond b (nobody (get_or (group_masks_of H m) i [])) (get_or (group_masks_of H m) i [])) h ≡ (not b && has (get_or (group_masks_of H m) i []) h)
    by true = nobody_has (get_or (group_masks_of H m) i []) h
    by false = refl

-- The conflict mask of a group has a group exactly if another one has met the access.
pub groups_met_lem : (n k : ℕ) (H : GroupLog) → GroupSized n k H → (i g : ℕ) (x : Kind) → i < k → g < n
    → any (group_conflict_mask H i g x) ≡ any_below n (λ h. not (eqb h g) && met H i x h)
unfolding group_conflict_mask met
groups_met_lem n k H z i g x l m =
    any_below_lem (set all g false) ∙ ap (λ a. any_below a (has (set all g false))) (length-set all g false ∙ size)
    ∙ below_same n _ _ (λ h j. has_set all g h false (omega (arith, size)) ∙ bits (eqb h g) h)
  where
    in_mode_lem : Mode → Mask
    in_mode_lem m = conflicting_groups H i m x

    long : (m : Mode) → length (in_mode_lem m) ≡ n
    long m = conflicting_size H i x m ∙ z.size m i l

    two : Mask
    two = union (in_mode_lem adds) (in_mode_lem reads)

    all : Mask
    all = union (in_mode_lem writes) two

    size : length all ≡ n
    size =
        union_size (in_mode_lem writes) two (long writes ∙ sym (union_size (in_mode_lem adds) (in_mode_lem reads) (long adds ∙ sym (long reads)) ∙ long adds))
        ∙ long writes

    bits : (b : Bool) (h : ℕ) → cond b false (has all h) ≡ (not b && (met_by H i x h writes || (met_by H i x h adds || met_by H i x h reads)))
    bits true h = refl
    bits false h =
        has_union (in_mode_lem writes) two h ∙ ap₂ ◌||◌ (conflicting_has H i x writes h)
        (has_union (in_mode_lem adds) (in_mode_lem reads) h ∙ ap₂ ◌||◌ (conflicting_has H i x adds h) (conflicting_has H i x reads h))

-- So it stays while only group g enters anything.
pub kept_met : (n k : ℕ) (H K : GroupLog) (g : ℕ) (p : ℕ → Bool) → GroupSized n k H → GroupsKept g p H K → (i : ℕ) (x : Kind) → i < k → g < n
    → any (group_conflict_mask K i g x) ≡ any (group_conflict_mask H i g x)
unfolding met met_by
kept_met n k H K g p z u i x l m =
    groups_met_lem n k K (u.sized n k z) i g x l m ∙ below_same n _ _ (λ h j. by h (ℕ_discrete h g)) ∙ sym (groups_met_lem n k H z i g x l m)
  where
    same_bit : (h : ℕ) (m : Mode) → ¬ (h ≡ g) → met_by K i x h m ≡ met_by H i x h m
    same_bit h m d = unfold met_by in (ap (λ b. not (agree false m (mode x)) && b) (u.beside m i h d))

    by : (h : ℕ) → Dec (h ≡ g) → (not (eqb h g) && met K i x h) ≡ (not (eqb h g) && met H i x h)
    by h (yes e) = rw (eq-eqb h g e)
    by h (no d) = unfold met in (ap (λ b. not (eqb h g) && b) (ap₂ ◌||◌ (same_bit h writes d) (ap₂ ◌||◌ (same_bit h adds d) (same_bit h reads d))))

module _ (L : Shape) (k : ℕ) (ever : AccessRecord) (barred : Access → Bool) (H : GroupLog) (g : L.group < L.groups)
    (h : GroupMatches L k ever barred H) where
  -- What is barred to the group is what lock step tests.
  pub rivals_say : (s : LockState) → s.group_log ≡ H → (p : Space) (c : ℕ) (x : Kind) → c < bound L p → address L p c < k
      → barred (record { cell = address L p c; kind = x }) ≡ any (rivals p s L.group (address L p c) x)
  unfolding rivals any
  rivals_say s e OWN c x l i = h.others (address L OWN c) x i ∙ ap (λ b. b && any (group_conflict_mask H (address L OWN c) L.group x)) (own_apart L g c l)
  rivals_say s e GLOBAL c x l i =
      h.others (address L GLOBAL c) x i ∙ ap₂ (λ b G. b && any (group_conflict_mask G (address L GLOBAL c) L.group x)) (global_place L c) (sym e)

  -- The record with an access of the cell at i.
  ever_after : (t i : ℕ) (x : Kind) (m : Mode) (e : ℕ) → t < L.threads
      → any_below L.threads (λ u. holds (in_mode m) e (recorded ever t (record { cell = i; kind = x } ∷ []) u))
      ≡ (any_below L.threads (λ u. holds (in_mode m) e (ever u)) || (eqb e i && in_mode m x))
  ever_after t i x m e l =
      below_same L.threads _ _ (λ u a. holds_recorded ever t i (in_mode m) x u e)
      ∙ below_more L.threads (λ u. holds (in_mode m) e (ever u)) t (eqb e i && in_mode m x) l

  -- An access of an own cell is entered in no group mask.
  pub groups_own : (t i : ℕ) (x : Kind) → t < L.threads → is_global L i ≡ false
      → GroupMatches L k (recorded ever t (record { cell = i; kind = x } ∷ [])) barred H
  groups_own t i x l r =
      record {
        sized = h.sized;
        own = λ m e j q.
            h.own m e j q ∙ sym (ever_after t i x m e l
            ∙ ap (λ b. any_below L.threads (λ u. holds (in_mode m) e (ever u)) || (b && in_mode m x))
            (ne_eqb e i (λ s. true≢false (sym q ∙ ap (is_global L) s ∙ r))) ∙ or-false _);
        others = h.others;
      }

  -- One of a global cell enters the group.
  pub groups_global : (t i : ℕ) (x : Kind) → t < L.threads → i < k → is_global L i ≡ true
      → GroupMatches L k (recorded ever t (record { cell = i; kind = x } ∷ [])) barred (group_logged H i L.group x)
  groups_global t i x l j r =
      record {
        sized = kept.sized L.groups k h.sized;
        own = λ m e b q.
            ap (λ y. has (get_or y e []) L.group) (groups_logged H i L.group x m) ∙ bit m e (same m (mode x)) b q
            ∙ sym (ever_after t i x m e l ∙ (unfold in_mode in refl));
        others = λ e y b. h.others e y b ∙ ap (λ z. is_global L e && z) (sym (kept_met L.groups k H _ L.group (is_global L) h.sized kept e y b g));
      }
    where
      kept : GroupsKept L.group (is_global L) H (group_logged H i L.group x)
      kept = entered_kept H i L.group x (is_global L) r

      bit : (m : Mode) (e : ℕ) (b : Bool) → e < k → is_global L e ≡ true
          → has (get_or (cond b (with_thread (group_masks_of H m) i L.group) (group_masks_of H m)) e []) L.group
          ≡ (any_below L.threads (λ u. holds (in_mode m) e (ever u)) || (eqb e i && b))
      bit m e true a q =
          enter_has (group_masks_of H m) i L.group e L.group (omega (arith, h.sized.count m)) (omega (arith, h.sized.size m i j))
          ∙ ap₂ (λ y z. y || (z && eqb e i)) (h.own m e a q) (eq-eqb L.group L.group refl)
          ∙ ap (λ z. any_below L.threads (λ u. holds (in_mode m) e (ever u)) || z) (sym (and-true (eqb e i)))
      bit m e false a q = h.own m e a q ∙ sym (ap (λ z. any_below L.threads (λ u. holds (in_mode m) e (ever u)) || z) (and-false (eqb e i)) ∙ or-false _)

-- At the launch nothing is entered: no own access, and nothing barred.
masks_none : (groups k : ℕ) (m : Mode) → group_masks_of (empty_group_log groups k) m ≡ replicate k (replicate groups false)
unfolding group_masks_of empty_group_log
masks_none groups k reads = refl
masks_none groups k writes = refl
masks_none groups k adds = refl

pub none_in : (groups k : ℕ) (m : Mode) (i h : ℕ) → i < k → has (get_or (group_masks_of (empty_group_log groups k) m) i []) h ≡ false
none_in groups k m i h l =
    ap (λ y. has (get_or y i []) h) (masks_none groups k m) ∙ ap (λ y. has y h) (get_or-replicate k i (replicate groups false) [] l) ∙ replicate_has groups h

pub empty_groups_sized : (groups k : ℕ) → GroupSized groups k (empty_group_log groups k)
empty_groups_sized groups k =
    record {
      count = λ m. ap length (masks_none groups k m) ∙ length-replicate k (replicate groups false);
      size = λ m i l.
          ap (λ y. length (get_or y i [])) (masks_none groups k m) ∙ ap length (get_or-replicate k i (replicate groups false) [] l) ∙ length-replicate groups false;
    }

pub none_met : (groups k : ℕ) (i g : ℕ) (x : Kind) → i < k → g < groups → any (group_conflict_mask (empty_group_log groups k) i g x) ≡ false
unfolding met met_by
none_met groups k i g x l j =
    groups_met_lem groups k (empty_group_log groups k) (empty_groups_sized groups k) i g x l j
    ∙ (below_none groups _).1 (λ h a. ap (λ b. not (eqb h g) && b) (ap₂ ◌||◌ (none h writes) (ap₂ ◌||◌ (none h adds) (none h reads))) ∙ and-false (not (eqb h g)))
  where
    none : (h : ℕ) (m : Mode) → (not (agree false m (mode x)) && has (get_or (group_masks_of (empty_group_log groups k) m) i []) h) ≡ false
    none h m = ap (λ b. not (agree false m (mode x)) && b) (none_in groups k m i h l) ∙ and-false (not (agree false m (mode x)))
