-- A thread's access of a global cell, by what it comes to in the global cells seen as those of a group alone. Assumes nothing.
use mathlib.Core.Path.{◌≡◌, refl, sym, ◌∙◌, ap, ap₂}
use mathlib.Core.List.{List, []}
use mathlib.Core.Bool.{Bool, true, false, cond, not, ◌&&◌, ◌||◌}
use Prim.Native.Nat.{ℕ, ◌+◌, ◌-◌, ◌*◌, ◌<◌, ◌≤◌}
use native.Mathlib.Omega.{arith}
use native.Mathlib.Decide.{dec_lt}
use borrow.Author.Tests.{le-leb, lt-leb, le-ltb}
use lib.Dec.{eqb, leb, ltb}
use lib.ListN.{length, get_or, set}
use Rattle.spec.specs.declared.Verdict.{Verdict}
use Rattle.spec.specs.declared.Verdict.TheVariants.{Race, GroupRace, Outside}
use Rattle.spec.specs.Access.{Kind, load, store, atomic_add, cell_after, registers_after, value_of, Mode, reads, writes, adds, mode, agree}
use Rattle.spec.specs.Mask.{Mask, any, has, lowest, union}
use Rattle.spec.specs.Log.{Log, masks_of, nobody, with_thread, first_value, unequal, logged, conflicting, tested_mask, conflict_mask, shown_kind, race_kind}
use Rattle.spec.specs.GroupLog.{GroupLog, group_masks_of, group_logged, conflicting_groups, group_conflict_mask, group_race_kind}
use Rattle.spec.specs.Op.{OWN, GLOBAL, Mem}
use Rattle.spec.specs.Table.{Row, cell_byte, kind_of}
use Rattle.spec.specs.Shape.{Shape, Past, nowhere, at_common, in_common, is_common, past, total, bound, address}
use Rattle.spec.specs.Limits.{common_from}
use Rattle.spec.specs.Steps.{stepped}
use Rattle.spec.specs.LockStep.{LockState, Step, continues, stops, update, reg, made_access, enter_group, rivals, try_access, past_turn, access_turn}
use Rattle.spec.proofs.LogLaws.{same, masks_logged, groups_logged}
use Rattle.layout.specs.Views.{part, put_part, log_part, put_log, view_of, put_view, global_from, alone, Sized}
use Rattle.layout.specs.Shared.{group_part, put_groups}
use Rattle.layout.proofs.Parts.{part_at, part_set, part_size, put_part_lem, put_set, LogFits, log_part_masks, put_log_masks, same_log}

-- A change at c of the stretch, put back, is one at a + c.
pub put_one : {A : Type 0} (a k : ℕ) (xs : List A) (c : ℕ) (v : A) → a + k ≤ length xs → c < k → put_part a (set (part a k xs) c v) xs ≡ set xs (a + c) v
put_one a k xs c v h l =
    put_set a (part a k xs) xs c v (omega arith) (omega (arith, part_size a k xs h)) ∙ ap (λ y. set y (a + c) v) (put_part_lem a k xs h)

-- An access of cell c of a log's stretch is one of the cell at a + c.
module _ (a k : ℕ) (G : Log) (c : ℕ) (h : c < k) where
  masks_at : (m : Mode) → get_or (masks_of (log_part a k G) m) c [] ≡ get_or (masks_of G m) (a + c) []
  masks_at m = ap (λ y. get_or y c []) (log_part_masks a k G m) ∙ part_at a k (masks_of G m) c [] h

  first_at : (v : ℕ) → first_value (log_part a k G) c v ≡ first_value G (a + c) v
  unfolding first_value log_part masks_of
  first_at v = ap₂ (λ w u. cond (any w) u v) (masks_at writes) (part_at a k G.values c 0 h)

  unequal_at : (v : ℕ) → unequal (log_part a k G) c v ≡ unequal G (a + c) v
  unfolding unequal log_part
  unequal_at v = ap₂ (λ b u. b || not (eqb v u)) (part_at a k G.marks c false h) (first_at v)

  conflicting_at : (m : Mode) (x : Kind) → conflicting (log_part a k G) c m x ≡ conflicting G (a + c) m x
  unfolding conflicting
  conflicting_at m x = ap₂ (λ w b. cond (agree (not b) m (mode x)) (nobody w) w) (masks_at m) (unequal_at (value_of x))

  conflict_at : (t : ℕ) (x : Kind) → conflict_mask (log_part a k G) c t x ≡ conflict_mask G (a + c) t x
  unfolding conflict_mask tested_mask
  conflict_at t x =
      ap₂ (λ w y. set (union w y) t false) (conflicting_at writes x) (ap₂ union (conflicting_at adds x) (conflicting_at reads x))

  kind_at : (u : ℕ) (x : Kind) → race_kind (log_part a k G) c u x ≡ race_kind G (a + c) u x
  unfolding race_kind
  kind_at u x = ap₂ (λ w y. shown_kind (has w u) (has y u) (mode x)) (conflicting_at writes x) (conflicting_at adds x)

  module _ (n total : ℕ) (F : LogFits n total G) (l : a + k ≤ total) where
    count : (m : Mode) → length (masks_of G m) ≡ total
    count m = (F.masks_fit m).count

    entered_at : (m : Mode) (t : ℕ) → put_part a (with_thread (masks_of (log_part a k G) m) c t) (masks_of G m) ≡ with_thread (masks_of G m) (a + c) t
    unfolding with_thread
    entered_at m t =
        ap₂ (λ y w. put_part a (set y c (set w t true)) (masks_of G m)) (log_part_masks a k G m) (masks_at m)
        ∙ put_one a k (masks_of G m) c _ (omega (arith, count m)) h

    masks_kept : (m : Mode) → put_part a (masks_of (log_part a k G) m) (masks_of G m) ≡ masks_of G m
    masks_kept m = ap (λ y. put_part a y (masks_of G m)) (log_part_masks a k G m) ∙ put_part_lem a k (masks_of G m) (omega (arith, count m))

    pub logged_at : (t : ℕ) (x : Kind) → put_log a (logged (log_part a k G) c t x) G ≡ logged G (a + c) t x
    unfolding put_log logged log_part
    logged_at t x =
        same_log _ _
        (λ m. put_log_masks a (logged (log_part a k G) c t x) G m ∙ ap (λ y. put_part a y (masks_of G m)) (masks_logged (log_part a k G) c t x m)
        ∙ by m (same m (mode x)) ∙ sym (masks_logged G (a + c) t x m))
        (values x) (marks x)
      where
        by : (m : Mode) (b : Bool)
            → put_part a (cond b (with_thread (masks_of (log_part a k G) m) c t) (masks_of (log_part a k G) m)) (masks_of G m)
            ≡ cond b (with_thread (masks_of G m) (a + c) t) (masks_of G m)
        by m true = entered_at m t
        by m false = masks_kept m

        values_kept : put_part a (part a k G.values) G.values ≡ G.values
        values_kept = put_part_lem a k G.values (omega (arith, F.values_fit))

        marks_kept : put_part a (part a k G.marks) G.marks ≡ G.marks
        marks_kept = put_part_lem a k G.marks (omega (arith, F.marks_fit))

        values : (x : Kind) → put_part a (logged (log_part a k G) c t x).values G.values ≡ (logged G (a + c) t x).values
        values load = values_kept
        values (store v) =
            put_one a k G.values c (first_value (log_part a k G) c v) (omega (arith, F.values_fit)) h ∙ ap (set G.values (a + c)) (first_at v)
        values (atomic_add v) = values_kept

        marks : (x : Kind) → put_part a (logged (log_part a k G) c t x).marks G.marks ≡ (logged G (a + c) t x).marks
        marks load = marks_kept
        marks (store v) =
            put_one a k G.marks c (unequal (log_part a k G) c v) (omega (arith, F.marks_fit)) h ∙ ap (set G.marks (a + c)) (unequal_at v)
        marks (atomic_add v) = marks_kept

-- The same of group masks.
pub group_part_masks : (a k : ℕ) (H : GroupLog) (m : Mode) → group_masks_of (group_part a k H) m ≡ part a k (group_masks_of H m)
unfolding group_masks_of group_part
group_part_masks a k H reads = refl
group_part_masks a k H writes = refl
group_part_masks a k H adds = refl

pub put_groups_masks : (a : ℕ) (P H : GroupLog) (m : Mode) → group_masks_of (put_groups a P H) m ≡ put_part a (group_masks_of P m) (group_masks_of H m)
unfolding group_masks_of put_groups
put_groups_masks a P H reads = refl
put_groups_masks a P H writes = refl
put_groups_masks a P H adds = refl

pub same_groups : (H K : GroupLog) → ((m : Mode) → group_masks_of H m ≡ group_masks_of K m) → H ≡ K
unfolding group_masks_of
same_groups H K e = λ i. record { readers = e reads i; writers = e writes i; adders = e adds i }

module _ (a k : ℕ) (H : GroupLog) (c : ℕ) (h : c < k) where
  groups_at : (m : Mode) → get_or (group_masks_of (group_part a k H) m) c [] ≡ get_or (group_masks_of H m) (a + c) []
  groups_at m = ap (λ y. get_or y c []) (group_part_masks a k H m) ∙ part_at a k (group_masks_of H m) c [] h

  conflicting_groups_at : (m : Mode) (x : Kind) → conflicting_groups (group_part a k H) c m x ≡ conflicting_groups H (a + c) m x
  unfolding conflicting_groups
  conflicting_groups_at m x = ap (λ w. cond (agree false m (mode x)) (nobody w) w) (groups_at m)

  pub group_conflict_at : (g : ℕ) (x : Kind) → group_conflict_mask (group_part a k H) c g x ≡ group_conflict_mask H (a + c) g x
  unfolding group_conflict_mask
  group_conflict_at g x =
      ap₂ (λ w y. set (union w y) g false) (conflicting_groups_at writes x) (ap₂ union (conflicting_groups_at adds x) (conflicting_groups_at reads x))

  pub group_kind_at : (u : ℕ) (x : Kind) → group_race_kind (group_part a k H) c u x ≡ group_race_kind H (a + c) u x
  unfolding group_race_kind
  group_kind_at u x = ap₂ (λ w y. shown_kind (has w u) (has y u) (mode x)) (conflicting_groups_at writes x) (conflicting_groups_at adds x)

  pub group_logged_at : (g : ℕ) (x : Kind) → group_part a k (group_logged H (a + c) g x) ≡ group_logged (group_part a k H) c g x
  group_logged_at g x =
      same_groups _ _ (λ m.
      group_part_masks a k (group_logged H (a + c) g x) m ∙ ap (part a k) (groups_logged H (a + c) g x m)
      ∙ by m (same m (mode x)) ∙ sym (groups_logged (group_part a k H) c g x m))
    where
      by : (m : Mode) (b : Bool)
          → part a k (cond b (with_thread (group_masks_of H m) (a + c) g) (group_masks_of H m))
          ≡ cond b (with_thread (group_masks_of (group_part a k H) m) c g) (group_masks_of (group_part a k H) m)
      by m true =
          unfold with_thread in
          (part_set a k (group_masks_of H m) c _ h ∙ ap₂ (λ y w. set y c (set w g true)) (sym (group_part_masks a k H m)) (sym (groups_at m)))
      by m false = sym (group_part_masks a k H m)

pub log_fits : (L : Shape) (z : LockState) → Sized L z → LogFits L.threads (total L) z.log
log_fits L z S = record { masks_fit = S.masks_are; values_fit = S.values_are; marks_fit = S.marks_are }

-- What a thread's access of global cell c comes to, by what it does in the stretch: rivals are looked for where no thread of the group is met.
unfoldable pub global_step : Shape → LockState → (t c : ℕ) → Kind → Step → Step
global_step L z t c x (stops v y) = stops v z
global_step L z t c x (continues y) =
    let i = global_from L + c in
    let groups = group_conflict_mask z.group_log i L.group x in
    cond (any groups) (stops (GroupRace t (lowest groups) (group_race_kind z.group_log i (lowest groups) x) c) z)
    (continues (enter_group GLOBAL L.group i x (put_view (global_from L) y z)))

module _ (L : Shape) (z : LockState) (S : Sized L z) where
  abbrev from : ℕ
  from = global_from L

  abbrev view : LockState
  view = view_of from L.global z

  within : from + L.global ≤ total L
  unfolding total
  within = omega arith

  -- The access made in the stretch and put back is made in the launch's cells.
  pub made_at : (t d c : ℕ) (x : Kind) → c < L.global → put_view from (made_access view t d c x) z ≡ made_access z t d (from + c) x
  unfolding put_view made_access update view_of
  made_at t d c x h =
      let old : get_or (part from L.global z.cells) c 0 ≡ get_or z.cells (from + c) 0 = part_at from L.global z.cells c 0 h in
      ap (λ o. update z (set z.regs t (registers_after x d o (get_or z.regs t [])))
      (put_part from (set (part from L.global z.cells) c (cell_after x o)) z.cells)
      (put_log from (logged (log_part from L.global z.log) c t x) z.log) (stepped z.steps t)) old
      ∙ ap₂ (λ cells log. update z (set z.regs t (registers_after x d (get_or z.cells (from + c) 0) (get_or z.regs t []))) cells log (stepped z.steps t))
      (put_one from L.global z.cells c _ (omega (arith, within, S.cells_are)) h)
      (logged_at from L.global z.log c h L.threads (total L) (log_fits L z S) within t x)

  module _ (n t : ℕ) where
    abbrev own : Shape
    own = alone n L.global []

    module _ (d c : ℕ) (x : Kind) (h : c < L.global) where
      abbrev others : Mask
      others = conflict_mask z.log (from + c) t x

      abbrev met : Verdict
      met = Race t (lowest others) (race_kind z.log (from + c) (lowest others) x) c

      -- In the stretch no other group can be met, and a cell stands where its number says.
      inside : try_access own OWN view t d c x ≡ cond (any others) (stops met view) (continues (made_access view t d c x))
      unfolding try_access address rivals enter_group any view_of
      inside =
          let G = log_part from L.global z.log in
          ap (λ i. let met = conflict_mask G i t x in
          cond (any met) (stops (Race t (lowest met) (race_kind G i (lowest met) x) c) view) (continues (made_access view t d i x)))
          (let e : 0 * L.global + c ≡ c = omega arith in e)
          ∙ ap (λ met. cond (any met) (stops (Race t (lowest met) (race_kind G c (lowest met) x) c) view) (continues (made_access view t d c x)))
          (conflict_at from L.global z.log c h t x)
          ∙ ap (λ y. cond (any others) (stops (Race t (lowest others) y c) view) (continues (made_access view t d c x)))
          (kind_at from L.global z.log c h (lowest others) x)

      outside : try_access L GLOBAL z t d c x ≡ cond (any others) (stops met z) (global_step L z t c x (continues (made_access view t d c x)))
      unfolding try_access address rivals global_step
      outside =
          let groups = group_conflict_mask z.group_log (from + c) L.group x in
          ap (λ y. cond (any others) (stops met z)
          (cond (any groups) (stops (GroupRace t (lowest groups) (group_race_kind z.group_log (from + c) (lowest groups) x) c) z)
          (continues (enter_group GLOBAL L.group (from + c) x y)))) (sym (made_at t d c x h))

      tried : try_access L GLOBAL z t d c x ≡ global_step L z t c x (try_access own OWN view t d c x)
      tried = outside ∙ by (any others) ∙ sym (ap (global_step L z t c x) inside)
        where
          by : (b : Bool)
              → cond b (stops met z) (global_step L z t c x (continues (made_access view t d c x)))
              ≡ global_step L z t c x (cond b (stops met view) (continues (made_access view t d c x)))
          by true = unfold global_step in refl
          by false = refl

    -- The law: the access in the stretch decides, and where it goes on the rivals do.
    module _ (m : Mem) (x : Row) where
      abbrev cell : ℕ
      cell = reg z t (cell_byte m x)

      abbrev kind : Kind
      kind = kind_of m (reg z t x.a)

      pub global_turn : access_turn L GLOBAL m x z t ≡ global_step L z t cell kind (access_turn own OWN m x view t)
      unfolding access_turn bound
      global_turn = by (dec_lt cell L.global)
        where
          regs_same : (r : ℕ) → reg view t r ≡ reg z t r
          regs_same r = unfold reg view_of in refl

          -- in neither is there a common cell that the row could name
          far : past L GLOBAL cell kind ≡ nowhere
          far = unfold past is_common in refl

          none : (c : ℕ) (k : Kind) → past own OWN c k ≡ nowhere
          none c k =
              unfold past is_common in_common in
              (by (dec_lt c common_from))
            where
              by : Dec (c < common_from) → cond (leb common_from c && ltb c (common_from + 0)) (at_common k (get_or [] (c - common_from) 0)) nowhere ≡ nowhere
              by (yes l) = ap (λ b. cond (b && ltb c (common_from + 0)) (at_common k (get_or [] (c - common_from) 0)) nowhere) (lt-leb common_from c l)
              by (no l) =
                  ap₂ (λ a b. cond (a && b) (at_common k (get_or [] (c - common_from) 0)) nowhere) (le-leb common_from c (omega arith))
                  (le-ltb c (common_from + 0) (omega arith))

          beyond : (s : LockState) (c : ℕ) (q : Past) → q ≡ nowhere → past_turn s t x.d c q ≡ stops (Outside t c) s
          beyond s c q e = ap (past_turn s t x.d c) e ∙ (unfold past_turn in refl)

          seen : access_turn own OWN m x view t
              ≡ cond (leb L.global cell) (stops (Outside t cell) view) (try_access own OWN view t x.d cell kind)
          seen =
              ap₂ (λ c y. cond (leb L.global c) (past_turn view t x.d c (past own OWN c (kind_of m y))) (try_access own OWN view t x.d c (kind_of m y)))
              (regs_same (cell_byte m x)) (regs_same x.a)
              ∙ ap (λ y. cond (leb L.global cell) y (try_access own OWN view t x.d cell kind)) (beyond view cell _ (none cell kind))

          by : Dec (cell < L.global)
              → cond (leb L.global cell) (past_turn z t x.d cell (past L GLOBAL cell kind)) (try_access L GLOBAL z t x.d cell kind)
              ≡ global_step L z t cell kind (access_turn own OWN m x view t)
          by (yes l) =
              ap (λ b. cond b (past_turn z t x.d cell (past L GLOBAL cell kind)) (try_access L GLOBAL z t x.d cell kind)) (lt-leb L.global cell l)
              ∙ tried x.d cell kind l
              ∙ sym (ap (global_step L z t cell kind) (seen ∙ ap (λ b. cond b (stops (Outside t cell) view) (try_access own OWN view t x.d cell kind)) (lt-leb L.global cell l)))
          by (no l) =
              let g = le-leb L.global cell (omega arith) in
              ap (λ b. cond b (past_turn z t x.d cell (past L GLOBAL cell kind)) (try_access L GLOBAL z t x.d cell kind)) g
              ∙ beyond z cell _ far
              ∙ sym (ap (global_step L z t cell kind) (seen ∙ ap (λ b. cond b (stops (Outside t cell) view) (try_access own OWN view t x.d cell kind)) g)
              ∙ (unfold global_step in refl))
