-- An access of a cell of a stretch, in the launch and in the view of that stretch. Assumes nothing.
use mathlib.Core.Path.{◌≡◌, refl, sym, ◌∙◌, ap, ap₂, subst}
use mathlib.Core.List.{[]}
use mathlib.Core.Bool.{Bool, true, false, cond, not, ◌||◌}
use Prim.Native.Nat.{ℕ, ◌+◌, ◌<◌, ◌≤◌}
use native.Mathlib.Omega.{arith}
use lib.Dec.{eqb}
use lib.ListN.{length, get_or, set, length-set}
use Rattle.spec.specs.Access.{Kind, load, store, atomic_add, value_of, cell_after, registers_after, Mode, reads, writes, adds, mode, agree}
use Rattle.spec.specs.Mask.{any, union, has}
use Rattle.spec.specs.Log.{Log, masks_of, nobody, with_thread, first_value, unequal, logged, conflicting, tested_mask, conflict_mask, race_kind, shown_kind}
use Rattle.spec.specs.Steps.{stepped}
use Rattle.spec.specs.LockStep.{LockState, update, made_access}
use Rattle.spec.proofs.LogLaws.{same, masks_logged}
use Rattle.layout.specs.Memory.{Masks}
use Rattle.layout.specs.Views.{put_part, put_log, put_view}
use Rattle.layout.proofs.Buffers.{masks_set}
use Rattle.layout.proofs.Parts.{put_at, put_set, put_log_masks, same_log, LogFits, StateFits}

-- An access keeps the sizes.
module _ (n k : ℕ) (G : Log) (F : LogFits n k G) (c t : ℕ) (x : Kind) (l : c < k) where
  entered_fits : (m : Mode) (b : Bool) → Masks n k (cond b (with_thread (masks_of G m) c t) (masks_of G m))
  unfolding with_thread
  entered_fits m true =
      masks_set n k (masks_of G m) c (set (get_or (masks_of G m) c []) t true) (F.masks_fit m) l
      (length-set (get_or (masks_of G m) c []) t true ∙ (F.masks_fit m).each c l)
  entered_fits m false = F.masks_fit m

  pub logged_fits : LogFits n k (logged G c t x)
  logged_fits =
      record {
        masks_fit = λ m. subst (Masks n k) (sym (masks_logged G c t x m)) (entered_fits m (same m (mode x)));
        values_fit = values x ∙ F.values_fit;
        marks_fit = marks x ∙ F.marks_fit;
      }
    where
      values : (x : Kind) → length (logged G c t x).values ≡ length G.values
      values load = unfold logged in refl
      values (store v) = unfold logged in length-set G.values c (first_value G c v)
      values (atomic_add v) = unfold logged in refl

      marks : (x : Kind) → length (logged G c t x).marks ≡ length G.marks
      marks load = unfold logged in refl
      marks (store v) = unfold logged in length-set G.marks c (unequal G c v)
      marks (atomic_add v) = unfold logged in refl

-- P is the log of the k cells from a on; cell c of them stands at a + c.
module _ (n t a k : ℕ) (G P : Log) (F : LogFits n t G) (Q : LogFits n k P) (h : a + k ≤ t) (c : ℕ) (l : c < k) where
  placed_mask : (m : Mode) → get_or (masks_of (put_log a P G) m) (a + c) [] ≡ get_or (masks_of P m) c []
  placed_mask m =
      ap (λ r. get_or r (a + c) []) (put_log_masks a P G m)
      ∙ put_at a (masks_of P m) (masks_of G m) c [] (omega (arith, (F.masks_fit m).count)) (omega (arith, (Q.masks_fit m).count))

  placed_value : get_or (put_log a P G).values (a + c) 0 ≡ get_or P.values c 0
  unfolding put_log
  placed_value = put_at a P.values G.values c 0 (omega (arith, F.values_fit)) (omega (arith, Q.values_fit))

  placed_mark : get_or (put_log a P G).marks (a + c) false ≡ get_or P.marks c false
  unfolding put_log
  placed_mark = put_at a P.marks G.marks c false (omega (arith, F.marks_fit)) (omega (arith, Q.marks_fit))

  placed_first : (v : ℕ) → first_value (put_log a P G) (a + c) v ≡ first_value P c v
  unfolding first_value masks_of
  placed_first v = ap₂ (λ m w. cond (any m) w v) (placed_mask writes) placed_value

  placed_unequal : (v : ℕ) → unequal (put_log a P G) (a + c) v ≡ unequal P c v
  unfolding unequal
  placed_unequal v = ap₂ (λ b w. b || not (eqb v w)) placed_mark (placed_first v)

  placed_conflicting : (m : Mode) (x : Kind) → conflicting (put_log a P G) (a + c) m x ≡ conflicting P c m x
  unfolding conflicting
  placed_conflicting m x = ap₂ (λ b those. cond (agree (not b) m (mode x)) (nobody those) those) (placed_unequal (value_of x)) (placed_mask m)

  pub placed_conflicts : (u : ℕ) (x : Kind) → conflict_mask (put_log a P G) (a + c) u x ≡ conflict_mask P c u x
  unfolding conflict_mask tested_mask
  placed_conflicts u x =
      ap₂ (λ w r. set (union w r) u false) (placed_conflicting writes x) (ap₂ union (placed_conflicting adds x) (placed_conflicting reads x))

  pub placed_race : (u : ℕ) (x : Kind) → race_kind (put_log a P G) (a + c) u x ≡ race_kind P c u x
  unfolding race_kind
  placed_race u x = ap₂ (λ w r. shown_kind (has w u) (has r u) (mode x)) (placed_conflicting writes x) (placed_conflicting adds x)

  placed_thread : (m : Mode) (u : ℕ) → with_thread (put_part a (masks_of P m) (masks_of G m)) (a + c) u ≡ put_part a (with_thread (masks_of P m) c u) (masks_of G m)
  unfolding with_thread
  placed_thread m u =
      ap (λ r. set (put_part a (masks_of P m) (masks_of G m)) (a + c) (set r u true))
      (ap (λ r. get_or r (a + c) []) (sym (put_log_masks a P G m)) ∙ placed_mask m)
      ∙ sym (put_set a (masks_of P m) (masks_of G m) c (set (get_or (masks_of P m) c []) u true)
      (omega (arith, (F.masks_fit m).count)) (omega (arith, (Q.masks_fit m).count)))

  stored_value : (v : ℕ) → set (put_part a P.values G.values) (a + c) (first_value (put_log a P G) (a + c) v)
      ≡ put_part a (set P.values c (first_value P c v)) G.values
  stored_value v =
      ap (set (put_part a P.values G.values) (a + c)) (placed_first v)
      ∙ sym (put_set a P.values G.values c (first_value P c v) (omega (arith, F.values_fit)) (omega (arith, Q.values_fit)))

  stored_mark : (v : ℕ) → set (put_part a P.marks G.marks) (a + c) (unequal (put_log a P G) (a + c) v)
      ≡ put_part a (set P.marks c (unequal P c v)) G.marks
  stored_mark v =
      ap (set (put_part a P.marks G.marks) (a + c)) (placed_unequal v)
      ∙ sym (put_set a P.marks G.marks c (unequal P c v) (omega (arith, F.marks_fit)) (omega (arith, Q.marks_fit)))

  pub placed_logged : (u : ℕ) (x : Kind) → logged (put_log a P G) (a + c) u x ≡ put_log a (logged P c u x) G
  placed_logged u x = same_log (logged (put_log a P G) (a + c) u x) (put_log a (logged P c u x) G) masks (values x) (marks x)
    where
      by : (m : Mode) (b : Bool)
          → cond b (with_thread (put_part a (masks_of P m) (masks_of G m)) (a + c) u) (put_part a (masks_of P m) (masks_of G m))
          ≡ put_part a (cond b (with_thread (masks_of P m) c u) (masks_of P m)) (masks_of G m)
      by m true = placed_thread m u
      by m false = refl

      masks : (m : Mode) → masks_of (logged (put_log a P G) (a + c) u x) m ≡ masks_of (put_log a (logged P c u x) G) m
      masks m =
          masks_logged (put_log a P G) (a + c) u x m
          ∙ ap (λ r. cond (same m (mode x)) (with_thread r (a + c) u) r) (put_log_masks a P G m)
          ∙ by m (same m (mode x))
          ∙ sym (put_log_masks a (logged P c u x) G m ∙ ap (λ r. put_part a r (masks_of G m)) (masks_logged P c u x m))

      values : (x : Kind) → (logged (put_log a P G) (a + c) u x).values ≡ (put_log a (logged P c u x) G).values
      values load = unfold logged put_log in refl
      values (store v) = unfold logged put_log in stored_value v
      values (atomic_add v) = unfold logged put_log in refl

      marks : (x : Kind) → (logged (put_log a P G) (a + c) u x).marks ≡ (put_log a (logged P c u x) G).marks
      marks load = unfold logged put_log in refl
      marks (store v) = unfold logged put_log in stored_mark v
      marks (atomic_add v) = unfold logged put_log in refl

-- The access is made in the view, or in the launch.
module _ (n t a k : ℕ) (z y : LockState) (F : StateFits n t z) (Y : StateFits n k y) (h : a + k ≤ t) where
  pub placed_made : (u d c : ℕ) (x : Kind) → c < k → made_access (put_view a y z) u d (a + c) x ≡ put_view a (made_access y u d c x) z
  unfolding made_access update put_view
  placed_made u d c x l =
      λ i. record {
        row = y.row;
        enabled = y.enabled;
        saved = y.saved;
        regs = set y.regs u (registers_after x d (found i) (get_or y.regs u []));
        cells = left i;
        log = placed_logged n t a k z.log y.log F.log_fits Y.log_fits h c l u x i;
        group_log = y.group_log;
        rows = y.rows;
        steps = stepped y.steps u;
        barriers = y.barriers;
      }
    where
      found : get_or (put_part a y.cells z.cells) (a + c) 0 ≡ get_or y.cells c 0
      found = put_at a y.cells z.cells c 0 (omega (arith, F.cells_fit)) (omega (arith, Y.cells_fit))

      left : set (put_part a y.cells z.cells) (a + c) (cell_after x (get_or (put_part a y.cells z.cells) (a + c) 0))
          ≡ put_part a (set y.cells c (cell_after x (get_or y.cells c 0))) z.cells
      left =
          ap (λ o. set (put_part a y.cells z.cells) (a + c) (cell_after x o)) found
          ∙ sym (put_set a y.cells z.cells c (cell_after x (get_or y.cells c 0)) (omega (arith, F.cells_fit)) (omega (arith, Y.cells_fit)))
