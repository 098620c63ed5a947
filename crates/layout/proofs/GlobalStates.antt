-- States that differ in the global cells alone: what is put back there, and the turns of a row's threads. Assumes nothing.
use mathlib.Core.Path.{◌≡◌, refl, sym, ◌∙◌, ap, subst}
use mathlib.Core.List.{List}
use mathlib.Core.Bool.{Bool, true, false, cond}
use Prim.Native.Nat.{ℕ, ◌+◌, ◌/◌, ◌%◌, ◌<◌, ◌≤◌}
use native.Mathlib.Omega.{arith}
use lib.ListN.{length}
use Rattle.spec.specs.declared.Verdict.{Verdict}
use Rattle.spec.specs.Access.{Kind, Mode, mode}
use Rattle.spec.specs.Mask.{Mask, mask_word, members}
use Rattle.spec.specs.Log.{masks_of, with_thread}
use Rattle.spec.specs.GroupLog.{group_masks_of, group_logged, group_words}
use Rattle.spec.specs.Op.{GLOBAL}
use Rattle.spec.specs.Shape.{Shape, total}
use Rattle.spec.specs.LockStep.{LockState, Step, continues, stops, in_turn, enter_group}
use Rattle.spec.proofs.LogLaws.{same, groups_logged}
use Rattle.std.specs.Prelude.{Ok, Err}
use Rattle.layout.specs.Memory.{Masks, LogIs, Memory, Kept}
use Rattle.layout.specs.Views.{part, put_part, log_part, put_log, view_of, put_view, global_from, Sized}
use Rattle.layout.specs.Shared.{group_part, put_groups, GroupsAre, GlobalMemory, GlobalOnly, GlobalDid}
use Rattle.layout.proofs.Parts.{part_size, part_put, part_set, put_size, put_part_lem, put_put, masks_part, LogFits, log_part_fits, put_log_part, put_log_fits}
use Rattle.layout.proofs.Parts.{log_part_put, put_log_put}
use Rattle.layout.proofs.GroupBuffer.{masks_entered}
use Rattle.layout.proofs.GlobalTurn.{put_one, group_part_masks, put_groups_masks, same_groups, group_logged_at, log_fits}
use Rattle.layout.proofs.Turning.{Coming, kept_none, kept_more, come_start, come_whole, come_out, come_in, come_stop}

module _ (L : Shape) where
  abbrev from : ℕ
  from = global_from L

  within : from + L.global ≤ total L
  unfolding total
  within = omega arith

  -- Nothing has changed; one change after another.
  pub only_none : (z : LockState) → Sized L z → GlobalOnly L z z
  only_none z S =
      record {
        cells_same = sym (put_part_lem from L.global z.cells (omega (arith, within, S.cells_are)));
        log_same = sym (put_log_part L.threads (total L) z.log (log_fits L z S) from L.global within);
        groups_same = same_groups _ _ (λ m.
            sym (put_groups_masks from (group_part from L.global z.group_log) z.group_log m
            ∙ ap (λ y. put_part from y (group_masks_of z.group_log m)) (group_part_masks from L.global z.group_log m)
            ∙ put_part_lem from L.global (group_masks_of z.group_log m) (omega (arith, within, (S.groups_are m).count))));
      }

  module _ (s y z : LockState) (S : Sized L s) (Y : Sized L y) (Z : Sized L z) (p : GlobalOnly L s y) (q : GlobalOnly L y z) where
    pub only_more : GlobalOnly L s z
    only_more =
        record {
          cells_same = q.cells_same ∙ ap (put_part from (part from L.global z.cells)) p.cells_same
              ∙ put_put from (part from L.global z.cells) (part from L.global y.cells) s.cells (omega (arith, within, S.cells_are))
              (part_size from L.global z.cells (omega (arith, within, Z.cells_are))
              ∙ sym (part_size from L.global y.cells (omega (arith, within, Y.cells_are))));
          log_same = q.log_same ∙ ap (put_log from (log_part from L.global z.log)) p.log_same
              ∙ put_log_put L.threads (total L) s.log (log_fits L s S) from L.global (log_part from L.global y.log) (fits y Y) within
              (log_part from L.global z.log) (fits z Z);
          groups_same = same_groups _ _ groups;
        }
      where
        fits : (w : LockState) → Sized L w → LogFits L.threads L.global (log_part from L.global w.log)
        fits w W = log_part_fits L.threads (total L) w.log (log_fits L w W) from L.global within

        at : LockState → Mode → List Mask
        at w m = group_masks_of w.group_log m

        size : (w : LockState) → Sized L w → (m : Mode) → length (part from L.global (at w m)) ≡ L.global
        size w W m = part_size from L.global (at w m) (omega (arith, within, (W.groups_are m).count))

        -- the masks of one mode
        step : (v w : LockState) → GlobalOnly L v w → (m : Mode) → at w m ≡ put_part from (part from L.global (at w m)) (at v m)
        step v w o m =
            ap (λ H. group_masks_of H m) o.groups_same ∙ put_groups_masks from (group_part from L.global w.group_log) v.group_log m
            ∙ ap (λ x. put_part from x (at v m)) (group_part_masks from L.global w.group_log m)

        groups : (m : Mode) → at z m ≡ group_masks_of (put_groups from (group_part from L.global z.group_log) s.group_log) m
        groups m =
            step y z q m ∙ ap (put_part from (part from L.global (at z m))) (step s y p m)
            ∙ put_put from (part from L.global (at z m)) (part from L.global (at y m)) (at s m) (omega (arith, within, (S.groups_are m).count))
            (size z Z m ∙ sym (size y Y m))
            ∙ sym (put_groups_masks from (group_part from L.global z.group_log) s.group_log m
            ∙ ap (λ x. put_part from x (at s m)) (group_part_masks from L.global z.group_log m))

  -- The words of the group masks are those of masks for all groups.
  pub groups_are : (z : LockState) (regs cells log masks : List ℕ) → GlobalMemory L z regs cells log masks
      → GroupsAre L.groups L.global (group_part from L.global z.group_log) masks
  groups_are z regs cells log masks M =
      record {
        words_are = M.masks_are;
        masks_are = λ m.
            subst (Masks L.groups L.global) (sym (group_part_masks from L.global z.group_log m))
            (masks_part L.groups (total L) from L.global (group_masks_of z.group_log m) within (M.sized.groups_are m));
      }

  -- A state y of the stretch put back, and an access of its cell c entered.
  module _ (z : LockState) (regs cells log masks : List ℕ) (M : GlobalMemory L z regs cells log masks) (y : LockState) (c : ℕ) (x : Kind) (h : c < L.global)
      (eg : y.group_log ≡ z.group_log) (size : length y.cells ≡ L.global) (regs' cells' log' masks' : List ℕ)
      (Y : Memory L.threads y regs' cells' log') (K : Kept (view_of (global_from L) L.global z) y)
      (E : masks' ≡ group_words (group_logged (group_part (global_from L) L.global z.group_log) c L.group x)) where
    abbrev put : LockState
    put = enter_group GLOBAL L.group (from + c) x (put_view from y z)

    S : Sized L z
    S = M.sized

    fits : LogFits L.threads L.global y.log
    fits =
        record {
          masks_fit = λ m. subst (λ k. Masks L.threads k (masks_of y.log m)) size (Y.log_is.masks_are m);
          values_fit = Y.log_is.values_are ∙ size;
          marks_fit = Y.log_is.marks_are ∙ size;
        }

    cells_back : part from L.global (put_part from y.cells z.cells) ≡ y.cells
    cells_back = part_put from L.global y.cells z.cells (omega (arith, within, S.cells_are)) size

    log_back : log_part from L.global (put_log from y.log z.log) ≡ y.log
    log_back = log_part_put L.threads (total L) z.log (log_fits L z S) from L.global y.log fits within

    groups_put : put.group_log ≡ group_logged z.group_log (from + c) L.group x
    unfolding enter_group put_view
    groups_put = ap (λ H. group_logged H (from + c) L.group x) eg

    put_sized : Sized L put
    unfolding enter_group put_view
    put_sized =
        let F : LogFits L.threads (total L) (put_log from y.log z.log) =
        put_log_fits L.threads (total L) z.log (log_fits L z S) from L.global y.log fits within in
        record {
          group_in = S.group_in;
          cells_are = put_size from y.cells z.cells (omega (arith, within, size, S.cells_are)) ∙ S.cells_are;
          masks_are = F.masks_fit;
          values_are = F.values_fit;
          marks_are = F.marks_fit;
          groups_are = λ m. subst (λ H. Masks L.groups (total L) (group_masks_of H m)) (sym groups_put)
              (masks_entered L.groups (total L) z.group_log S.groups_are (from + c) L.group x (omega (arith, within)) m);
        }

    pub put_memory : GlobalMemory L put regs' cells' log' masks'
    put_memory =
        record {
          sized = put_sized;
          groups_few = M.groups_few;
          memory = seen;
          masks_are = E ∙ ap group_words (sym (ap (group_part from L.global) groups_put ∙ group_logged_at from L.global z.group_log c h L.group x));
        }
      where
        seen : Memory L.threads (view_of from L.global put) regs' cells' log'
        seen =
            unfold view_of enter_group put_view in
            (record {
              few = Y.few;
              regs_are = Y.regs_are;
              cells_are = Y.cells_are ∙ sym cells_back;
              log_is = subst (λ k. LogIs L.threads k (log_part from L.global (put_log from y.log z.log)) log') (ap length (sym cells_back))
                  (subst (λ G. LogIs L.threads (length y.cells) G log') (sym log_back) Y.log_is);
            })

    pub put_kept : Kept z put
    unfolding enter_group put_view view_of
    put_kept =
        record {
          row_same_lem = K.row_same_lem;
          enabled_same = K.enabled_same;
          saved_same_lem = K.saved_same_lem;
          rows_same = K.rows_same;
          barriers_same_lem = K.barriers_same_lem;
        }

    pub put_only : GlobalOnly L z put
    unfolding enter_group put_view
    put_only =
        record {
          cells_same = ap (λ w. put_part from w z.cells) (sym cells_back);
          log_same = ap (λ w. put_log from w z.log) (sym log_back);
          groups_same = groups_put ∙ same_groups _ _ groups ∙ ap (λ H. put_groups from (group_part from L.global H) z.group_log) (sym groups_put);
        }
      where
        at : Mode → List Mask
        at m = group_masks_of z.group_log m

        by : (m : Mode) (b : Bool)
            → cond b (with_thread (at m) (from + c) L.group) (at m)
            ≡ put_part from (part from L.global (cond b (with_thread (at m) (from + c) L.group) (at m))) (at m)
        by m true =
            unfold with_thread in
            (sym (ap (λ w. put_part from w (at m)) (part_set from L.global (at m) c _ h)
            ∙ put_one from L.global (at m) c _ (omega (arith, within, (S.groups_are m).count)) h))
        by m false = sym (put_part_lem from L.global (at m) (omega (arith, within, (S.groups_are m).count)))

        groups : (m : Mode)
            → group_masks_of (group_logged z.group_log (from + c) L.group x) m
            ≡ group_masks_of (put_groups from (group_part from L.global (group_logged z.group_log (from + c) L.group x)) z.group_log) m
        groups m =
            let new = group_logged z.group_log (from + c) L.group x in
            groups_logged z.group_log (from + c) L.group x m ∙ by m (same m (mode x))
            ∙ sym (put_groups_masks from (group_part from L.global new) z.group_log m
            ∙ ap (λ w. put_part from w (at m)) (group_part_masks from L.global new m ∙ ap (part from L.global) (groups_logged z.group_log (from + c) L.group x m)))

-- The row has come to thread t, and the buffers stand for the state there.
pub record GlobalTurning (L : Shape) (f : LockState → ℕ → Step) (s : LockState) (t m : ℕ) (regs cells log masks : List ℕ) : Type 0 where
  pub here : LockState
  pub coming : Coming f L.threads s t m here
  pub memory : GlobalMemory L here regs cells log masks
  pub kept : Kept s here
  pub only : GlobalOnly L s here

module _ (L : Shape) (f : LockState → ℕ → Step) (s : LockState) where
  pub global_start : (mask : ℕ) (regs cells log masks : List ℕ) → mask ≡ mask_word s.enabled → length s.enabled ≡ L.threads
      → GlobalMemory L s regs cells log masks → GlobalTurning L f s 0 mask regs cells log masks
  global_start mask regs cells log masks e l M =
      record { here = s; coming = come_start f L.threads s mask e l; memory = M; kept = kept_none s; only = only_none L s M.sized }

  module _ (S : Sized L s) (t m : ℕ) (regs cells log masks : List ℕ) (C : GlobalTurning L f s t m regs cells log masks) where
    pub global_whole : m ≡ 0 → GlobalDid L s (in_turn f (members s.enabled) s) (Ok tt) regs cells log masks
    global_whole z =
        subst (λ o. GlobalDid L s o (Ok tt) regs cells log masks) (sym (come_whole f L.threads s t m C.here C.coming z))
        (record { answer = refl; memory = C.memory; kept = C.kept; only = C.only })

    pub global_out : t < L.threads → (m % 2 ≡ 1 → ⊥) → GlobalTurning L f s (t + 1) (m / 2) regs cells log masks
    global_out h o =
        record {
          here = C.here;
          coming = come_out f L.threads s t m C.here C.coming h o;
          memory = C.memory;
          kept = C.kept;
          only = C.only;
        }

    module _ (regs' cells' log' masks' : List ℕ) (h : t < L.threads) (o : m % 2 ≡ 1) where
      pub global_in : GlobalDid L C.here (f C.here t) (Ok tt) regs' cells' log' masks' → GlobalTurning L f s (t + 1) (m / 2) regs' cells' log' masks'
      global_in d = by (f C.here t) refl d
        where
          by : (x : Step) → f C.here t ≡ x → GlobalDid L C.here x (Ok tt) regs' cells' log' masks'
              → GlobalTurning L f s (t + 1) (m / 2) regs' cells' log' masks'
          by (stops v z) e D = let z : ◌≡◌ {A = ℕ} 0 1 = cc D.answer in absurd (omega arith)
          by (continues z) e D =
              record {
                here = z;
                coming = come_in f L.threads s t m C.here C.coming z h o e;
                memory = D.memory;
                kept = kept_more s C.here z C.kept D.kept;
                only = only_more L s C.here z S C.memory.sized D.memory.sized C.only D.only;
              }

      pub global_stop : (v : Verdict) → GlobalDid L C.here (f C.here t) (Err v) regs' cells' log' masks'
          → GlobalDid L s (in_turn f (members s.enabled) s) (Err v) regs' cells' log' masks'
      global_stop v d = by (f C.here t) refl d
        where
          by : (x : Step) → f C.here t ≡ x → GlobalDid L C.here x (Err v) regs' cells' log' masks'
              → GlobalDid L s (in_turn f (members s.enabled) s) (Err v) regs' cells' log' masks'
          by (continues z) e D = let z : ◌≡◌ {A = ℕ} 0 1 = cc D.answer in absurd (omega arith)
          by (stops w z) e D =
              subst (λ x. GlobalDid L s x (Err v) regs' cells' log' masks') (sym (come_stop f L.threads s t m C.here C.coming w z h o e))
              (record {
                answer = D.answer;
                memory = D.memory;
                kept = kept_more s C.here z C.kept D.kept;
                only = only_more L s C.here z S C.memory.sized D.memory.sized C.only D.only;
              })
