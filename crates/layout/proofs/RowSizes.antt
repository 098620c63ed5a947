-- What every row keeps of the cells, the log and the group masks: their sizes above all. Assumes nothing.
use mathlib.Core.Path.{◌≡◌, refl, ◌∙◌}
use mathlib.Core.List.{List, [], ◌∷◌}
use mathlib.Core.Bool.{Bool, true, false, cond}
use Prim.Native.Nat.{ℕ, suc, ◌<◌}
use native.Mathlib.Omega.{arith}
use borrow.Author.Tests.{leb-false}
use lib.Dec.{leb}
use lib.ListN.{length, get_or, set, length-set}
use Rattle.spec.specs.Access.{Kind, load, store, atomic_add, cell_after, Mode, reads, writes, adds}
use Rattle.spec.specs.Op.{Op, CALC, Space, OWN, GLOBAL, Mem, MEM, IF, ELSE, ENDIF, WHILE, ENDWHILE, BARRIER, UNKNOWN, value}
use Rattle.spec.specs.Table.{Table, Row, cell_byte, kind_of, end_of}
use Rattle.spec.specs.Shape.{Shape, Past, nowhere, loads, changes, past, launch_number, total, bound, address, reaches}
use Rattle.spec.specs.Mask.{Mask, members, any, full}
use Rattle.spec.specs.Log.{Log, cleared, with_thread, conflict_mask}
use Rattle.spec.specs.GroupLog.{GroupLog, group_masks_of, group_logged}
use Rattle.spec.specs.LockStep.{Saved, LockState, Step, continues, stops, and_then, in_turn, update, advance, reg, set_reg, compute_turn, made_access, enter_group}
use Rattle.spec.specs.LockStep.{rivals, try_access, past_turn, access_turn, for_enabled, count_steps, top_mask, pop, if_row, else_row, endif_row}
use Rattle.spec.specs.LockStep.{leave_or_stay, while_row, endwhile_row, pass_barrier, barrier_row, run_row}
use Rattle.layout.specs.Memory.{Masks, state_of}
use Rattle.layout.specs.Views.{alone, Sized}
use Rattle.layout.proofs.Buffers.{masks_set}
use Rattle.layout.proofs.Parts.{LogFits, log_cleared_fits, StateFits, own_before, sized_fits}
use Rattle.layout.proofs.Placed.{logged_fits}

-- A row changes cells, log and group masks only by accesses and by clearing the log.
module _ (P : List ℕ → Log → GroupLog → Type 0) where
  abbrev pub Holds : LockState → Type 0
  Holds s = P s.cells s.log s.group_log

  then_keeps : (o : Step) (f : LockState → Step) → ((y : LockState) → Holds y → Holds (state_of (f y))) → Holds (state_of o) → Holds (state_of (and_then o f))
  unfolding and_then
  then_keeps (continues y) f K H = K y H
  then_keeps (stops v y) f K H = H

  cond_keeps : (b : Bool) (p q : Step) → Holds (state_of p) → Holds (state_of q) → Holds (state_of (cond b p q))
  cond_keeps true p q H J = H
  cond_keeps false p q H J = J

  pub turns_keep : (f : LockState → ℕ → Step) → ((s : LockState) (t : ℕ) → Holds s → Holds (state_of (f s t)))
      → (ts : List ℕ) (s : LockState) → Holds s → Holds (state_of (in_turn f ts s))
  unfolding in_turn
  turns_keep f K [] s H = H
  turns_keep f K (t ∷ ts) s H = then_keeps (f s t) (in_turn f ts) (turns_keep f K ts) (K s t H)

  advance_keeps : (r : ℕ) (m : Mask) (v : List Saved) (s : LockState) → Holds s → Holds (advance r m v s)
  unfolding advance
  advance_keeps r m v s H = H

  pub enabled_keep : (f : LockState → ℕ → Step) → ((s : LockState) (t : ℕ) → Holds s → Holds (state_of (f s t)))
      → (s : LockState) → Holds s → Holds (state_of (for_enabled f s))
  unfolding for_enabled
  enabled_keep f K s H =
      then_keeps (in_turn f (members s.enabled) s) (λ z. continues (advance (suc z.row) z.enabled z.saved z))
      (λ y J. advance_keeps (suc y.row) y.enabled y.saved y J) (turns_keep f K (members s.enabled) s H)

  compute_keeps : (x : Row) (f : ℕ → ℕ → ℕ → ℕ) (s : LockState) (t : ℕ) → Holds s → Holds (state_of (compute_turn x f s t))
  unfolding compute_turn set_reg update
  compute_keeps x f s t H = H

  module _ (L : Shape) (p : Space) where
    -- an access that is made keeps it
    abbrev pub Makes : Type 0
    Makes = (s : LockState) (t d c : ℕ) (k : Kind) → c < bound L p → Holds s → Holds (enter_group p L.group (address L p c) k (made_access s t d (address L p c) k))

    try_keeps : Makes → (s : LockState) (t d c : ℕ) (k : Kind) → c < bound L p → Holds s → Holds (state_of (try_access L p s t d c k))
    unfolding try_access
    try_keeps K s t d c k l H =
        cond_keeps (any (conflict_mask s.log (address L p c) t k)) _ _ H
        (cond_keeps (any (rivals p s L.group (address L p c) k)) _ _ H (K s t d c k l H))

    pub access_keeps : (m : Mem) (x : Row) → Makes → (s : LockState) (t : ℕ) → Holds s → Holds (state_of (access_turn L p m x s t))
    unfolding access_turn
    access_keeps m x K s t H = by (leb (bound L p) c) (λ e. leb-false (bound L p) c e)
      where
        c : ℕ
        c = reg s t (cell_byte m x)

        by : (b : Bool) → (b ≡ false → c < bound L p)
            → Holds (state_of (cond b (past_turn s t x.d c (past L p c (kind_of m (reg s t x.a)))) (try_access L p s t x.d c (kind_of m (reg s t x.a)))))
        by true l = beyond (past L p c (kind_of m (reg s t x.a)))
          where
            beyond : (q : Past) → Holds (state_of (past_turn s t x.d c q))
            beyond nowhere = unfold past_turn in H
            beyond (loads v) = unfold past_turn set_reg update in H
            beyond changes = unfold past_turn in H
        by false l = try_keeps K s t x.d c (kind_of m (reg s t x.a)) (l refl) H

  count_steps_keeps : (m : Mask) (s : LockState) → Holds s → Holds (count_steps m s)
  unfolding count_steps update
  count_steps_keeps m s H = H

  leave_keeps : (T : Table) (s : LockState) (v : List Saved) (m : Mask) → Holds s → Holds (leave_or_stay T s v m)
  unfolding leave_or_stay advance
  leave_keeps T s v m H = by (any m)
    where
      by : (b : Bool) → Holds (cond b (advance (suc s.row) m v s) (advance (suc (end_of T s.row)) (top_mask v) (pop v) s))
      by true = H
      by false = H

  barrier_keeps : (L : Shape) (s : LockState) → P s.cells (cleared (reaches L) s.log) s.group_log → Holds s → Holds (state_of (barrier_row L s))
  unfolding barrier_row pass_barrier advance
  barrier_keeps L s C H = cond_keeps (any s.enabled) _ _ (cond_keeps (full s.enabled) _ _ C H) H

  pub row_keeps : (T : Table) (L : Shape) (x : Row) (o : Op) → ((p : Space) (m : Mem) → o ≡ MEM p m → Makes L p)
      → (o ≡ BARRIER → (s : LockState) → Holds s → P s.cells (cleared (reaches L) s.log) s.group_log)
      → (s : LockState) → Holds s → Holds (state_of (run_row T L x s o))
  unfolding run_row if_row else_row endif_row while_row endwhile_row advance count_steps update
  row_keeps T L x (CALC c) A C s H = enabled_keep _ (compute_keeps x (λ t p q. value c L.threads t (launch_number L t) x.a x.b p q)) s H
  row_keeps T L x (MEM p m) A C s H = enabled_keep _ (access_keeps L p m x (A p m refl)) s H
  row_keeps T L x IF A C s H = H
  row_keeps T L x ELSE A C s H = H
  row_keeps T L x ENDIF A C s H = H
  row_keeps T L x WHILE A C s H = leave_keeps T _ _ _ (count_steps_keeps s.enabled s H)
  row_keeps T L x ENDWHILE A C s H = H
  row_keeps T L x BARRIER A C s H = barrier_keeps L s (C refl s H) H
  row_keeps T L x UNKNOWN A C s H = H

-- The sizes of cells and log.
abbrev LogSized : (n k : ℕ) → List ℕ → Log → GroupLog → Type 0
LogSized n k cells G H = (length cells ≡ k) × LogFits n k G

made_sized : (n k : ℕ) (s : LockState) (t d c : ℕ) (x : Kind) → c < k → LogSized n k s.cells s.log s.group_log
    → LogSized n k (made_access s t d c x).cells (made_access s t d c x).log (made_access s t d c x).group_log
unfolding made_access update
made_sized n k s t d c x l (e, F) = (length-set s.cells c (cell_after x (get_or s.cells c 0)) ∙ e, logged_fits n k s.log F c t x l)

pub compute_row_fits : (n k : ℕ) (x : Row) (f : ℕ → ℕ → ℕ → ℕ) (y : LockState) → StateFits n k y → StateFits n k (state_of (for_enabled (compute_turn x f) y))
compute_row_fits n k x f y Y =
    let r = enabled_keep (LogSized n k) (compute_turn x f) (compute_keeps (LogSized n k) x f) y (Y.cells_fit, Y.log_fits) in
    record { cells_fit = r.0; log_fits = r.1 }

alone_own : (n k : ℕ) (common : List ℕ) (c : ℕ) → c < bound (alone n k common) OWN → address (alone n k common) OWN c < k
unfolding bound address
alone_own n k common c l = omega arith

alone_global : (n k : ℕ) (common : List ℕ) (c : ℕ) → c < bound (alone n k common) GLOBAL → ⊥
unfolding bound
alone_global n k common c l = omega arith

-- A group alone: the view of a stretch keeps its size in every turn and every row, and its group masks are not looked at.
module _ (n k : ℕ) (common : List ℕ) where
  alone_makes : (p : Space) → Makes (LogSized n k) (alone n k common) p
  unfolding enter_group
  alone_makes OWN s t d c x l H = made_sized n k s t d (address (alone n k common) OWN c) x (alone_own n k common c l) H
  alone_makes GLOBAL s t d c x l H = absurd (alone_global n k common c l)

  pub alone_turn_fits : (p : Space) (m : Mem) (x : Row) (y : LockState) (t : ℕ) → StateFits n k y → StateFits n k (state_of (access_turn (alone n k common) p m x y t))
  alone_turn_fits p m x y t Y =
      let r = access_keeps (LogSized n k) (alone n k common) p m x (alone_makes p) y t (Y.cells_fit, Y.log_fits) in record { cells_fit = r.0; log_fits = r.1 }

  module _ (T : Table) (x : Row) (o : Op) (y : LockState) where
    pub alone_fits : StateFits n k y → StateFits n k (state_of (run_row T (alone n k common) x y o))
    alone_fits Y =
        let r = row_keeps (LogSized n k) T (alone n k common) x o (λ p m e. alone_makes p)
        (λ e s (c, F). (c, log_cleared_fits n k s.log F (reaches (alone n k common)))) y (Y.cells_fit, Y.log_fits) in
        record { cells_fit = r.0; log_fits = r.1 }

-- The sizes of a launch's state, group masks too.
abbrev LaunchSized : (L : Shape) → List ℕ → Log → GroupLog → Type 0
LaunchSized L cells G H = LogSized L.threads (total L) cells G H × ((m : Mode) → Masks L.groups (total L) (group_masks_of H m))

groups_entered : (g t : ℕ) (H : GroupLog) → ((m : Mode) → Masks g t (group_masks_of H m)) → (i h : ℕ) (x : Kind) → i < t
    → (m : Mode) → Masks g t (group_masks_of (group_logged H i h x) m)
unfolding group_masks_of group_logged with_thread
groups_entered g t H M i h x l = by x
  where
    put : (m : Mode) → Masks g t (set (group_masks_of H m) i (set (get_or (group_masks_of H m) i []) h true))
    put m =
        masks_set g t (group_masks_of H m) i (set (get_or (group_masks_of H m) i []) h true) (M m) l
        (length-set (get_or (group_masks_of H m) i []) h true ∙ (M m).each i l)

    by : (x : Kind) (m : Mode) → Masks g t (group_masks_of (group_logged H i h x) m)
    by load reads = put reads
    by load writes = M writes
    by load adds = M adds
    by (store v) reads = M reads
    by (store v) writes = put writes
    by (store v) adds = M adds
    by (atomic_add v) reads = M reads
    by (atomic_add v) writes = M writes
    by (atomic_add v) adds = put adds

-- Every row keeps the sizes of a launch's state, whether the run goes on or stops there.
module _ (L : Shape) (z : LockState) (S : Sized L z) where
  pub address_in : (p : Space) (c : ℕ) → c < bound L p → address L p c < total L
  unfolding bound address total
  address_in OWN c l = omega (arith, own_before L z S)
  address_in GLOBAL c l = omega arith

  makes : (p : Space) → Makes (LaunchSized L) L p
  unfolding enter_group made_access update
  makes OWN s t d c x l (H, M) = (made_sized L.threads (total L) s t d (address L OWN c) x (address_in OWN c l) H, M)
  makes GLOBAL s t d c x l (H, M) = (
    made_sized L.threads (total L) s t d (address L GLOBAL c) x (address_in GLOBAL c l) H,
    groups_entered L.groups (total L) s.group_log M (address L GLOBAL c) L.group x (address_in GLOBAL c l),
  )

  pub sized_after : (T : Table) (x : Row) (o : Op) → Sized L (state_of (run_row T L x z o))
  sized_after T x o =
      let r = row_keeps (LaunchSized L) T L x o (λ p m e. makes p)
      (λ e s ((c, F), M). ((c, log_cleared_fits L.threads (total L) s.log F (reaches L)), M)) z
      ((S.cells_are, (sized_fits L z S).log_fits), S.groups_are) in
      record {
        group_in = S.group_in;
        cells_are = r.0.0;
        masks_are = r.0.1.masks_fit;
        values_are = r.0.1.values_fit;
        marks_are = r.0.1.marks_fit;
        groups_are = r.1;
      }

-- Only accesses of global cells enter the group masks.
pub groups_after_lem : (T : Table) (L : Shape) (x : Row) (o : Op) (z : LockState) → ((m : Mem) → o ≡ MEM GLOBAL m → ⊥)
    → (state_of (run_row T L x z o)).group_log ≡ z.group_log
groups_after_lem T L x o z not-global = row_keeps (λ cells G H. H ≡ z.group_log) T L x o keeps (λ e s H. H) z refl
  where
    keeps : (p : Space) (m : Mem) → o ≡ MEM p m → Makes (λ cells G H. H ≡ z.group_log) L p
    keeps OWN m e s t d c κ l H = unfold enter_group made_access update in H
    keeps GLOBAL m e s t d c κ l H = absurd (not-global m e)
