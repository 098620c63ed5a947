-- The rows of one group of a launch, in the buffers of its own cells and of the global ones. Assumes nothing.
use mathlib.Core.Path.{◌≡◌, refl, sym, ◌∙◌, ap, subst}
use mathlib.Core.Logic.{inr}
use mathlib.Core.List.{List, map}
use mathlib.Core.Bool.{Bool, true, false, cond, not, true≢false}
use Prim.Native.Nat.{ℕ, suc, ◌≤◌}
use native.Mathlib.Omega.{arith}
use lib.Dec.{ltb}
use lib.ListN.{length, replicate}
use Rattle.spec.specs.GroupLog.{group_words}
use Rattle.spec.specs.declared.Verdict.{Verdict}
use Rattle.spec.specs.declared.Verdict.TheVariants.{Diverged}
use Rattle.spec.specs.Op.{Op, Calc, CALC, GLOBAL, Mem, MEM, BARRIER, value}
use Rattle.spec.specs.Table.{Table, Row}
use Rattle.spec.specs.Shape.{Shape, launch_number, is_global, total}
use Rattle.spec.specs.Mask.{members, any, full, lowest}
use Rattle.spec.specs.LockStep.{LockState, Step, continues, stops, and_then, in_turn, advance, compute_turn, access_turn, for_enabled, pass_barrier, barrier_row, run_row}
use Rattle.layout.specs.Memory.{Access}
use Rattle.layout.specs.declared.State.{State}
use Rattle.layout.specs.Next.{Next}
use Rattle.layout.specs.Memory.{Regs, LogIs, Memory, Kept, state_of}
use Rattle.layout.specs.Represents.{Represents, After, moved_on, accessed}
use Rattle.layout.specs.Views.{part, log_part, view_of, put_view, map_step, own_from, global_from, alone, with_cleared, Sized, is_own_space, is_own_row}
use Rattle.layout.specs.Shared.{group_part, GlobalMemory, GlobalOnly, GlobalDid}
use Rattle.layout.specs.Groups.{GroupStands, GroupAfter, SharedAfter}
use Rattle.layout.proofs.LogBuffer.{cleared_is}
use Rattle.layout.proofs.Parts.{part_put_below, log_part_fits, log_part_below, sized_fits, own_before, global_within}
use Rattle.layout.proofs.PlainRows.{moves_on, stands}
use Rattle.layout.proofs.RowSizes.{sized_after, groups_after_lem}
use Rattle.layout.proofs.OwnRows.{OwnAfter, compute_rows, compute_rows_after, own_row, own_row_after, barrier_row_lem, barrier_after, outside, outside_stays, global_cleared}

-- The global cells, where only the own ones have changed, from u to y; w is the view of the own ones.
module _ (L : Shape) (u y w : LockState) (O : OwnAfter L u y w) (Y : Sized L y) (regs regs' global shared masks : List ℕ)
    (M : Memory L.threads (view_of (global_from L) L.global u) regs global shared)
    (few : L.groups ≤ 8) (eg : masks ≡ group_words (group_part (global_from L) L.global y.group_log)) where
  abbrev from : ℕ
  from = global_from L

  same_cells : part from L.global y.cells ≡ part from L.global u.cells
  same_cells = O.cells_else from L.global (inr (own_before L y Y))

  same_log : log_part from L.global y.log ≡ log_part from L.global u.log
  same_log = O.log_else from L.global (inr (own_before L y Y))

  else_global : (R : Regs L.threads y.regs regs') → GlobalMemory L y regs' global shared masks
  unfolding view_of
  else_global R =
      record {
        sized = Y;
        groups_few = few;
        memory = record {
          few = M.few;
          regs_are = R;
          cells_are = M.cells_are ∙ sym same_cells;
          log_is = subst (λ k. LogIs L.threads k (log_part from L.global y.log) shared) (ap length (sym same_cells))
              (subst (λ G. LogIs L.threads (length (part from L.global u.cells)) G shared) (sym same_log) M.log_is);
        };
        masks_are = eg;
      }

  pub else_stands : (s' : State) (cells' log' saved' openers' : List ℕ) → Represents L.threads w s' regs' cells' log' saved' openers'
      → GroupStands L y s' regs' cells' log' saved' openers' global shared masks
  unfolding view_of
  else_stands s' cells' log' saved' openers' R =
      record {
        own = subst (λ v. Represents L.threads v s' regs' cells' log' saved' openers') (sym O.view_is) R;
        globals = else_global (subst (λ v. Regs L.threads v.regs regs') (sym O.view_is) R.memory.regs_are);
      }

-- A BARRIER that stops leaves the state as it is.
stop_stays : (T : Table) (L : Shape) (x : Row) (z : LockState) → (v : Verdict) (w : LockState) → run_row T L x z BARRIER ≡ stops v w → w.barriers ≡ z.barriers
unfolding run_row barrier_row
stop_stays T L x z v w e = by (any z.enabled) (full z.enabled) e
  where
    diverged : Verdict
    diverged = Diverged (lowest z.enabled) (lowest (map not z.enabled))

    by : (b₁ b₂ : Bool)
        → cond b₁ (cond b₂ (continues (pass_barrier L z)) (stops diverged z)) (continues (advance (suc z.row) z.enabled z.saved z)) ≡ stops v w
        → w.barriers ≡ z.barriers
    by true true e = let q : ◌≡◌ {A = ℕ} 0 1 = cc in absurd (omega arith)
    by true false e = let q : z ≡ w = cc in ap (λ s. s.barriers) (sym q)
    by false b₂ e = let q : ◌≡◌ {A = ℕ} 0 1 = cc in absurd (omega arith)

own_is_no_global : (o : Op) → is_own_row o ≡ true → (m : Mem) → o ≡ MEM GLOBAL m → ⊥
unfolding is_own_row is_own_space
own_is_no_global o e m q = true≢false (sym e ∙ ap is_own_row q)

calc_is_no_global : (c : Calc) (m : Mem) → CALC c ≡ MEM GLOBAL m → ⊥
calc_is_no_global c m e = let q : ◌≡◌ {A = ℕ} 0 1 = cc in omega arith

barrier_is_no_global : (m : Mem) → BARRIER ≡ MEM GLOBAL m → ⊥
barrier_is_no_global m e = let q : ◌≡◌ {A = ℕ} 0 1 = cc in omega arith

module _ (L : Shape) (z : LockState) (s : State) (regs cells log saved openers global shared masks : List ℕ)
    (S : GroupStands L z s regs cells log saved openers global shared masks) (T : Table) (x : Row) where
  abbrev n : ℕ
  n = L.threads

  abbrev view : LockState
  view = view_of (own_from L) L.cells z

  abbrev sized : Sized L z
  sized = S.globals.sized

  -- A row that is one of the view of the own cells, put back: the global cells are as they were.
  module _ (r : Next) (regs' cells' log' saved' openers' : List ℕ) where
    put_back : (q w : Step) → q ≡ map_step (λ y. put_view (own_from L) y z) w → OwnAfter L z (state_of q) (state_of w) → Sized L (state_of q)
        → (state_of q).group_log ≡ z.group_log → After n w r regs' cells' log' saved' openers'
        → GroupAfter L q r regs' cells' log' saved' openers' global shared masks
    put_back q w same O Y g A =
        subst (λ q. GroupAfter L q r regs' cells' log' saved' openers' global shared masks) (sym same)
        (by w (subst (λ q. OwnAfter L z (state_of q) (state_of w)) same O) (subst (λ q. Sized L (state_of q)) same Y) (ap (λ q. (state_of q).group_log) (sym same) ∙ g) A)
      where
        back : LockState → LockState
        back y = put_view (own_from L) y z

        here : (w : LockState) → OwnAfter L z (back w) w → Sized L (back w) → (back w).group_log ≡ z.group_log → (s' : State)
            → Represents n w s' regs' cells' log' saved' openers' → GroupStands L (back w) s' regs' cells' log' saved' openers' global shared masks
        here w O Y g s' R =
            else_stands L z (back w) w O Y regs regs' global shared masks S.globals.memory S.globals.groups_few
            (S.globals.masks_are ∙ ap (λ H. group_words (group_part (global_from L) L.global H)) (sym g)) s' cells' log' saved' openers' R

        by : (A : Step) → OwnAfter L z (state_of (map_step back A)) (state_of A) → Sized L (state_of (map_step back A)) → (state_of (map_step back A)).group_log ≡ z.group_log
            → After n A r regs' cells' log' saved' openers' → GroupAfter L (map_step back A) r regs' cells' log' saved' openers' global shared masks
        by (continues w) O Y g (s', e, R) = (s', e, here w O Y g s' R)
        by (stops v w) O Y g (s', e, R) = (s', e, here w O Y g s' R)

    -- One that computes, by the function that the definition's row has in this group.
    pub calc_group : (c : Calc) → After n (for_enabled (compute_turn x (λ t p q. value c n t (launch_number L t) x.a x.b p q)) view) r regs' cells' log' saved' openers'
        → GroupAfter L (run_row T L x z (CALC c)) r regs' cells' log' saved' openers' global shared masks
    unfolding run_row
    calc_group c A =
        let f : ℕ → ℕ → ℕ → ℕ = λ t p q. value c n t (launch_number L t) x.a x.b p q in
        put_back (for_enabled (compute_turn x f) z) (for_enabled (compute_turn x f) view) (compute_rows L z sized x f) (compute_rows_after L z sized x f)
        (sized_after L z sized T x (CALC c)) (groups_after_lem T L x (CALC c) z (calc_is_no_global c)) A

  -- One that names no global cell, tells no group by its number and is no BARRIER: as in a group alone.
  module _ (o : Op) (own-op : is_own_row o ≡ true) (r : Next) (regs' cells' log' saved' openers' : List ℕ) where
    pub own_group : After n (run_row T (alone n L.cells L.common) x view o) r regs' cells' log' saved' openers'
        → GroupAfter L (run_row T L x z o) r regs' cells' log' saved' openers' global shared masks
    own_group A =
        put_back r regs' cells' log' saved' openers' (run_row T L x z o) (run_row T (alone n L.cells L.common) x view o) (own_row L z sized T x o own-op)
        (own_row_after L z sized T x o own-op) (sized_after L z sized T x o) (groups_after_lem T L x o z (own_is_no_global o own-op)) A

  -- BARRIER: where it is passed, the global log is cleared too.
  module _ (r : Next) (regs' cells' log' saved' openers' shared' : List ℕ) where
    pub barrier_group : After n (run_row T (alone n L.cells L.common) x view BARRIER) r regs' cells' log' saved' openers' → SharedAfter s r shared shared'
        → GroupAfter L (run_row T L x z BARRIER) r regs' cells' log' saved' openers' global shared' masks
    unfolding view_of
    barrier_group A C =
        subst (λ q. GroupAfter L q r regs' cells' log' saved' openers' global shared' masks) (sym same)
        (by alone_row refl (subst (λ q. OwnAfter L (outside L z sized (state_of alone_row)) (state_of q) (state_of alone_row)) same (barrier_after L z sized T x))
        (subst (λ q. Sized L (state_of q)) same (sized_after L z sized T x BARRIER))
        (ap (λ q. (state_of q).group_log) (sym same) ∙ groups_after_lem T L x BARRIER z barrier_is_no_global) A)
      where
        back : LockState → LockState
        back y = put_view (own_from L) y (outside L z sized y)

        alone_row : Step
        alone_row = run_row T (alone n L.cells L.common) x view BARRIER

        same : run_row T L x z BARRIER ≡ map_step back alone_row
        same = barrier_row_lem L z sized T x

        M : Memory n (view_of (global_from L) L.global z) regs global shared
        M = S.globals.memory

        wiped : shared' ≡ replicate (length shared) 0 → Memory n (view_of (global_from L) L.global (with_cleared (is_global L) z)) regs global shared'
        wiped e =
            unfold with_cleared in
            (record {
              few = M.few;
              regs_are = M.regs_are;
              cells_are = M.cells_are;
              log_is = subst (λ G. LogIs n (length (part (global_from L) L.global z.cells)) G shared') (sym (global_cleared L z sized))
                  (cleared_is n _ (log_part (global_from L) L.global z.log) shared M.log_is (λ c. true) (λ i l. refl) shared' e);
            })

        kept : shared' ≡ shared → Memory n (view_of (global_from L) L.global z) regs global shared'
        kept e = subst (Memory n (view_of (global_from L) L.global z) regs global) (sym e) M

        memory_by : (b : Bool) → shared' ≡ cond b (replicate (length shared) 0) shared
            → Memory n (view_of (global_from L) L.global (cond b (with_cleared (is_global L) z) z)) regs global shared'
        memory_by true e = wiped e
        memory_by false e = kept e

        here : (w : LockState) → OwnAfter L (outside L z sized w) (back w) w → Sized L (back w) → (back w).group_log ≡ z.group_log
            → Memory n (view_of (global_from L) L.global (outside L z sized w)) regs global shared' → (s' : State)
            → Represents n w s' regs' cells' log' saved' openers' → GroupStands L (back w) s' regs' cells' log' saved' openers' global shared' masks
        here w O Y g N s' R =
            else_stands L (outside L z sized w) (back w) w O Y regs regs' global shared' masks N S.globals.groups_few
            (S.globals.masks_are ∙ ap (λ H. group_words (group_part (global_from L) L.global H)) (sym g)) s' cells' log' saved' openers' R

        by : (A : Step) → alone_row ≡ A → OwnAfter L (outside L z sized (state_of A)) (state_of (map_step back A)) (state_of A)
            → Sized L (state_of (map_step back A)) → (state_of (map_step back A)).group_log ≡ z.group_log
            → After n A r regs' cells' log' saved' openers' → GroupAfter L (map_step back A) r regs' cells' log' saved' openers' global shared' masks
        by (continues w) q O Y g (s', e, R) =
            let says : shared' ≡ cond (ltb s.barriers s'.barriers) (replicate (length shared) 0) shared = subst (λ y. SharedAfter s y shared shared') e C in
            let tells : ltb s.barriers s'.barriers ≡ ltb z.barriers w.barriers = λ i. ltb (S.own.barriers_is i) (R.barriers_is i) in
            (s', e, here w O Y g (memory_by (ltb z.barriers w.barriers) (says ∙ ap (λ b. cond b (replicate (length shared) 0) shared) tells)) s' R)
        by (stops v w) q O Y g (s', e, R) =
            let says : shared' ≡ shared = subst (λ y. SharedAfter s y shared shared') e C in
            let stays = outside_stays L z sized w (stop_stays T (alone n L.cells L.common) x view v w q) in
            (s', e, here w O Y g (subst (λ u. Memory n (view_of (global_from L) L.global u) regs global shared') (sym stays) (kept says)) s' R)

  -- A row's accesses of global cells.
  module _ (m : Mem) (a : Access) (r : Next) (regs' global' shared' masks' : List ℕ)
      (D : GlobalDid L z (in_turn (access_turn L GLOBAL m x) (members z.enabled) z) a regs' global' shared' masks') (er : r ≡ accessed s a) where
    -- the own cells in the state that they leave
    module _ (y : LockState) (M : GlobalMemory L y regs' global' shared' masks') (K : Kept z y) (only : GlobalOnly L z y) where
      own_cells_lem : part (own_from L) L.cells y.cells ≡ part (own_from L) L.cells z.cells
      own_cells_lem =
          ap (part (own_from L) L.cells) only.cells_same
          ∙ part_put_below (global_from L) (own_from L) L.cells _ z.cells (omega (arith, sized.cells_are, global_within L z sized)) (own_before L z sized)

      own_log : log_part (own_from L) L.cells y.log ≡ log_part (own_from L) L.cells z.log
      own_log =
          ap (log_part (own_from L) L.cells) only.log_same
          ∙ log_part_below n (total L) z.log (sized_fits L z sized).log_fits (global_from L) L.global _
          (log_part_fits n (total L) y.log (sized_fits L y M.sized).log_fits (global_from L) L.global (global_within L z sized)) (global_within L z sized)
          (own_from L) L.cells (own_before L z sized)

      own_memory : Memory n (view_of (own_from L) L.cells y) regs' cells log
      unfolding view_of
      own_memory =
          let R = S.own.memory in
          record {
            few = R.few;
            regs_are = M.memory.regs_are;
            cells_are = R.cells_are ∙ sym own_cells_lem;
            log_is = subst (λ k. LogIs n k (log_part (own_from L) L.cells y.log) log) (ap length (sym own_cells_lem))
                (subst (λ G. LogIs n (length (part (own_from L) L.cells z.cells)) G log) (sym own_log) R.log_is);
          }

      own_kept : Kept view (view_of (own_from L) L.cells y)
      unfolding view_of
      own_kept =
          record {
            row_same_lem = K.row_same_lem;
            enabled_same = K.enabled_same;
            saved_same_lem = K.saved_same_lem;
            rows_same = K.rows_same;
            barriers_same_lem = K.barriers_same_lem;
          }

      stays_here : GroupStands L y s regs' cells log saved openers global' shared' masks'
      stays_here =
          record {
            own = stands n view s regs cells log saved openers S.own (view_of (own_from L) L.cells y) regs' cells log own_kept own_memory S.own.reach_is;
            globals = M;
          }

      goes_on_lem : GroupStands L (advance (suc y.row) y.enabled y.saved y) (moved_on s) regs' cells log saved openers global' shared' masks'
      unfolding view_of advance
      goes_on_lem =
          record {
            own = moves_on n view s regs cells log saved openers S.own (view_of (own_from L) L.cells y) regs' cells log own_kept own_memory S.own.reach_is;
            globals = record {
              sized = record {
                group_in = M.sized.group_in;
                cells_are = M.sized.cells_are;
                masks_are = M.sized.masks_are;
                values_are = M.sized.values_are;
                marks_are = M.sized.marks_are;
                groups_are = M.sized.groups_are;
              };
              groups_few = M.groups_few;
              memory = record { few = M.memory.few; regs_are = M.memory.regs_are; cells_are = M.memory.cells_are; log_is = M.memory.log_is };
              masks_are = M.masks_are;
            };
          }

    pub global_group : GroupAfter L (run_row T L x z (MEM GLOBAL m)) r regs' cells log saved openers global' shared' masks'
    unfolding run_row for_enabled
    global_group = by (in_turn (access_turn L GLOBAL m x) (members z.enabled) z) D
      where
        by : (q : Step) → GlobalDid L z q a regs' global' shared' masks'
            → GroupAfter L (and_then q (λ y. continues (advance (suc y.row) y.enabled y.saved y))) r regs' cells log saved openers global' shared' masks'
        by (continues y) K = unfold and_then in (moved_on s, er ∙ ap (λ b. accessed s b) K.answer, goes_on_lem y K.memory K.kept K.only)
        by (stops v y) K =
            unfold and_then in
            (s, er ∙ ap (λ b. accessed s b) K.answer, stays_here y K.memory K.kept K.only)
