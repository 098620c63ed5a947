-- A row of a group, by its byte: one of the group alone, a BARRIER, the launch number, or accesses of global cells. Assumes nothing.
use mathlib.Core.Path.{◌≡◌, refl, sym, ◌∙◌, ap, subst, subst₂}
use mathlib.Core.List.{List}
use mathlib.Core.Logic.{◌⊎◌, inl, inr}
use mathlib.Core.Bool.{true}
use Prim.Native.Nat.{ℕ, ◌+◌, ◌-◌, ◌*◌, ◌<◌, ◌≤◌}
use native.Mathlib.Omega.{arith}
use native.Mathlib.Decide.{ℕ_discrete}
use lib.ListN.{length, get_or}
use Rattle.spec.specs.Op.{op_of, op_table, LAUNCHTID, BARRIER, value}
use Rattle.spec.specs.Shape.{Shape, launch_number}
use Rattle.spec.specs.Table.{Table, Row, rows_of, row_at}
use Rattle.spec.specs.LockStep.{LockState, compute_turn, run_row}
use Rattle.spec.proofs.Laws.{lt_or_le, all_below, below, byte_barrier}
use Rattle.layout.specs.declared.State.{State}
use Rattle.layout.specs.Next.{Next}
use Rattle.layout.specs.Memory.{Access}
use Rattle.std.specs.Prelude.{Ok, Err}
use Rattle.layout.specs.Represents.{Represents, After, Counts, moved_on, accessed}
use Rattle.layout.specs.Running.{Steps}
use Rattle.layout.specs.Views.{view_of, own_from, alone, is_own_calc, is_own_space, is_own_row}
use Rattle.layout.specs.Groups.{GroupStands, GroupAfter, SharedAfter, SharedLeft}
use Rattle.layout.specs.Counting.{StepsOn}
use Rattle.layout.proofs.Parts.{part_size, own_within}
use Rattle.layout.proofs.PlainRows.{plain_after}
use Rattle.layout.proofs.GroupRows.{own_group, calc_group, barrier_group, global_group}
use Rattle.compute.proofs.Turns.{launch_did}
use Rattle.intervals.specs.Records.{records_after}
use Rattle.step.proofs.Tables.{row_here, inside_row}
use Rattle.step.proofs.Recorded.{after_plain}
use Rattle.launchrows.specs.LaunchRows.{Numbered, LaunchDone, GlobalDone}
use Rattle.grouprow.specs.Rows.{LaunchRowAsks, GlobalRowAsks}

-- Bytes 0 to 18 and 32 to 36 are rows of a group alone: one computed test for each stretch.
own_low : all_below (λ k. is_own_row (op_of k)) 19 ≡ true
unfolding op_of op_table is_own_row is_own_calc is_own_space
own_low = refl

own_high : all_below (λ j. is_own_row (op_of (32 + j))) 5 ≡ true
unfolding op_of op_table is_own_row
own_high = refl

pub own_byte : (k : ℕ) → k ≤ 37 → (18 < k → k < 32 → ⊥) → (k ≡ 37 → ⊥) → is_own_row (op_of k) ≡ true
own_byte k h f g = by (lt_or_le k 19)
  where
    by : (k < 19) ⊎ (19 ≤ k) → is_own_row (op_of k) ≡ true
    by (inl l) = below (λ j. is_own_row (op_of j)) 19 own_low k l
    by (inr l) =
        let high : 32 ≤ k = by_high (lt_or_le k 32) in
        let e : 32 + (k - 32) ≡ k = omega arith in
        ap (λ j. is_own_row (op_of j)) (sym e) ∙ below (λ j. is_own_row (op_of (32 + j))) 5 own_high (k - 32) (omega arith)
      where
        by_high : (k < 32) ⊎ (32 ≤ k) → 32 ≤ k
        by_high (inl m) = absurd (f (omega arith) m)
        by_high (inr m) = m

module _ (table : List ℕ) (n group : ℕ) (s : State) (regs cells log saved openers global shared masks : List ℕ) (r : Next)
    (regs' : List ℕ) (inside : s.row * 4 + 3 < length table) (L : Shape) (z : LockState) (en : L.threads ≡ n)
    (G : GroupStands L z s regs cells log saved openers global shared masks) where
  abbrev T : Table
  T = rows_of table

  abbrev view : LockState
  view = view_of (own_from L) L.cells z

  abbrev x : Row
  x = row_at T z.row

  abbrev byte : ℕ
  byte = get_or table (s.row * 4) 0

  -- the row, by the table's bytes
  op_here : x.op ≡ op_of byte
  unfolding view_of
  op_here = ap (λ y. y.op) (row_here table L.threads view s regs cells log saved openers G.own (inside_row table s.row inside))

  d_here : x.d ≡ get_or table (s.row * 4 + 1) 0
  unfolding view_of
  d_here = ap (λ y. y.d) (row_here table L.threads view s regs cells log saved openers G.own (inside_row table s.row inside))

  a_here : x.a ≡ get_or table (s.row * 4 + 2) 0
  unfolding view_of
  a_here = ap (λ y. y.a) (row_here table L.threads view s regs cells log saved openers G.own (inside_row table s.row inside))

  own_count : length cells ≡ L.cells
  unfolding view_of
  own_count =
      ap length G.own.memory.cells_are
      ∙ part_size (own_from L) L.cells z.cells (omega (arith, G.globals.sized.cells_are, own_within L z G.globals.sized))

  module _ (common cells' log' saved' openers' : List ℕ) (ec : L.common ≡ common) (S : Steps table n s common regs cells log saved openers r regs' cells' log' saved' openers') where
    -- what the row comes to in the view of a group alone
    alone_after : After L.threads (run_row T (alone L.threads L.cells L.common) x view x.op) r regs' cells' log' saved' openers'
    unfolding view_of
    alone_after =
        subst (λ w. After L.threads (run_row T (alone L.threads L.cells w) x view x.op) r regs' cells' log' saved' openers') (sym ec)
        (subst₂ (λ k c. After k (run_row T (alone k c common) x view x.op) r regs' cells' log' saved' openers') (sym en) own_count
        (S.done view (subst (λ k. Represents k view s regs cells log saved openers) en G.own)))

    own_done : byte ≤ 37 → (18 < byte → byte < 32 → ⊥) → (byte ≡ 37 → ⊥)
        → GroupAfter L (run_row T L x z x.op) r regs' cells' log' saved' openers' global shared masks
    own_done h f g =
        own_group L z s regs cells log saved openers global shared masks G T x x.op (ap is_own_row op_here ∙ own_byte byte h f g) r regs' cells' log' saved' openers'
        alone_after

    barrier_done : byte ≡ 37 → (shared' : List ℕ) → SharedAfter s r shared shared'
        → GroupAfter L (run_row T L x z x.op) r regs' cells' log' saved' openers' global shared' masks
    barrier_done e shared' C =
        let is_barrier_lem : x.op ≡ BARRIER = op_here ∙ ap op_of e ∙ byte_barrier in
        subst (λ o. GroupAfter L (run_row T L x z o) r regs' cells' log' saved' openers' global shared' masks) (sym is_barrier_lem)
        (barrier_group L z s regs cells log saved openers global shared masks G T x r regs' cells' log' saved' openers' shared'
        (subst (λ o. After L.threads (run_row T (alone L.threads L.cells L.common) x view o) r regs' cells' log' saved' openers') is_barrier_lem alone_after) C)

    -- by the byte
    pub step_done : byte ≤ 37 → (18 < byte → byte < 32 → ⊥) → (shared' : List ℕ) → SharedLeft byte s r shared shared'
        → GroupAfter L (run_row T L x z x.op) r regs' cells' log' saved' openers' global shared' masks
    step_done h f shared' C = by (ℕ_discrete byte 37)
      where
        by : Dec (byte ≡ 37) → GroupAfter L (run_row T L x z x.op) r regs' cells' log' saved' openers' global shared' masks
        by (yes e) = barrier_done e shared' (C.0 e)
        by (no g) = subst (λ w. GroupAfter L (run_row T L x z x.op) r regs' cells' log' saved' openers' global w masks) (sym (C.1 g)) (own_done h f g)

  pub launch_done : L.group ≡ group → (d : ℕ) → d ≡ get_or table (s.row * 4 + 1) 0 → LaunchRowAsks byte (get_or table (s.row * 4 + 1) 0)
      → LaunchDone n group d s regs r regs' → GroupAfter L (run_row T L x z x.op) r regs' cells log saved openers global shared masks
  unfolding view_of launch_number
  launch_done eg d ed A D =
      let did = launch_did L.threads s.mask d regs G.own.memory.regs_are.size x (d_here ∙ sym ed) cells log view G.own.enabled_is_lem
      G.own.enabled_size G.own.memory regs' L.group (subst (λ k. k < 16) (sym ed) A.target)
      (subst₂ (λ k g. Numbered k g s.mask d regs regs') (sym en) (sym eg) D.1) in
      subst (λ o. GroupAfter L (run_row T L x z o) r regs' cells log saved openers global shared masks) (sym (op_here ∙ A.names))
      (calc_group L z s regs cells log saved openers global shared masks G T x r regs' cells log saved openers LAUNCHTID
      (plain_after L.threads view s regs cells log saved openers G.own
      (compute_turn x (λ t p q. value LAUNCHTID L.threads t (launch_number L t) x.a x.b p q)) (Ok tt) r regs' cells log did G.own.reach_is D.0))

  pub global_done : L.group ≡ group → (d a : ℕ) → d ≡ get_or table (s.row * 4 + 1) 0 → a ≡ get_or table (s.row * 4 + 2) 0
      → GlobalRowAsks byte (get_or table (s.row * 4 + 1) 0) (get_or table (s.row * 4 + 2) 0) → (global' shared' masks' : List ℕ)
      → GlobalDone byte n group d a s regs global shared masks r regs' global' shared' masks'
      → GroupAfter L (run_row T L x z x.op) r regs' cells log saved openers global' shared' masks'
  unfolding view_of
  global_done eg d a ed ea A global' shared' masks' D =
      subst (λ o. GroupAfter L (run_row T L x z o) r regs' cells log saved openers global' shared' masks') (sym (op_here ∙ A.names))
      (global_group L z s regs cells log saved openers global shared masks G T x A.mem D.0 r regs' global' shared' masks'
      (D.2 L z A.mem x A.alike (d_here ∙ sym ed) (a_here ∙ sym ea) en eg G.own.enabled_is_lem (G.own.enabled_size ∙ en) G.globals) D.1)

-- The counts of a row that goes on as accesses of global cells do.
pub accessed_counts : (s : State) (a : Access) (r : Next) → r ≡ accessed s a → Counts s r × StepsOn s r
accessed_counts s (Ok tt) r e =
    subst (λ q. Counts s q × StepsOn s q) (sym e) (record { rows_one = refl; since_one = omega arith; barriers_one = omega arith }, (refl, refl))
accessed_counts s (Err v) r e = subst (λ q. Counts s q × StepsOn s q) (sym e) (refl, (refl, refl))

-- It is charged nothing.
pub accessed_free : (group : ℕ) (s : State) (a : Access) (r : Next) (records : List ℕ) → r ≡ accessed s a → records ≡ records_after group 0 s r records
unfolding records_after
accessed_free group s (Ok tt) r records e = sym (ap (λ q. records_after group 0 s q records) e ∙ after_plain group s (moved_on s) records refl)
accessed_free group s (Err v) r records e = sym (ap (λ q. records_after group 0 s q records) e)
