-- What the rows of constructs and BARRIER leave is what the definition's rows come to, by their ops. Assumes nothing.
use mathlib.Core.Path.{◌≡◌, refl, sym, ◌∙◌, ap, subst, subst₂}
use mathlib.Core.List.{List}
use Prim.Native.Nat.{ℕ, ◌<◌, ◌≤◌}
use native.Mathlib.Omega.{arith}
use native.Mathlib.Decide.{ℕ_discrete}
use lib.ListN.{length}
use Rattle.spec.specs.Op.{WHILE, op_of, op_table}
use Rattle.spec.specs.Table.{Table, Row, end_of}
use Rattle.spec.specs.Shape.{Shape}
use Rattle.spec.specs.LockStep.{LockState, Step, continues, if_row, else_row, endif_row, while_row, endwhile_row, barrier_row, run_row}
use Rattle.layout.specs.declared.State.{State}
use Rattle.layout.specs.Next.{Next}
use Rattle.layout.specs.Next as next
use Rattle.layout.specs.Memory.{shape_by}
use Rattle.layout.specs.Represents.{Represents, After, DepthAsks}
use Rattle.layout.specs.Constructs.{construct_state, saving, saved_after, openers_after, ConstructDone, barrier_next, barrier_log}
use Rattle.constructs.proofs.Rows.{if_on, while_on, if_done, else_done, endif_done, while_done, endwhile_done}
use Rattle.constructs.proofs.Barrier.{barrier_means}

module _ (n : ℕ) (z : LockState) (s : State) (regs cells log saved openers : List ℕ) (R : Represents n z s regs cells log saved openers)
    (T : Table) (L : Shape) (x : Row) (op : ℕ) (q : x.op ≡ op_of op) where
  pub barrier_after : (common : List ℕ) → 1 ≤ n → op ≡ 37 → (r : Next) (log' : List ℕ) → (r ≡ barrier_next n s) × (log' ≡ barrier_log n s (length cells) log)
      → After n (run_row T (shape_by n cells common) x z x.op) r regs cells log' saved openers
  unfolding run_row op_of op_table
  barrier_after common o e r log' (er, el) =
      subst (λ y. After n y r regs cells log' saved openers) (sym (ap (run_row T (shape_by n cells common) x z) (q ∙ ap op_of e)))
      (subst₂ (λ y w. After n (barrier_row (shape_by n cells common) z) y regs cells w saved openers) (sym er) (sym el) (barrier_means n z s regs cells log saved openers R common o))

  module _ (a e : ℕ) (ea : x.a ≡ a) (ee : x.op ≡ WHILE → e ≡ end_of T z.row) (small : (op ≡ 32 → a < 16) × (op ≡ 35 → a < 16))
      (D : DepthAsks op s openers) where
    -- The row at op k.
    Arm : ℕ → Type 0
    Arm k = After n (run_row T L x z (op_of k)) (next.Go (construct_state k a e regs s saved openers)) regs cells log (saved_after k s saved openers)
        (openers_after k s openers)

    arm : (f : LockState) (r : State) (saved' openers' : List ℕ) (o : Step) → o ≡ continues f → Represents n f r regs cells log saved' openers'
        → After n o (next.Go r) regs cells log saved' openers'
    arm f r saved' openers' o p Z = subst (λ y. After n y (next.Go r) regs cells log saved' openers') (sym p) (r, refl, Z)

    at_if_lem : op ≡ 32 → Arm 32
    unfolding Arm run_row op_of op_table if_row construct_state saved_after openers_after saving
    at_if_lem k =
        arm (if_on a z) _ _ _ _ (ap (λ b. continues (if_on b z)) ea) (if_done n z s regs cells log saved openers R a (small.0 k) (D.opens_if k))

    at_else : op ≡ 33 → Arm 33
    unfolding Arm run_row op_of op_table construct_state saved_after openers_after saving
    at_else k =
        let y = D.inside (omega arith) (omega arith) (λ h. omega arith) in
        arm (else_row z) _ _ _ _ refl (else_done n z s regs cells log saved openers R y.0 y.1)

    at_endif : op ≡ 34 → Arm 34
    unfolding Arm run_row op_of op_table construct_state saved_after openers_after saving
    at_endif k =
        let y = D.inside (omega arith) (omega arith) (λ h. omega arith) in
        arm (endif_row z) _ _ _ _ refl (endif_done n z s regs cells log saved openers R y.0)

    at_while : op ≡ 35 → Arm 35
    unfolding Arm run_row op_of op_table while_row construct_state
    at_while k =
        arm (while_on a T z) _ _ _ _ (ap (λ b. continues (while_on b T z)) ea)
        (while_done n z s regs cells log saved openers R T a e (small.1 k) (D.opens_while k) (ee (q ∙ ap op_of k)))

    at_endwhile : op ≡ 36 → Arm 36
    unfolding Arm run_row op_of op_table construct_state saved_after openers_after saving
    at_endwhile k =
        let y = D.inside (omega arith) (omega arith) (λ h. omega arith) in
        arm (endwhile_row z) _ _ _ _ refl (endwhile_done n z s regs cells log saved openers R y.0)

    by_op : 32 ≤ op → op ≤ 36 → Arm op
    by_op h l = by (ℕ_discrete op 32) (ℕ_discrete op 33) (ℕ_discrete op 34) (ℕ_discrete op 35)
      where
        by : Dec (op ≡ 32) → Dec (op ≡ 33) → Dec (op ≡ 34) → Dec (op ≡ 35) → Arm op
        by (yes k) b c d = subst Arm (sym k) (at_if_lem k)
        by (no f) (yes k) c d = subst Arm (sym k) (at_else k)
        by (no f) (no g) (yes k) d = subst Arm (sym k) (at_endif k)
        by (no f) (no g) (no i) (yes k) = subst Arm (sym k) (at_while k)
        by (no f) (no g) (no i) (no j) = let k : op ≡ 36 = omega arith in subst Arm (sym k) (at_endwhile k)

    pub construct_after : 32 ≤ op → op ≤ 36 → (r : State) (saved' openers' : List ℕ) → ConstructDone op a e regs s saved openers r saved' openers'
        → After n (run_row T L x z x.op) (next.Go r) regs cells log saved' openers'
    construct_after h l r saved' openers' C =
        subst (λ y. After n y (next.Go r) regs cells log saved' openers') (sym (ap (run_row T L x z) q))
        (subst (λ y. After n (run_row T L x z (op_of op)) (next.Go y) regs cells log saved' openers') (sym C.state_is)
        (subst₂ (λ v w. After n (run_row T L x z (op_of op)) (next.Go (construct_state op a e regs s saved openers)) regs cells log v w) (sym C.saved_are)
        (sym C.openers_are) (unfold Arm in (by_op h l))))
