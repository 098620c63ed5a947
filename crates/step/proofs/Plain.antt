-- Computing and access rows, as the definition's rows. Assumes nothing.
use mathlib.Core.Path.{◌≡◌, sym, ap, subst}
use mathlib.Core.List.{List}
use Prim.Native.Nat.{ℕ, ◌+◌, ◌*◌}
use lib.ListN.{length}
use Rattle.spec.specs.Op.{Calc, CALC, Space, Mem, MEM, value}
use Rattle.spec.specs.Table.{Table, Row}
use Rattle.spec.specs.Shape.{Shape, launch_number}
use Rattle.spec.specs.Mask.{members}
use Rattle.spec.specs.LockStep.{LockState, Step, in_turn, compute_turn, access_turn, for_enabled, run_row}
use Rattle.layout.specs.Memory.{Access}
use Rattle.std.specs.Prelude.{Ok}
use Rattle.layout.specs.declared.State.{State}
use Rattle.layout.specs.Next.{Next}
use Rattle.layout.specs.Next as next
use Rattle.layout.specs.Memory.{Did, shape_by}
use Rattle.layout.specs.Logging.{EmptyAbove}
use Rattle.layout.specs.Represents.{Represents, After, moved_on, accessed}
use Rattle.layout.proofs.PlainRows.{plain_after}

module _ (n : ℕ) (z : LockState) (s : State) (regs cells log saved openers : List ℕ) (R : Represents n z s regs cells log saved openers) (T : Table)
    (x : Row) where
  row_after : (L : Shape) (f : LockState → ℕ → Step) (a : Access) (r : Next) (regs' cells' log' : List ℕ)
      → run_row T L x z x.op ≡ for_enabled f z → Did n z (in_turn f (members z.enabled) z) a regs' cells' log'
      → EmptyAbove s.reach (length cells') log' → r ≡ accessed s a → After n (run_row T L x z x.op) r regs' cells' log' saved openers
  row_after L f a r regs' cells' log' q D E e =
      subst (λ o. After n o r regs' cells' log' saved openers) (sym q) (plain_after n z s regs cells log saved openers R f a r regs' cells' log' D E e)

  pub compute_after : (common : List ℕ) (c : Calc) (r : State) (regs' : List ℕ) → x.op ≡ CALC c
      → Did n z (in_turn (compute_turn x (λ t p q. value c n t (0 * n + t) x.a x.b p q)) (members z.enabled) z) (Ok tt) regs' cells log → r ≡ moved_on s
      → After n (run_row T (shape_by n cells common) x z x.op) (next.Go r) regs' cells log saved openers
  unfolding run_row launch_number
  compute_after common c r regs' q D e =
      row_after (shape_by n cells common) (compute_turn x (λ t p q. value c n t (0 * n + t) x.a x.b p q)) (Ok tt) (next.Go r) regs' cells log
      (ap (run_row T (shape_by n cells common) x z) q) D R.reach_is (ap next.Go e)

  pub access_after : (L : Shape) (p : Space) (m : Mem) (a : Access) (r : Next) (regs' cells' log' : List ℕ) → x.op ≡ MEM p m
      → Did n z (in_turn (access_turn L p m x) (members z.enabled) z) a regs' cells' log' → EmptyAbove s.reach (length cells') log' → r ≡ accessed s a
      → After n (run_row T L x z x.op) r regs' cells' log' saved openers
  unfolding run_row
  access_after L p m a r regs' cells' log' q D E e = row_after L (access_turn L p m x) a r regs' cells' log' (ap (run_row T L x z) q) D E e
