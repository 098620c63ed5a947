-- A row's accesses of global cells, one thread after the other, as the loop has them. Assumes nothing.
use mathlib.Core.Path.{◌≡◌, sym, ◌∙◌, ap, subst}
use mathlib.Core.List.{List}
use Prim.Native.Nat.{ℕ, ◌+◌, ◌/◌, ◌%◌, ◌^◌, ◌<◌}
use native.Mathlib.Omega.{arith}
use native.Mathlib.Decide.{ℕ_discrete}
use lib.ListN.{length}
use Rattle.spec.specs.declared.Verdict.{Verdict}
use Rattle.spec.specs.Op.{OWN, GLOBAL, Mem, MEM, op_of}
use Rattle.spec.specs.Table.{Row}
use Rattle.spec.specs.Shape.{Shape}
use Rattle.spec.specs.Mask.{mask_word, members}
use Rattle.spec.specs.LockStep.{LockState, in_turn, access_turn}
use Rattle.std.specs.Prelude.{Ok, Err}
use Rattle.layout.specs.declared.Turns as declared
use Rattle.layout.specs.Shared.{GlobalMemory, GlobalDid, GlobalAll, GlobalTurn}
use Rattle.layout.proofs.GlobalStates.{GlobalTurning, global_start, global_whole, global_out, global_in, global_stop}

-- The loop's state, for every state that the buffers stood for at its start: thread t is next, and `left` is what is left of the mask.
abbrev pub Turns : (op n mask d a group : ℕ) → (regs₀ cells₀ log₀ masks₀ : List ℕ) → (t left : ℕ) → (regs cells log masks : List ℕ) → Type 0
Turns op n mask d a group regs₀ cells₀ log₀ masks₀ t left regs cells log masks =
    (L : Shape) (z : LockState) (m : Mem) (x : Row) → op_of op ≡ MEM OWN m → x.d ≡ d → x.a ≡ a → L.threads ≡ n → L.group ≡ group
    → mask ≡ mask_word z.enabled → length z.enabled ≡ n → GlobalMemory L z regs₀ cells₀ log₀ masks₀
    → GlobalTurning L (access_turn L GLOBAL m x) z t left regs cells log masks

module _ (op n mask d a group : ℕ) (regs₀ cells₀ log₀ masks₀ : List ℕ) where
  pub turns_start : Turns op n mask d a group regs₀ cells₀ log₀ masks₀ 0 mask regs₀ cells₀ log₀ masks₀
  turns_start L z m x o ed ea en eg e l M = global_start L (access_turn L GLOBAL m x) z mask regs₀ cells₀ log₀ masks₀ e (l ∙ sym en) M

  module _ (t left : ℕ) (regs cells log masks : List ℕ) (T : Turns op n mask d a group regs₀ cells₀ log₀ masks₀ t left regs cells log masks) where
    pub turns_whole : left ≡ 0 → GlobalAll op n mask d a group regs₀ cells₀ log₀ masks₀ (Ok tt) regs cells log masks
    turns_whole none L z m x o ed ea en eg e l M =
        global_whole L (access_turn L GLOBAL m x) z M.sized t left regs cells log masks (T L z m x o ed ea en eg e l M) none

    module _ (own : ℕ) (r : declared.Turns) (regs' cells' log' masks' : List ℕ) (D : GlobalTurn op left t d a own regs cells log masks r regs' cells' log' masks')
        (eo : own ≡ 2 ^ group) (h : t < n) where
      one : (L : Shape) (z : LockState) (m : Mem) (x : Row) → op_of op ≡ MEM OWN m → x.d ≡ d → x.a ≡ a → L.threads ≡ n → L.group ≡ group
          → GlobalMemory L z regs cells log masks → left % 2 ≡ 1 → GlobalDid L z (access_turn L GLOBAL m x z t) r.access regs' cells' log' masks'
      one L z m x o ed ea en eg M odd = D.enabled odd L z m x o ed ea (omega (arith, h, en)) (eo ∙ ap (λ (k : ℕ). 2 ^ k) (sym eg)) M

      pub turns_on : r.access ≡ (Ok tt) → Turns op n mask d a group regs₀ cells₀ log₀ masks₀ (t + 1) (left / 2) regs' cells' log' masks'
      turns_on done L z m x o ed ea en eg e l M = by (ℕ_discrete (left % 2) 1)
        where
          C : GlobalTurning L (access_turn L GLOBAL m x) z t left regs cells log masks
          C = T L z m x o ed ea en eg e l M

          Next : (regs cells log masks : List ℕ) → Type 0
          Next = GlobalTurning L (access_turn L GLOBAL m x) z (t + 1) (left / 2)

          by : Dec (left % 2 ≡ 1) → Next regs' cells' log' masks'
          by (yes odd) =
              global_in L (access_turn L GLOBAL m x) z M.sized t left regs cells log masks C regs' cells' log' masks' (omega (arith, h, en)) odd
              (subst (λ w. GlobalDid L C.here (access_turn L GLOBAL m x C.here t) w regs' cells' log' masks') done
              (one L C.here m x o ed ea en eg C.memory odd))
          by (no even) =
              let same = D.disabled even in
              subst (λ w. Next w cells' log' masks') (sym same.1) (subst (λ w. Next regs w log' masks') (sym same.2)
              (subst (λ w. Next regs cells w masks') (sym same.3) (subst (λ w. Next regs cells log w) (sym same.4)
              (global_out L (access_turn L GLOBAL m x) z M.sized t left regs cells log masks C (omega (arith, h, en)) even))))

      pub turns_stop : (v : Verdict) → r.access ≡ Err v → GlobalAll op n mask d a group regs₀ cells₀ log₀ masks₀ (Err v) regs' cells' log' masks'
      turns_stop v stopped L z m x o ed ea en eg e l M = by (ℕ_discrete (left % 2) 1)
        where
          C : GlobalTurning L (access_turn L GLOBAL m x) z t left regs cells log masks
          C = T L z m x o ed ea en eg e l M

          by : Dec (left % 2 ≡ 1) → GlobalDid L z (in_turn (access_turn L GLOBAL m x) (members z.enabled) z) (Err v) regs' cells' log' masks'
          by (yes odd) =
              global_stop L (access_turn L GLOBAL m x) z M.sized t left regs cells log masks C regs' cells' log' masks' (omega (arith, h, en)) odd v
              (subst (λ w. GlobalDid L C.here (access_turn L GLOBAL m x C.here t) w regs' cells' log' masks') stopped
              (one L C.here m x o ed ea en eg C.memory odd))
          by (no even) = let z : ◌≡◌ {A = ℕ} 0 1 = cc (sym (D.disabled even).0 ∙ stopped) in absurd (omega arith)
