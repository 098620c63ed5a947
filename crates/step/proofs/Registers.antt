-- The registers after a row, by its op. Assumes nothing.
use mathlib.Core.Path.{◌≡◌, refl, subst}
use mathlib.Core.List.{List}
use Prim.Native.Nat.{ℕ, ◌<◌, ◌≤◌}
use native.Mathlib.Omega.{arith}
use Rattle.layout.specs.Memory.{Computed, KeptBut}
use Rattle.layout.specs.Running.{RegsAfter}

module _ (op n mask d a b : ℕ) (regs : List ℕ) where
  pub regs_computed : (d' a' b' : ℕ) (regs' : List ℕ) → op < 16 → d' ≡ d → a' ≡ a → b' ≡ b → Computed op n mask d' a' b' regs regs'
      → RegsAfter op n mask d a b regs regs'
  regs_computed d' a' b' regs' h ed ea eb C =
      record {
        computed = λ l. subst (λ x. Computed op n mask x a b regs regs') ed
            (subst (λ x. Computed op n mask d' x b regs regs') ea (subst (λ x. Computed op n mask d' a' x regs regs') eb C));
        accessed = λ l m. absurd (omega arith);
        kept = λ l. absurd (omega arith);
      }

  pub regs_accessed : (d' : ℕ) (regs' : List ℕ) → 16 ≤ op → op < 32 → d' ≡ d → KeptBut d' n regs regs' → RegsAfter op n mask d a b regs regs'
  regs_accessed d' regs' h l ed K =
      record {
        computed = λ m. absurd (omega arith);
        accessed = λ k m. subst (λ x. KeptBut x n regs regs') ed K;
        kept = λ m. absurd (omega arith);
      }

  pub regs_kept : 32 ≤ op → RegsAfter op n mask d a b regs regs
  regs_kept h = record { computed = λ m. absurd (omega arith); accessed = λ k m. absurd (omega arith); kept = λ m. refl }
