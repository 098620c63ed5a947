-- The ops of access rows, told by their bytes. Assumes nothing.
use mathlib.Core.Path.{◌≡◌, refl}
use Prim.Native.Nat.{ℕ}
use native.Mathlib.Omega.{arith}
use Rattle.layout.specs.declared.AccessOp.{AccessOp}
use Rattle.layout.specs.declared.AccessOp.TheVariants.{Load, Store, Add}
use Rattle.layout.specs.Ops.{number}

pub load_is : (op : AccessOp) → number op ≡ 16 → op ≡ Load
load_is Load e = refl
load_is Store e = absurd (omega (arith, e))
load_is Add e = absurd (omega (arith, e))

pub store_is : (op : AccessOp) → number op ≡ 17 → op ≡ Store
store_is Load e = absurd (omega (arith, e))
store_is Store e = refl
store_is Add e = absurd (omega (arith, e))
