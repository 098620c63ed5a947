-- `accesslog::beside` meets its contract. By the op. Assumes nothing.
use mathlib.Core.Path.{sym, ap}
use Prim.Native.Nat.{ℕ}
use native.Mathlib.Omega.{arith}
use lib.Bits.{bit_or}
use Rattle.layout.specs.Ops.{number}
use Rattle.layout.proofs.LogTests.{beside_load, beside_store, beside_add}
use Rattle.accesslog.proofs.beside.Goals as goal

pub returns-in-Load : goal.returns-in-Load
returns-in-Load c = ap (λ (x : ℕ). bit_or x c.args.bit) (sym (beside_load _ _ _ _ (ap number c.in-Load.is)))

pub returns-in-Store : goal.returns-in-Store
returns-in-Store c = ap (λ (x : ℕ). bit_or x c.args.bit) (sym (beside_store _ _ _ _ (ap number c.in-Store.is)))

pub returns-in-Add : goal.returns-in-Add
returns-in-Add c =
    let is = ap number c.in-Add.is in
    ap (λ (x : ℕ). bit_or x c.args.bit) (sym (beside_add _ _ _ _ (λ e. omega (arith, e, is)) (λ e. omega (arith, e, is))))
