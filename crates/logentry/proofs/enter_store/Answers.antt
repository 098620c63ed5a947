-- `logentry::enter_store` meets its contract. Assumes nothing.
use mathlib.Core.Path.{sym, ap, ◌∙◌}
use Prim.Native.Nat.{ℕ}
use native.Mathlib.Omega.{arith}
use lib.Bits.{bit_or, or_self}
use lib.Pow.{pow_pos}
use Rattle.layout.proofs.LogTests.{stored_among, stored_first}
use Rattle.logentry.proofs.enter_store.Goals as goal

pub returns-then-w-bit : goal.returns-then-w-bit
returns-then-w-bit c =
    let args = c.args in
    let alone = c.if-w-bit.true in
    c.enter_mark.ensures
    ∙ stored_among args.cells args.i args.log.now args.bit args.v c.requires.0.inside
    (omega (arith, alone, c.requires.1.1, pow_pos c.requires.1.0)) (ap (λ (z : ℕ). bit_or z args.bit) alone ∙ or_self args.bit ∙ sym alone)

pub returns-then-w-eq0 : goal.returns-then-w-eq0
returns-then-w-eq0 c =
    let args = c.args in
    stored_first args.cells args.i args.log.now args.bit args.v c.requires.0.inside c.if-w-eq0.true
