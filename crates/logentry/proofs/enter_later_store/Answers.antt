-- `logentry::enter_later_store` meets its contract. Assumes nothing.
use mathlib.Core.Path.{◌≡◌, ap, ap₂, subst, ◌∙◌}
use Prim.Native.Nat.{ℕ, ◌+◌}
use native.Mathlib.Omega.{arith}
use lib.Bits.{bit_and, bit_or}
use lib.ListN.{set}
use Rattle.layout.proofs.LogTests.{bit_among, stored_among, stored_later}
use Rattle.logentry.proofs.enter_later_store.Goals as goal

pub returns-then-w-bit-eq0 : goal.returns-then-w-bit-eq0
returns-then-w-bit-eq0 c =
    let args = c.args in
    let writers = c.requires.2 in
    ap₂ (λ l (z : ℕ). set l (args.cells + args.i) (bit_or z args.bit)) c.enter_mark.ensures writers
    ∙ stored_later args.cells args.i args.log.now args.bit args.v c.requires.0.inside (omega (arith, writers, c.requires.3))

pub returns-else-w-bit-eq0 : goal.returns-else-w-bit-eq0
returns-else-w-bit-eq0 c =
    let args = c.args in
    let writers = c.requires.2 in
    let bit = c.requires.1.1 in
    let among = ap (bit_or args.w) bit ∙ bit_among args.w c.requires.1.0 (λ z. c.if-w-bit-eq0.false (ap (bit_and args.w) bit ∙ z)) in
    c.enter_mark.ensures
    ∙ stored_among args.cells args.i args.log.now args.bit args.v c.requires.0.inside (omega (arith, writers, c.requires.3))
    (subst (λ (x : ℕ). bit_or x args.bit ≡ x) writers among)
