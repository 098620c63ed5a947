-- `access::goes_on` meets its contract: the cell's number, then the access test. Assumes nothing.
use native.Mathlib.Omega.{arith}
use Prim.Native.Nat.{◌+◌, ◌*◌}
use lib.ListN.{get_or}
use Rattle.layout.specs.Ops.{number}
use Rattle.access.proofs.Accesses.{goes_outside, goes_inside}
use Rattle.access.proofs.goes_on.Goals as goal

pub returns-then-n-i : goal.returns-then-n-i
returns-then-n-i c =
    let args = c.args in
    goes_outside (number args.row.op) _ args.turn.bit args.turn.cell args.cells.now args.log.now c.if-n-i.true

pub returns : goal.returns
returns c =
    let args = c.args in
    let value = get_or args.regs.now (args.row.a * 32 + args.turn.thread) 0 in
    goes_inside (number args.row.op) value args.turn.bit args.turn.cell args.cells.now args.log.now c.met.result (omega (arith, c.if-n-i.false)) c.met.ensures
