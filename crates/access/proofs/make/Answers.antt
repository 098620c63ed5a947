-- `access::make` meets its contract. Assumes nothing.
use mathlib.Core.Path.{refl}
use Prim.Native.Nat.{◌+◌, ◌*◌}
use native.Mathlib.Omega.{arith}
use lib.ListN.{length, get_or}
use Rattle.layout.specs.Ops.{number}
use Rattle.layout.proofs.Reach.{entered_but}
use Rattle.access.proofs.Accesses.{goes_alone, transfer_keeps, made_did}
use Rattle.access.proofs.make.Goals as goal

pub transfer-requires : goal.transfer-requires
transfer-requires c =
    let alone = goes_alone _ _ _ _ _ _ c.requires.4 in
    (c.requires.0, alone.0, c.requires.1.target, c.requires.1.source)

pub enter-requires : goal.enter-requires
enter-requires c =
    let pre = c.requires.1 in
    let alone = goes_alone _ _ _ _ _ _ c.requires.4 in
    (record { known = pre.known; small = pre.small; sized = pre.sized; inside = alone.0; few = pre.cells_few }, (c.args.turn.thread, c.requires.2))

pub returns : goal.returns
returns c =
    let enter = c.enter in
    let transfer = c.transfer in
    let args = c.args in
    let turn = args.turn in
    let pre = c.requires in
    let value = get_or args.regs.now (args.row.a * 32 + turn.thread) 0 in
    let alone = goes_alone (number args.row.op) value turn.bit turn.cell args.cells.now args.log.now pre.4 in (
      λ common n m x o h ed ea s M.
          made_did n turn.thread s args.regs.now args.cells.now args.log.now M h (number args.row.op) args.row.d args.row.a turn.thread turn.cell m x o
          pre.1.known pre.1.small pre.3 ed ea pre.1.target pre.1.source refl common
          alone.0 turn.bit _ value pre.2 refl refl (omega (arith, alone.1)) (omega arith) _ _ _ alone.1
          transfer.ensures enter.ensures,
      transfer_keeps (number args.row.op) args.row.d turn.thread turn.thread _ turn.cell args.regs.now args.cells.now _ _ refl transfer.ensures,
      entered_but (number args.row.op) value (length args.cells.now) turn.cell turn.bit args.log.now _ alone.0 enter.ensures,
    )
