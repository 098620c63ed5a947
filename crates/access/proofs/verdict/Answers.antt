-- `access::verdict` meets its contract: outside, or a race. Assumes nothing.
use mathlib.Core.Path.{refl}
use native.Mathlib.Omega.{arith}
use lib.ListN.{length}
use Rattle.layout.specs.Ops.{number}
use Rattle.access.proofs.Accesses.{bit_met, refused_foe, outside_did, race_did}
use Rattle.access.proofs.verdict.Goals as goal

pub returns-then-n-i : goal.returns-then-n-i
returns-then-n-i c =
    let args = c.args in
    let pre = c.requires.1 in
    λ common f n m x o h ed ea s M.
    outside_did n args.turn.thread s args.regs.now args.cells.now args.log.now M h (number args.row.op) args.row.d args.row.a args.turn.thread
    args.turn.cell m x o pre.known pre.small c.requires.3 ed ea pre.target pre.source refl common _ refl c.if-n-i.true f

pub overflow_sub-met : goal.overflow_sub-met
overflow_sub-met c =
    let args = c.args in
    bit_met (number args.row.op) _ (length args.cells.now) args.turn.cell args.log.now _ args.turn.bit c.met-met.ensures

pub race_kind-kind-requires : goal.race_kind-kind-requires
race_kind-kind-requires c =
    let met = c.met-met in
    let within = c.if-n-i.false in
    let args = c.args in
    let pre = c.requires.1 in
    let foe = refused_foe (number args.row.op) args.row.a args.turn.thread args.regs.now args.cells.now args.log.now args.turn.thread
    args.turn.cell args.turn.cell met.result args.turn.bit c.requires.4 refl refl (omega (arith, within)) met.ensures in
    let more = bit_met (number args.row.op) _ (length args.cells.now) args.turn.cell args.log.now _ args.turn.bit met.ensures in (
      c.lowest-other.ensures.1 (omega (arith, more, foe)),
      record { known = pre.known; small = pre.small; sized = pre.sized; inside = omega (arith, within); few = pre.cells_few },
    )

pub returns : goal.returns
returns c =
    let lowest = c.lowest-other in
    let met = c.met-met in
    let within = c.if-n-i.false in
    let args = c.args in
    let pre = c.requires.1 in
    let foe = refused_foe (number args.row.op) args.row.a args.turn.thread args.regs.now args.cells.now args.log.now args.turn.thread
    args.turn.cell args.turn.cell met.result args.turn.bit c.requires.4 refl refl (omega (arith, within)) met.ensures in
    λ common f n m x o h ed ea s M.
    race_did n args.turn.thread s args.regs.now args.cells.now args.log.now M h (number args.row.op) args.row.d args.row.a args.turn.thread
    args.turn.cell m x o pre.known pre.small c.requires.3 ed ea pre.target pre.source refl common
    (omega (arith, within)) args.turn.bit met.result _ c.requires.2 refl met.ensures (omega arith) (omega arith) _ _ _ refl foe
    lowest.ensures.0 c.race_kind-kind.ensures
