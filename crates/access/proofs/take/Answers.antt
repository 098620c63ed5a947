-- `access::take` meets its contract: a LOAD of a common cell. Assumes nothing.
use mathlib.Core.Path.{refl}
use Prim.Native.Nat.{◌+◌, ◌*◌}
use native.Mathlib.Omega.{arith}
use lib.Seq.{get_or-set_other}
use Rattle.access.proofs.Accesses.{common_is, taken_did}
use Rattle.access.proofs.take.Goals as goal

pub overflow_sub-regs : goal.overflow_sub-regs
overflow_sub-regs c = (common_is c.args.common.now c.args.turn.cell c.requires.3).0

pub bounds-common-turn : goal.bounds-common-turn
bounds-common-turn c = (common_is c.args.common.now c.args.turn.cell c.requires.3).1

pub returns : goal.returns
returns c =
    let args = c.args in
    let pre = c.requires in
    let far = common_is args.common.now args.turn.cell pre.3 in (
      λ n m x o h ed ea s M.
          taken_did n args.turn.thread s args.regs.now args.cells.now args.log.now M h 16 args.row.d args.row.a args.turn.thread args.turn.cell m x o
          pre.1.known pre.1.small pre.2 ed ea pre.1.target pre.1.source refl args.common.now _ refl
          (omega (arith, far.0, pre.1.cells_few)) pre.3 refl,
      λ i off. get_or-set_other args.regs.now (args.row.d * 32 + args.turn.thread) i _ 0 (λ e. off args.turn.thread (omega arith) e),
    )
