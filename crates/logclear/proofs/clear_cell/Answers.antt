-- `logclear::clear_cell` meets its contract: one `turn_put` for each word of a cell. Assumes nothing.
use native.Mathlib.Omega.{arith}
use Rattle.spec.proofs.ClearingLaws.{turn_start, turn_put, turn_end}
use Rattle.logclear.proofs.clear_cell.Goals as goal

pub returns : goal.returns
returns c =
    let args = c.args in
    let put = turn_put args.cells args.i args.log.now in
    turn_end args.cells args.i args.log.now 5 _ (omega arith)
    (put 4 _ _ c.requires.1 (omega arith) (put 3 _ _ c.requires.1 (omega arith)
    (put 2 _ _ c.requires.1 (omega arith) (put 1 _ _ c.requires.1 (omega arith) (put 0 _ _ c.requires.1 (omega arith)
    (turn_start args.cells args.i args.log.now))))))
