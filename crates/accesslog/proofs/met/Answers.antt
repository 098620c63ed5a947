-- `accesslog::met` meets its contract. Assumes nothing.
use Rattle.layout.specs.Ops.{number}
use Rattle.layout.proofs.LogTests.{met_alone, met_beside}
use Rattle.accesslog.proofs.met.Goals as goal

pub returns-then-log-cells : goal.returns-then-log-cells
returns-then-log-cells c =
    let args = c.args in
    let others = c.beside-others in
    met_alone (number args.op) args.v args.cells args.i args.log.now args.bit others.result others.ensures c.if-log-cells.true

pub returns : goal.returns
returns c =
    let args = c.args in
    let others = c.beside-others in
    met_beside (number args.op) args.v args.cells args.i args.log.now args.bit c.writers_met.result others.result c.writers_met.ensures
    others.ensures
