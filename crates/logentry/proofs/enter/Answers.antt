-- `logentry::enter` meets its contract. Assumes nothing.
use native.Mathlib.Omega.{arith}
use Rattle.layout.specs.Ops.{number}
use Rattle.layout.proofs.Ops.{store_is}
use Rattle.layout.proofs.LogTests.{place_inside, entered_by}
use Rattle.logentry.proofs.enter.Goals as goal

pub offset_bounds-log-p : goal.offset_bounds-log-p
offset_bounds-log-p c =
    let args = c.args in
    let inside = place_inside (number args.op) args.cells args.i args.log.now _ c.requires.0 c.place-p.ensures in
    omega arith

pub bounds-log-p : goal.bounds-log-p
bounds-log-p c =
    let args = c.args in
    let inside = place_inside (number args.op) args.cells args.i args.log.now _ c.requires.0 c.place-p.ensures in
    omega arith

pub offset_bounds-log-p-2 : goal.offset_bounds-log-p-2
offset_bounds-log-p-2 c =
    let args = c.args in
    let inside = place_inside (number args.op) args.cells args.i args.log.now _ c.requires.0 c.place-p.ensures in
    omega arith

pub bounds-log-p-2 : goal.bounds-log-p-2
bounds-log-p-2 c =
    let args = c.args in
    let inside = place_inside (number args.op) args.cells args.i args.log.now _ c.requires.0 c.place-p.ensures in
    omega arith

pub returns : goal.returns
returns c =
    let args = c.args in
    entered_by (number args.op) args.v args.cells args.i args.log.now args.bit c.place-p.result (λ e. c.in_default.not-Store (store_is args.op e))
    c.place-p.ensures
