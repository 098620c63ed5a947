-- `groupmasks::enter` meets its contract. Assumes nothing.
use native.Mathlib.Omega.{arith}
use Rattle.layout.specs.Ops.{number}
use Rattle.groupmasks.proofs.GroupTests.{place_inside, entered_by}
use Rattle.groupmasks.proofs.enter.Goals as goal

pub offset_bounds-masks-p : goal.offset_bounds-masks-p
offset_bounds-masks-p c =
    let inside = place_inside (number c.args.op) c.args.cells c.args.i c.args.masks.now _ c.requires c.place-p.ensures in
    omega arith

pub bounds-masks-p : goal.bounds-masks-p
bounds-masks-p c =
    let inside = place_inside (number c.args.op) c.args.cells c.args.i c.args.masks.now _ c.requires c.place-p.ensures in
    omega arith

pub offset_bounds-masks-p-2 : goal.offset_bounds-masks-p-2
offset_bounds-masks-p-2 c =
    let inside = place_inside (number c.args.op) c.args.cells c.args.i c.args.masks.now _ c.requires c.place-p.ensures in
    omega arith

pub bounds-masks-p-2 : goal.bounds-masks-p-2
bounds-masks-p-2 c =
    let inside = place_inside (number c.args.op) c.args.cells c.args.i c.args.masks.now _ c.requires c.place-p.ensures in
    omega arith

pub returns : goal.returns
returns c =
    let args = c.args in
    entered_by (number args.op) args.cells args.i args.bit args.masks.now c.place-p.result c.place-p.ensures
