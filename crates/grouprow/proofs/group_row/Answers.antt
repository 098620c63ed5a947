-- `grouprow::group_row` meets its contract. Assumes nothing.
use native.Mathlib.Omega.{arith}
use Rattle.grouprow.proofs.Arms.{few, mask_below, compute_asked, own_access, launch_target, global_access, construct_tests}
use Rattle.grouprow.proofs.Arms.{compute_is, access_is, launch_is, global_is, construct_is, barrier_is}
use Rattle.grouprow.proofs.group_row.Goals as goal

pub compute_row-requires : goal.compute_row-requires
compute_row-requires c =
    let x = c.row_operands-x in
    let P = c.requires in
    let few_threads_lem = few _ _ _ _ _ _ _ _ _ _ _ _ _ P.0 x.result x.ensures in
    let asked = compute_asked _ _ _ _ _ _ _ _ _ _ _ _ _ P.0 x.result x.ensures c.if-op-lt16.true in
    (P.0.room, few_threads_lem, x.ensures.a_byte, x.ensures.b_byte, asked, P.0.stands.own.memory.regs_are.size)

pub returns-then-op-lt16 : goal.returns-then-op-lt16
returns-then-op-lt16 c =
    let x = c.row_operands-x in
    let A = c.args in
    let P = c.requires in
    let o = c.compute_row in
    compute_is _ _ _ _ _ _ _ _ _ _ _ _ _ P.0 x.result x.ensures A.kernel.now.common.now A.counts.now A.costs.now.stamps A.costs.now.memo A.records.now P.1 P.2 P.3
    c.if-op-lt16.true o.result o.new.regs o.ensures

pub construct_row-requires : goal.construct_row-requires
construct_row-requires c =
    let x = c.row_operands-x in
    let P = c.requires in
    let low = c.if-op-gt31.true in
    let high = c.if-op-lt37.true in
    let tests = construct_tests _ _ _ _ _ _ _ _ _ _ _ _ _ P.0 x.result x.ensures (omega (arith, low)) in
    (P.0.room, omega (arith, low), omega (arith, high), tests, P.0.depths, P.1)

pub returns-then-op-lt37 : goal.returns-then-op-lt37
returns-then-op-lt37 c =
    let x = c.row_operands-x in
    let A = c.args in
    let P = c.requires in
    let o = c.construct_row in
    construct_is _ _ _ _ _ _ _ _ _ _ _ _ _ P.0 x.result x.ensures A.kernel.now.common.now A.counts.now A.costs.now.stamps A.costs.now.memo A.records.now P.1 P.2 P.3
    (omega (arith, c.if-op-gt31.true)) (omega (arith, c.if-op-lt37.true)) o.result c.construct_row.new.opened.masks c.construct_row.new.opened.rows c.construct_row.new.counts o.ensures

pub returns-then-op-gt31 : goal.returns-then-op-gt31
returns-then-op-gt31 c =
    let x = c.row_operands-x in
    let A = c.args in
    let P = c.requires in
    let o = c.barrier_row in
    barrier_is _ _ _ _ _ _ _ _ _ _ _ _ _ P.0 x.result x.ensures A.kernel.now.common.now A.counts.now A.costs.now.stamps A.costs.now.memo A.records.now P.1 P.2 P.3
    c.if-op-lt37.false o.result c.barrier_row.new.log c.barrier_row.new.records c.barrier_row.new.shared o.ensures

pub access_row-requires : goal.access_row-requires
access_row-requires c =
    let x = c.row_operands-x in
    let P = c.requires in
    let below = mask_below _ _ _ _ _ _ _ _ _ _ _ _ _ P.0 x.result x.ensures in
    let asks = own_access _ _ _ _ _ _ _ _ _ _ _ _ _ P.0 x.result x.ensures c.if-op-lt16.false c.if-op-lt19.true in
    (P.0.room, P.0.group_few, below, asks.0, asks.1, P.2, P.3, P.4)

pub returns-then-op-lt19 : goal.returns-then-op-lt19
returns-then-op-lt19 c =
    let x = c.row_operands-x in
    let A = c.args in
    let P = c.requires in
    let o = c.access_row in
    access_is _ _ _ _ _ _ _ _ _ _ _ _ _ P.0 x.result x.ensures A.kernel.now.common.now A.counts.now A.costs.now.stamps A.costs.now.memo A.records.now P.1
    c.if-op-lt16.false c.if-op-lt19.true o.result
    c.access_row.new.regs c.access_row.new.cells c.access_row.new.log c.access_row.new.records c.access_row.new.costs.stamps c.access_row.new.costs.memo o.ensures

pub launch_row-requires : goal.launch_row-requires
launch_row-requires c =
    let x = c.row_operands-x in
    let P = c.requires in
    let few_threads_lem = few _ _ _ _ _ _ _ _ _ _ _ _ _ P.0 x.result x.ensures in
    let target = launch_target _ _ _ _ _ _ _ _ _ _ _ _ _ P.0 x.result x.ensures c.if-op-eq19.true in
    (P.0.room, few_threads_lem, P.0.group_few, target, P.0.stands.own.memory.regs_are.size)

pub returns-then-op-eq19 : goal.returns-then-op-eq19
returns-then-op-eq19 c =
    let x = c.row_operands-x in
    let A = c.args in
    let P = c.requires in
    let o = c.launch_row in
    launch_is _ _ _ _ _ _ _ _ _ _ _ _ _ P.0 x.result x.ensures A.kernel.now.common.now A.counts.now A.costs.now.stamps A.costs.now.memo A.records.now P.1 P.2 P.3
    c.if-op-eq19.true o.result o.new.regs o.ensures

pub global_row-requires : goal.global_row-requires
global_row-requires c =
    let x = c.row_operands-x in
    let P = c.requires in
    let low = c.if-op-lt19.false in
    let few_threads_lem = few _ _ _ _ _ _ _ _ _ _ _ _ _ P.0 x.result x.ensures in
    let below = mask_below _ _ _ _ _ _ _ _ _ _ _ _ _ P.0 x.result x.ensures in
    let asks = global_access _ _ _ _ _ _ _ _ _ _ _ _ _ P.0 x.result x.ensures low (omega (arith, c.if-op-gt31.false)) c.if-op-eq19.false in
    (P.0.room, few_threads_lem, below, P.0.group_few, omega (arith, low), asks)

pub returns : goal.returns
returns c =
    let x = c.row_operands-x in
    let A = c.args in
    let P = c.requires in
    let o = c.global_row in
    global_is _ _ _ _ _ _ _ _ _ _ _ _ _ P.0 x.result x.ensures A.kernel.now.common.now A.counts.now A.costs.now.stamps A.costs.now.memo A.records.now P.1 P.2 P.3
    c.if-op-lt19.false (omega (arith, c.if-op-gt31.false)) c.if-op-eq19.false o.result
    c.global_row.new.regs c.global_row.new.global c.global_row.new.shared c.global_row.new.masks o.ensures
