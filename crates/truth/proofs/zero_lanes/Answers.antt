-- `truth::zero_lanes` meets its contract. The invariant: the lanes passed are told apart. Assumes nothing.
use mathlib.Core.Path.{◌≡◌}
use native.Mathlib.Omega.{arith}
use Rattle.truth.proofs.Zeros.{none_yet, lane_left, lane_zero}
use Rattle.truth.proofs.zero_lanes.Goals as goal
use Rattle.truth.proofs.zero_lanes.Goals.{then-regs-a-eq0, else-regs-a-eq0}

pub loop-t-init : goal.loop-t-init
loop-t-init c = none_yet c.args.a c.args.regs.now

pub loop-t-preserved : goal.loop-t-preserved
loop-t-preserved c =
    let turn = c.loop-t in
    let regs = c.args.regs.now in
    elim c.if-regs-a-eq0.branch [
      | then-regs-a-eq0 w ↦ lane_zero c.args.a regs turn.t turn.z turn.invariant c.if-regs-a-eq0.z c.loop-t-test.true w.if-regs-a-eq0.true w.z-is
      | else-regs-a-eq0 w ↦ lane_left c.args.a regs turn.t turn.z turn.invariant c.if-regs-a-eq0.z w.if-regs-a-eq0.false w.z-is
    ]

pub returns : goal.returns
returns c = let e : c.loop-t.t ≡ 32 = omega arith in rw e at c.loop-t.invariant
