-- `globals::accesses` does the turns of the enabled threads, one after the other. Assumes nothing.
use mathlib.Core.Path.{◌≡◌, refl, ap, ◌∙◌, subst}
use Prim.Native.Nat.{ℕ, ◌-◌, ◌^◌, ◌<◌}
use native.Mathlib.Omega.{arith}
use lib.ListN.{length}
use Rattle.layout.specs.Ops.{number}
use Rattle.layout.proofs.Reach.{same_more}
use Rattle.masks.proofs.Bits.{one_bit, next_bit, left_half}
use Rattle.access.proofs.Accesses.{asks_still, keeps_on}
use Rattle.globals.proofs.GlobalRows.{turns_start, turns_whole, turns_on, turns_stop}
use Rattle.globals.proofs.accesses.Goals as goal

pub loop-thread-init : goal.loop-thread-init
loop-thread-init c =
    let args = c.args in
    let ends = c.reaching-thread-end in
    let whole : ends.result ≡ ends.result - 0 = omega arith in
    record {
      left_few = subst (λ (k : ℕ). args.mask < 2 ^ k) whole ends.ensures.0;
      cells_size = refl;
      log_size = refl;
      masks_size = refl;
      bit_is = λ h. refl;
      turns = turns_start (number args.row.op) args.n args.mask args.row.d args.row.a args.group args.regs.now args.cells.now args.log.now args.masks.now;
      regs_kept = λ i off. refl;
      log_same = λ j h. refl;
    }

pub turn-r-requires : goal.turn-r-requires
turn-r-requires c =
    let turn = c.loop-thread in
    let held = turn.invariant in
    let pre = c.requires in
    let few : turn.thread < 32 = omega (arith, c.loop-thread-test.true, c.reaching-thread-end.ensures.1, pre.0) in (
      few,
      held.bit_is few,
      record { access = asks_still _ _ _ _ _ _ _ pre.3.access held.cells_size held.log_size; sized = omega (arith, pre.3.sized, held.cells_size, held.masks_size) },
    )

pub returns-in-Err : goal.returns-in-Err
returns-in-Err c =
    let made = c.turn-r in
    let turn = c.loop-thread in
    let held = turn.invariant in
    let args = c.args in
    let own-bit = one_bit args.group (omega (arith, c.requires.2)) in
    let some_left : turn.thread < args.n = omega (arith, c.loop-thread-test.true, c.reaching-thread-end.ensures.1) in
    record {
      done = turns_stop (number args.row.op) args.n args.mask args.row.d args.row.a args.group args.regs.now args.cells.now args.log.now args.masks.now
          turn.thread turn.left turn.regs turn.cells turn.log turn.masks held.turns _ made.result _ _ _ _ made.ensures own-bit some_left
          c.in-Err.v c.in-Err.is;
      regs_kept = keeps_on args.row.d args.n turn.thread args.regs.now turn.regs made.new.regs some_left held.regs_kept made.ensures.regs_kept;
      log_same = same_more turn.reach _ (length args.cells.now) (length turn.cells) args.log.now turn.log made.new.log held.log_same
          held.cells_size made.ensures.log_same;
    }

pub loop-thread-preserved : goal.loop-thread-preserved
loop-thread-preserved c =
    let made = c.turn-r in
    let turn = c.loop-thread in
    let held = turn.invariant in
    let args = c.args in
    let own-bit = one_bit args.group (omega (arith, c.requires.2)) in
    let some_left : turn.thread < args.n = omega (arith, c.loop-thread-test.true, c.reaching-thread-end.ensures.1) in
    record {
      left_few = left_half c.reaching-thread-end.result turn.thread turn.left c.loop-thread-test.true held.left_few;
      cells_size = made.auto.cells ∙ held.cells_size;
      log_size = made.auto.log ∙ held.log_size;
      masks_size = made.auto.masks ∙ held.masks_size;
      bit_is = next_bit turn.thread turn.bit held.bit_is;
      turns = turns_on (number args.row.op) args.n args.mask args.row.d args.row.a args.group args.regs.now args.cells.now args.log.now args.masks.now
          turn.thread turn.left turn.regs turn.cells turn.log turn.masks held.turns _ made.result _ _ _ _ made.ensures own-bit some_left
          c.in_default.is;
      regs_kept = keeps_on args.row.d args.n turn.thread args.regs.now turn.regs made.new.regs some_left held.regs_kept made.ensures.regs_kept;
      log_same = same_more turn.reach _ (length args.cells.now) (length turn.cells) args.log.now turn.log made.new.log held.log_same
          held.cells_size made.ensures.log_same;
    }

pub returns : goal.returns
returns c =
    let turn = c.loop-thread in
    let held = turn.invariant in
    let args = c.args in
    let over : c.reaching-thread-end.result - turn.thread ≡ 0 = omega (arith, c.loop-thread-test.false) in
    let one : 2 ^ (c.reaching-thread-end.result - turn.thread) ≡ 1 = ap (λ (k : ℕ). 2 ^ k) over in
    record {
      done = turns_whole (number args.row.op) args.n args.mask args.row.d args.row.a args.group args.regs.now args.cells.now args.log.now args.masks.now
          turn.thread turn.left turn.regs turn.cells turn.log turn.masks held.turns (omega (arith, one, held.left_few));
      regs_kept = held.regs_kept;
      log_same = held.log_same;
    }
