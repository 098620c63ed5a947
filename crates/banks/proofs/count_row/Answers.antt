-- `banks::count_row` counts the cells of the enabled threads, one after the other. Assumes nothing.
use Prim.Native.Nat.{◌<◌}
use native.Mathlib.Omega.{arith}
use native.Mathlib.Nat.{lt_of_lt_of_le}
use lib.Pow.{pow_mono}
use Rattle.std.proofs.lemmas.Nat.{leading_length}
use Rattle.banks.proofs.Costing.{tracking_fit, going_start, going_in, going_far, going_out, going_small, going_whole}
use Rattle.banks.proofs.count_row.Goals as goal
use Rattle.banks.proofs.count_row.Goals.{then-mask-t-eq1+then-i-lt1024, then-mask-t-eq1+else-i-lt1024, else-mask-t-eq1}

pub loop-t-init : goal.loop-t-init
loop-t-init c = going_start _ _ _ _ c.requires.1

pub count-most-requires : goal.count-most-requires
count-most-requires c = (omega (arith, c.if-i-lt1024.true), tracking_fit _ _ _ _ _ c.loop-t.invariant.tracking (omega arith))

pub loop-t-preserved : goal.loop-t-preserved
loop-t-preserved c =
    let turn = c.loop-t.invariant in
    let some : c.loop-t.t < 32 = omega arith in
    elim c.if-mask-t-eq1.branch [
      | then-mask-t-eq1+then-i-lt1024 w ↦
          rw (w.stamps-is, w.counts-is, w.most-is, w.far-is)
          (going_in _ _ _ _ _ _ _ _ turn some w.if-mask-t-eq1.true _ _ _ (omega (arith, w.if-i-lt1024.true)) w.count-most.ensures)
      | then-mask-t-eq1+else-i-lt1024 w ↦
          rw (w.stamps-is, w.counts-is, w.most-is, w.far-is)
          (going_far _ _ _ _ _ _ _ _ turn some w.if-mask-t-eq1.true (omega (arith, w.if-i-lt1024.false)))
      | else-mask-t-eq1 w ↦ rw (w.stamps-is, w.counts-is, w.most-is, w.far-is) (going_out _ _ _ _ _ _ _ _ turn some w.if-mask-t-eq1.false)
    ]

pub overflow_add-result : goal.overflow_add-result
overflow_add-result c = omega (arith, going_small _ _ _ _ _ _ _ _ c.loop-t.invariant, c.saturating_sub.ensures)

pub returns : goal.returns
returns c =
    let top = leading_length 32 c.args.mask (omega arith) in
    let none_left = lt_of_lt_of_le top.2 (pow_mono {i = top.0} {j = c.loop-t.t} (omega (arith, top.1, c.loop-t-test.false))) in
    going_whole _ _ _ _ _ _ _ _ c.loop-t.invariant none_left _ (omega (arith, c.saturating_sub.ensures))
