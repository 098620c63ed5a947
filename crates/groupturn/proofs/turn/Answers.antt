-- `groupturn::turn` meets its contract. Assumes nothing.
use mathlib.Core.Path.{◌≡◌, sym, ap, ◌∙◌, subst, subst₂}
use Prim.Native.Nat.{◌+◌, ◌-◌, ◌*◌}
use native.Mathlib.Omega.{arith}
use lib.ListN.{length, take}
use borrow.Rule.Slice.PartMut.{mid_of}
use Rattle.layout.specs.Views.{part, put_part}
use Rattle.layout.proofs.Parts.{part_size, part_put}
use Rattle.grouprow.specs.Rows.{BufferSizes}
use Rattle.grouprun.specs.Groups.{SomeStart, GroupRan}
use Rattle.placing.specs.Kinds.{kinds_placed}
use Rattle.groupturn.proofs.Lent.{lent_part, given_back}
use Rattle.groupturn.proofs.turn.Goals as goal
use Rattle.groupturn.proofs.turn.Goals.{After-first_thread-by, Start}

place_is : (c : After-first_thread-by) → c.first_cell-at.result ≡ c.args.started.group * c.args.kernel.now.each
place_is c = c.first_cell-at.ensures

by_is : (c : After-first_thread-by) → c.first_thread-by.result ≡ c.args.started.group * c.args.kernel.now.threads
by_is c = c.first_thread-by.ensures

own_count : (c : Start) → length (part (c.args.started.group * c.args.kernel.now.each) c.args.kernel.now.each c.args.cells.now) ≡ c.args.kernel.now.each
own_count c = part_size (c.args.started.group * c.args.kernel.now.each) c.args.kernel.now.each c.args.cells.now c.requires.cells_in

-- The part of the cells that is lent to the group's run.
lent : (c : After-first_thread-by) → let at = c.first_cell-at.result in let args = c.args in
    mid_of at (at + args.kernel.now.each - at) args.cells.now ≡ part (args.started.group * args.kernel.now.each) args.kernel.now.each args.cells.now
lent c =
    let args = c.args in
    lent_part c.first_cell-at.result args.kernel.now.each args.cells.now ∙ ap (λ p. part p args.kernel.now.each args.cells.now) (place_is c)

pub run_group-ended-requires : goal.run_group-ended-requires
run_group-ended-requires c =
    let args = c.args in
    let P = c.requires in
    let same = sym (lent (goal.at.run_group-ended-requires c).After-first_thread-by) in
    let count = own_count (goal.at.run_group-ended-requires c).Start in (
      P.runnable,
      P.some_threads,
      P.few_threads_lem,
      P.few_groups_lem,
      P.few_rows_lem,
      P.rows_most,
      P.barriers_few,
      subst (λ own. BufferSizes own args.own.now args.global.now args.shared.now args.masks.now) same
          (record {
            log_sized_lem = P.own_sized ∙ ap (λ j. 5 * j) (sym count);
            cells_few = omega (arith, count, P.cells_in, P.cells_few, P.total_few);
            shared_sized = P.shared_sized;
            masks_sized = P.masks_sized;
            global_few = omega (arith, P.cells_few, P.total_few);
          }),
      P.common_few,
      P.lent,
      P.older,
      P.remembered,
      subst (λ own. SomeStart args.kernel.now.table.now args.kernel.now.threads args.started.group args.kernel.now.limit args.started.rows args.started.barriers args.kernel.now.common.now
          own args.global.now args.masks.now
          args.records.now) same P.start,
    )

pub returns : goal.returns
returns c =
    let steps = c.copy_counts in
    let placed = c.place_kinds in
    let run = c.run_group-ended in
    let args = c.args in
    let at = args.started.group * args.kernel.now.each in
    let ys = run.new.cells in
    let count : length ys ≡ args.kernel.now.each = run.auto.cells ∙ ap length (lent (goal.at.returns c).After-first_thread-by) ∙ own_count (goal.at.returns c).Start in
    let back = given_back c.first_cell-at.result args.kernel.now.each args.cells.now ys count ∙ ap (λ p. put_part p ys args.cells.now) (place_is (goal.at.returns c).After-first_thread-by) in
    let found = ap (part at args.kernel.now.each) back ∙ part_put at args.kernel.now.each ys args.cells.now (omega (arith, c.requires.cells_in)) count in
    record {
      ran = subst₂ (λ before after. GroupRan args.kernel.now.table.now args.kernel.now.threads args.started.group args.kernel.now.limit args.started.rows args.started.barriers
          args.kernel.now.common.now before args.global.now
          args.masks.now args.records.now run.result after c.run_group-ended.new.log c.run_group-ended.new.global c.run_group-ended.new.shared c.run_group-ended.new.masks
          c.run_group-ended.new.records c.run_group-ended.new.counts
          c.run_group-ended.new.costs.stamps c.run_group-ended.new.costs.memo) (lent (goal.at.returns c).After-first_thread-by) (sym found) run.ensures;
      cells_are = back ∙ ap (λ own. put_part at own args.cells.now) (sym found);
      log_is = placed.ensures ∙ ap (λ p. kinds_placed 0 args.total p args.kernel.now.each 5 c.run_group-ended.new.log args.log.now) (place_is (goal.at.returns c).After-first_thread-by);
      steps_are = steps.ensures ∙ ap (λ p. put_part p (take args.kernel.now.threads c.run_group-ended.new.counts) args.steps.now) (by_is (goal.at.returns c).After-first_thread-by);
    }
