-- `step::barrier_row` meets its contract. Assumes nothing.
use mathlib.Core.Path.{refl, sym, ◌∙◌}
use native.Mathlib.Omega.{arith}
use Rattle.intervals.specs.Records.{records_after}
use Rattle.step.proofs.Recorded.{barrier_goes}
use Rattle.step.proofs.barrier_row.Goals as goal

pub next_interval-requires : goal.next_interval-requires
next_interval-requires c =
    let row = barrier_goes c.args.n c.args.s c.in-Ok.z (sym c.barrier_row-next.ensures.0 ∙ c.in-Ok.is) in
    (c.requires.0, c.requires.3, c.requires.5, omega (arith, row.1), omega (arith, row.0, c.requires.0.row_few), c.requires.6)

pub returns-in-Ok : goal.returns-in-Ok
returns-in-Ok c =
    let row = c.barrier_row-next in
    let interval = c.next_interval in
    (sym c.in-Ok.is ∙ row.ensures.0, row.ensures.1, interval.ensures.0, interval.ensures.1)

pub returns-in-Err : goal.returns-in-Err
unfolding records_after
returns-in-Err c =
    let row = c.barrier_row-next in
    (row.ensures.0, row.ensures.1, rw c.in-Err.is refl, rw c.in-Err.is refl)
