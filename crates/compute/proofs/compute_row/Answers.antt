-- `compute::compute_row` leaves the row's values in the lanes that it stores to. Assumes nothing.
use Rattle.compute.proofs.Stored.{all_stored, some_stored}
use Rattle.compute.proofs.compute_row.Goals as goal

pub returns-then-mask-all : goal.returns-then-mask-all
returns-then-mask-all c =
    let all-enabled = c.if-mask-all.true in
    let all = c.all-all in
    let value-lanes = c.value_lanes-v in
    λ k o group. all_stored (value-lanes.ensures.of k o group) all-enabled all.ensures c.put_all.ensures

pub returns : goal.returns
returns c =
    let some-away = c.if-mask-all.false in
    let all = c.all-all in
    let value-lanes = c.value_lanes-v in
    λ k o group. some_stored (value-lanes.ensures.of k o group) c.bits_of.result some-away all.ensures c.bits_of.ensures c.put.ensures
