-- `compute::launch_row` leaves the launch numbers in the lanes that it stores to. Assumes nothing.
use Rattle.compute.proofs.Stored.{all_numbered, some_numbered}
use Rattle.compute.proofs.launch_row.Goals as goal
use Rattle.compute.proofs.launch_row.Goals.{then-mask-full, else-mask-full}

pub returns : goal.returns
returns c =
    let args = c.args in
    let if1 = c.if-mask-full in
    let all = c.all-full in
    elim if1.branch [
      | then-mask-full w ↦ all_numbered args.group args.n args.mask args.d if1.on args.regs.now all.ensures c.put_numbers.ensures w.if-mask-full.true w.on-is
      | else-mask-full w ↦ some_numbered args.group args.n args.mask args.d if1.on args.regs.now all.ensures c.put_numbers.ensures w.if-mask-full.false w.on-is
    ]
