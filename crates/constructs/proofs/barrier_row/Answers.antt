-- `constructs::barrier_row` meets its contract. Assumes nothing.
use native.Mathlib.Omega.{arith}
use Rattle.constructs.proofs.Words.{barrier_all, barrier_none, barrier_some}
use Rattle.constructs.proofs.barrier_row.Goals as goal

pub returns-then-mask-all : goal.returns-then-mask-all
returns-then-mask-all c = barrier_all _ _ _ _ (omega arith) c.clear_cells.ensures

pub returns-then-mask-eq0 : goal.returns-then-mask-eq0
returns-then-mask-eq0 c = barrier_none _ _ _ _ (λ e. omega arith) (omega arith) c.moved.ensures

pub returns : goal.returns
returns c =
    let lowest = c.lowest in
    let all = c.all-all in
    barrier_some _ _ _ _ _ _ _ _ (λ e. omega arith) (λ e. omega arith) all.ensures lowest.ensures.0 c.minus.ensures c.lowest-2.ensures.0
