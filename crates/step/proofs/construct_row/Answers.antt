-- `step::construct_row` meets its contract. Assumes nothing.
use mathlib.Core.Path.{sym, subst}
use native.Mathlib.Omega.{arith}
use Rattle.layout.specs.Counting.{Roomy}
use Rattle.stepcounts.proofs.NextCounts.{done_since}
use Rattle.step.proofs.construct_row.Goals as goal

-- The row's own step is not counted yet.
pub settle-requires : goal.settle-requires
settle-requires c =
    let since = done_since c.construct_row-z.ensures in
    (omega (arith, since), subst (λ k. Roomy c.args.s.mask k c.args.counts.now) (sym since) c.requires.5)
