-- The lanes hold what the closure gives. Assumes nothing.
use mathlib.Core.Path.{subst₂}
use lib.ListN.{get_or}
use Rattle.compute.proofs.of_registers.Goals as goal

pub returns : goal.returns
returns g c =
    let of = c.zipped in (
      of.ensures.0,
      λ t h.
          subst₂ (λ x y. goal.F-post g c.args.of x y (get_or of.result t 0)) (c.lanes_of.ensures.1 t h) (c.lanes_of-2.ensures.1 t h) (of.ensures.1 t h),
    )
