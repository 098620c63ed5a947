-- The lanes passed hold what the closure gives. Assumes nothing.
use mathlib.Core.Path.{◌≡◌, subst}
use native.Mathlib.Omega.{arith}
use Rattle.compute.proofs.Putting.{stores_old, stores_more}
use Rattle.compute.proofs.store.Goals as goal

pub loop-t-preserved : goal.loop-t-preserved
loop-t-preserved g c =
    let turn = c.loop-t.invariant in
    stores_more turn c.of.result c.requires.0 c.told-regs c.loop-t-test.true
    (subst (λ x. goal.F-post g c.args.of c.loop-t.t x c.of.result) (stores_old turn) c.of.ensures)

pub returns : goal.returns
returns g c = let e : c.loop-t.t ≡ 32 = omega arith in rw e at c.loop-t.invariant
