-- `logclear::clear_cells` meets its contract: more turns than there are cells clear no more. Assumes nothing.
use mathlib.Core.Path.{ap, ◌∙◌}
use mathlib.Core.Logic.{⊎_elim}
use Prim.Native.Nat.{ℕ}
use native.Mathlib.Omega.{arith}
use Rattle.spec.specs.Log.{cells_cleared}
use Rattle.spec.proofs.Laws.{lt_or_le}
use Rattle.spec.proofs.ClearingLaws.{cells_enough}
use Rattle.logclear.proofs.clear_cells.Goals as goal

pub returns : goal.returns
returns c =
    let args = c.args in
    c.loop-i.invariant
    ∙ ⊎_elim (λ few. ap (λ (k : ℕ). cells_cleared args.cells k args.log.now) (omega arith))
    (λ many. cells_enough args.cells args.log.now c.loop-i.i args.n (λ h. omega arith) (omega arith) many)
    (lt_or_le args.n args.cells)
