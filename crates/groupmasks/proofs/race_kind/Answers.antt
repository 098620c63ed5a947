-- `groupmasks::race_kind` meets its contract. By the other group's bits among writers and adders. Assumes nothing.
use mathlib.Core.Path.{◌∙◌, ap₂}
use mathlib.Core.Bool.{not}
use lib.Dec.{eqb}
use Rattle.spec.specs.Log.{shown_kind}
use Rattle.layout.specs.Logging.{mode_of, has_bit}
use Rattle.layout.specs.Ops.{number}
use Rattle.groupmasks.proofs.GroupTests.{kind_is}
use Rattle.groupmasks.proofs.race_kind.Goals as goal

pub returns : goal.returns
unfolding has_bit
returns c =
    let args = c.args in
    let bits = ap₂ (λ w d. shown_kind (not (eqb w 0)) (not (eqb d 0)) (mode_of (number args.op))) c.bit-wrote.ensures c.bit-added.ensures in
    c.shown_kind_of.ensures ∙ bits ∙ kind_is (number args.op) args.cells args.i args.other args.masks.now
