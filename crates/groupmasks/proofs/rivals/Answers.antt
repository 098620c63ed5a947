-- `groupmasks::rivals` meets its contract. By the op. Assumes nothing.
use mathlib.Core.Path.{sym, ap, ◌∙◌}
use Prim.Native.Nat.{ℕ, ◌-◌}
use lib.Bits.{bit_and}
use Rattle.layout.specs.Ops.{number}
use Rattle.groupmasks.proofs.GroupTests.{rivals_load, rivals_store, rivals_add}
use Rattle.groupmasks.proofs.rivals.Goals as goal
use Rattle.groupmasks.proofs.rivals.Goals.{in-Load, in-Store, in-Add}

pub returns : goal.returns
returns c =
    let beside = λ (w : ℕ). bit_and w (4294967295 - c.args.bit) in
    c.minus.ensures ∙ elim c.match-op.branch [
      | in-Load w ↦ ap beside w.met-is ∙ sym (rivals_load _ _ _ _ _ (ap number w.in-Load.is))
      | in-Store w ↦ ap beside w.met-is ∙ sym (rivals_store _ _ _ _ _ (ap number w.in-Store.is))
      | in-Add w ↦ ap beside w.met-is ∙ sym (rivals_add _ _ _ _ _ (ap number w.in-Add.is))
    ]
