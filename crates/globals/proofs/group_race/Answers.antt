-- `globals::group_race` meets its contract. Assumes nothing.
use mathlib.Core.Path.{ap, ◌∙◌}
use Prim.Native.Nat.{ℕ}
use Rattle.spec.specs.declared.Verdict.TheVariants.{GroupRace}
use Rattle.layout.specs.Shared.{group_kind_word}
use Rattle.layout.specs.Ops.{number}
use Rattle.globals.proofs.group_race.Goals as goal

pub race_kind-kind-requires : goal.race_kind-kind-requires
race_kind-kind-requires c =
    let args = c.args in
    (c.lowest-other.ensures.1 c.requires.0, c.requires.1)

pub returns : goal.returns
returns c =
    let args = c.args in
    let other = c.lowest-other in
    ap (λ k. GroupRace args.turn.thread other.result k args.turn.cell)
    c.race_kind-kind.ensures
    ∙ ap (λ (u : ℕ). GroupRace args.turn.thread u (group_kind_word (number args.op) args.cells args.turn.cell u args.masks.now) args.turn.cell) other.ensures.0
