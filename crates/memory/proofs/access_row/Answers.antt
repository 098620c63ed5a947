-- `memory::access_row` meets its contract: the loops' accesses, and the verdict of the one at which they halt. Assumes nothing.
use mathlib.Core.Path.{sym, ◌∙◌, subst}
use lib.ListN.{length}
use Rattle.layout.specs.Logging.{SameAbove}
use Rattle.access.proofs.Accesses.{asks_still, common_stops}
use Rattle.memory.proofs.access_row.Goals as goal

pub returns-then-is_common : goal.returns-then-is_common
returns-then-is_common c =
    let row = c.enabled_row-halt in
    let made = row.ensures in
    let halted = made.1 c.if-turn-n.false in (
      halted.stops _
          (common_stops _ _ _ _ _ _ _ _ _ (asks_still _ _ _ _ _ _ _ c.requires.1.0 made.2 made.3) halted.number
          (sym c.is_common.ensures ∙ c.if-is_common.true) halted.untaken),
      made.4,
      subst (λ h. SameAbove h (length c.args.cells.now) c.args.log.now row.new.log) (sym c.own_reach-reach.ensures) made.5,
    )

pub returns : goal.returns
returns c =
    let row = c.enabled_row-halt in
    let made = row.ensures in
    let args = c.args in
    let halted = made.1 c.if-turn-n.false in
    let verdict = c.verdict in (
      halted.stops verdict.result (verdict.ensures _ (sym c.is_common.ensures ∙ c.if-is_common.false)),
      made.4,
      subst (λ h. SameAbove h (length args.cells.now) args.log.now row.new.log) (sym c.own_reach-reach.ensures) made.5,
    )
