-- `sekufoyi::sekufoyi_bare_launch` meets its contract. What is told is the entry's answer. Assumes nothing.
use Rattle.spec.specs.Shape.{sizes}
use Rattle.sekufoyi.proofs.Telling.{run_runs}
use Rattle.sekufoyi.proofs.sekufoyi_bare_launch.Goals as goal

pub returns-in-Ok-clause-runs : goal.returns-in-Ok-clause-runs
returns-in-Ok-clause-runs c =
    run_runs c.args.table.now (sizes c.args.threads c.args.count c.args.groups c.args.shared) c.args.limit c.args.cells.now c.args.global.now
    _ _ _ _ _ _ c.in-Ok.is c.outcome_words.ensures c.bare_launch.ensures.runs
