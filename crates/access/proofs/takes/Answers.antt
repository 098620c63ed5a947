-- `access::takes` meets its contract. Assumes nothing.
use mathlib.Core.Path.{◌∙◌, ap}
use Rattle.layout.specs.Ops.{number}
use Rattle.layout.proofs.Ops.{load_is}
use Rattle.access.proofs.Accesses.{takes_load, takes_other}
use Rattle.access.proofs.takes.Goals as goal

pub returns-in-Load : goal.returns-in-Load
returns-in-Load c = c.is_common.ensures ∙ takes_load _ _ _ (ap number c.in-Load.is)

pub returns-in_default : goal.returns-in_default
returns-in_default c = takes_other _ _ _ (λ e. c.in_default.not-Load (load_is c.args.op e))
