-- `accesslog::writers_met` meets its contract: one law for each way out. Assumes nothing.
use mathlib.Core.Path.{sym, ap}
use Rattle.layout.specs.Ops.{number}
use Rattle.layout.proofs.Ops.{store_is}
use Rattle.layout.proofs.LogTests.{met_equal, met_marked, met_unequal, met_other}
use Rattle.accesslog.proofs.writers_met.Goals as goal

pub returns-then-log-cells-ne0 : goal.returns-then-log-cells-ne0
returns-then-log-cells-ne0 c = sym (met_marked _ _ _ _ _ (ap number c.in-Store.is) c.if-log-cells-ne0.true)

pub returns-then-v-log : goal.returns-then-v-log
returns-then-v-log c = sym (met_unequal _ _ _ _ _ (ap number c.in-Store.is) c.if-v-log.true)

pub returns-else-v-log : goal.returns-else-v-log
returns-else-v-log c = sym (met_equal _ _ _ _ _ (ap number c.in-Store.is) c.if-log-cells-ne0.false c.if-v-log.false)

pub returns-in_default : goal.returns-in_default
returns-in_default c = sym (met_other _ _ _ _ _ (λ e. c.in_default.not-Store (store_is c.args.op e)))
