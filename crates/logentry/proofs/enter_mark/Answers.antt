-- `logentry::enter_mark` meets its contract: one law for each way out. Assumes nothing.
use Rattle.layout.proofs.LogTests.{mark_same, mark_other}
use Rattle.logentry.proofs.enter_mark.Goals as goal

pub returns-then-v-log : goal.returns-then-v-log
returns-then-v-log c = mark_same _ _ _ _ c.if-v-log.true

pub returns : goal.returns
returns c = mark_other _ _ _ _ c.if-v-log.false
