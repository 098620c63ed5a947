-- `access::cell_register` meets its contract. Assumes nothing.
use mathlib.Core.Path.{refl}
use Rattle.access.proofs.cell_register.Goals as goal

pub returns-then-op-eq16 : goal.returns-then-op-eq16
returns-then-op-eq16 c = record { small = c.requires.1; of_load = λ e. refl; of_other = λ n. absurd (n c.if-op-eq16.true) }

pub returns-else-op-eq16 : goal.returns-else-op-eq16
returns-else-op-eq16 c = record { small = c.requires.0; of_load = λ e. absurd (c.if-op-eq16.false e); of_other = λ n. refl }
