-- `grouprun::run_group` meets its contract. Assumes nothing.
use mathlib.Core.Path.{◌≡◌}
use Prim.Native.Nat.{◌-◌}
use lib.ListN.{length}
use Rattle.grouprun.proofs.Going.{GoesOn}
use Rattle.grouprun.proofs.run_group.Given as goal

abbrev pub invariant-loop-s : goal.invariant-loop-s
invariant-loop-s l =
    (length l.cells ≡ length l.initial.cells) × (length l.log ≡ length l.initial.log) × (length l.global ≡ length l.initial.global)
    × (length l.shared ≡ length l.initial.shared)
    × (length l.masks ≡ length l.initial.masks) × (length l.records ≡ length l.initial.records)
    × GoesOn l.kernel.table.now l.kernel.threads l.started.group l.kernel.limit l.started.rows l.started.barriers l.kernel.common.now
    l.initial.cells l.initial.global l.initial.masks l.initial.records
    l.s l.regs l.cells l.log l.opened.masks l.opened.rows l.global l.shared l.masks l.counts l.costs.stamps l.costs.memo l.records

abbrev pub decreases-loop-s : goal.decreases-loop-s
decreases-loop-s l = l.kernel.limit - l.s.rows
