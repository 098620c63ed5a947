-- `launchrun::run_groups` meets its contract. Assumes nothing.
use mathlib.Core.List.{◌++◌}
use Prim.Native.Nat.{◌-◌}
use Rattle.launchrun.specs.Launches.{sizes_by}
use Rattle.launchrun.proofs.Buffers.{Buffers, Kept}
use Rattle.launchrun.proofs.Launching.{Launched}
use Rattle.launchrun.proofs.run_groups.Given as goal

abbrev pub invariant-loop-log : goal.invariant-loop-log
invariant-loop-log l = let W₀ : Buffers = record {
  cells = l.initial.cells;
  global = l.initial.global;
  log = l.initial.log;
  own = l.initial.own;
  shared = l.initial.shared;
  masks = l.initial.masks;
  records = l.initial.records;
  counts = l.initial.counts;
  steps = l.initial.steps;
  stamps = l.initial.costs.stamps;
  memo = l.initial.costs.memo;
} in
    let W : Buffers = record {
      cells = l.cells;
      global = l.global;
      log = l.log;
      own = l.own;
      shared = l.shared;
      masks = l.masks;
      records = l.records;
      counts = l.counts;
      steps = l.steps;
      stamps = l.costs.stamps;
      memo = l.costs.memo;
    } in
    Kept W₀ W × Launched l.kernel.table.now (sizes_by l.kernel.threads l.kernel.groups l.kernel.each l.kernel.common.now l.initial.global) l.kernel.limit
    (l.initial.cells ++ l.initial.global) l.initial.records (l.kernel.groups - 1 - l.started.group) l.started.group l.started.rows l.started.barriers W

abbrev pub decreases-loop-log : goal.decreases-loop-log
decreases-loop-log l = l.kernel.groups - l.started.group
