-- `launchrun::run_launch` meets its contract. Assumes nothing.
use mathlib.Core.Path.{refl, sym, ap, ◌∙◌}
use mathlib.Core.List.{◌++◌}
use Prim.Native.Nat.{ℕ, ◌*◌, ◌≤◌}
use native.Mathlib.Omega.{arith}
use lib.ListN.{length, replicate, length-replicate, get_or-replicate}
use Rattle.banks.proofs.Memory.{memo_start}
use Rattle.intervals.proofs.Ledger.{begun_once}
use Rattle.launchrun.specs.Launches.{sizes_by}
use Rattle.launchrun.proofs.LaunchStart.{zeros_long, zeros_front, own_few, lent_is}
use Rattle.launchrun.proofs.Results.{run_is}
use Rattle.launchrun.proofs.run_launch.Goals as goal
use Rattle.launchrun.proofs.run_launch.Goals.{Start}

-- A group's own cells are not too many, nor are the global ones.
few : (c : Start) → c.args.kernel.now.each ≤ 1024
few c = own_few c.args.kernel.now.groups c.args.kernel.now.each (length c.args.global.now) c.requires.some_groups c.requires.total_few

few_global : (c : Start) → length c.args.global.now ≤ 1024
few_global c = omega (arith, c.requires.total_few)

pub run_groups-requires : goal.run_groups-requires
run_groups-requires c =
    let launch = c.launch in
    let zero = c.zero in
    let args = c.args in
    let A = c.requires in
    let m = length args.global.now in
    let some : 3 ≤ length args.records.now = omega (arith, A.lent) in (
      record {
        runnable = A.runnable;
        some_threads = A.some_threads;
        few_threads_lem = A.few_threads_lem;
        some_groups = A.some_groups;
        few_groups_lem = A.few_groups_lem;
        few_rows_lem = A.few_rows_lem;
        cells_are = A.cells_are;
        total_few = A.total_few;
        common_few = A.common_few;
        log_sized_lem = zero.auto.to ∙ A.log_sized_lem;
        lent = omega (arith, launch.auto.records, A.lent);
      },
      record {
        log_empty = zero.ensures ∙ ap (λ i. replicate i 0) (sym zero.auto.to);
        own_sized = sym (zeros_long (5 * args.kernel.now.each) 5120 (omega (arith, few (goal.at.run_groups-requires c).Start)));
        shared_sized = sym (zeros_long (5 * m) 5120 (omega (arith, few_global (goal.at.run_groups-requires c).Start)));
        masks_sized = sym (zeros_long (3 * m) 3074 (omega (arith, few_global (goal.at.run_groups-requires c).Start)));
        masks_empty = zeros_front (3 * m) 3074;
        begun_once = begun_once args.records.now launch.new.records some launch.ensures;
        steps_empty = refl;
        older = record { size = length-replicate {A = ℕ} 1024 0; below = λ i h. let z = get_or-replicate {A = ℕ} 1024 i 0 0 h in omega arith };
        remembered = memo_start;
      },
    )

pub returns : goal.returns
returns c =
    let run = c.run_groups in
    let launch = c.launch in
    let args = c.args in
    let Z = sizes_by args.kernel.now.threads args.kernel.now.groups args.kernel.now.each args.kernel.now.common.now args.global.now in
    run_is args.kernel.now.table.now Z args.kernel.now.limit args.cells.now args.global.now args.records.now run.result
    c.run_groups.new.cells c.run_groups.new.global c.run_groups.new.log c.run_groups.new.records c.run_groups.new.steps (run.auto.cells ∙ c.requires.cells_are)
    (lent_is args.kernel.now.table.now Z args.kernel.now.limit (args.cells.now ++ args.global.now)
    args.records.now launch.new.records run.result c.run_groups.new.cells c.run_groups.new.global c.run_groups.new.log c.run_groups.new.records c.run_groups.new.steps
    launch.ensures run.ensures)
