-- `filerun::run_launch` meets its contract. The fronts of the lent buffers are the run's. Assumes nothing.
use Prim.Native.Nat.{◌+◌, ◌*◌, ◌≤◌}
use native.Mathlib.Omega.{arith}
use lib.ListN.{length}
use Rattle.filerun.proofs.Front.{front_length, placed_over}
use Rattle.filerun.proofs.Running.{placed_room, left}
use Rattle.filerun.proofs.run_launch.Goals as goal
use Rattle.filerun.proofs.run_launch.Goals.{After-place-2, Start}

-- The log, own cells and global cells have room for the launch's.
log_room : (c : Start) → 8 * (length c.args.launch.cells.now + length c.args.launch.global.now) ≤ length c.args.log.now
log_room c = omega (arith, c.requires.0.few_cells, c.requires.1.log_lent)

own_room : (c : After-place-2) → length c.args.launch.cells.now ≤ length c.place.new.to
own_room c = placed_room _ _ _ c.place.ensures (omega (arith, c.requires.0.few_cells)) c.requires.1.cells_lent

global_room : (c : After-place-2) → length c.args.launch.global.now ≤ length c.place-2.new.to
global_room c = placed_room _ _ _ c.place-2.ensures (omega (arith, c.requires.0.few_cells)) c.requires.1.global_lent

pub returns : goal.returns
returns c =
    let ran = c.run_launch in
    let start = (goal.at.returns c).Start in
    let args = start.args in
    let own = front_length _ _ (own_room (goal.at.returns c).After-place-2) in
    let global = front_length _ _ (global_room (goal.at.returns c).After-place-2) in
    let log = front_length _ _ (log_room start) in
    left args.launch args.cells.now args.global.now args.log.now args.records.now start.requires.0 _ _ (placed_over _ _ _ c.place.ensures)
    (placed_over _ _ _ c.place-2.ensures) _ _ _ _ _ _ ran.ensures (omega (arith, own)) (omega (arith, global)) (omega (arith, log))
