-- `filerun::report_launch` meets its contract. The writer is handed the fronts that the run has left. Assumes nothing.
use Rattle.filerun.proofs.Running.{reported}
use Rattle.filerun.proofs.report_launch.Goals as goal
use Rattle.filerun.proofs.report_launch.Goals.{After-run_launch-outcome}

pub returns : goal.returns
returns c =
    let write = c.write_report in
    let args = c.args in
    reported args.launch args.cells.now args.global.now args.log.now args.records.now c.requires.0 _ _ _ _ _ _ c.run_launch-outcome.ensures
    args.output.now c.requires.2 _ c.all_threads-used.ensures _ _
    write.ensures.answer write.ensures.buffer write.ensures.fits
