-- `pairfiles::report_both` meets its contract. The trigger's report stands behind the filter's. Assumes nothing.
use mathlib.Core.Path.{◌≡◌, sym, ap, ◌∙◌}
use Rattle.spec.specs.LaunchFile.{accepted}
use Rattle.spec.specs.PairFiles.{common_cells}
use Rattle.commonfile.specs.CommonRead.{answer_of, cells_in}
use Rattle.pairfiles.proofs.Both.{kernel_printed, both}
use Rattle.pairfiles.proofs.report_both.Goals as goal
use Rattle.pairfiles.proofs.report_both.Goals.{in-Ok, in-Err}

pub returns : goal.returns
returns c =
    let args = c.args in
    let read = c.read_common-read.ensures in
    let same : common_cells args.common.now ≡ answer_of c.match-read.cells =
    elim c.match-read.branch [
      | in-Ok w ↦ rw w.cells-is (read.cells ∙ ap cells_in w.in-Ok.is ∙ ap accepted (sym w.cells.ensures))
      | in-Err w ↦ rw w.cells-is (read.cells ∙ ap cells_in w.in-Err.is)
    ] in
    both args.filter.now args.trigger.now args.common.now args.output.now c.requires _ _ _ _
    (kernel_printed args.common.now _ same args.filter.now args.output.now _ _ c.report_kernel-first.ensures)
    (kernel_printed args.common.now _ same args.trigger.now _ _ _ c.report_kernel-second.ensures)
