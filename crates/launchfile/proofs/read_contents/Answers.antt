-- `launchfile::read_contents` meets its contract. Assumes nothing.
use mathlib.Core.Path.{refl}
use Rattle.std.proofs.lemmas.Result.{err_from_is_err_and}
use Rattle.spec.specs.LaunchFile.{sizes_in}
use Rattle.launchfile.proofs.Answered.{contents_refused, contents_accepted}
use Rattle.launchfile.proofs.read_contents.Goals as goal

pub returns-in_err-read_lines : goal.returns-in_err-read_lines
returns-in_err-read_lines c =
    let p = err_from_is_err_and c.from_residual.result c.from_residual.ensures.1 in
    rw (p.1, p.2) (contents_refused (sizes_in c.args.sizes.now) _ c.read_lines.ensures c.own_cells-count.ensures refl c.in_err-read_lines.was, tt)

pub returns : goal.returns
returns c = (
  contents_accepted (sizes_in c.args.sizes.now) _ c.read_lines.ensures c.own_cells-count.ensures refl refl c.in_ok-read_lines.was refl refl refl c.requires,
  (c.read_lines.ensures.filled c.in_ok-read_lines.was).bytes,
)
