-- `pairfiles::report_pair` meets its contract. Its output has room. Assumes nothing.
use Prim.Native.Nat.{◌≤◌}
use native.Mathlib.Omega.{arith}
use lib.ListN.{length}
use Rattle.spec.specs.Limits.{pair_output}
use borrow.Author.Rules.{rules}
use Rattle.pairfiles.proofs.Both.{said, cut_short}
use Rattle.pairfiles.proofs.report_pair.Goals as goal

pub returns : goal.returns
returns c =
    let args = c.args in
    let both = c.report_both.ensures in
    let room : pair_output ≤ length args.output.now = search rules in
    record {
      long = both.long;
      written = both.written;
      fits = omega (arith, both.fits, c.report_both.auto.output, room);
      runs = said args.filter.now args.trigger.now args.common.now args.output.now room _ _ both;
      enough = cut_short args.filter.now args.trigger.now args.common.now;
    }
