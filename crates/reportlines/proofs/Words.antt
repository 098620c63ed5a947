-- No word of a report is longer than a number. Assumes nothing.
use Prim.Native.Nat.{◌≤◌}
use native.Mathlib.Omega.{arith}
use lib.ListN.{length}
use Rattle.spec.specs.Text.{text}
use Rattle.spec.specs.declared.AccessKind.{AccessKind}
use Rattle.spec.specs.declared.AccessKind.TheVariants.{ReadWrite, WriteRead, WriteWrite, ReadAdd, AddRead, WriteAdd, AddWrite}
use Rattle.spec.specs.declared.Verdict.{Verdict}
use Rattle.spec.specs.declared.Verdict.TheVariants.{Passed, Race, GroupRace, Outside, Common, Diverged, Spent}
use Rattle.spec.specs.Report.{verdict_text, kind_text}

pub verdict_short : (v : Verdict) → length (verdict_text v) ≤ 10
unfolding verdict_text text
verdict_short Passed = omega arith
verdict_short (Race thread other kind at) = omega arith
verdict_short (GroupRace thread group kind at) = omega arith
verdict_short (Outside thread at) = omega arith
verdict_short (Common thread at) = omega arith
verdict_short (Diverged thread other) = omega arith
verdict_short Spent = omega arith

pub kind_short : (k : AccessKind) → length (kind_text k) ≤ 10
unfolding kind_text text
kind_short ReadWrite = omega arith
kind_short WriteRead = omega arith
kind_short WriteWrite = omega arith
kind_short ReadAdd = omega arith
kind_short AddRead = omega arith
kind_short WriteAdd = omega arith
kind_short AddWrite = omega arith
