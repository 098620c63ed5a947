-- `report::write_report` meets its contract. By the kind of the subject. Assumes nothing.
use mathlib.Core.List.{[]}
use Rattle.report.proofs.Entry.{reads_as}
use Rattle.report.proofs.write_report.Goals as goal

pub returns-in-Ran-clause-reads : goal.returns-in-Ran-clause-reads
returns-in-Ran-clause-reads c = rw c.in-Ran.is (reads_as _ _ _ _ _ _ _ c.report.ensures.answer c.report.ensures.buffer)

pub returns-in-Refused-clause-reads : goal.returns-in-Refused-clause-reads
returns-in-Refused-clause-reads c = rw c.in-Refused.is (reads_as _ [] [] [] _ _ _ c.report_refusal.ensures.answer c.report_refusal.ensures.buffer)
