-- `refusalreport::report_refusal` meets its contract. A refusal's report has room. Assumes nothing.
use mathlib.Core.Path.{◌≡◌}
use native.Mathlib.Omega.{arith}
use lib.ListN.{length}
use Rattle.spec.specs.Answers.{refusal_number, refusal_place}
use Rattle.spec.specs.Report.{refusal_report}
use borrow.Author.Rules.{rules}
use Rattle.refusalreport.proofs.Refusals.{refusal_told}
use Rattle.refusalreport.proofs.report_refusal.Goals as goal

pub unwrap-requires : goal.unwrap-requires
unwrap-requires c =
    let wrote = c.write_report.ensures in
    let told = refusal_told c.args.why _ c.words.ensures c.args.output.now _ _ c.requires wrote.answer wrote.buffer wrote.fits in
    rw told.answered (search rules)

pub returns : goal.returns
returns c =
    let wrote = c.write_report.ensures in
    let told = refusal_told c.args.why _ c.words.ensures c.args.output.now _ _ c.requires wrote.answer wrote.buffer wrote.fits in
    let ok = told.answered in
    let size : c.unwrap.result ≡ length (refusal_report (refusal_number c.args.why) (refusal_place c.args.why)) = cc in
    record { long = size; written = told.written; fits = omega (arith, size, told.fits) }
