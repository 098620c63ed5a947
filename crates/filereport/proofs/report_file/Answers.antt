-- `filereport::report_file` meets its contract. The lent buffers have the right sizes. Assumes nothing.
use Rattle.filereport.proofs.Printing.{run_printed, refusal_printed}
use mathlib.Core.Path.{refl}
use borrow.Author.Rules.{rules}
use Rattle.filereport.proofs.report_file.Goals as goal

pub returns-in-Ok : goal.returns-in-Ok
returns-in-Ok c =
    let checked = c.check_file.ensures in
    let told = run_printed c.args.file.now _ _ _ _ c.args.output.now refl refl refl refl (search rules) _ _ (search rules) checked.answer checked.output _ c.in-Ok.is in
    record { long = told.long; written = told.written; fits = told.fits; reads = told.reads; runs = told.runs }

pub returns-in-Err : goal.returns-in-Err
returns-in-Err c =
    let checked = c.check_file.ensures in
    let refused = c.report_refusal.ensures in
    let told = refusal_printed c.args.file.now _ _ _ _ c.args.output.now refl refl refl refl (search rules) _ _ (search rules) checked.answer checked.output _ _ _ c.in-Err.is
    refused.long refused.written refused.fits in
    record { long = told.long; written = told.written; fits = told.fits; reads = told.reads; runs = told.runs }
