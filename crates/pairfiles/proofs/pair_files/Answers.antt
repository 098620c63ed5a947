-- `pairfiles::pair_files` meets its contract. Assumes nothing.
use Rattle.pairfiles.proofs.Both.{too_short, reported}
use Rattle.pairfiles.proofs.pair_files.Goals as goal

pub returns-then-output-lt49152 : goal.returns-then-output-lt49152
returns-then-output-lt49152 c =
    let args = c.args in
    let told = too_short args.filter.now args.trigger.now args.common.now args.output.now c.if-output-lt49152.true in
    record { answer = told.answer; refusal = told.refusal; output = told.output_is; runs = told.runs; enough = told.enough }

pub returns : goal.returns
returns c =
    let args = c.args in
    let told = reported args.filter.now args.trigger.now args.common.now args.output.now c.if-output-lt49152.false _ _ c.report_both.ensures in
    record { answer = told.answer; refusal = told.refusal; output = told.output_is; runs = told.runs; enough = told.enough }
