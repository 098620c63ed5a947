-- `kernelreport::report_kernel` meets its contract. Each way out is a case of the definition. Assumes nothing.
use Rattle.kernelreport.proofs.Cases.{own_refused, common_refused, ran}
use Rattle.kernelreport.proofs.report_kernel.Goals as goal

pub returns-in-Err : goal.returns-in-Err
returns-in-Err c =
    let told = c.report_refusal.ensures in
    own_refused c.args.file.now c.args.common c.in-Err.ensures told.long told.written told.fits

pub returns-in-Err-common : goal.returns-in-Err-common
returns-in-Err-common c =
    let told = c.report_refusal-in-Err-common.ensures in
    common_refused c.args.file.now c.args.common c.in-Ok.ensures c.in-Err-common.is told.long told.written told.fits

pub returns : goal.returns
returns c = ran c.args.file.now c.args.common c.in-Ok.ensures c.in-Ok-common.is c.over.ensures c.report_own.ensures
