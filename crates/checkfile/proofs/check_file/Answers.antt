-- `checkfile::check_file` meets its contract. Each way out is a case of the definition. Assumes nothing.
use mathlib.Core.Path.{sym, ap, ◌∙◌}
use native.Mathlib.Omega.{arith}
use Rattle.std.proofs.lemmas.Result.{err_from_is_err_and}
use Rattle.spec.specs.LaunchFile.{accepted}
use Rattle.admission.specs.Refusing.{refusal_of}
use Rattle.filerun.proofs.Founds.{found_runs, plain_launch}
use Rattle.checkfile.proofs.Whole.{file_refuses, state_refuses, ran, roomy}
use Rattle.checkfile.proofs.check_file.Goals as goal

pub returns-in_err-found : goal.returns-in_err-found
returns-in_err-found c =
    let args = c.args in
    let p = err_from_is_err_and c.from_residual.result c.from_residual.ensures.1 in
    let told = file_refuses args.file.now args.cells.now args.global.now args.log.now args.records.now args.output.now _ c.in_err-found.ensures in
    rw (p.1, p.2) (record {
      answer = told.answer;
      refusal = told.refusal;
      cells = told.cells_are;
      global = told.global_are;
      log = told.log_is;
      records = told.records_are;
      output = told.output_is;
      reads = told.reads;
      runs = told.runs;
    })

pub returns-in_err-lent_for_file : goal.returns-in_err-lent_for_file
returns-in_err-lent_for_file c =
    let args = c.args in
    let found = c.in_ok-found.ensures in
    let p = err_from_is_err_and c.from_residual-in_err-lent_for_file.result c.from_residual-in_err-lent_for_file.ensures.1 in
    let told = state_refuses args.file.now args.cells.now args.global.now args.log.now args.records.now args.output.now _ _
    found.launch_is (sym c.lent_for_file.ensures ∙ ap refusal_of c.in_err-lent_for_file.was) in
    rw (p.1, p.2) (record {
      answer = told.answer;
      refusal = told.refusal;
      cells = told.cells_are;
      global = told.global_are;
      log = told.log_is;
      records = told.records_are;
      output = told.output_is;
      reads = told.reads;
      runs = told.runs;
    })

pub report_launch-requires : goal.report_launch-requires
report_launch-requires c =
    let args = c.args in
    let lent = roomy args.file.now args.cells.now args.global.now args.log.now args.records.now args.output.now
    (sym c.lent_for_file.ensures ∙ ap refusal_of c.in_ok-lent_for_file.was) in
    (found_runs c.in_ok-found.ensures c.over.ensures (omega arith), lent.0, lent.1)

pub returns : goal.returns
returns c =
    let args = c.args in
    let found = c.in_ok-found.ensures in
    let told = ran args.file.now args.cells.now args.global.now args.log.now args.records.now args.output.now _ _ _ _ _ _ _
    (found.launch_is ∙ ap accepted (plain_launch c.over.ensures)) (sym c.lent_for_file.ensures ∙ ap refusal_of c.in_ok-lent_for_file.was) c.report_launch.ensures in
    record {
      answer = told.answer;
      refusal = told.refusal;
      cells = told.cells_are;
      global = told.global_are;
      log = told.log_is;
      records = told.records_are;
      output = told.output_is;
      reads = told.reads;
      runs = told.runs;
    }
