-- `launch::bare_launch` meets its contract. Each way out is a case of the definition. Assumes nothing.
use mathlib.Core.Path.{sym, ap, ◌∙◌}
use native.Mathlib.Omega.{arith}
use Rattle.std.proofs.lemmas.Result.{err_from_is_err_and}
use Rattle.spec.specs.Shape.{sizes}
use Rattle.admission.specs.Refusing.{refusal_of}
use Rattle.launch.proofs.Bare.{fine, readable, lent_is, numbers_refuse, table_refuses, state_refuses, ran}
use Rattle.reader.proofs.Ready.{runnable}
use Rattle.launch.proofs.bare_launch.Goals as goal

pub returns-in_err-numbers : goal.returns-in_err-numbers
returns-in_err-numbers c =
    let args = c.args in
    let p = err_from_is_err_and c.from_residual.result c.from_residual.ensures.1 in
    let told = numbers_refuse args.table.now (sizes args.threads args.count args.groups args.shared) args.limit args.cells.now args.global.now args.log.now args.records.now args.steps.now _
    (sym c.numbers.ensures ∙ ap refusal_of c.in_err-numbers.was) in
    rw (p.1, p.2) (record {
      answer = told.answer;
      refusal = told.refusal;
      cells = told.cells_are;
      global = told.global_are;
      log = told.log_is;
      records = told.records_are;
      steps = told.steps_are;
      runs = told.runs;
    })

pub read_table-requires : goal.read_table-requires
read_table-requires c =
    let args = c.args in
    readable args.table.now (sizes args.threads args.count args.groups args.shared) args.limit (sym c.numbers.ensures ∙ ap refusal_of c.in_ok-numbers.was)

pub returns-in_err-ends : goal.returns-in_err-ends
returns-in_err-ends c =
    let args = c.args in
    let p = err_from_is_err_and c.from_residual-in_err-ends.result c.from_residual-in_err-ends.ensures.1 in
    let told = table_refuses args.table.now (sizes args.threads args.count args.groups args.shared) args.limit args.cells.now args.global.now args.log.now args.records.now args.steps.now _
    (sym c.numbers.ensures ∙ ap refusal_of c.in_ok-numbers.was)
    (sym c.read_table.ensures.answer ∙ ap refusal_of c.in_err-ends.was) in
    rw (p.1, p.2) (record {
      answer = told.answer;
      refusal = told.refusal;
      cells = told.cells_are;
      global = told.global_are;
      log = told.log_is;
      records = told.records_are;
      steps = told.steps_are;
      runs = told.runs;
    })

pub returns-in_err-lent : goal.returns-in_err-lent
returns-in_err-lent c =
    let args = c.args in
    let p = err_from_is_err_and c.from_residual-in_err-lent.result c.from_residual-in_err-lent.ensures.1 in
    let told = state_refuses args.table.now (sizes args.threads args.count args.groups args.shared) args.limit args.cells.now args.global.now args.log.now args.records.now args.steps.now _
    (sym c.numbers.ensures ∙ ap refusal_of c.in_ok-numbers.was) (sym c.read_table.ensures.answer ∙ ap refusal_of c.in_ok-ends.was)
    (sym (c.lent.ensures args.threads) ∙ ap refusal_of c.in_err-lent.was) in
    rw (p.1, p.2) (record {
      answer = told.answer;
      refusal = told.refusal;
      cells = told.cells_are;
      global = told.global_are;
      log = told.log_is;
      records = told.records_are;
      steps = told.steps_are;
      runs = told.runs;
    })

pub run_launch-requires : goal.run_launch-requires
run_launch-requires c =
    let args = c.args in
    let table = args.table.now in
    let n = (sym c.numbers.ensures ∙ ap refusal_of c.in_ok-numbers.was) in
    let f = fine _ (sizes args.threads args.count args.groups args.shared) args.limit n in
    let l = lent_is (sizes args.threads args.count args.groups args.shared) _ _ _ _ (sym (c.lent.ensures args.threads) ∙ ap refusal_of c.in_ok-lent.was) in
    record {
      runnable = runnable table _ (readable table (sizes args.threads args.count args.groups args.shared) args.limit n).1
          (sym c.read_table.ensures.answer ∙ ap refusal_of c.in_ok-ends.was) c.in_ok-ends.ensures.ends;
      some_threads = f.some_threads;
      few_threads_lem = f.few_threads_lem;
      some_groups = f.some_groups;
      few_groups_lem = f.few_groups_lem;
      few_rows_lem = f.few_rows_lem;
      cells_are = l.0;
      common_few = omega arith;
      total_few = omega (arith, l.1, f.few_cells_lem);
      log_sized_lem = omega (arith, l.1, l.2);
      lent = l.3;
    }

pub returns : goal.returns
returns c =
    let args = c.args in
    let l = lent_is (sizes args.threads args.count args.groups args.shared) _ _ _ _ (sym (c.lent.ensures args.threads) ∙ ap refusal_of c.in_ok-lent.was) in
    let told = ran args.table.now (sizes args.threads args.count args.groups args.shared) args.limit args.cells.now args.global.now args.log.now args.records.now args.steps.now _
    (λ i. sizes args.threads args.count args.groups (l.1 i)) _ _ _ _ _ _
    (sym c.numbers.ensures ∙ ap refusal_of c.in_ok-numbers.was) (sym c.read_table.ensures.answer ∙ ap refusal_of c.in_ok-ends.was)
    (sym (c.lent.ensures args.threads) ∙ ap refusal_of c.in_ok-lent.was) c.run_launch.ensures in
    record {
      answer = told.answer;
      refusal = told.refusal;
      cells = told.cells_are;
      global = told.global_are;
      log = told.log_is;
      records = told.records_are;
      steps = told.steps_are;
      runs = told.runs;
    }
