-- `report::Run::write` meets its contract. The parts of the report stand one behind the other. Assumes nothing.
use Rattle.spec.specs.Text.{text}
use Rattle.report.proofs.Parts.{run_written}
use Rattle.report.proofs.Run.write.Goals as goal

pub returns-clause-written : goal.returns-clause-written
unfolding text
returns-clause-written c =
    let args = c.args in
    let values = c.run_values-values.ensures in
    let headed = c.lines_at-headed in
    let stepped = c.each_at-stepped in
    let behind = c.lines_at-next in
    let owned = c.each_at-owned in
    let last = c.each_at-last in
    let end = c.line_at in
    run_written args.self.now.outcome args.self.now.steps.now args.self.now.cells.now args.self.now.global.now _ _ _ args.out.now headed.new.out stepped.new.out behind.new.out
    owned.new.out last.new.out end.new.out headed.result stepped.result behind.result owned.result last.result end.result
    (c.head_lines.ensures.lines args.self.now.outcome values) (c.interval_lines.ensures.lines args.self.now.outcome values) c.end_line.ensures.line c.requires
    headed.ensures.next headed.ensures.written stepped.ensures.next stepped.ensures.written behind.ensures.next behind.ensures.written
    owned.ensures.next owned.ensures.written last.ensures.next last.ensures.written end.ensures.next end.ensures.written
