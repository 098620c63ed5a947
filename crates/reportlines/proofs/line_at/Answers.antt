-- `reportlines::line_at` meets its contract. Key, sign, value and newline stand one behind the other. Assumes nothing.
use mathlib.Core.Path.{◌∙◌}
use Rattle.spec.specs.Report.{line_bytes}
use Rattle.reportlines.specs.Lines.{told}
use Rattle.reportlines.proofs.Lines.{line_written}
use Rattle.reportlines.proofs.line_at.Goals as goal

pub returns-clause-written : goal.returns-clause-written
unfolding line_bytes told
returns-clause-written c =
    let sign = c.put-sign in
    let start = c.put-start in
    let end = c.put-end in
    line_written c.args.line.key.now _ c.as_bytes.result.now c.args.out.now sign.new.out start.new.out end.new.out c.put.new.out c.args.at
    sign.result start.result end.result c.requires (c.as_bytes.ensures.value ∙ c.value_word-word.ensures.text) sign.ensures.next
    sign.ensures.written start.ensures.next start.ensures.written end.ensures.next end.ensures.written c.put.ensures.written
