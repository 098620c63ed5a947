-- A line of the code as the definitions have it. Assumes nothing.
use Rattle.spec.specs.Report as report
use Rattle.reportlines.specs.declared.Line.{Line}

unfoldable pub told : Line → report.Line
told l = record { key = l.key.now; value = l.value }
