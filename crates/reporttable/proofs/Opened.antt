-- Whoever unfolds this unfolds the lists of lines and the line of the code. Assumes nothing.
use Rattle.spec.specs.Text.{text}
use Rattle.spec.specs.Report.{◌is◌, head_lines, head_with, interval_lines, end_line, refusal_lines}
use Rattle.reportlines.specs.Lines.{told}
use Rattle.reporttable.specs.Values.{run_values, keys, table_line, table_lines}

unfoldable pub opened : Unit {0}
unfolding run_values keys table_line table_lines head_lines head_with interval_lines refusal_lines end_line ◌is◌ text told
opened = tt
