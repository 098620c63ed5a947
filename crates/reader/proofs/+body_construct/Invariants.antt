-- The rows that are left fall, and the loop keeps that the rows behind it are read. Assumes nothing.
use Prim.Native.Nat.{◌-◌, ◌+◌, ◌*◌, ◌/◌}
use lib.ListN.{length}
use Rattle.reader.specs.Parts.{Span}
use Rattle.reader.proofs.+body_construct.Given as goal

-- Twice the rows that are left, and one more for the body, which calls the construct at its own row.
abbrev pub decreases-body : goal.decreases-body
decreases-body l = (length l.table.now / 4 - l.from) * 2 + 1

abbrev pub decreases-construct : goal.decreases-construct
decreases-construct l = (length l.table.now / 4 - l.row) * 2

abbrev pub invariant-body-loop-row : goal.invariant-body-loop-row
invariant-body-loop-row l = Span l.table l.depth l.from l.row l.initial.ends l.ends

abbrev pub decreases-body-loop-row : goal.decreases-body-loop-row
decreases-body-loop-row l = l.rows - l.row
