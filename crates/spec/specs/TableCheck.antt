-- Which tables are turned back, and why: the refusals 3 to 7, row by row. "Turned back". Assumes nothing.
use mathlib.Core.List.{List, [], ◌∷◌, tail}
use Rattle.std.specs.Prelude.{Bool, true, false, ℕ, suc, ltb, length}
use Rattle.std.proofs.Math.Option.{Option, none, some}
use Rattle.spec.specs.Limits.{max_nesting}
use Rattle.spec.specs.Answers.{Refusal, UnknownOp, BadOperand, Misplaced, TooDeep, LeftOpen, unless, or_else, first}
use Rattle.spec.specs.Op.{Op, CALC, MEM, IF, ELSE, ENDIF, WHILE, ENDWHILE, BARRIER, UNKNOWN, form, operands_fit}
use Rattle.spec.specs.Table.{Row, Table}

-- An open construct, by its opening row: an IF in its first part, an IF in its second part, a loop.
pub data Open : Type 0 where
  in_then in_else in_loop : ℕ → Open

unfoldable pub opener : Open → ℕ
opener (in_then o) = o
opener (in_else o) = o
opener (in_loop o) = o

-- 3: the op is known.
unfoldable pub is_known : Op → Bool
is_known (CALC c) = true
is_known (MEM p m) = true
is_known IF = true
is_known ELSE = true
is_known ENDIF = true
is_known WHILE = true
is_known ENDWHILE = true
is_known BARRIER = true
is_known UNKNOWN = false

-- 5: an ELSE fits an IF's first part, an ENDIF either part, an ENDWHILE a loop. Every other op stands anywhere.
unfoldable pub else_fits : List Open → Bool
else_fits [] = false
else_fits (in_then o ∷ os) = true
else_fits (in_else o ∷ os) = false
else_fits (in_loop o ∷ os) = false

unfoldable pub endif_fits : List Open → Bool
endif_fits [] = false
endif_fits (in_then o ∷ os) = true
endif_fits (in_else o ∷ os) = true
endif_fits (in_loop o ∷ os) = false

unfoldable pub endwhile_fits : List Open → Bool
endwhile_fits [] = false
endwhile_fits (in_then o ∷ os) = false
endwhile_fits (in_else o ∷ os) = false
endwhile_fits (in_loop o ∷ os) = true

unfoldable pub fits : Op → List Open → Bool
fits (CALC c) os = true
fits (MEM p m) os = true
fits IF os = true
fits ELSE os = else_fits os
fits ENDIF os = endif_fits os
fits WHILE os = true
fits ENDWHILE os = endwhile_fits os
fits BARRIER os = true
fits UNKNOWN os = true

-- 6: an IF or a WHILE opens at most the eighth construct.
unfoldable pub shallow : Op → List Open → Bool
shallow (CALC c) os = true
shallow (MEM p m) os = true
shallow IF os = ltb (length os) max_nesting
shallow ELSE os = true
shallow ENDIF os = true
shallow WHILE os = ltb (length os) max_nesting
shallow ENDWHILE os = true
shallow BARRIER os = true
shallow UNKNOWN os = true

-- What is open after row r, which is not refused. (An ELSE that nothing is open for is refused, so its answer there is never asked.)
unfoldable pub divided : List Open → List Open
divided [] = []
divided (o ∷ os) = in_else (opener o) ∷ os

unfoldable pub open_after : Op → ℕ → List Open → List Open
open_after (CALC c) r os = os
open_after (MEM p m) r os = os
open_after IF r os = in_then r ∷ os
open_after ELSE r os = divided os
open_after ENDIF r os = tail os
open_after WHILE r os = in_loop r ∷ os
open_after ENDWHILE r os = tail os
open_after BARRIER r os = os
open_after UNKNOWN r os = os

-- The first refusal of row r: 3, 4, 5, 6 in this order.
unfoldable pub row_refusal : ℕ → List Open → Row → Option Refusal
row_refusal r os x =
    first
    (unless (is_known x.op) (UnknownOp r)
    ∷ unless (operands_fit (form x.op) x.d x.a x.b) (BadOperand r)
    ∷ unless (fits x.op os) (Misplaced r)
    ∷ unless (shallow x.op os) (TooDeep r)
    ∷ [])

-- 7, after the last row: the innermost construct that is still open, at its opening row.
unfoldable pub left_open : List Open → Option Refusal
left_open [] = none
left_open (o ∷ os) = some (LeftOpen (opener o))

-- The rows from row r on, with what is open before it.
unfoldable pub rows_refusal : Table → ℕ → List Open → Option Refusal
rows_refusal [] r os = left_open os
rows_refusal (x ∷ rows) r os = or_else (row_refusal r os x) (rows_refusal rows (suc r) (open_after x.op r os))

-- The first refusal of a whole table.
unfoldable pub table_refusal : Table → Option Refusal
table_refusal T = rows_refusal T 0 []
