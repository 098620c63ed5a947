-- What the reader answers, as the definition has it: the first refusal, and where the loops end. Assumes nothing.
use Rattle.std.proofs.Math.Option.{Option, none, some}
use Rattle.std.specs.Prelude.{ℕ}
use Rattle.spec.specs.declared.Refusal.{Refusal}
use Rattle.spec.specs.Op.{Op, CALC, MEM, IF, ELSE, ENDIF, WHILE, ENDWHILE, BARRIER, UNKNOWN}
use Rattle.spec.specs.Table.{Table, row_at, end_of}
use Rattle.spec.specs.TableCheck.{table_refusal}

-- The first number for a WHILE, the second for every other row.
unfoldable pub if_loop : Op → ℕ → ℕ → ℕ
if_loop (CALC c) x y = y
if_loop (MEM p m) x y = y
if_loop IF x y = y
if_loop ELSE x y = y
if_loop ENDIF x y = y
if_loop WHILE x y = x
if_loop ENDWHILE x y = y
if_loop BARRIER x y = y
if_loop UNKNOWN x y = y

unfoldable pub if_accepted : Option Refusal → ℕ → ℕ
if_accepted none x = x
if_accepted (some why) x = 0

-- The row of row i's ENDWHILE where the table is accepted and row i is a WHILE, and 0 otherwise.
unfoldable pub end_at : Table → ℕ → ℕ
end_at T i = if_accepted (table_refusal T) (if_loop (row_at T i).op (end_of T i) 0)
