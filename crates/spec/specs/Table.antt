-- The kernel table: its rows, and which rows belong to one construct. "The kernel table". Assumes nothing.
use Rattle.std.specs.Prelude.{◌≡◌, ◌⊎◌, Bool, true, false, cond, ℕ, zero, suc, ◌<◌, length, get_or, drop}
use mathlib.Core.List.{List, [], ◌∷◌, tail}
use Rattle.spec.specs.Access.{Kind, load, store, atomic_add}
use Rattle.spec.specs.Op.{Op, CALC, Mem, MEM, LOAD, STORE, ATOMICADD, IF, ELSE, ENDIF, WHILE, ENDWHILE, BARRIER, UNKNOWN, op_of}

pub record Row : Type 0 where
  pub op : Op
  pub d : ℕ
  pub a : ℕ
  pub b : ℕ

-- Rows count from 0.
abbrev pub Table : Type 0
Table = List Row

-- A row is four bytes: op, d, a, b. Bytes that are not four make no row.
unfoldable pub row_of : (op d a b : ℕ) → Row
row_of op d a b = record { op = op_of op; d = d; a = a; b = b }

unfoldable pub rows_of : List ℕ → Table
rows_of [] = []
rows_of (op ∷ []) = []
rows_of (op ∷ d ∷ []) = []
rows_of (op ∷ d ∷ a ∷ []) = []
rows_of (op ∷ d ∷ a ∷ b ∷ rest) = row_of op d a b ∷ rows_of rest

-- Row r. Past the table's end there is none: an op that is unknown stands for it.
unfoldable pub no_row : Row
no_row = record { op = UNKNOWN; d = 0; a = 0; b = 0 }

unfoldable pub row_at : Table → ℕ → Row
row_at T r = get_or T r no_row

-- The byte that names the register with the cell's number, and the kind of access that a row makes with Ra.
unfoldable pub cell_byte : Mem → Row → ℕ
cell_byte LOAD x = x.a
cell_byte STORE x = x.d
cell_byte ATOMICADD x = x.d

unfoldable pub kind_of : Mem → ℕ → Kind
kind_of LOAD v = load
kind_of STORE v = store v
kind_of ATOMICADD v = atomic_add v

-- What a row is to the constructs: none of their rows, or it opens one, divides an IF in two, or closes one.
pub data Role : Type 0 where
  plain opening dividing closing : Role

unfoldable pub role : Op → Role
role (CALC c) = plain
role (MEM p m) = plain
role IF = opening
role ELSE = dividing
role ENDIF = closing
role WHILE = opening
role ENDWHILE = closing
role BARRIER = plain
role UNKNOWN = plain

-- The constructs that are open before row r, innermost first: each by the row of its IF or WHILE, or of its ELSE once that is behind.
unfoldable pub opened_by : Role → ℕ → List ℕ → List ℕ
opened_by plain r os = os
opened_by opening r os = r ∷ os
opened_by dividing r os = r ∷ tail os
opened_by closing r os = tail os

unfoldable pub open_before : Table → ℕ → List ℕ
open_before T zero = []
open_before T (suc r) = opened_by (role (row_at T r).op) r (open_before T r)

-- A scan down the rows for the end of a construct, k being the constructs opened and not closed since. `half` stops it at the construct's ELSE too.
unfoldable pub scan_row : Role → (half : Bool) → (k at : ℕ) → (ℕ → ℕ) → ℕ
scan_row plain half k at on = on k
scan_row opening half k at on = on (suc k)
scan_row dividing half zero at on = cond half at (on zero)
scan_row dividing half (suc j) at on = on (suc j)
scan_row closing half zero at on = at
scan_row closing half (suc j) at on = on j

unfoldable pub scan : (half : Bool) → List Row → (k at : ℕ) → ℕ
scan half [] k at = at
scan half (x ∷ xs) k at = scan_row (role x.op) half k at (λ j. scan half xs j (suc at))

-- The row that closes the construct that row r opens or divides.
unfoldable pub end_of : Table → ℕ → ℕ
end_of T r = scan false (drop (suc r) T) 0 (suc r)

-- Where the IF of row r goes if it is false: the row after its ELSE, or its ENDIF where it has no ELSE.
unfoldable pub past_else : Op → ℕ → ℕ
past_else (CALC c) r = r
past_else (MEM p m) r = r
past_else IF r = r
past_else ELSE r = suc r
past_else ENDIF r = r
past_else WHILE r = r
past_else ENDWHILE r = r
past_else BARRIER r = r
past_else UNKNOWN r = r

unfoldable pub else_of : Table → ℕ → ℕ
else_of T r = let h = scan true (drop (suc r) T) 0 (suc r) in past_else (row_at T h).op h

-- The row that opened the innermost construct that is open before row r: an ENDWHILE's WHILE.
unfoldable pub start_of : Table → ℕ → ℕ
start_of T r = get_or (open_before T r) 0 0

-- The op of the innermost open construct, UNKNOWN where none is open.
unfoldable pub innermost : Table → List ℕ → Op
innermost T [] = UNKNOWN
innermost T (o ∷ os) = (row_at T o).op

-- A row is known, and where it is an ELSE or an end it fits the innermost open construct.
abbrev pub Fits : Op → (innermost : Op) → Type 0
Fits (CALC c) i = Unit {0}
Fits (MEM p m) i = Unit {0}
Fits IF i = Unit {0}
Fits ELSE i = i ≡ IF
Fits ENDIF i = (i ≡ IF) ⊎ (i ≡ ELSE)
Fits WHILE i = Unit {0}
Fits ENDWHILE i = i ≡ WHILE
Fits BARRIER i = Unit {0}
Fits UNKNOWN i = ⊥

-- What the runs need of a table: that none of the refusals 3, 5 and 7 is due. (4 and 6 bound registers and depth.)
pub record WellFormed (T : Table) : Type 0 where
  pub fitting : (r : ℕ) → r < length T → Fits (row_at T r).op (innermost T (open_before T r))
  pub closed : open_before T (length T) ≡ []
