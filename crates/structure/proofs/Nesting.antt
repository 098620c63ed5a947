-- How rows nest: what each row does to the open constructs, and that this is what the check asks of a row's place. Assumes nothing.
use mathlib.Core.Path.{◌≡◌, refl}
use mathlib.Core.List.{List, [], ◌∷◌}
use mathlib.Core.Bool.{true, false≢true}
use Prim.Native.Nat.{ℕ, suc, ◌≤◌, ◌<◌}
use native.Mathlib.Omega.{arith}
use borrow.Author.Tests.{ltb-true, lt-ltb}
use lib.ListN.{length}
use Rattle.spec.specs.Limits.{max_nesting}
use Rattle.spec.specs.Op.{Op, IF, ELSE, ENDIF, WHILE, ENDWHILE}
use Rattle.spec.specs.Table.{Row, Table}
use Rattle.spec.specs.TableCheck.{Open, in_then, in_else, in_loop, opener, else_fits, endif_fits, endwhile_fits, fits, shallow, divided, open_after}
use Rattle.structure.proofs.Ops.{Plain, Sort, outside, inside, Part, is_if, is_else, is_endif, is_while, is_endwhile, sort}

-- The op at the head of an open part of a construct, and the op that ends the construct.
unfoldable pub head_op : Open → Op
head_op (in_then k) = IF
head_op (in_else k) = ELSE
head_op (in_loop k) = WHILE

unfoldable pub end_op : Open → Op
end_op (in_then k) = ENDIF
end_op (in_else k) = ENDIF
end_op (in_loop k) = ENDWHILE

-- What row r opens by its op.
pub data Starts (r : ℕ) : Op → Open → Type 0 where
  starts_if : Starts r IF (in_then r)
  starts_loop : Starts r WHILE (in_loop r)

-- A step of row r, by its op: what is open before it, and what is open after it.
pub data Step (r : ℕ) : Op → List Open → List Open → Type 0 where
  stays : {op : Op} {os : List Open} → Plain op → Step r op os os
  opens : {op : Op} {o : Open} {os : List Open} → Starts r op o → length os < max_nesting → Step r op os (o ∷ os)
  divides : {k : ℕ} {os : List Open} → Step r ELSE (in_then k ∷ os) (in_else k ∷ os)
  closes : {o : Open} {os : List Open} → Step r (end_op o) (o ∷ os) os

-- Rows from row r on that close all that is open before them, and all that they open.
pub data Nests : Table → ℕ → List Open → Type 0 where
  ended : {r : ℕ} → Nests [] r []
  row : {x : Row} {rows : Table} {r : ℕ} {op : Op} {before after : List Open} → x.op ≡ op → Step r op before after → Nests rows (suc r) after
      → Nests (x ∷ rows) r before

-- A row whose place the check passes steps.
pub step : (op : Op) (r : ℕ) (os : List Open) → fits op os ≡ true → shallow op os ≡ true → Step r op os (open_after op r os)
unfolding fits shallow open_after else_fits endif_fits endwhile_fits divided opener end_op
step op r os f s = by (sort op)
  where
    part : {op : Op} → Part op → (os : List Open) → fits op os ≡ true → shallow op os ≡ true → Step r op os (open_after op r os)
    part is_if os f s = opens starts_if (ltb-true _ _ s)
    part is_else [] f s = absurd (false≢true f)
    part is_else (in_then k ∷ os) f s = divides
    part is_else (in_else k ∷ os) f s = absurd (false≢true f)
    part is_else (in_loop k ∷ os) f s = absurd (false≢true f)
    part is_endif [] f s = absurd (false≢true f)
    part is_endif (in_then k ∷ os) f s = closes {o = in_then k}
    part is_endif (in_else k ∷ os) f s = closes {o = in_else k}
    part is_endif (in_loop k ∷ os) f s = absurd (false≢true f)
    part is_while os f s = opens starts_loop (ltb-true _ _ s)
    part is_endwhile [] f s = absurd (false≢true f)
    part is_endwhile (in_then k ∷ os) f s = absurd (false≢true f)
    part is_endwhile (in_else k ∷ os) f s = absurd (false≢true f)
    part is_endwhile (in_loop k ∷ os) f s = closes {o = in_loop k}

    by : Sort op → Step r op os (open_after op r os)
    by (outside p) = rw p.keeping (stays p)
    by (inside k n p) = part p os f s

-- And the check passes the place of a row that steps.
pub record Placed (r : ℕ) (op : Op) (before after : List Open) : Type 0 where
  pub fitting : fits op before ≡ true
  pub flat : shallow op before ≡ true
  pub leaving : open_after op r before ≡ after

pub placed : {r : ℕ} {op : Op} {before after : List Open} → Step r op before after → Placed r op before after
unfolding fits shallow open_after else_fits endif_fits endwhile_fits divided opener end_op
placed (stays p) = record { fitting = p.fitting _; flat = p.flat _; leaving = p.keeping _ _ }
placed (opens starts_if l) = record { fitting = refl; flat = lt-ltb _ _ l; leaving = refl }
placed (opens starts_loop l) = record { fitting = refl; flat = lt-ltb _ _ l; leaving = refl }
placed divides = record { fitting = refl; flat = refl; leaving = refl }
placed (closes {o = in_then k}) = record { fitting = refl; flat = refl; leaving = refl }
placed (closes {o = in_else k}) = record { fitting = refl; flat = refl; leaving = refl }
placed (closes {o = in_loop k}) = record { fitting = refl; flat = refl; leaving = refl }

-- At most eight constructs are open.
pub step_depth : {r : ℕ} {op : Op} {before after : List Open} → Step r op before after → length before ≤ max_nesting → length after ≤ max_nesting
step_depth (stays p) l = l
step_depth (opens s m) l = m
step_depth divides l = l
step_depth closes l = omega arith

-- The first row, and the others.
pub record Begins (x : Row) (rows : Table) (r : ℕ) (before : List Open) : Type 0 where
  pub after : List Open
  pub now : Step r x.op before after
  pub later : Nests rows (suc r) after

pub begins : {x : Row} {rows : Table} {r : ℕ} {os : List Open} → Nests (x ∷ rows) r os → Begins x rows r os
begins (row {after = os} p s n) = record { after = os; now = rw p s; later = n }
