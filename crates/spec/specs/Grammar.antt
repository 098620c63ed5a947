-- The grammar of a table. "The kernel table": a body is a run of plain rows and constructs; a construct is IF body ENDIF,
-- IF body ELSE body ENDIF, or WHILE body ENDWHILE, and its bodies are read by the same rule. Assumes nothing.
use Rattle.std.specs.Prelude.{◌≡◌, [], ◌∷◌, ◌++◌, true, ℕ, suc, ◌≤◌, ◌<◌, max, length}
use Rattle.spec.specs.Limits.{max_nesting}
use Rattle.spec.specs.Op.{IF, ELSE, ENDIF, WHILE, ENDWHILE, UNKNOWN, form, operands_fit}
use Rattle.spec.specs.Table.{Row, Table, row_at, role, plain}

mutual
  pub data Body : Type 0 where
    empty : Body
    plain_row : (x : Row) → role x.op ≡ plain → Body → Body
    construct : Construct → Body → Body

  pub data Construct : Type 0 where
    if_end : (x : Row) → x.op ≡ IF → Body → (z : Row) → z.op ≡ ENDIF → Construct
    if_else : (x : Row) → x.op ≡ IF → Body → (y : Row) → y.op ≡ ELSE → Body → (z : Row) → z.op ≡ ENDIF → Construct
    while : (x : Row) → x.op ≡ WHILE → Body → (z : Row) → z.op ≡ ENDWHILE → Construct

-- The rows of a body, from the top.
unfoldable mutual
  pub body_rows : Body → Table
  body_rows empty = []
  body_rows (plain_row x p rest) = x ∷ body_rows rest
  body_rows (construct c rest) = construct_rows c ++ body_rows rest

  pub construct_rows : Construct → Table
  construct_rows (if_end x p first z q) = x ∷ (body_rows first ++ (z ∷ []))
  construct_rows (if_else x p first y q second z r) = x ∷ (body_rows first ++ (y ∷ (body_rows second ++ (z ∷ []))))
  construct_rows (while x p first z q) = x ∷ (body_rows first ++ (z ∷ []))

-- How many constructs stand within each other at the deepest place.
unfoldable mutual
  pub body_depth : Body → ℕ
  body_depth empty = 0
  body_depth (plain_row x p rest) = body_depth rest
  body_depth (construct c rest) = max (construct_depth c) (body_depth rest)

  pub construct_depth : Construct → ℕ
  construct_depth (if_end x p first z q) = suc (body_depth first)
  construct_depth (if_else x p first y q second z r) = suc (max (body_depth first) (body_depth second))
  construct_depth (while x p first z q) = suc (body_depth first)

-- A table that is not turned back: its rows are a body at most 8 deep, with known ops, registers up to 15 and unused bytes 0.
pub record Accepted (T : Table) : Type 0 where
  pub body : Body
  pub whole : body_rows body ≡ T
  pub shallow : body_depth body ≤ max_nesting
  pub known : (r : ℕ) → r < length T → ¬ ((row_at T r).op ≡ UNKNOWN)
  pub operands : (r : ℕ) → r < length T → operands_fit (form (row_at T r).op) (row_at T r).d (row_at T r).a (row_at T r).b ≡ true
