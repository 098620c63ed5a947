-- The operands of every op, byte by byte: registers up to 15, unused bytes 0, and which byte is which. Assumes nothing.
use mathlib.Core.Path.{◌≡◌, refl}
use mathlib.Core.List.{List, [], ◌∷◌, ◌++◌, map}
use mathlib.Core.Bool.{Bool, true, false}
use Prim.Native.Nat.{ℕ}
use lib.ListN.{replicate}
use Rattle.spec.specs.Op.{Form, set_form, d_form, dab_form, da_form, a_form, no_form, unknown_form, operands_fit, value, SET, SUB, SHR, LT}
use Rattle.spec.specs.Table.{row_of, rows_of}
use Rattle.spec.specs.TableCheck.{table_refusal}
use Rattle.spec.proofs.OpTable.{bytes_from}
use Rattle.spec.proofs.RefusalTable.{or_zero, told_as}
use Rattle.spec.proofs.Computing.{computing}

-- A byte tried in d's place, then in a's, then in b's, the other two being 0.
unfoldable pub tried : List ℕ
tried = 0 ∷ 1 ∷ 15 ∷ 16 ∷ 255 ∷ []

unfoldable pub in_each_place : Form → List (List Bool)
in_each_place f = map (λ x. operands_fit f x 0 0) tried ∷ map (λ x. operands_fit f 0 x 0) tried ∷ map (λ x. operands_fit f 0 0 x) tried ∷ []

unfoldable pub a_register : List Bool
a_register = true ∷ true ∷ true ∷ false ∷ false ∷ []

unfoldable pub an_unused : List Bool
an_unused = true ∷ false ∷ false ∷ false ∷ false ∷ []

unfoldable pub any_byte : List Bool
any_byte = true ∷ true ∷ true ∷ true ∷ true ∷ []

pub by_form : map in_each_place (set_form ∷ d_form ∷ dab_form ∷ da_form ∷ a_form ∷ no_form ∷ unknown_form ∷ []) ≡
    (a_register ∷ any_byte ∷ any_byte ∷ [])
    ∷ (a_register ∷ an_unused ∷ an_unused ∷ [])
    ∷ (a_register ∷ a_register ∷ a_register ∷ [])
    ∷ (a_register ∷ a_register ∷ an_unused ∷ [])
    ∷ (an_unused ∷ a_register ∷ an_unused ∷ [])
    ∷ (an_unused ∷ an_unused ∷ an_unused ∷ [])
    ∷ (any_byte ∷ any_byte ∷ any_byte ∷ [])
    ∷ []
unfolding computing tried in_each_place a_register an_unused any_byte
by_form = refl

-- A table of one row with this op: what it is refused with where d, a or b is x. A construct's row is then 5 or 7, if it is not 4.
unfoldable pub refused_by : ℕ → ℕ → List ℕ
refused_by x op =
    (told_as (table_refusal (row_of op x 0 0 ∷ []))).0 ∷ (told_as (table_refusal (row_of op 0 x 0 ∷ []))).0 ∷ (told_as (table_refusal (row_of op 0 0 x ∷ []))).0 ∷ []

unfoldable pub known_ops : List ℕ
known_ops = bytes_from 1 14 ++ (bytes_from 16 7 ++ bytes_from 32 6)

-- x = 1: SET; TID, COUNT; ADD to SLT; LOAD, STORE, ATOMIC ADD; the launch number; the three of global cells; IF, ELSE, ENDIF, WHILE, ENDWHILE, BARRIER.
pub by_op_1 : map (refused_by 1) known_ops ≡
    (0 ∷ 0 ∷ 0 ∷ [])
    ∷ replicate 2 (0 ∷ 4 ∷ 4 ∷ [])
    ++ (replicate 11 (0 ∷ 0 ∷ 0 ∷ [])
    ++ (replicate 3 (0 ∷ 0 ∷ 4 ∷ [])
    ++ ((0 ∷ 4 ∷ 4 ∷ [])
    ∷ replicate 3 (0 ∷ 0 ∷ 4 ∷ [])
    ++ ((4 ∷ 7 ∷ 4 ∷ []) ∷ (4 ∷ 4 ∷ 4 ∷ []) ∷ (4 ∷ 4 ∷ 4 ∷ []) ∷ (4 ∷ 7 ∷ 4 ∷ []) ∷ (4 ∷ 4 ∷ 4 ∷ []) ∷ (4 ∷ 4 ∷ 4 ∷ []) ∷ []))))
unfolding computing bytes_from or_zero told_as refused_by known_ops
by_op_1 = refl

-- x = 16 fits nowhere but in SET's a and b.
pub by_op_16 : map (refused_by 16) known_ops ≡ (4 ∷ 0 ∷ 0 ∷ []) ∷ replicate 26 (4 ∷ 4 ∷ 4 ∷ [])
unfolding computing bytes_from or_zero told_as refused_by known_ops
by_op_16 = refl

-- A table of one row, all of whose bytes but the op's are 0, for each of the 256 op bytes: 3 where the op is unknown, 5 for ELSE and the ends, 7 for IF and WHILE.
pub by_byte : map (λ op. (told_as (table_refusal (row_of op 0 0 0 ∷ []))).0) (bytes_from 0 256) ≡
    3 ∷ replicate 14 0 ++ (3 ∷ replicate 7 0 ++ (replicate 9 3 ++ (7 ∷ 5 ∷ 5 ∷ 7 ∷ 5 ∷ 0 ∷ replicate 218 3)))
unfolding computing bytes_from or_zero told_as
by_byte = refl

-- Four bytes are a row: op, d, a, b in this order. What is left over makes none.
pub rows_of_bytes :
    rows_of (1 ∷ 2 ∷ 3 ∷ 4 ∷ 32 ∷ 0 ∷ 5 ∷ 0 ∷ 37 ∷ 0 ∷ 0 ∷ []) ∷ rows_of (37 ∷ 0 ∷ 0 ∷ []) ∷ rows_of (37 ∷ 0 ∷ []) ∷ rows_of (37 ∷ []) ∷ rows_of [] ∷ [] ≡
    (row_of 1 2 3 4 ∷ row_of 32 0 5 0 ∷ []) ∷ [] ∷ [] ∷ [] ∷ [] ∷ []
unfolding computing
rows_of_bytes = refl

pub parts_of_a_row : let x = row_of 1 2 3 4 in x.d ∷ x.a ∷ x.b ∷ [] ≡ 2 ∷ 3 ∷ 4 ∷ []
unfolding computing
parts_of_a_row = refl

-- Ra stands on the left; SET's a is the low byte.
pub sides : value SUB 7 5 19 3 2 100 4 ∷ value SHR 7 5 19 3 2 100 4 ∷ value LT 7 5 19 3 2 100 4 ∷ value SET 7 5 19 255 1 100 4 ∷ [] ≡ 96 ∷ 6 ∷ 0 ∷ 511 ∷ []
unfolding computing
sides = refl
