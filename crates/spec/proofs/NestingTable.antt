-- Which tables are refused with 3 to 7 and where, and which rows belong to one construct: the grammar at the same places. Assumes nothing.
use mathlib.Core.Path.{◌≡◌, refl}
use mathlib.Core.List.{List, [], ◌∷◌, ◌++◌, map}
use Prim.Native.Nat.{ℕ}
use lib.ListN.{replicate}
use Rattle.spec.specs.Op.{Op, CALC, OWN, GLOBAL, MEM, SET, LOAD, STORE, ATOMICADD, IF, ELSE, ENDIF, WHILE, ENDWHILE, BARRIER, UNKNOWN}
use Rattle.spec.specs.Table.{Table, Row, row_of, row_at, role, plain, opening, dividing, closing, open_before, end_of, else_of, start_of, innermost}
use Rattle.spec.specs.Grammar.{Body, empty, plain_row, construct, Construct, if_end, if_else, while, body_rows, body_depth}
use Rattle.spec.specs.TableCheck.{table_refusal}
use Rattle.spec.proofs.OpTable.{bytes_from}
use Rattle.spec.proofs.RefusalTable.{or_zero, told_as}
use Rattle.spec.proofs.Computing.{computing}

-- A table by its op bytes: 32 IF, 33 ELSE, 34 ENDIF, 35 WHILE, 36 ENDWHILE, 37 BARRIER. All other bytes are 0.
unfoldable pub with_ops : List ℕ → Table
with_ops ops = map (λ op. row_of op 0 0 0) ops

unfoldable pub tells : List (List ℕ) → List (ℕ × ℕ)
tells tables = map (λ ops. told_as (table_refusal (with_ops ops))) tables

-- ELSE, ENDIF and ENDWHILE: with nothing open, in a loop, in an IF's first part, in its second part, and behind a construct that is closed.
pub nothing_open : tells ((33 ∷ []) ∷ (34 ∷ []) ∷ (36 ∷ []) ∷ (37 ∷ 33 ∷ []) ∷ []) ≡ (5, 0) ∷ (5, 0) ∷ (5, 0) ∷ (5, 1) ∷ []
unfolding computing or_zero told_as with_ops tells
nothing_open = refl

pub in_a_loop : tells ((35 ∷ 33 ∷ []) ∷ (35 ∷ 34 ∷ []) ∷ (35 ∷ 36 ∷ []) ∷ (35 ∷ 37 ∷ 36 ∷ []) ∷ []) ≡ (5, 1) ∷ (5, 1) ∷ (0, 0) ∷ (0, 0) ∷ []
unfolding computing or_zero told_as with_ops tells
in_a_loop = refl

pub in_a_first_part : tells ((32 ∷ 33 ∷ 34 ∷ []) ∷ (32 ∷ 34 ∷ []) ∷ (32 ∷ 36 ∷ []) ∷ (32 ∷ 37 ∷ 34 ∷ []) ∷ []) ≡ (0, 0) ∷ (0, 0) ∷ (5, 1) ∷ (0, 0) ∷ []
unfolding computing or_zero told_as with_ops tells
in_a_first_part = refl

pub in_a_second_part : tells ((32 ∷ 33 ∷ 33 ∷ []) ∷ (32 ∷ 33 ∷ 37 ∷ 34 ∷ []) ∷ (32 ∷ 33 ∷ 36 ∷ []) ∷ []) ≡ (5, 2) ∷ (0, 0) ∷ (5, 2) ∷ []
unfolding computing or_zero told_as with_ops tells
in_a_second_part = refl

pub behind_a_construct : tells
    ((32 ∷ 34 ∷ 33 ∷ []) ∷ (32 ∷ 34 ∷ 34 ∷ []) ∷ (35 ∷ 36 ∷ 36 ∷ []) ∷ (32 ∷ 33 ∷ 34 ∷ 34 ∷ []) ∷ (35 ∷ 36 ∷ 34 ∷ []) ∷ [])
    ≡ (5, 2) ∷ (5, 2) ∷ (5, 2) ∷ (5, 3) ∷ (5, 2) ∷ []
unfolding computing or_zero told_as with_ops tells
behind_a_construct = refl

-- The innermost construct decides, and an inner one leaves the outer one as it was: each IF has its own ELSE.
pub one_in_another : tells
    ((35 ∷ 32 ∷ 34 ∷ 36 ∷ [])
    ∷ (32 ∷ 35 ∷ 36 ∷ 33 ∷ 34 ∷ [])
    ∷ (32 ∷ 35 ∷ 34 ∷ [])
    ∷ (35 ∷ 32 ∷ 36 ∷ [])
    ∷ (32 ∷ 33 ∷ 32 ∷ 33 ∷ 34 ∷ 34 ∷ [])
    ∷ (32 ∷ 32 ∷ 33 ∷ 34 ∷ 33 ∷ 34 ∷ [])
    ∷ (32 ∷ 33 ∷ 32 ∷ 34 ∷ 33 ∷ [])
    ∷ (32 ∷ 33 ∷ 35 ∷ 36 ∷ 33 ∷ [])
    ∷ [])
    ≡ (0, 0) ∷ (0, 0) ∷ (5, 2) ∷ (5, 2) ∷ (0, 0) ∷ (0, 0) ∷ (5, 4) ∷ (5, 4) ∷ []
unfolding computing or_zero told_as with_ops tells
one_in_another = refl

-- Eight deep and nine deep, by IF, by WHILE and by both. BARRIER, TID, LOAD, ELSE and a construct behind a closed one go no deeper; the ninth one's row is told.
pub depth : tells
    ((replicate 8 32 ++ replicate 8 34)
    ∷ replicate 9 32
    ∷ (replicate 8 35 ++ replicate 8 36)
    ∷ replicate 9 35
    ∷ (replicate 8 32 ++ (35 ∷ []))
    ∷ (replicate 8 35 ++ (32 ∷ []))
    ∷ (replicate 8 32 ++ (37 ∷ 2 ∷ 16 ∷ 33 ∷ replicate 8 34))
    ∷ (32 ∷ 33 ∷ replicate 8 32)
    ∷ (37 ∷ 35 ∷ 36 ∷ replicate 9 35)
    ∷ (replicate 8 32 ++ (34 ∷ 32 ∷ replicate 8 34))
    ∷ (32 ∷ 34 ∷ 32 ∷ 34 ∷ 32 ∷ 34 ∷ 32 ∷ 34 ∷ 32 ∷ 34 ∷ 35 ∷ 36 ∷ 35 ∷ 36 ∷ 35 ∷ 36 ∷ 35 ∷ 36 ∷ 35 ∷ 36 ∷ [])
    ∷ [])
    ≡ (0, 0) ∷ (6, 8) ∷ (0, 0) ∷ (6, 8) ∷ (6, 8) ∷ (6, 8) ∷ (0, 0) ∷ (6, 9) ∷ (6, 11) ∷ (0, 0) ∷ (0, 0) ∷ []
unfolding computing or_zero told_as with_ops tells
depth = refl

-- 7 is told at the row that opened the innermost construct left open, not at its ELSE.
pub left_open_lem : tells
    ((32 ∷ [])
    ∷ (35 ∷ [])
    ∷ (32 ∷ 33 ∷ [])
    ∷ (32 ∷ 35 ∷ [])
    ∷ (35 ∷ 32 ∷ 33 ∷ 37 ∷ [])
    ∷ (32 ∷ 32 ∷ 34 ∷ [])
    ∷ (35 ∷ 36 ∷ 32 ∷ [])
    ∷ (37 ∷ 32 ∷ 35 ∷ 36 ∷ 33 ∷ [])
    ∷ [])
    ≡ (7, 0) ∷ (7, 0) ∷ (7, 0) ∷ (7, 1) ∷ (7, 1) ∷ (7, 0) ∷ (7, 2) ∷ (7, 1) ∷ []
unfolding computing or_zero told_as with_ops tells
left_open_lem = refl

-- Within a row 3, 4, 5, 6; an earlier row before a later one, whatever their refusals; 7 last.
pub order : map (λ t. told_as (table_refusal t))
    ((row_of 15 16 16 16 ∷ [])
    ∷ (row_of 33 1 0 0 ∷ [])
    ∷ (row_of 34 0 16 0 ∷ [])
    ∷ (row_of 36 0 0 1 ∷ [])
    ∷ (with_ops (replicate 8 32) ++ (row_of 32 0 16 0 ∷ []))
    ∷ (with_ops (replicate 8 35) ++ (row_of 35 1 0 0 ∷ []))
    ∷ (row_of 34 0 0 0 ∷ row_of 2 16 0 0 ∷ row_of 0 0 0 0 ∷ [])
    ∷ (row_of 2 16 0 0 ∷ row_of 34 0 0 0 ∷ row_of 0 0 0 0 ∷ [])
    ∷ (with_ops (replicate 9 32) ++ (row_of 0 0 0 0 ∷ row_of 2 16 0 0 ∷ []))
    ∷ (row_of 32 0 0 0 ∷ row_of 2 0 0 0 ∷ row_of 255 0 0 0 ∷ [])
    ∷ (row_of 32 0 0 0 ∷ row_of 35 0 0 0 ∷ row_of 2 0 1 0 ∷ [])
    ∷ [])
    ≡ (3, 0) ∷ (4, 0) ∷ (4, 0) ∷ (4, 0) ∷ (4, 8) ∷ (4, 8) ∷ (5, 0) ∷ (4, 0) ∷ (6, 8) ∷ (3, 2) ∷ (4, 2) ∷ []
unfolding computing or_zero told_as with_ops
order = refl

-- Row 0 IF, in it a loop (1 to 7) that has an IF with ELSE (2 to 6); 8 its ELSE, in it an IF (9 to 14) that has no ELSE of its own but an IF (10 to 13)
-- that has; 15 its ENDIF. 16 to 18 a loop.
unfoldable pub nested : Table
nested = with_ops (32 ∷ 35 ∷ 32 ∷ 37 ∷ 33 ∷ 37 ∷ 34 ∷ 36 ∷ 33 ∷ 32 ∷ 32 ∷ 33 ∷ 37 ∷ 34 ∷ 34 ∷ 34 ∷ 35 ∷ 37 ∷ 36 ∷ [])

-- The constructs open before each row and behind the last, innermost first; an IF is named by its ELSE once that is behind.
pub open_before_lem : map (open_before nested) (bytes_from 0 20) ≡
    []
    ∷ (0 ∷ [])
    ∷ (1 ∷ 0 ∷ [])
    ∷ (2 ∷ 1 ∷ 0 ∷ [])
    ∷ (2 ∷ 1 ∷ 0 ∷ [])
    ∷ (4 ∷ 1 ∷ 0 ∷ [])
    ∷ (4 ∷ 1 ∷ 0 ∷ [])
    ∷ (1 ∷ 0 ∷ [])
    ∷ (0 ∷ [])
    ∷ (8 ∷ [])
    ∷ (9 ∷ 8 ∷ [])
    ∷ (10 ∷ 9 ∷ 8 ∷ [])
    ∷ (11 ∷ 9 ∷ 8 ∷ [])
    ∷ (11 ∷ 9 ∷ 8 ∷ [])
    ∷ (9 ∷ 8 ∷ [])
    ∷ (8 ∷ [])
    ∷ []
    ∷ (16 ∷ [])
    ∷ (16 ∷ [])
    ∷ []
    ∷ []
unfolding computing bytes_from with_ops nested
open_before_lem = refl

-- The ends of IF, WHILE, IF, ELSE, ELSE, IF, IF, ELSE and WHILE.
pub ends : map (end_of nested) (0 ∷ 1 ∷ 2 ∷ 4 ∷ 8 ∷ 9 ∷ 10 ∷ 11 ∷ 16 ∷ []) ≡ 15 ∷ 7 ∷ 6 ∷ 6 ∷ 15 ∷ 14 ∷ 13 ∷ 13 ∷ 18 ∷ []
unfolding computing with_ops nested
ends = refl

-- Where the IFs go if they are false: behind their own ELSE, or to their ENDIF, past an inner ELSE and inner ends.
pub else_or_end : map (else_of nested) (0 ∷ 2 ∷ 9 ∷ 10 ∷ []) ≡ 9 ∷ 5 ∷ 14 ∷ 12 ∷ []
unfolding computing with_ops nested
else_or_end = refl

-- A construct that nothing closes ends behind the table.
pub no_end : let t = with_ops (37 ∷ 32 ∷ 37 ∷ []) in end_of t 1 ∷ else_of t 1 ∷ [] ≡ 3 ∷ 3 ∷ []
unfolding computing with_ops
no_end = refl

-- The WHILE of each ENDWHILE, the innermost construct of other rows, and 0 where none is open.
pub starts : map (start_of nested) (7 ∷ 18 ∷ 3 ∷ 12 ∷ 16 ∷ []) ≡ 1 ∷ 16 ∷ 2 ∷ 11 ∷ 0 ∷ []
unfolding computing with_ops nested
starts = refl

pub innermost_ops : map (λ r. innermost nested (open_before nested r)) (0 ∷ 1 ∷ 2 ∷ 3 ∷ 5 ∷ 7 ∷ 9 ∷ 12 ∷ 14 ∷ 17 ∷ 19 ∷ []) ≡
    UNKNOWN ∷ IF ∷ WHILE ∷ IF ∷ ELSE ∷ WHILE ∷ ELSE ∷ ELSE ∷ IF ∷ WHILE ∷ UNKNOWN ∷ []
unfolding computing bytes_from with_ops nested
innermost_ops = refl

pub roles : map role (CALC SET ∷ MEM OWN LOAD ∷ MEM GLOBAL STORE ∷ IF ∷ ELSE ∷ ENDIF ∷ WHILE ∷ ENDWHILE ∷ BARRIER ∷ UNKNOWN ∷ []) ≡
    plain ∷ plain ∷ plain ∷ opening ∷ dividing ∷ closing ∷ opening ∷ closing ∷ plain ∷ plain ∷ []
unfolding computing
roles = refl

-- Behind the table there is no row.
pub past_the_end : map (λ r. (row_at nested r).op) (17 ∷ 18 ∷ 19 ∷ 100 ∷ []) ≡ BARRIER ∷ ENDWHILE ∷ UNKNOWN ∷ UNKNOWN ∷ []
unfolding computing with_ops nested
past_the_end = refl

pub no_row : row_at nested 19 ≡ record { op = UNKNOWN; d = 0; a = 0; b = 0 }
unfolding computing with_ops nested
no_row = refl

-- Bodies of the grammar, their rows and their depth.
unfoldable pub bare : Op → Row
bare o = record { op = o; d = 0; a = 0; b = 0 }

-- Global accesses are plain rows: known, allowed in every construct and at every depth, opening and closing nothing.
unfoldable pub among_global : Table
among_global =
    bare IF
    ∷ bare (MEM GLOBAL LOAD)
    ∷ bare ELSE
    ∷ bare (MEM GLOBAL STORE)
    ∷ bare WHILE
    ∷ bare (MEM GLOBAL ATOMICADD)
    ∷ bare ENDWHILE
    ∷ bare ENDIF
    ∷ []

pub global_rows : map (λ t. told_as (table_refusal t))
    (among_global
    ∷ (with_ops (replicate 8 32) ++ (bare (MEM GLOBAL LOAD) ∷ with_ops (replicate 8 34)))
    ∷ (with_ops (replicate 8 32) ++ (bare (MEM GLOBAL LOAD) ∷ with_ops (32 ∷ [])))
    ∷ (with_ops (32 ∷ 35 ∷ []) ++ (bare (MEM GLOBAL STORE) ∷ []))
    ∷ (with_ops (34 ∷ []) ++ (bare (MEM GLOBAL STORE) ∷ []))
    ∷ [])
    ≡ (0, 0) ∷ (0, 0) ∷ (6, 9) ∷ (7, 1) ∷ (5, 0) ∷ []
unfolding computing or_zero told_as with_ops bare among_global
global_rows = refl

-- Where IF and ELSE go, the end of the loop and its start, over such rows.
pub over_global_rows : else_of among_global 0 ∷ end_of among_global 0 ∷ end_of among_global 2 ∷ end_of among_global 4 ∷ start_of among_global 6 ∷ [] ≡ 3 ∷ 7 ∷ 7 ∷ 6 ∷ 4 ∷ []
unfolding computing with_ops bare among_global
over_global_rows = refl

-- WHILE ENDWHILE; IF body ENDIF; IF body ELSE body ENDIF.
unfoldable pub a_loop : Body → Construct
unfolding bare
a_loop first = while (bare WHILE) refl first (bare ENDWHILE) refl

unfoldable pub an_if : Body → Construct
unfolding bare
an_if first = if_end (bare IF) refl first (bare ENDIF) refl

unfoldable pub a_choice : Body → Body → Construct
unfolding bare
a_choice first second = if_else (bare IF) refl first (bare ELSE) refl second (bare ENDIF) refl

unfoldable pub only : Construct → Body
only c = construct c empty

unfoldable pub a_barrier : Body → Body
unfolding computing bare
a_barrier rest = plain_row (bare BARRIER) refl rest

-- Empty; a BARRIER; an IF deeper in its second part, with a BARRIER behind it; one deeper in its first part; the deeper construct last, and first.
unfoldable pub bodies : List Body
bodies =
    empty
    ∷ a_barrier empty
    ∷ construct (a_choice (a_barrier (only (a_loop empty))) (only (an_if (only (an_if empty))))) (a_barrier empty)
    ∷ only (a_choice (only (a_loop (only (a_loop empty)))) (a_barrier empty))
    ∷ construct (a_loop empty) (only (an_if (only (a_loop (a_barrier empty)))))
    ∷ construct (an_if (only (a_loop empty))) (only (a_loop empty))
    ∷ []

pub body_rows_lem : map (λ b. body_rows b) bodies ≡ map with_ops
    ([]
    ∷ (37 ∷ [])
    ∷ (32 ∷ 37 ∷ 35 ∷ 36 ∷ 33 ∷ 32 ∷ 32 ∷ 34 ∷ 34 ∷ 34 ∷ 37 ∷ [])
    ∷ (32 ∷ 35 ∷ 35 ∷ 36 ∷ 36 ∷ 33 ∷ 37 ∷ 34 ∷ [])
    ∷ (35 ∷ 36 ∷ 32 ∷ 35 ∷ 37 ∷ 36 ∷ 34 ∷ [])
    ∷ (32 ∷ 35 ∷ 36 ∷ 34 ∷ 35 ∷ 36 ∷ [])
    ∷ [])
unfolding computing with_ops bare a_loop an_if a_choice only a_barrier bodies
body_rows_lem = refl

pub body_depths : map body_depth bodies ≡ 0 ∷ 0 ∷ 3 ∷ 3 ∷ 2 ∷ 2 ∷ []
unfolding computing bare a_loop an_if a_choice only a_barrier bodies
body_depths = refl
