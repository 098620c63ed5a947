-- The form and the op of each of the 256 byte values, in document 01's order. Assumes nothing.
use mathlib.Core.Path.{◌≡◌, refl}
use mathlib.Core.List.{List, [], ◌∷◌, ◌++◌, map}
use Prim.Native.Nat.{ℕ, zero, suc}
use lib.ListN.{length, replicate}
use Rattle.spec.specs.Op.{CALC, OWN, GLOBAL, MEM, IF, ELSE, ENDIF, WHILE, ENDWHILE, BARRIER, UNKNOWN, op_of}
use Rattle.spec.specs.Op.{SET, TID, COUNT, LAUNCHTID, ADD, SUB, MUL, AND, OR, XOR, SHR, SAR, EQ, LT, SLT, LOAD, STORE, ATOMICADD}
use Rattle.spec.specs.Op.{set_form, d_form, dab_form, da_form, a_form, no_form, unknown_form, op_table, form, form_of}
use Rattle.spec.proofs.Computing.{computing}

unfoldable pub bytes_from : ℕ → ℕ → List ℕ
bytes_from first zero = []
bytes_from first (suc n) = first ∷ bytes_from (suc first) n

-- 1 SET; 2 TID, 3 COUNT; 4 to 14; 16 LOAD, 17 STORE, 18 ATOMIC ADD; 19 launch number; 20 to 22 the same of global cells; 32 IF, 33 ELSE, 34 ENDIF, 35 WHILE, 36 ENDWHILE, 37 BARRIER.
pub forms : map form_of (bytes_from 0 256) ≡
    (unknown_form ∷ set_form ∷ d_form ∷ d_form ∷ replicate 11 dab_form)
    ++ (unknown_form ∷ da_form ∷ da_form ∷ da_form ∷ d_form ∷ da_form ∷ da_form ∷ da_form ∷ replicate 9 unknown_form)
    ++ (a_form ∷ no_form ∷ no_form ∷ a_form ∷ no_form ∷ no_form ∷ replicate 218 unknown_form)
unfolding computing bytes_from
forms = refl

pub op_table_size : length op_table ≡ 256
unfolding computing
op_table_size = refl

-- The op itself of each byte value, and of 256, which is no byte.
pub ops : map op_of (bytes_from 0 257) ≡
    UNKNOWN
    ∷ map CALC (SET ∷ TID ∷ COUNT ∷ ADD ∷ SUB ∷ MUL ∷ AND ∷ OR ∷ XOR ∷ SHR ∷ SAR ∷ EQ ∷ LT ∷ SLT ∷ [])
    ++ (UNKNOWN ∷ MEM OWN LOAD ∷ MEM OWN STORE ∷ MEM OWN ATOMICADD ∷ CALC LAUNCHTID ∷ MEM GLOBAL LOAD ∷ MEM GLOBAL STORE ∷ MEM GLOBAL ATOMICADD ∷ replicate 9 UNKNOWN)
    ++ (IF ∷ ELSE ∷ ENDIF ∷ WHILE ∷ ENDWHILE ∷ BARRIER ∷ replicate 219 UNKNOWN)
unfolding computing bytes_from
ops = refl

-- The launch number has the form of TID.
pub form_of_launch_number : form (CALC LAUNCHTID) ≡ d_form
unfolding computing
form_of_launch_number = refl

-- Accesses have one form, wherever their cells are.
pub forms_of_accesses :
    map (λ m. form (MEM OWN m)) (LOAD ∷ STORE ∷ ATOMICADD ∷ []) ++ map (λ m. form (MEM GLOBAL m)) (LOAD ∷ STORE ∷ ATOMICADD ∷ []) ≡ replicate 6 da_form
unfolding computing
forms_of_accesses = refl
