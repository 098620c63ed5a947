-- The ops of a kernel table, their numbers and their operands. "The kernel table". Assumes nothing.
use Rattle.std.specs.Prelude.{List, ◌∷◌, ◌++◌, Bool, true, ◌&&◌, ℕ, ◌+◌, ◌*◌, eqb, ltb, get_or, replicate}
use Rattle.std.specs.Int.Bits.{bit_and, bit_or, bit_xor}
use Rattle.spec.specs.Limits.{registers}
use Rattle.spec.specs.Word.{add, sub, mul, shr, sar, equal, less, signed_less}

-- Ops that compute a register. TID is a thread's number in its group, LAUNCHTID (item 7) its number in the launch.
pub data Calc : Type 0 where
  SET TID COUNT LAUNCHTID ADD SUB MUL AND OR XOR SHR SAR EQ LT SLT : Calc

-- Where an access has its cell: among those of its group, or among the global ones. Item 7.
pub data Space : Type 0 where
  OWN GLOBAL : Space

-- What it does there.
pub data Mem : Type 0 where
  LOAD STORE ATOMICADD : Mem

-- UNKNOWN stands for every byte that is no op. A table that has one is refused, so no run comes to it.
pub data Op : Type 0 where
  CALC : Calc → Op
  MEM : Space → Mem → Op
  IF ELSE ENDIF WHILE ENDWHILE BARRIER UNKNOWN : Op

-- The op of each of the 256 byte values.
unfoldable pub op_table : List Op
op_table =
    UNKNOWN ∷ CALC SET ∷ CALC TID ∷ CALC COUNT ∷ CALC ADD ∷ CALC SUB ∷ CALC MUL ∷ CALC AND
    ∷ CALC OR ∷ CALC XOR ∷ CALC SHR ∷ CALC SAR ∷ CALC EQ ∷ CALC LT ∷ CALC SLT ∷ UNKNOWN
    ∷ MEM OWN LOAD ∷ MEM OWN STORE ∷ MEM OWN ATOMICADD ∷ CALC LAUNCHTID
    ∷ MEM GLOBAL LOAD ∷ MEM GLOBAL STORE ∷ MEM GLOBAL ATOMICADD ∷ replicate 9 UNKNOWN
    ++ (IF ∷ ELSE ∷ ENDIF ∷ WHILE ∷ ENDWHILE ∷ BARRIER ∷ replicate 218 UNKNOWN)

unfoldable pub op_of : ℕ → Op
op_of byte = get_or op_table byte UNKNOWN

-- Which of the bytes d, a, b an op uses: all as registers but for SET's a and b, which are any bytes.
pub data Form : Type 0 where
  set_form d_form dab_form da_form a_form no_form unknown_form : Form

unfoldable pub form : Op → Form
form (CALC SET) = set_form
form (CALC TID) = d_form
form (CALC COUNT) = d_form
form (CALC LAUNCHTID) = d_form
form (CALC ADD) = dab_form
form (CALC SUB) = dab_form
form (CALC MUL) = dab_form
form (CALC AND) = dab_form
form (CALC OR) = dab_form
form (CALC XOR) = dab_form
form (CALC SHR) = dab_form
form (CALC SAR) = dab_form
form (CALC EQ) = dab_form
form (CALC LT) = dab_form
form (CALC SLT) = dab_form
form (MEM p m) = da_form
form IF = a_form
form ELSE = no_form
form ENDIF = no_form
form WHILE = a_form
form ENDWHILE = no_form
form BARRIER = no_form
form UNKNOWN = unknown_form

-- The form of each of the 256 byte values.
unfoldable pub form_of : ℕ → Form
form_of byte = form (op_of byte)

unfoldable pub is_register : ℕ → Bool
is_register x = ltb x registers

unfoldable pub is_unused : ℕ → Bool
is_unused x = eqb x 0

-- "Turned back", 4: registers are 0 to 15, and a byte that the op does not use is 0.
unfoldable pub operands_fit : Form → (d a b : ℕ) → Bool
operands_fit set_form d a b = is_register d
operands_fit d_form d a b = is_register d && is_unused a && is_unused b
operands_fit dab_form d a b = is_register d && is_register a && is_register b
operands_fit da_form d a b = is_register d && is_register a && is_unused b
operands_fit a_form d a b = is_unused d && is_register a && is_unused b
operands_fit no_form d a b = is_unused d && is_unused a && is_unused b
operands_fit unknown_form d a b = true

-- What a computing row gives: n threads in the group, thread t of it, whose launch number is u, the row's bytes a and b, and x and y for Ra and Rb.
unfoldable pub value : Calc → (n t u a b x y : ℕ) → ℕ
value SET n t u a b x y = a + 256 * b
value TID n t u a b x y = t
value COUNT n t u a b x y = n
value LAUNCHTID n t u a b x y = u
value ADD n t u a b x y = add x y
value SUB n t u a b x y = sub x y
value MUL n t u a b x y = mul x y
value AND n t u a b x y = bit_and x y
value OR n t u a b x y = bit_or x y
value XOR n t u a b x y = bit_xor x y
value SHR n t u a b x y = shr x y
value SAR n t u a b x y = sar x y
value EQ n t u a b x y = equal x y
value LT n t u a b x y = less x y
value SLT n t u a b x y = signed_less x y
