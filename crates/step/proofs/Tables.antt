-- The table's bytes and their rows. Assumes nothing.
use mathlib.Core.Path.{◌≡◌, refl, sym, ◌∙◌, ap}
use mathlib.Core.List.{List, [], ◌∷◌, ◌++◌, map}
use Prim.Native.Nat.{ℕ, zero, suc, ◌+◌, ◌*◌, ◌<◌, ◌≤◌}
use native.Mathlib.Omega.{arith}
use native.Mathlib.Decide.{ℕ_discrete}
use lib.ListN.{length, get_or, drop}
use Rattle.spec.specs.Op.{Calc, SET, TID, COUNT, ADD, SUB, MUL, AND, OR, XOR, SHR, SAR, EQ, LT, SLT, Op, CALC, Mem, OWN, MEM, LOAD, STORE, ATOMICADD, UNKNOWN, op_of, op_table}
use Rattle.spec.specs.Table.{Row, row_of, rows_of, row_at}
use Rattle.spec.specs.LockStep.{LockState}
use Rattle.spec.proofs.Laws.{rows_length, row_bytes_lem}
use Rattle.layout.specs.declared.State.{State}
use Rattle.layout.specs.Memory.{ComputeAsks}
use Rattle.layout.specs.Represents.{Represents}

-- A row of the table, by its four bytes.
abbrev pub row_bytes : List ℕ → ℕ → Row
row_bytes t r = record { op = op_of (get_or t (r * 4) 0); d = get_or t (r * 4 + 1) 0; a = get_or t (r * 4 + 2) 0; b = get_or t (r * 4 + 3) 0 }

pub row_inside : (t : List ℕ) (r : ℕ) → r < length (rows_of t) → r * 4 + 3 < length t
row_inside t r h = omega (arith, rows_length t)

pub inside_row : (t : List ℕ) (r : ℕ) → r * 4 + 3 < length t → r < length (rows_of t)
inside_row t r h = omega (arith, rows_length t)

-- Ops 1 to 14 compute.
abbrev codes : List Calc
codes = SET ∷ TID ∷ COUNT ∷ ADD ∷ SUB ∷ MUL ∷ AND ∷ OR ∷ XOR ∷ SHR ∷ SAR ∷ EQ ∷ LT ∷ SLT ∷ []

code_at : (xs : List Calc) (ys : List Op) (k : ℕ) → k < length xs → get_or (map CALC xs ++ ys) k UNKNOWN ≡ CALC (get_or xs k SET)
code_at [] ys k h = absurd (omega arith)
code_at (x ∷ xs) ys zero h = refl
code_at (x ∷ xs) ys (suc k) h = code_at xs ys k (omega arith)

pub compute_op : (k : ℕ) → 1 ≤ k → k ≤ 14 → (c : Calc) × (op_of k ≡ CALC c)
unfolding op_of op_table
compute_op zero h l = absurd (omega arith)
compute_op (suc k) h l = (get_or codes k SET, code_at codes (drop 15 op_table) k (omega arith))

pub row_here : (t : List ℕ) (n : ℕ) (z : LockState) (s : State) (regs cells log saved openers : List ℕ)
    → Represents n z s regs cells log saved openers → s.row < length (rows_of t) → row_at (rows_of t) z.row ≡ row_bytes t s.row
unfolding row_of
row_here t n z s regs cells log saved openers R h = ap (row_at (rows_of t)) (sym R.row_is_lem) ∙ row_bytes_lem t s.row h

pub compute_asks : (op d a b d' a' b' : ℕ) → d' ≡ d → a' ≡ a → b' ≡ b → ComputeAsks op d a b → ComputeAsks op d' a' b'
compute_asks op d a b d' a' b' ed ea eb A =
    record {
      known = A.known;
      small = A.small;
      target = omega (arith, A.target);
      left = λ h. omega (arith, A.left h);
      right = λ h. omega (arith, A.right h);
    }

-- Ops 16 to 18 access a cell.
pub mem_op : (k : ℕ) → 16 ≤ k → k ≤ 18 → (m : Mem) × (op_of k ≡ MEM OWN m)
unfolding op_of op_table
mem_op k h l = by (ℕ_discrete k 16) (ℕ_discrete k 17)
  where
    by : Dec (k ≡ 16) → Dec (k ≡ 17) → (m : Mem) × (op_of k ≡ MEM OWN m)
    by (yes e) d = (LOAD, ap op_of e)
    by (no n) (yes e) = (STORE, ap op_of e)
    by (no n) (no f) = (ATOMICADD, ap op_of (let z : k ≡ 18 = omega arith in z))
