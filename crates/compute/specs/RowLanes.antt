-- What a computing row gives each lane, and what its store does there. Assumes nothing.
use Rattle.std.specs.Prelude.{◌≡◌, List, length, cond, ℕ, ◌+◌, ◌*◌, ◌/◌, ◌%◌, ◌^◌, ◌<◌, eqb, get_or}
use Rattle.spec.specs.Op.{Calc, CALC, value, op_of}
use Rattle.layout.specs.Memory.{lane, KeptBut}

-- The values of an op in all 32 lanes, in this group of the launch.
pub record CalcLanes (c : Calc) (group n a b : ℕ) (regs v : List ℕ) : Type 0 where
  pub at : (t : ℕ) → t < 32 → get_or v t 0 ≡ value c n t (group * n + t) a b (lane a regs t) (lane b regs t)

-- The values of a computing row by its op's byte, in every group.
pub record RowLanes (op n a b : ℕ) (regs v : List ℕ) : Type 0 where
  pub of : (c : Calc) → op_of op ≡ CALC c → (group : ℕ) → CalcLanes c group n a b regs v

-- A lane that is on is given x, any other is as it was.
abbrev pub given : (on x d : ℕ) (regs : List ℕ) → ℕ → ℕ
given on x d regs t = cond (eqb on 1) x (lane d regs t)

abbrev pub picked : (v on : List ℕ) (d : ℕ) (regs : List ℕ) → ℕ → ℕ
picked v on d regs t = given (get_or on t 0) (get_or v t 0) d regs t

-- The launch numbers, where the bit of `on` is 1.
abbrev pub numbered : (group n on d : ℕ) (regs : List ℕ) → ℕ → ℕ
numbered group n on d regs t = given (on / 2 ^ t % 2) (group * n + t) d regs t

-- R tells of each of the first t lanes of register d, and all else is as it was.
pub record Stores (d : ℕ) (R : ℕ → ℕ → Type 0) (regs regs' : List ℕ) (t : ℕ) : Type 0 where
  pub size : length regs' ≡ length regs
  pub below : (j : ℕ) → j < t → R j (lane d regs' j)
  pub above : KeptBut d t regs regs'
