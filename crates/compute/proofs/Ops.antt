-- The lanes of each op hold the op's values. Assumes nothing.
use mathlib.Core.Path.{◌≡◌, refl}
use Prim.Native.Nat.{ℕ, ◌+◌, ◌≤◌}
use native.Mathlib.Omega.{arith}
use lib.Bits.{bit_and, bit_or, bit_xor}
use Rattle.spec.specs.Word.{add, sub, mul, shr, sar, equal, less, signed_less}
use Rattle.spec.specs.Op.{Calc, ADD, SUB, MUL, AND, OR, XOR, SHR, SAR, EQ, LT, SLT, CALC, value, op_table, op_of}

-- Op number k is d, which gives f of its two registers.
pub record OpIs (k : ℕ) (d : Calc) (f : ℕ → ℕ → ℕ) : Type 0 where
  pub op_is : op_of k ≡ CALC d
  pub gives : value d ≡ (λ n t u a b x y. f x y)

entry : {k : ℕ} {d : Calc} {f : ℕ → ℕ → ℕ} → op_of k ≡ CALC d → value d ≡ (λ n t u a b x y. f x y) → OpIs k d f
entry p q = record { op_is = p; gives = q }

pub ops_are : OpIs 4 ADD add × OpIs 5 SUB sub × OpIs 6 MUL mul × OpIs 7 AND bit_and × OpIs 8 OR bit_or × OpIs 9 XOR bit_xor × OpIs 10 SHR shr
    × OpIs 11 SAR sar × OpIs 12 EQ equal × OpIs 13 LT less × OpIs 14 SLT signed_less
unfolding op_of op_table value
ops_are = (
  entry refl refl,
  entry refl refl,
  entry refl refl,
  entry refl refl,
  entry refl refl,
  entry refl refl,
  entry refl refl,
  entry refl refl,
  entry refl refl,
  entry refl refl,
  entry refl refl,
)

-- The op of a number is one.
pub same_op : (op k : ℕ) (c d : Calc) → op ≡ k → op_of k ≡ CALC d → op_of op ≡ CALC c → d ≡ c
same_op op k c d e p q = cc

-- The last arm of ops 1 to 14.
past_five : (k op : ℕ) → k ≤ op → (op ≡ k → ⊥) → (op ≡ k + 1 → ⊥) → (op ≡ k + 2 → ⊥) → (op ≡ k + 3 → ⊥) → (op ≡ k + 4 → ⊥) → k + 5 ≤ op
past_five k op h n₀ n₁ n₂ n₃ n₄ = omega arith

pub past_three : (op : ℕ) → 1 ≤ op → (op ≡ 1 → ⊥) → (op ≡ 2 → ⊥) → (op ≡ 3 → ⊥) → 4 ≤ op
past_three op h n₁ n₂ n₃ = omega arith

pub last_op : (op : ℕ) → 1 ≤ op → op ≤ 14 → (op ≡ 1 → ⊥) → (op ≡ 2 → ⊥) → (op ≡ 3 → ⊥)
    → (op ≡ 4 → ⊥) → (op ≡ 5 → ⊥) → (op ≡ 6 → ⊥) → (op ≡ 7 → ⊥) → (op ≡ 8 → ⊥)
    → (op ≡ 9 → ⊥) → (op ≡ 10 → ⊥) → (op ≡ 11 → ⊥) → (op ≡ 12 → ⊥) → (op ≡ 13 → ⊥) → op ≡ 14
last_op op h l n₁ n₂ n₃ n₄ n₅ n₆ n₇ n₈ n₉ n₁₀ n₁₁ n₁₂ n₁₃ =
    let k : 14 ≤ op = past_five 9 op (past_five 4 op (past_three op h n₁ n₂ n₃) n₄ n₅ n₆ n₇ n₈) n₉ n₁₀ n₁₁ n₁₂ n₁₃ in
    omega (arith, l, k)
