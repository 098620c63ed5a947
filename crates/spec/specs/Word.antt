-- Words: numbers below 2 ^ 32. "The kernel table", the ops that compute. Assumes nothing.
use Rattle.std.specs.Prelude.{Bool, cond, ℕ, suc, ◌+◌, ◌-◌, ◌*◌, ◌/◌, ◌%◌, ◌^◌, eqb, ltb, ℤ, pos, negsuc}
use Rattle.std.specs.Int.Signed.{lt_z, shr_z}

-- ADD, SUB and MUL, modulo 2 ^ 32.
abbrev pub add : ℕ → ℕ → ℕ
add x y = (x + y) % 2 ^ 32

abbrev pub sub : ℕ → ℕ → ℕ
sub x y = (x + 2 ^ 32 - y) % 2 ^ 32

abbrev pub mul : ℕ → ℕ → ℕ
mul x y = x * y % 2 ^ 32

-- A word read as two's complement: from 2 ^ 31 on it is its own value less 2 ^ 32 (`negsuc k` is the integer - k - 1). And the word of such a value.
abbrev pub signed : ℕ → ℤ
signed x = cond (ltb x (2 ^ 31)) (pos x) (negsuc (2 ^ 32 - suc x))

abbrev pub unsigned : ℤ → ℕ
unsigned (pos n) = n
unsigned (negsuc n) = 2 ^ 32 - suc n

-- A shift takes its amount modulo 32, as OpenCL C has it (document 02, item 3): so many places it goes.
abbrev pub places : ℕ → ℕ
places y = y % 32

-- SHR: zeros come in from above, which is the word over 2 to so many places, rounded down.
abbrev pub shr : ℕ → ℕ → ℕ
shr x y = x / 2 ^ places y

-- SAR: the top bit comes in from above, which is the signed value over 2 to so many places, rounded down.
abbrev pub sar : ℕ → ℕ → ℕ
sar x y = unsigned (shr_z (signed x) (2 ^ places y))

-- EQ, LT and SLT give 1 or 0.
abbrev pub truth : Bool → ℕ
truth b = cond b 1 0

abbrev pub equal : ℕ → ℕ → ℕ
equal x y = truth (eqb x y)

abbrev pub less : ℕ → ℕ → ℕ
less x y = truth (ltb x y)

abbrev pub signed_less : ℕ → ℕ → ℕ
signed_less x y = truth (lt_z (signed x) (signed y))
