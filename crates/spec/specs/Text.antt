-- Text as bytes, and numbers in base ten. "The launch file and the report". Assumes nothing.
use Rattle.std.specs.Prelude.{List, [], ◌∷◌, ◌++◌, Bool, true, false, cond, not, ◌&&◌, ◌||◌, ℕ, zero, suc, ◌+◌, ◌-◌, ◌*◌, ◌/◌, ◌%◌, eqb, leb, ltb, length}
use Rattle.std.proofs.Math.Option.{Option, none, some}
use Prim.Native.Char.{code}
use Prim.Native.String as string
use Prim.Native.String.{String}
use Rattle.spec.specs.Lists.{every}

-- The bytes of a text that has only characters below 128.
unfoldable pub text : String → List ℕ
text string.[] = []
text (string.◌∷◌ c s) = code c ∷ text s

abbrev pub newline : ℕ
newline = 10

abbrev pub comma : ℕ
comma = 44

abbrev pub hyphen : List ℕ
hyphen = 45 ∷ []

abbrev pub equals : ℕ
equals = 61

abbrev pub zero_digit : ℕ
zero_digit = 48

-- A number in base ten without leading zeros. `k` bounds how often the number can be divided; the number itself is bound enough.
unfoldable pub digits_within : ℕ → ℕ → List ℕ
digits_within zero n = (zero_digit + n) ∷ []
digits_within (suc k) n = elim (ltb n 10) [ true ↦ (zero_digit + n) ∷ [] | false ↦ digits_within k (n / 10) ++ ((zero_digit + n % 10) ∷ []) ]

unfoldable pub decimal : ℕ → List ℕ
decimal n = digits_within n n

-- A number as a launch file has it: digits, at least one, and no leading zero (0 is one digit).
unfoldable pub is_digit : ℕ → Bool
is_digit b = leb zero_digit b && ltb b (zero_digit + 10)

unfoldable pub is_number : List ℕ → Bool
is_number [] = false
is_number (b ∷ bs) = every is_digit (b ∷ bs) && (not (eqb b zero_digit) || eqb (length bs) 0)

unfoldable pub digits_value : ℕ → List ℕ → ℕ
digits_value sofar [] = sofar
digits_value sofar (b ∷ bs) = digits_value (10 * sofar + (b - zero_digit)) bs

-- Its value, where that is below the bound.
unfoldable pub number_below : ℕ → List ℕ → Option ℕ
number_below bound bs = cond (is_number bs && ltb (digits_value 0 bs) bound) (some (digits_value 0 bs)) none

-- The bytes before the first b, and those after it.
pub record Halves : Type 0 where
  pub before : List ℕ
  pub behind : List ℕ

unfoldable pub starting_with : ℕ → Option Halves → Option Halves
starting_with x none = none
starting_with x (some h) = some (record { before = x ∷ h.before; behind = h.behind })

unfoldable pub split_at : ℕ → List ℕ → Option Halves
split_at b [] = none
split_at b (x ∷ xs) = cond (eqb x b) (some (record { before = []; behind = xs })) (starting_with x (split_at b xs))
