-- A number as the source answers it, and as the definition does. Assumes nothing.
use Rattle.std.proofs.Math.Option.{Option, none, some}
use Rattle.std.specs.Prelude as std
use Rattle.std.specs.Prelude.{List, cond, ◌&&◌, ℕ, ltb}
use Rattle.spec.specs.Lists.{every}
use Rattle.spec.specs.Text.{is_digit, digits_value}

abbrev pub number_of : std.Option ℕ → Option ℕ
number_of (std.Some v) = some v
number_of std.None = none

-- Digits alone, put behind a value so far; leading zeros are not looked at.
unfoldable pub digits_below : (bound sofar : ℕ) → List ℕ → Option ℕ
digits_below bound sofar bs = cond (every is_digit bs && ltb (digits_value sofar bs) bound) (some (digits_value sofar bs)) none
