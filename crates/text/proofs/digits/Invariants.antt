-- `text::digits` meets its contract: the digits left, put behind the value so far, are the whole, and the value is below the bound. Assumes nothing.
use mathlib.Core.Path.{◌≡◌}
use Prim.Native.Nat.{◌<◌}
use lib.ListN.{drop}
use Rattle.text.specs.Numbers.{digits_below}
use Rattle.text.proofs.digits.Given as goal

abbrev pub invariant-loop-byte : goal.invariant-loop-byte
invariant-loop-byte l = (l.value < l.bound) × (digits_below l.bound l.value (drop l.byte-index l.s) ≡ digits_below l.bound 0 l.s)
