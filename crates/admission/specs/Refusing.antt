-- The answer of a check, said as a refusal. Assumes nothing.
use Rattle.std.proofs.Math.Option.{Option, none, some}
use Rattle.std.specs.Prelude.{◌≡◌, ℕ, Result, Ok, Err}
use Rattle.spec.specs.declared.Refusal.{Refusal}
use Rattle.spec.specs.Shape.{sizes}
use Rattle.spec.specs.Entries.{bare_lent}

abbrev pub refusal_of : {T : Type 0} → Result T Refusal → Option Refusal
refusal_of (Ok x) = none
refusal_of (Err why) = some why

-- What the lent buffers are refused for, however many threads there are.
abbrev pub LentIs : (groups cells global held shared logged recorded : ℕ) → Option Refusal → Type 0
LentIs groups cells global held shared logged recorded r = (threads : ℕ) → r ≡ bare_lent (sizes threads cells groups global) held shared logged recorded
