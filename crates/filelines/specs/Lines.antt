-- The first line of what is left of a file: whether it has a key, its value, and what is behind it. Assumes nothing.
use Rattle.std.specs.Prelude.{List, Bool, false, cond, ℕ, suc}
use Rattle.std.proofs.Math.Option.{Option, none, some}
use Rattle.spec.specs.Lists.{equal_list}
use Rattle.spec.specs.Text.{Halves, split_at, newline, equals}
use Rattle.spec.specs.LaunchFile.{Read, stop, read}
use Rattle.spec.specs.declared.Refusal.TheVariants.{LineNotDue}
use Rattle.text.specs.Parts.{front_of, back_of}

unfoldable pub name_is : List ℕ → Option Halves → Bool
name_is key none = false
name_is key (some parts) = equal_list parts.before key

unfoldable pub line_named : List ℕ → Option Halves → Bool
line_named key none = false
line_named key (some line) = name_is key (split_at equals line.before)

-- The first line is ended, and is `key=..`.
unfoldable pub keyed : List ℕ → List ℕ → Bool
keyed key rest = line_named key (split_at newline rest)

-- The part of the first line after its first `=`; and the text behind the line.
unfoldable pub value_in : List ℕ → List ℕ
value_in rest = back_of equals (front_of newline rest)

unfoldable pub next_in : List ℕ → List ℕ
next_in rest = back_of newline rest

unfoldable pub keyed_value : {A : Type 0} → List ℕ → (List ℕ → Option A) → List ℕ → Option A
keyed_value key reads rest = cond (keyed key rest) (reads (value_in rest)) none

-- What a line comes to that has been read, or is not the one due.
unfoldable pub line_read : {A : Type 0} → ℕ → Option A → List ℕ → Read A
line_read line none rest = stop (LineNotDue line)
line_read line (some a) rest = read a (suc line) rest
