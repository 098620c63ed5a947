-- A text in two at a first byte. Assumes nothing.
use Rattle.std.specs.Prelude as std
use Rattle.std.specs.Prelude.{◌≡◌, List, [], ℕ}
use denote.Ref.{Bor}
use Rattle.std.proofs.Math.Option.{Option, none, some}
use Rattle.spec.specs.Text.{Halves, split_at}

-- The parts that the source answers, as the definition has them.
abbrev pub halves_of : std.Option (Bor (List ℕ) × Bor (List ℕ)) → Option Halves
halves_of std.None = none
halves_of (std.Some p) = some (record { before = p.0.now; behind = p.1.now })

-- The part before the first b, or else all; and the part behind it, or else none.
unfoldable pub front_in : List ℕ → Option Halves → List ℕ
front_in s none = s
front_in s (some h) = h.before

unfoldable pub back_in : Option Halves → List ℕ
back_in none = []
back_in (some h) = h.behind

unfoldable pub front_of : ℕ → List ℕ → List ℕ
front_of b s = front_in s (split_at b s)

unfoldable pub back_of : ℕ → List ℕ → List ℕ
back_of b s = back_in (split_at b s)
