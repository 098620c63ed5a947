-- Values as the source answers them, and as the definition does. Assumes nothing.
use Rattle.std.specs.Prelude as std
use Rattle.std.specs.Prelude.{List, [], ◌∷◌, Bool, true, false, cond, ℕ, get_or}
use Rattle.std.proofs.Math.Option.{Option, none, some}
use Rattle.spec.specs.Lists.{equal_list}
use Rattle.spec.specs.Text.{comma, split_at}
use Rattle.spec.specs.LaunchFile.{given, byte}
use Rattle.spec.specs.Table.{Row, row_of}

abbrev pub bytes_in : std.Option (List ℕ) → Option (List ℕ)
bytes_in (std.Some bytes) = some bytes
bytes_in std.None = none

abbrev pub word_in : Bool → Option (Unit {0})
word_in true = some tt
word_in false = none

-- A fixed text, given by its bytes.
unfoldable pub exact_bytes : List ℕ → List ℕ → Option (Unit {0})
exact_bytes word value = cond (equal_list value word) (some tt) none

-- Four numbers below 256.
unfoldable pub four_bytes : (op d a b : List ℕ) → Option (List ℕ)
four_bytes op d a b =
    given (byte op) λ op.
    given (byte d) λ d.
    given (byte a) λ a.
    given (byte b) λ b.
    some (op ∷ d ∷ a ∷ b ∷ [])

-- A row's value, byte by byte: a row of the definition does not tell which op was unknown.
unfoldable pub row_bytes : List ℕ → Option (List ℕ)
row_bytes value =
    given (split_at comma value) λ first.
    given (split_at comma first.behind) λ second.
    given (split_at comma second.behind) λ third.
    four_bytes first.before second.before third.before third.behind

-- The row of four bytes.
unfoldable pub as_row : List ℕ → Row
as_row bytes = row_of (get_or bytes 0 0) (get_or bytes 1 0) (get_or bytes 2 0) (get_or bytes 3 0)
