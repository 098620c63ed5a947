-- So many lines of one kind, of which the first `good` were due: what they say, and what is left behind them. Assumes nothing.
use denote.Ref.{Bor}
use Rattle.std.specs.Prelude.{◌≡◌, Result, Ok, Err, List, [], ◌∷◌, cond, ℕ, ◌+◌, ◌*◌, ◌<◌, ◌≤◌, ltb, length, take, drop, set}
use Prim.Native.String.{String}
use Rattle.contents.specs.declared.Undue.{Undue}
use Rattle.spec.specs.Text.{text}
use Rattle.spec.specs.LaunchFile.{Read, stop, read, times, due, number}
use Rattle.filelines.specs.Values.{row_bytes}
use Rattle.spec.specs.declared.Refusal.TheVariants.{LineNotDue}

-- Line `line` is the first of them.
unfoldable pub taken : {A : Type 0} → (n line good : ℕ) → List A → (rest : List ℕ) → Read (List A)
taken n line good xs rest = cond (ltb good n) (stop (LineNotDue (line + good))) (read xs (line + n) rest)

abbrev pub put_row : List ℕ → ℕ → (op d a b : ℕ) → List ℕ
put_row table at op d a b = set (set (set (set table at op) (at + 1) d) (at + 2) a) (at + 3) b

-- Bytes by fours, as the row lines give them.
unfoldable pub fours_of : List ℕ → List (List ℕ)
fours_of [] = []
fours_of (op ∷ []) = []
fours_of (op ∷ d ∷ []) = []
fours_of (op ∷ d ∷ a ∷ []) = []
fours_of (op ∷ d ∷ a ∷ b ∷ rest) = (op ∷ d ∷ a ∷ b ∷ []) ∷ fours_of rest

-- n rows: the bytes of the good lines go to the table's front, and all behind them is as it was.
pub record RowsTaken (n : ℕ) (file table after : List ℕ) (good : ℕ) (rest : List ℕ) : Type 0 where
  pub within : good ≤ n
  pub lines : (line : ℕ) → times n (due "row" row_bytes) line file ≡ taken n line good (fours_of (take (4 * n) after)) rest
  pub front : (line : ℕ) → times good (due "row" row_bytes) line file ≡ read (fours_of (take (4 * good) after)) (line + good) rest
  pub long : length after ≡ 1024
  pub kept : drop (4 * good) after ≡ drop (4 * good) table

-- n cells, whose lines have the key of these bytes: the words of the good lines go to the front, and all behind them is as it was.
pub record CellsTaken (key : List ℕ) (n : ℕ) (file cells after : List ℕ) (good : ℕ) (rest : List ℕ) : Type 0 where
  pub within : good ≤ n
  pub lines : (name : String) → text name ≡ key → (line : ℕ) → times n (due name number) line file ≡ taken n line good (take n after) rest
  pub front : (name : String) → text name ≡ key → (line : ℕ) → times good (due name number) line file ≡ read (take good after) (line + good) rest
  pub long : length after ≡ length cells
  pub kept : drop good after ≡ drop good cells

-- All n lines were due, or only so many before one that was not.
abbrev pub RowsRead : (n : ℕ) → (file table after : List ℕ) → Result (Bor (List ℕ)) Undue → Type 0
RowsRead n file table after (Ok rest) = RowsTaken n file table after n rest.now
RowsRead n file table after (Err u) = (u.good < n) × RowsTaken n file table after u.good u.rest.now

abbrev pub CellsRead : (key : List ℕ) (n : ℕ) → (file cells after : List ℕ) → Result (Bor (List ℕ)) Undue → Type 0
CellsRead key n file cells after (Ok rest) = CellsTaken key n file cells after n rest.now
CellsRead key n file cells after (Err u) = (u.good < n) × CellsTaken key n file cells after u.good u.rest.now
