-- The costs that are remembered: sixteen slots of 34 words, each with the numbers of 32 threads, their mask and their cost. Assumes nothing.
use Rattle.std.specs.Prelude.{◌≡◌, ◌⊎◌, List, map, ℕ, ◌+◌, ◌*◌, ◌<◌, ◌≤◌, length, get_or}
use Rattle.spec.specs.Word.{add, sub}
use Rattle.spec.specs.Mask.{Mask, mask_word, members}
use Rattle.spec.specs.Banks.{conflict_cost}
use Rattle.banks.specs.Counting.{AllCells, Known, Older, own}

-- The first n numbers of two rows, at one distance from each other.
abbrev pub AtOneDistance : (n : ℕ) → (cell other : ℕ → ℕ) → Type 0
AtOneDistance n cell other = (t : ℕ) → t < n → sub (cell t) (other t) ≡ sub (cell 0) (other 0)

-- The cost is that of the numbers, which are cells'.
abbrev pub CostOf : (cell : ℕ → ℕ) → (mask cost : ℕ) → Type 0
CostOf cell mask cost = (E : Mask) → mask ≡ mask_word E → length E ≤ 32 → AllCells (map cell (members E)) × (cost ≡ conflict_cost (map cell (members E)))

-- What stands from `at` on.
abbrev pub lanes_from : (memo : List ℕ) → (at t : ℕ) → ℕ
lanes_from memo at t = get_or memo (at + t) 0

pub record Memo (memo : List ℕ) : Type 0 where
  pub size : length memo ≡ 544
  pub each : (slot : ℕ) → slot < 16 → CostOf (lanes_from memo (slot * 34)) (get_or memo (slot * 34 + 32) 0) (get_or memo (slot * 34 + 33) 0)
  pub few : (slot : ℕ) → slot < 16 → get_or memo (slot * 34 + 33) 0 ≤ 31

-- A row's numbers, mask and cost stand from `at` on, and all else is as it was.
pub record Remembered (cell : ℕ → ℕ) (mask cost at : ℕ) (memo memo' : List ℕ) : Type 0 where
  pub size : length memo' ≡ length memo
  pub lanes : (t : ℕ) → t < 32 → lanes_from memo' at t ≡ cell t
  pub mask_is_lem : get_or memo' (at + 32) 0 ≡ mask
  pub cost_is : get_or memo' (at + 33) 0 ≡ cost
  pub others : (i : ℕ) → (i < at) ⊎ (at + 34 ≤ i) → get_or memo' i 0 ≡ get_or memo i 0

-- Two rows at one distance that is within 1,024 either way.
abbrev pub Nearby : (cell other : ℕ → ℕ) → Type 0
Nearby cell other = add (sub (cell 0) (other 0)) 1024 < 2048

-- What a row of n threads costs, where its numbers are all cells' or common cells'.
pub record RowCosts (cell : ℕ → ℕ) (n mask stamp r : ℕ) (stamps' memo' : List ℕ) : Type 0 where
  pub cost_is : (E : Mask) → mask ≡ mask_word E → length E ≡ n → Known (map cell (members E)) → r ≡ conflict_cost (own (map cell (members E)))
  pub few : r ≤ 31
  pub older : Older (stamp + 1) stamps'
  pub memo : Memo memo'
