-- How stamps and counts stand for the cells that a row has used. Assumes nothing.
use Rattle.std.specs.Prelude.{◌≡◌, ◌⊎◌, List, [], ◌∷◌, map, true, false, ℕ, ◌+◌, ◌-◌, ◌*◌, ◌<◌, ◌≤◌, eqb, ltb, length, get_or}
use Rattle.spec.specs.Limits.{banks, common_from}
use Rattle.spec.specs.Lists.{any_of, passing}
use Rattle.spec.specs.Mask.{Mask, mask_word, members}
use Rattle.spec.specs.Banks.{different, in_bank, most_in_bank, conflict_cost}

-- Every stamp is an earlier row's.
pub record Older (stamp : ℕ) (stamps : List ℕ) : Type 0 where
  pub size : length stamps ≡ 1024
  pub below : (i : ℕ) → i < 1024 → get_or stamps i 0 < stamp

-- The cells used so far, by the row with this stamp.
pub record Banked (used : List ℕ) (stamp : ℕ) (stamps counts : List ℕ) (most : ℕ) : Type 0 where
  pub size : length stamps ≡ 1024
  pub sixteen : length counts ≡ 16
  pub marked : (i : ℕ) → i < 1024 → any_of (eqb i) used ≡ true → get_or stamps i 0 ≡ stamp
  pub unmarked : (i : ℕ) → i < 1024 → any_of (eqb i) used ≡ false → get_or stamps i 0 < stamp
  pub each : (b : ℕ) → b < 16 → get_or counts b 0 ≡ in_bank b (different used)
  pub most_is : most ≡ most_in_bank banks (different used)

-- No count is above the largest, which has room for one more.
pub record Fit (counts : List ℕ) (most : ℕ) : Type 0 where
  pub room : most < 4294967295
  pub below : (b : ℕ) → b < 16 → get_or counts b 0 ≤ most

-- Cell i is one of the used cells now.
pub record Counted (stamp i : ℕ) (stamps counts : List ℕ) (most : ℕ) (stamps' counts' : List ℕ) (most' : ℕ) : Type 0 where
  pub grows : most' ≤ most + 1
  pub fits : (b : ℕ) → b < 16 → get_or counts' b 0 ≤ most'
  pub older : Older (stamp + 1) stamps → Older (stamp + 1) stamps'
  pub banked : (used : List ℕ) → Banked used stamp stamps counts most → Banked (i ∷ used) stamp stamps' counts' most'

-- The numbers in register r, thread by thread.
abbrev pub numbers_in : (regs : List ℕ) → (r t : ℕ) → ℕ
numbers_in regs r t = get_or regs (r * 32 + t) 0

-- The same of the register's own words.
abbrev pub numbers_of : (numbers : List ℕ) → (t : ℕ) → ℕ
numbers_of numbers t = get_or numbers t 0

-- Each of these numbers is a cell's.
abbrev pub AllCells : List ℕ → Type 0
AllCells [] = Unit {0}
AllCells (c ∷ cs) = (c < 1024) × AllCells cs

-- Item 12: each of these numbers is a cell's or a common cell's.
abbrev pub Known : List ℕ → Type 0
Known [] = Unit {0}
Known (c ∷ cs) = ((c < 1024) ⊎ ((common_from ≤ c) × (c < common_from + 256))) × Known cs

-- None of the first n numbers is an own cell's.
abbrev pub AllFar : (n : ℕ) → (cell : ℕ → ℕ) → Type 0
AllFar n cell = (t : ℕ) → t < n → common_from ≤ cell t

-- Those that can cost something.
abbrev pub own : List ℕ → List ℕ
own cs = passing (λ c. ltb c common_from) cs

-- Those that are cells'.
abbrev pub cells_of : List ℕ → List ℕ
cells_of cs = passing (λ c. ltb c 1024) cs

-- What is counted of a row of k threads, `cell t` being the number of thread t. Below 32: all numbers are cells', and it is what they cost. Else it is 32 more than those cost that are.
pub record RowCounted (cell : ℕ → ℕ) (k mask stamp : ℕ) (r : ℕ) (stamps' : List ℕ) : Type 0 where
  pub whole : r < 32 → (E : Mask) → mask ≡ mask_word E → length E ≤ 32 → AllCells (map cell (members E)) × (r ≡ conflict_cost (map cell (members E)))
  pub part : 32 ≤ r → (E : Mask) → mask ≡ mask_word E → length E ≤ k → r - 32 ≡ conflict_cost (cells_of (map cell (members E)))
  pub few : r ≤ 63
  pub older : Older (stamp + 1) stamps'
