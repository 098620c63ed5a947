-- How the code's state stands for a state of the lock-step run, and what a row comes to in it. Assumes nothing.
use Rattle.std.specs.Prelude.{◌≡◌, ◌⊎◌, List, [], ◌∷◌, ℕ, ◌+◌, ◌-◌, ◌<◌, ◌≤◌, length, get_or}
use Rattle.std.specs.Int.Bits.{bit_or}
use Rattle.spec.specs.Mask.{mask_word}
use Rattle.spec.specs.LockStep.{Saved, LockState, Step, continues, stops}
use Rattle.layout.specs.Memory.{Access}
use Rattle.std.specs.Prelude.{Ok, Err}
use Rattle.layout.specs.declared.State.{State}
use Rattle.layout.specs.Next.{Next}
use Rattle.layout.specs.Next as next
use Rattle.layout.specs.Logging.{EmptyAbove}
use Rattle.layout.specs.Memory.{Memory}

-- The saved masks: the innermost is the last below the depth.
abbrev pub Saves : ℕ → List Saved → (saved openers : List ℕ) → Type 0
Saves n [] saved openers = Unit {0}
Saves n (f ∷ v) saved openers =
    (get_or saved (length v) 0 ≡ mask_word f.mask) × (length f.mask ≡ n) × (get_or openers (length v) 0 ≡ f.opener) × Saves n v saved openers

pub record Represents (n : ℕ) (z : LockState) (s : State) (regs cells log saved openers : List ℕ) : Type 0 where
  pub memory : Memory n z regs cells log
  pub row_is_lem : s.row ≡ z.row
  pub enabled_is_lem : s.mask ≡ mask_word z.enabled
  pub enabled_size : length z.enabled ≡ n
  pub depth_is : s.depth ≡ length z.saved
  pub saves : Saves n z.saved saved openers
  pub saved_size : length saved ≡ 8
  pub openers_size : length openers ≡ 8
  pub rows_is : s.rows ≡ z.rows
  pub barriers_is : s.barriers ≡ z.barriers
  pub reach_is : EmptyAbove s.reach (length cells) log

-- Some state of the lock-step run stands in the code's.
pub record Standing (n : ℕ) (s : State) (regs cells log saved openers : List ℕ) : Type 0 where
  pub state : LockState
  pub rep : Represents n state s regs cells log saved openers

-- There is room for one more row; and what a row adds at most. A row that stops stays where it is.
pub record Room (s : State) : Type 0 where
  pub row_few : s.row < 256
  pub rows_few : s.rows < 1000000
  pub since_few : s.since ≤ s.rows
  pub barriers_few : s.barriers ≤ s.rows

pub record Counted (s r : State) : Type 0 where
  pub rows_one : r.rows ≡ s.rows + 1
  pub since_one : r.since ≤ s.since + 1
  pub barriers_one : r.barriers ≤ s.barriers + 1

abbrev pub Counts : State → Next → Type 0
Counts s (Ok r) = Counted s r
Counts s (Err x) = x.state.row ≡ s.row

-- On at another row, with another mask and depth, after one more step.
abbrev pub gone_on : State → (row mask depth : ℕ) → State
gone_on s row mask depth =
    record { reach = s.reach; row = row; mask = mask; depth = depth; rows = s.rows + 1; since = s.since + 1; barriers = s.barriers }

-- On at the next row.
abbrev pub moved_on : State → State
moved_on s = gone_on s (s.row + 1) s.mask s.depth

-- With another number of steps that are not counted yet.
abbrev pub with_since : State → ℕ → State
with_since s k =
    record { reach = s.reach; row = s.row; mask = s.mask; depth = s.depth; rows = s.rows; since = k; barriers = s.barriers }

-- After accesses of cells that are not above h. Neither of two numbers is above what they are put together to bit by bit.
abbrev pub reached : State → ℕ → State
reached s h =
    record {
      reach = bit_or s.reach h;
      row = s.row;
      mask = s.mask;
      depth = s.depth;
      rows = s.rows;
      since = s.since;
      barriers = s.barriers;
    }

abbrev pub accessed : State → Access → Next
accessed s (Ok tt) = next.Go (moved_on s)
accessed s (Err v) = next.Stop s v

-- What a row comes to in the code is what it comes to by the definition.
abbrev pub After : ℕ → Step → Next → (regs cells log saved openers : List ℕ) → Type 0
After n (continues z) r regs cells log saved openers = (s : State) × (r ≡ next.Go s) × Represents n z s regs cells log saved openers
After n (stops v z) r regs cells log saved openers = (s : State) × (r ≡ next.Stop s v) × Represents n z s regs cells log saved openers

-- A WHILE has room for its mask, or has it on top already.
abbrev pub RoomForWhile : State → List ℕ → Type 0
RoomForWhile s openers = (s.depth < 8) ⊎ ((0 < s.depth) × (s.depth ≤ 8) × (get_or openers (s.depth - 1) 0 ≡ s.row))

-- What the rows of constructs ask of the depth.
pub record DepthAsks (op : ℕ) (s : State) (openers : List ℕ) : Type 0 where
  pub opens_if : op ≡ 32 → s.depth < 8
  pub inside : 33 ≤ op → op ≤ 36 → (op ≡ 35 → ⊥) → (0 < s.depth) × (s.depth ≤ 8)
  pub opens_while : op ≡ 35 → RoomForWhile s openers
