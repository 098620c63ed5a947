-- How the buffers of the global cells stand for a launch's state: cells and log as those of a group alone, and three words of group masks a cell. Assumes nothing.
use Rattle.std.specs.Prelude.{◌≡◌, List, false, cond, ℕ, ◌+◌, ◌-◌, ◌*◌, ◌%◌, ◌^◌, ◌<◌, ◌≤◌, length}
use Rattle.std.specs.Int.Bits.{bit_and, bit_or}
use Rattle.spec.specs.Limits.{groups_per_cell}
use Rattle.spec.specs.declared.AccessKind.{AccessKind}
use Rattle.spec.specs.Access.{Mode, reads, writes, adds, agree}
use Rattle.spec.specs.Mask.{mask_word, members}
use Rattle.spec.specs.Log.{shown_kind}
use Rattle.spec.specs.GroupLog.{GroupLog, group_masks_of, group_words}
use Rattle.spec.specs.Op.{GLOBAL, OWN, Mem, MEM, op_of}
use Rattle.spec.specs.Table.{Row}
use Rattle.spec.specs.Shape.{Shape}
use Rattle.spec.specs.LockStep.{LockState, Step, in_turn, access_turn}
use Rattle.layout.specs.Memory.{Access}
use Rattle.std.specs.Prelude.{Ok, Err}
use Rattle.layout.specs.declared.Turns.{Turns}
use Rattle.layout.specs.Logging.{mode_of, rank, word_of, has_bit, SameAbove, SameBut}
use Rattle.layout.specs.Memory.{Masks, Memory, Kept, KeptBut, AccessAsks, access_of, state_of}
use Rattle.layout.specs.Views.{part, put_part, log_part, put_log, view_of, global_from, Sized}

-- The group masks of k cells from place a on; and those with P in their place.
unfoldable pub group_part : (a k : ℕ) → GroupLog → GroupLog
group_part a k H = record { readers = part a k H.readers; writers = part a k H.writers; adders = part a k H.adders }

unfoldable pub put_groups : (a : ℕ) → (P H : GroupLog) → GroupLog
put_groups a P H =
    record { readers = put_part a P.readers H.readers; writers = put_part a P.writers H.writers; adders = put_part a P.adders H.adders }

pub record GroupsAre (groups k : ℕ) (H : GroupLog) (masks : List ℕ) : Type 0 where
  pub words_are : masks ≡ group_words H
  pub masks_are : (m : Mode) → Masks groups k (group_masks_of H m)

-- What of a mode's group mask of cell i an access by op conflicts with: between groups equal stores conflict too.
unfoldable pub groups_met : Mode → (op k i : ℕ) → (masks : List ℕ) → ℕ
groups_met m op k i masks = cond (agree false m (mode_of op)) 0 (word_of (rank m) k i masks)

-- All groups that it conflicts with but the one of this bit.
unfoldable pub rivals_word : (op k i bit : ℕ) → (masks : List ℕ) → ℕ
rivals_word op k i bit masks =
    bit_and (bit_or (groups_met writes op k i masks) (bit_or (groups_met adds op k i masks) (groups_met reads op k i masks))) (4294967295 - bit)

-- The kind of a race with group h.
unfoldable pub group_kind_word : (op k i h : ℕ) → (masks : List ℕ) → AccessKind
group_kind_word op k i h masks = shown_kind (has_bit h (groups_met writes op k i masks)) (has_bit h (groups_met adds op k i masks)) (mode_of op)

-- Where the masks have room for the access.
pub record GroupAsks (op k i : ℕ) (masks : List ℕ) : Type 0 where
  pub known : 16 ≤ op
  pub small : op ≤ 18
  pub sized : length masks ≡ groups_per_cell * k
  pub inside : i < k
  pub few : k ≤ 1024

-- The buffers of the global cells in a state of the launch.
pub record GlobalMemory (L : Shape) (z : LockState) (regs cells log masks : List ℕ) : Type 0 where
  pub sized : Sized L z
  pub groups_few : L.groups ≤ 8
  pub memory : Memory L.threads (view_of (global_from L) L.global z) regs cells log
  pub masks_are : masks ≡ group_words (group_part (global_from L) L.global z.group_log)

-- From z to y no cell but global ones, no log but theirs and no group mask but theirs have changed.
pub record GlobalOnly (L : Shape) (z y : LockState) : Type 0 where
  pub cells_same : y.cells ≡ put_part (global_from L) (part (global_from L) L.global y.cells) z.cells
  pub log_same : y.log ≡ put_log (global_from L) (log_part (global_from L) L.global y.log) z.log
  pub groups_same : y.group_log ≡ put_groups (global_from L) (group_part (global_from L) L.global y.group_log) z.group_log

-- From z, what o says was done: the answer and the buffers.
pub record GlobalDid (L : Shape) (z : LockState) (o : Step) (r : Access) (regs cells log masks : List ℕ) : Type 0 where
  pub answer : r ≡ access_of o
  pub memory : GlobalMemory L (state_of o) regs cells log masks
  pub kept : Kept z (state_of o)
  pub only : GlobalOnly L z (state_of o)

-- Thread t's access of a global cell by the group of the bit `own`, for every state that the buffers stand for; ops 16 to 18 stand for those of global cells.
abbrev pub GlobalOne : (op t d a own : ℕ) → (regs cells log masks : List ℕ) → Access → (regs' cells' log' masks' : List ℕ) → Type 0
GlobalOne op t d a own regs cells log masks r regs' cells' log' masks' =
    (L : Shape) (z : LockState) (m : Mem) (x : Row) → op_of op ≡ MEM OWN m → x.d ≡ d → x.a ≡ a → t < L.threads → own ≡ 2 ^ L.group
    → GlobalMemory L z regs cells log masks → GlobalDid L z (access_turn L GLOBAL m x z t) r regs' cells' log' masks'

-- A row's accesses of global cells, `mask` being the enabled mask.
abbrev pub GlobalAll : (op n mask d a group : ℕ) → (regs cells log masks : List ℕ) → Access → (regs' cells' log' masks' : List ℕ) → Type 0
GlobalAll op n mask d a group regs cells log masks r regs' cells' log' masks' =
    (L : Shape) (z : LockState) (m : Mem) (x : Row) → op_of op ≡ MEM OWN m → x.d ≡ d → x.a ≡ a → L.threads ≡ n → L.group ≡ group
    → mask ≡ mask_word z.enabled → length z.enabled ≡ n → GlobalMemory L z regs cells log masks
    → GlobalDid L z (in_turn (access_turn L GLOBAL m x) (members z.enabled) z) r regs' cells' log' masks'

-- What they ask of the buffers, and what a thread's turn and a row's accesses come to; `left` is what is left of the mask, from thread t on.
pub record GlobalAsks (op d a : ℕ) (cells log masks : List ℕ) : Type 0 where
  pub access : AccessAsks op d a cells log
  pub sized : length masks ≡ groups_per_cell * length cells

pub record GlobalTurn (op left t d a own : ℕ) (regs cells log masks : List ℕ) (r : Turns) (regs' cells' log' masks' : List ℕ) : Type 0 where
  pub enabled : left % 2 ≡ 1 → GlobalOne op t d a own regs cells log masks r.access regs' cells' log' masks'
  pub disabled : (left % 2 ≡ 1 → ⊥) → (r.access ≡ Ok tt) × (regs' ≡ regs) × (cells' ≡ cells) × (log' ≡ log) × (masks' ≡ masks)
  pub regs_kept : KeptBut d (t + 1) regs regs'
  pub log_same : SameBut r.reach (length cells) log log'

pub record GlobalRow (op n mask d a group : ℕ) (regs cells log masks : List ℕ) (r : Turns) (regs' cells' log' masks' : List ℕ) : Type 0 where
  pub done : GlobalAll op n mask d a group regs cells log masks r.access regs' cells' log' masks'
  pub regs_kept : KeptBut d n regs regs'
  pub log_same : SameAbove r.reach (length cells) log log'
