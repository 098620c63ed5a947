-- What a row of a group asks of the buffers of its own cells and of the global ones, and what it comes to. Assumes nothing.
use Rattle.std.specs.Prelude.{◌≡◌, List, ℕ, ◌+◌, ◌-◌, ◌*◌, ◌<◌, ◌≤◌, length, get_or}
use Rattle.spec.specs.Limits.{log_per_cell, groups_per_cell}
use Rattle.spec.specs.Op.{CALC, LAUNCHTID, OWN, GLOBAL, Mem, MEM, WHILE, op_of}
use Rattle.spec.specs.Shape.{Shape}
use Rattle.spec.specs.Table.{rows_of, row_at, end_of}
use Rattle.spec.specs.LockStep.{LockState, run_row}
use Rattle.layout.specs.declared.State.{State}
use Rattle.layout.specs.Next.{Next}
use Rattle.layout.specs.Represents.{Room, Counts, DepthAsks}
use Rattle.layout.specs.Running.{RowAsks, RegsAfter}
use Rattle.layout.specs.Constructs.{saved_after, openers_after}
use Rattle.layout.specs.Groups.{GroupStands, GroupAfter}
use Rattle.launchrows.specs.LaunchRows.{Numbered}

-- The bytes of a row that gives the launch number.
pub record LaunchRowAsks (op d : ℕ) : Type 0 where
  pub target : d < 16
  pub names : op_of op ≡ CALC LAUNCHTID

-- The bytes of a row that names global cells: ops 20 to 22 do there what ops 16 to 18 do with own cells.
pub record GlobalRowAsks (op d a : ℕ) : Type 0 where
  pub known : 20 ≤ op
  pub small : op ≤ 22
  pub target : d < 16
  pub source : a < 16
  pub mem : Mem
  pub names : op_of op ≡ MEM GLOBAL mem
  pub alike : op_of (op - 4) ≡ MEM OWN mem

-- The sizes of the buffers.
pub record BufferSizes (cells log global shared masks : List ℕ) : Type 0 where
  pub log_sized_lem : length log ≡ log_per_cell * length cells
  pub cells_few : length cells ≤ 1024
  pub shared_sized : length shared ≡ log_per_cell * length global
  pub masks_sized : length masks ≡ groups_per_cell * length global
  pub global_few : length global ≤ 1024

-- What a row asks: one of the table that the state and the buffers suit.
pub record GroupReady (table ends : List ℕ) (n group : ℕ) (s : State) (regs cells log saved openers global shared masks : List ℕ) : Type 0 where
  pub some : 1 ≤ n
  pub group_few : group < 8
  pub inside : s.row * 4 + 3 < length table
  pub room : Room s
  pub own_asks : (18 < get_or table (s.row * 4) 0 → get_or table (s.row * 4) 0 < 32 → ⊥)
      → RowAsks (get_or table (s.row * 4) 0) (get_or table (s.row * 4 + 1) 0) (get_or table (s.row * 4 + 2) 0) (get_or table (s.row * 4 + 3) 0)
  pub launch_asks : get_or table (s.row * 4) 0 ≡ 19 → LaunchRowAsks (get_or table (s.row * 4) 0) (get_or table (s.row * 4 + 1) 0)
  pub global_asks : 19 < get_or table (s.row * 4) 0 → get_or table (s.row * 4) 0 < 32
      → GlobalRowAsks (get_or table (s.row * 4) 0) (get_or table (s.row * 4 + 1) 0) (get_or table (s.row * 4 + 2) 0)
  pub depths : DepthAsks (get_or table (s.row * 4) 0) s openers
  pub ends_right : (row_at (rows_of table) s.row).op ≡ WHILE → get_or ends s.row 0 ≡ end_of (rows_of table) s.row
  pub sizes : BufferSizes cells log global shared masks
  pub shape : Shape
  pub state : LockState
  pub threads_are : shape.threads ≡ n
  pub stands : GroupStands shape state s regs cells log saved openers global shared masks

-- The registers after a row: as a group alone has them, but for the launch number.
pub record GroupRegsAfter (op n group mask d a b : ℕ) (regs regs' : List ℕ) : Type 0 where
  pub numbered : op ≡ 19 → Numbered n group mask d regs regs'
  pub others : (op ≡ 19 → ⊥) → RegsAfter op n mask d a b regs regs'

-- What a row comes to: what the definition's row comes to from the state that stands, and every word that no such state shows.
pub record GroupSteps (table : List ℕ) (n group : ℕ) (s : State) (common regs cells log saved openers global shared masks : List ℕ) (r : Next)
    (regs' cells' log' saved' openers' global' shared' masks' : List ℕ) : Type 0 where
  pub counts : Counts s r
  pub done : (L : Shape) (z : LockState) → L.threads ≡ n → L.group ≡ group → L.common ≡ common → GroupStands L z s regs cells log saved openers global shared masks
      → GroupAfter L (run_row (rows_of table) L (row_at (rows_of table) z.row) z (row_at (rows_of table) z.row).op) r regs' cells' log' saved' openers'
      global' shared' masks'
  pub regs_are : GroupRegsAfter (get_or table (s.row * 4) 0) n group s.mask (get_or table (s.row * 4 + 1) 0) (get_or table (s.row * 4 + 2) 0)
      (get_or table (s.row * 4 + 3) 0) regs regs'
  pub saved_are : saved' ≡ saved_after (get_or table (s.row * 4) 0) s saved openers
  pub openers_are : openers' ≡ openers_after (get_or table (s.row * 4) 0) s openers
