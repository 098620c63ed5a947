-- What a step and the run ask of a table and its buffers, and what they come to. Assumes nothing.
use Rattle.std.specs.Prelude.{◌≡◌, List, ℕ, ◌+◌, ◌*◌, ◌<◌, ◌≤◌, length, get_or}
use Rattle.std.proofs.Math.Option.{none}
use Rattle.spec.specs.Op.{WHILE, op_of}
use Rattle.spec.specs.Table.{Table, Row, rows_of, row_at, end_of}
use Rattle.spec.specs.TableCheck.{table_refusal}
use Rattle.spec.specs.Limits.{log_per_cell}
use Rattle.spec.specs.LockStep.{LockState, run_row}
use Rattle.layout.specs.declared.State.{State}
use Rattle.layout.specs.Next.{Next}
use Rattle.layout.specs.Memory.{ComputeAsks, Computed, KeptBut, shape_by}
use Rattle.layout.specs.Represents.{Represents, Standing, After, Counts, Room, DepthAsks}
use Rattle.layout.specs.Constructs.{saved_after, openers_after}

-- What the bytes of a row ask.
pub record RowAsks (op d a b : ℕ) : Type 0 where
  pub computes : op < 16 → ComputeAsks op d a b
  pub accesses : 16 ≤ op → op < 32 → (op ≤ 18) × (d < 16) × (a < 16)
  pub ifs : op ≡ 32 → a < 16
  pub whiles : op ≡ 35 → a < 16
  pub known : op ≤ 37

-- What a step asks: a row of the table that its state and buffers suit.
pub record Ready (table ends : List ℕ) (n : ℕ) (s : State) (regs cells log saved openers : List ℕ) : Type 0 where
  pub some : 1 ≤ n
  pub inside : s.row * 4 + 3 < length table
  pub room : Room s
  pub asks : RowAsks (get_or table (s.row * 4) 0) (get_or table (s.row * 4 + 1) 0) (get_or table (s.row * 4 + 2) 0) (get_or table (s.row * 4 + 3) 0)
  pub depths : DepthAsks (get_or table (s.row * 4) 0) s openers
  pub ends_right : (row_at (rows_of table) s.row).op ≡ WHILE → get_or ends s.row 0 ≡ end_of (rows_of table) s.row
  pub stands : Standing n s regs cells log saved openers
  pub sized : length log ≡ log_per_cell * length cells
  pub cells_few : length cells ≤ 1024

-- A table that is not refused, with the rows of its loops' ends.
pub record Runnable (table ends : List ℕ) : Type 0 where
  pub few : length (rows_of table) ≤ 256
  pub accepted : table_refusal (rows_of table) ≡ none
  pub ends_are : (r : ℕ) → r < length (rows_of table) → (row_at (rows_of table) r).op ≡ WHILE → get_or ends r 0 ≡ end_of (rows_of table) r

-- What an access row comes to.
abbrev pub AccessDone : (op n d a : ℕ) (s : State) → (common regs cells log : List ℕ) → (r : Next) → (regs' cells' log' : List ℕ) → Type 0
AccessDone op n d a s common regs cells log r regs' cells' log' =
    Counts s r × ((saved openers : List ℕ) (T : Table) (x : Row) (z : LockState) → x.op ≡ op_of op → x.d ≡ d → x.a ≡ a
    → Represents n z s regs cells log saved openers
    → After n (run_row T (shape_by n cells common) x z x.op) r regs' cells' log' saved openers)

-- The registers after a row, by its op.
pub record RegsAfter (op n mask d a b : ℕ) (regs regs' : List ℕ) : Type 0 where
  pub computed : op < 16 → Computed op n mask d a b regs regs'
  pub accessed : 16 ≤ op → op < 32 → KeptBut d n regs regs'
  pub kept : 32 ≤ op → regs' ≡ regs

-- What a step comes to: what the definition's row comes to from the state that stands, and every word that no such state shows.
pub record Steps (table : List ℕ) (n : ℕ) (s : State) (common regs cells log saved openers : List ℕ) (r : Next)
    (regs' cells' log' saved' openers' : List ℕ) : Type 0 where
  pub counts : Counts s r
  pub done : (z : LockState) → Represents n z s regs cells log saved openers
      → After n (run_row (rows_of table) (shape_by n cells common) (row_at (rows_of table) z.row) z (row_at (rows_of table) z.row).op) r regs' cells' log'
      saved' openers'
  pub regs_are : RegsAfter (get_or table (s.row * 4) 0) n s.mask (get_or table (s.row * 4 + 1) 0) (get_or table (s.row * 4 + 2) 0)
      (get_or table (s.row * 4 + 3) 0) regs regs'
  pub saved_are : saved' ≡ saved_after (get_or table (s.row * 4) 0) s saved openers
  pub openers_are : openers' ≡ openers_after (get_or table (s.row * 4) 0) s openers

-- The state at a group's start, with the mask of all threads, after so many rows and barriers.
abbrev pub start_state : (all rows barriers : ℕ) → State
start_state all rows barriers = record { reach = 0; row = 0; mask = all; depth = 0; rows = rows; since = 0; barriers = barriers }
