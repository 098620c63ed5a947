-- What a row's own function leaves, and what the row comes to. Assumes nothing.
use Rattle.std.specs.Prelude.{◌≡◌, List, ℕ, ◌+◌, ◌*◌, ◌<◌, get_or}
use Rattle.layout.specs.declared.State.{State}
use Rattle.layout.specs.Next.{Next}
use Rattle.layout.specs.Next as next
use Rattle.layout.specs.Constructs.{ConstructDone}
use Rattle.layout.specs.Counting.{Settled, NextCounted}
use Rattle.layout.specs.Groups.{SharedLeft}
use Rattle.layout.specs.Running.{Steps}
use Rattle.layout.specs.declared.Operands.{Operands}
use Rattle.step.specs.Recording.{RowRecorded, cell_due}

-- The bytes of a row behind its op.
pub record OperandsAt (table : List ℕ) (row : ℕ) (x : Operands) : Type 0 where
  pub d_is : x.d ≡ get_or table (row * 4 + 1) 0
  pub a_is : x.a ≡ get_or table (row * 4 + 2) 0
  pub b_is : x.b ≡ get_or table (row * 4 + 3) 0
  pub a_byte : x.a < 256
  pub b_byte : x.b < 256

-- The row of a construct, and the step counts behind it.
pub record ConstructCounted (op a e : ℕ) (s : State) (regs saved openers counts : List ℕ) (r : Next) (saved' openers' counts' : List ℕ) : Type 0 where
  pub gone : State
  pub after : State
  pub done : ConstructDone op a e regs s saved openers gone saved' openers'
  pub settled : Settled op s.mask gone after counts counts'
  pub result_is : r ≡ next.Go after

-- What the row due comes to, over a group's own cells.
abbrev pub OwnRow : (table : List ℕ) → (n group : ℕ) → State → (common regs cells log saved openers counts records shared : List ℕ) → Next
    → (regs' cells' log' saved' openers' counts' records' stamps' memo' shared' : List ℕ) → Type 0
OwnRow table n group s common regs cells log saved openers counts records shared r regs' cells' log' saved' openers' counts' records' stamps' memo' shared' =
    let op = get_or table (s.row * 4) 0 in
    Steps table n s common regs cells log saved openers r regs' cells' log' saved' openers'
    × NextCounted op s r counts counts'
    × RowRecorded op n group (cell_due table s regs) s r records records' stamps' memo'
    × SharedLeft op s r shared shared'
