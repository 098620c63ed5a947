-- Rows that examples of several groups share, and two small tables of them. Assumes nothing.
use mathlib.Core.List.{[], ◌∷◌}
use Prim.Native.Nat.{ℕ}
use Rattle.spec.specs.Table.{Table, Row, row_of}

-- Rows that access the global cells: Rd = cell Ra; cell Rd = Ra; cell Rd grows by Ra.
unfoldable pub global_load : (d a : ℕ) → Row
global_load d a = row_of 20 d a 0

unfoldable pub global_store : (d a : ℕ) → Row
global_store d a = row_of 21 d a 0

unfoldable pub global_add : (d a : ℕ) → Row
global_add d a = row_of 22 d a 0

-- Rd = the launch number.
unfoldable pub launch_tid : (d : ℕ) → Row
launch_tid d = row_of 19 d 0 0

-- SET R1 = 2, and global cell 0 grows by it.
unfoldable pub growing : Table
growing = row_of 1 1 2 0 ∷ global_add 0 1 ∷ []

-- R0 = TID and R1 = launch number; own cell R0 = R1, and global cell R1 = R0.
unfoldable pub numbering : Table
numbering = row_of 2 0 0 0 ∷ launch_tid 1 ∷ row_of 17 0 1 0 ∷ global_store 1 0 ∷ []
