-- Accesses of cells: what an access of each kind does, and which two conflict. Both machines use these. Assumes nothing.
use Rattle.std.specs.Prelude.{List, Bool, true, false, not, ◌&&◌, ℕ, eqb, set}
use Rattle.spec.specs.Word.{add}

-- A store says the value that it stores, an atomic add the value that it adds.
pub data Kind : Type 0 where
  load : Kind
  store : ℕ → Kind
  atomic_add : ℕ → Kind

-- "The kernel table", LOAD and STORE; item 1: what the access leaves in its cell, by what the cell held before. An add grows it modulo 2^32.
unfoldable pub cell_after : Kind → ℕ → ℕ
cell_after load old = old
cell_after (store v) old = v
cell_after (atomic_add v) old = add old v

-- The thread's registers after the access, d being the row's byte d and `old` what the cell held. Only a load returns something.
unfoldable pub registers_after : Kind → (d old : ℕ) → List ℕ → List ℕ
registers_after load d old regs = set regs d old
registers_after (store v) d old regs = regs
registers_after (atomic_add v) d old regs = regs

-- What an access does to its cell, whatever the value.
pub data Mode : Type 0 where
  reads writes adds : Mode

unfoldable pub mode : Kind → Mode
mode load = reads
mode (store v) = writes
mode (atomic_add v) = adds

pub record Access : Type 0 where
  pub cell : ℕ
  pub kind : Kind

-- The value that an access brings. A load brings none: its 0 is never looked at.
unfoldable pub value_of : Kind → ℕ
value_of load = 0
value_of (store v) = v
value_of (atomic_add v) = v

-- The conflict table, for two accesses of one cell by different threads. "The threads' own machine": they race if one of them at least is a store;
-- item 1: an add races with a load or a store, but not with an add; item 6: stores of equal values don't race, `equal` telling whether they are.
-- So two modes agree if both read, if both add, or if both write one value.
unfoldable pub agree : (equal : Bool) → Mode → Mode → Bool
agree equal reads reads = true
agree equal reads writes = false
agree equal reads adds = false
agree equal writes reads = false
agree equal writes writes = equal
agree equal writes adds = false
agree equal adds reads = false
agree equal adds writes = false
agree equal adds adds = true

-- The conflict of two accesses that different threads of a group make.
unfoldable pub conflict : Access → Access → Bool
conflict x y = eqb x.cell y.cell && not (agree (eqb (value_of x.kind) (value_of y.kind)) (mode x.kind) (mode y.kind))

-- Item 7: that of two accesses of a global cell by threads of different groups. Equal stores conflict too.
unfoldable pub group_conflict : Access → Access → Bool
group_conflict x y = eqb x.cell y.cell && not (agree false (mode x.kind) (mode y.kind))
