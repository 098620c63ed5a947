-- What a row does to the records of the intervals and to the stamps of the cells. Assumes nothing.
use Rattle.std.specs.Prelude.{◌≡◌, ◌⊎◌, List, map, ℕ, ◌+◌, ◌*◌, ◌<◌, ◌≤◌, length, get_or}
use Rattle.spec.specs.Mask.{Mask, mask_word, members}
use Rattle.spec.specs.Banks.{conflict_cost}
use Rattle.layout.specs.declared.State.{State}
use Rattle.layout.specs.Next.{Next}
use Rattle.layout.specs.Next as next
use Rattle.layout.specs.Memory.{cell_in}
use Rattle.layout.specs.Memory.{Access}
use Rattle.std.specs.Prelude.{Ok, Err}
use Rattle.banks.specs.Counting.{Known, Older, own}
use Rattle.banks.specs.Remembering.{Memo}
use Rattle.intervals.specs.Records.{charged, records_after}

-- The cell of thread t, where the row due is one of accesses.
abbrev pub cell_due : (table : List ℕ) → State → (regs : List ℕ) → (t : ℕ) → ℕ
cell_due table s regs t = cell_in (get_or table (s.row * 4) 0) (get_or table (s.row * 4 + 1) 0) (get_or table (s.row * 4 + 2) 0) regs t

-- The records after a row's accesses: a row that is finished is charged.
abbrev pub paid : Access → (earlier cost : ℕ) → List ℕ → List ℕ
paid (Ok tt) earlier cost records = charged earlier cost records
paid (Err v) earlier cost records = records

-- The row's cost, which is that of its accesses of own cells; what it leaves in the records; no stamp is a later row's, and what is remembered is right.
pub record RowRecorded (op n group : ℕ) (cell : ℕ → ℕ) (s : State) (r : Next) (records records' stamps' memo' : List ℕ) : Type 0 where
  pub cost : ℕ
  pub few : cost ≤ 31
  pub plain : (op < 16) ⊎ (18 < op) → cost ≡ 0
  pub access : 16 ≤ op → op ≤ 18 → (q : State) → r ≡ next.Go q → (E : Mask) → s.mask ≡ mask_word E → length E ≡ n
      → Known (map cell (members E)) → cost ≡ conflict_cost (own (map cell (members E)))
  pub words : records' ≡ records_after group cost s r records
  pub older : Older (s.rows + 2) stamps'
  pub memo : Memo memo'
