-- The barrier intervals of a lock-step run: where each starts, its rows and its bank conflicts. Document 02, item 5. Assumes nothing.
use Rattle.std.specs.Prelude.{List, [], ◌∷◌, map, true, false, cond, ℕ, zero, suc, ◌+◌, ◌-◌, leb, ltb, length}
use Rattle.spec.specs.Limits.{max_records, common_from}
use Rattle.spec.specs.Op.{Op, CALC, OWN, GLOBAL, Mem, MEM, IF, ELSE, ENDIF, WHILE, ENDWHILE, BARRIER, UNKNOWN}
use Rattle.spec.specs.Table.{Table, Row, row_at, cell_byte}
use Rattle.spec.specs.Lists.{joined, passing}
use Rattle.spec.specs.Shape.{Sizes, Shape}
use Rattle.spec.specs.Mask.{members}
use Rattle.spec.specs.Steps.{sum}
use Rattle.spec.specs.Banks.{conflict_cost}
use Rattle.spec.specs.LockStep.{LockState, Step, continues, stops, reg, run_row}
use Rattle.spec.specs.LaunchRun.{rows_left, group_runs}

-- The row due at its start, which is the number of rows at the table's end; the rows run in it; what they cost.
pub record Interval : Type 0 where
  pub start : ℕ
  pub rows : ℕ
  pub cost : ℕ

-- The cells that the threads of an access row use: those of the enabled threads, who read their numbers before any of them has been answered. Item 12:
-- common cells, in a finished row the only ones with a number from 65,536 on, cost nothing.
unfoldable pub used_cells : Mem → Row → LockState → List ℕ
used_cells m x s = passing (λ c. ltb c common_from) (map (λ t. reg s t (cell_byte m x)) (members s.enabled))

-- What a row costs that is finished. Only LOAD, STORE and ATOMIC ADD use cells; item 7: global cells cost nothing.
unfoldable pub row_cost : Row → LockState → Op → ℕ
row_cost x s (CALC c) = 0
row_cost x s (MEM OWN m) = conflict_cost (used_cells m x s)
row_cost x s (MEM GLOBAL m) = 0
row_cost x s IF = 0
row_cost x s ELSE = 0
row_cost x s ENDIF = 0
row_cost x s WHILE = 0
row_cost x s ENDWHILE = 0
row_cost x s BARRIER = 0
row_cost x s UNKNOWN = 0

-- Intervals in their order. There is always a first one.
pub record Intervals : Type 0 where
  pub first : Interval
  pub later : List Interval

unfoldable pub all_of : Intervals → List Interval
all_of is = is.first ∷ is.later

-- One that has started, with no row run in it yet.
unfoldable pub started : (row : ℕ) → Intervals
started r = record { first = record { start = r; rows = 0; cost = 0 }; later = [] }

-- A row that is run in front of them, in the first of them.
unfoldable pub with_row : (row cost : ℕ) → Intervals → Intervals
with_row r k is = record { first = record { start = r; rows = suc is.first.rows; cost = k + is.first.cost }; later = is.later }

-- A release, at which barriers grows, ends an interval: that has no row behind the release, and those from then on follow it.
unfoldable pub behind : (before after : LockState) → Intervals → Intervals
behind s z is = cond (ltb s.barriers z.barriers) (record { first = (started z.row).first; later = all_of is }) is

-- A finished row belongs to the interval in which it is come to, a releasing BARRIER to the one that it ends. A stopped row belongs to none and costs nothing.
unfoldable pub intervals_after : (cost : ℕ) → LockState → Step → (LockState → Intervals) → Intervals
intervals_after k s (continues z) f = with_row s.row k (behind s z (f z))
intervals_after k s (stops v z) f = started s.row

-- The intervals from a state on, as the run goes: the first is the one that the state is in.
unfoldable pub intervals_from : Table → Shape → ℕ → LockState → Intervals
intervals_from T L zero s = started s.row
intervals_from T L (suc left) s =
    elim (leb (length T) s.row) [
      | true ↦ started s.row
      | false ↦
          intervals_after (row_cost (row_at T s.row) s (row_at T s.row).op) s (run_row T L (row_at T s.row) s (row_at T s.row).op) (intervals_from T L left)
    ]

-- Several intervals in one record: it keeps its start, its rows and its cost grow.
unfoldable pub together : Interval → List Interval → Interval
together i [] = i
together i (j ∷ js) = together (record { start = i.start; rows = i.rows + j.rows; cost = i.cost + j.cost }) js

-- A record for each interval; behind the first k the last record goes on instead of a new one.
unfoldable pub records_of : (k : ℕ) → List Interval → List Interval
records_of k [] = []
records_of zero (i ∷ is) = together i is ∷ []
records_of (suc k) (i ∷ is) = i ∷ records_of k is

-- The records of a launch. An interval starts at the launch, at each release and, item 7, with each later group.
unfoldable pub interval_records : Table → Sizes → (cells : List ℕ) → (limit : ℕ) → List Interval
interval_records T Z cells limit =
    records_of (max_records - 1) (joined (map (λ u. all_of (intervals_from T u.shape (rows_left limit u) u.start)) (group_runs T Z cells limit)))

-- Three words a record.
unfoldable pub record_words : List Interval → List ℕ
record_words [] = []
record_words (i ∷ is) = i.start ∷ i.rows ∷ i.cost ∷ record_words is

-- What the report's line says: the sum of all records' costs.
unfoldable pub conflicts_of : List Interval → ℕ
conflicts_of records = sum (map (λ i. i.cost) records)
