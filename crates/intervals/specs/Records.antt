-- The lent list of records, word by word. Assumes nothing.
use Rattle.std.specs.Prelude.{◌≡◌, List, ◌∷◌, ◌++◌, cond, ℕ, zero, suc, ◌+◌, ◌-◌, ◌*◌, ◌<◌, ◌≤◌, min, ltb, length, get_or, set, drop}
use Rattle.spec.specs.Limits.{records_lent}
use Rattle.spec.specs.Intervals.{Interval, Intervals, all_of, records_of, record_words, conflicts_of}
use Rattle.layout.specs.declared.State.{State}
use Rattle.std.specs.Prelude.{Ok, Err}
use Rattle.layout.specs.Next.{Next}

-- The record in use after so many intervals: one for each release and for each later group that has started.
unfoldable pub in_use : (earlier : ℕ) → ℕ
in_use earlier = min earlier 1024

-- Record k starts at this row, with so many rows run before it; it is over, with so many rows run.
unfoldable pub begun : (k row rows : ℕ) → List ℕ → List ℕ
begun k row rows records = set (set (set records (k * 3) row) (k * 3 + 1) rows) (k * 3 + 2) 0

unfoldable pub ended : (k rows : ℕ) → List ℕ → List ℕ
ended k rows records = set records (k * 3 + 1) (rows - get_or records (k * 3 + 1) 0)

-- A row's cost is added to the record in use. A release ends it and starts the next, where there is one.
unfoldable pub charged : (earlier cost : ℕ) → List ℕ → List ℕ
charged earlier cost records = set records (in_use earlier * 3 + 2) (get_or records (in_use earlier * 3 + 2) 0 + cost)

unfoldable pub released : (earlier row rows : ℕ) → List ℕ → List ℕ
released earlier row rows records = cond (ltb earlier 1024) (begun (earlier + 1) row rows (ended earlier rows records)) records

-- The costs of the first records, together.
unfoldable pub costs_up_to : (count : ℕ) → List ℕ → ℕ
costs_up_to zero records = 0
costs_up_to (suc k) records = costs_up_to k records + get_or records (k * 3 + 2) 0

-- What a row asks of the records, after so many intervals and rows: room for its cost, and an interval that began no later.
pub record RecordAsks (earlier rows : ℕ) (records : List ℕ) : Type 0 where
  pub lent : records_lent ≤ length records
  pub room : get_or records (in_use earlier * 3 + 2) 0 + 31 < 4294967296
  pub before : get_or records (in_use earlier * 3 + 1) 0 ≤ rows

-- What the end of a run asks of them: that the costs together fit a word.
pub record EndAsks (earlier rows : ℕ) (records : List ℕ) : Type 0 where
  pub lent : records_lent ≤ length records
  pub before : get_or records (in_use earlier * 3 + 1) 0 ≤ rows
  pub room : costs_up_to (in_use earlier + 1) (ended (in_use earlier) rows records) < 4294967296

-- The records after a row of this group: at a release the next one has started; else its cost is added. A row that stops costs nothing.
unfoldable pub records_after : (group cost : ℕ) → State → Next → List ℕ → List ℕ
records_after group cost s (Ok r) records =
    let earlier = s.barriers + group in
    cond (ltb s.barriers r.barriers) (released earlier r.row r.rows records) (charged earlier cost records)
records_after group cost s (Err x) records = records

-- Intervals whose first one has begun before: it has another start, and rows and a cost already.
abbrev pub goes_on : (start rows cost : ℕ) → Intervals → Intervals
goes_on s r c is = record { first = record { start = s; rows = r + is.first.rows; cost = c + is.first.cost }; later = is.later }

-- `whole` are the records of the run, `rest` its intervals from here on. The interval that goes on began with `before` rows run.
pub record Ledger (whole : List Interval) (lent : List ℕ) (rest : Intervals) (earlier rows : ℕ) (records : List ℕ) : Type 0 where
  pub finished : List Interval
  pub start : ℕ
  pub before : ℕ
  pub cost : ℕ
  pub count : length finished ≡ in_use earlier
  pub words : records ≡ record_words finished ++ (start ∷ before ∷ cost ∷ drop (in_use earlier * 3 + 3) lent)
  pub began : before ≤ rows
  pub same : whole ≡ finished ++ records_of (1024 - in_use earlier) (all_of (goes_on start (rows - before) cost rest))
  pub few : conflicts_of finished + cost ≤ 31 * rows
  pub enough : records_lent ≤ length lent
