-- Bare launches that are refused: the answer is the first refusal of the order, and the lent buffers are left as they were. Assumes nothing.
use Rattle.std.specs.Prelude.{Result, Err}
use mathlib.Core.Path.{◌≡◌, refl}
use mathlib.Core.List.{List, [], ◌∷◌}
use Prim.Native.Nat.{ℕ}
use lib.ListN.{replicate}
use Rattle.spec.specs.Answers.{Outcome, Refusal, TableLength, ThreadsOutOfRange, CellsOutOfRange, GroupsOutOfRange, TooManyCells, LimitOutOfRange, UnknownOp}
use Rattle.spec.specs.Answers.{CellsLength, LogLength, RecordsLength}
use Rattle.spec.specs.Shape.{Sizes, sizes}
use Rattle.spec.specs.Entries.{bare_answer, bare_cells, bare_global, bare_log, bare_records}
use Rattle.spec.proofs.Computing.{computing}

unfoldable pub lent_cells : List ℕ
lent_cells = 5 ∷ 6 ∷ []

unfoldable pub lent_global : List ℕ
lent_global = 7 ∷ []

-- The answer, both kinds of cells, the log and the records of a bare launch.
unfoldable pub bare : (table : List ℕ) → Sizes → (limit : ℕ) → (log records : List ℕ) → Result Outcome Refusal × (List ℕ × (List ℕ × (List ℕ × List ℕ)))
bare table Z limit log records = (
  bare_answer table Z limit lent_cells lent_global log records,
  (
    bare_cells table Z limit lent_cells lent_global log records,
    (
      bare_global table Z limit lent_cells lent_global log records,
      (bare_log table Z limit lent_cells lent_global log records, bare_records table Z limit lent_cells lent_global log records),
    ),
  ),
)

-- What it comes to where it is refused.
unfoldable pub kept : Refusal → (log records : List ℕ) → Result Outcome Refusal × (List ℕ × (List ℕ × (List ℕ × List ℕ)))
kept why log records = (Err why, (lent_cells, (lent_global, (log, records))))

unfoldable pub lent_log : List ℕ
lent_log = 1 ∷ 2 ∷ 3 ∷ 4 ∷ []

-- Too few, which is told last.
unfoldable pub lent_records : List ℕ
lent_records = 7 ∷ 8 ∷ 9 ∷ []

-- An op that is unknown.
unfoldable pub unknown : List ℕ
unknown = 15 ∷ 0 ∷ 0 ∷ 0 ∷ []

-- Three bytes are no row, whatever else is wrong.
pub table_length : bare (1 ∷ 0 ∷ 0 ∷ []) (sizes 0 3 0 1025) 1000001 [] [] ≡ kept TableLength [] []
unfolding computing bare kept lent_cells lent_global
table_length = refl

-- The launch's numbers go before the rows: threads, cells, groups, cells in all, limit.
pub threads : bare unknown (sizes 33 0 0 1025) 1000001 lent_log lent_records ≡ kept (ThreadsOutOfRange 0) lent_log lent_records
unfolding computing bare kept lent_cells lent_global lent_log lent_records unknown
threads = refl

pub cells : bare unknown (sizes 32 0 0 1025) 1000001 lent_log lent_records ≡ kept (CellsOutOfRange 0) lent_log lent_records
unfolding computing bare kept lent_cells lent_global lent_log lent_records unknown
cells = refl

pub groups : bare unknown (sizes 32 2 9 1025) 1000001 lent_log lent_records ≡ kept (GroupsOutOfRange 0) lent_log lent_records
unfolding computing bare kept lent_cells lent_global lent_log lent_records unknown
groups = refl

pub cells_in_all : bare unknown (sizes 32 2 8 1009) 1000001 lent_log lent_records ≡ kept (TooManyCells 0) lent_log lent_records
unfolding computing bare kept lent_cells lent_global lent_log lent_records unknown
cells_in_all = refl

pub limit : bare unknown (sizes 32 2 8 1008) 1000001 lent_log lent_records ≡ kept (LimitOutOfRange 0) lent_log lent_records
unfolding computing bare kept lent_cells lent_global lent_log lent_records unknown
limit = refl

-- The rows go before the lent buffers.
pub op : bare unknown (sizes 32 3 1 1) 1000000 lent_log lent_records ≡ kept (UnknownOp 0) lent_log lent_records
unfolding computing bare kept lent_cells lent_global lent_log lent_records unknown
op = refl

-- Two own cells and a global one are lent: one own cell fewer than said, those of one group where there are two, one global cell fewer, and none said.
pub own_cells_lem : bare [] (sizes 1 3 1 1) 0 lent_log lent_records ≡ kept CellsLength lent_log lent_records
unfolding computing bare kept lent_cells lent_global lent_log lent_records
own_cells_lem = refl

pub cells_of_one_group : bare [] (sizes 1 2 2 1) 0 lent_log lent_records ≡ kept CellsLength lent_log lent_records
unfolding computing bare kept lent_cells lent_global lent_log lent_records
cells_of_one_group = refl

pub global_cells : bare [] (sizes 1 2 1 2) 0 lent_log lent_records ≡ kept CellsLength lent_log lent_records
unfolding computing bare kept lent_cells lent_global lent_log lent_records
global_cells = refl

pub no_global_cells : bare [] (sizes 1 1 2 0) 0 lent_log lent_records ≡ kept CellsLength lent_log lent_records
unfolding computing bare kept lent_cells lent_global lent_log lent_records
no_global_cells = refl

-- Three cells in all: twenty-four words of log, not eight for each cell of one kind.
pub log : bare [] (sizes 1 2 1 1) 0 (replicate 23 4) lent_records ≡ kept LogLength (replicate 23 4) lent_records
unfolding computing bare kept lent_cells lent_global lent_records
log = refl

pub log_of_own_cells : bare [] (sizes 1 1 2 1) 0 (replicate 16 4) lent_records ≡ kept LogLength (replicate 16 4) lent_records
unfolding computing bare kept lent_cells lent_global lent_records
log_of_own_cells = refl

-- One word less than 1,025 records need.
pub records : bare [] (sizes 1 1 2 1) 0 (replicate 24 5) (replicate 3074 7) ≡ kept RecordsLength (replicate 24 5) (replicate 3074 7)
unfolding computing bare kept lent_cells lent_global
records = refl
