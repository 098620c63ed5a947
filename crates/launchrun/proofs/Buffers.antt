-- The buffers of a launch between two turns. Assumes nothing.
use mathlib.Core.Path.{◌≡◌}
use mathlib.Core.List.{List}
use Prim.Native.Nat.{ℕ}
use lib.ListN.{length}

-- The cells, the log of all, the log of a group's own cells while it runs, that of the global ones, their group masks, and what is counted and remembered.
pub record Buffers : Type 0 where
  pub cells : List ℕ
  pub global : List ℕ
  pub log : List ℕ
  pub own : List ℕ
  pub shared : List ℕ
  pub masks : List ℕ
  pub records : List ℕ
  pub counts : List ℕ
  pub steps : List ℕ
  pub stamps : List ℕ
  pub memo : List ℕ

-- With other records.
abbrev pub with_records : Buffers → List ℕ → Buffers
with_records W records =
    record {
      cells = W.cells;
      global = W.global;
      log = W.log;
      own = W.own;
      shared = W.shared;
      masks = W.masks;
      records = records;
      counts = W.counts;
      steps = W.steps;
      stamps = W.stamps;
      memo = W.memo;
    }

-- The lent ones keep their lengths.
pub record Kept (W₀ W : Buffers) : Type 0 where
  pub cells_long_lem : length W.cells ≡ length W₀.cells
  pub global_long_lem : length W.global ≡ length W₀.global
  pub log_long : length W.log ≡ length W₀.log
  pub own_long : length W.own ≡ length W₀.own
  pub shared_long : length W.shared ≡ length W₀.shared
  pub masks_long : length W.masks ≡ length W₀.masks
  pub records_long : length W.records ≡ length W₀.records
