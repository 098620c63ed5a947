-- The parts of a found launch's arrays that hold its table and its words. Assumes nothing.
use mathlib.Core.Path.{◌≡◌, sym, ◌∙◌}
use mathlib.Core.List.{List}
use Prim.Native.Nat.{ℕ, ◌+◌, ◌*◌, ◌≤◌}
use native.Mathlib.Omega.{arith}
use lib.ListN.{length}
use lib.Seq.{length-take-le}
use Rattle.launchfile.specs.declared.Launch.{Launch}
use Rattle.filelaunch.specs.Founds.{table_bytes, own_words, global_words, FoundLaunch}

module _ (file : List ℕ) (l : Launch) (ends : List ℕ) (F : FoundLaunch file l ends) where
  pub few_rows_lem : l.rows ≤ 256
  few_rows_lem = F.within.few_rows

  pub table_used : 4 * l.rows ≤ length l.table
  table_used = omega (arith, F.table_long, F.within.few_rows)

  pub table_length : 4 * l.rows ≡ length (table_bytes l)
  table_length = sym (length-take-le (4 * l.rows) l.table table_used)

  pub own_used : l.count ≤ length l.cells
  own_used = omega (arith, F.cells_long, F.own, F.within.few_cells)

  pub own_length : l.count ≡ length (own_words l)
  own_length = sym (length-take-le l.count l.cells own_used)

  pub global_used : l.shared ≤ length l.global
  global_used = omega (arith, F.global_long, F.within.few_cells)

  pub global_length : l.shared ≡ length (global_words l)
  global_length = sym (length-take-le l.shared l.global global_used)

  -- Together they are not too many, and there are as many own ones as the groups have.
  pub own_are : length (own_words l) ≡ l.groups * l.each
  own_are = sym own_length ∙ F.own

  pub all_few : length (own_words l) + length (global_words l) ≤ 1024
  all_few = omega (arith, own_length, global_length, F.own, F.within.few_cells)
