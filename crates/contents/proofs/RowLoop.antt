-- What holds after each row that was read, and what it comes to at the end. Assumes nothing.
use mathlib.Core.Path.{◌≡◌, refl, ap, ◌∙◌, subst}
use mathlib.Core.List.{List, [], ◌∷◌, map}
use mathlib.Core.Option.{none, some}
use mathlib.Core.Bool.{Bool, true, false, cond}
use Prim.Native.Nat.{ℕ, ◌+◌, ◌*◌, ◌<◌, ◌≤◌}
use native.Mathlib.Omega.{arith}
use lib.Dec.{ltb}
use lib.ListN.{length, get_or, take, drop}
use Rattle.spec.specs.Text.{text}
use Rattle.spec.specs.LaunchFile.{stop, read, times, due, row_value}
use Rattle.spec.specs.declared.Refusal.TheVariants.{LineNotDue}
use Rattle.spec.specs.Table.{rows_of}
use Rattle.filelines.specs.Lines.{keyed_value, next_in}
use Rattle.filelines.specs.Values.{row_bytes, as_row}
use Rattle.filelines.proofs.RowBytes.{turned, times_rows}
use Rattle.contents.specs.Taken.{taken, put_row, fours_of, RowsTaken}
use Rattle.contents.proofs.Times.{Going, start, more, stops, fronts, ends}
use Rattle.contents.proofs.Filling.{row_put, row_kept, row_long, fours_rows}

pub record RowsGoing (file : List ℕ) (n : ℕ) (table after rest : List ℕ) (k : ℕ) : Type 0 where
  pub under : k ≤ n
  pub long : length after ≡ 1024
  pub going : Going "row" row_bytes file k rest (fours_of (take (4 * k) after))
  pub kept : drop (4 * k) after ≡ drop (4 * k) table

pub rows_start : (file : List ℕ) (n : ℕ) (table : List ℕ) → length table ≡ 1024 → RowsGoing file n table table file 0
unfolding fours_of
rows_start file n table l = record { under = omega arith; long = l; going = start "row" row_bytes file; kept = refl }

four_bytes_are : (bytes : List ℕ) → length bytes ≡ 4 → (get_or bytes 0 0 ∷ get_or bytes 1 0 ∷ get_or bytes 2 0 ∷ get_or bytes 3 0 ∷ []) ≡ bytes
four_bytes_are (op ∷ d ∷ a ∷ b ∷ []) e = refl
four_bytes_are [] e = absurd (omega arith)
four_bytes_are (op ∷ []) e = absurd (omega arith)
four_bytes_are (op ∷ d ∷ []) e = absurd (omega arith)
four_bytes_are (op ∷ d ∷ a ∷ []) e = absurd (omega arith)
four_bytes_are (op ∷ d ∷ a ∷ b ∷ x ∷ xs) e = absurd (omega arith)

module _ {file : List ℕ} {n : ℕ} {table after rest : List ℕ} {k : ℕ} (g : RowsGoing file n table after rest k) where
  pub rows_more : n ≤ 256 → k < n → (bytes : List ℕ) → length bytes ≡ 4 → keyed_value (text "row") row_bytes rest ≡ some bytes
      → {put left : List ℕ} → put ≡ put_row after (4 * k) (get_or bytes 0 0) (get_or bytes 1 0) (get_or bytes 2 0) (get_or bytes 3 0)
      → left ≡ next_in rest → RowsGoing file n table put left (k + 1)
  rows_more m h bytes four e p q =
      record {
        under = omega arith;
        long = ap length p ∙ row_long after (4 * k) _ _ _ _ ∙ g.long;
        going = λ i line.
            rw (q, p, row_put after k (get_or bytes 0 0) (get_or bytes 1 0) (get_or bytes 2 0) (get_or bytes 3 0) g.long (omega arith), four_bytes_are bytes four)
            (more "row" row_bytes file k rest (fours_of (take (4 * k) after)) g.going bytes e i line);
        kept = rw p (row_kept after table k _ _ _ _ g.kept);
      }

  pub rows_stop : k < n → keyed_value (text "row") row_bytes rest ≡ none → RowsTaken n file table after k rest
  rows_stop h e =
      record {
        within = omega arith;
        lines = λ line. stops "row" row_bytes file k rest (fours_of (take (4 * k) after)) g.going n h e line (fours_of (take (4 * n) after)) rest;
        front = fronts "row" row_bytes file k rest (fours_of (take (4 * k) after)) g.going;
        long = g.long;
        kept = g.kept;
      }

  pub rows_end : k ≡ n → RowsTaken n file table after n rest
  rows_end e =
      subst (λ m. RowsTaken n file table after m rest) e
      (record {
        within = omega arith;
        lines = λ line.
            ends "row" row_bytes file k rest (fours_of (take (4 * k) after)) g.going n e line
            ∙ ap (λ (m : ℕ). taken n line k (fours_of (take (4 * m) after)) rest) e;
        front = fronts "row" row_bytes file k rest (fours_of (take (4 * k) after)) g.going;
        long = g.long;
        kept = g.kept;
      })

-- The rows of the definition, where it reads them.
pub rows_lines : {n : ℕ} {file table after : List ℕ} {good : ℕ} {rest : List ℕ} → RowsTaken n file table after good rest
    → (line : ℕ) → times n (due "row" row_value) line file ≡ taken n line good (rows_of (take (4 * n) after)) rest
unfolding taken
rows_lines {n} {file} {table} {after} {good} {rest} T line =
    times_rows n line file ∙ ap (turned (map as_row)) (T.lines line) ∙ by (ltb good n)
  where
    by : (b : Bool) → turned (map as_row) (cond b (stop (LineNotDue (line + good))) (read (fours_of (take (4 * n) after)) (line + n) rest))
        ≡ cond b (stop (LineNotDue (line + good))) (read (rows_of (take (4 * n) after)) (line + n) rest)
    by true = unfold turned in refl
    by false = unfold turned in (ap (λ xs. read xs (line + n) rest) (fours_rows (take (4 * n) after)))
