-- The first 4,119 bytes decide what a common file says: one that is accepted has at most 4,118. Its cells are words, and no more than 256. Assumes nothing.
use mathlib.Core.Path.{◌≡◌, refl, sym, ap, ◌∙◌, subst}
use mathlib.Core.Logic.{◌⊎◌, inl, inr}
use mathlib.Core.List.{List, [], ◌∷◌, ◌++◌}
use mathlib.Core.Bool.{Bool, true, false, cond, ◌&&◌}
use mathlib.Core.Option.{none, some}
use Prim.Native.Nat.{ℕ, zero, suc, ◌+◌, ◌*◌, ◌^◌, ◌<◌, ◌≤◌}
use Prim.Native.String.{String}
use native.Mathlib.Omega.{arith}
use borrow.Author.Tests.{le-leb, lt-leb}
use lib.Dec.{leb}
use lib.ListN.{length, get_or, take}
use lib.Seq.{take-append_seam}
use Rattle.spec.specs.Lists.{equal_list}
use Rattle.spec.specs.Limits.{max_common}
use Rattle.spec.specs.Text.{text}
use Rattle.spec.specs.LaunchFile.{accepted, Read, stop, read, Reader, continue, ◌>>=◌, ◌>>◌, gives, in_order, times, due, require, file_ends, exactly, number, NumberLine, due_number}
use Rattle.spec.specs.PairFiles.{common_lines, common_checked, common_cells}
use Rattle.spec.specs.declared.Refusal.TheVariants.{CommonFile}
use Rattle.spec.proofs.Laws.{lt_or_le}
use Rattle.text.proofs.Counting.{value_below}
use Rattle.commonfile.proofs.Digits.{none_some, word_digits, three_digits}
use Rattle.commonfile.proofs.Cut.{equal_long, Decided, continues, Line, due_cut}

-- The value of the last line.
exact_long : (s : String) (v : Unit {0}) (value : List ℕ) → exactly s value ≡ some v → length value ≤ length (text s)
unfolding exactly
exact_long s v value e = by (equal_list value (text s)) refl e
  where
    by : (t : Bool) → equal_list value (text s) ≡ t → cond t (some tt) none ≡ some v → length value ≤ length (text s)
    by true q p = omega (arith, equal_long value (text s) q)
    by false q p = none_some p

ends_cut : (line : ℕ) (rest : List ℕ) (b : ℕ) → 1 ≤ b → Decided (λ u left. Unit {0}) (file_ends line rest) (file_ends line (take b rest))
unfolding file_ends
ends_cut line rest zero h = absurd (omega arith)
ends_cut line [] (suc b) h = record { left = 0; holds = tt; same = refl }
ends_cut line (x ∷ rest) (suc b) h = refl

-- What follows the cells: 11 bytes, and one more, so that what stands behind them is seen.
abbrev last_lines : (cells : List ℕ) → Reader (List ℕ)
last_lines cells = due "end" (exactly "common") >> (file_ends >> gives cells)

last_cut : (Q : List ℕ → Type 0) (cells : List ℕ) → Q cells → (line : ℕ) (rest : List ℕ) (b : ℕ) → 12 ≤ b
    → Decided (λ cs left. Q cs) (last_lines cells line rest) (last_lines cells line (take b rest))
unfolding ◌>>◌ gives text
last_cut Q cells q line rest b h =
    continues (Line "end" (exactly "common") b) (λ cs left. Q cs) _ _ (λ u. file_ends >> gives cells)
    (due_cut "end" (exactly "common") 6 (exact_long "common") b (omega arith) line rest)
    λ u line rest left L.
    continues (λ u left. Unit {0}) (λ cs left. Q cs) _ _ (λ u. gives cells)
    (ends_cut line rest left (omega (arith, L.size, exact_long "common" u L.value L.means)))
    λ u line rest left t. record { left = left; holds = q; same = refl }

-- n cells that were read of the whole leave at least `slack` bytes of the front.
record Cells (n slack : ℕ) (cells : List ℕ) (left : ℕ) : Type 0 where
  count : length cells ≡ n
  words : (i : ℕ) → get_or cells i 0 < 2 ^ 32
  enough : slack ≤ left

each_below : (v : ℕ) (cells : List ℕ) → v < 2 ^ 32 → ((i : ℕ) → get_or cells i 0 < 2 ^ 32) → (i : ℕ) → get_or (v ∷ cells) i 0 < 2 ^ 32
each_below v cells h t zero = h
each_below v cells h t (suc i) = t i

-- Each has at most 16 bytes.
cells_cut : (n slack line : ℕ) (rest : List ℕ) (b : ℕ) → 16 * n + slack ≤ b
    → Decided (Cells n slack) (times n (due "cell" number) line rest) (times n (due "cell" number) line (take b rest))
unfolding times in_order ◌>>=◌ gives text number
cells_cut zero slack line rest b h = record { left = b; holds = record { count = refl; words = λ i. omega arith; enough = omega arith }; same = refl }
cells_cut (suc n) slack line rest b h =
    continues (Line "cell" number b) (Cells (suc n) slack) _ _ _
    (due_cut "cell" number 10 word_digits b (omega arith) line rest)
    λ v line rest left L.
    continues (Cells n slack) (Cells (suc n) slack) _ _ (λ cells. gives (v ∷ cells))
    (cells_cut n slack line rest left (omega (arith, L.size, word_digits v L.value L.means)))
    λ cells line rest left C.
    record {
      left = left;
      holds = record {
        count = ap suc C.count;
        words = each_below v cells (value_below 4294967296 v L.value L.means) C.words;
        enough = C.enough;
      };
      same = refl;
    }

-- How many there are: a number that is let through has at most three digits.
record Count (b n left : ℕ) : Type 0 where
  few : n ≤ max_common
  size : b ≤ 11 + left

module _ (b n line : ℕ) (rest : List ℕ) (left : ℕ) (L : Line "common" number b n left) where
  limit_cut : (max_common < n) ⊎ (n ≤ max_common)
      → Decided (Count b) (continue (require (leb 0 n && leb n max_common) (CommonFile 1) line rest) (λ u. gives n))
      (continue (require (leb 0 n && leb n max_common) (CommonFile 1) line (take left rest)) (λ u. gives n))
  unfolding require continue gives text
  limit_cut (inl h) = rw (le-leb 0 n (omega arith), lt-leb n max_common h)
  limit_cut (inr h) =
      rw (le-leb 0 n (omega arith), le-leb n max_common h)
      (record {
        left = left;
        holds = record { few = h; size = omega (arith, L.size, three_digits n L.value L.means (omega arith)) };
        same = refl;
      })

abbrev common_line : NumberLine
common_line = record { key = "common"; least = 0; greatest = max_common; refusal = CommonFile 1 }

count_cut : (line : ℕ) (rest : List ℕ) (b : ℕ) → 18 ≤ b → Decided (Count b) (due_number common_line line rest) (due_number common_line line (take b rest))
unfolding due_number ◌>>=◌ ◌>>◌ text
count_cut line rest b h =
    continues (Line "common" number b) (Count b) _ _ _
    (due_cut "common" number 10 word_digits b (omega arith) line rest)
    λ n line rest left L. limit_cut b n line rest left L (lt_or_le max_common n)

-- What is known of the cells of every file that is accepted.
pub record AcceptedCells (cells : List ℕ) : Type 0 where
  pub few : length cells ≤ max_common
  pub words : (i : ℕ) → get_or cells i 0 < 2 ^ 32

lines_cut : (file : List ℕ) (b : ℕ) → 4119 ≤ b → Decided (λ cells left. AcceptedCells cells) (common_lines 1 file) (common_lines 1 (take b file))
unfolding common_lines ◌>>=◌
lines_cut file b h =
    continues (Count b) (λ cells left. AcceptedCells cells) _ _ _
    (count_cut 1 file b (omega arith))
    λ n line rest left N.
    continues (Cells n 12) (λ cells left. AcceptedCells cells) _ _ _
    (cells_cut n 12 line rest left (omega (arith, N.few, N.size)))
    λ cells line rest left C.
    last_cut AcceptedCells cells (record { few = omega (arith, C.count, N.few); words = C.words }) line rest left C.enough

checked_cut : (whole cut : Read (List ℕ)) → Decided (λ cells left. AcceptedCells cells) whole cut → common_checked cut ≡ common_checked whole
unfolding common_checked
checked_cut (stop why) cut d = ap common_checked d
checked_cut (read cells line rest) cut d = ap common_checked d.same

checked_accepts : (whole cut : Read (List ℕ)) → Decided (λ cells left. AcceptedCells cells) whole cut → (cells : List ℕ) → common_checked whole ≡ accepted cells → AcceptedCells cells
unfolding common_checked
checked_accepts (stop why) cut d cells e = let z : ◌≡◌ {A = ℕ} 0 1 = cc in absurd (omega arith)
checked_accepts (read found line rest) cut d cells e = let q : found ≡ cells = cc in subst AcceptedCells q d.holds

pub prefix_decides : (n : ℕ) (file : List ℕ) → 4119 ≤ n → common_cells (take n file) ≡ common_cells file
unfolding common_cells
prefix_decides n file h = checked_cut (common_lines 1 file) (common_lines 1 (take n file)) (lines_cut file n h)

-- So nothing that stands behind them matters.
pub more_ignored : (file : List ℕ) → 4119 ≤ length file → (more : List ℕ) → common_cells (file ++ more) ≡ common_cells file
more_ignored file h more = sym (prefix_decides (length file) (file ++ more) h) ∙ ap common_cells (take-append_seam file more)

pub accepted_cells : (file cells : List ℕ) → common_cells file ≡ accepted cells → AcceptedCells cells
unfolding common_cells
accepted_cells file cells e = checked_accepts (common_lines 1 file) (common_lines 1 (take 4119 file)) (lines_cut file 4119 (omega arith)) cells e
