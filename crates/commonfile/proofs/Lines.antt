-- What the lines of the common file come to: the first that is not due, or the cells. Assumes nothing.
use mathlib.Core.Path.{◌≡◌, refl, ◌∙◌}
use mathlib.Core.List.{List}
use mathlib.Core.Bool.{Bool, true, false}
use mathlib.Core.Option.{none, some}
use Prim.Native.Nat.{ℕ, suc, ◌+◌, ◌<◌, ◌≤◌}
use native.Mathlib.Omega.{arith}
use borrow.Author.Tests.{lt-ltb, le-ltb, le-leb, lt-leb}
use lib.ListN.{length, take}
use Rattle.spec.specs.Text.{text}
use Rattle.spec.specs.Limits.{max_common}
use Rattle.spec.specs.Answers.{refusal_place}
use Rattle.spec.specs.LaunchFile.{refused, due, continue, ◌>>=◌, ◌>>◌, gives, file_ends, require, exactly, number, due_number}
use Rattle.spec.specs.PairFiles.{common_lines, common_checked, common_cells}
use Rattle.filelines.specs.Lines.{keyed_value, next_in, line_read}
use Rattle.filelines.specs.Values.{exact_bytes, word_in}
use Rattle.filelines.proofs.DueLines.{due_line, due_word, ended, not_ended}
use Rattle.contents.specs.Taken.{taken, CellsTaken}
use Rattle.std.specs.Prelude.{Ok, Err}
use Rattle.spec.specs.declared.Refusal.{Refusal}
use Rattle.commonfile.specs.CommonRead.{CommonRead}
use Rattle.spec.specs.declared.Refusal.TheVariants as refusal

pub refuses : {file : List ℕ} {line : ℕ} {why : Refusal} → why ≡ refusal.CommonFile line → common_cells file ≡ refused (refusal.CommonFile line) → CommonRead file (Err why)
refuses e q = record { cells = rw e q; few = tt; long = tt }

module _ (file : List ℕ) where
  pub no_number : keyed_value (text "common") number file ≡ none → common_cells file ≡ refused (refusal.CommonFile 1)
  unfolding common_cells common_checked common_lines due_number ◌>>=◌ continue line_read refusal_place
  no_number e = rw (due_line 1 "common" number file, e)

  module _ {n : ℕ} (e : keyed_value (text "common") number file ≡ some n) where
    pub too_many : max_common < n → common_cells file ≡ refused (refusal.CommonFile 1)
    unfolding common_cells common_checked common_lines due_number ◌>>=◌ ◌>>◌ continue line_read require refusal_place
    too_many h = rw (due_line 1 "common" number file, e, le-leb 0 n (omega arith), lt-leb n max_common h)

    module _ (h : n ≤ max_common) {rest old words last : List ℕ} {good : ℕ} (q : rest ≡ next_in file) (C : CellsTaken (text "cell") n rest old words good last) where
      begun : common_lines 1 file ≡ continue (taken n 2 good (take n words) last) (λ cells. due "end" (exactly "common") >> (file_ends >> gives cells))
      unfolding common_lines due_number ◌>>=◌ ◌>>◌ continue line_read require gives
      begun = rw (due_line 1 "common" number file, e, le-leb 0 n (omega arith), le-leb n max_common h, ← q, C.lines "cell" refl 2)

      pub cell_missing : good < n → common_cells file ≡ refused (refusal.CommonFile (2 + good))
      unfolding common_cells common_checked continue taken refusal_place
      cell_missing l = rw (begun, lt-ltb good n l)

      module _ (all : n ≤ good) (t : Bool) (word : keyed_value (text "end") (exact_bytes (text "common")) last ≡ word_in t) where
        at_end_lem : common_lines 1 file ≡ continue (line_read (2 + n) (word_in t) (next_in last)) (λ u. file_ends >> gives (take n words))
        unfolding continue taken ◌>>◌
        at_end_lem = begun ∙ rw (le-ltb good n all, due_word "end" "common" (2 + n) last t word)

        pub end_missing : t ≡ false → common_cells file ≡ refused (refusal.CommonFile (2 + n))
        unfolding common_cells common_checked continue line_read refusal_place
        end_missing f = rw (at_end_lem, f)

        module _ (f : t ≡ true) {more : List ℕ} (m : more ≡ next_in last) where
          pub more_behind : (length more ≡ 0 → ⊥) → common_cells file ≡ refused (refusal.CommonFile (3 + n))
          unfolding common_cells common_checked continue line_read ◌>>◌ refusal_place
          more_behind l =
              let e : suc (2 + n) ≡ 3 + n = omega arith in
              rw (at_end_lem, f, ← m, not_ended (suc (2 + n)) more l, e)

          pub accepts : length old ≡ max_common → length more ≡ 0 → CommonRead file (Ok (record { count = n; words = words }))
          unfolding common_cells common_checked continue line_read ◌>>◌ gives
          accepts o l = record { cells = rw (at_end_lem, f, ← m, ended (suc (2 + n)) more l); few = h; long = C.long ∙ o }
