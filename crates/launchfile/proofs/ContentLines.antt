-- What the lines behind the numbers come to: the first line that is not due, or the launch. Assumes nothing.
use mathlib.Core.Path.{◌≡◌, refl, ◌∙◌, subst}
use mathlib.Core.List.{List, [], ◌++◌}
use mathlib.Core.Bool.{Bool, true, false}
use Prim.Native.Nat.{ℕ, suc, ◌+◌, ◌*◌, ◌<◌, ◌≤◌}
use native.Mathlib.Numerals.{add-one}
use native.Mathlib.Omega.{arith}
use borrow.Author.Tests.{lt-ltb, le-ltb}
use lib.ListN.{length, take, drop}
use Rattle.spec.specs.Text.{text}
use Rattle.spec.specs.Table.{rows_of}
use Rattle.spec.specs.Shape.{Sizes, all_own}
use Rattle.spec.specs.LaunchFile.{Read, stop, read, times, due, continue, ◌>>=◌, ◌>>◌, gives, file_ends, content_lines}
use Rattle.spec.specs.declared.Refusal.{Refusal}
use Rattle.spec.specs.declared.Refusal.TheVariants.{LineNotDue}
use Rattle.filelines.specs.Lines.{keyed_value, next_in, line_read}
use Rattle.filelines.specs.Values.{exact_bytes, word_in, row_bytes}
use Rattle.filelines.proofs.DueLines.{due_word, ended, not_ended}
use Rattle.contents.specs.Taken.{taken, fours_of, RowsTaken, CellsTaken}
use Rattle.contents.proofs.RowLoop.{rows_lines}
use Rattle.numberlines.specs.Answered.{line_count, answered}
use Rattle.std.specs.Prelude.{Ok, Err}
use Rattle.launchfile.specs.Parsed.{ContentsRead}
use Rattle.spec.specs.Launch as definition

-- What the lines of every launch with so many own and global cells come to.
abbrev Comes : (rest : List ℕ) → (rows count shared line : ℕ) → (Sizes → ℕ → Read definition.Launch) → Type 0
Comes rest rows count shared line r = (Z : Sizes) (limit : ℕ) → count ≡ all_own Z → shared ≡ Z.global → content_lines Z limit rows line rest ≡ r Z limit

-- A refusal says nothing of what was filled before it.
pub refuses : {rest table cells global table' cells' global' : List ℕ} {rows count shared : ℕ} {why : Refusal}
    → Comes rest rows count shared (2 + line_count) (λ Z limit. stop why) → ContentsRead rest rows count shared table cells global (Err why) table' cells' global'
unfolding answered
refuses e = record { answer = e; filled = λ q. let z : ◌≡◌ {A = ℕ} 0 1 = cc in absurd (omega arith) }

module _ {rest table table' own : List ℕ} {rows good : ℕ} (R : RowsTaken rows rest table table' good own) (count shared line : ℕ) where
  pub row_missing : good < rows → Comes rest rows count shared line (λ Z limit. stop (LineNotDue (line + good)))
  unfolding content_lines ◌>>=◌ continue taken
  row_missing h Z limit c g = rw (rows_lines R line, lt-ltb good rows h)

  module _ (all : rows ≤ good) {cells cells' others : List ℕ} {filled : ℕ} (C : CellsTaken (text "cell") count own cells cells' filled others) where
    pub cell_missing : filled < count → Comes rest rows count shared line (λ Z limit. stop (LineNotDue (line + rows + filled)))
    unfolding content_lines ◌>>=◌ continue taken
    cell_missing h Z limit c g = rw (rows_lines R line, le-ltb good rows all, ← c, C.lines "cell" refl (line + rows), lt-ltb filled count h)

    module _ (full : count ≤ filled) {global global' last : List ℕ} {found : ℕ} (G : CellsTaken (text "gcell") shared others global global' found last) where
      pub global_missing : found < shared → Comes rest rows count shared line (λ Z limit. stop (LineNotDue (line + rows + count + found)))
      unfolding content_lines ◌>>=◌ continue taken
      global_missing h Z limit c g =
          rw (
            rows_lines R line,
            le-ltb good rows all,
            ← c,
            C.lines "cell" refl (line + rows),
            le-ltb filled count full,
            ← g,
            G.lines "gcell" refl (line + rows + count),
            lt-ltb found shared h,
          )

      -- The launch that was read, if its end is right.
      abbrev launch : Sizes → ℕ → definition.Launch
      launch Z limit = record { sizes = Z; limit = limit; table = rows_of (take (4 * rows) table'); cells = take count cells' ++ take shared global' }

      abbrev end_line : ℕ
      end_line = line + rows + count + shared

      module _ (whole : shared ≤ found) (t : Bool) (word : keyed_value (text "end") (exact_bytes (text "kernel")) last ≡ word_in t) where
        at_end_lem : Comes rest rows count shared line
            (λ Z limit. continue (line_read end_line (word_in t) (next_in last)) (λ u. file_ends >> gives (launch Z limit)))
        unfolding content_lines ◌>>=◌ ◌>>◌ continue taken
        at_end_lem Z limit c g =
            rw (
              rows_lines R line,
              le-ltb good rows all,
              ← c,
              C.lines "cell" refl (line + rows),
              le-ltb filled count full,
              ← g,
              G.lines "gcell" refl (line + rows + count),
              le-ltb found shared whole,
              due_word "end" "kernel" end_line last t word,
            )

        pub end_missing : t ≡ false → Comes rest rows count shared line (λ Z limit. stop (LineNotDue end_line))
        unfolding continue line_read
        end_missing f Z limit c g = at_end_lem Z limit c g ∙ rw f

        module _ (f : t ≡ true) {more : List ℕ} (q : more ≡ next_in last) where
          pub more_behind : (length more ≡ 0 → ⊥) → Comes rest rows count shared line (λ Z limit. stop (LineNotDue (end_line + 1)))
          unfolding continue line_read ◌>>◌
          more_behind n Z limit c g = at_end_lem Z limit c g ∙ rw (f, ← q, not_ended (suc end_line) more n, ← add-one end_line)

          all_there : length more ≡ 0 → Comes rest rows count shared line (λ Z limit. read (launch Z limit) (end_line + 1) [])
          unfolding continue line_read ◌>>◌ gives
          all_there n Z limit c g = at_end_lem Z limit c g ∙ rw (f, ← q, ended (suc end_line) more n, ← add-one end_line)

          pub accepts : length cells ≡ 1024 → length global ≡ 1024 → length more ≡ 0 → line ≡ 2 + line_count
              → ContentsRead rest rows count shared table cells global (Ok tt) table' cells' global'
          unfolding answered
          accepts c g n e =
              let r : good ≡ rows = omega (arith, R.within) in
              let k : filled ≡ count = omega (arith, C.within) in
              let m : found ≡ shared = omega (arith, G.within) in
              record {
                answer = subst (λ l. Comes rest rows count shared l (λ Z limit. read (launch Z limit) (l + rows + count + shared + 1) [])) e (all_there n);
                filled = λ q.
                    record {
                      bytes = record {
                        left = own;
                        lines = subst (λ k. (line : ℕ) → times k (due "row" row_bytes) line rest ≡ read (fours_of (take (4 * k) table')) (line + k) own) r R.front;
                      };
                      table_long = R.long;
                      cells_long = C.long ∙ c;
                      global_long = G.long ∙ g;
                      table_kept = subst (λ k. drop (4 * k) table' ≡ drop (4 * k) table) r R.kept;
                      cells_kept = subst (λ k. drop k cells' ≡ drop k cells) k C.kept;
                      global_kept = subst (λ k. drop k global' ≡ drop k global) m G.kept;
                    };
              }
