-- That the rows of the definition are those of the bytes that the row lines give. Assumes nothing.
use mathlib.Core.Path.{◌≡◌, refl, sym, ◌∙◌, ap}
use mathlib.Core.List.{List, ◌∷◌, map}
use mathlib.Core.Bool.{Bool, true, false, cond}
use mathlib.Core.Option.{Option, none, some}
use Prim.Native.Nat.{ℕ, zero, suc}
use Rattle.spec.specs.Text.{text}
use Rattle.spec.specs.Table.{Row}
use Rattle.spec.specs.LaunchFile.{Read, stop, read, Reader, continue, ◌>>=◌, gives, in_order, times, given, due, row_value}
use Rattle.filelines.specs.Lines.{keyed, value_in, next_in, keyed_value, line_read}
use Rattle.filelines.specs.Values.{four_bytes, row_bytes, as_row}
use Rattle.filelines.proofs.DueLines.{due_line}

-- A value that is taken further.
given_given : {A B C : Type 0} (o : Option A) (f : A → Option B) (g : B → Option C) → given (given o f) g ≡ given o (λ a. given (f a) g)
unfolding given
given_given none f g = refl
given_given (some a) f g = refl

row_value_lem : (value : List ℕ) → given (row_bytes value) (λ bytes. some (as_row bytes)) ≡ row_value value
unfolding row_value row_bytes four_bytes as_row given
row_value_lem value = simp given_given

-- What a reading comes to, with each value turned.
unfoldable pub turned : {A B : Type 0} → (A → B) → Read A → Read B
turned f (stop why) = stop why
turned f (read a line rest) = read (f a) line rest

line_row : (line : ℕ) (rest : List ℕ) → due "row" row_value line rest ≡ turned as_row (due "row" row_bytes line rest)
unfolding keyed_value
line_row line rest =
    due_line line "row" row_value rest ∙ by (keyed (text "row") rest) ∙ sym (ap (turned as_row) (due_line line "row" row_bytes rest))
  where
    one : (o : Option (List ℕ)) → line_read line (given o (λ bytes. some (as_row bytes))) (next_in rest) ≡ turned as_row (line_read line o (next_in rest))
    one none = unfold given line_read turned in refl
    one (some a) = unfold given line_read turned in refl

    by : (k : Bool) → line_read line (cond k (row_value (value_in rest)) none) (next_in rest)
        ≡ turned as_row (line_read line (cond k (row_bytes (value_in rest)) none) (next_in rest))
    by true = ap (λ (o : Option Row). line_read line o (next_in rest)) (sym (row_value_lem (value_in rest))) ∙ one (row_bytes (value_in rest))
    by false = unfold line_read turned in refl

-- One line more.
module _ (n : ℕ) (p : Reader Row) (q : Reader (List ℕ))
    (all : (line : ℕ) (rest : List ℕ) → times n p line rest ≡ turned (map as_row) (times n q line rest)) where
  behind : (x : List ℕ) (r : Read (List (List ℕ)))
      → continue (turned (map as_row) r) (λ ys. gives (as_row x ∷ ys)) ≡ turned (map as_row) (continue r (λ ys. gives (x ∷ ys)))
  unfolding turned continue gives
  behind x (stop why) = refl
  behind x (read ys line rest) = refl

  one_more : (r : Read (List ℕ)) → continue (turned as_row r) (λ x. times n p >>= λ ys. gives (x ∷ ys))
      ≡ turned (map as_row) (continue r (λ x. times n q >>= λ ys. gives (x ∷ ys)))
  unfolding turned continue ◌>>=◌
  one_more (stop why) = refl
  one_more (read x line rest) = ap (λ r. continue r (λ ys. gives (as_row x ∷ ys))) (all line rest) ∙ behind x (times n q line rest)

pub times_rows : (n line : ℕ) (file : List ℕ) → times n (due "row" row_value) line file ≡ turned (map as_row) (times n (due "row" row_bytes) line file)
unfolding times in_order gives turned ◌>>=◌
times_rows zero line file = refl
times_rows (suc n) line file =
    ap (λ r. continue r (λ x. times n (due "row" row_value) >>= λ ys. gives (x ∷ ys))) (line_row line file)
    ∙ one_more n (due "row" row_value) (due "row" row_bytes) (times_rows n) (due "row" row_bytes line file)
