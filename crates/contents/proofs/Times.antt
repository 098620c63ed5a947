-- That lines of one kind are read one by one, up to the first that is not due. Assumes nothing.
use mathlib.Core.Path.{◌≡◌, sym, ap, ◌∙◌}
use mathlib.Core.List.{List, [], ◌∷◌, ◌++◌}
use mathlib.Core.Option.{Option, none, some}
use Prim.Native.Nat.{ℕ, ◌+◌, ◌<◌, ◌≤◌}
use Prim.Native.String.{String}
use native.Mathlib.Omega.{arith}
use borrow.Author.Tests.{lt-ltb, le-ltb}
use lib.ListN.{replicate, get_or, length-replicate, get_or-replicate}
use Rattle.spec.specs.Text.{text}
use Rattle.spec.specs.LaunchFile.{read, due, times}
use Rattle.spec.specs.declared.Refusal.TheVariants.{LineNotDue}
use Rattle.filelines.specs.Lines.{keyed_value, next_in, line_read}
use Rattle.filelines.proofs.DueLines.{due_line}
use Rattle.filelines.proofs.InOrder as in_order
use Rattle.contents.specs.Taken.{taken}

-- Of however many lines the first k gave xs, whatever the number of the first line.
abbrev pub Going : {A : Type 0} → String → (List ℕ → Option A) → (file : List ℕ) → (k : ℕ) → (rest : List ℕ) → List A → Type 0
Going key reads file k rest xs = (n line : ℕ) → k ≤ n → in_order.Going (replicate n (due key reads)) line file k rest xs

pub start : {A : Type 0} (key : String) (reads : List ℕ → Option A) (file : List ℕ) → Going key reads file 0 file []
start key reads file n line h = in_order.start (replicate n (due key reads)) line file

module _ {A : Type 0} (key : String) (reads : List ℕ → Option A) (file : List ℕ) (k : ℕ) (rest : List ℕ) (xs : List A)
    (going : Going key reads file k rest xs) where
  -- The next line.
  comes_to_lem : (n : ℕ) → k < n → (line : ℕ) (o : Option A) → keyed_value (text key) reads rest ≡ o
      → get_or (replicate n (due key reads)) k (due key reads) (line + k) rest ≡ line_read (line + k) o (next_in rest)
  comes_to_lem n h line o e = rw (get_or-replicate n k (due key reads) (due key reads) h) (due_line (line + k) key reads rest ∙ rw e)

  pub more : (x : A) → keyed_value (text key) reads rest ≡ some x → Going key reads file (k + 1) (next_in rest) (xs ++ (x ∷ []))
  unfolding line_read
  more x e n line h =
      in_order.more (replicate n (due key reads)) line file (due key reads) k rest xs (going n line (omega arith))
      (omega (arith, length-replicate n (due key reads))) x (next_in rest) (comes_to_lem n (omega arith) line (some x) e)

  pub stops : (n : ℕ) → k < n → keyed_value (text key) reads rest ≡ none → (line : ℕ) (ys : List A) (left : List ℕ)
      → times n (due key reads) line file ≡ taken n line k ys left
  unfolding line_read taken times
  stops n h e line ys left =
      rw (lt-ltb k n h)
      (in_order.stops (replicate n (due key reads)) line file (due key reads) k rest xs (going n line (omega arith))
      (omega (arith, length-replicate n (due key reads))) (LineNotDue (line + k)) (comes_to_lem n h line none e))

  -- The first k lines.
  pub fronts : (line : ℕ) → times k (due key reads) line file ≡ read xs (line + k) rest
  unfolding times
  fronts line =
      in_order.ends (replicate k (due key reads)) line file (due key reads) k rest xs (going k line (omega arith))
      (omega (arith, length-replicate k (due key reads)))

  pub ends : (n : ℕ) → k ≡ n → (line : ℕ) → times n (due key reads) line file ≡ taken n line k xs rest
  unfolding taken
  ends n h line =
      let e : line + n ≡ line + k = omega arith in
      rw (le-ltb k n (omega arith), e) (ap (λ (m : ℕ). times m (due key reads) line file) (sym h) ∙ fronts line)
