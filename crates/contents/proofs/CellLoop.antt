-- What holds after each cell that was read, and what it comes to at the end. Assumes nothing.
use mathlib.Core.Path.{◌≡◌, refl, ap, ◌∙◌, subst}
use mathlib.Core.List.{List}
use mathlib.Core.Option.{Option, none, some}
use Prim.Native.Nat.{ℕ, ◌+◌, ◌<◌, ◌≤◌}
use Prim.Native.String.{String}
use native.Mathlib.Omega.{arith}
use lib.ListN.{length, take, drop, set, length-set}
use Rattle.spec.specs.Text.{text}
use Rattle.spec.specs.LaunchFile.{number}
use Rattle.filelines.specs.Lines.{keyed_value, next_in}
use Rattle.contents.specs.Taken.{taken, CellsTaken}
use Rattle.contents.proofs.Times.{Going, start, more, stops, fronts, ends}
use Rattle.contents.proofs.Filling.{cell_put, cell_kept}

pub record CellsGoing (key file : List ℕ) (n : ℕ) (cells after rest : List ℕ) (k : ℕ) : Type 0 where
  pub under : k ≤ n
  pub long : length after ≡ length cells
  pub going : (name : String) → text name ≡ key → Going name number file k rest (take k after)
  pub kept : drop k after ≡ drop k cells

pub cells_start : (key file : List ℕ) (n : ℕ) (cells : List ℕ) → CellsGoing key file n cells cells file 0
cells_start key file n cells = record { under = omega arith; long = refl; going = λ name e. start name number file; kept = refl }

-- The line under a name that has these bytes.
named : {key : List ℕ} (rest : List ℕ) {o : Option ℕ} → keyed_value key number rest ≡ o → (name : String) → text name ≡ key → keyed_value (text name) number rest ≡ o
named rest e name q = ap (λ k. keyed_value k number rest) q ∙ e

module _ {key file : List ℕ} {n : ℕ} {cells after rest : List ℕ} {k : ℕ} (g : CellsGoing key file n cells after rest k) where
  pub cells_more : n ≤ length cells → k < n → {v : ℕ} → keyed_value key number rest ≡ some v
      → {left : List ℕ} → left ≡ next_in rest → CellsGoing key file n cells (set after k v) left (k + 1)
  cells_more m h {v} e q =
      record {
        under = omega arith;
        long = length-set after k v ∙ g.long;
        going = λ name w i line.
            rw (q, cell_put after k v (omega (arith, g.long))) (more name number file k rest (take k after) (g.going name w) v (named rest e name w) i line);
        kept = cell_kept after cells k v g.kept;
      }

  pub cells_stop : k < n → keyed_value key number rest ≡ none → CellsTaken key n file cells after k rest
  cells_stop h e =
      record {
        within = omega arith;
        lines = λ name w line. stops name number file k rest (take k after) (g.going name w) n h (named rest e name w) line (take n after) rest;
        front = λ name w. fronts name number file k rest (take k after) (g.going name w);
        long = g.long;
        kept = g.kept;
      }

  pub cells_end : k ≡ n → CellsTaken key n file cells after n rest
  cells_end e =
      subst (λ m. CellsTaken key n file cells after m rest) e
      (record {
        within = omega arith;
        lines = λ name w line. ends name number file k rest (take k after) (g.going name w) n e line ∙ ap (λ (m : ℕ). taken n line k (take m after) rest) e;
        front = λ name w. fronts name number file k rest (take k after) (g.going name w);
        long = g.long;
        kept = g.kept;
      })
