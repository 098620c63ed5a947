-- A table that the reader accepts, with the loop ends that it found, is one that the run takes. Assumes nothing.
use mathlib.Core.Path.{◌≡◌, ◌∙◌, ap₂}
use mathlib.Core.List.{List}
use mathlib.Core.Option.{none}
use Prim.Native.Nat.{ℕ, ◌*◌, ◌<◌, ◌≤◌}
use native.Mathlib.Omega.{arith}
use lib.ListN.{length, get_or}
use Rattle.spec.specs.Table.{rows_of, end_of}
use Rattle.spec.specs.TableCheck.{table_refusal}
use Rattle.spec.proofs.Laws.{rows_length}
use Rattle.layout.specs.Running.{Runnable}
use Rattle.reader.specs.Answer.{if_loop, if_accepted, end_at}

pub runnable : (table loop_ends : List ℕ) → length table ≤ 4 * 256 → table_refusal (rows_of table) ≡ none
    → ((i : ℕ) → i < 256 → get_or loop_ends i 0 ≡ end_at (rows_of table) i) → Runnable table loop_ends
unfolding end_at if_loop if_accepted
runnable table loop_ends l q h =
    let few : length (rows_of table) ≤ 256 = omega (arith, rows_length table) in
    record {
      few = few;
      accepted = q;
      ends_are = λ r l w. h r (omega arith) ∙ ap₂ (λ x o. if_accepted x (if_loop o (end_of (rows_of table) r) 0)) q w;
    }
