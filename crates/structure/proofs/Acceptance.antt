-- That the tables which are not turned back are those of the grammar, and what the runs need of such a table. Assumes nothing.
use mathlib.Core.Path.{◌≡◌}
use mathlib.Core.Logic.{◌↔◌}
use mathlib.Core.List.{[]}
use mathlib.Core.Bool.{true}
use mathlib.Core.Option.{none}
use Prim.Native.Nat.{ℕ, ◌≤◌, ◌<◌}
use lib.ListN.{length}
use Rattle.spec.specs.Limits.{max_nesting}
use Rattle.spec.specs.Op.{form, operands_fit}
use Rattle.spec.specs.Table.{Table, row_at, open_before, WellFormed}
use Rattle.spec.specs.Grammar.{Accepted}
use Rattle.spec.specs.TableCheck.{table_refusal}
use Rattle.structure.proofs.Ops.{known_of_other, other_of_known}
use Rattle.structure.proofs.Nesting.{Nests}
use Rattle.structure.proofs.Checking.{AllSound, none_means, none_from}
use Rattle.structure.proofs.Writing.{written}
use Rattle.structure.proofs.Reading.{read}
use Rattle.structure.proofs.Standing.{fitting, closed, depth}

-- The rows by themselves, and how they nest.
parts : (T : Table) → table_refusal T ≡ none → AllSound T × Nests T 0 []
unfolding table_refusal
parts T e = none_means T 0 [] e

pub accepted_if : (T : Table) → table_refusal T ≡ none → Accepted T
accepted_if T e =
    let h = parts T e in
    let b = read h.1 in
    record {
      body = b.body;
      whole = b.whole;
      shallow = b.shallow;
      known = λ r l. other_of_known (row_at T r).op (h.0 r l).known;
      operands = λ r l. (h.0 r l).operands;
    }

pub accepted_only_if : (T : Table) → Accepted T → table_refusal T ≡ none
unfolding table_refusal
accepted_only_if T a =
    none_from (rw a.whole at (written a.body a.shallow))
    (λ r l. record { known = known_of_other (row_at T r).op (a.known r l); operands = a.operands r l })

pub accepted_iff : (T : Table) → (table_refusal T ≡ none) ↔ Accepted T
accepted_iff T = (accepted_if T, accepted_only_if T)

-- What the all-runs theorem asks of a table.
pub well_formed : (T : Table) → table_refusal T ≡ none → WellFormed T
well_formed T e = let h = parts T e in record { fitting = λ r l. fitting T h.1 r l (h.0 r l).known; closed = closed T h.1 }

-- At most eight constructs are open at once.
pub depth_bounded : (T : Table) → table_refusal T ≡ none → (r : ℕ) → r ≤ length T → length (open_before T r) ≤ max_nesting
depth_bounded T e = depth T (parts T e).1

-- Registers are 0 to 15, and bytes that the op does not use are 0.
pub operands_fit_lem : (T : Table) → table_refusal T ≡ none → (r : ℕ) → r < length T
    → operands_fit (form (row_at T r).op) (row_at T r).d (row_at T r).a (row_at T r).b ≡ true
operands_fit_lem T e r l = ((parts T e).0 r l).operands
