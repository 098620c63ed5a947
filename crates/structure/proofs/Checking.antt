-- That the check turns no table back exactly if each of its rows is sound by itself and the rows nest. Assumes nothing.
use mathlib.Core.Path.{◌≡◌, refl}
use mathlib.Core.Logic.{◌↔◌}
use mathlib.Core.List.{List, [], ◌∷◌}
use mathlib.Core.Option.{none}
use mathlib.Core.Bool.{true}
use Prim.Native.Nat.{ℕ, zero, suc, ◌<◌}
use native.Mathlib.Omega.{arith}
use lib.ListN.{length}
use Rattle.spec.specs.Answers.{first}
use Rattle.spec.specs.Op.{form, operands_fit}
use Rattle.spec.specs.Table.{Row, Table, row_at}
use Rattle.spec.specs.TableCheck.{Open, is_known, fits, shallow, row_refusal, left_open, rows_refusal}
use Rattle.structure.proofs.Refusals.{unless_none, or_else_none}
use Rattle.structure.proofs.Nesting.{Nests, ended, row, step, Placed, placed}

-- What the check asks of a row wherever it stands.
pub record Sound (x : Row) : Type 0 where
  pub known : is_known x.op ≡ true
  pub operands : operands_fit (form x.op) x.d x.a x.b ≡ true

row_none : (r : ℕ) (os : List Open) (x : Row) → (row_refusal r os x ≡ none) ↔ (Sound x × (fits x.op os ≡ true) × (shallow x.op os ≡ true))
unfolding row_refusal first
row_none r os x =
    simp (or_else_none, unless_none)
    (λ h. (record { known = h.0; operands = h.1.0 }, h.1.1.0, h.1.1.1.0), λ h. (h.0.known, (h.0.operands, (h.1, (h.2, refl)))))

abbrev pub AllSound : Table → Type 0
AllSound T = (r : ℕ) → r < length T → Sound (row_at T r)

all_sound : (x : Row) (rows : Table) → Sound x → AllSound rows → AllSound (x ∷ rows)
unfolding row_at
all_sound x rows s a zero l = s
all_sound x rows s a (suc r) l = a r (omega arith)

pub none_means : (rows : Table) (r : ℕ) (os : List Open) → rows_refusal rows r os ≡ none → AllSound rows × Nests rows r os
unfolding rows_refusal left_open
none_means [] r [] e = (λ i l. absurd (omega arith), ended)
none_means [] r (o ∷ os) e = let z : ◌≡◌ {A = ℕ} 0 1 = cc in absurd (omega arith)
none_means (x ∷ rows) r os e =
    let both = (or_else_none _ _).0 e in
    let here = (row_none r os x).0 both.0 in
    let rest = none_means rows (suc r) _ both.1 in
    (all_sound x rows here.0 rest.0, row refl (step x.op r os here.1 here.2) rest.1)

pub none_from : {rows : Table} {r : ℕ} {os : List Open} → Nests rows r os → AllSound rows → rows_refusal rows r os ≡ none
unfolding rows_refusal left_open row_at
none_from ended a = refl
none_from (row {x} {r} {before = os} {after = ns} p s n) a =
    let here : Placed r x.op os ns = rw p (placed s) in
    (or_else_none _ _).1
    ((row_none r os x).1 (a 0 (omega arith), here.fitting, here.flat), rw here.leaving (none_from n (λ i l. a (suc i) (omega arith))))
