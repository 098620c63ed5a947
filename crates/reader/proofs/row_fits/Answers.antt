-- `reader::row_fits` meets its contract: what it tests are the row's own refusals, 3 before 4. Assumes nothing.
use mathlib.Core.Path.{◌≡◌, refl, sym, ◌∙◌}
use mathlib.Core.List.{List}
use mathlib.Core.Bool.{true}
use Prim.Native.Nat.{ℕ, ◌+◌, ◌*◌, ◌<◌}
use native.Mathlib.Omega.{arith}
use lib.ListN.{length, get_or}
use Rattle.spec.specs.declared.Refusal.TheVariants.{UnknownOp, BadOperand}
use Rattle.spec.specs.Answers.{unless, or_else}
use Rattle.spec.specs.Op.{Form, operands_fit, form_of}
use Rattle.spec.specs.Table.{row_of, rows_of, row_at}
use Rattle.optable.specs.declared.Form.{Form as Declared}
use Rattle.optable.specs.declared.Form.TheVariants.{SetForm, DForm, DabForm, DaForm, AForm, NoForm, UnknownForm}
use Rattle.optable.specs.Forms.{meaning}
use Rattle.reader.specs.Parts.{own_refusal}
use Rattle.spec.proofs.Laws.{rows_length, row_bytes_lem}
use Rattle.reader.proofs.OpBytes.{known_form, known_byte}
use borrow.Author.Rules.{rules}
use Rattle.reader.proofs.row_fits.Goals as goal

-- The arm of every other form.
other : (f : Declared) → (f ≡ UnknownForm → ⊥) → known_form (meaning f) ≡ true
unfolding known_form
other SetForm k = refl
other DForm k = refl
other DabForm k = refl
other DaForm k = refl
other AForm k = refl
other NoForm k = refl
other UnknownForm k = absurd (k refl)

-- A row's own refusals, by the form of its op.
own_is : (t : List ℕ) (r : ℕ) (f : Form) → r * 4 + 3 < length t → get_or t (r * 4) 0 < 256 → f ≡ form_of (get_or t (r * 4) 0)
    → own_refusal r (row_at (rows_of t) r)
    ≡ or_else (unless (known_form f) (UnknownOp r)) (unless (operands_fit f (get_or t (r * 4 + 1) 0) (get_or t (r * 4 + 2) 0) (get_or t (r * 4 + 3) 0)) (BadOperand r))
unfolding own_refusal row_of form_of
own_is t r f l m e =
    let b = known_byte (get_or t (r * 4) 0) m in
    rw (row_bytes_lem t r (omega (arith, rows_length t)), b, e)

pub returns-in-UnknownForm : goal.returns-in-UnknownForm
unfolding known_form or_else unless
returns-in-UnknownForm c =
    let bytes = c.shared_slice_known-1 in
    let args = c.args in
    sym (own_is args.table.now args.row (meaning c.form_of-form.result) (search rules)
    (bytes.given (args.row * 4)).fits c.form_of-form.ensures
    ∙ rw c.in-UnknownForm.is)

pub returns-then-operands_fit : goal.returns-then-operands_fit
unfolding or_else unless
returns-then-operands_fit c =
    let arm = c.in_default in
    let form_of = c.form_of-form in
    let bytes = c.shared_slice_known-1 in
    let args = c.args in
    sym (own_is args.table.now args.row (meaning form_of.result) (search rules) (bytes.given (args.row * 4)).fits form_of.ensures
    ∙ rw (other form_of.result arm.not-UnknownForm, ← c.operands_fit.ensures, c.if-operands_fit.true))

pub returns-else-operands_fit : goal.returns-else-operands_fit
unfolding or_else unless
returns-else-operands_fit c =
    let arm = c.in_default in
    let form_of = c.form_of-form in
    let bytes = c.shared_slice_known-1 in
    let args = c.args in
    sym (own_is args.table.now args.row (meaning form_of.result) (search rules) (bytes.given (args.row * 4)).fits form_of.ensures
    ∙ rw (other form_of.result arm.not-UnknownForm, ← c.operands_fit.ensures, c.if-operands_fit.false))
