-- `optable::form_of` meets its contract: the table's rule is computed once, for all 256 bytes. Assumes nothing.
use mathlib.Core.Path.{◌≡◌, refl, sym, ap, ◌∙◌}
use mathlib.Core.List.{List, ◌∷◌, ◌++◌}
use mathlib.Core.Bool.{Bool, true, cond}
use Prim.Native.Nat.{ℕ, ◌<◌}
use borrow.Author.Rules.{rules}
use borrow.Author.Tests.{eqb-true, ne_eqb}
use lib.Dec.{eqb}
use lib.ListN.{get_or, replicate}
use Rattle.spec.specs.Op.{Form, set_form, d_form, dab_form, da_form, a_form, no_form, unknown_form, op_table, op_of, form, form_of}
use Rattle.spec.proofs.Laws.{all_below, below}
use Rattle.optable.proofs.form_of.Goals as goal

-- The table of the source.
abbrev forms : List ℕ
forms =
    (0 ∷ 1 ∷ 2 ∷ 2 ∷ replicate 11 3)
    ++ (0 ∷ 4 ∷ 4 ∷ 4 ∷ 2 ∷ 4 ∷ 4 ∷ 4 ∷ replicate 9 0)
    ++ (5 ∷ 6 ∷ 6 ∷ 5 ∷ 6 ∷ 6 ∷ replicate 218 0)

code_of : Form → ℕ
code_of unknown_form = 0
code_of set_form = 1
code_of d_form = 2
code_of dab_form = 3
code_of da_form = 4
code_of a_form = 5
code_of no_form = 6

abbrev of_code : ℕ → Form
of_code n =
    cond (eqb n 1) set_form
    (cond (eqb n 2) d_form
    (cond (eqb n 3) dab_form
    (cond (eqb n 4) da_form
    (cond (eqb n 5) a_form
    (cond (eqb n 6) no_form unknown_form)))))

back : (f : Form) → of_code (code_of f) ≡ f
unfolding code_of
back unknown_form = refl
back set_form = refl
back d_form = refl
back dab_form = refl
back da_form = refl
back a_form = refl
back no_form = refl

right : ℕ → Bool
right op = eqb (get_or forms op 0) (code_of (form_of op))

all_right : all_below right 256 ≡ true
unfolding right code_of form_of form op_of op_table
all_right = refl

rule : (op : ℕ) → op < 256 → of_code (get_or forms op 0) ≡ form_of op
unfolding right
rule op l = ap of_code (eqb-true (get_or forms op 0) (code_of (form_of op)) (below right 256 all_right op l)) ∙ back (form_of op)

-- The entry is the number of an arm, or none of them.
named : (op n : ℕ) → op < 256 → get_or forms op 0 ≡ n → of_code n ≡ form_of op
named op n l e = ap of_code (sym e) ∙ rule op l

pub returns-in-1 : goal.returns-in-1
returns-in-1 c = named c.args.op 1 (search rules) c.in-1.is

pub returns-in-2 : goal.returns-in-2
returns-in-2 c = named c.args.op 2 (search rules) c.in-2.is

pub returns-in-3 : goal.returns-in-3
returns-in-3 c = named c.args.op 3 (search rules) c.in-3.is

pub returns-in-4 : goal.returns-in-4
returns-in-4 c = named c.args.op 4 (search rules) c.in-4.is

pub returns-in-5 : goal.returns-in-5
returns-in-5 c = named c.args.op 5 (search rules) c.in-5.is

pub returns-in-6 : goal.returns-in-6
returns-in-6 c = named c.args.op 6 (search rules) c.in-6.is

pub returns-in_default : goal.returns-in_default
returns-in_default c =
    let r = c.in_default.in_default-own.rest in
    let u : of_code (get_or forms c.args.op 0) ≡ unknown_form =
    simp (ne_eqb _ _ r.0.0.0.0.0.1, ne_eqb _ _ r.0.0.0.0.1, ne_eqb _ _ r.0.0.0.1, ne_eqb _ _ r.0.0.1, ne_eqb _ _ r.0.1, ne_eqb _ _ r.1) in
    sym u ∙ rule c.args.op (search rules)
