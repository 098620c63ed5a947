-- The bytes of the rows that belong to constructs, and that every other byte is a plain row's. Assumes nothing.
use mathlib.Core.Path.{◌≡◌, refl, sym}
use mathlib.Core.Bool.{Bool, true, false, ◌&&◌, ◌||◌, beq, false≢true}
use Prim.Native.Nat.{ℕ, ◌<◌}
use native.Mathlib.Omega.{arith}
use borrow.Author.Tests.{leb-true}
use lib.Dec.{leb}
use Rattle.spec.specs.Op.{Form, set_form, d_form, dab_form, da_form, a_form, no_form, unknown_form, op_table, op_of, form, form_of}
use Rattle.spec.specs.Table.{Role, plain, opening, dividing, closing, role}
use Rattle.spec.specs.TableCheck.{is_known}
use Rattle.spec.proofs.Laws.{all_below, below}
use Rattle.structure.proofs.Ops.{Plain, plain_of_role}

is_plain : Role → Bool
is_plain plain = true
is_plain opening = false
is_plain dividing = false
is_plain closing = false

plain_role : (f : Role) → is_plain f ≡ true → f ≡ plain
unfolding is_plain
plain_role plain e = refl
plain_role opening e = absurd (false≢true e)
plain_role dividing e = absurd (false≢true e)
plain_role closing e = absurd (false≢true e)

-- All bytes but 32 to 36 are plain: computed once for the 256.
plain_but : ℕ → Bool
plain_but b = (leb 32 b && leb b 36) || is_plain (role (op_of b))

all_plain_but : all_below plain_but 256 ≡ true
unfolding plain_but is_plain role op_of op_table
all_plain_but = refl

pub plain_byte : (b : ℕ) → b < 256 → (b ≡ 32 → ⊥) → (b ≡ 33 → ⊥) → (b ≡ 34 → ⊥) → (b ≡ 35 → ⊥) → (b ≡ 36 → ⊥) → Plain (op_of b)
unfolding plain_but
plain_byte b l i e f w g = plain_of_role (op_of b) (plain_role (role (op_of b)) (by (leb 32 b) (leb b 36) refl refl (below plain_but 256 all_plain_but b l)))
  where
    by : (p q : Bool) → leb 32 b ≡ p → leb b 36 ≡ q → ((p && q) || is_plain (role (op_of b))) ≡ true → is_plain (role (op_of b)) ≡ true
    by true true m n h = absurd (omega (arith, leb-true 32 b m, leb-true b 36 n))
    by true false m n h = h
    by false q m n h = h

-- An op is known unless its form is unknown: computed once for the 256.
unfoldable pub known_form : Form → Bool
known_form set_form = true
known_form d_form = true
known_form dab_form = true
known_form da_form = true
known_form a_form = true
known_form no_form = true
known_form unknown_form = false

known_as : ℕ → Bool
known_as b = beq (is_known (op_of b)) (known_form (form_of b))

all_known_as : all_below known_as 256 ≡ true
unfolding known_as known_form is_known form_of form op_of op_table
all_known_as = refl

same : (a b : Bool) → beq a b ≡ true → a ≡ b
same true true e = refl
same true false e = sym e
same false true e = e
same false false e = refl

pub known_byte : (b : ℕ) → b < 256 → is_known (op_of b) ≡ known_form (form_of b)
unfolding known_as
known_byte b l = same _ _ (below known_as 256 all_known_as b l)
