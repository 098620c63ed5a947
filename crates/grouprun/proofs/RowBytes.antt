-- What an accepted row's bytes are: by its op, which of them name registers. Assumes nothing.
use mathlib.Core.Path.{◌≡◌, refl, sym, ◌∙◌, ap, subst}
use mathlib.Core.List.{List}
use mathlib.Core.Bool.{Bool, true, false, cond, ◌&&◌, ◌||◌, false≢true}
use mathlib.Core.Option.{none}
use Prim.Native.Nat.{ℕ, zero, suc, ◌+◌, ◌-◌, ◌*◌, ◌<◌, ◌≤◌}
use native.Mathlib.Omega.{arith}
use borrow.Author.Tests.{ltb-true, ltb-false, leb-true, lt-ltb, le-ltb, eq-eqb, ne_eqb}
use lib.Dec.{leb, ltb, eqb}
use lib.ListN.{length, get_or, get_or-eq_default}
use Rattle.spec.specs.Op.{Form, set_form, d_form, dab_form, da_form, a_form, no_form, unknown_form, UNKNOWN, op_of, op_table, form, operands_fit, is_register, is_unused}
use Rattle.spec.specs.Op.{Mem, LOAD, STORE, ATOMICADD, MEM, OWN, GLOBAL}
use Rattle.spec.specs.Table.{rows_of, row_at, row_of}
use Rattle.spec.specs.TableCheck.{table_refusal, is_known}
use Rattle.spec.proofs.Laws.{row_bytes_lem, all_below, below}
use Rattle.structure.proofs.Ops.{known_of_other}
use Rattle.structure.proofs.Acceptance.{operands_fit_lem, accepted_if}
use Rattle.allruns.proofs.Bools.{and_left, and_right}
use Rattle.layout.specs.Memory.{ComputeAsks}
use Rattle.layout.specs.Running.{RowAsks}
use Rattle.grouprow.specs.Rows.{LaunchRowAsks, GlobalRowAsks}

-- Which bytes of a form are registers.
uses_d : Form → Bool
uses_d set_form = true
uses_d d_form = true
uses_d dab_form = true
uses_d da_form = true
uses_d a_form = false
uses_d no_form = false
uses_d unknown_form = false

uses_a : Form → Bool
uses_a set_form = false
uses_a d_form = false
uses_a dab_form = true
uses_a da_form = true
uses_a a_form = true
uses_a no_form = false
uses_a unknown_form = false

uses_b : Form → Bool
uses_b set_form = false
uses_b d_form = false
uses_b dab_form = true
uses_b da_form = false
uses_b a_form = false
uses_b no_form = false
uses_b unknown_form = false

record Registers (f : Form) (d a b : ℕ) : Type 0 where
  pub in_d : uses_d f ≡ true → d < 16
  pub in_a : uses_a f ≡ true → a < 16
  pub in_b : uses_b f ≡ true → b < 16

register : (x : ℕ) → is_register x ≡ true → x < 16
unfolding is_register
register x e = ltb-true x 16 e

never : {A : Type 0} → false ≡ true → A
never e = absurd (false≢true e)

registers : (f : Form) (d a b : ℕ) → operands_fit f d a b ≡ true → Registers f d a b
unfolding operands_fit uses_d uses_a uses_b
registers set_form d a b e = record { in_d = λ u. register d e; in_a = λ u. never u; in_b = λ u. never u }
registers d_form d a b e = record { in_d = λ u. register d (and_left _ _ (and_left _ _ e)); in_a = λ u. never u; in_b = λ u. never u }
registers dab_form d a b e =
    record {
      in_d = λ u. register d (and_left _ _ (and_left _ _ e));
      in_a = λ u. register a (and_right (is_register d) _ (and_left _ _ e));
      in_b = λ u. register b (and_right (is_register d && is_register a) (is_register b) e);
    }
registers da_form d a b e =
    record { in_d = λ u. register d (and_left _ _ (and_left _ _ e)); in_a = λ u. register a (and_right (is_register d) _ (and_left _ _ e)); in_b = λ u. never u }
registers a_form d a b e =
    record {
      in_d = λ u. never u;
      in_a = λ u. register a (and_right (is_unused d) (is_register a) (and_left (is_unused d && is_register a) (is_unused b) e));
      in_b = λ u. never u;
    }
registers no_form d a b e = record { in_d = λ u. never u; in_a = λ u. never u; in_b = λ u. never u }
registers unknown_form d a b e = record { in_d = λ u. never u; in_a = λ u. never u; in_b = λ u. never u }

-- What is known of an op byte k of the form f: where it stands, and which registers it has.
low : ℕ → Form → Bool
low k f = leb 1 k && (leb k 14 && (uses_d f && (ltb k 4 || (uses_a f && uses_b f))))

middle : ℕ → Form → Bool
middle k f = leb k 22 && (uses_d f && (eqb k 19 || uses_a f))

high : ℕ → Form → Bool
high k f = leb k 37 && (cond (eqb k 32) (uses_a f) true && cond (eqb k 35) (uses_a f) true)

placed : ℕ → Bool
placed k = cond (is_known (op_of k)) (cond (ltb k 16) (low k (form (op_of k))) (cond (ltb k 32) (middle k (form (op_of k))) (high k (form (op_of k))))) true

-- All 256 bytes, in one computation.
all_placed : all_below placed 256 ≡ true
unfolding placed low middle high uses_d uses_a uses_b op_of op_table form is_known
all_placed = refl

no_op : (k : ℕ) → 256 ≤ k → is_known (op_of k) ≡ false
unfolding op_of op_table is_known
no_op k h = ap is_known (get_or-eq_default op_table UNKNOWN h)

known_small : (k : ℕ) → is_known (op_of k) ≡ true → k < 256
known_small k e = by (ltb k 256) refl
  where
    by : (z : Bool) → ltb k 256 ≡ z → k < 256
    by true q = ltb-true _ _ q
    by false q = never (sym (no_op k (ltb-false _ _ q)) ∙ e)

-- Ops 20 to 22 do with global cells what ops 16 to 18 do with own ones.
abbrev GlobalOp : ℕ → Type 0
GlobalOp k = (m : Mem) × (op_of k ≡ MEM GLOBAL m) × (op_of (k - 4) ≡ MEM OWN m)

global_op : (k : ℕ) → 19 < k → k ≤ 22 → GlobalOp k
unfolding op_of op_table
global_op k h l = by (k - 20) (let z : k ≡ 20 + (k - 20) = omega arith in z) (omega arith)
  where
    by : (j : ℕ) → k ≡ 20 + j → j ≤ 2 → GlobalOp k
    by zero e l = subst GlobalOp (sym e) (LOAD, refl, refl)
    by (suc zero) e l = subst GlobalOp (sym e) (STORE, refl, refl)
    by (suc (suc zero)) e l = subst GlobalOp (sym e) (ATOMICADD, refl, refl)
    by (suc (suc (suc j))) e l = absurd (omega arith)

module _ (k d a b : ℕ) (known : is_known (op_of k) ≡ true) (fit : operands_fit (form (op_of k)) d a b ≡ true) where
  abbrev f : Form
  f = form (op_of k)

  regs : Registers f d a b
  regs = registers f d a b fit

  place : cond (ltb k 16) (low k f) (cond (ltb k 32) (middle k f) (high k f)) ≡ true
  unfolding placed
  place =
      sym (ap (λ z. cond z (cond (ltb k 16) (low k f) (cond (ltb k 32) (middle k f) (high k f))) true) known)
      ∙ below placed 256 all_placed k (known_small k known)

  in_low : k < 16 → low k f ≡ true
  in_low h = sym (ap (λ z. cond z (low k f) (cond (ltb k 32) (middle k f) (high k f))) (lt-ltb k 16 h)) ∙ place

  past_low : 16 ≤ k → cond (ltb k 32) (middle k f) (high k f) ≡ true
  past_low h = sym (ap (λ z. cond z (low k f) (cond (ltb k 32) (middle k f) (high k f))) (le-ltb k 16 h)) ∙ place

  in_middle : 16 ≤ k → k < 32 → middle k f ≡ true
  in_middle h l = sym (ap (λ z. cond z (middle k f) (high k f)) (lt-ltb k 32 l)) ∙ past_low h

  in_high : 32 ≤ k → high k f ≡ true
  in_high h = sym (ap (λ z. cond z (middle k f) (high k f)) (le-ltb k 32 h)) ∙ past_low (omega arith)

  both : 4 ≤ k → (ltb k 4 || (uses_a f && uses_b f)) ≡ true → (uses_a f && uses_b f) ≡ true
  both l e = sym (ap (λ z. z || (uses_a f && uses_b f)) (le-ltb k 4 l)) ∙ e

  computing : k < 16 → ComputeAsks k d a b
  unfolding low
  computing h =
      let e = in_low h in
      let s = and_right (leb 1 k) _ e in
      let g = and_right (leb k 14) _ s in
      let u = and_right (uses_d f) _ g in
      record {
        known = leb-true _ _ (and_left (leb 1 k) _ e);
        small = leb-true _ _ (and_left (leb k 14) _ s);
        target = regs.in_d (and_left (uses_d f) _ g);
        left = λ l. regs.in_a (and_left (uses_a f) (uses_b f) (both l u));
        right = λ l. regs.in_b (and_right (uses_a f) (uses_b f) (both l u));
      }

  -- from 16 on below 32: a launch number or an access, of which all but the launch number name two registers
  between : 16 ≤ k → k < 32 → (k ≤ 22) × (d < 16) × ((k ≡ 19 → ⊥) → a < 16)
  unfolding middle
  between h l =
      let e = in_middle h l in
      let g = and_right (leb k 22) _ e in (
        leb-true _ _ (and_left (leb k 22) _ e),
        regs.in_d (and_left (uses_d f) _ g),
        λ other. regs.in_a (sym (ap (λ z. z || uses_a f) (ne_eqb k 19 other)) ∙ and_right (uses_d f) _ g),
      )

  testing : (j : ℕ) → k ≡ j → cond (eqb k j) (uses_a f) true ≡ true → a < 16
  testing j e q = regs.in_a (sym (ap (λ z. cond z (uses_a f) true) (eq-eqb k j e)) ∙ q)

  abbrev Elsewhere : Type 0
  Elsewhere = 18 < k → k < 32 → ⊥

  own_asks : Elsewhere → RowAsks k d a b
  unfolding high
  own_asks own =
      record {
        computes = computing;
        accesses = λ h l. let u = between h l in (own_last (ltb 18 k) refl l, u.1, u.2 (λ e. own (omega arith) l));
        ifs = λ e. testing 32 e (and_left _ _ (and_right (leb k 37) _ (in_high (omega arith))));
        whiles = λ e. testing 35 e (and_right (cond (eqb k 32) (uses_a f) true) _ (and_right (leb k 37) _ (in_high (omega arith))));
        known = by (ltb k 32) refl;
      }
    where
      by : (z : Bool) → ltb k 32 ≡ z → k ≤ 37
      by true q = omega (arith, ltb-true k 32 q)
      by false q = leb-true _ _ (and_left (leb k 37) _ (in_high (ltb-false k 32 q)))

      own_last : (z : Bool) → ltb 18 k ≡ z → k < 32 → k ≤ 18
      own_last true q l = absurd (own (ltb-true 18 k q) l)
      own_last false q l = ltb-false 18 k q

  launch_asks : k ≡ 19 → LaunchRowAsks k d
  unfolding op_of op_table
  launch_asks e = record { target = (between (omega arith) (omega arith)).1; names = ap op_of e }

  global_asks : 19 < k → k < 32 → GlobalRowAsks k d a
  global_asks h l =
      let u = between (omega arith) l in
      let g = global_op k h u.0 in
      record { known = h; small = u.0; target = u.1; source = u.2 (λ e. omega arith); mem = g.0; names = g.1; alike = g.2 }

-- What the bytes of a row ask, wherever its op stands.
pub record BytesAsk (k d a b : ℕ) : Type 0 where
  pub own : (18 < k → k < 32 → ⊥) → RowAsks k d a b
  pub launch : k ≡ 19 → LaunchRowAsks k d
  pub global : 19 < k → k < 32 → GlobalRowAsks k d a

pub row_asks : (table : List ℕ) → table_refusal (rows_of table) ≡ none → (r : ℕ) → r < length (rows_of table)
    → BytesAsk (get_or table (r * 4) 0) (get_or table (r * 4 + 1) 0) (get_or table (r * 4 + 2) 0) (get_or table (r * 4 + 3) 0)
unfolding row_of
row_asks table e r h =
    let q = row_bytes_lem table r h in
    let k = get_or table (r * 4) 0 in
    let d = get_or table (r * 4 + 1) 0 in
    let a = get_or table (r * 4 + 2) 0 in
    let b = get_or table (r * 4 + 3) 0 in
    let known = sym (ap (λ x. is_known x.op) q) ∙ known_of_other (row_at (rows_of table) r).op ((accepted_if (rows_of table) e).known r h) in
    let fit = sym (ap (λ x. operands_fit (form x.op) x.d x.a x.b) q) ∙ operands_fit_lem (rows_of table) e r h in
    record { own = own_asks k d a b known fit; launch = launch_asks k d a b known fit; global = global_asks k d a b known fit }
