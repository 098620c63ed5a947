-- How the ends of loops are noted, row by row. Assumes nothing.
use mathlib.Core.Path.{◌≡◌, refl, sym, ◌∙◌, ap}
use mathlib.Core.Logic.{◌⊎◌, inl, inr}
use mathlib.Core.List.{List}
use Prim.Native.Nat.{ℕ, suc, ◌<◌, ◌≤◌}
use native.Mathlib.Nat.{eq-or-lt_of_le}
use native.Mathlib.Omega.{arith}
use lib.ListN.{length, get_or, set, length-set}
use lib.Seq.{get_or-set_same, get_or-set_other}
use Rattle.spec.specs.Op.{Op, CALC, MEM, IF, ELSE, ENDIF, WHILE, ENDWHILE, BARRIER, UNKNOWN}
use Rattle.spec.specs.Table.{Table, row_at, plain, role, end_of}
use Rattle.spec.proofs.Laws.{lt_or_le}
use Rattle.reader.specs.Answer.{if_loop}
use Rattle.reader.specs.Parts.{Notes}

-- A row that is no WHILE.
abbrev pub NoLoop : Op → Type 0
NoLoop op = (x y : ℕ) → if_loop op x y ≡ y

pub plain_no_loop : (op : Op) → role op ≡ plain → NoLoop op
unfolding if_loop role
plain_no_loop (CALC c) e x y = refl
plain_no_loop (MEM p m) e x y = refl
plain_no_loop IF e x y = refl
plain_no_loop ELSE e x y = refl
plain_no_loop ENDIF e x y = refl
plain_no_loop WHILE e x y = let z : ◌≡◌ {A = ℕ} 0 1 = cc in absurd (omega arith)
plain_no_loop ENDWHILE e x y = refl
plain_no_loop BARRIER e x y = refl
plain_no_loop UNKNOWN e x y = refl

module _ {T : Table} where
  pub notes_none : (a : ℕ) (x : List ℕ) → Notes T a a x x
  notes_none a x = record { size = refl; inside = λ i l m. absurd (omega arith); above = λ i l. refl; below = λ i l. refl }

  pub notes_row : (a : ℕ) (x : List ℕ) → NoLoop (row_at T a).op → Notes T a (suc a) x x
  notes_row a x n =
      record {
        size = refl;
        inside = λ i l m. let e : i ≡ a = omega arith in rw e (sym (n (end_of T a) (get_or x a 0)));
        above = λ i l. refl;
        below = λ i l. refl;
      }

  pub notes_on : {a b c : ℕ} {x y z : List ℕ} → a ≤ b → b ≤ c → Notes T a b x y → Notes T b c y z → Notes T a c x z
  notes_on {a} {b} {c} {x} {y} {z} l m p q =
      record {
        size = q.size ∙ p.size;
        inside = λ i f g. at i f g (lt_or_le i b);
        above = λ i f. q.above i (omega arith) ∙ p.above i f;
        below = λ i f. q.below i f ∙ p.below i (omega arith);
      }
    where
      at : (i : ℕ) → a ≤ i → i < c → (i < b) ⊎ (b ≤ i) → get_or z i 0 ≡ if_loop (row_at T i).op (end_of T i) (get_or x i 0)
      at i f g (inl h) = q.above i h ∙ p.inside i f h
      at i f g (inr h) = q.inside i h g ∙ ap (if_loop (row_at T i).op (end_of T i)) (p.below i h)

  -- The end e of the loop at row a.
  pub notes_loop : {a b e : ℕ} {x y : List ℕ} → a < b → a < length x → (row_at T a).op ≡ WHILE → end_of T a ≡ e → Notes T (suc a) b x y → Notes T a b x (set y a e)
  unfolding if_loop
  notes_loop {a} {b} {e} {x} {y} l s w t p =
      record {
        size = length-set y a e ∙ p.size;
        inside = λ i f g. at i g (eq-or-lt_of_le f);
        above = λ i f. other i (omega arith) ∙ p.above i (omega arith);
        below = λ i f. other i (omega arith) ∙ p.below i f;
      }
    where
      other : (i : ℕ) → (i ≡ a → ⊥) → get_or (set y a e) i 0 ≡ get_or y i 0
      other i n = get_or-set_other y a i e 0 n

      at : (i : ℕ) → i < b → (a ≡ i) ⊎ (a < i) → get_or (set y a e) i 0 ≡ if_loop (row_at T i).op (end_of T i) (get_or x i 0)
      at i g (inl h) = rw (← h, w) (get_or-set_same y a e 0 (omega (arith, p.size)) ∙ sym t)
      at i g (inr h) = other i (omega arith) ∙ p.inside i h g
