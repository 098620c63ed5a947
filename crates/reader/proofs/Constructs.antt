-- What the body reader and the construct reader learn from the parts that they read, row by row. Assumes nothing.
use mathlib.Core.Path.{◌≡◌, refl, ◌∙◌, ap, subst}
use mathlib.Core.Logic.{inl, inr}
use mathlib.Core.List.{List, ◌∷◌}
use mathlib.Core.Bool.{Bool, true, false, ◌&&◌, false≢true}
use mathlib.Core.Option.{none, some}
use Prim.Native.Nat.{ℕ, suc, ◌+◌, ◌-◌, ◌*◌, ◌<◌, ◌≤◌}
use native.Mathlib.Numerals.{add-one}
use native.Mathlib.Omega.{arith}
use borrow.Author.Tests.{ltb-true, lt-ltb, eqb-true, eqb-false}
use lib.Dec.{eqb, ltb}
use lib.ListN.{length, get_or, set}
use Rattle.spec.specs.declared.Refusal.{Refusal}
use Rattle.spec.specs.declared.Refusal.TheVariants.{TooDeep, LeftOpen}
use Rattle.spec.specs.Op.{Op, op_of}
use Rattle.spec.specs.Table.{Table, row_of, rows_of, row_at}
use Rattle.spec.specs.TableCheck.{Open, in_then, in_else, in_loop, opener, else_fits, endif_fits, endwhile_fits, fits}
use Rattle.structure.proofs.Ops.{Plain}
use Rattle.structure.proofs.Nesting.{starts_if, starts_loop, end_op}
use Rattle.std.specs.Prelude.{Result, Ok, Err}
use Rattle.reader.specs.Answer.{if_loop}
use Rattle.reader.specs.Parts.{IsTable, own_refusal, Opens, Ends, Passes, Fails, Notes, Span, Stops, Body, Construct, ConstructIs, ClosesIs}
use Rattle.spec.proofs.Laws.{rows_length, row_bytes_lem, byte_if, byte_else, byte_endif, byte_while, byte_endwhile}
use Rattle.reader.proofs.Passing.{fail_row, pass_plain, too_deep, pass_none, pass_on, fail_on, Reaches, reach_pass, reach_fail, reach_left}
use Rattle.reader.proofs.Passing.{reach_open, reach_else, reach_end, reach_misfit, loop_end}
use Rattle.reader.proofs.Noting.{NoLoop, plain_no_loop, notes_none, notes_row, notes_on, notes_loop}

-- A row that ends a body, and does not go on with or close the construct around it, fits nothing.
module _ (b r : ℕ) (os : List Open) where
  misfit_then : Ends b → (b ≡ 33 → ⊥) → (b ≡ 34 → ⊥) → fits (op_of b) (in_then r ∷ os) ≡ false
  unfolding fits else_fits endif_fits endwhile_fits
  misfit_then (inl (inl e)) m n = absurd (m e)
  misfit_then (inl (inr e)) m n = rw (e, byte_endwhile)
  misfit_then (inr e) m n = absurd (n e)

  misfit_else : Ends b → (b ≡ 34 → ⊥) → fits (op_of b) (in_else r ∷ os) ≡ false
  unfolding fits else_fits endif_fits endwhile_fits
  misfit_else (inl (inl e)) n = rw (e, byte_else)
  misfit_else (inl (inr e)) n = rw (e, byte_endwhile)
  misfit_else (inr e) n = absurd (n e)

  misfit_loop : Ends b → (b ≡ 36 → ⊥) → fits (op_of b) (in_loop r ∷ os) ≡ false
  unfolding fits else_fits endif_fits endwhile_fits
  misfit_loop (inl (inl e)) n = rw (e, byte_else)
  misfit_loop (inl (inr e)) n = absurd (n e)
  misfit_loop (inr e) n = rw (e, byte_endif)

-- An ELSE stands at row k, or none.
pub else_there : (t : List ℕ) (k : ℕ) → (ltb (k * 4) (length t) && eqb (get_or t (k * 4) 0) 33) ≡ true → (k * 4 < length t) × (get_or t (k * 4) 0 ≡ 33)
else_there t k e = by (ltb (k * 4) (length t)) refl e
  where
    by : (b : Bool) → ltb (k * 4) (length t) ≡ b → (b && eqb (get_or t (k * 4) 0) 33) ≡ true → (k * 4 < length t) × (get_or t (k * 4) 0 ≡ 33)
    by true p q = (ltb-true _ _ p, eqb-true _ _ q)
    by false p q = absurd (false≢true q)

pub else_none : (t : List ℕ) (k : ℕ) → (ltb (k * 4) (length t) && eqb (get_or t (k * 4) 0) 33) ≡ false → k * 4 < length t → get_or t (k * 4) 0 ≡ 33 → ⊥
else_none t k e l h = eqb-false _ _ (rw (lt-ltb _ _ l) at e) h

module _ (t : List ℕ) (w : IsTable t) where
  abbrev T : Table
  T = rows_of t

  pub in_table : (r : ℕ) → r * 4 < length t → r < length T
  in_table r l = omega (arith, rows_length t)

  pub at_end_lem : (r : ℕ) → r * 4 ≡ length t → r ≡ length T
  at_end_lem r e = omega (arith, rows_length t)

  pub op_is : (r : ℕ) → r * 4 < length t → (row_at T r).op ≡ op_of (get_or t (r * 4) 0)
  unfolding row_of
  op_is r l = ap (λ x. x.op) (row_bytes_lem t r (in_table r l))

  -- An op of a construct, by its byte.
  op_of_lem : (r b : ℕ) {op : Op} → r * 4 < length t → get_or t (r * 4) 0 ≡ b → op_of b ≡ op → (row_at T r).op ≡ op
  op_of_lem r b l e p = op_is r l ∙ ap op_of e ∙ p

  pub span_none : (d a : ℕ) (x : List ℕ) → a * 4 ≤ length t → Span t d a a x x
  span_none d a x l = record { on = omega arith; within = l; passes = pass_none T d a; notes = notes_none a x }

  pub span_on : {d a b c : ℕ} {x y z : List ℕ} → Span t d a b x y → Span t d b c y z → Span t d a c x z
  span_on p q =
      record {
        on = omega (arith, p.on, q.on);
        within = q.within;
        passes = pass_on p.passes q.passes;
        notes = notes_on p.on q.on p.notes q.notes;
      }

  -- A plain row.
  pub span_plain : (d r : ℕ) (x : List ℕ) → r * 4 < length t → own_refusal r (row_at T r) ≡ none → Plain (op_of (get_or t (r * 4) 0)) → Span t d r (r + 1) x x
  span_plain d r x l own p =
      let q : Plain (row_at T r).op = rw (op_is r l) p in
      rw (add-one r)
      (record {
        on = omega arith;
        within = omega (arith, w);
        passes = pass_plain T r (in_table r l) own d q;
        notes = notes_row r x (plain_no_loop (row_at T r).op q.alone);
      })

  -- A row that is refused by itself.
  pub span_refused : {d a r : ℕ} {x y : List ℕ} {why : Refusal} → Span t d a r x y → r * 4 < length t → own_refusal r (row_at T r) ≡ some why → Fails T d a why
  span_refused {d} {r} {why} s l e = fail_on s.passes (fail_row T r (in_table r l) d why e)

  -- The row that closes no loop leaves the notes as they are.
  notes_closed : {a k : ℕ} {x y : List ℕ} → a ≤ k → NoLoop (row_at T k).op → Notes T a k x y → Notes T a (suc k) x y
  notes_closed {k} {y} l n p = notes_on l (omega arith) p (notes_row k y n)

  -- The construct that row a opens.
  module _ (d a : ℕ) (l : a * 4 < length t) (own : own_refusal a (row_at T a) ≡ none) where
    pub ninth : Opens (get_or t (a * 4) 0) → Fails T 8 a (TooDeep a)
    ninth (inl e) = too_deep T a (in_table a l) own (op_of_lem a 32 l e byte_if) starts_if
    ninth (inr e) = too_deep T a (in_table a l) own (op_of_lem a 35 l e byte_while) starts_loop

    pub first_fails : {why : Refusal} → Opens (get_or t (a * 4) 0) → d < 8 → Fails T (d + 1) (a + 1) why → Fails T d a why
    first_fails (inl e) m f = reach_fail (reach_open (in_table a l) own (op_of_lem a 32 l e byte_if) starts_if m) (rw (add-one d, add-one a) at f)
    first_fails (inr e) m f = reach_fail (reach_open (in_table a l) own (op_of_lem a 35 l e byte_while) starts_loop m) (rw (add-one d, add-one a) at f)

    -- Row k, where a body in the open construct o ends, and the byte of the op that closes o.
    module _ (o : Open) (k end : ℕ) (opens : opener o ≡ a) (closes : op_of end ≡ end_op o) (p : Reaches T d a k o) (stops : k * 4 < length t → Stops t k)
        (misfit : k * 4 < length t → (get_or t (k * 4) 0 ≡ end → ⊥) → (os : List Open) → fits (op_of (get_or t (k * 4) 0)) (o ∷ os) ≡ false) where
      close_fails : {why : Refusal} → ClosesIs t a k end (Err why) → Fails T d a why
      close_fails (inl c) = rw c.0 (subst (λ r. Fails T d a (LeftOpen r)) opens (reach_left p (at_end_lem k c.1)))
      close_fails (inr c) =
          rw c.0
          (reach_misfit (in_table k c.1) (stops c.1).own p (λ os. rw (op_is k c.1) (misfit c.1 c.2 os)))

      close_passes : {b : ℕ} → ClosesIs t a k end (Ok b) → Passes T d a b
      close_passes c = rw (c.0, add-one k) (reach_end (in_table k c.1) (stops c.1).own p (op_of_lem k end c.1 c.2 closes))

    -- The first part of an IF: up to an ENDIF, or to an ELSE.
    module _ (e : get_or t (a * 4) 0 ≡ 32) (m : d < 8) {k : ℕ} {x y : List ℕ} (b : Body t (d + 1) (a + 1) k x y) where
      in_then_lem : Reaches T d a k (in_then a)
      in_then_lem = reach_pass (reach_open (in_table a l) own (op_of_lem a 32 l e byte_if) starts_if m) (rw (add-one d, add-one a) at b.span.passes)

      then_notes : Notes T a k x y
      unfolding if_loop
      then_notes =
          notes_on (omega arith) (omega (arith, b.span.on)) (notes_row a x (λ v u. rw (op_of_lem a 32 l e byte_if))) (rw (add-one a) at b.span.notes)

      pub if_closes : (k * 4 < length t → get_or t (k * 4) 0 ≡ 33 → ⊥) → (r : Result ℕ Refusal) → ClosesIs t a k 34 r → ConstructIs t d a x y r
      unfolding opener end_op if_loop
      if_closes n (Err why) c = close_fails (in_then a) k 34 refl byte_endif in_then_lem b.stops (λ g h os. misfit_then _ a os (b.stops g).byte (n g) h) c
      if_closes n (Ok j) c =
          record {
            onward = omega (arith, c.0, b.span.on);
            span = record {
              on = omega (arith, c.0, b.span.on);
              within = omega (arith, c.0, c.1, w);
              passes = close_passes (in_then a) k 34 refl byte_endif in_then_lem b.stops (λ g h os. misfit_then _ a os (b.stops g).byte (n g) h) c;
              notes = rw (c.0, add-one k) (notes_closed (omega (arith, b.span.on)) (λ v u. rw (op_of_lem k 34 c.1 c.2 byte_endif)) then_notes);
            };
          }

      -- The second part.
      module _ (g : k * 4 < length t) (f : get_or t (k * 4) 0 ≡ 33) where
        at_else : Reaches T d a (suc k) (in_else a)
        at_else = reach_else (in_table k g) (b.stops g).own in_then_lem (op_of_lem k 33 g f byte_else)

        pub second_fails : {why : Refusal} → Fails T (d + 1) (k + 1) why → Fails T d a why
        second_fails h = reach_fail at_else (rw (add-one d, add-one k) at h)

        module _ {j : ℕ} {z : List ℕ} (s : Body t (d + 1) (k + 1) j y z) where
          in_else_lem : Reaches T d a j (in_else a)
          in_else_lem = reach_pass at_else (rw (add-one d, add-one k) at s.span.passes)

          pub else_closes : (r : Result ℕ Refusal) → ClosesIs t a j 34 r → ConstructIs t d a x z r
          unfolding opener end_op if_loop
          else_closes (Err why) c = close_fails (in_else a) j 34 refl byte_endif in_else_lem s.stops (λ g h os. misfit_else _ a os (s.stops g).byte h) c
          else_closes (Ok i) c =
              record {
                onward = omega (arith, c.0, b.span.on, s.span.on);
                span = record {
                  on = omega (arith, c.0, b.span.on, s.span.on);
                  within = omega (arith, c.0, c.1, w);
                  passes = close_passes (in_else a) j 34 refl byte_endif in_else_lem s.stops (λ g h os. misfit_else _ a os (s.stops g).byte h) c;
                  notes =
                      rw (c.0, add-one j)
                      (notes_closed (omega (arith, b.span.on, s.span.on)) (λ v u. rw (op_of_lem j 34 c.1 c.2 byte_endif))
                      (notes_on (omega (arith, b.span.on)) (omega (arith, s.span.on))
                      (notes_closed (omega (arith, b.span.on)) (λ v u. rw (op_of_lem k 33 g f byte_else)) then_notes) (rw (add-one k) at s.span.notes)));
                };
              }

    -- The body of a loop, up to its ENDWHILE.
    module _ (e : get_or t (a * 4) 0 ≡ 35) (m : d < 8) {k : ℕ} {x y : List ℕ} (b : Body t (d + 1) (a + 1) k x y) where
      in_loop_lem : Reaches T d a k (in_loop a)
      in_loop_lem = reach_pass (reach_open (in_table a l) own (op_of_lem a 35 l e byte_while) starts_loop m) (rw (add-one d, add-one a) at b.span.passes)

      pub loop_fails : {why : Refusal} → ClosesIs t a k 36 (Err why) → Fails T d a why
      unfolding opener end_op
      loop_fails c = close_fails (in_loop a) k 36 refl byte_endwhile in_loop_lem b.stops (λ g h os. misfit_loop _ a os (b.stops g).byte h) c

      pub loop_closes : {j : ℕ} → a < length x → ClosesIs t a k 36 (Ok j) → Construct t d a j x (set y a (j - 1))
      unfolding opener end_op if_loop
      loop_closes {j} n c =
          let q : j - 1 ≡ k = omega (arith, c.0) in
          rw q
          (record {
            onward = omega (arith, c.0, b.span.on);
            span = record {
              on = omega (arith, c.0, b.span.on);
              within = omega (arith, c.0, c.1, w);
              passes = close_passes (in_loop a) k 36 refl byte_endwhile in_loop_lem b.stops (λ g h os. misfit_loop _ a os (b.stops g).byte h) c;
              notes =
                  rw (c.0, add-one k)
                  (notes_loop (omega (arith, b.span.on)) n (op_of_lem a 35 l e byte_while)
                  (loop_end (rw (add-one a) at b.span.passes) (in_table k c.1) (op_of_lem k 36 c.1 c.2 byte_endwhile))
                  (notes_closed (omega (arith, b.span.on)) (λ v u. rw (op_of_lem k 36 c.1 c.2 byte_endwhile)) (rw (add-one a) at b.span.notes)));
            };
          })
