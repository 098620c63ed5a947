-- What reading the whole table comes to: the definition's answer, and the ends of all loops. Assumes nothing.
use mathlib.Core.Path.{◌≡◌, refl, sym, ◌∙◌, ap}
use mathlib.Core.Logic.{◌⊎◌, inl, inr}
use mathlib.Core.List.{List, [], ◌∷◌}
use mathlib.Core.Bool.{false}
use mathlib.Core.Option.{none, some}
use Prim.Native.Nat.{ℕ, ◌*◌, ◌<◌, ◌≤◌}
use native.Mathlib.Omega.{arith}
use lib.ListN.{length, get_or, replicate, get_or-eq_default}
use Rattle.spec.specs.declared.Refusal.{Refusal}
use Rattle.spec.specs.declared.Refusal.TheVariants.{Misplaced}
use Rattle.spec.specs.Op.{op_of}
use Rattle.spec.specs.Table.{Table, no_row, rows_of, row_at, end_of}
use Rattle.spec.specs.TableCheck.{Open, else_fits, endif_fits, endwhile_fits, fits, table_refusal}
use Rattle.spec.proofs.Laws.{lt_or_le, zeros, byte_else, byte_endif, byte_endwhile}
use Rattle.reader.specs.Answer.{if_loop, if_accepted, end_at}
use Rattle.reader.specs.Parts.{IsTable, Ends, Fails, Body}
use Rattle.reader.proofs.Passing.{fail_on, misplaced, pass_all}
use Rattle.reader.proofs.Constructs.{in_table, at_end_lem, op_is}

misfit_none : (b : ℕ) → Ends b → fits (op_of b) [] ≡ false
unfolding fits else_fits endif_fits endwhile_fits
misfit_none b (inl (inl e)) = rw (e, byte_else)
misfit_none b (inl (inr e)) = rw (e, byte_endwhile)
misfit_none b (inr e) = rw (e, byte_endif)

none_open : (os : List Open) → length os ≡ 0 → os ≡ []
none_open [] e = refl
none_open (o ∷ os) e = absurd (omega arith)

-- Past the last row there is no loop.
past : (T : Table) (i e : ℕ) → length T ≤ i → if_loop (row_at T i).op e 0 ≡ 0
unfolding row_at no_row if_loop
past T i e l = rw (get_or-eq_default T no_row l)

pub refused_whole : (t : List ℕ) (why : Refusal) → Fails (rows_of t) 0 0 why → table_refusal (rows_of t) ≡ some why
unfolding table_refusal
refused_whole t why f = f [] refl

module _ (t : List ℕ) (w : IsTable t) (k : ℕ) (y : List ℕ) (b : Body t 0 0 k (replicate 256 0) y) where
  pub stray : k * 4 < length t → Fails (rows_of t) 0 0 (Misplaced k)
  stray l =
      fail_on b.span.passes
      (λ os n. misplaced (rows_of t) k (in_table t w k l) (b.stops l).own os
      (rw (op_is t w k l, none_open os n) (misfit_none (get_or t (k * 4) 0) (b.stops l).byte)))

  pub accepted : length t ≤ k * 4 → table_refusal (rows_of t) ≡ none
  unfolding table_refusal
  accepted l = pass_all (rows_of t) k b.span.passes (at_end_lem t w k (omega (arith, b.span.within)))

  pub ends_are : length t ≤ k * 4 → (i : ℕ) → i < 256 → get_or y i 0 ≡ end_at (rows_of t) i
  unfolding end_at if_accepted
  ends_are l i m = by (lt_or_le i k) ∙ sym (ap (λ z. if_accepted z (if_loop (row_at (rows_of t) i).op (end_of (rows_of t) i) 0)) (accepted l))
    where
      by : (i < k) ⊎ (k ≤ i) → get_or y i 0 ≡ if_loop (row_at (rows_of t) i).op (end_of (rows_of t) i) 0
      by (inl h) = b.span.notes.inside i (omega arith) h ∙ ap (if_loop (row_at (rows_of t) i).op (end_of (rows_of t) i)) (zeros 256 i)
      by (inr h) =
          b.span.notes.below i h ∙ zeros 256 i ∙ sym (past (rows_of t) i (end_of (rows_of t) i) (omega (arith, at_end_lem t w k (omega (arith, b.span.within)))))
