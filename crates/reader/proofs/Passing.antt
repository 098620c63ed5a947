-- How rows that are read one after the other are refused, passed, and left by the scan for an end. Assumes nothing.
use mathlib.Core.Path.{◌≡◌, refl, ◌∙◌, ap}
use mathlib.Core.List.{List, [], ◌∷◌}
use mathlib.Core.Bool.{true, false}
use mathlib.Core.Option.{Option, none, some}
use Prim.Native.Nat.{ℕ, suc, ◌<◌}
use native.Mathlib.Omega.{arith}
use borrow.Author.Tests.{le-ltb}
use lib.ListN.{length, drop}
use lib.Seq.{drop-cons, drop-length}
use Rattle.spec.specs.Limits.{max_nesting}
use Rattle.spec.specs.declared.Refusal.{Refusal}
use Rattle.spec.specs.declared.Refusal.TheVariants.{Misplaced, TooDeep, LeftOpen}
use Rattle.spec.specs.Answers.{unless, or_else, first}
use Rattle.spec.specs.Op.{Op, ELSE, ENDWHILE}
use Rattle.spec.specs.Table.{Row, Table, no_row, row_at, closing, role, scan_row, scan, end_of}
use Rattle.spec.specs.TableCheck.{Open, in_then, in_else, in_loop, opener, fits, shallow, open_after, row_refusal, left_open, rows_refusal}
use Rattle.structure.proofs.Ops.{Plain}
use Rattle.structure.proofs.Nesting.{Starts, starts_if, starts_loop, Step, stays, opens, divides, closes, end_op, placed}
use Rattle.reader.specs.Parts.{own_refusal, refusal_from, end_from, Passes, Fails}

-- A row's refusals by itself come first, then those of its place.
place_refusal : ℕ → List Open → Row → Option Refusal
place_refusal r os x = or_else (unless (fits x.op os) (Misplaced r)) (unless (shallow x.op os) (TooDeep r))

apart : (a b c d : Option Refusal) → first (a ∷ b ∷ c ∷ d ∷ []) ≡ or_else (or_else a b) (or_else c d)
unfolding first or_else
apart (some x) b c d = refl
apart none (some x) c d = refl
apart none none (some x) d = refl
apart none none none (some x) = refl
apart none none none none = refl

row_apart : (r : ℕ) (os : List Open) (x : Row) → row_refusal r os x ≡ or_else (own_refusal r x) (place_refusal r os x)
unfolding row_refusal own_refusal place_refusal
row_apart r os x = apart _ _ _ _

module _ (T : Table) (r : ℕ) (l : r < length T) where
  refusal_step : (os : List Open)
      → refusal_from T r os ≡ or_else (or_else (own_refusal r (row_at T r)) (place_refusal r os (row_at T r))) (refusal_from T (suc r) (open_after (row_at T r).op r os))
  unfolding rows_refusal row_at
  refusal_step os =
      ap (λ rows. rows_refusal rows r os) (drop-cons T r no_row l)
      ∙ ap (λ z. or_else z (refusal_from T (suc r) (open_after (row_at T r).op r os))) (row_apart r os (row_at T r))

  level_step : (k : ℕ) → end_from T r k ≡ scan_row (role (row_at T r).op) false k r (end_from T (suc r))
  unfolding scan row_at
  level_step k = ap (λ rows. scan false rows k r) (drop-cons T r no_row l)

  pub fail_row : (d : ℕ) (why : Refusal) → own_refusal r (row_at T r) ≡ some why → Fails T d r why
  unfolding or_else
  fail_row d why e os n = refusal_step os ∙ rw e

  module _ (own : own_refusal r (row_at T r) ≡ none) where
    -- A row that steps is passed.
    pub pass_step : {os ns : List Open} → Step r (row_at T r).op os ns → refusal_from T r os ≡ refusal_from T (suc r) ns
    unfolding or_else place_refusal unless
    pass_step {os} {ns} s =
        let p = placed s in
        refusal_step os ∙ rw (own, p.fitting, p.flat, p.leaving)

    pub misplaced : (os : List Open) → fits (row_at T r).op os ≡ false → refusal_from T r os ≡ some (Misplaced r)
    unfolding or_else place_refusal unless
    misplaced os e = refusal_step os ∙ rw (own, e)

    deep : (os : List Open) → fits (row_at T r).op os ≡ true → shallow (row_at T r).op os ≡ false → refusal_from T r os ≡ some (TooDeep r)
    unfolding or_else place_refusal unless
    deep os f e = refusal_step os ∙ rw (own, f, e)

    pub pass_plain : (d : ℕ) → Plain (row_at T r).op → Passes T d r (suc r)
    unfolding scan_row
    pass_plain d p = record { refusals = λ os n. pass_step (stays p); levels = λ k. level_step k ∙ rw p.alone }

    pub too_deep : {op : Op} {o : Open} → (row_at T r).op ≡ op → Starts r op o → Fails T max_nesting r (TooDeep r)
    unfolding fits shallow
    too_deep e starts_if os n = deep os (rw e) (rw e (le-ltb (length os) max_nesting (omega arith)))
    too_deep e starts_loop os n = deep os (rw e) (rw e (le-ltb (length os) max_nesting (omega arith)))

pub pass_none : (T : Table) (d a : ℕ) → Passes T d a a
pass_none T d a = record { refusals = λ os n. refl; levels = λ k. refl }

pub pass_on : {T : Table} {d a b c : ℕ} → Passes T d a b → Passes T d b c → Passes T d a c
pass_on p q = record { refusals = λ os n. p.refusals os n ∙ q.refusals os n; levels = λ k. p.levels k ∙ q.levels k }

pub fail_on : {T : Table} {d a b : ℕ} {why : Refusal} → Passes T d a b → Fails T d b why → Fails T d a why
fail_on p f os n = p.refusals os n ∙ f os n

-- From row a the rows are passed up to row b, with the construct o open there that is not open before row a.
pub record Reaches (T : Table) (d a b : ℕ) (o : Open) : Type 0 where
  pub refusals : (os : List Open) → length os ≡ d → refusal_from T a os ≡ refusal_from T b (o ∷ os)
  pub levels : (k : ℕ) → end_from T a k ≡ end_from T b (suc k)

pub reach_pass : {T : Table} {d a b c : ℕ} {o : Open} → Reaches T d a b o → Passes T (suc d) b c → Reaches T d a c o
reach_pass {o} p q = record { refusals = λ os n. p.refusals os n ∙ q.refusals (o ∷ os) (ap suc n); levels = λ k. p.levels k ∙ q.levels (suc k) }

pub reach_fail : {T : Table} {d a b : ℕ} {o : Open} {why : Refusal} → Reaches T d a b o → Fails T (suc d) b why → Fails T d a why
reach_fail {o} p f os n = p.refusals os n ∙ f (o ∷ os) (ap suc n)

-- After the last row nothing is left, or the construct is left open.
pub pass_all : (T : Table) (a : ℕ) → Passes T 0 0 a → a ≡ length T → refusal_from T 0 [] ≡ none
unfolding rows_refusal left_open
pass_all T a p e = p.refusals [] refl ∙ ap (λ i. rows_refusal (drop i T) i []) e ∙ ap (λ rows. rows_refusal rows (length T) []) (drop-length T)

pub reach_left : {T : Table} {d a b : ℕ} {o : Open} → Reaches T d a b o → b ≡ length T → Fails T d a (LeftOpen (opener o))
unfolding rows_refusal left_open
reach_left {T} {o} p e os n =
    p.refusals os n ∙ ap (λ i. rows_refusal (drop i T) i (o ∷ os)) e ∙ ap (λ rows. rows_refusal rows (length T) (o ∷ os)) (drop-length T)

end_closes : (o : Open) → role (end_op o) ≡ closing
unfolding end_op role
end_closes (in_then k) = refl
end_closes (in_else k) = refl
end_closes (in_loop k) = refl

module _ {T : Table} {d a : ℕ} where
  pub reach_open : {op : Op} {o : Open} → a < length T → own_refusal a (row_at T a) ≡ none → (row_at T a).op ≡ op → Starts a op o → d < max_nesting
      → Reaches T d a (suc a) o
  unfolding role scan_row
  reach_open l own e starts_if m =
      record { refusals = λ os n. pass_step T a l own (rw e (opens {os = os} starts_if (omega arith))); levels = λ k. level_step T a l k ∙ rw e }
  reach_open l own e starts_loop m =
      record { refusals = λ os n. pass_step T a l own (rw e (opens {os = os} starts_loop (omega arith))); levels = λ k. level_step T a l k ∙ rw e }

  module _ {b : ℕ} (l : b < length T) (own : own_refusal b (row_at T b) ≡ none) where
    pub reach_else : {k : ℕ} → Reaches T d a b (in_then k) → (row_at T b).op ≡ ELSE → Reaches T d a (suc b) (in_else k)
    unfolding role scan_row
    reach_else p e =
        record { refusals = λ os n. p.refusals os n ∙ pass_step T b l own (rw e divides); levels = λ k. p.levels k ∙ level_step T b l (suc k) ∙ rw e }

    pub reach_end : {o : Open} → Reaches T d a b o → (row_at T b).op ≡ end_op o → Passes T d a (suc b)
    unfolding scan_row
    reach_end {o} p e =
        record {
          refusals = λ os n. p.refusals os n ∙ pass_step T b l own (rw e closes);
          levels = λ k. p.levels k ∙ level_step T b l (suc k)
              ∙ rw (e, end_closes o);
        }

    pub reach_misfit : {o : Open} → Reaches T d a b o → ((os : List Open) → fits (row_at T b).op (o ∷ os) ≡ false) → Fails T d a (Misplaced b)
    reach_misfit {o} p f os n = p.refusals os n ∙ misplaced T b l own (o ∷ os) (f os)

-- The scan for a loop's end stops at the ENDWHILE behind the loop's body.
pub loop_end : {T : Table} {d a b : ℕ} → Passes T d (suc a) b → b < length T → (row_at T b).op ≡ ENDWHILE → end_of T a ≡ b
unfolding end_of role scan_row
loop_end {T} {b} p l e = p.levels 0 ∙ level_step T b l 0 ∙ rw e
