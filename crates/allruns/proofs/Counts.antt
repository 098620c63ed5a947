-- Spent is said only at the limit; the counted barriers are those that all threads pass, as many as `barriers` says. For every table. Assumes nothing.
use mathlib.Core.Path.{◌≡◌, refl, ◌∙◌, ap, subst}
use mathlib.Core.List.{List, [], ◌∷◌}
use mathlib.Core.Bool.{Bool, true, false, cond, ◌&&◌}
use Prim.Native.Nat.{ℕ, zero, suc, ◌+◌, ◌≤◌}
use native.Mathlib.Omega.{arith}
use borrow.Author.Tests.{lt-ltb, le-ltb}
use lib.Dec.{leb, ltb}
use lib.ListN.{length, length-append}
use Rattle.spec.specs.declared.Verdict.{Verdict}
use Rattle.spec.specs.declared.Verdict.TheVariants.{Passed, Race, GroupRace, Outside, Common, Diverged, Spent}
use Rattle.spec.specs.Op.{Op, CALC, Space, Mem, MEM, IF, ELSE, ENDIF, WHILE, ENDWHILE, BARRIER, UNKNOWN, value}
use Rattle.spec.specs.Table.{Table, Row, row_at, end_of}
use Rattle.spec.specs.Shape.{Shape, launch_number}
use Rattle.spec.specs.Mask.{Mask, any, full}
use Rattle.spec.specs.LockStep.{Saved, LockState, Step, continues, stops, and_then, in_turn, advance, set_reg, compute_turn, made_access}
use Rattle.spec.specs.LockStep.{access_turn, for_enabled, count_steps, top_mask, pop}
use Rattle.spec.specs.LockStep.{if_row, else_row, endif_row, leave_or_stay, while_row, endwhile_row, pass_barrier, barrier_row, run_row, LockResult, result_of}
use Rattle.spec.specs.LockStep.{run_from, counted_at, counted_after, counted_from}
use Rattle.allruns.proofs.AccessTurns.{turn_cases}

-- A row at which barriers grows, by the row alone: a BARRIER that all threads come to. And the cells there.
unfoldable pub passes : Op → LockState → Bool
passes (CALC c) s = false
passes (MEM p m) s = false
passes IF s = false
passes ELSE s = false
passes ENDIF s = false
passes WHILE s = false
passes ENDWHILE s = false
passes BARRIER s = any s.enabled && full s.enabled
passes UNKNOWN s = false

unfoldable pub passed_at : Op → LockState → List (List ℕ)
passed_at o s = cond (passes o s) (s.cells ∷ []) []

pub is_spent : Verdict → ℕ
is_spent Passed = 0
is_spent (Race t u k c) = 0
is_spent (GroupRace t h k c) = 0
is_spent (Outside t c) = 0
is_spent (Common t c) = 0
is_spent (Diverged t u) = 0
is_spent Spent = 1

-- A step from s leaves these counts of rows and barriers; where it stops, it is not for want of rows, and the counts are those of s.
abbrev pub Leaves : LockState → (rows barriers : ℕ) → Step → Type 0
Leaves s r b (continues z) = (z.rows ≡ r) × (z.barriers ≡ b)
Leaves s r b (stops v z) = (is_spent v ≡ 0) × (z.rows ≡ s.rows) × (z.barriers ≡ s.barriers)

leaves_then : (s : LockState) (r b r' b' : ℕ) (x : Step) (f : LockState → Step) → Leaves s r b x
    → ((z : LockState) → z.rows ≡ r → z.barriers ≡ b → Leaves s r' b' (f z)) → Leaves s r' b' (and_then x f)
unfolding and_then
leaves_then s r b r' b' (continues z) f h g = g z h.0 h.1
leaves_then s r b r' b' (stops v z) f h g = h

-- A thread's turn that leaves the counts, taken by any number of threads.
abbrev KeepsCounts : (LockState → ℕ → Step) → Type 0
KeepsCounts f = (s : LockState) (t : ℕ) → Leaves s s.rows s.barriers (f s t)

leaves_turns : (f : LockState → ℕ → Step) → KeepsCounts f → (s : LockState) (ts : List ℕ) (z : LockState) → z.rows ≡ s.rows → z.barriers ≡ s.barriers
    → Leaves s s.rows s.barriers (in_turn f ts z)
unfolding in_turn
leaves_turns f h s [] z p q = (p, q)
leaves_turns f h s (t ∷ ts) z p q =
    leaves_then s s.rows s.barriers s.rows s.barriers (f z t) (in_turn f ts) (move (f z t) (h z t)) (λ w x y. leaves_turns f h s ts w x y)
  where
    move : (x : Step) → Leaves z z.rows z.barriers x → Leaves s s.rows s.barriers x
    move (continues w) k = (k.0 ∙ p, k.1 ∙ q)
    move (stops v w) k = (k.0, k.1 ∙ p, k.2 ∙ q)

leaves_enabled : (f : LockState → ℕ → Step) → KeepsCounts f → (s : LockState) → Leaves s (suc s.rows) s.barriers (for_enabled f s)
unfolding for_enabled advance
leaves_enabled f h s =
    leaves_then s s.rows s.barriers (suc s.rows) s.barriers (in_turn f _ s) _ (leaves_turns f h s _ s refl refl) (λ z p q. (ap suc p, q))

keeps_compute : (x : Row) (f : ℕ → ℕ → ℕ → ℕ) → KeepsCounts (compute_turn x f)
unfolding compute_turn set_reg
keeps_compute x f s t = (refl, refl)

keeps_access : (L : Shape) (p : Space) (m : Mem) (x : Row) → KeepsCounts (access_turn L p m x)
unfolding made_access set_reg is_spent
keeps_access L p m x s t =
    turn_cases L p m x s t (Leaves s s.rows s.barriers) (λ l u. (refl, refl, refl)) (λ v l u. (refl, refl)) (λ l u. (refl, refl, refl))
    (λ o y l a. (refl, refl, refl)) (λ h y l a b. (refl, refl, refl))
    (λ l a b. (refl, refl))

leaves_while : (T : Table) (s : LockState) (v : List Saved) (m : Mask) → Leaves s (suc s.rows) s.barriers (continues (leave_or_stay T s v m))
unfolding leave_or_stay advance
leaves_while T s v m = by (any m)
  where
    by : (p : Bool)
        → Leaves s (suc s.rows) s.barriers
        (continues (cond p (advance (suc s.row) m v s) (advance (suc (end_of T s.row)) (top_mask v) (pop v) s)))
    by true = (refl, refl)
    by false = (refl, refl)

leaves_barrier : (L : Shape) (s : LockState) (a f : Bool) (v : Verdict) → is_spent v ≡ 0
    → Leaves s (suc s.rows) (s.barriers + length (cond (a && f) (s.cells ∷ []) []))
    (cond a (cond f (continues (pass_barrier L s)) (stops v s)) (continues (advance (suc s.row) s.enabled s.saved s)))
unfolding pass_barrier advance
leaves_barrier L s true true v h = (refl, omega arith)
leaves_barrier L s true false v h = (h, refl, refl)
leaves_barrier L s false f v h = (refl, omega arith)

-- The barriers after a row.
unfoldable pub grown : LockState → Op → ℕ
grown s o = s.barriers + length (passed_at o s)

-- A row that counts no barrier.
uncounted : (s : LockState) (x : Step) → Leaves s (suc s.rows) s.barriers x → Leaves s (suc s.rows) (s.barriers + 0) x
uncounted s (continues z) h = let p = h.1 in (h.0, omega (arith, p))
uncounted s (stops v z) h = h

pub leaves_row : (T : Table) (L : Shape) (x : Row) (s : LockState) (o : Op) → Leaves s (suc s.rows) (grown s o) (run_row T L x s o)
unfolding grown run_row passed_at passes advance count_steps barrier_row is_spent if_row else_row endif_row while_row endwhile_row
leaves_row T L x s (CALC c) =
    uncounted s (run_row T L x s (CALC c)) (leaves_enabled _ (keeps_compute x (λ t p q. value c L.threads t (launch_number L t) x.a x.b p q)) s)
leaves_row T L x s (MEM p m) = uncounted s (run_row T L x s (MEM p m)) (leaves_enabled _ (keeps_access L p m x) s)
leaves_row T L x s IF = uncounted s (run_row T L x s IF) (refl, refl)
leaves_row T L x s ELSE = uncounted s (run_row T L x s ELSE) (refl, refl)
leaves_row T L x s ENDIF = uncounted s (run_row T L x s ENDIF) (refl, refl)
leaves_row T L x s WHILE = uncounted s (run_row T L x s WHILE) (leaves_while T (count_steps s.enabled s) _ _)
leaves_row T L x s ENDWHILE = uncounted s (run_row T L x s ENDWHILE) (refl, refl)
leaves_row T L x s BARRIER = leaves_barrier L s (any s.enabled) (full s.enabled) _ refl
leaves_row T L x s UNKNOWN = uncounted s (run_row T L x s UNKNOWN) (refl, refl)

-- A row at which barriers grows is one that all threads pass: their number tells which.
by_growth : (c : List ℕ) (b : Bool) (x y : ℕ) → y ≡ x + length (cond b (c ∷ []) []) → cond (ltb x y) (c ∷ []) [] ≡ cond b (c ∷ []) []
by_growth c true x y e = rw (lt-ltb x y (omega arith)) refl
by_growth c false x y e = rw (le-ltb x y (omega arith)) refl

counted_by : (s z : LockState) (o : Op) → z.barriers ≡ grown s o → counted_at s z ≡ passed_at o s
unfolding grown counted_at passed_at
counted_by s z o e = by_growth s.cells (passes o s) s.barriers z.barriers e

pub counted_is : (T : Table) (L : Shape) (x : Row) (s z : LockState) (o : Op) → run_row T L x s o ≡ continues z → counted_at s z ≡ passed_at o s
counted_is T L x s z o e = counted_by s z o (subst (Leaves s (suc s.rows) (grown s o)) e (leaves_row T L x s o)).1

-- What a run with `left` rows to go says in its counts, its result being o and its counted barriers bs.
record Counted (left : ℕ) (s : LockState) (o : LockResult) (bs : List (List ℕ)) : Type 0 where
  pub at_limit : is_spent o.verdict ≡ 1 → o.state.rows ≡ s.rows + left
  pub barriers : length bs + s.barriers ≡ o.state.barriers
  pub within : o.state.rows ≤ s.rows + left
  pub more : s.rows ≤ o.state.rows

counted_on : (T : Table) (L : Shape) (left : ℕ) (s : LockState) (o : Op) (x : Step) → Leaves s (suc s.rows) (grown s o) x
    → ((z : LockState) → Counted left z (run_from T L left z) (counted_from T L left z))
    → Counted (suc left) s (result_of x (run_from T L left)) (counted_after s x (counted_from T L left))
unfolding result_of counted_after grown is_spent
counted_on T L left s o (continues z) h f =
    let l = length-append (counted_at s z) (counted_from T L left z) in
    let m = ap length (counted_by s z o h.1) in
    let p = h.0 in
    let q = h.1 in
    let w = (f z).barriers in
    let a = (f z).within in
    let b = (f z).more in
    record {
      at_limit = λ e. let v = (f z).at_limit e in omega (arith, v, p);
      barriers = omega (arith, l, m, q, w);
      within = omega (arith, a, p);
      more = omega (arith, b, p);
    }
counted_on T L left s o (stops v z) h f =
    let q = h.2 in
    let r = h.1 in
    record { at_limit = λ e. let p = h.0 in absurd (omega (arith, e, p)); barriers = omega (arith, q); within = omega (arith, r); more = omega (arith, r) }

counted_run : (T : Table) (L : Shape) (left : ℕ) (s : LockState) → Counted left s (run_from T L left s) (counted_from T L left s)
unfolding run_from counted_from is_spent
counted_run T L zero s = record { at_limit = λ e. omega arith; barriers = omega arith; within = omega arith; more = omega arith }
counted_run T L (suc left) s =
    by (leb (length T) s.row)
    (counted_on T L left s (row_at T s.row).op (run_row T L (row_at T s.row) s (row_at T s.row).op)
    (leaves_row T L (row_at T s.row) s (row_at T s.row).op) (counted_run T L left))
  where
    out : LockResult
    out = result_of (run_row T L (row_at T s.row) s (row_at T s.row).op) (run_from T L left)

    bars : List (List ℕ)
    bars = counted_after s (run_row T L (row_at T s.row) s (row_at T s.row).op) (counted_from T L left)

    by : (b : Bool) → Counted (suc left) s out bars
        → Counted (suc left) s (elim b as (λ c. LockResult) [ true ↦ record { verdict = Passed; state = s } | false ↦ out ])
        (elim b as (λ c. List (List ℕ)) [ true ↦ [] | false ↦ bars ])
    by true h = record { at_limit = λ e. absurd (omega (arith, e)); barriers = omega arith; within = omega arith; more = omega arith }
    by false h = h

pub spent_at_limit : (T : Table) (L : Shape) (left : ℕ) (s : LockState) → (run_from T L left s).verdict ≡ Spent → (run_from T L left s).state.rows ≡ s.rows + left
unfolding is_spent
spent_at_limit T L left s e = (counted_run T L left s).at_limit (ap is_spent e)

pub counted_length : (T : Table) (L : Shape) (left : ℕ) (s : LockState) → length (counted_from T L left s) + s.barriers ≡ (run_from T L left s).state.barriers
counted_length T L left s = (counted_run T L left s).barriers

-- A run runs no more rows than it has.
pub rows_within : (T : Table) (L : Shape) (left : ℕ) (s : LockState) → (run_from T L left s).state.rows ≤ s.rows + left
rows_within T L left s = (counted_run T L left s).within

pub rows_more : (T : Table) (L : Shape) (left : ℕ) (s : LockState) → s.rows ≤ (run_from T L left s).state.rows
rows_more T L left s = (counted_run T L left s).more
