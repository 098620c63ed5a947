-- The records of a launch and what its report says: its rows are theirs, a barrier more starts a record more as long as there is room for one,
-- and a row costs at most 31. For every table. Document 02, item 5. Assumes nothing.
use mathlib.Core.Path.{◌≡◌, refl}
use mathlib.Core.List.{List, [], ◌∷◌, ◌++◌, map}
use mathlib.Core.Bool.{Bool, true, false, cond}
use Prim.Native.Nat.{ℕ, zero, suc, ◌+◌, ◌-◌, ◌*◌, ◌≤◌, min}
use native.Mathlib.Omega.{arith}
use lib.Dec.{eqb, leb, ltb}
use lib.ListN.{length, length-append, length-replicate}
use Rattle.spec.specs.declared.Verdict.TheVariants.{Passed}
use Rattle.spec.specs.Limits.{max_records, max_threads}
use Rattle.spec.specs.Mask.{Mask, any}
use Rattle.spec.specs.Op.{Op, CALC, MEM, IF, ELSE, ENDIF, WHILE, ENDWHILE, BARRIER, UNKNOWN}
use Rattle.spec.specs.Shape.{Shape, Sizes, shape_of}
use Rattle.spec.specs.Answers.{is_passed}
use Rattle.spec.specs.Lists.{joined, last_of}
use Rattle.spec.specs.LaunchRun.{GroupRun, group_result, group_runs, last_run, lockstep, next_start, rows_left, runs_from}
use Rattle.spec.specs.Table.{Table, Row, row_at, end_of}
use Rattle.spec.specs.Steps.{sum}
use Rattle.spec.specs.LockStep.{LockState, LockResult, Saved, Step, continues, stops, advance, count_steps, top_mask, pop, if_row, else_row, endif_row}
use Rattle.spec.specs.LockStep.{saved_at_while, leave_or_stay, while_row, endwhile_row, run_row, result_of, run_from, initial_state}
use Rattle.spec.specs.LockStep.{counted_at, counted_after, counted_from}
use Rattle.spec.specs.Intervals.{Interval, Intervals, row_cost, all_of, started, with_row, behind, intervals_after, intervals_from, interval_records, conflicts_of}
use Rattle.spec.proofs.Laws.{minus_size, holding_size}
use Rattle.spec.proofs.IntervalLaws.{records_rows, records_conflicts, records_count, row_cost_lem}
use Rattle.allruns.proofs.LockInvariants.{cond_keeps}
use Rattle.allruns.proofs.Counts.{Leaves, leaves_row, counted_length}
use Rattle.allruns.proofs.ElseThreads.{Masked, masked, masked_barrier}
use Rattle.allruns.proofs.Rows.{keeps_calc, keeps_touch}

-- No mask of a state has more than 32 threads. A table that is not accepted may take a mask where none is saved: that has no thread.
abbrev FewSaved : List Saved → Type 0
FewSaved [] = Unit {0}
FewSaved (f ∷ v) = (length f.mask ≤ max_threads) × FewSaved v

abbrev Few : LockState → Type 0
Few s = (length s.enabled ≤ max_threads) × FewSaved s.saved

abbrev FewAfter : Step → Type 0
FewAfter (continues z) = Few z
FewAfter (stops v z) = Unit {0}

few_top : (v : List Saved) → FewSaved v → (length (top_mask v) ≤ max_threads) × FewSaved (pop v)
unfolding top_mask pop
few_top [] h = (omega arith, tt)
few_top (f ∷ v) h = h

few_while : (r : ℕ) (m : Mask) (v : List Saved) → length m ≤ max_threads → FewSaved v → FewSaved (saved_at_while r m v)
unfolding saved_at_while
few_while r m [] l h = (l, tt)
few_while r m (f ∷ v) l h = cond_keeps FewSaved (eqb f.opener r) {x = f ∷ v} {y = record { opener = r; mask = m } ∷ (f ∷ v)} h (l, h)

few_stay : (T : Table) (s : LockState) (v : List Saved) (m : Mask) → length m ≤ max_threads → FewSaved v → Few (leave_or_stay T s v m)
unfolding leave_or_stay advance
few_stay T s v m l h =
    cond_keeps Few (any m) {x = advance (suc s.row) m v s} {y = advance (suc (end_of T s.row)) (top_mask v) (pop v) s} (l, h) (few_top v h)

few_same : (s : LockState) (x : Step) → Masked s x → Few s → FewAfter x
few_same s (continues z) e h = rw (e.0, e.1) h
few_same s (stops v z) e h = tt

few_row : (T : Table) (L : Shape) (x : Row) (s : LockState) (o : Op) → Few s → FewAfter (run_row T L x s o)
unfolding run_row advance count_steps if_row else_row endif_row while_row endwhile_row
few_row T L x s (CALC c) h = few_same s (run_row T L x s (CALC c)) (masked _ (keeps_calc x _) s) h
few_row T L x s (MEM p m) h = few_same s (run_row T L x s (MEM p m)) (masked _ (keeps_touch L p m x) s) h
few_row T L x s IF h = (omega (arith, h.0, holding_size x.a s.enabled s.regs), h)
few_row T L x s ELSE h = let k = few_top s.saved h.1 in (omega (arith, k.0, minus_size (top_mask s.saved) s.enabled), k)
few_row T L x s ENDIF h = few_top s.saved h.1
few_row T L x s WHILE h =
    few_stay T (count_steps s.enabled s) _ _ (omega (arith, h.0, holding_size x.a s.enabled s.regs)) (few_while s.row s.enabled s.saved h.0 h.1)
few_row T L x s ENDWHILE h = h
few_row T L x s BARRIER h = few_same s (run_row T L x s BARRIER) (masked_barrier L s) h
few_row T L x s UNKNOWN h = h

abbrev rows_in : List Interval → ℕ
rows_in is = sum (map (λ i. i.rows) is)

-- What the intervals from s on say of a run from there, its result being o and its counted barriers bs.
record Sums (s : LockState) (o : LockResult) (bs : List (List ℕ)) (is : Intervals) : Type 0 where
  pub rows : rows_in (all_of is) + s.rows ≡ o.state.rows
  pub count : length (all_of is) ≡ suc (length bs)
  pub costs : conflicts_of (all_of is) ≤ 31 * rows_in (all_of is)

sums_none : (s : LockState) (o : LockResult) → o.state.rows ≡ s.rows → Sums s o [] (started s.row)
unfolding started all_of sum conflicts_of
sums_none s o e = record { rows = omega arith; count = refl; costs = omega arith }

sums_row : (k : ℕ) (s z : LockState) (o : LockResult) (bs : List (List ℕ)) (is : Intervals) → k ≤ 31 → z.rows ≡ suc s.rows → Sums z o bs is
    → Sums s o (counted_at s z ++ bs) (with_row s.row k (behind s z is))
unfolding counted_at behind with_row started all_of sum conflicts_of
sums_row k s z o bs is l e h = by (ltb s.barriers z.barriers)
  where
    by : (b : Bool) → Sums s o (cond b (s.cells ∷ []) [] ++ bs) (with_row s.row k (cond b (record { first = (started z.row).first; later = all_of is }) is))
    by true = record { rows = omega arith; count = omega arith; costs = omega arith }
    by false = record { rows = omega arith; count = omega arith; costs = omega arith }

sums_after : (T : Table) (L : Shape) (left k b : ℕ) (s : LockState) (x : Step) → k ≤ 31 → Leaves s (suc s.rows) b x → FewAfter x
    → ((z : LockState) → Few z → Sums z (run_from T L left z) (counted_from T L left z) (intervals_from T L left z))
    → Sums s (result_of x (run_from T L left)) (counted_after s x (counted_from T L left)) (intervals_after k s x (intervals_from T L left))
unfolding result_of counted_after intervals_after
sums_after T L left k b s (continues z) l h few ih = sums_row k s z _ _ _ l h.0 (ih z few)
sums_after T L left k b s (stops v z) l h few ih = sums_none s _ h.1

sums_run : (T : Table) (L : Shape) (left : ℕ) (s : LockState) → Few s → Sums s (run_from T L left s) (counted_from T L left s) (intervals_from T L left s)
unfolding run_from counted_from intervals_from
sums_run T L zero s few = sums_none s _ refl
sums_run T L (suc left) s few =
    by (leb (length T) s.row)
    (sums_after T L left _ _ s step (omega (arith, few.0, row_cost_lem x s x.op)) (leaves_row T L x s x.op) (few_row T L x s x.op few) (sums_run T L left))
  where
    x : Row
    x = row_at T s.row

    step : Step
    step = run_row T L x s x.op

    out : LockResult
    out = result_of step (run_from T L left)

    bars : List (List ℕ)
    bars = counted_after s step (counted_from T L left)

    is : Intervals
    is = intervals_after (row_cost x s x.op) s step (intervals_from T L left)

    by : (b : Bool) → Sums s out bars is
        → Sums s (elim b as (λ c. LockResult) [ true ↦ record { verdict = Passed; state = s } | false ↦ out ])
        (elim b as (λ c. List (List ℕ)) [ true ↦ [] | false ↦ bars ]) (elim b as (λ c. Intervals) [ true ↦ started s.row | false ↦ is ])
    by true h = sums_none s _ refl
    by false h = h

-- All intervals of the runs of group g, from s, and of the groups behind it; the last of them ends so.
record AllSums (s : LockState) (o : LockResult) (started : ℕ) (is : List Interval) : Type 0 where
  pub rows : rows_in is + s.rows ≡ o.state.rows
  pub count : length is + s.barriers ≡ o.state.barriers + started
  pub costs : conflicts_of is ≤ 31 * rows_in is

rows_joined : (is js : List Interval) → (rows_in (is ++ js) ≡ rows_in is + rows_in js) × (conflicts_of (is ++ js) ≡ conflicts_of is + conflicts_of js)
unfolding sum conflicts_of
rows_joined [] js = (omega arith, omega arith)
rows_joined (i ∷ is) js = let h = rows_joined is js in (omega (arith, h.0), omega (arith, h.1))

-- The intervals of one run in front of those of the next groups' runs.
sums_then : (s z : LockState) (o₁ o : LockResult) (bs : List (List ℕ)) (is : Intervals) (started : ℕ) (js : List Interval)
    → Sums s o₁ bs is → length bs + s.barriers ≡ o₁.state.barriers → z.rows ≡ o₁.state.rows → z.barriers ≡ o₁.state.barriers
    → AllSums z o started js → AllSums s o (suc started) (all_of is ++ js)
sums_then s z o₁ o bs is started js h c e f k =
    let r = rows_joined (all_of is) js in
    record {
      rows = omega (arith, r.0, h.rows, k.rows, e);
      count = omega (arith, length-append (all_of is) js, h.count, k.count, c, f);
      costs = omega (arith, r.0, r.1, h.costs, k.costs);
    }

sums_alone : (s : LockState) (o : LockResult) (bs : List (List ℕ)) (is : Intervals) → Sums s o bs is → length bs + s.barriers ≡ o.state.barriers
    → AllSums s o 1 (all_of is ++ [])
unfolding sum conflicts_of
sums_alone s o bs is h c = sums_then s o.state o o bs is 0 [] h c refl refl (record { rows = omega arith; count = omega arith; costs = omega arith })

module _ (T : Table) (Z : Sizes) (limit : ℕ) (few : Z.threads ≤ max_threads) where
  abbrev intervals_of : GroupRun → List Interval
  intervals_of u = all_of (intervals_from T u.shape (rows_left limit u) u.start)

  all_sums : (j g : ℕ) (s : LockState) (d : GroupRun) → Few s → let us = runs_from T Z limit j g s in
      AllSums s (group_result T limit (last_of d us)) (length us) (joined (map intervals_of us))
  unfolding runs_from last_of joined group_result
  all_sums zero g s d f =
      let left = rows_left limit (record { shape = shape_of Z g; start = s }) in
      sums_alone s _ (counted_from T (shape_of Z g) left s) _ (sums_run T (shape_of Z g) left s f) (counted_length T (shape_of Z g) left s)
  all_sums (suc j) g s d f = by (is_passed o.verdict) (all_sums j (suc g) (next_start (shape_of Z (suc g)) o.state))
    where
      u : GroupRun
      u = record { shape = shape_of Z g; start = s }

      o : LockResult
      o = group_result T limit u

      z : LockState
      z = next_start (shape_of Z (suc g)) o.state

      later : List GroupRun
      later = runs_from T Z limit j (suc g) z

      run : Sums s o (counted_from T (shape_of Z g) (rows_left limit u) s) (intervals_from T (shape_of Z g) (rows_left limit u) s)
      run = unfold group_result in (sums_run T (shape_of Z g) (rows_left limit u) s f)

      barriers : length (counted_from T (shape_of Z g) (rows_left limit u) s) + s.barriers ≡ o.state.barriers
      barriers = unfold group_result in (counted_length T (shape_of Z g) (rows_left limit u) s)

      few_next : Few z
      few_next = unfold next_start in (omega (arith, length-replicate Z.threads true), tt)

      by : (b : Bool) → ((d : GroupRun) → Few z → AllSums z (group_result T limit (last_of d later)) (length later) (joined (map intervals_of later)))
          → AllSums s (group_result T limit (last_of u (cond b later []))) (suc (length (cond b later []))) (intervals_of u ++ joined (map intervals_of (cond b later [])))
      by true ih = sums_then s z o _ _ _ _ _ run barriers (unfold next_start in refl) (unfold next_start in refl) (ih u few_next)
      by false ih = unfold last_of joined in (sums_alone s o _ _ run barriers)

-- The records of a launch, of whose groups so many were started and whose run ended so.
pub record AddUp (started : ℕ) (o : LockResult) (records : List Interval) : Type 0 where
  pub rows : sum (map (λ i. i.rows) records) ≡ o.state.rows
  pub count : length records ≡ min (o.state.barriers + started) max_records
  pub costs : conflicts_of records ≤ 31 * o.state.rows

pub add_up : (T : Table) (Z : Sizes) (cells : List ℕ) (limit : ℕ) → Z.threads ≤ max_threads
    → AddUp (length (group_runs T Z cells limit)) (lockstep T Z cells limit) (interval_records T Z cells limit)
unfolding lockstep last_run group_runs interval_records initial_state
add_up T Z cells limit l =
    let h = all_sums T Z limit l (Z.groups - 1) 0 (initial_state Z cells) (record { shape = shape_of Z 0; start = initial_state Z cells })
    (omega (arith, length-replicate Z.threads true), tt) in
    let is = joined (map (intervals_of T Z limit l) (group_runs T Z cells limit)) in
    let k = max_records - 1 in
    record {
      rows = omega (arith, records_rows k is, h.rows);
      count = omega (arith, records_count k is, h.count);
      costs = omega (arith, records_conflicts k is, h.costs, h.rows);
    }
