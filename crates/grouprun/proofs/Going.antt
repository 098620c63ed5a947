-- A group's run, one row at a time. Assumes nothing.
use mathlib.Core.Path.{◌≡◌, refl, sym, ◌∙◌, ap, subst, subst₂}
use mathlib.Core.Logic.{◌⊎◌, inl, inr, ⊎_elim}
use mathlib.Core.List.{List, [], ◌∷◌, map}
use mathlib.Core.Bool.{false}
use Prim.Native.Nat.{ℕ, zero, suc, ◌+◌, ◌-◌, ◌*◌, ◌/◌, ◌^◌, ◌<◌, ◌≤◌}
use native.Mathlib.Omega.{arith}
use native.Mathlib.Decide.{ℕ_discrete}
use borrow.Author.Tests.{le-leb, lt-leb, eq-eqb, ne_eqb}
use lib.ListN.{length, get_or, replicate, length-replicate}
use Rattle.spec.specs.Limits.{log_per_cell, max_common, records_lent}
use Rattle.spec.specs.declared.Verdict.{Verdict}
use Rattle.spec.specs.declared.Verdict.TheVariants.{Passed, Spent}
use Rattle.spec.specs.Mask.{Mask, mask_word, members}
use Rattle.spec.specs.Op.{Op, CALC, LAUNCHTID, OWN, GLOBAL, Mem, MEM, IF, ELSE, ENDIF, WHILE, ENDWHILE, BARRIER, UNKNOWN, op_of}
use Rattle.spec.specs.Table.{Table, Row, rows_of, cell_byte, opening, role, row_at, open_before, opened_by, innermost, Fits, row_of}
use Rattle.spec.specs.Shape.{Shape}
use Rattle.spec.specs.LockStep.{LockState, Step, continues, stops, top_opener, reg, run_row, LockResult, result_of, run_from}
use Rattle.spec.specs.LockStep.{advance, count_steps, endif_row, pop, top_mask}
use Rattle.spec.specs.Steps.{all_stepped}
use Rattle.spec.specs.Banks.{conflict_cost}
use Rattle.spec.specs.Intervals.{Interval, Intervals, row_cost, started, with_row, behind, intervals_after, intervals_from}
use Rattle.spec.specs.Entries.{over}
use Rattle.spec.specs.Threads.{Group, machine}
use Rattle.spec.specs.Runs.{after}
use Rattle.spec.proofs.StepLaws.{all_stepped_size}
use Rattle.spec.proofs.Laws.{lt_or_le, row_bytes_lem, rows_length, role_while, top_cons, byte_if, byte_else, byte_endif, byte_while, byte_endwhile, byte_barrier}
use Rattle.structure.proofs.Acceptance.{well_formed, depth_bounded}
use Rattle.allruns.proofs.Nesting.{is_while}
use Rattle.allruns.proofs.Simulation.{Frame}
use Rattle.allruns.proofs.Rows.{Sim, Framed, fresh, again, saved_of, openers_of, framed_fresh, Stopping, RowDone}
use Rattle.allruns.proofs.BarrierRow.{row_done}
use Rattle.allruns.proofs.Counts.{Leaves, leaves_row, grown}
use Rattle.layout.specs.declared.State.{State}
use Rattle.layout.specs.declared.Stopped.{Stopped}
use Rattle.layout.specs.Next.{Next}
use Rattle.layout.specs.Next as next
use Rattle.layout.specs.Views.{view_of, own_from}
use Rattle.layout.specs.Groups.{GroupStands, GroupAfter}
use Rattle.layout.proofs.Saving.{saves_back}
use Rattle.layout.proofs.Parts.{part_size, own_within}
use Rattle.layout.specs.Represents.{Saves, Counted, Counts, RoomForWhile}
use Rattle.layout.specs.Running.{RowAsks, Runnable, start_state}
use Rattle.layout.specs.Counting.{Roomy, Added, stepping, NextCounted, acted_before, ThreadFits, Tally}
use Rattle.stepcounts.proofs.RowSteps.{who_steps, RowSteps, StoppedRow, row_steps}
use Rattle.stepcounts.proofs.Tallies.{tally_start, tally_room, tally_row, tally_end, tally_fits, tally_stop_room, tally_stop}
use Rattle.banks.specs.Counting.{Known, Older, own}
use Rattle.banks.specs.Remembering.{Memo}
use Rattle.intervals.specs.Records.{released, records_after, RecordAsks, Ledger}
use Rattle.intervals.proofs.Ledger.{ends_here, ledger_asks, ledger_row, ledger_release}
use Rattle.step.specs.Recording.{RowRecorded, cell_due}
use Rattle.step.proofs.Tables.{row_inside, row_here, compute_op, mem_op}
use Rattle.grouprow.specs.Rows.{LaunchRowAsks, GlobalRowAsks, BufferSizes, GroupReady, GroupSteps}
use Rattle.grouprun.specs.declared.Ended.{Ended}
use Rattle.grouprun.specs.Groups.{GroupStart, GroupEnd, SomeStart, followed}
use Rattle.grouprun.proofs.RowBytes.{BytesAsk, row_asks}
use Rattle.grouprun.proofs.Starting.{group_of, starts_sim, starts_stand}
use Rattle.grouprun.proofs.Recording.{intervals_start, intervals_row, intervals_end, intervals_spent, release_free, grown_one, plain_free, numbers_are, used_own, own_known, last}
use Rattle.grouprun.proofs.Recording.{row_went, row_stopped, behind_none, behind_more, after_none, after_more, row_followed, end_followed}

-- Between two rows of a group: the code's state stands for some state of the lock-step run, which is simulated by the threads' machine, and from which the
-- rest of the group's run comes to o. The lent list stands for the intervals that are left, those of later groups behind them.
pub record Going (table : List ℕ) (n group limit : ℕ) (common : List ℕ) (L : Shape) (o : LockResult) (whole : List Interval) (lent : List ℕ) (more : List Interval) (s : State)
    (regs cells log saved openers global shared masks counts stamps memo records : List ℕ) : Type 0 where
  pub here : LockState
  pub frames : List Frame
  pub threads : Group
  pub sim : Sim (rows_of table) L here frames threads
  pub threads_are : L.threads ≡ n
  pub group_is : L.group ≡ group
  pub common_are : L.common ≡ common
  pub stands : GroupStands L here s regs cells log saved openers global shared masks
  pub same : run_from (rows_of table) L (limit - s.rows) here ≡ o
  pub tally : Tally here s counts
  pub every : length here.steps ≡ n
  pub rows_most : s.rows ≤ limit
  pub since_few : s.since ≤ s.rows
  pub barriers_few : s.barriers ≤ s.rows
  pub older : Older (s.rows + 1) stamps
  pub remembered : Memo memo
  pub ledger : Ledger whole lent (followed (intervals_from (rows_of table) L (limit - s.rows) here) more) (s.barriers + group) s.rows records

module _ (table ends : List ℕ) (n group limit rows barriers : ℕ) (L : Shape) (z : LockState) (common cells global masks : List ℕ)
    (S : GroupStart n group rows barriers common cells global masks L z) (A : Runnable table ends) where
  pub go_start : (whole : List Interval) (lent : List ℕ) (more : List Interval) (s : State) (log shared stamps memo records : List ℕ) → n ≤ 32
      → s ≡ start_state (2 ^ n - 1) rows barriers → rows ≤ limit → barriers ≤ rows
      → log ≡ replicate (log_per_cell * length cells) 0 → shared ≡ replicate (log_per_cell * length global) 0 → Older (rows + 1) stamps → Memo memo
      → Ledger whole lent (followed (intervals_from (rows_of table) L (limit - rows) z) more) (barriers + group) rows records
      → Going table n group limit common L (run_from (rows_of table) L (limit - rows) z) whole lent more s (replicate 512 0) cells log (replicate 8 0) (replicate 8 0)
      global shared masks (replicate 32 0) stamps memo records
  go_start whole lent more s log shared stamps memo records l es hr hb el eg O M B =
      subst (λ x. Going table n group limit common L (run_from (rows_of table) L (limit - rows) z) whole lent more x (replicate 512 0) cells log (replicate 8 0) (replicate 8 0)
      global shared masks (replicate 32 0) stamps memo records) (sym es)
      (record {
        here = z;
        frames = [];
        threads = group_of n group rows barriers common cells global masks L z S (rows_of table);
        sim = starts_sim n group rows barriers common cells global masks L z S (rows_of table) (well_formed (rows_of table) A.accepted);
        threads_are = S.threads_are;
        group_is = S.group_is;
        common_are = S.common_are;
        stands = starts_stand n group rows barriers common cells global masks L z S l log shared el eg;
        same = refl;
        tally = tally_start z _ L.threads S.steps_are refl;
        every = ap length S.steps_are ∙ length-replicate {A = ℕ} L.threads 0 ∙ S.threads_are;
        rows_most = hr;
        since_few = omega arith;
        barriers_few = hb;
        older = O;
        remembered = M;
        ledger = B;
      })

-- How deep a row of an accepted table is.
saved_length : (fs : List Frame) → length (saved_of fs) ≡ length (openers_of fs)
saved_length [] = refl
saved_length (f ∷ fs) = ap suc (saved_length fs)

some_open : (T : Table) (os : List ℕ) → (innermost T os ≡ UNKNOWN → ⊥) → 0 < length os
unfolding innermost
some_open T [] h = absurd (h refl)
some_open T (o ∷ os) h = omega arith

not_while : (o p : Op) → o ≡ p → is_while p ≡ false → is_while o ≡ false
not_while o p e q = ap is_while e ∙ q

while_if : is_while IF ≡ false
unfolding is_while
while_if = refl

while_else : is_while ELSE ≡ false
unfolding is_while
while_else = refl

while_endif : is_while ENDIF ≡ false
unfolding is_while
while_endif = refl

while_endwhile : is_while ENDWHILE ≡ false
unfolding is_while
while_endwhile = refl

opens_more : (T : Table) (r : ℕ) → role (row_at T r).op ≡ opening → open_before T (suc r) ≡ r ∷ open_before T r
unfolding open_before opened_by
opens_more T r e = ap (λ f. opened_by f r (open_before T r)) e

role_if : (o : Op) → o ≡ IF → role o ≡ opening
unfolding role
role_if o e = ap role e

clash_if : UNKNOWN ≡ IF → ⊥
clash_if e = let z : ◌≡◌ {A = ℕ} 0 1 = cc in omega arith

clash_else : UNKNOWN ≡ ELSE → ⊥
clash_else e = let z : ◌≡◌ {A = ℕ} 0 1 = cc in omega arith

clash_while : UNKNOWN ≡ WHILE → ⊥
clash_while e = let z : ◌≡◌ {A = ℕ} 0 1 = cc in omega arith

which : (k : ℕ) → 33 ≤ k → k ≤ 36 → (k ≡ 35 → ⊥) → (k ≡ 33) ⊎ ((k ≡ 34) ⊎ (k ≡ 36))
which k h l n = by (ℕ_discrete k 33) (ℕ_discrete k 34)
  where
    by : Dec (k ≡ 33) → Dec (k ≡ 34) → (k ≡ 33) ⊎ ((k ≡ 34) ⊎ (k ≡ 36))
    by (yes e) q = inl e
    by (no f) (yes e) = inr (inl e)
    by (no f) (no e) = inr (inr (omega arith))

-- One row of the definition.
run_row_lem : (T : Table) (L : Shape) (k : ℕ) (z : LockState) → z.row < length T
    → run_from T L (suc k) z ≡ result_of (run_row T L (row_at T z.row) z (row_at T z.row).op) (run_from T L k)
unfolding run_from
run_row_lem T L k z h = rw (lt-leb (length T) z.row h, run_from)

run_end : (T : Table) (L : Shape) (k : ℕ) (z : LockState) → length T ≤ z.row → run_from T L k z ≡ record { verdict = Passed; state = z }
unfolding run_from
run_end T L zero z h = rw (le-leb (length T) z.row h)
run_end T L (suc k) z h = rw (le-leb (length T) z.row h, run_from)

run_spent : (T : Table) (L : Shape) (z : LockState) → z.row < length T → run_from T L 0 z ≡ record { verdict = Spent; state = z }
unfolding run_from
run_spent T L z h = rw (lt-leb (length T) z.row h)

view_numbers : (m : Mem) (x : Row) (a k : ℕ) (z : LockState) → map (λ t. reg (view_of a k z) t (cell_byte m x)) (members (view_of a k z).enabled)
    ≡ map (λ t. reg z t (cell_byte m x)) (members z.enabled)
unfolding reg view_of
view_numbers m x a k z = refl

first_followed : (is : Intervals) (more : List Interval) → (followed is more).first.start ≡ is.first.start
unfolding followed
first_followed is more = refl

-- A row has stopped in state s': there is room to count what was stepped, and the group's run is then the definition's.
pub record Stops (limit group : ℕ) (L : Shape) (o : LockResult) (whole : List Interval) (lent : List ℕ) (more : List Interval) (v : Verdict) (s' : State)
    (cells log global shared masks counts stamps memo records : List ℕ) : Type 0 where
  pub fits : ThreadFits v
  pub room : Roomy s'.mask 1 counts
  pub rest : (counts₁ : List ℕ) → Added (acted_before v s'.mask) 1 counts counts₁ → Roomy s'.mask s'.since counts₁
  pub ran : (counts₁ counts₂ : List ℕ) (q : Ended) → Added (acted_before v s'.mask) 1 counts counts₁
      → q ≡ record { verdict = v; row = s'.row; rows = s'.rows; barriers = s'.barriers } → Added s'.mask s'.since counts₁ counts₂
      → GroupEnd limit L o q cells log global shared masks counts₂ stamps memo
      × ((x : ℕ) × Ledger whole lent (followed (started x) more) (q.barriers + group) q.rows records)

-- What ends a run in state z.
ran_is : (limit : ℕ) (L : Shape) (v : Verdict) (z : LockState) (s : State) (regs cells log saved openers global shared masks counts stamps memo : List ℕ)
    → GroupStands L z s regs cells log saved openers global shared masks → (o : LockResult) → record { verdict = v; state = z } ≡ o
    → (r : Ended) → r ≡ record { verdict = v; row = s.row; rows = s.rows; barriers = s.barriers } → counts ≡ over z.steps (replicate 32 0)
    → s.row ≤ 256 → s.rows ≤ limit → s.barriers ≤ s.rows → (v ≡ Passed → Older (s.rows + 1) stamps) → Memo memo
    → GroupEnd limit L o r cells log global shared masks counts stamps memo
unfolding view_of
ran_is limit L v z s regs cells log saved openers global shared masks counts stamps memo G o eo r er ec hr hl hb O M =
    subst (λ q. GroupEnd limit L q r cells log global shared masks counts stamps memo) eo
    (subst (λ q. GroupEnd limit L (record { verdict = v; state = z }) q cells log global shared masks counts stamps memo) (sym er)
    (record {
      verdict_is = refl;
      row_is_lem = G.own.row_is_lem;
      rows_is = G.own.rows_is;
      barriers_is = G.own.barriers_is;
      sized = G.globals.sized;
      cells_are = G.own.memory.cells_are;
      log_is = G.own.memory.log_is.words_are;
      global_are = G.globals.memory.cells_are;
      shared_is = G.globals.memory.log_is.words_are;
      masks_are = G.globals.masks_are;
      counts_are = ec;
      row_few = hr;
      rows_most = hl;
      barriers_few = hb;
      older = O;
      remembered = M;
    }))

abbrev enabled_in : Step → Mask
enabled_in (continues z) = z.enabled
enabled_in (stops v z) = z.enabled

-- The threads that step in a row, by its byte.
module _ (n k d a b : ℕ) (own : (18 < k → k < 32 → ⊥) → RowAsks k d a b) (launch : k ≡ 19 → LaunchRowAsks k d) (global : 19 < k → k < 32 → GlobalRowAsks k d a)
    (T : Table) (L : Shape) (x : Row) (z z' : LockState) (s s' : State)
    (em : s.mask ≡ mask_word z.enabled) (em' : s'.mask ≡ mask_word z'.enabled) (en : length z.enabled ≡ n) (en' : length z'.enabled ≡ n) where
  abbrev Who : Op → Type 0
  Who o = run_row T L x z o ≡ continues z' → (stepping k s s' ≡ mask_word (who_steps o z)) × (length (who_steps o z) ≤ n)

  who_came : (o : Op) → (k ≡ 37 → ⊥) → (k ≡ 34 → ⊥) → who_steps o z ≡ z.enabled → Who o
  unfolding stepping
  who_came o f g e q =
      (rw (ne_eqb k 37 f, ne_eqb k 34 g) (em ∙ ap mask_word (sym e)), subst (λ m. length m ≤ n) (sym e) (omega arith))

  who_nobody : k ≡ 37 → Who BARRIER
  unfolding stepping who_steps mask_word
  who_nobody e q = (rw (eq-eqb k 37 e) refl, omega arith)

  who_restored : k ≡ 34 → Who ENDIF
  unfolding stepping who_steps run_row endif_row advance
  who_restored e q =
      let same : top_mask z.saved ≡ z'.enabled = by q in
      (rw (ne_eqb k 37 (λ y. omega arith), eq-eqb k 34 e) (em' ∙ ap mask_word (sym same)), subst (λ m. length m ≤ n) (sym same) (omega arith))
    where
      by : continues (advance (suc z.row) (top_mask z.saved) (pop z.saved) (count_steps (top_mask z.saved) z)) ≡ continues z' → top_mask z.saved ≡ z'.enabled
      by q = ap (λ o. enabled_in o) q

  pub who_steps_lem : Who (op_of k)
  unfolding who_steps
  who_steps_lem = by (lt_or_le k 16) (lt_or_le k 19) (lt_or_le k 32) (lt_or_le k 20)
    where
      plain : (o : Op) → op_of k ≡ o → k < 32 → who_steps o z ≡ z.enabled → Who (op_of k)
      plain o e h w = subst Who (sym e) (who_came o (λ y. omega arith) (λ y. omega arith) w)

      at : (j : ℕ) (o : Op) → op_of j ≡ o → k ≡ j → (k ≡ 37 → ⊥) → (k ≡ 34 → ⊥) → who_steps o z ≡ z.enabled → Who (op_of k)
      at j o p e f g w = subst Who (sym (ap op_of e ∙ p)) (who_came o f g w)

      construct : 32 ≤ k → Who (op_of k)
      construct h = each (ℕ_discrete k 32) (ℕ_discrete k 33) (ℕ_discrete k 34) (ℕ_discrete k 35) (ℕ_discrete k 36)
        where
          each : Dec (k ≡ 32) → Dec (k ≡ 33) → Dec (k ≡ 34) → Dec (k ≡ 35) → Dec (k ≡ 36) → Who (op_of k)
          each (yes e) q1 q2 q3 q4 = at 32 IF byte_if e (λ y. omega arith) (λ y. omega arith) refl
          each (no f) (yes e) q2 q3 q4 = at 33 ELSE byte_else e (λ y. omega arith) (λ y. omega arith) refl
          each (no f) (no g) (yes e) q3 q4 = subst Who (sym (ap op_of e ∙ byte_endif)) (who_restored e)
          each (no f) (no g) (no i) (yes e) q4 = at 35 WHILE byte_while e (λ y. omega arith) i refl
          each (no f) (no g) (no i) (no j) (yes e) = at 36 ENDWHILE byte_endwhile e (λ y. omega arith) i refl
          each (no f) (no g) (no i) (no j) (no l) =
              let e : k ≡ 37 = last k h (own (λ p q. omega arith)).known f g i j l in
              subst Who (sym (ap op_of e ∙ byte_barrier)) (who_nobody e)

      by : (k < 16) ⊎ (16 ≤ k) → (k < 19) ⊎ (19 ≤ k) → (k < 32) ⊎ (32 ≤ k) → (k < 20) ⊎ (20 ≤ k) → Who (op_of k)
      by (inl h) p q w =
          let asks = own (λ p q. omega arith) in
          let c = compute_op k (asks.computes h).known (asks.computes h).small in plain (CALC c.0) c.1 (omega arith) refl
      by (inr h) (inl p) q w = let m = mem_op k h (omega arith) in plain (MEM OWN m.0) m.1 (omega arith) refl
      by (inr h) (inr p) (inl l) (inl w) = plain (CALC LAUNCHTID) (launch (omega arith)).names l refl
      by (inr h) (inr p) (inl l) (inr w) = let A = global w l in plain (MEM GLOBAL A.mem) A.names l refl
      by (inr h) (inr p) (inr l) w = construct l

module _ (table ends : List ℕ) (n group limit : ℕ) (common : List ℕ) (L : Shape) (o : LockResult) (whole : List Interval) (lent : List ℕ) (more : List Interval) (s : State)
    (regs cells log saved openers global shared masks counts stamps memo records : List ℕ)
    (G : Going table n group limit common L o whole lent more s regs cells log saved openers global shared masks counts stamps memo records) (A : Runnable table ends) where
  abbrev T : Table
  T = rows_of table

  -- what the code's state says of the definition's
  row_is_lem : s.row ≡ G.here.row
  unfolding view_of
  row_is_lem = G.stands.own.row_is_lem

  enabled_is_lem : s.mask ≡ mask_word G.here.enabled
  unfolding view_of
  enabled_is_lem = G.stands.own.enabled_is_lem

  enabled_size : length G.here.enabled ≡ n
  unfolding view_of
  enabled_size = G.stands.own.enabled_size ∙ G.threads_are

  depth_is : s.depth ≡ length G.here.saved
  unfolding view_of
  depth_is = G.stands.own.depth_is

  rows_is : s.rows ≡ G.here.rows
  unfolding view_of
  rows_is = G.stands.own.rows_is

  barriers_is : s.barriers ≡ G.here.barriers
  unfolding view_of
  barriers_is = G.stands.own.barriers_is

  few_threads_lem : n ≤ 32
  few_threads_lem = subst (λ k. k ≤ 32) G.threads_are G.stands.own.memory.few

  -- the row number fits the answer's
  go_row : s.row ≤ 256
  go_row = omega (arith, row_is_lem, G.sim.within, A.few)

  at_row : s.row < length T → G.here.row < length T
  at_row h = subst (λ r. r < length T) row_is_lem h

  -- and there is room to count what was stepped
  pub go_room : (k : ℕ) → k ≤ s.since + 1 → limit ≤ 1000000 → Roomy s.mask k counts
  go_room k h l = tally_room G.here s counts G.tally k h (omega (arith, G.rows_most))

  threads_few : length G.here.steps ≤ 32
  threads_few = omega (arith, G.every, few_threads_lem)

  -- the intervals of this group from here on
  abbrev rest : Intervals
  rest = intervals_from T L (limit - s.rows) G.here

  -- an end of the run
  abbrev Ends : Verdict → Type 0
  Ends v = (r : Ended) (counts' : List ℕ) → r ≡ record { verdict = v; row = s.row; rows = s.rows; barriers = s.barriers }
      → Added s.mask s.since counts counts'
      → GroupEnd limit L o r cells log global shared masks counts' stamps memo
      × ((x : ℕ) × Ledger whole lent (followed (started x) more) (r.barriers + group) r.rows records)

  go_end : (v : Verdict) → record { verdict = v; state = G.here } ≡ o → rest ≡ started G.here.row → Ends v
  go_end v eo er r counts' e C = (
    ran_is limit L v G.here s regs cells log saved openers global shared masks counts' stamps memo G.stands o eo r e
        (tally_end G.here s counts G.tally counts' C threads_few) go_row G.rows_most G.barriers_few (λ q. G.older) G.remembered,
    (
      G.here.row,
      subst₂ (λ b k. Ledger whole lent (followed (started G.here.row) more) (b + group) k records) (sym (ap (λ q. q.barriers) e)) (sym (ap (λ q. q.rows) e))
          (subst (λ is. Ledger whole lent (followed is more) (s.barriers + group) s.rows records) er G.ledger),
    ),
  )

  at_end_lem : length table / 4 ≤ s.row → length T ≤ G.here.row
  at_end_lem h = omega (arith, rows_length table, row_is_lem)

  pub go_passed : length table / 4 ≤ s.row → Ends Passed
  go_passed h =
      go_end Passed (sym (run_end T L (limit - s.rows) G.here (at_end_lem h)) ∙ G.same) (intervals_end T L (limit - s.rows) G.here (at_end_lem h))

  pub go_spent : s.row < length table / 4 → s.rows ≡ limit → Ends Spent
  go_spent h m =
      let l : s.row < length T = omega (arith, rows_length table) in
      let k : limit - s.rows ≡ 0 = omega arith in
      go_end Spent (sym (run_spent T L G.here (at_row l)) ∙ ap (λ j. run_from T L j G.here) (sym k) ∙ G.same)
      (ap (λ j. intervals_from T L j G.here) k ∙ intervals_spent T L G.here)

  pub go_asks : (s.rows ≡ limit → ⊥) → limit ≤ 1000000 → records_lent ≤ length records → RecordAsks (s.barriers + group) s.rows records
  go_asks m l h = ledger_asks whole lent (followed rest more) (s.barriers + group) s.rows records G.ledger h (omega (arith, G.rows_most))

  module _ (h : s.row < length table / 4) (m : s.rows ≡ limit → ⊥) where
    inside : s.row < length T
    inside = omega (arith, rows_length table)

    op_here : (row_at T s.row).op ≡ op_of (get_or table (s.row * 4) 0)
    unfolding row_of
    op_here = ap (λ x. x.op) (row_bytes_lem table s.row inside)

    op_is : (k : ℕ) (o : Op) → op_of k ≡ o → get_or table (s.row * 4) 0 ≡ k → (row_at T G.here.row).op ≡ o
    op_is k o p e = ap (λ r. (row_at T r).op) (sym (row_is_lem)) ∙ op_here ∙ ap op_of e ∙ p

    depth_frames : s.depth ≡ length (openers_of G.frames)
    depth_frames = depth_is ∙ ap length G.sim.saving ∙ saved_length G.frames

    -- at a row that is no WHILE
    depth_opens : (o : Op) → (row_at T G.here.row).op ≡ o → is_while o ≡ false → s.depth ≡ length (open_before T G.here.row)
    depth_opens o e q = depth_frames ∙ ap length (framed_fresh T G.here.row G.frames (not_while _ o e q) G.sim.framed)

    deeper : role (row_at T G.here.row).op ≡ opening → suc (length (open_before T G.here.row)) ≤ 8
    deeper e = subst (λ k. k ≤ 8) (ap length (opens_more T G.here.row e)) (depth_bounded T A.accepted (suc G.here.row) (at_row inside))

    upto : length (open_before T G.here.row) ≤ 8
    upto = depth_bounded T A.accepted G.here.row (let l = at_row inside in omega arith)

    fits : (o : Op) → (row_at T G.here.row).op ≡ o → Fits o (innermost T (open_before T G.here.row))
    fits o q = subst (λ y. Fits y (innermost T (open_before T G.here.row))) q ((well_formed T A.accepted).fitting G.here.row (at_row inside))

    nonempty : (o : Op) → (row_at T G.here.row).op ≡ o → is_while o ≡ false → (innermost T (open_before T G.here.row) ≡ UNKNOWN → ⊥)
        → (0 < s.depth) × (s.depth ≤ 8)
    nonempty o e q n =
        let d = depth_opens o e q in
        (omega (arith, some_open T (open_before T G.here.row) n), omega (arith, upto))

    closes : (get_or table (s.row * 4) 0 ≡ 33) ⊎ ((get_or table (s.row * 4) 0 ≡ 34) ⊎ (get_or table (s.row * 4) 0 ≡ 36)) → (0 < s.depth) × (s.depth ≤ 8)
    closes (inl e) =
        let q = op_is 33 ELSE byte_else e in
        nonempty ELSE q while_else (λ u. clash_if (sym u ∙ fits ELSE q))
    closes (inr (inl e)) =
        let q = op_is 34 ENDIF byte_endif e in
        nonempty ENDIF q while_endif (λ u. ⊎_elim (λ f. clash_if (sym u ∙ f)) (λ f. clash_else (sym u ∙ f)) (fits ENDIF q))
    closes (inr (inr e)) =
        let q = op_is 36 ENDWHILE byte_endwhile e in
        nonempty ENDWHILE q while_endwhile (λ u. clash_while (sym u ∙ fits ENDWHILE q))

    saves : Saves L.threads G.here.saved saved openers
    unfolding view_of
    saves = G.stands.own.saves

    loops : get_or table (s.row * 4) 0 ≡ 35 → RoomForWhile s openers
    loops e = by G.frames G.sim.framed G.sim.saving depth_frames
      where
        l8 : suc (length (open_before T G.here.row)) ≤ 8
        l8 = deeper (role_while _ (op_is 35 WHILE byte_while e))

        by : (fs : List Frame) → Framed T G.here.row fs → G.here.saved ≡ saved_of fs → s.depth ≡ length (openers_of fs) → RoomForWhile s openers
        by fs (fresh q) sv d = inl (let y = ap length q in omega (arith, l8))
        by (f ∷ fs) (again p w q) sv d =
            let y = ap length q in
            inr (
              (let z : 0 < s.depth = omega arith in z),
              (let z : s.depth ≤ 8 = omega (arith, l8) in z),
              saves_back L.threads G.here.saved saved openers s.depth depth_is (omega arith) saves ∙ ap top_opener sv
                  ∙ top_cons _ _ ∙ p ∙ sym (row_is_lem),
            )

    -- what the row's bytes ask
    asked : BytesAsk (get_or table (s.row * 4) 0) (get_or table (s.row * 4 + 1) 0) (get_or table (s.row * 4 + 2) 0) (get_or table (s.row * 4 + 3) 0)
    asked = row_asks table A.accepted s.row inside

    pub go_ready : 1 ≤ n → group < 8 → limit ≤ 1000000 → BufferSizes cells log global shared masks
        → GroupReady table ends n group s regs cells log saved openers global shared masks
    go_ready one few lim sizes =
        record {
          some = one;
          group_few = few;
          inside = row_inside table s.row inside;
          room = record {
            row_few = omega (arith, A.few, inside);
            rows_few = omega (arith, G.rows_most);
            since_few = G.since_few;
            barriers_few = G.barriers_few;
          };
          own_asks = asked.own;
          launch_asks = asked.launch;
          global_asks = asked.global;
          depths = record {
            opens_if = λ e. let q = op_is 32 IF byte_if e in let d = depth_opens IF q while_if in omega (arith, deeper (role_if _ q));
            inside = λ h k u. closes (which _ h k u);
            opens_while = loops;
          };
          ends_right = A.ends_are s.row inside;
          sizes = sizes;
          shape = L;
          state = G.here;
          threads_are = G.threads_are;
          stands = G.stands;
        }

    abbrev done : Step
    done = run_row T L (row_at T G.here.row) G.here (row_at T G.here.row).op

    left : limit - s.rows ≡ suc (limit - (s.rows + 1))
    left = omega (arith, G.rows_most)

    came : result_of done (run_from T L (limit - (s.rows + 1))) ≡ o
    came = sym (ap (λ j. run_from T L j G.here) left ∙ run_row_lem T L (limit - (s.rows + 1)) G.here (at_row inside)) ∙ G.same

    sims : RowDone T L G.here G.threads done
    sims = row_done T (well_formed T A.accepted) L G.here G.frames G.threads G.sim (at_row inside)

    abbrev byte : ℕ
    byte = get_or table (s.row * 4) 0

    -- the definition's row, by its byte
    row_byte : (row_at T G.here.row).op ≡ op_of byte
    row_byte = ap (λ r. (row_at T r).op) (sym (row_is_lem)) ∙ op_here

    counted : RowSteps (row_at T G.here.row).op G.here done
    counted = row_steps T L (row_at T G.here.row) G.here (row_at T G.here.row).op

    module _ (few_cells_lem : length cells ≤ 1024) (few-common : length common ≤ max_common) (r : Next)
        (regs' cells' log' saved' openers' global' shared' masks' counts' stamps' memo' records' : List ℕ)
        (S : GroupSteps table n group s common regs cells log saved openers global shared masks r regs' cells' log' saved' openers' global' shared' masks')
        (C : NextCounted (get_or table (s.row * 4) 0) s r counts counts')
        (K : RowRecorded (get_or table (s.row * 4) 0) n group (cell_due table s regs) s r records records' stamps' memo') where
      stepped : GroupAfter L done r regs' cells' log' saved' openers' global' shared' masks'
      stepped = S.done L G.here G.threads_are G.group_is G.common_are G.stands

      -- what stands after the row
      abbrev Left : LockState → State → Type 0
      Left z s' = GroupStands L z s' regs' cells' log' saved' openers' global' shared' masks'

      -- after a row that goes on, the counts stand for the definition's
      tally_next : (s' : State) (z : LockState) → r ≡ next.Go s' → done ≡ continues z → Left z s'
          → Tally z s' counts' × (length z.steps ≡ n)
      unfolding view_of
      tally_next s' z e q R =
          let x = (row_at T G.here.row).op in
          let w = subst (λ p. run_row T L (row_at T G.here.row) G.here p ≡ continues z
          → (stepping byte s s' ≡ mask_word (who_steps p G.here)) × (length (who_steps p G.here) ≤ n)) (sym row_byte)
          (who_steps_lem n byte _ _ _ asked.own asked.launch asked.global T L (row_at T G.here.row) G.here z s s' enabled_is_lem
          R.own.enabled_is_lem enabled_size (R.own.enabled_size ∙ G.threads_are)) q in
          let more : z.steps ≡ all_stepped G.here.steps (members (who_steps x G.here)) = subst (RowSteps x G.here) q counted in
          let one : Counted s s' = subst (Counts s) e S.counts in (
            tally_row G.here s counts G.tally byte z s' counts' (who_steps x G.here)
                (subst (λ x. NextCounted byte s x counts counts') e C) more w.0 (omega (arith, w.1, G.every)) one.rows_one,
            ap length more ∙ all_stepped_size G.here.steps _ ∙ G.every,
          )

      -- what the row costs by the definition
      row_costs : (s' : State) (z : LockState) → r ≡ next.Go s' → done ≡ continues z
          → K.cost ≡ row_cost (row_at T G.here.row) G.here (row_at T G.here.row).op
      unfolding view_of
      row_costs s' z e d = by (lt_or_le byte 16) (lt_or_le byte 19) (lt_or_le byte 32) (lt_or_le byte 20) ∙ ap (row_cost (row_at T G.here.row) G.here) (sym row_byte)
        where
          plain : (byte < 16) ⊎ (32 ≤ byte) → K.cost ≡ 0 → K.cost ≡ row_cost (row_at T G.here.row) G.here (op_of byte)
          plain p q = q ∙ sym (plain_free (row_at T G.here.row) G.here byte _ _ _ (asked.own (apart p)) p)
            where
              apart : (byte < 16) ⊎ (32 ≤ byte) → 18 < byte → byte < 32 → ⊥
              apart (inl h) a b = omega arith
              apart (inr h) a b = omega arith

          own_count : length cells ≡ L.cells
          own_count =
              ap length G.stands.own.memory.cells_are
              ∙ part_size (own_from L) L.cells G.here.cells (omega (arith, G.stands.globals.sized.cells_are, own_within L G.here G.stands.globals.sized))

          free : (o : Op) → 18 < byte → op_of byte ≡ o → row_cost (row_at T G.here.row) G.here o ≡ 0
              → K.cost ≡ row_cost (row_at T G.here.row) G.here (op_of byte)
          free o p e q = K.plain (inr p) ∙ sym (ap (row_cost (row_at T G.here.row) G.here) e ∙ q)

          by : (byte < 16) ⊎ (16 ≤ byte) → (byte < 19) ⊎ (19 ≤ byte) → (byte < 32) ⊎ (32 ≤ byte) → (byte < 20) ⊎ (20 ≤ byte)
              → K.cost ≡ row_cost (row_at T G.here.row) G.here (op_of byte)
          by (inl h) p q w = plain (inl h) (K.plain (inl h))
          by (inr h) (inr p) (inr l) w = plain (inr l) (K.plain (inr p))
          by (inr h) (inr p) (inl l) (inl w) = free (CALC LAUNCHTID) p (asked.launch (omega arith)).names (unfold row_cost in refl)
          by (inr h) (inr p) (inl l) (inr w) = let M = asked.global w l in free (MEM GLOBAL M.mem) p M.names (unfold row_cost in refl)
          by (inr h) (inl p) q w =
              let small : byte ≤ 18 = omega arith in
              let regs-in = (asked.own (λ a b. omega arith)).accesses h (omega arith) in
              let m = mem_op byte h small in
              let x = row_here table L.threads (view_of (own_from L) L.cells G.here) s regs cells log saved openers G.stands.own inside in
              let numbers = sym (view_numbers m.0 (row_at T G.here.row) (own_from L) L.cells G.here)
              ∙ numbers_are L.threads (view_of (own_from L) L.cells G.here) regs cells log G.stands.own.memory G.stands.own.enabled_size
              (row_at T G.here.row) byte _ _ h small regs-in.1 regs-in.2 (ap (λ y. y.d) x) (ap (λ y. y.a) x) m.0 m.1 in
              let went = sym (ap (run_row T L (row_at T G.here.row) G.here) (row_byte ∙ m.1)) ∙ d in
              let known = own_known T L (row_at T G.here.row) G.here z m.0 (omega (arith, own_count, few_cells_lem)) (omega (arith, ap length G.common_are, few-common))
              went in
              K.access h small s' e G.here.enabled enabled_is_lem enabled_size (subst Known numbers known)
              ∙ ap (λ cs. conflict_cost (own cs)) (sym numbers) ∙ ap conflict_cost (sym (used_own m.0 (row_at T G.here.row) G.here))
              ∙ sym (ap (row_cost (row_at T G.here.row) G.here) m.1 ∙ (unfold row_cost in refl))

      -- the intervals from here on, with the row taken off
      row_rest : intervals_after (row_cost (row_at T G.here.row) G.here (row_at T G.here.row).op) G.here done (intervals_from T L (limit - (s.rows + 1))) ≡ rest
      row_rest = sym (ap (λ j. intervals_from T L j G.here) left ∙ intervals_row T L (limit - (s.rows + 1)) G.here (at_row inside))

      older_next : (s' : State) → Counted s s' → Older (s'.rows + 1) stamps'
      older_next s' one = subst (λ k. Older k stamps') (let z = one.rows_one in let y : s.rows + 2 ≡ s'.rows + 1 = omega arith in y) K.older

      ledger_next : (s' : State) (z : LockState) → r ≡ next.Go s' → done ≡ continues z → Left z s' → Counted s s'
          → Ledger whole lent (followed (intervals_from T L (limit - s'.rows) z) more) (s'.barriers + group) s'.rows records'
      unfolding view_of
      ledger_next s' z e d R one = by (grown_one G.here op)
        where
          op : Op
          op = (row_at T G.here.row).op

          after_row : Intervals
          after_row = intervals_from T L (limit - s'.rows) z

          grows : z.barriers ≡ grown G.here op
          grows = (subst (Leaves G.here (suc G.here.rows) (grown G.here op)) d (leaves_row T L (row_at T G.here.row) G.here op)).1

          cost : K.cost ≡ row_cost (row_at T G.here.row) G.here op
          cost = row_costs s' z e d

          rest_is : rest ≡ with_row G.here.row K.cost (behind G.here z after_row)
          rest_is =
              let due = row_cost (row_at T G.here.row) G.here op in
              sym row_rest ∙ ap (λ o. intervals_after due G.here o (intervals_from T L (limit - (s.rows + 1)))) d
              ∙ row_went due G.here z (intervals_from T L (limit - (s.rows + 1)))
              ∙ ap (λ j. with_row G.here.row due (behind G.here z (intervals_from T L (limit - j) z))) (sym one.rows_one)
              ∙ ap (λ k. with_row G.here.row k (behind G.here z after_row)) (sym cost)

          words : records' ≡ records_after group K.cost s (next.Go s') records
          words = K.words ∙ ap (λ x. records_after group K.cost s x records) e

          behind_it : Intervals
          behind_it = followed after_row more

          by : (grown G.here op ≡ G.here.barriers) ⊎ (grown G.here op ≡ G.here.barriers + 1)
              → Ledger whole lent behind_it (s'.barriers + group) s'.rows records'
          by (inl q) =
              let kept : s'.barriers ≡ s.barriers = R.own.barriers_is ∙ grows ∙ q ∙ sym barriers_is in
              subst₂ (λ b k. Ledger whole lent behind_it (b + group) k records') (sym kept) (sym one.rows_one)
              (ledger_row whole lent (followed rest more) (s.barriers + group) s.rows records G.ledger G.here.row K.cost behind_it records'
              (ap (λ is. followed is more) (rest_is ∙ ap (with_row G.here.row K.cost) (behind_none G.here z after_row (omega (arith, grows, q))))
              ∙ row_followed G.here.row K.cost after_row more) K.few
              (words ∙ after_none group K.cost s s' records (omega (arith, kept))))
          by (inr q) =
              let grew : s'.barriers ≡ s.barriers + 1 = R.own.barriers_is ∙ grows ∙ q ∙ ap (λ k. k + 1) (sym barriers_is) in
              let free : K.cost ≡ 0 = cost ∙ release_free (row_at T G.here.row) G.here op (omega (arith, q)) in
              let row : s'.row ≡ z.row = R.own.row_is_lem in
              let next_one : s.barriers + group + 1 ≡ s'.barriers + group = omega arith in
              subst₂ (λ b k. Ledger whole lent behind_it b k records') next_one (sym one.rows_one)
              (ledger_release whole lent (followed rest more) (s.barriers + group) s.rows records G.ledger G.here.row s'.row s'.row behind_it records'
              (ap (λ is. followed is more) (rest_is ∙ ap (λ k. with_row G.here.row k (behind G.here z after_row)) free
              ∙ ap (with_row G.here.row 0) (behind_more G.here z s'.row after_row (omega (arith, grows, q)) row))
              ∙ row_followed G.here.row 0 (ends_here s'.row after_row) more ∙ ap (with_row G.here.row 0) (end_followed s'.row after_row more))
              (first_followed after_row more ∙ intervals_start T L (limit - s'.rows) z ∙ sym row)
              (words ∙ after_more group K.cost s s' records (omega (arith, grew)) ∙ ap (λ k. released (s.barriers + group) s'.row k records) one.rows_one))

      pub go_next : (s' : State) → r ≡ next.Go s' → Going table n group limit common L o whole lent more s' regs' cells' log' saved' openers' global' shared' masks'
          counts' stamps' memo' records'
      go_next s' e = by done refl stepped sims came
        where
          one : Counted s s'
          one = subst (Counts s) e S.counts

          by : (p : Step) → done ≡ p → GroupAfter L p r regs' cells' log' saved' openers' global' shared' masks' → RowDone T L G.here G.threads p
              → result_of p (run_from T L (limit - (s.rows + 1))) ≡ o
              → Going table n group limit common L o whole lent more s' regs' cells' log' saved' openers' global' shared' masks' counts' stamps' memo' records'
          by (stops v z) d (u, f, R) W q = let y : ◌≡◌ {A = ℕ} 0 1 = cc in absurd (omega arith)
          by (continues z) d (u, f, R) W q =
              let eu : u ≡ s' = cc in
              let stood = subst (Left z) eu R in
              let tallied = tally_next s' z e d stood in
              record {
                here = z;
                frames = W.frames;
                threads = after (machine T L) G.threads W.moves;
                sim = W.sim;
                threads_are = G.threads_are;
                group_is = G.group_is;
                common_are = G.common_are;
                stands = stood;
                same = ap (λ j. run_from T L (limit - j) z) one.rows_one ∙ (unfold result_of in q);
                tally = tallied.0;
                every = tallied.1;
                rows_most = omega (arith, one.rows_one, G.rows_most);
                since_few = omega (arith, one.rows_one, one.since_one, G.since_few);
                barriers_few = omega (arith, one.rows_one, one.barriers_one, G.barriers_few);
                older = older_next s' one;
                remembered = K.memo;
                ledger = ledger_next s' z e d stood one;
              }

      -- a row that stops
      module _ (v : Verdict) (s' : State) (e : r ≡ next.Stop s' v) where
        -- its number still fits
        go_stop_row : s'.row ≤ 256
        go_stop_row = let q : s'.row ≡ s.row = subst (Counts s) e S.counts in omega (arith, go_row)

        left_uncounted : (s'.mask ≡ s.mask) × (s'.since ≡ s.since) × (counts' ≡ counts)
        left_uncounted = subst (λ x. NextCounted byte s x counts counts') e C

        stopped : (z : LockState) × (done ≡ stops v z) × Left z s'
        stopped = by done refl stepped
          where
            by : (p : Step) → done ≡ p → GroupAfter L p r regs' cells' log' saved' openers' global' shared' masks'
                → (z : LockState) × (done ≡ stops v z) × Left z s'
            by (continues z) d (u, f, R) = let y : ◌≡◌ {A = ℕ} 0 1 = cc in absurd (omega arith)
            by (stops w z) d (u, f, R) =
                let same : ◌≡◌ {A = Stopped} (record { state = u; verdict = w }) (record { state = s'; verdict = v }) = cc in
                (z, d ∙ ap (λ y. stops y.verdict z) same, subst (λ y. Left z y.state) same R)

        no_pass : v ≡ Passed → ⊥
        no_pass q = subst Stopping q (subst (RowDone T L G.here G.threads) stopped.1 sims).stopping

        acted : StoppedRow G.here v stopped.0
        acted = subst (RowSteps (row_at T G.here.row).op G.here) stopped.1 counted

        enabled_few : length G.here.enabled ≤ length G.here.steps
        enabled_few = omega (arith, enabled_size, G.every)

        go_stop_fits : ThreadFits v
        go_stop_fits = tally_fits G.here s counts G.tally enabled_is_lem enabled_few threads_few v stopped.0 acted

        go_stop_room : limit ≤ 1000000 → Roomy s'.mask 1 counts'
        go_stop_room l = rw (left_uncounted.0, left_uncounted.2) (go_room 1 (omega arith) l)

        -- it is in no interval, and costs nothing
        same_counts : (s.rows ≡ s'.rows) × (s.barriers ≡ s'.barriers)
        unfolding view_of
        same_counts =
            let kept = subst (Leaves G.here (suc G.here.rows) (grown G.here (row_at T G.here.row).op)) stopped.1
            (leaves_row T L (row_at T G.here.row) G.here (row_at T G.here.row).op) in
            (rows_is ∙ sym kept.1 ∙ sym stopped.2.own.rows_is, barriers_is ∙ sym kept.2 ∙ sym stopped.2.own.barriers_is)

        stopped_rest : rest ≡ started G.here.row
        stopped_rest =
            let due = row_cost (row_at T G.here.row) G.here (row_at T G.here.row).op in
            sym row_rest ∙ ap (λ o. intervals_after due G.here o (intervals_from T L (limit - (s.rows + 1)))) stopped.1
            ∙ row_stopped due G.here stopped.0 v (intervals_from T L (limit - (s.rows + 1)))

        ledger_stop : Ledger whole lent (followed (started G.here.row) more) (s'.barriers + group) s'.rows records'
        ledger_stop =
            let kept : records ≡ records' = sym (K.words ∙ ap (λ x. records_after group K.cost s x records) e ∙ (unfold records_after in refl)) in
            subst (λ is. Ledger whole lent (followed is more) (s'.barriers + group) s'.rows records') stopped_rest
            (subst (Ledger whole lent (followed rest more) (s'.barriers + group) s'.rows) kept
            (subst₂ (λ k b. Ledger whole lent (followed rest more) (b + group) k records) same_counts.0 same_counts.1 G.ledger))

        module _ (counts₁ : List ℕ) (B : Added (acted_before v s'.mask) 1 counts' counts₁) where
          before : Added (acted_before v s.mask) 1 counts counts₁
          before = subst₂ (λ m l. Added (acted_before v m) 1 l counts₁) left_uncounted.0 left_uncounted.2 B

          go_stop_rest : limit ≤ 1000000 → Roomy s'.mask s'.since counts₁
          go_stop_rest l =
              rw (left_uncounted.0, left_uncounted.1)
              (tally_stop_room G.here s counts G.tally enabled_is_lem enabled_few threads_few v stopped.0 acted counts₁ before
              (omega (arith, G.rows_most)))

          go_stop : (q : Ended) (counts₂ : List ℕ) → q ≡ record { verdict = v; row = s'.row; rows = s'.rows; barriers = s'.barriers }
              → Added s'.mask s'.since counts₁ counts₂
              → GroupEnd limit L o q cells' log' global' shared' masks' counts₂ stamps' memo'
              × ((x : ℕ) × Ledger whole lent (followed (started x) more) (q.barriers + group) q.rows records')
          go_stop q counts₂ eq D =
              let z = stopped.0 in
              let c : record { verdict = v; state = z } ≡ o =
              (unfold result_of in (sym (ap (λ p. result_of p (run_from T L (limit - (s.rows + 1)))) stopped.1) ∙ came)) in (
                ran_is limit L v z s' regs' cells' log' saved' openers' global' shared' masks' counts₂ stamps' memo' stopped.2 o c q eq
                    (tally_stop G.here s counts G.tally enabled_is_lem enabled_few threads_few v z acted counts₁ counts₂ before
                    (subst₂ (λ m k. Added m k counts₁ counts₂) left_uncounted.0 left_uncounted.1 D))
                    go_stop_row (omega (arith, same_counts.0, G.rows_most)) (omega (arith, same_counts.0, same_counts.1, G.barriers_few)) (λ q. absurd (no_pass q)) K.memo,
                (
                  G.here.row,
                  subst₂ (λ b k. Ledger whole lent (followed (started G.here.row) more) (b + group) k records') (sym (ap (λ w. w.barriers) eq))
                      (sym (ap (λ w. w.rows) eq)) ledger_stop,
                ),
              )

        pub go_stops : limit ≤ 1000000 → Stops limit group L o whole lent more v s' cells' log' global' shared' masks' counts' stamps' memo' records'
        go_stops l =
            record {
              fits = go_stop_fits;
              room = go_stop_room l;
              rest = λ counts₁ B. go_stop_rest counts₁ B l;
              ran = λ counts₁ counts₂ q B e D. go_stop counts₁ B q counts₂ e D;
            }

-- The same from every state that the buffers stood for at the start.
abbrev pub GoesOn : (table : List ℕ) → (n group limit rows barriers : ℕ) → (common cells₀ global₀ masks₀ records₀ : List ℕ) → State
    → (regs cells log saved openers global shared masks counts stamps memo records : List ℕ) → Type 0
GoesOn table n group limit rows barriers common cells₀ global₀ masks₀ records₀ s regs cells log saved openers global shared masks counts stamps memo records =
    (L : Shape) (z : LockState) → GroupStart n group rows barriers common cells₀ global₀ masks₀ L z → (whole : List Interval) (lent : List ℕ) (more : List Interval)
    → Ledger whole lent (followed (intervals_from (rows_of table) L (limit - rows) z) more) (barriers + group) rows records₀
    → Going table n group limit common L (run_from (rows_of table) L (limit - rows) z) whole lent more s regs cells log saved openers global shared masks counts stamps memo records

-- One of them.
pub some_going : (table : List ℕ) (n group limit rows barriers : ℕ) (common cells₀ global₀ masks₀ records₀ : List ℕ) (s : State)
    (regs cells log saved openers global shared masks counts stamps memo records : List ℕ)
    → GoesOn table n group limit rows barriers common cells₀ global₀ masks₀ records₀ s regs cells log saved openers global shared masks counts stamps memo records
    → (S : SomeStart table n group limit rows barriers common cells₀ global₀ masks₀ records₀)
    → Going table n group limit common S.shape (run_from (rows_of table) S.shape (limit - rows) S.state) S.whole S.lent S.more s regs cells log saved openers
    global shared masks counts stamps memo records
some_going table n group limit rows barriers common cells₀ global₀ masks₀ records₀ s regs cells log saved openers global shared masks counts stamps memo records G S =
    G S.shape S.state S.start S.whole S.lent S.more S.ledger
