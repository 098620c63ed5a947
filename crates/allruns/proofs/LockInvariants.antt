-- What every change of the lock-step state keeps holds where the run stops, whatever its verdict. Assumes nothing.
use mathlib.Core.Path.{◌≡◌, refl, sym, ◌∙◌, ap}
use mathlib.Core.List.{List, [], ◌∷◌}
use mathlib.Core.Bool.{Bool, true, false, cond, true≢false}
use Prim.Native.Nat.{ℕ, zero, suc, ◌+◌, ◌-◌, ◌<◌, ◌≤◌}
use native.Mathlib.Omega.{arith}
use borrow.Author.Tests.{leb-false}
use lib.Dec.{leb}
use lib.ListN.{length, get_or, length-set}
use lib.Seq.{get_or-set_other}
use Rattle.spec.specs.declared.Verdict.TheVariants.{Passed}
use Rattle.spec.specs.Access.{Kind}
use Rattle.spec.specs.Answers.{is_passed}
use Rattle.spec.specs.GroupLog.{GroupLog}
use Rattle.spec.specs.LaunchRun.{GroupRun, group_result, group_runs, last_run, lockstep, next_start, runs_from}
use Rattle.spec.specs.Lists.{last_of}
use Rattle.spec.specs.LockStep.{LockState, LockResult, Saved, Step, access_turn, advance, and_then, barrier_row, compute_turn, continues, count_steps}
use Rattle.spec.specs.LockStep.{else_row, endif_row, endwhile_row, for_enabled, if_row, in_turn, initial_state, leave_or_stay, made_access}
use Rattle.spec.specs.LockStep.{pass_barrier, pop, reg, result_of, run_from, run_row, set_reg, stops, top_mask, while_row}
use Rattle.spec.specs.Mask.{Mask, any, full}
use Rattle.spec.specs.Op.{Op, Calc, CALC, Space, OWN, GLOBAL, Mem, MEM, IF, ELSE, ENDIF, WHILE, ENDWHILE, BARRIER, UNKNOWN, value}
use Rattle.spec.specs.Shape.{Shape, Sizes, address, bound, is_global, launch_number, loads, past, reaches, shape_of}
use Rattle.spec.specs.Table.{Table, row_at, end_of, kind_of}
use Rattle.spec.proofs.StepLaws.{stepped_size, all_stepped_size}
use Rattle.allruns.proofs.AccessTurns.{groups_after, turn_cases, with_groups}
use Rattle.allruns.proofs.GroupMatches.{GroupsKept, entered_kept, groups_same, groups_then}
use Rattle.allruns.proofs.LogMatches.{LogSame, LogSized}
use Rattle.allruns.proofs.LogRecord.{cleared_same, cleared_sized, logged_same, logged_sized, same_then}
use Rattle.allruns.proofs.Places.{address_reached, global_place}

pub cond_keeps : {A : Type 0} (P : A → Type 0) (b : Bool) {x y : A} → P x → P y → P (cond b x y)
cond_keeps P true p q = p
cond_keeps P false p q = q

-- P is kept by what a row may do: a thread computes, accesses or takes the word of a common cell, threads step, all pass a BARRIER, and the run goes on somewhere.
pub record RowsKeep (T : Table) (L : Shape) (P : LockState → Type 0) : Type 0 where
  pub computes : (s : LockState) (r t : ℕ) (c : Calc) → r < length T → P s → let x = row_at T r in
      P (set_reg s t x.d (value c L.threads t (launch_number L t) x.a x.b (reg s t x.a) (reg s t x.b)))
  pub accesses : (s : LockState) (r t c : ℕ) (p : Space) (m : Mem) → c < bound L p → P s → let x = row_at T r in let k = kind_of m (reg s t x.a) in
      P (with_groups (made_access s t x.d (address L p c) k) (groups_after p s.group_log (address L p c) L.group k))
  pub takes : (s : LockState) (r t v : ℕ) (p : Space) (c : ℕ) (k : Kind) → past L p c k ≡ loads v → P s → P (set_reg s t (row_at T r).d v)
  pub steps : (s : LockState) (m : Mask) → P s → P (count_steps m s)
  pub passes : (s : LockState) → P s → P (pass_barrier L s)
  pub onward : (s : LockState) (r : ℕ) (m : Mask) (v : List Saved) → P s → P (advance r m v s)

module _ (T : Table) (L : Shape) (P : LockState → Type 0) (k : RowsKeep T L P) where
  abbrev After : Step → Type 0
  After (continues s) = P s
  After (stops v s) = P s

  after_then : (x : Step) (f : LockState → Step) → After x → ((s : LockState) → P s → After (f s)) → After (and_then x f)
  unfolding and_then
  after_then (continues s) f h g = g s h
  after_then (stops v s) f h g = h

  after_turns : (f : LockState → ℕ → Step) → ((s : LockState) (t : ℕ) → P s → After (f s t)) → (ts : List ℕ) (s : LockState) → P s → After (in_turn f ts s)
  unfolding in_turn
  after_turns f g [] s h = h
  after_turns f g (t ∷ ts) s h = after_then (f s t) (in_turn f ts) (g s t h) (after_turns f g ts)

  after_enabled : (f : LockState → ℕ → Step) → ((s : LockState) (t : ℕ) → P s → After (f s t)) → (s : LockState) → P s → After (for_enabled f s)
  unfolding for_enabled
  after_enabled f g s h = after_then (in_turn f _ s) _ (after_turns f g _ s h) (λ z p. k.onward z _ _ _ p)

  after_access : (p : Space) (m : Mem) (r : ℕ) (s : LockState) (t : ℕ) → P s → After (access_turn L p m (row_at T r) s t)
  after_access p m r s t h =
      turn_cases L p m (row_at T r) s t After (λ l u. h) (λ v l u. k.takes s r t v p _ _ u h) (λ l u. h) (λ o y l a. h)
      (λ g y l a b. h) (λ l a b. k.accesses s r t _ p m l h)

  after_while : (s : LockState) (v : List Saved) (m : Mask) → P s → P (leave_or_stay T s v m)
  unfolding leave_or_stay
  after_while s v m h =
      cond_keeps P (any m) {x = advance (suc s.row) m v s} {y = advance (suc (end_of T s.row)) (top_mask v) (pop v) s} (k.onward s _ _ _ h) (k.onward s _ _ _ h)

  after_row : (s : LockState) → s.row < length T → (o : Op) → P s → After (run_row T L (row_at T s.row) s o)
  unfolding run_row barrier_row if_row else_row endif_row while_row endwhile_row compute_turn
  after_row s l (CALC c) h = after_enabled _ (λ z t p. k.computes z s.row t c l p) s h
  after_row s l (MEM p m) h = after_enabled _ (after_access p m s.row) s h
  after_row s l IF h = k.onward _ _ _ _ (k.steps s _ h)
  after_row s l ELSE h = k.onward _ _ _ _ (k.steps s _ h)
  after_row s l ENDIF h = k.onward _ _ _ _ (k.steps s _ h)
  after_row s l WHILE h = after_while (count_steps s.enabled s) _ _ (k.steps s _ h)
  after_row s l ENDWHILE h = k.onward _ _ _ _ (k.steps s _ h)
  after_row s l BARRIER h = cond_keeps After (any s.enabled) (cond_keeps After (full s.enabled) (k.passes s h) h) (k.onward s _ _ _ h)
  after_row s l UNKNOWN h = k.onward s _ _ _ h

  after_result : (x : Step) (f : LockState → LockResult) → After x → ((s : LockState) → P s → P (f s).state) → P (result_of x f).state
  unfolding result_of
  after_result (continues s) f h g = g s h
  after_result (stops v s) f h g = h

  pub after_run : (left : ℕ) (s : LockState) → P s → P (run_from T L left s).state
  unfolding run_from
  after_run zero s h = h
  after_run (suc left) s h = by (leb (length T) s.row) refl (after_run left)
    where
      out : LockResult
      out = result_of (run_row T L (row_at T s.row) s (row_at T s.row).op) (run_from T L left)

      by : (z : Bool) → leb (length T) s.row ≡ z → ((s : LockState) → P s → P (run_from T L left s).state)
          → P (elim z as (λ c. LockResult) [ true ↦ record { verdict = Passed; state = s } | false ↦ out ]).state
      by true q ih = h
      by false q ih = after_result _ _ (after_row s (leb-false _ _ q) (row_at T s.row).op h) ih

-- What each group's rows keep, and the start of a next group, holds where the launch stops.
module _ (T : Table) (Z : Sizes) (limit : ℕ) (P : LockState → Type 0) (k : (g : ℕ) → g ≤ Z.groups - 1 → RowsKeep T (shape_of Z g) P)
    (on : (g : ℕ) (s : LockState) → P s → P (next_start (shape_of Z g) s)) where
  in_last : (j g : ℕ) (s : LockState) (d : GroupRun) → j + g ≤ Z.groups - 1 → P s → P (group_result T limit (last_of d (runs_from T Z limit j g s))).state
  unfolding runs_from last_of group_result
  in_last zero g s d l h = after_run T (shape_of Z g) P (k g (omega arith)) _ s h
  in_last (suc j) g s d l h = by (is_passed o.verdict) (λ d. in_last j (suc g) (next_start (shape_of Z (suc g)) o.state) d (omega arith))
    where
      u : GroupRun
      u = record { shape = shape_of Z g; start = s }

      o : LockResult
      o = group_result T limit u

      ended : P o.state
      ended = unfold group_result in (after_run T (shape_of Z g) P (k g (omega arith)) _ s h)

      later : List GroupRun
      later = runs_from T Z limit j (suc g) (next_start (shape_of Z (suc g)) o.state)

      by : (b : Bool) → ((d : GroupRun) → P (next_start (shape_of Z (suc g)) o.state) → P (group_result T limit (last_of d later)).state)
          → P (group_result T limit (last_of u (cond b later []))).state
      by true ih = ih u (on (suc g) o.state ended)
      by false ih = unfold last_of in ended

  pub in_launch : (cells : List ℕ) → P (initial_state Z cells) → P (lockstep T Z cells limit).state
  unfolding lockstep last_run group_runs
  in_launch cells h = in_last (Z.groups - 1) 0 (initial_state Z cells) _ (omega arith) h

-- Every thread of the group that stops has its count of steps.
steps_kept : (T : Table) (L : Shape) (n : ℕ) → RowsKeep T L (λ s. length s.steps ≡ n)
unfolding set_reg made_access count_steps pass_barrier advance
steps_kept T L n =
    record {
      computes = λ s r t c l h. stepped_size s.steps t ∙ h;
      accesses = λ s r t c p m l h. stepped_size s.steps t ∙ h;
      takes = λ s r t v p c k q h. stepped_size s.steps t ∙ h;
      steps = λ s m h. all_stepped_size s.steps _ ∙ h;
      passes = λ s h. h;
      onward = λ s r m v h. h;
    }

pub group_steps : (T : Table) (L : Shape) (left : ℕ) (s : LockState) → length (run_from T L left s).state.steps ≡ length s.steps
group_steps T L left s = after_run T L (λ z. length z.steps ≡ length s.steps) (steps_kept T L (length s.steps)) left s refl

-- What a group's run from s to z leaves as it was: the cells and the log at places that its threads can't name, and what other groups have entered.
pub record RunKeeps (L : Shape) (s z : LockState) : Type 0 where
  pub cell_count : length z.cells ≡ length s.cells
  pub cell_at : (i : ℕ) → reaches L i ≡ false → get_or z.cells i 0 ≡ get_or s.cells i 0
  pub log_sized : (n k : ℕ) → LogSized n k s.log → LogSized n k z.log
  pub log_at : (i : ℕ) → reaches L i ≡ false → LogSame s.log z.log i
  pub groups : GroupsKept L.group (is_global L) s.group_log z.group_log
  pub step_count : length z.steps ≡ length s.steps

groups_made : (L : Shape) (p : Space) (H : GroupLog) (c : ℕ) (k : Kind)
    → GroupsKept L.group (is_global L) H (groups_after p H (address L p c) L.group k)
unfolding groups_after
groups_made L OWN H c k = groups_same L.group (is_global L) H
groups_made L GLOBAL H c k = entered_kept H (address L GLOBAL c) L.group k (is_global L) (global_place L c)

keeps_all : (T : Table) (L : Shape) (s : LockState) → L.group < L.groups → RowsKeep T L (RunKeeps L s)
unfolding set_reg made_access count_steps pass_barrier advance
keeps_all T L s g =
    record {
      computes = λ z r t c l h. put z t _ _ h;
      accesses = λ z r t c p m l h. let k = kind_of m (reg z t (row_at T r).a) in record {
        cell_count = length-set z.cells (address L p c) _ ∙ h.cell_count;
        cell_at = λ i q. get_or-set_other z.cells (address L p c) i _ 0 (apart p c l i q) ∙ h.cell_at i q;
        log_sized = λ n j u. logged_sized n j z.log (address L p c) t k (h.log_sized n j u);
        log_at = λ i q. same_then s.log z.log _ i (h.log_at i q) (logged_same z.log (address L p c) t k i (apart p c l i q));
        groups = groups_then L.group (is_global L) s.group_log z.group_log _ h.groups (groups_made L p z.group_log c k);
        step_count = stepped_size z.steps t ∙ h.step_count;
      };
      takes = λ z r t v p c k q h. put z t _ _ h;
      steps = λ z m h. record {
        cell_count = h.cell_count;
        cell_at = h.cell_at;
        log_sized = h.log_sized;
        log_at = h.log_at;
        groups = h.groups;
        step_count = all_stepped_size z.steps _ ∙ h.step_count;
      };
      passes = λ z h. record {
        cell_count = h.cell_count;
        cell_at = h.cell_at;
        log_sized = λ n k u. cleared_sized n k (reaches L) z.log (h.log_sized n k u);
        log_at = λ i q. same_then s.log z.log _ i (h.log_at i q) (cleared_same (reaches L) z.log i q);
        groups = h.groups;
        step_count = h.step_count;
      };
      onward = λ z r m v h. record {
        cell_count = h.cell_count;
        cell_at = h.cell_at;
        log_sized = h.log_sized;
        log_at = h.log_at;
        groups = h.groups;
        step_count = h.step_count;
      };
    }
  where
    -- a register put
    put : (z : LockState) (t d v : ℕ) → RunKeeps L s z → RunKeeps L s (set_reg z t d v)
    put z t d v h =
        unfold set_reg in
        (record {
          cell_count = h.cell_count;
          cell_at = h.cell_at;
          log_sized = h.log_sized;
          log_at = h.log_at;
          groups = h.groups;
          step_count = stepped_size z.steps t ∙ h.step_count;
        })

    apart : (p : Space) (c : ℕ) → c < bound L p → (i : ℕ) → reaches L i ≡ false → ¬ (i ≡ address L p c)
    apart p c l i q e = true≢false (sym (address_reached L p c l) ∙ ap (reaches L) (sym e) ∙ q)

pub run_keeps : (T : Table) (L : Shape) → L.group < L.groups → (left : ℕ) (s : LockState) → RunKeeps L s (run_from T L left s).state
run_keeps T L g left s =
    after_run T L (RunKeeps L s) (keeps_all T L s g) left s
    (record {
      cell_count = refl;
      cell_at = λ i q. refl;
      log_sized = λ n k u. u;
      log_at = λ i q. record { masks = λ m. refl; value = refl; mark = refl };
      groups = groups_same L.group (is_global L) s.group_log;
      step_count = refl;
    })
