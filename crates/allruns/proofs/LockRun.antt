-- The lock-step run is one of the machine's runs: it comes to its end, or it fails. Assumes nothing.
use mathlib.Core.Path.{◌≡◌, refl, sym, ◌∙◌, ap, ap₂, subst}
use mathlib.Core.Logic.{◌⊎◌}
use mathlib.Core.List.{List, [], ◌∷◌, ◌++◌, cons≢nil}
use mathlib.Core.Bool.{Bool, true, false, cond, not}
use Prim.Native.Nat.{ℕ, zero, suc, ◌+◌, ◌<◌, ◌≤◌}
use native.Mathlib.Omega.{arith}
use lib.Dec.{leb}
use borrow.Author.Tests.{leb-true, leb-false, le-leb}
use lib.ListN.{get_or-replicate, length, get_or, replicate, length-replicate, get_or-eq_default}
use Rattle.spec.specs.Limits.{registers}
use Rattle.spec.specs.LockStep.{LockResult, LockState, Step, continues, counted_after, counted_from, result_of, run_from, run_row, stops}
use Rattle.spec.specs.Mask.{has}
use Rattle.spec.specs.Runs.{Run, after, many, shown_to}
use Rattle.spec.specs.Shape.{Shape, reaches, total}
use Rattle.spec.specs.Table.{Table, WellFormed, no_row, open_before, row_at}
use Rattle.spec.specs.Threads.{Group, Move, at_end, empty_record, initial_threads, machine, no_thread}
use Rattle.spec.specs.declared.Verdict.{Verdict}
use Rattle.spec.specs.declared.Verdict.TheVariants.{Diverged, GroupRace, Outside, Common, Passed, Race, Spent}
use Rattle.allruns.proofs.Counts.{passed_at, counted_is}
use Rattle.allruns.proofs.Descent.{many_append, run_append, after_append, seen_append}
use Rattle.allruns.proofs.LogMatches.{BlankAt, LogMatches, LogSized}
use Rattle.allruns.proofs.LogRecord.{log_blank}
use Rattle.allruns.proofs.GroupMatches.{GroupMatches}
use Rattle.allruns.proofs.Bools.{and_make}
use Rattle.allruns.proofs.Blocked.{Blocked}
use Rattle.allruns.proofs.BarrierRow.{row_done, every_make}
use Rattle.allruns.proofs.StepCounts.{is_own_release, steps_after, steps_append}
use Rattle.allruns.proofs.Rows.{openers_of, fresh, Sim, Advanced, Failed, RowDone, framed_fresh}
use Rattle.allruns.proofs.Nesting.{is_while}
use Rattle.allruns.proofs.Simulation.{Frame, loops_of, place, body}

-- A whole run of the machine that the lock-step run from s simulates of.
pub record Completes (T : Table) (L : Shape) (s : LockState) (g : Group) (o : LockResult) (bs : List (List ℕ)) : Type 0 where
  pub moves : List Move
  pub run : Run (machine T L) g moves
  pub ended : at_end T (after (machine T L) g moves) ≡ true
  pub counted : o.state.steps ≡ steps_after s.steps moves
  pub released : many is_own_release moves + s.barriers ≡ o.state.barriers
  pub sees : shown_to (machine T L) tt g moves ≡ bs
  pub finally : (after (machine T L) g moves).cells ≡ o.state.cells
  pub groups : GroupMatches L (total L) (after (machine T L) g moves).ever (after (machine T L) g moves).barred o.state.group_log

abbrev pub Simulates : Table → Shape → LockState → Group → LockResult → List (List ℕ) → Verdict → Type 0
Simulates T L s g o bs Passed = Completes T L s g o bs
Simulates T L s g o bs (Race t u k a) = Failed T L g (Race t u k a)
Simulates T L s g o bs (GroupRace t h k a) = Failed T L g (GroupRace t h k a)
Simulates T L s g o bs (Outside t a) = Failed T L g (Outside t a)
Simulates T L s g o bs (Common t a) = Failed T L g (Common t a)
Simulates T L s g o bs (Diverged t u) = Failed T L g (Diverged t u)
Simulates T L s g o bs Spent = Unit {0}

no_frames : (fs : List Frame) → openers_of fs ≡ [] → fs ≡ []
no_frames [] q = refl
no_frames (f ∷ fs) q = absurd (cons≢nil q)

-- At the table's end.
at_end_lem : (T : Table) → WellFormed T → (L : Shape) (s : LockState) (fs : List Frame) (g : Group) → Sim T L s fs g → length T ≤ s.row → at_end T g ≡ true
unfolding at_end
at_end_lem T w L s fs g S l =
    and_make (ap not S.match.good)
    (every_make (λ th. leb (length T) th.row) g.threads no_thread
    (λ i j. let k : i < L.threads = omega (arith, S.match.size) in
    ap (λ x. leb (length T) x.row) (S.match.threads i k ∙ ap (λ p. body p (get_or s.regs i [])) (spot i)) ∙ le-leb (length T) s.row l))
  where
    e : s.row ≡ length T
    e = omega (arith, S.within)

    idle_op : is_while (row_at T s.row).op ≡ false
    idle_op = unfold row_at no_row is_while in (ap (λ x. is_while x.op) (get_or-eq_default T no_row l))

    none : fs ≡ []
    none = no_frames fs (framed_fresh T s.row fs idle_op S.framed ∙ ap (open_before T) e ∙ w.closed)

    spot : (i : ℕ) → place T s.row s.enabled fs i ≡ record { row = s.row; loops = loops_of T [] }
    spot i = ap (λ z. place T s.row s.enabled z i) none ∙ (unfold place in refl)

complete_here : (T : Table) → WellFormed T → (L : Shape) (s : LockState) (fs : List Frame) (g : Group) → Sim T L s fs g → length T ≤ s.row
    → (o : LockResult) → o.state ≡ s → Completes T L s g o []
complete_here T w L s fs g S l o e =
    record {
      moves = [];
      run = tt;
      ended = at_end_lem T w L s fs g S l;
      counted = unfold steps_after in (ap (λ z. z.steps) e);
      released = let b = ap (λ z. z.barriers) e in omega arith;
      sees = refl;
      finally = S.match.cells ∙ ap (λ z. z.cells) (sym e);
      groups = subst (λ z. GroupMatches L (total L) g.ever g.barred z.group_log) (sym e) S.match.groups;
    }

complete_on : (T : Table) (L : Shape) (s z : LockState) (g : Group) (o : LockResult) (bs : List (List ℕ)) (h : Advanced T L s g z)
    → Completes T L z (after (machine T L) g h.moves) o bs → Completes T L s g o (passed_at (row_at T s.row).op s ++ bs)
complete_on T L s z g o bs h t =
    record {
      moves = h.moves ++ t.moves;
      run = run_append (machine T L) g h.moves t.moves h.run t.run;
      ended = ap (at_end T) (after_append (machine T L) g h.moves t.moves) ∙ t.ended;
      counted = t.counted ∙ ap (λ steps. steps_after steps t.moves) h.counted ∙ sym (steps_append s.steps h.moves t.moves);
      released = omega (arith, many_append (machine T L) is_own_release h.moves t.moves, h.released, t.released);
      sees = seen_append (machine T L) tt g h.moves t.moves ∙ ap₂ ◌++◌ h.sees t.sees;
      finally = ap (λ x. x.cells) (after_append (machine T L) g h.moves t.moves) ∙ t.finally;
      groups =
          subst (λ x. GroupMatches L (total L) x.ever x.barred o.state.group_log) (sym (after_append (machine T L) g h.moves t.moves)) t.groups;
    }

failed_on : (T : Table) (L : Shape) (s z : LockState) (g : Group) (v : Verdict) (h : Advanced T L s g z)
    → Failed T L (after (machine T L) g h.moves) v → Failed T L g v
failed_on T L s z g v h f =
    record {
      stopping = f.stopping;
      moves = h.moves ++ f.moves;
      run = run_append (machine T L) g h.moves f.moves h.run f.run;
      fails = subst (λ x. (x.bad ≡ true) ⊎ ((a : ℕ) × (u : ℕ) × Blocked T x a u)) (sym (after_append (machine T L) g h.moves f.moves)) f.fails;
    }

simulates_on : (T : Table) (L : Shape) (s z : LockState) (g : Group) (o : LockResult) (bs : List (List ℕ)) (h : Advanced T L s g z) (v : Verdict)
    → Simulates T L z (after (machine T L) g h.moves) o bs v → Simulates T L s g o (passed_at (row_at T s.row).op s ++ bs) v
simulates_on T L s z g o bs h Passed t = complete_on T L s z g o bs h t
simulates_on T L s z g o bs h (Race t u k a) f = failed_on T L s z g (Race t u k a) h f
simulates_on T L s z g o bs h (GroupRace t u k a) f = failed_on T L s z g (GroupRace t u k a) h f
simulates_on T L s z g o bs h (Outside t a) f = failed_on T L s z g (Outside t a) h f
simulates_on T L s z g o bs h (Common t a) f = failed_on T L s z g (Common t a) h f
simulates_on T L s z g o bs h (Diverged t u) f = failed_on T L s z g (Diverged t u) h f
simulates_on T L s z g o bs h Spent t = tt

simulates_fail : (T : Table) (L : Shape) (s : LockState) (g : Group) (o : LockResult) (bs : List (List ℕ)) (v : Verdict) → Failed T L g v
    → Simulates T L s g o bs v
simulates_fail T L s g o bs Passed f = absurd f.stopping
simulates_fail T L s g o bs (Race t u k a) f = f
simulates_fail T L s g o bs (GroupRace t u k a) f = f
simulates_fail T L s g o bs (Outside t a) f = f
simulates_fail T L s g o bs (Common t a) f = f
simulates_fail T L s g o bs (Diverged t u) f = f
simulates_fail T L s g o bs Spent f = tt

-- The lock-step run simulates a run of the machine.
pub simulates : (T : Table) → WellFormed T → (L : Shape) (k : ℕ) (s : LockState) (fs : List Frame) (g : Group) → Sim T L s fs g
    → Simulates T L s g (run_from T L k s) (counted_from T L k s) (run_from T L k s).verdict
unfolding run_from counted_from
simulates T w L zero s fs g S = by (leb (length T) s.row) refl
  where
    by : (b : Bool) → leb (length T) s.row ≡ b → Simulates T L s g (record { verdict = cond b Passed Spent; state = s }) [] (cond b Passed Spent)
    by true q = complete_here T w L s fs g S (leb-true _ _ q) (record { verdict = Passed; state = s }) refl
    by false q = tt
simulates T w L (suc k) s fs g S = by (leb (length T) s.row) refl (simulates T w L k)
  where
    st : Step
    st = run_row T L (row_at T s.row) s (row_at T s.row).op

    out : Bool → LockResult
    out b = elim b [ true ↦ record { verdict = Passed; state = s } | false ↦ result_of st (run_from T L k) ]

    bars : Bool → List (List ℕ)
    bars b = elim b [ true ↦ [] | false ↦ counted_after s st (counted_from T L k) ]

    by : (b : Bool) → leb (length T) s.row ≡ b
        → ((z : LockState) (fs : List Frame) (g : Group) → Sim T L z fs g → Simulates T L z g (run_from T L k z) (counted_from T L k z)
        (run_from T L k z).verdict)
        → Simulates T L s g (out b) (bars b) (out b).verdict
    by true q ih = complete_here T w L s fs g S (leb-true _ _ q) (record { verdict = Passed; state = s }) refl
    by false q ih = at st refl (row_done T w L s fs g S (leb-false _ _ q))
      where
        at : (o : Step) → st ≡ o → RowDone T L s g o
            → Simulates T L s g (result_of o (run_from T L k)) (counted_after s o (counted_from T L k)) (result_of o (run_from T L k)).verdict
        at (continues z) e h =
            unfold result_of counted_after in
            (subst (λ bs. Simulates T L s g (run_from T L k z) (bs ++ counted_from T L k z) (run_from T L k z).verdict)
            (sym (counted_is T L (row_at T s.row) s z (row_at T s.row).op e))
            (simulates_on T L s z g (run_from T L k z) (counted_from T L k z) h (run_from T L k z).verdict
            (ih z h.frames (after (machine T L) g h.moves) h.sim)))
        at (stops v z) e h =
            unfold result_of in (simulates_fail T L s g (record { verdict = v; state = z }) (counted_after s (stops v z) (counted_from T L k)) v h)

-- A group starts: at row 0 with all threads enabled and registers zero, none of them has moved, the log says nothing at the places that it can name, and
-- the group masks say what is barred to it. Cells, rows and barriers are any.
pub record Starts (T : Table) (L : Shape) (s : LockState) (g : Group) : Type 0 where
  pub numbered : L.group < L.groups
  pub first : s.row ≡ 0
  pub enabled : s.enabled ≡ replicate L.threads true
  pub saved : s.saved ≡ []
  pub regs : s.regs ≡ replicate L.threads (replicate registers 0)
  pub threads : g.threads ≡ initial_threads T L.threads
  pub cells : g.cells ≡ s.cells
  pub celled : length s.cells ≡ total L
  pub made : g.made ≡ empty_record
  pub good : g.bad ≡ false
  pub sized : LogSized L.threads (total L) s.log
  pub blank : (i : ℕ) → i < total L → reaches L i ≡ true → BlankAt s.log i
  pub groups : GroupMatches L (total L) g.ever g.barred s.group_log

pub group_sim : (T : Table) → WellFormed T → (L : Shape) (s : LockState) (g : Group) → Starts T L s g → Sim T L s [] g
unfolding initial_threads
group_sim T w L s g h =
    record {
      match = record {
        good = h.good;
        size = ap length h.threads ∙ length-replicate n _;
        regged = ap length h.regs ∙ length-replicate n _;
        threads = λ t l.
            ap (λ ths. get_or ths t no_thread) h.threads ∙ get_or-replicate n t _ no_thread l
            ∙ ap₂ body (sym (spot t)) (sym (ap (λ rs. get_or rs t []) h.regs ∙ get_or-replicate n t (replicate registers 0) [] l));
        cells = h.cells;
        celled = h.celled;
        numbered = h.numbered;
        logs = subst (λ R. LogMatches n (total L) (reaches L) R s.log) (sym h.made) (log_blank n (total L) (reaches L) s.log h.sized h.blank);
        groups = h.groups;
      };
      saving = h.saved;
      nested = λ t l. unfold has in (ap (λ m. get_or m t false) h.enabled ∙ get_or-replicate n t true false l);
      on_size = ap length h.enabled ∙ length-replicate n true;
      sized = tt;
      framed = fresh {fs = []} (none ∙ ap (open_before T) (sym h.first));
      within = let e = h.first in omega (arith, e);
    }
  where
    n : ℕ
    n = L.threads

    none : [] ≡ open_before T 0
    none = unfold open_before in refl

    spot : (t : ℕ) → place T s.row s.enabled [] t ≡ record { row = 0; loops = replicate (length T) 0 }
    spot t = unfold place loops_of in (ap (λ r. record { row = r; loops = replicate (length T) 0 }) h.first)
