-- What every move keeps holds in every run: a property of each thread's own state, and one of the cells. Assumes nothing.
use mathlib.Core.Path.{◌≡◌, refl, ◌∙◌}
use mathlib.Core.List.{List, [], ◌∷◌}
use mathlib.Core.Bool.{Bool, true, false, cond, not, false≢true}
use Prim.Native.Nat.{ℕ, zero, suc, ◌<◌}
use native.Mathlib.Omega.{arith}
use lib.Dec.{ltb}
use borrow.Author.Tests.{ltb-true}
use lib.ListN.{length, get_or, set, replicate, length-set, length-map, length-replicate, get_or-replicate}
use Rattle.spec.specs.AllRuns.{RunOf, leaves}
use Rattle.spec.specs.Limits.{registers}
use Rattle.spec.specs.Op.{BARRIER, CALC, ELSE, ENDIF, ENDWHILE, IF, MEM, Op, UNKNOWN, WHILE}
use Rattle.spec.specs.Runs.{Run, after}
use Rattle.spec.specs.LaunchThreads as launch
use Rattle.spec.specs.LaunchThreads.{Groups, Part, initial_groups, initial_part, no_part, of_group, part_of, view, with_group}
use Rattle.spec.specs.Shape.{Shape, Sizes, shape_of}
use Rattle.spec.specs.Table.{Table, row_at}
use Rattle.spec.specs.Threads.{Effect, Group, Move, Thread, cells_after, effect, effect_at, effect_of, ends_badly, initial_threads, is_barrier}
use Rattle.spec.specs.Threads.{machine, mark_bad, next, no_thread, past_barrier, performed, possible, release, released, row, thread_after}
use Rattle.spec.specs.Threads.{thread_count, waits}
use Rattle.allruns.proofs.Lists.{get_d_map_at}
use Rattle.allruns.proofs.Bools.{and_left, and_right}
use Rattle.allruns.proofs.Diamond.{gathered_at}

-- What holds of the j-th element of a list and of v holds of the j-th element after v is put, wherever it is put.
pub set_keeps : {A : Type 0} (P : A → Type 0) (xs : List A) (d : A) (i : ℕ) (v : A) (j : ℕ) → (i < length xs → P v) → P (get_or xs j d)
    → P (get_or (set xs i v) j d)
set_keeps P [] d i v j p h = h
set_keeps P (x ∷ xs) d zero v zero p h = p (omega arith)
set_keeps P (x ∷ xs) d zero v (suc j) p h = h
set_keeps P (x ∷ xs) d (suc i) v zero p h = h
set_keeps P (x ∷ xs) d (suc i) v (suc j) p h = set_keeps P xs d i v j (λ l. p (omega arith)) h

pub replicate_keeps : {A : Type 0} (P : A → Type 0) (n : ℕ) (a d : A) (i : ℕ) → P a → P d → P (get_or (replicate n a) i d)
replicate_keeps P zero a d i p q = q
replicate_keeps P (suc n) a d zero p q = p
replicate_keeps P (suc n) a d (suc i) p q = replicate_keeps P n a d i p q

-- P holds of each of n threads, and Q of the cells.
pub record Holds (n : ℕ) (P : Thread → Type 0) (Q : List ℕ → Type 0) (s : Group) : Type 0 where
  pub count : length s.threads ≡ n
  pub each : (t : ℕ) → t < n → P (get_or s.threads t no_thread)
  pub shared : Q s.cells

-- P holds as a run begins, P and Q hold after each row within the table, by its op, and P after a BARRIER is passed.
pub record Keeps (T : Table) (L : Shape) (P : Thread → Type 0) (Q : List ℕ → Type 0) : Type 0 where
  pub first : P (record { row = 0; regs = replicate registers 0; loops = replicate (length T) 0 })
  pub rows : (t : ℕ) (x : Thread) (cells : List ℕ) → t < L.threads → x.row < length T → (o : Op) → (row_at T x.row).op ≡ o → P x → Q cells
      → P (thread_after x cells (effect_of T L t x (row_at T x.row) o)) × Q (cells_after cells (effect_of T L t x (row_at T x.row) o))
  pub barriers : (x : Thread) → (row_at T x.row).op ≡ BARRIER → P x → P (past_barrier x)

barrier_op : (o : Op) → is_barrier o ≡ true → o ≡ BARRIER
unfolding is_barrier
barrier_op (CALC c) q = absurd (false≢true q)
barrier_op (MEM p m) q = absurd (false≢true q)
barrier_op IF q = absurd (false≢true q)
barrier_op ELSE q = absurd (false≢true q)
barrier_op ENDIF q = absurd (false≢true q)
barrier_op WHILE q = absurd (false≢true q)
barrier_op ENDWHILE q = absurd (false≢true q)
barrier_op BARRIER q = refl
barrier_op UNKNOWN q = absurd (false≢true q)

module _ (T : Table) (L : Shape) (P : Thread → Type 0) (Q : List ℕ → Type 0) (k : Keeps T L P Q) where
  keeps_effect : (t : ℕ) (x : Thread) (cells : List ℕ) → t < L.threads → P x → Q cells
      → P (thread_after x cells (effect T L t x)) × Q (cells_after cells (effect T L t x))
  unfolding effect thread_after cells_after
  keeps_effect t x cells l p q = by (ltb x.row (length T)) refl
    where
      d : Effect
      d = effect_of T L t x (row_at T x.row) (row_at T x.row).op

      by : (z : Bool) → ltb x.row (length T) ≡ z → P (thread_after x cells (cond z d waits)) × Q (cells_after cells (cond z d waits))
      by true e = k.rows t x cells l (ltb-true _ _ e) (row_at T x.row).op refl p q
      by false e = (p, q)

  keeps_next : (s : Group) (m : Move) → possible T L s m ≡ true → Holds L.threads P Q s → Holds L.threads P Q (next T L s m)
  unfolding possible next released
  keeps_next s release c h =
      record {
        count = length-map s.threads past_barrier ∙ h.count;
        each = λ t l.
            let g : t < length s.threads = omega (arith, h.count) in
            rw (get_d_map_at past_barrier s.threads t no_thread no_thread g)
            (k.barriers _ (barrier_op _ (gathered_at T s.threads t (and_right (not s.bad) _ c) g)) (h.each t l));
        shared = h.shared;
      }
  keeps_next s (row t) c h = by (ends_badly s t (effect_at T L s t))
    where
      l : t < L.threads
      l = unfold thread_count in (let g : t < length s.threads = ltb-true t _ (and_left _ _ (and_right (not s.bad) _ c)) in omega (arith, h.count))

      x : Thread
      x = get_or s.threads t no_thread

      new : P (thread_after x s.cells (effect T L t x)) × Q (cells_after s.cells (effect T L t x))
      new = keeps_effect t x s.cells l (h.each t l) h.shared

      moved : Holds L.threads P Q (performed s t (effect_at T L s t))
      moved = unfold performed effect_at in (record {
        count = length-set s.threads t _ ∙ h.count;
        each = λ u m. set_keeps P s.threads no_thread t _ u (λ z. new.0) (h.each u m);
        shared = new.1;
      })

      by : (z : Bool) → Holds L.threads P Q (cond z (mark_bad s) (performed s t (effect_at T L s t)))
      by true = unfold mark_bad in (record { count = h.count; each = h.each; shared = h.shared })
      by false = moved

  keeps_run : (ms : List Move) (s : Group) → Run (machine T L) s ms → Holds L.threads P Q s → Holds L.threads P Q (after (machine T L) s ms)
  keeps_run [] s r h = h
  keeps_run (m ∷ ms) s r h = keeps_run ms (next T L s m) r.1 (keeps_next s m r.0 h)

-- The same of all groups of a launch: P holds of each thread of each group, and Q of the cells.
pub record HoldsIn (Z : Sizes) (P : Thread → Type 0) (Q : List ℕ → Type 0) (S : Groups) : Type 0 where
  pub groups : length S.parts ≡ Z.groups
  pub count : (g : ℕ) → g < Z.groups → length (get_or S.parts g no_part).threads ≡ Z.threads
  pub each : (g t : ℕ) → g < Z.groups → t < Z.threads → P (get_or (get_or S.parts g no_part).threads t no_thread)
  pub shared : Q S.cells

module _ (T : Table) (Z : Sizes) (P : Thread → Type 0) (Q : List ℕ → Type 0) (k : (g : ℕ) → g < Z.groups → Keeps T (shape_of Z g) P Q) where
  -- What a part holds.
  abbrev Part₁ : Part → Type 0
  Part₁ x = (length x.threads ≡ Z.threads) × ((t : ℕ) → t < Z.threads → P (get_or x.threads t no_thread))

  part_of_lem : (S : Groups) (g : ℕ) → g < Z.groups → HoldsIn Z P Q S → Part₁ (get_or S.parts g no_part)
  part_of_lem S g l h = (h.count g l, λ t m. h.each g t l m)

  group_moved : (S : Groups) (g : ℕ) (v : Group) → HoldsIn Z P Q S → Holds Z.threads P Q v → HoldsIn Z P Q (with_group S g v)
  group_moved S g v h u =
      record {
        groups = length-set S.parts g (part_of v) ∙ h.groups;
        count = λ e l. (at e l).0;
        each = λ e t l m. (at e l).1 t m;
        shared = u.shared;
      }
    where
      at : (e : ℕ) → e < Z.groups → Part₁ (get_or (set S.parts g (part_of v)) e no_part)
      at e l = set_keeps Part₁ S.parts no_part g (part_of v) e (λ z. (u.count, u.each)) (part_of_lem S e l h)

  launch_next : (S : Groups) (m : launch.Move) → launch.possible T Z S m ≡ true → HoldsIn Z P Q S → HoldsIn Z P Q (launch.next T Z S m)
  unfolding launch.possible launch.next
  launch_next S (of_group g m) c h =
      group_moved S g _ h
      (let l = ltb-true g Z.groups (and_left _ _ c) in
      keeps_next T (shape_of Z g) P Q (k g l) (view Z S g) m (and_right (ltb g Z.groups) _ c)
      (record { count = h.count g l; each = λ t i. h.each g t l i; shared = h.shared }))

  launch_run_lem : (ms : List launch.Move) (S : Groups) → Run (launch.machine T Z) S ms → HoldsIn Z P Q S → HoldsIn Z P Q (after (launch.machine T Z) S ms)
  launch_run_lem [] S r h = h
  launch_run_lem (m ∷ ms) S r h = launch_run_lem ms (launch.next T Z S m) r.1 (launch_next S m r.0 h)

pub in_every_run : (T : Table) (Z : Sizes) (cells : List ℕ) (P : Thread → Type 0) (Q : List ℕ → Type 0) → ((g : ℕ) → g < Z.groups → Keeps T (shape_of Z g) P Q)
    → Q cells
    → (ms : List launch.Move) → RunOf T Z cells ms → HoldsIn Z P Q (leaves T Z cells ms)
unfolding initial_groups initial_part initial_threads
in_every_run T Z cells P Q k q ms r =
    launch_run_lem T Z P Q k ms _ r
    (record {
      groups = length-replicate Z.groups _;
      count = λ g l. rw (get_or-replicate Z.groups g (initial_part T Z) no_part l) (length-replicate Z.threads _);
      each = λ g t l m. rw (get_or-replicate Z.groups g (initial_part T Z) no_part l) (rw (get_or-replicate Z.threads t _ no_thread m) (k g l).first);
      shared = q;
    })
