-- What a row of the lock-step run adds to the counts of steps: which threads have stepped in it, whether it goes on or stops. Assumes nothing.
use mathlib.Core.Path.{◌≡◌, refl, ◌∙◌, ap}
use mathlib.Core.List.{List, [], ◌∷◌, ◌++◌, map}
use mathlib.Core.Bool.{Bool, true, false, cond, not}
use Prim.Native.Nat.{ℕ, suc}
use lib.Dec.{leb}
use Rattle.spec.specs.declared.Verdict.{Verdict}
use Rattle.spec.specs.declared.Verdict.TheVariants.{Passed, Race, GroupRace, Outside, Common, Diverged, Spent}
use Rattle.spec.specs.Access.{Kind}
use Rattle.spec.specs.Mask.{Mask, members, members_from, any, full, lowest}
use Rattle.spec.specs.Log.{conflict_mask, race_kind}
use Rattle.spec.specs.GroupLog.{group_race_kind}
use Rattle.spec.specs.Op.{Op, CALC, Space, OWN, GLOBAL, Mem, MEM, IF, ELSE, ENDIF, WHILE, ENDWHILE, BARRIER, UNKNOWN}
use Rattle.spec.specs.Shape.{Shape, Past, changes, loads, nowhere, past, bound, address}
use Rattle.spec.specs.Table.{Table, Row, cell_byte, kind_of}
use Rattle.spec.specs.Steps.{stepped, all_stepped}
use Rattle.spec.specs.LockStep.{LockState, Step, continues, stops, and_then, in_turn, advance, set_reg, compute_turn, made_access, enter_group}
use Rattle.spec.specs.LockStep.{rivals, try_access, past_turn, access_turn, update}
use Rattle.spec.specs.LockStep.{reg, for_enabled, count_steps, top_mask, if_row, else_row, endif_row, leave_or_stay, while_row, endwhile_row, pass_barrier, barrier_row}
use Rattle.spec.specs.LockStep.{run_row}

-- The thread that stops a row of accesses.
abbrev pub StopsAt : Verdict → ℕ → Type 0
StopsAt Passed t = ⊥
StopsAt (Race thread other kind at) t = thread ≡ t
StopsAt (GroupRace thread group kind at) t = thread ≡ t
StopsAt (Outside thread at) t = thread ≡ t
StopsAt (Common thread at) t = thread ≡ t
StopsAt (Diverged thread other) t = ⊥
StopsAt Spent t = ⊥

-- Thread t's turn is one step of t, or it stops the row and is none.
abbrev pub OneStep : LockState → ℕ → Step → Type 0
OneStep s t (continues z) = z.steps ≡ stepped s.steps t
OneStep s t (stops v z) = StopsAt v t × (z.steps ≡ s.steps)

-- The turns of threads ts: all of them have stepped, or those before the one that stopped the row.
pub record Before (ts : List ℕ) (s : LockState) (v : Verdict) (z : LockState) : Type 0 where
  pub acted : List ℕ
  pub at : ℕ
  pub rest : List ℕ
  pub all : ts ≡ acted ++ (at ∷ rest)
  pub stopper : StopsAt v at
  pub counted : z.steps ≡ all_stepped s.steps acted

abbrev pub Turned : List ℕ → LockState → Step → Type 0
Turned ts s (continues z) = z.steps ≡ all_stepped s.steps ts
Turned ts s (stops v z) = Before ts s v z

module _ (f : LockState → ℕ → Step) (one : (s : LockState) (t : ℕ) → OneStep s t (f s t)) where
  turned : (ts : List ℕ) (s : LockState) → Turned ts s (in_turn f ts s)
  unfolding in_turn all_stepped
  turned [] s = refl
  turned (t ∷ ts) s = first (f s t) (one s t) (turned ts)
    where
      later : (z : LockState) → z.steps ≡ stepped s.steps t → (o : Step) → Turned ts z o → Turned (t ∷ ts) s o
      later z e (continues y) h = h ∙ ap (λ x. all_stepped x ts) e
      later z e (stops v y) h =
          record {
            acted = t ∷ h.acted;
            at = h.at;
            rest = h.rest;
            all = ap (λ x. t ∷ x) h.all;
            stopper = h.stopper;
            counted = h.counted ∙ ap (λ x. all_stepped x h.acted) e;
          }

      first : (o : Step) → OneStep s t o → ((z : LockState) → Turned ts z (in_turn f ts z)) → Turned (t ∷ ts) s (and_then o (in_turn f ts))
      first (continues z) e ih = unfold and_then in (later z e (in_turn f ts z) (ih z))
      first (stops v z) (w, e) ih = unfold and_then in (record { acted = []; at = t; rest = ts; all = refl; stopper = w; counted = e })

  enabled_turned : (s : LockState) → Turned (members s.enabled) s (for_enabled f s)
  unfolding for_enabled advance
  enabled_turned s = by (in_turn f (members s.enabled) s) (turned (members s.enabled) s)
    where
      by : (o : Step) → Turned (members s.enabled) s o
          → Turned (members s.enabled) s (and_then o (λ z. continues (advance (suc z.row) z.enabled z.saved z)))
      by (continues z) e = unfold and_then in e
      by (stops v z) h = unfold and_then in h

compute_one : (x : Row) (g : ℕ → ℕ → ℕ → ℕ) (s : LockState) (t : ℕ) → OneStep s t (compute_turn x g s t)
unfolding compute_turn set_reg
compute_one x g s t = refl

access_one : (L : Shape) (p : Space) (m : Mem) (x : Row) (s : LockState) (t : ℕ) → OneStep s t (access_turn L p m x s t)
unfolding access_turn try_access
access_one L p m x s t = by (leb (bound L p) c) (any others) (any groups)
  where
    c : ℕ
    c = reg s t (cell_byte m x)

    i : ℕ
    i = address L p c

    k : Kind
    k = kind_of m (reg s t x.a)

    others : Mask
    others = conflict_mask s.log i t k

    groups : Mask
    groups = rivals p s L.group i k

    entered : (p : Space) → (enter_group p L.group i k (made_access s t x.d i k)).steps ≡ stepped s.steps t
    entered OWN = unfold enter_group made_access in refl
    entered GLOBAL = unfold enter_group made_access in refl

    beyond : (q : Past) → OneStep s t (past_turn s t x.d c q)
    beyond nowhere = unfold past_turn in (refl, refl)
    beyond (loads v) = unfold past_turn set_reg update in refl
    beyond changes = unfold past_turn in (refl, refl)

    by : (b o g : Bool) → OneStep s t (cond b (past_turn s t x.d c (past L p c k))
        (cond o (stops (Race t (lowest others) (race_kind s.log i (lowest others) k) c) s)
        (cond g (stops (GroupRace t (lowest groups) (group_race_kind s.group_log i (lowest groups) k) c) s)
        (continues (enter_group p L.group i k (made_access s t x.d i k))))))
    by true o g = beyond (past L p c k)
    by false true g = (refl, refl)
    by false false true = (refl, refl)
    by false false false = entered p

-- The threads that step in a row that goes on.
unfoldable pub who_steps : Op → LockState → Mask
who_steps (CALC c) s = s.enabled
who_steps (MEM p m) s = s.enabled
who_steps IF s = s.enabled
who_steps ELSE s = s.enabled
who_steps ENDIF s = top_mask s.saved
who_steps WHILE s = s.enabled
who_steps ENDWHILE s = s.enabled
who_steps BARRIER s = []
who_steps UNKNOWN s = []

-- A row that stops has stopped at one of its accesses, or at a BARRIER, where nobody steps.
abbrev pub StoppedRow : LockState → Verdict → LockState → Type 0
StoppedRow s Passed z = ⊥
StoppedRow s (Race t o k c) z = Before (members s.enabled) s (Race t o k c) z
StoppedRow s (GroupRace t h k c) z = Before (members s.enabled) s (GroupRace t h k c) z
StoppedRow s (Outside t c) z = Before (members s.enabled) s (Outside t c) z
StoppedRow s (Common t c) z = Before (members s.enabled) s (Common t c) z
StoppedRow s (Diverged t o) z = z.steps ≡ s.steps
StoppedRow s Spent z = ⊥

abbrev pub RowSteps : Op → LockState → Step → Type 0
RowSteps o s (continues z) = z.steps ≡ all_stepped s.steps (members (who_steps o s))
RowSteps o s (stops v z) = StoppedRow s v z

stopped_row : (s : LockState) (v : Verdict) (z : LockState) → Before (members s.enabled) s v z → StoppedRow s v z
stopped_row s Passed z h = h.stopper
stopped_row s (Race t o k c) z h = h
stopped_row s (GroupRace t h k c) z b = b
stopped_row s (Outside t c) z h = h
stopped_row s (Common t c) z h = h
stopped_row s (Diverged t o) z h = absurd h.stopper
stopped_row s Spent z h = h.stopper

pub row_steps : (T : Table) (L : Shape) (x : Row) (s : LockState) (o : Op) → RowSteps o s (run_row T L x s o)
unfolding run_row who_steps if_row else_row endif_row while_row endwhile_row advance count_steps members all_stepped members_from pass_barrier
row_steps T L x s (CALC c) = by (for_enabled _ s) (enabled_turned _ (compute_one x _) s)
  where
    by : (o : Step) → Turned (members s.enabled) s o → RowSteps (CALC c) s o
    by (continues z) h = h
    by (stops v z) h = stopped_row s v z h
row_steps T L x s (MEM p m) = by (for_enabled _ s) (enabled_turned _ (access_one L p m x) s)
  where
    by : (o : Step) → Turned (members s.enabled) s o → RowSteps (MEM p m) s o
    by (continues z) h = h
    by (stops v z) h = stopped_row s v z h
row_steps T L x s IF = refl
row_steps T L x s ELSE = refl
row_steps T L x s ENDIF = refl
row_steps T L x s WHILE = unfold leave_or_stay in (either (any _) _ _ refl refl)
  where
    either : (b : Bool) (y z : LockState) → y.steps ≡ all_stepped s.steps (members s.enabled) → z.steps ≡ all_stepped s.steps (members s.enabled)
        → (cond b y z).steps ≡ all_stepped s.steps (members s.enabled)
    either true y z h k = h
    either false y z h k = k
row_steps T L x s ENDWHILE = refl
row_steps T L x s BARRIER = unfold barrier_row in (by (any s.enabled) (full s.enabled))
  where
    by : (b c : Bool) → RowSteps BARRIER s (cond b (cond c (continues (pass_barrier L s)) (stops (Diverged (lowest s.enabled) (lowest (map not s.enabled))) s))
        (continues (advance (suc s.row) s.enabled s.saved s)))
    by true true = refl
    by true false = refl
    by false c = refl
row_steps T L x s UNKNOWN = refl
