-- The lock-step run of a group: predicated execution of all its threads at one row. "The lock-step run"; item 7. Assumes nothing.
use Rattle.std.specs.Prelude.{List, [], ◌∷◌, ◌++◌, map, true, false, cond, not, ℕ, zero, suc, eqb, leb, ltb, length, get_or, set, replicate}
use Rattle.spec.specs.Limits.{registers}
use Rattle.spec.specs.Answers.{Verdict, Passed, Race, GroupRace, Outside, Common, Diverged, Spent, Outcome}
use Rattle.spec.specs.Access.{Kind, cell_after, registers_after}
use Rattle.spec.specs.Op.{Op, CALC, Space, OWN, GLOBAL, Mem, MEM, IF, ELSE, ENDIF, WHILE, ENDWHILE, BARRIER, UNKNOWN, value}
use Rattle.spec.specs.Table.{Table, Row, row_at, cell_byte, kind_of, end_of}
use Rattle.spec.specs.Shape.{Sizes, Shape, launch_number, bound, address, reaches, Past, nowhere, loads, changes, past}
use Rattle.spec.specs.Mask.{Mask, members, any, full, minus, lowest, holding}
use Rattle.spec.specs.Log.{Log, empty_log, cleared, logged, conflict_mask, race_kind}
use Rattle.spec.specs.GroupLog.{GroupLog, empty_group_log, group_logged, group_conflict_mask, group_race_kind}
use Rattle.spec.specs.Steps.{stepped, all_stepped}

-- The mask saved for an open construct, with the construct's row: that of its IF or WHILE, or of its ELSE once that is behind.
pub record Saved : Type 0 where
  pub opener : ℕ
  pub mask : Mask

-- The state: `saved` has the innermost construct first, `regs` has each thread's registers, `steps` each thread's count of steps. Threads are those of
-- the group that runs; cells and log are the launch's, and `rows` and `barriers` count for all groups.
pub record LockState : Type 0 where
  pub row : ℕ
  pub enabled : Mask
  pub saved : List Saved
  pub regs : List (List ℕ)
  pub cells : List ℕ
  pub log : Log
  pub group_log : GroupLog
  pub rows : ℕ
  pub steps : List ℕ
  pub barriers : ℕ

-- Start: row 0, all threads enabled, registers and log zero, counts 0.
unfoldable pub initial_state : Sizes → List ℕ → LockState
initial_state Z cells =
    record {
      row = 0;
      enabled = replicate Z.threads true;
      saved = [];
      regs = replicate Z.threads (replicate registers 0);
      cells = cells;
      log = empty_log Z.threads (length cells);
      group_log = empty_group_log Z.groups (length cells);
      rows = 0;
      steps = replicate Z.threads 0;
      barriers = 0;
    }

-- What a row, or one thread's part of it, comes to: the run goes on from a state, or it stops there with a verdict.
pub data Step : Type 0 where
  continues : LockState → Step
  stops : Verdict → LockState → Step

unfoldable pub and_then : Step → (LockState → Step) → Step
and_then (continues s) f = f s
and_then (stops v s) f = stops v s

-- The threads of a list take their turns, in its order.
unfoldable pub in_turn : (LockState → ℕ → Step) → List ℕ → LockState → Step
in_turn f [] s = continues s
in_turn f (t ∷ ts) s = and_then (f s t) (in_turn f ts)

-- A finished row adds 1 to rows, and the run goes on at row r with this mask and these saved masks.
unfoldable pub advance : ℕ → Mask → List Saved → LockState → LockState
advance r m saved s =
    record {
      row = r;
      enabled = m;
      saved = saved;
      regs = s.regs;
      cells = s.cells;
      log = s.log;
      group_log = s.group_log;
      rows = suc s.rows;
      steps = s.steps;
      barriers = s.barriers;
    }

-- Within a row only these change.
unfoldable pub update : LockState → (regs : List (List ℕ)) → (cells : List ℕ) → Log → (steps : List ℕ) → LockState
update s regs cells log steps =
    record {
      row = s.row;
      enabled = s.enabled;
      saved = s.saved;
      regs = regs;
      cells = cells;
      log = log;
      group_log = s.group_log;
      rows = s.rows;
      steps = steps;
      barriers = s.barriers;
    }

unfoldable pub reg : LockState → (t a : ℕ) → ℕ
reg s t a = get_or (get_or s.regs t []) a 0

-- A computing row for thread t: one step.
unfoldable pub set_reg : LockState → (t d v : ℕ) → LockState
unfolding update
set_reg s t d v = update s (set s.regs t (set (get_or s.regs t []) d v)) s.cells s.log (stepped s.steps t)

unfoldable pub compute_turn : Row → (ℕ → ℕ → ℕ → ℕ) → LockState → ℕ → Step
compute_turn x f s t = continues (set_reg s t x.d (f t (reg s t x.a) (reg s t x.b)))

-- Thread t's access of the cell at i, made and logged: one step.
unfoldable pub made_access : LockState → (t d i : ℕ) → Kind → LockState
unfolding update
made_access s t d i k =
    let old = get_or s.cells i 0 in
    update s (set s.regs t (registers_after k d old (get_or s.regs t []))) (set s.cells i (cell_after k old)) (logged s.log i t k)
    (stepped s.steps t)

-- Item 7: an access of a global cell also enters its group.
unfoldable pub enter_group : Space → (g i : ℕ) → Kind → LockState → LockState
enter_group OWN g i k s = s
enter_group GLOBAL g i k s =
    record {
      row = s.row;
      enabled = s.enabled;
      saved = s.saved;
      regs = s.regs;
      cells = s.cells;
      log = s.log;
      group_log = group_logged s.group_log i g k;
      rows = s.rows;
      steps = s.steps;
      barriers = s.barriers;
    }

-- Item 7: the other groups that an access conflicts with. Own cells are out of their reach.
unfoldable pub rivals : Space → LockState → (g i : ℕ) → Kind → Mask
rivals OWN s g i k = []
rivals GLOBAL s g i k = group_conflict_mask s.group_log i g k

-- An access of cell c races where the conflict mask has a thread, or else the rivals have a group, and is then neither made nor logged; the lowest
-- thread of its own group is named, or else the lowest group.
unfoldable pub try_access : Shape → Space → LockState → (t d c : ℕ) → Kind → Step
try_access L p s t d c k =
    let i = address L p c in
    let others = conflict_mask s.log i t k in
    let groups = rivals p s L.group i k in
    cond (any others) (stops (Race t (lowest others) (race_kind s.log i (lowest others) k) c) s)
    (cond (any groups) (stops (GroupRace t (lowest groups) (group_race_kind s.group_log i (lowest groups) k) c) s)
    (continues (enter_group p L.group i k (made_access s t d i k))))

-- Item 12: an access past the cells. A common cell is loaded from, one step, and nothing is logged; a store or an add there stops the run.
unfoldable pub past_turn : LockState → (t d c : ℕ) → Past → Step
past_turn s t d c nowhere = stops (Outside t c) s
past_turn s t d c (loads v) = continues (set_reg s t d v)
past_turn s t d c changes = stops (Common t c) s

-- LOAD, STORE and ATOMIC ADD for thread t: a number not below the cell count is outside or a common cell's, which is told before a race.
unfoldable pub access_turn : Shape → Space → Mem → Row → LockState → ℕ → Step
access_turn L p m x s t =
    let c = reg s t (cell_byte m x) in
    let k = kind_of m (reg s t x.a) in
    cond (leb (bound L p) c) (past_turn s t x.d c (past L p c k)) (try_access L p s t x.d c k)

-- Each enabled thread takes its turn, lowest first, and the run goes on at the next row.
unfoldable pub for_enabled : (LockState → ℕ → Step) → LockState → Step
for_enabled f s = and_then (in_turn f (members s.enabled) s) (λ z. continues (advance (suc z.row) z.enabled z.saved z))

-- The threads of m step, and nothing of their own changes.
unfoldable pub count_steps : Mask → LockState → LockState
unfolding update
count_steps m s = update s s.regs s.cells s.log (all_stepped s.steps (members m))

unfoldable pub top_mask : List Saved → Mask
top_mask [] = []
top_mask (f ∷ v) = f.mask

unfoldable pub top_opener : List Saved → ℕ
top_opener [] = 0
top_opener (f ∷ v) = f.opener

unfoldable pub pop : List Saved → List Saved
pop [] = []
pop (f ∷ v) = v

-- IF saves the mask and enables those with Ra true.
unfoldable pub if_row : Row → LockState → LockState
if_row x s =
    advance (suc s.row) (holding x.a s.enabled s.regs) (record { opener = s.row; mask = s.enabled } ∷ s.saved) (count_steps s.enabled s)

-- ELSE, after its steps, enables those of the saved mask that its IF did not: all but those that come to the ELSE enabled.
unfoldable pub else_row : LockState → LockState
else_row s =
    advance (suc s.row) (minus (top_mask s.saved) s.enabled) (record { opener = s.row; mask = top_mask s.saved } ∷ pop s.saved)
    (count_steps s.enabled s)

-- ENDIF first restores the saved mask, and then that steps.
unfoldable pub endif_row : LockState → LockState
endif_row s = advance (suc s.row) (top_mask s.saved) (pop s.saved) (count_steps (top_mask s.saved) s)

-- WHILE, come to from above, saves the mask; come to from its ENDWHILE it has its own saved mask on top already.
unfoldable pub saved_at_while : ℕ → Mask → List Saved → List Saved
saved_at_while r m [] = record { opener = r; mask = m } ∷ []
saved_at_while r m (f ∷ v) = cond (eqb f.opener r) (f ∷ v) (record { opener = r; mask = m } ∷ (f ∷ v))

-- Those with Ra true remain; if none remains, the saved mask is restored and the run goes on after ENDWHILE.
unfoldable pub leave_or_stay : Table → LockState → List Saved → Mask → LockState
leave_or_stay T s saved m = cond (any m) (advance (suc s.row) m saved s) (advance (suc (end_of T s.row)) (top_mask saved) (pop saved) s)

unfoldable pub while_row : Table → Row → LockState → LockState
while_row T x s = leave_or_stay T (count_steps s.enabled s) (saved_at_while s.row s.enabled s.saved) (holding x.a s.enabled s.regs)

-- ENDWHILE steps and goes to its WHILE.
unfoldable pub endwhile_row : LockState → LockState
endwhile_row s = advance (top_opener s.saved) s.enabled s.saved (count_steps s.enabled s)

-- All pass a BARRIER: the log of the cells that they can name is cleared and barriers grows by 1. The group masks stay.
unfoldable pub pass_barrier : Shape → LockState → LockState
pass_barrier L s =
    record {
      row = suc s.row;
      enabled = s.enabled;
      saved = s.saved;
      regs = s.regs;
      cells = s.cells;
      log = cleared (reaches L) s.log;
      group_log = s.group_log;
      rows = suc s.rows;
      steps = s.steps;
      barriers = suc s.barriers;
    }

-- BARRIER adds no steps. Nobody enabled: nothing. All enabled: they pass. Else the run has diverged.
unfoldable pub barrier_row : Shape → LockState → Step
barrier_row L s =
    cond (any s.enabled)
    (cond (full s.enabled) (continues (pass_barrier L s)) (stops (Diverged (lowest s.enabled) (lowest (map not s.enabled))) s))
    (continues (advance (suc s.row) s.enabled s.saved s))

-- One row, by its op. UNKNOWN is never come to in a table that is accepted.
unfoldable pub run_row : Table → Shape → Row → LockState → Op → Step
run_row T L x s (CALC c) = for_enabled (compute_turn x (λ t p q. value c L.threads t (launch_number L t) x.a x.b p q)) s
run_row T L x s (MEM p m) = for_enabled (access_turn L p m x) s
run_row T L x s IF = continues (if_row x s)
run_row T L x s ELSE = continues (else_row s)
run_row T L x s ENDIF = continues (endif_row s)
run_row T L x s WHILE = continues (while_row T x s)
run_row T L x s ENDWHILE = continues (endwhile_row s)
run_row T L x s BARRIER = barrier_row L s
run_row T L x s UNKNOWN = continues (advance (suc s.row) s.enabled s.saved s)

-- How a run ended: its verdict and the state as it then stands.
pub record LockResult : Type 0 where
  pub verdict : Verdict
  pub state : LockState

unfoldable pub result_of : Step → (LockState → LockResult) → LockResult
result_of (continues s) f = f s
result_of (stops v s) f = record { verdict = v; state = s }

-- The run with so many rows left to its limit. Before each row: at the table's end the verdict is passed; else, with none left, spent.
unfoldable pub run_from : Table → Shape → ℕ → LockState → LockResult
run_from T L zero s = record { verdict = cond (leb (length T) s.row) Passed Spent; state = s }
run_from T L (suc left) s =
    elim (leb (length T) s.row) [
      | true ↦ record { verdict = Passed; state = s }
      | false ↦ result_of (run_row T L (row_at T s.row) s (row_at T s.row).op) (run_from T L left)
    ]

-- What a report says of it beside the steps and the cells: it ended in this group, and its rows cost `conflicts`. The row is where it stopped; for spent,
-- the row due.
unfoldable pub outcome_of : LockResult → (group conflicts : ℕ) → Outcome
outcome_of o group conflicts =
    record { verdict = o.verdict; row = o.state.row; group = group; rows = o.state.rows; barriers = o.state.barriers; conflicts = conflicts }

-- The counted barriers of a group, BARRIER rows at which barriers grows: the cells just before each, in their order.
unfoldable pub counted_at : (before after : LockState) → List (List ℕ)
counted_at s z = cond (ltb s.barriers z.barriers) (s.cells ∷ []) []

unfoldable pub counted_after : LockState → Step → (LockState → List (List ℕ)) → List (List ℕ)
counted_after s (continues z) f = counted_at s z ++ f z
counted_after s (stops v z) f = []

unfoldable pub counted_from : Table → Shape → ℕ → LockState → List (List ℕ)
counted_from T L zero s = []
counted_from T L (suc left) s =
    elim (leb (length T) s.row) [
      | true ↦ []
      | false ↦ counted_after s (run_row T L (row_at T s.row) s (row_at T s.row).op) (counted_from T L left)
    ]
