-- The threads' own machine, of one group: each thread has its row, registers and loop counts, and any thread may make the next move.
-- "The threads' own machine"; item 7. Assumes nothing.
use Rattle.std.specs.Prelude.{◌≡◌, List, [], ◌∷◌, ◌++◌, map, Bool, true, false, cond, not, ◌&&◌, ◌||◌, ℕ, zero, suc, eqb, ltb, leb, length, get_or, set, replicate}
use Rattle.spec.specs.Limits.{registers}
use Rattle.spec.specs.Access.{Kind, Access, cell_after, registers_after, conflict}
use Rattle.spec.specs.Lists.{any_of, every, equal_list}
use Rattle.spec.specs.Op.{Op, CALC, Space, MEM, IF, ELSE, ENDIF, WHILE, ENDWHILE, BARRIER, UNKNOWN, value}
use Rattle.spec.specs.Table.{Table, Row, row_at, cell_byte, kind_of, end_of, else_of, start_of}
use Rattle.spec.specs.Shape.{Shape, launch_number, bound, address, Past, nowhere, loads, changes, past}
use Rattle.spec.specs.Runs.{Machine}

-- `loops` has a number for each row of the table. At a WHILE around the thread, or at the thread's own row, it is how often that WHILE was found true
-- since its loop was last entered. At every other row it is 0, since a WHILE found false puts its own number back to 0; so at a BARRIER equal loop
-- counts are equal lists.
pub record Thread : Type 0 where
  pub row : ℕ
  pub regs : List ℕ
  pub loops : List ℕ

unfoldable pub reg : Thread → ℕ → ℕ
reg th i = get_or th.regs i 0

unfoldable pub goto : Thread → ℕ → Thread
goto th r = record { row = r; regs = th.regs; loops = th.loops }

unfoldable pub put : Thread → (d v : ℕ) → Thread
put th d v = record { row = suc th.row; regs = set th.regs d v; loops = th.loops }

-- What a thread's row does, alone: it waits (BARRIER, and the table's end), it goes on as another thread state, it reaches outside the cells or would
-- change a common one, or it accesses the cell that stands at c by kind k, d being the row's byte d.
pub data Effect : Type 0 where
  waits : Effect
  goes : Thread → Effect
  strays : Effect
  accesses : (c : ℕ) (k : Kind) (d : ℕ) → Effect

-- Item 12: a common cell is loaded from and nothing else, so that this meets no other access: the thread goes on with the word in Rd.
unfoldable pub beyond : Thread → (d : ℕ) → Past → Effect
beyond th d nowhere = strays
beyond th d (loads v) = goes (put th d v)
beyond th d changes = strays

-- An access of the cell with this number: outside where the number is not below the cell count, but for a load of a common cell.
unfoldable pub reach : Shape → Thread → Space → ℕ → Kind → ℕ → Effect
reach L th p c k d = cond (ltb c (bound L p)) (accesses (address L p c) k d) (beyond th d (past L p c k))

-- IF false goes to the row after ELSE, or to ENDIF where there is none.
unfoldable pub on_if : Table → Thread → ℕ → Thread
on_if T th zero = goto th (else_of T th.row)
on_if T th (suc v) = goto th (suc th.row)

-- WHILE false goes to the row after ENDWHILE; found true, its count grows by 1.
unfoldable pub on_while : Table → Thread → ℕ → Thread
on_while T th zero = record { row = suc (end_of T th.row); regs = th.regs; loops = set th.loops th.row 0 }
on_while T th (suc v) = record { row = suc th.row; regs = th.regs; loops = set th.loops th.row (suc (get_or th.loops th.row 0)) }

-- The row's effect, by its op. ELSE goes to ENDIF; ENDIF to the next row; ENDWHILE to its WHILE. UNKNOWN is never come to in a table that is accepted.
unfoldable pub effect_of : Table → Shape → ℕ → Thread → Row → Op → Effect
effect_of T L t th x (CALC c) = goes (put th x.d (value c L.threads t (launch_number L t) x.a x.b (reg th x.a) (reg th x.b)))
effect_of T L t th x (MEM p m) = reach L th p (reg th (cell_byte m x)) (kind_of m (reg th x.a)) x.d
effect_of T L t th x IF = goes (on_if T th (reg th x.a))
effect_of T L t th x ELSE = goes (goto th (end_of T th.row))
effect_of T L t th x ENDIF = goes (goto th (suc th.row))
effect_of T L t th x WHILE = goes (on_while T th (reg th x.a))
effect_of T L t th x ENDWHILE = goes (goto th (start_of T th.row))
effect_of T L t th x BARRIER = waits
effect_of T L t th x UNKNOWN = waits

unfoldable pub effect : Table → Shape → ℕ → Thread → Effect
effect T L t th = cond (ltb th.row (length T)) (effect_of T L t th (row_at T th.row) (row_at T th.row).op) waits

-- An access record: each thread's accesses, the newest first.
abbrev pub AccessRecord : Type 0
AccessRecord = ℕ → List Access

unfoldable pub empty_record : AccessRecord
empty_record t = []

-- The accesses xs of thread t recorded.
unfoldable pub recorded : AccessRecord → ℕ → List Access → AccessRecord
recorded R t xs u = cond (eqb u t) (xs ++ R u) (R u)

unfoldable pub any_below : ℕ → (ℕ → Bool) → Bool
any_below zero p = false
any_below (suc n) p = p n || any_below n p

-- Thread t's access x, of n threads, races: another thread has a record that conflicts with it.
unfoldable pub races : ℕ → AccessRecord → ℕ → Access → Bool
races n R t x = any_below n (λ u. not (eqb u t) && any_of (conflict x) (R u))

-- A group: its threads, the launch's cells, the accesses since the group's last release and all since the launch, and which accesses conflict with one
-- that another group has made; `bad` once a run has ended badly.
pub record Group : Type 0 where
  pub threads : List Thread
  pub cells : List ℕ
  pub made : AccessRecord
  pub ever : AccessRecord
  pub barred : Access → Bool
  pub bad : Bool

-- At the start each thread is at row 0 with registers 0.
unfoldable pub initial_threads : Table → (n : ℕ) → List Thread
initial_threads T n = replicate n (record { row = 0; regs = replicate registers 0; loops = replicate (length T) 0 })

unfoldable pub no_thread : Thread
no_thread = record { row = 0; regs = []; loops = [] }

unfoldable pub thread_count : Group → ℕ
thread_count s = length s.threads

unfoldable pub effect_at : Table → Shape → Group → ℕ → Effect
effect_at T L s t = effect T L t (get_or s.threads t no_thread)

-- The accesses that an effect makes: one or none.
unfoldable pub accesses_of : Effect → List Access
accesses_of waits = []
accesses_of (goes th) = []
accesses_of strays = []
accesses_of (accesses c k d) = record { cell = c; kind = k } ∷ []

unfoldable pub is_outside : Effect → Bool
is_outside waits = false
is_outside (goes th) = false
is_outside strays = true
is_outside (accesses c k d) = false

-- A move ends the run badly: an access outside the cells, a store or an add to a common one, a race with a thread of the group, or one with another group.
unfoldable pub ends_badly : Group → ℕ → Effect → Bool
ends_badly s t x = is_outside x || any_of (λ a. races (thread_count s) s.made t a || s.barred a) (accesses_of x)

unfoldable pub mark_bad : Group → Group
mark_bad s = record { threads = s.threads; cells = s.cells; made = s.made; ever = s.ever; barred = s.barred; bad = true }

-- Otherwise the effect is made: on the thread, on the cells, and on the records.
unfoldable pub thread_after : Thread → List ℕ → Effect → Thread
thread_after th cells waits = th
thread_after th cells (goes h) = h
thread_after th cells strays = th
thread_after th cells (accesses c k d) = record { row = suc th.row; regs = registers_after k d (get_or cells c 0) th.regs; loops = th.loops }

unfoldable pub cells_after : List ℕ → Effect → List ℕ
cells_after cells waits = cells
cells_after cells (goes h) = cells
cells_after cells strays = cells
cells_after cells (accesses c k d) = set cells c (cell_after k (get_or cells c 0))

unfoldable pub performed : Group → ℕ → Effect → Group
performed s t x =
    record {
      threads = set s.threads t (thread_after (get_or s.threads t no_thread) s.cells x);
      cells = cells_after s.cells x;
      made = recorded s.made t (accesses_of x);
      ever = recorded s.ever t (accesses_of x);
      barred = s.barred;
      bad = s.bad;
    }

-- A release: all pass the BARRIER and the accesses are forgotten as far as the own group goes.
unfoldable pub past_barrier : Thread → Thread
past_barrier th = goto th (suc th.row)

unfoldable pub released : Group → Group
released s =
    record {
      threads = map past_barrier s.threads;
      cells = s.cells;
      made = empty_record;
      ever = s.ever;
      barred = s.barred;
      bad = s.bad;
    }

-- A move is a thread's row or a release.
pub data Move : Type 0 where
  row : ℕ → Move
  release : Move

unfoldable pub next : Table → Shape → Group → Move → Group
next T L s (row t) = cond (ends_badly s t (effect_at T L s t)) (mark_bad s) (performed s t (effect_at T L s t))
next T L s release = released s

unfoldable pub is_barrier : Op → Bool
is_barrier (CALC c) = false
is_barrier (MEM p m) = false
is_barrier IF = false
is_barrier ELSE = false
is_barrier ENDIF = false
is_barrier WHILE = false
is_barrier ENDWHILE = false
is_barrier BARRIER = true
is_barrier UNKNOWN = false

-- All threads wait at the same BARRIER row with equal loop counts.
unfoldable pub at_one_barrier : Table → List Thread → Bool
at_one_barrier T [] = false
at_one_barrier T (x ∷ xs) = is_barrier (row_at T x.row).op && every (λ y. eqb y.row x.row && equal_list y.loops x.loops) xs

unfoldable pub is_waiting : Effect → Bool
is_waiting waits = true
is_waiting (goes th) = false
is_waiting strays = false
is_waiting (accesses c k d) = false

-- Any thread not at BARRIER or the table's end may make the next move; a release is possible when all wait together. After a bad end no move is possible.
unfoldable pub possible : Table → Shape → Group → Move → Bool
possible T L s (row t) = not s.bad && (ltb t (thread_count s) && not (is_waiting (effect_at T L s t)))
possible T L s release = not s.bad && at_one_barrier T s.threads

-- The run has come to its end: all threads are at the table's end, and it has not ended badly.
unfoldable pub at_end : Table → Group → Bool
at_end T s = not s.bad && every (λ th. leb (length T) th.row) s.threads

-- The one observer is shown the cells just before each release.
unfoldable pub shown : Group → Move → List (List ℕ)
shown s (row t) = []
shown s release = s.cells ∷ []

abbrev pub machine : Table → Shape → Machine
machine T L =
    record {
      State = Group;
      Move = Move;
      Observer = Unit {0};
      Shown = List ℕ;
      Possible = λ s m. possible T L s m ≡ true;
      next = next T L;
      shows = λ w. shown;
      Ended = λ s. at_end T s ≡ true;
      Bad = λ s. s.bad ≡ true;
    }
