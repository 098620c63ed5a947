-- What the rows of constructs and BARRIER come to, word by word. Assumes nothing.
use Rattle.std.specs.Prelude.{◌≡◌, List, Bool, true, false, cond, not, ℕ, ◌+◌, ◌-◌, ◌^◌, ◌<◌, ◌≤◌, eqb, ltb, get_or, set}
use Rattle.std.specs.Int.Bits.{bit_and}
use Rattle.std.specs.Int.Count.{count_trailing_zeros}
use Rattle.spec.specs.declared.Verdict.TheVariants.{Diverged}
use Rattle.spec.specs.Log.{cells_cleared}
use Rattle.layout.specs.declared.State.{State}
use Rattle.layout.specs.Next.{Next}
use Rattle.layout.specs.Next as next
use Rattle.layout.specs.Memory.{holding_word}
use Rattle.layout.specs.Represents.{Counted, gone_on, moved_on}

-- The innermost construct's slot.
abbrev pub top_word : State → List ℕ → ℕ
top_word s slots = get_or slots (s.depth - 1) 0

-- Whether a WHILE has its own row on top: it is come to from its ENDWHILE.
unfoldable pub entered : State → (openers : List ℕ) → Bool
entered s openers = cond (ltb 0 s.depth) (eqb (top_word s openers) s.row) false

-- IF, and a WHILE come to from above, save their mask and their row at the depth.
unfoldable pub saving : (op : ℕ) → State → (openers : List ℕ) → Bool
saving op s openers = cond (eqb op 32) true (cond (eqb op 35) (not (entered s openers)) false)

-- The saved masks after a row, and the rows beside them, of which ELSE puts its own on top. No other slot changes.
unfoldable pub saved_after : (op : ℕ) → State → (saved openers : List ℕ) → List ℕ
saved_after op s saved openers = cond (saving op s openers) (set saved s.depth s.mask) saved

unfoldable pub openers_after : (op : ℕ) → State → (openers : List ℕ) → List ℕ
openers_after op s openers =
    cond (eqb op 33) (set openers (s.depth - 1) s.row) (cond (saving op s openers) (set openers s.depth s.row) openers)

-- IF goes on with those that have register a true, ELSE with the others, ENDIF with all that came.
abbrev pub if_state : (a : ℕ) → (regs : List ℕ) → State → State
if_state a regs s = gone_on s (s.row + 1) (holding_word s.mask a regs) (s.depth + 1)

abbrev pub else_state : (saved : List ℕ) → State → State
else_state saved s = gone_on s (s.row + 1) (bit_and (top_word s saved) (4294967295 - s.mask)) s.depth

abbrev pub endif_state : (saved : List ℕ) → State → State
endif_state saved s = gone_on s (s.row + 1) (top_word s saved) (s.depth - 1)

-- The depth with a WHILE's own saved mask.
unfoldable pub while_depth : State → (openers : List ℕ) → ℕ
while_depth s openers = cond (entered s openers) s.depth (s.depth + 1)

-- WHILE with its ENDWHILE at row e: on with those that have register a true; or behind the loop with all that came, where there is none.
abbrev pub left_state : (e : ℕ) → State → (saved openers : List ℕ) → State
left_state e s saved openers =
    let outer = while_depth s openers - 1 in
    gone_on s (e + 1) (get_or (saved_after 35 s saved openers) outer 0) outer

unfoldable pub while_state : (a e : ℕ) → (regs : List ℕ) → State → (saved openers : List ℕ) → State
while_state a e regs s saved openers =
    cond (eqb (holding_word s.mask a regs) 0) (left_state e s saved openers)
    (gone_on s (s.row + 1) (holding_word s.mask a regs) (while_depth s openers))

-- ENDWHILE goes back to its WHILE.
abbrev pub endwhile_state : (openers : List ℕ) → State → State
endwhile_state openers s = gone_on s (top_word s openers) s.mask s.depth

-- The state after a construct's row, by its op.
unfoldable pub construct_state : (op a e : ℕ) → (regs : List ℕ) → State → (saved openers : List ℕ) → State
construct_state op a e regs s saved openers =
    cond (eqb op 32) (if_state a regs s) (cond (eqb op 33) (else_state saved s) (cond (eqb op 34) (endif_state saved s)
    (cond (eqb op 35) (while_state a e regs s saved openers) (endwhile_state openers s))))

-- What the row of a construct leaves.
pub record ConstructDone (op a e : ℕ) (regs : List ℕ) (s : State) (saved openers : List ℕ) (r : State) (saved' openers' : List ℕ) : Type 0 where
  pub counted : Counted s r
  pub state_is : r ≡ construct_state op a e regs s saved openers
  pub saved_are : saved' ≡ saved_after op s saved openers
  pub openers_are : openers' ≡ openers_after op s openers

-- What coming to a WHILE leaves; k is the depth with its own mask.
pub record EnteredWhile (k : ℕ) (s : State) (saved openers saved' openers' : List ℕ) : Type 0 where
  pub some : 0 < k
  pub few : k ≤ 8
  pub depth_is : k ≡ while_depth s openers
  pub saved_are : saved' ≡ saved_after 35 s saved openers
  pub openers_are : openers' ≡ openers_after 35 s openers

-- BARRIER of n threads: passed by all of them, which clears the log; skipped by none of them; diverged else.
abbrev pub passed_state : State → State
passed_state s =
    record { reach = 0; row = s.row + 1; mask = s.mask; depth = s.depth; rows = s.rows + 1; since = s.since; barriers = s.barriers + 1 }

abbrev pub diverged_next : ℕ → State → Next
diverged_next n s = next.Stop s (Diverged (count_trailing_zeros 32 s.mask) (count_trailing_zeros 32 (bit_and (2 ^ n - 1) (4294967295 - s.mask))))

unfoldable pub barrier_next : ℕ → State → Next
barrier_next n s = cond (eqb s.mask (2 ^ n - 1)) (next.Go (passed_state s)) (cond (eqb s.mask 0) (next.Go (moved_on s)) (diverged_next n s))

-- The walk goes no further than the cells that may have been logged.
unfoldable pub barrier_log : ℕ → State → (k : ℕ) → (log : List ℕ) → List ℕ
barrier_log n s k log = cond (eqb s.mask (2 ^ n - 1)) (cells_cleared k (s.reach + 1) log) log
