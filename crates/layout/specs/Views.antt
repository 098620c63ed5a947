-- A stretch of a launch's cells as a group alone would have them: a group's own cells, or the global ones. Assumes nothing.
use Rattle.std.specs.Prelude.{◌≡◌, List, ◌++◌, Bool, true, false, ℕ, ◌+◌, ◌*◌, ◌<◌, length, take, drop}
use Rattle.spec.specs.Shape.{Shape, total}
use Rattle.spec.specs.Op.{Calc, SET, TID, COUNT, LAUNCHTID, ADD, SUB, MUL, AND, OR, XOR, SHR, SAR, EQ, LT, SLT, Op, CALC, Space, OWN, GLOBAL, MEM, IF, ELSE, ENDIF, WHILE, ENDWHILE, BARRIER, UNKNOWN}
use Rattle.spec.specs.Access.{Mode}
use Rattle.spec.specs.Log.{Log, masks_of, cleared}
use Rattle.spec.specs.GroupLog.{group_masks_of}
use Rattle.spec.specs.LockStep.{LockState, Step, continues, stops}
use Rattle.layout.specs.Memory.{Masks}

-- The k elements from place a on; and the list with ys in their place.
unfoldable pub part : {A : Type 0} → (a k : ℕ) → List A → List A
part a k xs = take k (drop a xs)

unfoldable pub put_part : {A : Type 0} → (a : ℕ) → (ys xs : List A) → List A
put_part a ys xs = take a xs ++ (ys ++ drop (a + length ys) xs)

-- The same of a log's words.
unfoldable pub log_part : (a k : ℕ) → Log → Log
log_part a k G =
    record {
      readers = part a k G.readers;
      writers = part a k G.writers;
      adders = part a k G.adders;
      values = part a k G.values;
      marks = part a k G.marks;
    }

unfoldable pub put_log : (a : ℕ) → (P G : Log) → Log
put_log a P G =
    record {
      readers = put_part a P.readers G.readers;
      writers = put_part a P.writers G.writers;
      adders = put_part a P.adders G.adders;
      values = put_part a P.values G.values;
      marks = put_part a P.marks G.marks;
    }

-- A state with these k cells alone; and a state z with such a view v put back: all but the other cells is v's.
unfoldable pub view_of : (a k : ℕ) → LockState → LockState
view_of a k z =
    record {
      row = z.row;
      enabled = z.enabled;
      saved = z.saved;
      regs = z.regs;
      cells = part a k z.cells;
      log = log_part a k z.log;
      group_log = z.group_log;
      rows = z.rows;
      steps = z.steps;
      barriers = z.barriers;
    }

unfoldable pub put_view : (a : ℕ) → (v z : LockState) → LockState
put_view a v z =
    record {
      row = v.row;
      enabled = v.enabled;
      saved = v.saved;
      regs = v.regs;
      cells = put_part a v.cells z.cells;
      log = put_log a v.log z.log;
      group_log = v.group_log;
      rows = v.rows;
      steps = v.steps;
      barriers = v.barriers;
    }

abbrev pub map_step : (LockState → LockState) → Step → Step
map_step f (continues z) = continues (f z)
map_step f (stops v z) = stops v (f z)

-- Where a group's own cells begin, and where the global ones do.
abbrev pub own_from : Shape → ℕ
own_from L = L.group * L.cells

abbrev pub global_from : Shape → ℕ
global_from L = L.groups * L.cells

-- A group alone with k cells, beside the common ones.
abbrev pub alone : (n k : ℕ) → (common : List ℕ) → Shape
alone n k common = record { threads = n; cells = k; groups = 1; global = 0; common = common; group = 0 }

-- The state with the log of the places for which p holds cleared.
unfoldable pub with_cleared : (p : ℕ → Bool) → LockState → LockState
with_cleared p z =
    record {
      row = z.row;
      enabled = z.enabled;
      saved = z.saved;
      regs = z.regs;
      cells = z.cells;
      log = cleared p z.log;
      group_log = z.group_log;
      rows = z.rows;
      steps = z.steps;
      barriers = z.barriers;
    }

-- Every list of the state has an element for each cell of the launch, every mask a bit for each thread, every group mask one for each group.
pub record Sized (L : Shape) (z : LockState) : Type 0 where
  pub group_in : L.group < L.groups
  pub cells_are : length z.cells ≡ total L
  pub masks_are : (m : Mode) → Masks L.threads (total L) (masks_of z.log m)
  pub values_are : length z.log.values ≡ total L
  pub marks_are : length z.log.marks ≡ total L
  pub groups_are : (m : Mode) → Masks L.groups (total L) (group_masks_of z.group_log m)

-- The rows that a group alone runs alike: all but those that tell the group by its number, name a global cell or are a barrier.
unfoldable pub is_own_calc : Calc → Bool
is_own_calc SET = true
is_own_calc TID = true
is_own_calc COUNT = true
is_own_calc LAUNCHTID = false
is_own_calc ADD = true
is_own_calc SUB = true
is_own_calc MUL = true
is_own_calc AND = true
is_own_calc OR = true
is_own_calc XOR = true
is_own_calc SHR = true
is_own_calc SAR = true
is_own_calc EQ = true
is_own_calc LT = true
is_own_calc SLT = true

unfoldable pub is_own_space : Space → Bool
is_own_space OWN = true
is_own_space GLOBAL = false

unfoldable pub is_own_row : Op → Bool
is_own_row (CALC c) = is_own_calc c
is_own_row (MEM p m) = is_own_space p
is_own_row IF = true
is_own_row ELSE = true
is_own_row ENDIF = true
is_own_row WHILE = true
is_own_row ENDWHILE = true
is_own_row BARRIER = false
is_own_row UNKNOWN = true
