-- How the code's registers, cells and log stand for those of the lock-step run, and what a thread's turn and a row's turns do to them. Assumes nothing.
use Rattle.std.specs.Prelude.{◌≡◌, List, [], ◌∷◌, Bool, true, false, cond, not, length, get_or, set}
use Rattle.std.specs.Prelude.{ℕ, zero, suc, ◌+◌, ◌-◌, ◌*◌, ◌/◌, ◌%◌, ◌^◌, ◌<◌, ◌≤◌, eqb, leb}
use Rattle.std.specs.Int.Bits.{bit_and, bit_or}
use Rattle.spec.specs.declared.Verdict.{Verdict}
use Rattle.spec.specs.Mask.{Mask, mask_word, members, nonzero}
use Rattle.spec.specs.Access.{Mode}
use Rattle.spec.specs.Limits.{log_per_cell, common_from}
use Rattle.spec.specs.Log.{Log, masks_of, log_words}
use Rattle.spec.specs.Op.{Calc, CALC, OWN, Mem, MEM, op_of, value}
use Rattle.spec.specs.Table.{Row}
use Rattle.spec.specs.LockStep.{LockState, Step, continues, stops, in_turn, access_turn}
use Rattle.spec.specs.Shape.{Shape, in_common, shape_of, one_group, with_common}
use Rattle.spec.specs.Word.{add}
use Rattle.std.specs.Prelude.{Result, Ok, Err}
use Rattle.layout.specs.declared.Halt.{Halt}
use Rattle.layout.specs.declared.Turns.{Turns}
use Rattle.layout.specs.Logging.{SameAbove, SameBut, tested_word}

-- Register r of thread t stands at r * 32 + t.
pub record Regs (n : ℕ) (regs : List (List ℕ)) (flat : List ℕ) : Type 0 where
  pub size : length flat ≡ 512
  pub threads : length regs ≡ n
  pub sixteen : (t : ℕ) → t < n → length (get_or regs t []) ≡ 16
  pub at : (t r : ℕ) → t < n → r < 16 → get_or flat (r * 32 + t) 0 ≡ get_or (get_or regs t []) r 0

-- A mask of n threads for each of k cells.
pub record Masks (n k : ℕ) (ms : List Mask) : Type 0 where
  pub count : length ms ≡ k
  pub each : (c : ℕ) → c < k → length (get_or ms c []) ≡ n

-- The log buffer of k cells.
pub record LogIs (n k : ℕ) (G : Log) (log : List ℕ) : Type 0 where
  pub words_are : log ≡ log_words G
  pub masks_are : (m : Mode) → Masks n k (masks_of G m)
  pub values_are : length G.values ≡ k
  pub marks_are : length G.marks ≡ k

pub record Memory (n : ℕ) (s : LockState) (regs cells log : List ℕ) : Type 0 where
  pub few : n ≤ 32
  pub regs_are : Regs n s.regs regs
  pub cells_are : cells ≡ s.cells
  pub log_is : LogIs n (length s.cells) s.log log

-- A row's threads change nothing else but their counts of steps.
pub record Kept (s z : LockState) : Type 0 where
  pub row_same_lem : z.row ≡ s.row
  pub enabled_same : z.enabled ≡ s.enabled
  pub saved_same_lem : z.saved ≡ s.saved
  pub rows_same : z.rows ≡ s.rows
  pub barriers_same_lem : z.barriers ≡ s.barriers

-- What an access comes to: it went on, or the verdict that it stops with.
abbrev pub Access : Type 0
Access = Result (Unit {0}) Verdict

abbrev pub access_of : Step → Access
access_of (continues z) = Ok tt
access_of (stops v z) = Err v

abbrev pub state_of : Step → LockState
state_of (continues z) = z
state_of (stops v z) = z

-- From s, what o says was done: the answer and the buffers.
pub record Did (n : ℕ) (s : LockState) (o : Step) (r : Access) (regs cells log : List ℕ) : Type 0 where
  pub answer : r ≡ access_of o
  pub memory : Memory n (state_of o) regs cells log
  pub kept : Kept s (state_of o)

-- One thread's turn, for every state that the buffers stand for.
abbrev pub OneTurn : (LockState → ℕ → Step) → (n t : ℕ) → (regs cells log : List ℕ) → Access → (regs' cells' log' : List ℕ) → Type 0
OneTurn f n t regs cells log r regs' cells' log' = (s : LockState) → Memory n s regs cells log → Did n s (f s t) r regs' cells' log'

-- The turns of a row's enabled threads, `mask` being the enabled mask.
abbrev pub AllTurns : (LockState → ℕ → Step) → (n mask : ℕ) → (regs cells log : List ℕ) → Access → (regs' cells' log' : List ℕ) → Type 0
AllTurns f n mask regs cells log r regs' cells' log' =
    (s : LockState) → mask ≡ mask_word s.enabled → length s.enabled ≡ n → Memory n s regs cells log
    → Did n s (in_turn f (members s.enabled) s) r regs' cells' log'

-- The k lanes from i on, by whether register a is 0 in them; and the first k as a word.
unfoldable pub zeros : (a : ℕ) (regs : List ℕ) (i k : ℕ) → Mask
zeros a regs i zero = []
zeros a regs i (suc k) = not (nonzero (get_or regs (a * 32 + i) 0)) ∷ zeros a regs (suc i) k

abbrev pub ZerosAre : (a : ℕ) (regs : List ℕ) (k z : ℕ) → Type 0
ZerosAre a regs k z = z ≡ mask_word (zeros a regs 0 k)

-- The bits of a mask in whose lanes register a is not 0.
unfoldable pub holding_word : (mask a : ℕ) → (regs : List ℕ) → ℕ
holding_word mask a regs = bit_and mask (4294967295 - mask_word (zeros a regs 0 32))

-- What a computing row asks of its bytes: ops 1 to 3 read no register.
pub record ComputeAsks (op d a b : ℕ) : Type 0 where
  pub known : 1 ≤ op
  pub small : op ≤ 14
  pub target : d < 16
  pub left : 4 ≤ op → a < 16
  pub right : 4 ≤ op → b < 16

-- Lane t of register r.
abbrev pub lane : ℕ → List ℕ → ℕ → ℕ
lane r regs t = get_or regs (r * 32 + t) 0

-- Outside the first n lanes of register d every word is as it was.
abbrev pub KeptBut : (d n : ℕ) → (regs regs' : List ℕ) → Type 0
KeptBut d n regs regs' = (i : ℕ) → ((t : ℕ) → t < n → i ≡ d * 32 + t → ⊥) → get_or regs' i 0 ≡ get_or regs i 0

-- Of register d the first t lanes hold F, and all else is as it was.
pub record Puts (d : ℕ) (F : ℕ → ℕ) (regs regs' : List ℕ) (t : ℕ) : Type 0 where
  pub few : t ≤ 32
  pub size : length regs' ≡ length regs
  pub below : (j : ℕ) → j < t → lane d regs' j ≡ F j
  pub above : KeptBut d t regs regs'

-- Whether a computing row stores to lane t: to all 32 where all n threads are enabled, else to those of the mask.
unfoldable pub stored : (n mask t : ℕ) → Bool
stored n mask t = cond (eqb mask (2 ^ n - 1)) true (eqb (mask / 2 ^ t % 2) 1)

-- Lane t of register d after it, in this group of the launch.
unfoldable pub computed_lane : Calc → (group n mask d a b : ℕ) → (regs : List ℕ) → ℕ → ℕ
computed_lane c group n mask d a b regs t = cond (stored n mask t) (value c n t (group * n + t) a b (lane a regs t) (lane b regs t)) (lane d regs t)

-- What a computing row by a byte's op leaves in the registers, word by word. No such op tells the groups apart.
abbrev pub Computed : (op n mask d a b : ℕ) → (regs regs' : List ℕ) → Type 0
Computed op n mask d a b regs regs' = (c : Calc) → op_of op ≡ CALC c → (group : ℕ) → Puts d (computed_lane c group n mask d a b regs) regs regs' 32

-- Some state of the lock-step run stands in the buffers.
pub record InMemory (n : ℕ) (regs cells log : List ℕ) : Type 0 where
  pub state : LockState
  pub memory : Memory n state regs cells log

-- What an access row asks.
pub record AccessAsks (op d a : ℕ) (cells log : List ℕ) : Type 0 where
  pub known : 16 ≤ op
  pub small : op ≤ 18
  pub target : d < 16
  pub source : a < 16
  pub sized : length log ≡ log_per_cell * length cells
  pub cells_few : length cells ≤ 1024

-- The register with the cell's number.
pub record CellRegister (op d a r : ℕ) : Type 0 where
  pub small : r < 16
  pub of_load : op ≡ 16 → r ≡ a
  pub of_other : (op ≡ 16 → ⊥) → r ≡ d

-- The number, for thread t.
pub record CellNumber (op d a t : ℕ) (regs : List ℕ) (x : ℕ) : Type 0 where
  pub register : ℕ
  pub in_register : CellRegister op d a register
  pub word : x ≡ get_or regs (register * 32 + t) 0

-- The shape of the one group, by the code's numbers.
abbrev pub shape_by : (n : ℕ) → (cells common : List ℕ) → Shape
shape_by n cells common = shape_of (with_common common (one_group n cells)) 0

-- One thread's access, and a row's accesses, in a launch of n threads.
abbrev pub AccessOne : (op t d a : ℕ) → (common regs cells log : List ℕ) → Access → (regs' cells' log' : List ℕ) → Type 0
AccessOne op t d a common regs cells log r regs' cells' log' =
    (n : ℕ) (m : Mem) (x : Row) → op_of op ≡ MEM OWN m → t < n → x.d ≡ d → x.a ≡ a
    → OneTurn (access_turn (shape_by n cells common) OWN m x) n t regs cells log r regs' cells' log'

-- One that goes on without looking at the common cells; one that stops, of a number that is no common cell's.
abbrev pub AccessMade : (op t d a : ℕ) → (regs cells log regs' cells' log' : List ℕ) → Type 0
AccessMade op t d a regs cells log regs' cells' log' = (common : List ℕ) → AccessOne op t d a common regs cells log (Ok tt) regs' cells' log'

abbrev pub AccessStopped : (op t d a x : ℕ) → (regs cells log : List ℕ) → Verdict → Type 0
AccessStopped op t d a x regs cells log v = (common : List ℕ) → in_common common x ≡ false → AccessOne op t d a common regs cells log (Err v) regs cells log

abbrev pub AccessAll : (op n mask d a : ℕ) → (common regs cells log : List ℕ) → Access → (regs' cells' log' : List ℕ) → Type 0
AccessAll op n mask d a common regs cells log r regs' cells' log' =
    (m : Mem) (x : Row) → op_of op ≡ MEM OWN m → x.d ≡ d → x.a ≡ a
    → AllTurns (access_turn (shape_by n cells common) OWN m x) n mask regs cells log r regs' cells' log'

-- Whether an access by op of the cell numbered x goes on: the cell is there, and nobody is met but the acting thread, of this bit. A STORE stores v.
unfoldable pub goes_on : (op v bit x : ℕ) → (cells log : List ℕ) → Bool
goes_on op v bit x cells log = cond (leb (length cells) x) false (eqb (bit_or (tested_word op v (length cells) x log) bit) bit)

-- What asking that takes.
pub record TestAsks (op a : ℕ) (cells log : List ℕ) : Type 0 where
  pub known : 16 ≤ op
  pub small : op ≤ 18
  pub source : a < 16
  pub sized : length log ≡ log_per_cell * length cells
  pub cells_few : length cells ≤ 1024

-- Whether an access by op of the cell numbered x is a LOAD of a common cell.
unfoldable pub takes_common : (op x : ℕ) → (common : List ℕ) → Bool
takes_common op x common = cond (eqb op 16) (in_common common x) false

-- One thread's turn: it went on, or it changed nothing and is one that stops. In the log only words of its own cell have changed, of a common one none.
pub record TurnMade (op t d a x bit : ℕ) (common regs cells log : List ℕ) (r : Bool) (regs' cells' log' : List ℕ) : Type 0 where
  pub went : r ≡ true → AccessOne op t d a common regs cells log (Ok tt) regs' cells' log'
  pub regs_kept : KeptBut d (t + 1) regs regs'
  pub log_same : SameBut (x % common_from) (length cells) log log'
  pub cells_size : length cells' ≡ length cells
  pub log_size : length log' ≡ length log
  pub stays : r ≡ false → (regs' ≡ regs) × (cells' ≡ cells) × (log' ≡ log)
      × (goes_on op (get_or regs (a * 32 + t) 0) bit x cells log ≡ false) × (takes_common op x common ≡ false)

-- A row's accesses up to the thread at which they halt, whose access does not go on: where that one stops, the row stops with the same verdict.
pub record Halted (op n mask d a : ℕ) (common regs cells log : List ℕ) (r : Halt) (regs' cells' log' : List ℕ) : Type 0 where
  pub inside : r.turn.thread < n
  pub bit_is : r.turn.bit ≡ 2 ^ r.turn.thread
  pub number : CellNumber op d a r.turn.thread regs' r.turn.cell
  pub refused : goes_on op (get_or regs' (a * 32 + r.turn.thread) 0) r.turn.bit r.turn.cell cells' log' ≡ false
  pub untaken : takes_common op r.turn.cell common ≡ false
  pub stops : (v : Verdict) → AccessOne op r.turn.thread d a common regs' cells' log' (Err v) regs' cells' log'
      → AccessAll op n mask d a common regs cells log (Err v) regs' cells' log'

abbrev pub AccessLoop : (op n mask d a : ℕ) → (common regs cells log : List ℕ) → Halt → (regs' cells' log' : List ℕ) → Type 0
AccessLoop op n mask d a common regs cells log r regs' cells' log' =
    (r.turn.thread ≡ n → AccessAll op n mask d a common regs cells log (Ok tt) regs' cells' log')
    × ((r.turn.thread ≡ n → ⊥) → Halted op n mask d a common regs cells log r regs' cells' log')
    × (length cells' ≡ length cells) × (length log' ≡ length log)
    × KeptBut d n regs regs' × SameAbove (r.reach % common_from) (length cells) log log'

-- What a row's accesses ask, and what they come to.
abbrev pub AccessRowAsks : (op n d a : ℕ) → (regs cells log : List ℕ) → Type 0
AccessRowAsks op n d a regs cells log = AccessAsks op d a cells log × InMemory n regs cells log

abbrev pub AccessRow : (op n mask d a : ℕ) → (common regs cells log : List ℕ) → Turns → (regs' cells' log' : List ℕ) → Type 0
AccessRow op n mask d a common regs cells log r regs' cells' log' =
    AccessAll op n mask d a common regs cells log r.access regs' cells' log' × KeptBut d n regs regs' × SameAbove r.reach (length cells) log log'

-- A LOAD moves cell i to place `to` of the registers; a STORE moves place `from` to cell i, an ATOMIC ADD adds it there.
unfoldable pub cell_by : (op old word : ℕ) → ℕ
cell_by op old word = cond (eqb op 17) word (add old word)

pub record Transferred (op to from i : ℕ) (regs cells regs' cells' : List ℕ) : Type 0 where
  pub load_regs : op ≡ 16 → regs' ≡ set regs to (get_or cells i 0)
  pub load_cells : op ≡ 16 → cells' ≡ cells
  pub other_regs : (op ≡ 16 → ⊥) → regs' ≡ regs
  pub other_cells : (op ≡ 16 → ⊥) → cells' ≡ set cells i (cell_by op (get_or cells i 0) (get_or regs from 0))

-- The cell of thread t in an access row, by the registers that the row finds.
unfoldable pub cell_in : (op d a : ℕ) → (regs : List ℕ) → (t : ℕ) → ℕ
cell_in op d a regs t = get_or regs (cond (eqb op 16) a d * 32 + t) 0
