-- Words stay words: in the lock-step run and in every run of the threads all registers and cells are below 2 ^ 32. Assumes nothing.
use mathlib.Core.Path.{◌≡◌, sym, ◌∙◌}
use mathlib.Core.Logic.{◌⊎◌, inl, inr}
use mathlib.Core.List.{List, []}
use mathlib.Core.Bool.{Bool, true, false, cond}
use Prim.Native.Nat.{ℕ, zero, suc, ◌+◌, ◌-◌, ◌*◌, ◌^◌, ◌<◌, ◌≤◌}
use native.Mathlib.Omega.{arith}
use native.Mathlib.Nat.{mod-lt, div-le_self, mul-le-mul_right, suc-mul}
use lib.Bits.{and_lt, or_lt, xor_lt}
use lib.Dec.{eqb, ltb}
use lib.IntN.{ℤ, pos, negsuc}
use lib.Signed.{lt_z, mag, mag_shr, shr_z}
use lib.ListN.{length, get_or, set, replicate, length-set, length-replicate, get_or-eq_default}
use Rattle.spec.specs.Access.{Kind, load, store, atomic_add, cell_after, registers_after}
use Rattle.spec.specs.AllRuns.{RunOf, leaves}
use Rattle.spec.specs.Limits.{common_from, registers}
use Rattle.spec.specs.LaunchRun.{lockstep, next_start}
use Rattle.spec.specs.LaunchThreads.{Groups, Move, no_part}
use Rattle.spec.specs.LockStep.{LockState, advance, count_steps, initial_state, made_access, pass_barrier, reg, set_reg}
use Rattle.spec.specs.Op.{Op, Calc, SET, TID, COUNT, LAUNCHTID, ADD, SUB, MUL, AND, OR, XOR, SHR, SAR, EQ, LT, SLT, CALC, Space, Mem, MEM, LOAD, STORE, ATOMICADD, IF, ELSE}
use Rattle.spec.specs.Op.{ENDIF, WHILE, ENDWHILE, BARRIER, UNKNOWN, value}
use Rattle.spec.specs.Shape.{Shape, Sizes, address, at_common, changes, is_common, launch_number, loads, nowhere, past, shape_of}
use Rattle.spec.specs.Table.{Table, row_at, kind_of}
use Rattle.spec.specs.Threads as own
use Rattle.spec.specs.Threads.{Thread, cells_after, effect_of, goto, no_thread, on_if, on_while, past_barrier, put, thread_after}
use Rattle.spec.specs.Word.{places, signed, truth, unsigned}
use Rattle.spec.proofs.Laws.{lt_or_le}
use Rattle.allruns.proofs.LockInvariants.{RowsKeep, cond_keeps, in_launch}
use Rattle.allruns.proofs.Places.{reach_cases}
use Rattle.allruns.proofs.Invariants.{HoldsIn, Keeps, in_every_run, replicate_keeps, set_keeps}

abbrev pub Word : ℕ → Type 0
Word v = v < 2 ^ 32

-- The default of a list is 0, so a place past the end needs no word.
abbrev pub Words : List ℕ → Type 0
Words xs = (i : ℕ) → Word (get_or xs i 0)

truth_word : (b : Bool) → Word (truth b)
truth_word b = cond_keeps Word b (omega arith) (omega arith)

signed_mag : (x : ℕ) → Word x → Word (mag (signed x))
signed_mag x l = cond_keeps (λ z. Word (mag z)) (ltb x (2 ^ 31)) l (omega arith)

unsigned_word : (z : ℤ) → Word (mag z) → Word (unsigned z)
unsigned_word (pos k) l = l
unsigned_word (negsuc k) l = omega arith

pub value_word : (c : Calc) (n t u a b x y : ℕ) → Word n → Word t → Word u → a < 256 → b < 256 → Word x → Word y → Word (value c n t u a b x y)
unfolding value
value_word SET n t u a b x y hn ht hu ha hb hx hy = omega arith
value_word TID n t u a b x y hn ht hu ha hb hx hy = ht
value_word COUNT n t u a b x y hn ht hu ha hb hx hy = hn
value_word LAUNCHTID n t u a b x y hn ht hu ha hb hx hy = hu
value_word ADD n t u a b x y hn ht hu ha hb hx hy = mod-lt (x + y) (omega arith)
value_word SUB n t u a b x y hn ht hu ha hb hx hy = mod-lt (x + 2 ^ 32 - y) (omega arith)
value_word MUL n t u a b x y hn ht hu ha hb hx hy = mod-lt (x * y) (omega arith)
value_word AND n t u a b x y hn ht hu ha hb hx hy = and_lt 32 x y hx hy
value_word OR n t u a b x y hn ht hu ha hb hx hy = or_lt 32 x y hx hy
value_word XOR n t u a b x y hn ht hu ha hb hx hy = xor_lt 32 x y hx hy
value_word SHR n t u a b x y hn ht hu ha hb hx hy = omega (arith, div-le_self x (2 ^ places y))
value_word SAR n t u a b x y hn ht hu ha hb hx hy =
    unsigned_word (shr_z (signed x) (2 ^ places y)) (omega (arith, mag_shr (signed x) (2 ^ places y), signed_mag x hx))
value_word EQ n t u a b x y hn ht hu ha hb hx hy = truth_word (eqb x y)
value_word LT n t u a b x y hn ht hu ha hb hx hy = truth_word (ltb x y)
value_word SLT n t u a b x y hn ht hu ha hb hx hy = truth_word (lt_z (signed x) (signed y))

-- What a thread computes, in a launch whose threads are no more than a word counts: its launch number is below that count.
module _ (L : Shape) (group : L.group < L.groups) (few : Word (L.groups * L.threads)) where
  group_end : L.group * L.threads + L.threads ≤ L.groups * L.threads
  group_end = let h = mul-le-mul_right L.threads group in let e = suc-mul L.group L.threads in omega (arith, h, e)

  launch_number_word : (t : ℕ) → t < L.threads → Word (launch_number L t)
  unfolding launch_number
  launch_number_word t l = omega (arith, group_end, few)

  computed_word : (c : Calc) (t a b x y : ℕ) → t < L.threads → a < 256 → b < 256 → Word x → Word y
      → Word (value c L.threads t (launch_number L t) a b x y)
  computed_word c t a b x y l =
      let n : Word L.threads = omega (arith, group_end, few) in
      value_word c L.threads t (launch_number L t) a b x y n (omega arith) (launch_number_word t l)

-- An access that stores or adds a word.
abbrev KindWord : Kind → Type 0
KindWord load = Unit {0}
KindWord (store v) = Word v
KindWord (atomic_add v) = Word v

kind_word_lem : (m : Mem) (v : ℕ) → Word v → KindWord (kind_of m v)
unfolding kind_of
kind_word_lem LOAD v l = tt
kind_word_lem STORE v l = l
kind_word_lem ATOMICADD v l = l

cells_words : (k : Kind) (c : ℕ) (cells : List ℕ) → KindWord k → Words cells → Words (set cells c (cell_after k (get_or cells c 0)))
unfolding cell_after
cells_words load c cells h ws i = set_keeps Word cells 0 c _ i (λ z. ws c) (ws i)
cells_words (store v) c cells h ws i = set_keeps Word cells 0 c _ i (λ z. h) (ws i)
cells_words (atomic_add v) c cells h ws i = set_keeps Word cells 0 c _ i (λ z. mod-lt (get_or cells c 0 + v) (omega arith)) (ws i)

registers_words : (k : Kind) (d old : ℕ) (regs : List ℕ) → KindWord k → Word old → Words regs → Words (registers_after k d old regs)
unfolding registers_after
registers_words load d old regs h l ws i = set_keeps Word regs 0 d old i (λ z. l) (ws i)
registers_words (store v) d old regs h l ws i = ws i
registers_words (atomic_add v) d old regs h l ws i = ws i

-- The word that a load takes from a common cell.
past_word : (L : Shape) (p : Space) (c v : ℕ) (k : Kind) → Words L.common → past L p c k ≡ loads v → Word v
unfolding past
past_word L p c v k ws = by (is_common L p c) k
  where
    w : ℕ
    w = get_or L.common (c - common_from) 0

    by : (o : Bool) (k : Kind) → cond o (at_common k w) nowhere ≡ loads v → Word v
    by true load e = let q : loads w ≡ loads v = unfold at_common in e in let same : w ≡ v = cc in rw (sym same) (ws _)
    by true (store z) e = let q : changes ≡ loads v = unfold at_common in e in let y : ◌≡◌ {A = ℕ} 0 1 = cc in absurd (omega arith)
    by true (atomic_add z) e = let q : changes ≡ loads v = unfold at_common in e in let y : ◌≡◌ {A = ℕ} 0 1 = cc in absurd (omega arith)
    by false k e = let y : ◌≡◌ {A = ℕ} 0 1 = cc in absurd (omega arith)

zero_words : Words (replicate registers 0)
zero_words i = replicate_keeps Word registers 0 0 i (omega arith) (omega arith)

-- Every register of every thread is a word, and every cell.
pub record WordsIn (regs : ℕ → List ℕ) (cells : List ℕ) : Type 0 where
  pub of_threads : (t : ℕ) → Words (regs t)
  pub of_cells : Words cells

abbrev pub WordState : LockState → Type 0
WordState s = WordsIn (λ t. get_or s.regs t []) s.cells

-- The rows' bytes a and b.
abbrev pub Bytes : Table → Type 0
Bytes T = (r : ℕ) → r < length T → ((row_at T r).a < 256) × ((row_at T r).b < 256)

-- A state of n threads, whose registers and cells are words.
abbrev Sound : (n : ℕ) → LockState → Type 0
Sound n s = (length s.regs ≡ n) × WordState s

-- One thread's registers put.
put_words : (n t : ℕ) (s : LockState) (regs cells : List ℕ) → Sound n s → (t < n → Words regs) → Words cells
    → (length (set s.regs t regs) ≡ n) × WordsIn (λ u. get_or (set s.regs t regs) u []) cells
put_words n t s regs cells h p q = (
  length-set s.regs t regs ∙ h.0,
  record { of_threads = λ u. set_keeps Words s.regs [] t regs u (λ l. p (omega (arith, h.0))) (h.1.of_threads u); of_cells = q },
)

module _ (T : Table) (L : Shape) (bytes : Bytes T) (group : L.group < L.groups) (few : Word (L.groups * L.threads))
    (common : Words L.common) where
  sound_rows : RowsKeep T L (Sound L.threads)
  unfolding set_reg reg made_access advance count_steps pass_barrier
  sound_rows =
      record {
        computes = λ s r t c l h.
            let b = bytes r l in
            put_words L.threads t s _ s.cells h
            (λ m i. set_keeps Word (get_or s.regs t []) 0 _ _ i
            (λ z. computed_word L group few c t _ _ _ _ (omega arith) b.0 b.1 (h.1.of_threads t _) (h.1.of_threads t _)) (h.1.of_threads t i))
            h.1.of_cells;
        accesses = λ s r t c p m l h.
            let w = kind_word_lem m _ (h.1.of_threads t (row_at T r).a) in
            put_words L.threads t s _ _ h (λ l. registers_words _ _ _ _ w (h.1.of_cells (address L p c)) (h.1.of_threads t))
            (cells_words _ (address L p c) s.cells w h.1.of_cells);
        takes = λ s r t v p c k q h.
            put_words L.threads t s _ s.cells h
            (λ m i. set_keeps Word (get_or s.regs t []) 0 _ _ i (λ z. past_word L p c v k common q) (h.1.of_threads t i)) h.1.of_cells;
        steps = λ s m h. h;
        passes = λ s h. h;
        onward = λ s r m v h. h;
      }

-- Where a launch stops, whatever its verdict.
pub lockstep_words : (T : Table) (Z : Sizes) (cells : List ℕ) (limit : ℕ) → 0 < Z.groups → Word (Z.groups * Z.threads) → Bytes T → Words Z.common → Words cells
    → WordState (lockstep T Z cells limit).state
unfolding initial_state next_start
lockstep_words T Z cells limit some few bytes common words =
    (in_launch T Z limit (Sound Z.threads) (λ g l. sound_rows T (shape_of Z g) bytes (omega (arith, some)) few common) (λ g s h. zeroed s.cells h.1.of_cells) cells (zeroed cells words)).1
  where
    none : List ℕ
    none = replicate registers 0

    zeroed : (cells : List ℕ) → Words cells
        → (length (replicate Z.threads none) ≡ Z.threads) × WordsIn (λ t. get_or (replicate Z.threads none) t []) cells
    zeroed cells w = (
      length-replicate Z.threads _,
      record { of_threads = λ t. replicate_keeps Words Z.threads _ [] t zero_words (λ i. omega arith); of_cells = w },
    )

-- The same of the threads' own machine.
module _ (T : Table) (L : Shape) (bytes : Bytes T) (group : L.group < L.groups) (few : Word (L.groups * L.threads))
    (common : Words L.common) where
  words_row : (t : ℕ) (x : Thread) (cells : List ℕ) → t < L.threads → x.row < length T → (o : Op) → Words x.regs → Words cells
      → Words (thread_after x cells (effect_of T L t x (row_at T x.row) o)).regs × Words (cells_after cells (effect_of T L t x (row_at T x.row) o))
  unfolding effect_of thread_after cells_after put goto on_if on_while own.reg
  words_row t x cells m l (CALC c) h w =
      let b = bytes x.row l in
      (λ i. set_keeps Word x.regs 0 _ _ i (λ z. computed_word L group few c t _ _ _ _ (omega arith) b.0 b.1 (h _) (h _)) (h i), w)
  words_row t x cells m l (MEM p o) h w =
      reach_cases (λ e. Words (thread_after x cells e).regs × Words (cells_after cells e)) L x p _ _ _
      (λ l. (registers_words _ _ _ x.regs k (w _) h, cells_words _ _ cells k w)) (h, w)
      (λ v q. (λ i. set_keeps Word x.regs 0 _ _ i (λ z. past_word L p _ v _ common q) (h i), w))
    where
      k : KindWord (kind_of o (own.reg x (row_at T x.row).a))
      k = kind_word_lem o _ (h _)
  words_row t x cells m l IF h w = (by (own.reg x (row_at T x.row).a), w)
    where
      by : (v : ℕ) → Words (on_if T x v).regs
      by zero = h
      by (suc v) = h
  words_row t x cells m l ELSE h w = (h, w)
  words_row t x cells m l ENDIF h w = (h, w)
  words_row t x cells m l WHILE h w = (by (own.reg x (row_at T x.row).a), w)
    where
      by : (v : ℕ) → Words (on_while T x v).regs
      by zero = h
      by (suc v) = h
  words_row t x cells m l ENDWHILE h w = (h, w)
  words_row t x cells m l BARRIER h w = (h, w)
  words_row t x cells m l UNKNOWN h w = (h, w)

  keeps_words : Keeps T L (λ x. Words x.regs) Words
  unfolding past_barrier goto
  keeps_words = record { first = zero_words; rows = λ t x cells m l o q h w. words_row t x cells m l o h w; barriers = λ x q h. h }

-- In every run of a launch: the registers of each thread of each group, and the cells.
abbrev pub WordGroups : Groups → Type 0
WordGroups S = (g : ℕ) → WordsIn (λ t. (get_or (get_or S.parts g no_part).threads t no_thread).regs) S.cells

pub runs_words : (T : Table) (Z : Sizes) (cells : List ℕ) → Word (Z.groups * Z.threads) → Bytes T → Words Z.common → Words cells → (ms : List Move) → RunOf T Z cells ms
    → WordGroups (leaves T Z cells ms)
unfolding no_thread no_part
runs_words T Z cells few bytes common words ms r g = record { of_threads = λ t. by t (lt_or_le g Z.groups) (lt_or_le t Z.threads); of_cells = h.shared }
  where
    S : Groups
    S = leaves T Z cells ms

    h : HoldsIn Z (λ x. Words x.regs) Words S
    h = in_every_run T Z cells (λ x. Words x.regs) Words (λ g l. keeps_words T (shape_of Z g) bytes l few common) words ms r

    by : (t : ℕ) → (g < Z.groups) ⊎ (Z.groups ≤ g) → (t < Z.threads) ⊎ (Z.threads ≤ t) → Words (get_or (get_or S.parts g no_part).threads t no_thread).regs
    by t (inl k) (inl l) = h.each g t k l
    by t (inl k) (inr l) =
        rw (get_or-eq_default (get_or S.parts g no_part).threads no_thread {n = t} (omega (arith, h.count g k))) (unfold no_thread in (λ i. omega arith))
    by t (inr k) z = rw (get_or-eq_default S.parts no_part {n = g} (omega (arith, h.groups))) (unfold no_part no_thread in (λ i. omega arith))
