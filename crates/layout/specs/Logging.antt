-- What the code's functions on the log ask, and what they come to word by word. Assumes nothing.
use Rattle.std.specs.Prelude.{◌≡◌, List, Bool, cond, not, ◌&&◌, ℕ, ◌+◌, ◌*◌, ◌%◌, ◌^◌, ◌<◌, ◌≤◌, eqb, length, get_or, set}
use Rattle.std.specs.Int.Bits.{bit_and, bit_or}
use Rattle.spec.specs.declared.AccessKind.{AccessKind}
use Rattle.spec.specs.Access.{Mode, reads, writes, adds, agree}
use Rattle.spec.specs.Log.{shown_kind}
use Rattle.spec.specs.Limits.{log_per_cell}

-- The mode of an access row's op: LOAD (16), STORE (17), ATOMIC ADD (18).
unfoldable pub mode_of : (op : ℕ) → Mode
mode_of op = cond (eqb op 16) reads (cond (eqb op 17) writes adds)

-- The log's kinds of words, in their order: the masks of the three modes, the first values, the marks.
unfoldable pub rank : Mode → ℕ
rank reads = 0
rank writes = 1
rank adds = 2

abbrev pub value_rank : ℕ
value_rank = 3

abbrev pub mark_rank : ℕ
mark_rank = 4

-- Where kind q has its word of cell i in the log of k cells, and the word.
unfoldable pub place_of : (q k i : ℕ) → ℕ
place_of q k i = q * k + i

unfoldable pub word_of : (q k i : ℕ) → (log : List ℕ) → ℕ
word_of q k i log = get_or log (place_of q k i) 0

-- A store of v to cell i finds no stores but of v there: no mark, and v as the first value.
unfoldable pub equal_word : (v k i : ℕ) → (log : List ℕ) → Bool
equal_word v k i log = eqb (word_of mark_rank k i log) 0 && eqb v (word_of value_rank k i log)

-- What of a mode's mask an access by op conflicts with: all or nothing, by the conflict table. A STORE stores v; to the others v is nothing.
unfoldable pub conflicting_word : Mode → (op v k i : ℕ) → (log : List ℕ) → ℕ
conflicting_word m op v k i log = cond (agree (equal_word v k i log) m (mode_of op)) 0 (word_of (rank m) k i log)

-- What an access of cell i by op is tested against.
unfoldable pub tested_word : (op v k i : ℕ) → (log : List ℕ) → ℕ
tested_word op v k i log = bit_or (conflicting_word writes op v k i log) (bit_or (conflicting_word adds op v k i log) (conflicting_word reads op v k i log))

-- Of it what is beside the writers: a LOAD meets the adders, a STORE adders and readers, an ATOMIC ADD the readers.
unfoldable pub beside_writers : (op k i : ℕ) → (log : List ℕ) → ℕ
beside_writers op k i log =
    let added = word_of (rank adds) k i log in
    let read = word_of (rank reads) k i log in
    cond (eqb op 16) added (cond (eqb op 17) (bit_or added read) read)

-- The log with the bits of `bit` put into the mask of the op's own mode.
unfoldable pub mask_entered : (op k i bit : ℕ) → (log : List ℕ) → List ℕ
mask_entered op k i bit log = let q = rank (mode_of op) in set log (place_of q k i) (bit_or (word_of q k i log) bit)

-- The log with a store of v: the first to its cell leaves its value; a later one of another value marks the cell.
unfoldable pub mark_entered : (v k i : ℕ) → (log : List ℕ) → List ℕ
mark_entered v k i log = cond (eqb v (word_of value_rank k i log)) log (set log (place_of mark_rank k i) 1)

unfoldable pub value_entered : (v k i : ℕ) → (log : List ℕ) → List ℕ
value_entered v k i log = cond (eqb (word_of (rank writes) k i log) 0) (set log (place_of value_rank k i) v) (mark_entered v k i log)

-- The log with an access by op: of a STORE its value too.
unfoldable pub entered_words : (op v k i bit : ℕ) → (log : List ℕ) → List ℕ
entered_words op v k i bit log = mask_entered op k i bit (cond (eqb op 17) (value_entered v k i log) log)

-- The kind of a race with thread u, by its bit among the writers, where op conflicts with them, and among the adders.
unfoldable pub has_bit : (u word : ℕ) → Bool
has_bit u word = not (eqb (bit_and word (2 ^ u)) 0)

unfoldable pub kind_word : (op v k i u : ℕ) → (log : List ℕ) → AccessKind
kind_word op v k i u log = shown_kind (has_bit u (conflicting_word writes op v k i log)) (has_bit u (word_of (rank adds) k i log)) (mode_of op)

-- Word j is one of cell j % k. Above cell h every word is 0; above cell h, or of every cell but i, each word is as it was.
abbrev pub EmptyAbove : (h k : ℕ) → (log : List ℕ) → Type 0
EmptyAbove h k log = (j : ℕ) → h < j % k → get_or log j 0 ≡ 0

abbrev pub SameAbove : (h k : ℕ) → (log log' : List ℕ) → Type 0
SameAbove h k log log' = (j : ℕ) → h < j % k → get_or log' j 0 ≡ get_or log j 0

abbrev pub SameBut : (i k : ℕ) → (log log' : List ℕ) → Type 0
SameBut i k log log' = (j : ℕ) → (j % k ≡ i → ⊥) → get_or log' j 0 ≡ get_or log j 0

-- Where the log has room for the access.
pub record LogAsks (op k i : ℕ) (log : List ℕ) : Type 0 where
  pub known : 16 ≤ op
  pub small : op ≤ 18
  pub sized : length log ≡ log_per_cell * k
  pub inside : i < k
  pub few : k ≤ 1024

-- One thread's bit.
abbrev pub OneBit : (bit : ℕ) → Type 0
OneBit bit = (t : ℕ) × (bit ≡ 2 ^ t)
