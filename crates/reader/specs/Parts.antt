-- What the parts of the reader answer: how far a body or a construct goes, and what is refused in it. Assumes nothing.
use Rattle.std.specs.Prelude.{◌≡◌, ◌⊎◌, List, false, ℕ, ◌+◌, ◌*◌, ◌%◌, ◌<◌, ◌≤◌, length, get_or, drop, Result, Ok, Err}
use Rattle.std.proofs.Math.Option.{Option, none, some}
use Rattle.spec.specs.declared.Refusal.{Refusal}
use Rattle.spec.specs.declared.Refusal.TheVariants.{UnknownOp, BadOperand, Misplaced, LeftOpen}
use Rattle.spec.specs.Answers.{unless, or_else}
use Rattle.spec.specs.Op.{form, operands_fit}
use Rattle.spec.specs.Table.{Row, Table, rows_of, row_at, scan, end_of}
use Rattle.spec.specs.TableCheck.{Open, is_known, rows_refusal}
use Rattle.reader.specs.Answer.{if_loop}

-- The bytes of at most 256 whole rows.
abbrev pub IsTable : List ℕ → Type 0
IsTable t = (length t % 4 ≡ 0) × (length t ≤ 4 * 256)

-- 3 and 4, which a row has by itself.
unfoldable pub own_refusal : ℕ → Row → Option Refusal
own_refusal r x = or_else (unless (is_known x.op) (UnknownOp r)) (unless (operands_fit (form x.op) x.d x.a x.b) (BadOperand r))

-- The byte of an IF or a WHILE, and of a row that ends a body.
abbrev pub Opens : ℕ → Type 0
Opens b = (b ≡ 32) ⊎ (b ≡ 35)

abbrev pub Ends : ℕ → Type 0
Ends b = ((b ≡ 33) ⊎ (b ≡ 36)) ⊎ (b ≡ 34)

-- The first refusal of the rows from a on, and the row that closes the construct that is k levels out there.
abbrev pub refusal_from : Table → ℕ → List Open → Option Refusal
refusal_from T a os = rows_refusal (drop a T) a os

abbrev pub end_from : Table → ℕ → ℕ → ℕ
end_from T a k = scan false (drop a T) k a

-- Where d constructs are open, the rows from a up to b are not refused, and close what they open.
pub record Passes (T : Table) (d a b : ℕ) : Type 0 where
  pub refusals : (os : List Open) → length os ≡ d → refusal_from T a os ≡ refusal_from T b os
  pub levels : (k : ℕ) → end_from T a k ≡ end_from T b k

-- The rows from a on are refused.
abbrev pub Fails : Table → ℕ → ℕ → Refusal → Type 0
Fails T d a why = (os : List Open) → length os ≡ d → refusal_from T a os ≡ some why

-- The ends of the loops among the rows from a up to b are noted, and all other entries are kept.
pub record Notes (T : Table) (a b : ℕ) (before after : List ℕ) : Type 0 where
  pub size : length after ≡ length before
  pub inside : (i : ℕ) → a ≤ i → i < b → get_or after i 0 ≡ if_loop (row_at T i).op (end_of T i) (get_or before i 0)
  pub above : (i : ℕ) → i < a → get_or after i 0 ≡ get_or before i 0
  pub below : (i : ℕ) → b ≤ i → get_or after i 0 ≡ get_or before i 0

-- The rows from a up to b are read.
pub record Span (t : List ℕ) (d a b : ℕ) (before after : List ℕ) : Type 0 where
  pub on : a ≤ b
  pub within : b * 4 ≤ length t
  pub passes : Passes (rows_of t) d a b
  pub notes : Notes (rows_of t) a b before after

-- Row b ends a body, and has no refusal of its own.
pub record Stops (t : List ℕ) (b : ℕ) : Type 0 where
  pub byte : Ends (get_or t (b * 4) 0)
  pub own : own_refusal b (row_at (rows_of t) b) ≡ none

-- The rows from a up to b are a body, which ends at row b or at the table's end.
pub record Body (t : List ℕ) (d a b : ℕ) (before after : List ℕ) : Type 0 where
  pub span : Span t d a b before after
  pub stops : b * 4 < length t → Stops t b

-- The rows from a up to b are a construct.
pub record Construct (t : List ℕ) (d a b : ℕ) (before after : List ℕ) : Type 0 where
  pub span : Span t d a b before after
  pub onward : a < b

-- What the two readers answer, from row a on.
abbrev pub BodyIs : List ℕ → (d a : ℕ) → (before after : List ℕ) → Result ℕ Refusal → Type 0
BodyIs t d a before after (Ok b) = Body t d a b before after
BodyIs t d a before after (Err why) = Fails (rows_of t) d a why

abbrev pub ConstructIs : List ℕ → (d a : ℕ) → (before after : List ℕ) → Result ℕ Refusal → Type 0
ConstructIs t d a before after (Ok b) = Construct t d a b before after
ConstructIs t d a before after (Err why) = Fails (rows_of t) d a why

-- What is answered at row k, where the construct that row o opens wants the op `end`.
abbrev pub ClosesIs : List ℕ → (o k end : ℕ) → Result ℕ Refusal → Type 0
ClosesIs t o k end (Ok b) = (b ≡ k + 1) × (k * 4 < length t) × (get_or t (k * 4) 0 ≡ end)
ClosesIs t o k end (Err why) = ((why ≡ LeftOpen o) × (k * 4 ≡ length t)) ⊎ ((why ≡ Misplaced k) × (k * 4 < length t) × (get_or t (k * 4) 0 ≡ end → ⊥))
