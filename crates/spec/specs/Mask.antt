-- Masks: a truth value for each thread, thread 0 first. "The lock-step run", state. Assumes nothing.
use Rattle.std.specs.Prelude.{List, [], ◌∷◌, Bool, true, false, cond, not, ◌&&◌, ◌||◌, ℕ, zero, suc, ◌+◌, ◌*◌, get_or}

abbrev pub Mask : Type 0
Mask = List Bool

-- The mask as a word: bit t is thread t's.
unfoldable pub mask_word : Mask → ℕ
mask_word [] = 0
mask_word (b ∷ m) = cond b 1 0 + 2 * mask_word m

unfoldable pub has : Mask → ℕ → Bool
has m t = get_or m t false

-- The threads of a mask, lowest first, where its first is thread k.
unfoldable pub members_from : ℕ → Mask → List ℕ
members_from k [] = []
members_from k (false ∷ m) = members_from (suc k) m
members_from k (true ∷ m) = k ∷ members_from (suc k) m

unfoldable pub members : Mask → List ℕ
members m = members_from 0 m

unfoldable pub any : Mask → Bool
any [] = false
any (b ∷ m) = b || any m

unfoldable pub full : Mask → Bool
full [] = true
full (b ∷ m) = b && full m

-- Those of m that are not in n.
unfoldable pub minus : Mask → Mask → Mask
minus [] n = []
minus (b ∷ m) [] = b ∷ m
minus (b ∷ m) (c ∷ n) = (b && not c) ∷ minus m n

unfoldable pub union : Mask → Mask → Mask
union [] n = n
union (b ∷ m) [] = b ∷ m
union (b ∷ m) (c ∷ n) = (b || c) ∷ union m n

-- The lowest thread of a mask; the number of all threads where it has none.
unfoldable pub lowest : Mask → ℕ
lowest [] = 0
lowest (b ∷ m) = cond b 0 (suc (lowest m))

-- Nonzero is true.
unfoldable pub nonzero : ℕ → Bool
nonzero zero = false
nonzero (suc v) = true

-- Those of a mask whose register a is true; the registers are each thread's own list.
unfoldable pub holding : ℕ → Mask → List (List ℕ) → Mask
holding a [] regs = []
holding a (b ∷ m) [] = false ∷ holding a m []
holding a (b ∷ m) (r ∷ regs) = (b && nonzero (get_or r a 0)) ∷ holding a m regs
