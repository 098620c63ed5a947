-- The count of steps that each thread has, thread 0 first. Document 02, item 4. Assumes nothing.
use Rattle.std.specs.Prelude.{List, [], ◌∷◌, ℕ, suc, ◌+◌, get_or, set}

-- Thread t has stepped: its own count grows by 1.
unfoldable pub stepped : (steps : List ℕ) → (t : ℕ) → List ℕ
stepped steps t = set steps t (suc (get_or steps t 0))

-- Each of these threads has.
unfoldable pub all_stepped : (steps threads : List ℕ) → List ℕ
all_stepped steps [] = steps
all_stepped steps (t ∷ ts) = all_stepped (stepped steps t) ts

-- The steps of all threads together.
unfoldable pub sum : List ℕ → ℕ
sum [] = 0
sum (k ∷ ks) = k + sum ks
