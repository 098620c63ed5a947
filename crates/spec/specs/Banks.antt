-- Bank conflicts: what it costs that a row's threads use different cells of one bank. Document 02, item 5. Assumes nothing.
use Rattle.std.specs.Prelude.{List, [], ◌∷◌, cond, ℕ, zero, suc, ◌+◌, ◌-◌, ◌%◌, max, eqb}
use Rattle.spec.specs.Limits.{banks}
use Rattle.spec.specs.Lists.{any_of}

-- The different ones of these cells: many threads at one cell count once.
unfoldable pub different : List ℕ → List ℕ
different [] = []
different (c ∷ cs) = cond (any_of (eqb c) cs) (different cs) (c ∷ different cs)

-- How many of these cells are in bank b. Cells whose numbers are equal modulo 16 are in one bank.
unfoldable pub in_bank : ℕ → List ℕ → ℕ
in_bank b [] = 0
in_bank b (c ∷ cs) = cond (eqb (c % banks) b) 1 0 + in_bank b cs

-- The largest number of them in one bank, of the first k banks.
unfoldable pub most_in_bank : (k : ℕ) → List ℕ → ℕ
most_in_bank zero cs = 0
most_in_bank (suc b) cs = max (in_bank b cs) (most_in_bank b cs)

-- What a row costs whose threads used these cells. A number n above 1 costs n - 1; 0 and 1 cost nothing.
unfoldable pub conflict_cost : (used : List ℕ) → ℕ
conflict_cost used = most_in_bank banks (different used) - 1
