-- What a loop leaves in 32 lanes, one for each thread. Assumes nothing.
use Rattle.std.specs.Prelude.{◌≡◌, List, ℕ, ◌<◌, length, get_or}

-- R tells of each of the first t of 32 lanes.
abbrev pub EachLane : (ℕ → ℕ → Type 0) → List ℕ → ℕ → Type 0
EachLane R v t = (length v ≡ 32) × ((j : ℕ) → j < t → R j (get_or v j 0))

-- The first t of 32 lanes hold F.
abbrev pub Filled : (ℕ → ℕ) → List ℕ → ℕ → Type 0
Filled F v t = EachLane (λ j x. x ≡ F j) v t
