-- A machine's runs: lists of moves, each possible where it is made. "The threads' own machine", the definition of a run. Assumes nothing.
use Rattle.std.specs.Prelude.{List, [], ◌∷◌, ◌++◌, Bool, cond, ℕ, ◌+◌, ◌≤◌, length}

-- A machine: its states, its moves, which moves are possible where, what a move leaves, what an observer is shown at it, and its last states:
-- those at which a run has come to its end, and those at which it has ended badly.
pub record Machine : Type 1 where
  pub State : Type 0
  pub Move : Type 0
  pub Observer : Type 0
  pub Shown : Type 0
  pub Possible : State → Move → Type 0
  pub next : State → Move → State
  pub shows : Observer → State → Move → List Shown
  pub Ended : State → Type 0
  pub Bad : State → Type 0

-- How many moves of a list are in a class.
abbrev pub many : {M : Type 0} → (M → Bool) → List M → ℕ
many p [] = 0
many p (m ∷ ms) = cond (p m) 1 0 + many p ms

module _ (K : Machine) where
  -- A run: each move is possible where it is made, and is made on what the one before left.
  abbrev pub Run : K.State → List K.Move → Type 0
  Run s [] = Unit {0}
  Run s (m ∷ ms) = K.Possible s m × Run (K.next s m) ms

  -- The state that a run leaves.
  abbrev pub after : K.State → List K.Move → K.State
  after s [] = s
  after s (m ∷ ms) = after (K.next s m) ms

  -- What an observer is shown in a run, in its order.
  abbrev pub shown_to : K.Observer → K.State → List K.Move → List K.Shown
  shown_to w s [] = []
  shown_to w s (m ∷ ms) = K.shows w s m ++ shown_to w (K.next s m) ms

  -- No move can carry the run on.
  abbrev pub Halted : K.State → Type 0
  Halted s = (m : K.Move) → K.Possible s m → ⊥

  -- Stuck: neither come to its end nor ended badly, and no move is possible.
  pub record Stuck (s : K.State) : Type 0 where
    pub unfinished : K.Ended s → ⊥
    pub unharmed : K.Bad s → ⊥
    pub halted : Halted s

  -- Runs always come to an end: some number bounds the moves of every run, and each run that no move can carry on has come to its end.
  pub record RunsAlwaysEnd (s : K.State) : Type 0 where
    pub bound : ℕ
    pub bounded : (ms : List K.Move) → Run s ms → length ms ≤ bound
    pub ends : (ms : List K.Move) → Run s ms → Halted (after s ms) → K.Ended (after s ms)
