-- Two machines side by side: a move of the pair is a move of one of them, and the other stays as it is. Document 02, item 12. Assumes nothing.
use Rattle.std.specs.Prelude.{◌⊎◌, List, [], ◌∷◌, map}
use Rattle.std.proofs.Common.{inl, inr}
use Rattle.spec.specs.Runs.{Machine}

-- The moves of a run that are the first machine's, and those that are the second's, each in their order.
abbrev pub firsts : {A B : Type 0} → List (A ⊎ B) → List A
firsts [] = []
firsts (inl m ∷ ms) = m ∷ firsts ms
firsts (inr m ∷ ms) = firsts ms

abbrev pub seconds : {A B : Type 0} → List (A ⊎ B) → List B
seconds [] = []
seconds (inl m ∷ ms) = seconds ms
seconds (inr m ∷ ms) = m ∷ seconds ms

module _ (K L : Machine) where
  abbrev pub PairState : Type 0
  PairState = K.State × L.State

  abbrev pub PairMove : Type 0
  PairMove = K.Move ⊎ L.Move

  abbrev pub PairPossible : PairState → PairMove → Type 0
  PairPossible s (inl m) = K.Possible s.0 m
  PairPossible s (inr m) = L.Possible s.1 m

  abbrev pub pair_next : PairState → PairMove → PairState
  pair_next s (inl m) = (K.next s.0 m, s.1)
  pair_next s (inr m) = (s.0, L.next s.1 m)

  abbrev pub pair_shows : K.Observer ⊎ L.Observer → PairState → PairMove → List (K.Shown ⊎ L.Shown)
  pair_shows (inl w) s (inl m) = map inl (K.shows w s.0 m)
  pair_shows (inl w) s (inr m) = []
  pair_shows (inr w) s (inl m) = []
  pair_shows (inr w) s (inr m) = map inr (L.shows w s.1 m)

  -- A run of the pair has come to its end when both have; it has ended badly when one has. One that has makes no more moves; the other may go on.
  abbrev pub pair : Machine
  pair =
      record {
        State = PairState;
        Move = PairMove;
        Observer = K.Observer ⊎ L.Observer;
        Shown = K.Shown ⊎ L.Shown;
        Possible = PairPossible;
        next = pair_next;
        shows = pair_shows;
        Ended = λ s. K.Ended s.0 × L.Ended s.1;
        Bad = λ s. K.Bad s.0 ⊎ L.Bad s.1;
      }
