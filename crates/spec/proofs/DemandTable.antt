-- What demand 3 says of one launch: wrong counts are refuted by a run of it, be they in hand, lent or in a report. Assumes nothing.
use Rattle.std.specs.Prelude.{Ok}
use mathlib.Core.Path.{◌≡◌, refl, ap, sym, ◌∙◌}
use mathlib.Core.List.{List, [], ◌∷◌, ◌++◌, map}
use mathlib.Core.Option.{Option, none, some}
use Prim.Native.Nat.{ℕ}
use native.Mathlib.Omega.{arith}
use lib.ListN.{get_or, replicate}
use Rattle.spec.specs.Answers.{Passed, Outcome}
use Rattle.spec.specs.Table.{Table, row_of}
use Rattle.spec.specs.Shape.{Sizes, sizes, one_group}
use Rattle.spec.specs.Threads as own
use Rattle.spec.specs.LaunchThreads.{Move, of_group}
use Rattle.spec.specs.AllRuns.{CompleteRun, PassedSays, Demand3}
use Rattle.spec.specs.Launch.{Launch}
use Rattle.spec.proofs.Lines.{lines}
use Rattle.spec.specs.Demands.{BareDemand3, PassedReport}
use Rattle.spec.proofs.MachineRuns.{row, release}
use Rattle.spec.proofs.Computing.{computing}

-- Two threads, TID, BARRIER, and an IF that thread 1 goes into: 3 and 4 moves, and a release.
unfoldable pub lopsided : Table
lopsided = row_of 2 0 0 0 ∷ row_of 37 0 0 0 ∷ row_of 32 0 0 0 ∷ row_of 1 1 5 0 ∷ row_of 34 0 0 0 ∷ []

unfoldable pub its_moves : List Move
its_moves = row 1 ∷ row 0 ∷ release ∷ row 1 ∷ row 0 ∷ row 1 ∷ row 0 ∷ row 1 ∷ []

abbrev pub its_sizes : Sizes
its_sizes = one_group 2 (9 ∷ [])

pub comes_to_its_end : CompleteRun lopsided its_sizes (9 ∷ []) its_moves
unfolding computing lopsided its_moves
comes_to_its_end = ((refl, (refl, (refl, (refl, (refl, (refl, (refl, (refl, tt)))))))), refl)

-- What 'passed' would say with other counts is not so: the two threads' counts interchanged, one too many of thread 1, one count for both, a count of
-- a third thread, two barriers.
abbrev pub Says : (steps : List ℕ) → (barriers : ℕ) → Type 0
Says steps barriers = PassedSays lopsided its_sizes (9 ∷ []) steps barriers (9 ∷ []) (((9 ∷ []) ∷ []) ∷ [])

pub not_interchanged : Says (4 ∷ 3 ∷ []) 1 → ⊥
unfolding computing its_moves
not_interchanged s = let wrong : ◌≡◌ {A = ℕ} 3 4 = s.each 0 0 (omega arith) (omega arith) its_moves comes_to_its_end in omega (arith, wrong)

pub not_one_too_many : Says (3 ∷ 5 ∷ []) 1 → ⊥
unfolding computing its_moves
not_one_too_many s = let wrong : ◌≡◌ {A = ℕ} 4 5 = s.each 0 1 (omega arith) (omega arith) its_moves comes_to_its_end in omega (arith, wrong)

pub not_for_both : Says (7 ∷ []) 1 → ⊥
not_for_both s = let wrong : ◌≡◌ {A = ℕ} 1 2 = s.every in omega (arith, wrong)

pub not_a_third : Says (3 ∷ 4 ∷ 0 ∷ []) 1 → ⊥
not_a_third s = let wrong : ◌≡◌ {A = ℕ} 3 2 = s.every in omega (arith, wrong)

pub not_two_barriers : Says (3 ∷ 4 ∷ []) 2 → ⊥
unfolding computing its_moves
not_two_barriers s = let wrong : ◌≡◌ {A = ℕ} 8 9 = s.moves its_moves comes_to_its_end in omega (arith, wrong)

-- Of lent counts it speaks of those of the launch's threads.
unfoldable pub its_bytes : List ℕ
its_bytes = 2 ∷ 0 ∷ 0 ∷ 0 ∷ 37 ∷ 0 ∷ 0 ∷ 0 ∷ 32 ∷ 0 ∷ 0 ∷ 0 ∷ 1 ∷ 1 ∷ 5 ∷ 0 ∷ 34 ∷ 0 ∷ 0 ∷ 0 ∷ []

abbrev pub its_outcome : Outcome
its_outcome = record { verdict = Passed; row = 5; group = 0; rows = 5; barriers = 1; conflicts = 0 }

pub counts_taken : BareDemand3 its_bytes (sizes 2 1 1 0) 100 (9 ∷ []) [] (Ok its_outcome) (9 ∷ []) [] (3 ∷ 4 ∷ replicate 254 0)
    → Demand3 lopsided its_sizes (9 ∷ []) 100 its_outcome (3 ∷ 4 ∷ []) (9 ∷ [])
unfolding computing lopsided its_bytes
counts_taken d = d

-- Its `passed` speaks of them.
pub not_interchanged_in_hand : Demand3 lopsided its_sizes (9 ∷ []) 100 its_outcome (4 ∷ 3 ∷ []) (9 ∷ []) → ⊥
unfolding computing its_moves
not_interchanged_in_hand d = let wrong : ◌≡◌ {A = ℕ} 3 4 = (d.passed refl).each 0 0 (omega arith) (omega arith) its_moves comes_to_its_end in omega (arith, wrong)

-- In a report they are the `steps=` lines, in their order.
unfoldable pub its_launch : Launch
its_launch = record { sizes = its_sizes; limit = 100; table = lopsided; cells = 9 ∷ [] }

unfoldable pub first_number : List (Option ℕ) → ℕ
first_number [] = 0
first_number (none ∷ ns) = 0
first_number (some n ∷ ns) = n

pub not_interchanged_in_lines :
    PassedReport its_launch (lines "verdict=passed/row=-/group=-/othergroup=-/thread=-/other=-/kind=-/at=-/rows=5/steps=4/steps=3/barriers=1/conflicts=0/cell=9/end=report") → ⊥
unfolding computing its_moves its_launch first_number
not_interchanged_in_lines r = by r.steps (ap first_number r.steps_lines) (r.says.each 0 0 (omega arith) (omega arith) its_moves comes_to_its_end)
  where
    by : (steps : List ℕ) → 4 ≡ first_number (map some steps) → 3 ≡ get_or steps 0 0 → ⊥
    by [] e wrong = omega (arith, wrong)
    by (k ∷ ks) e wrong = omega (arith, e, wrong)

-- Two groups of one thread, with one own cell each and a global one: each stores its launch number to its own cell and adds it to the global one.
unfoldable pub sharing : Table
sharing = row_of 19 0 0 0 ∷ row_of 17 15 0 0 ∷ row_of 22 15 0 0 ∷ []

unfoldable pub in_turns : List Move
in_turns = map (λ g. of_group g (own.row 0)) (1 ∷ 0 ∷ 1 ∷ 1 ∷ 0 ∷ 0 ∷ [])

abbrev pub two_groups : Sizes
two_groups = sizes 1 1 2 1

pub groups_come_to_their_end : CompleteRun sharing two_groups (9 ∷ 8 ∷ 100 ∷ []) in_turns
unfolding computing sharing in_turns
groups_come_to_their_end = ((refl, (refl, (refl, (refl, (refl, (refl, tt)))))), refl)

-- The cells in hand are the own ones, then the global ones; of lent counts it speaks of those of all groups' threads.
unfoldable pub sharing_bytes : List ℕ
sharing_bytes = 19 ∷ 0 ∷ 0 ∷ 0 ∷ 17 ∷ 15 ∷ 0 ∷ 0 ∷ 22 ∷ 15 ∷ 0 ∷ 0 ∷ []

abbrev pub sharing_outcome : Outcome
sharing_outcome = record { verdict = Passed; row = 3; group = 1; rows = 6; barriers = 0; conflicts = 0 }

pub both_kinds_taken :
    BareDemand3 sharing_bytes two_groups 100 (9 ∷ 8 ∷ []) (100 ∷ []) (Ok sharing_outcome) (0 ∷ 1 ∷ []) (101 ∷ []) (3 ∷ 3 ∷ replicate 254 7)
    → Demand3 sharing two_groups (9 ∷ 8 ∷ 100 ∷ []) 100 sharing_outcome (3 ∷ 3 ∷ []) (0 ∷ 1 ∷ 101 ∷ [])
unfolding computing sharing sharing_bytes
both_kinds_taken d = d

-- Global cells left as they were lent are refuted, and so are counts of one group alone.
pub not_left_in_hand : Demand3 sharing two_groups (9 ∷ 8 ∷ 100 ∷ []) 100 sharing_outcome (3 ∷ 3 ∷ []) (0 ∷ 1 ∷ 100 ∷ []) → ⊥
unfolding computing sharing in_turns
not_left_in_hand d =
    let wrong : ◌≡◌ {A = ℕ} 101 100 = ap (λ cells. get_or cells 2 0) ((d.passed refl).finally in_turns groups_come_to_their_end) in omega (arith, wrong)

pub not_of_one_group : Demand3 sharing two_groups (9 ∷ 8 ∷ 100 ∷ []) 100 sharing_outcome (3 ∷ []) (0 ∷ 1 ∷ 101 ∷ []) → ⊥
unfolding computing
not_of_one_group d = let wrong : ◌≡◌ {A = ℕ} 1 2 = (d.passed refl).every in omega (arith, wrong)

-- In a report they are the `cell=` lines and the `gcell=` lines. `numbers` reads back a list of numbers.
unfoldable pub sharing_launch : Launch
sharing_launch = record { sizes = two_groups; limit = 100; table = sharing; cells = 9 ∷ 8 ∷ 100 ∷ [] }

unfoldable pub numbers : List (Option ℕ) → List ℕ
numbers [] = []
numbers (none ∷ ns) = numbers ns
numbers (some n ∷ ns) = n ∷ numbers ns

pub numbers_back : (ns : List ℕ) → numbers (map some ns) ≡ ns
unfolding numbers
numbers_back [] = refl
numbers_back (n ∷ ns) = ap (λ x. n ∷ x) (numbers_back ns)

pub not_left_in_lines :
    PassedReport sharing_launch
    (lines "verdict=passed/row=-/group=-/othergroup=-/thread=-/other=-/kind=-/at=-/rows=6/steps=3/steps=3/barriers=0/conflicts=0/cell=0/cell=1/gcell=100/end=report") → ⊥
unfolding computing sharing in_turns sharing_launch numbers
not_left_in_lines r =
    let own : 0 ∷ 1 ∷ [] ≡ r.own = ap numbers r.cell_lines ∙ numbers_back r.own in
    let global : 100 ∷ [] ≡ r.global = ap numbers r.gcell_lines ∙ numbers_back r.global in
    let final : 0 ∷ 1 ∷ 101 ∷ [] ≡ r.own ++ r.global = r.says.finally in_turns groups_come_to_their_end in
    let wrong : ◌≡◌ {A = ℕ} 101 100 = ap (λ cells. get_or cells 2 0) (final ∙ sym (ap (λ xs. xs ++ r.global) own)) ∙ sym (ap (λ xs. get_or xs 0 0) global) in
    omega (arith, wrong)
