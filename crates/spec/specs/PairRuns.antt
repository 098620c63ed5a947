-- Item 12: two kernels resident together, over the same common cells, and every run of both. Assumes nothing.
use Rattle.std.specs.Prelude.{◌≡◌, ◌⊎◌, ◌↔◌, List, [], map, ℕ, ◌+◌, ◌*◌, ◌<◌, length, get_or}
use Rattle.std.proofs.Common.{inl, inr}
use Rattle.spec.specs.Steps.{sum}
use Rattle.spec.specs.Runs.{Machine, many, Run, after, shown_to, Stuck, RunsAlwaysEnd}
use Rattle.spec.specs.LaunchThreads.{Groups, Move, machine, initial_groups}
use Rattle.spec.specs.AllRuns.{RunOf, leaves, is_move_of, is_release, Prefix}
use Rattle.spec.specs.Launch.{Launch}
use Rattle.spec.specs.Demands.{counted_in}
use Rattle.spec.specs.Pairs.{firsts, seconds, pair}

-- The threads of a launch, at its start.
abbrev pub threads_of : Launch → Machine
threads_of launch = machine launch.table launch.sizes

abbrev pub start_of : Launch → Groups
start_of launch = initial_groups launch.table launch.sizes launch.cells

module _ (F G : Launch) where
  -- All threads of both kernels, moving in any order.
  abbrev pub together : Machine
  together = pair (threads_of F) (threads_of G)

  abbrev pub starts : Groups × Groups
  starts = (start_of F, start_of G)

  abbrev pub PairRun : List (Move ⊎ Move) → Type 0
  PairRun ms = Run together starts ms

  abbrev pub pair_leaves : List (Move ⊎ Move) → Groups × Groups
  pair_leaves ms = after together starts ms

  abbrev pub CompletePair : List (Move ⊎ Move) → Type 0
  CompletePair ms = PairRun ms × together.Ended (pair_leaves ms)

  pub record PairEndsWell : Type 0 where
    pub always : RunsAlwaysEnd together starts
    pub never_bad : (ms : List (Move ⊎ Move)) → PairRun ms → together.Bad (pair_leaves ms) → ⊥
    pub never_stuck : (ms : List (Move ⊎ Move)) → PairRun ms → Stuck together (pair_leaves ms) → ⊥

  -- What a run of the pair is: a run of each kernel, in any order of their moves.
  pub record Alternating : Type 0 where
    pub parts : (ms : List (Move ⊎ Move)) → PairRun ms
        ↔ (RunOf F.table F.sizes F.cells (firsts ms) × RunOf G.table G.sizes G.cells (seconds ms))
    pub leave : (ms : List (Move ⊎ Move))
        → pair_leaves ms ≡ (leaves F.table F.sizes F.cells (firsts ms), leaves G.table G.sizes G.cells (seconds ms))

  -- What 'passed' says of one of two kernels, in every run of both: `moves` and `shows` tell what of a run is this kernel's. Steps, barriers and the cells
  -- `final` are those that were reported of it.
  pub record KernelSays (K : Launch) (moves : List (Move ⊎ Move) → List Move) (shows : (g : ℕ) → List (Move ⊎ Move) → List (List ℕ))
      (left : List (Move ⊎ Move) → Groups) (steps : List ℕ) (barriers : ℕ) (final : List ℕ) : Type 0 where
    pub each : (g t : ℕ) → g < K.sizes.groups → t < K.sizes.threads → (ms : List (Move ⊎ Move)) → CompletePair ms
        → many (is_move_of g t) (moves ms) ≡ get_or steps (g * K.sizes.threads + t) 0
    pub count : (ms : List (Move ⊎ Move)) → CompletePair ms → length (moves ms) ≡ sum steps + barriers
    pub releases : (ms : List (Move ⊎ Move)) → CompletePair ms → many is_release (moves ms) ≡ barriers
    pub meanwhile : (g : ℕ) → g < K.sizes.groups → (ms : List (Move ⊎ Move)) → PairRun ms → Prefix (shows g ms) (get_or (counted_in K) g [])
    pub throughout : (g : ℕ) → g < K.sizes.groups → (ms : List (Move ⊎ Move)) → CompletePair ms → shows g ms ≡ get_or (counted_in K) g []
    pub finally : (ms : List (Move ⊎ Move)) → CompletePair ms → (left ms).cells ≡ final

  -- What two passed kernels say of every run of both: steps, barriers and final cells are those that were reported of each.
  pub record PairSays (steps₁ : List ℕ) (barriers₁ : ℕ) (final₁ steps₂ : List ℕ) (barriers₂ : ℕ) (final₂ : List ℕ) : Type 0 where
    -- all moves are those of the one and those of the other
    pub moves : (ms : List (Move ⊎ Move)) → CompletePair ms → length ms ≡ (sum steps₁ + barriers₁) + (sum steps₂ + barriers₂)
    pub filter : KernelSays F firsts (λ g ms. shown_to (threads_of F) g (start_of F) (firsts ms)) (λ ms. (pair_leaves ms).0) steps₁ barriers₁ final₁
    pub trigger : KernelSays G seconds (λ g ms. shown_to (threads_of G) g (start_of G) (seconds ms)) (λ ms. (pair_leaves ms).1) steps₂ barriers₂ final₂
    -- what an observer of the pair is shown is what one of that kernel is shown
    pub seen₁ : (g : ℕ) (ms : List (Move ⊎ Move)) → shown_to together (inl g) starts ms ≡ map inl (shown_to (threads_of F) g (start_of F) (firsts ms))
    pub seen₂ : (g : ℕ) (ms : List (Move ⊎ Move)) → shown_to together (inr g) starts ms ≡ map inr (shown_to (threads_of G) g (start_of G) (seconds ms))
    pub some_run : (ms : List (Move ⊎ Move)) × CompletePair ms
