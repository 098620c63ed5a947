-- Demand 3: what the verdict of one lock-step run says of every run of the launch's independent threads, those of all its groups. Assumes nothing.
use Rattle.std.specs.Prelude.{◌≡◌, ◌↔◌, List, [], ◌++◌, map, Bool, true, false, ◌&&◌, ℕ, ◌+◌, ◌*◌, ◌<◌, eqb, length, get_or}
use Rattle.spec.specs.Answers.{Passed, Spent, Outcome}
use Rattle.spec.specs.Table.{Table}
use Rattle.spec.specs.Shape.{Sizes}
use Rattle.spec.specs.Runs.{many, Run, after, shown_to, Stuck, RunsAlwaysEnd}
use Rattle.spec.specs.Threads.{row, release}
use Rattle.spec.specs.LaunchThreads.{Groups, Move, of_group, machine, initial_groups}
use Rattle.spec.specs.Steps.{sum}
use Rattle.spec.specs.LaunchRun.{counted_barriers}

-- A run of the launch with these sizes and cells; the state that it leaves; one that has come to its end; the own cells that group g shows at its releases.
abbrev pub RunOf : Table → Sizes → (cells : List ℕ) → List Move → Type 0
RunOf T Z cells ms = Run (machine T Z) (initial_groups T Z cells) ms

abbrev pub leaves : Table → Sizes → (cells : List ℕ) → List Move → Groups
leaves T Z cells ms = after (machine T Z) (initial_groups T Z cells) ms

abbrev pub CompleteRun : Table → Sizes → (cells : List ℕ) → List Move → Type 0
CompleteRun T Z cells ms = RunOf T Z cells ms × (machine T Z).Ended (leaves T Z cells ms)

abbrev pub cells_at_releases : Table → Sizes → (cells : List ℕ) → (g : ℕ) → List Move → List (List ℕ)
cells_at_releases T Z cells g ms = shown_to (machine T Z) g (initial_groups T Z cells) ms

-- The class of the moves of thread t of group g, that of group g's releases, and that of all releases.
unfoldable pub is_move_of : (g t : ℕ) → Move → Bool
is_move_of g t (of_group h (row u)) = eqb h g && eqb u t
is_move_of g t (of_group h release) = false

unfoldable pub is_release_of : (g : ℕ) → Move → Bool
is_release_of g (of_group h (row u)) = false
is_release_of g (of_group h release) = eqb h g

unfoldable pub is_release : Move → Bool
is_release (of_group h (row u)) = false
is_release (of_group h release) = true

-- Every run does well: runs always come to an end, none ends badly (no race, no access outside), and none is stuck.
-- In a table that is not refused, what is stuck has a thread left at a barrier.
pub record EveryRunEndsWell (T : Table) (Z : Sizes) (cells : List ℕ) : Type 0 where
  pub always : RunsAlwaysEnd (machine T Z) (initial_groups T Z cells)
  pub never_bad : (ms : List Move) → RunOf T Z cells ms → (machine T Z).Bad (leaves T Z cells ms) → ⊥
  pub never_stuck : (ms : List Move) → RunOf T Z cells ms → Stuck (machine T Z) (leaves T Z cells ms) → ⊥

-- A list xs is the first part of a list ys.
abbrev pub Prefix : {A : Type 0} → List A → List A → Type 0
Prefix {A} xs ys = (rest : List A) × (xs ++ rest ≡ ys)

-- How many counted barriers there are in all groups.
unfoldable pub counted_in_all : List (List (List ℕ)) → ℕ
counted_in_all bs = sum (map length bs)

-- What 'passed' says, where these steps and barriers and the cells `final` were reported, and bs are each group's own cells at its counted barriers.
pub record PassedSays (T : Table) (Z : Sizes) (cells steps : List ℕ) (barriers : ℕ) (final : List ℕ) (bs : List (List (List ℕ))) : Type 0 where
  -- every thread has its count, and in every run, carried to its end, makes exactly so many moves
  pub every : length steps ≡ Z.groups * Z.threads
  pub each : (g t : ℕ) → g < Z.groups → t < Z.threads → (ms : List Move) → CompleteRun T Z cells ms
      → many (is_move_of g t) ms ≡ get_or steps (g * Z.threads + t) 0
  -- all moves of such a run are the sum of the counts plus barriers
  pub moves : (ms : List Move) → CompleteRun T Z cells ms → length ms ≡ sum steps + barriers
  -- exactly barriers of them are releases
  pub releases : (ms : List Move) → CompleteRun T Z cells ms → many is_release ms ≡ barriers
  -- of every class of moves all complete runs make the same number
  pub classes : (p : Move → Bool) (ms ks : List Move) → CompleteRun T Z cells ms → CompleteRun T Z cells ks → many p ms ≡ many p ks
  -- in every run, carried to its end or not, a group's own cells at its k-th release are those at its k-th counted barrier, for every k
  pub meanwhile : (g : ℕ) → g < Z.groups → (ms : List Move) → RunOf T Z cells ms → Prefix (cells_at_releases T Z cells g ms) (get_or bs g [])
  -- and a run shows as many of them as the group has releases
  pub shown : (g : ℕ) → (ms : List Move) → RunOf T Z cells ms → length (cells_at_releases T Z cells g ms) ≡ many (is_release_of g) ms
  -- in a complete run they are all of them
  pub throughout : (g : ℕ) → g < Z.groups → (ms : List Move) → CompleteRun T Z cells ms → cells_at_releases T Z cells g ms ≡ get_or bs g []
  -- the cells at the end, own and global, are those reported
  pub finally : (ms : List Move) → CompleteRun T Z cells ms → (leaves T Z cells ms).cells ≡ final
  -- some run comes to its end, so that none of this is empty
  pub some_run : (ms : List Move) × CompleteRun T Z cells ms

-- Demand 3 of a launch for which this outcome was answered, these steps were counted and these cells were left.
pub record Demand3 (T : Table) (Z : Sizes) (cells : List ℕ) (limit : ℕ) (o : Outcome) (steps final : List ℕ) : Type 0 where
  -- a launch whose verdict is not spent is passed exactly when every run ends well
  pub exactly : ¬ (o.verdict ≡ Spent) → o.verdict ≡ Passed ↔ EveryRunEndsWell T Z cells
  pub passed : o.verdict ≡ Passed → PassedSays T Z cells steps o.barriers final (counted_barriers T Z cells limit)
  -- there are as many counted barriers as `barriers` says, and spent is said only at the limit
  pub counted : counted_in_all (counted_barriers T Z cells limit) ≡ o.barriers
  pub spent : o.verdict ≡ Spent → o.rows ≡ limit
