-- Demand 3 holds of every well-formed table, sizes with a group at least, cells and limit. Assumes nothing.
use mathlib.Core.Path.{◌≡◌, refl, sym, ◌∙◌, ap, subst}
use mathlib.Core.List.{List, [], ◌∷◌, ◌++◌, append-nil, map}
use mathlib.Core.Bool.{Bool, true, false, cond}
use Prim.Native.Nat.{ℕ, suc, ◌+◌, ◌*◌, ◌-◌, ◌<◌, ◌≤◌}
use native.Mathlib.Omega.{arith}
use lib.Dec.{eqb}
use lib.ListN.{length, get_or, replicate, length-map}
use Rattle.spec.specs.declared.Verdict.{Verdict}
use Rattle.spec.specs.declared.Verdict.TheVariants.{Passed, Race, GroupRace, Outside, Common, Diverged, Spent}
use Rattle.spec.specs.AllRuns.{is_move_of, is_release, is_release_of, EveryRunEndsWell, PassedSays, Demand3}
use Rattle.spec.specs.Lists.{joined}
use Rattle.spec.specs.LockStep.{LockResult, initial_state, outcome_of}
use Rattle.spec.specs.Runs.{many, shown_to}
use Rattle.spec.specs.Shape.{Sizes, shape_of}
use Rattle.spec.specs.Steps.{sum}
use Rattle.spec.specs.Table.{Table, WellFormed}
use Rattle.spec.specs.Threads as own
use Rattle.spec.specs.LaunchRun.{GroupRun, counted_barriers, group_result, group_runs, last_run, lockstep, own_cells, steps_by_launch}
use Rattle.spec.specs.LaunchThreads.{Groups, Move, initial_groups, machine, next, of_group, shown}
use Rattle.allruns.proofs.Descent.{Same, descent}
use Rattle.allruns.proofs.Together.{all_laws}
use Rattle.allruns.proofs.Lifted.{failed_not_all}
use Rattle.allruns.proofs.LaunchCounts.{counted_in_all_lem, launch_spent, joined_at, joined_length}
use Rattle.allruns.proofs.GroupsInTurn.{LaunchCompletes, LaunchSimulates, first_turn, in_turn_lem}

-- An observer is shown as much as the group has releases.
shown_length : (T : Table) (Z : Sizes) (g : ℕ) (S : Groups) (ms : List Move) → length (shown_to (machine T Z) g S ms) ≡ many (is_release_of g) ms
unfolding is_release_of shown
shown_length T Z g S [] = refl
shown_length T Z g S (of_group h (own.row t) ∷ ms) = omega (arith, shown_length T Z g (next T Z S (of_group h (own.row t))) ms)
shown_length T Z g S (of_group h own.release ∷ ms) = by (eqb h g) (shown_length T Z g (next T Z S (of_group h own.release)) ms)
  where
    own_now : List ℕ
    own_now = own_cells (shape_of Z h) S.cells

    rest : List (List ℕ)
    rest = shown_to (machine T Z) g (next T Z S (of_group h own.release)) ms

    by : (b : Bool) → length rest ≡ many (is_release_of g) ms → length (cond b (own_now ∷ []) [] ++ rest) ≡ cond b 1 0 + many (is_release_of g) ms
    by true ih = omega (arith, ih)
    by false ih = omega (arith, ih)

module _ (T : Table) (w : WellFormed T) (Z : Sizes) (one : 1 ≤ Z.groups) (cells : List ℕ) (size : length cells ≡ Z.groups * Z.cells + Z.global)
    (limit : ℕ) where
  abbrev result : LockResult
  result = lockstep T Z cells limit

  abbrev start : Groups
  start = initial_groups T Z cells

  abbrev runs : List GroupRun
  runs = group_runs T Z cells limit

  abbrev steps : List ℕ
  steps = steps_by_launch T Z cells limit

  abbrev steps_of_runs : List (List ℕ)
  steps_of_runs = map (λ u. (group_result T limit u).state.steps) runs

  all_groups : suc (Z.groups - 1) ≡ Z.groups
  all_groups = omega arith

  simulated : LaunchSimulates T Z limit start 0 0 Z.groups runs result result.verdict
  unfolding lockstep last_run group_runs initial_state
  simulated =
      subst (λ n. LaunchSimulates T Z limit start 0 0 n runs result result.verdict) all_groups
      (in_turn_lem T w Z limit (Z.groups - 1) 0 start (initial_state Z cells) (omega arith) (first_turn T Z cells size))

  complete : result.verdict ≡ Passed → LaunchCompletes T Z limit start 0 0 Z.groups runs result
  complete p = subst (LaunchSimulates T Z limit start 0 0 Z.groups runs result) p simulated

  same : (p : result.verdict ≡ Passed) → Same (machine T Z) start (complete p).moves
  same p = descent (machine T Z) (all_laws T Z) start (complete p).moves (complete p).run (complete p).ended

  well : result.verdict ≡ Passed → EveryRunEndsWell T Z cells
  well p =
      record {
        always = (same p).all;
        never_bad = (same p).good;
        never_stuck = λ ms r s. s.unfinished ((same p).all.ends ms r s.halted);
      }

  -- A launch whose lock-step run stops has a run that ends badly, or one that leaves a thread at a barrier for ever.
  back : (v : Verdict) → result.verdict ≡ v → LaunchSimulates T Z limit start 0 0 Z.groups runs result v → ¬ (result.verdict ≡ Spent)
      → EveryRunEndsWell T Z cells → result.verdict ≡ Passed
  back Passed q c ns a = q
  back (Race t u k c) q f ns a = absurd (failed_not_all T w Z start f a.always)
  back (GroupRace t h k c) q f ns a = absurd (failed_not_all T w Z start f a.always)
  back (Outside t c) q f ns a = absurd (failed_not_all T w Z start f a.always)
  back (Common t c) q f ns a = absurd (failed_not_all T w Z start f a.always)
  back (Diverged t u) q f ns a = absurd (failed_not_all T w Z start f a.always)
  back Spent q c ns a = absurd (ns q)

  -- Where all groups have run, the steps by launch number are theirs, one group behind the other.
  module _ (p : result.verdict ≡ Passed) where
    run_count : length steps_of_runs ≡ Z.groups
    run_count = length-map runs (λ u. (group_result T limit u).state.steps) ∙ (complete p).count

    steps_joined : steps ≡ joined steps_of_runs
    unfolding steps_by_launch
    steps_joined = ap (λ k. joined steps_of_runs ++ replicate k 0) none ∙ append-nil (joined steps_of_runs)
      where
        left : Z.groups - length runs ≡ 0
        left = let e = (complete p).count in omega (arith, e)

        none : (Z.groups - length runs) * Z.threads ≡ 0
        none = ap (λ k. k * Z.threads) left ∙ (let z : 0 * Z.threads ≡ 0 = omega arith in z)

    steps_count : length steps ≡ Z.groups * Z.threads
    steps_count = ap length steps_joined ∙ joined_length Z.threads steps_of_runs (complete p).sized ∙ ap (λ n. n * Z.threads) run_count

    steps_are : (g t : ℕ) → g < Z.groups → t < Z.threads → many (is_move_of g t) (complete p).moves ≡ get_or steps (g * Z.threads + t) 0
    steps_are g t a b =
        ap (λ h. many (is_move_of h t) (complete p).moves) (let z : g ≡ 0 + g = omega arith in z)
        ∙ (complete p).each g t a b
        ∙ sym (joined_at Z.threads steps_of_runs (complete p).sized g t (omega (arith, a, run_count)) b)
        ∙ ap (λ xs. get_or xs (g * Z.threads + t) 0) (sym steps_joined)

    moves_are : length (complete p).moves ≡ sum steps + result.state.barriers
    moves_are = let a = (complete p).counted in let b : sum steps ≡ sum (joined steps_of_runs) = ap sum steps_joined in omega (arith, a, b)

    releases_are : many is_release (complete p).moves ≡ result.state.barriers
    releases_are = omega (arith, (complete p).released)

    shown_are : (g : ℕ) → g < Z.groups → shown_to (machine T Z) g start (complete p).moves ≡ get_or (counted_barriers T Z cells limit) g []
    unfolding counted_barriers
    shown_are g a =
        ap (λ h. shown_to (machine T Z) h start (complete p).moves) (let z : g ≡ 0 + g = omega arith in z) ∙ (complete p).sees g a

    says : PassedSays T Z cells steps result.state.barriers result.state.cells (counted_barriers T Z cells limit)
    says =
        record {
          every = steps_count;
          each = λ g t a b ms r. (same p).classed (is_move_of g t) ms r.0 r.1 ∙ steps_are g t a b;
          moves = λ ms r. (same p).count ms r.0 r.1 ∙ moves_are;
          releases = λ ms r. (same p).classed is_release ms r.0 r.1 ∙ releases_are;
          classes = λ c ms ks r u. (same p).classed c ms r.0 r.1 ∙ sym ((same p).classed c ks u.0 u.1);
          meanwhile = λ g a ms r. let h = (same p).prefix g ms r in (h.0, h.1 ∙ shown_are g a);
          shown = λ g ms r. shown_length T Z g start ms;
          throughout = λ g a ms r. (same p).sees g ms r.0 r.1 ∙ shown_are g a;
          finally = λ ms r. ap (λ S. S.cells) ((same p).there ms r.0 r.1) ∙ (complete p).finally;
          some_run = ((complete p).moves, ((complete p).run, (complete p).ended));
        }

  -- whatever group it is said to end in, and whatever its rows cost
  pub demand3 : (group conflicts : ℕ) → Demand3 T Z cells limit (outcome_of result group conflicts) steps result.state.cells
  unfolding outcome_of
  demand3 group conflicts =
      record {
        exactly = λ ns. (well, back result.verdict refl simulated ns);
        passed = says;
        counted = counted_in_all_lem T Z cells limit;
        spent = launch_spent T Z cells limit;
      }
