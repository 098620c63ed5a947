-- The step counts of a launch: one for each of its threads, however it ends. Assumes nothing.
use mathlib.Core.Path.{◌≡◌, sym, ◌∙◌, ap}
use mathlib.Core.List.{List, [], ◌∷◌, map}
use mathlib.Core.Bool.{Bool, true, false, cond}
use Prim.Native.Nat.{ℕ, zero, suc, ◌+◌, ◌*◌, ◌-◌, ◌≤◌}
use native.Mathlib.Nat.{add-mul, suc-mul}
use native.Mathlib.Omega.{arith}
use lib.ListN.{length, length-append, length-replicate, replicate}
use Rattle.spec.specs.Answers.{is_passed}
use Rattle.spec.specs.Lists.{joined}
use Rattle.spec.specs.LockStep.{LockState, initial_state}
use Rattle.spec.specs.LaunchRun.{GroupRun, group_result, group_runs, next_start, rows_left, runs_from, steps_by_launch}
use Rattle.spec.specs.Shape.{Sizes, all_threads, shape_of}
use Rattle.spec.specs.Table.{Table}
use Rattle.allruns.proofs.LockInvariants.{group_steps}

module _ (T : Table) (Z : Sizes) (limit : ℕ) where
  abbrev steps_of : GroupRun → List ℕ
  steps_of u = (group_result T limit u).state.steps

  -- So many runs with a count for each thread, of which there are at most as many as groups are left.
  abbrev Counted : (left : ℕ) → List GroupRun → Type 0
  Counted left us = (length (joined (map steps_of us)) ≡ length us * Z.threads) × (length us ≤ left)

  one_more : (j g : ℕ) (s : LockState) → length s.steps ≡ Z.threads → (us : List GroupRun) → Counted j us
      → Counted (suc j) (record { shape = shape_of Z g; start = s } ∷ us)
  unfolding group_result joined
  one_more j g s e us (many, few) =
      let own = group_steps T (shape_of Z g) (rows_left limit (record { shape = shape_of Z g; start = s })) s in
      let both = length-append (steps_of (record { shape = shape_of Z g; start = s })) (joined (map steps_of us)) in
      let more = suc-mul (length us) Z.threads in
      (omega (arith, own, e, both, more, many), omega (arith, few))

  runs_counted : (j g : ℕ) (s : LockState) → length s.steps ≡ Z.threads → Counted (suc j) (runs_from T Z limit j g s)
  unfolding runs_from joined
  runs_counted zero g s e = one_more zero g s e [] (omega arith, omega arith)
  runs_counted (suc j) g s e =
      by (is_passed (group_result T limit (record { shape = shape_of Z g; start = s })).verdict)
      (runs_counted j (suc g) (next_start (shape_of Z (suc g)) (group_result T limit (record { shape = shape_of Z g; start = s })).state) (unfold next_start in (length-replicate Z.threads 0)))
    where
      later : List GroupRun
      later = runs_from T Z limit j (suc g) (next_start (shape_of Z (suc g)) (group_result T limit (record { shape = shape_of Z g; start = s })).state)

      by : (b : Bool) → Counted (suc j) later → Counted (suc (suc j)) (record { shape = shape_of Z g; start = s } ∷ cond b later [])
      by true h = one_more (suc j) g s e later h
      by false h = one_more (suc j) g s e [] (omega arith, omega arith)

  pub steps_long : (cells : List ℕ) → 1 ≤ Z.groups → length (steps_by_launch T Z cells limit) ≡ all_threads Z
  unfolding steps_by_launch group_runs
  steps_long cells one =
      let us = runs_from T Z limit (Z.groups - 1) 0 (initial_state Z cells) in
      let h = runs_counted (Z.groups - 1) 0 (initial_state Z cells) (unfold initial_state in (length-replicate Z.threads 0)) in
      let rest = (Z.groups - length us) * Z.threads in
      let all : length us * Z.threads + rest ≡ (length us + (Z.groups - length us)) * Z.threads = sym (add-mul (length us) (Z.groups - length us) Z.threads) in
      let whole : length us + (Z.groups - length us) ≡ Z.groups = let few = h.1 in omega (arith, few, one) in
      length-append (joined (map steps_of us)) (replicate rest 0)
      ∙ (let zeros = length-replicate {A = ℕ} rest 0 in let many = h.0 in let y : length (joined (map steps_of us)) + length (replicate rest 0) ≡ (length us +
      (Z.groups - length us)) * Z.threads = omega (arith, zeros, many, all) in y)
      ∙ ap (λ k. k * Z.threads) whole
