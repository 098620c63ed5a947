-- Demand 3 holds of every launch that is not refused: nothing else is asked. Assumes nothing.
use mathlib.Core.Path.{◌≡◌, refl, sym, ◌∙◌, ap₂, subst}
use mathlib.Core.List.{List, ◌++◌}
use mathlib.Core.Bool.{Bool, true, false, ◌&&◌}
use mathlib.Core.Option.{Option, none, some}
use Prim.Native.Nat.{ℕ, zero, suc, ◌+◌, ◌≤◌}
use native.Mathlib.Omega.{arith}
use lib.Dec.{leb}
use borrow.Author.Tests.{eqb-true}
use lib.ListN.{length, length-append, take, replicate, take-append-drop}
use Rattle.spec.specs.declared.Refusal.{Refusal}
use Rattle.spec.specs.Limits.{max_launch_threads}
use Rattle.spec.specs.Answers.{first}
use Rattle.spec.specs.Table.{rows_of}
use Rattle.spec.specs.TableCheck.{table_refusal}
use Rattle.spec.specs.Shape.{Sizes, all_own, all_threads}
use Rattle.spec.specs.Launch.{Launch, launch_run, launch_outcome, launch_steps, own_after, global_after, own_part, global_part}
use Rattle.spec.specs.LaunchFile.{accepted, file_launch}
use Rattle.spec.specs.Entries.{over, bare_numbers, bare_lent, bare_refusal, bare_launch, answer_of, kept_if, bare_answer, bare_cells, bare_global, bare_steps}
use Rattle.spec.specs.Demands.{LaunchDemand3, BareDemand3}
use Rattle.spec.proofs.Laws.{front_of_lem}
use Rattle.structure.proofs.Refusals.{or_else_none, unless_none}
use Rattle.structure.proofs.Acceptance.{well_formed}
use Rattle.allruns.proofs.LaunchSteps.{steps_long}
use Rattle.allruns.proofs.AcceptedFiles.{Sized, accepted_file}
use Rattle.allruns.proofs.Theorem.{demand3}

-- The cells that a run leaves are the own ones and then the global ones.
pub both_after : (launch : Launch) → own_after launch ++ global_after launch ≡ (launch_run launch).state.cells
unfolding own_after global_after own_part global_part
both_after launch = take-append-drop (all_own launch.sizes) (launch_run launch).state.cells

-- A launch with a table that is not refused and with its cells, of its run.
pub sized_demand3 : (launch : Launch) → table_refusal launch.table ≡ none → Sized launch
    → LaunchDemand3 launch (launch_outcome launch) (launch_steps launch) (own_after launch ++ global_after launch)
unfolding launch_run launch_outcome launch_steps
sized_demand3 launch t z =
    subst (LaunchDemand3 launch (launch_outcome launch) (launch_steps launch)) (sym (both_after launch))
    (demand3 launch.table (well_formed launch.table t) launch.sizes z.some_group_lem launch.cells z.cells_are launch.limit _ _)

-- Of a launch that a file gives.
pub file_demand3 : (file : List ℕ) (launch : Launch) → file_launch file ≡ accepted launch
    → LaunchDemand3 launch (launch_outcome launch) (launch_steps launch) (own_after launch ++ global_after launch)
file_demand3 file launch e = let a = accepted_file file launch e in sized_demand3 launch a.0 a.1

-- What a bare launch has that is not refused.
module _ (table : List ℕ) (Z : Sizes) (limit : ℕ) (lent_cells lent_global lent_log lent_records : List ℕ) where
  abbrev why : Option Refusal
  why = bare_refusal table Z limit lent_cells lent_global lent_log lent_records

  abbrev launch : Launch
  launch = bare_launch table Z limit lent_cells lent_global

  -- its numbers, its rows and what is lent are tested in this order
  pub bare_passes : why ≡ none
      → (bare_numbers (length table) Z limit ≡ none) × (table_refusal (rows_of table) ≡ none)
      × (bare_lent Z (length lent_cells) (length lent_global) (length lent_log) (length lent_records) ≡ none)
  unfolding bare_refusal first
  bare_passes e = let a = (or_else_none _ _).0 e in let b = (or_else_none _ _).0 a.1 in (a.0, b.0, ((or_else_none _ _).0 b.1).0)

  groups_tested : bare_numbers (length table) Z limit ≡ none → 1 ≤ Z.groups
  unfolding bare_numbers first
  groups_tested e =
      let a = ((or_else_none _ _).0 e).1 in
      let b = ((or_else_none _ _).0 a).1 in
      let c = ((or_else_none _ _).0 b).1 in
      let d = ((or_else_none _ _).0 c).1 in
      least Z.groups _ ((unless_none _ _).0 ((or_else_none _ _).0 d).0)
    where
      least : (n : ℕ) (b : Bool) → (leb 1 n && b) ≡ true → 1 ≤ n
      least zero b e = absurd (let z : ◌≡◌ {A = Bool} false true = e in let y : ◌≡◌ {A = ℕ} 0 1 = cc in omega arith)
      least (suc n) b e = omega arith

  lent_tested : bare_lent Z (length lent_cells) (length lent_global) (length lent_log) (length lent_records) ≡ none
      → (length lent_cells ≡ all_own Z) × (length lent_global ≡ Z.global)
  unfolding bare_lent first
  lent_tested e =
      let a = (or_else_none _ _).0 e in
      let b = (or_else_none _ _).0 a.1 in
      (eqb-true _ _ ((unless_none _ _).0 a.0), eqb-true _ _ ((unless_none _ _).0 b.0))

  pub bare_sized : why ≡ none → Sized launch
  unfolding bare_launch
  bare_sized e =
      let p = bare_passes e in
      let l = lent_tested p.2 in
      record { some_group_lem = groups_tested p.0; cells_are = length-append lent_cells lent_global ∙ ap₂ ◌+◌ l.0 l.1 }

  -- The counts at the front are the steps.
  steps_front : why ≡ none → (behind : List ℕ) → take (all_threads Z) (over (launch_steps launch) behind) ≡ launch_steps launch
  unfolding launch_steps bare_launch
  steps_front e behind =
      subst (λ k. take k (over (launch_steps launch) behind) ≡ launch_steps launch)
      (steps_long (rows_of table) Z limit (lent_cells ++ lent_global) (bare_sized e).some_group_lem) (front_of_lem (launch_steps launch) behind _ refl)

  -- A bare launch, of its answer and of the cells and the step counts that it leaves.
  pub bare_demand3 : (lent_steps : List ℕ) → BareDemand3 table Z limit lent_cells lent_global (bare_answer table Z limit lent_cells lent_global lent_log lent_records)
      (bare_cells table Z limit lent_cells lent_global lent_log lent_records) (bare_global table Z limit lent_cells lent_global lent_log lent_records)
      (bare_steps table Z limit lent_cells lent_global lent_log lent_records lent_steps)
  unfolding bare_answer bare_cells bare_global bare_steps answer_of kept_if
  bare_demand3 lent_steps = by why refl
    where
      by : (x : Option Refusal) → why ≡ x
          → BareDemand3 table Z limit lent_cells lent_global (answer_of x (launch_outcome launch)) (kept_if x lent_cells (own_after launch))
          (kept_if x lent_global (global_after launch)) (kept_if x lent_steps (over (launch_steps launch) (replicate max_launch_threads 0)))
      by none e =
          subst (λ steps. LaunchDemand3 launch (launch_outcome launch) steps (own_after launch ++ global_after launch)) (sym (steps_front e _))
          (sized_demand3 launch (unfold bare_launch in (bare_passes e).1) (bare_sized e))
      by (some r) e = tt
