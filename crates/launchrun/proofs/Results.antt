-- What a launch leaves, as the definitions say it of the launch. Assumes nothing.
use mathlib.Core.Path.{◌≡◌, sym, ◌∙◌, ap}
use mathlib.Core.List.{List, ◌++◌}
use Prim.Native.Nat.{ℕ}
use lib.ListN.{length, take, drop}
use lib.Seq.{take_at, drop_at}
use Rattle.spec.specs.declared.Outcome.{Outcome}
use Rattle.spec.specs.Shape.{Sizes, all_own}
use Rattle.spec.specs.Launch.{launch_run, launch_outcome, launch_intervals, launch_steps, launch_log, own_after, global_after, own_part, global_part}
use Rattle.spec.specs.Entries.{bare_launch}
use Rattle.launchrun.specs.Launches.{LaunchIs, RunIs}

pub run_is : (table : List ℕ) (Z : Sizes) (limit : ℕ) (cells global lent : List ℕ) (r : Outcome) (cells' global' log records steps : List ℕ)
    → length cells' ≡ all_own Z → LaunchIs table Z limit (cells ++ global) lent r cells' global' log records steps
    → RunIs (bare_launch table Z limit cells global) lent r cells' global' log records steps
unfolding bare_launch launch_run launch_outcome launch_intervals launch_steps launch_log own_after global_after own_part global_part
run_is table Z limit cells global lent r cells' global' log records steps own R =
    record {
      outcome_is = R.outcome_is;
      cells_are = sym (ap (take (all_own Z)) (sym R.cells_are) ∙ take_at cells' global' (all_own Z) own);
      global_are = sym (ap (drop (all_own Z)) (sym R.cells_are) ∙ drop_at cells' global' (all_own Z) own);
      log_is = R.log_is;
      records_are = R.records_are;
      steps_are = R.steps_are;
    }
