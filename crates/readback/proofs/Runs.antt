-- A file's report, read from its bytes, speaks for every run of its launch. Assumes nothing.
use mathlib.Core.Path.{◌≡◌, refl, sym, ap, subst, ◌∙◌}
use mathlib.Core.Logic.{◌↔◌}
use mathlib.Core.Bool.{true, false, false≢true}
use mathlib.Core.List.{List, [], ◌∷◌, ◌++◌}
use mathlib.Core.Option.{some}
use Prim.Native.Nat.{ℕ}
use Rattle.spec.specs.declared.Outcome.{Outcome}
use Rattle.spec.specs.declared.Refusal.{Refusal}
use Rattle.spec.specs.declared.Subject.TheVariants as subject
use Rattle.spec.specs.declared.Verdict.TheVariants.{Passed, Spent}
use Rattle.spec.specs.Answers.{refusal_number, refusal_place}
use Rattle.spec.specs.LockStep.{outcome_of}
use Rattle.spec.specs.Intervals.{conflicts_of}
use Rattle.spec.specs.AllRuns.{counted_in_all}
use Rattle.spec.specs.Launch.{Launch, launch_intervals, launch_outcome, launch_steps, own_after, global_after}
use Rattle.spec.specs.LaunchFile.{Checked, refused, accepted, file_launch}
use Rattle.spec.specs.Report.{report_of}
use Rattle.spec.specs.Reading.{begins_with, numbers_at, has_passed, Readable}
use Rattle.spec.specs.Answers.{is_passed}
use Rattle.spec.specs.Entries.{launch_report, printed, check_prints, subject_of}
use Rattle.spec.specs.Demands.{LaunchDemand3, RunsEndWell, counted_in, PassedReport, CheckedDemand3, ReportDemand3, FileReadable}
use Rattle.allruns.proofs.Launches.{file_demand3}
use Rattle.readback.proofs.Reports.{readable, begins_passed, begins_spent, spent_begins, only_passed, is_passed_lem}
use Rattle.readback.proofs.Reports.{steps_read, barriers_read, conflicts_read, rows_read, cells_read, global_read}

-- What is printed may be gone by as every report.
pub checked_readable : (found : Checked Launch) → Readable (subject_of found) (printed found)
unfolding subject_of printed launch_report report_of
checked_readable (refused why) = readable (subject.Refused (refusal_number why) (refusal_place why)) [] [] []
checked_readable (accepted launch) = readable (subject.Ran (launch_outcome launch)) (launch_steps launch) (own_after launch) (global_after launch)

pub file_readable : (file : List ℕ) → FileReadable file (check_prints file)
unfolding check_prints
file_readable file = checked_readable (file_launch file)

-- What a launch's own run comes to, as demand 3 has it.
abbrev pub Sound : Launch → Type 0
Sound launch = LaunchDemand3 launch (launch_outcome launch) (launch_steps launch) (own_after launch ++ global_after launch)

-- The report of an accepted launch.
module _ (launch : Launch) (demand : Sound launch) where
  abbrev outcome : Outcome
  outcome = launch_outcome launch

  abbrev steps : List ℕ
  steps = launch_steps launch

  abbrev own : List ℕ
  own = own_after launch

  abbrev global : List ℕ
  global = global_after launch

  pub has_passed_lem : begins_with "verdict=passed" (launch_report launch) ≡ true → outcome.verdict ≡ Passed
  unfolding launch_report
  has_passed_lem b = only_passed outcome.verdict (sym (begins_passed outcome steps own global) ∙ b)

  says_passed : outcome.verdict ≡ Passed → begins_with "verdict=passed" (launch_report launch) ≡ true
  unfolding launch_report
  says_passed p = begins_passed outcome steps own global ∙ is_passed_lem outcome.verdict p

  not_spent : outcome.verdict ≡ Passed → ¬ (outcome.verdict ≡ Spent)
  unfolding is_passed
  not_spent p q = false≢true (sym (ap is_passed q) ∙ is_passed_lem outcome.verdict p)

  unspent : begins_with "verdict=spent" (launch_report launch) ≡ false → ¬ (outcome.verdict ≡ Spent)
  unfolding launch_report
  unspent b q = false≢true (sym b ∙ spent_begins outcome steps own global q)

  pub passed_report : outcome.verdict ≡ Passed → PassedReport launch (launch_report launch)
  unfolding launch_report
  passed_report p =
      record {
        steps = steps;
        barriers = outcome.barriers;
        own = own;
        global = global;
        steps_lines = steps_read outcome steps own global;
        barriers_line = barriers_read outcome steps own global;
        cell_lines = cells_read outcome steps own global;
        gcell_lines = global_read outcome steps own global;
        runs = (demand.exactly (not_spent p)).0 p;
        says = demand.passed p;
      }

  pub exactly : begins_with "verdict=spent" (launch_report launch) ≡ false → begins_with "verdict=passed" (launch_report launch) ≡ true ↔ RunsEndWell launch
  exactly b = let iff = demand.exactly (unspent b) in (λ q. iff.0 (has_passed_lem q), λ r. says_passed (iff.1 r))

  counted : numbers_at "barriers" (launch_report launch) ≡ some (counted_in_all (counted_in launch)) ∷ []
  unfolding launch_report
  counted = barriers_read outcome steps own global ∙ ap (λ n. some n ∷ []) (sym demand.counted)

  spent : begins_with "verdict=spent" (launch_report launch) ≡ true → numbers_at "rows" (launch_report launch) ≡ some launch.limit ∷ []
  unfolding launch_report
  spent b = rows_read outcome steps own global ∙ ap (λ n. some n ∷ []) (demand.spent (begins_spent outcome steps own global b))

-- Under every verdict the `conflicts=` line says what the rows of all intervals cost.
pub conflicts_said : (launch : Launch) → numbers_at "conflicts" (launch_report launch) ≡ some (conflicts_of (launch_intervals launch)) ∷ []
unfolding launch_report launch_outcome outcome_of
conflicts_said launch = conflicts_read (launch_outcome launch) (launch_steps launch) (own_after launch) (global_after launch)

-- What is printed for an accepted launch is its report; what is printed for any other does not begin with `verdict=passed`.
pub launch_printed : (file : List ℕ) (launch : Launch) → file_launch file ≡ accepted launch → check_prints file ≡ launch_report launch
unfolding check_prints printed
launch_printed file launch e = ap printed e

module _ (found : Checked Launch) where
  pub printed_for_lem : (P : List ℕ → Type 0) (launch : Launch) → found ≡ accepted launch → P (launch_report launch) → P (printed found)
  unfolding printed
  printed_for_lem P launch e h = subst P (sym (ap printed e)) h

  refused_not : (why : Refusal) → found ≡ refused why → begins_with "verdict=passed" (printed found) ≡ false
  unfolding has_passed subject_of
  refused_not why e = (checked_readable found).begins ∙ ap (λ x. has_passed (subject_of x)) e

  module _ (sound : (launch : Launch) → found ≡ accepted launch → Sound launch) where
    passed : begins_with "verdict=passed" (printed found) ≡ true → (launch : Launch) × (found ≡ accepted launch) × PassedReport launch (printed found)
    passed b = by found refl
      where
        by : (x : Checked Launch) → found ≡ x → (launch : Launch) × (found ≡ accepted launch) × PassedReport launch (printed found)
        by (refused why) e = absurd (false≢true (sym (refused_not why e) ∙ b))
        by (accepted launch) e = (
          launch,
          e,
          printed_for_lem (λ r. begins_with "verdict=passed" r ≡ true → PassedReport launch r) launch e
              (λ q. passed_report launch (sound launch e) (has_passed_lem launch (sound launch e) q)) b,
        )

    pub checked_demand3 : CheckedDemand3 found (printed found)
    checked_demand3 =
        record {
          passed = passed;
          exactly = λ launch e.
              printed_for_lem (λ r. begins_with "verdict=spent" r ≡ false → begins_with "verdict=passed" r ≡ true ↔ RunsEndWell launch) launch e
              (exactly launch (sound launch e));
          counted = λ launch e.
              printed_for_lem (λ r. numbers_at "barriers" r ≡ some (counted_in_all (counted_in launch)) ∷ []) launch e (counted launch (sound launch e));
          spent = λ launch e.
              printed_for_lem (λ r. begins_with "verdict=spent" r ≡ true → numbers_at "rows" r ≡ some launch.limit ∷ []) launch e (spent launch (sound launch e));
        }

pub report_demand3 : (file : List ℕ) → ReportDemand3 file (check_prints file)
unfolding check_prints
report_demand3 file = checked_demand3 (file_launch file) (file_demand3 file)
