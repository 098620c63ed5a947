-- The cases of a kernel's report: its own refusal, the common file's, its run. Assumes nothing.
use mathlib.Core.Path.{◌≡◌, ap, ap₂, ◌∙◌}
use mathlib.Core.List.{List}
use Prim.Native.Nat.{ℕ, ◌≤◌}
use lib.ListN.{length}
use denote.Ref.{Bor}
use Rattle.std.specs.Prelude.{Result, Ok, Err}
use Rattle.spec.specs.declared.Refusal.{Refusal}
use Rattle.spec.specs.Answers.{refusal_number, refusal_place}
use Rattle.spec.specs.Limits.{file_output}
use Rattle.spec.specs.Launch.{Launch}
use Rattle.spec.specs.LaunchFile.{Checked, refused, accepted, file_launch}
use Rattle.spec.specs.Report.{refusal_report}
use Rattle.spec.specs.Entries.{over, printed}
use Rattle.spec.specs.PairFiles.{kernel_checked}
use Rattle.commonfile.specs.CommonRead.{answer_of}
use Rattle.filelaunch.specs.declared.Found.{Found}
use Rattle.filelaunch.specs.declared.Loaded.{Loaded}
use Rattle.filelaunch.specs.Founds.{FoundLaunch, LoadedFrom}
use Rattle.filerun.proofs.Founds.{launch_is}
use Rattle.ownrun.specs.OwnRuns.{OwnReport}
use Rattle.kernelreport.specs.Kernels.{KernelReported}

-- The report of a refusal at the front of the output is that of what was refused.
refused_report : (x : Checked Launch) (why : Refusal) → x ≡ refused why → {output : List ℕ} {size : ℕ} {out : List ℕ}
    → size ≡ length (refusal_report (refusal_number why) (refusal_place why)) → out ≡ over (refusal_report (refusal_number why) (refusal_place why)) output
    → size ≤ file_output → KernelReported x output size out
unfolding printed
refused_report x why e long written fits = rw e (record { long = long; written = written; fits = fits })

abbrev checked : List ℕ → Result (Bor (List ℕ)) Refusal → Checked Launch
checked file common = kernel_checked (file_launch file) (answer_of common)

module _ (file : List ℕ) (common : Result (Bor (List ℕ)) Refusal) {output : List ℕ} {size : ℕ} {out : List ℕ} where
  pub own_refused : {why : Refusal} → file_launch file ≡ refused why
      → size ≡ length (refusal_report (refusal_number why) (refusal_place why)) → out ≡ over (refusal_report (refusal_number why) (refusal_place why)) output
      → size ≤ file_output → KernelReported (checked file common) output size out
  unfolding kernel_checked
  own_refused e = refused_report (checked file common) _ (ap (λ x. kernel_checked x (answer_of common)) e)

  module _ {f : Found} (F : FoundLaunch file f.launch f.ends) where
    pub common_refused : {why : Refusal} → common ≡ Err why
        → size ≡ length (refusal_report (refusal_number why) (refusal_place why)) → out ≡ over (refusal_report (refusal_number why) (refusal_place why)) output
        → size ≤ file_output → KernelReported (checked file common) output size out
    unfolding kernel_checked
    common_refused e = refused_report (checked file common) _ (ap₂ kernel_checked F.launch_is (ap answer_of e))

    -- Its run is that of the file's launch over the common cells.
    pub ran : {cells : Bor (List ℕ)} {l : Loaded} → common ≡ Ok cells → LoadedFrom f cells.now l → OwnReport l output size out → KernelReported (checked file common) output size out
    unfolding kernel_checked printed
    ran e L R =
        rw (ap₂ kernel_checked F.launch_is (ap answer_of e) ∙ ap accepted (launch_is L)) (record { long = R.long; written = R.written; fits = R.fits })
