-- One kernel's report behind the other's, and what both say. Assumes nothing.
use Rattle.std.specs.Prelude.{Result, Ok, Err}
use mathlib.Core.Path.{◌≡◌, refl, sym, ap, subst, ◌∙◌}
use mathlib.Core.List.{List, ◌++◌}
use Prim.Native.Nat.{ℕ, ◌+◌, ◌-◌, ◌<◌, ◌≤◌}
use native.Mathlib.Omega.{arith}
use borrow.Author.Tests.{le-leb, lt-leb}
use lib.ListN.{length, take, drop, length-drop}
use lib.Seq.{take_all}
use Rattle.spec.specs.declared.Refusal.TheVariants.{OutputLength}
use Rattle.spec.specs.declared.Refusal.{Refusal}
use denote.Ref.{Bor}
use Rattle.spec.specs.Answers.{unless, told, told_in}
use Rattle.spec.specs.Limits.{file_output, pair_output}
use Rattle.spec.specs.LaunchFile.{file_launch}
use Rattle.spec.specs.Entries.{over, kept_if, written_of, printed}
use Rattle.spec.specs.Demands.{OfWritten}
use Rattle.spec.specs.PairFiles.{common_cells, kernel_checked, kernel_launch, kernel_prints, pair_prints, pair_refusal, pair_answer, pair_output_after}
use Rattle.spec.specs.PairDemands.{PairDemand3}
use Rattle.spec.proofs.Laws.{front_of_lem}
use Rattle.readback.proofs.Pairs.{pair_demand3}
use Rattle.reportlines.proofs.Writing.{started, onward, part, back}
use Rattle.commonfile.specs.CommonRead.{answer_of}
use Rattle.commonfile.proofs.Prefix.{more_ignored}
use Rattle.kernelreport.specs.Kernels.{KernelReported}
use Rattle.pairfiles.specs.BothReports.{BothReported, CutShort}

-- What is left of a buffer behind its first bytes has room for so many.
pub rest_room : (k at : ℕ) (l : List ℕ) → at + k ≤ length l → k ≤ length (part at l)
rest_room k at l h = rw (take_all (length l - at) (drop at l) (simp length-drop (omega arith))) (simp length-drop (omega arith))

-- A kernel's report over the common cells is what is printed of its file.
module _ (file : List ℕ) (cells : Result (Bor (List ℕ)) Refusal) (same : common_cells file ≡ answer_of cells) where
  pub kernel_printed : (kernel output : List ℕ) (size : ℕ) (out : List ℕ)
      → KernelReported (kernel_checked (file_launch kernel) (answer_of cells)) output size out
      → (size ≡ length (kernel_prints kernel file)) × ((out ≡ over (kernel_prints kernel file) output) × (size ≤ file_output))
  unfolding kernel_prints kernel_launch
  kernel_printed kernel output size out K =
      let alike = ap (λ x. printed (kernel_checked (file_launch kernel) x)) (sym same) in
      (K.long ∙ ap length alike, (K.written ∙ ap (λ w. over w output) alike, K.fits))

module _ (filter trigger common output : List ℕ) (room : pair_output ≤ length output) where
  abbrev one : List ℕ
  one = kernel_prints filter common

  abbrev two : List ℕ
  two = kernel_prints trigger common

  -- The second report behind the first.
  pub both : (first second : ℕ) (after ys : List ℕ) → (first ≡ length one) × ((after ≡ over one output) × (first ≤ file_output))
      → (second ≡ length two) × ((ys ≡ over two (part first after)) × (second ≤ file_output))
      → BothReported filter trigger common output (first + second) (back first after ys)
  unfolding pair_prints
  both first second after ys f s =
      let S = onward {n = second} two ys (started {xs = output} {l = after} {v = one} {at = first} (omega (arith, f.0, f.1.1)) f.0 f.1.0)
      (omega (arith, f.1.1, s.0, s.1.1)) s.0 s.1.0 in
      record { long = S.ended; written = S.bytes; fits = omega (arith, f.1.1, s.1.1) }

  pub said : (r : ℕ) (out : List ℕ) → BothReported filter trigger common output r out → PairDemand3 filter trigger common (take r out)
  said r out B =
      subst (PairDemand3 filter trigger common) (sym (ap (λ k. take k out) B.long ∙ front_of_lem (pair_prints filter trigger common) output out B.written))
      (pair_demand3 filter trigger common)

pub cut_short : (filter trigger common : List ℕ) → CutShort filter trigger common
unfolding pair_prints kernel_prints kernel_launch
cut_short filter trigger common h more =
    let same = more_ignored common h more in
    ap (λ x. printed (kernel_checked (file_launch filter) x) ++ printed (kernel_checked (file_launch trigger) x)) same

-- The entry: refused for its output, or both reports.
pub record Entry (filter trigger common output : List ℕ) (r : Result ℕ Refusal) (out : List ℕ) : Type 0 where
  pub answer : r ≡ pair_answer filter trigger common output
  pub refusal : told_in r ≡ told (pair_refusal output)
  pub output_is : out ≡ pair_output_after filter trigger common output
  pub runs : OfWritten (PairDemand3 filter trigger common) r out
  pub enough : CutShort filter trigger common

module _ (filter trigger common output : List ℕ) where
  pub too_short : length output < pair_output → Entry filter trigger common output (Err OutputLength) output
  unfolding pair_answer pair_output_after pair_refusal unless kept_if written_of told told_in
  too_short h =
      let e = lt-leb pair_output (length output) h in
      record { answer = rw e refl; refusal = rw e refl; output_is = rw e refl; runs = tt; enough = cut_short filter trigger common }

  pub reported : pair_output ≤ length output → (size : ℕ) (out : List ℕ) → BothReported filter trigger common output size out → Entry filter trigger common output (Ok size) out
  unfolding pair_answer pair_output_after pair_refusal unless kept_if written_of told told_in
  reported room size out B =
      let e = le-leb pair_output (length output) room in
      record {
        answer = rw e (ap Ok B.long);
        refusal = rw e refl;
        output_is = rw e B.written;
        runs = said filter trigger common output room size out B;
        enough = cut_short filter trigger common;
      }
