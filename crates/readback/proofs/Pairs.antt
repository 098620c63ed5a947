-- The reports of two kernels, read from their bytes, speak for every run of both. Assumes nothing.
use mathlib.Core.Path.{◌≡◌, refl, sym, ap, ap₂, ◌∙◌}
use mathlib.Core.Logic.{◌⊎◌, inl, inr}
use mathlib.Core.Bool.{Bool, true, false, ◌||◌, false≢true}
use mathlib.Core.List.{List, [], ◌∷◌, ◌++◌}
use Prim.Native.Nat.{ℕ, ◌<◌, ◌≤◌}
use native.Mathlib.Omega.{arith}
use lib.ListN.{length, take, drop}
use lib.Seq.{take_at, drop_at, take-append-le}
use Rattle.spec.specs.Lists.{any_of, equal_list}
use Rattle.spec.specs.Text.{text}
use Rattle.spec.specs.Launch.{Launch}
use Rattle.spec.specs.Reading.{is_line, has_line, begins_with, EndsOnce}
use Rattle.spec.specs.Entries.{launch_report, printed}
use Rattle.spec.specs.PairFiles.{kernel_launch, kernel_prints, pair_prints}
use Rattle.spec.specs.PairDemands.{PassedPair, PairReport, Apart, PairDemand3}
use Rattle.spec.proofs.Laws.{lt_or_le}
use Rattle.allruns.proofs.PairTheorem.{well, alternating, says, kernel_demand3}
use Rattle.readback.proofs.Reports.{any_append}
use Rattle.readback.proofs.Runs.{checked_readable, checked_demand3, printed_for_lem, Sound, has_passed_lem, passed_report, exactly}

-- Two accepted kernels.
module _ (F G : Launch) (f : Sound F) (g : Sound G) where
  abbrev first : List ℕ
  first = launch_report F

  abbrev second : List ℕ
  second = launch_report G

  both_passed : begins_with "verdict=passed" first ≡ true → begins_with "verdict=passed" second ≡ true → PassedPair F G first second
  both_passed p q =
      let a = passed_report F f (has_passed_lem F f p) in
      let b = passed_report G g (has_passed_lem G g q) in
      record {
        filter = a;
        trigger = b;
        runs = (well F G).1 (a.runs, b.runs);
        says = says F G a.steps a.barriers (a.own ++ a.global) b.steps b.barriers (b.own ++ b.global) a.says b.says;
      }

  pub pair_report : PairReport F G first second
  pair_report =
      record {
        alternating = alternating F G;
        well = well F G;
        exactly = λ m n. (
          λ v. (well F G).1 ((exactly F f m).0 v.0, (exactly G g n).0 v.1),
          λ w. let e = (well F G).0 w in ((exactly F f m).1 e.0, (exactly G g n).1 e.1),
        );
        fails₁ = λ m n w. false≢true (sym n ∙ (exactly F f m).1 ((well F G).0 w).0);
        fails₂ = λ m n w. false≢true (sym n ∙ (exactly G g m).1 ((well F G).0 w).1);
        passed = both_passed;
      }

-- A report that ends once has its last line, and no shorter part of it has; so bytes come apart in one way.
or_right : (a b : Bool) → b ≡ true → (a || b) ≡ true
or_right true b e = refl
or_right false b e = e

is_end : any_of (is_line "end=report") (text "end=report" ∷ []) ≡ true
unfolding any_of is_line equal_list text
is_end = refl

has_end : (report : List ℕ) → EndsOnce report → has_line "end=report" report ≡ true
unfolding has_line
has_end report E =
    ap (any_of (is_line "end=report")) E.last ∙ any_append (is_line "end=report") E.before (text "end=report" ∷ [])
    ∙ or_right (any_of (is_line "end=report") E.before) _ is_end

not_shorter : (bytes first second first' second' : List ℕ) → Apart bytes first second → Apart bytes first' second' → length first < length first' → ⊥
not_shorter bytes first second first' second' A B l =
    let front : take (length first) first' ≡ first =
    sym (take-append-le (length first) first' second' (omega arith)) ∙ ap (take (length first)) (sym B.whole ∙ A.whole)
    ∙ take_at first second (length first) refl in
    false≢true (sym (B.first_ends.whole (length first) l) ∙ ap (has_line "end=report") front ∙ has_end first A.first_ends)

pub one_way : (bytes first second first' second' : List ℕ) → Apart bytes first second → Apart bytes first' second' → (first ≡ first') × (second ≡ second')
one_way bytes first second first' second' A B = by (lt_or_le (length first) (length first')) (lt_or_le (length first') (length first))
  where
    by : (length first < length first') ⊎ (length first' ≤ length first) → (length first' < length first) ⊎ (length first ≤ length first')
        → (first ≡ first') × (second ≡ second')
    by (inl l) q = absurd (not_shorter bytes first second first' second' A B l)
    by (inr h) (inl l) = absurd (not_shorter bytes first' second' first second B A l)
    by (inr h) (inr l) =
        let same : length first ≡ length first' = omega arith in
        let bytes-are = sym A.whole ∙ B.whole in (
          sym (take_at first second (length first) refl) ∙ ap₂ take same bytes-are ∙ take_at first' second' (length first') refl,
          sym (drop_at first second (length first) refl) ∙ ap₂ drop same bytes-are ∙ drop_at first' second' (length first') refl,
        )

module _ (filter trigger common : List ℕ) where
  kernel_ends : (file : List ℕ) → EndsOnce (kernel_prints file common)
  unfolding kernel_prints
  kernel_ends file = (checked_readable (kernel_launch file common)).ends

  both_apart : Apart (pair_prints filter trigger common) (kernel_prints filter common) (kernel_prints trigger common)
  unfolding pair_prints
  both_apart = record { whole = refl; first_ends = kernel_ends filter; second_ends = kernel_ends trigger }

  pub pair_demand3 : PairDemand3 filter trigger common (pair_prints filter trigger common)
  unfolding kernel_prints
  pair_demand3 =
      record {
        apart = both_apart;
        only = λ first second A. one_way (pair_prints filter trigger common) first second (kernel_prints filter common) (kernel_prints trigger common) A both_apart;
        reads₁ = checked_readable (kernel_launch filter common);
        reads₂ = checked_readable (kernel_launch trigger common);
        own₁ = checked_demand3 (kernel_launch filter common) (kernel_demand3 filter common);
        own₂ = checked_demand3 (kernel_launch trigger common) (kernel_demand3 trigger common);
        together = λ F G e q.
            printed_for_lem (kernel_launch filter common) (λ r. PairReport F G r (printed (kernel_launch trigger common))) F e
            (printed_for_lem (kernel_launch trigger common) (λ r. PairReport F G (launch_report F) r) G q
            (pair_report F G (kernel_demand3 filter common F e) (kernel_demand3 trigger common G q)));
      }

-- Each kernel's report depends on its own file and the common cells, and on nothing of the other's.
pub own_report : (filter trigger other common first second first' second' : List ℕ) → Apart (pair_prints filter trigger common) first second
    → Apart (pair_prints filter other common) first' second' → first ≡ first'
own_report filter trigger other common first second first' second' A B =
    ((pair_demand3 filter trigger common).only first second A).0 ∙ sym ((pair_demand3 filter other common).only first' second' B).0

pub own_report₂ : (filter other trigger common first second first' second' : List ℕ) → Apart (pair_prints filter trigger common) first second
    → Apart (pair_prints other trigger common) first' second' → second ≡ second'
own_report₂ filter other trigger common first second first' second' A B =
    ((pair_demand3 filter trigger common).only first second A).1 ∙ sym ((pair_demand3 other trigger common).only first' second' B).1
