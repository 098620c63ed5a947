-- Every run of two kernels resident together, from every run of each. Assumes nothing.
use mathlib.Core.Path.{◌≡◌, refl, sym, ◌∙◌, ap, subst}
use mathlib.Core.Logic.{◌⊎◌, ◌↔◌}
use mathlib.Core.List.{List, ◌++◌}
use Prim.Native.Nat.{ℕ}
use native.Mathlib.Omega.{arith}
use Rattle.spec.specs.declared.Refusal.{Refusal}
use Rattle.spec.specs.AllRuns.{CompleteRun, EveryRunEndsWell, PassedSays}
use Rattle.spec.specs.Demands.{LaunchDemand3, counted_in}
use Rattle.spec.specs.Launch.{Launch, global_after, launch_outcome, launch_steps, own_after}
use Rattle.spec.specs.LaunchFile.{Checked, refused, accepted, file_launch}
use Rattle.spec.specs.PairFiles.{sharing, common_cells, kernel_checked, kernel_launch}
use Rattle.spec.specs.LaunchThreads.{Groups, Move}
use Rattle.spec.specs.PairRuns.{Alternating, CompletePair, PairEndsWell, PairSays, start_of, starts, threads_of, together}
use Rattle.spec.specs.Pairs.{firsts, seconds}
use Rattle.spec.specs.Runs.{RunsAlwaysEnd}
use Rattle.allruns.proofs.AcceptedFiles.{Sized, accepted_file}
use Rattle.allruns.proofs.Launches.{sized_demand3}
use Rattle.allruns.proofs.Lifted.{any_move}
use Rattle.allruns.proofs.Pairs.{always_both, always_first, always_second, both_after, both_run, first_run, first_shown, good_both, good_each, in_turns}
use Rattle.allruns.proofs.Pairs.{pair_length, second_run, second_shown, turns_after, turns_run}

abbrev Well : Launch → Type 0
Well F = EveryRunEndsWell F.table F.sizes F.cells

abbrev Complete : Launch → List Move → Type 0
Complete F ms = CompleteRun F.table F.sizes F.cells ms

module _ (F G : Launch) where
  abbrev ended_parts : (ms : List (Move ⊎ Move)) → CompletePair F G ms → Complete F (firsts ms) × Complete G (seconds ms)
  ended_parts ms c =
      let e = subst (together F G).Ended (both_after (threads_of F) (threads_of G) (start_of F) (start_of G) ms) c.1 in (
        (first_run (threads_of F) (threads_of G) (start_of F) (start_of G) ms c.0, e.0),
        (second_run (threads_of F) (threads_of G) (start_of F) (start_of G) ms c.0, e.1),
      )

  -- every run of both ends well exactly when every run of each does
  well_both : Well F → Well G → PairEndsWell F G
  well_both f g =
      record {
        always = all;
        never_bad = good_both (threads_of F) (threads_of G) (start_of F) (start_of G) f.never_bad g.never_bad;
        never_stuck = λ ms r s. s.unfinished (all.ends ms r s.halted);
      }
    where
      all : RunsAlwaysEnd (together F G) (starts F G)
      all = always_both (threads_of F) (threads_of G) (start_of F) (start_of G) f.always g.always

  well_first : PairEndsWell F G → Well F
  well_first w =
      record {
        always = all;
        never_bad = (good_each (threads_of F) (threads_of G) (start_of F) (start_of G) w.never_bad).0;
        never_stuck = λ ms r s. s.unfinished (all.ends ms r s.halted);
      }
    where
      all : RunsAlwaysEnd (threads_of F) (start_of F)
      all = always_first (threads_of F) (threads_of G) (any_move G.table G.sizes) (start_of F) (start_of G) w.always

  well_second : PairEndsWell F G → Well G
  well_second w =
      record {
        always = all;
        never_bad = (good_each (threads_of F) (threads_of G) (start_of F) (start_of G) w.never_bad).1;
        never_stuck = λ ms r s. s.unfinished (all.ends ms r s.halted);
      }
    where
      all : RunsAlwaysEnd (threads_of G) (start_of G)
      all = always_second (threads_of F) (threads_of G) (any_move F.table F.sizes) (start_of F) (start_of G) w.always

  pub well : PairEndsWell F G ↔ (Well F × Well G)
  well = (λ w. (well_first w, well_second w), λ w. well_both w.0 w.1)

  pub alternating : Alternating F G
  alternating =
      record {
        parts = λ ms. (
          λ r. (first_run (threads_of F) (threads_of G) (start_of F) (start_of G) ms r, second_run (threads_of F) (threads_of G) (start_of F) (start_of G) ms r),
          λ r. both_run (threads_of F) (threads_of G) (start_of F) (start_of G) ms r.0 r.1,
        );
        leave = both_after (threads_of F) (threads_of G) (start_of F) (start_of G);
      }

  -- What the two say, each passed, of the runs of both.
  module _ (steps₁ : List ℕ) (barriers₁ : ℕ) (final₁ steps₂ : List ℕ) (barriers₂ : ℕ) (final₂ : List ℕ)
      (f : PassedSays F.table F.sizes F.cells steps₁ barriers₁ final₁ (counted_in F))
      (g : PassedSays G.table G.sizes G.cells steps₂ barriers₂ final₂ (counted_in G)) where
    pub says : PairSays F G steps₁ barriers₁ final₁ steps₂ barriers₂ final₂
    says =
        record {
          moves = λ ms c.
              let e = ended_parts ms c in
              let a = f.moves (firsts ms) e.0 in
              let b = g.moves (seconds ms) e.1 in
              omega (arith, a, b, pair_length ms);
          filter = record {
            each = λ h t l k ms c. f.each h t l k (firsts ms) (ended_parts ms c).0;
            count = λ ms c. f.moves (firsts ms) (ended_parts ms c).0;
            releases = λ ms c. f.releases (firsts ms) (ended_parts ms c).0;
            meanwhile = λ h l ms r. f.meanwhile h l (firsts ms) ((alternating.parts ms).0 r).0;
            throughout = λ h l ms c. f.throughout h l (firsts ms) (ended_parts ms c).0;
            finally = λ ms c.
                ap (λ (S : Groups × Groups). S.0.cells) (alternating.leave ms) ∙ f.finally (firsts ms) (ended_parts ms c).0;
          };
          trigger = record {
            each = λ h t l k ms c. g.each h t l k (seconds ms) (ended_parts ms c).1;
            count = λ ms c. g.moves (seconds ms) (ended_parts ms c).1;
            releases = λ ms c. g.releases (seconds ms) (ended_parts ms c).1;
            meanwhile = λ h l ms r. g.meanwhile h l (seconds ms) ((alternating.parts ms).0 r).1;
            throughout = λ h l ms c. g.throughout h l (seconds ms) (ended_parts ms c).1;
            finally = λ ms c.
                ap (λ (S : Groups × Groups). S.1.cells) (alternating.leave ms) ∙ g.finally (seconds ms) (ended_parts ms c).1;
          };
          seen₁ = λ h ms. first_shown (threads_of F) (threads_of G) h (start_of F) (start_of G) ms;
          seen₂ = λ h ms. second_shown (threads_of F) (threads_of G) h (start_of F) (start_of G) ms;
          some_run =
              let a = f.some_run in
              let b = g.some_run in (
                in_turns a.0 b.0,
                (
                  turns_run (threads_of F) (threads_of G) (start_of F) (start_of G) a.0 b.0 a.1.0 b.1.0,
                  subst (together F G).Ended (sym (turns_after (threads_of F) (threads_of G) (start_of F) (start_of G) a.0 b.0)) (a.1.1, b.1.1),
                ),
              );
        }

-- A kernel that is not refused is a file's launch over common cells, and has its own demand 3.
never : {A : Type 0} (r : Refusal) (F : Launch) → refused r ≡ accepted F → A
never r F e = let z : ◌≡◌ {A = ℕ} 0 1 = cc in absurd (omega arith)

sized_sharing : (common : List ℕ) (launch : Launch) → Sized launch → Sized (sharing common launch)
sized_sharing common launch z = record { some_group_lem = z.some_group_lem; cells_are = z.cells_are }

pub kernel_demand3 : (file common : List ℕ) (F : Launch) → kernel_launch file common ≡ accepted F
    → LaunchDemand3 F (launch_outcome F) (launch_steps F) (own_after F ++ global_after F)
unfolding kernel_launch
kernel_demand3 file common F = by (file_launch file) refl (common_cells common)
  where
    by : (x : Checked Launch) → file_launch file ≡ x → (y : Checked (List ℕ)) → kernel_checked x y ≡ accepted F
        → LaunchDemand3 F (launch_outcome F) (launch_steps F) (own_after F ++ global_after F)
    by (refused r) q y e = never r F (unfold kernel_checked in e)
    by (accepted launch) q (refused r) e = never r F (unfold kernel_checked in e)
    by (accepted launch) q (accepted cells) e =
        let same : sharing cells launch ≡ F = is_shared cells launch (unfold kernel_checked in e) in
        let a = accepted_file file launch q in
        subst (λ K. LaunchDemand3 K (launch_outcome K) (launch_steps K) (own_after K ++ global_after K)) same
        (sized_demand3 (sharing cells launch) a.0 (sized_sharing cells launch a.1))
      where
        is_shared : (cs : List ℕ) (l : Launch) → accepted (sharing cs l) ≡ accepted F → sharing cs l ≡ F
        is_shared cs l e = cc
