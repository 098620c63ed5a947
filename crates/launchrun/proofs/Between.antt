-- The state that a group's run leaves, from that in which it started: other groups' cells, logs and group masks are as they were. Assumes nothing.
use mathlib.Core.Path.{◌≡◌, refl, sym, ◌∙◌, ap, ap₂}
use mathlib.Core.Logic.{◌⊎◌, inl, inr}
use mathlib.Core.List.{[]}
use mathlib.Core.Bool.{true, false, ◌&&◌, ◌||◌}
use Prim.Native.Nat.{ℕ, suc, ◌+◌, ◌<◌, ◌≤◌}
use native.Mathlib.Omega.{arith}
use borrow.Author.Tests.{le-leb, lt-leb, le-ltb}
use lib.Dec.{leb, ltb}
use lib.ListN.{get_or}
use Rattle.spec.specs.Access.{Mode}
use Rattle.spec.specs.Log.{Log, empty_log, cleared}
use Rattle.spec.specs.GroupLog.{group_masks_of}
use Rattle.spec.specs.Shape.{Sizes, Shape, shape_of, total, is_own, is_global, reaches}
use Rattle.spec.specs.LockStep.{LockState}
use Rattle.spec.specs.LaunchRun.{next_start}
use Rattle.allruns.proofs.LockInvariants.{RunKeeps}
use Rattle.layout.specs.Views.{part, put_part, log_part, put_log, own_from, global_from, Sized}
use Rattle.layout.proofs.Parts.{LogFits, sized_fits, own_before, own_within, global_within, log_part_fits, put_log_fits, put_log_part, put_log_put, put_log_apart}
use Rattle.layout.proofs.Parts.{cleared_put, cleared_nowhere, cleared_like, log_cleared_fits}
use Rattle.launchrun.proofs.Stretches.{two_parts, two_logs, all_cleared}

module _ (Z : Sizes) (g : ℕ) (s z : LockState) (S : Sized (shape_of Z g) s) (Y : Sized (shape_of Z g) z) (K : RunKeeps (shape_of Z g) s z) where
  abbrev L : Shape
  L = shape_of Z g

  abbrev n : ℕ
  n = Z.threads

  abbrev own : ℕ
  own = own_from L

  abbrev from : ℕ
  from = global_from L

  unreached : (i : ℕ) → (i < own) ⊎ (own + Z.cells ≤ i) → i < from → reaches L i ≡ false
  unfolding reaches is_own is_global
  unreached i (inl p) q = ap (λ b. (b && ltb i (own + Z.cells)) || leb from i) (lt-leb own i p) ∙ lt-leb from i q
  unreached i (inr p) q = ap₂ (λ a b. (a && b) || leb from i) (le-leb own i (omega arith)) (le-ltb i (own + Z.cells) p) ∙ lt-leb from i q

  pub cells_rebuilt : z.cells ≡ put_part own (part own Z.cells z.cells) (put_part from (part from Z.global z.cells) s.cells)
  unfolding total
  cells_rebuilt =
      two_parts 0 own Z.cells from Z.global s.cells z.cells K.cell_count (own_before L s S) (sym S.cells_are) (λ i o l. K.cell_at i (unreached i o l))

  F : LogFits n (total L) s.log
  F = (sized_fits L s S).log_fits

  H : LogFits n (total L) z.log
  H = (sized_fits L z Y).log_fits

  pub log_rebuilt : z.log ≡ put_log own (log_part own Z.cells z.log) (put_log from (log_part from Z.global z.log) s.log)
  unfolding total
  log_rebuilt =
      two_logs n own Z.cells from Z.global (total L) s.log z.log F H (own_before L s S) refl
      (λ i o l u. (K.log_at i (unreached i o l)).masks u) (λ i o l. (K.log_at i (unreached i o l)).value) (λ i o l. (K.log_at i (unreached i o l)).mark)

  local_global : (i : ℕ) → i < from → is_global L i ≡ false
  unfolding is_global
  local_global i l = lt-leb from i l

  pub masks_kept : (i : ℕ) → i < from → (u : Mode) → get_or (group_masks_of z.group_log u) i [] ≡ get_or (group_masks_of s.group_log u) i []
  masks_kept i l u = K.groups.elsewhere u i (local_global i l)

  own_fits : LogFits n Z.cells (log_part own Z.cells z.log)
  own_fits = log_part_fits n (total L) z.log H own Z.cells (own_within L s S)

  global_fits : LogFits n Z.global (log_part from Z.global z.log)
  global_fits = log_part_fits n (total L) z.log H from Z.global (global_within L s S)

  -- the next group's start clears the log of the global cells, which is empty at every start
  pub next_log : log_part from Z.global s.log ≡ empty_log n Z.global → cleared (is_global L) z.log ≡ put_log own (log_part own Z.cells z.log) s.log
  next_log e =
      cleared_put n (total L) z.log H (is_global L) (λ i. false) from Z.global (global_within L s S) local_global (λ i a l. absurd (beyond i a l))
      ∙ ap₂ (put_log from) wiped (cleared_nowhere n (total L) z.log H (λ i. false) (λ c l. refl))
      ∙ ap (put_log from empty) log_rebuilt
      ∙ sym (put_log_apart n (total L) (put_log from shared s.log) shared_in own Z.cells P own_fits (own_within L s S) from Z.global empty empty_fits (own_before L s S)
      (global_within L s S))
      ∙ ap (put_log own P) (put_log_put n (total L) s.log F from Z.global shared global_fits (global_within L s S) empty empty_fits
      ∙ put_log_part n (total L) s.log F from Z.global (global_within L s S))
    where
      P : Log
      P = log_part own Z.cells z.log

      shared : Log
      shared = log_part from Z.global z.log

      empty : Log
      empty = log_part from Z.global s.log

      empty_fits : LogFits n Z.global empty
      empty_fits = log_part_fits n (total L) s.log F from Z.global (global_within L s S)

      shared_in : LogFits n (total L) (put_log from shared s.log)
      shared_in = put_log_fits n (total L) s.log F from Z.global shared global_fits (global_within L s S)

      beyond : (i : ℕ) → from + Z.global ≤ i → i < total L → ⊥
      beyond i a l = unfold total in omega arith

      wiped : cleared (λ c. is_global L (from + c)) shared ≡ empty
      wiped =
          unfold is_global in
          (cleared_like n Z.global shared global_fits (λ c. leb from (from + c)) (λ c. true) (λ c l. le-leb from (from + c) (omega arith))
          ∙ all_cleared n Z.global shared global_fits ∙ sym e)

  pub next_sized : suc g < Z.groups → Sized (shape_of Z (suc g)) (next_start (shape_of Z (suc g)) z)
  unfolding next_start total
  next_sized l =
      let C = log_cleared_fits n (total L) z.log H (is_global (shape_of Z (suc g))) in
      record {
        group_in = l;
        cells_are = Y.cells_are;
        masks_are = C.masks_fit;
        values_are = C.values_fit;
        marks_are = C.marks_fit;
        groups_are = Y.groups_are;
      }

  -- the whole log, put together from the parts
  pub whole_log : z.log ≡ put_log from (log_part from Z.global z.log) (put_log own (log_part own Z.cells z.log) s.log)
  whole_log =
      log_rebuilt ∙ put_log_apart n (total L) s.log F own Z.cells (log_part own Z.cells z.log) own_fits (own_within L s S) from Z.global
      (log_part from Z.global z.log) global_fits (own_before L s S) (global_within L s S)
