-- A group's start: the buffers stand for its state, which is one of the threads' machine too. Assumes nothing.
use mathlib.Core.Path.{◌≡◌, refl, sym, ◌∙◌, ap, subst}
use mathlib.Core.List.{List, []}
use mathlib.Core.Bool.{Bool, true, false, ◌&&◌, ◌||◌, false≢true}
use Prim.Native.Nat.{ℕ, ◌+◌, ◌-◌, ◌*◌, ◌^◌, ◌<◌, ◌≤◌}
use native.Mathlib.Omega.{arith}
use borrow.Author.Tests.{leb-true, ltb-true}
use lib.Dec.{leb, ltb}
use lib.ListN.{length, get_or, replicate, length-replicate, get_or-replicate}
use Rattle.spec.specs.Limits.{log_per_cell}
use Rattle.spec.specs.Lists.{any_of}
use Rattle.spec.specs.Access.{Mode, reads, writes, adds}
use Rattle.spec.specs.Mask.{mask_word, has, any}
use Rattle.spec.specs.Log.{Log, masks_of, empty_log}
use Rattle.spec.specs.GroupLog.{group_conflict_mask}
use Rattle.spec.specs.Shape.{Shape, total, is_own, is_global, reaches}
use Rattle.spec.specs.Table.{Table, WellFormed}
use Rattle.spec.specs.LockStep.{LockState}
use Rattle.spec.specs.Threads.{Group, empty_record, initial_threads}
use Rattle.allruns.proofs.Bools.{and_left, and_right, below_none}
use Rattle.allruns.proofs.LogMatches.{BlankAt, in_mode, holds}
use Rattle.allruns.proofs.LogRecord.{replicate_has}
use Rattle.allruns.proofs.GroupMatches.{GroupMatches}
use Rattle.allruns.proofs.Rows.{Sim}
use Rattle.allruns.proofs.LockRun.{group_sim}
use Rattle.masks.proofs.Words.{word_all}
use Rattle.layout.specs.Memory.{Regs, Memory, LogIs}
use Rattle.layout.specs.Represents.{Saves}
use Rattle.layout.specs.Running.{start_state}
use Rattle.layout.specs.Views.{part, log_part, view_of, own_from, global_from}
use Rattle.layout.specs.Groups.{GroupStands}
use Rattle.layout.proofs.Parts.{part_at, part_size, log_part_masks, own_within, global_within}
use Rattle.layout.proofs.LogBuffer.{empty_is}
use Rattle.layout.proofs.Reach.{zeros_empty}
use Rattle.grouprun.specs.Groups.{GroupStart}

start_regs : (n : ℕ) → n ≤ 32 → Regs n (replicate n (replicate 16 0)) (replicate 512 0)
start_regs n l =
    record {
      size = length-replicate {A = ℕ} 512 0;
      threads = length-replicate n (replicate 16 0);
      sixteen = λ t h. ap length (get_or-replicate n t (replicate 16 0) [] h) ∙ length-replicate {A = ℕ} 16 0;
      at = λ t r h q. get_or-replicate {A = ℕ} 512 (r * 32 + t) 0 0 (omega arith)
          ∙ sym (ap (λ x. get_or x r 0) (get_or-replicate n t (replicate 16 0) [] h) ∙ get_or-replicate {A = ℕ} 16 r 0 0 q);
    }

-- An empty stretch of the log is blank at each of its places.
empty_masks : (n k : ℕ) (m : Mode) (c t : ℕ) → c < k → has (get_or (masks_of (empty_log n k) m) c []) t ≡ false
unfolding masks_of empty_log
empty_masks n k reads c t l = ap (λ x. has x t) (get_or-replicate k c (replicate n false) [] l) ∙ replicate_has n t
empty_masks n k writes c t l = ap (λ x. has x t) (get_or-replicate k c (replicate n false) [] l) ∙ replicate_has n t
empty_masks n k adds c t l = ap (λ x. has x t) (get_or-replicate k c (replicate n false) [] l) ∙ replicate_has n t

blank_part : (n a k : ℕ) (G : Log) → log_part a k G ≡ empty_log n k → (c : ℕ) → c < k → BlankAt G (a + c)
blank_part n a k G e c l =
    record {
      unmet = λ m t. ap (λ x. has x t) (sym (part_at a k (masks_of G m) c [] l)) ∙ ap (λ ms. has (get_or ms c []) t) (sym (log_part_masks a k G m))
          ∙ ap (λ P. has (get_or (masks_of P m) c []) t) e ∙ empty_masks n k m c t l;
      unmarked = sym (part_at a k G.marks c false l) ∙ (unfold log_part empty_log in (ap (λ P. get_or P.marks c false) e ∙ get_or-replicate k c false false l));
    }

module _ (n group rows barriers : ℕ) (common cells global masks : List ℕ) (L : Shape) (z : LockState) (S : GroupStart n group rows barriers common cells global masks L z) where
  blank : (i : ℕ) → i < total L → reaches L i ≡ true → BlankAt z.log i
  unfolding reaches is_own is_global total
  blank i l e = by (leb (own_from L) i && ltb i (own_from L + L.cells)) refl (leb (global_from L) i) refl e
    where
      at : (a k : ℕ) → log_part a k z.log ≡ empty_log L.threads k → a ≤ i → i < a + k → BlankAt z.log i
      at a k q h m = subst (BlankAt z.log) (let y : a + (i - a) ≡ i = omega arith in y) (blank_part L.threads a k z.log q (i - a) (omega arith))

      by : (b : Bool) → (leb (own_from L) i && ltb i (own_from L + L.cells)) ≡ b → (d : Bool) → leb (global_from L) i ≡ d → (b || d) ≡ true → BlankAt z.log i
      by true p d q f = at (own_from L) L.cells S.own_log (leb-true _ _ (and_left _ _ p)) (ltb-true _ _ (and_right (leb (own_from L) i) _ p))
      by false p true q f = at (global_from L) L.global S.global_log (leb-true _ _ q) l
      by false p false q f = absurd (false≢true f)

  -- the group of the threads' machine: what others bar to it is read off the group masks
  abbrev pub group_of : Table → Group
  group_of T =
      record {
        threads = initial_threads T L.threads;
        cells = z.cells;
        made = empty_record;
        ever = empty_record;
        barred = λ a. is_global L a.cell && any (group_conflict_mask z.group_log a.cell L.group a.kind);
        bad = false;
      }

  matches : GroupMatches L (total L) empty_record (λ a. is_global L a.cell && any (group_conflict_mask z.group_log a.cell L.group a.kind)) z.group_log
  matches =
      record {
        sized = record { count = λ m. (S.sized.groups_are m).count; size = λ m i l. (S.sized.groups_are m).each i l };
        own = λ m i l q. S.unentered m i ∙ sym ((below_none L.threads (λ t. holds (in_mode m) i (empty_record t))).1 (λ t h. unfold holds empty_record any_of in refl));
        others = λ i x l. refl;
      }

  pub starts_sim : (T : Table) → WellFormed T → Sim T L z [] (group_of T)
  starts_sim T w =
      group_sim T w L z (group_of T)
      (record {
        numbered = S.sized.group_in;
        first = S.row_is_lem;
        enabled = S.enabled_is_lem;
        saved = S.saved_is;
        regs = S.regs_are;
        threads = refl;
        cells = refl;
        celled = S.sized.cells_are;
        made = refl;
        good = refl;
        sized = record {
          count = λ m. (S.sized.masks_are m).count;
          size = λ m c l. (S.sized.masks_are m).each c l;
          value_count = S.sized.values_are;
          mark_count = S.sized.marks_are;
        };
        blank = blank;
        groups = matches;
      })

  -- a stretch whose log is empty, in buffers of its own
  stretch : (a k : ℕ) (held log : List ℕ) → a + k ≤ total L → held ≡ part a k z.cells → log_part a k z.log ≡ empty_log L.threads k
      → log ≡ replicate (log_per_cell * k) 0 → L.threads ≤ 32 → Memory L.threads (view_of a k z) (replicate 512 0) held log
  unfolding view_of
  stretch a k held log h e q w few =
      record {
        few = few;
        regs_are = subst (λ rs. Regs L.threads rs (replicate 512 0)) (sym S.regs_are) (start_regs L.threads few);
        cells_are = e;
        log_is = subst (λ j. LogIs L.threads j (log_part a k z.log) log) (sym (part_size a k z.cells (omega (arith, S.sized.cells_are))))
            (subst (λ G. LogIs L.threads k G log) (sym q) (empty_is L.threads k log w));
      }

  own_count : length cells ≡ L.cells
  own_count =
      ap length S.cells_are ∙ part_size (own_from L) L.cells z.cells (omega (arith, S.sized.cells_are, own_within L z S.sized))

  global_count : length global ≡ L.global
  global_count =
      ap length S.global_are ∙ part_size (global_from L) L.global z.cells (omega (arith, S.sized.cells_are, global_within L z S.sized))

  pub starts_stand : n ≤ 32 → (log shared : List ℕ) → log ≡ replicate (log_per_cell * length cells) 0 → shared ≡ replicate (log_per_cell * length global) 0
      → GroupStands L z (start_state (2 ^ n - 1) rows barriers) (replicate 512 0) cells log (replicate 8 0) (replicate 8 0) global shared masks
  unfolding view_of
  starts_stand l log shared el es =
      let few : L.threads ≤ 32 = subst (λ k. k ≤ 32) (sym S.threads_are) l in
      let zeros : ℕ → List ℕ = λ k. replicate (log_per_cell * k) 0 in
      record {
        own = record {
          memory = stretch (own_from L) L.cells cells log (own_within L z S.sized) S.cells_are S.own_log (el ∙ ap zeros own_count) few;
          row_is_lem = sym S.row_is_lem;
          enabled_is_lem = ap (λ k. 2 ^ k - 1) (sym S.threads_are) ∙ sym (ap mask_word S.enabled_is_lem ∙ word_all L.threads);
          enabled_size = ap length S.enabled_is_lem ∙ length-replicate L.threads true;
          depth_is = sym (ap length S.saved_is);
          saves = subst (λ v. Saves L.threads v (replicate 8 0) (replicate 8 0)) (sym S.saved_is) tt;
          saved_size = refl;
          openers_size = refl;
          rows_is = S.rows_is;
          barriers_is = S.barriers_is;
          reach_is = zeros_empty 0 (length cells) (log_per_cell * length cells) log el;
        };
        globals = record {
          sized = S.sized;
          groups_few = S.groups_few;
          memory = stretch (global_from L) L.global global shared (global_within L z S.sized) S.global_are S.global_log (es ∙ ap zeros global_count) few;
          masks_are = S.masks_are;
        };
      }
