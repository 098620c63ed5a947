-- A launch at its start: group 0 is to start, and nothing is logged. Assumes nothing.
use mathlib.Core.Path.{◌≡◌, refl, sym, ◌∙◌, ap, subst}
use mathlib.Core.Logic.{◌⊎◌, inl, inr}
use mathlib.Core.List.{List, [], ◌∷◌, ◌++◌, map}
use mathlib.Core.Bool.{false}
use Prim.Native.Nat.{ℕ, zero, suc, ◌+◌, ◌-◌, ◌*◌, ◌<◌, ◌≤◌, min}
use native.Mathlib.Omega.{arith}
use native.Mathlib.Nat.{suc-mul, mul-le-mul_right}
use lib.ListN.{length, get_or, replicate, take, drop, length-append, length-take, length-replicate, get_or-replicate, get_or-eq_default}
use lib.Seq.{ext_get_or, take_all, drop-append_seam}
use Rattle.spec.specs.Access.{Mode, reads, writes, adds}
use Rattle.spec.specs.Limits.{log_per_cell, records_lent, max_records, groups_per_cell}
use Rattle.spec.specs.Lists.{joined}
use Rattle.spec.specs.Mask.{has}
use Rattle.spec.specs.Log.{masks_of, empty_log, log_words}
use Rattle.spec.specs.GroupLog.{group_masks_of, empty_group_log, group_words}
use Rattle.spec.specs.Shape.{Sizes, Shape, shape_of, total}
use Rattle.spec.specs.Table.{Table, rows_of}
use Rattle.spec.specs.LockStep.{LockState, initial_state}
use Rattle.spec.specs.LaunchRun.{group_runs, rows_left}
use Rattle.spec.specs.Intervals.{Interval, Intervals, all_of, intervals_from, records_of, record_words, interval_records}
use Rattle.spec.proofs.Laws.{lt_or_le}
use Rattle.allruns.proofs.LogRecord.{replicate_has}
use Rattle.layout.specs.Memory.{Masks}
use Rattle.layout.specs.Views.{part, log_part, global_from, Sized}
use Rattle.layout.specs.Shared.{group_part}
use Rattle.layout.proofs.Parts.{part_at, part_size, same_log}
use Rattle.layout.proofs.GlobalTurn.{same_groups}
use Rattle.layout.proofs.LogBuffer.{empty_is}
use Rattle.banks.specs.Counting.{Older}
use Rattle.banks.specs.Remembering.{Memo}
use Rattle.intervals.specs.Records.{begun}
use Rattle.intervals.proofs.Ledger.{ledger_start, over_begun}
use Rattle.spec.specs.Entries.{over}
use Rattle.grouprun.specs.Groups.{GroupStart, followed}
use Rattle.grouprun.proofs.Recording.{intervals_start}
use Rattle.placing.proofs.Logs.{empty_log_words, empty_group_words}
use Rattle.spec.specs.declared.Outcome.{Outcome}
use Rattle.launchrun.specs.Launches.{LaunchIs}
use Rattle.launchrun.proofs.Buffers.{Buffers}
use Rattle.launchrun.proofs.Launching.{Launched, later, intervals_of, runs_split, part_front, zeros_more, empty_groups_masks}

part_replicate : {A : Type 0} (d x : A) (a k t : ℕ) → a + k ≤ t → part a k (replicate t x) ≡ replicate k x
part_replicate d x a k t h =
    ext_get_or d (part a k (replicate t x)) (replicate k x) (size ∙ sym (length-replicate k x))
    (λ i l. part_at a k (replicate t x) i d (omega (arith, size)) ∙ get_or-replicate t (a + i) x d (omega (arith, size)) ∙ sym (get_or-replicate k i x d (omega (arith, size))))
  where
    size : length (part a k (replicate t x)) ≡ k
    size = part_size a k (replicate t x) (omega (arith, length-replicate t x))

-- Stretches of an empty log, and of empty group masks.
empty_part : (n a k t : ℕ) → a + k ≤ t → log_part a k (empty_log n t) ≡ empty_log n k
unfolding log_part empty_log masks_of
empty_part n a k t h =
    same_log (log_part a k (empty_log n t)) (empty_log n k) masks (part_replicate 0 0 a k t h) (part_replicate false false a k t h)
  where
    none : part a k (replicate t (replicate n false)) ≡ replicate k (replicate n false)
    none = part_replicate [] (replicate n false) a k t h

    masks : (u : Mode) → masks_of (log_part a k (empty_log n t)) u ≡ masks_of (empty_log n k) u
    masks reads = none
    masks writes = none
    masks adds = none

empty_group_part : (n a k t : ℕ) → a + k ≤ t → group_part a k (empty_group_log n t) ≡ empty_group_log n k
unfolding group_part empty_group_log group_masks_of
empty_group_part n a k t h = same_groups (group_part a k (empty_group_log n t)) (empty_group_log n k) masks
  where
    none : part a k (replicate t (replicate n false)) ≡ replicate k (replicate n false)
    none = part_replicate [] (replicate n false) a k t h

    masks : (u : Mode) → group_masks_of (group_part a k (empty_group_log n t)) u ≡ group_masks_of (empty_group_log n k) u
    masks reads = none
    masks writes = none
    masks adds = none

nobody_in : (n k i h : ℕ) → has (get_or (replicate k (replicate n false)) i []) h ≡ false
unfolding has
nobody_in n k i h = by (lt_or_le i k)
  where
    by : (i < k) ⊎ (k ≤ i) → has (get_or (replicate k (replicate n false)) i []) h ≡ false
    by (inl l) = ap (λ m. has m h) (get_or-replicate k i (replicate n false) [] l) ∙ replicate_has n h
    by (inr l) = ap (λ m. has m h) (get_or-eq_default (replicate k (replicate n false)) [] (omega (arith, length-replicate k (replicate n false))))

none_entered : (n k : ℕ) (u : Mode) (i h : ℕ) → has (get_or (group_masks_of (empty_group_log n k) u) i []) h ≡ false
unfolding group_masks_of empty_group_log
none_entered n k reads i h = nobody_in n k i h
none_entered n k writes i h = nobody_in n k i h
none_entered n k adds i h = nobody_in n k i h

module _ (table : List ℕ) (Z : Sizes) (limit : ℕ) (W : Buffers) (some : 1 ≤ Z.groups) (few : Z.groups ≤ 8)
    (cells_long_lem : length W.cells ≡ Z.groups * Z.cells) (global_long_lem : length W.global ≡ Z.global) where
  abbrev cells : List ℕ
  cells = W.cells

  abbrev global : List ℕ
  global = W.global

  abbrev T : Table
  T = rows_of table

  abbrev all : List ℕ
  all = cells ++ global

  abbrev t : ℕ
  t = Z.groups * Z.cells + Z.global

  abbrev s : LockState
  s = initial_state Z all

  abbrev L : Shape
  L = shape_of Z 0

  abbrev j : ℕ
  j = Z.groups - 1

  all_long : length all ≡ t
  all_long = length-append cells global ∙ (let y : length cells + length global ≡ t = omega (arith, cells_long_lem, global_long_lem) in y)

  log_is : s.log ≡ empty_log Z.threads t
  unfolding initial_state
  log_is = ap (empty_log Z.threads) all_long

  masks_are : s.group_log ≡ empty_group_log Z.groups t
  unfolding initial_state
  masks_are = ap (empty_group_log Z.groups) all_long

  sized : Sized L s
  unfolding total
  sized =
      let I = empty_is Z.threads t _ refl in
      record {
        group_in = some;
        cells_are = unfold initial_state in all_long;
        masks_are = λ m. subst (λ G. Masks Z.threads t (masks_of G m)) (sym log_is) (I.masks_are m);
        values_are = ap (λ G. length G.values) log_is ∙ I.values_are;
        marks_are = ap (λ G. length G.marks) log_is ∙ I.marks_are;
        groups_are = λ m. subst (λ H. Masks Z.groups t (group_masks_of H m)) (sym masks_are) (empty_groups_masks Z.groups t m);
      }

  own_in : (h : ℕ) → h < Z.groups → h * Z.cells + Z.cells ≤ t
  own_in h l =
      let a = mul-le-mul_right Z.cells l in
      let e = suc-mul h Z.cells in
      omega (arith, a, e)

  own_empty : (h : ℕ) → h < Z.groups → log_part (h * Z.cells) Z.cells s.log ≡ empty_log Z.threads Z.cells
  own_empty h l = ap (log_part (h * Z.cells) Z.cells) log_is ∙ empty_part Z.threads (h * Z.cells) Z.cells t (own_in h l)

  unentered : (h : ℕ) (u : Mode) (i : ℕ) → has (get_or (group_masks_of s.group_log u) i []) h ≡ false
  unentered h u i = ap (λ H. has (get_or (group_masks_of H u) i []) h) masks_are ∙ none_entered Z.groups t u i h

  global_here : global ≡ part (global_from L) Z.global all
  unfolding part
  global_here =
      sym (ap (λ i. take Z.global (drop i (cells ++ global))) (sym cells_long_lem) ∙ ap (take Z.global) (drop-append_seam cells global)
      ∙ take_all Z.global global (omega (arith, global_long_lem)))

  start : (masks : List ℕ) → masks ≡ replicate (groups_per_cell * Z.global) 0
      → GroupStart Z.threads 0 0 0 Z.common (part (0 * Z.cells) Z.cells cells) global masks L s
  start masks em =
      record {
        threads_are = refl;
        group_is = refl;
        groups_few = few;
        common_are = refl;
        sized = sized;
        row_is_lem = unfold initial_state in refl;
        enabled_is_lem = unfold initial_state in refl;
        saved_is = unfold initial_state in refl;
        regs_are = unfold initial_state in refl;
        steps_are = unfold initial_state in refl;
        own_log = own_empty 0 some;
        global_log = ap (log_part (global_from L) Z.global) log_is ∙ empty_part Z.threads (global_from L) Z.global t (omega arith);
        unentered = λ u i. unentered 0 u i;
        cells_are = unfold initial_state in (part_front (0 * Z.cells) Z.cells cells global (let h = own_in 0 some in own_first));
        global_are = unfold initial_state in global_here;
        masks_are = em ∙ sym (ap (λ H. group_words (group_part (global_from L) Z.global H)) masks_are
            ∙ ap group_words (empty_group_part Z.groups (global_from L) Z.global t (omega arith)) ∙ empty_group_words Z.groups Z.global);
        rows_is = unfold initial_state in refl;
        barriers_is = unfold initial_state in refl;
      }
    where
      own_first : 0 * Z.cells + Z.cells ≤ length cells
      own_first = let a = mul-le-mul_right Z.cells some in let e = suc-mul 0 Z.cells in omega (arith, a, e, cells_long_lem)

  pub launched_start : (lent : List ℕ) → records_lent ≤ length lent
      → W.log ≡ replicate ((log_per_cell + groups_per_cell) * t) 0 → W.masks ≡ replicate (groups_per_cell * Z.global) 0 → W.records ≡ begun 0 0 0 lent
      → W.steps ≡ replicate 256 0 → Older 1 W.stamps → Memo W.memo → Launched table Z limit all lent j 0 0 0 W
  launched_start lent h el em er es O M =
      record {
        state = s;
        before = [];
        behind = omega (arith, some);
        runs_are = unfold group_runs in refl;
        count = refl;
        done_long = unfold joined in (let y : ◌≡◌ {A = ℕ} 0 (0 * Z.threads) = omega arith in y);
        start = start W.masks em;
        cells_are = unfold initial_state in refl;
        cells_long_lem = cells_long_lem;
        global_long_lem = global_long_lem;
        log_is = el ∙ split ∙ sym (zeros_more (log_per_cell * t) (groups_per_cell * t))
            ∙ ap (λ l. l ++ replicate (groups_per_cell * t) 0) (sym (ap log_words log_is ∙ empty_log_words Z.threads t));
        own_logs = λ k l b. own_empty k b;
        unentered = λ k l u i. unentered k u i;
        own_masks = λ i l u. ap (λ H. get_or (group_masks_of H u) i []) masks_are;
        steps_are = es ∙ (unfold joined in refl);
        ledger = ledger_start whole lent _ W.records h er (first ∙ intervals_start T L (limit - 0) s ∙ (unfold initial_state in refl)) whole_is;
        rows_most = omega arith;
        barriers_few = omega arith;
        older = O;
        remembered = M;
      }
    where
      whole : List Interval
      whole = interval_records T Z all limit

      is : Intervals
      is = followed (intervals_from T L (limit - 0) s) (joined (map (intervals_of T limit) (later T Z limit j 0 s)))

      split : ◌≡◌ {A = List ℕ} (replicate ((log_per_cell + groups_per_cell) * t) 0) (replicate (log_per_cell * t + groups_per_cell * t) 0)
      split = ap (λ i. replicate i 0) (let y : (log_per_cell + groups_per_cell) * t ≡ log_per_cell * t + groups_per_cell * t = omega arith in y)

      first : is.first.start ≡ (intervals_from T L (limit - 0) s).first.start
      first = unfold followed in refl

      whole_is : whole ≡ records_of 1024 (all_of is)
      whole_is =
          unfold interval_records group_runs in
          (ap (λ us. records_of (max_records - 1) (joined (map (intervals_of T limit) us))) (runs_split T Z limit j 0 s)
          ∙ (unfold joined all_of followed rows_left initial_state in refl))

-- ---- the buffers that a launch is run in

pub zeros_long : (i k : ℕ) → i ≤ k → i ≡ length (take i (replicate {A = ℕ} k 0))
zeros_long i k h = sym (length-take i (replicate k 0) ∙ (let n = length-replicate {A = ℕ} k 0 in let y : min i (length (replicate {A = ℕ} k 0)) ≡ i = omega (arith, n) in y))

pub zeros_front : (i k : ℕ) → take i (replicate {A = ℕ} k 0) ≡ replicate (length (take i (replicate {A = ℕ} k 0))) 0
zeros_front zero k = refl
zeros_front (suc i) zero = refl
zeros_front (suc i) (suc k) = ap (λ l. 0 ∷ l) (zeros_front i k)

pub own_few : (groups k m : ℕ) → 1 ≤ groups → groups * k + m ≤ 1024 → k ≤ 1024
own_few groups k m some few = let h : 1 * k ≤ groups * k = mul-le-mul_right k some in omega (arith, h)

-- There is a record, so the words of the first one, with which the run began, are written over.
some_words : (T : Table) (Z : Sizes) (all : List ℕ) (limit : ℕ) → 3 ≤ length (record_words (interval_records T Z all limit))
unfolding interval_records group_runs joined all_of records_of record_words
some_words T Z all limit = rw (runs_split T Z limit (Z.groups - 1) 0 (initial_state Z all)) (omega arith)

pub lent_is : (table : List ℕ) (Z : Sizes) (limit : ℕ) (all lent begun-with : List ℕ) (r : Outcome) (cells global log records steps : List ℕ)
    → begun-with ≡ begun 0 0 0 lent → LaunchIs table Z limit all begun-with r cells global log records steps → LaunchIs table Z limit all lent r cells global log records steps
lent_is table Z limit all lent begun-with r cells global log records steps e R =
    let w = record_words (interval_records (rows_of table) Z all limit) in
    record {
      outcome_is = R.outcome_is;
      cells_are = R.cells_are;
      log_is = R.log_is;
      records_are = R.records_are ∙ ap (over w) e ∙ over_begun w lent (some_words (rows_of table) Z all limit);
      steps_are = R.steps_are;
    }
