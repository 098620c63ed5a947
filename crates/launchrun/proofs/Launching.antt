-- A launch between two groups' turns, from its start to its end. Assumes nothing.
use mathlib.Core.Path.{◌≡◌, refl, sym, ◌∙◌, ap, ap₂, subst}
use mathlib.Core.Logic.{◌⊎◌, inl, inr}
use mathlib.Core.List.{List, [], ◌∷◌, ◌++◌, append-nil, append_assoc, map}
use mathlib.Core.Bool.{true, false, cond, true≢false}
use Prim.Native.Nat.{ℕ, zero, suc, ◌+◌, ◌-◌, ◌*◌, ◌<◌, ◌≤◌}
use native.Mathlib.Omega.{arith}
use native.Mathlib.Nat.{suc-mul, add-mul, mul-le-mul_right}
use lib.ListN.{length, get_or, replicate, take, drop, length-append, length-replicate, length-drop}
use lib.Seq.{take-append_seam, take-append-le, drop-append-le}
use Rattle.spec.specs.declared.Verdict.{Verdict}
use Rattle.spec.specs.declared.Verdict.TheVariants.{Passed, Race, GroupRace, Outside, Common, Diverged, Spent}
use Rattle.spec.specs.Answers.{is_passed}
use Rattle.spec.specs.Access.{Mode}
use Rattle.spec.specs.Limits.{log_per_cell, records_lent, groups_per_cell}
use Rattle.spec.specs.Lists.{joined, last_of}
use Rattle.spec.specs.Mask.{has}
use Rattle.spec.specs.Log.{Log, empty_log, log_words}
use Rattle.spec.specs.GroupLog.{GroupLog, group_masks_of, empty_group_log, group_words}
use Rattle.spec.specs.Shape.{Sizes, Shape, shape_of, total, is_global}
use Rattle.spec.specs.Table.{Table, rows_of}
use Rattle.spec.specs.LockStep.{LockState, LockResult, run_from, outcome_of}
use Rattle.spec.specs.Launch.{all_log_words}
use Rattle.spec.specs.LaunchRun.{GroupRun, group_result, group_runs, last_group, last_run, lockstep, next_start, rows_left, runs_from, steps_by_launch}
use Rattle.spec.specs.Intervals.{Interval, Intervals, all_of, started, intervals_from, interval_records, conflicts_of}
use Rattle.spec.specs.Entries.{over}
use Rattle.allruns.proofs.LockInvariants.{RunKeeps, run_keeps}
use Rattle.allruns.proofs.LaunchCounts.{run_at, start_behind}
use Rattle.allruns.proofs.GroupMatches.{empty_groups_sized}
use Rattle.layout.specs.Memory.{Masks}
use Rattle.layout.specs.Views.{part, put_part, log_part, put_log, own_from, global_from, Sized}
use Rattle.layout.specs.Shared.{group_part}
use Rattle.layout.proofs.Parts.{LogFits, part_size, put_size, sized_fits, own_before, own_within, global_within, log_part_fits, put_log_fits, log_part_above, masks_part}
use Rattle.layout.proofs.GlobalTurn.{group_part_masks}
use Rattle.banks.specs.Counting.{Older}
use Rattle.banks.specs.Remembering.{Memo}
use Rattle.intervals.specs.Records.{in_use, released, costs_up_to, EndAsks, Ledger}
use Rattle.intervals.proofs.Ledger.{rows_word, ledger_opens, ledger_words, ledger_conflicts, ledger_ends}
use Rattle.stepcounts.proofs.Tallies.{over_zeros}
use Rattle.placing.specs.Kinds.{kinds_placed}
use Rattle.placing.proofs.Stretches.{put_behind, put_before, put_front, counts_put}
use Rattle.placing.proofs.Logs.{log_placed, groups_placed, empty_group_words, log_words_size}
use Rattle.grouprun.proofs.Recording.{intervals_start}
use Rattle.grouprun.specs.declared.Ended.{Ended}
use Rattle.grouprun.specs.Groups.{GroupStart, GroupEnd, SomeStart, followed}
use Rattle.spec.specs.declared.Outcome.{Outcome}
use Rattle.groupturn.specs.Turns.{TurnDone}
use Rattle.launchend.specs.Ends.{placed_log, Closed}
use Rattle.launchrun.specs.Launches.{LaunchIs}
use Rattle.launchrun.proofs.Buffers.{Buffers, with_records}
use Rattle.launchrun.proofs.Stretches.{one_group_log}
use Rattle.launchrun.proofs.Between.{cells_rebuilt, next_log, next_sized, masks_kept, whole_log}

-- ---- the definition's runs

-- The steps of a group's run, its intervals, and the runs behind it.
abbrev pub steps_of : Table → (limit : ℕ) → GroupRun → List ℕ
steps_of T limit u = (group_result T limit u).state.steps

abbrev pub intervals_of : Table → (limit : ℕ) → GroupRun → List Interval
intervals_of T limit u = all_of (intervals_from T u.shape (rows_left limit u) u.start)

unfoldable pub later : Table → Sizes → (limit j g : ℕ) → LockState → List GroupRun
later T Z limit zero g s = []
later T Z limit (suc j) g s = cond (is_passed (group_result T limit (run_at Z g s)).verdict) (runs_from T Z limit j (suc g) (start_behind T Z limit g s)) []

pub runs_split : (T : Table) (Z : Sizes) (limit j g : ℕ) (s : LockState) → runs_from T Z limit j g s ≡ run_at Z g s ∷ later T Z limit j g s
unfolding runs_from later
runs_split T Z limit zero g s = refl
runs_split T Z limit (suc j) g s = refl

-- There is none behind a group that has not passed, nor behind the last one.
later_stopped : (T : Table) (Z : Sizes) (limit j g : ℕ) (s : LockState) → is_passed (group_result T limit (run_at Z g s)).verdict ≡ false
    → later T Z limit j g s ≡ []
unfolding later
later_stopped T Z limit zero g s e = refl
later_stopped T Z limit (suc j) g s e = ap (λ b. cond b (runs_from T Z limit j (suc g) (start_behind T Z limit g s)) []) e

later_last : (T : Table) (Z : Sizes) (limit j g : ℕ) (s : LockState) → j ≡ 0 → later T Z limit j g s ≡ []
unfolding later
later_last T Z limit j g s e = ap (λ i. later T Z limit i g s) e

pub later_over : (T : Table) (Z : Sizes) (limit j g : ℕ) (s : LockState) → (is_passed (group_result T limit (run_at Z g s)).verdict ≡ false) ⊎ (j ≡ 0)
    → later T Z limit j g s ≡ []
later_over T Z limit j g s (inl e) = later_stopped T Z limit j g s e
later_over T Z limit j g s (inr e) = later_last T Z limit j g s e

-- One more behind others.
joined_more : {A : Type 0} (f : GroupRun → List A) (us : List GroupRun) (u : GroupRun) → joined (map f (us ++ (u ∷ []))) ≡ joined (map f us) ++ f u
unfolding joined
joined_more f [] u = append-nil (f u)
joined_more f (v ∷ us) u = ap (λ l. f v ++ l) (joined_more f us u) ∙ sym (append_assoc (f v) (joined (map f us)) (f u))

append_more : (us vs : List GroupRun) (u : GroupRun) → us ++ (u ∷ vs) ≡ (us ++ (u ∷ [])) ++ vs
append_more us vs u = sym (append_assoc us (u ∷ []) vs)

last_more : (d : GroupRun) (us : List GroupRun) (u : GroupRun) → last_of d (us ++ (u ∷ [])) ≡ u
unfolding last_of
last_more d [] u = refl
last_more d (v ∷ us) u = last_more v us u

passed_is : (v : Verdict) → is_passed v ≡ true → v ≡ Passed
unfolding is_passed
passed_is Passed e = refl
passed_is (Race t o k a) e = absurd (true≢false (sym e))
passed_is (GroupRace t h k a) e = absurd (true≢false (sym e))
passed_is (Outside t a) e = absurd (true≢false (sym e))
passed_is (Common t a) e = absurd (true≢false (sym e))
passed_is (Diverged t o) e = absurd (true≢false (sym e))
passed_is Spent e = absurd (true≢false (sym e))

pub zeros_more : (a b : ℕ) → replicate {A = ℕ} a 0 ++ replicate b 0 ≡ replicate (a + b) 0
zeros_more zero b = ap (λ j. replicate j 0) (let z : b ≡ 0 + b = omega arith in z)
zeros_more (suc a) b = ap (λ l. 0 ∷ l) (zeros_more a b) ∙ ap (λ j. replicate j 0) (let z : suc (a + b) ≡ suc a + b = omega arith in z)

-- A stretch of the front of two lists is one of the first.
pub part_front : (a k : ℕ) (xs ys : List ℕ) → a + k ≤ length xs → part a k xs ≡ part a k (xs ++ ys)
unfolding part
part_front a k xs ys h =
    sym (ap (take k) (drop-append-le a xs ys (omega arith)) ∙ take-append-le k (drop a xs) ys (omega (arith, length-drop a xs)))

pub empty_groups_masks : (g k : ℕ) (m : Mode) → Masks g k (group_masks_of (empty_group_log g k) m)
empty_groups_masks g k m = let S = empty_groups_sized g k in record { count = S.count m; each = λ i l. S.size m i l }

-- ---- between two turns

-- Group g is to start from `state`, with j groups behind it.
pub record Launched (table : List ℕ) (Z : Sizes) (limit : ℕ) (all lent : List ℕ) (j g rows barriers : ℕ) (W : Buffers) : Type 0 where
  pub state : LockState
  pub before : List GroupRun
  pub behind : suc (j + g) ≡ Z.groups
  pub runs_are : group_runs (rows_of table) Z all limit ≡ before ++ runs_from (rows_of table) Z limit j g state
  pub count : length before ≡ g
  pub done_long : length (joined (map (steps_of (rows_of table) limit) before)) ≡ g * Z.threads
  pub start : GroupStart Z.threads g rows barriers Z.common (part (g * Z.cells) Z.cells W.cells) W.global W.masks (shape_of Z g) state
  pub cells_are : W.cells ++ W.global ≡ state.cells
  pub cells_long_lem : length W.cells ≡ Z.groups * Z.cells
  pub global_long_lem : length W.global ≡ Z.global
  pub log_is : W.log ≡ log_words state.log ++ replicate (groups_per_cell * (Z.groups * Z.cells + Z.global)) 0
  pub own_logs : (h : ℕ) → g ≤ h → h < Z.groups → log_part (h * Z.cells) Z.cells state.log ≡ empty_log Z.threads Z.cells
  pub unentered : (h : ℕ) → g ≤ h → (u : Mode) (i : ℕ) → has (get_or (group_masks_of state.group_log u) i []) h ≡ false
  pub own_masks : (i : ℕ) → i < Z.groups * Z.cells → (u : Mode) → get_or (group_masks_of state.group_log u) i []
      ≡ get_or (group_masks_of (empty_group_log Z.groups (Z.groups * Z.cells + Z.global)) u) i []
  pub steps_are : W.steps ≡ joined (map (steps_of (rows_of table) limit) before)
      ++ replicate (256 - length (joined (map (steps_of (rows_of table) limit) before))) 0
  pub ledger : Ledger (interval_records (rows_of table) Z all limit) lent
      (followed (intervals_from (rows_of table) (shape_of Z g) (limit - rows) state) (joined (map (intervals_of (rows_of table) limit) (later (rows_of table) Z limit j g state))))
      (barriers + g) rows W.records
  pub rows_most : rows ≤ limit
  pub barriers_few : barriers ≤ rows
  pub older : Older (rows + 1) W.stamps
  pub remembered : Memo W.memo

module _ (table : List ℕ) (Z : Sizes) (limit : ℕ) (all lent : List ℕ) (j g rows barriers : ℕ) (W : Buffers)
    (P : Launched table Z limit all lent j g rows barriers W) where
  abbrev cells : List ℕ
  cells = W.cells

  abbrev global : List ℕ
  global = W.global

  abbrev steps : List ℕ
  steps = W.steps

  abbrev T : Table
  T = rows_of table

  abbrev L : Shape
  L = shape_of Z g

  abbrev s : LockState
  s = P.state

  abbrev whole : List Interval
  whole = interval_records T Z all limit

  abbrev more : List Interval
  more = joined (map (intervals_of T limit) (later T Z limit j g s))

  abbrev u : GroupRun
  u = run_at Z g s

  abbrev o : LockResult
  o = group_result T limit u

  gl : g < Z.groups
  gl = omega (arith, P.behind)

  result_is : run_from T L (limit - rows) s ≡ o
  unfolding group_result rows_left
  result_is = ap (λ r. run_from T L (limit - r) s) P.start.rows_is

  -- what the turn asks
  pub some_start : SomeStart table Z.threads g limit rows barriers Z.common (part (g * Z.cells) Z.cells cells) global W.masks W.records
  some_start = record { shape = L; state = s; start = P.start; whole = whole; lent = lent; more = more; ledger = P.ledger }

  pub place_in : g * Z.cells + Z.cells ≤ length cells
  place_in =
      let h = mul-le-mul_right Z.cells gl in
      let e = suc-mul g Z.cells in
      omega (arith, h, e, P.cells_long_lem)

  pub threads_in : Z.groups ≤ 8 → Z.threads ≤ 32 → g * Z.threads + Z.threads ≤ 256
  threads_in few n =
      let h : suc g * Z.threads ≤ 8 * Z.threads = mul-le-mul_right Z.threads (omega (arith, gl)) in
      let e = suc-mul g Z.threads in
      omega (arith, h, e)

  module _ (all_cells_lem : ℕ) (et : all_cells_lem ≡ Z.groups * Z.cells + Z.global) (r : Ended) (W' : Buffers)
      (D : TurnDone table Z.threads g limit rows barriers Z.cells all_cells_lem Z.common cells global W.log W.masks W.records steps r
      W'.cells W'.global W'.log W'.own W'.shared W'.masks W'.records W'.counts W'.steps W'.stamps W'.memo) where
    abbrev cells' : List ℕ
    cells' = W'.cells

    abbrev global' : List ℕ
    global' = W'.global

    abbrev records' : List ℕ
    records' = W'.records

    abbrev z : LockState
    z = o.state

    came : GroupEnd limit L (run_from T L (limit - rows) s) r (part (g * Z.cells) Z.cells cells') W'.own global' W'.shared W'.masks
        W'.counts W'.stamps W'.memo
        × ((x : ℕ) × Ledger whole lent (followed (started x) more) (r.barriers + g) r.rows records')
    came = D.ran L s P.start whole lent more P.ledger

    pub ending : GroupEnd limit L o r (part (g * Z.cells) Z.cells cells') W'.own global' W'.shared W'.masks
        W'.counts W'.stamps W'.memo
    ending = subst (λ q. GroupEnd limit L q r (part (g * Z.cells) Z.cells cells') W'.own global' W'.shared W'.masks
        W'.counts W'.stamps W'.memo) result_is came.0

    keeps : RunKeeps L s z
    unfolding group_result
    keeps = run_keeps T L gl (rows_left limit u) s

    sizedₛ : Sized L s
    sizedₛ = P.start.sized

    -- the interval that goes on began no later
    pub ledger_began : get_or records' (in_use (r.barriers + g) * 3 + 1) 0 ≤ r.rows
    ledger_began =
        let led = came.1.1 in
        let word = rows_word whole lent (followed (started came.1.0) more) (r.barriers + g) r.rows records' led in
        omega (arith, word, led.began)

    -- all cells
    pub cells_long_after : length cells' ≡ length cells
    cells_long_after =
        ap length D.cells_are ∙ put_size (g * Z.cells) (part (g * Z.cells) Z.cells cells') cells (omega (arith, place_in, own_count))
      where
        own_count : length (part (g * Z.cells) Z.cells cells') ≡ Z.cells
        own_count =
            ap length ending.cells_are
            ∙ part_size (own_from L) Z.cells z.cells (omega (arith, ending.sized.cells_are, own_within L z ending.sized))

    pub global_long_after : length global' ≡ Z.global
    global_long_after =
        ap length ending.global_are
        ∙ part_size (global_from L) Z.global z.cells (omega (arith, ending.sized.cells_are, global_within L z ending.sized))

    pub cells_after_lem : cells' ++ global' ≡ z.cells
    cells_after_lem = sym (cells_rebuilt Z g s z sizedₛ ending.sized keeps ∙ ap (put_part own X) globals_put ∙ owns_put)
      where
        own : ℕ
        own = own_from L

        X : List ℕ
        X = part own Z.cells z.cells

        Y : List ℕ
        Y = part (global_from L) Z.global z.cells

        X-long : length X ≡ Z.cells
        X-long = part_size own Z.cells z.cells (omega (arith, ending.sized.cells_are, own_within L z ending.sized))

        globals_put : put_part (global_from L) Y s.cells ≡ cells ++ global'
        globals_put =
            let at_end_lem : global_from L ≡ length cells + 0 = omega (arith, P.cells_long_lem) in
            ap₂ (λ i c. put_part i Y c) at_end_lem (sym P.cells_are) ∙ put_behind 0 Y cells global
            ∙ ap (λ l. cells ++ l) (ap (put_part 0 Y) (sym (append-nil global))
            ∙ put_front Y global [] (sym (ap length ending.global_are) ∙ global_long_after ∙ sym P.global_long_lem) ∙ append-nil Y ∙ sym ending.global_are)

        own_put : put_part own X cells ≡ cells'
        own_put = sym (D.cells_are ∙ ap (λ w. put_part own w cells) ending.cells_are)

        owns_put : put_part own X (cells ++ global') ≡ cells' ++ global'
        owns_put = put_before own X cells global' (omega (arith, X-long, place_in)) ∙ ap (λ l. l ++ global') own_put

    -- the log with this group's part in its place
    abbrev own_log : Log
    own_log = log_part (own_from L) Z.cells z.log

    abbrev zeros : List ℕ
    zeros = replicate (groups_per_cell * (Z.groups * Z.cells + Z.global)) 0

    own_fits : LogFits Z.threads Z.cells own_log
    own_fits =
        log_part_fits Z.threads (total L) z.log (sized_fits L z ending.sized).log_fits (own_from L) Z.cells (own_within L z ending.sized)

    log_after : W'.log ≡ log_words (put_log (own_from L) own_log s.log) ++ zeros
    unfolding total
    log_after =
        D.log_is ∙ (λ i. kinds_placed 0 (et i) (g * Z.cells) Z.cells log_per_cell (ending.log_is i) (P.log_is i))
        ∙ log_placed Z.threads Z.cells (total L) (own_from L) own_log s.log zeros own_fits (sized_fits L s sizedₛ).log_fits (own_within L s sizedₛ)

    -- the steps with this group's behind the others
    steps_count : length z.steps ≡ Z.threads
    steps_count = keeps.step_count ∙ ap length P.start.steps_are ∙ length-replicate {A = ℕ} Z.threads 0

    abbrev done : List ℕ
    done = joined (map (steps_of T limit) P.before)

    taken : take Z.threads W'.counts ≡ z.steps
    unfolding over
    taken =
        ap₂ take (sym steps_count) ending.counts_are ∙ take-append_seam z.steps (drop (length z.steps) (replicate 32 0))

    steps_after_lem : Z.groups ≤ 8 → Z.threads ≤ 32
        → W'.steps ≡ joined (map (steps_of T limit) (P.before ++ (u ∷ []))) ++ replicate (256 - length (joined (map (steps_of T limit) (P.before ++ (u ∷ []))))) 0
    steps_after_lem few threads =
        D.steps_are ∙ ap (λ w. put_part (g * Z.threads) w steps) taken ∙ ap (λ a. put_part a z.steps steps) (sym P.done_long)
        ∙ counts_put 256 done z.steps steps P.steps_are (omega (arith, P.done_long, steps_count, threads_in few threads))
        ∙ ap (λ l. l ++ replicate (256 - length l) 0) (sym (joined_more (steps_of T limit) P.before u))

    -- ---- the next group

    module _ (j' : ℕ) (ej : j ≡ suc j') (pass : is_passed o.verdict ≡ true) where
      abbrev s₁ : LockState
      s₁ = start_behind T Z limit g s

      abbrev L₁ : Shape
      L₁ = shape_of Z (suc g)

      few_more : suc g < Z.groups
      few_more = omega (arith, P.behind, ej)

      runs_behind : later T Z limit j g s ≡ runs_from T Z limit j' (suc g) s₁
      unfolding later
      runs_behind = ap (λ i. later T Z limit i g s) ej ∙ ap (λ b. cond b (runs_from T Z limit j' (suc g) s₁) []) pass

      -- the log at its start, and that of the groups behind
      log₁ : s₁.log ≡ put_log (own_from L) own_log s.log
      unfolding next_start is_global
      log₁ = next_log Z g s z sizedₛ ending.sized keeps P.start.global_log

      above : (a k' : ℕ) → own_from L + Z.cells ≤ a → log_part a k' s₁.log ≡ log_part a k' s.log
      above a k' h =
          ap (log_part a k') log₁
          ∙ log_part_above Z.threads (total L) s.log (sized_fits L s sizedₛ).log_fits (own_from L) Z.cells own_log own_fits (own_within L s sizedₛ) a k' h

      next_place : (h : ℕ) → suc g ≤ h → own_from L + Z.cells ≤ h * Z.cells
      next_place h l = let a = mul-le-mul_right Z.cells l in let e = suc-mul g Z.cells in omega (arith, a, e)

      -- the intervals from there on
      abbrev is₁ : Intervals
      is₁ = intervals_from T L₁ (limit - r.rows) s₁

      rows₁ : r.rows ≡ s₁.rows
      unfolding next_start
      rows₁ = ending.rows_is

      more_is : more ≡ all_of (followed is₁ (joined (map (intervals_of T limit) (later T Z limit j' (suc g) s₁))))
      unfolding joined followed all_of rows_left
      more_is =
          ap (λ us. joined (map (intervals_of T limit) us)) (runs_behind ∙ runs_split T Z limit j' (suc g) s₁)
          ∙ ap (λ k. all_of (intervals_from T L₁ (limit - k) s₁) ++ joined (map (intervals_of T limit) (later T Z limit j' (suc g) s₁))) (sym rows₁)

      first_row : (k : ℕ) (x : LockState) → (intervals_from T L₁ k x).first.start ≡ x.row
      first_row k x = intervals_start T L₁ k x

      ledger₁ : (records'' : List ℕ) → records'' ≡ released (r.barriers + g) 0 r.rows records'
          → Ledger whole lent (followed is₁ (joined (map (intervals_of T limit) (later T Z limit j' (suc g) s₁)))) (r.barriers + suc g) r.rows records''
      unfolding followed started next_start
      ledger₁ records'' e =
          let led = came.1 in
          let next = followed is₁ (joined (map (intervals_of T limit) (later T Z limit j' (suc g) s₁))) in
          subst (λ b. Ledger whole lent next b r.rows records'') (let y : r.barriers + g + 1 ≡ r.barriers + suc g = omega arith in y)
          (ledger_opens whole lent (followed (started led.0) more) (r.barriers + g) r.rows records' led.1 led.0 0 next records''
          (ap (λ m. followed (started led.0) m) more_is) (first_row (limit - r.rows) s₁) e)

      pub launched_next : Z.groups ≤ 8 → Z.threads ≤ 32 → (records'' : List ℕ) → records'' ≡ released (r.barriers + g) 0 r.rows records'
          → Launched table Z limit all lent j' (suc g) r.rows r.barriers (with_records W' records'')
      unfolding next_start
      launched_next few threads records'' er =
          record {
            state = s₁;
            before = P.before ++ (u ∷ []);
            behind = omega (arith, P.behind, ej);
            runs_are = P.runs_are ∙ ap (λ us. P.before ++ us) (runs_split T Z limit j g s ∙ ap (λ us. u ∷ us) runs_behind)
                ∙ append_more P.before (runs_from T Z limit j' (suc g) s₁) u;
            count = length-append P.before (u ∷ []) ∙ (let y : length P.before + 1 ≡ suc g = omega (arith, P.count) in y);
            done_long = ap length (joined_more (steps_of T limit) P.before u) ∙ length-append done z.steps
                ∙ (let e = suc-mul g Z.threads in let y : length done + length z.steps ≡ suc g * Z.threads = omega (arith, P.done_long, steps_count, e) in y);
            start = record {
              threads_are = refl;
              group_is = refl;
              groups_few = few;
              common_are = refl;
              sized = next_sized Z g s z sizedₛ ending.sized keeps few_more;
              row_is_lem = refl;
              enabled_is_lem = refl;
              saved_is = refl;
              regs_are = refl;
              steps_are = refl;
              own_log = above (suc g * Z.cells) Z.cells (next_place (suc g) (omega arith)) ∙ P.own_logs (suc g) (omega arith) few_more;
              global_log = above (global_from L) Z.global (own_before L s sizedₛ) ∙ P.start.global_log;
              unentered = λ m i. later_unentered (suc g) (omega arith) m i;
              cells_are = own₁;
              global_are = ending.global_are;
              masks_are = ending.masks_are;
              rows_is = ending.rows_is;
              barriers_is = ending.barriers_is;
            };
            cells_are = cells_after_lem;
            cells_long_lem = cells_long_after ∙ P.cells_long_lem;
            global_long_lem = global_long_after;
            log_is = log_after ∙ ap (λ G. log_words G ++ zeros) (sym log₁);
            own_logs = λ h l b. above (h * Z.cells) Z.cells (next_place h l) ∙ P.own_logs h (omega arith) b;
            unentered = later_unentered;
            own_masks = λ i l m. masks_kept Z g s z sizedₛ ending.sized keeps i l m ∙ P.own_masks i l m;
            steps_are = steps_after_lem few threads;
            ledger = ledger₁ records'' er;
            rows_most = ending.rows_most;
            barriers_few = ending.barriers_few;
            older = ending.older (passed_is o.verdict pass);
            remembered = ending.remembered;
          }
        where
          later_unentered : (h : ℕ) → suc g ≤ h → (m : Mode) (i : ℕ) → has (get_or (group_masks_of z.group_log m) i []) h ≡ false
          later_unentered h l m i = keeps.groups.beside m i h (λ e. omega arith) ∙ P.unentered h (omega arith) m i

          own₁ : part (suc g * Z.cells) Z.cells cells' ≡ part (suc g * Z.cells) Z.cells z.cells
          own₁ = part_front (suc g * Z.cells) Z.cells cells' global' (omega (
            arith,
            cells_long_after,
            P.cells_long_lem,
            own_before L₁ s₁ (next_sized Z g s z sizedₛ ending.sized keeps few_more),
          ))
              ∙ ap (part (suc g * Z.cells) Z.cells) cells_after_lem

    -- ---- the end

    module _ (last : later T Z limit j g s ≡ []) where
      ended_here : group_runs T Z all limit ≡ P.before ++ (u ∷ [])
      ended_here = P.runs_are ∙ ap (λ us. P.before ++ us) (runs_split T Z limit j g s ∙ ap (λ us. u ∷ us) last)

      last_is : last_run T Z all limit ≡ u
      unfolding last_run
      last_is = ap (last_of _) ended_here ∙ last_more _ P.before u

      result_here : lockstep T Z all limit ≡ o
      unfolding lockstep
      result_here = ap (group_result T limit) last_is

      over_now : (x : ℕ) → followed (started x) more ≡ started x
      unfolding followed started joined
      over_now x = ap (λ us. followed (started x) (joined (map (intervals_of T limit) us))) last

      pub close_ends : records_lent ≤ length records' → limit ≤ 1000000 → EndAsks (r.barriers + g) r.rows records'
      close_ends h l =
          ledger_ends whole lent _ (r.barriers + g) r.rows records' came.1.1 came.1.0 (over_now came.1.0) h (omega (arith, ending.rows_most))

      steps_in_all : Z.groups ≤ 8 → Z.threads ≤ 32 → W'.steps ≡ over (steps_by_launch T Z all limit) (replicate 256 0)
      steps_in_all few threads = steps_after_lem few threads ∙ sym (by_launch few threads)
        where
          mine : List ℕ
          mine = joined (map (steps_of T limit) (P.before ++ (u ∷ [])))

          mine_long : length mine ≡ suc g * Z.threads
          mine_long =
              ap length (joined_more (steps_of T limit) P.before u) ∙ length-append done z.steps
              ∙ (let e = suc-mul g Z.threads in let y : length done + length z.steps ≡ suc g * Z.threads = omega (arith, P.done_long, steps_count, e) in y)

          rest : ℕ
          rest = (Z.groups - length (P.before ++ (u ∷ []))) * Z.threads

          all_steps_lem : steps_by_launch T Z all limit ≡ mine ++ replicate rest 0
          all_steps_lem = unfold steps_by_launch in (ap (λ us. joined (map (steps_of T limit) us) ++ replicate ((Z.groups - length us) * Z.threads) 0) ended_here)

          few_rest : Z.groups ≤ 8 → Z.threads ≤ 32 → length mine + rest ≤ 256
          few_rest few threads =
              let c : length (P.before ++ (u ∷ [])) ≡ suc g = length-append P.before (u ∷ []) ∙ (let y : length P.before + 1 ≡ suc g = omega (arith, P.count) in y) in
              let all_of_lem : suc g * Z.threads + (Z.groups - suc g) * Z.threads ≡ (suc g + (Z.groups - suc g)) * Z.threads = sym (add-mul (suc g) (Z.groups - suc g) Z.threads) in
              let sum : suc g + (Z.groups - suc g) ≡ Z.groups = omega (arith, gl) in
              let h : Z.groups * Z.threads ≤ 8 * Z.threads = mul-le-mul_right Z.threads few in
              let m = ap (λ i. i * Z.threads) sum in
              let q = ap (λ i. (Z.groups - i) * Z.threads) c in
              omega (arith, mine_long, all_of_lem, h, m, q)

          by_launch : Z.groups ≤ 8 → Z.threads ≤ 32 → over (steps_by_launch T Z all limit) (replicate 256 0) ≡ mine ++ replicate (256 - length mine) 0
          by_launch few threads =
              let long = length-append mine (replicate rest 0) in
              let zl = length-replicate {A = ℕ} rest 0 in
              let room = few_rest few threads in
              ap (λ w. over w (replicate 256 0)) all_steps_lem ∙ over_zeros (mine ++ replicate rest 0) 256
              ∙ append_assoc mine (replicate rest 0) (replicate (256 - length (mine ++ replicate rest 0)) 0)
              ∙ ap (λ l. mine ++ l) (zeros_more rest (256 - length (mine ++ replicate rest 0))
              ∙ ap (λ i. replicate i 0) (let y : rest + (256 - length (mine ++ replicate rest 0)) ≡ 256 - length mine = omega (arith, long, zl, room) in y))

      -- the whole log
      abbrev all_masks : GroupLog
      all_masks = empty_group_log Z.groups (Z.groups * Z.cells + Z.global)

      log_in_all : (log'' : List ℕ) → log'' ≡ placed_log all_cells_lem (Z.groups * Z.cells) Z.global W'.log W'.shared W'.masks → log'' ≡ all_log_words z
      unfolding all_log_words total
      log_in_all log'' e =
          let G = put_log (own_from L) own_log s.log in
          let fits = put_log_fits Z.threads (total L) s.log (sized_fits L s sizedₛ).log_fits (own_from L) Z.cells own_log own_fits (own_within L s sizedₛ) in
          let Q = log_part (global_from L) Z.global z.log in
          let global_fits = log_part_fits Z.threads (total L) z.log (sized_fits L z ending.sized).log_fits (global_from L) Z.global (global_within L z ending.sized) in
          let M = group_part (global_from L) Z.global z.group_log in
          e
          ∙ (λ i. placed_log (et i) (Z.groups * Z.cells) Z.global (log_after i) (ending.shared_is i) (ending.masks_are i))
          ∙ ap (λ l. kinds_placed log_per_cell (total L) (global_from L) Z.global groups_per_cell (group_words M) l)
          (log_placed Z.threads Z.global (total L) (global_from L) Q G zeros global_fits fits (global_within L z ending.sized)
          ∙ ap₂ (λ a b. log_words a ++ b) (sym (whole_log Z g s z sizedₛ ending.sized keeps)) (sym (empty_group_words Z.groups (total L))))
          ∙ groups_placed Z.groups Z.global (total L) (global_from L) M all_masks (log_words z.log) part_masks empty_masks (global_within L z ending.sized)
          (log_words_size Z.threads (total L) z.log (sized_fits L z ending.sized).log_fits)
          ∙ ap (λ H. log_words z.log ++ group_words H)
          (sym (one_group_log Z.groups (global_from L) Z.global (total L) all_masks z.group_log empty_masks ending.sized.groups_are refl
          (λ i l m. masks_kept Z g s z sizedₛ ending.sized keeps i l m ∙ P.own_masks i l m)))
        where
          part_masks : (m : Mode) → Masks Z.groups Z.global (group_masks_of (group_part (global_from L) Z.global z.group_log) m)
          part_masks m =
              subst (Masks Z.groups Z.global) (sym (group_part_masks (global_from L) Z.global z.group_log m))
              (masks_part Z.groups (total L) (global_from L) Z.global (group_masks_of z.group_log m) (global_within L z ending.sized) (ending.sized.groups_are m))

          empty_masks : (m : Mode) → Masks Z.groups (total L) (group_masks_of all_masks m)
          empty_masks m = empty_groups_masks Z.groups (Z.groups * Z.cells + Z.global) m

      pub launched_end : Z.groups ≤ 8 → Z.threads ≤ 32 → (q : Outcome) (log'' records'' : List ℕ)
          → Closed g Z.global all_cells_lem (Z.groups * Z.cells) W'.log W'.shared W'.masks records' r q log'' records''
          → LaunchIs table Z limit all lent q cells' global' log'' records'' W'.steps
      unfolding outcome_of
      launched_end few threads q log'' records'' C =
          let led = came.1.1 in
          let over-it = over_now came.1.0 in
          let costs = ap (costs_up_to (in_use (r.barriers + g) + 1)) C.records_are
          ∙ ledger_conflicts whole lent _ (r.barriers + g) r.rows records' led came.1.0 over-it in
          record {
            outcome_is = C.outcome_is ∙ (λ i. record {
              verdict = ending.verdict_is i;
              row = ending.row_is_lem i;
              group = g;
              rows = ending.rows_is i;
              barriers = ending.barriers_is i;
              conflicts = costs i;
            })
                ∙ ap₂ (λ w h. outcome_of w h (conflicts_of whole)) (sym result_here) (unfold last_group in (ap (λ w. w.shape.group) (sym last_is)));
            cells_are = cells_after_lem ∙ ap (λ w. w.state.cells) (sym result_here);
            log_is = log_in_all log'' C.log_is ∙ ap (λ w. all_log_words w.state) (sym result_here);
            records_are = C.records_are ∙ ledger_words whole lent _ (r.barriers + g) r.rows records' led came.1.0 over-it;
            steps_are = steps_in_all few threads;
          }
