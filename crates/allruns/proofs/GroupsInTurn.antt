-- Lock step runs the groups one after another; together that is a run of the launch, or a part of one that fails. Assumes nothing.
use mathlib.Core.Path.{◌≡◌, refl, sym, ◌∙◌, ap, ap₂, subst}
use mathlib.Core.Logic.{◌⊎◌, inl, inr}
use mathlib.Core.List.{List, [], ◌∷◌, ◌++◌, append-nil, map}
use mathlib.Core.Bool.{Bool, true, false, cond, not, ◌&&◌, true≢false, false≢true}
use Prim.Native.Nat.{ℕ, zero, suc, ◌+◌, ◌*◌, ◌<◌, ◌≤◌}
use native.Mathlib.Omega.{arith}
use native.Mathlib.Decide.{ℕ_discrete}
use lib.Dec.{leb}
use lib.ListN.{length, get_or, set, replicate, length-replicate, get_or-replicate, length-append}
use lib.Seq.{get_or-set_other, get_or-set_same, set-get_or}
use Rattle.spec.specs.declared.Verdict.{Verdict}
use Rattle.spec.specs.declared.Verdict.TheVariants.{Diverged, GroupRace, Outside, Common, Passed, Race, Spent}
use Rattle.spec.specs.AllRuns.{is_move_of, is_release}
use Rattle.spec.specs.Answers.{is_passed}
use Rattle.spec.specs.GroupLog.{empty_group_log}
use Rattle.spec.specs.Limits.{registers}
use Rattle.spec.specs.Lists.{every, joined, last_of}
use Rattle.spec.specs.Log.{Log, cleared, empty_log}
use Rattle.spec.specs.LockStep.{LockResult, LockState, counted_from, initial_state}
use Rattle.spec.specs.Runs.{Run, after, many, shown_to}
use Rattle.spec.specs.Shape.{Sizes, Shape, shape_of, is_global, reaches, total}
use Rattle.spec.specs.Steps.{sum}
use Rattle.spec.specs.Table.{Table, WellFormed}
use Rattle.spec.specs.Threads as own
use Rattle.spec.specs.Threads.{Group}
use Rattle.spec.specs.LaunchRun.{GroupRun, group_result, next_start, own_cells, rows_left, runs_from}
use Rattle.spec.specs.LaunchThreads.{Groups, Move, at_end, initial_groups, initial_part, machine, no_part, of_group, part_at_end, part_of, view, with_group}
use Rattle.spec.proofs.Laws.{zeros}
use Rattle.allruns.proofs.Bools.{and_left, and_right, and_make, not_is}
use Rattle.allruns.proofs.Descent.{run_append, after_append, seen_append, many_append}
use Rattle.allruns.proofs.LogMatches.{BlankAt, LogSized}
use Rattle.allruns.proofs.LogRecord.{empty_blank, empty_sized, cleared_blank, cleared_sized, blank_cleared, same_blank}
use Rattle.allruns.proofs.Blocked.{Blocked}
use Rattle.allruns.proofs.StepCounts.{is_row_of, is_own_release, steps_after, steps_of, all_moves, next_size, barred_kept}
use Rattle.allruns.proofs.Rows.{Failed}
use Rattle.allruns.proofs.BarrierRow.{every_make}
use Rattle.allruns.proofs.LockRun.{Completes, Simulates, simulates, Starts, group_sim}
use Rattle.allruns.proofs.LockInvariants.{RunKeeps, run_keeps}
use Rattle.allruns.proofs.Places.{global_same, shared_is_global}
use Rattle.allruns.proofs.Together.{view_with}
use Rattle.allruns.proofs.Lifted.{lift_after, lift_run, lift_shown, lift_unshown, lift_moves, lift_no_moves, lift_releases, lift_length, FailedLaunch}
use Rattle.allruns.proofs.GroupsMet.{MasksSay, masks_match, masks_on, masks_start, initial_size}
use Rattle.allruns.proofs.LaunchCounts.{run_at, barriers_of, end_of_runs, start_behind, last_behind, AllOf, sum_append, sum_zeros}

abbrev pub cells_of : Sizes → ℕ
cells_of Z = Z.groups * Z.cells + Z.global

-- Group g's turn: the groups before it are at their end, it and those behind it at their start. Lock step goes on at s, whose log is empty at all cells
-- that one of these can name, and whose group masks speak for all groups.
pub record Turn (T : Table) (Z : Sizes) (S : Groups) (g : ℕ) (s : LockState) : Type 0 where
  pub good : S.bad ≡ false
  pub cells : S.cells ≡ s.cells
  pub celled : length s.cells ≡ cells_of Z
  pub done : (h : ℕ) → h < g → part_at_end T (get_or S.parts h no_part) ≡ true
  pub ahead : (h : ℕ) → g ≤ h → h < Z.groups → get_or S.parts h no_part ≡ initial_part T Z
  pub first : s.row ≡ 0
  pub enabled : s.enabled ≡ replicate Z.threads true
  pub saved : s.saved ≡ []
  pub regs : s.regs ≡ replicate Z.threads (replicate registers 0)
  pub steps : s.steps ≡ replicate Z.threads 0
  pub sized : LogSized Z.threads (cells_of Z) s.log
  pub blank : (h i : ℕ) → g ≤ h → h < Z.groups → i < cells_of Z → reaches (shape_of Z h) i ≡ true → BlankAt s.log i
  pub masks : MasksSay Z (cells_of Z) S.parts s.group_log

pub first_turn : (T : Table) (Z : Sizes) (cells : List ℕ) → length cells ≡ cells_of Z → Turn T Z (initial_groups T Z cells) 0 (initial_state Z cells)
unfolding initial_groups initial_state
first_turn T Z cells e =
    record {
      good = refl;
      cells = refl;
      celled = e;
      done = λ h l. absurd (omega arith);
      ahead = λ h l b. get_or-replicate Z.groups h (initial_part T Z) no_part b;
      first = refl;
      enabled = refl;
      saved = refl;
      regs = refl;
      steps = refl;
      sized = subst (λ k. LogSized Z.threads k (empty_log Z.threads (length cells))) e (empty_sized Z.threads (length cells));
      blank = λ h i l b j r. empty_blank Z.threads (length cells) i (omega (arith, e, j));
      masks = subst (λ k. MasksSay Z k (replicate Z.groups (initial_part T Z)) (empty_group_log Z.groups (length cells))) e
          (masks_start T Z (length cells));
    }

-- A run of the launch that is the lock-step runs us of n groups from g on, of which the last ends with o; b barriers were counted before.
pub record LaunchCompletes (T : Table) (Z : Sizes) (limit : ℕ) (S : Groups) (b g n : ℕ) (us : List GroupRun) (o : LockResult) : Type 0 where
  pub moves : List Move
  pub run : Run (machine T Z) S moves
  pub ended : at_end T (after (machine T Z) S moves) ≡ true
  pub count : length us ≡ n
  pub sized : AllOf Z.threads (map (λ u. (group_result T limit u).state.steps) us)
  pub counted : length moves + b ≡ sum (joined (map (λ u. (group_result T limit u).state.steps) us)) + o.state.barriers
  pub released : many is_release moves + b ≡ o.state.barriers
  pub each : (h t : ℕ) → h < n → t < Z.threads
      → many (is_move_of (g + h) t) moves ≡ get_or (get_or (map (λ u. (group_result T limit u).state.steps) us) h []) t 0
  pub low : (h t : ℕ) → h < g → many (is_move_of h t) moves ≡ 0
  pub sees : (h : ℕ) → h < n → shown_to (machine T Z) (g + h) S moves ≡ get_or (map (barriers_of T limit) us) h []
  pub unseen : (h : ℕ) → h < g → shown_to (machine T Z) h S moves ≡ []
  pub finally : (after (machine T Z) S moves).cells ≡ o.state.cells

abbrev pub LaunchSimulates : Table → Sizes → (limit : ℕ) → Groups → (b g n : ℕ) → List GroupRun → LockResult → Verdict → Type 0
LaunchSimulates T Z limit S b g n us o Passed = LaunchCompletes T Z limit S b g n us o
LaunchSimulates T Z limit S b g n us o (Race t u k a) = FailedLaunch T Z S
LaunchSimulates T Z limit S b g n us o (GroupRace t h k a) = FailedLaunch T Z S
LaunchSimulates T Z limit S b g n us o (Outside t a) = FailedLaunch T Z S
LaunchSimulates T Z limit S b g n us o (Common t a) = FailedLaunch T Z S
LaunchSimulates T Z limit S b g n us o (Diverged t u) = FailedLaunch T Z S
LaunchSimulates T Z limit S b g n us o Spent = Unit {0}

-- No group is left.
none_left : (T : Table) (Z : Sizes) (limit : ℕ) (S : Groups) (g : ℕ) (s : LockState) (o : LockResult) → Turn T Z S g s → g ≡ Z.groups
    → o.state.cells ≡ s.cells → o.state.barriers ≡ s.barriers → LaunchCompletes T Z limit S s.barriers g 0 [] o
unfolding joined sum
none_left T Z limit S g s o r e cs bs =
    record {
      moves = [];
      run = tt;
      ended = all_ended;
      count = refl;
      sized = λ h l. absurd (omega arith);
      counted = omega (arith, bs);
      released = omega (arith, bs);
      each = λ h t a b. absurd (omega arith);
      low = λ h t a. refl;
      sees = λ h a. absurd (omega arith);
      unseen = λ h a. refl;
      finally = r.cells ∙ sym cs;
    }
  where
    all_ended : at_end T S ≡ true
    all_ended =
        unfold at_end in
        (and_make (ap not r.good) (every_make (part_at_end T) S.parts no_part (λ i l. r.done i (omega (arith, l, e, r.masks.count)))))

threads_kept : (T : Table) (L : Shape) (v : Group) (ms : List own.Move) → length (after (own.machine T L) v ms).threads ≡ length v.threads
threads_kept T L v [] = refl
threads_kept T L v (m ∷ ms) = threads_kept T L (own.next T L v m) ms ∙ next_size T L v m

-- One group's turn.
module _ (T : Table) (w : WellFormed T) (Z : Sizes) (limit : ℕ) (S : Groups) (g : ℕ) (s : LockState) (r : Turn T Z S g s) (gl : g < Z.groups) where
  abbrev L : Shape
  L = shape_of Z g

  abbrev v₀ : Group
  v₀ = view Z S g

  abbrev result : LockResult
  result = group_result T limit (run_at Z g s)

  abbrev bars : List (List ℕ)
  bars = counted_from T L (rows_left limit (run_at Z g s)) s

  l : g < length S.parts
  l = omega (arith, gl, r.masks.count)

  begun : get_or S.parts g no_part ≡ initial_part T Z
  begun = r.ahead g (omega arith) gl

  starts : Starts T L s v₀
  unfolding total initial_part
  starts =
      record {
        numbered = gl;
        first = r.first;
        enabled = r.enabled;
        saved = r.saved;
        regs = r.regs;
        threads = ap (λ p. p.threads) begun;
        cells = r.cells;
        celled = r.celled;
        made = ap (λ p. p.made) begun;
        good = r.good;
        sized = r.sized;
        blank = λ i j q. r.blank g i (omega arith) gl j q;
        groups = masks_match Z (cells_of Z) S.parts s.group_log r.masks g gl;
      }

  simulated : Simulates T L s v₀ result bars result.verdict
  unfolding group_result
  simulated = simulates T w L (rows_left limit (run_at Z g s)) s [] v₀ (group_sim T w L s v₀ starts)

  keeps : RunKeeps L s result.state
  unfolding group_result
  keeps = run_keeps T L gl (rows_left limit (run_at Z g s)) s

  -- the group's own run, as one of the launch
  still : with_group S g v₀ ≡ S
  still = ap (λ ps. record { parts = ps; cells = S.cells; bad = S.bad }) (set-get_or S.parts g no_part)

  up_run : (ms : List own.Move) → Run (own.machine T L) v₀ ms → Run (machine T Z) S (map (of_group g) ms)
  up_run ms u = subst (λ R. Run (machine T Z) R (map (of_group g) ms)) still (lift_run T Z S g l gl v₀ refl ms u)

  up_after : (ms : List own.Move) → after (machine T Z) S (map (of_group g) ms) ≡ with_group S g (after (own.machine T L) v₀ ms)
  up_after ms = ap (λ R. after (machine T Z) R (map (of_group g) ms)) (sym still) ∙ lift_after T Z S g l v₀ refl ms

  up_shown : (ms : List own.Move) → shown_to (machine T Z) g S (map (of_group g) ms) ≡ map (own_cells L) (shown_to (own.machine T L) tt v₀ ms)
  up_shown ms = ap (λ R. shown_to (machine T Z) g R (map (of_group g) ms)) (sym still) ∙ lift_shown T Z S g l v₀ refl ms

  up_failed : (x : Verdict) → Failed T L v₀ x → FailedLaunch T Z S
  up_failed x f = record { moves = map (of_group g) f.moves; run = up_run f.moves f.run; fails = by f.fails }
    where
      R : Group
      R = after (own.machine T L) v₀ f.moves

      R₁ : Groups
      R₁ = after (machine T Z) S (map (of_group g) f.moves)

      seen : view Z R₁ g ≡ R
      seen = ap (λ A. view Z A g) (up_after f.moves) ∙ view_with T Z S g l R (barred_kept T L v₀ f.moves)

      by : (R.bad ≡ true) ⊎ ((a : ℕ) × (u : ℕ) × Blocked T R a u)
          → (R₁.bad ≡ true) ⊎ ((h : ℕ) × (a : ℕ) × (u : ℕ) × Blocked T (view Z R₁ h) a u)
      by (inl b) = inl (ap (λ A. A.bad) (up_after f.moves) ∙ b)
      by (inr p) = inr (g, p.0, p.1, subst (λ v. Blocked T v p.0 p.1) (sym seen) p.2)

  -- where it has passed
  module _ (t : Completes T L s v₀ result bars) where
    abbrev left : Group
    left = after (own.machine T L) v₀ t.moves

    abbrev S₁ : Groups
    S₁ = with_group S g left

    abbrev s₁ : LockState
    s₁ = start_behind T Z limit g s

    next_turn : Turn T Z S₁ (suc g) s₁
    unfolding next_start total
    next_turn =
        record {
          good = not_is left.bad (and_left (not left.bad) _ ended);
          cells = t.finally;
          celled = keeps.cell_count ∙ r.celled;
          done = λ h a. done_on h a (ℕ_discrete h g);
          ahead = λ h a b. get_or-set_other S.parts g h (part_of left) no_part (λ e. omega arith) ∙ r.ahead h (omega arith) b;
          first = refl;
          enabled = refl;
          saved = refl;
          regs = refl;
          steps = refl;
          sized = cleared_sized Z.threads (cells_of Z) (is_global (shape_of Z (suc g))) G kept;
          blank = λ h i a b c q. blank_on h i a b c q (is_global (shape_of Z (suc g)) i) refl;
          masks = masks_on Z (cells_of Z) S.parts s.group_log r.masks g left result.state.group_log gl size
              t.groups keeps.groups.beside;
        }
      where
        -- the log before the global cells' part is cleared
        G : Log
        G = result.state.log

        kept : LogSized Z.threads (cells_of Z) G
        kept = keeps.log_sized Z.threads (cells_of Z) r.sized

        ended : (not left.bad && every (λ th. leb (length T) th.row) left.threads) ≡ true
        ended = unfold own.at_end in t.ended

        size : length left.threads ≡ Z.threads
        size = threads_kept T L v₀ t.moves ∙ ap (λ p. length p.threads) begun ∙ initial_size T Z

        part_ended : part_at_end T (part_of left) ≡ true
        part_ended = unfold part_at_end in (and_right (not left.bad) _ ended)

        done_on : (h : ℕ) → h < suc g → Dec (h ≡ g) → part_at_end T (get_or (set S.parts g (part_of left)) h no_part) ≡ true
        done_on h a (yes e) =
            ap (λ i. part_at_end T (get_or (set S.parts g (part_of left)) i no_part)) e
            ∙ ap (part_at_end T) (get_or-set_same S.parts g (part_of left) no_part l) ∙ part_ended
        done_on h a (no e) = ap (part_at_end T) (get_or-set_other S.parts g h (part_of left) no_part e) ∙ r.done h (omega arith)

        -- a cell that group h can name and that is not global, group g can't
        apart : (h i : ℕ) → suc g ≤ h → h < Z.groups → reaches (shape_of Z h) i ≡ true → is_global (shape_of Z (suc g)) i ≡ false → reaches L i ≡ false
        apart h i a b q z = by (reaches L i) refl
          where
            by : (y : Bool) → reaches L i ≡ y → reaches L i ≡ false
            by true y = absurd (true≢false (sym (global_same Z (suc g) 0 i ∙ shared_is_global Z g h i (λ e. omega arith) b y q) ∙ z))
            by false y = y

        blank_on : (h i : ℕ) → suc g ≤ h → h < Z.groups → i < cells_of Z → reaches (shape_of Z h) i ≡ true → (z : Bool)
            → is_global (shape_of Z (suc g)) i ≡ z → BlankAt (cleared (is_global (shape_of Z (suc g))) G) i
        blank_on h i a b c q true z = cleared_blank Z.threads (cells_of Z) (is_global (shape_of Z (suc g))) G kept i c z
        blank_on h i a b c q false z =
            blank_cleared Z.threads (cells_of Z) (is_global (shape_of Z (suc g))) G kept i c
            (same_blank s.log G i (keeps.log_at i (apart h i a b q z)) (r.blank h i (omega arith) b c q))

    -- the groups behind it, too
    complete_on : (n : ℕ) (us : List GroupRun) (o : LockResult) → LaunchCompletes T Z limit S₁ s₁.barriers (suc g) n us o
        → LaunchCompletes T Z limit S s.barriers g (suc n) (run_at Z g s ∷ us) o
    unfolding next_start joined
    complete_on n us o u =
        record {
          moves = ks ++ u.moves;
          run = run_append (machine T Z) S ks u.moves (up_run t.moves t.run) (subst (λ A. Run (machine T Z) A u.moves) (sym here) u.run);
          ended = ap (at_end T) both ∙ u.ended;
          count = ap suc u.count;
          sized = sized_on;
          counted = length_all;
          released = let a = many_append (machine T Z) is_release ks u.moves in let b = lift_releases g t.moves in
              omega (arith, a, b, t.released, u.released);
          each = λ h i a b. many_append (machine T Z) (is_move_of (g + h) i) ks u.moves ∙ each_on h i a b;
          low = λ h i a. many_append (machine T Z) (is_move_of h i) ks u.moves
              ∙ ap₂ ◌+◌ (lift_no_moves g h i t.moves (λ e. omega arith)) (u.low h i (omega arith));
          sees = λ h a. split (g + h) ∙ sees_on h a;
          unseen = λ h a. split h ∙ ap₂ ◌++◌ (lift_unshown T Z S g h t.moves (λ e. omega arith)) (u.unseen h (omega arith));
          finally = ap (λ A. A.cells) both ∙ u.finally;
        }
      where
        ks : List Move
        ks = map (of_group g) t.moves

        here : after (machine T Z) S (map (of_group g) t.moves) ≡ S₁
        here = up_after t.moves

        both : after (machine T Z) S (ks ++ u.moves) ≡ after (machine T Z) S₁ u.moves
        both = after_append (machine T Z) S ks u.moves ∙ ap (λ A. after (machine T Z) A u.moves) here

        split : (h : ℕ) → shown_to (machine T Z) h S (ks ++ u.moves) ≡ shown_to (machine T Z) h S ks ++ shown_to (machine T Z) h S₁ u.moves
        split h =
            seen_append (machine T Z) h S ks u.moves ∙ ap (λ A. shown_to (machine T Z) h S ks ++ shown_to (machine T Z) h A u.moves) here

        steps_of_runs_lem : List (List ℕ)
        steps_of_runs_lem = map (λ u. (group_result T limit u).state.steps) us

        own_size : length result.state.steps ≡ Z.threads
        own_size = keeps.step_count ∙ ap length r.steps ∙ length-replicate Z.threads 0

        sized_on : AllOf Z.threads (result.state.steps ∷ steps_of_runs_lem)
        sized_on zero a = own_size
        sized_on (suc h) a = u.sized h (omega arith)

        own_length : length t.moves ≡ sum result.state.steps + many is_own_release t.moves
        own_length =
            let e : length v₀.threads ≡ length s.steps =
            ap (λ p. length p.threads) begun ∙ initial_size T Z ∙ sym (ap length r.steps ∙ length-replicate Z.threads 0) in
            let a = all_moves T L v₀ t.moves s.steps t.run e in
            let b : sum result.state.steps ≡ sum (steps_after s.steps t.moves) = ap sum t.counted in
            let c : sum s.steps ≡ 0 = ap sum r.steps ∙ sum_zeros Z.threads in
            omega (arith, a, b, c)

        length_all : length (ks ++ u.moves) + s.barriers ≡ sum (result.state.steps ++ joined steps_of_runs_lem) + o.state.barriers
        length_all =
            let a = length-append ks u.moves in
            let b = lift_length g t.moves in
            let c = sum_append result.state.steps (joined steps_of_runs_lem) in
            omega (arith, a, b, c, own_length, t.released, u.counted)

        own_each : (i : ℕ) → i < Z.threads → many (is_row_of i) t.moves ≡ get_or result.state.steps i 0
        own_each i b =
            let a = steps_of i s.steps t.moves (let z : length s.steps ≡ Z.threads = ap length r.steps ∙ length-replicate Z.threads 0 in
            omega (arith, z, b)) in
            let c : get_or s.steps i 0 ≡ 0 = ap (λ k. get_or k i 0) r.steps ∙ zeros Z.threads i in
            let d : get_or result.state.steps i 0 ≡ get_or (steps_after s.steps t.moves) i 0 = ap (λ k. get_or k i 0) t.counted in
            omega (arith, a, c, d)

        each_on : (h i : ℕ) → h < suc n → i < Z.threads
            → many (is_move_of (g + h) i) ks + many (is_move_of (g + h) i) u.moves ≡ get_or (get_or (result.state.steps ∷ steps_of_runs_lem) h []) i 0
        each_on zero i a b =
            subst (λ q. many (is_move_of q i) ks + many (is_move_of q i) u.moves ≡ get_or result.state.steps i 0) (let z : g ≡ g + 0 = omega arith in z)
            (let c = lift_moves g i t.moves in let d = u.low g i (omega arith) in omega (arith, c, d, own_each i b))
        each_on (suc h) i a b =
            let c = lift_no_moves g (g + suc h) i t.moves (λ e. omega arith) in
            let d : many (is_move_of (g + suc h) i) u.moves ≡ get_or (get_or steps_of_runs_lem h []) i 0 =
            ap (λ q. many (is_move_of q i) u.moves) (let z : g + suc h ≡ suc g + h = omega arith in z) ∙ u.each h i (omega arith) b in
            omega (arith, c, d)

        sees_on : (h : ℕ) → h < suc n
            → shown_to (machine T Z) (g + h) S ks ++ shown_to (machine T Z) (g + h) S₁ u.moves ≡ get_or (map (own_cells L) bars ∷ map (barriers_of T limit) us) h []
        sees_on zero a =
            subst (λ q. shown_to (machine T Z) q S ks ++ shown_to (machine T Z) q S₁ u.moves ≡ map (own_cells L) bars) (let z : g ≡ g + 0 = omega arith in z)
            (ap₂ ◌++◌ (up_shown t.moves ∙ ap (map (own_cells L)) t.sees) (u.unseen g (omega arith)) ∙ append-nil _)
        sees_on (suc h) a =
            ap₂ ◌++◌ (lift_unshown T Z S g (g + suc h) t.moves (λ e. omega arith))
            (ap (λ q. shown_to (machine T Z) q S₁ u.moves) (let z : g + suc h ≡ suc g + h = omega arith in z) ∙ u.sees h (omega arith))

    failed_on : FailedLaunch T Z S₁ → FailedLaunch T Z S
    failed_on f =
        record {
          moves = map (of_group g) t.moves ++ f.moves;
          run = run_append (machine T Z) S (map (of_group g) t.moves) f.moves (up_run t.moves t.run)
              (subst (λ A. Run (machine T Z) A f.moves) (sym (up_after t.moves)) f.run);
          fails = subst (λ A. (A.bad ≡ true) ⊎ ((g : ℕ) × (a : ℕ) × (u : ℕ) × Blocked T (view Z A g) a u))
              (sym
              (after_append (machine T Z) S (map (of_group g) t.moves) f.moves
              ∙ ap (λ A. after (machine T Z) A f.moves) (up_after t.moves))) f.fails;
        }

    simulates_on : (n : ℕ) (us : List GroupRun) (o : LockResult) (x : Verdict) → LaunchSimulates T Z limit S₁ s₁.barriers (suc g) n us o x
        → LaunchSimulates T Z limit S s.barriers g (suc n) (run_at Z g s ∷ us) o x
    simulates_on n us o Passed u = complete_on n us o u
    simulates_on n us o (Race a b c d) f = failed_on f
    simulates_on n us o (GroupRace a b c d) f = failed_on f
    simulates_on n us o (Outside a b) f = failed_on f
    simulates_on n us o (Common a b) f = failed_on f
    simulates_on n us o (Diverged a b) f = failed_on f
    simulates_on n us o Spent f = tt

  -- after a group that has not passed none starts
  stops_here : (b n : ℕ) (us : List GroupRun) (o : LockResult) (x : Verdict) → is_passed x ≡ false → Simulates T L s v₀ result bars x
      → LaunchSimulates T Z limit S b g n us o x
  unfolding is_passed
  stops_here b n us o Passed q t = absurd (true≢false q)
  stops_here b n us o (Race c d e f) q t = up_failed (Race c d e f) t
  stops_here b n us o (GroupRace c d e f) q t = up_failed (GroupRace c d e f) t
  stops_here b n us o (Outside c d) q t = up_failed (Outside c d) t
  stops_here b n us o (Common c d) q t = up_failed (Common c d) t
  stops_here b n us o (Diverged c d) q t = up_failed (Diverged c d) t
  stops_here b n us o Spent q t = tt

pub passed_is : (x : Verdict) → is_passed x ≡ true → x ≡ Passed
unfolding is_passed
passed_is Passed q = refl
passed_is (Race c d e f) q = absurd (false≢true q)
passed_is (GroupRace c d e f) q = absurd (false≢true q)
passed_is (Outside c d) q = absurd (false≢true q)
passed_is (Common c d) q = absurd (false≢true q)
passed_is (Diverged c d) q = absurd (false≢true q)
passed_is Spent q = absurd (false≢true q)

-- The groups from g on, each to its end: a run of the launch.
pub in_turn_lem : (T : Table) → WellFormed T → (Z : Sizes) (limit j g : ℕ) (S : Groups) (s : LockState) → g + suc j ≡ Z.groups → Turn T Z S g s
    → LaunchSimulates T Z limit S s.barriers g (suc j) (runs_from T Z limit j g s) (end_of_runs T Z limit j g s) (end_of_runs T Z limit j g s).verdict
unfolding runs_from last_of
in_turn_lem T w Z limit zero g S s e r = by (is_passed o.verdict) refl
  where
    gl : g < Z.groups
    gl = omega arith

    o : LockResult
    o = group_result T limit (run_at Z g s)

    bs : List (List ℕ)
    bs = counted_from T (shape_of Z g) (rows_left limit (run_at Z g s)) s

    whole : Completes T (shape_of Z g) s (view Z S g) o bs → LaunchCompletes T Z limit S s.barriers g 1 (run_at Z g s ∷ []) o
    whole t =
        complete_on T w Z limit S g s r gl t 0 [] o
        (none_left T Z limit (S₁ T w Z limit S g s r gl t) (suc g) (start_behind T Z limit g s) o (next_turn T w Z limit S g s r gl t) (omega arith)
        (unfold next_start in refl) (unfold next_start in refl))

    by : (b : Bool) → is_passed o.verdict ≡ b → LaunchSimulates T Z limit S s.barriers g 1 (run_at Z g s ∷ []) o o.verdict
    by true q =
        let p = passed_is o.verdict q in
        subst (LaunchSimulates T Z limit S s.barriers g 1 (run_at Z g s ∷ []) o) (sym p)
        (whole (subst (Simulates T (shape_of Z g) s (view Z S g) o bs) p (simulated T w Z limit S g s r gl)))
    by false q = stops_here T w Z limit S g s r gl s.barriers 1 (run_at Z g s ∷ []) o o.verdict q (simulated T w Z limit S g s r gl)
in_turn_lem T w Z limit (suc j) g S s e r =
    by (is_passed o.verdict) refl
    (λ t. in_turn_lem T w Z limit j (suc g) (S₁ T w Z limit S g s r gl t) z (omega arith) (next_turn T w Z limit S g s r gl t))
  where
    gl : g < Z.groups
    gl = omega arith

    o : LockResult
    o = group_result T limit (run_at Z g s)

    bs : List (List ℕ)
    bs = counted_from T (shape_of Z g) (rows_left limit (run_at Z g s)) s

    z : LockState
    z = start_behind T Z limit g s

    rest : List GroupRun
    rest = runs_from T Z limit j (suc g) z

    -- the launch ends as the last of these runs
    Ends : List GroupRun → GroupRun → Type 0
    Ends us u =
        LaunchSimulates T Z limit S s.barriers g (suc (suc j)) (run_at Z g s ∷ us) (group_result T limit u) (group_result T limit u).verdict

    by : (b : Bool) → is_passed o.verdict ≡ b
        → ((t : Completes T (shape_of Z g) s (view Z S g) o bs) → LaunchSimulates T Z limit (S₁ T w Z limit S g s r gl t) z.barriers (suc g) (suc j) rest
        (end_of_runs T Z limit j (suc g) z) (end_of_runs T Z limit j (suc g) z).verdict)
        → Ends (cond b rest []) (last_of (run_at Z g s) (cond b rest []))
    by true q ih =
        let t = subst (Simulates T (shape_of Z g) s (view Z S g) o bs) (passed_is o.verdict q) (simulated T w Z limit S g s r gl) in
        subst (Ends rest) (sym (last_behind T Z limit j (suc g) z (run_at Z g s)))
        (simulates_on T w Z limit S g s r gl t (suc j) rest (end_of_runs T Z limit j (suc g) z) (end_of_runs T Z limit j (suc g) z).verdict (ih t))
    by false q ih =
        unfold last_of in
        (stops_here T w Z limit S g s r gl s.barriers (suc (suc j)) (run_at Z g s ∷ []) o o.verdict q (simulated T w Z limit S g s r gl))
