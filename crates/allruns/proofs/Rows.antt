-- A row of the lock-step run, as a part of a run of the machine. Assumes nothing.
use mathlib.Core.Path.{◌≡◌, refl, sym, ◌∙◌, ap, ap₂, subst, subst₃}
use mathlib.Core.Logic.{◌⊎◌, inl, ⊎_elim}
use mathlib.Core.List.{List, [], ◌∷◌, map}
use mathlib.Core.Bool.{Bool, true, false, cond, not, ◌&&◌, true≢false, and-false}
use Prim.Native.Nat.{ℕ, zero, suc, ◌+◌, ◌<◌, ◌≤◌}
use native.Mathlib.Omega.{arith}
use borrow.Author.Tests.{eq-eqb, ne_eqb}
use lib.ListN.{length, get_or, set, length-set, length-replicate}
use lib.Seq.{get_or-set_other, get_or-set_same, set-set, set-get_or}
use Rattle.spec.specs.LockStep.{if_row, else_row, endif_row, while_row, endwhile_row, LockState, Saved, Step, access_turn, advance, and_then, compute_turn}
use Rattle.spec.specs.LockStep.{continues, count_steps, for_enabled, in_turn, leave_or_stay, made_access, pop, saved_at_while, set_reg, stops}
use Rattle.spec.specs.LockStep.{top_mask, top_opener}
use Rattle.spec.specs.Mask.{Mask, any, has, holding, members, members_from, minus, nonzero}
use Rattle.spec.specs.Op.{ELSE, ENDIF, ENDWHILE, IF, Mem, Op, Space, WHILE}
use Rattle.spec.specs.Runs.{Run, after, many, shown_to}
use Rattle.spec.specs.Shape.{Shape}
use Rattle.spec.specs.Steps.{all_stepped}
use Rattle.spec.specs.Table.{Fits, Row, Table, WellFormed, closing, else_of, end_of, innermost, open_before, opened_by, role, row_at, start_of}
use Rattle.spec.specs.Threads.{Group, Move, effect, effect_of, is_outside, machine, next, row}
use Rattle.spec.specs.declared.Verdict.{Verdict}
use Rattle.spec.specs.declared.Verdict.TheVariants.{Diverged, GroupRace, Outside, Common, Passed, Race, Spent}
use Rattle.spec.specs.Threads as own
use Rattle.spec.proofs.Laws.{zeros, minus_size, holding_size}
use Rattle.allruns.proofs.AccessTurns.{turn_cases}
use Rattle.allruns.proofs.Counts.{passes, passed_at}
use Rattle.allruns.proofs.Bools.{and_left}
use Rattle.allruns.proofs.Turns.{One, Turned, turn_all, quiet_all, act_is}
use Rattle.allruns.proofs.Blocked.{Blocked}
use Rattle.allruns.proofs.Nesting.{is_while, outer, Opened, AllOpened, all_opened, else_of_else, else_of_endif, end_here, Left, after_end, innermost_at}
use Rattle.allruns.proofs.StepCounts.{is_own_release, steps_after, steps_rows}
use Rattle.allruns.proofs.Simulation.{exit_by, Pos, Frame, loops_of, exit, place, Nested, place_in, place_out, place_any, body, Match, moved_all, all_moved}

abbrev pub saved_of : List Frame → List Saved
saved_of [] = []
saved_of (f ∷ fs) = record { opener = f.opener; mask = f.mask } ∷ saved_of fs

abbrev pub openers_of : List Frame → List ℕ
openers_of [] = []
openers_of (f ∷ fs) = f.opener ∷ openers_of fs

abbrev pub Sized : ℕ → List Frame → Type 0
Sized n [] = Unit {0}
Sized n (f ∷ fs) = (length f.mask ≡ n) × Sized n fs

-- The frames are those of the constructs open before row r; or r is a WHILE come to from its ENDWHILE, whose own frame is on top.
pub data Framed (T : Table) (r : ℕ) : List Frame → Type 0 where
  fresh : {fs : List Frame} → openers_of fs ≡ open_before T r → Framed T r fs
  again : {f : Frame} {fs : List Frame} → f.opener ≡ r → (row_at T r).op ≡ WHILE → openers_of fs ≡ open_before T r → Framed T r (f ∷ fs)

pub record Sim (T : Table) (L : Shape) (s : LockState) (fs : List Frame) (g : Group) : Type 0 where
  pub match : Match T L (place T s.row s.enabled fs) s g
  pub saving : s.saved ≡ saved_of fs
  pub nested : Nested L.threads s.enabled fs
  pub on_size : length s.enabled ≡ L.threads
  pub sized : Sized L.threads fs
  pub framed : Framed T s.row fs
  pub within : s.row ≤ length T

abbrev pub Stopping : Verdict → Type 0
Stopping Passed = ⊥
Stopping (Race t o k a) = Unit {0}
Stopping (GroupRace t h k a) = Unit {0}
Stopping (Outside t a) = Unit {0}
Stopping (Common t a) = Unit {0}
Stopping (Diverged t o) = Unit {0}
Stopping Spent = ⊥

-- What a row comes to in the machine.
pub record Advanced (T : Table) (L : Shape) (s : LockState) (g : Group) (z : LockState) : Type 0 where
  pub moves : List Move
  pub frames : List Frame
  pub run : Run (machine T L) g moves
  pub sim : Sim T L z frames (after (machine T L) g moves)
  pub counted : z.steps ≡ steps_after s.steps moves
  pub released : many is_own_release moves + s.barriers ≡ z.barriers
  pub sees : shown_to (machine T L) tt g moves ≡ passed_at (row_at T s.row).op s

pub record Failed (T : Table) (L : Shape) (g : Group) (v : Verdict) : Type 0 where
  pub stopping : Stopping v
  pub moves : List Move
  pub run : Run (machine T L) g moves
  pub fails : ((after (machine T L) g moves).bad ≡ true) ⊎ ((a : ℕ) × (u : ℕ) × Blocked T (after (machine T L) g moves) a u)

abbrev pub RowDone : Table → Shape → LockState → Group → Step → Type 0
RowDone T L s g (continues z) = Advanced T L s g z
RowDone T L s g (stops v z) = Failed T L g v

pub match_at : (T : Table) (L : Shape) (P Q : ℕ → Pos) (s : LockState) (g : Group) → ((t : ℕ) → t < L.threads → P t ≡ Q t) → Match T L P s g
    → Match T L Q s g
match_at T L P Q s g e h =
    record {
      good = h.good;
      size = h.size;
      regged = h.regged;
      threads = λ t l. h.threads t l ∙ ap (λ p. body p (get_or s.regs t [])) (e t l);
      cells = h.cells;
      celled = h.celled;
      numbered = h.numbered;
      logs = h.logs;
      groups = h.groups;
    }

pub match_onward : (T : Table) (L : Shape) (r : ℕ) (m : Mask) (v : List Saved) (P : ℕ → Pos) (s : LockState) (g : Group) → Match T L P s g
    → Match T L P (advance r m v s) g
unfolding advance
match_onward T L r m v P s g h =
    record {
      good = h.good;
      size = h.size;
      regged = h.regged;
      threads = h.threads;
      cells = h.cells;
      celled = h.celled;
      numbered = h.numbered;
      logs = h.logs;
      groups = h.groups;
    }

pub match_stepped : (T : Table) (L : Shape) (m : Mask) (P : ℕ → Pos) (s : LockState) (g : Group) → Match T L P s g → Match T L P (count_steps m s) g
unfolding count_steps
match_stepped T L m P s g h =
    record {
      good = h.good;
      size = h.size;
      regged = h.regged;
      threads = h.threads;
      cells = h.cells;
      celled = h.celled;
      numbered = h.numbered;
      logs = h.logs;
      groups = h.groups;
    }

-- Rows of threads show nothing and release nothing.
pub rows_seen : (T : Table) (L : Shape) (g : Group) (ts : List ℕ) → shown_to (machine T L) tt g (map row ts) ≡ []
unfolding own.shown
rows_seen T L g [] = refl
rows_seen T L g (t ∷ ts) = rows_seen T L (next T L g (row t)) ts

rows_release : (ts : List ℕ) → many is_own_release (map row ts) ≡ 0
unfolding is_own_release
rows_release [] = refl
rows_release (t ∷ ts) = let h = rows_release ts in omega arith

-- Where the enabled threads go on together.
pub together : (T : Table) (n r q : ℕ) (on : Mask) (fs : List Frame) → Nested n on fs → (t : ℕ) → t < n
    → moved_all 0 on (λ u. record { row = q; loops = loops_of T fs }) (place T r on fs) t ≡ place T q on fs t
together T n r q on fs k t l = all_moved on _ (place T r on fs) t ∙ by (has on t) refl
  where
    by : (z : Bool) → has on t ≡ z → cond z (record { row = q; loops = loops_of T fs }) (place T r on fs t) ≡ place T q on fs t
    by true h = sym (place_in T q on fs t h)
    by false h = place_any T n r q on fs t k l h

-- A row of the threads of m that makes no access, after which the lock-step run goes on at row q with mask on and frames fs.
control : (T : Table) (L : Shape) (s : LockState) (g : Group) (m : Mask) (P new : ℕ → Pos) (here : Pos) (q : ℕ) (on : Mask) (fs : List Frame)
    → Match T L P s g → length m ≡ L.threads → ((t : ℕ) → has m t ≡ true → P t ≡ here)
    → ((t : ℕ) → has m t ≡ true → effect T L t (body here (get_or s.regs t [])) ≡ own.goes (body (new t) (get_or s.regs t [])))
    → ((t : ℕ) → t < L.threads → cond (has m t) (new t) (P t) ≡ place T q on fs t)
    → Nested L.threads on fs → length on ≡ L.threads → Sized L.threads fs → Framed T q fs → q ≤ length T → passed_at (row_at T s.row).op s ≡ []
    → Advanced T L s g (advance q on (saved_of fs) (count_steps m s))
unfolding members advance count_steps
control T L s g m P new here q on fs h len at acts to nest size sized framed within none =
    record {
      moves = map row (members_from 0 m);
      frames = fs;
      run = ran.0;
      sim = record {
        match = match_onward T L q on (saved_of fs) _ (count_steps m s) _
            (match_stepped T L m _ s _ (match_at T L _ _ s _ (λ t l. all_moved m new P t ∙ to t l) ran.1));
        saving = refl;
        nested = nest;
        on_size = size;
        sized = sized;
        framed = framed;
        within = within;
      };
      counted = sym (steps_rows s.steps (members_from 0 m));
      released = omega (arith, rows_release (members_from 0 m));
      sees = rows_seen T L g (members_from 0 m) ∙ sym none;
    }
  where
    z : (t : ℕ) → 0 + t ≡ t
    z t = omega arith

    ran : Run (machine T L) g (map row (members_from 0 m)) × Match T L (moved_all 0 m new P) s (after (machine T L) g (map row (members_from 0 m)))
    ran =
        quiet_all T L new here s 0 m P g (omega arith) (λ j k. ap P (z j) ∙ at j k)
        (λ j k. subst (λ u. effect T L u (body here (get_or s.regs u [])) ≡ own.goes (body (new u) (get_or s.regs u []))) (sym (z j)) (acts j k)) h

holding_has : (a : ℕ) (m : Mask) (regs : List (List ℕ)) (t : ℕ) → has (holding a m regs) t ≡ (has m t && nonzero (get_or (get_or regs t []) a 0))
unfolding has holding nonzero
holding_has a [] regs t = refl
holding_has a (b ∷ m) [] zero = sym (and-false b)
holding_has a (b ∷ m) [] (suc t) = holding_has a m [] t
holding_has a (b ∷ m) (r ∷ regs) zero = refl
holding_has a (b ∷ m) (r ∷ regs) (suc t) = holding_has a m regs t

minus_has : (m k : Mask) (t : ℕ) → has (minus m k) t ≡ (has m t && not (has k t))
unfolding has minus
minus_has [] k t = refl
minus_has (b ∷ m) [] t = yes_and (get_or (b ∷ m) t false)
  where
    yes_and : (b : Bool) → b ≡ (b && true)
    yes_and true = refl
    yes_and false = refl
minus_has (b ∷ m) (c ∷ k) zero = refl
minus_has (b ∷ m) (c ∷ k) (suc t) = minus_has m k t

pub framed_fresh : (T : Table) (r : ℕ) (fs : List Frame) → is_while (row_at T r).op ≡ false → Framed T r fs → openers_of fs ≡ open_before T r
framed_fresh T r fs n (fresh q) = q
framed_fresh T r fs n (again p w q) = absurd (unfold is_while in (true≢false (sym (ap is_while w) ∙ n)))

pub loops_plain : (T : Table) (f : Frame) (fs : List Frame) → is_while (row_at T f.opener).op ≡ false → loops_of T (f ∷ fs) ≡ loops_of T fs
unfolding loops_of
loops_plain T f fs q = rw q

place_cons : (T : Table) (q : ℕ) (on : Mask) (f : Frame) (fs : List Frame) (t : ℕ)
    → place T q on (f ∷ fs) t ≡ cond (has on t) (record { row = q; loops = loops_of T (f ∷ fs) }) (place T (exit T f.opener) f.mask fs t)
unfolding place
place_cons T q on f fs t = refl

pub exit_if : (T : Table) (o : ℕ) → (row_at T o).op ≡ IF → exit T o ≡ else_of T o
unfolding exit exit_by
exit_if T o q = ap (λ z. exit_by z T o) q

pub exit_else : (T : Table) (o : ℕ) → (row_at T o).op ≡ ELSE → exit T o ≡ end_of T o
unfolding exit exit_by
exit_else T o q = ap (λ z. exit_by z T o) q

pub exit_while : (T : Table) (o : ℕ) → (row_at T o).op ≡ WHILE → exit T o ≡ suc (end_of T o)
unfolding exit exit_by
exit_while T o q = ap (λ z. exit_by z T o) q

pub loop_if : (o : Op) → o ≡ IF → is_while o ≡ false
unfolding is_while
loop_if o q = ap is_while q

pub loop_else : (o : Op) → o ≡ ELSE → is_while o ≡ false
unfolding is_while
loop_else o q = ap is_while q

pub data Top (T : Table) (r : ℕ) : List Frame → Type 0 where
  top : (f : Frame) (fs : List Frame) → open_before T r ≡ f.opener ∷ openers_of fs → Top T r (f ∷ fs)

-- Where a construct must be open, there is a frame.
pub top_of : (T : Table) (r : ℕ) (fs : List Frame) → openers_of fs ≡ open_before T r → (innermost T [] ≡ innermost T (open_before T r) → ⊥) → Top T r fs
top_of T r [] q n = absurd (n (ap (innermost T) q))
top_of T r (f ∷ fs) q n = top f fs (sym q)

module _ (T : Table) (w : WellFormed T) (L : Shape) (s : LockState) (fs : List Frame) (g : Group) (S : Sim T L s fs g) (l : s.row < length T) where
  abbrev pub x : Row
  x = row_at T s.row

  abbrev pub here : Pos
  here = record { row = s.row; loops = loops_of T fs }

  pub if_row_lem : (row_at T s.row).op ≡ IF → Advanced T L s g (if_row x s)
  unfolding if_row
  if_row_lem q =
      subst (λ v. Advanced T L s g (advance (suc s.row) (holding x.a s.enabled s.regs) (record { opener = s.row; mask = s.enabled } ∷ v)
      (count_steps s.enabled s))) (sym S.saving)
      (control T L s g s.enabled (place T s.row s.enabled fs) (λ t. new (val t)) here (suc s.row) (holding x.a s.enabled s.regs) (f ∷ fs)
      S.match S.on_size (λ t h. place_in T s.row s.enabled fs t h) acts to
      ((λ t h. and_left _ _ (sym (holding_has x.a s.enabled s.regs t) ∙ h)), S.nested)
      (holding_size x.a s.enabled s.regs ∙ S.on_size) (S.on_size, S.sized)
      (fresh (ap (λ os. s.row ∷ os) (framed_fresh T s.row fs (loop_if _ q) S.framed)
      ∙ (unfold open_before in (sym (ap (λ o. opened_by (role o) s.row (open_before T s.row)) q ∙ (unfold role opened_by in refl))))))
      (omega arith) (unfold passed_at passes in (ap (λ o. passed_at o s) q)))
    where
      f : Frame
      f = record { opener = s.row; mask = s.enabled; rounds = 0 }

      val : ℕ → ℕ
      val t = get_or (get_or s.regs t []) (row_at T s.row).a 0

      new : ℕ → Pos
      new zero = record { row = else_of T s.row; loops = loops_of T fs }
      new (suc v) = record { row = suc s.row; loops = loops_of T fs }

      acts : (t : ℕ) → has s.enabled t ≡ true → effect T L t (body here (get_or s.regs t [])) ≡ own.goes (body (new (val t)) (get_or s.regs t []))
      acts t h = act_is T L t (body here (get_or s.regs t [])) IF l q ∙ (unfold effect_of own.reg in (by (val t)))
        where
          by : (v : ℕ) → own.goes (own.on_if T (body here (get_or s.regs t [])) v) ≡ own.goes (body (new v) (get_or s.regs t []))
          by zero = unfold own.on_if own.goto in refl
          by (suc v) = unfold own.on_if own.goto in refl

      to : (t : ℕ) → t < L.threads
          → cond (has s.enabled t) (new (val t)) (place T s.row s.enabled fs t)
          ≡ place T (suc s.row) (holding x.a s.enabled s.regs) (f ∷ fs) t
      to t k =
          by (has s.enabled t) refl (val t)
          ∙ sym (place_cons T (suc s.row) (holding x.a s.enabled s.regs) f fs t
          ∙ ap (λ z. cond z (record { row = suc s.row; loops = loops_of T (f ∷ fs) }) (place T (exit T s.row) s.enabled fs t))
          (holding_has x.a s.enabled s.regs t))
        where
          by : (b : Bool) → has s.enabled t ≡ b → (v : ℕ) → cond b (new v) (place T s.row s.enabled fs t)
              ≡ cond (b && nonzero v) (record { row = suc s.row; loops = loops_of T (f ∷ fs) }) (place T (exit T s.row) s.enabled fs t)
          by true p zero = unfold nonzero in
              (sym (place_in T (exit T s.row) s.enabled fs t p ∙ ap (λ e. record { row = e; loops = loops_of T fs }) (exit_if T s.row q)))
          by true p (suc v) = unfold nonzero in (ap (λ e. record { row = suc s.row; loops = e }) (sym (loops_plain T f fs (loop_if _ q))))
          by false p v = place_any T L.threads s.row (exit T s.row) s.enabled fs t S.nested k p

-- ENDIF: the saved mask's threads all stand here, and go on together.
module _ (T : Table) (w : WellFormed T) (L : Shape) (s : LockState) (f : Frame) (fs : List Frame) (g : Group) (S : Sim T L s (f ∷ fs) g) (l : s.row < length T)
    (q : (row_at T s.row).op ≡ ENDIF) (o : open_before T s.row ≡ f.opener ∷ openers_of fs) where
  kind : ((row_at T f.opener).op ≡ IF) ⊎ ((row_at T f.opener).op ≡ ELSE)
  unfolding innermost
  kind = subst (λ z. (z ≡ IF) ⊎ (z ≡ ELSE)) (ap (innermost T) o) (subst (λ z. Fits z (innermost T (open_before T s.row))) q (w.fitting s.row l))

  loops_same : loops_of T (f ∷ fs) ≡ loops_of T fs
  loops_same = loops_plain T f fs (⊎_elim (λ i. loop_if _ i) (λ e. loop_else _ e) kind)

  exit_here : exit T f.opener ≡ s.row
  exit_here =
      ⊎_elim (λ i. exit_if T f.opener i ∙ else_of_endif T w s.row f.opener (openers_of fs) l o q i)
      (λ e. exit_else T f.opener e ∙ end_here T w s.row f.opener (openers_of fs) l o (closing_endif q)) kind
    where
      closing_endif : (row_at T s.row).op ≡ ENDIF → role (row_at T s.row).op ≡ closing
      closing_endif q = unfold role in (ap role q)

  pub endif_row_lem : Advanced T L s g (endif_row s)
  unfolding endif_row
  endif_row_lem =
      subst (λ v. Advanced T L s g (advance (suc s.row) (top_mask v) (pop v) (count_steps (top_mask v) s))) (sym S.saving)
      (unfold top_mask pop in (control T L s g f.mask (place T s.row s.enabled (f ∷ fs)) (λ t. record { row = suc s.row; loops = loops_of T fs })
      (record { row = s.row; loops = loops_of T fs }) (suc s.row) f.mask fs
      S.match S.sized.0 (λ t h. stand t h (has s.enabled t) refl)
      (λ t h. act_is T L t (body (record { row = s.row; loops = loops_of T fs }) (get_or s.regs t [])) ENDIF l q ∙ (unfold effect_of own.goto in refl))
      (λ t k. to t k (has f.mask t) refl)
      S.nested.1 S.sized.0 S.sized.1 (fresh later) (omega arith) (unfold passed_at passes in (ap (λ o. passed_at o s) q))))
    where
      stand : (t : ℕ) → has f.mask t ≡ true → (b : Bool) → has s.enabled t ≡ b
          → place T s.row s.enabled (f ∷ fs) t ≡ record { row = s.row; loops = loops_of T fs }
      stand t h true b = place_in T s.row s.enabled (f ∷ fs) t b ∙ ap (λ e. record { row = s.row; loops = e }) loops_same
      stand t h false b =
          place_out T s.row s.enabled f fs t b ∙ place_in T (exit T f.opener) f.mask fs t h
          ∙ ap (λ e. record { row = e; loops = loops_of T fs }) exit_here

      to : (t : ℕ) → t < L.threads → (b : Bool) → has f.mask t ≡ b
          → cond (has f.mask t) (record { row = suc s.row; loops = loops_of T fs }) (place T s.row s.enabled (f ∷ fs) t)
          ≡ place T (suc s.row) f.mask fs t
      to t k true b = rw b (sym (place_in T (suc s.row) f.mask fs t b))
      to t k false b =
          rw b (place_out T s.row s.enabled f fs t (off (has s.enabled t) refl) ∙ place_any T L.threads (exit T f.opener)
          (suc s.row) f.mask fs t S.nested.1 k b)
        where
          off : (c : Bool) → has s.enabled t ≡ c → has s.enabled t ≡ false
          off true c = absurd (true≢false (sym (S.nested.0 t c) ∙ b))
          off false c = c

      later : openers_of fs ≡ open_before T (suc s.row)
      later = unfold open_before in (sym (ap₂ (λ z os. opened_by (role z) s.row os) q o ∙ (unfold role opened_by in refl)))

-- ELSE: its threads go to the ENDIF, and those of the saved mask that the IF did not enable stand on the next row.
module _ (T : Table) (w : WellFormed T) (L : Shape) (s : LockState) (f : Frame) (fs : List Frame) (g : Group) (S : Sim T L s (f ∷ fs) g) (l : s.row < length T)
    (q : (row_at T s.row).op ≡ ELSE) (o : open_before T s.row ≡ f.opener ∷ openers_of fs) where
  is_if_lem : (row_at T f.opener).op ≡ IF
  unfolding innermost
  is_if_lem = sym (ap (innermost T) o) ∙ subst (λ z. Fits z (innermost T (open_before T s.row))) q (w.fitting s.row l)

  pub else_row_lem : Advanced T L s g (else_row s)
  unfolding else_row
  else_row_lem =
      subst (λ v. Advanced T L s g
      (advance (suc s.row) (minus (top_mask v) s.enabled) (record { opener = s.row; mask = top_mask v } ∷ pop v) (count_steps s.enabled s)))
      (sym S.saving)
      (unfold top_mask pop in (control T L s g s.enabled (place T s.row s.enabled (f ∷ fs)) (λ t. new)
      (record { row = s.row; loops = loops_of T (f ∷ fs) }) (suc s.row) (minus f.mask s.enabled) (e ∷ fs)
      S.match S.on_size (λ t h. place_in T s.row s.enabled (f ∷ fs) t h)
      (λ t h. act_is T L t (body (record { row = s.row; loops = loops_of T (f ∷ fs) }) (get_or s.regs t [])) ELSE l q ∙ (unfold effect_of own.goto in refl))
      (λ t k. to t k)
      ((λ t h. and_left _ _ (sym (minus_has f.mask s.enabled t) ∙ h)), S.nested.1)
      (minus_size f.mask s.enabled ∙ S.sized.0) S.sized (fresh later) (omega arith) (unfold passed_at passes in (ap (λ o. passed_at o s) q))))
    where
      e : Frame
      e = record { opener = s.row; mask = f.mask; rounds = 0 }

      new : Pos
      new = record { row = end_of T s.row; loops = loops_of T (f ∷ fs) }

      to : (t : ℕ) → t < L.threads
          → cond (has s.enabled t) new (place T s.row s.enabled (f ∷ fs) t) ≡ place T (suc s.row) (minus f.mask s.enabled) (e ∷ fs) t
      to t k =
          by (has s.enabled t) refl (has f.mask t) refl
          ∙ sym (place_cons T (suc s.row) (minus f.mask s.enabled) e fs t
          ∙ ap (λ z. cond z (record { row = suc s.row; loops = loops_of T (e ∷ fs) }) (place T (exit T s.row) f.mask fs t))
          (minus_has f.mask s.enabled t))
        where
          by : (b : Bool) → has s.enabled t ≡ b → (c : Bool) → has f.mask t ≡ c → cond b new (place T s.row s.enabled (f ∷ fs) t)
              ≡ cond (c && not b) (record { row = suc s.row; loops = loops_of T (e ∷ fs) }) (place T (exit T s.row) f.mask fs t)
          by true b true c =
              sym (place_in T (exit T s.row) f.mask fs t c ∙ ap₂ (λ a z. record { row = a; loops = z }) (exit_else T s.row q)
              (sym (loops_plain T f fs (loop_if _ is_if_lem))))
          by true b false c = absurd (true≢false (sym (S.nested.0 t b) ∙ c))
          by false b true c =
              place_out T s.row s.enabled f fs t b ∙ place_in T (exit T f.opener) f.mask fs t c
              ∙ ap₂ (λ a z. record { row = a; loops = z })
              (exit_if T f.opener is_if_lem ∙ else_of_else T w s.row f.opener (openers_of fs) l o q is_if_lem) (sym (loops_plain T e fs (loop_else _ q)))
          by false b false c =
              place_out T s.row s.enabled f fs t b ∙ place_any T L.threads (exit T f.opener) (exit T s.row) f.mask fs t S.nested.1 k c

      later : s.row ∷ openers_of fs ≡ open_before T (suc s.row)
      later = unfold open_before in (sym (ap₂ (λ z os. opened_by (role z) s.row os) q o ∙ (unfold role opened_by in refl)))

outer_while : (T : Table) (o : ℕ) (os : List ℕ) → (row_at T o).op ≡ WHILE → outer (role (row_at T o).op) os ≡ os
unfolding role outer
outer_while T o os q = ap (λ z. outer (role z) os) q

-- ENDWHILE: back to its WHILE.
module _ (T : Table) (w : WellFormed T) (L : Shape) (s : LockState) (f : Frame) (fs : List Frame) (g : Group) (S : Sim T L s (f ∷ fs) g) (l : s.row < length T)
    (q : (row_at T s.row).op ≡ ENDWHILE) (o : open_before T s.row ≡ f.opener ∷ openers_of fs) where
  is_while_lem : (row_at T f.opener).op ≡ WHILE
  unfolding innermost
  is_while_lem = sym (ap (innermost T) o) ∙ subst (λ z. Fits z (innermost T (open_before T s.row))) q (w.fitting s.row l)

  pub endwhile_row_lem : Advanced T L s g (endwhile_row s)
  unfolding endwhile_row
  endwhile_row_lem =
      subst (λ v. Advanced T L s g (advance (top_opener v) s.enabled v (count_steps s.enabled s))) (sym S.saving)
      (unfold top_opener in (control T L s g s.enabled (place T s.row s.enabled (f ∷ fs)) (λ t. new)
      (record { row = s.row; loops = loops_of T (f ∷ fs) }) f.opener s.enabled (f ∷ fs)
      S.match S.on_size (λ t h. place_in T s.row s.enabled (f ∷ fs) t h)
      (λ t h. act_is T L t (body (record { row = s.row; loops = loops_of T (f ∷ fs) }) (get_or s.regs t [])) ENDWHILE l q ∙ acts t)
      (λ t k. to t k (has s.enabled t) refl)
      S.nested S.on_size S.sized (again refl is_while_lem is_outside) (omega (arith, it.above)) (unfold passed_at passes in (ap (λ o. passed_at o s) q))))
    where
      it : Opened T s.row 0 f.opener (openers_of fs)
      it = innermost_at T w s.row f.opener (openers_of fs) (omega arith) o

      new : Pos
      new = record { row = f.opener; loops = loops_of T (f ∷ fs) }

      starts : start_of T s.row ≡ f.opener
      starts = unfold start_of in (ap (λ z. get_or z 0 0) o)

      acts : (t : ℕ)
          → effect_of T L t (body (record { row = s.row; loops = loops_of T (f ∷ fs) }) (get_or s.regs t [])) (row_at T s.row) ENDWHILE
          ≡ own.goes (body new (get_or s.regs t []))
      acts t = unfold effect_of own.goto in (ap (λ z. own.goes (record { row = z; regs = get_or s.regs t []; loops = loops_of T (f ∷ fs) })) starts)

      to : (t : ℕ) → t < L.threads → (b : Bool) → has s.enabled t ≡ b
          → cond (has s.enabled t) new (place T s.row s.enabled (f ∷ fs) t) ≡ place T f.opener s.enabled (f ∷ fs) t
      to t k true b = rw b (sym (place_in T f.opener s.enabled (f ∷ fs) t b))
      to t k false b = rw b (place_any T L.threads s.row f.opener s.enabled (f ∷ fs) t S.nested k b)

      is_outside : openers_of fs ≡ open_before T f.opener
      is_outside = sym (sym (outer_while T f.opener (open_before T f.opener) is_while_lem) ∙ it.around)

pub any_has : (m : Mask) (t : ℕ) → any m ≡ false → has m t ≡ false
unfolding any has
any_has [] t q = refl
any_has (false ∷ m) zero q = refl
any_has (true ∷ m) zero q = q
any_has (false ∷ m) (suc t) q = any_has m t q
any_has (true ∷ m) (suc t) q = absurd (true≢false q)

pub loops_size : (T : Table) (fs : List Frame) → length (loops_of T fs) ≡ length T
unfolding loops_of
loops_size T [] = length-replicate (length T) 0
loops_size T (f ∷ fs) = by (is_while (row_at T f.opener).op) (loops_size T fs)
  where
    by : (b : Bool) → length (loops_of T fs) ≡ length T → length (cond b (set (loops_of T fs) f.opener f.rounds) (loops_of T fs)) ≡ length T
    by true h = length-set (loops_of T fs) f.opener f.rounds ∙ h
    by false h = h

abbrev NotIn : ℕ → List ℕ → Type 0
NotIn r [] = Unit {0}
NotIn r (o ∷ os) = (¬ (r ≡ o)) × NotIn r os

not_in : (T : Table) (r k : ℕ) (os : List ℕ) → AllOpened T r k os → NotIn r os
not_in T r k [] a = tt
not_in T r k (o ∷ os) a = ((λ e. omega (arith, a.0.above)), not_in T r (suc k) os a.1)

loops_zero : (T : Table) (r : ℕ) (fs : List Frame) → NotIn r (openers_of fs) → get_or (loops_of T fs) r 0 ≡ 0
unfolding loops_of
loops_zero T r [] a = zeros (length T) r
loops_zero T r (f ∷ fs) a = by (is_while (row_at T f.opener).op) (loops_zero T r fs a.1)
  where
    by : (b : Bool) → get_or (loops_of T fs) r 0 ≡ 0 → get_or (cond b (set (loops_of T fs) f.opener f.rounds) (loops_of T fs)) r 0 ≡ 0
    by true h = get_or-set_other (loops_of T fs) f.opener r f.rounds 0 a.0 ∙ h
    by false h = h

pub loops_while : (T : Table) (f : Frame) (fs : List Frame) → (row_at T f.opener).op ≡ WHILE → loops_of T (f ∷ fs) ≡ set (loops_of T fs) f.opener f.rounds
unfolding loops_of is_while
loops_while T f fs q = ap (λ z. cond (is_while z) (set (loops_of T fs) f.opener f.rounds) (loops_of T fs)) q

-- WHILE, with its own frame on top: those that find it true begin a round, the others wait past the loop; where none is left, all go on there.
module _ (T : Table) (w : WellFormed T) (L : Shape) (s : LockState) (k : Mask) (c : ℕ) (fs : List Frame) (g : Group) (l : s.row < length T)
    (q : (row_at T s.row).op ≡ WHILE) (o : openers_of fs ≡ open_before T s.row) where
  abbrev wf : ℕ → Frame
  wf i = record { opener = s.row; mask = k; rounds = i }

  abbrev wval : ℕ → ℕ
  wval t = get_or (get_or s.regs t []) (row_at T s.row).a 0

  abbrev wnew : ℕ → Pos
  wnew zero = record { row = suc (end_of T s.row); loops = loops_of T fs }
  wnew (suc v) = record { row = suc s.row; loops = loops_of T (wf (suc c) ∷ fs) }

  round : set (loops_of T (wf c ∷ fs)) s.row (suc (get_or (loops_of T (wf c ∷ fs)) s.row 0)) ≡ loops_of T (wf (suc c) ∷ fs)
  round =
      ap (λ z. set z s.row (suc (get_or z s.row 0))) (loops_while T (wf c) fs q)
      ∙ ap (λ i. set (set (loops_of T fs) s.row c) s.row (suc i)) (get_or-set_same (loops_of T fs) s.row c 0 (omega (arith, loops_size T fs)))
      ∙ set-set (loops_of T fs) s.row c (suc c)
      ∙ sym (loops_while T (wf (suc c)) fs q)

  cell_after : set (loops_of T (wf c ∷ fs)) s.row 0 ≡ loops_of T fs
  cell_after =
      ap (λ z. set z s.row 0) (loops_while T (wf c) fs q) ∙ set-set (loops_of T fs) s.row c 0
      ∙ ap (set (loops_of T fs) s.row)
      (sym (loops_zero T s.row fs (subst (NotIn s.row) (sym o) (not_in T s.row 0 (open_before T s.row) (all_opened T w s.row (omega arith))))))
      ∙ set-get_or (loops_of T fs) s.row 0

  wacts : (t : ℕ)
      → effect T L t (body (record { row = s.row; loops = loops_of T (wf c ∷ fs) }) (get_or s.regs t []))
      ≡ own.goes (body (wnew (wval t)) (get_or s.regs t []))
  wacts t =
      act_is T L t (body (record { row = s.row; loops = loops_of T (wf c ∷ fs) }) (get_or s.regs t [])) WHILE l q ∙ (unfold effect_of own.reg in (by (wval t)))
    where
      by : (v : ℕ)
          → own.goes (own.on_while T (body (record { row = s.row; loops = loops_of T (wf c ∷ fs) }) (get_or s.regs t [])) v)
          ≡ own.goes (body (wnew v) (get_or s.regs t []))
      by zero = unfold own.on_while in (ap (λ z. own.goes (record { row = suc (end_of T s.row); regs = get_or s.regs t []; loops = z })) cell_after)
      by (suc v) = unfold own.on_while in (ap (λ z. own.goes (record { row = suc s.row; regs = get_or s.regs t []; loops = z })) round)

  module _ (h : Match T L (place T s.row s.enabled (wf c ∷ fs)) s g) (size : length s.enabled ≡ L.threads)
      (ksize : length k ≡ L.threads) (fsize : Sized L.threads fs)
      (sub : (t : ℕ) → has s.enabled t ≡ true → has k t ≡ true) (nest : Nested L.threads k fs) where
    abbrev won : Mask
    won = holding (row_at T s.row).a s.enabled s.regs

    while_stay : Advanced T L s g (advance (suc s.row) won (saved_of (wf (suc c) ∷ fs)) (count_steps s.enabled s))
    while_stay =
        control T L s g s.enabled (place T s.row s.enabled (wf c ∷ fs)) (λ t. wnew (wval t))
        (record { row = s.row; loops = loops_of T (wf c ∷ fs) }) (suc s.row) won (wf (suc c) ∷ fs)
        h size (λ t b. place_in T s.row s.enabled (wf c ∷ fs) t b) (λ t b. wacts t) to
        ((λ t b. sub t (and_left _ _ (sym (holding_has (row_at T s.row).a s.enabled s.regs t) ∙ b))), nest)
        (holding_size (row_at T s.row).a s.enabled s.regs ∙ size) (ksize, fsize)
        (fresh later) (omega arith) (unfold passed_at passes in (ap (λ o. passed_at o s) q))
      where
        later : s.row ∷ openers_of fs ≡ open_before T (suc s.row)
        later = unfold open_before in (sym (ap₂ (λ z os. opened_by (role z) s.row os) q (sym o) ∙ (unfold role opened_by in refl)))

        to : (t : ℕ) → t < L.threads
            → cond (has s.enabled t) (wnew (wval t)) (place T s.row s.enabled (wf c ∷ fs) t) ≡ place T (suc s.row) won (wf (suc c) ∷ fs) t
        to t i =
            by (has s.enabled t) refl (wval t)
            ∙ sym (place_cons T (suc s.row) won (wf (suc c)) fs t
            ∙ ap (λ z. cond z (record { row = suc s.row; loops = loops_of T (wf (suc c) ∷ fs) }) (place T (exit T s.row) k fs t))
            (holding_has (row_at T s.row).a s.enabled s.regs t))
          where
            by : (b : Bool) → has s.enabled t ≡ b → (v : ℕ) → cond b (wnew v) (place T s.row s.enabled (wf c ∷ fs) t)
                ≡ cond (b && nonzero v) (record { row = suc s.row; loops = loops_of T (wf (suc c) ∷ fs) }) (place T (exit T s.row) k fs t)
            by true p zero =
                unfold nonzero in
                (sym (place_in T (exit T s.row) k fs t (sub t p) ∙ ap (λ e. record { row = e; loops = loops_of T fs }) (exit_while T s.row q)))
            by true p (suc v) = unfold nonzero in refl
            by false p v = place_out T s.row s.enabled (wf c) fs t p

    while_leave : any won ≡ false → Advanced T L s g (advance (suc (end_of T s.row)) k (saved_of fs) (count_steps s.enabled s))
    while_leave none =
        control T L s g s.enabled (place T s.row s.enabled (wf c ∷ fs)) (λ t. wnew (wval t))
        (record { row = s.row; loops = loops_of T (wf c ∷ fs) }) (suc (end_of T s.row)) k fs
        h size (λ t b. place_in T s.row s.enabled (wf c ∷ fs) t b) (λ t b. wacts t) to nest ksize fsize
        (fresh (o ∙ sym gone.leaves)) gone.within (unfold passed_at passes in (ap (λ o. passed_at o s) q))
      where
        gone : Left T (end_of T s.row) (open_before T s.row)
        gone = after_end T w s.row l (unfold role in (ap role q))

        to : (t : ℕ) → t < L.threads
            → cond (has s.enabled t) (wnew (wval t)) (place T s.row s.enabled (wf c ∷ fs) t) ≡ place T (suc (end_of T s.row)) k fs t
        to t i = by (has s.enabled t) refl (wval t) (sym (holding_has (row_at T s.row).a s.enabled s.regs t) ∙ any_has won t none)
          where
            by : (b : Bool) → has s.enabled t ≡ b → (v : ℕ) → (has s.enabled t && nonzero v) ≡ false
                → cond b (wnew v) (place T s.row s.enabled (wf c ∷ fs) t) ≡ place T (suc (end_of T s.row)) k fs t
            by true p zero e = sym (place_in T (suc (end_of T s.row)) k fs t (sub t p))
            by true p (suc v) e = absurd (unfold nonzero in (true≢false (sym (ap (λ z. z && true) p) ∙ e)))
            by false p v e = place_out T s.row s.enabled (wf c) fs t p ∙ ap (λ e. place T e k fs t) (exit_while T s.row q)

    pub while_core : Advanced T L s g (leave_or_stay T (count_steps s.enabled s) (saved_of (wf c ∷ fs)) won)
    unfolding leave_or_stay top_mask pop count_steps
    while_core = by (any won) refl
      where
        by : (b : Bool) → any won ≡ b
            → Advanced T L s g
            (cond b (advance (suc s.row) won (saved_of (wf c ∷ fs)) (count_steps s.enabled s))
            (advance (suc (end_of T s.row)) k (saved_of fs) (count_steps s.enabled s)))
        by true e = while_stay
        by false e = while_leave e

pub while_row_lem : (T : Table) → WellFormed T → (L : Shape) (s : LockState) (fs : List Frame) (g : Group) → Sim T L s fs g → s.row < length T
    → (row_at T s.row).op ≡ WHILE → Advanced T L s g (while_row T (row_at T s.row) s)
unfolding while_row
while_row_lem T w L s fs g S l q = by fs S S.framed
  where
    m : Mask
    m = holding (row_at T s.row).a s.enabled s.regs

    by : (fs : List Frame) → Sim T L s fs g → Framed T s.row fs
        → Advanced T L s g (leave_or_stay T (count_steps s.enabled s) (saved_at_while s.row s.enabled s.saved) m)
    by fs S (fresh o) =
        subst (λ v. Advanced T L s g (leave_or_stay T (count_steps s.enabled s) v m))
        (sym (ap (saved_at_while s.row s.enabled) S.saving ∙ pushed fs apart))
        (while_core T w L s s.enabled 0 fs g l q o
        (match_at T L (place T s.row s.enabled fs) (place T s.row s.enabled (f ∷ fs)) s g (λ t i. at t i (has s.enabled t) refl) S.match)
        S.on_size S.on_size S.sized (λ t b. b) S.nested)
      where
        f : Frame
        f = record { opener = s.row; mask = s.enabled; rounds = 0 }

        apart : NotIn s.row (openers_of fs)
        apart = subst (NotIn s.row) (sym o) (not_in T s.row 0 (open_before T s.row) (all_opened T w s.row (omega arith)))

        same : loops_of T fs ≡ loops_of T (f ∷ fs)
        same = sym (loops_while T f fs q ∙ ap (set (loops_of T fs) s.row) (sym (loops_zero T s.row fs apart)) ∙ set-get_or (loops_of T fs) s.row 0)

        at : (t : ℕ) → t < L.threads → (b : Bool) → has s.enabled t ≡ b → place T s.row s.enabled fs t ≡ place T s.row s.enabled (f ∷ fs) t
        at t i true b =
            place_in T s.row s.enabled fs t b ∙ ap (λ z. record { row = s.row; loops = z }) same ∙ sym (place_in T s.row s.enabled (f ∷ fs) t b)
        at t i false b =
            place_any T L.threads s.row (exit T s.row) s.enabled fs t S.nested i b ∙ sym (place_out T s.row s.enabled f fs t b)

        pushed : (fs : List Frame) → NotIn s.row (openers_of fs)
            → saved_at_while s.row s.enabled (saved_of fs) ≡ record { opener = s.row; mask = s.enabled } ∷ saved_of fs
        pushed [] a = unfold saved_at_while in refl
        pushed (h ∷ fs) a = unfold saved_at_while in (rw (ne_eqb h.opener s.row (λ e. a.0 (sym e))))
    by (f ∷ fs) S (again p z o) =
        subst (λ v. Advanced T L s g (leave_or_stay T (count_steps s.enabled s) v m)) (sym (ap (saved_at_while s.row s.enabled) S.saving ∙ kept))
        (while_core T w L s f.mask f.rounds fs g l q o
        (subst (λ h. Match T L (place T s.row s.enabled (h ∷ fs)) s g) is S.match)
        S.on_size S.sized.0 S.sized.1 S.nested.0 S.nested.1)
      where
        is : f ≡ record { opener = s.row; mask = f.mask; rounds = f.rounds }
        is = λ i. record { opener = p i; mask = f.mask; rounds = f.rounds }

        kept : saved_at_while s.row s.enabled (saved_of (f ∷ fs)) ≡ record { opener = s.row; mask = f.mask } ∷ saved_of fs
        kept = unfold saved_at_while in (rw (eq-eqb f.opener s.row p) (ap (λ e. record { opener = e; mask = f.mask } ∷ saved_of fs) p))

-- What a plain row keeps, where these threads have stepped.
pub record Kept (ts : List ℕ) (s z : LockState) : Type 0 where
  pub row_same : z.row ≡ s.row
  pub on_same : z.enabled ≡ s.enabled
  pub saved_same : z.saved ≡ s.saved
  pub steps_more : z.steps ≡ all_stepped s.steps ts
  pub barriers_same : z.barriers ≡ s.barriers

abbrev pub Keeps : (ts : List ℕ) → LockState → Step → Type 0
Keeps ts s (continues z) = Kept ts s z
Keeps ts s (stops v z) = Stopping v

keeps_then : (t : ℕ) (ts : List ℕ) (s : LockState) (o : Step) (f : LockState → Step) → Keeps (t ∷ []) s o → ((z : LockState) → Keeps ts z (f z))
    → Keeps (t ∷ ts) s (and_then o f)
unfolding and_then all_stepped
keeps_then t ts s (stops v z) f h ih = h
keeps_then t ts s (continues z) f h ih = by (f z) (ih z)
  where
    by : (o : Step) → Keeps ts z o → Keeps (t ∷ ts) s o
    by (stops v y) u = u
    by (continues y) u =
        record {
          row_same = u.row_same ∙ h.row_same;
          on_same = u.on_same ∙ h.on_same;
          saved_same = u.saved_same ∙ h.saved_same;
          steps_more = u.steps_more ∙ ap (λ steps. all_stepped steps ts) h.steps_more;
          barriers_same = u.barriers_same ∙ h.barriers_same;
        }

pub keeps_all : (f : LockState → ℕ → Step) → ((s : LockState) (t : ℕ) → Keeps (t ∷ []) s (f s t)) → (ts : List ℕ) (s : LockState) → Keeps ts s (in_turn f ts s)
unfolding in_turn all_stepped
keeps_all f one [] s = record { row_same = refl; on_same = refl; saved_same = refl; steps_more = refl; barriers_same = refl }
keeps_all f one (t ∷ ts) s = keeps_then t ts s (f s t) (in_turn f ts) (one s t) (keeps_all f one ts)

pub keeps_touch : (L : Shape) (p : Space) (m : Mem) (x : Row) (s : LockState) (t : ℕ) → Keeps (t ∷ []) s (access_turn L p m x s t)
unfolding made_access set_reg all_stepped
keeps_touch L p m x s t =
    turn_cases L p m x s t (Keeps (t ∷ []) s) (λ l u. tt)
    (λ v l u. record { row_same = refl; on_same = refl; saved_same = refl; steps_more = refl; barriers_same = refl }) (λ l u. tt) (λ o y l a. tt) (λ h y l a b. tt)
    (λ l a b. record { row_same = refl; on_same = refl; saved_same = refl; steps_more = refl; barriers_same = refl })

pub keeps_calc : (x : Row) (f : ℕ → ℕ → ℕ → ℕ) (s : LockState) (t : ℕ) → Keeps (t ∷ []) s (compute_turn x f s t)
unfolding compute_turn set_reg all_stepped
keeps_calc x f s t = record { row_same = refl; on_same = refl; saved_same = refl; steps_more = refl; barriers_same = refl }

-- A plain row: CALC, LOAD or STORE.
pub plain_row_lem : (T : Table) (L : Shape) (s : LockState) (fs : List Frame) (g : Group) → Sim T L s fs g → s.row < length T → (f : LockState → ℕ → Step)
    → ((s : LockState) (t : ℕ) → Keeps (t ∷ []) s (f s t))
    → ((t : ℕ) (P : ℕ → Pos) (z : LockState) (g : Group) → t < L.threads → P t ≡ record { row = s.row; loops = loops_of T fs } → Match T L P z g
    → One T L (λ u. record { row = suc s.row; loops = loops_of T fs }) (record { row = s.row; loops = loops_of T fs }) t P g (f z t))
    → openers_of fs ≡ open_before T (suc s.row) → passed_at (row_at T s.row).op s ≡ []
    → RowDone T L s g (for_enabled f s)
unfolding for_enabled and_then members
plain_row_lem T L s fs g S l f keep one later none =
    by (in_turn f (members_from 0 s.enabled) s) (keeps_all f keep (members_from 0 s.enabled) s)
    (turn_all T L (λ u. record { row = suc s.row; loops = loops_of T fs }) (record { row = s.row; loops = loops_of T fs }) f one 0 s.enabled
    (place T s.row s.enabled fs) s g
    (let h = S.on_size in omega arith) (λ j h. ap (place T s.row s.enabled fs) (let z : 0 + j ≡ j = omega arith in z)
    ∙ place_in T s.row s.enabled fs j h) S.match)
  where
    by : (o : Step) → Keeps (members_from 0 s.enabled) s o
        → Turned T L (λ u. record { row = suc s.row; loops = loops_of T fs }) (record { row = s.row; loops = loops_of T fs }) 0 s.enabled
        (place T s.row s.enabled fs) g o
        → RowDone T L s g (and_then o (λ z. continues (advance (suc z.row) z.enabled z.saved z)))
    by (stops v z) k u = record { stopping = k; moves = u.0; run = u.1; fails = inl u.2 }
    by (continues z) k u =
        subst₃ (λ r m v. Advanced T L s g (advance (suc r) m v z)) (sym k.row_same) (sym k.on_same) (sym (k.saved_same ∙ S.saving))
        (unfold advance in (record {
          moves = map row (members_from 0 s.enabled);
          frames = fs;
          run = u.0;
          sim = record {
            match = match_onward T L (suc s.row) s.enabled (saved_of fs) _ z _
                (match_at T L _ _ z _ (together T L.threads s.row (suc s.row) s.enabled fs S.nested) u.1);
            saving = refl;
            nested = S.nested;
            on_size = S.on_size;
            sized = S.sized;
            framed = fresh later;
            within = l;
          };
          counted = k.steps_more ∙ sym (steps_rows s.steps (members_from 0 s.enabled));
          released = omega (arith, rows_release (members_from 0 s.enabled), k.barriers_same);
          sees = rows_seen T L g (members_from 0 s.enabled) ∙ sym none;
        }))
