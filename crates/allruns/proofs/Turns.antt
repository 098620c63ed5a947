-- A row of the lock-step run is a row of each enabled thread, lowest first. Assumes nothing.
use mathlib.Core.Path.{◌≡◌, refl, sym, ◌∙◌, ap, ap₂, subst, subst₂, fun_ext}
use mathlib.Core.List.{List, [], ◌∷◌, map}
use mathlib.Core.Bool.{Bool, true, false, cond, not, ◌||◌, or-false}
use Prim.Native.Nat.{ℕ, suc, ◌+◌, ◌<◌, ◌≤◌}
use native.Mathlib.Omega.{arith}
use native.Mathlib.Decide.{ℕ_discrete}
use lib.Dec.{eqb}
use borrow.Author.Tests.{lt-ltb, le-ltb}
use lib.ListN.{length, get_or, set, length-set}
use lib.Seq.{get_or-set_other, get_or-set_same, set-get_or}
use Rattle.spec.specs.Access.{Access, Kind, cell_after, registers_after}
use Rattle.spec.specs.Lists.{any_of}
use Rattle.spec.specs.GroupLog.{GroupLog}
use Rattle.spec.specs.LockStep.{LockState, Step, access_turn, and_then, compute_turn, continues, in_turn, made_access, reg, set_reg, stops}
use Rattle.spec.specs.Mask.{Mask, any, has, members_from}
use Rattle.spec.specs.Op.{CALC, Calc, GLOBAL, MEM, Mem, OWN, Op, Space, value}
use Rattle.spec.specs.Runs.{Run, after}
use Rattle.spec.specs.Shape.{Shape, address, bound, launch_number, past, reaches, total}
use Rattle.spec.specs.Table.{Row, Table, row_at}
use Rattle.spec.specs.Threads.{AccessRecord, Effect, Group, Move, Thread, accesses, accesses_of, beyond, cells_after, effect, effect_at, effect_of, ends_badly, is_outside}
use Rattle.spec.specs.Threads.{is_waiting, machine, next, no_thread, performed, possible, put, races, reach, recorded, row, strays, thread_after, thread_count}
use Rattle.spec.specs.Threads as own
use Rattle.allruns.proofs.LogMatches.{LogMatches}
use Rattle.allruns.proofs.LogRecord.{log_tested, log_entered}
use Rattle.allruns.proofs.Places.{address_reached, address_within, global_place, own_apart}
use Rattle.allruns.proofs.GroupMatches.{GroupMatches, groups_global, groups_own, rivals_say}
use Rattle.allruns.proofs.AccessTurns.{entered, groups, groups_after, kind, number, others, standing, turn_cases}
use Rattle.allruns.proofs.Bools.{and_make}
use Rattle.allruns.proofs.Diamond.{next_done, next_bad}
use Rattle.allruns.proofs.Simulation.{Pos, body, Match, moved, moved_same, moved_other, moved_all}

module _ (T : Table) (L : Shape) (new : ℕ → Pos) (here : Pos) where
  -- What one thread's part of a row comes to in the machine.
  abbrev pub One : ℕ → (ℕ → Pos) → Group → Step → Type 0
  One t P g (continues s) = (possible T L g (row t) ≡ true) × Match T L (moved P t (new t)) s (next T L g (row t))
  One t P g (stops v s) = (possible T L g (row t) ≡ true) × ((next T L g (row t)).bad ≡ true)

  -- What the part of the threads of m, from k on, comes to.
  abbrev pub Turned : ℕ → Mask → (ℕ → Pos) → Group → Step → Type 0
  Turned k m P g (continues s) =
      Run (machine T L) g (map row (members_from k m)) × Match T L (moved_all k m new P) s (after (machine T L) g (map row (members_from k m)))
  Turned k m P g (stops v s) = (ks : List Move) × Run (machine T L) g ks × ((after (machine T L) g ks).bad ≡ true)

  turned_cons : (f : LockState → ℕ → Step) (k : ℕ) (m : Mask) (P : ℕ → Pos) (g : Group) (o : Step) → One k P g o
      → ((s : LockState) → Match T L (moved P k (new k)) s (next T L g (row k)) → Turned (suc k) m (moved P k (new k)) (next T L g (row k))
      (in_turn f (members_from (suc k) m) s))
      → Turned k (true ∷ m) P g (and_then o (in_turn f (members_from (suc k) m)))
  unfolding and_then members_from moved_all
  turned_cons f k m P g (stops v s) h ih = (row k ∷ [], (h.0, tt), h.1)
  turned_cons f k m P g (continues s) h ih = by (in_turn f (members_from (suc k) m) s) (ih s h.1)
    where
      by : (o : Step) → Turned (suc k) m (moved P k (new k)) (next T L g (row k)) o → Turned k (true ∷ m) P g o
      by (continues z) u = ((h.0, u.0), u.1)
      by (stops v z) u = (row k ∷ u.0, (h.0, u.1), u.2)

  turned_skip : (k : ℕ) (m : Mask) (P : ℕ → Pos) (g : Group) (o : Step) → Turned (suc k) m P g o → Turned k (false ∷ m) P g o
  unfolding members_from moved_all
  turned_skip k m P g (continues s) u = u
  turned_skip k m P g (stops v s) u = u

  pub turn_all : (f : LockState → ℕ → Step)
      → ((t : ℕ) (P : ℕ → Pos) (s : LockState) (g : Group) → t < L.threads → P t ≡ here → Match T L P s g → One t P g (f s t))
      → (k : ℕ) (m : Mask) (P : ℕ → Pos) (s : LockState) (g : Group) → k + length m ≤ L.threads → ((j : ℕ) → has m j ≡ true → P (k + j) ≡ here)
      → Match T L P s g → Turned k m P g (in_turn f (members_from k m) s)
  unfolding in_turn members_from moved_all has
  turn_all f one k [] P s g l at h = (tt, h)
  turn_all f one k (false ∷ m) P s g l at h =
      turned_skip k m P g (in_turn f (members_from (suc k) m) s)
      (turn_all f one (suc k) m P s g (omega arith) (λ j q. ap P (let z : suc k + j ≡ k + suc j = omega arith in z) ∙ at (suc j) q) h)
  turn_all f one k (true ∷ m) P s g l at h =
      turned_cons f k m P g (f s k) (one k P s g (omega arith) (ap P (let z : k ≡ k + 0 = omega arith in z) ∙ at 0 refl) h)
      (λ s₁ h₁.
      turn_all f one (suc k) m (moved P k (new k)) s₁ (next T L g (row k)) (omega arith)
      (λ j q. moved_other P k (suc k + j) (new k) (λ e. omega arith) ∙ ap P (let z : suc k + j ≡ k + suc j = omega arith in z) ∙ at (suc j) q) h₁)

-- Nothing recorded.
none_recorded : (R : AccessRecord) (t : ℕ) → recorded R t [] ≡ R
unfolding recorded
none_recorded R t = fun_ext (λ u. same (eqb u t) (R u))
  where
    same : (b : Bool) (xs : List Access) → cond b xs xs ≡ xs
    same true xs = refl
    same false xs = refl

-- A thread's row that makes no access, and leaves the lock-step state as it is but for what `s₁` says of registers.
module _ (T : Table) (L : Shape) (t : ℕ) (P : ℕ → Pos) (s : LockState) (g : Group) (l : t < L.threads) (h : Match T L P s g) where
  pub own_act : effect_at T L g t ≡ effect T L t (body (P t) (get_or s.regs t []))
  unfolding effect_at
  own_act = ap (effect T L t) (h.threads t l)

  pub may : (x : Effect) → effect_at T L g t ≡ x → is_waiting x ≡ false → possible T L g (row t) ≡ true
  unfolding possible thread_count
  may x q i = and_make (ap not h.good) (and_make (lt-ltb t _ (rw h.size l)) (ap (λ a. not (is_waiting a)) q ∙ ap not i))

  -- the machine's own step, where it is not bad: thread t alone has changed
  pub stepped_threads : (x : Effect) (p : Pos) (rs : List (List ℕ)) (r : List ℕ) → rs ≡ set s.regs t r
      → thread_after (get_or g.threads t no_thread) g.cells x ≡ body p r → (u : ℕ) → u < L.threads
      → get_or (performed g t x).threads u no_thread ≡ body (moved P t p u) (get_or rs u [])
  unfolding performed
  stepped_threads x p rs r q e u k = by (ℕ_discrete u t)
    where
      by : Dec (u ≡ t) → get_or (set g.threads t (thread_after (get_or g.threads t no_thread) g.cells x)) u no_thread ≡ body (moved P t p u) (get_or rs u [])
      by (yes d) =
          ap (λ v. get_or (set g.threads t (thread_after (get_or g.threads t no_thread) g.cells x)) v no_thread) d
          ∙ get_or-set_same g.threads t _ no_thread (rw h.size l)
          ∙ e
          ∙ ap₂ body (sym (ap (moved P t p) d ∙ moved_same P t p)) (sym (ap₂ (λ y v. get_or y v []) q d ∙ get_or-set_same s.regs t r [] (rw h.regged l)))
      by (no d) =
          get_or-set_other g.threads t u _ no_thread d ∙ h.threads u k
          ∙ ap₂ body (sym (moved_other P t u p d)) (sym (ap (λ y. get_or y u []) q ∙ get_or-set_other s.regs t u r [] d))

  -- where the machine stands after thread t's own act x, which is not bad
  pub matched : (x : Effect) (p : Pos) (r : List ℕ) (s₁ : LockState) → thread_after (get_or g.threads t no_thread) g.cells x ≡ body p r
      → s₁.regs ≡ set s.regs t r → cells_after g.cells x ≡ s₁.cells → length s₁.cells ≡ length s.cells
      → LogMatches L.threads (total L) (reaches L) (recorded g.made t (accesses_of x)) s₁.log
      → GroupMatches L (total L) (recorded g.ever t (accesses_of x)) g.barred s₁.group_log
      → Match T L (moved P t p) s₁ (performed g t x)
  unfolding performed
  matched x p r s₁ e q k len logs groups =
      record {
        good = h.good;
        size = length-set g.threads t _ ∙ h.size;
        regged = ap length q ∙ length-set s.regs t r ∙ h.regged;
        threads = stepped_threads x p s₁.regs r q e;
        cells = k;
        celled = len ∙ h.celled;
        numbered = h.numbered;
        logs = logs;
        groups = groups;
      }

  pub next_is : (x : Effect) (p : Pos) (s₁ : LockState) → effect_at T L g t ≡ x → is_waiting x ≡ false → ends_badly g t x ≡ false
      → Match T L (moved P t p) s₁ (performed g t x) → (possible T L g (row t) ≡ true) × Match T L (moved P t p) s₁ (next T L g (row t))
  next_is x p s₁ a i b m = (may x a i, subst (Match T L (moved P t p) s₁) (sym (next_done T L g t (ap (ends_badly g t) a ∙ b) ∙ ap (performed g t) a)) m)

  -- a row without access
  pub quiet_one : (p : Pos) (r : List ℕ) (s₁ : LockState) → effect T L t (body (P t) (get_or s.regs t [])) ≡ own.goes (body p r) → s₁.regs ≡ set s.regs t r
      → s₁.cells ≡ s.cells → s₁.log ≡ s.log → s₁.group_log ≡ s.group_log
      → (possible T L g (row t) ≡ true) × Match T L (moved P t p) s₁ (next T L g (row t))
  unfolding is_waiting ends_badly is_outside accesses_of any_of thread_after cells_after
  quiet_one p r s₁ a q c d e =
      next_is (own.goes (body p r)) p s₁ (own_act ∙ a) refl refl
      (matched (own.goes (body p r)) p r s₁ refl q (h.cells ∙ sym c) (ap length c)
      (subst₂ (LogMatches L.threads (total L) (reaches L)) (sym (none_recorded g.made t)) (sym d) h.logs)
      (subst₂ (λ R H. GroupMatches L (total L) R g.barred H) (sym (none_recorded g.ever t)) (sym e) h.groups))

pub act_is : (T : Table) (L : Shape) (t : ℕ) (th : Thread) (o : Op) → th.row < length T → (row_at T th.row).op ≡ o
    → effect T L t th ≡ effect_of T L t th (row_at T th.row) o
unfolding effect
act_is T L t th o l q = rw (lt-ltb _ _ l) (ap (effect_of T L t th (row_at T th.row)) q)

-- An access made by both: the group masks.
groups_entered : (L : Shape) (ever : AccessRecord) (barred : Access → Bool) (H : GroupLog) → L.group < L.groups → GroupMatches L (total L) ever barred H
    → (p : Space) (t c : ℕ) (k : Kind) → t < L.threads → c < bound L p
    → GroupMatches L (total L) (recorded ever t (record { cell = address L p c; kind = k } ∷ [])) barred (groups_after p H (address L p c) L.group k)
unfolding groups_after
groups_entered L ever barred H g h OWN t c k l b = groups_own L (total L) ever barred H g h t (address L OWN c) k l (own_apart L g c b)
groups_entered L ever barred H g h GLOBAL t c k l b =
    groups_global L (total L) ever barred H g h t (address L GLOBAL c) k l (address_within L g GLOBAL c b) (global_place L c)

module _ (T : Table) (L : Shape) (t : ℕ) (P : ℕ → Pos) (s : LockState) (g : Group) (l : t < L.threads) (h : Match T L P s g)
    (inside : (P t).row < length T) where
  pub touch_one : (here : Pos) (new : ℕ → Pos) (p : Space) (m : Mem) → (row_at T (P t).row).op ≡ MEM p m
      → new t ≡ record { row = suc (P t).row; loops = (P t).loops } → One T L new here t P g (access_turn L p m (row_at T (P t).row) s t)
  touch_one here new p m q e =
      turn_cases L p m x s t (One T L new here t P g)
      (λ y u. stray (beyond_is y ∙ (ap (beyond th x.d) u ∙ (unfold beyond in refl))))
      (λ v y u.
      subst (λ u. (possible T L g (row t) ≡ true) × Match T L (moved P t u) (set_reg s t x.d v) (next T L g (row t))) (sym e)
      (quiet_one T L t P s g l h pos (set (get_or s.regs t []) x.d v) (set_reg s t x.d v)
      (sym (own_act T L t P s g l h) ∙ beyond_is y ∙ (ap (beyond th x.d) u ∙ (unfold beyond put in refl))) (unfold set_reg in refl) (unfold set_reg in refl)
      (unfold set_reg in refl) (unfold set_reg in refl)))
      (λ y u. stray (beyond_is y ∙ (ap (beyond th x.d) u ∙ (unfold beyond in refl))))
      (λ o w y a. bad y (ap (λ b. b || any (groups L p m x s t)) a))
      (λ o w y a b. bad y (ap₂ ◌||◌ a b))
      (λ y a b.
      subst (λ u. (possible T L g (row t) ≡ true) × Match T L (moved P t u) s₁ (next T L g (row t))) (sym e)
      (next_is T L t P s g l h (accesses c k x.d) pos s₁ (made y) (unfold is_waiting in refl) (hurt y ∙ ap₂ ◌||◌ a b) (touch_match y a)))
    where
      x : Row
      x = row_at T (P t).row

      th : Thread
      th = body (P t) (get_or s.regs t [])

      b : ℕ
      b = number L p m x s t

      c : ℕ
      c = standing L p m x s t

      k : Kind
      k = kind L p m x s t

      s₁ : LockState
      s₁ = entered L p m x s t

      pos : Pos
      pos = record { row = suc (P t).row; loops = (P t).loops }

      a : effect_at T L g t ≡ reach L th p b k x.d
      a = own_act T L t P s g l h ∙ act_is T L t th (MEM p m) inside q ∙ (unfold effect_of own.reg reg in refl)

      beyond_is : bound L p ≤ b → effect_at T L g t ≡ beyond th x.d (past L p b k)
      beyond_is y = a ∙ (unfold reach in (rw (le-ltb b (bound L p) y)))

      stray : effect_at T L g t ≡ strays → (possible T L g (row t) ≡ true) × ((next T L g (row t)).bad ≡ true)
      stray q = (may T L t P s g l h _ q (unfold is_waiting in refl), next_bad T L g t (ap (ends_badly g t) q ∙ (unfold ends_badly is_outside in refl)))

      made : b < bound L p → effect_at T L g t ≡ accesses c k x.d
      made y = a ∙ (unfold reach in (rw (lt-ltb b (bound L p) y)))

      -- the machine's two tests are those of lock step
      hurt : b < bound L p → ends_badly g t (accesses c k x.d) ≡ (any (others L p m x s t) || any (groups L p m x s t))
      hurt y =
          unfold ends_badly is_outside accesses_of any_of thread_count in (or-false _ ∙ ap₂ ◌||◌
          (ap (λ n. races n g.made t (record { cell = c; kind = k })) h.size
          ∙ log_tested L.threads (total L) (reaches L) g.made s.log h.logs t c l (address_within L h.numbered p b y)
          (address_reached L p b y) k)
          (rivals_say L (total L) g.ever g.barred s.group_log h.numbered h.groups s refl p b k y (address_within L h.numbered p b y)))

      bad : b < bound L p → (any (others L p m x s t) || any (groups L p m x s t)) ≡ true → (possible T L g (row t) ≡ true) × ((next T L g (row t)).bad ≡ true)
      bad y o = (may T L t P s g l h _ (made y) (unfold is_waiting in refl), next_bad T L g t (ap (ends_badly g t) (made y) ∙ hurt y ∙ o))

      touch_match : b < bound L p → any (others L p m x s t) ≡ false → Match T L (moved P t pos) s₁ (performed g t (accesses c k x.d))
      touch_match y o =
          matched T L t P s g l h (accesses c k x.d) pos (registers_after k x.d (get_or s.cells c 0) (get_or s.regs t [])) s₁
          (unfold thread_after in
          (ap₂ (λ th cs. record { row = suc th.row; regs = registers_after k x.d (get_or cs c 0) th.regs; loops = th.loops }) (h.threads t l)
          h.cells))
          (unfold made_access in refl) (unfold cells_after made_access in (ap (λ cs. set cs c (cell_after k (get_or cs c 0))) h.cells))
          (unfold made_access in (length-set s.cells c _))
          (unfold made_access accesses_of in
          (log_entered L.threads (total L) (reaches L) g.made s.log h.logs t c l (address_within L h.numbered p b y)
          (address_reached L p b y) k o))
          (unfold accesses_of in (groups_entered L g.ever g.barred s.group_log h.numbered h.groups p t b k l y))

  pub calc_one : (here : Pos) (new : ℕ → Pos) (k : Calc) → (row_at T (P t).row).op ≡ CALC k → new t ≡ record { row = suc (P t).row; loops = (P t).loops }
      → One T L new here t P g (compute_turn (row_at T (P t).row) (λ v a b. value k L.threads v (launch_number L v) (row_at T (P t).row).a (row_at T (P t).row).b a b) s t)
  unfolding compute_turn
  calc_one here new k q e =
      subst (λ p. (possible T L g (row t) ≡ true) × Match T L (moved P t p) s₁ (next T L g (row t))) (sym e)
      (quiet_one T L t P s g l h (record { row = suc (P t).row; loops = (P t).loops }) (set (get_or s.regs t []) x.d w) s₁
      (act_is T L t (body (P t) (get_or s.regs t [])) (CALC k) inside q ∙ (unfold effect_of own.put own.reg reg in refl))
      (unfold set_reg in refl) (unfold set_reg in refl) (unfold set_reg in refl) (unfold set_reg in refl))
    where
      x : Row
      x = row_at T (P t).row

      w : ℕ
      w = value k L.threads t (launch_number L t) x.a x.b (reg s t x.a) (reg s t x.b)

      s₁ : LockState
      s₁ = set_reg s t x.d w

-- The rows of a mask's threads that make no access, each from `here` to its new place.
module _ (T : Table) (L : Shape) (new : ℕ → Pos) (here : Pos) (s : LockState) where
  pub quiet_all : (k : ℕ) (m : Mask) (P : ℕ → Pos) (g : Group) → k + length m ≤ L.threads → ((j : ℕ) → has m j ≡ true → P (k + j) ≡ here)
      → ((j : ℕ) → has m j ≡ true → effect T L (k + j) (body here (get_or s.regs (k + j) [])) ≡ own.goes (body (new (k + j)) (get_or s.regs (k + j) [])))
      → Match T L P s g
      → Run (machine T L) g (map row (members_from k m)) × Match T L (moved_all k m new P) s (after (machine T L) g (map row (members_from k m)))
  unfolding members_from moved_all has
  quiet_all k [] P g l at effect_of h = (tt, h)
  quiet_all k (false ∷ m) P g l at effect_of h =
      quiet_all (suc k) m P g (omega arith) (λ j q. ap P (shift j) ∙ at (suc j) q)
      (λ j q. subst (λ u. effect T L u (body here (get_or s.regs u [])) ≡ own.goes (body (new u) (get_or s.regs u []))) (sym (shift j))
      (effect_of (suc j) q)) h
    where
      shift : (j : ℕ) → suc k + j ≡ k + suc j
      shift j = omega arith
  quiet_all k (true ∷ m) P g l at effect_of h =
      let u = quiet_all (suc k) m (moved P k (new k)) (next T L g (row k)) (omega arith)
      (λ j q. moved_other P k (suc k + j) (new k) (λ e. omega arith) ∙ ap P (shift j) ∙ at (suc j) q)
      (λ j q. subst (λ u. effect T L u (body here (get_or s.regs u [])) ≡ own.goes (body (new u) (get_or s.regs u []))) (sym (shift j))
      (effect_of (suc j) q)) one.1 in
      ((one.0, u.0), u.1)
    where
      shift : (j : ℕ) → suc k + j ≡ k + suc j
      shift j = omega arith

      zero_at : k + 0 ≡ k
      zero_at = omega arith

      one : (possible T L g (row k) ≡ true) × Match T L (moved P k (new k)) s (next T L g (row k))
      one =
          quiet_one T L k P s g (omega arith) h (new k) (get_or s.regs k []) s
          (ap (λ p. effect T L k (body p (get_or s.regs k []))) (ap P (sym zero_at) ∙ at 0 refl)
          ∙ subst (λ u. effect T L u (body here (get_or s.regs u [])) ≡ own.goes (body (new u) (get_or s.regs u []))) zero_at (effect_of 0 refl))
          (sym (set-get_or s.regs k [])) refl refl refl
