-- The lock-step run as a run of the threads' machine: where each thread stands. Assumes nothing.
use mathlib.Core.Path.{◌≡◌, refl, sym, ◌∙◌, ap, subst}
use mathlib.Core.List.{List, [], ◌∷◌}
use mathlib.Core.Bool.{true, false, cond, true≢false}
use Prim.Native.Nat.{ℕ, zero, suc, ◌+◌, ◌<◌}
use native.Mathlib.Omega.{arith}
use lib.Dec.{eqb}
use borrow.Author.Tests.{eq-eqb, ne_eqb}
use lib.ListN.{length, get_or, set, replicate}
use Rattle.spec.specs.LockStep.{LockState}
use Rattle.spec.specs.Mask.{Mask, has}
use Rattle.spec.specs.Op.{BARRIER, CALC, ELSE, ENDIF, ENDWHILE, IF, MEM, Op, UNKNOWN, WHILE}
use Rattle.spec.specs.Shape.{Shape, reaches, total}
use Rattle.spec.specs.Table.{Table, else_of, end_of, row_at}
use Rattle.spec.specs.Threads.{Group, Thread, no_thread}
use Rattle.allruns.proofs.LogMatches.{LogMatches}
use Rattle.allruns.proofs.GroupMatches.{GroupMatches}
use Rattle.allruns.proofs.Nesting.{is_while}

pub record Pos : Type 0 where
  pub row : ℕ
  pub loops : List ℕ

pub record Frame : Type 0 where
  pub opener : ℕ
  pub mask : Mask
  pub rounds : ℕ

unfoldable pub loops_of : Table → List Frame → List ℕ
loops_of T [] = replicate (length T) 0
loops_of T (f ∷ fs) = cond (is_while (row_at T f.opener).op) (set (loops_of T fs) f.opener f.rounds) (loops_of T fs)

unfoldable pub exit_by : Op → Table → ℕ → ℕ
exit_by (CALC c) T o = 0
exit_by (MEM p m) T o = 0
exit_by IF T o = else_of T o
exit_by ELSE T o = end_of T o
exit_by ENDIF T o = 0
exit_by WHILE T o = suc (end_of T o)
exit_by ENDWHILE T o = 0
exit_by BARRIER T o = 0
exit_by UNKNOWN T o = 0

-- Where the threads wait that a construct has disabled.
unfoldable pub exit : Table → ℕ → ℕ
exit T o = exit_by (row_at T o).op T o

-- Where thread t stands: with the enabled ones, or where the innermost construct that has disabled it lets it wait.
unfoldable pub place : Table → ℕ → Mask → List Frame → ℕ → Pos
place T r on [] t = record { row = r; loops = loops_of T [] }
place T r on (f ∷ fs) t = cond (has on t) (record { row = r; loops = loops_of T (f ∷ fs) }) (place T (exit T f.opener) f.mask fs t)

-- Each mask is within the one that was saved before it, and the outermost has all n threads.
abbrev pub Nested : ℕ → Mask → List Frame → Type 0
Nested n on [] = (t : ℕ) → t < n → has on t ≡ true
Nested n on (f ∷ fs) = ((t : ℕ) → has on t ≡ true → has f.mask t ≡ true) × Nested n f.mask fs

pub place_in : (T : Table) (r : ℕ) (on : Mask) (fs : List Frame) (t : ℕ) → has on t ≡ true → place T r on fs t ≡ record { row = r; loops = loops_of T fs }
unfolding place
place_in T r on [] t h = refl
place_in T r on (f ∷ fs) t h = rw h

pub place_out : (T : Table) (r : ℕ) (on : Mask) (f : Frame) (fs : List Frame) (t : ℕ) → has on t ≡ false
    → place T r on (f ∷ fs) t ≡ place T (exit T f.opener) f.mask fs t
unfolding place
place_out T r on f fs t h = rw h

pub place_any : (T : Table) (n r q : ℕ) (on : Mask) (fs : List Frame) (t : ℕ) → Nested n on fs → t < n → has on t ≡ false
    → place T r on fs t ≡ place T q on fs t
place_any T n r q on [] t k l h = absurd (true≢false (sym (k t l) ∙ h))
place_any T n r q on (f ∷ fs) t k l h = place_out T r on f fs t h ∙ sym (place_out T q on f fs t h)

abbrev pub body : Pos → List ℕ → Thread
body p regs = record { row = p.row; regs = regs; loops = p.loops }

-- The machine stands as the lock-step state does, thread t at P t.
pub record Match (T : Table) (L : Shape) (P : ℕ → Pos) (s : LockState) (g : Group) : Type 0 where
  pub good : g.bad ≡ false
  pub size : length g.threads ≡ L.threads
  pub regged : length s.regs ≡ L.threads
  pub threads : (t : ℕ) → t < L.threads → get_or g.threads t no_thread ≡ body (P t) (get_or s.regs t [])
  pub cells : g.cells ≡ s.cells
  pub celled : length s.cells ≡ total L
  pub numbered : L.group < L.groups
  pub logs : LogMatches L.threads (total L) (reaches L) g.made s.log
  pub groups : GroupMatches L (total L) g.ever g.barred s.group_log

-- One place changed.
unfoldable pub moved : (ℕ → Pos) → ℕ → Pos → ℕ → Pos
moved P t p u = cond (eqb u t) p (P u)

-- The threads of m, from k on, moved to their new places.
unfoldable pub moved_all : ℕ → Mask → (ℕ → Pos) → (ℕ → Pos) → ℕ → Pos
moved_all k [] new P = P
moved_all k (false ∷ m) new P = moved_all (suc k) m new P
moved_all k (true ∷ m) new P = moved_all (suc k) m new (moved P k (new k))

pub moved_same : (P : ℕ → Pos) (t : ℕ) (p : Pos) → moved P t p t ≡ p
unfolding moved
moved_same P t p = rw (eq-eqb t t refl)

pub moved_other : (P : ℕ → Pos) (t u : ℕ) (p : Pos) → ¬ (u ≡ t) → moved P t p u ≡ P u
unfolding moved
moved_other P t u p n = rw (ne_eqb u t n)

pub moved_all_below : (k : ℕ) (m : Mask) (new P : ℕ → Pos) (u : ℕ) → u < k → moved_all k m new P u ≡ P u
unfolding moved_all
moved_all_below k [] new P u l = refl
moved_all_below k (false ∷ m) new P u l = moved_all_below (suc k) m new P u (omega arith)
moved_all_below k (true ∷ m) new P u l = moved_all_below (suc k) m new (moved P k (new k)) u (omega arith) ∙ moved_other P k u (new k) (λ e. omega arith)

-- After all have moved: those of m at their new places.
pub moved_all_at : (k : ℕ) (m : Mask) (new P : ℕ → Pos) (j : ℕ) → moved_all k m new P (k + j) ≡ cond (has m j) (new (k + j)) (P (k + j))
unfolding moved_all has
moved_all_at k [] new P j = refl
moved_all_at k (false ∷ m) new P zero = moved_all_below (suc k) m new P (k + 0) (omega arith)
moved_all_at k (true ∷ m) new P zero =
    moved_all_below (suc k) m new (moved P k (new k)) (k + 0) (omega arith) ∙ ap (moved P k (new k)) z ∙ moved_same P k (new k) ∙ ap new (sym z)
  where
    z : k + 0 ≡ k
    z = omega arith
moved_all_at k (false ∷ m) new P (suc j) =
    subst (λ u. moved_all (suc k) m new P u ≡ cond (has m j) (new u) (P u)) (let z : suc k + j ≡ k + suc j = omega arith in z) (moved_all_at (suc k) m new P j)
moved_all_at k (true ∷ m) new P (suc j) =
    subst (λ u. moved_all (suc k) m new (moved P k (new k)) u ≡ cond (has m j) (new u) (moved P k (new k) u)) z (moved_all_at (suc k) m new (moved P k (new k)) j)
    ∙ ap (cond (has m j) (new (k + suc j))) (moved_other P k (k + suc j) (new k) (λ e. omega arith))
  where
    z : suc k + j ≡ k + suc j
    z = omega arith

pub all_moved : (m : Mask) (new P : ℕ → Pos) (t : ℕ) → moved_all 0 m new P t ≡ cond (has m t) (new t) (P t)
all_moved m new P t = subst (λ u. moved_all 0 m new P u ≡ cond (has m t) (new u) (P u)) (let z : 0 + t ≡ t = omega arith in z) (moved_all_at 0 m new P t)
