-- In every run a thread's loop counts are 0 but at the loops around its row. Assumes nothing.
use mathlib.Core.Path.{◌≡◌, refl, sym, ◌∙◌, ap, subst}
use mathlib.Core.Logic.{◌⊎◌, inl, inr, ⊎_elim}
use mathlib.Core.List.Memᴰ
use mathlib.Core.List.{List, [], ◌∷◌, ◌++◌, tail, Memᴰ}
use mathlib.Core.Bool.{Bool, true, false, true≢false}
use Prim.Native.Nat.{ℕ, zero, suc, ◌+◌, ◌-◌, ◌<◌}
use native.Mathlib.Omega.{arith}
use native.Mathlib.Decide.{ℕ_discrete}
use lib.ListN.{length, get_or, drop, set, length-set, length-replicate}
use lib.Seq.{ext_get_or, get_or-set_other, get_or-set_same}
use Rattle.spec.specs.AllRuns.{RunOf, leaves}
use Rattle.spec.specs.Op.{BARRIER, CALC, ELSE, ENDIF, ENDWHILE, IF, MEM, Op, UNKNOWN, WHILE}
use Rattle.spec.specs.LaunchThreads.{Move, no_part}
use Rattle.spec.specs.Shape.{Shape, Sizes, shape_of}
use Rattle.spec.specs.Table.{Fits, Role, Table, WellFormed, closing, dividing, else_of, end_of, innermost, open_before, opened_by, opening, past_else}
use Rattle.spec.specs.Table.{plain, role, row_at, scan, scan_row, start_of}
use Rattle.spec.specs.Threads.{Thread, effect_of, goto, no_thread, on_if, on_while, past_barrier, put, reg, thread_after}
use Rattle.allruns.proofs.Nesting.{is_while, innermost_at, outer, scan_step, none_between}
use Rattle.allruns.proofs.Progress.{back, is_loop}
use Rattle.allruns.proofs.Invariants.{Keeps, in_every_run, replicate_keeps}
use Rattle.allruns.proofs.Places.{reach_cases}

-- Row i is a WHILE, and is row r itself or a construct that is open before row r.
abbrev pub Around : Table → ℕ → ℕ → Type 0
Around T r i = ((row_at T i).op ≡ WHILE) × Memᴰ i (r ∷ open_before T r)

of_tail : (i : ℕ) (os : List ℕ) → Memᴰ i (tail os) → Memᴰ i os
of_tail i [] m = m
of_tail i (o ∷ os) m = Memᴰ.tail m

-- What is open after row r is that row, or was open before it.
opened_here : (f : Role) (r i : ℕ) (os : List ℕ) → Memᴰ i (opened_by f r os) → Memᴰ i (r ∷ os)
unfolding opened_by
opened_here plain r i os m = Memᴰ.tail m
opened_here opening r i os m = m
opened_here dividing r i os m = ⊎_elim (λ e. Memᴰ.head e) (λ h. Memᴰ.tail (of_tail i os h)) (Memᴰ.cases_cons m)
opened_here closing r i os m = Memᴰ.tail (of_tail i os m)

-- What is around a construct is still open after the row where a scan from inside the construct stops.
abbrev Still : Table → (e : ℕ) → (os : List ℕ) → Type 0
Still T e os = (i : ℕ) → Memᴰ i os → Memᴰ i (open_before T (suc e))

still : (T : Table) → WellFormed T → (half : Bool) (m r : ℕ) (ks : List ℕ) (o : ℕ) (os : List ℕ) → r + m ≡ length T → open_before T r ≡ ks ++ (o ∷ os)
    → Still T (scan half (drop r T) (length ks) r) os
unfolding scan_row open_before opened_by
still T w half zero r ks o os f q = absurd (none_between ks o os (sym w.closed ∙ ap (open_before T) (let z : length T ≡ r = omega arith in z) ∙ q))
still T w half (suc m) r ks o os f q =
    rw (scan_step T half r (length ks) (omega arith))
    (by (role (row_at T r).op) ks half (ap (opened_by (role (row_at T r).op) r) q) (λ half ks o z. still T w half m (suc r) ks o os (omega arith) z))
  where
    by : (g : Role) (ks : List ℕ) (half : Bool) → open_before T (suc r) ≡ opened_by g r (ks ++ (o ∷ os))
        → ((half : Bool) (ks : List ℕ) (o : ℕ) → open_before T (suc r) ≡ ks ++ (o ∷ os) → Still T (scan half (drop (suc r) T) (length ks) (suc r)) os)
        → Still T (scan_row g half (length ks) r (λ j. scan half (drop (suc r) T) j (suc r))) os
    by plain ks half q ih = ih half ks o q
    by opening ks half q ih = ih half (r ∷ ks) o q
    by dividing [] true q ih = λ i m. subst (Memᴰ i) (sym q) (Memᴰ.tail m)
    by dividing [] false q ih = ih false [] r q
    by dividing (k ∷ ks) half q ih = ih half (r ∷ ks) o q
    by closing [] half q ih = λ i m. subst (Memᴰ i) (sym q) m
    by closing (k ∷ ks) half q ih = ih half ks o q

-- A loop that is open is around the innermost construct, where that is no loop.
below_top : (T : Table) (os : List ℕ) (i : ℕ) → is_while (innermost T os) ≡ false → (row_at T i).op ≡ WHILE → Memᴰ i os → Memᴰ i (tail os)
unfolding innermost is_while
below_top T [] i n q m = m
below_top T (o ∷ os) i n q m =
    ⊎_elim (λ e. absurd (true≢false (sym (ap is_while q) ∙ ap (λ o. is_while (row_at T o).op) e ∙ n))) (λ h. h) (Memᴰ.cases_cons m)

-- A false IF goes to the row where the scan for its ELSE stops, or to the next one.
at_else : (P : ℕ → Type 0) (o : Op) (h : ℕ) → P h → P (suc h) → P (past_else o h)
unfolding past_else
at_else P (CALC c) h p q = p
at_else P (MEM z m) h p q = p
at_else P IF h p q = p
at_else P ELSE h p q = q
at_else P ENDIF h p q = p
at_else P WHILE h p q = p
at_else P ENDWHILE h p q = p
at_else P BARRIER h p q = p
at_else P UNKNOWN h p q = p

-- Each loop around row r is around row s.
abbrev Inward : Table → (r s : ℕ) → Type 0
Inward T r s = (i : ℕ) → Around T r i → Around T s i

-- What is open after a row is around it.
just_before : (T : Table) (r i : ℕ) → (row_at T i).op ≡ WHILE → Memᴰ i (open_before T (suc r)) → Around T r i
unfolding open_before
just_before T r i q m = (q, opened_here (role (row_at T r).op) r i (open_before T r) m)

-- And so is what is open before it.
open_at : (T : Table) (r i : ℕ) → (row_at T i).op ≡ WHILE → Memᴰ i (open_before T r) → Around T r i
open_at T r i q m = (q, Memᴰ.tail m)

module _ (T : Table) (r : ℕ) where
  -- around a row that is no WHILE is what is open before it
  not_here : is_loop T r ≡ false → (i : ℕ) → Around T r i → Memᴰ i (open_before T r)
  unfolding is_loop is_while
  not_here n i a = ⊎_elim (λ e. absurd (true≢false (sym (ap is_while a.0) ∙ ap (is_loop T) e ∙ n))) (λ m. m) (Memᴰ.cases_cons a.1)

  to_next : is_loop T r ≡ false → role (row_at T r).op ≡ plain → Inward T r (suc r)
  unfolding open_before opened_by
  to_next n q i a = open_at T (suc r) i a.0 (rw q (not_here n i a))

  to_inside : role (row_at T r).op ≡ opening → Inward T r (suc r)
  unfolding open_before opened_by
  to_inside q i a = open_at T (suc r) i a.0 (rw q a.1)

module _ (T : Table) (w : WellFormed T) (r : ℕ) (l : r < length T) where
  fits : (o : Op) → (row_at T r).op ≡ o → Fits o (innermost T (open_before T r))
  fits o q = subst (λ o. Fits o (innermost T (open_before T r))) q (w.fitting r l)

  -- the loops around an ELSE or an ENDIF are outside the innermost construct, an IF
  outside_if : is_loop T r ≡ false → is_while (innermost T (open_before T r)) ≡ false → (i : ℕ) → Around T r i → Memᴰ i (tail (open_before T r))
  outside_if n t i a = below_top T (open_before T r) i t a.0 (not_here T r n i a)

  past_endif : (row_at T r).op ≡ ENDIF → Inward T r (suc r)
  unfolding open_before opened_by role is_loop is_while
  past_endif q i a = open_at T (suc r) i a.0 (rw q (outside_if (ap is_while q) (⊎_elim (λ e. ap is_while e) (λ e. ap is_while e) (fits ENDIF q)) i a))

  -- what is around the construct that row r opens or divides, at the construct's end or its ELSE
  past : (half : Bool) (os : List ℕ) → open_before T (suc r) ≡ r ∷ os → Still T (scan half (drop (suc r) T) 0 (suc r)) os
  past half os q = still T w half (length T - suc r) (suc r) [] r os (omega arith) q

  to_endif : (row_at T r).op ≡ ELSE → Inward T r (end_of T r)
  unfolding end_of open_before opened_by role is_loop is_while
  to_endif q i a =
      just_before T _ i a.0 (past false (tail (open_before T r)) (rw q) i (outside_if (ap is_while q) (ap is_while (fits ELSE q)) i a))

  to_else : (row_at T r).op ≡ IF → Inward T r (else_of T r)
  unfolding else_of open_before opened_by role is_loop is_while
  to_else q i a =
      let m = past true (open_before T r) (rw q) i (not_here T r (ap is_while q) i a) in
      at_else (λ s. Around T s i) _ _ (just_before T _ i a.0 m) (open_at T _ i a.0 m)

  past_while : (row_at T r).op ≡ WHILE → (i : ℕ) → ¬ (i ≡ r) → Around T r i → Around T (suc (end_of T r)) i
  unfolding end_of open_before opened_by role
  past_while q i n a =
      open_at T _ i a.0 (past false (open_before T r) (rw q) i (⊎_elim (λ e. absurd (n e)) (λ m. m) (Memᴰ.cases_cons a.1)))

  to_while : (row_at T r).op ≡ ENDWHILE → Inward T r (start_of T r)
  unfolding start_of is_loop is_while outer role
  to_while q i a = (a.0, by (open_before T r) refl (back T w r l q).is_while_lem (not_here T r (ap is_while q) i a))
    where
      by : (os : List ℕ) → open_before T r ≡ os → (row_at T (get_or os 0 0)).op ≡ WHILE → Memᴰ i os → Memᴰ i (get_or os 0 0 ∷ open_before T (get_or os 0 0))
      by [] z b m = absurd (Memᴰ.not-nil m)
      by (o ∷ os) z b m = subst (λ ps. Memᴰ i (o ∷ ps)) (sym (rw b at (innermost_at T w r o os (omega arith) z).around)) m

-- Thread t as a run leaves it.
abbrev pub thread_in : Table → Sizes → (cells : List ℕ) → List Move → (g t : ℕ) → Thread
thread_in T Z cells ms g t = get_or (get_or (leaves T Z cells ms).parts g no_part).threads t no_thread

-- A thread whose counts are 0 but at the loops around its row.
record Kept (T : Table) (x : Thread) : Type 0 where
  pub sized : length x.loops ≡ length T
  pub counts : (i : ℕ) → 0 < get_or x.loops i 0 → Around T x.row i

module _ (T : Table) (w : WellFormed T) where
  -- the row changes, and the counts do not
  moves : (x : Thread) (r : ℕ) (regs : List ℕ) → Kept T x → Inward T x.row r → Kept T (record { row = r; regs = regs; loops = x.loops })
  moves x r regs k f = record { sized = k.sized; counts = λ i c. f i (k.counts i c) }

  -- a WHILE puts its own count, and is around the next row if it does not put 0
  counts_while : (x : Thread) (v r : ℕ) → x.row < length T → Kept T x → ((i : ℕ) → ¬ (i ≡ x.row) → Around T x.row i → Around T r i)
      → (0 < v → Around T r x.row) → Kept T (record { row = r; regs = x.regs; loops = set x.loops x.row v })
  counts_while x v r l k f g = record { sized = length-set x.loops x.row v ∙ k.sized; counts = λ i c. at i c (ℕ_discrete i x.row) }
    where
      at : (i : ℕ) → 0 < get_or (set x.loops x.row v) i 0 → Dec (i ≡ x.row) → Around T r i
      at i c (yes e) = rw e (g (rw (e, get_or-set_same x.loops x.row v 0 (omega (arith, k.sized))) at c))
      at i c (no e) = f i e (k.counts i (rw (get_or-set_other x.loops x.row i v 0 e) at c))

  kept_row : (L : Shape) (t : ℕ) (x : Thread) (cells : List ℕ) → x.row < length T → (o : Op) → (row_at T x.row).op ≡ o → Kept T x
      → Kept T (thread_after x cells (effect_of T L t x (row_at T x.row) o))
  unfolding effect_of thread_after put goto on_if on_while is_loop is_while role
  kept_row L t x cells l (CALC c) q k = moves x _ _ k (to_next T x.row (ap is_while q) (ap role q))
  kept_row L t x cells l (MEM p m) q k =
      reach_cases (λ e. Kept T (thread_after x cells e)) L x p _ _ _ (λ l. on _) k (λ v e. on _)
    where
      on : (regs : List ℕ) → Kept T (record { row = suc x.row; regs = regs; loops = x.loops })
      on regs = moves x _ regs k (to_next T x.row (ap is_while q) (ap role q))
  kept_row L t x cells l IF q k = by (reg x (row_at T x.row).a)
    where
      by : (v : ℕ) → Kept T (on_if T x v)
      by zero = moves x _ _ k (to_else T w x.row l q)
      by (suc v) = moves x _ _ k (to_inside T x.row (ap role q))
  kept_row L t x cells l ELSE q k = moves x _ _ k (to_endif T w x.row l q)
  kept_row L t x cells l ENDIF q k = moves x _ _ k (past_endif T w x.row l q)
  kept_row L t x cells l WHILE q k = by (reg x (row_at T x.row).a)
    where
      by : (v : ℕ) → Kept T (on_while T x v)
      by zero = counts_while x 0 _ l k (past_while T w x.row l q) (λ z. absurd (omega arith))
      by (suc v) = counts_while x _ _ l k (λ i n a. to_inside T x.row (ap role q) i a) (λ z. to_inside T x.row (ap role q) _ (q, Memᴰ.head refl))
  kept_row L t x cells l ENDWHILE q k = moves x _ _ k (to_while T w x.row l q)
  kept_row L t x cells l BARRIER q k = k
  kept_row L t x cells l UNKNOWN q k = k

  keeps_kept : (L : Shape) → Keeps T L (Kept T) (λ cells. Unit {0})
  unfolding past_barrier goto is_loop is_while role
  keeps_kept L =
      record {
        first = record {
          sized = length-replicate (length T) 0;
          counts = λ i c. let z = replicate_keeps (λ (v : ℕ). v ≡ 0) (length T) 0 0 i refl
              refl in absurd (omega arith);
        };
        rows = λ t x cells a l o q k u. (kept_row L t x cells l o q k, tt);
        barriers = λ x q k. moves x _ _ k (to_next T x.row (ap is_while q) (ap role q));
      }

  kept_run : (Z : Sizes) (cells : List ℕ) (ms : List Move) → RunOf T Z cells ms → (g t : ℕ) → g < Z.groups → t < Z.threads
      → Kept T (thread_in T Z cells ms g t)
  kept_run Z cells ms r = (in_every_run T Z cells (Kept T) (λ cells. Unit {0}) (λ g l. keeps_kept (shape_of Z g)) tt ms r).each

-- A count that is not 0 is that of a loop around.
elsewhere : (T : Table) (x : Thread) (i : ℕ) → Kept T x → (get_or x.loops i 0 ≡ 0) ⊎ Around T x.row i
elsewhere T x i k = by (get_or x.loops i 0) refl
  where
    by : (v : ℕ) → get_or x.loops i 0 ≡ v → (get_or x.loops i 0 ≡ 0) ⊎ Around T x.row i
    by zero q = inl q
    by (suc v) q = inr (k.counts i (omega arith))

pub loops_elsewhere : (T : Table) → WellFormed T → (Z : Sizes) (cells : List ℕ) (ms : List Move) → RunOf T Z cells ms
    → (g t i : ℕ) → g < Z.groups → t < Z.threads
    → ¬ Around T (thread_in T Z cells ms g t).row i → get_or (thread_in T Z cells ms g t).loops i 0 ≡ 0
loops_elsewhere T w Z cells ms r g t i k l a = ⊎_elim (λ e. e) (λ h. absurd (a h)) (elsewhere T _ i (kept_run T w Z cells ms r g t k l))

-- So two threads at one row have the same counts if they have the same at the loops around it.
agree : (T : Table) (x y : Thread) → Kept T x → Kept T y → x.row ≡ y.row
    → ((i : ℕ) → Around T x.row i → get_or x.loops i 0 ≡ get_or y.loops i 0) → x.loops ≡ y.loops
agree T x y k h q f = ext_get_or 0 x.loops y.loops (k.sized ∙ sym h.sized) (λ i l. by i (elsewhere T x i k) (elsewhere T y i h))
  where
    by : (i : ℕ) → (get_or x.loops i 0 ≡ 0) ⊎ Around T x.row i → (get_or y.loops i 0 ≡ 0) ⊎ Around T y.row i → get_or x.loops i 0 ≡ get_or y.loops i 0
    by i (inr a) b = f i a
    by i (inl a) (inr b) = f i (subst (λ r. Around T r i) (sym q) b)
    by i (inl a) (inl b) = a ∙ sym b

pub same_loops : (T : Table) → WellFormed T → (Z : Sizes) (cells : List ℕ) (ms : List Move) → RunOf T Z cells ms
    → (g t u : ℕ) → g < Z.groups → t < Z.threads → u < Z.threads
    → (thread_in T Z cells ms g t).row ≡ (thread_in T Z cells ms g u).row
    → ((i : ℕ) → Around T (thread_in T Z cells ms g t).row i → get_or (thread_in T Z cells ms g t).loops i 0 ≡ get_or (thread_in T Z cells ms g u).loops i 0)
    → (thread_in T Z cells ms g t).loops ≡ (thread_in T Z cells ms g u).loops
same_loops T w Z cells ms r g t u k l m q f = agree T _ _ (kept_run T w Z cells ms r g t k l) (kept_run T w Z cells ms r g u k m) q f
