-- The records of the intervals, one row at a time: what the definition and the code say of a row's cost and of a release. Assumes nothing.
use mathlib.Core.Path.{◌≡◌, refl, sym, ◌∙◌, ap}
use mathlib.Core.Logic.{◌⊎◌, inl, inr}
use mathlib.Core.List.{List, [], ◌∷◌, map}
use mathlib.Core.Bool.{Bool, true, false, cond}
use Prim.Native.Nat.{ℕ, zero, suc, ◌+◌, ◌*◌, ◌<◌, ◌≤◌}
use native.Mathlib.Omega.{arith}
use native.Mathlib.Decide.{ℕ_discrete}
use borrow.Author.Tests.{le-leb, lt-leb, lt-ltb, le-ltb, eq-eqb, ne_eqb}
use lib.Dec.{eqb, leb}
use lib.ListN.{length, get_or}
use Rattle.spec.specs.Limits.{common_from, max_common}
use Rattle.spec.specs.declared.Verdict.{Verdict}
use Rattle.spec.specs.Mask.{members}
use Rattle.spec.specs.Op.{Op, CALC, OWN, Mem, MEM, IF, ELSE, ENDIF, WHILE, ENDWHILE, BARRIER, UNKNOWN, op_of}
use Rattle.spec.specs.Table.{Table, Row, row_at, cell_byte}
use Rattle.spec.specs.Shape.{Shape, bound}
use Rattle.spec.specs.LockStep.{LockState, Step, continues, stops, reg, run_row}
use Rattle.spec.specs.Intervals.{Interval, Intervals, used_cells, row_cost, all_of, started, with_row, behind, intervals_after, intervals_from}
use Rattle.spec.proofs.Laws.{map_members, byte_if, byte_else, byte_endif, byte_while, byte_endwhile, byte_barrier}
use Rattle.spec.proofs.UsedCells.{Named, AllNamed, used_named}
use Rattle.banks.specs.Counting.{Known, own}
use Rattle.allruns.proofs.Counts.{passes, passed_at, grown}
use Rattle.layout.proofs.LogTests.{mem_load, mem_store, mem_add, which}
use Rattle.layout.specs.Memory.{Memory, cell_in}
use Rattle.layout.specs.Running.{RowAsks}
use Rattle.layout.specs.declared.State.{State}
use Rattle.layout.specs.Next as next
use Rattle.intervals.specs.Records.{charged, released, records_after}
use Rattle.intervals.proofs.Ledger.{ends_here}
use Rattle.step.proofs.Tables.{compute_op}
use Rattle.grouprun.specs.Groups.{followed}

-- The definition's intervals, from one row on.
pub intervals_start : (T : Table) (L : Shape) (k : ℕ) (s : LockState) → (intervals_from T L k s).first.start ≡ s.row
unfolding intervals_from started
intervals_start T L zero s = refl
intervals_start T L (suc k) s = by (leb (length T) s.row) (run_row T L (row_at T s.row) s (row_at T s.row).op)
  where
    by : (b : Bool) (x : Step)
        → (elim b as (λ c. Intervals) [
          | true ↦ started s.row
          | false ↦ intervals_after (row_cost (row_at T s.row) s (row_at T s.row).op) s x (intervals_from T L k)
        ]).first.start ≡ s.row
    by true x = refl
    by false (continues z) = unfold intervals_after with_row in refl
    by false (stops v z) = unfold intervals_after in refl

pub intervals_row : (T : Table) (L : Shape) (k : ℕ) (s : LockState) → s.row < length T
    → intervals_from T L (suc k) s
    ≡ intervals_after (row_cost (row_at T s.row) s (row_at T s.row).op) s (run_row T L (row_at T s.row) s (row_at T s.row).op) (intervals_from T L k)
unfolding intervals_from
intervals_row T L k s h = rw (lt-leb (length T) s.row h, intervals_from)

pub intervals_end : (T : Table) (L : Shape) (k : ℕ) (s : LockState) → length T ≤ s.row → intervals_from T L k s ≡ started s.row
unfolding intervals_from
intervals_end T L zero s h = refl
intervals_end T L (suc k) s h = rw (le-leb (length T) s.row h, intervals_from)

pub intervals_spent : (T : Table) (L : Shape) (s : LockState) → intervals_from T L 0 s ≡ started s.row
unfolding intervals_from
intervals_spent T L s = refl

pub row_went : (k : ℕ) (s z : LockState) (f : LockState → Intervals) → intervals_after k s (continues z) f ≡ with_row s.row k (behind s z (f z))
unfolding intervals_after
row_went k s z f = refl

pub row_stopped : (k : ℕ) (s z : LockState) (v : Verdict) (f : LockState → Intervals) → intervals_after k s (stops v z) f ≡ started s.row
unfolding intervals_after
row_stopped k s z v f = refl

-- Rows that are no accesses cost nothing; a release is none.
pub release_free : (x : Row) (s : LockState) (o : Op) → s.barriers < grown s o → row_cost x s o ≡ 0
unfolding row_cost grown passed_at passes
release_free x s (CALC c) h = refl
release_free x s (MEM p m) h = absurd (omega arith)
release_free x s IF h = refl
release_free x s ELSE h = refl
release_free x s ENDIF h = refl
release_free x s WHILE h = refl
release_free x s ENDWHILE h = refl
release_free x s BARRIER h = refl
release_free x s UNKNOWN h = refl

-- One release at most.
pub grown_one : (s : LockState) (o : Op) → (grown s o ≡ s.barriers) ⊎ (grown s o ≡ s.barriers + 1)
unfolding grown passed_at
grown_one s o = by (passes o s)
  where
    by : (b : Bool) → (s.barriers + length (cond b (s.cells ∷ []) []) ≡ s.barriers) ⊎ (s.barriers + length (cond b (s.cells ∷ []) []) ≡ s.barriers + 1)
    by true = inr refl
    by false = inl (let z : s.barriers + 0 ≡ s.barriers = omega arith in z)

pub last : (k : ℕ) → 32 ≤ k → k ≤ 37 → (k ≡ 32 → ⊥) → (k ≡ 33 → ⊥) → (k ≡ 34 → ⊥) → (k ≡ 35 → ⊥) → (k ≡ 36 → ⊥) → k ≡ 37
last k h l a b c d e = omega arith

module _ (x : Row) (s : LockState) (k d a b : ℕ) (asks : RowAsks k d a b) where
  -- by its byte
  pub plain_free : (k < 16) ⊎ (32 ≤ k) → row_cost x s (op_of k) ≡ 0
  unfolding row_cost
  plain_free (inl h) = let c = compute_op k (asks.computes h).known (asks.computes h).small in ap (row_cost x s) c.1
  plain_free (inr h) = by (ℕ_discrete k 32) (ℕ_discrete k 33) (ℕ_discrete k 34) (ℕ_discrete k 35) (ℕ_discrete k 36)
    where
      at : (j : ℕ) (o : Op) → op_of j ≡ o → k ≡ j → row_cost x s (op_of k) ≡ row_cost x s o
      at j o p e = ap (row_cost x s) (ap op_of e ∙ p)

      by : Dec (k ≡ 32) → Dec (k ≡ 33) → Dec (k ≡ 34) → Dec (k ≡ 35) → Dec (k ≡ 36) → row_cost x s (op_of k) ≡ 0
      by (yes e) q1 q2 q3 q4 = at 32 IF byte_if e
      by (no f) (yes e) q2 q3 q4 = at 33 ELSE byte_else e
      by (no f) (no g) (yes e) q3 q4 = at 34 ENDIF byte_endif e
      by (no f) (no g) (no i) (yes e) q4 = at 35 WHILE byte_while e
      by (no f) (no g) (no i) (no j) (yes e) = at 36 ENDWHILE byte_endwhile e
      by (no f) (no g) (no i) (no j) (no l) = at 37 BARRIER byte_barrier (last k h asks.known f g i j l)

-- Numbers below the count of the cells are cells'; of common cells there are few.
all_known : (k m : ℕ) → k ≤ 1024 → m ≤ max_common → (cs : List ℕ) → AllNamed k m cs → Known cs
all_known k m h l [] b = tt
all_known k m h l (c ∷ cs) b = (by b.0, all_known k m h l cs b.1)
  where
    by : Named k m c → (c < 1024) ⊎ ((common_from ≤ c) × (c < common_from + 256))
    by (inl q) = inl (omega arith)
    by (inr q) = let below = q.1 in inr (q.0, omega arith)

-- So are the numbers that a finished row of own accesses used.
pub own_known : (T : Table) (L : Shape) (x : Row) (s z : LockState) (m : Mem) → L.cells ≤ 1024 → length L.common ≤ max_common
    → run_row T L x s (MEM OWN m) ≡ continues z → Known (map (λ t. reg s t (cell_byte m x)) (members s.enabled))
unfolding bound
own_known T L x s z m h l e =
    all_known L.cells (length L.common) h l (map (λ t. reg s t (cell_byte m x)) (members s.enabled)) (used_named T L x s z OWN m e)

-- Those that can cost something are the cells that it uses.
pub used_own : (m : Mem) (x : Row) (s : LockState) → used_cells m x s ≡ own (map (λ t. reg s t (cell_byte m x)) (members s.enabled))
unfolding used_cells
used_own m x s = refl

-- The numbers that a row of accesses uses, by its bytes and the registers.
pub numbers_are : (n : ℕ) (s : LockState) (regs cells log : List ℕ) → Memory n s regs cells log → length s.enabled ≡ n → (x : Row) (k d a : ℕ)
    → 16 ≤ k → k ≤ 18 → d < 16 → a < 16 → x.d ≡ d → x.a ≡ a → (m : Mem) → op_of k ≡ MEM OWN m
    → map (λ t. reg s t (cell_byte m x)) (members s.enabled) ≡ map (cell_in k d a regs) (members s.enabled)
unfolding members reg cell_in
numbers_are n s regs cells log M size x k d a low high hd ha ed ea m o = map_members _ _ 0 s.enabled (λ t l h. each t h)
  where
    found : (r q t : ℕ) → q ≡ r → r < 16 → t < n → get_or (get_or s.regs t []) q 0 ≡ get_or regs (r * 32 + t) 0
    found r q t e h l = ap (λ z. get_or (get_or s.regs t []) z 0) e ∙ sym (M.regs_are.at t r l h)

    register : (cell_byte m x ≡ cond (eqb k 16) a d) × (cond (eqb k 16) a d < 16)
    register = by (which k low high)
      where
        by : (k ≡ 16) ⊎ ((k ≡ 17) ⊎ (k ≡ 18)) → (cell_byte m x ≡ cond (eqb k 16) a d) × (cond (eqb k 16) a d < 16)
        by (inl e) = rw (eq-eqb k 16 e, mem_load k m e o) ((unfold cell_byte in ea), ha)
        by (inr (inl e)) = rw (ne_eqb k 16 (λ z. omega arith), mem_store k m e o) ((unfold cell_byte in ed), hd)
        by (inr (inr e)) = rw (ne_eqb k 16 (λ z. omega arith), mem_add k m e o) ((unfold cell_byte in ed), hd)

    each : (t : ℕ) → t < 0 + length s.enabled → get_or (get_or s.regs t []) (cell_byte m x) 0 ≡ get_or regs (cond (eqb k 16) a d * 32 + t) 0
    each t l = found (cond (eqb k 16) a d) (cell_byte m x) t register.0 register.1 (omega (arith, size))

-- What is behind a row, by whether barriers grows there.
pub behind_none : (s z : LockState) (is : Intervals) → z.barriers ≤ s.barriers → behind s z is ≡ is
unfolding behind
behind_none s z is h = rw (le-ltb s.barriers z.barriers h) refl

pub behind_more : (s z : LockState) (row : ℕ) (is : Intervals) → s.barriers < z.barriers → row ≡ z.row
    → behind s z is ≡ record { first = (started row).first; later = all_of is }
unfolding behind
behind_more s z row is h e = rw (lt-ltb s.barriers z.barriers h) (ap (λ r. record { first = (started r).first; later = all_of is }) (sym e))

pub after_none : (group cost : ℕ) (s r : State) (records : List ℕ) → r.barriers ≤ s.barriers
    → records_after group cost s (next.Go r) records ≡ charged (s.barriers + group) cost records
unfolding records_after
after_none group cost s r records h = rw (le-ltb s.barriers r.barriers h) refl

pub after_more : (group cost : ℕ) (s r : State) (records : List ℕ) → s.barriers < r.barriers
    → records_after group cost s (next.Go r) records ≡ released (s.barriers + group) r.row r.rows records
unfolding records_after
after_more group cost s r records h = rw (lt-ltb s.barriers r.barriers h) refl

-- Intervals with those of later groups behind them, one row taken off.
pub row_followed : (x cost : ℕ) (is : Intervals) (more : List Interval) → followed (with_row x cost is) more ≡ with_row x cost (followed is more)
unfolding followed with_row
row_followed x cost is more = refl

pub end_followed : (y : ℕ) (is : Intervals) (more : List Interval) → followed (ends_here y is) more ≡ ends_here y (followed is more)
unfolding followed all_of
end_followed y is more = refl
