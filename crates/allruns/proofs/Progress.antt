-- A thread's position only moves forward: loop by loop, outermost first, it is before the loop, in one of its rounds, or past it. Assumes nothing.
use mathlib.Core.Path.{◌≡◌, refl, sym, ◌∙◌, ap, ap₂, subst}
use mathlib.Core.Logic.{◌⊎◌, inl, inr, ⊎_elim}
use mathlib.Core.List.{List, [], ◌∷◌}
use mathlib.Core.Bool.{Bool, true, false, cond, true≢false}
use Prim.Native.Nat.{ℕ, zero, suc, ◌+◌, ◌*◌, ◌<◌, ◌≤◌}
use native.Mathlib.Omega.{arith}
use lib.Dec.{eqb, leb, ltb}
use borrow.Author.Tests.{eq-eqb, ne_eqb, ltb-true, lt-ltb, le-ltb, le-leb, lt-leb}
use lib.ListN.{length, get_or, drop, set, length-set, get_or-eq_default}
use lib.Seq.{get_or-set_other, get_or-set_same}
use Rattle.spec.specs.Op.{BARRIER, CALC, ELSE, ENDIF, ENDWHILE, IF, MEM, Op, UNKNOWN, WHILE}
use Rattle.spec.specs.Shape.{Shape}
use Rattle.spec.specs.Table.{Fits, Table, WellFormed, closing, else_of, end_of, innermost, no_row, open_before, opening, past_else, role}
use Rattle.spec.specs.Table.{row_at, scan, start_of}
use Rattle.spec.specs.Threads.{Effect, Thread, effect, effect_of, goto, is_outside, is_waiting, on_if, on_while, put, reg}
use Rattle.spec.specs.Threads.{thread_after, waits}
use Rattle.allruns.proofs.Places.{reach_cases}
use Rattle.spec.proofs.Laws.{lt_or_le, role_while}
use Rattle.allruns.proofs.Nesting.{is_while, scan_ge, innermost_at, end_here, end_nested}

unfoldable pub is_loop : Table → ℕ → Bool
is_loop T i = is_while (row_at T i).op

-- Row r against a loop from i to e: before it 0, in it 1, past it 2.
unfoldable pub tri : (i e r : ℕ) → ℕ
tri i e r = cond (ltb r i) 0 (cond (leb r e) 1 2)

-- For each row that is a WHILE, where row r stands against its loop; behind the table's end, r itself.
unfoldable pub phase : Table → ℕ → ℕ → ℕ
phase T i r = cond (is_loop T i) (tri i (end_of T i) r) (cond (ltb i (length T)) 0 r)

-- How far a thread is in the rounds of a loop: twice the rounds begun, and one more at the WHILE itself.
unfoldable pub mark : Table → ℕ → Thread → ℕ
mark T i th = cond (is_loop T i) (2 * get_or th.loops i 0 + cond (eqb th.row i) 1 0) 0

abbrev pub Ahead : Table → ℕ → Thread → Thread → Type 0
Ahead T i x y = (phase T i x.row < phase T i y.row) ⊎ ((phase T i x.row ≤ phase T i y.row) × (mark T i x < mark T i y))

pub record Later (T : Table) (x y : Thread) : Type 0 where
  pub at : ℕ
  pub before : (i : ℕ) → i < at → (phase T i x.row ≤ phase T i y.row) × (mark T i x ≤ mark T i y)
  pub there : Ahead T at x y

pub later_not : (T : Table) (x y : Thread) → x.row ≡ y.row → x.loops ≡ y.loops → Later T x y → ⊥
unfolding mark
later_not T x y p q l =
    let a : phase T l.at x.row ≡ phase T l.at y.row = ap (phase T l.at) p in
    let b : mark T l.at x ≡ mark T l.at y = ap₂ (λ r z. cond (is_loop T l.at) (2 * get_or z l.at 0 + cond (eqb r l.at) 1 0) 0) p q in
    ⊎_elim (λ h. omega arith) (λ h. omega arith) l.there

pub later_trans : (T : Table) (x y z : Thread) → Later T x y → Later T y z → Later T x z
later_trans T x y z l m = by (lt_or_le l.at m.at) (lt_or_le m.at l.at)
  where
    both : Ahead T l.at x y → Ahead T l.at y z → Ahead T l.at x z
    both (inl h) (inl k) = inl (omega arith)
    both (inl h) (inr k) = inl (omega arith)
    both (inr h) (inl k) = inl (omega arith)
    both (inr h) (inr k) = inr (omega arith, omega arith)

    by : (l.at < m.at) ⊎ (m.at ≤ l.at) → (m.at < l.at) ⊎ (l.at ≤ m.at) → Later T x z
    by (inl p) q =
        record {
          at = l.at;
          before = λ i h. let a = l.before i h in let b = m.before i (omega arith) in (omega arith, omega arith);
          there = let b = m.before l.at p in ⊎_elim (λ h. inl (omega arith)) (λ h. inr (omega arith, omega arith)) l.there;
        }
    by (inr p) (inl q) =
        record {
          at = m.at;
          before = λ i h. let a = l.before i (omega arith) in let b = m.before i h in (omega arith, omega arith);
          there = let b = l.before m.at q in ⊎_elim (λ h. inl (omega arith)) (λ h. inr (omega arith, omega arith)) m.there;
        }
    by (inr p) (inr q) =
        record {
          at = l.at;
          before = λ i h. let a = l.before i h in let b = m.before i (omega arith) in (omega arith, omega arith);
          there = both l.there (subst (λ k. Ahead T k y z) (let e : m.at ≡ l.at = omega arith in e) m.there);
        }

pub tri_before : (i e r : ℕ) → r < i → tri i e r ≡ 0
unfolding tri
tri_before i e r h = rw (lt-ltb r i h)

pub tri_in : (i e r : ℕ) → i ≤ r → r ≤ e → tri i e r ≡ 1
unfolding tri
tri_in i e r h k = rw (le-ltb r i h, le-leb r e k)

pub tri_past : (i e r : ℕ) → i ≤ r → e < r → tri i e r ≡ 2
unfolding tri
tri_past i e r h k = rw (le-ltb r i h, lt-leb r e k)

tri_mono : (i e r s : ℕ) → r ≤ s → tri i e r ≤ tri i e s
tri_mono i e r s l = by (lt_or_le r i) (lt_or_le e r) (lt_or_le e s)
  where
    by : (r < i) ⊎ (i ≤ r) → (e < r) ⊎ (r ≤ e) → (e < s) ⊎ (s ≤ e) → tri i e r ≤ tri i e s
    by (inl h) q p = omega (arith, tri_before i e r h)
    by (inr h) (inl q) p = omega (arith, tri_past i e r h q, tri_past i e s (omega arith) (omega arith))
    by (inr h) (inr q) (inl p) = omega (arith, tri_in i e r h q, tri_past i e s (omega arith) p)
    by (inr h) (inr q) (inr p) = omega (arith, tri_in i e r h q, tri_in i e s (omega arith) p)

pub phase_mono : (T : Table) (i r s : ℕ) → r ≤ s → phase T i r ≤ phase T i s
unfolding phase
phase_mono T i r s l = by (is_loop T i) (ltb i (length T))
  where
    by : (b c : Bool) → cond b (tri i (end_of T i) r) (cond c 0 r) ≤ cond b (tri i (end_of T i) s) (cond c 0 s)
    by true c = tri_mono i (end_of T i) r s l
    by false true = omega arith
    by false false = l

pub phase_loop : (T : Table) (i r : ℕ) → is_loop T i ≡ true → phase T i r ≡ tri i (end_of T i) r
unfolding phase
phase_loop T i r q = rw q

pub mark_loop : (T : Table) (i : ℕ) (x : Thread) → is_loop T i ≡ true → mark T i x ≡ 2 * get_or x.loops i 0 + cond (eqb x.row i) 1 0
unfolding mark
mark_loop T i x q = rw q

pub phase_end : (T : Table) (r : ℕ) → phase T (length T) r ≡ r
unfolding phase is_loop is_while row_at no_row
phase_end T r = rw (get_or-eq_default T no_row {n = length T} (omega arith), le-ltb (length T) (length T) (omega arith))

pub mark_le : (T : Table) (i : ℕ) (x y : Thread) → get_or x.loops i 0 ≤ get_or y.loops i 0 → (is_loop T i ≡ true → x.row ≡ i → ⊥) → mark T i x ≤ mark T i y
unfolding mark
mark_le T i x y l n = by (is_loop T i) n
  where
    by : (b : Bool) → (b ≡ true → x.row ≡ i → ⊥)
        → cond b (2 * get_or x.loops i 0 + cond (eqb x.row i) 1 0) 0 ≤ cond b (2 * get_or y.loops i 0 + cond (eqb y.row i) 1 0) 0
    by true n = rw (ne_eqb x.row i (n refl)) (omega arith)
    by false n = omega arith

-- A move to a later row, from a row that is no WHILE, with the loop counts as they were.
pub on_later : (T : Table) (x y : Thread) → x.row < y.row → x.loops ≡ y.loops → is_loop T x.row ≡ false → Later T x y
on_later T x y l q n =
    record {
      at = length T;
      before = λ i h. (
        phase_mono T i x.row y.row (omega arith),
        mark_le T i x y (let e : get_or x.loops i 0 ≡ get_or y.loops i 0 = ap (λ z. get_or z i 0) q in omega arith)
            (λ p e. true≢false (sym p ∙ ap (is_loop T) (sym e) ∙ n)),
      );
      there = inl (let a = phase_end T x.row in let b = phase_end T y.row in omega arith);
    }

-- What a thread's counts are at all other rows where one is put.
pub set_at : (x : Thread) (l : List ℕ) (w v i : ℕ) → x.loops ≡ set l w v → (i ≡ w → ⊥) → get_or x.loops i 0 ≡ get_or l i 0
set_at x l w v i q n = ap (λ z. get_or z i 0) q ∙ get_or-set_other l w i v 0 n

-- A WHILE found true: one more round.
while_true : (T : Table) (x y : Thread) → is_loop T x.row ≡ true → length x.loops ≡ length T → x.row < length T → y.row ≡ suc x.row
    → y.loops ≡ set x.loops x.row (suc (get_or x.loops x.row 0)) → Later T x y
while_true T x y w f l r q =
    record {
      at = x.row;
      before = λ i h. (
        phase_mono T i x.row y.row (omega arith),
        mark_le T i x y (let e = set_at y x.loops x.row _ i q (λ e. omega arith) in omega arith) (λ p e. omega arith),
      );
      there = inr (
        phase_mono T x.row x.row y.row (omega arith),
        let a = mark_loop T x.row x w in
            let b = mark_loop T x.row y w in
            let c : ◌≡◌ {A = ℕ} (cond (eqb x.row x.row) 1 0) 1 = rw (eq-eqb x.row x.row refl) in
            let d : get_or y.loops x.row 0 ≡ suc (get_or x.loops x.row 0) = ap (λ z. get_or z x.row 0) q
            ∙ get_or-set_same x.loops x.row _ 0 (omega arith) in
            omega arith,
      );
    }

-- A WHILE found false: its loop is past.
while_false : (T : Table) (x y : Thread) → is_loop T x.row ≡ true → y.row ≡ suc (end_of T x.row) → x.row < end_of T x.row
    → y.loops ≡ set x.loops x.row 0 → Later T x y
while_false T x y w r g q =
    record {
      at = x.row;
      before = λ i h. (
        phase_mono T i x.row y.row (omega arith),
        mark_le T i x y (let e = set_at y x.loops x.row _ i q (λ e. omega arith) in omega arith) (λ p e. omega arith),
      );
      there = inl (
          let a = phase_loop T x.row x.row w in
          let b = phase_loop T x.row y.row w in
          let c = tri_in x.row (end_of T x.row) x.row (omega arith) (omega arith) in
          let d = tri_past x.row (end_of T x.row) y.row (omega arith) (omega arith) in
          omega arith);
    }

-- An ENDWHILE: back at its WHILE, which is one more than within the round.
while_again : (T : Table) (x y : Thread) → is_loop T y.row ≡ true → role (row_at T y.row).op ≡ opening → y.row < x.row → x.row < length T
    → end_of T y.row ≡ x.row → y.loops ≡ x.loops → is_loop T x.row ≡ false → Later T x y
while_again T x y w o l k e q n =
    record {
      at = y.row;
      before = λ i h. (
        same i h (is_loop T i) refl,
        mark_le T i x y (let z : get_or x.loops i 0 ≡ get_or y.loops i 0 = ap (λ z. get_or z i 0) (sym q) in omega arith)
            (λ p z. true≢false (sym p ∙ ap (is_loop T) (sym z) ∙ n)),
      );
      there = inr (
        (let a = phase_loop T y.row x.row w in
            let b = phase_loop T y.row y.row w in
            let c = tri_in y.row (end_of T y.row) x.row (omega arith) (omega arith) in
            let d = tri_in y.row (end_of T y.row) y.row (omega arith) (omega arith) in
            omega arith),
        (let a = mark_loop T y.row x w in
            let b = mark_loop T y.row y w in
            let c : ◌≡◌ {A = ℕ} (cond (eqb y.row y.row) 1 0) 1 = rw (eq-eqb y.row y.row refl) in
            let d : ◌≡◌ {A = ℕ} (cond (eqb x.row y.row) 1 0) 0 = rw (ne_eqb x.row y.row (λ z. omega arith)) in
            let f : get_or y.loops y.row 0 ≡ get_or x.loops y.row 0 = ap (λ z. get_or z y.row 0) q in
            omega arith),
      );
    }
  where
    same : (i : ℕ) → i < y.row → (b : Bool) → is_loop T i ≡ b → phase T i x.row ≤ phase T i y.row
    same i h true p = rw (phase_loop T i x.row p, phase_loop T i y.row p) (by (lt_or_le (end_of T i) y.row))
      where
        by : (end_of T i < y.row) ⊎ (y.row ≤ end_of T i) → tri i (end_of T i) x.row ≤ tri i (end_of T i) y.row
        by (inl g) = omega (arith, tri_past i (end_of T i) x.row (omega arith) (omega arith), tri_past i (end_of T i) y.row (omega arith) g)
        by (inr g) =
            let z = end_nested T i y.row h (omega arith) g o in
            omega (arith, tri_in i (end_of T i) x.row (omega arith) (omega arith), tri_in i (end_of T i) y.row (omega arith) g)
    same i h false p = unfold phase in (rw (p, lt-ltb i (length T) (omega arith)) (omega arith))

pub past_else_ge : (o : Op) (h : ℕ) → h ≤ past_else o h
unfolding past_else
past_else_ge (CALC c) h = omega arith
past_else_ge (MEM p m) h = omega arith
past_else_ge IF h = omega arith
past_else_ge ELSE h = omega arith
past_else_ge ENDIF h = omega arith
past_else_ge WHILE h = omega arith
past_else_ge ENDWHILE h = omega arith
past_else_ge BARRIER h = omega arith
past_else_ge UNKNOWN h = omega arith

pub else_of_gt : (T : Table) (r : ℕ) → r < else_of T r
unfolding else_of
else_of_gt T r =
    omega (
      arith,
      scan_ge true (drop (suc r) T) 0 (suc r),
      past_else_ge (row_at T (scan true (drop (suc r) T) 0 (suc r))).op
          (scan true (drop (suc r) T) 0 (suc r)),
    )

pub end_gt : (T : Table) (r : ℕ) → r < end_of T r
unfolding end_of
end_gt T r = scan_ge false (drop (suc r) T) 0 (suc r)

-- An ENDWHILE's WHILE.
pub record Back (T : Table) (r : ℕ) : Type 0 where
  pub is_while_lem : (row_at T (start_of T r)).op ≡ WHILE
  pub above : start_of T r < r
  pub ends : end_of T (start_of T r) ≡ r

pub back : (T : Table) → WellFormed T → (r : ℕ) → r < length T → (row_at T r).op ≡ ENDWHILE → Back T r
unfolding is_while innermost start_of
back T w r l q = by (open_before T r) refl (subst (λ o. Fits o (innermost T (open_before T r))) q (w.fitting r l))
  where
    by : (os : List ℕ) → open_before T r ≡ os → innermost T (open_before T r) ≡ WHILE → Back T r
    by [] z i = absurd (not_while (sym (ap (innermost T) z) ∙ i))
      where
        not_while : innermost T [] ≡ WHILE → ⊥
        not_while e = true≢false (sym (ap is_while e))
    by (o ∷ os) z i =
        let s : o ≡ start_of T r = sym (ap (λ x. get_or x 0 0) z) in
        record {
          is_while_lem = ap (λ x. (row_at T x).op) (sym s) ∙ sym (ap (innermost T) z) ∙ i;
          above = subst (λ x. x < r) s (innermost_at T w r o os (omega arith) z).above;
          ends = ap (end_of T) (sym s) ∙ end_here T w r o os l z (closes q);
        }
      where
        closes : (row_at T r).op ≡ ENDWHILE → role (row_at T r).op ≡ closing
        closes q = unfold role in (ap role q)

-- Each thread's move takes it forward.
pub forward : (T : Table) → WellFormed T → (n : Shape) (t : ℕ) (x : Thread) (cells : List ℕ) → length x.loops ≡ length T → x.row < length T
    → (o : Op) → (row_at T x.row).op ≡ o → is_waiting (effect_of T n t x (row_at T x.row) o) ≡ false
    → is_outside (effect_of T n t x (row_at T x.row) o) ≡ false → Later T x (thread_after x cells (effect_of T n t x (row_at T x.row) o))
unfolding effect_of is_outside thread_after is_waiting put goto is_loop is_while on_if on_while
forward T w n t x cells f l (CALC c) q i u = on_later T x _ (omega arith) refl (ap is_while q)
forward T w n t x cells f l (MEM p m) q i u =
    reach_cases (λ e. is_outside e ≡ false → Later T x (thread_after x cells e)) n x p _ _ _ (λ l z. on_later T x _ (omega arith) refl (ap is_while q))
    (λ z. absurd (true≢false z)) (λ v e z. on_later T x _ (omega arith) refl (ap is_while q)) u
forward T w n t x cells f l IF q i u = by (reg x (row_at T x.row).a)
  where
    by : (v : ℕ) → Later T x (on_if T x v)
    by zero = on_later T x _ (else_of_gt T x.row) refl (ap is_while q)
    by (suc v) = on_later T x _ (omega arith) refl (ap is_while q)
forward T w n t x cells f l ELSE q i u = on_later T x _ (end_gt T x.row) refl (ap is_while q)
forward T w n t x cells f l ENDIF q i u = on_later T x _ (omega arith) refl (ap is_while q)
forward T w n t x cells f l WHILE q i u = by (reg x (row_at T x.row).a)
  where
    by : (v : ℕ) → Later T x (on_while T x v)
    by zero = while_false T x _ (ap is_while q) refl (end_gt T x.row) refl
    by (suc v) = while_true T x _ (ap is_while q) f l refl refl
forward T w n t x cells f l ENDWHILE q i u =
    let b = back T w x.row l q in
    while_again T x _ (ap is_while b.is_while_lem) (role_while _ b.is_while_lem) b.above l b.ends refl (ap is_while q)
forward T w n t x cells f l BARRIER q i u = absurd (true≢false i)
forward T w n t x cells f l UNKNOWN q i u = absurd (true≢false i)

pub sized : (T : Table) (n : Shape) (t : ℕ) (x : Thread) (cells : List ℕ) (o : Op)
    → length (thread_after x cells (effect_of T n t x (row_at T x.row) o)).loops ≡ length x.loops
unfolding effect_of thread_after put goto
sized T n t x cells (CALC c) = refl
sized T n t x cells (MEM p m) = reach_cases (λ e. length (thread_after x cells e).loops ≡ length x.loops) n x p _ _ _ (λ l. refl) refl (λ v e. refl)
sized T n t x cells IF = by (reg x (row_at T x.row).a)
  where
    by : (v : ℕ) → length (on_if T x v).loops ≡ length x.loops
    by zero = unfold on_if in refl
    by (suc v) = unfold on_if in refl
sized T n t x cells ELSE = refl
sized T n t x cells ENDIF = refl
sized T n t x cells WHILE = by (reg x (row_at T x.row).a)
  where
    by : (v : ℕ) → length (on_while T x v).loops ≡ length x.loops
    by zero = unfold on_while in (length-set x.loops x.row _)
    by (suc v) = unfold on_while in (length-set x.loops x.row _)
sized T n t x cells ENDWHILE = refl
sized T n t x cells BARRIER = refl
sized T n t x cells UNKNOWN = refl

-- What a thread's act does to its position.
pub act_forward : (T : Table) → WellFormed T → (n : Shape) (t : ℕ) (x : Thread) (cells : List ℕ) → length x.loops ≡ length T
    → is_waiting (effect T n t x) ≡ false → is_outside (effect T n t x) ≡ false
    → Later T x (thread_after x cells (effect T n t x)) × (length (thread_after x cells (effect T n t x)).loops ≡ length T)
unfolding effect
act_forward T w n t x cells f = by (ltb x.row (length T)) refl
  where
    d : Effect
    d = effect_of T n t x (row_at T x.row) (row_at T x.row).op

    by : (z : Bool) → ltb x.row (length T) ≡ z → is_waiting (cond z d waits) ≡ false → is_outside (cond z d waits) ≡ false
        → Later T x (thread_after x cells (cond z d waits)) × (length (thread_after x cells (cond z d waits)).loops ≡ length T)
    by true q i u = (forward T w n t x cells f (ltb-true _ _ q) (row_at T x.row).op refl i u, sized T n t x cells (row_at T x.row).op ∙ f)
    by false q i u = absurd (unfold is_waiting in (true≢false i))
