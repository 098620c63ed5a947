-- A thread that waits at a barrier for ever, since another is past it. Assumes nothing.
use mathlib.Core.Path.{◌≡◌, refl, sym, ◌∙◌, ap, ap₂, subst}
use mathlib.Core.Logic.{◌⊎◌, inl, inr}
use mathlib.Core.List.{List, [], ◌∷◌}
use mathlib.Core.Bool.{Bool, true, false, cond, not, ◌&&◌, true≢false, false≢true}
use Prim.Native.Nat.{ℕ, zero, suc, ◌<◌, ◌≤◌}
use native.Mathlib.Omega.{arith}
use native.Mathlib.Decide.{ℕ_discrete}
use lib.Dec.{eqb, leb, ltb}
use borrow.Author.Tests.{eqb-true, ltb-true, ltb-false, leb-true}
use lib.ListN.{length, get_or, set, length-set, get_or-eq_default}
use lib.Seq.{get_or-set_other, get_or-set_same}
use Rattle.spec.specs.Lists.{equal_list}
use Rattle.spec.specs.Shape.{Shape}
use Rattle.spec.specs.Table.{Table, WellFormed, no_row, row_at}
use Rattle.spec.specs.Threads.{Group, Move, Thread, at_end, at_one_barrier, effect_at, ends_badly, is_barrier, is_outside, is_waiting}
use Rattle.spec.specs.Threads.{mark_bad, next, no_thread, performed, possible, release, row, thread_after, thread_count}
use Rattle.allruns.proofs.Bools.{and_left, and_right, not_is, or_left_false}
use Rattle.allruns.proofs.Diamond.{every_at, act_waits}
use Rattle.allruns.proofs.Progress.{Later, later_not, later_trans, act_forward}

same_lists : (xs ys : List ℕ) → equal_list xs ys ≡ true → xs ≡ ys
unfolding equal_list
same_lists [] [] q = refl
same_lists [] (y ∷ ys) q = absurd (false≢true q)
same_lists (x ∷ xs) [] q = absurd (false≢true q)
same_lists (x ∷ xs) (y ∷ ys) q = ap₂ (λ a b. a ∷ b) (eqb-true x y (and_left _ _ q)) (same_lists xs ys (and_right (eqb x y) _ q))

-- At a release all threads are in one position: that of thread 0.
gathered_same : (T : Table) (ths : List Thread) (i : ℕ) → at_one_barrier T ths ≡ true → i < length ths
    → ((get_or ths i no_thread).row ≡ (get_or ths 0 no_thread).row) × ((get_or ths i no_thread).loops ≡ (get_or ths 0 no_thread).loops)
unfolding at_one_barrier
gathered_same T [] i q l = absurd (false≢true q)
gathered_same T (x ∷ xs) zero q l = (refl, refl)
gathered_same T (x ∷ xs) (suc i) q l =
    let h : (eqb (get_or xs i no_thread).row x.row && equal_list (get_or xs i no_thread).loops x.loops) ≡ true =
    every_at (λ y. eqb y.row x.row && equal_list y.loops x.loops) xs i no_thread (and_right (is_barrier (row_at T x.row).op) _ q) (omega arith) in
    (eqb-true _ _ (and_left _ _ h), same_lists _ _ (and_right (eqb (get_or xs i no_thread).row x.row) _ h))

-- Thread a waits at a barrier, and thread u is past it.
pub record Blocked (T : Table) (s : Group) (a u : ℕ) : Type 0 where
  pub first : a < length s.threads
  pub second : u < length s.threads
  pub waiting : is_barrier (row_at T (get_or s.threads a no_thread).row).op ≡ true
  pub past : Later T (get_or s.threads a no_thread) (get_or s.threads u no_thread)
  pub sized : length (get_or s.threads u no_thread).loops ≡ length T

module _ (T : Table) (w : WellFormed T) (L : Shape) (a u : ℕ) where
  pub same_threads : (s g : Group) → s.threads ≡ g.threads → Blocked T s a u → Blocked T g a u
  same_threads s g q h = subst (λ l. Blocked T (record { threads = l; cells = g.cells; made = g.made; ever = g.ever; barred = g.barred; bad = g.bad }) a u) q
      (record { first = h.first; second = h.second; waiting = h.waiting; past = h.past; sized = h.sized })

  never_release : (s : Group) → Blocked T s a u → at_one_barrier T s.threads ≡ true → ⊥
  never_release s h g =
      let p = gathered_same T s.threads a g h.first in
      let q = gathered_same T s.threads u g h.second in
      later_not T _ _ (p.0 ∙ sym q.0) (p.1 ∙ sym q.1) h.past

  inside : (r : ℕ) → is_barrier (row_at T r).op ≡ true → r < length T
  inside r q = by (ltb r (length T)) refl
    where
      by : (z : Bool) → ltb r (length T) ≡ z → r < length T
      by true e = ltb-true _ _ e
      by false e = absurd (unfold is_barrier row_at no_row in (true≢false (sym q ∙ ap (λ x. is_barrier x.op) (get_or-eq_default T no_row (ltb-false _ _ e)))))

  -- a move of thread t
  moved : (s : Group) (t : ℕ) → Blocked T s a u → t < length s.threads → is_waiting (effect_at T L s t) ≡ false
      → is_outside (effect_at T L s t) ≡ false → Blocked T (performed s t (effect_at T L s t)) a u
  unfolding performed effect_at is_waiting
  moved s t h l i o = by (ℕ_discrete t a) (ℕ_discrete t u)
    where
      x : Thread
      x = get_or s.threads t no_thread

      new : Thread
      new = thread_after x s.cells (effect_at T L s t)

      len : length (set s.threads t new) ≡ length s.threads
      len = length-set s.threads t new

      by : Dec (t ≡ a) → Dec (t ≡ u) → Blocked T (performed s t (effect_at T L s t)) a u
      by (yes e) d =
          absurd (true≢false
          (sym (ap is_waiting (act_waits T L t x (subst (λ k. is_barrier (row_at T (get_or s.threads k no_thread).row).op ≡ true) (sym e) h.waiting))) ∙ i))
      by (no e) (yes d) =
          let old : get_or (set s.threads t new) a no_thread ≡ get_or s.threads a no_thread = get_or-set_other s.threads t a new no_thread (λ p. e (sym p)) in
          let put : get_or (set s.threads t new) u no_thread ≡ new = ap (λ k. get_or (set s.threads t new) k no_thread) (sym d)
          ∙ get_or-set_same s.threads t new no_thread l in
          let f = act_forward T w L t x s.cells (ap (λ k. length (get_or s.threads k no_thread).loops) d ∙ h.sized) i o in
          record {
            first = omega (arith, len, h.first);
            second = omega (arith, len, h.second);
            waiting = ap (λ z. is_barrier (row_at T z.row).op) old ∙ h.waiting;
            past = rw (old, put)
                (later_trans T _ x new (subst (λ k. Later T (get_or s.threads a no_thread) (get_or s.threads k no_thread)) (sym d) h.past) f.0);
            sized = ap (λ z. length z.loops) put ∙ f.1;
          }
      by (no e) (no d) =
          let old : get_or (set s.threads t new) a no_thread ≡ get_or s.threads a no_thread = get_or-set_other s.threads t a new no_thread (λ p. e (sym p)) in
          let kept : get_or (set s.threads t new) u no_thread ≡ get_or s.threads u no_thread = get_or-set_other s.threads t u new no_thread (λ p. d (sym p)) in
          record {
            first = omega (arith, len, h.first);
            second = omega (arith, len, h.second);
            waiting = ap (λ z. is_barrier (row_at T z.row).op) old ∙ h.waiting;
            past = rw (old, kept) h.past;
            sized = ap (λ z. length z.loops) kept ∙ h.sized;
          }

  pub blocked_next : (s : Group) (m : Move) → possible T L s m ≡ true → Blocked T s a u → Blocked T (next T L s m) a u
  unfolding possible thread_count next mark_bad
  blocked_next s release c h = absurd (never_release s h (and_right (not s.bad) _ c))
  blocked_next s (row t) c h = by (ends_badly s t (effect_at T L s t)) refl
    where
      l : t < length s.threads
      l = ltb-true t _ (and_left _ _ (and_right (not s.bad) _ c))

      i : is_waiting (effect_at T L s t) ≡ false
      i = not_is _ (and_right (ltb t (thread_count s)) _ (and_right (not s.bad) _ c))

      unhurt : ends_badly s t (effect_at T L s t) ≡ false → is_outside (effect_at T L s t) ≡ false
      unhurt q =
          unfold ends_badly in (or_left_false (is_outside (effect_at T L s t)) _ q)

      by : (z : Bool) → ends_badly s t (effect_at T L s t) ≡ z → Blocked T (cond z (mark_bad s) (performed s t (effect_at T L s t))) a u
      by true q = same_threads s (mark_bad s) refl h
      by false q = moved s t h l i (unhurt q)

  pub blocked_end : (s : Group) → Blocked T s a u → at_end T s ≡ true → ⊥
  unfolding at_end
  blocked_end s h e =
      let g : length T ≤ (get_or s.threads a no_thread).row =
      leb-true _ _ (every_at (λ th. leb (length T) th.row) s.threads a no_thread (and_right (not s.bad) _ e) h.first) in
      omega (arith, g, inside _ h.waiting)

-- Whether a move is possible.
pub some_move : (T : Table) (L : Shape) (s : Group) → ((m : Move) × (possible T L s m ≡ true)) ⊎ ((m : Move) → possible T L s m ≡ true → ⊥)
some_move T L s = by (possible T L s release) refl (search (length s.threads))
  where
    search : (k : ℕ) → ((t : ℕ) × (possible T L s (row t) ≡ true)) ⊎ ((t : ℕ) → t < k → possible T L s (row t) ≡ true → ⊥)
    search zero = inr (λ t l c. omega arith)
    search (suc k) = at (possible T L s (row k)) refl (search k)
      where
        at : (z : Bool) → possible T L s (row k) ≡ z → ((t : ℕ) × (possible T L s (row t) ≡ true)) ⊎ ((t : ℕ) → t < k → possible T L s (row t) ≡ true → ⊥)
            → ((t : ℕ) × (possible T L s (row t) ≡ true)) ⊎ ((t : ℕ) → t < suc k → possible T L s (row t) ≡ true → ⊥)
        at true q h = inl (k, q)
        at false q (inl p) = inl p
        at false q (inr n) = inr (λ t l c. other t l c (ℕ_discrete t k))
          where
            other : (t : ℕ) → t < suc k → possible T L s (row t) ≡ true → Dec (t ≡ k) → ⊥
            other t l c (yes e) = true≢false (sym c ∙ ap (λ j. possible T L s (row j)) e ∙ q)
            other t l c (no e) = n t (omega arith) c

    by : (z : Bool) → possible T L s release ≡ z
        → ((t : ℕ) × (possible T L s (row t) ≡ true)) ⊎ ((t : ℕ) → t < length s.threads → possible T L s (row t) ≡ true → ⊥)
        → ((m : Move) × (possible T L s m ≡ true)) ⊎ ((m : Move) → possible T L s m ≡ true → ⊥)
    by true q h = inl (release, q)
    by false q (inl p) = inl (row p.0, p.1)
    by false q (inr n) = inr none
      where
        none : (m : Move) → possible T L s m ≡ true → ⊥
        none release c = true≢false (sym c ∙ q)
        none (row t) c = n t (below c) c
          where
            below : possible T L s (row t) ≡ true → t < length s.threads
            below c = unfold possible thread_count in (ltb-true t _ (and_left _ _ (and_right (not s.bad) _ c)))
