-- The diamond of the threads' machine: moves of two different threads commute unless their accesses conflict, and then the second is bad; a release
-- is possible only where no thread's move is. Assumes nothing.
use mathlib.Core.Path.{◌≡◌, refl, sym, ◌∙◌, ap, ap₂, subst, fun_ext}
use mathlib.Core.List.{List, [], ◌∷◌, ◌++◌}
use mathlib.Core.Bool.{Bool, true, false, cond, not, ◌&&◌, ◌||◌, or_comm, true≢false, false≢true, or_assoc}
use Prim.Native.Nat.{ℕ, zero, suc, ◌<◌, ◌≤◌}
use native.Mathlib.Omega.{arith}
use native.Mathlib.Decide.{ℕ_discrete}
use lib.Dec.{eqb, leb, ltb}
use borrow.Author.Tests.{eqb-true, eq-eqb, ne_eqb, ltb-true, leb-true, le-ltb}
use lib.ListN.{length, get_or, set, length-set, get_or-eq_default}
use lib.Seq.{get_or-set_other, set_comm}
use Rattle.spec.specs.Access.{Access, Kind, conflict}
use Rattle.spec.specs.Lists.{any_of, every}
use Rattle.spec.specs.Op.{BARRIER, CALC, ELSE, ENDIF, ENDWHILE, IF, MEM, Op, UNKNOWN, WHILE}
use Rattle.spec.specs.Shape.{Shape}
use Rattle.spec.specs.Table.{Table, no_row, row_at}
use Rattle.spec.specs.Threads.{AccessRecord, Effect, Group, Move, Thread, accesses, accesses_of, at_end, at_one_barrier, cells_after, effect, effect_at}
use Rattle.spec.specs.Threads.{effect_of, ends_badly, goes, is_barrier, is_outside, is_waiting, machine, mark_bad, next, no_thread, performed, possible}
use Rattle.spec.specs.Threads.{races, recorded, release, row, shown, strays, thread_after, thread_count, waits}
use Rattle.allruns.proofs.Descent.{Close, meet, clash, dead, Laws}
use Rattle.allruns.proofs.Accesses.{conflict_swap, taken_after, cells_swap, some_same, some_append, some_or, some_swap}
use Rattle.allruns.proofs.Bools.{and_left, and_right, or_left_false, or_right_false, below_same, below_more}

-- Accesses xs of thread t add the races with them, for every other thread.
pub races_more : (n : ℕ) (R : AccessRecord) (t u : ℕ) (xs : List Access) (y : Access) → ¬ (t ≡ u) → t < n
    → races n (recorded R t xs) u y ≡ (races n R u y || any_of (conflict y) xs)
unfolding races recorded
races_more n R t u xs y ne lt = below_same n _ _ (λ v h. at v (ℕ_discrete v t)) ∙ below_more n _ t _ lt
  where
    here : (a b : Bool) → (b || a) ≡ (a || b)
    here a b = or_comm b a

    there : (n a : Bool) → (n && a) ≡ (n && a || false)
    there true true = refl
    there true false = refl
    there false a = refl

    at : (v : ℕ) → Dec (v ≡ t)
        → (not (eqb v u) && any_of (conflict y) (cond (eqb v t) (xs ++ R v) (R v)))
        ≡ (not (eqb v u) && any_of (conflict y) (R v) || (eqb v t && any_of (conflict y) xs))
    at v (yes q) =
        rw (eq-eqb v t q, ne_eqb v u (λ r. ne (sym q ∙ r))) (some_append (conflict y) xs (R v) ∙ here (any_of (conflict y) (R v)) (any_of (conflict y) xs))
    at v (no q) = rw (ne_eqb v t q) (there (not (eqb v u)) (any_of (conflict y) (R v)))

-- Two acts conflict: an access of the one with an access of the other.
unfoldable pub clashes : Effect → Effect → Bool
clashes x y = any_of (λ b. any_of (conflict b) (accesses_of x)) (accesses_of y)

pub clashes_swap : (x y : Effect) → clashes x y ≡ clashes y x
unfolding clashes
clashes_swap x y =
    some_swap conflict (accesses_of y) (accesses_of x) ∙ some_same _ _ (accesses_of x) (λ a. some_same _ _ (accesses_of y) (λ b. conflict_swap b a))

-- What is bad of thread u's effect y after thread t's effect x. What other groups forbid stays.
hurts_after : (s : Group) (t u : ℕ) (x y : Effect) → ¬ (t ≡ u) → t < thread_count s → ends_badly (performed s t x) u y ≡ (ends_badly s u y || clashes x y)
unfolding ends_badly performed clashes thread_count
hurts_after s t u x y ne lt =
    ap (λ n. is_outside y || any_of (λ a. races n (recorded s.made t (accesses_of x)) u a || s.barred a) (accesses_of y)) (length-set s.threads t _)
    ∙ ap (λ b. is_outside y || b) (some_same _ _ (accesses_of y) more ∙ some_or _ _ (accesses_of y))
    ∙ sym (or_assoc (is_outside y) (any_of (λ a. races (length s.threads) s.made u a || s.barred a) (accesses_of y))
    (any_of (λ b. any_of (conflict b) (accesses_of x)) (accesses_of y)))
  where
    mid : (a b c : Bool) → (a || b || c) ≡ (a || c || b)
    mid true b c = refl
    mid false b c = or_comm b c

    more : (a : Access) → (races (length s.threads) (recorded s.made t (accesses_of x)) u a || s.barred a)
        ≡ (races (length s.threads) s.made u a || s.barred a || any_of (conflict a) (accesses_of x))
    more a =
        ap (λ b. b || s.barred a) (races_more (length s.threads) s.made t u (accesses_of x) a ne lt)
        ∙ mid (races (length s.threads) s.made u a) (any_of (conflict a) (accesses_of x)) (s.barred a)

or_zero_lem : (a : Bool) → (a || false || false) ≡ false → a ≡ false
or_zero_lem true q = q
or_zero_lem false q = refl

-- The one conflict of two accesses.
makes_free : (c e d f : ℕ) (k l : Kind) → clashes (accesses c k d) (accesses e l f) ≡ false
    → conflict (record { cell = c; kind = k }) (record { cell = e; kind = l }) ≡ false
unfolding clashes accesses_of any_of
makes_free c e d f k l q = conflict_swap (record { cell = c; kind = k }) (record { cell = e; kind = l }) ∙ or_zero_lem _ q

-- Where two acts do not conflict, neither changes what the other does.
pub thread_after_lem : (th : Thread) (cells : List ℕ) (x y : Effect) → clashes x y ≡ false → thread_after th (cells_after cells x) y ≡ thread_after th cells y
unfolding thread_after cells_after
thread_after_lem th cells x waits q = refl
thread_after_lem th cells x (goes g) q = refl
thread_after_lem th cells x strays q = refl
thread_after_lem th cells waits (accesses e l f) q = refl
thread_after_lem th cells (goes h) (accesses e l f) q = refl
thread_after_lem th cells strays (accesses e l f) q = refl
thread_after_lem th cells (accesses c k d) (accesses e l f) q =
    ap (λ rs. record { row = suc th.row; regs = rs; loops = th.loops }) (taken_after cells c e k l f th.regs (makes_free c e d f k l q))

pub cells_after_lem : (cells : List ℕ) (x y : Effect) → clashes x y ≡ false → cells_after (cells_after cells x) y ≡ cells_after (cells_after cells y) x
unfolding cells_after
cells_after_lem cells waits y q = refl
cells_after_lem cells (goes h) y q = refl
cells_after_lem cells strays y q = refl
cells_after_lem cells (accesses c k d) waits q = refl
cells_after_lem cells (accesses c k d) (goes g) q = refl
cells_after_lem cells (accesses c k d) strays q = refl
cells_after_lem cells (accesses c k d) (accesses e l f) q = cells_swap cells c e k l (makes_free c e d f k l q)

-- Notes of different threads.
pub noted_swap : (R : AccessRecord) (t u : ℕ) (xs ys : List Access) → ¬ (t ≡ u) → recorded (recorded R t xs) u ys ≡ recorded (recorded R u ys) t xs
unfolding recorded
noted_swap R t u xs ys ne = fun_ext (λ v. at v (ℕ_discrete v t) (ℕ_discrete v u))
  where
    at : (v : ℕ) → Dec (v ≡ t) → Dec (v ≡ u)
        → cond (eqb v u) (ys ++ cond (eqb v t) (xs ++ R v) (R v)) (cond (eqb v t) (xs ++ R v) (R v))
        ≡ cond (eqb v t) (xs ++ cond (eqb v u) (ys ++ R v) (R v)) (cond (eqb v u) (ys ++ R v) (R v))
    at v (yes p) (yes q) = absurd (ne (sym p ∙ q))
    at v (yes p) (no q) = rw (eq-eqb v t p, ne_eqb v u q)
    at v (no p) d = rw (ne_eqb v t p)

done_swap : (s : Group) (t u : ℕ) (x y : Effect) → ¬ (t ≡ u) → clashes x y ≡ false → performed (performed s t x) u y ≡ performed (performed s u y) t x
unfolding performed
done_swap s t u x y ne q =
    λ i. record {
      threads = threads i;
      cells = cells_after_lem s.cells x y q i;
      made = noted_swap s.made t u (accesses_of x) (accesses_of y) ne i;
      ever = noted_swap s.ever t u (accesses_of x) (accesses_of y) ne i;
      barred = s.barred;
      bad = s.bad;
    }
  where
    th : Thread
    th = get_or s.threads t no_thread

    uh : Thread
    uh = get_or s.threads u no_thread

    tn : Thread
    tn = thread_after th s.cells x

    un : Thread
    un = thread_after uh s.cells y

    threads : set (set s.threads t tn) u (thread_after (get_or (set s.threads t tn) u no_thread) (cells_after s.cells x) y)
        ≡ set (set s.threads u un) t (thread_after (get_or (set s.threads u un) t no_thread) (cells_after s.cells y) x)
    threads =
        ap (λ h. set (set s.threads t tn) u (thread_after h (cells_after s.cells x) y)) (get_or-set_other s.threads t u tn no_thread (λ p. ne (sym p)))
        ∙ ap (λ h. set (set s.threads t tn) u h) (thread_after_lem uh s.cells x y q)
        ∙ set_comm s.threads t u tn un ne
        ∙ ap (λ h. set (set s.threads u un) t h) (sym (thread_after_lem th s.cells y x (clashes_swap y x ∙ q)))
        ∙ ap (λ h. set (set s.threads u un) t (thread_after h (cells_after s.cells y) x)) (sym (get_or-set_other s.threads u t un no_thread ne))

-- A thread's own act does not see what another did.
pub act_same : (T : Table) (L : Shape) (s : Group) (t u : ℕ) (x : Effect) → ¬ (t ≡ u) → effect_at T L (performed s t x) u ≡ effect_at T L s u
unfolding effect_at performed thread_count
act_same T L s t u x ne = ap (effect T L u) (get_or-set_other s.threads t u _ no_thread (λ p. ne (sym p)))

pub next_bad : (T : Table) (L : Shape) (s : Group) (t : ℕ) → ends_badly s t (effect_at T L s t) ≡ true → (next T L s (row t)).bad ≡ true
unfolding next mark_bad
next_bad T L s t q = ap (λ z. (cond z (mark_bad s) (performed s t (effect_at T L s t))).bad) q

pub next_done : (T : Table) (L : Shape) (s : Group) (t : ℕ) → ends_badly s t (effect_at T L s t) ≡ false → next T L s (row t) ≡ performed s t (effect_at T L s t)
unfolding next
next_done T L s t q = ap (λ z. cond z (mark_bad s) (performed s t (effect_at T L s t))) q

pub can_after : (T : Table) (L : Shape) (s : Group) (t u : ℕ) (x : Effect) → ¬ (t ≡ u) → possible T L s (row u) ≡ true
    → possible T L (performed s t x) (row u) ≡ true
unfolding possible thread_count performed
can_after T L s t u x ne c =
    ap₂ (λ n a. not s.bad && (ltb u n && not (is_waiting a))) (length-set s.threads t _) (act_same T L s t u x ne) ∙ c

pub can_count : (T : Table) (L : Shape) (s : Group) (t : ℕ) → possible T L s (row t) ≡ true → t < thread_count s
unfolding possible
can_count T L s t c = ltb-true t (thread_count s) (and_left _ _ (and_right (not s.bad) _ c))

done_after : (T : Table) (L : Shape) (s : Group) (t u : ℕ) (x : Effect) → ¬ (t ≡ u) → ends_badly (performed s t x) u (effect_at T L s u) ≡ false
    → next T L (performed s t x) (row u) ≡ performed (performed s t x) u (effect_at T L s u)
done_after T L s t u x ne q =
    next_done T L (performed s t x) u (ap (ends_badly (performed s t x) u) (act_same T L s t u x ne) ∙ q)
    ∙ ap (performed (performed s t x) u) (act_same T L s t u x ne)

module _ (T : Table) (L : Shape) (s : Group) (t u : ℕ) (ne : ¬ (t ≡ u)) (ct : possible T L s (row t) ≡ true) (cu : possible T L s (row u) ≡ true) where
  -- the second move's turn: what it meets is known
  second : next T L s (row t) ≡ performed s t (effect_at T L s t) → ends_badly s t (effect_at T L s t) ≡ false → (z : Bool)
      → (ends_badly s u (effect_at T L s u) || clashes (effect_at T L s t) (effect_at T L s u)) ≡ z → Close (machine T L) s (row t) (row u)
  unfolding shown
  second p h true q =
      clash
      (subst (λ g. possible T L g (row u) ≡ true) (sym p) (can_after T L s t u (effect_at T L s t) ne cu))
      (subst (λ g. (next T L g (row u)).bad ≡ true) (sym p)
      (next_bad T L (performed s t (effect_at T L s t)) u
      (ap (ends_badly (performed s t (effect_at T L s t)) u) (act_same T L s t u (effect_at T L s t) ne)
      ∙ hurts_after s t u (effect_at T L s t) (effect_at T L s u) ne (can_count T L s t ct) ∙ q)))
  second p h false q =
      meet
      (subst (λ g. possible T L g (row u) ≡ true) (sym p) (can_after T L s t u x ne cu))
      (subst (λ g. possible T L g (row t) ≡ true) (sym pu) (can_after T L s u t y en ct))
      (ap (λ g. next T L g (row u)) p
      ∙ done_after T L s t u x ne (hurts_after s t u x y ne (can_count T L s t ct) ∙ q)
      ∙ done_swap s t u x y ne free
      ∙ sym (done_after T L s u t y en (hurts_after s u t y x en (can_count T L s u cu) ∙ ap₂ ◌||◌ h (clashes_swap y x ∙ free)))
      ∙ ap (λ g. next T L g (row t)) (sym pu))
      (λ w. quiet)
    where
      x : Effect
      x = effect_at T L s t

      y : Effect
      y = effect_at T L s u

      en : ¬ (u ≡ t)
      en e = ne (sym e)

      free : clashes x y ≡ false
      free = or_right_false (ends_badly s u y) (clashes x y) q

      pu : next T L s (row u) ≡ performed s u y
      pu = next_done T L s u (or_left_false (ends_badly s u y) (clashes x y) q)

      quiet : ◌≡◌ {A = List (List ℕ)} [] []
      quiet = refl

  first : (z : Bool) → ends_badly s t (effect_at T L s t) ≡ z → Close (machine T L) s (row t) (row u)
  first true q = dead (next_bad T L s t q)
  first false q = second (next_done T L s t q) q (ends_badly s u (effect_at T L s u) || clashes (effect_at T L s t) (effect_at T L s u)) refl

  rows_close : Close (machine T L) s (row t) (row u)
  rows_close = first (ends_badly s t (effect_at T L s t)) refl

barrier_waits : (T : Table) (L : Shape) (t : ℕ) (th : Thread) (o : Op) → is_barrier o ≡ true → effect_of T L t th (row_at T th.row) o ≡ waits
unfolding is_barrier effect_of
barrier_waits T L t th (CALC c) q = absurd (false≢true q)
barrier_waits T L t th (MEM p m) q = absurd (false≢true q)
barrier_waits T L t th IF q = absurd (false≢true q)
barrier_waits T L t th ELSE q = absurd (false≢true q)
barrier_waits T L t th ENDIF q = absurd (false≢true q)
barrier_waits T L t th WHILE q = absurd (false≢true q)
barrier_waits T L t th ENDWHILE q = absurd (false≢true q)
barrier_waits T L t th BARRIER q = refl
barrier_waits T L t th UNKNOWN q = refl

pub act_waits : (T : Table) (L : Shape) (t : ℕ) (th : Thread) → is_barrier (row_at T th.row).op ≡ true → effect T L t th ≡ waits
unfolding effect
act_waits T L t th q = ap (λ a. cond (ltb th.row (length T)) a waits) (barrier_waits T L t th _ q) ∙ both (ltb th.row (length T))
  where
    both : (b : Bool) → cond b waits waits ≡ waits
    both true = refl
    both false = refl

pub every_at : {A : Type 0} (p : A → Bool) (xs : List A) (i : ℕ) (d : A) → every p xs ≡ true → i < length xs → p (get_or xs i d) ≡ true
unfolding every
every_at p [] i d q l = absurd (omega arith)
every_at p (x ∷ xs) zero d q l = and_left (p x) _ q
every_at p (x ∷ xs) (suc i) d q l = every_at p xs i d (and_right (p x) _ q) (omega arith)

pub gathered_at : (T : Table) (ths : List Thread) (i : ℕ) → at_one_barrier T ths ≡ true → i < length ths
    → is_barrier (row_at T (get_or ths i no_thread).row).op ≡ true
unfolding at_one_barrier
gathered_at T [] i q l = absurd (false≢true q)
gathered_at T (x ∷ xs) zero q l = and_left _ _ q
gathered_at T (x ∷ xs) (suc i) q l =
    ap (λ r. is_barrier (row_at T r).op)
    (eqb-true _ _ (and_left _ _ (every_at _ xs i no_thread (and_right (is_barrier (row_at T x.row).op) _ q) (omega arith))))
    ∙ and_left _ _ q

-- A release and a thread's row are never possible at one state.
pub never_both : (T : Table) (L : Shape) (s : Group) (t : ℕ) → possible T L s release ≡ true → possible T L s (row t) ≡ true → ⊥
unfolding possible effect_at thread_count is_waiting
never_both T L s t r c = true≢false (sym busy ∙ ap (λ a. not (is_waiting a)) still)
  where
    busy : not (is_waiting (effect_at T L s t)) ≡ true
    busy = and_right (ltb t (thread_count s)) _ (and_right (not s.bad) _ c)

    still : effect_at T L s t ≡ waits
    still = act_waits T L t _ (gathered_at T s.threads t (and_right (not s.bad) _ r) (ltb-true t _ (and_left _ _ (and_right (not s.bad) _ c))))

number : Move → ℕ
number (row t) = suc t
number release = 0

pub same_move : (a b : Move) → Dec (a ≡ b)
same_move release release = yes refl
same_move release (row u) = no (λ p. let q : 0 ≡ suc u = unfold number in (ap number p) in omega arith)
same_move (row t) release = no (λ p. let q : suc t ≡ 0 = unfold number in (ap number p) in omega arith)
same_move (row t) (row u) = at (ℕ_discrete t u)
  where
    at : Dec (t ≡ u) → Dec (row t ≡ row u)
    at (yes e) = yes (ap row e)
    at (no e) = no (λ p. e (cc))

pub close : (T : Table) (L : Shape) (s : Group) (a b : Move) → possible T L s a ≡ true → possible T L s b ≡ true → ¬ (a ≡ b) → Close (machine T L) s a b
close T L s (row t) (row u) p q ne = rows_close T L s t u (λ e. ne (ap row e)) p q
close T L s (row t) release p q ne = absurd (never_both T L s t q p)
close T L s release (row u) p q ne = absurd (never_both T L s u p q)
close T L s release release p q ne = absurd (ne refl)

pub bad_stops : (T : Table) (L : Shape) (s : Group) (m : Move) → s.bad ≡ true → possible T L s m ≡ true → ⊥
unfolding possible
bad_stops T L s (row t) b c = true≢false (sym (and_left _ _ c) ∙ ap not b)
bad_stops T L s release b c = true≢false (sym (and_left _ _ c) ∙ ap not b)

pub past_waits : (T : Table) (L : Shape) (t : ℕ) (th : Thread) → length T ≤ th.row → effect T L t th ≡ waits
unfolding effect
past_waits T L t th l =
    ap (λ b. cond b (effect_of T L t th (row_at T th.row) (row_at T th.row).op) waits) (le-ltb th.row (length T) l)

pub end_not_gathered : (T : Table) (ths : List Thread) → every (λ th. leb (length T) th.row) ths ≡ true → at_one_barrier T ths ≡ true → ⊥
unfolding at_one_barrier every is_barrier row_at no_row
end_not_gathered T [] q g = false≢true g
end_not_gathered T (x ∷ xs) q g =
    true≢false
    (sym (and_left _ _ g) ∙ ap (λ r. is_barrier r.op) (get_or-eq_default T no_row (leb-true _ _ (and_left _ _ q))))

end_is_good : (T : Table) (L : Shape) (s : Group) → at_end T s ≡ true → s.bad ≡ true → ⊥
unfolding at_end
end_is_good T L s e b = true≢false (sym (and_left _ _ e) ∙ ap not b)

pub end_stops : (T : Table) (L : Shape) (s : Group) (m : Move) → at_end T s ≡ true → possible T L s m ≡ true → ⊥
unfolding possible at_end effect_at is_waiting thread_count
end_stops T L s (row t) e c = true≢false (sym busy ∙ ap (λ a. not (is_waiting a)) still)
  where
    busy : not (is_waiting (effect_at T L s t)) ≡ true
    busy = and_right (ltb t (thread_count s)) _ (and_right (not s.bad) _ c)

    still : effect_at T L s t ≡ waits
    still =
        past_waits T L t _
        (leb-true _ _ (every_at _ s.threads t no_thread (and_right (not s.bad) _ e) (ltb-true t _ (and_left _ _ (and_right (not s.bad) _ c)))))
end_stops T L s release e c = go s.threads (and_right (not s.bad) _ e) (and_right (not s.bad) _ c)
  where
    go : (ths : List Thread) → every (λ th. leb (length T) th.row) ths ≡ true → at_one_barrier T ths ≡ true → ⊥
    go ths q g = end_not_gathered T ths q g

pub laws : (T : Table) (L : Shape) → Laws (machine T L)
laws T L =
    record {
      same = same_move;
      end_last = end_stops T L;
      bad_last = bad_stops T L;
      end_good = λ s e b. end_is_good T L s e b;
      diamond = close T L;
    }
