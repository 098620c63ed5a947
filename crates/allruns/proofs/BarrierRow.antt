-- The BARRIER row of the lock-step run, and each row. Assumes nothing.
use mathlib.Core.Path.{◌≡◌, refl, sym, ◌∙◌, ap, ap₂, subst}
use mathlib.Core.Logic.{◌⊎◌, inl, inr}
use mathlib.Core.List.{List, [], ◌∷◌, map}
use mathlib.Core.Bool.{Bool, true, false, cond, not, ◌&&◌, true≢false, false≢true}
use Prim.Native.Nat.{ℕ, zero, suc, ◌<◌}
use native.Mathlib.Omega.{arith}
use lib.Dec.{eqb}
use borrow.Author.Tests.{eq-eqb}
use lib.ListN.{length, get_or, length-map}
use Rattle.spec.specs.Lists.{equal_list, every}
use Rattle.spec.specs.LockStep.{else_row, endif_row, endwhile_row, LockState, access_turn, advance, barrier_row, compute_turn, continues}
use Rattle.spec.specs.LockStep.{pass_barrier, run_row, stops}
use Rattle.spec.specs.Mask.{Mask, any, full, has, lowest}
use Rattle.spec.specs.Op.{BARRIER, CALC, ELSE, ENDIF, ENDWHILE, IF, MEM, Op, UNKNOWN, WHILE, value}
use Rattle.spec.specs.Runs.{shown_to}
use Rattle.spec.specs.Shape.{Shape, launch_number}
use Rattle.spec.specs.Table.{Fits, Table, WellFormed, innermost, open_before, opened_by, plain, role, row_at}
use Rattle.spec.specs.Threads.{Group, Thread, at_one_barrier, is_barrier, machine, next, no_thread, possible, release, released, row}
use Rattle.spec.specs.declared.Verdict.{Verdict}
use Rattle.spec.specs.declared.Verdict.TheVariants.{Diverged}
use Rattle.spec.specs.Threads as own
use Rattle.allruns.proofs.Counts.{passes, passed_at}
use Rattle.allruns.proofs.Lists.{get_d_map_at}
use Rattle.allruns.proofs.LogRecord.{log_cleared}
use Rattle.allruns.proofs.Bools.{and_left, and_right, and_make}
use Rattle.allruns.proofs.Turns.{One, touch_one, calc_one}
use Rattle.allruns.proofs.Blocked.{Blocked}
use Rattle.allruns.proofs.Nesting.{is_while, AllOpened, all_opened}
use Rattle.allruns.proofs.Rows.{openers_of, fresh, Sim, Advanced, RowDone, match_at, match_onward, top_of, Top, top, framed_fresh, loops_size}
use Rattle.allruns.proofs.Rows.{any_has, if_row_lem, else_row_lem, endif_row_lem, while_row_lem, endwhile_row_lem, plain_row_lem, keeps_touch, keeps_calc}
use Rattle.allruns.proofs.Aside.{parked, Past}
use Rattle.allruns.proofs.Progress as later
use Rattle.allruns.proofs.StepCounts.{is_own_release, steps_after}
use Rattle.allruns.proofs.Simulation.{Pos, Frame, loops_of, exit, place, place_in, place_any, body, Match}

full_has : (m : Mask) (t : ℕ) → full m ≡ true → t < length m → has m t ≡ true
unfolding full has
full_has [] t q l = absurd (omega arith)
full_has (b ∷ m) zero q l = and_left b _ q
full_has (b ∷ m) (suc t) q l = full_has m t (and_right b _ q) (omega arith)

any_some : (m : Mask) → any m ≡ true → (t : ℕ) × (t < length m) × (has m t ≡ true)
unfolding any has
any_some [] q = absurd (false≢true q)
any_some (true ∷ m) q = (0, omega arith, refl)
any_some (false ∷ m) q = let h = any_some m q in (suc h.0, (let l = h.1 in omega arith), h.2)

full_some : (m : Mask) → full m ≡ false → (t : ℕ) × (t < length m) × (has m t ≡ false)
unfolding full has
full_some [] q = absurd (true≢false q)
full_some (false ∷ m) q = (0, omega arith, refl)
full_some (true ∷ m) q = let h = full_some m q in (suc h.0, (let l = h.1 in omega arith), h.2)

pub every_make : {A : Type 0} (p : A → Bool) (xs : List A) (d : A) → ((i : ℕ) → i < length xs → p (get_or xs i d) ≡ true) → every p xs ≡ true
unfolding every
every_make p [] d h = refl
every_make p (x ∷ xs) d h = and_make (h 0 (omega arith)) (every_make p xs d (λ i l. h (suc i) (omega arith)))

same_self : (xs : List ℕ) → equal_list xs xs ≡ true
unfolding equal_list
same_self [] = refl
same_self (x ∷ xs) = and_make (eq-eqb x x refl) (same_self xs)

gathered_make : (T : Table) (ths : List Thread) (r : ℕ) (l : List ℕ) → 0 < length ths → is_barrier (row_at T r).op ≡ true
    → ((i : ℕ) → i < length ths → ((get_or ths i no_thread).row ≡ r) × ((get_or ths i no_thread).loops ≡ l)) → at_one_barrier T ths ≡ true
unfolding at_one_barrier
gathered_make T [] r l k b h = absurd (omega arith)
gathered_make T (x ∷ xs) r l k b h =
    let z = h 0 (omega arith) in
    and_make (ap (λ i. is_barrier (row_at T i).op) z.0 ∙ b)
    (every_make (λ y. eqb y.row x.row && equal_list y.loops x.loops) xs no_thread
    (λ i j. let y = h (suc i) (omega arith) in
    and_make (eq-eqb _ _ (y.0 ∙ sym z.0)) (ap₂ equal_list y.1 z.1 ∙ same_self l)))

place_size : (T : Table) (r : ℕ) (on : Mask) (fs : List Frame) (t : ℕ) → length (place T r on fs t).loops ≡ length T
unfolding place
place_size T r on [] t = loops_size T []
place_size T r on (f ∷ fs) t = by (has on t) (place_size T (exit T f.opener) f.mask fs t)
  where
    by : (b : Bool) → length (place T (exit T f.opener) f.mask fs t).loops ≡ length T
        → length (cond b (record { row = r; loops = loops_of T (f ∷ fs) }) (place T (exit T f.opener) f.mask fs t)).loops ≡ length T
    by true h = loops_size T (f ∷ fs)
    by false h = h

module _ (T : Table) (w : WellFormed T) (L : Shape) (s : LockState) (fs : List Frame) (g : Group) (S : Sim T L s fs g) (l : s.row < length T)
    (q : (row_at T s.row).op ≡ BARRIER) where
  no_while : is_while (row_at T s.row).op ≡ false
  unfolding is_while
  no_while = ap is_while q

  no_loop : later.is_loop T s.row ≡ false
  unfolding later.is_loop is_while
  no_loop = ap is_while q

  is_barrier_lem : is_barrier (row_at T s.row).op ≡ true
  unfolding is_barrier
  is_barrier_lem = ap is_barrier q

  now : openers_of fs ≡ open_before T s.row
  now = framed_fresh T s.row fs no_while S.framed

  later' : openers_of fs ≡ open_before T (suc s.row)
  unfolding open_before role opened_by
  later' = now ∙ sym (ap (λ z. opened_by (role z) s.row (open_before T s.row)) q)

  skip_row : any s.enabled ≡ false → Advanced T L s g (advance (suc s.row) s.enabled s.saved s)
  unfolding advance
  skip_row a =
      record {
        moves = [];
        frames = fs;
        run = tt;
        sim = record {
          match = match_onward T L (suc s.row) s.enabled s.saved _ s g
              (match_at T L _ _ s g
              (λ t i. place_any T L.threads s.row (suc s.row) s.enabled fs t S.nested i (any_has s.enabled t a)) S.match);
          saving = S.saving;
          nested = S.nested;
          on_size = S.on_size;
          sized = S.sized;
          framed = fresh later';
          within = l;
        };
        counted = unfold steps_after in refl;
        released = unfold is_own_release in (omega arith);
        sees = sym (unfold passed_at passes in (ap (λ o. passed_at o s) q ∙ ap (λ b. cond (b && full s.enabled) (s.cells ∷ []) []) a));
      }

  diverges : any s.enabled ≡ true → full s.enabled ≡ false → (a : ℕ) × (u : ℕ) × Blocked T g a u
  diverges p f =
      let A = any_some s.enabled p in
      let U = full_some s.enabled f in
      (A.0, U.0, stalled A.0 U.0 (rw S.on_size at A.1) A.2 (rw S.on_size at U.1) U.2)
    where
      stalled : (a u : ℕ) → a < L.threads → has s.enabled a ≡ true → u < L.threads → has s.enabled u ≡ false → Blocked T g a u
      stalled a u la ha lu hu =
          record {
            first = rw S.match.size la;
            second = rw S.match.size lu;
            waiting = ap (λ x. is_barrier (row_at T x.row).op) ta ∙ is_barrier_lem;
            past = rw (ta, tu) far.past;
            sized = ap (λ x. length x.loops) tu ∙ place_size T s.row s.enabled fs u;
          }
        where
          ta : get_or g.threads a no_thread ≡ body (record { row = s.row; loops = loops_of T fs }) (get_or s.regs a [])
          ta = S.match.threads a la ∙ ap (λ p. body p (get_or s.regs a [])) (place_in T s.row s.enabled fs a ha)

          tu : get_or g.threads u no_thread ≡ body (place T s.row s.enabled fs u) (get_or s.regs u [])
          tu = S.match.threads u lu

          far : Past T w L.threads s.row u l no_loop lu (get_or s.regs a []) (get_or s.regs u []) (loops_of T fs) 0 (place T s.row s.enabled fs u)
          far =
              parked T w L.threads s.row u l no_loop lu (get_or s.regs a []) (get_or s.regs u []) fs [] s.enabled s.row
              (sym later') (subst (AllOpened T (suc s.row) 0) (sym later') (all_opened T w (suc s.row) l)) (λ j i. absurd (omega arith)) S.nested hu

  cross_row : any s.enabled ≡ true → full s.enabled ≡ true → Advanced T L s g (pass_barrier L s)
  cross_row p f =
      record {
        moves = release ∷ [];
        frames = fs;
        run = (may_release_lem, tt);
        sim = record {
          match = match;
          saving = unfold pass_barrier in S.saving;
          nested = unfold pass_barrier in S.nested;
          on_size = unfold pass_barrier in S.on_size;
          sized = S.sized;
          framed = unfold pass_barrier in (fresh later');
          within = unfold pass_barrier in l;
        };
        counted = unfold pass_barrier steps_after in refl;
        released = unfold pass_barrier is_own_release in (omega arith);
        sees = saw;
      }
    where
      stand : (t : ℕ) → t < L.threads → get_or g.threads t no_thread ≡ body (record { row = s.row; loops = loops_of T fs }) (get_or s.regs t [])
      stand t i =
          S.match.threads t i
          ∙ ap (λ p. body p (get_or s.regs t [])) (place_in T s.row s.enabled fs t (full_has s.enabled t f (omega (arith, S.on_size))))

      may_release_lem : possible T L g release ≡ true
      may_release_lem =
          unfold possible in (and_make (ap not S.match.good)
          (gathered_make T g.threads s.row (loops_of T fs) (let h = (any_some s.enabled p).1 in omega (arith, h, S.on_size, S.match.size)) is_barrier_lem
          (λ i j. let e = stand i (omega (arith, S.match.size)) in (ap (λ x. x.row) e, ap (λ x. x.loops) e))))

      match : Match T L (place T (pass_barrier L s).row (pass_barrier L s).enabled fs) (pass_barrier L s) (next T L g release)
      match = unfold pass_barrier next released in (record {
        good = S.match.good;
        size = length-map g.threads own.past_barrier ∙ S.match.size;
        regged = S.match.regged;
        threads = λ t i.
            get_d_map_at own.past_barrier g.threads t no_thread no_thread (omega (arith, S.match.size)) ∙ ap own.past_barrier (stand t i) ∙ pass t
            ∙ ap (λ p. body p (get_or s.regs t [])) (sym (place_in T (suc s.row) s.enabled fs t (full_has s.enabled t f (omega (arith, S.on_size)))));
        cells = S.match.cells;
        celled = S.match.celled;
        numbered = S.match.numbered;
        logs = log_cleared _ _ _ _ _ S.match.logs;
        groups = S.match.groups;
      })
        where
          pass : (t : ℕ)
              → own.past_barrier (body (record { row = s.row; loops = loops_of T fs }) (get_or s.regs t []))
              ≡ body (record { row = suc s.row; loops = loops_of T fs }) (get_or s.regs t [])
          pass t = unfold own.past_barrier own.goto in refl

      counts : passed_at BARRIER s ≡ s.cells ∷ []
      counts = unfold passed_at passes in (ap₂ (λ a b. cond (a && b) (s.cells ∷ []) []) p f)

      saw : shown_to (machine T L) tt g (release ∷ []) ≡ passed_at (row_at T s.row).op s
      saw = unfold own.shown in (ap (λ c. c ∷ []) S.match.cells ∙ sym (ap (λ o. passed_at o s) q ∙ counts))

  pub barrier_row_lem : RowDone T L s g (barrier_row L s)
  unfolding barrier_row
  barrier_row_lem = by (any s.enabled) refl (full s.enabled) refl
    where
      v : Verdict
      v = Diverged (lowest s.enabled) (lowest (map not s.enabled))

      by : (a : Bool) → any s.enabled ≡ a → (b : Bool) → full s.enabled ≡ b
          → RowDone T L s g (cond a (cond b (continues (pass_barrier L s)) (stops v s)) (continues (advance (suc s.row) s.enabled s.saved s)))
      by true p true f = cross_row p f
      by true p false f = record { stopping = tt; moves = []; run = tt; fails = inr (diverges p f) }
      by false p b f = skip_row p

known : Op → Bool
known (CALC c) = true
known (MEM p m) = true
known IF = true
known ELSE = true
known ENDIF = true
known WHILE = true
known ENDWHILE = true
known BARRIER = true
known UNKNOWN = false

no_unknown : (o : Op) → known o ≡ true → UNKNOWN ≡ o → ⊥
unfolding known
no_unknown o k e = true≢false (sym k ∙ ap known (sym e))

no_endif : {o : Op} → UNKNOWN ≡ o → (o ≡ IF) ⊎ (o ≡ ELSE) → ⊥
unfolding known
no_endif z (inl e) = no_unknown IF refl (z ∙ e)
no_endif z (inr e) = no_unknown ELSE refl (z ∙ e)

else_of_lem : (T : Table) (w : WellFormed T) (L : Shape) (s : LockState) (fs : List Frame) (g : Group) (S : Sim T L s fs g) (l : s.row < length T)
    (q : (row_at T s.row).op ≡ ELSE)
    → Top T s.row fs → Advanced T L s g (else_row s)
else_of_lem T w L s fs g S l q (top f gs o) = else_row_lem T w L s f gs g S l q o

endif_of : (T : Table) (w : WellFormed T) (L : Shape) (s : LockState) (fs : List Frame) (g : Group) (S : Sim T L s fs g) (l : s.row < length T)
    (q : (row_at T s.row).op ≡ ENDIF)
    → Top T s.row fs → Advanced T L s g (endif_row s)
endif_of T w L s fs g S l q (top f gs o) = endif_row_lem T w L s f gs g S l q o

endwhile_of : (T : Table) (w : WellFormed T) (L : Shape) (s : LockState) (fs : List Frame) (g : Group) (S : Sim T L s fs g) (l : s.row < length T)
    (q : (row_at T s.row).op ≡ ENDWHILE)
    → Top T s.row fs → Advanced T L s g (endwhile_row s)
endwhile_of T w L s fs g S l q (top f gs o) = endwhile_row_lem T w L s f gs g S l q o

-- Each row.
module _ (T : Table) (w : WellFormed T) (L : Shape) (s : LockState) (fs : List Frame) (g : Group) (S : Sim T L s fs g) (l : s.row < length T) where
  fits : (o : Op) → (row_at T s.row).op ≡ o → Fits o (innermost T (open_before T s.row))
  fits o q = subst (λ z. Fits z (innermost T (open_before T s.row))) q (w.fitting s.row l)

  after_plain : (o : Op) → (row_at T s.row).op ≡ o → is_while o ≡ false → role o ≡ plain → openers_of fs ≡ open_before T (suc s.row)
  unfolding open_before opened_by
  after_plain o q i f =
      framed_fresh T s.row fs (ap is_while q ∙ i) S.framed ∙ sym (ap (λ z. opened_by z s.row (open_before T s.row)) (ap role q ∙ f))

  abbrev here : Pos
  here = record { row = s.row; loops = loops_of T fs }

  abbrev onw : ℕ → Pos
  onw u = record { row = suc s.row; loops = loops_of T fs }

  done : (o : Op) → (row_at T s.row).op ≡ o → RowDone T L s g (run_row T L (row_at T s.row) s o)
  unfolding run_row innermost
  done (CALC c) q =
      plain_row_lem T L s fs g S l (compute_turn (row_at T s.row) (λ t a b. value c L.threads t (launch_number L t) (row_at T s.row).a (row_at T s.row).b a b))
      (keeps_calc _ _)
      (λ t P z h i e m.
      subst (λ r. One T L onw here t P h (compute_turn (row_at T r) (λ t a b. value c L.threads t (launch_number L t) (row_at T r).a (row_at T r).b a b) z t)) (ap (λ p. p.row) e)
      (calc_one T L t P z h i m (rw e l) here onw c (ap (λ p. (row_at T p.row).op) e ∙ q) (sym (ap (λ p. record { row = suc p.row; loops = p.loops }) e))))
      (after_plain (CALC c) q (unfold is_while in refl) (unfold role in refl)) (unfold passed_at passes in (ap (λ o. passed_at o s) q))
  done (MEM p m) q =
      plain_row_lem T L s fs g S l (access_turn L p m (row_at T s.row)) (keeps_touch L p m _)
      (λ t P z h i e k.
      subst (λ r. One T L onw here t P h (access_turn L p m (row_at T r) z t)) (ap (λ p. p.row) e)
      (touch_one T L t P z h i k (rw e l) here onw p m (ap (λ p. (row_at T p.row).op) e ∙ q)
      (sym (ap (λ p. record { row = suc p.row; loops = p.loops }) e))))
      (after_plain (MEM p m) q (unfold is_while in refl) (unfold role in refl)) (unfold passed_at passes in (ap (λ o. passed_at o s) q))
  done IF q = if_row_lem T w L s fs g S l q
  done ELSE q =
      else_of_lem T w L s fs g S l q
      (top_of T s.row fs (framed_fresh T s.row fs (unfold is_while in (ap is_while q)) S.framed)
      (λ z. no_unknown IF (unfold known in refl) (unfold innermost in (z ∙ fits ELSE q))))
  done ENDIF q =
      endif_of T w L s fs g S l q (top_of T s.row fs (framed_fresh T s.row fs (unfold is_while in (ap is_while q)) S.framed)
      (λ z. no_endif z (fits ENDIF q)))
  done WHILE q = while_row_lem T w L s fs g S l q
  done ENDWHILE q =
      endwhile_of T w L s fs g S l q
      (top_of T s.row fs (framed_fresh T s.row fs (unfold is_while in (ap is_while q)) S.framed)
      (λ z. no_unknown WHILE (unfold known in refl) (unfold innermost in (z ∙ fits ENDWHILE q))))
  done BARRIER q = barrier_row_lem T w L s fs g S l q
  done UNKNOWN q = absurd (fits UNKNOWN q)

  pub row_done : RowDone T L s g (run_row T L (row_at T s.row) s (row_at T s.row).op)
  row_done = done (row_at T s.row).op refl
