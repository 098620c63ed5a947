-- At a barrier, a thread that is not enabled is past it for ever. Assumes nothing.
use mathlib.Core.Path.{◌≡◌, refl, sym, ◌∙◌, ap, subst}
use mathlib.Core.Logic.{◌⊎◌, inl, inr, ⊎_elim}
use mathlib.Core.List.{List, [], ◌∷◌, ◌++◌}
use mathlib.Core.Bool.{Bool, true, false, cond, true≢false}
use Prim.Native.Nat.{ℕ, zero, suc, ◌+◌, ◌*◌, ◌-◌, ◌<◌, ◌≤◌}
use native.Mathlib.Omega.{arith}
use native.Mathlib.Numerals.{add-one}
use lib.Dec.{eqb}
use lib.ListN.{length, drop, set, length-append, length-drop}
use lib.Seq.{get_or-set_other, append_snoc}
use Rattle.spec.specs.Mask.{Mask, has}
use Rattle.spec.specs.Op.{BARRIER, CALC, ELSE, ENDIF, ENDWHILE, IF, MEM, Op, UNKNOWN, WHILE}
use Rattle.spec.specs.Table.{Role, Table, WellFormed, closing, dividing, else_of, end_of, open_before, opening, plain, role, row_at, scan}
use Rattle.spec.specs.Threads.{Thread}
use Rattle.spec.proofs.Laws.{lt_or_le}
use Rattle.allruns.proofs.Nesting.{is_while, Opened, AllOpened, scan_ge, scan_deeper, scan_strict, leave}
use Rattle.allruns.proofs.Progress.{Later, is_loop, mark, phase_loop, tri_in, tri_past, on_later, past_else_ge}
use Rattle.allruns.proofs.Simulation.{Pos, Frame, loops_of, exit, place, Nested, place_in, place_out, body}
use Rattle.allruns.proofs.Rows.{openers_of, exit_if, exit_else, exit_while, loops_plain, loops_while, loop_if, loop_else}

scan_up : (half : Bool) (T : Table) (r k : ℕ) → suc r ≤ scan half (drop (suc r) T) k (suc r)
scan_up half T r k = scan_ge half (drop (suc r) T) k (suc r)

scan_more : (T : Table) (r j k : ℕ) → j ≤ k → scan false (drop (suc r) T) j (suc r) ≤ scan false (drop (suc r) T) k (suc r)
scan_more T r j zero l =
    subst (λ i. scan false (drop (suc r) T) i (suc r) ≤ scan false (drop (suc r) T) 0 (suc r)) (let z : 0 ≡ j = omega arith in z) (omega arith)
scan_more T r j (suc k) l = by (lt_or_le j (suc k)) (scan_more T r j k)
  where
    by : (j < suc k) ⊎ (suc k ≤ j) → (j ≤ k → scan false (drop (suc r) T) j (suc r) ≤ scan false (drop (suc r) T) k (suc r))
        → scan false (drop (suc r) T) j (suc r) ≤ scan false (drop (suc r) T) (suc k) (suc r)
    by (inl h) ih = omega (arith, ih (omega arith), scan_deeper (drop (suc r) T) k (suc r))
    by (inr h) ih =
        subst (λ i. scan false (drop (suc r) T) i (suc r) ≤ scan false (drop (suc r) T) (suc k) (suc r)) (let z : suc k ≡ j = omega arith in z) (omega arith)

-- What kind of construct a frame is of.
data Kind (T : Table) (o : ℕ) : Type 0 where
  an_if_lem : (row_at T o).op ≡ IF → Kind T o
  an_else : (row_at T o).op ≡ ELSE → Kind T o
  a_while : (row_at T o).op ≡ WHILE → Kind T o

opens_one : Role → ℕ
opens_one plain = 0
opens_one opening = 1
opens_one dividing = 1
opens_one closing = 0

none : {A : Type 0} → (plain ≡ opening) ⊎ (plain ≡ dividing) → A
unfolding opens_one
none (inl e) = absurd (let z : ◌≡◌ {A = ℕ} 0 1 = ap opens_one e in omega arith)
none (inr e) = absurd (let z : ◌≡◌ {A = ℕ} 0 1 = ap opens_one e in omega arith)

none' : {A : Type 0} → (closing ≡ opening) ⊎ (closing ≡ dividing) → A
unfolding opens_one
none' (inl e) = absurd (let z : ◌≡◌ {A = ℕ} 0 1 = ap opens_one e in omega arith)
none' (inr e) = absurd (let z : ◌≡◌ {A = ℕ} 0 1 = ap opens_one e in omega arith)

kind_of_lem : (T : Table) (o : ℕ) → (role (row_at T o).op ≡ opening) ⊎ (role (row_at T o).op ≡ dividing) → Kind T o
kind_of_lem T o h = by (row_at T o).op refl h
  where
    by : (p : Op) → (row_at T o).op ≡ p → (role p ≡ opening) ⊎ (role p ≡ dividing) → Kind T o
    by (CALC c) q h = none (unfold role in h)
    by (MEM p m) q h = none (unfold role in h)
    by IF q h = an_if_lem q
    by ELSE q h = an_else q
    by ENDIF q h = none' (unfold role in h)
    by WHILE q h = a_while q
    by ENDWHILE q h = none' (unfold role in h)
    by BARRIER q h = none (unfold role in h)
    by UNKNOWN q h = none (unfold role in h)

module _ (T : Table) (w : WellFormed T) (n r u : ℕ) (rin : r < length T) (noloop : is_loop T r ≡ false) (lu : u < n) (regs regs' : List ℕ) where
  abbrev At : List ℕ → Thread
  At l = record { row = r; regs = regs; loops = l }

  -- past the barrier row, and past the ends of the inner constructs, of which there are k
  pub record Past (l : List ℕ) (k : ℕ) (p : Pos) : Type 0 where
    pub far : (j : ℕ) → j < k → scan false (drop (suc r) T) j (suc r) < p.row
    pub beyond : r < p.row
    pub past : Later T (At l) (body p regs')

  -- the loop of a frame goes into the counts
  in_loop_lem : (l : List ℕ) (o c k : ℕ) (p : Pos) → o ≤ r → (row_at T o).op ≡ WHILE → end_of T o ≡ scan false (drop (suc r) T) k (suc r) → Past l (suc k) p
      → Past (set l o c) k p
  in_loop_lem l o c k p oi q e h =
      record { far = λ j i. h.far j (omega arith); beyond = h.beyond; past = by (lt_or_le h.past.at o) }
    where
      loop : is_loop T o ≡ true
      loop = unfold is_loop is_while in (ap is_while q)

      same : (i : ℕ) → ¬ (i ≡ o) → mark T i (At (set l o c)) ≡ mark T i (At l)
      same i d = unfold mark in (ap (λ z. cond (is_loop T i) (2 * z + cond (eqb r i) 1 0) 0) (get_or-set_other l o i c 0 d))

      by : (h.past.at < o) ⊎ (o ≤ h.past.at) → Later T (At (set l o c)) (body p regs')
      by (inl a) =
          record {
            at = h.past.at;
            before = λ i b. let z = h.past.before i b in (z.0, let y = same i (λ d. omega arith) in omega arith);
            there = let y = same h.past.at (λ d. omega arith) in ⊎_elim (λ z. inl z) (λ z. inr (z.0, omega arith)) h.past.there;
          }
      by (inr a) =
          record {
            at = o;
            before = λ i b. let z = h.past.before i (omega arith) in (z.0, let y = same i (λ d. omega arith) in omega arith);
            there = inl (
                let b = phase_loop T o r loop in
                let c = phase_loop T o p.row loop in
                let d = tri_in o (end_of T o) r oi (let z = scan_up false T r k in omega arith) in
                let f = tri_past o (end_of T o) p.row (let z = h.beyond in omega arith) (let z = h.far k (omega arith) in omega arith) in
                omega arith);
          }

  -- the exit of a frame, against the ends of the inner constructs
  exit_far : (f : Frame) (k : ℕ) (os : List ℕ) → Opened T (suc r) k f.opener os
      → ((j : ℕ) → j < k → scan false (drop (suc r) T) j (suc r) < length T) → Kind T f.opener
      → ((j : ℕ) → j < k → scan false (drop (suc r) T) j (suc r) < exit T f.opener) × (r < exit T f.opener)
  exit_far f k os o inr' (an_if_lem q) = (
    (λ j i. let a = scan_strict true (drop (suc r) T) j k (suc r) i (let z = length-drop (suc r) T in let y = inr' j i in omega arith) in omega (arith, is)),
    let a = scan_up true T r k in omega (arith, is),
  )
    where
      is : scan true (drop (suc r) T) k (suc r) ≤ exit T f.opener
      is = rw (exit_if T f.opener q) (unfold else_of in (rw (o.parts q) (past_else_ge _ _)))
  exit_far f k os o inr' (an_else q) = (
    (λ j i. let a = scan_strict false (drop (suc r) T) j k (suc r) i (let z = length-drop (suc r) T in let y = inr' j i in omega arith) in
        omega (arith, o.ending, exit_else T f.opener q)),
    let a = scan_up false T r k in omega (arith, o.ending, exit_else T f.opener q),
  )
  exit_far f k os o inr' (a_while q) = (
    (λ j i. omega (arith, scan_more T r j k (omega arith), o.ending, exit_while T f.opener q)),
    let a = scan_up false T r k in omega (arith, o.ending, exit_while T f.opener q),
  )

  base : (f : Frame) (fs : List Frame) (k : ℕ) → Opened T (suc r) k f.opener (openers_of fs)
      → ((j : ℕ) → j < k → scan false (drop (suc r) T) j (suc r) < length T) → Kind T f.opener
      → Past (loops_of T (f ∷ fs)) k (record { row = exit T f.opener; loops = loops_of T fs })
  base f fs k o i (an_if_lem q) =
      let e = exit_far f k (openers_of fs) o i (an_if_lem q) in
      record { far = e.0; beyond = e.1; past = on_later T _ _ e.1 (loops_plain T f fs (loop_if _ q)) noloop }
  base f fs k o i (an_else q) =
      let e = exit_far f k (openers_of fs) o i (an_else q) in
      record { far = e.0; beyond = e.1; past = on_later T _ _ e.1 (loops_plain T f fs (loop_else _ q)) noloop }
  base f fs k o i (a_while q) =
      let e = exit_far f k (openers_of fs) o i (a_while q) in
      subst (λ l. Past l k (record { row = exit T f.opener; loops = loops_of T fs })) (sym (loops_while T f fs q))
      (in_loop_lem (loops_of T fs) f.opener f.rounds k _ (omega (arith, o.above)) q o.ending
      (record {
        far = λ j l. omega (arith, scan_more T r j k (omega arith), o.ending, exit_while T f.opener q);
        beyond = e.1;
        past = on_later T _ _ e.1 refl noloop;
      }))

  pub parked : (fs : List Frame) (ks : List ℕ) (m : Mask) (q : ℕ) → open_before T (suc r) ≡ ks ++ openers_of fs → AllOpened T (suc r) (length ks) (openers_of fs)
      → ((j : ℕ) → j < length ks → scan false (drop (suc r) T) j (suc r) < length T) → Nested n m fs → has m u ≡ false
      → Past (loops_of T fs) (length ks) (place T q m fs u)
  parked [] ks m q o a i nest off = absurd (true≢false (sym (nest u lu) ∙ off))
  parked (f ∷ fs) ks m q o a i nest off =
      subst (Past (loops_of T (f ∷ fs)) (length ks)) (sym (place_out T q m f fs u off))
      (by (has f.mask u) refl
      (parked fs (ks ++ (f.opener ∷ [])) f.mask (exit T f.opener) (o ∙ sym (append_snoc ks f.opener (openers_of fs)))
      (subst (λ k. AllOpened T (suc r) k (openers_of fs)) (sym len) a.1) inner nest.1))
    where
      within : scan false (drop (suc r) T) (length ks) (suc r) < length T
      within = (leave T w (length T - suc r) (suc r) ks f.opener (openers_of fs) (omega arith) o).within

      len : length (ks ++ (f.opener ∷ [])) ≡ suc (length ks)
      len = length-append ks (f.opener ∷ []) ∙ add-one (length ks)

      inner : (j : ℕ) → j < length (ks ++ (f.opener ∷ [])) → scan false (drop (suc r) T) j (suc r) < length T
      inner j l = at (lt_or_le j (length ks))
        where
          at : (j < length ks) ⊎ (length ks ≤ j) → scan false (drop (suc r) T) j (suc r) < length T
          at (inl h) = i j h
          at (inr h) = subst (λ k. scan false (drop (suc r) T) k (suc r) < length T) (let z : length ks ≡ j = omega (arith, len) in z) within

      by : (b : Bool) → has f.mask u ≡ b
          → (has f.mask u ≡ false → Past (loops_of T fs) (length (ks ++ (f.opener ∷ []))) (place T (exit T f.opener) f.mask fs u))
          → Past (loops_of T (f ∷ fs)) (length ks) (place T (exit T f.opener) f.mask fs u)
      by true b ih =
          subst (Past (loops_of T (f ∷ fs)) (length ks)) (sym (place_in T (exit T f.opener) f.mask fs u b))
          (base f fs (length ks) a.0 i (kind_of_lem T f.opener a.0.opens))
      by false b ih = outer (kind_of_lem T f.opener a.0.opens) (subst (λ k. Past (loops_of T fs) k (place T (exit T f.opener) f.mask fs u)) len (ih b))
        where
          outer : Kind T f.opener → Past (loops_of T fs) (suc (length ks)) (place T (exit T f.opener) f.mask fs u)
              → Past (loops_of T (f ∷ fs)) (length ks) (place T (exit T f.opener) f.mask fs u)
          outer (an_if_lem q) h =
              subst (λ l. Past l (length ks) (place T (exit T f.opener) f.mask fs u)) (sym (loops_plain T f fs (loop_if _ q)))
              (record { far = λ j i. h.far j (omega arith); beyond = h.beyond; past = h.past })
          outer (an_else q) h =
              subst (λ l. Past l (length ks) (place T (exit T f.opener) f.mask fs u)) (sym (loops_plain T f fs (loop_else _ q)))
              (record { far = λ j i. h.far j (omega arith); beyond = h.beyond; past = h.past })
          outer (a_while q) h =
              subst (λ l. Past l (length ks) (place T (exit T f.opener) f.mask fs u)) (sym (loops_while T f fs q))
              (in_loop_lem (loops_of T fs) f.opener f.rounds (length ks) (place T (exit T f.opener) f.mask fs u) (omega (arith, a.0.above)) q
              a.0.ending h)
