-- The rows that name no global cell: a group of a launch runs them as a group alone does on the view of its own cells. Assumes nothing.
use mathlib.Core.Path.{◌≡◌, refl, sym, ◌∙◌, ap, ap₂, subst}
use mathlib.Core.Logic.{◌⊎◌, inl, inr}
use mathlib.Core.List.{List, [], ◌∷◌, map}
use mathlib.Core.Bool.{Bool, true, false, cond, not, ◌&&◌, ◌||◌, true≢false}
use Prim.Native.Nat.{ℕ, suc, ◌+◌, ◌*◌, ◌<◌, ◌≤◌}
use native.Mathlib.Omega.{arith}
use borrow.Author.Tests.{leb-false, lt-ltb, le-ltb, le-leb, lt-leb}
use lib.Dec.{leb, ltb}
use lib.ListN.{get_or}
use Rattle.spec.specs.declared.AccessKind.{AccessKind}
use Rattle.spec.specs.declared.Verdict.{Verdict}
use Rattle.spec.specs.declared.Verdict.TheVariants.{Race, Diverged}
use Rattle.spec.specs.Access.{Kind}
use Rattle.spec.specs.Op.{Calc, SET, TID, COUNT, LAUNCHTID, ADD, SUB, MUL, AND, OR, XOR, SHR, SAR, EQ, LT, SLT, CALC, value}
use Rattle.spec.specs.Op.{Op, Space, OWN, GLOBAL, Mem, MEM, IF, ELSE, ENDIF, WHILE, ENDWHILE, BARRIER, UNKNOWN}
use Rattle.spec.specs.Table.{Table, Row, cell_byte, kind_of, end_of}
use Rattle.spec.specs.Shape.{Shape, Past, nowhere, loads, changes, past, is_common, launch_number, total, bound, address, is_global, is_own, reaches}
use Rattle.spec.specs.Mask.{Mask, members, any, full, lowest, holding}
use Rattle.spec.specs.Log.{cleared, conflict_mask, race_kind}
use Rattle.spec.specs.LockStep.{Saved, LockState, Step, continues, stops, and_then, in_turn, update, advance, reg, set_reg, compute_turn, made_access, enter_group}
use Rattle.spec.specs.LockStep.{rivals, try_access, past_turn, access_turn, for_enabled, count_steps, top_mask, pop, saved_at_while, if_row, else_row, endif_row, leave_or_stay}
use Rattle.spec.specs.LockStep.{while_row, endwhile_row, pass_barrier, barrier_row, run_row}
use Rattle.layout.specs.Memory.{state_of}
use Rattle.layout.specs.Views.{part, put_part, log_part, put_log, view_of, put_view, map_step, own_from, global_from, alone, with_cleared, Sized}
use Rattle.layout.specs.Views.{is_own_space, is_own_calc, is_own_row}
use Rattle.layout.proofs.Parts.{put_part_lem, LogFits, log_part_fits, log_cleared_fits, log_part_cleared, cleared_like, cleared_put, StateFits}
use Rattle.layout.proofs.Parts.{view_fits, put_view_lem, view_put, cells_below, cells_above, log_below, log_above, sized_fits, own_within, global_within}
use Rattle.layout.proofs.Placed.{placed_conflicts, placed_race, placed_made}
use Rattle.layout.proofs.RowSizes.{compute_row_fits, alone_turn_fits, alone_fits}

own_value : (c : Calc) → is_own_calc c ≡ true → (n t u u' a b x y : ℕ) → value c n t u a b x y ≡ value c n t u' a b x y
unfolding is_own_calc value
own_value SET e n t u u' a b x y = refl
own_value TID e n t u u' a b x y = refl
own_value COUNT e n t u u' a b x y = refl
own_value LAUNCHTID e n t u u' a b x y = absurd (true≢false (sym e))
own_value ADD e n t u u' a b x y = refl
own_value SUB e n t u u' a b x y = refl
own_value MUL e n t u u' a b x y = refl
own_value AND e n t u u' a b x y = refl
own_value OR e n t u u' a b x y = refl
own_value XOR e n t u u' a b x y = refl
own_value SHR e n t u u' a b x y = refl
own_value SAR e n t u u' a b x y = refl
own_value EQ e n t u u' a b x y = refl
own_value LT e n t u u' a b x y = refl
own_value SLT e n t u u' a b x y = refl

-- Turns that do the same in a view of k cells and in the launch, whose state is z but for the view.
module _ (n k a : ℕ) (z : LockState) where
  abbrev pub back : LockState → LockState
  back y = put_view a y z

  back_then : (o : Step) (f g : LockState → Step) → ((y : LockState) → StateFits n k y → f (back y) ≡ map_step back (g y)) → StateFits n k (state_of o)
      → and_then (map_step back o) f ≡ map_step back (and_then o g)
  unfolding and_then
  back_then (continues y) f g e Y = e y Y
  back_then (stops v y) f g e Y = refl

  back_last : (o : Step) (f g : LockState → Step) → ((y : LockState) → f (back y) ≡ map_step back (g y)) → and_then (map_step back o) f ≡ map_step back (and_then o g)
  unfolding and_then
  back_last (continues y) f g e = e y
  back_last (stops v y) f g e = refl

  module _ (f g : LockState → ℕ → Step)
      (alike : (y : LockState) (t : ℕ) → StateFits n k y → f (back y) t ≡ map_step back (g y t))
      (keeps : (y : LockState) (t : ℕ) → StateFits n k y → StateFits n k (state_of (g y t))) where
    turns_back : (ts : List ℕ) (y : LockState) → StateFits n k y → in_turn f ts (back y) ≡ map_step back (in_turn g ts y)
    unfolding in_turn
    turns_back [] y Y = refl
    turns_back (t ∷ ts) y Y =
        ap (λ o. and_then o (in_turn f ts)) (alike y t Y) ∙ back_then (g y t) (in_turn f ts) (in_turn g ts) (turns_back ts) (keeps y t Y)

    pub enabled_back : (y : LockState) → StateFits n k y → for_enabled f (back y) ≡ map_step back (for_enabled g y)
    unfolding for_enabled put_view advance
    enabled_back y Y =
        ap (λ o. and_then o (λ s. continues (advance (suc s.row) s.enabled s.saved s))) (turns_back (members y.enabled) y Y)
        ∙ back_last (in_turn g (members y.enabled) y) _ _ (λ s. refl)

compute_fits : (n k : ℕ) (x : Row) (f : ℕ → ℕ → ℕ → ℕ) (y : LockState) (t : ℕ) → StateFits n k y → StateFits n k (state_of (compute_turn x f y t))
unfolding compute_turn set_reg update
compute_fits n k x f y t Y = record { cells_fit = Y.cells_fit; log_fits = Y.log_fits }

-- ---- one thread's turn, one row of a construct

module _ (a : ℕ) (z y : LockState) where
  compute_back : (x : Row) (f : ℕ → ℕ → ℕ → ℕ) (t : ℕ) → compute_turn x f (put_view a y z) t ≡ map_step (λ s. put_view a s z) (compute_turn x f y t)
  unfolding compute_turn set_reg update reg put_view
  compute_back x f t = refl

  if_back : (x : Row) → if_row x (put_view a y z) ≡ put_view a (if_row x y) z
  unfolding if_row advance count_steps update put_view
  if_back x = refl

  else_back : else_row (put_view a y z) ≡ put_view a (else_row y) z
  unfolding else_row advance count_steps update put_view
  else_back = refl

  endif_back : endif_row (put_view a y z) ≡ put_view a (endif_row y) z
  unfolding endif_row advance count_steps update put_view
  endif_back = refl

  endwhile_back : endwhile_row (put_view a y z) ≡ put_view a (endwhile_row y) z
  unfolding endwhile_row advance count_steps update put_view
  endwhile_back = refl

  unknown_back : (let s = put_view a y z in advance (suc s.row) s.enabled s.saved s) ≡ put_view a (advance (suc y.row) y.enabled y.saved y) z
  unfolding advance put_view
  unknown_back = refl

  count_back : (m : Mask) → count_steps m (put_view a y z) ≡ put_view a (count_steps m y) z
  unfolding count_steps update put_view
  count_back m = refl

  leave_back : (T : Table) (v : List Saved) (m : Mask) → leave_or_stay T (put_view a y z) v m ≡ put_view a (leave_or_stay T y v m) z
  unfolding leave_or_stay advance put_view
  leave_back T v m = by (any m)
    where
      by : (b : Bool) → cond b (advance (suc y.row) m v (put_view a y z)) (advance (suc (end_of T y.row)) (top_mask v) (pop v) (put_view a y z))
          ≡ put_view a (cond b (advance (suc y.row) m v y) (advance (suc (end_of T y.row)) (top_mask v) (pop v) y)) z
      by true = refl
      by false = refl

while_back : (a : ℕ) (z y : LockState) (T : Table) (x : Row) → while_row T x (put_view a y z) ≡ put_view a (while_row T x y) z
unfolding while_row put_view
while_back a z y T x =
    ap (λ s. leave_or_stay T s (saved_at_while y.row y.enabled y.saved) (holding x.a y.enabled y.regs)) (count_back a z y y.enabled)
    ∙ leave_back a z (count_steps y.enabled y) T (saved_at_while y.row y.enabled y.saved) (holding x.a y.enabled y.regs)

-- ---- a group of a launch

-- An access that nobody outside the group can meet.
abbrev tried : (others : Mask) → (ℕ → AccessKind) → (t c : ℕ) → (here made : LockState) → Step
tried others kind t c here made = cond (any others) (stops (Race t (lowest others) (kind (lowest others)) c) here) (continues made)

tried_back : (f : LockState → LockState) (b : Bool) (v : Verdict) (y w : LockState)
    → cond b (stops v (f y)) (continues (f w)) ≡ map_step f (cond b (stops v y) (continues w))
tried_back f true v y w = refl
tried_back f false v y w = refl

own_try : (L : Shape) (s : LockState) (t d c : ℕ) (x : Kind) → try_access L OWN s t d c x
    ≡ tried (conflict_mask s.log (address L OWN c) t x) (λ u. race_kind s.log (address L OWN c) u x) t c s (made_access s t d (address L OWN c) x)
unfolding try_access rivals enter_group any
own_try L s t d c x = refl

-- A stretch that doesn't meet the own cells.
abbrev pub Apart : Shape → (b m : ℕ) → Type 0
Apart L b m = (b + m ≤ own_from L) ⊎ (own_from L + L.cells ≤ b)

-- State y is z, but for the own cells and their log, which are those of the view w.
pub record OwnAfter (L : Shape) (z y w : LockState) : Type 0 where
  pub view_is : view_of (own_from L) L.cells y ≡ w
  pub cells_else : (b m : ℕ) → Apart L b m → part b m y.cells ≡ part b m z.cells
  pub log_else : (b m : ℕ) → Apart L b m → log_part b m y.log ≡ log_part b m z.log

step_state : (f : LockState → LockState) (o : Step) → state_of (map_step f o) ≡ f (state_of o)
step_state f (continues y) = refl
step_state f (stops v y) = refl

module _ (L : Shape) (z : LockState) (S : Sized L z) where
  abbrev own : LockState → LockState
  own y = put_view (own_from L) y z

  abbrev Own : LockState → Type 0
  Own y = StateFits L.threads L.cells y

  alone_place : (c : ℕ) → address (alone L.threads L.cells L.common) OWN c ≡ c
  unfolding address
  alone_place c = omega arith

  access_back : (y : LockState) → Own y → (t d c : ℕ) (x : Kind) → c < L.cells
      → try_access L OWN (own y) t d c x ≡ map_step own (try_access (alone L.threads L.cells L.common) OWN y t d c x)
  unfolding address put_view
  access_back y Y t d c x l =
      own_try L (own y) t d c x
      ∙ (λ i. tried (conflicts i) (λ u. races u i) t c (own y) (made i))
      ∙ tried_back own (any (conflict_mask y.log c t x)) (Race t (lowest (conflict_mask y.log c t x)) (race_kind y.log c (lowest (conflict_mask y.log c t x)) x) c)
      y (made_access y t d c x)
      ∙ ap (map_step own) (sym (own_try (alone L.threads L.cells L.common) y t d c x
      ∙ ap (λ i. tried (conflict_mask y.log i t x) (λ u. race_kind y.log i u x) t c y (made_access y t d i x)) (alone_place c)))
    where
      F : StateFits L.threads (total L) z
      F = sized_fits L z S

      conflicts : conflict_mask (put_log (own_from L) y.log z.log) (own_from L + c) t x ≡ conflict_mask y.log c t x
      conflicts =
          placed_conflicts L.threads (total L) (own_from L) L.cells z.log y.log F.log_fits Y.log_fits (own_within L z S) c l t x

      races : (u : ℕ) → race_kind (put_log (own_from L) y.log z.log) (own_from L + c) u x ≡ race_kind y.log c u x
      races u = placed_race L.threads (total L) (own_from L) L.cells z.log y.log F.log_fits Y.log_fits (own_within L z S) c l u x

      made : made_access (own y) t d (own_from L + c) x ≡ own (made_access y t d c x)
      made = placed_made L.threads (total L) (own_from L) L.cells z y F Y (own_within L z S) t d c x l

  own_turn : (m : Mem) (x : Row) (y : LockState) (t : ℕ) → Own y
      → access_turn L OWN m x (own y) t ≡ map_step own (access_turn (alone L.threads L.cells L.common) OWN m x y t)
  unfolding access_turn reg put_view bound past is_common
  own_turn m x y t Y = by (leb L.cells c) (λ e. leb-false L.cells c e)
    where
      c : ℕ
      c = get_or (get_or y.regs t []) (cell_byte m x) 0

      κ : Kind
      κ = kind_of m (get_or (get_or y.regs t []) x.a 0)

      -- past the cells both come to the same
      beyond : (q : Past) → past_turn (own y) t x.d c q ≡ map_step own (past_turn y t x.d c q)
      beyond nowhere = unfold past_turn in refl
      beyond (loads v) = unfold past_turn set_reg update in refl
      beyond changes = unfold past_turn in refl

      by : (b : Bool) → (b ≡ false → c < L.cells) → cond b (past_turn (own y) t x.d c (past L OWN c κ)) (try_access L OWN (own y) t x.d c κ)
          ≡ map_step own (cond b (past_turn y t x.d c (past L OWN c κ)) (try_access (alone L.threads L.cells L.common) OWN y t x.d c κ))
      by true l = beyond (past L OWN c κ)
      by false l = access_back y Y t x.d c κ (l refl)

  -- ---- rows, from a state with any view that has the right size put back

  compute_from : (x : Row) (f : ℕ → ℕ → ℕ → ℕ) (y : LockState) → Own y → for_enabled (compute_turn x f) (own y) ≡ map_step own (for_enabled (compute_turn x f) y)
  compute_from x f y Y =
      enabled_back L.threads L.cells (own_from L) z (compute_turn x f) (compute_turn x f) (λ s t U. compute_back (own_from L) z s x f t)
      (λ s t U. compute_fits L.threads L.cells x f s t U) y Y

  access_from : (m : Mem) (x : Row) (y : LockState) → Own y
      → for_enabled (access_turn L OWN m x) (own y) ≡ map_step own (for_enabled (access_turn (alone L.threads L.cells L.common) OWN m x) y)
  access_from m x y Y =
      enabled_back L.threads L.cells (own_from L) z (access_turn L OWN m x) (access_turn (alone L.threads L.cells L.common) OWN m x)
      (λ s t U. own_turn m x s t U) (λ s t U. alone_turn_fits L.threads L.cells L.common OWN m x s t U) y Y

  mem_from : (x : Row) (p : Space) (m : Mem) → is_own_space p ≡ true → (y : LockState) → Own y
      → for_enabled (access_turn L p m x) (own y) ≡ map_step own (for_enabled (access_turn (alone L.threads L.cells L.common) p m x) y)
  unfolding is_own_space
  mem_from x OWN m e y Y = access_from m x y Y
  mem_from x GLOBAL m e y Y = absurd (true≢false (sym e))

  -- Every op but the launch number gives the same whatever the group's number is.
  calc_from : (x : Row) (c : Calc) → is_own_calc c ≡ true → (y : LockState) → Own y
      → for_enabled (compute_turn x (λ t p q. value c L.threads t (launch_number L t) x.a x.b p q)) (own y)
      ≡ map_step own (for_enabled (compute_turn x (λ t p q. value c L.threads t (launch_number (alone L.threads L.cells L.common) t) x.a x.b p q)) y)
  calc_from x c e y Y =
      ap (λ f. for_enabled (compute_turn x f) (own y)) (λ i t p q. own_value c e L.threads t (launch_number L t) (launch_number (alone L.threads L.cells L.common) t) x.a x.b p q i)
      ∙ compute_from x (λ t p q. value c L.threads t (launch_number (alone L.threads L.cells L.common) t) x.a x.b p q) y Y

  pub own_row_from : (T : Table) (x : Row) (o : Op) → is_own_row o ≡ true → (y : LockState) → Own y
      → run_row T L x (own y) o ≡ map_step own (run_row T (alone L.threads L.cells L.common) x y o)
  unfolding is_own_row run_row
  own_row_from T x (CALC c) e y Y = calc_from x c e y Y
  own_row_from T x (MEM p m) e y Y = mem_from x p m e y Y
  own_row_from T x IF e y Y = ap continues (if_back (own_from L) z y x)
  own_row_from T x ELSE e y Y = ap continues (else_back (own_from L) z y)
  own_row_from T x ENDIF e y Y = ap continues (endif_back (own_from L) z y)
  own_row_from T x WHILE e y Y = ap continues (while_back (own_from L) z y T x)
  own_row_from T x ENDWHILE e y Y = ap continues (endwhile_back (own_from L) z y)
  own_row_from T x BARRIER e y Y = absurd (true≢false (sym e))
  own_row_from T x UNKNOWN e y Y = ap continues (unknown_back (own_from L) z y)

  -- ---- rows, from the launch's state

  abbrev view : LockState
  view = view_of (own_from L) L.cells z

  pub own_fits : StateFits L.threads L.cells view
  own_fits = view_fits L.threads (total L) z (sized_fits L z S) (own_from L) L.cells (own_within L z S)

  pub own_is : put_view (own_from L) view z ≡ z
  own_is = put_view_lem L.threads (total L) z (sized_fits L z S) (own_from L) L.cells (own_within L z S)

  pub compute_rows : (x : Row) (f : ℕ → ℕ → ℕ → ℕ)
      → for_enabled (compute_turn x f) z ≡ map_step (λ y. put_view (own_from L) y z) (for_enabled (compute_turn x f) (view_of (own_from L) L.cells z))
  compute_rows x f = ap (for_enabled (compute_turn x f)) (sym own_is) ∙ compute_from x f view own_fits

  pub own_access : (m : Mem) (x : Row) → for_enabled (access_turn L OWN m x) z
      ≡ map_step (λ y. put_view (own_from L) y z) (for_enabled (access_turn (alone L.threads L.cells L.common) OWN m x) (view_of (own_from L) L.cells z))
  own_access m x = ap (for_enabled (access_turn L OWN m x)) (sym own_is) ∙ access_from m x view own_fits

  pub own_row : (T : Table) (x : Row) (o : Op) → is_own_row o ≡ true → run_row T L x z o
      ≡ map_step (λ y. put_view (own_from L) y z) (run_row T (alone L.threads L.cells L.common) x (view_of (own_from L) L.cells z) o)
  own_row T x o e = ap (λ s. run_row T L x s o) (sym own_is) ∙ own_row_from T x o e view own_fits

  -- ---- BARRIER

  own_reached : (c : ℕ) → c < L.cells → reaches L (own_from L + c) ≡ reaches (alone L.threads L.cells L.common) c
  unfolding reaches is_own
  own_reached c l =
      ap₂ (λ p q. (p && q) || is_global L (own_from L + c)) (le-leb (own_from L) (own_from L + c) (omega arith))
      (lt-ltb (own_from L + c) (own_from L + L.cells) (omega arith))
      ∙ sym (ap₂ (λ p q. (p && q) || is_global (alone L.threads L.cells L.common) c) (le-leb (0 * L.cells) c (omega arith))
      (lt-ltb c (0 * L.cells + L.cells) (omega arith)))

  below_reached : (i : ℕ) → i < own_from L → reaches L i ≡ is_global L i
  unfolding reaches is_own
  below_reached i l = ap (λ p. (p && ltb i (own_from L + L.cells)) || is_global L i) (lt-leb (own_from L) i l)

  above_reached : (i : ℕ) → own_from L + L.cells ≤ i → reaches L i ≡ is_global L i
  unfolding reaches is_own
  above_reached i l = ap₂ (λ p q. (p && q) || is_global L i) (le-leb (own_from L) i (omega arith)) (le-ltb i (own_from L + L.cells) l)

  -- what a BARRIER clears: the own log, and the global one
  barrier_log_lem : cleared (reaches L) z.log
      ≡ put_log (own_from L) (cleared (reaches (alone L.threads L.cells L.common)) (log_part (own_from L) L.cells z.log)) (cleared (is_global L) z.log)
  barrier_log_lem =
      cleared_put L.threads (total L) z.log F (reaches L) (is_global L) (own_from L) L.cells (own_within L z S) below_reached (λ i l m. above_reached i l)
      ∙ ap (λ P. put_log (own_from L) P (cleared (is_global L) z.log))
      (cleared_like L.threads L.cells (log_part (own_from L) L.cells z.log)
      (log_part_fits L.threads (total L) z.log F (own_from L) L.cells (own_within L z S))
      (λ c. reaches L (own_from L + c)) (reaches (alone L.threads L.cells L.common)) own_reached)
    where
      F : LogFits L.threads (total L) z.log
      F = (sized_fits L z S).log_fits

  pass_back : pass_barrier L z ≡ put_view (own_from L) (pass_barrier (alone L.threads L.cells L.common) view) (with_cleared (is_global L) z)
  unfolding pass_barrier put_view view_of with_cleared
  pass_back =
      let kept : z.cells ≡ put_part (own_from L) (part (own_from L) L.cells z.cells) z.cells =
      sym (put_part_lem (own_from L) L.cells z.cells (omega (arith, S.cells_are, own_within L z S))) in
      λ i. record {
        row = suc z.row;
        enabled = z.enabled;
        saved = z.saved;
        regs = z.regs;
        cells = kept i;
        log = barrier_log_lem i;
        group_log = z.group_log;
        rows = suc z.rows;
        steps = z.steps;
        barriers = suc z.barriers;
      }

  -- What stands outside the view after a row that leaves y in it: where barriers has grown, the global log is cleared.
  abbrev pub outside : LockState → LockState
  outside y = cond (ltb z.barriers y.barriers) (with_cleared (is_global L) z) z

  pub outside_stays : (y : LockState) → y.barriers ≡ z.barriers → outside y ≡ z
  outside_stays y e = ap (λ b. cond b (with_cleared (is_global L) z) z) (le-ltb z.barriers y.barriers (omega arith))

  pub outside_clears : (y : LockState) → y.barriers ≡ suc z.barriers → outside y ≡ with_cleared (is_global L) z
  outside_clears y e = ap (λ b. cond b (with_cleared (is_global L) z) z) (lt-ltb z.barriers y.barriers (omega arith))

  abbrev ended : LockState → LockState
  ended y = put_view (own_from L) y (outside y)

  passed : pass_barrier L z ≡ ended (pass_barrier (alone L.threads L.cells L.common) view)
  unfolding pass_barrier view_of
  passed =
      pass_back ∙ ap (put_view (own_from L) (pass_barrier (alone L.threads L.cells L.common) view))
      (sym (outside_clears (pass_barrier (alone L.threads L.cells L.common) view) refl))

  gone : advance (suc z.row) z.enabled z.saved z ≡ ended (advance (suc view.row) view.enabled view.saved view)
  unfolding advance view_of
  gone =
      ap (λ s. advance (suc s.row) s.enabled s.saved s) (sym own_is) ∙ unknown_back (own_from L) z view
      ∙ ap (put_view (own_from L) (advance (suc view.row) view.enabled view.saved view))
      (sym (outside_stays (advance (suc view.row) view.enabled view.saved view) refl))

  unmoved : z ≡ ended view
  unfolding view_of
  unmoved = sym own_is ∙ ap (put_view (own_from L) view) (sym (outside_stays view refl))

  pub barrier_row_lem : (T : Table) (x : Row) → run_row T L x z BARRIER
      ≡ map_step (λ y. put_view (own_from L) y (outside y)) (run_row T (alone L.threads L.cells L.common) x (view_of (own_from L) L.cells z) BARRIER)
  unfolding run_row barrier_row view_of
  barrier_row_lem T x = by (any z.enabled) (full z.enabled)
    where
      diverged : Verdict
      diverged = Diverged (lowest z.enabled) (lowest (map not z.enabled))

      by : (b₁ b₂ : Bool) → cond b₁ (cond b₂ (continues (pass_barrier L z)) (stops diverged z)) (continues (advance (suc z.row) z.enabled z.saved z))
          ≡ map_step ended (cond b₁ (cond b₂ (continues (pass_barrier (alone L.threads L.cells L.common) view)) (stops diverged view))
          (continues (advance (suc view.row) view.enabled view.saved view)))
      by true true = ap continues passed
      by true false = ap (stops diverged) unmoved
      by false b₂ = ap continues gone

  -- ---- what these rows leave

  pub cleared_fits : (p : ℕ → Bool) → StateFits L.threads (total L) (with_cleared p z)
  unfolding with_cleared
  cleared_fits p = record { cells_fit = S.cells_are; log_fits = log_cleared_fits L.threads (total L) z.log (sized_fits L z S).log_fits p }

  outside_fits : (y : LockState) → StateFits L.threads (total L) (outside y)
  outside_fits y = by (ltb z.barriers y.barriers)
    where
      by : (b : Bool) → StateFits L.threads (total L) (cond b (with_cleared (is_global L) z) z)
      by true = cleared_fits (is_global L)
      by false = sized_fits L z S

  own_after_lem : (u w : LockState) → StateFits L.threads (total L) u → Own w → OwnAfter L u (put_view (own_from L) w u) w
  own_after_lem u w U W =
      record {
        view_is = view_put L.threads (total L) u U (own_from L) L.cells w W within;
        cells_else = cells;
        log_else = logs;
      }
    where
      within : own_from L + L.cells ≤ total L
      within = own_within L z S

      cells : (b m : ℕ) → Apart L b m → part b m (put_view (own_from L) w u).cells ≡ part b m u.cells
      cells b m (inl h) = unfold view_of in cells_below L.threads (total L) u U (own_from L) L.cells w W within b m h
      cells b m (inr h) = unfold view_of in cells_above L.threads (total L) u U (own_from L) L.cells w W within b m h

      logs : (b m : ℕ) → Apart L b m → log_part b m (put_view (own_from L) w u).log ≡ log_part b m u.log
      logs b m (inl h) = unfold view_of in log_below L.threads (total L) u U (own_from L) L.cells w W within b m h
      logs b m (inr h) = unfold view_of in log_above L.threads (total L) u U (own_from L) L.cells w W within b m h

  pub own_row_after : (T : Table) (x : Row) (o : Op) → is_own_row o ≡ true
      → OwnAfter L z (state_of (run_row T L x z o)) (state_of (run_row T (alone L.threads L.cells L.common) x (view_of (own_from L) L.cells z) o))
  own_row_after T x o e =
      subst (λ y. OwnAfter L z y (state_of (run_row T (alone L.threads L.cells L.common) x view o)))
      (sym (ap state_of (own_row T x o e) ∙ step_state own (run_row T (alone L.threads L.cells L.common) x view o)))
      (own_after_lem z _ (sized_fits L z S) (alone_fits L.threads L.cells L.common T x o view own_fits))

  pub compute_rows_after : (x : Row) (f : ℕ → ℕ → ℕ → ℕ)
      → OwnAfter L z (state_of (for_enabled (compute_turn x f) z)) (state_of (for_enabled (compute_turn x f) (view_of (own_from L) L.cells z)))
  compute_rows_after x f =
      subst (λ y. OwnAfter L z y (state_of (for_enabled (compute_turn x f) view)))
      (sym (ap state_of (compute_rows x f) ∙ step_state own (for_enabled (compute_turn x f) view)))
      (own_after_lem z _ (sized_fits L z S) (compute_row_fits L.threads L.cells x f view own_fits))

  pub barrier_after : (T : Table) (x : Row) → let w = state_of (run_row T (alone L.threads L.cells L.common) x (view_of (own_from L) L.cells z) BARRIER) in
      OwnAfter L (outside w) (state_of (run_row T L x z BARRIER)) w
  barrier_after T x =
      let q : Step = run_row T (alone L.threads L.cells L.common) x view BARRIER in
      subst (λ y. OwnAfter L (outside (state_of q)) y (state_of q)) (sym (ap state_of (barrier_row_lem T x) ∙ step_state ended q))
      (own_after_lem (outside (state_of q)) (state_of q) (outside_fits (state_of q)) (alone_fits L.threads L.cells L.common T x BARRIER view own_fits))

  -- The log that a BARRIER clears outside the view: that of all global cells, and of no others.
  pub global_cleared : log_part (global_from L) L.global (with_cleared (is_global L) z).log ≡ cleared (λ c. true) (log_part (global_from L) L.global z.log)
  unfolding with_cleared is_global
  global_cleared =
      log_part_cleared (is_global L) (global_from L) L.global z.log
      ∙ cleared_like L.threads L.global (log_part (global_from L) L.global z.log)
      (log_part_fits L.threads (total L) z.log (sized_fits L z S).log_fits (global_from L) L.global (global_within L z S))
      (λ c. is_global L (global_from L + c)) (λ c. true) (λ c l. le-leb (global_from L) (global_from L + c) (omega arith))
