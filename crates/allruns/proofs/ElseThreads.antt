-- The threads that come to an ELSE enabled are those that its IF enabled, so what ELSE enables are those of the mask that the IF did not.
-- "The lock-step run", ELSE. Assumes nothing.
use mathlib.Core.Path.{◌≡◌, refl, sym, ◌∙◌, ap, ap₂, subst}
use mathlib.Core.List.{List, [], ◌∷◌, ◌++◌, map, append_assoc}
use mathlib.Core.Bool.{Bool, true, false, cond, not}
use Prim.Native.Nat.{ℕ, suc, ◌<◌}
use native.Mathlib.Omega.{arith}
use lib.Dec.{eqb}
use lib.ListN.{length, get_or}
use borrow.Author.Tests.{eqb-true}
use Rattle.spec.specs.declared.Verdict.TheVariants.{Diverged}
use Rattle.spec.specs.Mask.{Mask, members, any, full, minus, holding, lowest}
use Rattle.spec.specs.Op.{Op, CALC, MEM, IF, ELSE, ENDIF, WHILE, ENDWHILE, BARRIER, UNKNOWN}
use Rattle.spec.specs.Shape.{Shape}
use Rattle.spec.specs.Table.{Table, Row, WellFormed, Fits, row_at, end_of, open_before, innermost, start_of}
use Rattle.spec.specs.LockStep.{LockState, Saved, Step, continues, stops, and_then, in_turn, for_enabled}
use Rattle.spec.specs.LockStep.{advance, count_steps, top_mask, pop, if_row, else_row, endif_row, saved_at_while, leave_or_stay, while_row, endwhile_row}
use Rattle.spec.specs.LockStep.{pass_barrier, barrier_row, run_row}
use Rattle.allruns.proofs.Nesting.{is_while}
use Rattle.allruns.proofs.Simulation.{Frame}
use Rattle.allruns.proofs.Rows.{Sim, saved_of, openers_of, framed_fresh, RowDone, Keeps, keeps_all, keeps_calc, keeps_touch}
use Rattle.allruns.proofs.BarrierRow.{row_done}
use Rattle.spec.specs.Threads.{Group}

-- Rows that compute or access, and BARRIER, leave the masks as they are.
abbrev pub Masked : LockState → Step → Type 0
Masked s (continues z) = (z.enabled ≡ s.enabled) × (z.saved ≡ s.saved)
Masked s (stops v z) = Unit {0}

pub masked : (f : LockState → ℕ → Step) → ((s : LockState) (t : ℕ) → Keeps (t ∷ []) s (f s t)) → (s : LockState) → Masked s (for_enabled f s)
unfolding for_enabled
masked f one s = by (in_turn f (members s.enabled) s) (keeps_all f one (members s.enabled) s)
  where
    by : (x : Step) → Keeps (members s.enabled) s x → Masked s (and_then x (λ z. continues (advance (suc z.row) z.enabled z.saved z)))
    by (continues z) k = unfold and_then advance in (k.on_same, k.saved_same)
    by (stops v z) k = unfold and_then in tt

pub masked_barrier : (L : Shape) (s : LockState) → Masked s (barrier_row L s)
unfolding barrier_row pass_barrier advance
masked_barrier L s = by (any s.enabled) (full s.enabled)
  where
    by : (a f : Bool)
        → Masked s
        (cond a (cond f (continues (pass_barrier L s)) (stops (Diverged (lowest s.enabled) (lowest (map not s.enabled))) s))
        (continues (advance (suc s.row) s.enabled s.saved s)))
    by true true = (refl, refl)
    by true false = tt
    by false f = (refl, refl)

else_not_if : ELSE ≡ IF → ⊥
else_not_if e = let never : ◌≡◌ {A = ℕ} 0 1 = cc in omega arith

while_not_if : WHILE ≡ IF → ⊥
while_not_if e = let never : ◌≡◌ {A = ℕ} 0 1 = cc in omega arith

unknown_not_if : UNKNOWN ≡ IF → ⊥
unknown_not_if e = let never : ◌≡◌ {A = ℕ} 0 1 = cc in omega arith

left : {s z : LockState} → continues s ≡ continues z → s ≡ z
left e = cc

-- v stands at the bottom of the saved masks.
abbrev pub Bottom : List Saved → List Saved → Type 0
Bottom v xs = (above : List Saved) × (above ++ v ≡ xs)

bottom_tail : (f : Saved) (v xs : List Saved) → Bottom (f ∷ v) xs → Bottom v xs
bottom_tail f v xs b = (b.0 ++ (f ∷ []), append_assoc b.0 (f ∷ []) v ∙ b.1)

module _ (T : Table) (L : Shape) where
  -- One row of the run; and rows from s on, one after the other, with P at s and after each of them.
  abbrev pub RowRun : LockState → LockState → Type 0
  RowRun s z = (s.row < length T) × (run_row T L (row_at T s.row) s (row_at T s.row).op ≡ continues z)

  pub data Comes (P : LockState → Type 0) (s : LockState) : LockState → Type 0 where
    here : P s → Comes P s s
    further : {z w : LockState} → Comes P s z → RowRun z w → P w → Comes P s w

  -- In the run from `first` to w, an IF that is still open: the state in which it was come to, with the mask that is saved for it; since then its
  -- saved mask has stood on those below it; and `inner` are the threads that it enabled.
  pub record OpenIf (first w : LockState) (f : Saved) (below : List Saved) (inner : Mask) : Type 0 where
    pub at_if : LockState
    pub came : Comes (λ z. Unit {0}) first at_if
    pub is_if : (row_at T at_if.row).op ≡ IF
    pub row_is : at_if.row ≡ f.opener
    pub mask_is : at_if.enabled ≡ f.mask
    pub since : Comes (λ z. Bottom (f ∷ below) z.saved) (if_row (row_at T at_if.row) at_if) w
    pub enabled_is : inner ≡ (if_row (row_at T at_if.row) at_if).enabled

  -- So it is for every open IF, `inner` being the mask saved above it, or the enabled mask for the innermost one.
  abbrev OpenIfs : (first w : LockState) → (inner : Mask) → List Saved → Type 0
  OpenIfs first w inner [] = Unit {0}
  OpenIfs first w inner (f ∷ below) = ((row_at T f.opener).op ≡ IF → OpenIf first w f below inner) × OpenIfs first w f.mask below

  -- A row more, for those that it leaves open.
  one_more : (first w z : LockState) → RowRun w z → (inner : Mask) (v : List Saved) → Bottom v z.saved → OpenIfs first w inner v → OpenIfs first z inner v
  one_more first w z r inner [] b h = tt
  one_more first w z r inner (f ∷ below) b h = (
    λ q.
        let o = h.0 q in
        record {
          at_if = o.at_if;
          came = o.came;
          is_if = o.is_if;
          row_is = o.row_is;
          mask_is = o.mask_is;
          since = further o.since r b;
          enabled_is = o.enabled_is;
        },
    one_more first w z r f.mask below (bottom_tail f below z.saved b) h.1,
  )

  popped : (first w : LockState) (inner : Mask) (v : List Saved) → OpenIfs first w inner v → OpenIfs first w (top_mask v) (pop v)
  unfolding top_mask pop
  popped first w inner [] h = tt
  popped first w inner (f ∷ below) h = h.1

  -- The masks after a row, by its op: what it adds is no IF, or the IF that was just come to.
  module _ (first w : LockState) (c : Comes (λ z. Unit {0}) first w) (h : OpenIfs first w w.enabled w.saved) where
    abbrev x : Row
    x = row_at T w.row

    abbrev own : Saved
    own = record { opener = w.row; mask = w.enabled }

    from : (u z : LockState) → u ≡ z → RowRun w z → (RowRun w u → OpenIfs first u u.enabled u.saved) → OpenIfs first z z.enabled z.saved
    from u z e r k = subst (λ v. RowRun w v → OpenIfs first v v.enabled v.saved) e k r

    -- Rows that leave the masks as they are; rows that take the innermost saved mask; rows that put one of no IF on top.
    same_masks : (z : LockState) → RowRun w z → (z.enabled ≡ w.enabled) × (z.saved ≡ w.saved) → OpenIfs first z z.enabled z.saved
    same_masks z r k = one_more first w z r z.enabled z.saved ([], refl) (rw (k.0, k.1) h)

    restored : (z : LockState) → RowRun w z → (inner : Mask) (v : List Saved) → OpenIfs first w inner v → z.enabled ≡ top_mask v → z.saved ≡ pop v
        → OpenIfs first z z.enabled z.saved
    restored z r inner v k e s = one_more first w z r z.enabled z.saved ([], refl) (rw (e, s) (popped first w inner v k))

    put_on : (z : LockState) → RowRun w z → (f : Saved) (v : List Saved) → z.saved ≡ f ∷ v → ((row_at T f.opener).op ≡ IF → ⊥)
        → OpenIfs first w f.mask v → OpenIfs first z z.enabled z.saved
    put_on z r f v e n k =
        subst (OpenIfs first z z.enabled) (sym e)
        (λ q. absurd (n q), one_more first w z r f.mask v (bottom_tail f v z.saved ([], sym e)) k)

    -- A WHILE's saved masks: its own on top of those that are open around it.
    abbrev Topped : List Saved → Type 0
    Topped u = (f : Saved) × (v : List Saved) × (u ≡ f ∷ v) × (f.opener ≡ w.row) × OpenIfs first w f.mask v

    at_while : (v : List Saved) → OpenIfs first w w.enabled v → Topped (saved_at_while w.row w.enabled v)
    unfolding saved_at_while
    at_while [] k = (own, [], refl, refl, tt)
    at_while (f ∷ v) k = by (eqb f.opener w.row) refl
      where
        by : (b : Bool) → eqb f.opener w.row ≡ b → Topped (cond b (f ∷ v) (own ∷ (f ∷ v)))
        by true e = (f, v, refl, eqb-true _ _ e, k.1)
        by false e = (own, f ∷ v, refl, refl, k)

    -- The IF that was just come to.
    opened : x.op ≡ IF → RowRun w (if_row x w) → OpenIfs first (if_row x w) (if_row x w).enabled (if_row x w).saved
    unfolding if_row advance count_steps
    opened q r = (
      λ e. record { at_if = w; came = c; is_if = q; row_is = refl; mask_is = refl; since = here ([], refl); enabled_is = refl },
      one_more first w (if_row x w) r w.enabled w.saved (own ∷ [], refl) h,
    )

    divided : x.op ≡ ELSE → RowRun w (else_row w) → OpenIfs first (else_row w) (else_row w).enabled (else_row w).saved
    unfolding else_row advance count_steps
    divided q r = put_on (else_row w) r _ (pop w.saved) refl (λ e. else_not_if (sym q ∙ e)) (popped first w w.enabled w.saved h)

    -- A loop that is gone on with, or left.
    looped : x.op ≡ WHILE → (u : List Saved) → Topped u → (s : LockState) (m : Mask) (z : LockState) → RowRun w z → leave_or_stay T s u m ≡ z
        → OpenIfs first z z.enabled z.saved
    unfolding leave_or_stay advance top_mask pop
    looped q u t s m z r e = by (any m) e
      where
        by : (b : Bool) → cond b (advance (suc s.row) m u s) (advance (suc (end_of T s.row)) (top_mask u) (pop u) s) ≡ z
            → OpenIfs first z z.enabled z.saved
        by true e =
            put_on z r t.0 t.1 (sym (ap (λ k. k.saved) e) ∙ t.2)
            (λ i. while_not_if (sym q ∙ ap (λ k. (row_at T k).op) (sym t.3) ∙ i)) t.4
        by false e =
            let on : z.enabled ≡ t.0.mask = sym (ap (λ k. k.enabled) e) ∙ ap top_mask t.2 in
            let kept : z.saved ≡ t.1 = sym (ap (λ k. k.saved) e) ∙ ap pop t.2 in
            one_more first w z r z.enabled z.saved ([], refl) (rw (on, kept) t.4)

    stepped : (o : Op) → x.op ≡ o → (z : LockState) → RowRun w z → run_row T L x w o ≡ continues z → OpenIfs first z z.enabled z.saved
    unfolding run_row
    stepped (CALC a) q z r e = same_masks z r (subst (Masked w) e (masked _ (keeps_calc x _) w))
    stepped (MEM p m) q z r e = same_masks z r (subst (Masked w) e (masked _ (keeps_touch L p m x) w))
    stepped IF q z r e = from (if_row x w) z (left e) r (opened q)
    stepped ELSE q z r e = from (else_row w) z (left e) r (divided q)
    stepped ENDIF q z r e = from (endif_row w) z (left e) r (λ k. unfold endif_row advance count_steps in (restored (endif_row w) k w.enabled w.saved h refl refl))
    stepped WHILE q z r e = unfold while_row in (looped q _ (at_while w.saved h) _ _ z r (left e))
    stepped ENDWHILE q z r e = from (endwhile_row w) z (left e) r (λ k. unfold endwhile_row advance count_steps in (same_masks (endwhile_row w) k (refl, refl)))
    stepped BARRIER q z r e = same_masks z r (subst (Masked w) e (masked_barrier L w))
    stepped UNKNOWN q z r e = same_masks z r (subst (Masked w) e (unfold advance in (refl, refl)))

  -- In every state that the run comes to, every open IF is as above.
  open_ifs : (first w : LockState) → first.saved ≡ [] → Comes (λ z. Unit {0}) first w → OpenIfs first w w.enabled w.saved
  open_ifs first w e (here u) = rw e tt
  open_ifs first w e (further {z} c r u) = stepped first z c (open_ifs first z e c) (row_at T z.row).op refl w r r.1

  -- The saved masks are those of the constructs open before the row.
  module _ (wf : WellFormed T) where
    stands : (first w : LockState) (fs : List Frame) (g : Group) → Sim T L first fs g → Comes (λ z. Unit {0}) first w
        → (hs : List Frame) × (k : Group) × Sim T L w hs k
    stands first w fs g S (here u) = (fs, g, S)
    stands first w fs g S (further {z} c r u) =
        let h = stands first z fs g S c in
        let d : RowDone T L z h.1 (continues w) = subst (RowDone T L z h.1) r.1 (row_done T wf L z h.0 h.1 h.2 r.0) in
        (d.frames, _, d.sim)

    at_else : (w : LockState) (fs : List Frame) (g : Group) → Sim T L w fs g → w.row < length T → (row_at T w.row).op ≡ ELSE
        → (f : Saved) × (below : List Saved) × (w.saved ≡ f ∷ below) × ((row_at T f.opener).op ≡ IF) × (f.opener ≡ start_of T w.row)
    unfolding innermost start_of is_while
    at_else w fs g S l q = by fs S.saving (framed_fresh T w.row fs (ap is_while q) S.framed)
      where
        fits : innermost T (open_before T w.row) ≡ IF
        fits = subst (λ o. Fits o (innermost T (open_before T w.row))) q (wf.fitting w.row l)

        by : (hs : List Frame) → w.saved ≡ saved_of hs → openers_of hs ≡ open_before T w.row
            → (f : Saved) × (below : List Saved) × (w.saved ≡ f ∷ below) × ((row_at T f.opener).op ≡ IF) × (f.opener ≡ start_of T w.row)
        by [] s o = absurd (unknown_not_if (ap (innermost T) o ∙ fits))
        by (f ∷ hs) s o = (_, saved_of hs, s, ap (innermost T) o ∙ fits, ap (λ os. get_or os 0 0) o)

-- A group's run comes to an ELSE with the saved mask of its IF on top, and with the threads enabled that this IF enabled when it was last come to.
module _ (T : Table) (wf : WellFormed T) (L : Shape) (first : LockState) (g : Group) (S : Sim T L first [] g) where
  abbrev pub ElseOf : LockState → Type 0
  ElseOf w = (f : Saved) × (below : List Saved) × (w.saved ≡ f ∷ below) × (f.opener ≡ start_of T w.row) × OpenIf T L first w f below w.enabled

  pub else_threads : (w : LockState) → Comes T L (λ z. Unit {0}) first w → w.row < length T → (row_at T w.row).op ≡ ELSE → ElseOf w
  else_threads w c l q =
      let at = stands T L wf first w [] g S c in
      let top = at_else T L wf w at.0 at.1 at.2 l q in
      let ifs = subst (OpenIfs T L first w w.enabled) top.2 (open_ifs T L first w S.saving c) in
      (top.0, top.1, top.2, top.4, ifs.0 top.3)

  -- So it enables those of the IF's mask m that the IF did not, whether or not Ra has changed since.
  pub else_enables : (w : LockState) → (e : ElseOf w) → let s = e.4.at_if in
      (else_row w).enabled ≡ minus s.enabled (holding (row_at T s.row).a s.enabled s.regs)
  unfolding else_row if_row advance top_mask
  else_enables w e = let o = e.4 in ap₂ minus (ap top_mask e.2 ∙ sym o.mask_is) o.enabled_is
