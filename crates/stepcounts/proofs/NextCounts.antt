-- What each kind of row does to the counts. Assumes nothing.
use mathlib.Core.Path.{◌≡◌, refl, sym, ◌∙◌, ap, ap₂, subst}
use mathlib.Core.List.{List}
use mathlib.Core.Bool.{Bool, true, false, cond}
use Prim.Native.Nat.{ℕ, ◌+◌, ◌-◌, ◌*◌, ◌^◌, ◌<◌}
use native.Mathlib.Omega.{arith}
use native.Mathlib.Decide.{ℕ_discrete}
use borrow.Author.Tests.{eq-eqb, ne_eqb}
use lib.Dec.{eqb}
use lib.ListN.{length}
use Rattle.spec.specs.LockStep.{Step, continues, stops}
use Rattle.layout.specs.Memory.{Access}
use Rattle.std.specs.Prelude.{Ok, Err}
use Rattle.layout.specs.declared.State.{State}
use Rattle.layout.specs.Next.{Next}
use Rattle.layout.specs.Next as next
use Rattle.layout.specs.Represents.{Represents, After, gone_on, moved_on, with_since, reached, accessed}
use Rattle.layout.specs.Memory.{holding_word}
use Rattle.layout.specs.Constructs.{if_state, else_state, endif_state, while_depth, left_state, while_state, endwhile_state, construct_state}
use Rattle.layout.specs.Constructs.{ConstructDone, barrier_next, passed_state, diverged_next}
use Rattle.layout.specs.Counting.{bit_of, steps_of, own_step, Settled, stepping, StepsOn, NextCounted}
use Rattle.layout.proofs.PlainRows.{stands_alike}
use Rattle.stepcounts.proofs.Adding.{bit_add, nobody_bit}

-- One more step of a mask's threads.
one_more : (mask k : ℕ) (counts : List ℕ) (t : ℕ) → steps_of mask (k + 1) counts t ≡ steps_of mask k counts t + bit_of mask t
one_more mask k counts t = omega (arith, bit_add (bit_of mask t) k 1 (omega arith), (let z : bit_of mask t * 1 ≡ bit_of mask t = omega arith in z))

step_by : (op : ℕ) (s r : State) → (op ≡ 37 → ⊥) → (op ≡ 34 → ⊥) → stepping op s r ≡ s.mask
unfolding stepping
step_by op s r h k = rw (ne_eqb op 37 h, ne_eqb op 34 k)

-- A computing row, and a row of accesses.
pub counts_on : (op : ℕ) (s : State) (r : Next) (counts : List ℕ) → op < 32 → length counts ≡ 32 → StepsOn s r → NextCounted op s r counts counts
counts_on op s (Ok r) counts h l (em, es) =
    record {
      size = l;
      each = λ t q. ap₂ (λ (m k : ℕ). steps_of m k counts t) em es ∙ one_more s.mask s.since counts t
          ∙ ap (λ (m : ℕ). steps_of s.mask s.since counts t + bit_of m t) (sym (step_by op s r (λ e. omega arith) (λ e. omega arith)));
    }
counts_on op s (Err x) counts h l (em, es) = (em, es, refl)

pub moved_on_lem : (s r : State) → r ≡ moved_on s → StepsOn s (next.Go r)
moved_on_lem s r e = (ap (λ x. x.mask) e, ap (λ x. x.since) e)

pub accessed_on : (s : State) (g : ℕ) (a : Access) (r : Next) → r ≡ accessed (reached s g) a → StepsOn s r
accessed_on s g (Ok tt) r e = subst (StepsOn s) (sym e) (refl, refl)
accessed_on s g (Err v) r e = subst (StepsOn s) (sym e) (refl, refl)

-- BARRIER: nobody steps.
barrier_step : (s r : State) → stepping 37 s r ≡ 0
unfolding stepping
barrier_step s r = refl

pub counts_barrier : (op n : ℕ) (s : State) (r : Next) (counts : List ℕ) → op ≡ 37 → length counts ≡ 32 → r ≡ barrier_next n s → NextCounted op s r counts counts
unfolding barrier_next
counts_barrier op n s r counts eo l e =
    subst (λ k. NextCounted k s r counts counts) (sym eo) (subst (λ x. NextCounted 37 s x counts counts) (sym e) (by (eqb s.mask (2 ^ n - 1)) (ℕ_discrete s.mask 0)))
  where
    same : (m : ℕ) (t : ℕ) → steps_of m s.since counts t ≡ steps_of m s.since counts t + bit_of 0 t
    same m t = omega (arith, nobody_bit t)

    by : (b : Bool) → Dec (s.mask ≡ 0) → NextCounted 37 s (cond b (next.Go (passed_state s)) (cond (eqb s.mask 0) (next.Go (moved_on s)) (diverged_next n s))) counts counts
    by true d = record { size = l; each = λ t q. same s.mask t ∙ ap (λ (m : ℕ). steps_of s.mask s.since counts t + bit_of m t) (sym (barrier_step s (passed_state s))) }
    by false (yes z) =
        rw (eq-eqb s.mask 0 z)
        (record {
          size = l;
          each = λ t q. one_more s.mask s.since counts t
              ∙ ap (λ (m : ℕ). steps_of s.mask s.since counts t + bit_of m t) (z ∙ sym (barrier_step s (moved_on s)));
        })
    by false (no f) = rw (ne_eqb s.mask 0 f) (refl, refl, refl)

-- A construct: one more step, under the old mask or, at an ENDIF, the new one.
construct_since : (op a e : ℕ) (regs : List ℕ) (s : State) (saved openers : List ℕ) → (construct_state op a e regs s saved openers).since ≡ s.since + 1
unfolding construct_state while_state
construct_since op a e regs s saved openers =
    let next : State = endwhile_state openers s in
    let loop : State = while_state a e regs s saved openers in
    let stays : State = gone_on s (s.row + 1) (holding_word s.mask a regs) (while_depth s openers) in
    let from-while = either (eqb op 35) loop next (either (eqb (holding_word s.mask a regs) 0) (left_state e s saved openers) stays refl refl) refl in
    let from-endif = either (eqb op 34) (endif_state saved s) (cond (eqb op 35) loop next) refl from-while in
    let from-else = either (eqb op 33) (else_state saved s) (cond (eqb op 34) (endif_state saved s) (cond (eqb op 35) loop next)) refl from-endif in
    either (eqb op 32) (if_state a regs s)
    (cond (eqb op 33) (else_state saved s) (cond (eqb op 34) (endif_state saved s) (cond (eqb op 35) loop next))) refl from-else
  where
    either : (b : Bool) (x y : State) → x.since ≡ s.since + 1 → y.since ≡ s.since + 1 → (cond b x y).since ≡ s.since + 1
    either true x y h k = h
    either false x y h k = k

pub done_since : {op a e : ℕ} {regs : List ℕ} {s : State} {saved openers : List ℕ} {r : State} {saved' openers' : List ℕ}
    → ConstructDone op a e regs s saved openers r saved' openers' → r.since ≡ s.since + 1
done_since {op} {a} {e} {regs} {s} {saved} {openers} D = ap (λ x. x.since) D.state_is ∙ construct_since op a e regs s saved openers

own_is : (op k : ℕ) → (op ≡ 34 → k ≡ 1) → ((op ≡ 34 → ⊥) → k ≡ 0) → own_step op ≡ k
unfolding own_step
own_is op k h l = by (ℕ_discrete op 34)
  where
    by : Dec (op ≡ 34) → cond (eqb op 34) 1 0 ≡ k
    by (yes e) = rw (eq-eqb op 34 e) (sym (h e))
    by (no f) = rw (ne_eqb op 34 f) (sym (l f))

endif_step : (op : ℕ) (s r : State) → op ≡ 34 → stepping op s r ≡ r.mask
unfolding stepping
endif_step op s r e = rw (ne_eqb op 37 (λ z. omega arith), eq-eqb op 34 e)

pub counts_construct : (op : ℕ) (s z r : State) (counts counts' : List ℕ) → op < 37 → z.since ≡ s.since + 1 → Settled op s.mask z r counts counts'
    → NextCounted op s (next.Go r) counts counts'
counts_construct op s z r counts counts' h e S =
    record { size = S.size; each = λ t q. S.each t q ∙ ap (λ (k : ℕ). steps_of s.mask (k - own_step op) counts t + bit_of z.mask t * own_step op) e ∙ by t (ℕ_discrete op 34) }
  where
    by : (t : ℕ) → Dec (op ≡ 34) → steps_of s.mask (s.since + 1 - own_step op) counts t + bit_of z.mask t * own_step op
        ≡ steps_of s.mask s.since counts t + bit_of (stepping op s r) t
    by t (yes d) =
        let own : own_step op ≡ 1 = own_is op 1 (λ x. refl) (λ f. absurd (f d)) in
        ap (λ (k : ℕ). steps_of s.mask (s.since + 1 - k) counts t + bit_of z.mask t * k) own
        ∙ ap₂ (λ (k b : ℕ). steps_of s.mask k counts t + b) (let y : s.since + 1 - 1 ≡ s.since = omega arith in y)
        (let y : bit_of z.mask t * 1 ≡ bit_of z.mask t = omega arith in y)
        ∙ ap (λ (m : ℕ). steps_of s.mask s.since counts t + bit_of m t) (sym (endif_step op s r d ∙ ap (λ x. x.mask) S.state_is))
    by t (no f) =
        let own : own_step op ≡ 0 = own_is op 0 (λ x. absurd (f x)) (λ x. refl) in
        ap (λ (k : ℕ). steps_of s.mask (s.since + 1 - k) counts t + bit_of z.mask t * k) own
        ∙ ap₂ (λ (k b : ℕ). steps_of s.mask k counts t + b) (let y : s.since + 1 - 0 ≡ s.since + 1 = omega arith in y)
        (let y : bit_of z.mask t * 0 ≡ 0 = omega arith in y)
        ∙ (let y : steps_of s.mask (s.since + 1) counts t + 0 ≡ steps_of s.mask (s.since + 1) counts t = omega arith in y)
        ∙ one_more s.mask s.since counts t
        ∙ ap (λ (m : ℕ). steps_of s.mask s.since counts t + bit_of m t) (sym (step_by op s r (λ x. omega arith) f))

-- The state that was settled stands for what it stood for.
pub after_settled : (n : ℕ) (o : Step) (z r : State) (regs cells log saved openers : List ℕ) → After n o (next.Go z) regs cells log saved openers
    → r ≡ with_since z r.since → After n o (next.Go r) regs cells log saved openers
after_settled n (continues y) z r regs cells log saved openers (u, f, R) e =
    let same : u ≡ z = cc in (
      r,
      refl,
      subst (λ x. Represents n y x regs cells log saved openers) (ap (λ x. with_since x r.since) same ∙ sym e)
          (stands_alike n y u regs cells log saved openers R u.reach r.since R.reach_is),
    )
after_settled n (stops v y) z r regs cells log saved openers (u, f, R) e = let q : ◌≡◌ {A = ℕ} 0 1 = cc in absurd (omega arith)
