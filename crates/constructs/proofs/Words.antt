-- The words that the rows of constructs and BARRIER leave, by the op and by the tests. Assumes nothing.
use mathlib.Core.Path.{◌≡◌, refl, sym, ◌∙◌, ap, ap₂, subst}
use mathlib.Core.List.{List}
use Prim.Native.Nat.{ℕ, ◌+◌, ◌-◌, ◌^◌}
use borrow.Author.Tests.{eq-eqb, ne_eqb}
use lib.Bits.{bit_and}
use lib.Count.{count_trailing_zeros}
use lib.ListN.{get_or, set}
use Rattle.spec.specs.declared.Verdict.TheVariants.{Diverged}
use Rattle.spec.specs.Log.{cells_cleared}
use Rattle.layout.specs.declared.State.{State}
use Rattle.layout.specs.Next as next
use Rattle.layout.specs.Memory.{holding_word}
use Rattle.layout.specs.Represents.{Counted, gone_on, moved_on}
use Rattle.layout.specs.Constructs.{if_state, else_state, endif_state, while_state, endwhile_state, construct_state, saving, saved_after}
use Rattle.layout.specs.Constructs.{openers_after, EnteredWhile, ConstructDone, passed_state, barrier_next, barrier_log}

-- WHILE, by whether a thread holds.
module _ (s : State) (saved openers : List ℕ) {d : ℕ} {saved' openers' : List ℕ} (E : EnteredWhile d s saved openers saved' openers')
    (a e : ℕ) (regs : List ℕ) (h : ℕ) (eh : h ≡ holding_word s.mask a regs) where
  pub while_left : h ≡ 0 → gone_on s (e + 1) (get_or saved' (d - 1) 0) (d - 1) ≡ while_state a e regs s saved openers
  unfolding while_state
  while_left z =
      rw (eq-eqb (holding_word s.mask a regs) 0 (sym eh ∙ z))
      (ap₂ (λ (x : List ℕ) (y : ℕ). gone_on s (e + 1) (get_or x (y - 1) 0) (y - 1)) E.saved_are E.depth_is)

  pub while_stayed : (h ≡ 0 → ⊥) → gone_on s (s.row + 1) h d ≡ while_state a e regs s saved openers
  unfolding while_state
  while_stayed ne =
      rw (ne_eqb (holding_word s.mask a regs) 0 (λ z. ne (eh ∙ z)))
      (ap₂ (λ (x y : ℕ). gone_on s (s.row + 1) x y) eh E.depth_is)

-- A construct's row, by its op.
module _ (op a e : ℕ) (regs : List ℕ) (s : State) (saved openers : List ℕ) {r : State} {saved' openers' : List ℕ} where
  by_op : (k : ℕ) → op ≡ k → Counted s r → r ≡ construct_state k a e regs s saved openers → saved' ≡ saved_after k s saved openers
      → openers' ≡ openers_after k s openers → ConstructDone op a e regs s saved openers r saved' openers'
  by_op k q n er es eo =
      subst (λ x. ConstructDone x a e regs s saved openers r saved' openers') (sym q)
      (record { counted = n; state_is = er; saved_are = es; openers_are = eo })

  pub by_if : op ≡ 32 → Counted s r × (r ≡ if_state a regs s) × (saved' ≡ set saved s.depth s.mask) × (openers' ≡ set openers s.depth s.row)
      → ConstructDone op a e regs s saved openers r saved' openers'
  unfolding construct_state saved_after openers_after saving
  by_if q D = by_op 32 q D.0 D.1 D.2 D.3

  pub by_while : op ≡ 35
      → Counted s r × (r ≡ while_state a e regs s saved openers) × (saved' ≡ saved_after 35 s saved openers) × (openers' ≡ openers_after 35 s openers)
      → ConstructDone op a e regs s saved openers r saved' openers'
  unfolding construct_state
  by_while q D = by_op 35 q D.0 D.1 D.2 D.3

  pub by_else : op ≡ 33 → Counted s r × (r ≡ else_state saved s) × (saved' ≡ saved) × (openers' ≡ set openers (s.depth - 1) s.row)
      → ConstructDone op a e regs s saved openers r saved' openers'
  unfolding construct_state saved_after openers_after saving
  by_else q D = by_op 33 q D.0 D.1 D.2 D.3

module _ (op a e : ℕ) (regs : List ℕ) (s : State) (saved openers : List ℕ) {r : State} where
  pub by_endif : op ≡ 34 → Counted s r × (r ≡ endif_state saved s) → ConstructDone op a e regs s saved openers r saved openers
  unfolding construct_state saved_after openers_after saving
  by_endif q D = by_op op a e regs s saved openers 34 q D.0 D.1 refl refl

  pub by_endwhile : op ≡ 36 → Counted s r × (r ≡ endwhile_state openers s) → ConstructDone op a e regs s saved openers r saved openers
  unfolding construct_state saved_after openers_after saving
  by_endwhile q D = by_op op a e regs s saved openers 36 q D.0 D.1 refl refl

-- BARRIER, by the mask.
module _ (n : ℕ) (s : State) (k : ℕ) (log : List ℕ) where
  pub barrier_all : {log' : List ℕ} → s.mask ≡ 2 ^ n - 1 → log' ≡ cells_cleared k (s.reach + 1) log
      → (next.Go (passed_state s) ≡ barrier_next n s) × (log' ≡ barrier_log n s k log)
  unfolding barrier_next barrier_log
  barrier_all e el = rw (eq-eqb s.mask (2 ^ n - 1) e) (refl, el)

  pub barrier_none : {r : State} → (s.mask ≡ 2 ^ n - 1 → ⊥) → s.mask ≡ 0 → r ≡ moved_on s → (next.Go r ≡ barrier_next n s) × (log ≡ barrier_log n s k log)
  unfolding barrier_next barrier_log
  barrier_none ne z er = rw (ne_eqb s.mask (2 ^ n - 1) ne, eq-eqb s.mask 0 z) (ap next.Go er, refl)

  pub barrier_some : (all t w o : ℕ) → (s.mask ≡ 2 ^ n - 1 → ⊥) → (s.mask ≡ 0 → ⊥) → all ≡ 2 ^ n - 1 → t ≡ count_trailing_zeros 32 s.mask
      → w ≡ bit_and all (4294967295 - s.mask) → o ≡ count_trailing_zeros 32 w → (next.Stop s (Diverged t o) ≡ barrier_next n s) × (log ≡ barrier_log n s k log)
  unfolding barrier_next barrier_log
  barrier_some all t w o ne nz ea et ew eo =
      rw (ne_eqb s.mask (2 ^ n - 1) ne, ne_eqb s.mask 0 nz)
      (ap₂ (λ x y. next.Stop s (Diverged x y)) et (eo ∙ ap (count_trailing_zeros 32) (ew ∙ ap (λ (x : ℕ). bit_and x (4294967295 - s.mask)) ea)), refl)
