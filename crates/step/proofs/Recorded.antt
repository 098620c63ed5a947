-- What a row does to the records, by its op. Assumes nothing.
use mathlib.Core.Path.{◌≡◌, refl, sym, ◌∙◌, ap, subst, subst₂}
use mathlib.Core.Logic.{◌⊎◌, inl, inr}
use mathlib.Core.List.{List}
use mathlib.Core.Bool.{Bool, true, false, cond}
use Prim.Native.Nat.{ℕ, ◌+◌, ◌-◌, ◌^◌, ◌<◌, ◌≤◌}
use native.Mathlib.Omega.{arith}
use native.Mathlib.Decide.{ℕ_discrete}
use borrow.Author.Tests.{le-ltb, eq-eqb, ne_eqb}
use lib.Dec.{eqb}
use Rattle.layout.specs.Memory.{Access}
use Rattle.std.specs.Prelude.{Ok, Err}
use Rattle.layout.specs.declared.Turns.{Turns}
use Rattle.layout.specs.declared.State.{State}
use Rattle.layout.specs.Next.{Next}
use Rattle.layout.specs.Next as next
use Rattle.layout.specs.Represents.{moved_on, reached, accessed}
use Rattle.layout.specs.Constructs.{ConstructDone, construct_state, while_state, passed_state, diverged_next, barrier_next}
use Rattle.layout.specs.Memory.{holding_word, cell_in, CellRegister}
use Rattle.banks.specs.Counting.{numbers_in, Older}
use Rattle.banks.specs.Remembering.{Memo, RowCosts}
use Rattle.intervals.specs.Records.{charged, records_after}
use Rattle.intervals.proofs.Ledger.{charged_none}
use Rattle.step.specs.Recording.{RowRecorded, paid}

older_still : (k : ℕ) (stamps : List ℕ) → Older (k + 1) stamps → Older (k + 2) stamps
older_still k stamps O = record { size = O.size; below = λ i h. omega (arith, O.below i h) }

-- Where no barrier is passed, a row's cost is charged; a cost of 0 changes nothing.
after_charged : (group cost : ℕ) (s r : State) (records : List ℕ) → r.barriers ≡ s.barriers
    → records_after group cost s (next.Go r) records ≡ charged (s.barriers + group) cost records
unfolding records_after
after_charged group cost s r records e = rw (le-ltb s.barriers r.barriers (omega arith)) refl

pub after_plain : (group : ℕ) (s r : State) (records : List ℕ) → r.barriers ≡ s.barriers → records_after group 0 s (next.Go r) records ≡ records
after_plain group s r records e = after_charged group 0 s r records e ∙ charged_none (s.barriers + group) 0 records refl

module _ (op n group : ℕ) (cell : ℕ → ℕ) (s : State) (records stamps memo : List ℕ) where
  -- a row without accesses
  pub recorded_plain : (r : Next) (records' : List ℕ) → (16 ≤ op → op ≤ 18 → ⊥) → Older (s.rows + 1) stamps → Memo memo
      → records' ≡ records_after group 0 s r records → RowRecorded op n group cell s r records records' stamps memo
  recorded_plain r records' f O M e =
      record {
        cost = 0;
        few = omega arith;
        plain = λ p. refl;
        access = λ h l q p E m k. absurd (f h l);
        words = e;
        older = older_still s.rows stamps O;
        memo = M;
      }

  -- a finished row of accesses is charged its cost, a stopped one nothing
  pub recorded_access : (t : Turns) (cost : ℕ) (r : Next) (records' : List ℕ) → 16 ≤ op → op ≤ 18 → RowCosts cell n s.mask (s.rows + 1) cost stamps memo
      → r ≡ accessed (reached s t.reach) t.access → records' ≡ paid t.access (s.barriers + group) cost records
      → RowRecorded op n group cell s r records records' stamps memo
  recorded_access t cost r records' low high C er ew =
      record {
        cost = cost;
        few = C.few;
        plain = λ p. absurd (neither p);
        access = λ h l q p E m k a. C.cost_is E m k a;
        words = ew ∙ sym (ap (λ z. records_after group cost s z records) er ∙ left t.access);
        older = subst (λ k. Older k stamps) (let z : s.rows + 1 + 1 ≡ s.rows + 2 = omega arith in z) C.older;
        memo = C.memo;
      }
    where
      neither : (op < 16) ⊎ (18 < op) → ⊥
      neither (inl h) = omega arith
      neither (inr h) = omega arith

      left : (a : Access) → records_after group cost s (accessed (reached s t.reach) a) records ≡ paid a (s.barriers + group) cost records
      left (Ok tt) = after_charged group cost s _ records refl
      left (Err v) = unfold records_after in refl

-- The cells of the row's own bytes.
pub recorded_at : (s : State) (op n group d a d' a' : ℕ) (r : Next) (records records' stamps' memo' regs : List ℕ) → d ≡ d' → a ≡ a'
    → RowRecorded op n group (cell_in op d a regs) s r records records' stamps' memo' → RowRecorded op n group (cell_in op d' a' regs) s r records records' stamps' memo'
recorded_at s op n group d a d' a' r records records' stamps' memo' regs ed ea R =
    subst₂ (λ x y. RowRecorded op n group (cell_in op x y regs) s r records records' stamps' memo') ed ea R

-- The register with the numbers.
pub costs_in : (op d a r n mask stamp cost : ℕ) (regs stamps memo : List ℕ) → CellRegister op d a r → RowCosts (numbers_in regs r) n mask stamp cost stamps memo
    → RowCosts (cell_in op d a regs) n mask stamp cost stamps memo
unfolding cell_in
costs_in op d a r n mask stamp cost regs stamps memo R C = subst (λ x. RowCosts (numbers_in regs x) n mask stamp cost stamps memo) (by (ℕ_discrete op 16)) C
  where
    by : Dec (op ≡ 16) → r ≡ cond (eqb op 16) a d
    by (yes e) = R.of_load e ∙ sym (ap (λ b. cond b a d) (eq-eqb op 16 e))
    by (no f) = R.of_other f ∙ sym (ap (λ b. cond b a d) (ne_eqb op 16 f))

-- The rows of constructs pass no barrier.
pub construct_barriers : (op a e : ℕ) (regs : List ℕ) (s : State) (saved openers : List ℕ) (r : State) (saved' openers' : List ℕ)
    → ConstructDone op a e regs s saved openers r saved' openers' → r.barriers ≡ s.barriers
unfolding construct_state while_state
construct_barriers op a e regs s saved openers r saved' openers' D =
    ap (λ z. z.barriers) D.state_is
    ∙ keep (eqb op 32) _ _ refl (keep (eqb op 33) _ _ refl (keep (eqb op 34) _ _ refl (keep (eqb op 35) _ _ (keep (eqb (holding_word s.mask a regs) 0) _ _ refl refl) refl)))
  where
    keep : (b : Bool) (x y : State) → x.barriers ≡ s.barriers → y.barriers ≡ s.barriers → (cond b x y).barriers ≡ s.barriers
    keep true x y p q = p
    keep false x y p q = q

-- A barrier that lets the run go on is a row.
pub barrier_goes : (n : ℕ) (s z : State) → barrier_next n s ≡ next.Go z → (z.row ≡ s.row + 1) × (z.rows ≡ s.rows + 1)
unfolding barrier_next
barrier_goes n s z = by (eqb s.mask (2 ^ n - 1)) (eqb s.mask 0)
  where
    by : (all none : Bool) → cond all (next.Go (passed_state s)) (cond none (next.Go (moved_on s)) (diverged_next n s)) ≡ next.Go z
        → (z.row ≡ s.row + 1) × (z.rows ≡ s.rows + 1)
    by true none e = let same : passed_state s ≡ z = cc in (sym (ap (λ x. x.row) same), sym (ap (λ x. x.rows) same))
    by false true e = let same : moved_on s ≡ z = cc in (sym (ap (λ x. x.row) same), sym (ap (λ x. x.rows) same))
    by false false e = let q : ◌≡◌ {A = ℕ} 0 1 = cc in absurd (omega arith)
