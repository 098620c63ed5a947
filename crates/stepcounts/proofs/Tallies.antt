-- How the code's counts stand for the definition's: at the start, over a row, and when the run ends. Assumes nothing.
use mathlib.Core.Path.{◌≡◌, refl, sym, ◌∙◌, ap, ap₂}
use mathlib.Core.List.{List, [], ◌∷◌, ◌++◌}
use Prim.Native.Nat.{ℕ, zero, suc, ◌+◌, ◌-◌, ◌*◌, ◌%◌, ◌^◌, ◌<◌, ◌≤◌}
use native.Mathlib.Omega.{arith}
use lib.ListN.{length, get_or, take, drop, replicate, length-replicate, length-append, length-take}
use Rattle.std.proofs.lemmas.List.{ext_get_or}
use Rattle.spec.specs.declared.Verdict.{Verdict}
use Rattle.spec.specs.declared.Verdict.TheVariants.{Passed, Race, GroupRace, Outside, Common, Diverged, Spent}
use Rattle.spec.specs.Mask.{Mask, mask_word, members}
use Rattle.spec.specs.Steps.{all_stepped}
use Rattle.spec.specs.LockStep.{LockState}
use Rattle.spec.specs.Entries.{over}
use Rattle.spec.proofs.Laws.{zeros}
use Rattle.spec.proofs.StepLaws.{all_stepped_size}
use Rattle.layout.specs.declared.State.{State}
use Rattle.layout.specs.Counting.{bit_of, steps_of, Roomy, Added, stepping, RowCounted, acted_before, ThreadFits, Tally}
use Rattle.stepcounts.proofs.Adding.{bit_add, bit_most, nobody_bit}
use Rattle.stepcounts.proofs.Members.{stepped_by_mask, acted_below, stopper_below, below_bit}
use Rattle.stepcounts.proofs.RowSteps.{Before, StoppedRow}

-- Counts written over zeros: a thread behind the last has 0 either way.
padded_at : (xs : List ℕ) (k t : ℕ) → get_or (xs ++ replicate k 0) t 0 ≡ get_or xs t 0
padded_at [] k t = zeros k t
padded_at (x ∷ xs) k zero = refl
padded_at (x ∷ xs) k (suc t) = padded_at xs k t

drop_zeros : (j k : ℕ) → ◌≡◌ {A = List ℕ} (drop j (replicate k 0)) (replicate (k - j) 0)
drop_zeros zero k = ap (λ (i : ℕ). replicate {A = ℕ} i 0) (let z : k ≡ k - 0 = omega arith in z)
drop_zeros (suc j) zero = ap (λ (i : ℕ). replicate {A = ℕ} i 0) (let z : 0 ≡ 0 - suc j = omega arith in z)
drop_zeros (suc j) (suc k) = drop_zeros j k ∙ ap (λ (i : ℕ). replicate {A = ℕ} i 0) (let z : k - j ≡ suc k - suc j = omega arith in z)

pub over_zeros : (xs : List ℕ) (k : ℕ) → over xs (replicate k 0) ≡ xs ++ replicate (k - length xs) 0
unfolding over
over_zeros xs k = ap (λ (l : List ℕ). xs ++ l) (drop_zeros (length xs) k)

counts_are : (xs counts : List ℕ) → length xs ≤ 32 → length counts ≡ 32 → ((t : ℕ) → t < 32 → get_or counts t 0 ≡ get_or xs t 0)
    → counts ≡ over xs (replicate 32 0)
counts_are xs counts l e h =
    ext_get_or 0 counts (xs ++ replicate (32 - length xs) 0)
    (omega (arith, length-append xs (replicate (32 - length xs) 0), length-replicate {A = ℕ} (32 - length xs) 0))
    (λ t q. h t (omega arith) ∙ sym (padded_at xs (32 - length xs) t))
    ∙ sym (over_zeros xs 32)

pub tally_start : (z : LockState) (s : State) (n : ℕ) → z.steps ≡ replicate n 0 → s.since ≡ 0 → Tally z s (replicate 32 0)
tally_start z s n e q =
    record {
      size = length-replicate {A = ℕ} 32 0;
      each = λ t l. ap₂ (λ (x y : ℕ). x + bit_of s.mask t * y) (zeros 32 t) q
          ∙ (let y : 0 + bit_of s.mask t * 0 ≡ 0 = omega arith in y) ∙ sym (none t);
      few = λ t. omega (arith, none t);
    }
  where
    none : (t : ℕ) → get_or z.steps t 0 ≡ 0
    none t = ap (λ x. get_or x t 0) e ∙ zeros n t

module _ (z : LockState) (s : State) (counts : List ℕ) (T : Tally z s counts) where
  -- Room for the row's own step, and for what was stepped before.
  pub tally_room : (k : ℕ) → k ≤ s.since + 1 → s.rows ≤ 1000000 → Roomy s.mask k counts
  tally_room k h r =
      record {
        size = T.size;
        each = λ t l. omega (
          arith,
          T.each t l,
          T.few t,
          bit_add (bit_of s.mask t) k (s.since + 1 - k) (omega arith),
          bit_add (bit_of s.mask t) s.since 1 (omega arith),
          bit_most (bit_of s.mask t) 1 (omega arith),
          ap (λ (i : ℕ). bit_of s.mask t * i) (let e : k + (s.since + 1 - k) ≡ s.since + 1 = omega arith in e),
        );
      }

  -- A row after which the threads of w have stepped.
  pub tally_row : (op : ℕ) (z' : LockState) (s' : State) (counts' : List ℕ) (w : Mask) → RowCounted op s s' counts counts'
      → z'.steps ≡ all_stepped z.steps (members w) → stepping op s s' ≡ mask_word w → length w ≤ length z.steps → s'.rows ≡ s.rows + 1
      → Tally z' s' counts'
  tally_row op z' s' counts' w C e q l r =
      record {
        size = C.size;
        each = λ t h. C.each t h ∙ ap₂ (λ (x y : ℕ). x + bit_of y t) (T.each t h) q ∙ sym (at t);
        few = λ t. omega (arith, at t, T.few t);
      }
    where
      at : (t : ℕ) → get_or z'.steps t 0 ≡ get_or z.steps t 0 + bit_of (mask_word w) t
      at t = ap (λ x. get_or x t 0) e ∙ stepped_by_mask w z.steps t l

  -- The run is over: what was stepped is added.
  pub tally_end : (counts' : List ℕ) → Added s.mask s.since counts counts' → length z.steps ≤ 32 → counts' ≡ over z.steps (replicate 32 0)
  tally_end counts' A l = counts_are z.steps counts' l A.size (λ t h. A.each t h ∙ T.each t h)

  -- A row has stopped: those that acted before are counted.
  module _ (em : s.mask ≡ mask_word z.enabled) (le : length z.enabled ≤ length z.steps) (ls : length z.steps ≤ 32) (v : Verdict) (z' : LockState)
      (S : StoppedRow z v z') where
    acted_at : (at t : ℕ) (acted rest : List ℕ) → members z.enabled ≡ acted ++ (at ∷ rest) → z'.steps ≡ all_stepped z.steps acted
        → get_or z'.steps t 0 ≡ get_or z.steps t 0 + bit_of (s.mask % 2 ^ at) t
    acted_at at t acted rest e q =
        ap (λ x. get_or x t 0) (q ∙ ap (all_stepped z.steps) (acted_below z.enabled acted rest at e))
        ∙ stepped_by_mask (take at z.enabled) z.steps t (omega (arith, length-take at z.enabled))
        ∙ ap (λ (x : ℕ). get_or z.steps t 0 + x) (below_bit z.enabled at t ∙ ap (λ (m : ℕ). bit_of (m % 2 ^ at) t) (sym em))

    at_access : (w : Verdict) (at t : ℕ) (B : Before (members z.enabled) z w z') → at ≡ B.at
        → get_or z'.steps t 0 ≡ get_or z.steps t 0 + bit_of (s.mask % 2 ^ at) t
    at_access w at t B e =
        acted_at B.at t B.acted B.rest B.all B.counted ∙ ap (λ (i : ℕ). get_or z.steps t 0 + bit_of (s.mask % 2 ^ i) t) (sym e)

    stopped_at : (t : ℕ) → get_or z'.steps t 0 ≡ get_or z.steps t 0 + bit_of (acted_before v s.mask) t
    unfolding acted_before
    stopped_at t = by v S
      where
        by : (w : Verdict) → StoppedRow z w z' → get_or z'.steps t 0 ≡ get_or z.steps t 0 + bit_of (acted_before w s.mask) t
        by Passed h = absurd h
        by (Race at o k c) B = at_access (Race at o k c) at t B B.stopper
        by (GroupRace at g k c) B = at_access (GroupRace at g k c) at t B B.stopper
        by (Outside at c) B = at_access (Outside at c) at t B B.stopper
        by (Common at c) B = at_access (Common at c) at t B B.stopper
        by (Diverged at o) e =
            ap (λ x. get_or x t 0) e ∙ (let y : get_or z.steps t 0 ≡ get_or z.steps t 0 + bit_of 0 t = omega (arith, nobody_bit t) in y)
        by Spent h = absurd h

    pub tally_fits : ThreadFits v
    tally_fits = by v S
      where
        below : (w : Verdict) (at : ℕ) (B : Before (members z.enabled) z w z') → at ≡ B.at → at < 32
        below w at B e = omega (arith, stopper_below z.enabled B.acted B.rest B.at B.all)

        by : (w : Verdict) → StoppedRow z w z' → ThreadFits w
        by Passed h = absurd h
        by (Race at o k c) B = below (Race at o k c) at B B.stopper
        by (GroupRace at g k c) B = below (GroupRace at g k c) at B B.stopper
        by (Outside at c) B = below (Outside at c) at B B.stopper
        by (Common at c) B = below (Common at c) at B B.stopper
        by (Diverged at o) e = tt
        by Spent h = absurd h

    added_at : (counts₁ : List ℕ) → Added (acted_before v s.mask) 1 counts counts₁ → (t : ℕ) → t < 32
        → steps_of s.mask s.since counts₁ t ≡ get_or z.steps t 0 + bit_of (acted_before v s.mask) t
    added_at counts₁ A t h = omega (arith, A.each t h, T.each t h, one (bit_of (acted_before v s.mask) t))
      where
        one : (b : ℕ) → b * 1 ≡ b
        one b = omega arith

    stopped_size : length z'.steps ≡ length z.steps
    stopped_size = by v S
      where
        by : (w : Verdict) → StoppedRow z w z' → length z'.steps ≡ length z.steps
        by Passed h = absurd h
        by (Race at o k c) B = ap length B.counted ∙ all_stepped_size z.steps B.acted
        by (GroupRace at g k c) B = ap length B.counted ∙ all_stepped_size z.steps B.acted
        by (Outside at c) B = ap length B.counted ∙ all_stepped_size z.steps B.acted
        by (Common at c) B = ap length B.counted ∙ all_stepped_size z.steps B.acted
        by (Diverged at o) e = ap length e
        by Spent h = absurd h

    pub tally_stop_room : (counts₁ : List ℕ) → Added (acted_before v s.mask) 1 counts counts₁ → s.rows ≤ 1000000 → Roomy s.mask s.since counts₁
    tally_stop_room counts₁ A r = record { size = A.size; each = λ t h. omega (arith, added_at counts₁ A t h, stopped_at t, T.few t) }

    pub tally_stop : (counts₁ counts₂ : List ℕ) → Added (acted_before v s.mask) 1 counts counts₁ → Added s.mask s.since counts₁ counts₂
        → counts₂ ≡ over z'.steps (replicate 32 0)
    tally_stop counts₁ counts₂ A B =
        counts_are z'.steps counts₂ (omega (arith, stopped_size)) B.size (λ t h. B.each t h ∙ added_at counts₁ A t h ∙ sym (stopped_at t))
