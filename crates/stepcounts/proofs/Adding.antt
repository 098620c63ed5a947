-- Steps added to the counts of a mask's threads. Assumes nothing.
use mathlib.Core.Path.{◌≡◌, refl, sym, ◌∙◌, ap, subst}
use mathlib.Core.Logic.{◌⊎◌, inl, inr}
use mathlib.Core.List.{List}
use Prim.Native.Nat.{ℕ, ◌+◌, ◌-◌, ◌*◌, ◌/◌, ◌%◌, ◌^◌, ◌<◌, ◌≤◌}
use native.Mathlib.Nat.{zero-div, div-eq_of_lt, lt_of_lt_of_le, mod-lt}
use native.Mathlib.Omega.{arith}
use native.Mathlib.Decide.{ℕ_discrete}
use mathlib.Core.Bool.{Bool, true, false, cond}
use lib.Dec.{eqb}
use lib.Pow.{field, mod-mod-pow, pow_mono, pow_pos}
use lib.ListN.{length, get_or}
use Rattle.spec.proofs.Laws.{lt_or_le}
use Rattle.layout.specs.declared.State.{State}
use Rattle.layout.specs.Represents.{with_since}
use Rattle.layout.specs.Counting.{bit_of, steps_of, Roomy, Added, Settled, own_step}

-- A bit times a number.
pub bit_zero : (b k : ℕ) → b ≡ 0 → b * k ≡ 0
bit_zero b k e = ap (λ (x : ℕ). x * k) e ∙ (let z : 0 * k ≡ 0 = omega arith in z)

pub bit_one : (b k : ℕ) → b ≡ 1 → b * k ≡ k
bit_one b k e = ap (λ (x : ℕ). x * k) e ∙ (let z : 1 * k ≡ k = omega arith in z)

pub bit_add : (b j k : ℕ) → b < 2 → b * (j + k) ≡ b * j + b * k
bit_add b j k h = by (ℕ_discrete b 0)
  where
    by : Dec (b ≡ 0) → b * (j + k) ≡ b * j + b * k
    by (yes e) = omega (arith, bit_zero b (j + k) e, bit_zero b j e, bit_zero b k e)
    by (no n) = let o : b ≡ 1 = omega (arith, n) in omega (arith, bit_one b (j + k) o, bit_one b j o, bit_one b k o)

pub bit_most : (b k : ℕ) → b < 2 → b * k ≤ k
bit_most b k h = by (ℕ_discrete b 0)
  where
    by : Dec (b ≡ 0) → b * k ≤ k
    by (yes e) = omega (arith, bit_zero b k e)
    by (no n) = omega (arith, bit_one b k (omega (arith, n)))

-- The first t counts are added to.
pub record Adding (mask k : ℕ) (counts counts' : List ℕ) (t : ℕ) : Type 0 where
  pub size : length counts' ≡ 32
  pub done : (j : ℕ) → j < t → get_or counts' j 0 ≡ steps_of mask k counts j
  pub rest : (j : ℕ) → t ≤ j → get_or counts' j 0 ≡ get_or counts j 0

-- Nobody's steps.
pub nobody_bit : (t : ℕ) → bit_of 0 t ≡ 0
nobody_bit t = ap (λ (x : ℕ). x % 2) (zero-div (2 ^ t))

pub added_nobody : (k : ℕ) (counts : List ℕ) → length counts ≡ 32 → Added 0 k counts counts
added_nobody k counts l =
    record { size = l; each = λ t h. let z : get_or counts t 0 ≡ get_or counts t 0 + bit_of 0 t * k = omega (arith, bit_zero (bit_of 0 t) k (nobody_bit t)) in z }

-- Room for as many is room for fewer.
pub roomy_fewer : (mask j k : ℕ) (counts : List ℕ) → j ≤ k → Roomy mask k counts → Roomy mask j counts
roomy_fewer mask j k counts h r =
    record {
      size = r.size;
      each = λ t l. omega (arith, r.each t l, bit_add (bit_of mask t) j (k - j) (omega arith), ap (λ (i : ℕ). bit_of mask t * i) (let e : j + (k - j) ≡ k = omega arith in e));
    }

-- Bits of a mask below thread t, and from t on.
pub low_bit : (m t j : ℕ) → j < t → bit_of (m % 2 ^ t) j ≡ bit_of m j
low_bit m t j h =
    ap (λ (k : ℕ). bit_of (m % 2 ^ k) j) (let e : t ≡ t - j - 1 + 1 + j = omega arith in e) ∙ ap (λ (x : ℕ). x % 2) (field m (t - j - 1 + 1) j)
    ∙ mod-mod-pow (m / 2 ^ j) (t - j - 1) 1

pub high_bit : (m t j : ℕ) → t ≤ j → bit_of (m % 2 ^ t) j ≡ 0
high_bit m t j h = ap (λ (x : ℕ). x % 2) (div-eq_of_lt (lt_of_lt_of_le (mod-lt m (pow_pos t)) (pow_mono {i = t} {j = j} h)))

-- Room for a mask is room for those of it below a thread.
pub roomy_below : (mask k t low : ℕ) (counts : List ℕ) → low ≡ mask % 2 ^ t → Roomy mask k counts → Roomy low k counts
roomy_below mask k t low counts e r = rw e (record { size = r.size; each = λ j l. by j l (lt_or_le j t) })
  where
    by : (j : ℕ) → j < 32 → (j < t) ⊎ (t ≤ j) → steps_of (mask % 2 ^ t) k counts j < 4294967296
    by j l (inl h) = subst (λ (b : ℕ). get_or counts j 0 + b * k < 4294967296) (sym (low_bit mask t j h)) (r.each j l)
    by j l (inr h) = omega (arith, r.each j l, bit_zero (bit_of (mask % 2 ^ t) j) k (high_bit mask t j h))

pub own_few : (op : ℕ) → own_step op ≤ 1
unfolding own_step
own_few op = by (eqb op 34)
  where
    by : (b : Bool) → cond b 1 0 ≤ 1
    by true = omega arith
    by false = omega arith

-- What a change of the mask leaves.
pub settled_same : (op mask : ℕ) (s : State) (counts : List ℕ) → s.mask ≡ mask → 1 ≤ s.since → length counts ≡ 32 → Settled op mask s s counts counts
settled_same op mask s counts e h l =
    record {
      state_is = refl;
      since_few = omega arith;
      size = l;
      each = λ t q. ap (λ (m : ℕ). steps_of m s.since counts t) e
          ∙ (let z : steps_of mask s.since counts t ≡ steps_of mask (s.since - own_step op) counts t + bit_of mask t * own_step op =
          omega (
            arith,
            bit_add (bit_of mask t) (s.since - own_step op) (own_step op) (omega arith),
            ap (λ (i : ℕ). bit_of mask t * i) (let y : s.since - own_step op + own_step op ≡ s.since = omega (arith, own_few op) in y),
          ) in z)
          ∙ ap (λ (m : ℕ). steps_of mask (s.since - own_step op) counts t + bit_of m t * own_step op) (sym e);
    }

pub settled_added : (op mask own : ℕ) (s : State) (counts counts' : List ℕ) → own ≡ own_step op → own ≤ s.since → Added mask (s.since - own) counts counts'
    → Settled op mask s (with_since s own) counts counts'
settled_added op mask own s counts counts' e h A =
    record {
      state_is = refl;
      since_few = h;
      size = A.size;
      each = λ t q. ap (λ (x : ℕ). x + bit_of s.mask t * own) (A.each t q)
          ∙ ap (λ (k : ℕ). steps_of mask (s.since - k) counts t + bit_of s.mask t * k) e;
    }
