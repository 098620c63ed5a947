-- A loop that stores the lanes of one register one after the other: its start, its turn and its end; and the lanes of a mask. Assumes nothing.
use mathlib.Core.Path.{◌≡◌, refl, sym, ◌∙◌, ap, subst}
use mathlib.Core.List.{List}
use mathlib.Core.Bool.{true, false}
use Prim.Native.Nat.{ℕ, suc, ◌+◌, ◌-◌, ◌*◌, ◌/◌, ◌%◌, ◌^◌, ◌<◌, ◌≤◌}
use native.Mathlib.Nat.{not-suc-le-zero}
use native.Mathlib.Omega.{arith}
use native.Mathlib.Decide.{ℕ_discrete}
use borrow.Author.Tests.{eq-eqb, ne_eqb}
use lib.Dec.{eqb}
use lib.Pow.{pow_pos, ones_split, ones_lt, high}
use lib.ListN.{length, set, length-set}
use lib.Seq.{get_or-set_same, get_or-set_other}
use Rattle.layout.specs.Memory.{Puts, lane, stored}
use Rattle.compute.specs.RowLanes.{given, Stores}

module _ {d : ℕ} {R : ℕ → ℕ → Type 0} {regs regs' : List ℕ} {t : ℕ} (S : Stores d R regs regs' t) where
  -- The lane that is next is as it was.
  pub stores_old : lane d regs' t ≡ lane d regs t
  stores_old = S.above (d * 32 + t) (λ j k e. omega arith)

  -- One more lane is stored.
  pub stores_more : (x : ℕ) → d < 16 → length regs ≡ 512 → t < 32 → R t x → Stores d R regs (set regs' (d * 32 + t) x) (t + 1)
  stores_more x l s h r =
      record {
        size = length-set regs' (d * 32 + t) x ∙ S.size;
        below = λ j q. by j q (ℕ_discrete j t);
        above = λ k n. get_or-set_other regs' (d * 32 + t) k x 0 (λ e. n t (omega arith) e) ∙ S.above k (λ j q e. n j (omega arith) e);
      }
    where
      by : (j : ℕ) → j < t + 1 → Dec (j ≡ t) → R j (lane d (set regs' (d * 32 + t) x) j)
      by j q (yes e) =
          subst (λ i. R i (lane d (set regs' (d * 32 + t) x) i)) (sym e)
          (subst (R t) (sym (get_or-set_same regs' (d * 32 + t) x 0 (omega (arith, S.size)))) r)
      by j q (no n) = subst (R j) (sym (get_or-set_other regs' (d * 32 + t) (d * 32 + j) x 0 (λ e. n (omega arith)))) (S.below j (omega (arith, n)))

  -- What each lane is told to hold it holds.
  pub stores_puts : (F : ℕ → ℕ) → t ≤ 32 → ((j x : ℕ) → j < t → R j x → x ≡ F j) → Puts d F regs regs' t
  stores_puts F l told = record { few = l; size = S.size; below = λ j h. told j _ h (S.below j h); above = S.above }

module _ (d : ℕ) (F : ℕ → ℕ) (regs : List ℕ) where
  pub puts_none : Puts d F regs regs 0
  puts_none = record { few = omega arith; size = refl; below = λ j h. absurd (not-suc-le-zero h); above = λ i h. refl }

  module _ (regs' : List ℕ) (t : ℕ) (P : Puts d F regs regs' t) where
    -- The lane that is next is as it was.
    pub puts_old : lane d regs' t ≡ lane d regs t
    puts_old = P.above (d * 32 + t) (λ j k e. omega arith)

    pub puts_more : (x : ℕ) → d < 16 → length regs ≡ 512 → t < 32 → x ≡ F t → Puts d F regs (set regs' (d * 32 + t) x) (t + 1)
    puts_more x l s h ex =
        stores_puts (stores_more (record { size = P.size; below = P.below; above = P.above }) x l s h ex) F (omega arith) (λ j y k e. e)

-- Two that put the same into the lanes of n threads agree there.
pub puts_agree : (d n : ℕ) (F G : ℕ → ℕ) (regs ys zs : List ℕ) → n ≤ 32 → Puts d F regs ys 32 → Puts d G regs zs n
    → ((t : ℕ) → t < n → F t ≡ G t) → (t r : ℕ) → t < n → lane r ys t ≡ lane r zs t
puts_agree d n F G regs ys zs l P Q same t r h = by (ℕ_discrete r d)
  where
    by : Dec (r ≡ d) → lane r ys t ≡ lane r zs t
    by (yes e) = ap (λ i. lane i ys t) e ∙ P.below t (omega arith) ∙ same t h ∙ sym (Q.below t h) ∙ ap (λ i. lane i zs t) (sym e)
    by (no ne) = P.above (r * 32 + t) (λ j k e. ne (omega arith)) ∙ sym (Q.above (r * 32 + t) (λ j k e. ne (omega arith)))

-- What is put may be told in another way.
pub puts_same : (d : ℕ) (F G : ℕ → ℕ) (regs ys : List ℕ) → Puts d F regs ys 32 → ((t : ℕ) → t < 32 → F t ≡ G t) → Puts d G regs ys 32
puts_same d F G regs ys P same = record { few = P.few; size = P.size; below = λ j h. P.below j h ∙ same j h; above = P.above }

-- A lane, by whether it is on.
pub given_on : (on x d : ℕ) (regs : List ℕ) (t : ℕ) → on ≡ 1 → x ≡ given on x d regs t
given_on on x d regs t e = sym (rw (eq-eqb on 1 e))

-- Every bit of 2 ^ n - 1 is 1.
all_bits : (j t : ℕ) → (2 ^ (suc j + t) - 1) / 2 ^ t % 2 ≡ 1
all_bits j t =
    ap (λ z. z / 2 ^ t % 2) (ones_split (suc j) t) ∙ ap (λ z. z % 2) (high (2 ^ suc j - 1) t (ones_lt t))
    ∙ (let e : (2 ^ suc j - 1) % 2 ≡ 1 = omega (arith, pow_pos j) in e)

pub all_on : (n mask t : ℕ) → mask ≡ 2 ^ n - 1 → t < n → mask / 2 ^ t % 2 ≡ 1
all_on n mask t e h =
    ap (λ z. z / 2 ^ t % 2) (e ∙ ap (λ z. 2 ^ z - 1) (let q : n ≡ suc (n - 1 - t) + t = omega arith in q)) ∙ all_bits (n - 1 - t) t

-- Whether a lane is stored to.
module _ (n mask t : ℕ) where
  pub stored_all : mask ≡ 2 ^ n - 1 → stored n mask t ≡ true
  unfolding stored
  stored_all e = rw (eq-eqb mask (2 ^ n - 1) e)

  pub stored_some : (mask ≡ 2 ^ n - 1 → ⊥) → stored n mask t ≡ eqb (mask / 2 ^ t % 2) 1
  unfolding stored
  stored_some ne = rw (ne_eqb mask (2 ^ n - 1) ne)

  pub stored_on : mask / 2 ^ t % 2 ≡ 1 → stored n mask t ≡ true
  stored_on q = by (ℕ_discrete mask (2 ^ n - 1))
    where
      by : Dec (mask ≡ 2 ^ n - 1) → stored n mask t ≡ true
      by (yes e) = stored_all e
      by (no ne) = stored_some ne ∙ eq-eqb (mask / 2 ^ t % 2) 1 q

  pub stored_off : t < n → (mask / 2 ^ t % 2 ≡ 1 → ⊥) → stored n mask t ≡ false
  stored_off h q = stored_some (λ e. q (all_on n mask t e h)) ∙ ne_eqb (mask / 2 ^ t % 2) 1 q
