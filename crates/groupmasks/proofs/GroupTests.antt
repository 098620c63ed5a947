-- The words that the code's functions on the group masks come to, by the op. Assumes nothing.
use mathlib.Core.Path.{◌≡◌, refl, sym, ◌∙◌, ap, ap₂}
use mathlib.Core.List.{List}
use mathlib.Core.Bool.{false, cond}
use Prim.Native.Nat.{ℕ, ◌+◌, ◌-◌, ◌*◌, ◌<◌}
use native.Mathlib.Omega.{arith}
use borrow.Author.Tests.{eq-eqb, ne_eqb}
use lib.Bits.{bit_and, bit_or, or_zero_l, or_zero_r}
use lib.ListN.{length, get_or, set}
use Rattle.spec.specs.Access.{Mode, reads, writes, adds, agree}
use Rattle.spec.specs.Log.{shown_kind}
use Rattle.layout.specs.Logging.{mode_of, rank, place_of, word_of, has_bit, mask_entered}
use Rattle.layout.specs.Shared.{GroupAsks, groups_met, rivals_word, group_kind_word}
use Rattle.layout.proofs.LogTests.{word_reads, word_writes}

-- The groups that an access meets: by a LOAD writers and adders, by a STORE all, by an ATOMIC ADD writers and readers.
module _ (op k i bit : ℕ) (masks : List ℕ) where
  abbrev beside : ℕ → ℕ
  beside w = bit_and w (4294967295 - bit)

  abbrev writers : ℕ
  writers = get_or masks (k + i) 0

  abbrev adders : ℕ
  adders = get_or masks (2 * k + i) 0

  abbrev readers : ℕ
  readers = get_or masks i 0

  adders_are : word_of (rank adds) k i masks ≡ adders
  unfolding word_of place_of rank
  adders_are = refl

  pub rivals_load : op ≡ 16 → rivals_word op k i bit masks ≡ beside (bit_or writers adders)
  unfolding rivals_word groups_met mode_of agree
  rivals_load e = rw (eq-eqb op 16 e) (ap₂ (λ (w y : ℕ). beside (bit_or w y)) (word_writes k i masks) (or_zero_r (word_of (rank adds) k i masks) ∙ adders_are))

  pub rivals_store : op ≡ 17 → rivals_word op k i bit masks ≡ beside (bit_or writers (bit_or adders readers))
  unfolding rivals_word groups_met mode_of agree
  rivals_store e =
      rw (ne_eqb op 16 (λ z. omega arith), eq-eqb op 17 e)
      (ap₂ (λ (w y : ℕ). beside (bit_or w y)) (word_writes k i masks) (ap₂ bit_or adders_are (word_reads k i masks)))

  pub rivals_add : op ≡ 18 → rivals_word op k i bit masks ≡ beside (bit_or writers readers)
  unfolding rivals_word groups_met mode_of agree
  rivals_add e =
      rw (ne_eqb op 16 (λ z. omega arith), ne_eqb op 17 (λ z. omega arith))
      (ap₂ (λ (w y : ℕ). beside (bit_or w y)) (word_writes k i masks) (or_zero_l (word_of (rank reads) k i masks) ∙ word_reads k i masks))

-- The kind of a race, by the other group's bits: adders are not looked at where they agree with the access.
pub kind_is : (op k i u : ℕ) (masks : List ℕ)
    → shown_kind (has_bit u (get_or masks (k + i) 0)) (has_bit u (get_or masks (2 * k + i) 0)) (mode_of op) ≡ group_kind_word op k i u masks
unfolding group_kind_word groups_met
kind_is op k i u masks =
    sym (ap₂ (λ w d. shown_kind (has_bit u w) (has_bit u d) (mode_of op)) (word_writes k i masks) (adders_are op k i 0 masks)) ∙ by (mode_of op)
  where
    wrote : ℕ
    wrote = word_of (rank writes) k i masks

    added : ℕ
    added = word_of (rank adds) k i masks

    by : (m : Mode) → shown_kind (has_bit u wrote) (has_bit u added) m
        ≡ shown_kind (has_bit u (cond (agree false writes m) 0 wrote)) (has_bit u (cond (agree false adds m) 0 added)) m
    by reads = unfold agree shown_kind in refl
    by writes = unfold agree shown_kind in refl
    by adds = unfold agree shown_kind in refl

-- The mask that an access enters is one of the buffer's words.
pub place_inside : (op k i : ℕ) (masks : List ℕ) (p : ℕ) → GroupAsks op k i masks → p ≡ place_of (rank (mode_of op)) k i → (p < length masks) × (p < 3072)
unfolding place_of rank
place_inside op k i masks p A e = by (mode_of op) e
  where
    by : (m : Mode) → p ≡ place_of (rank m) k i → (p < length masks) × (p < 3072)
    by reads e = (omega (arith, A.inside, A.sized), omega (arith, A.inside, A.few))
    by writes e = (omega (arith, A.inside, A.sized), omega (arith, A.inside, A.few))
    by adds e = (omega (arith, A.inside, A.sized), omega (arith, A.inside, A.few))

pub entered_by : (op k i bit : ℕ) (masks : List ℕ) (p : ℕ) → p ≡ place_of (rank (mode_of op)) k i → set masks p (bit_or (get_or masks p 0) bit) ≡ mask_entered op k i bit masks
unfolding mask_entered word_of
entered_by op k i bit masks p e = ap (λ (z : ℕ). set masks z (bit_or (get_or masks z 0) bit)) e
