-- The lanes in which a register is 0, found one after the other, and the threads of a mask without them. Assumes nothing.
use mathlib.Core.Path.{◌≡◌, refl, sym, ◌∙◌, ap, ap₂, subst}
use mathlib.Core.List.{List, [], ◌∷◌, ◌++◌}
use mathlib.Core.Bool.{Bool, true, false, cond, not, ◌&&◌}
use Prim.Native.Nat.{ℕ, zero, suc, ◌+◌, ◌-◌, ◌*◌, ◌%◌, ◌^◌, ◌<◌, ◌≤◌}
use native.Mathlib.Nat.{one-mul}
use native.Mathlib.Numerals.{add-one}
use native.Mathlib.Omega.{arith}
use lib.Bits.{bit_and, bit_or, or_shifted_r}
use lib.ListN.{length, get_or, drop}
use lib.Seq.{drop-cons}
use Rattle.spec.specs.Mask.{Mask, mask_word, minus, holding, nonzero}
use Rattle.masks.proofs.Bits.{one_bit}
use Rattle.masks.proofs.Words.{word_lt, word_minus}
use Rattle.layout.specs.Memory.{Regs, zeros, ZerosAre, holding_word}

snoc : (m : Mask) (c : Bool) → mask_word (m ++ (c ∷ [])) ≡ mask_word m + cond c (2 ^ length m) 0
unfolding mask_word
snoc [] true = refl
snoc [] false = refl
snoc (b ∷ m) true = omega (arith, snoc m true, twice)
  where
    twice : 2 ^ length (b ∷ m) ≡ 2 * 2 ^ length m
    twice = let z : (k : ℕ) → 2 ^ suc k ≡ 2 * 2 ^ k = (λ k. omega arith) in z (length m)
snoc (b ∷ m) false = omega (arith, snoc m false)

is_zero : (v : ℕ) → v ≡ 0 → not (nonzero v) ≡ true
unfolding nonzero
is_zero zero e = refl
is_zero (suc v) e = absurd (omega arith)

is_more : (v : ℕ) → (v ≡ 0 → ⊥) → not (nonzero v) ≡ false
unfolding nonzero
is_more zero ne = absurd (ne refl)
is_more (suc v) ne = refl

module _ (a : ℕ) (regs : List ℕ) where
  abbrev lane : ℕ → ℕ
  lane t = get_or regs (a * 32 + t) 0

  zeros_size : (i k : ℕ) → length (zeros a regs i k) ≡ k
  unfolding zeros
  zeros_size i zero = refl
  zeros_size i (suc k) = ap suc (zeros_size (suc i) k)

  zeros_snoc : (i k : ℕ) → zeros a regs i k ++ (not (nonzero (lane (i + k))) ∷ []) ≡ zeros a regs i (suc k)
  unfolding zeros
  zeros_snoc i zero = ap (λ (j : ℕ). not (nonzero (lane j)) ∷ []) (let e : i + 0 ≡ i = omega arith in e)
  zeros_snoc i (suc k) =
      ap (λ (m : Mask). not (nonzero (lane i)) ∷ m)
      (ap (λ (j : ℕ). zeros a regs (suc i) k ++ (not (nonzero (lane j)) ∷ [])) (let e : i + suc k ≡ suc i + k = omega arith in e) ∙ zeros_snoc (suc i) k)

  -- The loop over the lanes: its start and its two turns.
  pub none_yet : ZerosAre a regs 0 0
  unfolding zeros mask_word
  none_yet = refl

  module _ (t z : ℕ) (Z : ZerosAre a regs t z) where
    next : (z₂ : ℕ) (c : Bool) → not (nonzero (lane t)) ≡ c → z₂ ≡ mask_word (zeros a regs 0 t) + cond c (2 ^ t) 0 → ZerosAre a regs (t + 1) z₂
    next z₂ c ec ez =
        ez
        ∙ ap (λ (k : ℕ). mask_word (zeros a regs 0 t) + cond c (2 ^ k) 0) (sym (zeros_size 0 t))
        ∙ sym (snoc (zeros a regs 0 t) c)
        ∙ ap (λ (b : Bool). mask_word (zeros a regs 0 t ++ (b ∷ []))) (sym ec)
        ∙ ap (λ (j : ℕ). mask_word (zeros a regs 0 t ++ (not (nonzero (lane j)) ∷ []))) (let q : t ≡ 0 + t = omega arith in q)
        ∙ ap mask_word (zeros_snoc 0 t ∙ ap (zeros a regs 0) (sym (add-one t)))

    pub lane_left : (z₂ : ℕ) → (lane t ≡ 0 → ⊥) → z₂ ≡ z → ZerosAre a regs (t + 1) z₂
    lane_left z₂ ne e = next z₂ false (is_more (lane t) ne) (let q : z₂ ≡ mask_word (zeros a regs 0 t) + 0 = omega (arith, e, Z) in q)

    pub lane_zero : (z₂ : ℕ) → t < 32 → lane t ≡ 0 → z₂ ≡ bit_or z ((1 * 2 ^ t) % 4294967296) → ZerosAre a regs (t + 1) z₂
    lane_zero z₂ h o e =
        let small : z < 2 ^ t = subst (λ (k : ℕ). z < 2 ^ k) (zeros_size 0 t)
        (subst (λ (y : ℕ). y < 2 ^ length (zeros a regs 0 t)) (sym Z) (word_lt (zeros a regs 0 t))) in
        next z₂ true (is_zero (lane t) o)
        (e ∙ ap (bit_or z) (one_bit t h ∙ sym (one-mul (2 ^ t))) ∙ or_shifted_r 1 t z small
        ∙ (let y : 1 * 2 ^ t + z ≡ mask_word (zeros a regs 0 t) + 2 ^ t = omega (arith, Z, one-mul (2 ^ t)) in y))

  -- The threads of a mask without them are those that hold.
  module _ (n : ℕ) (rs : List (List ℕ)) (R : Regs n rs regs) (l : a < 16) where
    twice_not : (b c : Bool) → (b && not (not c)) ≡ (b && c)
    twice_not b true = refl
    twice_not b false = refl

    without : (on : Mask) (i k : ℕ) → length on ≤ k → i + length on ≤ n → minus on (zeros a regs i k) ≡ holding a on (drop i rs)
    unfolding minus holding zeros
    without [] i k h q = refl
    without (b ∷ on) i zero h q = absurd (omega arith)
    without (b ∷ on) i (suc k) h q =
        ap₂ (λ (c : Bool) (m : Mask). c ∷ m)
        (twice_not b (nonzero (lane i)) ∙ ap (λ (v : ℕ). b && nonzero v) (R.at i a (omega arith) l))
        (without on (suc i) k (omega arith) (omega arith))
        ∙ sym (ap (holding a (b ∷ on)) (drop-cons rs i [] (omega (arith, R.threads))))

    pub holding_means : (mask : ℕ) (on : Mask) → n ≤ 32 → mask ≡ mask_word on → length on ≡ n → holding_word mask a regs ≡ mask_word (holding a on rs)
    unfolding holding_word
    holding_means mask on few em el =
        ap (λ (x : ℕ). bit_and x (4294967295 - mask_word (zeros a regs 0 32))) em
        ∙ word_minus on (zeros a regs 0 32) 32 (omega (arith, el)) (omega (arith, zeros_size 0 32))
        ∙ ap mask_word (without on 0 32 (omega (arith, el)) (omega (arith, el)))
