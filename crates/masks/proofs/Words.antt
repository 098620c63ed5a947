-- Masks as words: what the code's bit operations and counts are of them. Assumes nothing.
use mathlib.Core.Path.{◌≡◌, refl, ◌∙◌, ap, ap₂}
use mathlib.Core.List.{[], ◌∷◌, map}
use mathlib.Core.Bool.{Bool, true, false, cond, not, ◌&&◌, ◌||◌, true≢false, false≢true}
use Prim.Native.Nat.{ℕ, zero, suc, ◌+◌, ◌-◌, ◌*◌, ◌/◌, ◌%◌, ◌^◌, ◌<◌, ◌≤◌, min, max}
use native.Mathlib.Nat.{mod-eq_of_lt}
use native.Mathlib.Omega.{arith}
use lib.Bits.{bit_and, bit_or, and_step, or_step, and_zero_l, and_zero_r, or_zero_l, or_zero_r, and_mask}
use lib.Pow.{pow-lt, pow_mono, pow_pos}
use lib.Count.{count_trailing_zeros, under}
use lib.ListN.{length, set, replicate}
use Rattle.spec.specs.Mask.{Mask, mask_word, has, any, full, minus, union, lowest}

bit_small : (b : Bool) → cond b 1 0 ≤ 1
bit_small true = omega arith
bit_small false = omega arith

pub word_half : (b : Bool) (m : Mask) → mask_word (b ∷ m) / 2 ≡ mask_word m
unfolding mask_word
word_half b m = omega (arith, bit_small b)

pub word_odd : (b : Bool) (m : Mask) → mask_word (b ∷ m) % 2 ≡ cond b 1 0
unfolding mask_word
word_odd b m = omega (arith, bit_small b)

join : (k : ℕ) (b c : Bool) → k * 2 + max (cond b 1 0) (cond c 1 0) ≡ cond (b || c) 1 0 + 2 * k
join k true true = omega arith
join k true false = omega arith
join k false true = omega arith
join k false false = omega arith

pub word_or : (m k : Mask) → bit_or (mask_word m) (mask_word k) ≡ mask_word (union m k)
unfolding union mask_word
word_or [] k = or_zero_l (mask_word k)
word_or (b ∷ m) [] = or_zero_r (mask_word (b ∷ m))
word_or (b ∷ m) (c ∷ k) =
    or_step (mask_word (b ∷ m)) (mask_word (c ∷ k))
    ∙ ap₂ (λ x y. x * 2 + y) (ap₂ bit_or (word_half b m) (word_half c k) ∙ word_or m k) (ap₂ max (word_odd b m) (word_odd c k))
    ∙ join (mask_word (union m k)) b c

pow_half : (t : ℕ) → 2 ^ suc t / 2 ≡ 2 ^ t
pow_half t = omega arith

pow_even : (t : ℕ) → 2 ^ suc t % 2 ≡ 0
pow_even t = omega arith

pub word_set : (m : Mask) (t : ℕ) → t < length m → bit_or (mask_word m) (2 ^ t) ≡ mask_word (set m t true)
unfolding mask_word
word_set [] t l = absurd (omega arith)
word_set (b ∷ m) zero l =
    or_step (mask_word (b ∷ m)) 1 ∙ ap₂ (λ x y. x * 2 + max y 1) (or_zero_r (mask_word (b ∷ m) / 2) ∙ word_half b m) (word_odd b m) ∙ one b (mask_word m)
  where
    one : (b : Bool) (k : ℕ) → k * 2 + max (cond b 1 0) 1 ≡ 1 + 2 * k
    one true k = omega arith
    one false k = omega arith
word_set (b ∷ m) (suc t) l =
    or_step (mask_word (b ∷ m)) (2 ^ suc t)
    ∙ ap₂ (λ x y. x * 2 + y) (ap₂ bit_or (word_half b m) (pow_half t) ∙ word_set m t (omega arith)) (ap₂ max (word_odd b m) (pow_even t))
    ∙ old b (mask_word (set m t true))
  where
    old : (b : Bool) (k : ℕ) → k * 2 + max (cond b 1 0) 0 ≡ cond b 1 0 + 2 * k
    old true k = omega arith
    old false k = omega arith

-- The test of one bit.
pub word_has : (m : Mask) (t : ℕ) → bit_and (mask_word m) (2 ^ t) ≡ cond (has m t) (2 ^ t) 0
unfolding mask_word has
word_has [] t = and_zero_l (2 ^ t)
word_has (b ∷ m) zero =
    and_step (mask_word (b ∷ m)) 1 ∙ ap₂ (λ x y. x * 2 + min y 1) (and_zero_r (mask_word (b ∷ m) / 2)) (word_odd b m) ∙ one b
  where
    one : (b : Bool) → 0 * 2 + min (cond b 1 0) 1 ≡ cond b 1 0
    one true = omega arith
    one false = omega arith
word_has (b ∷ m) (suc t) =
    and_step (mask_word (b ∷ m)) (2 ^ suc t)
    ∙ ap₂ (λ x y. x * 2 + y) (ap₂ bit_and (word_half b m) (pow_half t) ∙ word_has m t) (ap₂ min (word_odd b m) (pow_even t))
    ∙ old b (has m t)
  where
    grow : (k : ℕ) → 2 ^ t * 2 + min k 0 ≡ 2 ^ suc t
    grow k = omega arith

    old : (b c : Bool) → cond c (2 ^ t) 0 * 2 + min (cond b 1 0) 0 ≡ cond c (2 ^ suc t) 0
    old true true = grow 1
    old true false = omega arith
    old false true = grow 0
    old false false = omega arith

twice : (b : Bool) (m : Mask) → 2 ^ length (b ∷ m) ≡ 2 * 2 ^ length m
twice b m = let z : (k : ℕ) → 2 ^ suc k ≡ 2 * 2 ^ k = (λ k. omega arith) in z (length m)

pub word_lt : (m : Mask) → mask_word m < 2 ^ length m
unfolding mask_word
word_lt [] = omega arith
word_lt (b ∷ m) = omega (arith, bit_small b, word_lt m, twice b m)

pub word_below : (m : Mask) (w : ℕ) → length m ≤ w → mask_word m < 2 ^ w
word_below m w l = omega (arith, word_lt m, pow_mono {i = length m} {j = w} l)

-- all digits
whole : (m : Mask) (w : ℕ) → length m ≤ w → bit_and (mask_word m) (2 ^ w - 1) ≡ mask_word m
whole m w l = and_mask (mask_word m) w ∙ mod-eq_of_lt (word_below m w l)

meet : (k : ℕ) (b c : Bool) → k * 2 + min (cond b 1 0) (1 - cond c 1 0) ≡ cond (b && not c) 1 0 + 2 * k
meet k true true = omega arith
meet k true false = omega arith
meet k false true = omega arith
meet k false false = omega arith

rest_half : (w k : ℕ) (c : Bool) → k < 2 ^ w → (2 ^ suc w - 1 - (cond c 1 0 + 2 * k)) / 2 ≡ 2 ^ w - 1 - k
rest_half w k true h = omega arith
rest_half w k false h = omega arith

rest_odd : (w k : ℕ) (c : Bool) → k < 2 ^ w → (2 ^ suc w - 1 - (cond c 1 0 + 2 * k)) % 2 ≡ 1 - cond c 1 0
rest_odd w k true h = omega arith
rest_odd w k false h = omega arith

pub word_minus : (m k : Mask) (w : ℕ) → length m ≤ w → length k ≤ w → bit_and (mask_word m) (2 ^ w - 1 - mask_word k) ≡ mask_word (minus m k)
unfolding mask_word minus
word_minus [] k w l h = and_zero_l (2 ^ w - 1 - mask_word k)
word_minus (b ∷ m) [] w l h = ap (bit_and (mask_word (b ∷ m))) (let z : 2 ^ w - 1 - 0 ≡ 2 ^ w - 1 = omega arith in z) ∙ whole (b ∷ m) w l
word_minus (b ∷ m) (c ∷ k) zero l h = absurd (omega arith)
word_minus (b ∷ m) (c ∷ k) (suc w) l h =
    and_step (mask_word (b ∷ m)) (2 ^ suc w - 1 - mask_word (c ∷ k))
    ∙ ap₂ (λ x y. x * 2 + y)
    (ap₂ bit_and (word_half b m) (rest_half w (mask_word k) c (word_below k w (omega arith))) ∙ word_minus m k w (omega arith) (omega arith))
    (ap₂ min (word_odd b m) (rest_odd w (mask_word k) c (word_below k w (omega arith))))
    ∙ meet (mask_word (minus m k)) b c

off_even : (k : ℕ) (b : Bool) → k * 2 + min (cond b 1 0) 0 ≡ 0 + 2 * k
off_even k true = omega arith
off_even k false = omega arith

off_odd : (k : ℕ) (b : Bool) → k * 2 + min (cond b 1 0) 1 ≡ cond b 1 0 + 2 * k
off_odd k true = omega arith
off_odd k false = omega arith

but_half : (w t : ℕ) → 2 ^ t < 2 ^ w → (2 ^ suc w - 1 - 2 ^ suc t) / 2 ≡ 2 ^ w - 1 - 2 ^ t
but_half w t h = omega arith

but_odd : (w t : ℕ) → 2 ^ t < 2 ^ w → (2 ^ suc w - 1 - 2 ^ suc t) % 2 ≡ 1
but_odd w t h = omega arith

-- without thread t
pub word_except : (m : Mask) (w t : ℕ) → length m ≤ w → t < w → bit_and (mask_word m) (2 ^ w - 1 - 2 ^ t) ≡ mask_word (set m t false)
unfolding mask_word
word_except [] w t l h = and_zero_l (2 ^ w - 1 - 2 ^ t)
word_except (b ∷ m) zero t l h = absurd (omega arith)
word_except (b ∷ m) (suc w) zero l h =
    and_step (mask_word (b ∷ m)) (2 ^ suc w - 1 - 1)
    ∙ ap₂ (λ x y. x * 2 + y)
    (ap₂ bit_and (word_half b m) (let z : (2 ^ suc w - 1 - 1) / 2 ≡ 2 ^ w - 1 = omega (arith, pow_pos w) in z) ∙ whole m w (omega arith))
    (ap₂ min (word_odd b m) (let z : (2 ^ suc w - 1 - 1) % 2 ≡ 0 = omega (arith, pow_pos w) in z))
    ∙ off_even (mask_word m) b
word_except (b ∷ m) (suc w) (suc t) l h =
    let p : 2 ^ t < 2 ^ w = pow-lt {i = t} {j = w} (omega arith) in
    and_step (mask_word (b ∷ m)) (2 ^ suc w - 1 - 2 ^ suc t)
    ∙ ap₂ (λ x y. x * 2 + y)
    (ap₂ bit_and (word_half b m) (but_half w t p) ∙ word_except m w t (omega arith) (omega arith))
    (ap₂ min (word_odd b m) (but_odd w t p))
    ∙ off_odd (mask_word (set m t false)) b

pub any_none : (m : Mask) → mask_word m ≡ 0 → any m ≡ false
unfolding mask_word any
any_none [] h = refl
any_none (true ∷ m) h = absurd (omega arith)
any_none (false ∷ m) h = any_none m (omega arith)

pub any_some : (m : Mask) → (mask_word m ≡ 0 → ⊥) → any m ≡ true
unfolding mask_word any
any_some [] h = absurd (h refl)
any_some (true ∷ m) h = refl
any_some (false ∷ m) h = any_some m (λ e. h (omega arith))

pub lowest_is : (m : Mask) (w : ℕ) → length m ≤ w → any m ≡ true → count_trailing_zeros w (mask_word m) ≡ lowest m
unfolding count_trailing_zeros any lowest
lowest_is [] w l h = absurd (false≢true h)
lowest_is (b ∷ m) zero l h = absurd (omega arith)
lowest_is (true ∷ m) (suc w) l h = ap₂ under (word_odd true m) (ap (count_trailing_zeros w) (word_half true m))
lowest_is (false ∷ m) (suc w) l h = ap₂ under (word_odd false m) (ap (count_trailing_zeros w) (word_half false m) ∙ lowest_is m w (omega arith) h)

pub word_all : (n : ℕ) → mask_word (replicate n true) ≡ 2 ^ n - 1
unfolding mask_word
word_all zero = refl
word_all (suc n) = omega (arith, word_all n, pow_pos n)

pub full_is : (m : Mask) → mask_word m ≡ 2 ^ length m - 1 → full m ≡ true
unfolding full mask_word
full_is [] h = refl
full_is (true ∷ m) h = full_is m (omega (arith, pow_pos (length m), twice true m))
full_is (false ∷ m) h = absurd (omega (arith, word_lt m, pow_pos (length m), twice false m))

pub not_full : (m : Mask) → (mask_word m ≡ 2 ^ length m - 1 → ⊥) → full m ≡ false
unfolding full mask_word
not_full [] h = absurd (h refl)
not_full (true ∷ m) h = not_full m (λ e. h (omega (arith, pow_pos (length m), twice true m)))
not_full (false ∷ m) h = refl

pub rest_any : (m : Mask) → full m ≡ false → any (map not m) ≡ true
unfolding full any
rest_any [] h = absurd (true≢false h)
rest_any (true ∷ m) h = rest_any m h
rest_any (false ∷ m) h = refl

pub rest_is : (m : Mask) → minus (replicate (length m) true) m ≡ map not m
unfolding minus
rest_is [] = refl
rest_is (b ∷ m) = ap (λ x. not b ∷ x) (rest_is m)

pub rest_size : (m : Mask) → length (map not m) ≡ length m
rest_size [] = refl
rest_size (b ∷ m) = ap suc (rest_size m)
