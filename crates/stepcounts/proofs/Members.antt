-- The counts after the threads of a mask have stepped, thread by thread. Assumes nothing.
use mathlib.Core.Path.{◌≡◌, refl, sym, ◌∙◌, ap, ap₂, subst}
use mathlib.Core.Logic.{◌⊎◌, inl, inr}
use mathlib.Core.List.{List, [], ◌∷◌, ◌++◌, cons≢nil}
use mathlib.Core.Bool.{Bool, true, false, cond}
use Prim.Native.Nat.{ℕ, zero, suc, ◌+◌, ◌-◌, ◌/◌, ◌%◌, ◌^◌, ◌<◌, ◌≤◌}
use native.Mathlib.Nat.{zero-div}
use native.Mathlib.Numerals.{one-add}
use native.Mathlib.Omega.{arith}
use borrow.Author.Tests.{ne_eqb, eq-eqb}
use lib.Pow.{shr-shr}
use lib.ListN.{length, get_or, take, get_or-eq_default}
use lib.Seq.{get_or-take}
use Rattle.spec.specs.Mask.{Mask, mask_word, has, members, members_from}
use Rattle.spec.specs.Steps.{stepped, all_stepped}
use Rattle.spec.proofs.Laws.{lt_or_le}
use Rattle.spec.proofs.StepLaws.{stepped_at, stepped_size, all_stepped_size}
use Rattle.masks.proofs.Words.{word_half, word_odd}
use Rattle.layout.specs.Counting.{bit_of}
use Rattle.stepcounts.proofs.Adding.{low_bit, high_bit}

-- A mask's bit is whether it has the thread.
pub word_bit : (m : Mask) (t : ℕ) → bit_of (mask_word m) t ≡ cond (has m t) 1 0
unfolding mask_word has
word_bit [] t = ap (λ (x : ℕ). x % 2) (zero-div (2 ^ t))
word_bit (b ∷ m) zero = ap (λ (x : ℕ). x % 2) (let z : mask_word (b ∷ m) / 1 ≡ mask_word (b ∷ m) = omega arith in z) ∙ word_odd b m
word_bit (b ∷ m) (suc t) = half (mask_word (b ∷ m)) ∙ ap (λ (x : ℕ). bit_of x t) (word_half b m) ∙ word_bit m t
  where
    half : (w : ℕ) → bit_of w (suc t) ≡ bit_of (w / 2) t
    half w = ap (λ (k : ℕ). w / 2 ^ k % 2) (sym (one-add t)) ∙ ap (λ (x : ℕ). x % 2) (sym (shr-shr w 1 t))

-- Threads below the first one do not step; the others step once where the mask has them.
below_first : (m : Mask) (k u : ℕ) (steps : List ℕ) → u < k → u < length steps → get_or (all_stepped steps (members_from k m)) u 0 ≡ get_or steps u 0
unfolding members_from all_stepped
below_first [] k u steps h l = refl
below_first (false ∷ m) k u steps h l = below_first m (suc k) u steps (omega arith) l
below_first (true ∷ m) k u steps h l =
    below_first m (suc k) u (stepped steps k) (omega arith) (omega (arith, stepped_size steps k))
    ∙ stepped_at steps k u l ∙ rw (ne_eqb k u (λ e. omega arith)) (let z : 0 + get_or steps u 0 ≡ get_or steps u 0 = omega arith in z)

from_first : (m : Mask) (k j : ℕ) (steps : List ℕ) → k + j < length steps
    → get_or (all_stepped steps (members_from k m)) (k + j) 0 ≡ cond (has m j) 1 0 + get_or steps (k + j) 0
unfolding members_from all_stepped has
from_first [] k j steps l = let z : get_or steps (k + j) 0 ≡ 0 + get_or steps (k + j) 0 = omega arith in z
from_first (false ∷ m) k zero steps l =
    below_first m (suc k) (k + 0) steps (omega arith) l ∙ (let z : get_or steps (k + 0) 0 ≡ 0 + get_or steps (k + 0) 0 = omega arith in z)
from_first (true ∷ m) k zero steps l =
    below_first m (suc k) (k + 0) (stepped steps k) (omega arith) (omega (arith, stepped_size steps k))
    ∙ stepped_at steps k (k + 0) l ∙ rw (eq-eqb k (k + 0) (omega arith)) refl
from_first (false ∷ m) k (suc j) steps l =
    ap (λ (i : ℕ). get_or (all_stepped steps (members_from (suc k) m)) i 0) (next k j) ∙ from_first m (suc k) j steps (omega arith)
    ∙ ap (λ (i : ℕ). cond (get_or m j false) 1 0 + get_or steps i 0) (sym (next k j))
  where
    next : (k j : ℕ) → k + suc j ≡ suc k + j
    next k j = omega arith
from_first (true ∷ m) k (suc j) steps l =
    ap (λ (i : ℕ). get_or (all_stepped (stepped steps k) (members_from (suc k) m)) i 0) (next k j)
    ∙ from_first m (suc k) j (stepped steps k) (omega (arith, stepped_size steps k))
    ∙ ap (λ (x : ℕ). cond (get_or m j false) 1 0 + x)
    (ap (λ (i : ℕ). get_or (stepped steps k) i 0) (sym (next k j)) ∙ stepped_at steps k (k + suc j) l
    ∙ rw (ne_eqb k (k + suc j) (λ e. omega arith)) (let z : 0 + get_or steps (k + suc j) 0 ≡ get_or steps (k + suc j) 0 = omega arith in z))
  where
    next : (k j : ℕ) → k + suc j ≡ suc k + j
    next k j = omega arith

-- Also of a thread that there is no count of.
pub stepped_by_mask : (m : Mask) (steps : List ℕ) (t : ℕ) → length m ≤ length steps
    → get_or (all_stepped steps (members m)) t 0 ≡ get_or steps t 0 + bit_of (mask_word m) t
stepped_by_mask m steps t l = by (lt_or_le t (length steps))
  where
    by : (t < length steps) ⊎ (length steps ≤ t) → get_or (all_stepped steps (members m)) t 0 ≡ get_or steps t 0 + bit_of (mask_word m) t
    by (inl h) =
        let f : get_or (all_stepped steps (members m)) (0 + t) 0 ≡ cond (has m t) 1 0 + get_or steps (0 + t) 0 = (unfold members in (from_first m 0 t steps (omega arith))) in
        subst (λ (i : ℕ). get_or (all_stepped steps (members m)) i 0 ≡ get_or steps i 0 + bit_of (mask_word m) t) (let z : 0 + t ≡ t = omega arith in z)
        (omega (arith, f, word_bit m t))
    by (inr h) =
        let not_in : has m t ≡ false = (unfold has in (get_or-eq_default m false (omega arith))) in
        let away : bit_of (mask_word m) t ≡ 0 = word_bit m t ∙ ap (λ (b : Bool). cond {A = ℕ} b 1 0) not_in in
        let none : get_or steps t 0 ≡ 0 = get_or-eq_default steps 0 h in
        get_or-eq_default (all_stepped steps (members m)) 0 (omega (arith, all_stepped_size steps (members m))) ∙ (omega arith)

-- The threads before one of the mask's are those of it below that one.
acted_from : (m : Mask) (k : ℕ) (acted rest : List ℕ) (t : ℕ) → members_from k m ≡ acted ++ (t ∷ rest)
    → (k ≤ t) × (acted ≡ members_from k (take (t - k) m))
unfolding members_from
acted_from [] k [] rest t e = absurd (cons≢nil (sym e))
acted_from [] k (x ∷ acted) rest t e = absurd (cons≢nil (sym e))
acted_from (false ∷ m) k acted rest t e =
    let h = acted_from m (suc k) acted rest t e in
    let n : t - k ≡ suc (t - suc k) = omega (arith, h.0) in
    (omega (arith, h.0), h.1 ∙ ap (λ (i : ℕ). members_from k (take i (false ∷ m))) (sym n))
acted_from (true ∷ m) k [] rest t e =
    let q : k ≡ t = cc in
    (omega arith, ap (λ (i : ℕ). members_from k (take i (true ∷ m))) (let z : 0 ≡ t - k = omega arith in z))
acted_from (true ∷ m) k (x ∷ acted) rest t e =
    let q : k ≡ x = cc in
    let r : members_from (suc k) m ≡ acted ++ (t ∷ rest) = cc in
    let h = acted_from m (suc k) acted rest t r in
    let n : t - k ≡ suc (t - suc k) = omega (arith, h.0) in
    (omega (arith, h.0), ap₂ (λ (y : ℕ) (ys : List ℕ). y ∷ ys) (sym q) h.1 ∙ ap (λ (i : ℕ). members_from k (take i (true ∷ m))) (sym n))

pub acted_below : (m : Mask) (acted rest : List ℕ) (t : ℕ) → members m ≡ acted ++ (t ∷ rest) → acted ≡ members (take t m)
unfolding members
acted_below m acted rest t e = (acted_from m 0 acted rest t e).1 ∙ ap (λ (i : ℕ). members_from 0 (take i m)) (let z : t - 0 ≡ t = omega arith in z)

-- It is one of the mask's.
acted_member : (m : Mask) (k : ℕ) (acted rest : List ℕ) (t : ℕ) → members_from k m ≡ acted ++ (t ∷ rest) → t < k + length m
unfolding members_from
acted_member [] k [] rest t e = absurd (cons≢nil (sym e))
acted_member [] k (x ∷ acted) rest t e = absurd (cons≢nil (sym e))
acted_member (false ∷ m) k acted rest t e = let h = acted_member m (suc k) acted rest t e in omega arith
acted_member (true ∷ m) k [] rest t e = let q : k ≡ t = cc in omega arith
acted_member (true ∷ m) k (x ∷ acted) rest t e =
    let r : members_from (suc k) m ≡ acted ++ (t ∷ rest) = cc in
    let h = acted_member m (suc k) acted rest t r in omega arith

pub stopper_below : (m : Mask) (acted rest : List ℕ) (t : ℕ) → members m ≡ acted ++ (t ∷ rest) → t < length m
unfolding members
stopper_below m acted rest t e = let h = acted_member m 0 acted rest t e in omega arith

-- The bits of a mask's threads below thread t.
take_above : (m : Mask) (t j : ℕ) → t ≤ j → has (take t m) j ≡ false
unfolding has
take_above m zero j h = refl
take_above [] (suc t) j h = refl
take_above (b ∷ m) (suc t) zero h = absurd (omega arith)
take_above (b ∷ m) (suc t) (suc j) h = take_above m t j (omega arith)

pub below_bit : (m : Mask) (t j : ℕ) → bit_of (mask_word (take t m)) j ≡ bit_of (mask_word m % 2 ^ t) j
below_bit m t j = word_bit (take t m) j ∙ by (lt_or_le j t)
  where
    by : (j < t) ⊎ (t ≤ j) → cond {A = ℕ} (has (take t m) j) 1 0 ≡ bit_of (mask_word m % 2 ^ t) j
    by (inl h) =
        let low : has (take t m) j ≡ has m j = (unfold has in (get_or-take t m j false h)) in
        ap (λ (b : Bool). cond {A = ℕ} b 1 0) low ∙ sym (word_bit m j) ∙ sym (low_bit (mask_word m) t j h)
    by (inr h) = ap (λ (b : Bool). cond {A = ℕ} b 1 0) (take_above m t j h) ∙ sym (high_bit (mask_word m) t j h)
