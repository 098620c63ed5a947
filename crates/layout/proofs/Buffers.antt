-- What stores to the buffers stand for. Assumes nothing.
use mathlib.Core.Path.{◌≡◌, sym, ◌∙◌, ap, ap₂}
use mathlib.Core.List.{List, [], map}
use Prim.Native.Nat.{ℕ, ◌+◌, ◌*◌, ◌<◌, ◌≤◌}
use native.Mathlib.Omega.{arith}
use native.Mathlib.Decide.{ℕ_discrete}
use lib.ListN.{length, get_or, set, length-set, get_or-map}
use lib.Seq.{get_or-set_same, get_or-set_other}
use Rattle.spec.specs.Mask.{Mask, mask_word}
use Rattle.layout.specs.Memory.{Regs, Masks}

-- register d of thread t is set to v
module _ (n : ℕ) (regs : List (List ℕ)) (flat : List ℕ) (R : Regs n regs flat) (t d v : ℕ) (few : n ≤ 32) (h : t < n) (l : d < 16) where
  same_row : get_or (set regs t (set (get_or regs t []) d v)) t [] ≡ set (get_or regs t []) d v
  same_row = get_or-set_same regs t (set (get_or regs t []) d v) [] (omega (arith, R.threads))

  other_row : (u : ℕ) → (u ≡ t → ⊥) → get_or (set regs t (set (get_or regs t []) d v)) u [] ≡ get_or regs u []
  other_row u ne = get_or-set_other regs t u (set (get_or regs t []) d v) [] ne

  sized : (u : ℕ) → u < n → Dec (u ≡ t) → length (get_or (set regs t (set (get_or regs t []) d v)) u []) ≡ 16
  sized u k (yes e) =
      ap (λ z. length (get_or (set regs t (set (get_or regs t []) d v)) z [])) e ∙ ap length same_row ∙ length-set (get_or regs t []) d v ∙ R.sixteen t h
  sized u k (no ne) = ap length (other_row u ne) ∙ R.sixteen u k

  places : (u r : ℕ) → u < n → r < 16 → Dec (u ≡ t) → Dec (r ≡ d)
      → get_or (set flat (d * 32 + t) v) (r * 32 + u) 0 ≡ get_or (get_or (set regs t (set (get_or regs t []) d v)) u []) r 0
  places u r k q (no ne) x =
      get_or-set_other flat (d * 32 + t) (r * 32 + u) v 0 (λ e. ne (omega arith)) ∙ R.at u r k q ∙ sym (ap (λ z. get_or z r 0) (other_row u ne))
  places u r k q (yes e) (no ne) =
      get_or-set_other flat (d * 32 + t) (r * 32 + u) v 0 (λ p. ne (omega arith)) ∙ R.at u r k q ∙ ap (λ z. get_or (get_or regs z []) r 0) e
      ∙ sym (get_or-set_other (get_or regs t []) d r v 0 ne) ∙ sym (ap (λ z. get_or z r 0) same_row)
      ∙ sym (ap (λ z. get_or (get_or (set regs t (set (get_or regs t []) d v)) z []) r 0) e)
  places u r k q (yes e) (yes f) =
      ap₂ (λ y z. get_or (set flat (d * 32 + t) v) (y * 32 + z) 0) f e
      ∙ get_or-set_same flat (d * 32 + t) v 0 (omega (arith, R.size))
      ∙ sym (get_or-set_same (get_or regs t []) d v 0 (omega (arith, R.sixteen t h)))
      ∙ sym (ap (λ z. get_or z d 0) same_row)
      ∙ sym (ap₂ (λ y z. get_or (get_or (set regs t (set (get_or regs t []) d v)) z []) y 0) f e)

  pub regs_set : Regs n (set regs t (set (get_or regs t []) d v)) (set flat (d * 32 + t) v)
  regs_set =
      record {
        size = length-set flat (d * 32 + t) v ∙ R.size;
        threads = length-set regs t (set (get_or regs t []) d v) ∙ R.threads;
        sixteen = λ u k. sized u k (ℕ_discrete u t);
        at = λ u r k q. places u r k q (ℕ_discrete u t) (ℕ_discrete r d);
      }

pub masks_set : (n k : ℕ) (ms : List Mask) (c : ℕ) (m : Mask) → Masks n k ms → c < k → length m ≡ n → Masks n k (set ms c m)
masks_set n k ms c m M h l = record { count = length-set ms c m ∙ M.count; each = λ i q. by i q (ℕ_discrete i c) }
  where
    by : (i : ℕ) → i < k → Dec (i ≡ c) → length (get_or (set ms c m) i []) ≡ n
    by i q (yes e) = ap (λ z. length (get_or (set ms c m) z [])) e ∙ ap length (get_or-set_same ms c m [] (omega (arith, M.count))) ∙ l
    by i q (no ne) = ap length (get_or-set_other ms c i m [] ne) ∙ M.each i q

-- The word of a mask in a list of masks.
pub mask_at : (R : List Mask) (c : ℕ) → get_or (map mask_word R) c 0 ≡ mask_word (get_or R c [])
unfolding mask_word
mask_at R c = get_or-map mask_word R c []
