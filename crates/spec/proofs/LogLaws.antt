-- Laws of the log, once for all modes. Assumes nothing.
use mathlib.Core.Path.{◌≡◌, refl, sym, ◌∙◌, ap, ap₂}
use mathlib.Core.List.{List, [], ◌∷◌, map}
use mathlib.Core.Bool.{Bool, true, false, cond, not}
use Prim.Native.Nat.{ℕ, zero, suc, ◌+◌, ◌<◌}
use native.Mathlib.Omega.{arith}
use lib.ListN.{length, get_or, replicate, length-map}
use Rattle.spec.specs.Access.{Kind, load, store, atomic_add, value_of, Mode, reads, writes, adds, mode, agree}
use Rattle.spec.specs.Lists.{map_where}
use Rattle.spec.specs.Mask.{Mask, union}
use Rattle.spec.specs.GroupLog.{GroupLog, group_masks_of, group_logged}
use Rattle.spec.specs.Log.{Log, masks_of, empty_log, nobody, cleared, with_thread, unequal, logged, conflicting, tested_mask}
use Rattle.spec.proofs.Laws.{union_size}

unfoldable pub same : Mode → Mode → Bool
same reads reads = true
same reads writes = false
same reads adds = false
same writes reads = false
same writes writes = true
same writes adds = false
same adds reads = false
same adds writes = false
same adds adds = true

-- The masks of a mode at the start, after an access, and after a barrier.
pub masks_empty : (n k : ℕ) (m : Mode) → masks_of (empty_log n k) m ≡ replicate k (replicate n false)
unfolding masks_of empty_log
masks_empty n k reads = refl
masks_empty n k writes = refl
masks_empty n k adds = refl

pub masks_logged : (G : Log) (c t : ℕ) (x : Kind) (m : Mode)
    → masks_of (logged G c t x) m ≡ cond (same m (mode x)) (with_thread (masks_of G m) c t) (masks_of G m)
unfolding masks_of logged same mode
masks_logged G c t load reads = refl
masks_logged G c t load writes = refl
masks_logged G c t load adds = refl
masks_logged G c t (store v) reads = refl
masks_logged G c t (store v) writes = refl
masks_logged G c t (store v) adds = refl
masks_logged G c t (atomic_add v) reads = refl
masks_logged G c t (atomic_add v) writes = refl
masks_logged G c t (atomic_add v) adds = refl

-- The same of the group masks.
pub groups_logged : (H : GroupLog) (i g : ℕ) (x : Kind) (m : Mode)
    → group_masks_of (group_logged H i g x) m ≡ cond (same m (mode x)) (with_thread (group_masks_of H m) i g) (group_masks_of H m)
unfolding group_masks_of group_logged same mode
groups_logged H i g load reads = refl
groups_logged H i g load writes = refl
groups_logged H i g load adds = refl
groups_logged H i g (store v) reads = refl
groups_logged H i g (store v) writes = refl
groups_logged H i g (store v) adds = refl
groups_logged H i g (atomic_add v) reads = refl
groups_logged H i g (atomic_add v) writes = refl
groups_logged H i g (atomic_add v) adds = refl

pub masks_cleared : (p : ℕ → Bool) (G : Log) (m : Mode) → masks_of (cleared p G) m ≡ map_where p nobody 0 (masks_of G m)
unfolding masks_of cleared
masks_cleared p G reads = refl
masks_cleared p G writes = refl
masks_cleared p G adds = refl

-- Sizes of masks.
pub nobody_size : (m : Mask) → length (nobody m) ≡ length m
unfolding nobody
nobody_size m = length-map m (λ b. false)

-- What a change of the elements at some places comes to.
pub where_size : {A : Type 0} (p : ℕ → Bool) (f : A → A) (i : ℕ) (xs : List A) → length (map_where p f i xs) ≡ length xs
unfolding map_where
where_size p f i [] = refl
where_size p f i (x ∷ xs) = ap suc (where_size p f (suc i) xs)

pub where_at : {A : Type 0} (p : ℕ → Bool) (f : A → A) (i : ℕ) (xs : List A) (j : ℕ) (d : A) → j < length xs
    → get_or (map_where p f i xs) j d ≡ cond (p (i + j)) (f (get_or xs j d)) (get_or xs j d)
unfolding map_where
where_at p f i [] j d l = absurd (omega arith)
where_at p f i (x ∷ xs) zero d l = let z : i ≡ i + 0 = omega arith in ap (λ k. cond (p k) (f x) x) z
where_at p f i (x ∷ xs) (suc j) d l =
    where_at p f (suc i) xs j d (omega arith)
    ∙ ap (λ k. cond (p k) (f (get_or xs j d)) (get_or xs j d)) (let z : suc i + j ≡ i + suc j = omega arith in z)

pub where_all : {A : Type 0} (p : ℕ → Bool) (f : A → A) (i : ℕ) (xs : List A) → ((j : ℕ) → j < length xs → p (i + j) ≡ true) → map_where p f i xs ≡ map f xs
unfolding map_where
where_all p f i [] h = refl
where_all p f i (x ∷ xs) h =
    ap₂ ◌∷◌ (ap (λ b. cond b (f x) x) (ap p (let z : i ≡ i + 0 = omega arith in z) ∙ h 0 (omega arith)))
    (where_all p f (suc i) xs (λ j l. ap p (let z : suc i + j ≡ i + suc j = omega arith in z) ∙ h (suc j) (omega arith)))

module _ (G : Log) (c : ℕ) (x : Kind) (n : ℕ) (sizes : (m : Mode) → length (get_or (masks_of G m) c []) ≡ n) where
  conflicting_size : (m : Mode) → length (conflicting G c m x) ≡ n
  unfolding conflicting
  conflicting_size m = by (agree (not (unequal G c (value_of x))) m (mode x))
    where
      by : (b : Bool) → length (cond b (nobody (get_or (masks_of G m) c [])) (get_or (masks_of G m) c [])) ≡ n
      by true = nobody_size (get_or (masks_of G m) c []) ∙ sizes m
      by false = sizes m

  pub tested_size : length (tested_mask G c x) ≡ n
  unfolding tested_mask
  tested_size =
      union_size (conflicting G c writes x) _ (conflicting_size writes ∙ sym others) ∙ conflicting_size writes
    where
      others : length (union (conflicting G c adds x) (conflicting G c reads x)) ≡ n
      others = union_size (conflicting G c adds x) (conflicting G c reads x) (conflicting_size adds ∙ sym (conflicting_size reads)) ∙ conflicting_size adds
