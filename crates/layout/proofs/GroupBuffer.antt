-- The buffer of the group masks: what the code reads, tests and sets in it. Assumes nothing.
use mathlib.Core.Path.{◌≡◌, refl, sym, ◌∙◌, ap, ap₂, subst}
use mathlib.Core.List.{List, [], map}
use mathlib.Core.Bool.{Bool, true, false, cond}
use Prim.Native.Nat.{ℕ, zero, suc, ◌+◌, ◌-◌, ◌*◌, ◌^◌, ◌<◌, ◌≤◌}
use native.Mathlib.Omega.{arith}
use lib.Bits.{bit_and, bit_or}
use lib.ListN.{length, get_or, set, length-set, length-map}
use Rattle.spec.specs.Access.{Kind, load, store, atomic_add, Mode, reads, writes, adds, mode, agree}
use Rattle.spec.specs.Lists.{joined}
use Rattle.spec.specs.Mask.{Mask, mask_word, has, union}
use Rattle.spec.specs.Log.{nobody, with_thread, shown_kind}
use Rattle.spec.specs.GroupLog.{GroupLog, group_masks_of, group_logged, conflicting_groups, group_conflict_mask, group_race_kind, group_kinds, group_words}
use Rattle.spec.proofs.Laws.{union_size}
use Rattle.spec.proofs.LogLaws.{same, groups_logged, nobody_size}
use Rattle.masks.proofs.Words.{word_or, word_set, word_except}
use Rattle.layout.specs.Memory.{Masks}
use Rattle.layout.specs.Logging.{mode_of, rank, place_of, word_of, has_bit, mask_entered}
use Rattle.layout.specs.Shared.{GroupsAre, groups_met, rivals_word, group_kind_word}
use Rattle.layout.proofs.Lists.{map_set, Even, joined_at, joined_set}
use Rattle.layout.proofs.Buffers.{masks_set, mask_at}
use Rattle.layout.proofs.LogBuffer.{nobody_word, bit_has}

pub masks_entered : (n k : ℕ) (H : GroupLog) → ((m : Mode) → Masks n k (group_masks_of H m)) → (i g : ℕ) (x : Kind) → i < k
    → (m : Mode) → Masks n k (group_masks_of (group_logged H i g x) m)
masks_entered n k H M i g x h m = subst (Masks n k) (sym (groups_logged H i g x m)) (by (same m (mode x)))
  where
    by : (b : Bool) → Masks n k (cond b (with_thread (group_masks_of H m) i g) (group_masks_of H m))
    by true = unfold with_thread in (masks_set n k (group_masks_of H m) i _ (M m) h (length-set (get_or (group_masks_of H m) i []) g true ∙ (M m).each i h))
    by false = M m

-- The masks of a mode among the kinds of words.
rank_few : (H : GroupLog) (m : Mode) → rank m < length (group_kinds H)
unfolding rank group_kinds
rank_few H reads = omega arith
rank_few H writes = omega arith
rank_few H adds = omega arith

rank_kind : (H : GroupLog) (m : Mode) → get_or (group_kinds H) (rank m) [] ≡ map mask_word (group_masks_of H m)
unfolding rank group_kinds group_masks_of
rank_kind H reads = refl
rank_kind H writes = refl
rank_kind H adds = refl

kinds_logged : (H : GroupLog) (i g : ℕ) (x : Kind)
    → joined (set (group_kinds H) (rank (mode x)) (map mask_word (with_thread (group_masks_of H (mode x)) i g))) ≡ group_words (group_logged H i g x)
unfolding group_words group_kinds rank mode group_masks_of group_logged
kinds_logged H i g load = refl
kinds_logged H i g (store v) = refl
kinds_logged H i g (atomic_add v) = refl

module _ (n k : ℕ) (H : GroupLog) (masks : List ℕ) (M : GroupsAre n k H masks) where
  pub kinds_even : Even k (group_kinds H)
  unfolding group_kinds group_masks_of
  kinds_even zero h = length-map H.readers mask_word ∙ (M.masks_are reads).count
  kinds_even (suc zero) h = length-map H.writers mask_word ∙ (M.masks_are writes).count
  kinds_even (suc (suc zero)) h = length-map H.adders mask_word ∙ (M.masks_are adds).count
  kinds_even (suc (suc (suc q))) h = absurd (omega arith)

  module _ (c : ℕ) (h : c < k) (op : ℕ) (x : Kind) (o : mode_of op ≡ mode x) where
    mask_size : (m : Mode) → length (get_or (group_masks_of H m) c []) ≡ n
    mask_size m = (M.masks_are m).each c h

    word_is : (m : Mode) → word_of (rank m) k c masks ≡ mask_word (get_or (group_masks_of H m) c [])
    unfolding word_of place_of group_words
    word_is m =
        ap (λ z. get_or z (rank m * k + c) 0) M.words_are ∙ joined_at k (group_kinds H) kinds_even (rank m) c (rank_few H m) h
        ∙ ap (λ z. get_or z c 0) (rank_kind H m) ∙ mask_at (group_masks_of H m) c

    met_is : (m : Mode) → groups_met m op k c masks ≡ mask_word (conflicting_groups H c m x)
    unfolding groups_met conflicting_groups
    met_is m = ap (λ y. cond (agree false m y) 0 (word_of (rank m) k c masks)) o ∙ by (agree false m (mode x))
      where
        by : (b : Bool) → cond b 0 (word_of (rank m) k c masks) ≡ mask_word (cond b (nobody (get_or (group_masks_of H m) c [])) (get_or (group_masks_of H m) c []))
        by true = sym (nobody_word (get_or (group_masks_of H m) c []))
        by false = word_is m

    pub kind_is : (u : ℕ) → group_kind_word op k c u masks ≡ group_race_kind H c u x
    unfolding group_kind_word group_race_kind
    kind_is u =
        ap₂ (λ w b. shown_kind w b (mode_of op)) (ap (has_bit u) (met_is writes) ∙ bit_has (conflicting_groups H c writes x) u)
        (ap (has_bit u) (met_is adds) ∙ bit_has (conflicting_groups H c adds x) u)
        ∙ ap (shown_kind (has (conflicting_groups H c writes x) u) (has (conflicting_groups H c adds x) u)) o

    those : Mode → Mask
    those m = conflicting_groups H c m x

    those_size : (m : Mode) → length (those m) ≡ n
    unfolding those conflicting_groups
    those_size m = by (agree false m (mode x))
      where
        by : (b : Bool) → length (cond b (nobody (get_or (group_masks_of H m) c [])) (get_or (group_masks_of H m) c [])) ≡ n
        by true = nobody_size (get_or (group_masks_of H m) c []) ∙ mask_size m
        by false = mask_size m

    all : Mask
    all = union (those writes) (union (those adds) (those reads))

    all_size : length all ≡ n
    unfolding all
    all_size = union_size (those writes) (union (those adds) (those reads)) (those_size writes ∙ sym beside) ∙ those_size writes
      where
        beside : length (union (those adds) (those reads)) ≡ n
        beside = union_size (those adds) (those reads) (those_size adds ∙ sym (those_size reads)) ∙ those_size adds

    pub conflict_size : (g : ℕ) → length (group_conflict_mask H c g x) ≡ n
    unfolding group_conflict_mask those all
    conflict_size g = length-set all g false ∙ all_size

    module _ (few : n ≤ 32) (g : ℕ) (l : g < n) where
      pub rivals_is : rivals_word op k c (2 ^ g) masks ≡ mask_word (group_conflict_mask H c g x)
      unfolding rivals_word group_conflict_mask those all
      rivals_is =
          ap (λ (z : ℕ). bit_and z (4294967295 - 2 ^ g))
          (ap₂ bit_or (met_is writes) (ap₂ bit_or (met_is adds) (met_is reads) ∙ word_or (those adds) (those reads)) ∙ word_or (those writes) (union (those adds) (those reads)))
          ∙ word_except all 32 g (omega (arith, all_size)) (omega arith)

      -- Its group entered in the mask of a mode: one kind of words changes.
      words_entered : (m : Mode) → set masks (place_of (rank m) k c) (bit_or (word_of (rank m) k c masks) (2 ^ g))
          ≡ joined (set (group_kinds H) (rank m) (map mask_word (with_thread (group_masks_of H m) c g)))
      unfolding place_of group_words with_thread
      words_entered m =
          let mask = set (get_or (group_masks_of H m) c []) g true in
          ap₂ (λ y z. set y (rank m * k + c) z) M.words_are
          (ap (λ z. bit_or z (2 ^ g)) (word_is m) ∙ word_set (get_or (group_masks_of H m) c []) g (omega (arith, mask_size m)))
          ∙ joined_set k (group_kinds H) kinds_even (rank m) c (mask_word mask) (rank_few H m) h
          ∙ ap (λ z. joined (set (group_kinds H) (rank m) z)) (ap (λ z. set z c (mask_word mask)) (rank_kind H m) ∙ sym (map_set mask_word (group_masks_of H m) c mask))

      pub entered_is : mask_entered op k c (2 ^ g) masks ≡ group_words (group_logged H c g x)
      unfolding mask_entered
      entered_is = ap (λ m. set masks (place_of (rank m) k c) (bit_or (word_of (rank m) k c masks) (2 ^ g))) o ∙ words_entered (mode x) ∙ kinds_logged H c g x
