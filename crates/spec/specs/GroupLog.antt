-- The group masks: for each cell the groups that have loaded, stored and added there since the launch began. Document 02, item 7. Assumes nothing.
use Rattle.std.specs.Prelude.{List, [], ◌∷◌, map, false, cond, ℕ, get_or, set, replicate}
use Rattle.spec.specs.Answers.{AccessKind}
use Rattle.spec.specs.Access.{Kind, load, store, atomic_add, Mode, reads, writes, adds, mode, agree}
use Rattle.spec.specs.Lists.{joined}
use Rattle.spec.specs.Mask.{Mask, has, union, mask_word}
use Rattle.spec.specs.Log.{nobody, with_thread, shown_kind}

-- A mask has a truth value for each group here, group 0 first. No mask is ever cleared.
pub record GroupLog : Type 0 where
  pub readers : List Mask
  pub writers : List Mask
  pub adders : List Mask

unfoldable pub group_masks_of : GroupLog → Mode → List Mask
group_masks_of H reads = H.readers
group_masks_of H writes = H.writers
group_masks_of H adds = H.adders

-- At the launch no group has accessed anything.
unfoldable pub empty_group_log : (groups cells : ℕ) → GroupLog
empty_group_log groups cells = let none = replicate cells (replicate groups false) in record { readers = none; writers = none; adders = none }

-- Group g's access of the cell at i, entered by its kind.
unfoldable pub group_logged : GroupLog → (i g : ℕ) → Kind → GroupLog
group_logged H i g load = record { readers = with_thread H.readers i g; writers = H.writers; adders = H.adders }
group_logged H i g (store v) = record { readers = H.readers; writers = with_thread H.writers i g; adders = H.adders }
group_logged H i g (atomic_add v) = record { readers = H.readers; writers = H.writers; adders = with_thread H.adders i g }

-- The groups that have accessed the cell at i in mode m, where that conflicts with an access of kind k; else none. Between groups equal stores conflict
-- as any others do.
unfoldable pub conflicting_groups : GroupLog → (i : ℕ) → Mode → Kind → Mask
conflicting_groups H i m k = let those = get_or (group_masks_of H m) i [] in cond (agree false m (mode k)) (nobody those) those

-- The groups other than g that an access of kind k conflicts with.
unfoldable pub group_conflict_mask : GroupLog → (i g : ℕ) → Kind → Mask
group_conflict_mask H i g k = set (union (conflicting_groups H i writes k) (union (conflicting_groups H i adds k) (conflicting_groups H i reads k))) g false

-- The kind of a race with group h.
unfoldable pub group_race_kind : GroupLog → (i h : ℕ) → Kind → AccessKind
group_race_kind H i h k = shown_kind (has (conflicting_groups H i writes k) h) (has (conflicting_groups H i adds k) h) (mode k)

-- Their words, kind by kind: all readers, all writers, all adders.
unfoldable pub group_kinds : GroupLog → List (List ℕ)
group_kinds H = map mask_word H.readers ∷ map mask_word H.writers ∷ map mask_word H.adders ∷ []

unfoldable pub group_words : GroupLog → List ℕ
group_words H = joined (group_kinds H)
