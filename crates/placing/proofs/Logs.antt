-- A part's log put into the launch's: the words, where the code puts them, are those of the log with the part put in. Assumes nothing.
use mathlib.Core.Path.{◌≡◌, refl, sym, ◌∙◌, ap}
use mathlib.Core.List.{List, [], ◌∷◌, ◌++◌, append-nil}
use Prim.Native.Nat.{ℕ, zero, suc, ◌+◌, ◌*◌, ◌≤◌, ◌<◌}
use native.Mathlib.Omega.{arith}
use lib.ListN.{length, get_or, replicate}
use Rattle.spec.specs.Access.{Mode}
use Rattle.spec.specs.Lists.{joined}
use Rattle.spec.specs.Limits.{log_per_cell, groups_per_cell}
use Rattle.spec.specs.Mask.{mask_word}
use Rattle.spec.specs.Log.{Log, mark_word, log_kinds, log_words, empty_log}
use Rattle.spec.specs.GroupLog.{GroupLog, group_masks_of, empty_group_log, group_kinds, group_words}
use Rattle.layout.specs.Memory.{Masks, LogIs}
use Rattle.layout.specs.Views.{put_part, put_log}
use Rattle.layout.specs.Shared.{put_groups, GroupsAre}
use Rattle.layout.proofs.Lists.{joined_zeros}
use Rattle.layout.proofs.Parts.{map_put, LogFits}
use Rattle.layout.proofs.LogBuffer.{kinds_even, log_size, empty_is, none_words}
use Rattle.layout.proofs.GroupBuffer as groups
use Rattle.placing.specs.Kinds.{kinds_placed}
use Rattle.placing.proofs.KindLaws.{put_each, kinds_put}

-- ---- the log

log_is : (n k : ℕ) (G : Log) → LogFits n k G → LogIs n k G (log_words G)
log_is n k G F = record { words_are = refl; masks_are = F.masks_fit; values_are = F.values_fit; marks_are = F.marks_fit }

pub log_words_size : (n k : ℕ) (G : Log) → LogFits n k G → length (log_words G) ≡ log_per_cell * k
log_words_size n k G F = log_size n k G (log_words G) (log_is n k G F)

log_kinds_put : (at : ℕ) (P G : Log) → put_each at (log_kinds P) (log_kinds G) ≡ log_kinds (put_log at P G)
unfolding put_each log_kinds put_log
log_kinds_put at P G =
    λ i. sym (map_put mask_word at P.readers G.readers) i ∷ sym (map_put mask_word at P.writers G.writers) i
    ∷ sym (map_put mask_word at P.adders G.adders) i ∷ put_part at P.values G.values ∷ sym (map_put mark_word at P.marks G.marks) i ∷ []

pub log_placed : (n k total at : ℕ) (P G : Log) (rest : List ℕ) → LogFits n k P → LogFits n total G → at + k ≤ total
    → kinds_placed 0 total at k log_per_cell (log_words P) (log_words G ++ rest) ≡ log_words (put_log at P G) ++ rest
unfolding log_words log_kinds
log_placed n k total at P G rest F E h =
    kinds_put total at k h 0 [] rest (log_kinds P) (log_kinds G) (omega arith)
    (kinds_even n k P (log_words P) (log_is n k P F)) (kinds_even n total G (log_words G) (log_is n total G E)) refl
    ∙ ap (λ kinds. joined kinds ++ rest) (log_kinds_put at P G)

pub empty_log_words : (n k : ℕ) → log_words (empty_log n k) ≡ replicate (log_per_cell * k) 0
empty_log_words n k = sym (empty_is n k (replicate (log_per_cell * k) 0) refl).words_are

-- ---- the group masks

groups_are : (g k : ℕ) (H : GroupLog) → ((m : Mode) → Masks g k (group_masks_of H m)) → GroupsAre g k H (group_words H)
groups_are g k H M = record { words_are = refl; masks_are = M }

group_kinds_put : (at : ℕ) (Q H : GroupLog) → put_each at (group_kinds Q) (group_kinds H) ≡ group_kinds (put_groups at Q H)
unfolding put_each group_kinds put_groups
group_kinds_put at Q H =
    λ i. sym (map_put mask_word at Q.readers H.readers) i ∷ sym (map_put mask_word at Q.writers H.writers) i
    ∷ sym (map_put mask_word at Q.adders H.adders) i ∷ []

-- The group masks stand behind the log.
pub groups_placed : (g k total at : ℕ) (Q H : GroupLog) (front : List ℕ) → ((m : Mode) → Masks g k (group_masks_of Q m))
    → ((m : Mode) → Masks g total (group_masks_of H m)) → at + k ≤ total → length front ≡ log_per_cell * total
    → kinds_placed log_per_cell total at k groups_per_cell (group_words Q) (front ++ group_words H) ≡ front ++ group_words (put_groups at Q H)
unfolding group_words group_kinds kinds_placed
groups_placed g k total at Q H front M N h f =
    ap (λ r. kinds_placed log_per_cell total at k groups_per_cell (joined (group_kinds Q)) (front ++ r)) (sym (append-nil (joined (group_kinds H))))
    ∙ kinds_put total at k h log_per_cell front [] (group_kinds Q) (group_kinds H) f
    (groups.kinds_even g k Q (group_words Q) (groups_are g k Q M)) (groups.kinds_even g total H (group_words H) (groups_are g total H N)) refl
    ∙ ap (λ r. front ++ r) (append-nil (joined (put_each at (group_kinds Q) (group_kinds H))) ∙ ap joined (group_kinds_put at Q H))

pub empty_group_words : (g k : ℕ) → group_words (empty_group_log g k) ≡ replicate (groups_per_cell * k) 0
unfolding group_words group_kinds empty_group_log
empty_group_words g k = joined_zeros k (group_kinds (empty_group_log g k)) zeros
  where
    zeros : (q : ℕ) → q < 3 → get_or (group_kinds (empty_group_log g k)) q [] ≡ replicate k 0
    zeros zero h = none_words g k
    zeros (suc zero) h = none_words g k
    zeros (suc (suc zero)) h = none_words g k
    zeros (suc (suc (suc q))) h = absurd (omega arith)
