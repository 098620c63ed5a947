-- Lists and logs that differ in two stretches only. Assumes nothing.
use mathlib.Core.Path.{◌≡◌, refl, sym, ◌∙◌, ap, ap₂}
use mathlib.Core.Logic.{◌⊎◌, inl, inr}
use mathlib.Core.List.{List, [], ◌∷◌, map}
use mathlib.Core.Bool.{true, false}
use Prim.Native.Nat.{ℕ, suc, ◌+◌, ◌-◌, ◌<◌, ◌≤◌}
use native.Mathlib.Omega.{arith}
use lib.ListN.{length, get_or, replicate}
use lib.Seq.{ext_get_or}
use Rattle.spec.specs.Access.{Mode, reads, writes, adds}
use Rattle.spec.specs.Mask.{Mask}
use Rattle.spec.specs.Log.{Log, masks_of, empty_log, nobody, cleared}
use Rattle.spec.specs.GroupLog.{GroupLog, group_masks_of}
use Rattle.spec.proofs.Laws.{lt_or_le}
use Rattle.spec.proofs.LogLaws.{masks_cleared, where_all}
use Rattle.layout.specs.Memory.{Masks}
use Rattle.layout.specs.Views.{part, put_part, log_part, put_log}
use Rattle.layout.specs.Shared.{group_part, put_groups}
use Rattle.layout.proofs.Parts.{part_at, part_size, put_at, put_at_above, put_at_below, put_size, same_log, log_part_masks, put_log_masks, LogFits}
use Rattle.layout.proofs.GlobalTurn.{group_part_masks, put_groups_masks, same_groups}

module _ {A : Type 0} (d : A) where
  -- equal but for the stretch of k places from a on
  pub one_part : (a k : ℕ) (xs ys : List A) → length ys ≡ length xs → a + k ≤ length xs
      → ((i : ℕ) → (i < a) ⊎ (a + k ≤ i) → i < length xs → get_or ys i d ≡ get_or xs i d) → ys ≡ put_part a (part a k ys) xs
  one_part a k xs ys e h same =
      ext_get_or d ys (put_part a (part a k ys) xs) (e ∙ sym (put_size a (part a k ys) xs (omega (arith, size)))) (λ i l. by i (omega arith) (lt_or_le i a) (lt_or_le i (a + k)))
    where
      size : length (part a k ys) ≡ k
      size = part_size a k ys (omega arith)

      by : (i : ℕ) → i < length xs → (i < a) ⊎ (a ≤ i) → (i < a + k) ⊎ (a + k ≤ i) → get_or ys i d ≡ get_or (put_part a (part a k ys) xs) i d
      by i l (inl p) q = same i (inl p) l ∙ sym (put_at_below a (part a k ys) xs i d (omega arith) p)
      by i l (inr p) (inr q) = same i (inr q) l ∙ sym (put_at_above a (part a k ys) xs i d (omega arith) (omega (arith, size)))
      by i l (inr p) (inl q) =
          let c = i - a in
          let at : a + c ≡ i = omega arith in
          ap (λ j. get_or ys j d) (sym at) ∙ sym (part_at a k ys c d (omega arith))
          ∙ sym (ap (λ j. get_or (put_part a (part a k ys) xs) j d) (sym at) ∙ put_at a (part a k ys) xs c d (omega arith) (omega (arith, size)))

  -- equal but for that and the m places from b on, which are the last
  pub two_parts : (a k b m : ℕ) (xs ys : List A) → length ys ≡ length xs → a + k ≤ b → b + m ≡ length xs
      → ((i : ℕ) → (i < a) ⊎ (a + k ≤ i) → i < b → get_or ys i d ≡ get_or xs i d) → ys ≡ put_part a (part a k ys) (put_part b (part b m ys) xs)
  two_parts a k b m xs ys e h t same =
      one_part a k (put_part b (part b m ys) xs) ys (e ∙ sym long) (omega (arith, long)) (λ i o l. by i o (omega (arith, long)) (lt_or_le i b))
    where
      size : length (part b m ys) ≡ m
      size = part_size b m ys (omega arith)

      long : length (put_part b (part b m ys) xs) ≡ length xs
      long = put_size b (part b m ys) xs (omega (arith, size))

      by : (i : ℕ) → (i < a) ⊎ (a + k ≤ i) → i < length xs → (i < b) ⊎ (b ≤ i) → get_or ys i d ≡ get_or (put_part b (part b m ys) xs) i d
      by i o l (inl p) = same i o p ∙ sym (put_at_below b (part b m ys) xs i d (omega arith) p)
      by i o l (inr p) =
          let c = i - b in
          let at : b + c ≡ i = omega arith in
          ap (λ j. get_or ys j d) (sym at) ∙ sym (part_at b m ys c d (omega arith))
          ∙ sym (ap (λ j. get_or (put_part b (part b m ys) xs) j d) (sym at) ∙ put_at b (part b m ys) xs c d (omega arith) (omega (arith, size)))

-- The same of logs, and of group masks with one stretch.
pub two_logs : (n a k b m t : ℕ) (G H : Log) → LogFits n t G → LogFits n t H → a + k ≤ b → b + m ≡ t
    → ((i : ℕ) → (i < a) ⊎ (a + k ≤ i) → i < b → (m : Mode) → get_or (masks_of H m) i [] ≡ get_or (masks_of G m) i [])
    → ((i : ℕ) → (i < a) ⊎ (a + k ≤ i) → i < b → get_or H.values i 0 ≡ get_or G.values i 0)
    → ((i : ℕ) → (i < a) ⊎ (a + k ≤ i) → i < b → get_or H.marks i false ≡ get_or G.marks i false)
    → H ≡ put_log a (log_part a k H) (put_log b (log_part b m H) G)
unfolding put_log log_part
two_logs n a k b m t G H F Y h e masks values marks =
    same_log H (put_log a (log_part a k H) (put_log b (log_part b m H) G))
    (λ u. two_parts [] a k b m (masks_of G u) (masks_of H u) ((Y.masks_fit u).count ∙ sym (F.masks_fit u).count) h (e ∙ sym (F.masks_fit u).count) (λ i o l. masks i o l u)
    ∙ sym (put_log_masks a (log_part a k H) (put_log b (log_part b m H) G) u
    ∙ ap₂ (put_part a) (log_part_masks a k H u) (put_log_masks b (log_part b m H) G u ∙ ap (λ p. put_part b p (masks_of G u)) (log_part_masks b m H u))))
    (two_parts 0 a k b m G.values H.values (Y.values_fit ∙ sym F.values_fit) h (e ∙ sym F.values_fit) values)
    (two_parts false a k b m G.marks H.marks (Y.marks_fit ∙ sym F.marks_fit) h (e ∙ sym F.marks_fit) marks)

pub one_group_log : (n b m t : ℕ) (G H : GroupLog) → ((u : Mode) → Masks n t (group_masks_of G u)) → ((u : Mode) → Masks n t (group_masks_of H u)) → b + m ≡ t
    → ((i : ℕ) → i < b → (u : Mode) → get_or (group_masks_of H u) i [] ≡ get_or (group_masks_of G u) i []) → H ≡ put_groups b (group_part b m H) G
one_group_log n b m t G H F Y e same =
    same_groups H (put_groups b (group_part b m H) G)
    (λ u. one_part [] b m (group_masks_of G u) (group_masks_of H u) ((Y u).count ∙ sym (F u).count) (omega (arith, (F u).count)) (λ i o l. by u i o (omega (arith, (F u).count)))
    ∙ sym (put_groups_masks b (group_part b m H) G u ∙ ap (λ p. put_part b p (group_masks_of G u)) (group_part_masks b m H u)))
  where
    by : (u : Mode) (i : ℕ) → (i < b) ⊎ (b + m ≤ i) → i < t → get_or (group_masks_of H u) i [] ≡ get_or (group_masks_of G u) i []
    by u i (inl p) l = same i p u
    by u i (inr p) l = absurd (omega arith)

-- A log that is cleared everywhere is the empty one.
nobody_at_all : (m : Mask) → nobody m ≡ replicate (length m) false
unfolding nobody
nobody_at_all [] = refl
nobody_at_all (b ∷ m) = ap (λ l. false ∷ l) (nobody_at_all m)

wiped : {A : Type 0} (f : A → A) (y d : A) (xs : List A) → ((c : ℕ) → c < length xs → f (get_or xs c d) ≡ y) → map f xs ≡ replicate (length xs) y
wiped f y d [] h = refl
wiped f y d (x ∷ xs) h = ap₂ (λ u v. u ∷ v) (h 0 (omega arith)) (wiped f y d xs (λ c l. h (suc c) (omega arith)))

pub all_cleared : (n k : ℕ) (G : Log) → LogFits n k G → cleared (λ c. true) G ≡ empty_log n k
unfolding cleared empty_log masks_of
all_cleared n k G F =
    same_log (cleared (λ c. true) G) (empty_log n k) masks
    (where_all (λ c. true) (λ v. 0) 0 G.values (λ j l. refl) ∙ wiped (λ v. 0) 0 0 G.values (λ c l. refl) ∙ ap (λ j. replicate j 0) F.values_fit)
    (where_all (λ c. true) (λ b. false) 0 G.marks (λ j l. refl) ∙ wiped (λ b. false) false false G.marks (λ c l. refl) ∙ ap (λ j. replicate j false) F.marks_fit)
  where
    mode_wiped : (u : Mode) → masks_of (cleared (λ c. true) G) u ≡ replicate k (replicate n false)
    mode_wiped u =
        let M = F.masks_fit u in
        masks_cleared (λ c. true) G u ∙ where_all (λ c. true) nobody 0 (masks_of G u) (λ j l. refl)
        ∙ wiped nobody (replicate n false) [] (masks_of G u)
        (λ c l. nobody_at_all (get_or (masks_of G u) c []) ∙ ap (λ j. replicate j false) (M.each c (omega (arith, M.count)))) ∙ ap (λ j. replicate j (replicate n false)) M.count

    masks : (u : Mode) → masks_of (cleared (λ c. true) G) u ≡ masks_of (empty_log n k) u
    masks reads = mode_wiped reads
    masks writes = mode_wiped writes
    masks adds = mode_wiped adds
