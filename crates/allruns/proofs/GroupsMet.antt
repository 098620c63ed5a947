-- The group masks speak for all groups of a launch: what they say is what each group's accesses bar to the others. Document 02, item 7. Assumes nothing.
use mathlib.Core.Path.{◌≡◌, refl, sym, ◌∙◌, ap, ap₂}
use mathlib.Core.List.{List, []}
use mathlib.Core.Bool.{Bool, true, false, not, ◌&&◌, ◌||◌}
use Prim.Native.Nat.{ℕ, ◌<◌}
use native.Mathlib.Omega.{arith}
use native.Mathlib.Decide.{ℕ_discrete}
use lib.Dec.{eqb}
use lib.ListN.{length, get_or, set, replicate, length-set, length-replicate, get_or-replicate}
use lib.Seq.{get_or-set_other, get_or-set_same}
use Rattle.spec.specs.Access.{Access, Kind, Mode, reads, writes, adds, mode, agree, group_conflict}
use Rattle.spec.specs.GroupLog.{GroupLog, empty_group_log, group_masks_of, group_conflict_mask}
use Rattle.spec.specs.Lists.{any_of}
use Rattle.spec.specs.Mask.{any, has}
use Rattle.spec.specs.Shape.{Sizes, shape_of, is_global}
use Rattle.spec.specs.Table.{Table}
use Rattle.spec.specs.Threads.{AccessRecord, Group, any_below, empty_record, initial_threads}
use Rattle.spec.specs.LaunchThreads.{Part, no_part, part_of, has_met, barred_to, initial_part}
use Rattle.spec.proofs.LogLaws.{same}
use Rattle.allruns.proofs.Bools.{below_and, below_none, below_or, below_same}
use Rattle.allruns.proofs.Accesses.{some_and, some_or, some_same}
use Rattle.allruns.proofs.LogMatches.{in_mode, holds}
use Rattle.allruns.proofs.GroupMatches.{GroupSized, GroupMatches, empty_groups_sized, groups_met_lem, met, met_by, none_in}
use Rattle.allruns.proofs.Places.{global_same}

-- A conflict, by the modes of the access that it is with; `here` says that the cells are one.
by_modes : (here : Bool) (k l : Mode)
    → (here && not (agree false k l))
    ≡ (not (agree false writes k) && (here && same writes l) || (not (agree false adds k) && (here && same adds l) || (not (agree false reads k) && (here && same reads l))))
unfolding agree same
by_modes false reads l = refl
by_modes false writes l = refl
by_modes false adds l = refl
by_modes true reads reads = refl
by_modes true reads writes = refl
by_modes true reads adds = refl
by_modes true writes reads = refl
by_modes true writes writes = refl
by_modes true writes adds = refl
by_modes true adds reads = refl
by_modes true adds writes = refl
by_modes true adds adds = refl

-- Of a part with n threads: what it has met, from what it has done in each mode.
module _ (n : ℕ) (ever : AccessRecord) (i : ℕ) (x : Kind) where
  abbrev did : Mode → Bool
  did m = not (agree false m (mode x)) && any_below n (λ t. holds (in_mode m) i (ever t))

  abbrev has_such : Mode → Access → Bool
  has_such m b = not (agree false m (mode x)) && (eqb i b.cell && in_mode m b.kind)

  one_thread : (xs : List Access) → any_of (group_conflict (record { cell = i; kind = x })) xs
      ≡ (not (agree false writes (mode x)) && holds (in_mode writes) i xs
      || (not (agree false adds (mode x)) && holds (in_mode adds) i xs || (not (agree false reads (mode x)) && holds (in_mode reads) i xs)))
  unfolding group_conflict holds
  one_thread xs =
      some_same (group_conflict (record { cell = i; kind = x })) (λ b. has_such writes b || (has_such adds b || has_such reads b)) xs each
      ∙ some_or (has_such writes) (λ b. has_such adds b || has_such reads b) xs
      ∙ ap₂ ◌||◌ (out writes) (some_or (has_such adds) (has_such reads) xs ∙ ap₂ ◌||◌ (out adds) (out reads))
    where
      each : (b : Access) → (eqb i b.cell && not (agree false (mode x) (mode b.kind))) ≡ (has_such writes b || (has_such adds b || has_such reads b))
      each b = unfold in_mode in (by_modes (eqb i b.cell) (mode x) (mode b.kind))

      out : (m : Mode) → any_of (has_such m) xs ≡ (not (agree false m (mode x)) && any_of (λ b. eqb i b.cell && in_mode m b.kind) xs)
      out m = sym (some_and (not (agree false m (mode x))) (λ b. eqb i b.cell && in_mode m b.kind) xs)

  met_by_modes : any_below n (λ t. any_of (group_conflict (record { cell = i; kind = x })) (ever t)) ≡ (did writes || (did adds || did reads))
  met_by_modes =
      below_same n _ _ (λ t l. one_thread (ever t))
      ∙ below_or n (in_mode_lem writes) (λ t. in_mode_lem adds t || in_mode_lem reads t)
      ∙ ap₂ ◌||◌ (out writes) (below_or n (in_mode_lem adds) (in_mode_lem reads) ∙ ap₂ ◌||◌ (out adds) (out reads))
    where
      in_mode_lem : Mode → ℕ → Bool
      in_mode_lem m t = not (agree false m (mode x)) && holds (in_mode m) i (ever t)

      out : (m : Mode) → any_below n (in_mode_lem m) ≡ did m
      out m = below_and n (not (agree false m (mode x))) (λ t. holds (in_mode m) i (ever t))

-- The masks of all groups: at each global cell the bit of group h says, for each mode, whether one of its threads has ever accessed the cell so.
pub record MasksSay (Z : Sizes) (k : ℕ) (parts : List Part) (H : GroupLog) : Type 0 where
  pub sized : GroupSized Z.groups k H
  pub count : length parts ≡ Z.groups
  pub threads : (h : ℕ) → h < Z.groups → length (get_or parts h no_part).threads ≡ Z.threads
  pub says : (m : Mode) (i h : ℕ) → i < k → is_global (shape_of Z 0) i ≡ true → h < Z.groups
      → has (get_or (group_masks_of H m) i []) h ≡ any_below Z.threads (λ t. holds (in_mode m) i ((get_or parts h no_part).ever t))

module _ (Z : Sizes) (k : ℕ) (parts : List Part) (H : GroupLog) (M : MasksSay Z k parts H) where
  met_is : (i h : ℕ) (x : Kind) → i < k → is_global (shape_of Z 0) i ≡ true → h < Z.groups
      → has_met (get_or parts h no_part) (record { cell = i; kind = x }) ≡ met H i x h
  unfolding has_met met met_by
  met_is i h x l q j =
      ap (λ n. any_below n (λ t. any_of (group_conflict (record { cell = i; kind = x })) ((get_or parts h no_part).ever t))) (M.threads h j)
      ∙ met_by_modes Z.threads (get_or parts h no_part).ever i x ∙ sym (ap₂ ◌||◌ (bit writes) (ap₂ ◌||◌ (bit adds) (bit reads)))
    where
      bit : (m : Mode) → (not (agree false m (mode x)) && has (get_or (group_masks_of H m) i []) h)
          ≡ (not (agree false m (mode x)) && any_below Z.threads (λ t. holds (in_mode m) i ((get_or parts h no_part).ever t)))
      bit m = ap (λ b. not (agree false m (mode x)) && b) (M.says m i h l q j)

  barred_is : (g i : ℕ) (x : Kind) → g < Z.groups → i < k
      → barred_to Z parts g (record { cell = i; kind = x }) ≡ (is_global (shape_of Z g) i && any (group_conflict_mask H i g x))
  unfolding barred_to
  barred_is g i x j l = by (is_global (shape_of Z 0) i) refl (global_same Z g 0 i)
    where
      others : Bool
      others = any_below (length parts) (λ h. not (eqb h g) && has_met (get_or parts h no_part) (record { cell = i; kind = x }))

      by : (z : Bool) → is_global (shape_of Z 0) i ≡ z → is_global (shape_of Z g) i ≡ is_global (shape_of Z 0) i
          → (is_global (shape_of Z g) i && others) ≡ (is_global (shape_of Z g) i && any (group_conflict_mask H i g x))
      by true q e =
          ap (λ b. is_global (shape_of Z g) i && b)
          (ap (λ n. any_below n (λ h. not (eqb h g) && has_met (get_or parts h no_part) (record { cell = i; kind = x }))) M.count
          ∙ below_same Z.groups _ _ (λ h b. ap (λ w. not (eqb h g) && w) (met_is i h x l q b))
          ∙ sym (groups_met_lem Z.groups k H M.sized i g x l j))
      by false q e = ap (λ b. b && others) (e ∙ q) ∙ sym (ap (λ b. b && any (group_conflict_mask H i g x)) (e ∙ q))

  -- So they match each group's own machine.
  pub masks_match : (g : ℕ) → g < Z.groups → GroupMatches (shape_of Z g) k (get_or parts g no_part).ever (barred_to Z parts g) H
  masks_match g j =
      record {
        sized = M.sized;
        own = λ m i l q. M.says m i g l (global_same Z 0 g i ∙ q) j;
        others = λ i x l. barred_is g i x j l;
      }

  -- A group's run changes its own bits only, and they then match its accesses.
  pub masks_on : (g : ℕ) (v : Group) (K : GroupLog) → g < Z.groups → length v.threads ≡ Z.threads
      → GroupMatches (shape_of Z g) k v.ever v.barred K
      → ((m : Mode) (i h : ℕ) → ¬ (h ≡ g) → has (get_or (group_masks_of K m) i []) h ≡ has (get_or (group_masks_of H m) i []) h)
      → MasksSay Z k (set parts g (part_of v)) K
  masks_on g v K j n G beside =
      record {
        sized = G.sized;
        count = length-set parts g (part_of v) ∙ M.count;
        threads = λ h l. sizes h l (ℕ_discrete h g);
        says = λ m i h l q b. bits m i h l q b (ℕ_discrete h g);
      }
    where
      there : get_or (set parts g (part_of v)) g no_part ≡ part_of v
      there = get_or-set_same parts g (part_of v) no_part (omega (arith, M.count))

      sizes : (h : ℕ) → h < Z.groups → Dec (h ≡ g) → length (get_or (set parts g (part_of v)) h no_part).threads ≡ Z.threads
      sizes h l (yes e) = ap (λ u. length (get_or (set parts g (part_of v)) u no_part).threads) e ∙ ap (λ p. length p.threads) there ∙ n
      sizes h l (no e) = ap (λ p. length p.threads) (get_or-set_other parts g h (part_of v) no_part e) ∙ M.threads h l

      bits : (m : Mode) (i h : ℕ) → i < k → is_global (shape_of Z 0) i ≡ true → h < Z.groups → Dec (h ≡ g)
          → has (get_or (group_masks_of K m) i []) h ≡ any_below Z.threads (λ t. holds (in_mode m) i ((get_or (set parts g (part_of v)) h no_part).ever t))
      bits m i h l q b (yes e) =
          ap (has (get_or (group_masks_of K m) i [])) e ∙ G.own m i l (global_same Z g 0 i ∙ q)
          ∙ sym (ap (λ u. any_below Z.threads (λ t. holds (in_mode m) i ((get_or (set parts g (part_of v)) u no_part).ever t))) e
          ∙ ap (λ p. any_below Z.threads (λ t. holds (in_mode m) i (p.ever t))) there)
      bits m i h l q b (no e) =
          beside m i h e ∙ M.says m i h l q b
          ∙ sym (ap (λ p. any_below Z.threads (λ t. holds (in_mode m) i (p.ever t))) (get_or-set_other parts g h (part_of v) no_part e))

pub initial_size : (T : Table) (Z : Sizes) → length (initial_part T Z).threads ≡ Z.threads
unfolding initial_part initial_threads
initial_size T Z = length-replicate Z.threads _

-- At the launch no group has accessed anything.
pub masks_start : (T : Table) (Z : Sizes) (k : ℕ) → MasksSay Z k (replicate Z.groups (initial_part T Z)) (empty_group_log Z.groups k)
masks_start T Z k =
    record {
      sized = empty_groups_sized Z.groups k;
      count = length-replicate Z.groups (initial_part T Z);
      threads = λ h l. ap (λ p. length p.threads) (get_or-replicate Z.groups h (initial_part T Z) no_part l) ∙ initial_size T Z;
      says = λ m i h l q b.
          none_in Z.groups k m i h l
          ∙ sym (ap (λ p. any_below Z.threads (λ t. holds (in_mode m) i (p.ever t))) (get_or-replicate Z.groups h (initial_part T Z) no_part b) ∙ nothing m i);
    }
  where
    nothing : (m : Mode) (i : ℕ) → any_below Z.threads (λ t. holds (in_mode m) i ((initial_part T Z).ever t)) ≡ false
    nothing m i = (below_none Z.threads _).1 (λ t l. unfold initial_part empty_record holds any_of in refl)
