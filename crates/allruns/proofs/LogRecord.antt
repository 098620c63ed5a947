-- The lock-step log stands for the machine's access record. Assumes nothing.
use mathlib.Core.Path.{◌≡◌, refl, sym, ◌∙◌, ap, ap₂, subst}
use mathlib.Core.List.{List, [], ◌∷◌, ◌++◌}
use mathlib.Core.Bool.{Bool, true, false, cond, not, ◌&&◌, ◌||◌, or_comm, and-true, and-false, or-false, not-not}
use Prim.Native.Nat.{ℕ, zero, suc, ◌+◌, ◌<◌}
use native.Mathlib.Omega.{arith}
use native.Mathlib.Decide.{ℕ_discrete}
use lib.Dec.{eqb, ltb}
use borrow.Author.Tests.{eq-eqb, ne_eqb, ltb-true, ltb-false}
use lib.ListN.{length, get_or, set, replicate, length-set, length-replicate, get_or-replicate}
use lib.Seq.{get_or-set_other, get_or-set_same, set_out}
use Rattle.spec.specs.Access.{Access, Kind, load, store, atomic_add, value_of, Mode, reads, writes, adds, mode, agree, conflict}
use Rattle.spec.specs.Lists.{any_of, map_where}
use Rattle.spec.specs.Log.{Log, masks_of, empty_log, nobody, cleared, with_thread, unequal, logged, conflicting, tested_mask, conflict_mask}
use Rattle.spec.specs.Mask.{Mask, any, has, union}
use Rattle.spec.specs.Threads.{AccessRecord, any_below, empty_record, races, recorded}
use Rattle.spec.proofs.LogLaws.{same, masks_logged, masks_cleared, masks_empty, nobody_size, where_size, where_at, tested_size}
use Rattle.allruns.proofs.Bools.{or_never, below_none, below_same, below_more}
use Rattle.allruns.proofs.Accesses.{conflict_swap, some_same, some_or, some_none}
use Rattle.allruns.proofs.Diamond.{races_more}
use Rattle.allruns.proofs.LogMatches.{in_mode, is_other, holds, LogSized, LogMatches, BlankAt, LogSame}
use Rattle.allruns.proofs.EqualStores.{unequal_first, unequal_logged, race_free, writer_says}

pub any_below_lem : (m : Mask) → any m ≡ any_below (length m) (has m)
unfolding any any_below has
any_below_lem [] = refl
any_below_lem (b ∷ m) = ap (λ z. b || z) (any_below_lem m) ∙ sym (low (length m) (λ u. get_or (b ∷ m) u false))
  where
    comm3 : (a b c : Bool) → (a || (b || c)) ≡ (b || (a || c))
    comm3 true true c = refl
    comm3 true false c = refl
    comm3 false true c = refl
    comm3 false false c = refl

    low : (k : ℕ) (p : ℕ → Bool) → any_below (suc k) p ≡ (p 0 || any_below k (λ u. p (suc u)))
    low zero p = refl
    low (suc k) p = ap (λ z. p (suc k) || z) (low k p) ∙ comm3 (p (suc k)) (p 0) (any_below k (λ u. p (suc u)))

pub has_set : (m : Mask) (t u : ℕ) (b : Bool) → t < length m → has (set m t b) u ≡ cond (eqb u t) b (has m u)
unfolding has
has_set m t u b l = by (ℕ_discrete u t)
  where
    by : Dec (u ≡ t) → get_or (set m t b) u false ≡ cond (eqb u t) b (get_or m u false)
    by (yes e) = rw (eq-eqb u t e) (ap (λ v. get_or (set m t b) v false) e ∙ get_or-set_same m t b false l)
    by (no e) = rw (ne_eqb u t e) (get_or-set_other m t u b false e)

pub has_union : (m k : Mask) (u : ℕ) → has (union m k) u ≡ (has m u || has k u)
unfolding has union
has_union [] k u = refl
has_union (b ∷ m) [] u = sym (or-false (get_or (b ∷ m) u false))
has_union (b ∷ m) (c ∷ k) zero = refl
has_union (b ∷ m) (c ∷ k) (suc u) = has_union m k u

-- An entered mask: the new record, and the old ones.
pub enter_has : (masks : List Mask) (c t e u : ℕ) → c < length masks → t < length (get_or masks c [])
    → has (get_or (with_thread masks c t) e []) u ≡ (has (get_or masks e []) u || (eqb u t && eqb e c))
unfolding with_thread
enter_has masks c t e u l k = by (ℕ_discrete e c)
  where
    fin : (a b : Bool) → cond a true b ≡ (b || (a && true))
    fin true true = refl
    fin true false = refl
    fin false true = refl
    fin false false = refl

    non : (a b : Bool) → b ≡ (b || (a && false))
    non true true = refl
    non true false = refl
    non false true = refl
    non false false = refl

    by : Dec (e ≡ c) → has (get_or (set masks c (set (get_or masks c []) t true)) e []) u ≡ (has (get_or masks e []) u || (eqb u t && eqb e c))
    by (yes q) =
        rw (eq-eqb e c q)
        (ap (λ v. has (get_or (set masks c (set (get_or masks c []) t true)) v []) u) q ∙ ap (λ m. has m u) (get_or-set_same masks c _ [] l)
        ∙ has_set (get_or masks c []) t u true k
        ∙ fin (eqb u t) (has (get_or masks c []) u) ∙ ap (λ v. has (get_or masks v []) u || (eqb u t && true)) (sym q))
    by (no q) = rw (ne_eqb e c q) (ap (λ m. has m u) (get_or-set_other masks c e _ [] q) ∙ non (eqb u t) _)

pub enter_size : (masks : List Mask) (c t e : ℕ) → length (get_or (with_thread masks c t) e []) ≡ length (get_or masks e [])
unfolding with_thread
enter_size masks c t e = by (ℕ_discrete e c) (ltb c (length masks)) refl
  where
    by : Dec (e ≡ c) → (z : Bool) → ltb c (length masks) ≡ z → length (get_or (set masks c (set (get_or masks c []) t true)) e []) ≡ length (get_or masks e [])
    by (no q) z p = ap length (get_or-set_other masks c e _ [] q)
    by (yes q) true p =
        ap (λ v. length (get_or (set masks c (set (get_or masks c []) t true)) v [])) q ∙ ap length (get_or-set_same masks c _ [] (ltb-true _ _ p))
        ∙ length-set (get_or masks c []) t true ∙ ap (λ v. length (get_or masks v [])) (sym q)
    by (yes q) false p = ap (λ m. length (get_or m e [])) (set_out masks c _ (ltb-false _ _ p))

values_size : (G : Log) (c t : ℕ) (x : Kind) → length (logged G c t x).values ≡ length G.values
unfolding logged
values_size G c t load = refl
values_size G c t (store v) = length-set G.values c _
values_size G c t (atomic_add v) = refl

marks_size : (G : Log) (c t : ℕ) (x : Kind) → length (logged G c t x).marks ≡ length G.marks
unfolding logged
marks_size G c t load = refl
marks_size G c t (store v) = length-set G.marks c _
marks_size G c t (atomic_add v) = refl

pub nobody_has : (m : Mask) (t : ℕ) → has (nobody m) t ≡ false
unfolding has nobody
nobody_has [] t = refl
nobody_has (b ∷ m) zero = refl
nobody_has (b ∷ m) (suc t) = nobody_has m t

-- The conflicts in one mode: all of its mask or none of it.
conflicting_has : (G : Log) (c : ℕ) (m : Mode) (x : Kind) (u : ℕ)
    → has (conflicting G c m x) u ≡ (not (agree (not (unequal G c (value_of x))) m (mode x)) && has (get_or (masks_of G m) c []) u)
unfolding conflicting
conflicting_has G c m x u = by (agree (not (unequal G c (value_of x))) m (mode x))
  where
    by : (b : Bool) → has (cond b (nobody (get_or (masks_of G m) c [])) (get_or (masks_of G m) c [])) u ≡ (not b && has (get_or (masks_of G m) c []) u)
    by true = nobody_has (get_or (masks_of G m) c []) u
    by false = refl

-- What a thread has accessed itself counts for none of its races.
races_own : (n : ℕ) (R : AccessRecord) (t : ℕ) (xs : List Access) (y : Access) → races n (recorded R t xs) t y ≡ races n R t y
unfolding races recorded
races_own n R t xs y = below_same n _ _ (λ u l. by (eqb u t) (R u))
  where
    by : (d : Bool) (ys : List Access) → (not d && any_of (conflict y) (cond d (xs ++ ys) ys)) ≡ (not d && any_of (conflict y) ys)
    by true ys = refl
    by false ys = refl

-- An access that does not race, recorded, leaves a record in which none does.
free_recorded : (n : ℕ) (R : AccessRecord) (t : ℕ) (x : Access) → t < n → ((u : ℕ) → u < n → any_of (races n R u) (R u) ≡ false) → races n R t x ≡ false
    → (u : ℕ) → u < n → any_of (races n (recorded R t (x ∷ [])) u) (recorded R t (x ∷ []) u) ≡ false
free_recorded n R t x l free q u m = by (ℕ_discrete u t)
  where
    R₁ : AccessRecord
    R₁ = recorded R t (x ∷ [])

    own : any_of (races n R₁ t) (R₁ t) ≡ false
    own =
        unfold recorded any_of in
        (some_same _ (races n R t) (R₁ t) (races_own n R t (x ∷ [])) ∙ ap (λ b. any_of (races n R t) (cond b (x ∷ R t) (R t))) (eq-eqb t t refl)
        ∙ ap₂ ◌||◌ q (free t l))

    beside : ¬ (u ≡ t) → any_of (races n R₁ u) (R₁ u) ≡ false
    beside e =
        unfold recorded any_of in
        (ap (λ b. any_of (races n R₁ u) (cond b (x ∷ R u) (R u))) (ne_eqb u t e)
        ∙ some_same _ (λ y. races n R u y || conflict x y) (R u)
        (λ y. races_more n R t u (x ∷ []) y (λ s. e (sym s)) l ∙ ap (λ b. races n R u y || b) (or-false (conflict y x) ∙ conflict_swap y x))
        ∙ some_or (races n R u) (conflict x) (R u) ∙ ap₂ ◌||◌ (free u m) (race_free n R t u x q m e))

    by : Dec (u ≡ t) → any_of (races n R₁ u) (R₁ u) ≡ false
    by (yes e) = subst (λ v. any_of (races n R₁ v) (R₁ v) ≡ false) (sym e) own
    by (no e) = beside e

-- A test of a cell's masks is a race test, where it says of each thread whether it has a conflicting access.
tested : (n : ℕ) (R : AccessRecord) (t : ℕ) (x : Access) (m : Mask) → t < n → length m ≡ n → ((u : ℕ) → u < n → any_of (conflict x) (R u) ≡ has m u)
    → races n R t x ≡ any (set m t false)
unfolding races
tested n R t x m l s h =
    below_same n _ (has (set m t false)) (λ u k. ap (λ a. not (eqb u t) && a) (h u k) ∙ pick (eqb u t) (has m u) ∙ sym (has_set m t u false (omega arith)))
    ∙ ap (λ k. any_below k (has (set m t false))) (sym (length-set m t false ∙ s)) ∙ sym (any_below_lem (set m t false))
  where
    pick : (e a : Bool) → (not e && a) ≡ cond e false a
    pick true a = refl
    pick false a = refl

pub replicate_has : (n t : ℕ) → has (replicate n false) t ≡ false
unfolding has
replicate_has zero t = refl
replicate_has (suc n) zero = refl
replicate_has (suc n) (suc t) = replicate_has n t

mask_empty : (n k : ℕ) (m : Mode) (c : ℕ) → c < k → get_or (masks_of (empty_log n k) m) c [] ≡ replicate n false
mask_empty n k m c i = ap (λ y. get_or y c []) (masks_empty n k m) ∙ get_or-replicate k c (replicate n false) [] i

where_from : {A : Type 0} (p : ℕ → Bool) (f : A → A) (xs : List A) (j : ℕ) (d : A) → j < length xs
    → get_or (map_where p f 0 xs) j d ≡ cond (p j) (f (get_or xs j d)) (get_or xs j d)
where_from p f xs j d l = where_at p f 0 xs j d l ∙ ap (λ k. cond (p k) (f (get_or xs j d)) (get_or xs j d)) (let z : 0 + j ≡ j = omega arith in z)

mask_cleared : (p : ℕ → Bool) (G : Log) (m : Mode) (c : ℕ) → c < length (masks_of G m)
    → get_or (masks_of (cleared p G) m) c [] ≡ cond (p c) (nobody (get_or (masks_of G m) c [])) (get_or (masks_of G m) c [])
mask_cleared p G m c i = ap (λ y. get_or y c []) (masks_cleared p G m) ∙ where_from p nobody (masks_of G m) c [] i

pub logged_sized : (n k : ℕ) (G : Log) (c t : ℕ) (x : Kind) → LogSized n k G → LogSized n k (logged G c t x)
logged_sized n k G c t x z =
    record {
      count = λ m. ap length (masks_logged G c t x m) ∙ counted m (same m (mode x)) ∙ z.count m;
      size = λ m e j. ap (λ y. length (get_or y e [])) (masks_logged G c t x m) ∙ sized m (same m (mode x)) e ∙ z.size m e j;
      value_count = values_size G c t x ∙ z.value_count;
      mark_count = marks_size G c t x ∙ z.mark_count;
    }
  where
    after : Mode → Bool → List Mask
    after m b = cond b (with_thread (masks_of G m) c t) (masks_of G m)

    counted : (m : Mode) (b : Bool) → length (after m b) ≡ length (masks_of G m)
    counted m true = unfold with_thread in (length-set (masks_of G m) c _)
    counted m false = refl

    sized : (m : Mode) (b : Bool) (e : ℕ) → length (get_or (after m b) e []) ≡ length (get_or (masks_of G m) e [])
    sized m true e = enter_size (masks_of G m) c t e
    sized m false e = refl

-- The record with the access x: what it had, and x.
pub holds_recorded : (R : AccessRecord) (t c : ℕ) (p : Kind → Bool) (x : Kind) (u e : ℕ)
    → holds p e (recorded R t (record { cell = c; kind = x } ∷ []) u) ≡ (holds p e (R u) || (eqb u t && (eqb e c && p x)))
unfolding holds recorded any_of
holds_recorded R t c p x u e = by (eqb u t)
  where
    by : (d : Bool) → any_of (λ a. eqb e a.cell && p a.kind) (cond d (record { cell = c; kind = x } ∷ R u) (R u))
        ≡ (any_of (λ a. eqb e a.cell && p a.kind) (R u) || (d && (eqb e c && p x)))
    by true = or_comm (eqb e c && p x) (any_of (λ a. eqb e a.cell && p a.kind) (R u))
    by false = sym (or-false (any_of (λ a. eqb e a.cell && p a.kind) (R u)))

module _ (n k : ℕ) (q : ℕ → Bool) (R : AccessRecord) (G : Log) (h : LogMatches n k q R G) (t c : ℕ) (l : t < n) (i : c < k) (r : q c ≡ true) where
  against_size : (x : Kind) → length (tested_mask G c x) ≡ n
  against_size x = tested_size G c x n (λ m. h.sized.size m c i)

  -- What the conflict table makes of an access in mode y beside one in mode x is found in the masks of one mode.
  by_modes : (e q : Bool) (x y : Mode) → (e && not (agree q x y))
      ≡ ((e && (not (agree q writes x) && same writes y)) || ((e && (not (agree q adds x) && same adds y)) || (e && (not (agree q reads x) && same reads y))))
  unfolding agree same
  by_modes false q x y = refl
  by_modes true q reads reads = refl
  by_modes true q reads writes = refl
  by_modes true q reads adds = refl
  by_modes true true writes reads = refl
  by_modes true true writes writes = refl
  by_modes true true writes adds = refl
  by_modes true false writes reads = refl
  by_modes true false writes writes = refl
  by_modes true false writes adds = refl
  by_modes true q adds reads = refl
  by_modes true q adds writes = refl
  by_modes true q adds adds = refl

  in_mode_lem : (m : Mode) (p : Bool) (u : ℕ) → u < n
      → any_of (λ a. eqb c a.cell && (p && same m (mode a.kind))) (R u) ≡ (p && has (get_or (masks_of G m) c []) u)
  unfolding holds in_mode
  in_mode_lem m true u j = h.says m u c j i r
  in_mode_lem m false u j = some_same _ (λ a. false) (R u) (λ a. and-false (eqb c a.cell)) ∙ some_none (R u)

  -- The same for an access in mode x that brings v: between two stores the values count, and there first value and mark speak for them.
  in_modes : (m x : Mode) (v u : ℕ) → u < n
      → any_of (λ a. eqb c a.cell && (not (agree (eqb v (value_of a.kind)) m x) && same m (mode a.kind))) (R u)
      ≡ (not (agree (not (unequal G c v)) m x) && has (get_or (masks_of G m) c []) u)
  unfolding agree
  in_modes reads reads v u j = in_mode_lem reads false u j
  in_modes reads writes v u j = in_mode_lem reads true u j
  in_modes reads adds v u j = in_mode_lem reads true u j
  in_modes writes reads v u j = in_mode_lem writes true u j
  in_modes writes writes v u j = unfold holds is_other in_mode in
      (writer_says n k q R G h c v i r u j ∙ ap (λ b. b && has (get_or (masks_of G writes) c []) u) (sym (not-not (unequal G c v))))
  in_modes writes adds v u j = in_mode_lem writes true u j
  in_modes adds reads v u j = in_mode_lem adds true u j
  in_modes adds writes v u j = in_mode_lem adds true u j
  in_modes adds adds v u j = in_mode_lem adds false u j

  against_has : (x : Kind) (u : ℕ) → u < n → any_of (conflict (record { cell = c; kind = x })) (R u) ≡ has (tested_mask G c x) u
  unfolding tested_mask conflict
  against_has x u j =
      some_same _ (λ a. part writes a || (part adds a || part reads a)) (R u) (λ a. by_modes (eqb c a.cell) (eqb (value_of x) (value_of a.kind)) (mode x) (mode a.kind))
      ∙ some_or (part writes) (λ a. part adds a || part reads a) (R u)
      ∙ ap (λ b. any_of (part writes) (R u) || b) (some_or (part adds) (part reads) (R u))
      ∙ ap₂ ◌||◌ (found writes) (ap₂ ◌||◌ (found adds) (found reads))
      ∙ sym (has_union (met writes) (union (met adds) (met reads)) u ∙ ap (λ b. has (met writes) u || b) (has_union (met adds) (met reads) u))
    where
      part : Mode → Access → Bool
      part m a = eqb c a.cell && (not (agree (eqb (value_of x) (value_of a.kind)) m (mode x)) && same m (mode a.kind))

      met : Mode → Mask
      met m = conflicting G c m x

      found : (m : Mode) → any_of (part m) (R u) ≡ has (met m) u
      found m = in_modes m (mode x) (value_of x) u j ∙ sym (conflicting_has G c m x u)

  -- The race test of the lock-step run is that of the machine.
  pub log_tested : (x : Kind) → races n R t (record { cell = c; kind = x }) ≡ any (conflict_mask G c t x)
  unfolding conflict_mask
  log_tested x = tested n R t (record { cell = c; kind = x }) (tested_mask G c x) l (against_size x) (against_has x)

  -- The masks of a mode with the access: entered where it is the access's own, else as they were.
  mask_logged : (m : Mode) (b : Bool) (u e : ℕ) → u < n → e < k → q e ≡ true
      → (holds (in_mode m) e (R u) || (eqb u t && (eqb e c && b))) ≡ has (get_or (cond b (with_thread (masks_of G m) c t) (masks_of G m)) e []) u
  mask_logged m true u e a b j =
      ap₂ (λ x y. x || (eqb u t && y)) (h.says m u e a b j) (and-true (eqb e c))
      ∙ sym (enter_has (masks_of G m) c t e u (omega (arith, h.sized.count m)) (omega (arith, h.sized.size m c i)))
  mask_logged m false u e a b j = or_never (holds (in_mode m) e (R u)) (eqb u t) (eqb e c) ∙ h.says m u e a b j

  -- First value and mark with the access.
  unequal_recorded : (x : Kind) (e w : ℕ) → e < k → q e ≡ true
      → unequal (logged G c t x) e w ≡ any_below n (λ u. holds (is_other w) e (recorded R t (record { cell = c; kind = x } ∷ []) u))
  unfolding masks_of
  unequal_recorded x e w j b =
      unequal_logged G c t (omega (arith, h.sized.count writes)) (omega (arith, h.sized.size writes c i)) (omega (arith, h.sized.value_count))
      (omega (arith, h.sized.mark_count)) x e w
      ∙ ap (λ b. b || (eqb e c && is_other w x)) (h.differ e w j b)
      ∙ sym (below_same n _ _ (λ u a. holds_recorded R t c (is_other w) x u e) ∙ below_more n (λ u. holds (is_other w) e (R u)) t (eqb e c && is_other w x) l)

  -- An access that does not race, entered.
  pub log_entered : (x : Kind) → any (conflict_mask G c t x) ≡ false → LogMatches n k q (recorded R t (record { cell = c; kind = x } ∷ [])) (logged G c t x)
  unfolding in_mode
  log_entered x f =
      record {
        sized = logged_sized n k G c t x h.sized;
        says = λ m u e a b j.
            holds_recorded R t c (in_mode m) x u e ∙ mask_logged m (same m (mode x)) u e a b j ∙ ap (λ y. has (get_or y e []) u) (sym (masks_logged G c t x m));
        differ = unequal_recorded x;
        free = free_recorded n R t (record { cell = c; kind = x }) l h.free (log_tested x ∙ f);
      }

-- A log in which nothing is logged at these places matches the empty record.
pub log_blank : (n k : ℕ) (q : ℕ → Bool) (G : Log) → LogSized n k G → ((c : ℕ) → c < k → q c ≡ true → BlankAt G c) → LogMatches n k q empty_record G
unfolding empty_record holds any_of
log_blank n k q G z b =
    record {
      sized = z;
      says = λ m t c l i r. sym ((b c i r).unmet m t);
      differ = λ c v i r. unequal_first G c v (b c i r).unmarked (none c i r) ∙ sym ((below_none n (λ t. false)).1 (λ t l. refl));
      free = λ t l. refl;
    }
  where
    none : (c : ℕ) → c < k → q c ≡ true → any (get_or G.writers c []) ≡ false
    none c i r = any_below_lem (get_or G.writers c []) ∙ (below_none (length (get_or G.writers c [])) _).1 (λ t l. unfold masks_of in ((b c i r).unmet writes t))

-- The log at the start, and what is cleared.
pub empty_sized : (n k : ℕ) → LogSized n k (empty_log n k)
empty_sized n k =
    record {
      count = λ m. ap length (masks_empty n k m) ∙ length-replicate k (replicate n false);
      size = λ m c i. ap length (mask_empty n k m c i) ∙ length-replicate n false;
      value_count = unfold empty_log in (length-replicate k 0);
      mark_count = unfold empty_log in (length-replicate k false);
    }

pub empty_blank : (n k c : ℕ) → c < k → BlankAt (empty_log n k) c
empty_blank n k c i =
    record {
      unmet = λ m t. ap (λ y. has y t) (mask_empty n k m c i) ∙ replicate_has n t;
      unmarked = unfold empty_log in (get_or-replicate k c false false i);
    }

pub cleared_sized : (n k : ℕ) (p : ℕ → Bool) (G : Log) → LogSized n k G → LogSized n k (cleared p G)
cleared_sized n k p G z =
    record {
      count = λ m. ap length (masks_cleared p G m) ∙ where_size p nobody 0 (masks_of G m) ∙ z.count m;
      size = λ m c i. ap length (mask_cleared p G m c (omega (arith, z.count m))) ∙ by (p c) m c ∙ z.size m c i;
      value_count = unfold cleared in (where_size p (λ v. 0) 0 G.values ∙ z.value_count);
      mark_count = unfold cleared in (where_size p (λ b. false) 0 G.marks ∙ z.mark_count);
    }
  where
    by : (b : Bool) (m : Mode) (c : ℕ) → length (cond b (nobody (get_or (masks_of G m) c [])) (get_or (masks_of G m) c [])) ≡ length (get_or (masks_of G m) c [])
    by true m c = nobody_size (get_or (masks_of G m) c [])
    by false m c = refl

module _ (n k : ℕ) (p : ℕ → Bool) (G : Log) (z : LogSized n k G) (c : ℕ) (i : c < k) where
  mark_cleared : get_or (cleared p G).marks c false ≡ cond (p c) false (get_or G.marks c false)
  unfolding cleared
  mark_cleared = where_from p (λ b. false) G.marks c false (omega (arith, z.mark_count))

  -- Nothing is logged where the log is cleared, nor where nothing was logged before.
  pub cleared_blank : p c ≡ true → BlankAt (cleared p G) c
  cleared_blank r =
      record {
        unmet = λ m t.
            ap (λ y. has y t) (mask_cleared p G m c (omega (arith, z.count m)) ∙ ap (λ b. cond b (nobody (get_or (masks_of G m) c [])) (get_or (masks_of G m) c [])) r)
            ∙ nobody_has (get_or (masks_of G m) c []) t;
        unmarked = mark_cleared ∙ ap (λ b. cond b false (get_or G.marks c false)) r;
      }

  pub blank_cleared : BlankAt G c → BlankAt (cleared p G) c
  blank_cleared b =
      record {
        unmet = λ m t. ap (λ y. has y t) (mask_cleared p G m c (omega (arith, z.count m))) ∙ by (p c) m t;
        unmarked = mark_cleared ∙ at (p c);
      }
    where
      by : (b : Bool) (m : Mode) (t : ℕ) → has (cond b (nobody (get_or (masks_of G m) c [])) (get_or (masks_of G m) c [])) t ≡ false
      by true m t = nobody_has (get_or (masks_of G m) c []) t
      by false m t = b.unmet m t

      at : (b : Bool) → cond b false (get_or G.marks c false) ≡ false
      at true = refl
      at false = b.unmarked

-- A barrier: the group's record is empty, and so is the log at the places that it can name.
pub log_cleared : (n k : ℕ) (q : ℕ → Bool) (R : AccessRecord) (G : Log) → LogMatches n k q R G → LogMatches n k q empty_record (cleared q G)
log_cleared n k q R G h = log_blank n k q (cleared q G) (cleared_sized n k q G h.sized) (λ c i r. cleared_blank n k q G h.sized c i r)

-- Places that an access or a barrier leaves as they were.
pub logged_same : (G : Log) (c t : ℕ) (x : Kind) (e : ℕ) → ¬ (e ≡ c) → LogSame G (logged G c t x) e
logged_same G c t x e d =
    record {
      masks = λ m. ap (λ y. get_or y e []) (masks_logged G c t x m) ∙ by m (same m (mode x));
      value = values x;
      mark = marks x;
    }
  where
    by : (m : Mode) (b : Bool) → get_or (cond b (with_thread (masks_of G m) c t) (masks_of G m)) e [] ≡ get_or (masks_of G m) e []
    by m true = unfold with_thread in (get_or-set_other (masks_of G m) c e _ [] d)
    by m false = refl

    values : (x : Kind) → get_or (logged G c t x).values e 0 ≡ get_or G.values e 0
    values load = unfold logged in refl
    values (store v) = unfold logged in (get_or-set_other G.values c e _ 0 d)
    values (atomic_add v) = unfold logged in refl

    marks : (x : Kind) → get_or (logged G c t x).marks e false ≡ get_or G.marks e false
    marks load = unfold logged in refl
    marks (store v) = unfold logged in (get_or-set_other G.marks c e _ false d)
    marks (atomic_add v) = unfold logged in refl

where_other : {A : Type 0} (p : ℕ → Bool) (f : A → A) (i : ℕ) (xs : List A) (j : ℕ) (d : A) → p (i + j) ≡ false → get_or (map_where p f i xs) j d ≡ get_or xs j d
unfolding map_where
where_other p f i [] j d r = refl
where_other p f i (x ∷ xs) zero d r = ap (λ b. cond b (f x) x) (ap p (let z : i ≡ i + 0 = omega arith in z) ∙ r)
where_other p f i (x ∷ xs) (suc j) d r = where_other p f (suc i) xs j d (ap p (let z : suc i + j ≡ i + suc j = omega arith in z) ∙ r)

pub cleared_same : (p : ℕ → Bool) (G : Log) (e : ℕ) → p e ≡ false → LogSame G (cleared p G) e
unfolding cleared
cleared_same p G e r =
    record {
      masks = λ m. ap (λ y. get_or y e []) (masks_cleared p G m) ∙ where_other p nobody 0 (masks_of G m) e [] from;
      value = where_other p (λ v. 0) 0 G.values e 0 from;
      mark = where_other p (λ b. false) 0 G.marks e false from;
    }
  where
    from : p (0 + e) ≡ false
    from = ap p (let z : 0 + e ≡ e = omega arith in z) ∙ r

pub same_then : (G H J : Log) (c : ℕ) → LogSame G H c → LogSame H J c → LogSame G J c
same_then G H J c a b = record { masks = λ m. b.masks m ∙ a.masks m; value = b.value ∙ a.value; mark = b.mark ∙ a.mark }

pub same_blank : (G H : Log) (c : ℕ) → LogSame G H c → BlankAt G c → BlankAt H c
same_blank G H c s b = record { unmet = λ m t. ap (λ y. has y t) (s.masks m) ∙ b.unmet m t; unmarked = s.mark ∙ b.unmarked }
