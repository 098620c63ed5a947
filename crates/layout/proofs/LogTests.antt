-- The words that the code's functions on the log come to: by the op, and as those of a lock-step log. Assumes nothing.
use mathlib.Core.Path.{◌≡◌, refl, sym, ◌∙◌, ap, ap₂, subst, subst₂}
use mathlib.Core.Logic.{◌⊎◌, inl, inr}
use mathlib.Core.List.{List, []}
use mathlib.Core.Bool.{Bool, true, false, cond, not, and-false}
use Prim.Native.Nat.{ℕ, zero, suc, ◌+◌, ◌-◌, ◌*◌, ◌/◌, ◌%◌, ◌^◌, ◌<◌, ◌≤◌}
use native.Mathlib.Omega.{arith}
use native.Mathlib.Decide.{ℕ_discrete}
use borrow.Author.Tests.{eq-eqb, ne_eqb}
use lib.Bits.{bit_and, bit_or, or_zero_l, or_zero_r, or_add_and, and_high}
use lib.Dec.{eqb}
use lib.ListN.{length, get_or, set}
use lib.Pow.{pow-add}
use lib.Seq.{set-get_or, get_or-set_other}
use Rattle.spec.specs.declared.AccessKind.TheVariants.{ReadWrite, WriteRead, WriteWrite, ReadAdd, AddRead, WriteAdd, AddWrite}
use Rattle.spec.specs.Access.{Kind, load, store, atomic_add, Mode, reads, writes, adds, mode, agree}
use Rattle.spec.specs.Op.{Mem, OWN, MEM, LOAD, STORE, ATOMICADD, op_of, op_table}
use Rattle.spec.specs.Table.{kind_of}
use Rattle.spec.specs.Mask.{mask_word, has}
use Rattle.spec.specs.Log.{Log, masks_of, conflicting, conflict_mask, shown_kind, race_kind, logged}
use Rattle.masks.proofs.Bits.{or_assoc}
use Rattle.layout.specs.Memory.{LogIs}
use Rattle.layout.specs.Logging.{LogAsks, mode_of, rank, place_of, word_of, equal_word, conflicting_word, tested_word, mask_entered, mark_entered, value_entered, entered_words}
use Rattle.layout.specs.Logging.{beside_writers, has_bit, kind_word}
use Rattle.layout.proofs.Reach.{or_right}
use Rattle.layout.proofs.LogBuffer.{bit_has, word_is, part_is, conflict_is, tested_is, load_is, store_is, add_is}

-- The three ops of access rows.
pub which : (op : ℕ) → 16 ≤ op → op ≤ 18 → (op ≡ 16) ⊎ ((op ≡ 17) ⊎ (op ≡ 18))
which op p q = by (ℕ_discrete op 16) (ℕ_discrete op 17)
  where
    by : Dec (op ≡ 16) → Dec (op ≡ 17) → (op ≡ 16) ⊎ ((op ≡ 17) ⊎ (op ≡ 18))
    by (yes e) d = inl e
    by (no f) (yes e) = inr (inl e)
    by (no f) (no g) = inr (inr (omega arith))

pub mem_load : (op : ℕ) (m : Mem) → op ≡ 16 → op_of op ≡ MEM OWN m → m ≡ LOAD
unfolding op_of op_table
mem_load op m e q = let z : MEM OWN m ≡ MEM OWN LOAD = sym q ∙ ap op_of e in cc

pub mem_store : (op : ℕ) (m : Mem) → op ≡ 17 → op_of op ≡ MEM OWN m → m ≡ STORE
unfolding op_of op_table
mem_store op m e q = let z : MEM OWN m ≡ MEM OWN STORE = sym q ∙ ap op_of e in cc

pub mem_add : (op : ℕ) (m : Mem) → op ≡ 18 → op_of op ≡ MEM OWN m → m ≡ ATOMICADD
unfolding op_of op_table
mem_add op m e q = let z : MEM OWN m ≡ MEM OWN ATOMICADD = sym q ∙ ap op_of e in cc

-- The places of the three modes follow one another.
module _ (op k i : ℕ) where
  pub place_by : 16 ≤ op → op ≤ 18 → (op - 16) * k + i ≡ place_of (rank (mode_of op)) k i
  unfolding place_of mode_of rank
  place_by p q = by (which op p q)
    where
      by : (op ≡ 16) ⊎ ((op ≡ 17) ⊎ (op ≡ 18)) → (op - 16) * k + i ≡ place_of (rank (mode_of op)) k i
      by (inl e) = rw (eq-eqb op 16 e) (rw e (omega arith))
      by (inr (inl e)) = rw (ne_eqb op 16 (λ z. omega arith), eq-eqb op 17 e) (rw e (omega arith))
      by (inr (inr e)) = rw (ne_eqb op 16 (λ z. omega arith), ne_eqb op 17 (λ z. omega arith)) (rw e (omega arith))

  pub offset_few : 16 ≤ op → op ≤ 18 → k ≤ 1024 → (op - 16) * k ≤ 2048
  offset_few p q f = by (which op p q)
    where
      by : (op ≡ 16) ⊎ ((op ≡ 17) ⊎ (op ≡ 18)) → (op - 16) * k ≤ 2048
      by (inl e) = rw e (omega arith)
      by (inr (inl e)) = rw e (omega arith)
      by (inr (inr e)) = rw e (omega arith)

  pub place_inside : (log : List ℕ) (p : ℕ) → LogAsks op k i log → p ≡ place_of (rank (mode_of op)) k i → (p < length log) × (p < 3072)
  unfolding place_of rank
  place_inside log p A e = by (mode_of op) e
    where
      by : (m : Mode) → p ≡ place_of (rank m) k i → (p < length log) × (p < 3072)
      by reads e = (omega (arith, A.inside, A.sized), omega (arith, A.inside, A.few))
      by writes e = (omega (arith, A.inside, A.sized), omega (arith, A.inside, A.few))
      by adds e = (omega (arith, A.inside, A.sized), omega (arith, A.inside, A.few))

-- A word that has a bit is the same with it.
pub bit_among : (w t : ℕ) → (bit_and w (2 ^ t) ≡ 0 → ⊥) → bit_or w (2 ^ t) ≡ w
bit_among w t f = let e = or_add_and w (2 ^ t) in let b = by (w / 2 ^ t % 2) (omega arith) digit in omega (arith, e, b)
  where
    bit_alone : 2 ^ (1 + t) - 2 ^ t ≡ 2 ^ t
    bit_alone = let e : 2 ^ (1 + t) ≡ 2 * 2 ^ t = pow-add 2 1 t in omega (arith, e)

    digit : bit_and w (2 ^ t) ≡ (w / 2 ^ t % 2) * 2 ^ t
    digit = ap (bit_and w) (sym bit_alone) ∙ and_high w 1 t

    by : (m : ℕ) → m < 2 → bit_and w (2 ^ t) ≡ m * 2 ^ t → bit_and w (2 ^ t) ≡ 2 ^ t
    by zero l e = absurd (f (omega (arith, e)))
    by (suc zero) l e = omega (arith, e)
    by (suc (suc m)) l e = omega (arith, l)

-- The words, where the code multiplies by no 0 and no 1, and a store's value among them.
module _ (k i : ℕ) (log : List ℕ) where
  pub word_reads : word_of (rank reads) k i log ≡ get_or log i 0
  unfolding word_of place_of rank
  word_reads = ap (λ (z : ℕ). get_or log z 0) (let e : 0 * k + i ≡ i = omega arith in e)

  pub word_writes : word_of (rank writes) k i log ≡ get_or log (k + i) 0
  unfolding word_of place_of rank
  word_writes = ap (λ (z : ℕ). get_or log z 0) (let e : 1 * k + i ≡ k + i = omega arith in e)

  -- A store's value and the mark.
  pub mark_same : (v : ℕ) → v ≡ get_or log (3 * k + i) 0 → log ≡ mark_entered v k i log
  unfolding mark_entered word_of place_of
  mark_same v e = sym (rw (eq-eqb v (get_or log (3 * k + i) 0) e))

  pub mark_other : (v : ℕ) → (v ≡ get_or log (3 * k + i) 0 → ⊥) → set log (4 * k + i) 1 ≡ mark_entered v k i log
  unfolding mark_entered word_of place_of
  mark_other v f = sym (rw (ne_eqb v (get_or log (3 * k + i) 0) f))

  pub value_first : (w v : ℕ) → w ≡ word_of (rank writes) k i log → w ≡ 0 → set log (3 * k + i) v ≡ value_entered v k i log
  unfolding value_entered
  value_first w v q e = sym (rw (eq-eqb (word_of (rank writes) k i log) 0 (sym q ∙ e)) (unfold place_of in refl))

  pub value_later : (w v : ℕ) → w ≡ word_of (rank writes) k i log → (w ≡ 0 → ⊥) → mark_entered v k i log ≡ value_entered v k i log
  unfolding value_entered
  value_later w v q f = sym (rw (ne_eqb (word_of (rank writes) k i log) 0 (λ z. f (q ∙ z))))

  -- Neither is among the writers.
  writers_stay : (v : ℕ) → i < k → word_of (rank writes) k i (value_entered v k i log) ≡ word_of (rank writes) k i log
  unfolding value_entered mark_entered word_of place_of rank
  writers_stay v h = by (eqb (get_or log (1 * k + i) 0) 0) (eqb v (get_or log (3 * k + i) 0))
    where
      by : (b e : Bool) → get_or (cond b (set log (3 * k + i) v) (cond e log (set log (4 * k + i) 1))) (1 * k + i) 0 ≡ get_or log (1 * k + i) 0
      by true e = get_or-set_other log (3 * k + i) (1 * k + i) v 0 (λ z. omega arith)
      by false true = refl
      by false false = get_or-set_other log (4 * k + i) (1 * k + i) 1 0 (λ z. omega arith)

  -- A store by a thread that is among the writers already, the first one to a cell, and any later one.
  pub stored_among : (bit v : ℕ) → i < k → 0 < get_or log (k + i) 0 → bit_or (get_or log (k + i) 0) bit ≡ get_or log (k + i) 0
      → mark_entered v k i log ≡ entered_words 17 v k i bit log
  unfolding entered_words mask_entered mode_of
  stored_among bit v h p e =
      value_later (get_or log (k + i) 0) v (sym word_writes) (λ z. omega (arith, z, p))
      ∙ sym (ap (set after (place_of (rank writes) k i)) (ap (λ (z : ℕ). bit_or z bit) stay ∙ e ∙ sym stay)
      ∙ unfold word_of in (set-get_or after (place_of (rank writes) k i) 0))
    where
      after : List ℕ
      after = value_entered v k i log

      stay : word_of (rank writes) k i after ≡ get_or log (k + i) 0
      stay = writers_stay v h ∙ word_writes

  stored_beside : (bit v : ℕ) → i < k → set (value_entered v k i log) (k + i) (bit_or (get_or log (k + i) 0) bit) ≡ entered_words 17 v k i bit log
  unfolding entered_words mask_entered mode_of
  stored_beside bit v h =
      ap₂ (λ (y z : ℕ). set (value_entered v k i log) y (bit_or z bit)) (unfold place_of rank in (let e : k + i ≡ 1 * k + i = omega arith in e))
      (sym (writers_stay v h ∙ word_writes))

  pub stored_first : (bit v : ℕ) → i < k → get_or log (k + i) 0 ≡ 0 → set (set log (3 * k + i) v) (k + i) bit ≡ entered_words 17 v k i bit log
  stored_first bit v h e =
      ap₂ (λ l (z : ℕ). set l (k + i) z) (value_first 0 v (sym (word_writes ∙ e)) refl) (sym (ap (λ (z : ℕ). bit_or z bit) e ∙ or_zero_l bit))
      ∙ stored_beside bit v h

  pub stored_later : (bit v : ℕ) → i < k → 0 < get_or log (k + i) 0
      → set (mark_entered v k i log) (k + i) (bit_or (get_or log (k + i) 0) bit) ≡ entered_words 17 v k i bit log
  stored_later bit v h p =
      ap (λ l. set l (k + i) (bit_or (get_or log (k + i) 0) bit)) (value_later (get_or log (k + i) 0) v (sym word_writes) (λ z. omega (arith, z, p)))
      ∙ stored_beside bit v h

-- What an access meets beside the writers.
module _ (op k i : ℕ) (log : List ℕ) where
  pub beside_load : op ≡ 16 → beside_writers op k i log ≡ get_or log (2 * k + i) 0
  unfolding beside_writers
  beside_load e = rw (eq-eqb op 16 e) (unfold word_of place_of rank in refl)

  pub beside_store : op ≡ 17 → beside_writers op k i log ≡ bit_or (get_or log (2 * k + i) 0) (get_or log i 0)
  unfolding beside_writers
  beside_store e =
      rw (ne_eqb op 16 (λ z. omega arith), eq-eqb op 17 e) (unfold word_of place_of rank in (ap (bit_or (get_or log (2 * k + i) 0)) (word_reads k i log)))

  pub beside_add : (op ≡ 16 → ⊥) → (op ≡ 17 → ⊥) → beside_writers op k i log ≡ get_or log i 0
  unfolding beside_writers
  beside_add f g = rw (ne_eqb op 16 f, ne_eqb op 17 g) (word_reads k i log)

-- The words, by the op.
module _ (op v k i : ℕ) (log : List ℕ) where
  -- The writers that an access conflicts with: of a STORE none, where the cell has no mark and its first value is stored.
  pub met_equal : op ≡ 17 → get_or log (4 * k + i) 0 ≡ 0 → v ≡ get_or log (3 * k + i) 0 → conflicting_word writes op v k i log ≡ 0
  unfolding conflicting_word equal_word mode_of agree word_of place_of
  met_equal e m q = rw (ne_eqb op 16 (λ z. omega arith), eq-eqb op 17 e, eq-eqb (get_or log (4 * k + i) 0) 0 m, eq-eqb v (get_or log (3 * k + i) 0) q)

  pub met_marked : op ≡ 17 → (get_or log (4 * k + i) 0 ≡ 0 → ⊥) → conflicting_word writes op v k i log ≡ get_or log (k + i) 0
  unfolding conflicting_word equal_word mode_of agree
  met_marked e m = rw (ne_eqb op 16 (λ z. omega arith), eq-eqb op 17 e) (unfold word_of place_of in (rw (ne_eqb (get_or log (4 * k + i) 0) 0 m) (word_writes k i log)))

  pub met_unequal : op ≡ 17 → (v ≡ get_or log (3 * k + i) 0 → ⊥) → conflicting_word writes op v k i log ≡ get_or log (k + i) 0
  unfolding conflicting_word equal_word mode_of agree
  met_unequal e f =
      rw (ne_eqb op 16 (λ z. omega arith), eq-eqb op 17 e)
      (unfold word_of place_of in (rw (ne_eqb v (get_or log (3 * k + i) 0) f, and-false (eqb (get_or log (4 * k + i) 0) 0)) (word_writes k i log)))

  pub met_other : (op ≡ 17 → ⊥) → conflicting_word writes op v k i log ≡ get_or log (k + i) 0
  unfolding conflicting_word mode_of agree
  met_other f = rw (ne_eqb op 17 f) (by (eqb op 16)) ∙ (word_writes k i log)
    where
      by : (b : Bool) → cond (agree (equal_word v k i log) writes (cond b reads adds)) 0 (word_of (rank writes) k i log) ≡ word_of (rank writes) k i log
      by true = refl
      by false = refl

  -- With the writers that it conflicts with, that is all that it is tested against.
  tested_beside : tested_word op v k i log ≡ bit_or (conflicting_word writes op v k i log) (beside_writers op k i log)
  unfolding tested_word conflicting_word beside_writers mode_of agree
  tested_beside = ap (bit_or (conflicting_word writes op v k i log)) (by (eqb op 16) (eqb op 17))
    where
      added : ℕ
      added = word_of (rank adds) k i log

      read : ℕ
      read = word_of (rank reads) k i log

      equal : Bool
      equal = equal_word v k i log

      by : (l s : Bool)
          → bit_or (cond (agree equal adds (cond l reads (cond s writes adds))) 0 added) (cond (agree equal reads (cond l reads (cond s writes adds))) 0 read)
          ≡ cond l added (cond s (bit_or added read) read)
      by true s = or_zero_r added
      by false true = refl
      by false false = or_zero_l read

  module _ (bit : ℕ) where
    abbrev writers : ℕ
    writers = get_or log (k + i) 0

    abbrev others : ℕ
    others = beside_writers op k i log

    -- Where nobody but the acting thread is in any of these masks, the access conflicts with nobody.
    pub met_alone : (r : ℕ) → r ≡ bit_or others bit → bit_or writers r ≡ bit → bit ≡ bit_or (tested_word op v k i log) bit
    unfolding conflicting_word
    met_alone r q e = sym (ap (λ z. bit_or z bit) tested_beside ∙ by (agree (equal_word v k i log) writes (mode_of op)))
      where
        all : bit_or writers (bit_or others bit) ≡ bit
        all = ap (bit_or writers) (sym q) ∙ e

        by : (b : Bool) → bit_or (bit_or (cond b 0 (word_of (rank writes) k i log)) others) bit ≡ bit
        by false = ap (λ z. bit_or (bit_or z others) bit) (word_writes k i log) ∙ or_assoc writers others bit ∙ all
        by true =
            ap (λ z. bit_or z bit) (or_zero_l others) ∙ (let low = or_right writers (bit_or others bit) in let high = or_right others bit in omega (arith, all))

    pub met_beside : (w r : ℕ) → w ≡ conflicting_word writes op v k i log → r ≡ bit_or others bit → bit_or w r ≡ bit_or (tested_word op v k i log) bit
    met_beside w r met e = ap₂ bit_or met e ∙ sym (or_assoc (conflicting_word writes op v k i log) others bit) ∙ ap (λ z. bit_or z bit) (sym tested_beside)

  -- The thread's bit in the log.
  pub entered_by : (bit p : ℕ) → (op ≡ 17 → ⊥) → p ≡ place_of (rank (mode_of op)) k i → set log p (bit_or (get_or log p 0) bit) ≡ entered_words op v k i bit log
  unfolding entered_words mask_entered word_of
  entered_by bit p f q = rw (ne_eqb op 17 f) (ap (λ (z : ℕ). set log z (bit_or (get_or log z 0) bit)) q)

  module _ (bit : ℕ) where
    abbrev masked : Mode → List ℕ → List ℕ
    masked m log' = set log' (place_of (rank m) k i) (bit_or (word_of (rank m) k i log') bit)

    pub entered_load : op ≡ 16 → masked reads log ≡ entered_words op v k i bit log
    unfolding entered_words mask_entered mode_of
    entered_load e = rw (eq-eqb op 16 e, ne_eqb op 17 (λ z. omega arith))

    pub entered_store : op ≡ 17 → masked writes (value_entered v k i log) ≡ entered_words op v k i bit log
    unfolding entered_words mask_entered mode_of
    entered_store e = rw (ne_eqb op 16 (λ z. omega arith), eq-eqb op 17 e)

    pub entered_add : op ≡ 18 → masked adds log ≡ entered_words op v k i bit log
    unfolding entered_words mask_entered mode_of
    entered_add e = rw (ne_eqb op 16 (λ z. omega arith), ne_eqb op 17 (λ z. omega arith))

-- Whether a word is not 0, by what it is.
pub is_zero : (w : ℕ) → w ≡ 0 → not (eqb w 0) ≡ false
is_zero w z = ap not (eq-eqb w 0 z)

pub not_zero : (w : ℕ) → (w ≡ 0 → ⊥) → not (eqb w 0) ≡ true
not_zero w z = ap not (ne_eqb w 0 z)

-- The kind of a race, by the op's tests.
pub shown_by : (op : ℕ) (w d l s b a : Bool) → eqb op 16 ≡ l → eqb op 17 ≡ s → w ≡ b → d ≡ a
    → shown_kind w d (mode_of op) ≡ cond l (cond b WriteRead AddRead) (cond s (cond b WriteWrite (cond a AddWrite ReadWrite)) (cond b WriteAdd ReadAdd))
unfolding mode_of
shown_by op w d l s b a el es eb ea = rw (el, es, eb, ea) (by l s)
  where
    by : (l s : Bool) → shown_kind b a (cond l reads (cond s writes adds))
        ≡ cond l (cond b WriteRead AddRead) (cond s (cond b WriteWrite (cond a AddWrite ReadWrite)) (cond b WriteAdd ReadAdd))
    by true s = unfold shown_kind in refl
    by false true = unfold shown_kind in refl
    by false false = unfold shown_kind in refl

-- For a lock-step log they are what the definition has, v being the value that a store stores or an add adds.
module _ (op k i : ℕ) (log : List ℕ) (n v : ℕ) (m : Mem) (G : Log) (o : op_of op ≡ MEM OWN m) (p : 16 ≤ op) (q : op ≤ 18) (h : i < k) (L : LogIs n k G log) where
  -- The access's kind, and its mode.
  kind_load : op ≡ 16 → load ≡ kind_of m v
  unfolding kind_of
  kind_load e = ap (λ x. kind_of x v) (sym (mem_load op m e o))

  kind_store : op ≡ 17 → store v ≡ kind_of m v
  unfolding kind_of
  kind_store e = ap (λ x. kind_of x v) (sym (mem_store op m e o))

  kind_add : op ≡ 18 → atomic_add v ≡ kind_of m v
  unfolding kind_of
  kind_add e = ap (λ x. kind_of x v) (sym (mem_add op m e o))

  pub mode_means : mode_of op ≡ mode (kind_of m v)
  unfolding mode_of mode
  mode_means = by (which op p q)
    where
      by : (op ≡ 16) ⊎ ((op ≡ 17) ⊎ (op ≡ 18)) → mode_of op ≡ mode (kind_of m v)
      by (inl e) = rw (eq-eqb op 16 e) (ap mode (kind_load e))
      by (inr (inl e)) = rw (ne_eqb op 16 (λ z. omega arith), eq-eqb op 17 e) (ap mode (kind_store e))
      by (inr (inr e)) = rw (ne_eqb op 16 (λ z. omega arith), ne_eqb op 17 (λ z. omega arith)) (ap mode (kind_add e))

  met_means : (l : Mode) → conflicting_word l op v k i log ≡ mask_word (conflicting G i l (kind_of m v))
  unfolding conflicting_word
  met_means l = ap (λ x. cond (agree (equal_word v k i log) l x) 0 (word_of (rank l) k i log)) mode_means ∙ part_is n k G log L i h l m v

  pub kind_means : (u : ℕ) → kind_word op v k i u log ≡ race_kind G i u (kind_of m v)
  unfolding kind_word
  kind_means u =
      ap₂ (λ w d. shown_kind w d (mode_of op)) (ap (has_bit u) (met_means writes) ∙ bit_has (conflicting G i writes (kind_of m v)) u)
      (ap (has_bit u) (word_is n k G log L i h adds) ∙ bit_has (get_or (masks_of G adds) i []) u)
      ∙ ap (shown_kind (has (conflicting G i writes (kind_of m v)) u) added) mode_means ∙ by (kind_of m v)
    where
      added : Bool
      added = has (get_or (masks_of G adds) i []) u

      by : (x : Kind) → shown_kind (has (conflicting G i writes x) u) added (mode x) ≡ race_kind G i u x
      by load = unfold race_kind shown_kind mode in refl
      by (store w) = unfold race_kind shown_kind conflicting agree mode in refl
      by (atomic_add w) = unfold race_kind shown_kind mode in refl

  module _ (few : n ≤ 32) (t bit : ℕ) (l : t < n) (b : bit ≡ 2 ^ t) where
    pub conflict_means : bit_and (tested_word op v k i log) (4294967295 - bit) ≡ mask_word (conflict_mask G i t (kind_of m v))
    unfolding tested_word
    conflict_means =
        ap (λ (x : ℕ). bit_and (tested_word op v k i log) (4294967295 - x)) b
        ∙ conflict_is n k G log L i h few t l (kind_of m v) _ (tested_is n k G log L i h m v (λ y. conflicting_word y op v k i log) met_means)

    pub entered_means : LogIs n k (logged G i t (kind_of m v)) (entered_words op v k i bit log)
    entered_means = subst (λ (z : ℕ). LogIs n k (logged G i t (kind_of m v)) (entered_words op v k i z log)) (sym b) (by (which op p q))
      where
        by : (op ≡ 16) ⊎ ((op ≡ 17) ⊎ (op ≡ 18)) → LogIs n k (logged G i t (kind_of m v)) (entered_words op v k i (2 ^ t) log)
        by (inl e) =
            subst₂ (λ y z. LogIs n k (logged G i t y) z) (kind_load e)
            (entered_load op v k i log (2 ^ t) e) (load_is n k G log L i h few t l)
        by (inr (inl e)) =
            subst₂ (λ y z. LogIs n k (logged G i t y) z) (kind_store e)
            (entered_store op v k i log (2 ^ t) e) (store_is n k G log L i h few t l v)
        by (inr (inr e)) =
            subst₂ (λ y z. LogIs n k (logged G i t y) z) (kind_add e)
            (entered_add op v k i log (2 ^ t) e) (add_is n k G log L i h few t l v)
