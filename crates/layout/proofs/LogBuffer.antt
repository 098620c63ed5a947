-- The log buffer: what the code reads, tests, sets and clears in it. Assumes nothing.
use mathlib.Core.Path.{◌≡◌, refl, sym, ◌∙◌, ap, ap₂, subst}
use mathlib.Core.List.{List, [], ◌∷◌, map}
use mathlib.Core.Bool.{Bool, true, false, cond, not, ◌&&◌, ◌||◌, or-false}
use Prim.Native.Nat.{ℕ, zero, suc, ◌+◌, ◌-◌, ◌*◌, ◌^◌, ◌<◌, ◌≤◌}
use native.Mathlib.Nat.{le_refl}
use native.Mathlib.Omega.{arith}
use native.Mathlib.Decide.{ℕ_discrete}
use borrow.Author.Tests.{eq-eqb, ne_eqb}
use lib.Bits.{bit_and, bit_or}
use lib.Dec.{eqb}
use lib.Pow.{pow_pos}
use lib.ListN.{length, get_or, set, replicate, length-set, length-map, length-replicate, get_or-replicate, get_or-map}
use lib.Seq.{set-get_or, get_or-set_other}
use Rattle.spec.specs.Access.{Kind, load, store, atomic_add, value_of, Mode, reads, writes, adds, mode, agree}
use Rattle.spec.specs.Lists.{joined, map_where}
use Rattle.spec.specs.Mask.{Mask, mask_word, has, union}
use Rattle.spec.specs.Op.{Mem, LOAD, STORE, ATOMICADD}
use Rattle.spec.specs.Table.{kind_of}
use Rattle.spec.specs.Limits.{log_per_cell}
use Rattle.spec.specs.Log.{Log, masks_of, mark_word, log_kinds, log_words, empty_log, nobody, cleared, cells_cleared, with_thread, first_value, unequal, logged}
use Rattle.spec.specs.Log.{conflicting, tested_mask, conflict_mask}
use Rattle.spec.proofs.ClearingLaws.{cells_all}
use Rattle.spec.proofs.LogLaws.{same, masks_empty, masks_logged, masks_cleared, nobody_size, where_all, tested_size}
use Rattle.masks.proofs.Words.{word_or, word_set, word_has, word_except, any_none, any_some}
use Rattle.layout.specs.Memory.{Masks, LogIs}
use Rattle.layout.specs.Logging.{rank, value_rank, mark_rank, place_of, word_of, equal_word, mark_entered, value_entered, has_bit}
use Rattle.layout.proofs.Lists.{map_set, Even, joined_size, joined_at, joined_set, joined_zeros}
use Rattle.layout.proofs.Buffers.{masks_set, mask_at}

-- Masks without a thread.
pub nobody_word : (m : Mask) → mask_word (nobody m) ≡ 0
unfolding mask_word nobody
nobody_word [] = refl
nobody_word (b ∷ m) = omega (arith, nobody_word m)

-- A thread's bit in a mask's word tells whether it is in the mask.
pub bit_has : (m : Mask) (u : ℕ) → has_bit u (mask_word m) ≡ has m u
unfolding has_bit
bit_has m u = ap (λ z. not (eqb z 0)) (word_has m u) ∙ by (has m u)
  where
    by : (b : Bool) → not (eqb (cond b (2 ^ u) 0) 0) ≡ b
    by true = ap not (ne_eqb (2 ^ u) 0 (λ e. omega (arith, pow_pos u)))
    by false = refl

-- The masks of a mode among the kinds of words.
rank_few : (G : Log) (m : Mode) → rank m < length (log_kinds G)
unfolding rank log_kinds
rank_few G reads = omega arith
rank_few G writes = omega arith
rank_few G adds = omega arith

rank_kind : (G : Log) (m : Mode) → get_or (log_kinds G) (rank m) [] ≡ map mask_word (masks_of G m)
unfolding rank log_kinds masks_of
rank_kind G reads = refl
rank_kind G writes = refl
rank_kind G adds = refl

module _ (n k : ℕ) (G : Log) (log : List ℕ) (L : LogIs n k G log) where
  -- Each kind of words has one for each cell.
  pub kinds_even : Even k (log_kinds G)
  unfolding log_kinds masks_of
  kinds_even zero h = length-map G.readers mask_word ∙ (L.masks_are reads).count
  kinds_even (suc zero) h = length-map G.writers mask_word ∙ (L.masks_are writes).count
  kinds_even (suc (suc zero)) h = length-map G.adders mask_word ∙ (L.masks_are adds).count
  kinds_even (suc (suc (suc zero))) h = L.values_are
  kinds_even (suc (suc (suc (suc zero)))) h = length-map G.marks mark_word ∙ L.marks_are
  kinds_even (suc (suc (suc (suc (suc q))))) h = absurd (omega arith)

  pub log_size : length log ≡ log_per_cell * k
  unfolding log_words log_kinds
  log_size = ap length L.words_are ∙ joined_size k (log_kinds G) kinds_even

  module _ (c : ℕ) (h : c < k) where
    mask_size : (m : Mode) → length (get_or (masks_of G m) c []) ≡ n
    mask_size m = (L.masks_are m).each c h

    -- The word in a kind's place is that kind's word of the cell: a mode's mask, the first value, the mark.
    kind_word_lem : (q : ℕ) → q < length (log_kinds G) → word_of q k c log ≡ get_or (get_or (log_kinds G) q []) c 0
    unfolding word_of place_of log_words
    kind_word_lem q l = ap (λ z. get_or z (q * k + c) 0) L.words_are ∙ joined_at k (log_kinds G) kinds_even q c l h

    pub word_is : (m : Mode) → word_of (rank m) k c log ≡ mask_word (get_or (masks_of G m) c [])
    word_is m = kind_word_lem (rank m) (rank_few G m) ∙ ap (λ z. get_or z c 0) (rank_kind G m) ∙ mask_at (masks_of G m) c

    value_is : word_of value_rank k c log ≡ get_or G.values c 0
    unfolding log_kinds
    value_is = kind_word_lem value_rank (omega arith)

    mark_is : word_of mark_rank k c log ≡ mark_word (get_or G.marks c false)
    unfolding log_kinds
    mark_is = kind_word_lem mark_rank (omega arith) ∙ unfold mark_word in (get_or-map mark_word G.marks c false)

    -- Whether there was a store is told by the word of the writers.
    first_is : (v : ℕ) → (word_of (rank writes) k c log ≡ 0 → ⊥) → first_value G c v ≡ word_of value_rank k c log
    unfolding first_value masks_of
    first_is v f = rw (any_some (get_or G.writers c []) (λ e. f (word_is writes ∙ e))) (sym value_is)

    first_new : (v : ℕ) → word_of (rank writes) k c log ≡ 0 → first_value G c v ≡ v
    unfolding first_value masks_of
    first_new v e = rw (any_none (get_or G.writers c []) (sym (word_is writes) ∙ e))

    -- After a store, the mark and the first value tell whether a further one of v makes the stores unequal.
    equal_is : (v : ℕ) → (word_of (rank writes) k c log ≡ 0 → ⊥) → equal_word v k c log ≡ not (unequal G c v)
    unfolding equal_word unequal
    equal_is v f =
        ap₂ (λ x y. eqb x 0 && eqb v y) mark_is (sym (first_is v f)) ∙ by (get_or G.marks c false) (eqb v (first_value G c v))
      where
        by : (b e : Bool) → (eqb (mark_word b) 0 && e) ≡ not (b || not e)
        by b e = unfold mark_word in (cases b e)
          where
            cases : (b e : Bool) → (eqb (cond b 1 0) 0 && e) ≡ not (b || not e)
            cases true e = refl
            cases false true = refl
            cases false false = refl

    pub conflict_size : (t : ℕ) (x : Kind) → length (conflict_mask G c t x) ≡ n
    unfolding conflict_mask
    conflict_size t x = length-set (tested_mask G c x) t false ∙ tested_size G c x n mask_size

    -- What of a mode's mask an access conflicts with, as a word.
    all_or_none : (m : Mode) (b : Bool) → cond b 0 (word_of (rank m) k c log) ≡ mask_word (cond b (nobody (get_or (masks_of G m) c [])) (get_or (masks_of G m) c []))
    all_or_none m true = sym (nobody_word (get_or (masks_of G m) c []))
    all_or_none m false = word_is m

    beside_stores : (v : ℕ)
        → cond (equal_word v k c log) 0 (word_of (rank writes) k c log)
        ≡ mask_word (cond (not (unequal G c v)) (nobody (get_or (masks_of G writes) c [])) (get_or (masks_of G writes) c []))
    beside_stores v = by (ℕ_discrete (word_of (rank writes) k c log) 0)
      where
        -- where nobody stored, both are 0, whatever the value and the mark
        none : (b d : Bool) → word_of (rank writes) k c log ≡ 0 → cond b 0 (word_of (rank writes) k c log) ≡ cond d 0 (word_of (rank writes) k c log)
        none true true e = refl
        none true false e = sym e
        none false true e = e
        none false false e = refl

        by : Dec (word_of (rank writes) k c log ≡ 0)
            → cond (equal_word v k c log) 0 (word_of (rank writes) k c log)
            ≡ mask_word (cond (not (unequal G c v)) (nobody (get_or (masks_of G writes) c [])) (get_or (masks_of G writes) c []))
        by (yes e) = none (equal_word v k c log) (not (unequal G c v)) e ∙ all_or_none writes (not (unequal G c v))
        by (no f) = ap (λ b. cond b 0 (word_of (rank writes) k c log)) (equal_is v f) ∙ all_or_none writes (not (unequal G c v))

    pub part_is : (m : Mode) (y : Mem) (v : ℕ)
        → cond (agree (equal_word v k c log) m (mode (kind_of y v))) 0 (word_of (rank m) k c log) ≡ mask_word (conflicting G c m (kind_of y v))
    unfolding conflicting agree mode kind_of value_of
    part_is reads LOAD v = all_or_none reads true
    part_is reads STORE v = all_or_none reads false
    part_is reads ATOMICADD v = all_or_none reads false
    part_is writes LOAD v = all_or_none writes false
    part_is writes STORE v = beside_stores v
    part_is writes ATOMICADD v = all_or_none writes false
    part_is adds LOAD v = all_or_none adds false
    part_is adds STORE v = all_or_none adds false
    part_is adds ATOMICADD v = all_or_none adds true

    -- The word that an access is tested against.
    pub tested_is : (y : Mem) (v : ℕ) (met : Mode → ℕ) → ((m : Mode) → met m ≡ mask_word (conflicting G c m (kind_of y v)))
        → bit_or (met writes) (bit_or (met adds) (met reads)) ≡ mask_word (tested_mask G c (kind_of y v))
    unfolding tested_mask
    tested_is y v met p =
        let those : Mode → Mask = λ m. conflicting G c m (kind_of y v) in
        ap₂ bit_or (p writes) (ap₂ bit_or (p adds) (p reads) ∙ word_or (those adds) (those reads)) ∙ word_or (those writes) (union (those adds) (those reads))

    module _ (few : n ≤ 32) (t : ℕ) (l : t < n) where
      -- the word that an access is tested against, without the acting thread's own bit
      pub conflict_is : (x : Kind) (w : ℕ) → w ≡ mask_word (tested_mask G c x) → bit_and w (4294967295 - 2 ^ t) ≡ mask_word (conflict_mask G c t x)
      unfolding conflict_mask
      conflict_is x w e =
          ap (λ z. bit_and z (4294967295 - 2 ^ t)) e
          ∙ word_except (tested_mask G c x) 32 t (omega (arith, tested_size G c x n mask_size)) (omega arith)

      -- A thread entered in the mask of a mode: one kind of words changes.
      words_entered : (m : Mode) → set log (place_of (rank m) k c) (bit_or (word_of (rank m) k c log) (2 ^ t))
          ≡ joined (set (log_kinds G) (rank m) (map mask_word (with_thread (masks_of G m) c t)))
      unfolding place_of log_words with_thread
      words_entered m =
          let mask = set (get_or (masks_of G m) c []) t true in
          ap₂ (λ y z. set y (rank m * k + c) z) L.words_are
          (ap (λ z. bit_or z (2 ^ t)) (word_is m) ∙ word_set (get_or (masks_of G m) c []) t (omega (arith, mask_size m)))
          ∙ joined_set k (log_kinds G) kinds_even (rank m) c (mask_word mask) (rank_few G m) h
          ∙ ap (λ z. joined (set (log_kinds G) (rank m) z)) (ap (λ z. set z c (mask_word mask)) (rank_kind G m) ∙ sym (map_set mask_word (masks_of G m) c mask))

-- The log with other values and marks beside its masks.
abbrev revalued : Log → List ℕ → List Bool → Log
revalued G vs bs = record { readers = G.readers; writers = G.writers; adders = G.adders; values = vs; marks = bs }

revalued_masks : (G : Log) (vs : List ℕ) (bs : List Bool) (m : Mode) → masks_of (revalued G vs bs) m ≡ masks_of G m
unfolding masks_of
revalued_masks G vs bs reads = refl
revalued_masks G vs bs writes = refl
revalued_masks G vs bs adds = refl

module _ (n k : ℕ) (G : Log) (log : List ℕ) (L : LogIs n k G log) where
  revalued_is : (vs : List ℕ) (bs : List Bool) (log' : List ℕ) → length vs ≡ k → length bs ≡ k → log' ≡ log_words (revalued G vs bs)
      → LogIs n k (revalued G vs bs) log'
  revalued_is vs bs log' ev eb e =
      record { words_are = e; masks_are = λ m. subst (Masks n k) (sym (revalued_masks G vs bs m)) (L.masks_are m); values_are = ev; marks_are = eb }

  module _ (c : ℕ) (h : c < k) (v : ℕ) where
    abbrev new_values : List ℕ
    new_values = set G.values c (first_value G c v)

    abbrev new_marks : List Bool
    new_marks = set G.marks c (unequal G c v)

    new_sizes : (length new_values ≡ k) × (length new_marks ≡ k)
    new_sizes = (length-set G.values c _ ∙ L.values_are, length-set G.marks c _ ∙ L.marks_are)

    -- A word of the values and one of the marks set.
    words_valued : set (set log (place_of value_rank k c) (first_value G c v)) (place_of mark_rank k c) (mark_word (unequal G c v))
        ≡ log_words (revalued G new_values new_marks)
    unfolding place_of log_words log_kinds
    words_valued =
        let valued = revalued_is new_values G.marks _ new_sizes.0 L.marks_are refl in
        ap (λ z. set (set z (value_rank * k + c) (first_value G c v)) (mark_rank * k + c) (mark_word (unequal G c v))) L.words_are
        ∙ ap (λ z. set z (mark_rank * k + c) (mark_word (unequal G c v))) (joined_set k (log_kinds G) (kinds_even n k G log L) value_rank c _ (omega arith) h)
        ∙ joined_set k (log_kinds (revalued G new_values G.marks)) (kinds_even n k _ _ valued) mark_rank c _ (omega arith) h
        ∙ ap (λ z. joined (map mask_word G.readers ∷ map mask_word G.writers ∷ map mask_word G.adders ∷ new_values ∷ z ∷ []))
        (sym (map_set mark_word G.marks c (unequal G c v)))

    -- A store of the first value leaves the mark as it is; one of another value sets it.
    mark_kept : (log' : List ℕ) → word_of mark_rank k c log' ≡ word_of mark_rank k c log → v ≡ first_value G c v
        → set log' (place_of mark_rank k c) (mark_word (unequal G c v)) ≡ log'
    unfolding word_of unequal
    mark_kept log' e q =
        ap (set log' (place_of mark_rank k c)) (ap mark_word (rw (eq-eqb v (first_value G c v) q) (or-false (get_or G.marks c false))) ∙ sym (e ∙ mark_is n k G log L c h))
        ∙ set-get_or log' (place_of mark_rank k c) 0

    mark_put : (v ≡ first_value G c v → ⊥) → mark_word (unequal G c v) ≡ 1
    unfolding mark_word unequal
    mark_put f = rw (ne_eqb v (first_value G c v) f) (by (get_or G.marks c false))
      where
        by : (b : Bool) → ◌≡◌ {A = ℕ} (cond (b || true) 1 0) 1
        by true = refl
        by false = refl

    -- What the code sets of the two comes to that: the first store sets the value, a later one of another value the mark.
    value_set : value_entered v k c log ≡ set (set log (place_of value_rank k c) (first_value G c v)) (place_of mark_rank k c) (mark_word (unequal G c v))
    unfolding value_entered mark_entered
    value_set = by (ℕ_discrete (word_of (rank writes) k c log) 0) (ℕ_discrete v (word_of value_rank k c log))
      where
        value : ℕ
        value = place_of value_rank k c

        mark : ℕ
        mark = place_of mark_rank k c

        -- the marks are behind the values
        apart : mark ≡ value → ⊥
        apart e = unfold place_of in (omega arith)

        stays : (word_of (rank writes) k c log ≡ 0 → ⊥) → set log value (first_value G c v) ≡ log
        stays f = ap (set log value) (first_is n k G log L c h v f) ∙ unfold word_of in (set-get_or log value 0)

        by : Dec (word_of (rank writes) k c log ≡ 0) → Dec (v ≡ word_of value_rank k c log)
            → cond (eqb (word_of (rank writes) k c log) 0) (set log value v) (cond (eqb v (word_of value_rank k c log)) log (set log mark 1))
            ≡ set (set log value (first_value G c v)) mark (mark_word (unequal G c v))
        by (yes e) d =
            let new = first_new n k G log L c h v e in
            rw (eq-eqb _ 0 e)
            (ap (set log value) (sym new) ∙ sym (mark_kept (set log value (first_value G c v)) (unfold word_of in (get_or-set_other log value mark _ 0 apart)) (sym new)))
        by (no f) (yes e) =
            rw (ne_eqb _ 0 f, eq-eqb v _ e)
            (sym (ap (λ z. set z mark (mark_word (unequal G c v))) (stays f) ∙ mark_kept log refl (e ∙ sym (first_is n k G log L c h v f))))
        by (no f) (no g) =
            rw (ne_eqb _ 0 f, ne_eqb v _ g) (ap₂ (λ z w. set z mark w) (sym (stays f)) (sym (mark_put (λ e. g (e ∙ first_is n k G log L c h v f)))))

    pub valued_is : LogIs n k (revalued G new_values new_marks) (value_entered v k c log)
    valued_is = revalued_is new_values new_marks _ new_sizes.0 new_sizes.1 (value_set ∙ words_valued)

-- An access, logged: its thread is entered in the mask of its mode, and of a store the value before that.
module _ (n k : ℕ) (G : Log) (log : List ℕ) (L : LogIs n k G log) (c : ℕ) (h : c < k) (few : n ≤ 32) (t : ℕ) (l : t < n) where
  abbrev entered : Mode → List ℕ → List ℕ
  entered m log' = set log' (place_of (rank m) k c) (bit_or (word_of (rank m) k c log') (2 ^ t))

  logged_as : (x : Kind) (log' : List ℕ) → log' ≡ log_words (logged G c t x) → LogIs n k (logged G c t x) log'
  unfolding logged
  logged_as x log' e =
      record {
        words_are = e;
        masks_are = λ m. subst (Masks n k) (sym (masks_logged G c t x m)) (by m (same m (mode x)));
        values_are = values x;
        marks_are = marks x;
      }
    where
      by : (m : Mode) (b : Bool) → Masks n k (cond b (with_thread (masks_of G m) c t) (masks_of G m))
      by m true =
          unfold with_thread in
          (masks_set n k (masks_of G m) c _ (L.masks_are m) h (length-set (get_or (masks_of G m) c []) t true ∙ mask_size n k G log L c h m))
      by m false = L.masks_are m

      values : (x : Kind) → length (logged G c t x).values ≡ k
      values load = L.values_are
      values (store v) = (new_sizes n k G log L c h v).0
      values (atomic_add v) = L.values_are

      marks : (x : Kind) → length (logged G c t x).marks ≡ k
      marks load = L.marks_are
      marks (store v) = (new_sizes n k G log L c h v).1
      marks (atomic_add v) = L.marks_are

  pub load_is : LogIs n k (logged G c t load) (entered reads log)
  unfolding log_words log_kinds rank masks_of logged
  load_is = logged_as load _ (words_entered n k G log L c h few t l reads)

  pub store_is : (v : ℕ) → LogIs n k (logged G c t (store v)) (entered writes (value_entered v k c log))
  unfolding log_words log_kinds rank masks_of logged
  store_is v = logged_as (store v) _ (words_entered n k _ _ (valued_is n k G log L c h v) c h few t l writes)

  pub add_is : (v : ℕ) → LogIs n k (logged G c t (atomic_add v)) (entered adds log)
  unfolding log_words log_kinds rank masks_of logged
  add_is v = logged_as (atomic_add v) _ (words_entered n k G log L c h few t l adds)

-- Words of what is wiped are 0, and so are words of what is empty.
wiped_words : {A : Type 0} (word : A → ℕ) (wipe : A → A) → ((x : A) → word (wipe x) ≡ 0) → (xs : List A) → map word (map wipe xs) ≡ replicate (length xs) 0
wiped_words word wipe z [] = refl
wiped_words word wipe z (x ∷ xs) = ap₂ (λ a b. a ∷ b) (z x) (wiped_words word wipe z xs)

wiped_values : (vs : List ℕ) → map {B = ℕ} (λ v. 0) vs ≡ replicate (length vs) 0
wiped_values [] = refl
wiped_values (v ∷ vs) = ap (λ b. 0 ∷ b) (wiped_values vs)

empty_words : {A : Type 0} (word : A → ℕ) (x : A) → word x ≡ 0 → (k : ℕ) → map word (replicate k x) ≡ replicate k 0
empty_words word x z zero = refl
empty_words word x z (suc k) = ap₂ (λ a b. a ∷ b) z (empty_words word x z k)

-- A log with zeros in every kind of words.
zero_log : (k : ℕ) (G : Log) → ((m : Mode) → map mask_word (masks_of G m) ≡ replicate k 0) → G.values ≡ replicate k 0 → map mark_word G.marks ≡ replicate k 0
    → log_words G ≡ replicate (log_per_cell * k) 0
unfolding log_words log_kinds masks_of
zero_log k G masks values marks = joined_zeros k (log_kinds G) zeros
  where
    zeros : (q : ℕ) → q < 5 → get_or (log_kinds G) q [] ≡ replicate k 0
    zeros zero h = masks reads
    zeros (suc zero) h = masks writes
    zeros (suc (suc zero)) h = masks adds
    zeros (suc (suc (suc zero))) h = values
    zeros (suc (suc (suc (suc zero)))) h = marks
    zeros (suc (suc (suc (suc (suc q))))) h = absurd (omega arith)

-- A log put to 0 is the one cleared at all cells, whatever it was.
module _ (n k : ℕ) (G : Log) (log : List ℕ) (L : LogIs n k G log) (p : ℕ → Bool) (all : (i : ℕ) → i < k → p i ≡ true) where
  all_places : {A : Type 0} (f : A → A) (xs : List A) → length xs ≡ k → map_where p f 0 xs ≡ map f xs
  all_places f xs e = where_all p f 0 xs (λ j l. ap p (let z : 0 + j ≡ j = omega arith in z) ∙ all j (omega arith))

  masks_wiped : (m : Mode) → masks_of (cleared p G) m ≡ map nobody (masks_of G m)
  masks_wiped m = masks_cleared p G m ∙ all_places nobody (masks_of G m) (L.masks_are m).count

  values_wiped : (cleared p G).values ≡ map (λ v. 0) G.values
  unfolding cleared
  values_wiped = all_places (λ v. 0) G.values L.values_are

  marks_wiped : (cleared p G).marks ≡ map (λ b. false) G.marks
  unfolding cleared
  marks_wiped = all_places (λ b. false) G.marks L.marks_are

  pub cleared_is : (log' : List ℕ) → log' ≡ replicate (length log) 0 → LogIs n k (cleared p G) log'
  cleared_is log' e =
      record {
        words_are = e ∙ ap zeros (log_size n k G log L) ∙ sym (zero_log k (cleared p G)
            (λ m. ap (map mask_word) (masks_wiped m) ∙ wiped_words mask_word nobody nobody_word (masks_of G m) ∙ ap zeros (L.masks_are m).count)
            (values_wiped ∙ wiped_values G.values ∙ ap zeros L.values_are)
            (ap (map mark_word) marks_wiped ∙ wiped_words mark_word (λ b. false) (λ b. unfold mark_word in refl) G.marks ∙ ap zeros L.marks_are));
        masks_are = λ m. subst (Masks n k) (sym (masks_wiped m))
            (record { count = length-map (masks_of G m) nobody ∙ (L.masks_are m).count; each = λ c h. wiped_size (masks_of G m) c ∙ (L.masks_are m).each c h });
        values_are = ap length values_wiped ∙ length-map G.values (λ v. 0) ∙ L.values_are;
        marks_are = ap length marks_wiped ∙ length-map G.marks (λ b. false) ∙ L.marks_are;
      }
    where
      zeros : ℕ → List ℕ
      zeros j = replicate j 0

      wiped_size : (ms : List Mask) (c : ℕ) → length (get_or (map nobody ms) c []) ≡ length (get_or ms c [])
      wiped_size [] c = refl
      wiped_size (m ∷ ms) zero = nobody_size m
      wiped_size (m ∷ ms) (suc c) = wiped_size ms c

  -- The walk over all cells comes to it.
  pub walk_clears : cells_cleared k k log ≡ log_words (cleared p G)
  walk_clears = (cleared_is (cells_cleared k k log) (cells_all k log k (λ h. omega (arith, log_size n k G log L)) (le_refl k))).words_are

-- And at the start it is the empty one.
empty_masks : (n k : ℕ) → Masks n k (replicate k (replicate n false))
empty_masks n k =
    record { count = length-replicate k (replicate n false); each = λ c h. ap length (get_or-replicate k c (replicate n false) [] h) ∙ length-replicate n false }

nobody_empty : (n : ℕ) → nobody (replicate n false) ≡ replicate n false
unfolding nobody
nobody_empty zero = refl
nobody_empty (suc n) = ap (λ l. false ∷ l) (nobody_empty n)

pub none_words : (n k : ℕ) → map mask_word (replicate k (replicate n false)) ≡ replicate k 0
none_words n k = empty_words mask_word (replicate n false) (ap mask_word (sym (nobody_empty n)) ∙ nobody_word (replicate n false)) k

pub empty_is : (n k : ℕ) (log : List ℕ) → log ≡ replicate (log_per_cell * k) 0 → LogIs n k (empty_log n k) log
empty_is n k log e =
    record {
      words_are = e ∙ sym (zero_log k (empty_log n k)
          (λ m. ap (map mask_word) (masks_empty n k m) ∙ none_words n k)
          (unfold empty_log in refl)
          (unfold empty_log in (empty_words mark_word false (unfold mark_word in refl) k)));
      masks_are = λ m. subst (Masks n k) (sym (masks_empty n k m)) (empty_masks n k);
      values_are = unfold empty_log in (length-replicate k 0);
      marks_are = unfold empty_log in (length-replicate k false);
    }
