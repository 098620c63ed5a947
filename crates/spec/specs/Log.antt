-- The lock-step run's log: for each cell a reader mask, a writer mask and an adder mask, the first value stored and the mark of unequal stores.
-- "The lock-step run", state, LOAD and STORE; items 1, 2 and 6.
-- Assumes nothing.
use Rattle.std.specs.Prelude.{List, [], ◌∷◌, map, Bool, true, false, cond, not, ◌||◌, ℕ, suc, ◌%◌, eqb, ltb, get_or, set, replicate}
use Rattle.spec.specs.Answers.{AccessKind, ReadWrite, WriteRead, WriteWrite, ReadAdd, AddRead, WriteAdd, AddWrite}
use Rattle.spec.specs.Lists.{joined, map_where}
use Rattle.spec.specs.Mask.{Mask, mask_word, has, any, union}
use Rattle.spec.specs.Access.{Kind, load, store, atomic_add, value_of, Mode, reads, writes, adds, mode, agree}

pub record Log : Type 0 where
  pub readers : List Mask
  pub writers : List Mask
  pub adders : List Mask
  pub values : List ℕ
  pub marks : List Bool

-- The masks of the threads that have accessed the cells in this mode.
unfoldable pub masks_of : Log → Mode → List Mask
masks_of G reads = G.readers
masks_of G writes = G.writers
masks_of G adds = G.adders

-- Item 6: the mark is 1 for unequal stores.
unfoldable pub mark_word : Bool → ℕ
mark_word b = cond b 1 0

-- The log buffer holds all reader masks, then all writer masks, all adder masks, all first values and all marks.
unfoldable pub log_kinds : Log → List (List ℕ)
log_kinds G = map mask_word G.readers ∷ map mask_word G.writers ∷ map mask_word G.adders ∷ G.values ∷ map mark_word G.marks ∷ []

unfoldable pub log_words : Log → List ℕ
log_words G = joined (log_kinds G)

-- At the start the log is zero; n threads.
unfoldable pub empty_log : (n cells : ℕ) → Log
empty_log n cells =
    let none = replicate cells (replicate n false) in
    record { readers = none; writers = none; adders = none; values = replicate cells 0; marks = replicate cells false }

-- A mask with no thread in it.
unfoldable pub nobody : Mask → Mask
nobody m = map (λ b. false) m

-- The masks of the cells for which p holds are cleared, and their values and marks with them; the other cells keep theirs.
unfoldable pub cleared : (p : ℕ → Bool) → Log → Log
cleared p G =
    record {
      readers = map_where p nobody 0 G.readers;
      writers = map_where p nobody 0 G.writers;
      adders = map_where p nobody 0 G.adders;
      values = map_where p (λ v. 0) 0 G.values;
      marks = map_where p (λ b. false) 0 G.marks;
    }

-- Word j of the log of k cells is one of cell j % k, since each kind has one word a cell. From word j on, the words of cells for which p holds are 0,
-- and every other word is as before.
unfoldable pub cleared_where : (p : ℕ → Bool) → (k j : ℕ) → List ℕ → List ℕ
cleared_where p k j [] = []
cleared_where p k j (w ∷ log) = cond (p (j % k)) 0 w ∷ cleared_where p k (suc j) log

-- A turn of the walk over the cells clears one cell's words together.
unfoldable pub cell_cleared : (k c : ℕ) → List ℕ → List ℕ
cell_cleared k c log = cleared_where (λ i. eqb i c) k 0 log

-- After n turns exactly the words of cells 0 to n - 1 are cleared, and every other word is as before.
unfoldable pub cells_cleared : (k n : ℕ) → List ℕ → List ℕ
cells_cleared k n log = cleared_where (λ i. ltb i n) k 0 log

-- Thread t enters the mask of cell c.
unfoldable pub with_thread : List Mask → ℕ → ℕ → List Mask
with_thread masks c t = set masks c (set (get_or masks c []) t true)

-- Item 6: the value first stored to cell c in this interval, where v is stored now. The writer mask tells whether there was a store.
unfoldable pub first_value : Log → (c v : ℕ) → ℕ
first_value G c v = cond (any (get_or G.writers c [])) (get_or G.values c 0) v

-- Unequal values were stored to cell c in this interval, by anyone, the v that is stored now among them.
unfoldable pub unequal : Log → (c v : ℕ) → Bool
unequal G c v = get_or G.marks c false || not (eqb v (first_value G c v))

-- Thread t's access of cell c, logged by its kind.
unfoldable pub logged : Log → (c t : ℕ) → Kind → Log
logged G c t load =
    record { readers = with_thread G.readers c t; writers = G.writers; adders = G.adders; values = G.values; marks = G.marks }
logged G c t (store v) =
    record {
      readers = G.readers;
      writers = with_thread G.writers c t;
      adders = G.adders;
      values = set G.values c (first_value G c v);
      marks = set G.marks c (unequal G c v);
    }
logged G c t (atomic_add v) =
    record { readers = G.readers; writers = G.writers; adders = with_thread G.adders c t; values = G.values; marks = G.marks }

-- The threads that have accessed cell c in mode m, where that conflicts with an access of kind k; else nobody. A store agrees with the stores before it
-- exactly if they all, with it, wrote one value.
unfoldable pub conflicting : Log → (c : ℕ) → Mode → Kind → Mask
conflicting G c m k = let those = get_or (masks_of G m) c [] in cond (agree (not (unequal G c (value_of k))) m (mode k)) (nobody those) those

-- All that an access of kind k conflicts with. By the conflict table a LOAD is tested against writers and adders, a STORE against readers, adders and
-- writers of another value, an ATOMIC ADD against readers and writers.
unfoldable pub tested_mask : Log → ℕ → Kind → Mask
tested_mask G c k = union (conflicting G c writes k) (union (conflicting G c adds k) (conflicting G c reads k))

-- The conflict mask of thread t's access: another thread among those.
unfoldable pub conflict_mask : Log → (c t : ℕ) → Kind → Mask
conflict_mask G c t k = set (tested_mask G c k) t false

-- The kind of a race, the other's letter first: of the modes by which the other conflicts with the access, w before a before r.
unfoldable pub shown_kind : (wrote added : Bool) → Mode → AccessKind
shown_kind wrote added reads = cond wrote WriteRead AddRead
shown_kind wrote added writes = cond wrote WriteWrite (cond added AddWrite ReadWrite)
shown_kind wrote added adds = cond wrote WriteAdd ReadAdd

-- The kind of a race with thread u.
unfoldable pub race_kind : Log → (c u : ℕ) → Kind → AccessKind
race_kind G c u k = shown_kind (has (conflicting G c writes k) u) (has (conflicting G c adds k) u) (mode k)
