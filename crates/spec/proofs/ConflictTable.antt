-- The conflict rule and the race test, computed for every pair of kinds. Assumes nothing.
use mathlib.Core.Path.{◌≡◌, refl}
use mathlib.Core.List.{List, [], ◌∷◌, map}
use mathlib.Core.Bool.{Bool, true, false}
use Prim.Native.Nat.{ℕ}
use lib.ListN.{replicate}
use Rattle.spec.specs.Access.{Kind, load, store, atomic_add, conflict, group_conflict}
use Rattle.spec.specs.Log.{Log, empty_log, logged, conflict_mask}
use Rattle.spec.specs.Mask.{any}
use Rattle.spec.specs.Threads.{AccessRecord, empty_record, recorded, races}
use Rattle.spec.proofs.Computing.{computing}

-- An earlier access of cell 3, and a later one of `cell`.
pub record Pair : Type 0 where
  pub earlier : Kind
  pub later : Kind
  pub cell : ℕ

unfoldable pub pairs : List Pair
pairs =
    record { earlier = load; later = load; cell = 3 }
    ∷ record { earlier = load; later = store 9; cell = 3 }
    ∷ record { earlier = store 9; later = load; cell = 3 }
    ∷ record { earlier = store 9; later = store 9; cell = 3 }
    ∷ record { earlier = store 9; later = store 8; cell = 3 }
    ∷ record { earlier = store 9; later = store 8; cell = 2 }
    ∷ record { earlier = load; later = atomic_add 9; cell = 3 }
    ∷ record { earlier = atomic_add 9; later = load; cell = 3 }
    ∷ record { earlier = store 9; later = atomic_add 9; cell = 3 }
    ∷ record { earlier = atomic_add 9; later = store 9; cell = 3 }
    ∷ record { earlier = atomic_add 9; later = atomic_add 9; cell = 3 }
    ∷ record { earlier = atomic_add 9; later = atomic_add 8; cell = 3 }
    ∷ record { earlier = load; later = atomic_add 0; cell = 3 }
    ∷ record { earlier = atomic_add 0; later = store 0; cell = 3 }
    ∷ record { earlier = atomic_add 9; later = load; cell = 2 }
    ∷ record { earlier = store 9; later = atomic_add 9; cell = 2 }
    ∷ record { earlier = store 0; later = store 0; cell = 3 }
    ∷ record { earlier = store 0; later = store 7; cell = 3 }
    ∷ record { earlier = store 7; later = store 0; cell = 3 }
    ∷ record { earlier = store 9; later = store 2147483657; cell = 3 }
    ∷ record { earlier = store 4294967295; later = store 4294967295; cell = 3 }
    ∷ record { earlier = store 0; later = load; cell = 3 }
    ∷ record { earlier = load; later = store 0; cell = 3 }
    ∷ record { earlier = store 9; later = store 9; cell = 2 }
    ∷ []

-- Two loads agree, and two stores of one value, 0 among them; a load and a store conflict, and two stores of different values; accesses of different
-- cells do not. An add conflicts with a load and a store, also where it adds 0 and where both have one value, and not with an add.
unfoldable pub truth : List Bool
truth =
    false ∷ true ∷ true ∷ false ∷ true ∷ false
    ∷ true ∷ true ∷ true ∷ true ∷ false ∷ false ∷ true ∷ true ∷ false ∷ false
    ∷ false ∷ true ∷ true ∷ true ∷ false ∷ true ∷ true ∷ false ∷ []

-- The rule itself.
pub by_rule : map (λ p. conflict (record { cell = p.cell; kind = p.later }) (record { cell = 3; kind = p.earlier })) pairs ≡ truth
unfolding computing pairs truth
by_rule = refl

-- Between groups the same, but that stores of one value conflict as well: the fourth, the seventeenth and the twenty-first pair.
unfoldable pub group_truth : List Bool
group_truth =
    false ∷ true ∷ true ∷ true ∷ true ∷ false
    ∷ true ∷ true ∷ true ∷ true ∷ false ∷ false ∷ true ∷ true ∷ false ∷ false
    ∷ true ∷ true ∷ true ∷ true ∷ true ∷ true ∷ true ∷ false ∷ []

pub by_group_rule : map (λ p. group_conflict (record { cell = p.cell; kind = p.later }) (record { cell = 3; kind = p.earlier })) pairs ≡ group_truth
unfolding computing pairs group_truth
by_group_rule = refl

-- The threads' machine: thread 0's access is recorded, and thread t makes the later one.
unfoldable pub record_test : ℕ → Pair → Bool
record_test t p = races 2 (recorded empty_record 0 (record { cell = 3; kind = p.earlier } ∷ [])) t (record { cell = p.cell; kind = p.later })

-- The lock-step run: thread 0's access is logged, and thread t makes the later one.
unfoldable pub log_test : ℕ → Pair → Bool
log_test t p = any (conflict_mask (logged (empty_log 2 4) 3 0 p.earlier) p.cell t p.later)

pub by_record : map (record_test 1) pairs ≡ truth
unfolding computing pairs truth record_test
by_record = refl

pub by_log : map (log_test 1) pairs ≡ truth
unfolding computing pairs truth log_test
by_log = refl

-- A thread never conflicts with itself.
unfoldable pub no_conflict : List Bool
no_conflict = replicate 24 false

pub own_record : map (record_test 0) pairs ≡ no_conflict
unfolding computing pairs no_conflict record_test
own_record = refl

pub own_log : map (log_test 0) pairs ≡ no_conflict
unfolding computing pairs no_conflict log_test
own_log = refl

-- A store of 5, of 6 and of 7 to cell 3, by threads 0, 1 and 2 of three, behind stores to it: 5 and 6 by thread 0; 5 twice by thread 0; 5 by threads 0 and
-- 1; 5 by thread 2, each by thread and value. Nobody meets its own.
unfoldable pub earlier_stores : List (List (ℕ × ℕ))
earlier_stores =
    ((0, 5) ∷ (0, 6) ∷ [])
    ∷ ((0, 5) ∷ (0, 5) ∷ [])
    ∷ ((0, 5) ∷ (1, 5) ∷ [])
    ∷ ((2, 5) ∷ [])
    ∷ []

unfoldable pub later_stores : (ℕ → ℕ → Bool) → List (List Bool)
later_stores test = map (λ t. map (test t) (5 ∷ 6 ∷ 7 ∷ [])) (0 ∷ 1 ∷ 2 ∷ [])

unfoldable pub record_of : AccessRecord → List (ℕ × ℕ) → AccessRecord
record_of R [] = R
record_of R (x ∷ xs) = record_of (recorded R x.0 (record { cell = 3; kind = store x.1 } ∷ [])) xs

unfoldable pub log_of : Log → List (ℕ × ℕ) → Log
log_of G [] = G
log_of G (x ∷ xs) = log_of (logged G 3 x.0 (store x.1)) xs

unfoldable pub store_truth : List (List (List Bool))
store_truth =
    let free = replicate 3 false in
    let five = false ∷ true ∷ true ∷ [] in
    (free ∷ replicate 3 true ∷ replicate 3 true ∷ []) ∷ (free ∷ five ∷ five ∷ []) ∷ (five ∷ five ∷ five ∷ []) ∷ (five ∷ five ∷ free ∷ []) ∷ []

pub stores_by_record : map (λ xs. later_stores (λ t v. races 3 (record_of empty_record xs) t (record { cell = 3; kind = store v }))) earlier_stores ≡ store_truth
unfolding computing earlier_stores later_stores record_of store_truth
stores_by_record = refl

pub stores_by_log : map (λ xs. later_stores (λ t v. any (conflict_mask (log_of (empty_log 3 4) xs) 3 t (store v)))) earlier_stores ≡ store_truth
unfolding computing earlier_stores later_stores log_of store_truth
stores_by_log = refl
