-- Records say of rows, costs and intervals what the intervals say that they are made of; and what a row can cost. Document 02, item 5. Assumes nothing.
use mathlib.Core.Path.{◌≡◌, refl, ap}
use mathlib.Core.List.{List, [], ◌∷◌, map}
use mathlib.Core.Bool.{Bool, true, false, cond}
use Prim.Native.Nat.{ℕ, zero, suc, ◌+◌, ◌-◌, ◌≤◌, min}
use native.Mathlib.Omega.{arith}
use lib.Dec.{ltb}
use lib.ListN.{length, length-map}
use Rattle.spec.specs.Limits.{common_from}
use Rattle.spec.specs.Lists.{passing}
use Rattle.spec.specs.Op.{Op, CALC, OWN, GLOBAL, MEM, IF, ELSE, ENDIF, WHILE, ENDWHILE, BARRIER, UNKNOWN}
use Rattle.spec.specs.Table.{Row, cell_byte}
use Rattle.spec.specs.Mask.{Mask, members, members_from}
use Rattle.spec.specs.Steps.{sum}
use Rattle.spec.specs.LockStep.{LockState, reg}
use Rattle.spec.specs.Intervals.{Interval, used_cells, row_cost, together, records_of, conflicts_of}
use Rattle.spec.proofs.BankLaws.{cost_bound}

-- A number of an interval that grows as two of them are put together.
module _ (f : Interval → ℕ) (grows : (i j : Interval) → f (together i (j ∷ [])) ≡ f i + f j) where
  sum_together : (i : Interval) (is : List Interval) → f (together i is) ≡ sum (map f (i ∷ is))
  unfolding together sum
  sum_together i [] = omega arith
  sum_together i (j ∷ is) = omega (arith, sum_together (together i (j ∷ [])) is, grows i j)

  sum_records : (k : ℕ) (is : List Interval) → sum (map f (records_of k is)) ≡ sum (map f is)
  unfolding records_of sum
  sum_records k [] = refl
  sum_records zero (i ∷ is) = omega (arith, sum_together i is)
  sum_records (suc k) (i ∷ is) = ap (λ (z : ℕ). f i + z) (sum_records k is)

pub records_rows : (k : ℕ) (is : List Interval) → sum (map (λ i. i.rows) (records_of k is)) ≡ sum (map (λ i. i.rows) is)
unfolding together
records_rows k is = sum_records (λ i. i.rows) (λ i j. refl) k is

pub records_conflicts : (k : ℕ) (is : List Interval) → conflicts_of (records_of k is) ≡ conflicts_of is
unfolding together conflicts_of
records_conflicts k is = sum_records (λ i. i.cost) (λ i j. refl) k is

pub records_count : (k : ℕ) (is : List Interval) → length (records_of k is) ≡ min (length is) (k + 1)
unfolding records_of
records_count k [] = omega arith
records_count zero (i ∷ is) = omega arith
records_count (suc k) (i ∷ is) = omega (arith, records_count k is)

members_size : (k : ℕ) (m : Mask) → length (members_from k m) ≤ length m
unfolding members_from
members_size k [] = omega arith
members_size k (false ∷ m) = omega (arith, members_size (suc k) m)
members_size k (true ∷ m) = omega (arith, members_size (suc k) m)

passing_size : (p : ℕ → Bool) (xs : List ℕ) → length (passing p xs) ≤ length xs
unfolding passing
passing_size p [] = omega arith
passing_size p (x ∷ xs) = by (p x) (passing_size p xs)
  where
    by : (b : Bool) → length (passing p xs) ≤ length xs → length (cond b (x ∷ passing p xs) (passing p xs)) ≤ suc (length xs)
    by true h = omega (arith, h)
    by false h = omega (arith, h)

-- Where the mask has n threads, a row costs at most n - 1.
pub row_cost_lem : (x : Row) (s : LockState) (o : Op) → row_cost x s o ≤ length s.enabled - 1
unfolding row_cost used_cells members
row_cost_lem x s (CALC c) = omega arith
row_cost_lem x s (MEM OWN m) =
    let cs = map (λ t. reg s t (cell_byte m x)) (members s.enabled) in
    let h : length cs ≤ length s.enabled = simp length-map (members_size 0 s.enabled) in
    omega (arith, h, passing_size (λ c. ltb c common_from) cs, cost_bound (used_cells m x s))
row_cost_lem x s (MEM GLOBAL m) = omega arith
row_cost_lem x s IF = omega arith
row_cost_lem x s ELSE = omega arith
row_cost_lem x s ENDIF = omega arith
row_cost_lem x s WHILE = omega arith
row_cost_lem x s ENDWHILE = omega arith
row_cost_lem x s BARRIER = omega arith
row_cost_lem x s UNKNOWN = omega arith
