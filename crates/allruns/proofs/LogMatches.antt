-- What the lock-step log says of the machine's access record. Assumes nothing.
use mathlib.Core.Path.{◌≡◌}
use mathlib.Core.List.{List, []}
use mathlib.Core.Bool.{Bool, true, false, not, ◌&&◌}
use Prim.Native.Nat.{ℕ, ◌<◌}
use lib.Dec.{eqb}
use lib.ListN.{length, get_or}
use Rattle.spec.specs.Access.{Access, Kind, value_of, Mode, writes, mode}
use Rattle.spec.specs.Lists.{any_of}
use Rattle.spec.specs.Log.{Log, masks_of, unequal}
use Rattle.spec.specs.Mask.{has}
use Rattle.spec.specs.Threads.{AccessRecord, any_below, races}
use Rattle.spec.proofs.LogLaws.{same}

-- An access in mode m.
unfoldable pub in_mode : Mode → Kind → Bool
in_mode m x = same m (mode x)

-- A store of another value than v.
unfoldable pub is_other : ℕ → Kind → Bool
is_other v x = not (eqb v (value_of x)) && in_mode writes x

-- The accesses xs have one of cell c whose kind passes the test p.
unfoldable pub holds : (p : Kind → Bool) → ℕ → List Access → Bool
holds p c xs = any_of (λ a. eqb c a.cell && p a.kind) xs

-- The log of k cells with n threads: a mask of n for each cell in each mode, a first value and a mark.
pub record LogSized (n k : ℕ) (G : Log) : Type 0 where
  pub count : (m : Mode) → length (masks_of G m) ≡ k
  pub size : (m : Mode) (c : ℕ) → c < k → length (get_or (masks_of G m) c []) ≡ n
  pub value_count : length G.values ≡ k
  pub mark_count : length G.marks ≡ k

-- At the places for which p holds, those that the group can name: in each mode, the masks have the threads whose record has such an access; first value
-- and mark tell of every value v whether some record has a store of another. The other places have what other groups have left there.
-- No recorded access races; without this the mark would not speak for each writer.
pub record LogMatches (n k : ℕ) (p : ℕ → Bool) (R : AccessRecord) (G : Log) : Type 0 where
  pub sized : LogSized n k G
  pub says : (m : Mode) (t c : ℕ) → t < n → c < k → p c ≡ true → holds (in_mode m) c (R t) ≡ has (get_or (masks_of G m) c []) t
  pub differ : (c v : ℕ) → c < k → p c ≡ true → unequal G c v ≡ any_below n (λ t. holds (is_other v) c (R t))
  pub free : (t : ℕ) → t < n → any_of (races n R t) (R t) ≡ false

-- Nothing is logged at place c.
pub record BlankAt (G : Log) (c : ℕ) : Type 0 where
  pub unmet : (m : Mode) (t : ℕ) → has (get_or (masks_of G m) c []) t ≡ false
  pub unmarked : get_or G.marks c false ≡ false

-- Two logs have the same at place c.
pub record LogSame (G H : Log) (c : ℕ) : Type 0 where
  pub masks : (m : Mode) → get_or (masks_of H m) c [] ≡ get_or (masks_of G m) c []
  pub value : get_or H.values c 0 ≡ get_or G.values c 0
  pub mark : get_or H.marks c false ≡ get_or G.marks c false
