-- Item 12: which numbers of a row's threads can cost something; and why a row with common numbers is never told by what is remembered. Assumes nothing.
use mathlib.Core.Path.{◌≡◌, refl, sym, ◌∙◌, ap, ap₂}
use mathlib.Core.Logic.{◌⊎◌, inl, inr}
use mathlib.Core.List.{List, [], ◌∷◌, map}
use mathlib.Core.Bool.{true, false, cond}
use Prim.Native.Nat.{ℕ, suc, ◌+◌, ◌<◌, ◌≤◌}
use native.Mathlib.Omega.{arith}
use borrow.Author.Tests.{lt-ltb, le-ltb}
use lib.Dec.{ltb}
use lib.ListN.{length}
use Rattle.spec.specs.Limits.{common_from}
use Rattle.spec.specs.Lists.{passing}
use Rattle.spec.specs.Mask.{Mask, members, members_from}
use Rattle.spec.specs.Word.{add, sub}
use Rattle.spec.proofs.BankLaws.{cost_bound}
use Rattle.banks.specs.Counting.{AllCells, AllFar, Known, Older, RowCounted, own, cells_of}

-- At a distance within 1,024 of own cells there is no common one.
beside : (c o d : ℕ) → o < 1024 → sub c o ≡ d → add d 1024 < 2048 → (c < 1024) ⊎ ((common_from ≤ c) × (c < common_from + 256)) → c < 1024
beside c o d l e n (inl h) = h
beside c o d l e n (inr h) = absurd (let a = h.0 in let b = h.1 in omega (arith, a, b))

pub recalled_near : (d k : ℕ) (cell other : ℕ → ℕ) (E : Mask) → ((t : ℕ) → t < k + length E → sub (cell t) (other t) ≡ d) → add d 1024 < 2048
    → AllCells (map other (members_from k E)) → Known (map cell (members_from k E)) → AllCells (map cell (members_from k E))
unfolding members_from
recalled_near d k cell other [] D n a h = tt
recalled_near d k cell other (false ∷ E) D n a h = recalled_near d (suc k) cell other E (λ t l. D t (omega arith)) n a h
recalled_near d k cell other (true ∷ E) D n a h =
    (beside (cell k) (other k) d a.0 (D k (omega arith)) n h.0, recalled_near d (suc k) cell other E (λ t l. D t (omega arith)) n a.1 h.1)

-- Where all are cells', all are below what no cell reaches.
pub all_pass : (k : ℕ) → 1024 ≤ k → (cs : List ℕ) → AllCells cs → passing (λ c. ltb c k) cs ≡ cs
unfolding passing
all_pass k h [] a = refl
all_pass k h (c ∷ cs) a =
    ap (λ b. cond b (c ∷ passing (λ c. ltb c k) cs) (passing (λ c. ltb c k) cs)) (lt-ltb c k (let l = a.0 in omega arith)) ∙ ap (λ l. c ∷ l) (all_pass k h cs a.1)

-- Of known numbers those that can cost something are those that are cells'.
pub cells_own : (cs : List ℕ) → Known cs → cells_of cs ≡ own cs
unfolding passing
cells_own [] h = refl
cells_own (c ∷ cs) h = ap₂ (λ b l. cond b (c ∷ l) l) (alike h.0) (cells_own cs h.1)
  where
    alike : (c < 1024) ⊎ ((common_from ≤ c) × (c < common_from + 256)) → ltb c 1024 ≡ ltb c common_from
    alike (inl l) = lt-ltb c 1024 l ∙ sym (lt-ltb c common_from (omega arith))
    alike (inr l) = let m = l.0 in le-ltb c 1024 (omega arith) ∙ sym (le-ltb c common_from m)

-- Numbers that are looked at one after the other: so many of those so far are below the first common cell's.
pub record Looking (cell : ℕ → ℕ) (n near t : ℕ) : Type 0 where
  pub come : t ≤ n
  pub few : near ≤ t
  pub far : near ≡ 0 → AllFar t cell

-- So none of them is a cell's.
none_near : (cell : ℕ → ℕ) (k : ℕ) (E : Mask) → AllFar (k + length E) cell → cells_of (map cell (members_from k E)) ≡ []
unfolding members_from passing
none_near cell k [] F = refl
none_near cell k (false ∷ E) F = none_near cell (suc k) E (λ t l. F t (omega arith))
none_near cell k (true ∷ E) F =
    let far = F k (omega arith) in
    ap (λ b. cond b (cell k ∷ cells_of (map cell (members_from (suc k) E))) (cells_of (map cell (members_from (suc k) E)))) (le-ltb (cell k) 1024 (omega (arith, far)))
    ∙ none_near cell (suc k) E (λ t l. F t (omega arith))

-- A row of such numbers is counted at once.
pub counted_far : (cell : ℕ → ℕ) (n mask stamp : ℕ) (stamps : List ℕ) → AllFar n cell → Older (stamp + 1) stamps → RowCounted cell n mask stamp 32 stamps
unfolding members
counted_far cell n mask stamp stamps F O =
    record {
      whole = λ h E e l. absurd (omega arith);
      part = λ h E e l.
          let none = ap length (none_near cell 0 E (λ t m. F t (omega (arith, l)))) in
          let z = cost_bound (cells_of (map cell (members_from 0 E))) in
          omega arith;
      few = omega arith;
      older = O;
    }
