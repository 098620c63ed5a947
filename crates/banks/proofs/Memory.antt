-- The slots of the remembered costs. Assumes nothing.
use mathlib.Core.Path.{◌≡◌, sym, ◌∙◌, ap, subst}
use mathlib.Core.Logic.{◌⊎◌, inl, inr}
use mathlib.Core.List.{List, [], ◌∷◌, map}
use mathlib.Core.Bool.{Bool, true, false, cond}
use Prim.Native.Nat.{ℕ, suc, ◌+◌, ◌-◌, ◌*◌, ◌<◌, ◌≤◌}
use native.Mathlib.Omega.{arith}
use native.Mathlib.Decide.{ℕ_discrete}
use lib.Dec.{ltb}
use lib.Seq.{get_or-take, get_or-drop}
use lib.ListN.{take, drop, length, get_or, replicate, length-replicate, get_or-replicate}
use Rattle.spec.specs.Mask.{Mask, members, members_from}
use Rattle.spec.specs.Banks.{different, in_bank, most_in_bank, conflict_cost}
use Rattle.spec.proofs.BankLaws.{cost_bound}
use Rattle.spec.proofs.Laws.{lt_or_le, map_members}
use Rattle.spec.specs.Limits.{common_from}
use Rattle.spec.specs.Lists.{passing}
use Rattle.banks.specs.Counting.{AllCells, Known, Older, RowCounted, own, numbers_in, numbers_of}
use Rattle.banks.specs.Remembering.{AtOneDistance, Nearby, CostOf, lanes_from, Memo, Remembered, RowCosts}
use Rattle.banks.proofs.Costing.{nobody_left}
use Rattle.banks.proofs.Near.{all_pass, cells_own, recalled_near}
use Rattle.banks.proofs.Distance.{cost_same}

-- A cost is that of equal numbers.
cost_as : (f g : ℕ → ℕ) (mask cost mask' cost' : ℕ) → ((t : ℕ) → t < 32 → g t ≡ f t) → mask' ≡ mask → cost' ≡ cost → CostOf f mask cost → CostOf g mask' cost'
unfolding members
cost_as f g mask cost mask' cost' h em ec C E e l =
    let c = C E (sym em ∙ e) l in
    let same = map_members g f 0 E (λ t q m. h t (omega arith)) in
    (subst AllCells (sym same) c.0, ec ∙ c.1 ∙ ap conflict_cost (sym same))

-- Nothing is remembered at first: no thread, and no cost.
pub memo_start : Memo (replicate 544 0)
unfolding conflict_cost different most_in_bank in_bank members
memo_start =
    record {
      size = length-replicate {A = ℕ} 544 0;
      each = λ slot h E e l.
          let none = get_or-replicate {A = ℕ} 544 (slot * 34 + 32) 0 0 (omega arith) in
          let free = get_or-replicate {A = ℕ} 544 (slot * 34 + 33) 0 0 (omega arith) in
          let nobody = nobody_left E 0 (sym e ∙ none) in (
            subst (λ ts. AllCells (map (lanes_from (replicate 544 0) (slot * 34)) ts)) (sym nobody) tt,
            free ∙ ap (λ ts. conflict_cost (map (lanes_from (replicate 544 0) (slot * 34)) ts)) (sym nobody),
          );
      few = λ slot h. let free = get_or-replicate {A = ℕ} 544 (slot * 34 + 33) 0 0 (omega arith) in omega arith;
    }

module _ (cell : ℕ → ℕ) (mask cost slot : ℕ) (memo memo' : List ℕ) (M : Memo memo) (R : Remembered cell mask cost (slot * 34) memo memo') where
  pub memo_more : cost ≤ 31 → CostOf cell mask cost → Memo memo'
  memo_more l C =
      record {
        size = R.size ∙ M.size;
        each = λ i h. by i h (ℕ_discrete i slot);
        few = λ i h. few_by i h (ℕ_discrete i slot);
      }
    where
      outside : (i j : ℕ) → (i ≡ slot → ⊥) → j < 34 → (i * 34 + j < slot * 34) ⊎ (slot * 34 + 34 ≤ i * 34 + j)
      outside i j n h = apart (lt_or_le i slot)
        where
          apart : (i < slot) ⊎ (slot ≤ i) → (i * 34 + j < slot * 34) ⊎ (slot * 34 + 34 ≤ i * 34 + j)
          apart (inl q) = inl (omega arith)
          apart (inr q) = inr (omega (arith, n))

      here : (i k : ℕ) → i ≡ slot → get_or memo' (i * 34 + k) 0 ≡ get_or memo' (slot * 34 + k) 0
      here i k e = ap (λ (z : ℕ). get_or memo' (z * 34 + k) 0) e

      by : (i : ℕ) → i < 16 → Dec (i ≡ slot) → CostOf (lanes_from memo' (i * 34)) (get_or memo' (i * 34 + 32) 0) (get_or memo' (i * 34 + 33) 0)
      by i h (yes e) = cost_as cell _ mask cost _ _ (λ t q. here i t e ∙ R.lanes t q) (here i 32 e ∙ R.mask_is_lem) (here i 33 e ∙ R.cost_is) C
      by i h (no n) =
          cost_as (lanes_from memo (i * 34)) _ _ _ _ _ (λ t q. R.others (i * 34 + t) (outside i t n (omega arith)))
          (R.others (i * 34 + 32) (outside i 32 n (omega arith))) (R.others (i * 34 + 33) (outside i 33 n (omega arith))) (M.each i h)

      few_by : (i : ℕ) → i < 16 → Dec (i ≡ slot) → get_or memo' (i * 34 + 33) 0 ≤ 31
      few_by i h (yes e) = let z = here i 33 e ∙ R.cost_is in omega arith
      few_by i h (no n) = let z = R.others (i * 34 + 33) (outside i 33 n (omega arith)) in omega (arith, M.few i h)

pub older_still : (k : ℕ) (stamps : List ℕ) → Older k stamps → Older (k + 1) stamps
older_still k stamps O = record { size = O.size; below = λ i h. omega (arith, O.below i h) }

members_few : (k : ℕ) (E : Mask) (cell : ℕ → ℕ) → length (map cell (members_from k E)) ≤ length E
unfolding members_from
members_few k [] cell = omega arith
members_few k (false ∷ E) cell = let z = members_few (suc k) E cell in omega arith
members_few k (true ∷ E) cell = let z = members_few (suc k) E cell in omega arith

own_few : (cs : List ℕ) → length (own cs) ≤ length cs
unfolding passing
own_few [] = omega arith
own_few (c ∷ cs) = by (ltb c common_from) (own_few cs)
  where
    by : (b : Bool) → length (own cs) ≤ length cs → length (cond b (c ∷ own cs) (own cs)) ≤ suc (length cs)
    by true h = omega (arith, h)
    by false h = omega (arith, h)

module _ (cell : ℕ → ℕ) (n mask stamp : ℕ) (stamps memo : List ℕ) (M : Memo memo) where
  -- one thread alone
  pub costs_alone : n ≤ 1 → Older stamp stamps → RowCosts cell n mask stamp 0 stamps memo
  unfolding members
  costs_alone h O =
      record {
        cost_is = λ E e l a.
            let cs = map cell (members_from 0 E) in
            let z = cost_bound (own cs) in
            let y = members_few 0 E cell in
            let x = own_few cs in
            omega arith;
        few = omega arith;
        older = older_still stamp stamps O;
        memo = M;
      }

  -- a row that is remembered
  pub costs_again : (slot : ℕ) → slot < 16 → n ≤ 32 → Older stamp stamps → get_or memo (slot * 34 + 32) 0 ≡ mask → AtOneDistance n cell (lanes_from memo (slot * 34))
      → Nearby cell (lanes_from memo (slot * 34)) → RowCosts cell n mask stamp (get_or memo (slot * 34 + 33) 0) stamps memo
  unfolding members
  costs_again slot h few O em D N =
      record {
        cost_is = λ E e l a.
            let told = M.each slot h E (em ∙ e) (omega arith) in
            let all = recalled_near _ 0 cell (lanes_from memo (slot * 34)) E (λ t k. D t (omega arith)) N told.0 a in
            told.1 ∙ sym (cost_same n cell (lanes_from memo (slot * 34)) E l D all told.0) ∙ ap conflict_cost (sym (all_pass common_from (omega arith) _ all));
        few = M.few slot h;
        older = older_still stamp stamps O;
        memo = M;
      }

  module _ (r : ℕ) (C : RowCounted cell n mask stamp r stamps) (few : n ≤ 32) where
    -- a row with numbers that are no cells' is counted, and not remembered
    pub costs_part : 32 ≤ r → RowCosts cell n mask stamp (r - 32) stamps memo
    costs_part h =
        record {
          cost_is = λ E e l a. C.part h E e (omega arith) ∙ ap conflict_cost (cells_own _ a);
          few = omega (arith, C.few);
          older = C.older;
          memo = M;
        }

    -- a row without them is remembered too
    pub costs_new : (slot : ℕ) (memo' : List ℕ) → r < 32 → Remembered cell mask r (slot * 34) memo memo' → RowCosts cell n mask stamp r stamps memo'
    costs_new slot memo' small R =
        record {
          cost_is = λ E e l a. let told = C.whole small E e (omega arith) in told.1 ∙ ap conflict_cost (sym (all_pass common_from (omega arith) _ told.0));
          few = omega arith;
          older = C.older;
          memo = memo_more cell mask r slot memo memo' M R (omega arith) (C.whole small);
        }

-- The numbers in a register are those of its own words.
pub costs_there : (regs : List ℕ) (r k n mask stamp cost : ℕ) (stamps memo : List ℕ) → 32 ≤ k → n ≤ 32
    → RowCosts (numbers_of (take k (drop (r * 32) regs))) n mask stamp cost stamps memo → RowCosts (numbers_in regs r) n mask stamp cost stamps memo
unfolding members
costs_there regs r k n mask stamp cost stamps memo h few C =
    record {
      cost_is = λ E e l K.
          let same = map_members (numbers_in regs r) (numbers_of (take k (drop (r * 32) regs))) 0 E (λ t q m. here t (omega arith)) in
          C.cost_is E e l (subst Known same K) ∙ ap (λ cs. conflict_cost (own cs)) (sym same);
      few = C.few;
      older = C.older;
      memo = C.memo;
    }
  where
    here : (t : ℕ) → t < 32 → numbers_in regs r t ≡ numbers_of (take k (drop (r * 32) regs)) t
    here t q = sym (get_or-take k (drop (r * 32) regs) t 0 (omega arith) ∙ get_or-drop (r * 32) regs t 0)
