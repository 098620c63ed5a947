-- Bank counts by stamps. Assumes nothing.
use mathlib.Core.Path.{◌≡◌, refl, sym, ◌∙◌, ap}
use mathlib.Core.List.{List, [], ◌∷◌}
use mathlib.Core.Bool.{Bool, true, false, cond, true≢false}
use Prim.Native.Nat.{ℕ, zero, suc, ◌+◌, ◌%◌, ◌<◌, ◌≤◌, max}
use native.Mathlib.Nat.{not-suc-le-zero}
use native.Mathlib.Omega.{arith}
use native.Mathlib.Decide.{ℕ_discrete}
use borrow.Author.Tests.{eq-eqb, ne_eqb}
use lib.Dec.{eqb}
use lib.ListN.{get_or, set, length-set}
use lib.Seq.{get_or-set_same, get_or-set_other}
use Rattle.spec.specs.Lists.{any_of}
use Rattle.spec.specs.Banks.{different, in_bank, most_in_bank}
use Rattle.banks.specs.Counting.{Banked, Fit, Counted}
use Rattle.banks.proofs.Order.{among_self, among_other}

among_again : (x i : ℕ) (used : List ℕ) → any_of (eqb i) used ≡ true → any_of (eqb x) (i ∷ used) ≡ any_of (eqb x) used
among_again x i used a = by (ℕ_discrete x i)
  where
    by : Dec (x ≡ i) → any_of (eqb x) (i ∷ used) ≡ any_of (eqb x) used
    by (yes e) = ap (λ (z : ℕ). any_of (eqb z) (i ∷ used)) e ∙ among_self i used ∙ sym a ∙ ap (λ (z : ℕ). any_of (eqb z) used) (sym e)
    by (no n) = among_other x i used n

different_old : (i : ℕ) (used : List ℕ) → any_of (eqb i) used ≡ true → different (i ∷ used) ≡ different used
unfolding different
different_old i used a = ap (λ (b : Bool). cond b (different used) (i ∷ different used)) a

different_new : (i : ℕ) (used : List ℕ) → any_of (eqb i) used ≡ false → different (i ∷ used) ≡ i ∷ different used
unfolding different
different_new i used a = ap (λ (b : Bool). cond b (different used) (i ∷ different used)) a

-- A cell more in its bank, and in no other.
bank_more : (b i : ℕ) (cs : List ℕ) → i % 16 ≡ b → in_bank b (i ∷ cs) ≡ in_bank b cs + 1
unfolding in_bank
bank_more b i cs e = rw (eq-eqb (i % 16) b e) (let z : 1 + in_bank b cs ≡ in_bank b cs + 1 = omega arith in z)

bank_same : (b i : ℕ) (cs : List ℕ) → (b ≡ i % 16 → ⊥) → in_bank b (i ∷ cs) ≡ in_bank b cs
unfolding in_bank
bank_same b i cs n = rw (ne_eqb (i % 16) b (λ e. n (sym e))) (let z : 0 + in_bank b cs ≡ in_bank b cs = omega arith in z)

-- The largest number in one of the first k banks.
most_same : (k i : ℕ) (cs : List ℕ) → k ≤ i % 16 → most_in_bank k (i ∷ cs) ≡ most_in_bank k cs
unfolding most_in_bank
most_same zero i cs h = refl
most_same (suc b) i cs h = omega (arith, bank_same b i cs (λ e. omega arith), most_same b i cs (omega arith))

most_more : (k i : ℕ) (cs : List ℕ) → i % 16 < k → most_in_bank k (i ∷ cs) ≡ max (in_bank (i % 16) cs + 1) (most_in_bank k cs)
unfolding most_in_bank
most_more zero i cs h = absurd (not-suc-le-zero h)
most_more (suc b) i cs h = by (ℕ_discrete b (i % 16)) (λ l. most_more b i cs l)
  where
    by : Dec (b ≡ i % 16) → (i % 16 < b → most_in_bank b (i ∷ cs) ≡ max (in_bank (i % 16) cs + 1) (most_in_bank b cs))
        → max (in_bank b (i ∷ cs)) (most_in_bank b (i ∷ cs)) ≡ max (in_bank (i % 16) cs + 1) (max (in_bank b cs) (most_in_bank b cs))
    by (yes e) below =
        let here = ap (λ (z : ℕ). in_bank z cs) e in
        omega (arith, bank_more b i cs (sym e), most_same b i cs (omega arith), here)
    by (no n) below = omega (arith, bank_same b i cs n, below (omega (arith, n)))

-- A list with one element set keeps a bound.
set_le : (l : List ℕ) (j k b m : ℕ) → k ≤ m → get_or l b 0 ≤ m → get_or (set l j k) b 0 ≤ m
set_le [] j k b m h q = q
set_le (x ∷ l) zero k zero m h q = h
set_le (x ∷ l) zero k (suc b) m h q = q
set_le (x ∷ l) (suc j) k zero m h q = q
set_le (x ∷ l) (suc j) k (suc b) m h q = set_le l j k b m h q

module _ (stamp i : ℕ) (stamps counts : List ℕ) (most : ℕ) (l : i < 1024) (F : Fit counts most) where
  -- a cell with this row's stamp is no new one
  pub counted_old : get_or stamps i 0 ≡ stamp → Counted stamp i stamps counts most stamps counts most
  counted_old e = record { grows = omega arith; fits = F.below; older = λ O. O; banked = λ used B. old used B (any_of (eqb i) used) refl }
    where
      old : (used : List ℕ) → Banked used stamp stamps counts most → (b : Bool) → any_of (eqb i) used ≡ b → Banked (i ∷ used) stamp stamps counts most
      old used B false a = absurd (omega (arith, B.unmarked i l a))
      old used B true a =
          record {
            size = B.size;
            sixteen = B.sixteen;
            marked = λ x h q. B.marked x h (sym (among_again x i used a) ∙ q);
            unmarked = λ x h q. B.unmarked x h (sym (among_again x i used a) ∙ q);
            each = λ b h. B.each b h ∙ ap (in_bank b) (sym (different_old i used a));
            most_is = B.most_is ∙ ap (most_in_bank 16) (sym (different_old i used a));
          }

  pub counted_new : (r : ℕ) → (get_or stamps i 0 ≡ stamp → ⊥) → r ≡ max (get_or counts (i % 16) 0 + 1) most
      → Counted stamp i stamps counts most (set stamps i stamp) (set counts (i % 16) (get_or counts (i % 16) 0 + 1)) r
  counted_new r n e =
      record {
        grows = omega (arith, F.below (i % 16) (omega arith));
        fits = λ b h. set_le counts (i % 16) (get_or counts (i % 16) 0 + 1) b r (omega arith) (omega (arith, F.below b h));
        older = λ O. record {
          size = length-set stamps i stamp ∙ O.size;
          below = λ j h. let z = set_le stamps i stamp j stamp (omega arith) (omega (arith, O.below j h)) in omega arith;
        };
        banked = λ used B. new used B (any_of (eqb i) used) refl;
      }
    where
      new : (used : List ℕ) → Banked used stamp stamps counts most → (b : Bool) → any_of (eqb i) used ≡ b
          → Banked (i ∷ used) stamp (set stamps i stamp) (set counts (i % 16) (get_or counts (i % 16) 0 + 1)) r
      new used B true a = absurd (n (B.marked i l a))
      new used B false a =
          record {
            size = length-set stamps i stamp ∙ B.size;
            sixteen = length-set counts (i % 16) _ ∙ B.sixteen;
            marked = λ x h q. mark x h q (ℕ_discrete x i);
            unmarked = λ x h q. unmark x h q (ℕ_discrete x i);
            each = λ b h. count b h (ℕ_discrete b (i % 16));
            most_is = e ∙ grown;
          }
        where
          mark : (x : ℕ) → x < 1024 → any_of (eqb x) (i ∷ used) ≡ true → Dec (x ≡ i) → get_or (set stamps i stamp) x 0 ≡ stamp
          mark x h q (yes p) = ap (λ (z : ℕ). get_or (set stamps i stamp) z 0) p ∙ get_or-set_same stamps i stamp 0 (omega (arith, B.size))
          mark x h q (no p) = get_or-set_other stamps i x stamp 0 p ∙ B.marked x h (sym (among_other x i used p) ∙ q)

          unmark : (x : ℕ) → x < 1024 → any_of (eqb x) (i ∷ used) ≡ false → Dec (x ≡ i) → get_or (set stamps i stamp) x 0 < stamp
          unmark x h q (yes p) = absurd (true≢false (sym (among_self i used) ∙ ap (λ (z : ℕ). any_of (eqb z) (i ∷ used)) (sym p) ∙ q))
          unmark x h q (no p) = omega (arith, get_or-set_other stamps i x stamp 0 p, B.unmarked x h (sym (among_other x i used p) ∙ q))

          count : (b : ℕ) → b < 16 → Dec (b ≡ i % 16) → get_or (set counts (i % 16) (get_or counts (i % 16) 0 + 1)) b 0 ≡ in_bank b (different (i ∷ used))
          count b h (yes p) =
              ap (λ (z : ℕ). get_or (set counts (i % 16) (get_or counts (i % 16) 0 + 1)) z 0) p
              ∙ get_or-set_same counts (i % 16) (get_or counts (i % 16) 0 + 1) 0 (omega (arith, B.sixteen))
              ∙ ap (λ (z : ℕ). z + 1) (B.each (i % 16) (omega arith)) ∙ sym (bank_more (i % 16) i (different used) refl)
              ∙ ap (λ (z : ℕ). in_bank z (i ∷ different used)) (sym p) ∙ ap (in_bank b) (sym (different_new i used a))
          count b h (no p) =
              get_or-set_other counts (i % 16) b _ 0 p ∙ B.each b h ∙ sym (bank_same b i (different used) p) ∙ ap (in_bank b) (sym (different_new i used a))

          grown : max (get_or counts (i % 16) 0 + 1) most ≡ most_in_bank 16 (different (i ∷ used))
          grown =
              let more = most_more 16 i (different used) (omega arith) in
              let here = B.each (i % 16) (omega arith) in
              let there = B.most_is in
              let same = ap (most_in_bank 16) (different_new i used a) in
              omega (arith, more, here, there, same)
