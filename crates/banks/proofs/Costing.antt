-- Counting the cells of a row's threads, one thread after the other. Assumes nothing.
use mathlib.Core.Path.{◌≡◌, refl, sym, ◌∙◌, ap, subst}
use mathlib.Core.Logic.{◌⊎◌, inl, inr}
use mathlib.Core.List.{List, [], ◌∷◌, map}
use mathlib.Core.Bool.{Bool, true, false, cond, false≢true}
use Prim.Native.Nat.{ℕ, suc, ◌+◌, ◌-◌, ◌/◌, ◌%◌, ◌^◌, ◌<◌, ◌≤◌}
use native.Mathlib.Omega.{arith}
use borrow.Author.Tests.{lt-ltb, le-ltb}
use native.Mathlib.Nat.{div-eq_of_lt}
use lib.Pow.{shr-shr}
use lib.ListN.{length, get_or, replicate, get_or-replicate}
use Rattle.spec.specs.Mask.{Mask, mask_word, members, members_from}
use Rattle.spec.specs.Lists.{any_of, passing}
use Rattle.spec.specs.Banks.{different, in_bank, most_in_bank, conflict_cost}
use Rattle.masks.proofs.Words.{word_half, word_odd}
use Rattle.banks.specs.Counting.{Older, Banked, Fit, Counted, AllCells, cells_of, RowCounted}
use Rattle.banks.proofs.Near.{all_pass}
use Rattle.banks.proofs.Order.{turned, most_turned}

-- A count has room, whatever the mask: no more cells are counted than threads have gone by. No stamp is a later row's.
pub record Tracking (stamp t : ℕ) (stamps counts : List ℕ) (most : ℕ) : Type 0 where
  pub few : most ≤ t
  pub below : (b : ℕ) → b < 16 → get_or counts b 0 ≤ most
  pub older : Older (stamp + 1) stamps

none_yet : (b : ℕ) → b < 16 → ◌≡◌ {A = ℕ} (get_or (replicate 16 0) b 0) 0
none_yet b h = get_or-replicate {A = ℕ} 16 b 0 0 h

pub tracking_start : (stamp : ℕ) (stamps : List ℕ) → Older stamp stamps → Tracking stamp 0 stamps (replicate 16 0) 0
tracking_start stamp stamps O =
    record {
      few = omega arith;
      below = λ b h. omega (arith, none_yet b h);
      older = record { size = O.size; below = λ i h. omega (arith, O.below i h) };
    }

module _ (stamp t : ℕ) (stamps counts : List ℕ) (most : ℕ) (K : Tracking stamp t stamps counts most) where
  pub tracking_fit : t < 32 → Fit counts most
  tracking_fit h = record { room = omega (arith, K.few); below = K.below }

  pub tracking_in : (i : ℕ) (stamps' counts' : List ℕ) (most' : ℕ) → Counted stamp i stamps counts most stamps' counts' most'
      → Tracking stamp (t + 1) stamps' counts' most'
  tracking_in i stamps' counts' most' C = record { few = omega (arith, C.grows, K.few); below = C.fits; older = C.older K.older }

  pub tracking_out : Tracking stamp (t + 1) stamps counts most
  tracking_out = record { few = omega (arith, K.few); below = K.below; older = K.older }

-- The row has come to thread t, and m is what is left of its mask E. The cells used so far stand newest first. `far` is 0 where all numbers so far are cells'.
pub record Costing (cell : ℕ → ℕ) (E : Mask) (stamp t m : ℕ) (stamps counts : List ℕ) (most far : ℕ) : Type 0 where
  pub rest : Mask
  pub used : List ℕ
  pub mask : m ≡ mask_word rest
  pub same : turned (cells_of (map cell (members_from t rest))) used ≡ turned (cells_of (map cell (members E))) []
  pub banked : Banked used stamp stamps counts most
  pub all_cells_lem : far ≡ 0 → AllCells (map cell (members_from t rest)) → AllCells (map cell (members E))

-- The loop's state, for every mask that its word stands for.
abbrev pub Costings : (cell : ℕ → ℕ) → (mask stamp t m : ℕ) → (stamps counts : List ℕ) → (most far : ℕ) → Type 0
Costings cell mask stamp t m stamps counts most far =
    (E : Mask) → mask ≡ mask_word E → length E ≤ 32 → Costing cell E stamp t m stamps counts most far

pub costing_start : (cell : ℕ → ℕ) (E : Mask) (stamp mask : ℕ) (stamps : List ℕ) → mask ≡ mask_word E → Older stamp stamps
    → Costing cell E stamp 0 mask stamps (replicate 16 0) 0 0
unfolding members any_of different in_bank most_in_bank
costing_start cell E stamp mask stamps e O =
    record {
      rest = E;
      used = [];
      mask = e;
      same = refl;
      banked = record {
        size = O.size;
        sixteen = refl;
        marked = λ i h a. absurd (false≢true a);
        unmarked = λ i h a. O.below i h;
        each = λ b h. none_yet b h;
        most_is = refl;
      };
      all_cells_lem = λ z c. c;
    }

none_odd : (m : ℕ) → m ≡ mask_word [] → m % 2 ≡ 1 → ⊥
unfolding mask_word
none_odd m e o = omega (arith, e)

pub nobody_left : (m : Mask) (t : ℕ) → mask_word m ≡ 0 → members_from t m ≡ []
unfolding mask_word members_from
nobody_left [] t e = refl
nobody_left (true ∷ m) t e = absurd (omega arith)
nobody_left (false ∷ m) t e = nobody_left m (suc t) (omega arith)

-- One thread further, whether it is enabled or not.
further : (cell : ℕ → ℕ) (E : Mask) (stamp t m : ℕ) (stamps counts : List ℕ) (most far : ℕ) (here : Bool) (rest : Mask) (used : List ℕ)
    → m ≡ mask_word (here ∷ rest)
    → turned (cells_of (map cell (members_from (suc t) rest))) used ≡ turned (cells_of (map cell (members E))) [] → Banked used stamp stamps counts most
    → (far ≡ 0 → AllCells (map cell (members_from (suc t) rest)) → AllCells (map cell (members E))) → Costing cell E stamp (t + 1) (m / 2) stamps counts most far
further cell E stamp t m stamps counts most far here rest used e q B g =
    let u : t + 1 ≡ suc t = omega arith in
    record {
      rest = rest;
      used = used;
      mask = ap (λ z. z / 2) e ∙ word_half here rest;
      same = ap (λ z. turned (cells_of (map cell (members_from z rest))) used) u ∙ q;
      banked = B;
      all_cells_lem = λ z c. g z (subst (λ k. AllCells (map cell (members_from k rest))) u c);
    }

module _ (cell : ℕ → ℕ) (E : Mask) (stamp t m : ℕ) (stamps counts : List ℕ) (most far : ℕ) (C : Costing cell E stamp t m stamps counts most far) where
  enabled : m % 2 ≡ 1 → (stamps' counts' : List ℕ) (most' far' : ℕ) (used' : List ℕ)
      → ((cs : List ℕ) → turned (cells_of (cell t ∷ cs)) C.used ≡ turned (cells_of cs) used') → Banked used' stamp stamps' counts' most'
      → (far' ≡ 0 → (cell t < 1024) × (far ≡ 0)) → Costing cell E stamp (t + 1) (m / 2) stamps' counts' most' far'
  unfolding members_from
  enabled odd stamps' counts' most' far' used' move B near = by C.rest C.mask C.same C.all_cells_lem
    where
      by : (rest : Mask) → m ≡ mask_word rest → turned (cells_of (map cell (members_from t rest))) C.used ≡ turned (cells_of (map cell (members E))) []
          → (far ≡ 0 → AllCells (map cell (members_from t rest)) → AllCells (map cell (members E)))
          → Costing cell E stamp (t + 1) (m / 2) stamps' counts' most' far'
      by [] e q g = absurd (none_odd m e odd)
      by (false ∷ rest) e q g = let z : ◌≡◌ {A = ℕ} 0 1 = sym (word_odd false rest) ∙ sym (ap (λ z. z % 2) e) ∙ odd in absurd (omega arith)
      by (true ∷ rest) e q g =
          further cell E stamp t m stamps' counts' most' far' true rest used' e (sym (move (map cell (members_from (suc t) rest))) ∙ q) B
          (λ z c. g (near z).1 ((near z).0, c))

  -- an enabled thread's number is a cell's, which is one of the used ones then
  pub costing_in : m % 2 ≡ 1 → cell t < 1024 → (stamps' counts' : List ℕ) (most' : ℕ) → Counted stamp (cell t) stamps counts most stamps' counts' most'
      → Costing cell E stamp (t + 1) (m / 2) stamps' counts' most' far
  unfolding passing turned
  costing_in odd inside stamps' counts' most' D =
      enabled odd stamps' counts' most' far (cell t ∷ C.used)
      (λ cs. ap (λ b. turned (cond b (cell t ∷ cells_of cs) (cells_of cs)) C.used) (lt-ltb (cell t) 1024 inside)) (D.banked C.used C.banked)
      (λ z. (inside, z))

  -- or it is none
  pub costing_far : m % 2 ≡ 1 → 1024 ≤ cell t → Costing cell E stamp (t + 1) (m / 2) stamps counts most 32
  unfolding passing
  costing_far odd h =
      enabled odd stamps counts most 32 C.used
      (λ cs. ap (λ b. turned (cond b (cell t ∷ cells_of cs) (cells_of cs)) C.used) (le-ltb (cell t) 1024 h)) C.banked (λ z. absurd (omega arith))

  pub costing_out : (m % 2 ≡ 1 → ⊥) → Costing cell E stamp (t + 1) (m / 2) stamps counts most far
  unfolding members_from mask_word
  costing_out even = by C.rest C.mask C.same C.all_cells_lem
    where
      by : (rest : Mask) → m ≡ mask_word rest → turned (cells_of (map cell (members_from t rest))) C.used ≡ turned (cells_of (map cell (members E))) []
          → (far ≡ 0 → AllCells (map cell (members_from t rest)) → AllCells (map cell (members E)))
          → Costing cell E stamp (t + 1) (m / 2) stamps counts most far
      by [] e q g = record { rest = []; used = C.used; mask = ap (λ z. z / 2) e; same = q; banked = C.banked; all_cells_lem = g }
      by (true ∷ rest) e q g = absurd (even (ap (λ z. z % 2) e ∙ word_odd true rest))
      by (false ∷ rest) e q g = further cell E stamp t m stamps counts most far false rest C.used e q C.banked g

  -- with nothing left of the mask all cells are counted
  module _ (z : m ≡ 0) where
    nobody : members_from t C.rest ≡ []
    nobody = nobody_left C.rest t (sym C.mask ∙ z)

    pub costing_whole : most - 1 ≡ conflict_cost (cells_of (map cell (members E)))
    unfolding conflict_cost turned passing
    costing_whole =
        let all : C.used ≡ turned (cells_of (map cell (members E))) [] = sym (ap (λ ts. turned (cells_of (map cell ts)) C.used) nobody) ∙ C.same in
        let largest = C.banked.most_is ∙ ap (λ cs. most_in_bank 16 (different cs)) all ∙ most_turned 16 (cells_of (map cell (members E))) in
        ap (λ k. k - 1) largest

    pub costing_cells : far ≡ 0 → AllCells (map cell (members E))
    costing_cells f = C.all_cells_lem f (subst (λ ts. AllCells (map cell ts)) (sym nobody) tt)

-- The loop over a row's threads: what is left of the mask is of the threads from t on.
pub record Going (cell : ℕ → ℕ) (mask stamp t : ℕ) (stamps counts : List ℕ) (most far : ℕ) : Type 0 where
  pub come : t ≤ 32
  pub flag : (far ≡ 0) ⊎ (far ≡ 32)
  pub tracking : Tracking stamp t stamps counts most
  pub costings : Costings cell mask stamp t (mask / 2 ^ t) stamps counts most far

pub going_start : (cell : ℕ → ℕ) (mask stamp : ℕ) (stamps : List ℕ) → Older stamp stamps → Going cell mask stamp 0 stamps (replicate 16 0) 0 0
going_start cell mask stamp stamps O =
    record {
      come = omega arith;
      flag = inl refl;
      tracking = tracking_start stamp stamps O;
      costings = λ E e l. costing_start cell E stamp (mask / 1) stamps ((let q : mask / 1 ≡ mask = omega arith in q) ∙ e) O;
    }

module _ (cell : ℕ → ℕ) (mask stamp t : ℕ) (stamps counts : List ℕ) (most far : ℕ) (G : Going cell mask stamp t stamps counts most far) where
  module _ (more : t < 32) where
    going_as : (stamps' counts' : List ℕ) (most' far' : ℕ) → (far' ≡ 0) ⊎ (far' ≡ 32)
        → Tracking stamp (t + 1) stamps' counts' most' → Costings cell mask stamp (t + 1) (mask / 2 ^ t / 2) stamps' counts' most' far'
        → Going cell mask stamp (t + 1) stamps' counts' most' far'
    going_as stamps' counts' most' far' f K C =
        record {
          come = omega (arith, more);
          flag = f;
          tracking = K;
          costings = subst (λ m. Costings cell mask stamp (t + 1) m stamps' counts' most' far') (shr-shr mask t 1) C;
        }

    pub going_in : mask / 2 ^ t % 2 ≡ 1 → (stamps' counts' : List ℕ) (most' : ℕ) → cell t < 1024 → Counted stamp (cell t) stamps counts most stamps' counts' most'
        → Going cell mask stamp (t + 1) stamps' counts' most' far
    going_in odd stamps' counts' most' inside D =
        going_as stamps' counts' most' far G.flag (tracking_in stamp t stamps counts most G.tracking (cell t) stamps' counts' most' D)
        (λ E e l. costing_in cell E stamp t (mask / 2 ^ t) stamps counts most far (G.costings E e l) odd inside stamps' counts' most' D)

    pub going_far : mask / 2 ^ t % 2 ≡ 1 → 1024 ≤ cell t → Going cell mask stamp (t + 1) stamps counts most 32
    going_far odd h =
        going_as stamps counts most 32 (inr refl) (tracking_out stamp t stamps counts most G.tracking)
        (λ E e l. costing_far cell E stamp t (mask / 2 ^ t) stamps counts most far (G.costings E e l) odd h)

    pub going_out : (mask / 2 ^ t % 2 ≡ 1 → ⊥) → Going cell mask stamp (t + 1) stamps counts most far
    going_out even =
        going_as stamps counts most far G.flag (tracking_out stamp t stamps counts most G.tracking)
        (λ E e l. costing_out cell E stamp t (mask / 2 ^ t) stamps counts most far (G.costings E e l) even)

  pub going_small : most - 1 + far ≤ 63
  going_small = by G.flag
    where
      by : (far ≡ 0) ⊎ (far ≡ 32) → most - 1 + far ≤ 63
      by (inl e) = omega (arith, G.tracking.few, G.come)
      by (inr e) = omega (arith, G.tracking.few, G.come)

  pub going_whole : mask < 2 ^ t → (r : ℕ) → r ≡ most - 1 + far → RowCounted cell 32 mask stamp r stamps
  going_whole small r e =
      record {
        whole = λ l E q k.
            let C = G.costings E q k in
            let cells = costing_cells cell E stamp t (mask / 2 ^ t) stamps counts most far C none (none_far l G.flag) in (
              cells,
              (let y : r ≡ most - 1 = omega (arith, none_far l G.flag) in y)
                  ∙ costing_whole cell E stamp t (mask / 2 ^ t) stamps counts most far C none
                  ∙ ap conflict_cost (all_pass 1024 (omega arith) (map cell (members E)) cells),
            );
        part = λ l E q k.
            (let y : r - 32 ≡ most - 1 = omega (arith, some_far l G.flag) in y)
            ∙ costing_whole cell E stamp t (mask / 2 ^ t) stamps counts most far (G.costings E q k) none;
        few = omega (arith, going_small);
        older = G.tracking.older;
      }
    where
      none : mask / 2 ^ t ≡ 0
      none = div-eq_of_lt small

      none_far : r < 32 → (far ≡ 0) ⊎ (far ≡ 32) → far ≡ 0
      none_far l (inl f) = f
      none_far l (inr f) = absurd (omega arith)

      some_far : 32 ≤ r → (far ≡ 0) ⊎ (far ≡ 32) → far ≡ 32
      some_far l (inl f) = absurd (omega (arith, G.tracking.few, G.come))
      some_far l (inr f) = f
