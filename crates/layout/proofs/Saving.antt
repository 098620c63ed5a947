-- The saved masks in their arrays. Assumes nothing.
use mathlib.Core.Path.{◌≡◌, refl, sym, ◌∙◌, ap, subst}
use mathlib.Core.Logic.{◌⊎◌, inl, inr}
use mathlib.Core.List.{List, [], ◌∷◌}
use mathlib.Core.Bool.{true, false, cond}
use Prim.Native.Nat.{ℕ, suc, ◌+◌, ◌-◌, ◌<◌, ◌≤◌}
use native.Mathlib.Omega.{arith}
use native.Mathlib.Decide.{ℕ_discrete}
use borrow.Author.Tests.{eq-eqb, ne_eqb, lt-ltb}
use lib.Dec.{eqb, ltb}
use lib.ListN.{length, get_or, set, length-set}
use lib.Seq.{get_or-set_same, get_or-set_other}
use Rattle.spec.specs.Mask.{Mask, mask_word}
use Rattle.spec.specs.LockStep.{Saved, LockState, top_mask, pop, top_opener, saved_at_while}
use Rattle.spec.proofs.Laws.{top_cons}
use Rattle.layout.specs.declared.State.{State}
use Rattle.layout.specs.Represents.{Saves, RoomForWhile}
use Rattle.layout.specs.Constructs.{top_word, entered, saving, saved_after, openers_after, while_depth, EnteredWhile}

-- a store above the saved masks leaves them
pub saves_above : (n : ℕ) (v : List Saved) (saved openers : List ℕ) (i j x y : ℕ) → length v ≤ i → length v ≤ j → Saves n v saved openers
    → Saves n v (set saved i x) (set openers j y)
saves_above n [] saved openers i j x y h k S = tt
saves_above n (f ∷ v) saved openers i j x y h k (p, q, r, S) = (
  get_or-set_other saved i (length v) x 0 (λ e. omega arith) ∙ p,
  q,
  get_or-set_other openers j (length v) y 0 (λ e. omega arith) ∙ r,
  saves_above n v saved openers i j x y (omega arith) (omega arith) S,
)

-- a mask is saved
pub saves_push : (n : ℕ) (v : List Saved) (saved openers : List ℕ) (d x y r : ℕ) (m : Mask) → length saved ≡ 8 → length openers ≡ 8 → d ≡ length v → d < 8
    → x ≡ mask_word m → length m ≡ n → y ≡ r → Saves n v saved openers → Saves n (record { opener = r; mask = m } ∷ v) (set saved d x) (set openers d y)
saves_push n v saved openers d x y r m ls lo ed h ex em ey S = (
  ap (λ z. get_or (set saved d x) z 0) (sym ed) ∙ get_or-set_same saved d x 0 (omega arith) ∙ ex,
  em,
  ap (λ z. get_or (set openers d y) z 0) (sym ed) ∙ get_or-set_same openers d y 0 (omega arith) ∙ ey,
  saves_above n v saved openers d d x y (omega arith) (omega arith) S,
)

-- the innermost construct's row is put in anew
pub saves_anew : (n : ℕ) (v : List Saved) (saved openers : List ℕ) (d y r : ℕ) → length openers ≡ 8 → d ≡ length v → 0 < d → d ≤ 8 → y ≡ r
    → Saves n v saved openers → Saves n (record { opener = r; mask = top_mask v } ∷ pop v) saved (set openers (d - 1) y)
unfolding top_mask pop
saves_anew n [] saved openers d y r lo ed h k ey S = absurd (omega arith)
saves_anew n (f ∷ v) saved openers d y r lo ed h k ey (p, q, o, S) =
    let e : d - 1 ≡ length v = omega arith in (
      p,
      q,
      ap (λ z. get_or (set openers (d - 1) y) z 0) (sym e) ∙ get_or-set_same openers (d - 1) y 0 (omega arith) ∙ ey,
      only n v saved openers (d - 1) y (omega arith) S,
    )
  where
    only : (n : ℕ) (v : List Saved) (saved openers : List ℕ) (j y : ℕ) → length v ≤ j → Saves n v saved openers → Saves n v saved (set openers j y)
    only n [] saved openers j y k S = tt
    only n (f ∷ v) saved openers j y k (p, q, r, S) =
        (p, q, get_or-set_other openers j (length v) y 0 (λ e. omega arith) ∙ r, only n v saved openers j y (omega arith) S)

-- what stands on top
module _ (n : ℕ) where
  pub saves_top : (v : List Saved) (saved openers : List ℕ) (d : ℕ) → d ≡ length v → 0 < d → Saves n v saved openers
      → get_or saved (d - 1) 0 ≡ mask_word (top_mask v)
  unfolding top_mask
  saves_top [] saved openers d e h S = absurd (omega arith)
  saves_top (f ∷ v) saved openers d e h S = ap (λ z. get_or saved z 0) (let y : d - 1 ≡ length v = omega arith in y) ∙ S.0

  pub top_size : (v : List Saved) (saved openers : List ℕ) (d : ℕ) → d ≡ length v → 0 < d → Saves n v saved openers → length (top_mask v) ≡ n
  unfolding top_mask
  top_size [] saved openers d e h S = absurd (omega arith)
  top_size (f ∷ v) saved openers d e h S = S.1

  pub saves_back : (v : List Saved) (saved openers : List ℕ) (d : ℕ) → d ≡ length v → 0 < d → Saves n v saved openers → get_or openers (d - 1) 0 ≡ top_opener v
  unfolding top_opener
  saves_back [] saved openers d e h S = absurd (omega arith)
  saves_back (f ∷ v) saved openers d e h S = ap (λ z. get_or openers z 0) (let y : d - 1 ≡ length v = omega arith in y) ∙ S.2

  pub saves_pop : (v : List Saved) (saved openers : List ℕ) → Saves n v saved openers → Saves n (pop v) saved openers
  unfolding pop
  saves_pop [] saved openers S = tt
  saves_pop (f ∷ v) saved openers S = S.3

  pub pop_length : (v : List Saved) (d : ℕ) → d ≡ length v → 0 < d → d - 1 ≡ length (pop v)
  unfolding pop
  pop_length [] d e h = absurd (omega arith)
  pop_length (f ∷ v) d e h = omega arith

pub anew_length : (v : List Saved) (d : ℕ) (r : ℕ) → d ≡ length v → 0 < d → d ≡ length {A = Saved} (record { opener = r; mask = top_mask v } ∷ pop v)
unfolding pop
anew_length [] d r e h = absurd (omega arith)
anew_length (f ∷ v) d r e h = omega arith

-- A WHILE come to from above, and from its ENDWHILE.
pub saved_new : (r : ℕ) (m : Mask) (v : List Saved) → ((f : Saved) (w : List Saved) → v ≡ f ∷ w → f.opener ≡ r → ⊥)
    → saved_at_while r m v ≡ record { opener = r; mask = m } ∷ v
unfolding saved_at_while
saved_new r m [] h = refl
saved_new r m (f ∷ v) h = rw (ne_eqb f.opener r (h f v refl))

pub saved_old : (r : ℕ) (m : Mask) (v : List Saved) → 0 < length v → top_opener v ≡ r → saved_at_while r m v ≡ v
unfolding saved_at_while top_opener
saved_old r m [] h e = absurd (omega arith)
saved_old r m (f ∷ v) h e = rw (eq-eqb f.opener r e)

pub atmost : (s : State) (openers : List ℕ) → RoomForWhile s openers → s.depth ≤ 8
atmost s openers (inl h) = omega arith
atmost s openers (inr h) = h.1

pub room_new : (s : State) (openers : List ℕ) → RoomForWhile s openers → (0 < s.depth → get_or openers (s.depth - 1) 0 ≡ s.row → ⊥) → s.depth < 8
room_new s openers (inl h) n = h
room_new s openers (inr h) n = absurd (n h.0 h.2)

-- A row that is no IF, ELSE or WHILE leaves all slots.
pub slots_kept : (op : ℕ) (s : State) (saved openers : List ℕ) → (op < 32) ⊎ (36 < op)
    → (saved ≡ saved_after op s saved openers) × (openers ≡ openers_after op s openers)
unfolding saved_after openers_after saving
slots_kept op s saved openers h =
    rw (
      ne_eqb op 32 (λ e. apart 32 (omega arith) (omega arith) e h),
      ne_eqb op 33 (λ e. apart 33 (omega arith) (omega arith) e h),
      ne_eqb op 35 (λ e. apart 35 (omega arith) (omega arith) e h),
    ) (refl, refl)
  where
    apart : (k : ℕ) → 32 ≤ k → k ≤ 36 → op ≡ k → (op < 32) ⊎ (36 < op) → ⊥
    apart k l m e (inl x) = omega arith
    apart k l m e (inr x) = omega arith

module _ (s : State) (saved openers : List ℕ) where
  is_entered : 0 < s.depth → top_word s openers ≡ s.row → entered s openers ≡ true
  unfolding entered
  is_entered h e = rw (lt-ltb 0 s.depth h, eq-eqb (top_word s openers) s.row e)

  not_entered : (0 < s.depth → top_word s openers ≡ s.row → ⊥) → entered s openers ≡ false
  unfolding entered
  not_entered ne = by (ℕ_discrete s.depth 0) (ℕ_discrete (top_word s openers) s.row)
    where
      by : Dec (s.depth ≡ 0) → Dec (top_word s openers ≡ s.row) → cond (ltb 0 s.depth) (eqb (top_word s openers) s.row) false ≡ false
      by (yes d) q = ap (λ k. cond (ltb 0 k) (eqb (top_word s openers) s.row) false) d
      by (no d) (yes e) = absurd (ne (omega arith) e)
      by (no d) (no f) = rw (lt-ltb 0 s.depth (omega arith), ne_eqb (top_word s openers) s.row f)

  -- the WHILE's own row is on top
  pub enter_old : 0 < s.depth → s.depth ≤ 8 → top_word s openers ≡ s.row → EnteredWhile s.depth s saved openers saved openers
  unfolding while_depth saved_after openers_after saving
  enter_old h k e =
      let q = is_entered h e in
      record { some = h; few = k; depth_is = rw q; saved_are = rw q; openers_are = rw q }

  -- and is put there
  pub enter_new : s.depth < 8 → (0 < s.depth → top_word s openers ≡ s.row → ⊥)
      → EnteredWhile (s.depth + 1) s saved openers (set saved s.depth s.mask) (set openers s.depth s.row)
  unfolding while_depth saved_after openers_after saving
  enter_new k ne =
      let q = not_entered ne in
      record { some = omega arith; few = omega arith; depth_is = rw q; saved_are = rw q; openers_are = rw q }

  on_top : ((0 < s.depth) × (top_word s openers ≡ s.row)) ⊎ (0 < s.depth → top_word s openers ≡ s.row → ⊥)
  on_top = by (ℕ_discrete s.depth 0) (ℕ_discrete (top_word s openers) s.row)
    where
      by : Dec (s.depth ≡ 0) → Dec (top_word s openers ≡ s.row)
          → ((0 < s.depth) × (top_word s openers ≡ s.row)) ⊎ (0 < s.depth → top_word s openers ≡ s.row → ⊥)
      by (yes d) q = inr (λ h e. omega arith)
      by (no d) (yes e) = inl (let h : 0 < s.depth = omega arith in h, e)
      by (no d) (no f) = inr (λ h e. f e)

  -- What stands there for a state of the lock-step run.
  module _ (n : ℕ) (z : LockState) (er : s.row ≡ z.row) (em : s.mask ≡ mask_word z.enabled) (on : length z.enabled ≡ n)
      (ed : s.depth ≡ length z.saved) (S : Saves n z.saved saved openers) (ls : length saved ≡ 8) (lo : length openers ≡ 8) where
    abbrev pub masks : List Saved
    masks = saved_at_while z.row z.enabled z.saved

    abbrev pub Stood : (k : ℕ) → (saved' openers' : List ℕ) → Type 0
    Stood k saved' openers' = (0 < k) × (k ≡ length masks) × Saves n masks saved' openers' × (length saved' ≡ 8) × (length openers' ≡ 8)

    pub while_saves : RoomForWhile s openers → Stood (while_depth s openers) (saved_after 35 s saved openers) (openers_after 35 s openers)
    unfolding while_depth saved_after openers_after saving
    while_saves room = by on_top
      where
        apart : (0 < s.depth → top_word s openers ≡ s.row → ⊥) → (f : Saved) (w : List Saved) → z.saved ≡ f ∷ w → f.opener ≡ z.row → ⊥
        apart ne f w p o =
            let h : 0 < s.depth = omega (arith, ap length p) in
            ne h (saves_back n z.saved saved openers s.depth ed h S ∙ ap top_opener p ∙ top_cons f w ∙ o ∙ sym er)

        by : ((0 < s.depth) × (top_word s openers ≡ s.row)) ⊎ (0 < s.depth → top_word s openers ≡ s.row → ⊥)
            → Stood (while_depth s openers) (saved_after 35 s saved openers) (openers_after 35 s openers)
        by (inl (h, e)) =
            let q : masks ≡ z.saved = saved_old z.row z.enabled z.saved (omega arith)
            (sym (saves_back n z.saved saved openers s.depth ed h S) ∙ e ∙ er) in
            rw (is_entered h e) (h, ed ∙ sym (ap length q), subst (λ v. Saves n v saved openers) (sym q) S, ls, lo)
        by (inr ne) =
            let q : masks ≡ record { opener = z.row; mask = z.enabled } ∷ z.saved = saved_new z.row z.enabled z.saved (apart ne) in
            let d = s.depth in
            rw (not_entered ne) (
              (let p : 0 < d + 1 = omega arith in p),
              (let l : d + 1 ≡ suc (length z.saved) = omega arith in l ∙ sym (ap length q)),
              subst (λ v. Saves n v (set saved d s.mask) (set openers d s.row)) (sym q)
                  (saves_push n z.saved saved openers d s.mask s.row z.row z.enabled ls lo ed (room_new s openers room ne) em on er S),
              length-set saved d s.mask ∙ ls,
              length-set openers d s.row ∙ lo,
            )
