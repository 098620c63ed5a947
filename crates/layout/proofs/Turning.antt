-- A loop over the threads of a row, one turn at a time. Assumes nothing.
use mathlib.Core.Path.{◌≡◌, refl, sym, ◌∙◌, ap, subst}
use mathlib.Core.List.{List, [], ◌∷◌}
use mathlib.Core.Bool.{true, false}
use Prim.Native.Nat.{ℕ, suc, ◌+◌, ◌/◌, ◌%◌, ◌<◌, ◌≤◌}
use native.Mathlib.Omega.{arith}
use lib.ListN.{length}
use Rattle.spec.specs.declared.Verdict.{Verdict}
use Rattle.spec.specs.Mask.{Mask, mask_word, members, members_from}
use Rattle.spec.specs.LockStep.{LockState, Step, continues, stops, in_turn, and_then}
use Rattle.masks.proofs.Words.{word_half, word_odd}
use Rattle.std.specs.Prelude.{Ok, Err}
use Rattle.layout.specs.Memory.{Memory, Kept, Did, OneTurn}

pub kept_none : (s : LockState) → Kept s s
kept_none s = record { row_same_lem = refl; enabled_same = refl; saved_same_lem = refl; rows_same = refl; barriers_same_lem = refl }

pub kept_more : (s y z : LockState) → Kept s y → Kept y z → Kept s z
kept_more s y z p q =
    record {
      row_same_lem = q.row_same_lem ∙ p.row_same_lem;
      enabled_same = q.enabled_same ∙ p.enabled_same;
      saved_same_lem = q.saved_same_lem ∙ p.saved_same_lem;
      rows_same = q.rows_same ∙ p.rows_same;
      barriers_same_lem = q.barriers_same_lem ∙ p.barriers_same_lem;
    }

no_members : (m : Mask) (t : ℕ) → mask_word m ≡ 0 → members_from t m ≡ []
unfolding mask_word members_from
no_members [] t e = refl
no_members (true ∷ m) t e = absurd (omega arith)
no_members (false ∷ m) t e = no_members m (suc t) (omega arith)

-- The row has come to thread t in the state `here`, and m is what is left of the mask.
pub record Coming (f : LockState → ℕ → Step) (n : ℕ) (s : LockState) (t m : ℕ) (here : LockState) : Type 0 where
  pub rest : Mask
  pub mask : m ≡ mask_word rest
  pub left : t + length rest ≡ n
  pub same : in_turn f (members_from t rest) here ≡ in_turn f (members s.enabled) s

module _ (f : LockState → ℕ → Step) (n : ℕ) (s : LockState) where
  pub come_start : (mask : ℕ) → mask ≡ mask_word s.enabled → length s.enabled ≡ n → Coming f n s 0 mask s
  unfolding members
  come_start mask e l = record { rest = s.enabled; mask = e; left = omega arith; same = refl }

  module _ (t m : ℕ) (here : LockState) (C : Coming f n s t m here) where
    -- with nothing left of the mask all turns are made
    pub come_whole : m ≡ 0 → in_turn f (members s.enabled) s ≡ continues here
    come_whole z = sym C.same ∙ made
      where
        made : in_turn f (members_from t C.rest) here ≡ continues here
        made = unfold in_turn in (ap (λ ts. in_turn f ts here) (no_members C.rest t (sym C.mask ∙ z)))

    come_end : n ≤ t → m ≡ 0
    come_end h = C.mask ∙ by C.rest C.left
      where
        by : (rest : Mask) → t + length rest ≡ n → mask_word rest ≡ 0
        by [] l = unfold mask_word in refl
        by (b ∷ rest) l = absurd (omega arith)

    pub come_out : t < n → (m % 2 ≡ 1 → ⊥) → Coming f n s (t + 1) (m / 2) here
    come_out h o = by C.rest C.mask C.left C.same
      where
        by : (rest : Mask) → m ≡ mask_word rest → t + length rest ≡ n → in_turn f (members_from t rest) here ≡ in_turn f (members s.enabled) s
            → Coming f n s (t + 1) (m / 2) here
        by [] e l q = absurd (omega arith)
        by (true ∷ rest) e l q = absurd (o (ap (λ z. z % 2) e ∙ word_odd true rest))
        by (false ∷ rest) e l q =
            let u : t + 1 ≡ suc t = omega arith in
            record {
              rest = rest;
              mask = ap (λ z. z / 2) e ∙ word_half false rest;
              left = omega arith;
              same = ap (λ z. in_turn f (members_from z rest) here) u ∙ (unfold members_from in q);
            }

    -- the thread's turn, and the others after it
    turned : (x : Step) → f here t ≡ x → (rest : Mask) → in_turn f (members_from t (true ∷ rest)) here ≡ and_then x (in_turn f (members_from (suc t) rest))
    turned x e rest = unfold members_from in_turn in (ap (λ y. and_then y (in_turn f (members_from (suc t) rest))) e)

    pub come_in : (z : LockState) → t < n → m % 2 ≡ 1 → f here t ≡ continues z → Coming f n s (t + 1) (m / 2) z
    come_in z h o d = by C.rest C.mask C.left C.same
      where
        by : (rest : Mask) → m ≡ mask_word rest → t + length rest ≡ n → in_turn f (members_from t rest) here ≡ in_turn f (members s.enabled) s
            → Coming f n s (t + 1) (m / 2) z
        by [] e l q = absurd (omega arith)
        by (false ∷ rest) e l q = let z : ◌≡◌ {A = ℕ} 0 1 = sym (word_odd false rest) ∙ sym (ap (λ z. z % 2) e) ∙ o in absurd (omega arith)
        by (true ∷ rest) e l q =
            let u : t + 1 ≡ suc t = omega arith in
            let p : in_turn f (members_from t (true ∷ rest)) here ≡ in_turn f (members_from (suc t) rest) z = (unfold and_then in (turned (continues z) d rest)) in
            record {
              rest = rest;
              mask = ap (λ z. z / 2) e ∙ word_half true rest;
              left = omega arith;
              same = ap (λ w. in_turn f (members_from w rest) z) u ∙ sym p ∙ q;
            }

    pub come_stop : (v : Verdict) (z : LockState) → t < n → m % 2 ≡ 1 → f here t ≡ stops v z → in_turn f (members s.enabled) s ≡ stops v z
    come_stop v z h o d = by C.rest C.mask C.left C.same
      where
        by : (rest : Mask) → m ≡ mask_word rest → t + length rest ≡ n → in_turn f (members_from t rest) here ≡ in_turn f (members s.enabled) s
            → in_turn f (members s.enabled) s ≡ stops v z
        by [] e l q = absurd (omega arith)
        by (false ∷ rest) e l q = let z : ◌≡◌ {A = ℕ} 0 1 = sym (word_odd false rest) ∙ sym (ap (λ z. z % 2) e) ∙ o in absurd (omega arith)
        by (true ∷ rest) e l q = sym q ∙ (unfold and_then in (turned (stops v z) d rest))

-- The row has come to thread t, and the buffers stand for the state there.
pub record Turning (f : LockState → ℕ → Step) (n : ℕ) (s : LockState) (t m : ℕ) (regs cells log : List ℕ) : Type 0 where
  pub here : LockState
  pub coming : Coming f n s t m here
  pub memory : Memory n here regs cells log
  pub kept : Kept s here

module _ (f : LockState → ℕ → Step) (n : ℕ) (s : LockState) where
  pub turn_start : (mask : ℕ) (regs cells log : List ℕ) → mask ≡ mask_word s.enabled → length s.enabled ≡ n → Memory n s regs cells log
      → Turning f n s 0 mask regs cells log
  turn_start mask regs cells log e l M = record { here = s; coming = come_start f n s mask e l; memory = M; kept = kept_none s }

  module _ (t m : ℕ) (regs cells log : List ℕ) (C : Turning f n s t m regs cells log) where
    pub turn_whole : m ≡ 0 → Did n s (in_turn f (members s.enabled) s) (Ok tt) regs cells log
    turn_whole z =
        subst (λ o. Did n s o (Ok tt) regs cells log) (sym (come_whole f n s t m C.here C.coming z))
        (record { answer = refl; memory = C.memory; kept = C.kept })

    pub turn_end : n ≤ t → m ≡ 0
    turn_end h = come_end f n s t m C.here C.coming h

    pub turn_out : t < n → (m % 2 ≡ 1 → ⊥) → Turning f n s (t + 1) (m / 2) regs cells log
    turn_out h o = record { here = C.here; coming = come_out f n s t m C.here C.coming h o; memory = C.memory; kept = C.kept }

    pub turn_in : (regs' cells' log' : List ℕ) → t < n → m % 2 ≡ 1 → OneTurn f n t regs cells log (Ok tt) regs' cells' log'
        → Turning f n s (t + 1) (m / 2) regs' cells' log'
    turn_in regs' cells' log' h o d = by (f C.here t) refl (d C.here C.memory)
      where
        by : (x : Step) → f C.here t ≡ x → Did n C.here x (Ok tt) regs' cells' log' → Turning f n s (t + 1) (m / 2) regs' cells' log'
        by (stops v z) e D = let z : ◌≡◌ {A = ℕ} 0 1 = cc D.answer in absurd (omega arith)
        by (continues z) e D =
            record {
              here = z;
              coming = come_in f n s t m C.here C.coming z h o e;
              memory = D.memory;
              kept = kept_more s C.here z C.kept D.kept;
            }

    pub turn_stop : (v : Verdict) (regs' cells' log' : List ℕ) → t < n → m % 2 ≡ 1 → OneTurn f n t regs cells log (Err v) regs' cells' log'
        → Did n s (in_turn f (members s.enabled) s) (Err v) regs' cells' log'
    turn_stop v regs' cells' log' h o d = by (f C.here t) refl (d C.here C.memory)
      where
        by : (x : Step) → f C.here t ≡ x → Did n C.here x (Err v) regs' cells' log'
            → Did n s (in_turn f (members s.enabled) s) (Err v) regs' cells' log'
        by (continues z) e D = let z : ◌≡◌ {A = ℕ} 0 1 = cc D.answer in absurd (omega arith)
        by (stops w z) e D =
            subst (λ x. Did n s x (Err v) regs' cells' log') (sym (come_stop f n s t m C.here C.coming w z h o e))
            (record {
              answer = D.answer;
              memory = D.memory;
              kept = kept_more s C.here z C.kept D.kept;
            })

    -- as the code has it: the buffers as the branches leave them
    pub go_in : (regs₁ cells₁ log₁ regs₂ cells₂ log₂ : List ℕ) → t < n → m % 2 ≡ 1
        → OneTurn f n t regs cells log (Ok tt) regs₁ cells₁ log₁ → regs₂ ≡ regs₁ → cells₂ ≡ cells₁ → log₂ ≡ log₁
        → Turning f n s (t + 1) (m / 2) regs₂ cells₂ log₂
    go_in regs₁ cells₁ log₁ regs₂ cells₂ log₂ h o d er ec el =
        subst (λ z. Turning f n s (t + 1) (m / 2) z cells₂ log₂) (sym er)
        (subst (λ z. Turning f n s (t + 1) (m / 2) regs₁ z log₂) (sym ec)
        (subst (λ z. Turning f n s (t + 1) (m / 2) regs₁ cells₁ z) (sym el)
        (turn_in regs₁ cells₁ log₁ h o d)))

    pub go_out : (regs₂ cells₂ log₂ : List ℕ) → t < n → (m % 2 ≡ 1 → ⊥) → regs₂ ≡ regs → cells₂ ≡ cells → log₂ ≡ log
        → Turning f n s (t + 1) (m / 2) regs₂ cells₂ log₂
    go_out regs₂ cells₂ log₂ h o er ec el =
        subst (λ z. Turning f n s (t + 1) (m / 2) z cells₂ log₂) (sym er)
        (subst (λ z. Turning f n s (t + 1) (m / 2) regs z log₂) (sym ec)
        (subst (λ z. Turning f n s (t + 1) (m / 2) regs cells z) (sym el) (turn_out h o)))

-- The loop's state, for every state that the buffers stood for at its start.
abbrev pub Turns : (LockState → ℕ → Step) → (n mask : ℕ) → (regs₀ cells₀ log₀ : List ℕ) → (t m : ℕ) → (regs cells log : List ℕ) → Type 0
Turns f n mask regs₀ cells₀ log₀ t m regs cells log =
    (s : LockState) → mask ≡ mask_word s.enabled → length s.enabled ≡ n → Memory n s regs₀ cells₀ log₀ → Turning f n s t m regs cells log
