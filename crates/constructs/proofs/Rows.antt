-- The rows of constructs. Assumes nothing.
use mathlib.Core.Path.{◌≡◌, sym, ◌∙◌, ap, ap₂}
use mathlib.Core.List.{List, ◌∷◌}
use mathlib.Core.Bool.{Bool, true, false, cond}
use Prim.Native.Nat.{ℕ, suc, ◌+◌, ◌-◌, ◌<◌, ◌≤◌}
use native.Mathlib.Omega.{arith}
use native.Mathlib.Decide.{ℕ_discrete}
use borrow.Author.Tests.{eq-eqb, ne_eqb}
use lib.Bits.{bit_and}
use lib.ListN.{length, get_or, set, length-set}
use Rattle.spec.specs.Table.{Table, end_of}
use Rattle.spec.specs.Mask.{Mask, mask_word, any, holding, minus}
use Rattle.spec.specs.LockStep.{Saved, LockState, top_mask, pop, top_opener, saved_at_while, leave_or_stay, advance, count_steps, else_row, endif_row, endwhile_row}
use Rattle.spec.proofs.Laws.{minus_size, holding_size}
use Rattle.masks.proofs.Words.{any_none, any_some, word_minus}
use Rattle.layout.specs.Memory.{Memory, holding_word}
use Rattle.layout.specs.declared.State.{State}
use Rattle.layout.specs.Represents.{Saves, Represents, RoomForWhile, gone_on}
use Rattle.layout.specs.Constructs.{top_word, if_state, else_state, endif_state, endwhile_state, saved_after, openers_after, while_depth, while_state}
use Rattle.layout.proofs.PlainRows.{memory_advance}
use Rattle.layout.proofs.Saving.{saves_push, saves_anew, saves_top, top_size, saves_back, saves_pop, pop_length, anew_length, while_saves}
use Rattle.truth.proofs.Zeros.{holding_means}

memory_stepped : (n : ℕ) (m : Mask) (z : LockState) (regs cells log : List ℕ) → Memory n z regs cells log → Memory n (count_steps m z) regs cells log
unfolding count_steps
memory_stepped n m z regs cells log M =
    record { few = M.few; regs_are = M.regs_are; cells_are = M.cells_are; log_is = M.log_is }

-- IF and WHILE by the register that they test.
abbrev pub if_on : ℕ → LockState → LockState
if_on a s = advance (suc s.row) (holding a s.enabled s.regs) (record { opener = s.row; mask = s.enabled } ∷ s.saved) (count_steps s.enabled s)

abbrev pub while_on : ℕ → Table → LockState → LockState
while_on a T s = leave_or_stay T (count_steps s.enabled s) (saved_at_while s.row s.enabled s.saved) (holding a s.enabled s.regs)

-- A row that goes on at row r with the mask m and the saved masks v, after the threads of w have stepped.
module _ (n : ℕ) (z : LockState) (s : State) (regs cells log saved openers : List ℕ) (R : Represents n z s regs cells log saved openers) where
  pub goes_on_lem : (w : Mask) (r : ℕ) (m : Mask) (v : List Saved) (row mask depth : ℕ) (saved' openers' : List ℕ) → row ≡ r → mask ≡ mask_word m
      → length m ≡ n → depth ≡ length v → Saves n v saved' openers' → length saved' ≡ 8 → length openers' ≡ 8
      → Represents n (advance r m v (count_steps w z)) (gone_on s row mask depth) regs cells log saved' openers'
  unfolding advance count_steps
  goes_on_lem w r m v row mask depth saved' openers' er em lm ed S ls lo =
      record {
        memory = memory_advance n r m v (count_steps w z) regs cells log (memory_stepped n w z regs cells log R.memory);
        row_is_lem = er;
        enabled_is_lem = em;
        enabled_size = lm;
        depth_is = ed;
        saves = S;
        saved_size = ls;
        openers_size = lo;
        rows_is = omega (arith, R.rows_is);
        barriers_is = R.barriers_is;
        reach_is = R.reach_is;
      }

  next_row : s.row + 1 ≡ suc z.row
  next_row = omega (arith, R.row_is_lem)

  -- the words of those that hold
  held : (a : ℕ) → a < 16 → holding_word s.mask a regs ≡ mask_word (holding a z.enabled z.regs)
  held a l = holding_means a regs n z.regs R.memory.regs_are l s.mask z.enabled R.memory.few R.enabled_is_lem R.enabled_size

  pub if_done : (a : ℕ) → a < 16 → s.depth < 8
      → Represents n (if_on a z) (if_state a regs s) regs cells log (set saved s.depth s.mask) (set openers s.depth s.row)
  if_done a l l8 =
      goes_on_lem z.enabled (suc z.row) (holding a z.enabled z.regs) (record { opener = z.row; mask = z.enabled } ∷ z.saved) (s.row + 1)
      (holding_word s.mask a regs) (s.depth + 1) (set saved s.depth s.mask) (set openers s.depth s.row)
      next_row (held a l) (holding_size a z.enabled z.regs ∙ R.enabled_size) (omega (arith, R.depth_is))
      (saves_push n z.saved saved openers s.depth s.mask s.row z.row z.enabled R.saved_size R.openers_size R.depth_is l8
      R.enabled_is_lem R.enabled_size R.row_is_lem R.saves)
      (length-set saved s.depth s.mask ∙ R.saved_size) (length-set openers s.depth s.row ∙ R.openers_size)

  module _ (l : 0 < s.depth) where
    top_is : top_word s saved ≡ mask_word (top_mask z.saved)
    top_is = saves_top n z.saved saved openers s.depth R.depth_is l R.saves

    top_long : length (top_mask z.saved) ≡ n
    top_long = top_size n z.saved saved openers s.depth R.depth_is l R.saves

    pub else_done : s.depth ≤ 8 → Represents n (else_row z) (else_state saved s) regs cells log saved (set openers (s.depth - 1) s.row)
    unfolding else_row
    else_done l8 =
        goes_on_lem z.enabled (suc z.row) (minus (top_mask z.saved) z.enabled)
        (record { opener = z.row; mask = top_mask z.saved } ∷ pop z.saved) (s.row + 1) (bit_and (top_word s saved) (4294967295 - s.mask)) s.depth
        saved (set openers (s.depth - 1) s.row)
        next_row
        (ap₂ (λ x y. bit_and x (4294967295 - y)) top_is R.enabled_is_lem
        ∙ word_minus (top_mask z.saved) z.enabled 32 (omega (arith, top_long, R.memory.few)) (omega (arith, R.memory.few, R.enabled_size)))
        (minus_size (top_mask z.saved) z.enabled ∙ top_long) (anew_length z.saved s.depth z.row R.depth_is l)
        (saves_anew n z.saved saved openers s.depth s.row z.row R.openers_size R.depth_is l l8 R.row_is_lem R.saves)
        R.saved_size (length-set openers (s.depth - 1) s.row ∙ R.openers_size)

    pub endif_done : Represents n (endif_row z) (endif_state saved s) regs cells log saved openers
    unfolding endif_row
    endif_done =
        goes_on_lem (top_mask z.saved) (suc z.row) (top_mask z.saved) (pop z.saved) (s.row + 1) (top_word s saved) (s.depth - 1)
        saved openers next_row top_is top_long (pop_length n z.saved s.depth R.depth_is l)
        (saves_pop n z.saved saved openers R.saves) R.saved_size R.openers_size

    pub endwhile_done : Represents n (endwhile_row z) (endwhile_state openers s) regs cells log saved openers
    unfolding endwhile_row
    endwhile_done =
        goes_on_lem z.enabled (top_opener z.saved) z.enabled z.saved (top_word s openers) s.mask s.depth saved openers
        (saves_back n z.saved saved openers s.depth R.depth_is l R.saves) R.enabled_is_lem R.enabled_size R.depth_is
        R.saves R.saved_size R.openers_size

  -- WHILE, whose ENDWHILE is at row e
  module _ (T : Table) (a e : ℕ) (l : a < 16) (room : RoomForWhile s openers) (ee : e ≡ end_of T z.row) where
    abbrev masks : List Saved
    masks = saved_at_while z.row z.enabled z.saved

    abbrev holds : Mask
    holds = holding a z.enabled z.regs

    abbrev saved' : List ℕ
    saved' = saved_after 35 s saved openers

    abbrev openers' : List ℕ
    openers' = openers_after 35 s openers

    abbrev d : ℕ
    d = while_depth s openers

    there : (0 < d) × (d ≡ length masks) × Saves n masks saved' openers' × (length saved' ≡ 8) × (length openers' ≡ 8)
    there = while_saves s saved openers n z R.row_is_lem R.enabled_is_lem R.enabled_size R.depth_is R.saves R.saved_size R.openers_size room

    whiled_at : (b : Bool) → any holds ≡ b
        → while_on a T z ≡ cond b (advance (suc z.row) holds masks (count_steps z.enabled z))
        (advance (suc (end_of T z.row)) (top_mask masks) (pop masks) (count_steps z.enabled z))
    unfolding leave_or_stay count_steps
    whiled_at b q =
        ap (λ c. cond c (advance (suc z.row) holds masks (count_steps z.enabled z))
        (advance (suc (end_of T z.row)) (top_mask masks) (pop masks) (count_steps z.enabled z))) q

    pub while_done : Represents n (while_on a T z) (while_state a e regs s saved openers) regs cells log saved' openers'
    unfolding while_state
    while_done = by (ℕ_discrete (holding_word s.mask a regs) 0)
      where
        by : Dec (holding_word s.mask a regs ≡ 0) → Represents n (while_on a T z) (while_state a e regs s saved openers) regs cells log saved' openers'
        by (yes q) =
            rw (eq-eqb (holding_word s.mask a regs) 0 q, whiled_at false (any_none holds (sym (held a l) ∙ q)))
            (goes_on_lem z.enabled (suc (end_of T z.row)) (top_mask masks) (pop masks) (e + 1) (get_or saved' (d - 1) 0) (d - 1) saved' openers'
            (omega (arith, ee)) (saves_top n masks saved' openers' d there.1 there.0 there.2)
            (top_size n masks saved' openers' d there.1 there.0 there.2) (pop_length n masks d there.1 there.0)
            (saves_pop n masks saved' openers' there.2) there.3 there.4)
        by (no q) =
            rw (ne_eqb (holding_word s.mask a regs) 0 q, whiled_at true (any_some holds (λ f. q (held a l ∙ f))))
            (goes_on_lem z.enabled (suc z.row) holds masks (s.row + 1) (holding_word s.mask a regs) d saved' openers' next_row (held a l)
            (holding_size a z.enabled z.regs ∙ R.enabled_size) there.1 there.2 there.3 there.4)
