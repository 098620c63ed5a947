-- Rows whose threads take their turns: the state after them. Assumes nothing.
use mathlib.Core.Path.{◌≡◌, refl, sym, ◌∙◌, ap, subst}
use mathlib.Core.List.{List}
use Prim.Native.Nat.{ℕ, suc, ◌+◌, ◌≤◌}
use native.Mathlib.Omega.{arith}
use lib.ListN.{length}
use Rattle.spec.specs.Mask.{Mask, mask_word, members}
use Rattle.spec.specs.LockStep.{Saved, LockState, Step, continues, stops, and_then, in_turn, advance, for_enabled}
use Rattle.layout.specs.Memory.{Access}
use Rattle.std.specs.Prelude.{Ok, Err}
use Rattle.layout.specs.declared.State.{State}
use Rattle.layout.specs.Next.{Next}
use Rattle.layout.specs.Memory.{Memory, Kept, Did}
use Rattle.layout.specs.Logging.{EmptyAbove}
use Rattle.layout.specs.Represents.{Saves, Represents, After, Counted, Counts, gone_on, moved_on, with_since, reached, accessed}

pub counted_gone : (s : State) (row mask depth : ℕ) → Counted s (gone_on s row mask depth)
counted_gone s row mask depth = record { rows_one = refl; since_one = omega arith; barriers_one = omega arith }

pub counted_moved : (s r : State) → r ≡ moved_on s → Counted s r
counted_moved s r e = subst (Counted s) (sym e) (counted_gone s (s.row + 1) s.mask s.depth)

pub counted_settled : (s z r : State) → Counted s z → r ≡ with_since z r.since → r.since ≤ z.since → Counted s r
counted_settled s z r C e h =
    record {
      rows_one = ap (λ x. x.rows) e ∙ C.rows_one;
      since_one = omega (arith, C.since_one);
      barriers_one = subst (λ b. b ≤ s.barriers + 1) (sym (ap (λ x. x.barriers) e)) C.barriers_one;
    }

pub counts_accessed : (s : State) (g : ℕ) (r : Next) (a : Access) → r ≡ accessed (reached s g) a → Counts s r
counts_accessed s g r (Ok tt) e = subst (Counts s) (sym e) (record { rows_one = refl; since_one = omega arith; barriers_one = omega arith })
counts_accessed s g r (Err v) e = subst (Counts s) (sym e) refl

pub memory_advance : (n r : ℕ) (m : Mask) (v : List Saved) (z : LockState) (regs cells log : List ℕ) → Memory n z regs cells log
    → Memory n (advance r m v z) regs cells log
unfolding advance
memory_advance n r m v z regs cells log M = record { few = M.few; regs_are = M.regs_are; cells_are = M.cells_are; log_is = M.log_is }

module _ (n : ℕ) (z : LockState) (s : State) (regs cells log saved openers : List ℕ) (R : Represents n z s regs cells log saved openers) where
  -- after the threads of a plain row
  pub moves_on : (y : LockState) (regs' cells' log' : List ℕ) → Kept z y → Memory n y regs' cells' log'
      → EmptyAbove s.reach (length cells') log'
      → Represents n (advance (suc y.row) y.enabled y.saved y) (moved_on s) regs' cells' log' saved openers
  unfolding advance
  moves_on y regs' cells' log' K M E =
      record {
        memory = memory_advance n (suc y.row) y.enabled y.saved y regs' cells' log' M;
        row_is_lem = omega (arith, R.row_is_lem, K.row_same_lem);
        enabled_is_lem = R.enabled_is_lem ∙ ap mask_word (sym K.enabled_same);
        enabled_size = ap length K.enabled_same ∙ R.enabled_size;
        depth_is = R.depth_is ∙ ap length (sym K.saved_same_lem);
        saves = subst (λ v. Saves n v saved openers) (sym K.saved_same_lem) R.saves;
        saved_size = R.saved_size;
        openers_size = R.openers_size;
        rows_is = omega (arith, R.rows_is, K.rows_same);
        barriers_is = R.barriers_is ∙ sym K.barriers_same_lem;
        reach_is = E;
      }

  pub stands : (y : LockState) (regs' cells' log' : List ℕ) → Kept z y → Memory n y regs' cells' log'
      → EmptyAbove s.reach (length cells') log'
      → Represents n y s regs' cells' log' saved openers
  stands y regs' cells' log' K M E =
      record {
        memory = M;
        row_is_lem = R.row_is_lem ∙ sym K.row_same_lem;
        enabled_is_lem = R.enabled_is_lem ∙ ap mask_word (sym K.enabled_same);
        enabled_size = ap length K.enabled_same ∙ R.enabled_size;
        depth_is = R.depth_is ∙ ap length (sym K.saved_same_lem);
        saves = subst (λ v. Saves n v saved openers) (sym K.saved_same_lem) R.saves;
        saved_size = R.saved_size;
        openers_size = R.openers_size;
        rows_is = R.rows_is ∙ sym K.rows_same;
        barriers_is = R.barriers_is ∙ sym K.barriers_same_lem;
        reach_is = E;
      }

  pub plain_after : (f : LockState → ℕ → Step) (a : Access) (r : Next) (regs' cells' log' : List ℕ)
      → Did n z (in_turn f (members z.enabled) z) a regs' cells' log' → EmptyAbove s.reach (length cells') log' → r ≡ accessed s a
      → After n (for_enabled f z) r regs' cells' log' saved openers
  unfolding for_enabled
  plain_after f a r regs' cells' log' D E e = by (in_turn f (members z.enabled) z) D
    where
      by : (x : Step) → Did n z x a regs' cells' log'
          → After n (and_then x (λ y. continues (advance (suc y.row) y.enabled y.saved y))) r regs' cells' log' saved openers
      by (continues y) D = unfold and_then in (moved_on s, e ∙ ap (λ b. accessed s b) D.answer, moves_on y regs' cells' log' D.kept D.memory E)
      by (stops v y) D = unfold and_then in (s, e ∙ ap (λ b. accessed s b) D.answer, stands y regs' cells' log' D.kept D.memory E)

  -- How far up the log was written may be said less exactly, and the steps that are not counted yet are no part of what stands.
  pub stands_alike : (h k : ℕ) → EmptyAbove h (length cells) log
      → Represents n z (record { reach = h; row = s.row; mask = s.mask; depth = s.depth; rows = s.rows; since = k; barriers = s.barriers })
      regs cells log saved openers
  stands_alike h k E =
      record {
        memory = R.memory;
        row_is_lem = R.row_is_lem;
        enabled_is_lem = R.enabled_is_lem;
        enabled_size = R.enabled_size;
        depth_is = R.depth_is;
        saves = R.saves;
        saved_size = R.saved_size;
        openers_size = R.openers_size;
        rows_is = R.rows_is;
        barriers_is = R.barriers_is;
        reach_is = E;
      }
