-- BARRIER. Assumes nothing.
use mathlib.Core.Path.{◌≡◌, refl, sym, ◌∙◌, ap, ap₂}
use mathlib.Core.List.{List, map}
use mathlib.Core.Bool.{Bool, true, false, cond, not, ◌&&◌, ◌||◌}
use Prim.Native.Nat.{ℕ, ◌+◌, ◌-◌, ◌*◌, ◌^◌, ◌<◌, ◌≤◌}
use native.Mathlib.Omega.{arith}
use native.Mathlib.Decide.{ℕ_discrete}
use borrow.Author.Tests.{eq-eqb, ne_eqb, le-leb, lt-ltb}
use lib.Dec.{eqb}
use lib.Bits.{bit_and}
use lib.Pow.{pow_mono}
use lib.Count.{count_trailing_zeros}
use lib.ListN.{length, replicate, length-replicate}
use Rattle.spec.specs.declared.Verdict.TheVariants.{Diverged}
use Rattle.spec.specs.Log.{cells_cleared}
use Rattle.spec.specs.Shape.{is_own, is_global, reaches}
use Rattle.spec.specs.Mask.{mask_word, any, full, lowest}
use Rattle.spec.specs.LockStep.{LockState, barrier_row, pass_barrier}
use Rattle.masks.proofs.Words.{any_none, any_some, word_minus, word_all, full_is, not_full, rest_any, rest_is, rest_size, lowest_is}
use Rattle.layout.specs.declared.State.{State}
use Rattle.layout.specs.Next as next
use Rattle.layout.proofs.LogBuffer.{cleared_is}
use Rattle.layout.proofs.Reach.{empty_cleared, zeros_empty}
use Rattle.layout.proofs.Turning.{kept_none}
use Rattle.layout.specs.Memory.{shape_by}
use Rattle.layout.specs.Represents.{Represents, After, Counts, moved_on}
use Rattle.layout.specs.Constructs.{passed_state, diverged_next, barrier_next, barrier_log}
use Rattle.layout.proofs.PlainRows.{moves_on}

module _ (n : ℕ) (z : LockState) (s : State) (regs cells log saved openers : List ℕ) (R : Represents n z s regs cells log saved openers) (common : List ℕ) where
  skips : s.mask ≡ 0 → After n (barrier_row (shape_by n cells common) z) (next.Go (moved_on s)) regs cells log saved openers
  unfolding barrier_row
  skips e =
      let no : any z.enabled ≡ false = any_none z.enabled (sym R.enabled_is_lem ∙ e) in
      rw no (moved_on s, refl, moves_on n z s regs cells log saved openers R z regs cells log (kept_none z) R.memory R.reach_is)

  some_on : (s.mask ≡ 0 → ⊥) → any z.enabled ≡ true
  some_on ne = any_some z.enabled (λ e. ne (R.enabled_is_lem ∙ e))

  -- the one group's threads can name every cell
  reached : (i : ℕ) → i < length z.cells → reaches (shape_by n cells common) i ≡ true
  unfolding reaches is_own
  reached i l =
      let size = ap length R.memory.cells_are in
      ap₂ (λ a b. a && b || is_global (shape_by n cells common) i) (le-leb (0 * length cells) i (omega arith)) (lt-ltb i (0 * length cells + length cells) (omega arith))

  abbrev walked : List ℕ
  walked = cells_cleared (length cells) (s.reach + 1) log

  passes : 1 ≤ n → s.mask ≡ 2 ^ n - 1 → After n (barrier_row (shape_by n cells common) z) (next.Go (passed_state s)) regs cells walked saved openers
  unfolding barrier_row pass_barrier
  passes o em =
      let two : 2 ^ 1 ≤ 2 ^ n = pow_mono {i = 1} {j = n} o in
      let yes-any = some_on (λ z. omega arith) in
      let all : full z.enabled ≡ true = full_is z.enabled (sym R.enabled_is_lem ∙ em ∙ ap (λ k. 2 ^ k - 1) (sym R.enabled_size)) in
      let M = R.memory in
      let whole = empty_cleared (length cells) log s.reach R.reach_is in
      rw (yes-any, all) (
        passed_state s,
        refl,
        record {
          memory = record {
            few = M.few;
            regs_are = M.regs_are;
            cells_are = M.cells_are;
            log_is = cleared_is n (length z.cells) z.log log M.log_is (reaches (shape_by n cells common)) reached walked whole;
          };
          row_is_lem = omega (arith, R.row_is_lem);
          enabled_is_lem = R.enabled_is_lem;
          enabled_size = R.enabled_size;
          depth_is = R.depth_is;
          saves = R.saves;
          saved_size = R.saved_size;
          openers_size = R.openers_size;
          rows_is = omega (arith, R.rows_is);
          barriers_is = omega (arith, R.barriers_is);
          reach_is = zeros_empty 0 (length cells) (length log) walked whole;
        },
      )

  diverges : (s.mask ≡ 0 → ⊥) → (s.mask ≡ 2 ^ n - 1 → ⊥) → After n (barrier_row (shape_by n cells common) z) (diverged_next n s) regs cells log saved openers
  unfolding barrier_row
  diverges ne nm =
      let yes-any = some_on ne in
      let part : full z.enabled ≡ false = not_full z.enabled (λ e. nm (R.enabled_is_lem ∙ e ∙ ap (λ k. 2 ^ k - 1) R.enabled_size)) in
      let few : length z.enabled ≤ 32 = omega (arith, R.enabled_size, R.memory.few) in
      let others : bit_and (2 ^ n - 1) (4294967295 - s.mask) ≡ mask_word (map not z.enabled) =
      ap₂ (λ x y. bit_and x (4294967295 - y)) (ap (λ k. 2 ^ k - 1) (sym R.enabled_size) ∙ sym (word_all (length z.enabled))) R.enabled_is_lem
      ∙ word_minus (replicate (length z.enabled) true) z.enabled 32 (omega (arith, length-replicate (length z.enabled) true)) few
      ∙ ap mask_word (rest_is z.enabled) in
      let first : count_trailing_zeros 32 s.mask ≡ lowest z.enabled = ap (count_trailing_zeros 32) R.enabled_is_lem ∙ lowest_is z.enabled 32 few yes-any in
      let other : count_trailing_zeros 32 (bit_and (2 ^ n - 1) (4294967295 - s.mask)) ≡ lowest (map not z.enabled) = ap (count_trailing_zeros 32) others
      ∙ lowest_is (map not z.enabled) 32 (omega (arith, rest_size z.enabled)) (rest_any z.enabled part) in
      rw (yes-any, part) (s, ap₂ (λ x y. next.Stop s (Diverged x y)) first other, R)

  pub barrier_means : 1 ≤ n → After n (barrier_row (shape_by n cells common) z) (barrier_next n s) regs cells (barrier_log n s (length cells) log) saved openers
  unfolding barrier_next barrier_log
  barrier_means o = by (ℕ_discrete s.mask (2 ^ n - 1)) (ℕ_discrete s.mask 0)
    where
      by : Dec (s.mask ≡ 2 ^ n - 1) → Dec (s.mask ≡ 0) → After n (barrier_row (shape_by n cells common) z) (barrier_next n s) regs cells (barrier_log n s (length cells) log) saved openers
      by (yes e) d = rw (eq-eqb s.mask (2 ^ n - 1) e) (passes o e)
      by (no f) (yes e) = rw (ne_eqb s.mask (2 ^ n - 1) f, eq-eqb s.mask 0 e) (skips e)
      by (no f) (no g) = rw (ne_eqb s.mask (2 ^ n - 1) f, ne_eqb s.mask 0 g) (diverges g f)

pub barrier_counts : (n : ℕ) (s : State) → Counts s (barrier_next n s)
unfolding barrier_next
barrier_counts n s = by (eqb s.mask (2 ^ n - 1)) (eqb s.mask 0)
  where
    by : (a b : Bool) → Counts s (cond a (next.Go (passed_state s)) (cond b (next.Go (moved_on s)) (diverged_next n s)))
    by true b = record { rows_one = refl; since_one = omega arith; barriers_one = omega arith }
    by false true = record { rows_one = refl; since_one = omega arith; barriers_one = omega arith }
    by false false = refl
