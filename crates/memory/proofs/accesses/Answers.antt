-- `memory::accesses` does the turns of the enabled threads, one after the other. Assumes nothing.
use mathlib.Core.Path.{◌≡◌, refl, sym, ap, ◌∙◌, subst, subst₂}
use Prim.Native.Nat.{ℕ, ◌+◌, ◌-◌, ◌/◌, ◌%◌, ◌^◌, ◌<◌}
use native.Mathlib.Omega.{arith}
use borrow.Author.Tests.{eqb-true, eqb-false}
use lib.ListN.{length}
use Rattle.spec.specs.Op.{OWN}
use Rattle.spec.specs.LockStep.{access_turn}
use Rattle.spec.specs.Limits.{common_from}
use Rattle.layout.specs.Ops.{number}
use Rattle.layout.specs.Memory.{KeptBut, shape_by}
use Rattle.layout.specs.Logging.{SameAbove}
use Rattle.layout.proofs.Reach.{same_below}
use Rattle.layout.proofs.Turning.{turn_start, turn_whole, go_in, go_out}
use Rattle.masks.proofs.Bits.{next_bit, left_half, left_odd, left_less}
use Rattle.access.proofs.Accesses.{turn_still, halted_turn, keeps_on}
use Rattle.std.proofs.lemmas.Bool.{not_from_false}
use Rattle.memory.proofs.accesses.Goals as goal
use Rattle.memory.proofs.accesses.Goals.{then-is_enabled+else-not-turn, else-is_enabled}

pub loop-thread-init : goal.loop-thread-init
loop-thread-init g c =
    let args = c.args in
    let ends = c.reaching-thread-end in
    let whole : args.n ≡ args.n - 0 = omega arith in
    let whole_end : ends.result ≡ ends.result - 0 = omega arith in
    record {
      left_few = subst (λ (k : ℕ). args.mask < 2 ^ k) whole_end ends.ensures.0;
      all = λ e. c.requires.0 e ∙ ap (λ (k : ℕ). 2 ^ k - 1) whole;
      cells_size = refl;
      log_size = refl;
      turns = λ y x o ed ea s e l M.
          turn_start (access_turn (shape_by args.n args.cells.now args.common.now) OWN y x) args.n s args.mask args.regs.now args.cells.now args.log.now e l M;
      bit_is = λ h. refl;
      regs_kept = λ i off. refl;
      log_same = λ j h. refl;
    }

pub is_enabled-requires : goal.is_enabled-requires
is_enabled-requires g c =
    let turn = c.loop-thread in
    λ e. ap (λ (z : ℕ). z % 2) (turn.invariant.all e) ∙ left_odd c.args.n turn.thread (omega (arith, c.loop-thread-test.true, c.reaching-thread-end.ensures.1))

pub returns-then-not-turn : goal.returns-then-not-turn
returns-then-not-turn g c =
    let number_of = c.accessed_cell-cell in
    let turn = c.loop-thread in
    let made = c.turn in
    let args = c.args in
    let memory = args.cells.now in
    let some_left : turn.thread < args.n = omega (arith, c.loop-thread-test.true, c.reaching-thread-end.ensures.1) in
    let enabled : turn.left % 2 ≡ 1 = eqb-true _ _ (sym c.is_enabled.ensures ∙ c.if-is_enabled.true) in
    let bit = turn.invariant.bit_is (omega (arith, some_left, c.requires.2.1.memory.few)) in (
      λ e. absurd (omega (arith, some_left, e)),
      λ e. halted_turn (number args.row.op) args.n _ args.row.d args.row.a args.common.now args.regs.now memory args.log.now _ turn.left
          turn.regs turn.cells turn.log made.result _ _ _ some_left enabled turn.invariant.cells_size bit number_of.ensures
          made.ensures (not_from_false _ c.if-not-turn.true) turn.invariant.turns,
      made.auto.cells ∙ turn.invariant.cells_size,
      made.auto.log ∙ turn.invariant.log_size,
      keeps_on args.row.d args.n turn.thread args.regs.now turn.regs made.new.regs some_left turn.invariant.regs_kept made.ensures.regs_kept,
      same_below turn.reach _ (length memory) (length turn.cells) args.log.now turn.log made.new.log turn.invariant.log_same turn.invariant.cells_size
          made.ensures.log_same,
    )

pub loop-thread-preserved : goal.loop-thread-preserved
loop-thread-preserved g c =
    let turn = c.loop-thread in
    let args = c.args in
    let memory = args.cells.now in
    let some_left : turn.thread < args.n = omega (arith, c.loop-thread-test.true, c.reaching-thread-end.ensures.1) in
    let fewer = left_half c.reaching-thread-end.result turn.thread turn.left c.loop-thread-test.true turn.invariant.left_few in
    elim c.if-is_enabled.branch [
      | then-is_enabled+else-not-turn w ↦ let made = w.turn in record {
        left_few = fewer;
        all = λ e. ap (λ (z : ℕ). z / 2) (turn.invariant.all e) ∙ left_less args.n turn.thread some_left;
        cells_size = ap length w.cells-is ∙ made.auto.cells ∙ turn.invariant.cells_size;
        log_size = ap length w.log-is ∙ made.auto.log ∙ turn.invariant.log_size;
        turns = λ y x o ed ea s e q M.
            go_in (access_turn (shape_by args.n memory args.common.now) OWN y x) args.n s turn.thread turn.left turn.regs turn.cells turn.log
            (turn.invariant.turns y x o ed ea s e q M) made.new.regs made.new.cells made.new.log _ _ _ some_left
            (eqb-true _ _ (sym c.is_enabled.ensures ∙ w.if-is_enabled.true))
            (turn_still args.n turn.thread y x args.common.now memory _ _ _ _ _ _ _ turn.invariant.cells_size
            (made.ensures.went w.if-not-turn.false args.n y x o some_left ed ea))
            w.regs-is w.cells-is w.log-is;
        bit_is = next_bit turn.thread turn.bit turn.invariant.bit_is;
        regs_kept = keeps_on args.row.d args.n turn.thread args.regs.now turn.regs c.if-is_enabled.regs some_left turn.invariant.regs_kept
            (subst (KeptBut args.row.d (turn.thread + 1) turn.regs) (sym w.regs-is) made.ensures.regs_kept);
        log_same = subst₂ (λ h l. SameAbove (h % common_from) (length memory) args.log.now l) (sym w.reach-is) (sym w.log-is)
            (same_below turn.reach _ (length memory) (length turn.cells) args.log.now turn.log made.new.log turn.invariant.log_same turn.invariant.cells_size
            made.ensures.log_same);
      }
      | else-is_enabled w ↦ record {
        left_few = fewer;
        all = λ e. ap (λ (z : ℕ). z / 2) (turn.invariant.all e) ∙ left_less args.n turn.thread some_left;
        cells_size = ap length w.cells-is ∙ turn.invariant.cells_size;
        log_size = ap length w.log-is ∙ turn.invariant.log_size;
        turns = λ y x o ed ea s e q M.
            go_out (access_turn (shape_by args.n memory args.common.now) OWN y x) args.n s turn.thread turn.left turn.regs turn.cells turn.log
            (turn.invariant.turns y x o ed ea s e q M) _ _ _ some_left (eqb-false _ _ (sym c.is_enabled.ensures ∙ w.if-is_enabled.false)) w.regs-is w.cells-is w.log-is;
        bit_is = next_bit turn.thread turn.bit turn.invariant.bit_is;
        regs_kept = subst (KeptBut args.row.d args.n args.regs.now) (sym w.regs-is) turn.invariant.regs_kept;
        log_same = subst₂ (λ h l. SameAbove (h % common_from) (length memory) args.log.now l) (sym w.reach-is) (sym w.log-is) turn.invariant.log_same;
      }
    ]

pub returns : goal.returns
returns g c =
    let turn = c.loop-thread in
    let args = c.args in
    let memory = args.cells.now in
    let over : c.reaching-thread-end.result - turn.thread ≡ 0 = omega (arith, c.loop-thread-test.false) in
    let one : 2 ^ (c.reaching-thread-end.result - turn.thread) ≡ 1 = ap (λ (k : ℕ). 2 ^ k) over in
    let none_left : turn.left ≡ 0 = omega (arith, one, turn.invariant.left_few) in (
      λ all y x o ed ea s e q M.
          turn_whole (access_turn (shape_by args.n memory args.common.now) OWN y x) args.n s turn.thread turn.left turn.regs turn.cells turn.log
          (turn.invariant.turns y x o ed ea s e q M) none_left,
      λ some. absurd (some refl),
      turn.invariant.cells_size,
      turn.invariant.log_size,
      turn.invariant.regs_kept,
      turn.invariant.log_same,
    )
