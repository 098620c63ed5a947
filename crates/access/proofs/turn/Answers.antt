-- `access::turn` meets its contract: among the cells, a load of a common one, or neither. Assumes nothing.
use mathlib.Core.Path.{refl, sym, ◌∙◌, subst}
use mathlib.Core.Bool.{true≢false, false≢true}
use Prim.Native.Nat.{ℕ, ◌+◌, ◌*◌, ◌<◌}
use native.Mathlib.Nat.{mod-eq_of_lt}
use native.Mathlib.Omega.{arith}
use lib.ListN.{length, get_or}
use Rattle.spec.specs.Limits.{common_from}
use Rattle.layout.specs.Ops.{number}
use Rattle.layout.specs.Logging.{SameBut}
use Rattle.std.specs.Prelude.{Ok}
use Rattle.layout.specs.Memory.{AccessAsks, AccessOne, CellNumber}
use Rattle.access.proofs.Accesses.{goes_alone, takes_means}
use Rattle.access.proofs.turn.Goals as goal

pub make-requires : goal.make-requires
make-requires c =
    let pre = c.requires in
    (pre.0, pre.1, pre.2, pre.3, sym c.goes_on.ensures ∙ c.if-goes_on.true)

pub returns-then-goes_on : goal.returns-then-goes_on
returns-then-goes_on c =
    let make = c.make in
    let args = c.args in
    let asks = c.requires.1 in
    let inside = (goes_alone (number args.row.op) (get_or args.regs.now (args.row.a * 32 + args.turn.thread) 0) args.turn.bit args.turn.cell args.cells.now args.log.now
    (sym c.goes_on.ensures ∙ c.if-goes_on.true)).0 in
    let small : args.turn.cell < common_from = omega (arith, inside, asks.cells_few) in
    record {
      went = λ e. make.ensures.0 c.args.common.now;
      regs_kept = make.ensures.1;
      log_same = subst (λ (i : ℕ). SameBut i (length args.cells.now) args.log.now make.new.log) (sym (mod-eq_of_lt small)) make.ensures.2;
      cells_size = make.auto.cells;
      log_size = make.auto.log;
      stays = λ e. absurd (true≢false e);
    }

pub take-requires : goal.take-requires
take-requires c =
    let args = c.args in
    let pre = c.requires in
    let is = takes_means (number args.row.op) args.turn.cell args.common.now (sym c.takes.ensures ∙ c.if-takes.true) in (
      pre.0,
      subst (λ (o : ℕ). AccessAsks o args.row.d args.row.a args.cells.now args.log.now) is.0 pre.1,
      subst (λ (o : ℕ). CellNumber o args.row.d args.row.a args.turn.thread args.regs.now args.turn.cell) is.0 pre.3,
      is.1,
    )

pub returns-then-takes : goal.returns-then-takes
returns-then-takes c =
    let args = c.args in
    let take = c.take in
    let is = takes_means (number args.row.op) args.turn.cell args.common.now (sym c.takes.ensures ∙ c.if-takes.true) in
    record {
      went = λ e. subst (λ (o : ℕ). AccessOne o args.turn.thread args.row.d args.row.a args.common.now args.regs.now args.cells.now args.log.now (Ok tt)
          take.new.regs args.cells.now args.log.now) (sym is.0) take.ensures.0;
      regs_kept = take.ensures.1;
      log_same = λ j f. refl;
      cells_size = refl;
      log_size = refl;
      stays = λ e. absurd (true≢false e);
    }

pub returns : goal.returns
returns c =
    record {
      went = λ e. absurd (false≢true e);
      regs_kept = λ i off. refl;
      log_same = λ j f. refl;
      cells_size = refl;
      log_size = refl;
      stays = λ e. (refl, refl, refl, sym c.goes_on.ensures ∙ c.if-goes_on.false, sym c.takes.ensures ∙ c.if-takes.false);
    }
