-- `globals::turn` meets its contract: a thread that is enabled, and one that is not. Assumes nothing.
use mathlib.Core.Path.{refl}
use native.Mathlib.Omega.{arith}
use Rattle.globals.proofs.turn.Goals as goal

pub returns-then-left-eq0 : goal.returns-then-left-eq0
returns-then-left-eq0 c =
    record {
      enabled = λ e. absurd (omega (arith, e, c.if-left-eq0.true));
      disabled = λ f. (refl, refl, refl, refl, refl);
      regs_kept = λ i off. refl;
      log_same = λ j f. refl;
    }

pub returns : goal.returns
returns c =
    let one = c.access_one.ensures in
    let some = c.if-left-eq0.false in
    record {
      enabled = λ e. one.0;
      disabled = λ f. absurd (f (omega (arith, some)));
      regs_kept = one.1;
      log_same = one.2;
    }
