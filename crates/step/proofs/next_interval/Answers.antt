-- `step::next_interval` meets its contract. Assumes nothing.
use mathlib.Core.Path.{refl, sym, ap, ◌∙◌}
use mathlib.Core.Bool.{cond}
use borrow.Author.Tests.{lt-ltb, le-ltb}
use lib.ListN.{length, replicate}
use Rattle.intervals.specs.Records.{records_after}
use Rattle.intervals.proofs.Ledger.{charged_none}
use Rattle.step.proofs.next_interval.Goals as goal

pub returns-then-s-z : goal.returns-then-s-z
unfolding records_after
returns-then-s-z c =
    let clear = c.clear in
    let release = c.release in
    let passed = c.if-s-z.true in
    let args = c.args in
    let shared = args.shared.now in
    let test = lt-ltb args.s.barriers args.z.barriers passed in
    (rw test release.ensures, clear.ensures ∙ sym (ap (λ b. cond b (replicate (length shared) 0) shared) test))

pub returns-else-s-z : goal.returns-else-s-z
unfolding records_after
returns-else-s-z c =
    let left = c.if-s-z.false in
    let shared = c.args.shared.now in
    (rw (le-ltb _ _ left) (sym (charged_none _ 0 _ refl)), sym (ap (λ b. cond b (replicate (length shared) 0) shared) (le-ltb _ _ left)))
