-- `constructs::enter_while` meets its contract. Assumes nothing.
use mathlib.Core.Path.{◌≡◌}
use Prim.Native.Nat.{◌<◌, ◌-◌}
use native.Mathlib.Omega.{arith}
use lib.ListN.{get_or}
use Rattle.layout.proofs.Saving.{enter_old, enter_new, atmost, room_new}
use Rattle.constructs.proofs.enter_while.Goals as goal
use Rattle.constructs.proofs.enter_while.Goals.{else-depth-gt0-via-then-depth-gt0+else-opened-depth, else-depth-gt0-via-else-depth-gt0}

pub returns-then-opened-depth : goal.returns-then-opened-depth
returns-then-opened-depth c =
    let args = c.args in
    let openers = args.opened.now.rows in
    enter_old args.s args.opened.now.masks openers c.if-depth-gt0.true (atmost args.s openers c.requires) c.if-opened-depth.true

pub returns : goal.returns
returns c =
    let args = c.args in
    let openers = args.opened.now.rows in
    let apart : 0 < args.s.depth → get_or openers (args.s.depth - 1) 0 ≡ args.s.row → ⊥ = λ h e. elim c.else-depth-gt0.branch [
      | else-depth-gt0-via-then-depth-gt0+else-opened-depth w ↦ w.if-opened-depth.false e
      | else-depth-gt0-via-else-depth-gt0 w ↦ omega (arith, w.if-depth-gt0.false)
    ] in
    enter_new args.s args.opened.now.masks openers (room_new args.s openers c.requires apart) apart
