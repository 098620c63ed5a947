-- `banks::count` meets its contract. Assumes nothing.
use native.Mathlib.Omega.{arith}
use Rattle.banks.proofs.Stamps.{counted_old, counted_new}
use Rattle.banks.proofs.count.Goals as goal

pub returns-then-stamps-i : goal.returns-then-stamps-i
returns-then-stamps-i c = counted_old _ _ _ _ _ c.requires.0 c.requires.1 c.if-stamps-i.true

pub returns : goal.returns
returns c = counted_new _ _ _ _ _ c.requires.0 c.requires.1 _ c.if-stamps-i.false (omega arith)
