-- `masks::below` meets its contract. Assumes nothing.
use lib.Bits.{and_mask}
use Rattle.masks.proofs.Bits.{one_bit}
use Rattle.masks.proofs.below.Goals as goal

pub returns : goal.returns
returns c = simp (one_bit c.args.t c.requires, and_mask c.args.m c.args.t)
