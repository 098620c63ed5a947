-- `banks::row_cost` meets its contract: a row is told by what is remembered, or counted. Assumes nothing.
use native.Mathlib.Omega.{arith}
use Rattle.banks.proofs.Memory.{costs_alone, costs_again, costs_part, costs_new, costs_there}
use Rattle.banks.proofs.row_cost.Goals as goal

pub returns-then-n-le1 : goal.returns-then-n-le1
returns-then-n-le1 c =
    let pre = c.requires in
    costs_alone _ _ _ _ _ _ pre.5 c.if-n-le1.true pre.4

pub returns-then-recalls : goal.returns-then-recalls
returns-then-recalls c =
    let pre = c.requires in
    let recalled = c.recalls.ensures c.if-recalls.true in
    costs_there c.args.regs.now c.args.r _ _ _ _ _ _ _ (omega arith) pre.2 (costs_again _ _ _ _ _ _ pre.5 _ pre.6 pre.2 pre.4 recalled.0 recalled.1 recalled.2)

pub returns-then-cost-ge32 : goal.returns-then-cost-ge32
returns-then-cost-ge32 c =
    let pre = c.requires in
    costs_there c.args.regs.now c.args.r _ _ _ _ _ _ _ (omega arith) pre.2 (costs_part _ _ _ _ _ _ pre.5 _ c.count_new-cost.ensures pre.2 c.if-cost-ge32.true)

pub returns : goal.returns
returns c =
    let pre = c.requires in
    costs_there c.args.regs.now c.args.r _ _ _ _ _ _ _ (omega arith) pre.2
    (costs_new _ _ _ _ _ _ pre.5 _ c.count_new-cost.ensures pre.2 _ _ c.if-cost-ge32.false c.remember.ensures)
