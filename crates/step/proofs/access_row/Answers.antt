-- `step::access_row` meets its contract. Assumes nothing.
use mathlib.Core.Path.{◌∙◌, sym, ap, subst}
use lib.ListN.{length}
use Rattle.layout.proofs.PlainRows.{counts_accessed}
use Rattle.layout.specs.Memory.{shape_by, cell_in}
use Rattle.layout.specs.Logging.{EmptyAbove}
use Rattle.layout.specs.Represents.{reached}
use Rattle.layout.proofs.Reach.{empty_more, reach_more}
use Rattle.spec.specs.Op.{OWN, op_of}
use Rattle.step.proofs.Tables.{mem_op}
use Rattle.stepcounts.proofs.NextCounts.{accessed_on}
use Rattle.step.proofs.Plain.{access_after}
use Rattle.step.proofs.Recorded.{recorded_access, costs_in}
use Rattle.step.proofs.access_row.Goals as goal

pub returns : goal.returns
returns c =
    let after_access = c.after_access in
    let access-row = c.access_row-r in
    let row_cost_lem = c.row_cost-cost in
    let register = c.cell_register-numbers in
    let args = c.args in
    let cells = args.cells.now in
    let pre = c.requires.3 in
    let m = mem_op args.op pre.known pre.small in
    let state = reached args.s access-row.result.reach in (
      (
        counts_accessed args.s access-row.result.reach after_access.result access-row.result.access after_access.ensures.0,
        λ saved openers T x z q ed ea R.
            access_after args.kernel.now.threads z state args.regs.now cells args.log.now saved openers
            (reach_more args.kernel.now.threads z args.s access-row.result.reach args.regs.now cells args.log.now saved openers R) T x
            (shape_by args.kernel.now.threads cells args.kernel.now.common.now) OWN m.0
            access-row.result.access after_access.result access-row.new.regs access-row.new.cells
            access-row.new.log
            (q ∙ m.1) (access-row.ensures.0 m.0 x (ap op_of c.of.ensures ∙ m.1) ed ea z R.enabled_is_lem R.enabled_size R.memory)
            (subst (λ k. EmptyAbove state.reach k access-row.new.log) (sym access-row.auto.cells)
            (empty_more (length cells) args.log.now args.s.reach access-row.result.reach access-row.new.log R.reach_is access-row.ensures.2))
            after_access.ensures.0,
      ),
      access-row.ensures.1,
      accessed_on args.s access-row.result.reach access-row.result.access after_access.result after_access.ensures.0,
      recorded_access args.op args.kernel.now.threads args.group (cell_in args.op args.x.d args.x.a args.regs.now) args.s args.records.now _ _ access-row.result
          row_cost_lem.result after_access.result _ pre.known pre.small
          (costs_in _ _ _ _ _ _ _ _ _ _ _ register.ensures
          row_cost_lem.ensures) after_access.ensures.0 after_access.ensures.1,
    )
