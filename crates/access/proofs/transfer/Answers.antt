-- `access::transfer` meets its contract. Assumes nothing.
use mathlib.Core.Path.{refl, sym, ◌∙◌, ap}
use native.Mathlib.Omega.{arith}
use lib.ListN.{set}
use Rattle.layout.specs.Ops.{number}
use Rattle.access.proofs.Accesses.{cell_by_store, cell_by_add}
use Rattle.access.proofs.transfer.Goals as goal

pub returns-in-Load : goal.returns-in-Load
returns-in-Load c =
    let is = ap number c.in-Load.is in
    record { load_regs = λ e. refl; load_cells = λ e. refl; other_regs = λ n. absurd (n is); other_cells = λ n. absurd (n is) }

pub returns-in-Store : goal.returns-in-Store
returns-in-Store c =
    let is = ap number c.in-Store.is in
    record {
      load_regs = λ e. absurd (omega (arith, e, is));
      load_cells = λ e. absurd (omega (arith, e, is));
      other_regs = λ n. refl;
      other_cells = λ n. ap (set c.args.cells.now c.args.i) (sym (cell_by_store _ _ _ is));
    }

pub returns-in-Add : goal.returns-in-Add
returns-in-Add c =
    let is = ap number c.in-Add.is in
    record {
      load_regs = λ e. absurd (omega (arith, e, is));
      load_cells = λ e. absurd (omega (arith, e, is));
      other_regs = λ n. refl;
      other_cells = λ n. ap (set c.args.cells.now c.args.i) (c.add.ensures ∙ sym (cell_by_add _ _ _ (λ e. omega (arith, e, is))));
    }
