-- `filelaunch::file_launch` meets its contract. Assumes nothing.
use Rattle.std.proofs.lemmas.Result.{err_from_is_err_and}
use Rattle.filelaunch.proofs.Whole.{table_turned_back, checked_is, lines_turned_back}
use Rattle.filelaunch.proofs.file_launch.Goals as goal

pub returns-in_err-read_launch : goal.returns-in_err-read_launch
returns-in_err-read_launch c =
    let p = err_from_is_err_and c.from_residual.result c.from_residual.ensures.1 in
    rw (p.1, p.2) (lines_turned_back _ _ c.in_err-read_launch.ensures)

pub returns-in_err-found : goal.returns-in_err-found
returns-in_err-found c =
    let p = err_from_is_err_and c.from_residual-in_err-found.result c.from_residual-in_err-found.ensures.1 in
    rw (p.1, p.2) (table_turned_back _ _ c.in_ok-read_launch.ensures _ (rw c.table_bytes.ensures at c.in_err-found.ensures.answer))

pub returns : goal.returns
returns c =
    checked_is _ _ c.in_ok-read_launch.ensures _ (rw c.table_bytes.ensures at c.in_ok-found.ensures.answer) (rw c.table_bytes.ensures at c.in_ok-found.ensures.ends)
