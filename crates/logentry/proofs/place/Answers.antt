-- `logentry::place` meets its contract. Assumes nothing.
use native.Mathlib.Omega.{arith}
use Rattle.layout.specs.Logging.{mode_of, rank, place_of}
use Rattle.logentry.proofs.place.Goals as goal

pub returns-in-Load : goal.returns-in-Load
unfolding place_of rank mode_of
returns-in-Load c = rw c.in-Load.is (omega arith)

pub returns-in-Store : goal.returns-in-Store
unfolding place_of rank mode_of
returns-in-Store c = rw c.in-Store.is (omega arith)

pub returns-in-Add : goal.returns-in-Add
unfolding place_of rank mode_of
returns-in-Add c = rw c.in-Add.is (omega arith)
