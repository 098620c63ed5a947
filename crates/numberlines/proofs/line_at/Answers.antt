-- `numberlines::line_at` meets its contract: each line is the definition's. Assumes nothing.
use mathlib.Core.Path.{refl}
use mathlib.Core.List.{[], ◌∷◌}
use native.Mathlib.Omega.{arith}
use Rattle.spec.specs.Text.{text}
use Rattle.spec.specs.LaunchFile.{size_lines, length_lines}
use Rattle.spec.specs.declared.Refusal.TheVariants.{ThreadsOutOfRange, CellsOutOfRange, GroupsOutOfRange, TooManyCells, LimitOutOfRange, TooManyRows}
use Rattle.numberlines.specs.Answered.{all_lines}
use Rattle.numberlines.proofs.Tables.{Alike, alike_at}
use Rattle.numberlines.proofs.line_at.Goals as goal

pub returns : goal.returns
unfolding all_lines size_lines length_lines text Alike
returns c =
    alike_at all_lines
    (record { key = record { ref_ptr = _; now = text "threads" }; least = 1; greatest = 32; refusal = ThreadsOutOfRange 2 }
    ∷ record { key = record { ref_ptr = _; now = text "cells" }; least = 1; greatest = 1024; refusal = CellsOutOfRange 3 }
    ∷ record { key = record { ref_ptr = _; now = text "groups" }; least = 1; greatest = 8; refusal = GroupsOutOfRange 4 }
    ∷ record { key = record { ref_ptr = _; now = text "global" }; least = 0; greatest = 1024; refusal = TooManyCells 5 }
    ∷ record { key = record { ref_ptr = _; now = text "limit" }; least = 0; greatest = 1000000; refusal = LimitOutOfRange 6 }
    ∷ record { key = record { ref_ptr = _; now = text "rows" }; least = 0; greatest = 256; refusal = TooManyRows 7 }
    ∷ []) (
      record { key = refl; least = refl; greatest = refl; refusal = refl },
      (
        record { key = refl; least = refl; greatest = refl; refusal = refl },
        (
          record { key = refl; least = refl; greatest = refl; refusal = refl },
          (
            record { key = refl; least = refl; greatest = refl; refusal = refl },
            (
              record { key = refl; least = refl; greatest = refl; refusal = refl },
              (record { key = refl; least = refl; greatest = refl; refusal = refl }, tt),
            ),
          ),
        ),
      ),
    )
    c.args.at _ (omega (arith, c.requires))
