-- Whoever unfolds this unfolds what a launch's numbers and the lent lengths are refused for, test by test. Assumes nothing.
use Rattle.spec.specs.Answers.{first, or_else, unless}
use Rattle.spec.specs.Entries.{bare_numbers, bare_lent, file_lent}

unfoldable pub opened : Unit {0}
unfolding bare_numbers bare_lent file_lent first or_else unless
opened = tt
