-- A buffer with w written from a place on; what stands before and behind keeps its value. Assumes nothing.
use Rattle.std.specs.Prelude.{List, ◌++◌, ℕ, take}
use Rattle.spec.specs.Entries.{over}

unfoldable pub over_from : ℕ → List ℕ → List ℕ → List ℕ
over_from at w buffer = over (take at buffer ++ w) buffer
