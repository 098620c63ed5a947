-- What the reader answers is what the definition makes of the file. Assumes nothing.
use denote.Ref.{Bor}
use Rattle.std.specs.Prelude.{◌≡◌, Result, Ok, Err, IfOk, List, ℕ, ◌≤◌, length, take}
use Rattle.spec.specs.declared.Refusal.{Refusal}
use Rattle.spec.specs.Limits.{max_common}
use Rattle.spec.specs.LaunchFile.{Checked, refused, accepted}
use Rattle.spec.specs.PairFiles.{common_cells}
use Rattle.commonfile.specs.declared.CommonFile.{CommonFile}

-- A refusal, or the cells that were read.
abbrev pub answer_of : Result (Bor (List ℕ)) Refusal → Checked (List ℕ)
answer_of (Err why) = refused why
answer_of (Ok cells) = accepted cells.now

abbrev pub cells_in : Result CommonFile Refusal → Checked (List ℕ)
cells_in (Err why) = refused why
cells_in (Ok found) = accepted (take found.count found.words)

pub record CommonRead (file : List ℕ) (r : Result CommonFile Refusal) : Type 0 where
  pub cells : common_cells file ≡ cells_in r
  pub few : IfOk r (λ found. found.count ≤ max_common)
  pub long : IfOk r (λ found. length found.words ≡ max_common)
