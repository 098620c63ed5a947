-- The two subjects of a report, and the room that every report fits in. Assumes nothing.
use Rattle.std.specs.Prelude.{◌≡◌, List, ℕ, ◌≤◌, length}
use Rattle.std.proofs.Math.Option.{none}
use Rattle.spec.specs.declared.Outcome.{Outcome}
use Rattle.spec.specs.declared.Subject.{Subject}
use Rattle.spec.specs.declared.Subject.TheVariants as subject
use Rattle.spec.specs.Limits.{file_output}
use Rattle.spec.specs.Report.{report_of}
use Rattle.spec.specs.Entries.{lines_reported}

abbrev pub ran : Outcome → Subject
ran = subject.Ran

abbrev pub refused : ℕ → ℕ → Subject
refused = subject.Refused

-- A report that is not turned back by 23 fits into the output that the whole-file entry asks for.
abbrev pub FitsOutput : Subject → (steps cells global : List ℕ) → Type 0
FitsOutput what steps cells global = lines_reported what steps cells global ≡ none → length (report_of what steps cells global) ≤ file_output
