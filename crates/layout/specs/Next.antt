-- What a row comes to. Assumes nothing.
use Rattle.std.specs.Prelude.{Result, Ok, Err}
use Rattle.spec.specs.declared.Verdict.{Verdict}
use Rattle.layout.specs.declared.State.{State}
use Rattle.layout.specs.declared.Stopped.{Stopped}

abbrev pub Next : Type 0
Next = Result State Stopped

-- On in a state, or stopped in one with a verdict.
abbrev pub Go : State → Next
Go s = Ok s

abbrev pub Stop : State → Verdict → Next
Stop s v = Err (record { state = s; verdict = v })
