-- The bytes of the ops. Assumes nothing.
use Rattle.std.specs.Prelude.{ℕ}
use Rattle.layout.specs.declared.AccessOp.{AccessOp}
use Rattle.layout.specs.declared.AccessOp.TheVariants.{Load, Store, Add}
use Rattle.layout.specs.declared.ConstructOp.{ConstructOp}
use Rattle.layout.specs.declared.ConstructOp.TheVariants.{If, Else, EndIf, While, EndWhile}

-- The byte of an access row's op on own cells.
abbrev pub number : AccessOp → ℕ
number Load = 16
number Store = 17
number Add = 18

-- The byte of a construct's op.
abbrev pub construct_number : ConstructOp → ℕ
construct_number If = 32
construct_number Else = 33
construct_number EndIf = 34
construct_number While = 35
construct_number EndWhile = 36
