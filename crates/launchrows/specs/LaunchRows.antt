-- What the rows come to that only a group of a launch has. Assumes nothing.
use Rattle.std.specs.Prelude.{◌≡◌, List, ℕ, ◌-◌}
use Rattle.spec.specs.Op.{LAUNCHTID}
use Rattle.layout.specs.Memory.{Access}
use Rattle.std.specs.Prelude.{Ok, Err}
use Rattle.layout.specs.declared.State.{State}
use Rattle.layout.specs.Next.{Next}
use Rattle.layout.specs.Memory.{KeptBut, Puts, computed_lane}
use Rattle.layout.specs.Shared.{GlobalAll}
use Rattle.layout.specs.Represents.{accessed}

-- The launch numbers in the lanes of register d that a computing row stores to; all else is as it was.
abbrev pub Numbered : (n group mask d : ℕ) → (regs regs' : List ℕ) → Type 0
Numbered n group mask d regs regs' = Puts d (computed_lane LAUNCHTID group n mask d 0 0 regs) regs regs' 32

-- A row of the launch number in state s: the state after it, and the registers.
abbrev pub LaunchDone : (n group d : ℕ) → State → (regs : List ℕ) → Next → (regs' : List ℕ) → Type 0
LaunchDone n group d s regs r regs' = (r ≡ accessed s (Ok tt)) × Numbered n group s.mask d regs regs'

-- A row's accesses of global cells by op, in state s: what they come to, and the state after them.
abbrev pub GlobalDone : (op n group d a : ℕ) → State → (regs global shared masks : List ℕ) → Next → (regs' global' shared' masks' : List ℕ) → Type 0
GlobalDone op n group d a s regs global shared masks r regs' global' shared' masks' =
    (x : Access) × (r ≡ accessed s x) × GlobalAll (op - 4) n s.mask d a group regs global shared masks x regs' global' shared' masks' × KeptBut d n regs regs'
