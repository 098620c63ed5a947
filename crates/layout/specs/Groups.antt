-- How the code's state and buffers stand for a launch's state while one of its groups runs: the group's own cells as those of a group alone, and the global
-- ones beside them. Assumes nothing.
use Rattle.std.specs.Prelude.{◌≡◌, List, cond, ℕ, ltb, length, replicate}
use Rattle.spec.specs.Shape.{Shape}
use Rattle.spec.specs.LockStep.{LockState, Step, continues, stops}
use Rattle.layout.specs.declared.State.{State}
use Rattle.std.specs.Prelude.{Ok, Err}
use Rattle.layout.specs.Next.{Next}
use Rattle.layout.specs.Next as next
use Rattle.layout.specs.Represents.{Represents}
use Rattle.layout.specs.Views.{view_of, own_from}
use Rattle.layout.specs.Shared.{GlobalMemory}

-- `cells` and `log` are the group's own, `global`, `shared` and `masks` the cells, the log and the group masks of the global ones.
pub record GroupStands (L : Shape) (z : LockState) (s : State) (regs cells log saved openers global shared masks : List ℕ) : Type 0 where
  pub own : Represents L.threads (view_of (own_from L) L.cells z) s regs cells log saved openers
  pub globals : GlobalMemory L z regs global shared masks

-- What a row comes to in the code is what it comes to by the definition.
abbrev pub GroupAfter : Shape → Step → Next → (regs cells log saved openers global shared masks : List ℕ) → Type 0
GroupAfter L (continues z) r regs cells log saved openers global shared masks =
    (s : State) × (r ≡ next.Go s) × GroupStands L z s regs cells log saved openers global shared masks
GroupAfter L (stops v z) r regs cells log saved openers global shared masks =
    (s : State) × (r ≡ next.Stop s v) × GroupStands L z s regs cells log saved openers global shared masks

-- The global log after a row that is come to in state s: where a BARRIER is passed, it is cleared.
abbrev pub SharedAfter : State → Next → (shared shared' : List ℕ) → Type 0
SharedAfter s (Ok r) shared shared' = shared' ≡ cond (ltb s.barriers r.barriers) (replicate (length shared) 0) shared
SharedAfter s (Err x) shared shared' = shared' ≡ shared

-- By the row's op: only a BARRIER touches it.
abbrev pub SharedLeft : (op : ℕ) → State → Next → (shared shared' : List ℕ) → Type 0
SharedLeft op s r shared shared' = (op ≡ 37 → SharedAfter s r shared shared') × ((op ≡ 37 → ⊥) → shared' ≡ shared)
