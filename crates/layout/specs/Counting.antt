-- The step counts, of which the code adds up later those made under an unchanged mask. Assumes nothing.
use Rattle.std.specs.Prelude.{◌≡◌, List, cond, ℕ, ◌+◌, ◌-◌, ◌*◌, ◌/◌, ◌%◌, ◌^◌, ◌<◌, ◌≤◌, eqb, length, get_or}
use Rattle.spec.specs.declared.Verdict.{Verdict}
use Rattle.spec.specs.declared.Verdict.TheVariants.{Passed, Race, GroupRace, Outside, Common, Diverged, Spent}
use Rattle.spec.specs.LockStep.{LockState}
use Rattle.layout.specs.declared.State.{State}
use Rattle.std.specs.Prelude.{Ok, Err}
use Rattle.layout.specs.Next.{Next}
use Rattle.layout.specs.Next as next
use Rattle.layout.specs.Represents.{with_since}

abbrev pub bit_of : (mask t : ℕ) → ℕ
bit_of mask t = mask / 2 ^ t % 2

-- The steps of thread t, where each thread of the mask has made k that are not in the counts yet.
abbrev pub steps_of : (mask k : ℕ) → (counts : List ℕ) → (t : ℕ) → ℕ
steps_of mask k counts t = get_or counts t 0 + bit_of mask t * k

-- No count outgrows a word when they are added; and they are added.
pub record Roomy (mask k : ℕ) (counts : List ℕ) : Type 0 where
  pub size : length counts ≡ 32
  pub each : (t : ℕ) → t < 32 → steps_of mask k counts t < 4294967296

pub record Added (mask k : ℕ) (counts counts' : List ℕ) : Type 0 where
  pub size : length counts' ≡ 32
  pub each : (t : ℕ) → t < 32 → get_or counts' t 0 ≡ steps_of mask k counts t

-- The state s after the row of a construct, come to under `mask`: ENDIF is a step of the threads that go on, the others of those that came.
unfoldable pub own_step : (op : ℕ) → ℕ
own_step op = cond (eqb op 34) 1 0

pub record Settled (op mask : ℕ) (s r : State) (counts counts' : List ℕ) : Type 0 where
  pub state_is : r ≡ with_since s r.since
  pub since_few : r.since ≤ s.since
  pub size : length counts' ≡ 32
  pub each : (t : ℕ) → t < 32 → steps_of r.mask r.since counts' t ≡ steps_of mask (s.since - own_step op) counts t + bit_of s.mask t * own_step op

-- The threads that step in a row: nobody at a BARRIER, those that go on at an ENDIF, else those that come to it.
unfoldable pub stepping : (op : ℕ) → (before after : State) → ℕ
stepping op s r = cond (eqb op 37) 0 (cond (eqb op 34) r.mask s.mask)

-- One more step under the same mask; none where the row stopped.
abbrev pub StepsOn : State → Next → Type 0
StepsOn s (Ok r) = (r.mask ≡ s.mask) × (r.since ≡ s.since + 1)
StepsOn s (Err x) = (x.state.mask ≡ s.mask) × (x.state.since ≡ s.since)

-- Each of them has one step more after it. A row that stops leaves the counting to the run.
pub record RowCounted (op : ℕ) (s r : State) (counts counts' : List ℕ) : Type 0 where
  pub size : length counts' ≡ 32
  pub each : (t : ℕ) → t < 32 → steps_of r.mask r.since counts' t ≡ steps_of s.mask s.since counts t + bit_of (stepping op s r) t

abbrev pub NextCounted : (op : ℕ) → State → Next → (counts counts' : List ℕ) → Type 0
NextCounted op s (Ok r) counts counts' = RowCounted op s r counts counts'
NextCounted op s (Err x) counts counts' = (x.state.mask ≡ s.mask) × (x.state.since ≡ s.since) × (counts' ≡ counts)

-- Those that have stepped in a row that stopped: the enabled threads below the one that stopped it; nobody at a BARRIER.
unfoldable pub acted_before : Verdict → (mask : ℕ) → ℕ
acted_before Passed mask = 0
acted_before (Race thread other kind at) mask = mask % 2 ^ thread
acted_before (GroupRace thread group kind at) mask = mask % 2 ^ thread
acted_before (Outside thread at) mask = mask % 2 ^ thread
acted_before (Common thread at) mask = mask % 2 ^ thread
acted_before (Diverged thread other) mask = 0
acted_before Spent mask = 0

-- The thread of a race or of an access outside is one of 32.
abbrev pub ThreadFits : Verdict → Type 0
ThreadFits Passed = Unit {0}
ThreadFits (Race thread other kind at) = thread < 32
ThreadFits (GroupRace thread group kind at) = thread < 32
ThreadFits (Outside thread at) = thread < 32
ThreadFits (Common thread at) = thread < 32
ThreadFits (Diverged thread other) = Unit {0}
ThreadFits Spent = Unit {0}

-- The code's mask, its uncounted steps and its counts stand for the definition's counts.
pub record Tally (z : LockState) (s : State) (counts : List ℕ) : Type 0 where
  pub size : length counts ≡ 32
  pub each : (t : ℕ) → t < 32 → steps_of s.mask s.since counts t ≡ get_or z.steps t 0
  pub few : (t : ℕ) → get_or z.steps t 0 ≤ s.rows
