-- Lines that are made of items: what is known of what makes them, and the room that they take. Assumes nothing.
use Rattle.std.specs.Prelude.{◌≡◌, List, map, ℕ, ◌+◌, ◌≤◌, length}
use Rattle.std.specs.List.{All}
use Rattle.spec.specs.Report as report
use Rattle.spec.specs.Report.{bytes_of}
use Rattle.reportlines.specs.declared.Line.{Line}
use Rattle.reportlines.specs.Lines.{told}

abbrev pub HasShortKey : Line → Type 0
HasShortKey l = length l.key.now ≤ 20

-- Each line that is made of an item is what f gives of it.
abbrev pub Gives : {T : Type 0} → (T → Line → Type 0) → (T → report.Line) → Type 0
Gives {T} post f = (x : T) (l : Line) → post x l → told l ≡ f x

-- Each that is made of one of the items has a key of at most k bytes.
abbrev pub KeysWithin : {T : Type 0} → (T → Line → Type 0) → List T → ℕ → Type 0
KeysWithin {T} post items k = All (λ x. (l : Line) → post x l → length l.key.now ≤ k) items

-- From place `at` on, the buffer has room for them.
abbrev pub HasRoom : {T : Type 0} → (T → Line → Type 0) → List T → (at : ℕ) → (buffer : List ℕ) → Type 0
HasRoom {T} post items at buffer = (f : T → report.Line) × Gives post f × (at + length (bytes_of (map f items)) ≤ length buffer)
