-- The threads of all groups of a launch, moving in any order. Document 02, item 7. Assumes nothing.
use Rattle.std.specs.Prelude.{◌≡◌, List, [], ◌∷◌, Bool, true, false, cond, not, ◌&&◌, ℕ, eqb, leb, ltb, length, get_or, set, replicate}
use Rattle.spec.specs.Access.{Access, group_conflict}
use Rattle.spec.specs.Lists.{any_of, every}
use Rattle.spec.specs.Table.{Table}
use Rattle.spec.specs.Shape.{Sizes, shape_of, is_global}
use Rattle.spec.specs.Runs.{Machine}
use Rattle.spec.specs.LaunchRun.{own_cells}
use Rattle.spec.specs.Threads as own
use Rattle.spec.specs.Threads.{Thread, AccessRecord, empty_record, any_below, Group, initial_threads}

-- What a group has for itself: its threads, their accesses since its last release, and all since the launch.
pub record Part : Type 0 where
  pub threads : List Thread
  pub made : AccessRecord
  pub ever : AccessRecord

-- The parts of all groups, group 0 first, and the cells of the launch; `bad` once a run has ended badly.
pub record Groups : Type 0 where
  pub parts : List Part
  pub cells : List ℕ
  pub bad : Bool

unfoldable pub no_part : Part
no_part = record { threads = []; made = empty_record; ever = empty_record }

-- The group of this part has, anywhere in the launch, made an access that conflicts with a.
unfoldable pub has_met : Part → Access → Bool
has_met p a = any_below (length p.threads) (λ t. any_of (group_conflict a) (p.ever t))

-- An access by group g conflicts with one of another group. Own cells are out of other groups' reach.
unfoldable pub barred_to : Sizes → List Part → (g : ℕ) → Access → Bool
barred_to Z parts g a = is_global (shape_of Z g) a.cell && any_below (length parts) (λ h. not (eqb h g) && has_met (get_or parts h no_part) a)

-- Group g as its own machine has it; and the launch with group g as that leaves it.
abbrev pub view : Sizes → Groups → (g : ℕ) → Group
view Z S g =
    let part = get_or S.parts g no_part in
    record {
      threads = part.threads;
      cells = S.cells;
      made = part.made;
      ever = part.ever;
      barred = barred_to Z S.parts g;
      bad = S.bad;
    }

abbrev pub part_of : Group → Part
part_of v = record { threads = v.threads; made = v.made; ever = v.ever }

abbrev pub with_group : Groups → (g : ℕ) → Group → Groups
with_group S g v = record { parts = set S.parts g (part_of v); cells = v.cells; bad = v.bad }

-- A move is a move of one group: a thread's row, or the group's release.
pub data Move : Type 0 where
  of_group : (g : ℕ) → own.Move → Move

unfoldable pub next : Table → Sizes → Groups → Move → Groups
next T Z S (of_group g m) = with_group S g (own.next T (shape_of Z g) (view Z S g) m)

unfoldable pub possible : Table → Sizes → Groups → Move → Bool
possible T Z S (of_group g m) = ltb g Z.groups && own.possible T (shape_of Z g) (view Z S g) m

-- The run has come to its end: all threads of all groups are at the table's end, and it has not ended badly.
unfoldable pub part_at_end : Table → Part → Bool
part_at_end T p = every (λ th. leb (length T) th.row) p.threads

unfoldable pub at_end : Table → Groups → Bool
at_end T S = not S.bad && every (part_at_end T) S.parts

-- An observer for each group, who is shown the group's own cells just before each of its releases.
unfoldable pub shown : Sizes → (observer : ℕ) → Groups → Move → List (List ℕ)
shown Z w S (of_group g (own.row t)) = []
shown Z w S (of_group g own.release) = cond (eqb g w) (own_cells (shape_of Z g) S.cells ∷ []) []

abbrev pub machine : Table → Sizes → Machine
machine T Z =
    record {
      State = Groups;
      Move = Move;
      Observer = ℕ;
      Shown = List ℕ;
      Possible = λ S m. possible T Z S m ≡ true;
      next = next T Z;
      shows = shown Z;
      Ended = λ S. at_end T S ≡ true;
      Bad = λ S. S.bad ≡ true;
    }

-- At the start the cells are the launch's, and no thread has moved.
unfoldable pub initial_part : Table → Sizes → Part
initial_part T Z = record { threads = initial_threads T Z.threads; made = empty_record; ever = empty_record }

unfoldable pub initial_groups : Table → Sizes → (cells : List ℕ) → Groups
initial_groups T Z cells = record { parts = replicate Z.groups (initial_part T Z); cells = cells; bad = false }
