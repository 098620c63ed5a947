-- What a thread's turn at an access row comes to in lock step. Assumes nothing.
use mathlib.Core.Path.{◌≡◌, refl, sym, ◌∙◌, subst}
use mathlib.Core.Bool.{Bool, true, false, cond}
use Prim.Native.Nat.{ℕ, ◌<◌, ◌≤◌}
use lib.Dec.{leb}
use borrow.Author.Tests.{leb-true, leb-false}
use Rattle.spec.specs.declared.AccessKind.{AccessKind}
use Rattle.spec.specs.declared.Verdict.TheVariants.{Common, GroupRace, Outside, Race}
use Rattle.spec.specs.Access.{Kind}
use Rattle.spec.specs.GroupLog.{GroupLog, group_logged, group_race_kind}
use Rattle.spec.specs.LockStep.{LockState, Step, access_turn, continues, enter_group, made_access, past_turn, reg, rivals, set_reg, stops, try_access}
use Rattle.spec.specs.Log.{conflict_mask, race_kind}
use Rattle.spec.specs.Mask.{Mask, any, lowest}
use Rattle.spec.specs.Op.{Mem, Space, OWN, GLOBAL}
use Rattle.spec.specs.Shape.{Shape, Past, address, bound, changes, loads, nowhere, past}
use Rattle.spec.specs.Table.{Row, cell_byte, kind_of}

-- The group masks after an access, and a state with these.
unfoldable pub groups_after : Space → GroupLog → (i g : ℕ) → Kind → GroupLog
groups_after OWN H i g k = H
groups_after GLOBAL H i g k = group_logged H i g k

abbrev pub with_groups : LockState → GroupLog → LockState
with_groups s H =
    record {
      row = s.row;
      enabled = s.enabled;
      saved = s.saved;
      regs = s.regs;
      cells = s.cells;
      log = s.log;
      group_log = H;
      rows = s.rows;
      steps = s.steps;
      barriers = s.barriers;
    }

pub enter_is : (p : Space) (g i : ℕ) (k : Kind) (s : LockState) → enter_group p g i k s ≡ with_groups s (groups_after p s.group_log i g k)
unfolding enter_group groups_after
enter_is OWN g i k s = refl
enter_is GLOBAL g i k s = refl

module _ (L : Shape) (p : Space) (m : Mem) (x : Row) (s : LockState) (t : ℕ) where
  -- The cell's number in its space, where it stands, and what the access does there.
  abbrev pub number : ℕ
  number = reg s t (cell_byte m x)

  abbrev pub standing : ℕ
  standing = address L p (reg s t (cell_byte m x))

  abbrev pub kind : Kind
  kind = kind_of m (reg s t x.a)

  -- The other threads and the other groups that it conflicts with; and the state if there are none.
  abbrev pub others : Mask
  others = conflict_mask s.log standing t kind

  abbrev pub groups : Mask
  groups = rivals p s L.group standing kind

  abbrev pub entered : LockState
  entered = with_groups (made_access s t x.d standing kind) (groups_after p s.group_log standing L.group kind)

  -- It is outside, a load of a common cell or a store or an add there, a race with a thread of the group or with another group, or it is made.
  pub turn_cases : (F : Step → Type 0) → (bound L p ≤ number → past L p number kind ≡ nowhere → F (stops (Outside t number) s))
      → ((v : ℕ) → bound L p ≤ number → past L p number kind ≡ loads v → F (continues (set_reg s t x.d v)))
      → (bound L p ≤ number → past L p number kind ≡ changes → F (stops (Common t number) s))
      → ((o : ℕ) (y : AccessKind) → number < bound L p → any others ≡ true → F (stops (Race t o y number) s))
      → ((h : ℕ) (y : AccessKind) → number < bound L p → any others ≡ false → any groups ≡ true → F (stops (GroupRace t h y number) s))
      → (number < bound L p → any others ≡ false → any groups ≡ false → F (continues entered))
      → F (access_turn L p m x s t)
  unfolding access_turn try_access
  turn_cases F out take change race far made = by (leb (bound L p) number) refl (any others) refl (any groups) refl
    where
      same : with_groups (made_access s t x.d standing kind) (groups_after p (made_access s t x.d standing kind).group_log standing L.group kind) ≡ entered
      same = unfold made_access in refl

      by : (a : Bool) → leb (bound L p) number ≡ a → (b : Bool) → any others ≡ b → (c : Bool) → any groups ≡ c
          → F (cond a (past_turn s t x.d number (past L p number kind))
          (cond b (stops (Race t (lowest others) (race_kind s.log standing (lowest others) kind) number) s)
          (cond c (stops (GroupRace t (lowest groups) (group_race_kind s.group_log standing (lowest groups) kind) number) s)
          (continues (enter_group p L.group standing kind (made_access s t x.d standing kind))))))
      by true l b o c g = beyond (past L p number kind) refl
        where
          beyond : (y : Past) → past L p number kind ≡ y → F (past_turn s t x.d number y)
          beyond nowhere q = unfold past_turn in (out (leb-true (bound L p) number l) q)
          beyond (loads v) q = unfold past_turn in (take v (leb-true (bound L p) number l) q)
          beyond changes q = unfold past_turn in (change (leb-true (bound L p) number l) q)
      by false l true o c g = race _ _ (leb-false (bound L p) number l) o
      by false l false o true g = far _ _ (leb-false (bound L p) number l) o g
      by false l false o false g =
          subst (λ z. F (continues z)) (sym (enter_is p L.group standing kind (made_access s t x.d standing kind) ∙ same))
          (made (leb-false (bound L p) number l) o g)
