-- The lock-step run of a launch: group 0 to its end, then group 1 and so on, under one limit. Document 02, item 7. Assumes nothing.
use Rattle.std.specs.Prelude.{List, [], ◌∷◌, ◌++◌, map, true, cond, ℕ, zero, suc, ◌-◌, ◌*◌, length, replicate, take, drop}
use Rattle.spec.specs.Limits.{registers}
use Rattle.spec.specs.Answers.{is_passed}
use Rattle.spec.specs.Lists.{joined, last_of}
use Rattle.spec.specs.Table.{Table}
use Rattle.spec.specs.Shape.{Sizes, Shape, shape_of, is_global}
use Rattle.spec.specs.Log.{cleared}
use Rattle.spec.specs.LockStep.{LockState, initial_state, LockResult, run_from, counted_from}

-- A group's run: its shape, and the state that it starts from.
pub record GroupRun : Type 0 where
  pub shape : Shape
  pub start : LockState

-- How it ends. The limit is one for all groups, and so is the count of rows.
unfoldable pub rows_left : (limit : ℕ) → GroupRun → ℕ
rows_left limit u = limit - u.start.rows

unfoldable pub group_result : Table → (limit : ℕ) → GroupRun → LockResult
group_result T limit u = run_from T u.shape (rows_left limit u) u.start

-- The next group starts where the one before has ended: at row 0, all its threads enabled, their registers zero. The log of the global cells is cleared,
-- but for the group masks; cells, rows and barriers go on.
unfoldable pub next_start : Shape → LockState → LockState
next_start L s =
    record {
      row = 0;
      enabled = replicate L.threads true;
      saved = [];
      regs = replicate L.threads (replicate registers 0);
      cells = s.cells;
      log = cleared (is_global L) s.log;
      group_log = s.group_log;
      rows = s.rows;
      steps = replicate L.threads 0;
      barriers = s.barriers;
    }

-- The runs of group g, which starts from s, and of the j groups behind it. A group starts only if the one before has passed.
unfoldable pub runs_from : Table → Sizes → (limit j g : ℕ) → LockState → List GroupRun
runs_from T Z limit zero g s = record { shape = shape_of Z g; start = s } ∷ []
runs_from T Z limit (suc j) g s =
    let u : GroupRun = record { shape = shape_of Z g; start = s } in
    let o = group_result T limit u in
    u ∷ cond (is_passed o.verdict) (runs_from T Z limit j (suc g) (next_start (shape_of Z (suc g)) o.state)) []

-- A launch has at least one group.
unfoldable pub group_runs : Table → Sizes → (cells : List ℕ) → (limit : ℕ) → List GroupRun
group_runs T Z cells limit = runs_from T Z limit (Z.groups - 1) 0 (initial_state Z cells)

-- The launch ends as the last of them does.
unfoldable pub last_run : Table → Sizes → (cells : List ℕ) → (limit : ℕ) → GroupRun
last_run T Z cells limit = last_of (record { shape = shape_of Z 0; start = initial_state Z cells }) (group_runs T Z cells limit)

unfoldable pub lockstep : Table → Sizes → (cells : List ℕ) → (limit : ℕ) → LockResult
lockstep T Z cells limit = group_result T limit (last_run T Z cells limit)

-- The group that it ends in.
unfoldable pub last_group : Table → Sizes → (cells : List ℕ) → (limit : ℕ) → ℕ
last_group T Z cells limit = (last_run T Z cells limit).shape.group

-- The steps of each thread, by its launch number (`Shape.launch_number`): group after group, each by number in group. Threads of groups that have not started have 0.
unfoldable pub steps_by_launch : Table → Sizes → (cells : List ℕ) → (limit : ℕ) → List ℕ
steps_by_launch T Z cells limit =
    let us = group_runs T Z cells limit in
    joined (map (λ u. (group_result T limit u).state.steps) us) ++ replicate ((Z.groups - length us) * Z.threads) 0

-- A group's own cells, of all.
unfoldable pub own_cells : Shape → List ℕ → List ℕ
own_cells L cells = take L.cells (drop (L.group * L.cells) cells)

-- For each group that has started: its own cells at its counted barriers, in their order.
unfoldable pub counted_barriers : Table → Sizes → (cells : List ℕ) → (limit : ℕ) → List (List (List ℕ))
counted_barriers T Z cells limit =
    map (λ u. map (own_cells u.shape) (counted_from T u.shape (rows_left limit u) u.start)) (group_runs T Z cells limit)
