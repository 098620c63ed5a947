-- What the groups' runs, one after another, count together: rows under one limit, barriers, and steps by launch number. Assumes nothing.
use mathlib.Core.Path.{◌≡◌, refl, sym, ◌∙◌, ap}
use mathlib.Core.List.{List, [], ◌∷◌, ◌++◌, map}
use mathlib.Core.Bool.{Bool, true, false, cond}
use Prim.Native.Nat.{ℕ, zero, suc, ◌+◌, ◌*◌, ◌-◌, ◌<◌, ◌≤◌}
use native.Mathlib.Omega.{arith}
use native.Mathlib.Nat.{suc-mul}
use lib.ListN.{length, get_or, replicate, length-append, length-map}
use Rattle.spec.specs.Answers.{is_passed}
use Rattle.spec.specs.declared.Verdict.TheVariants.{Spent}
use Rattle.spec.specs.AllRuns.{counted_in_all}
use Rattle.spec.specs.Lists.{joined, last_of}
use Rattle.spec.specs.Shape.{Sizes, shape_of}
use Rattle.spec.specs.Steps.{sum}
use Rattle.spec.specs.Table.{Table}
use Rattle.spec.specs.LockStep.{LockResult, LockState, counted_from, initial_state}
use Rattle.spec.specs.LaunchRun.{GroupRun, counted_barriers, group_result, group_runs, last_run, lockstep, next_start, own_cells, rows_left, runs_from}
use Rattle.allruns.proofs.Counts.{counted_length, rows_within, spent_at_limit}

-- A group's run from s, its counted barriers, and the start of the next one behind it.
abbrev pub run_at : Sizes → (g : ℕ) → LockState → GroupRun
run_at Z g s = record { shape = shape_of Z g; start = s }

abbrev pub barriers_of : Table → (limit : ℕ) → GroupRun → List (List ℕ)
barriers_of T limit u = map (own_cells u.shape) (counted_from T u.shape (rows_left limit u) u.start)

abbrev pub start_behind : Table → Sizes → (limit g : ℕ) → LockState → LockState
start_behind T Z limit g s = next_start (shape_of Z (suc g)) (group_result T limit (run_at Z g s)).state

-- How the runs of group g and of the j groups behind it end.
abbrev pub end_of_runs : Table → Sizes → (limit j g : ℕ) → LockState → LockResult
end_of_runs T Z limit j g s = group_result T limit (last_of (run_at Z g s) (runs_from T Z limit j g s))

-- What stands in front of the groups' runs is not the last one.
pub last_behind : (T : Table) (Z : Sizes) (limit j g : ℕ) (s : LockState) (u : GroupRun)
    → last_of u (runs_from T Z limit j g s) ≡ last_of (run_at Z g s) (runs_from T Z limit j g s)
unfolding runs_from last_of
last_behind T Z limit zero g s u = refl
last_behind T Z limit (suc j) g s u = refl

-- The barriers that the groups count together.
counted_one : (T : Table) (Z : Sizes) (limit g : ℕ) (s : LockState)
    → length (barriers_of T limit (run_at Z g s)) + s.barriers ≡ (group_result T limit (run_at Z g s)).state.barriers
unfolding group_result
counted_one T Z limit g s =
    let a = length-map (counted_from T (shape_of Z g) (rows_left limit (run_at Z g s)) s) (own_cells (shape_of Z g)) in
    let b = counted_length T (shape_of Z g) (rows_left limit (run_at Z g s)) s in
    omega (arith, a, b)

counted_from_lem : (T : Table) (Z : Sizes) (limit j g : ℕ) (s : LockState)
    → sum (map length (map (barriers_of T limit) (runs_from T Z limit j g s))) + s.barriers ≡ (end_of_runs T Z limit j g s).state.barriers
unfolding runs_from last_of sum
counted_from_lem T Z limit zero g s = omega (arith, counted_one T Z limit g s)
counted_from_lem T Z limit (suc j) g s = by (is_passed (group_result T limit (run_at Z g s)).verdict) (counted_from_lem T Z limit j (suc g) z)
  where
    z : LockState
    z = start_behind T Z limit g s

    rest : List GroupRun
    rest = runs_from T Z limit j (suc g) z

    goes_on_lem : z.barriers ≡ (group_result T limit (run_at Z g s)).state.barriers
    goes_on_lem = unfold next_start in refl

    by : (b : Bool) → sum (map length (map (barriers_of T limit) rest)) + z.barriers ≡ (end_of_runs T Z limit j (suc g) z).state.barriers
        → length (barriers_of T limit (run_at Z g s)) + sum (map length (map (barriers_of T limit) (cond b rest []))) + s.barriers
        ≡ (group_result T limit (last_of (run_at Z g s) (cond b rest []))).state.barriers
    by true ih =
        let a = counted_one T Z limit g s in
        let e : (group_result T limit (last_of (run_at Z g s) rest)).state.barriers ≡ (end_of_runs T Z limit j (suc g) z).state.barriers =
        ap (λ u. (group_result T limit u).state.barriers) (last_behind T Z limit j (suc g) z (run_at Z g s)) in
        omega (arith, a, e, ih, goes_on_lem)
    by false ih = unfold last_of sum in (let a = counted_one T Z limit g s in omega (arith, a))

-- Spent is said at the limit, since no group starts past it.
left_is : (limit r : ℕ) → r ≤ limit → r + (limit - r) ≡ limit
left_is limit r l = omega arith

spent_one : (T : Table) (Z : Sizes) (limit g : ℕ) (s : LockState) → s.rows ≤ limit → (group_result T limit (run_at Z g s)).verdict ≡ Spent
    → (group_result T limit (run_at Z g s)).state.rows ≡ limit
unfolding group_result rows_left
spent_one T Z limit g s l e = spent_at_limit T (shape_of Z g) (limit - s.rows) s e ∙ left_is limit s.rows l

rows_one : (T : Table) (Z : Sizes) (limit g : ℕ) (s : LockState) → s.rows ≤ limit → (group_result T limit (run_at Z g s)).state.rows ≤ limit
unfolding group_result rows_left
rows_one T Z limit g s l = let a = rows_within T (shape_of Z g) (limit - s.rows) s in let b = left_is limit s.rows l in omega (arith, a, b)

spent_from : (T : Table) (Z : Sizes) (limit j g : ℕ) (s : LockState) → s.rows ≤ limit → (end_of_runs T Z limit j g s).verdict ≡ Spent
    → (end_of_runs T Z limit j g s).state.rows ≡ limit
unfolding runs_from last_of
spent_from T Z limit zero g s l e = spent_one T Z limit g s l e
spent_from T Z limit (suc j) g s l q = by (is_passed (group_result T limit (run_at Z g s)).verdict) (spent_from T Z limit j (suc g) z) q
  where
    z : LockState
    z = start_behind T Z limit g s

    rest : List GroupRun
    rest = runs_from T Z limit j (suc g) z

    within : z.rows ≤ limit
    within = unfold next_start in (rows_one T Z limit g s l)

    by : (b : Bool) → (z.rows ≤ limit → (end_of_runs T Z limit j (suc g) z).verdict ≡ Spent → (end_of_runs T Z limit j (suc g) z).state.rows ≡ limit)
        → (group_result T limit (last_of (run_at Z g s) (cond b rest []))).verdict ≡ Spent
        → (group_result T limit (last_of (run_at Z g s) (cond b rest []))).state.rows ≡ limit
    by true ih e =
        let q : last_of (run_at Z g s) rest ≡ last_of (run_at Z (suc g) z) rest = last_behind T Z limit j (suc g) z (run_at Z g s) in
        ap (λ u. (group_result T limit u).state.rows) q ∙ ih within (sym (ap (λ u. (group_result T limit u).verdict) q) ∙ e)
    by false ih e = unfold last_of in (spent_one T Z limit g s l (unfold last_of in e))

-- Of a launch.
pub counted_in_all_lem : (T : Table) (Z : Sizes) (cells : List ℕ) (limit : ℕ) → counted_in_all (counted_barriers T Z cells limit) ≡ (lockstep T Z cells limit).state.barriers
unfolding counted_in_all counted_barriers lockstep last_run group_runs initial_state
counted_in_all_lem T Z cells limit = omega (arith, counted_from_lem T Z limit (Z.groups - 1) 0 (initial_state Z cells))

pub launch_spent : (T : Table) (Z : Sizes) (cells : List ℕ) (limit : ℕ) → (lockstep T Z cells limit).verdict ≡ Spent
    → (lockstep T Z cells limit).state.rows ≡ limit
unfolding lockstep last_run group_runs initial_state
launch_spent T Z cells limit e = spent_from T Z limit (Z.groups - 1) 0 (initial_state Z cells) (omega arith) e

-- Lists of n numbers each, one behind the other: number t of list h.
abbrev pub AllOf : ℕ → List (List ℕ) → Type 0
AllOf n xss = (h : ℕ) → h < length xss → length (get_or xss h []) ≡ n

pub joined_length : (n : ℕ) (xss : List (List ℕ)) → AllOf n xss → length (joined xss) ≡ length xss * n
unfolding joined
joined_length n [] s = omega arith
joined_length n (xs ∷ xss) s =
    let a = length-append xs (joined xss) in
    let b : length xs ≡ n = s 0 (omega arith) in
    let c = joined_length n xss (λ h l. s (suc h) (omega arith)) in
    let d = suc-mul (length xss) n in
    omega (arith, a, b, c, d)

get_d_before : (xs ys : List ℕ) (i : ℕ) → i < length xs → get_or (xs ++ ys) i 0 ≡ get_or xs i 0
get_d_before [] ys i l = absurd (omega arith)
get_d_before (x ∷ xs) ys zero l = refl
get_d_before (x ∷ xs) ys (suc i) l = get_d_before xs ys i (omega arith)

get_d_behind : (xs ys : List ℕ) (i : ℕ) → get_or (xs ++ ys) (length xs + i) 0 ≡ get_or ys i 0
get_d_behind [] ys i = ap (λ k. get_or ys k 0) (let z : 0 + i ≡ i = omega arith in z)
get_d_behind (x ∷ xs) ys i = ap (λ k. get_or (x ∷ (xs ++ ys)) k 0) (let z : suc (length xs) + i ≡ suc (length xs + i) = omega arith in z) ∙ get_d_behind xs ys i

pub joined_at : (n : ℕ) (xss : List (List ℕ)) → AllOf n xss → (h t : ℕ) → h < length xss → t < n
    → get_or (joined xss) (h * n + t) 0 ≡ get_or (get_or xss h []) t 0
unfolding joined
joined_at n [] s h t l b = absurd (omega arith)
joined_at n (xs ∷ xss) s zero t l b =
    ap (λ k. get_or (xs ++ joined xss) k 0) (let z : 0 * n + t ≡ t = omega arith in z) ∙ get_d_before xs (joined xss) t (let c : length xs ≡ n = s 0 (omega arith) in omega (arith, c, b))
joined_at n (xs ∷ xss) s (suc h) t l b =
    ap (λ k. get_or (xs ++ joined xss) k 0) place ∙ get_d_behind xs (joined xss) (h * n + t)
    ∙ joined_at n xss (λ k m. s (suc k) (omega arith)) h t (omega arith) b
  where
    place : suc h * n + t ≡ length xs + (h * n + t)
    place = let c : length xs ≡ n = s 0 (omega arith) in let d = suc-mul h n in omega (arith, c, d)

pub sum_append : (xs ys : List ℕ) → sum (xs ++ ys) ≡ sum xs + sum ys
unfolding sum
sum_append [] ys = omega arith
sum_append (x ∷ xs) ys = omega (arith, sum_append xs ys)

pub sum_zeros : (n : ℕ) → sum (replicate n 0) ≡ 0
unfolding sum
sum_zeros zero = refl
sum_zeros (suc n) = omega (arith, sum_zeros n)
