-- The counts of steps after moves: a thread's row counts for that thread, a release for none. Assumes nothing.
use mathlib.Core.Path.{◌≡◌, refl, sym, ◌∙◌}
use mathlib.Core.List.{List, [], ◌∷◌, ◌++◌, map}
use mathlib.Core.Bool.{Bool, true, false, cond, not}
use Prim.Native.Nat.{ℕ, ◌+◌, ◌<◌}
use native.Mathlib.Omega.{arith}
use borrow.Author.Tests.{ltb-true}
use lib.Dec.{eqb}
use lib.ListN.{length, get_or, length-set, length-map}
use Rattle.spec.specs.Runs.{Run, after, many}
use Rattle.spec.specs.Shape.{Shape}
use Rattle.spec.specs.Steps.{stepped, all_stepped, sum}
use Rattle.spec.specs.Table.{Table}
use Rattle.spec.specs.Threads.{Group, Move, effect_at, ends_badly, machine, mark_bad, next, past_barrier, performed, possible, release, released, row, thread_count}
use Rattle.spec.proofs.StepLaws.{stepped_size, stepped_at, sum_stepped}
use Rattle.allruns.proofs.Bools.{and_left, and_right}

-- The class of thread t's moves among the moves of its group, and that of the group's releases.
unfoldable pub is_row_of : (t : ℕ) → Move → Bool
is_row_of t (row u) = eqb u t
is_row_of t release = false

unfoldable pub is_own_release : Move → Bool
is_own_release (row u) = false
is_own_release release = true

unfoldable pub steps_after : (steps : List ℕ) → List Move → List ℕ
steps_after steps [] = steps
steps_after steps (row t ∷ ms) = steps_after (stepped steps t) ms
steps_after steps (release ∷ ms) = steps_after steps ms

pub steps_append : (steps : List ℕ) (ms ks : List Move) → steps_after steps (ms ++ ks) ≡ steps_after (steps_after steps ms) ks
unfolding steps_after
steps_append steps [] ks = refl
steps_append steps (row t ∷ ms) ks = steps_append (stepped steps t) ms ks
steps_append steps (release ∷ ms) ks = steps_append steps ms ks

-- A row of each of these threads.
pub steps_rows : (steps ts : List ℕ) → steps_after steps (map row ts) ≡ all_stepped steps ts
unfolding steps_after all_stepped
steps_rows steps [] = refl
steps_rows steps (t ∷ ts) = steps_rows (stepped steps t) ts

-- A thread's count grows by its own moves.
pub steps_of : (t : ℕ) (steps : List ℕ) (ms : List Move) → t < length steps → get_or (steps_after steps ms) t 0 ≡ many (is_row_of t) ms + get_or steps t 0
unfolding steps_after is_row_of
steps_of t steps [] l = omega arith
steps_of t steps (row u ∷ ms) l =
    let h = steps_of t (stepped steps u) ms (omega (arith, stepped_size steps u)) in
    let k = stepped_at steps u t l in
    omega (arith, h, k)
steps_of t steps (release ∷ ms) l = let h = steps_of t steps ms l in omega arith

-- A move leaves as many threads, and a row is that of one of them.
pub next_size : (T : Table) (L : Shape) (g : Group) (m : Move) → length (next T L g m).threads ≡ length g.threads
unfolding next released mark_bad performed
next_size T L g (row t) = by (ends_badly g t (effect_at T L g t))
  where
    by : (b : Bool) → length (cond b (mark_bad g) (performed g t (effect_at T L g t))).threads ≡ length g.threads
    by true = refl
    by false = length-set g.threads t _
next_size T L g release = length-map g.threads past_barrier

row_below : (T : Table) (L : Shape) (g : Group) (t : ℕ) → possible T L g (row t) ≡ true → t < length g.threads
unfolding possible thread_count
row_below T L g t c = ltb-true t _ (and_left _ _ (and_right (not g.bad) _ c))

-- So the moves of a run are what all counts together grow by, and the releases.
pub all_moves : (T : Table) (L : Shape) (g : Group) (ms : List Move) (steps : List ℕ) → Run (machine T L) g ms → length g.threads ≡ length steps
    → length ms + sum steps ≡ sum (steps_after steps ms) + many is_own_release ms
unfolding steps_after is_own_release
all_moves T L g [] steps r e = omega arith
all_moves T L g (row t ∷ ms) steps r e =
    let h = all_moves T L (next T L g (row t)) ms (stepped steps t) r.1 (next_size T L g (row t) ∙ e ∙ sym (stepped_size steps t)) in
    let l = row_below T L g t r.0 in
    let k = sum_stepped steps t (omega (arith, l, e)) in
    omega (arith, h, k)
all_moves T L g (release ∷ ms) steps r e =
    let h = all_moves T L (next T L g release) ms steps r.1 (next_size T L g release ∙ e) in
    omega (arith, h)

-- What other groups forbid stays as it is while the group moves.
pub barred_next : (T : Table) (L : Shape) (g : Group) (m : Move) → (next T L g m).barred ≡ g.barred
unfolding next released mark_bad performed
barred_next T L g (row t) = by (ends_badly g t (effect_at T L g t))
  where
    by : (b : Bool) → (cond b (mark_bad g) (performed g t (effect_at T L g t))).barred ≡ g.barred
    by true = refl
    by false = refl
barred_next T L g release = refl

pub barred_kept : (T : Table) (L : Shape) (g : Group) (ms : List Move) → (after (machine T L) g ms).barred ≡ g.barred
barred_kept T L g [] = refl
barred_kept T L g (m ∷ ms) = barred_kept T L (next T L g m) ms ∙ barred_next T L g m
