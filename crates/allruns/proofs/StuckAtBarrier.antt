-- A run that is stuck has a thread left at a BARRIER. Assumes nothing.
use mathlib.Core.Path.{◌≡◌, refl, sym, ◌∙◌, ap}
use mathlib.Core.List.{List, [], ◌∷◌}
use mathlib.Core.Bool.{Bool, true, false, not, ◌&&◌, true≢false}
use Prim.Native.Nat.{ℕ, suc, ◌<◌}
use native.Mathlib.Omega.{arith}
use lib.Dec.{leb}
use borrow.Author.Tests.{leb-false, lt-ltb, not-false}
use lib.ListN.{length, get_or}
use Rattle.spec.specs.Lists.{every}
use Rattle.spec.specs.Op.{BARRIER, CALC, ELSE, ENDIF, ENDWHILE, IF, MEM, Op, UNKNOWN, WHILE}
use Rattle.spec.specs.Runs.{Stuck}
use Rattle.spec.specs.LaunchThreads.{Groups, at_end, machine, no_part, of_group, part_at_end, possible}
use Rattle.spec.specs.Shape.{Shape, Sizes, shape_of}
use Rattle.spec.specs.Table.{Fits, Table, WellFormed, row_at}
use Rattle.spec.specs.Threads as own
use Rattle.spec.specs.Threads.{Thread, effect, effect_at, effect_of, is_barrier, is_waiting, no_thread, row, thread_count}
use Rattle.allruns.proofs.Bools.{and_make}
use Rattle.allruns.proofs.Places.{reach_cases}

is_false : (b : Bool) → (b ≡ true → ⊥) → b ≡ false
is_false true n = absurd (n refl)
is_false false n = refl

-- Where not every element passes a test, one fails it.
some_fails : {A : Type 0} (p : A → Bool) (xs : List A) (d : A) → every p xs ≡ false → (i : ℕ) × (i < length xs) × (p (get_or xs i d) ≡ false)
unfolding every
some_fails p [] d q = absurd (true≢false q)
some_fails p (x ∷ xs) d q = by (p x) refl q (some_fails p xs d)
  where
    by : (z : Bool) → p x ≡ z → (z && every p xs) ≡ false → (every p xs ≡ false → (i : ℕ) × (i < length xs) × (p (get_or xs i d) ≡ false))
        → (i : ℕ) × (i < suc (length xs)) × (p (get_or (x ∷ xs) i d) ≡ false)
    by true e q ih = let f = ih q in (suc f.0, omega (arith, f.1), f.2)
    by false e q ih = (0, omega arith, e)

-- In a well-formed table only a BARRIER waits.
waits_at_barrier : (T : Table) (L : Shape) (t : ℕ) (x : Thread) (i o : Op) → Fits o i → is_waiting (effect_of T L t x (row_at T x.row) o) ≡ true
    → is_barrier o ≡ true
unfolding effect_of is_waiting is_barrier
waits_at_barrier T L t x i (CALC c) f q = q
waits_at_barrier T L t x i (MEM p m) f q = sym (reach_cases (λ e. is_waiting e ≡ false) L x p _ _ _ (λ l. refl) refl (λ v e. refl)) ∙ q
waits_at_barrier T L t x i IF f q = q
waits_at_barrier T L t x i ELSE f q = q
waits_at_barrier T L t x i ENDIF f q = q
waits_at_barrier T L t x i WHILE f q = q
waits_at_barrier T L t x i ENDWHILE f q = q
waits_at_barrier T L t x i BARRIER f q = refl
waits_at_barrier T L t x i UNKNOWN f q = absurd f

-- A thread that is not at the table's end and can't move is at a BARRIER.
left_waiting : (T : Table) → WellFormed T → (L : Shape) (t : ℕ) (x : Thread) → leb (length T) x.row ≡ false → not (is_waiting (effect T L t x)) ≡ false
    → is_barrier (row_at T x.row).op ≡ true
unfolding effect
left_waiting T w L t x q h =
    let l = leb-false _ _ q in
    waits_at_barrier T L t x _ _ (w.fitting x.row l) (rw (lt-ltb x.row (length T) l) at (not-false (is_waiting (effect T L t x)) h))

-- Of a launch: a thread of one of its groups.
pub stuck_at_barrier : (T : Table) → WellFormed T → (Z : Sizes) (S : Groups) → length S.parts ≡ Z.groups → Stuck (machine T Z) S
    → (g : ℕ) × (t : ℕ) × (g < Z.groups) × (t < length (get_or S.parts g no_part).threads)
    × (is_barrier (row_at T (get_or (get_or S.parts g no_part).threads t no_thread).row).op ≡ true)
unfolding at_end part_at_end possible own.possible thread_count effect_at
stuck_at_barrier T w Z S e k = (f.0, h.0, here, h.1, left_waiting T w (shape_of Z f.0) h.0 _ h.2 waiting)
  where
    good : not S.bad ≡ true
    good = ap not (is_false S.bad k.unharmed)

    -- a group that is not at its end, and a thread of it that is not at the table's end
    f : (g : ℕ) × (g < length S.parts) × (part_at_end T (get_or S.parts g no_part) ≡ false)
    f = some_fails (part_at_end T) S.parts no_part (is_false _ (λ a. k.unfinished (and_make good a)))

    threads : List Thread
    threads = (get_or S.parts f.0 no_part).threads

    h : (t : ℕ) × (t < length threads) × (leb (length T) (get_or threads t no_thread).row ≡ false)
    h = unfold part_at_end in (some_fails _ threads no_thread f.2)

    here : f.0 < Z.groups
    here = omega (arith, f.1, e)

    waiting : not (is_waiting (effect T (shape_of Z f.0) h.0 (get_or threads h.0 no_thread))) ≡ false
    waiting =
        is_false _
        (λ a. k.halted (of_group f.0 (row h.0)) (and_make (lt-ltb f.0 Z.groups here) (and_make good (and_make (lt-ltb h.0 (length threads) h.1) a))))
