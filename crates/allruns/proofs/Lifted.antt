-- One group's run, the other groups standing still, as a run of the launch; and what keeps a launch from its end. Assumes nothing.
use mathlib.Core.Path.{◌≡◌, refl, sym, ◌∙◌, ap, ap₂, subst}
use mathlib.Core.Logic.{◌⊎◌, inl, inr}
use mathlib.Core.List.{List, [], ◌∷◌, ◌++◌, map}
use mathlib.Core.Bool.{Bool, true, false, cond, ◌&&◌}
use Prim.Native.Nat.{ℕ, zero, suc, ◌+◌, ◌<◌}
use native.Mathlib.Omega.{arith}
use native.Mathlib.Decide.{ℕ_discrete}
use lib.Dec.{eqb, ltb}
use borrow.Author.Tests.{eq-eqb, ne_eqb, ltb-true, ltb-false, lt-ltb}
use lib.ListN.{length, get_or, length-set, get_or-eq_default}
use lib.Seq.{get_or-set_other}
use Rattle.spec.specs.AllRuns.{is_move_of, is_release}
use Rattle.spec.specs.Runs.{Run, RunsAlwaysEnd, after, many, shown_to}
use Rattle.spec.specs.Shape.{Sizes, Shape, shape_of}
use Rattle.spec.specs.Table.{Table, WellFormed}
use Rattle.spec.specs.Threads as own
use Rattle.spec.specs.Threads.{Group}
use Rattle.spec.specs.LaunchRun.{own_cells}
use Rattle.spec.specs.LaunchThreads.{Groups, Move, barred_to, machine, next, no_part, of_group, part_of, possible, shown, view, with_group}
use Rattle.allruns.proofs.Bools.{and_make}
use Rattle.allruns.proofs.Descent.{all_after, finish}
use Rattle.allruns.proofs.Blocked.{Blocked, same_threads, blocked_next, blocked_end, some_move}
use Rattle.allruns.proofs.StepCounts.{is_row_of, is_own_release, barred_next}
use Rattle.allruns.proofs.Together.{is_there, next_group, view_with, next_with, possible_with, shown_to_others, all_laws, view_end}
use Rattle.allruns.proofs.Together.{possible_own, possible_group}

-- A run of group g from v, which other groups forbid what they do at S.
module _ (T : Table) (Z : Sizes) (S : Groups) (g : ℕ) (l : g < length S.parts) where
  abbrev L : Shape
  L = shape_of Z g

  abbrev Fits : Group → Type 0
  Fits v = v.barred ≡ barred_to Z S.parts g

  fits_next : (v : Group) (m : own.Move) → Fits v → Fits (own.next T L v m)
  fits_next v m b = barred_next T L v m ∙ b

  pub lift_after : (v : Group) → Fits v → (ms : List own.Move)
      → after (machine T Z) (with_group S g v) (map (of_group g) ms) ≡ with_group S g (after (own.machine T L) v ms)
  lift_after v b [] = refl
  lift_after v b (m ∷ ms) =
      ap (λ R. after (machine T Z) R (map (of_group g) ms)) (next_with T Z S g l v b m) ∙ lift_after (own.next T L v m) (fits_next v m b) ms

  pub lift_run : g < Z.groups → (v : Group) → Fits v → (ms : List own.Move) → Run (own.machine T L) v ms
      → Run (machine T Z) (with_group S g v) (map (of_group g) ms)
  lift_run gl v b [] r = tt
  lift_run gl v b (m ∷ ms) r = (
    possible_with T Z S g l v b m ∙ and_make (lt-ltb g Z.groups gl) r.0,
    subst (λ R. Run (machine T Z) R (map (of_group g) ms)) (sym (next_with T Z S g l v b m))
        (lift_run gl (own.next T L v m) (fits_next v m b) ms r.1),
  )

  -- its own observer is shown its own cells
  pub lift_shown : (v : Group) → Fits v → (ms : List own.Move)
      → shown_to (machine T Z) g (with_group S g v) (map (of_group g) ms) ≡ map (own_cells L) (shown_to (own.machine T L) tt v ms)
  lift_shown v b [] = refl
  lift_shown v b (m ∷ ms) =
      ap (λ R. shown Z g (with_group S g v) (of_group g m) ++ shown_to (machine T Z) g R (map (of_group g) ms)) (next_with T Z S g l v b m)
      ∙ ap₂ ◌++◌ (here m) (lift_shown (own.next T L v m) (fits_next v m b) ms)
      ∙ sym (map-append (own.shown v m) (shown_to (own.machine T L) tt (own.next T L v m) ms))
    where
      here : (m : own.Move) → shown Z g (with_group S g v) (of_group g m) ≡ map (own_cells L) (own.shown v m)
      here (own.row t) = unfold shown own.shown in refl
      here own.release = unfold shown own.shown in (rw (eq-eqb g g refl))

      map-append : (xs ys : List (List ℕ)) → map (own_cells L) (xs ++ ys) ≡ map (own_cells L) xs ++ map (own_cells L) ys
      map-append [] ys = refl
      map-append (x ∷ xs) ys = ap (λ r. own_cells L x ∷ r) (map-append xs ys)

-- Other observers are shown nothing.
pub lift_unshown : (T : Table) (Z : Sizes) (S : Groups) (g w : ℕ) (ms : List own.Move) → ¬ (g ≡ w) → shown_to (machine T Z) w S (map (of_group g) ms) ≡ []
lift_unshown T Z S g w [] ne = refl
lift_unshown T Z S g w (m ∷ ms) ne = ap₂ ◌++◌ (shown_to_others Z w S g m ne) (lift_unshown T Z (next T Z S (of_group g m)) g w ms ne)

-- The classes of moves.
pub lift_moves : (g t : ℕ) (ms : List own.Move) → many (is_move_of g t) (map (of_group g) ms) ≡ many (is_row_of t) ms
unfolding is_move_of is_row_of
lift_moves g t [] = refl
lift_moves g t (own.row u ∷ ms) = ap₂ (λ b n. cond (b && eqb u t) 1 0 + n) (eq-eqb g g refl) (lift_moves g t ms)
lift_moves g t (own.release ∷ ms) = omega (arith, lift_moves g t ms)

pub lift_no_moves : (g h t : ℕ) (ms : List own.Move) → ¬ (g ≡ h) → many (is_move_of h t) (map (of_group g) ms) ≡ 0
unfolding is_move_of
lift_no_moves g h t [] ne = refl
lift_no_moves g h t (own.row u ∷ ms) ne = ap₂ (λ b n. cond (b && eqb u t) 1 0 + n) (ne_eqb g h ne) (lift_no_moves g h t ms ne)
lift_no_moves g h t (own.release ∷ ms) ne = omega (arith, lift_no_moves g h t ms ne)

pub lift_releases : (g : ℕ) (ms : List own.Move) → many is_release (map (of_group g) ms) ≡ many is_own_release ms
unfolding is_release is_own_release
lift_releases g [] = refl
lift_releases g (own.row t ∷ ms) = omega (arith, lift_releases g ms)
lift_releases g (own.release ∷ ms) = omega (arith, lift_releases g ms)

pub lift_length : (g : ℕ) (ms : List own.Move) → length (map (of_group g) ms) ≡ length ms
lift_length g [] = refl
lift_length g (m ∷ ms) = ap suc (lift_length g ms)

-- A group in which a thread waits at a barrier for ever keeps it, whatever groups move.
module _ (T : Table) (w : WellFormed T) (Z : Sizes) (g a u : ℕ) where
  group_blocked_next : (S : Groups) (m : Move) → possible T Z S m ≡ true → Blocked T (view Z S g) a u → Blocked T (view Z (next T Z S m) g) a u
  group_blocked_next S (of_group h m) c s = by (ℕ_discrete h g)
    where
      hl : h < length S.parts
      hl = is_there T Z S h m (possible_own T Z S h m c)

      same : view Z (next T Z S (of_group h m)) h ≡ own.next T (shape_of Z h) (view Z S h) m
      same =
          ap (λ R. view Z R h) (next_group T Z S h m)
          ∙ view_with T Z S h hl (own.next T (shape_of Z h) (view Z S h) m) (barred_next T (shape_of Z h) (view Z S h) m)

      kept : ¬ (g ≡ h) → (view Z S g).threads ≡ (view Z (next T Z S (of_group h m)) g).threads
      kept n =
          sym
          (ap (λ R. (get_or R.parts g no_part).threads) (next_group T Z S h m)
          ∙ ap (λ p. p.threads) (get_or-set_other S.parts h g (part_of (own.next T (shape_of Z h) (view Z S h) m)) no_part n))

      by : Dec (h ≡ g) → Blocked T (view Z (next T Z S (of_group h m)) g) a u
      by (yes e) =
          subst (λ i. Blocked T (view Z (next T Z S (of_group h m)) i) a u) e
          (subst (λ v. Blocked T v a u) (sym same)
          (blocked_next T w (shape_of Z h) a u (view Z S h) m (possible_own T Z S h m c) (subst (λ i. Blocked T (view Z S i) a u) (sym e) s)))
      by (no n) = same_threads T w (shape_of Z g) a u (view Z S g) (view Z (next T Z S (of_group h m)) g) (kept (λ e. n (sym e))) s

  group_blocked_run : (S : Groups) (ms : List Move) → Run (machine T Z) S ms → Blocked T (view Z S g) a u
      → Blocked T (view Z (after (machine T Z) S ms) g) a u
  group_blocked_run S [] r s = s
  group_blocked_run S (m ∷ ms) r s = group_blocked_run (next T Z S m) ms r.1 (group_blocked_next S m r.0 s)

-- Whether a move is possible.
pub any_move : (T : Table) (Z : Sizes) (S : Groups) → ((m : Move) × (possible T Z S m ≡ true)) ⊎ ((m : Move) → possible T Z S m ≡ true → ⊥)
any_move T Z S = from (search Z.groups)
  where
    Found : Type 0
    Found = (m : Move) × (possible T Z S m ≡ true)

    NoneBelow : ℕ → Type 0
    NoneBelow k = (g : ℕ) (m : own.Move) → g < k → g < Z.groups → own.possible T (shape_of Z g) (view Z S g) m ≡ true → ⊥

    lifted : (g : ℕ) (m : own.Move) → g < Z.groups → own.possible T (shape_of Z g) (view Z S g) m ≡ true → possible T Z S (of_group g m) ≡ true
    lifted g m l c = unfold possible in (and_make (lt-ltb g Z.groups l) c)

    search : (k : ℕ) → Found ⊎ NoneBelow k
    search zero = inr (λ g m l j c. omega arith)
    search (suc k) = on (search k) (some_move T (shape_of Z k) (view Z S k)) (ltb k Z.groups) refl
      where
        on : Found ⊎ NoneBelow k
            → ((m : own.Move) × (own.possible T (shape_of Z k) (view Z S k) m ≡ true)) ⊎ ((m : own.Move) → own.possible T (shape_of Z k) (view Z S k) m ≡ true → ⊥)
            → (z : Bool) → ltb k Z.groups ≡ z → Found ⊎ NoneBelow (suc k)
        on (inl p) d z e = inl p
        on (inr n) (inl p) true e = inl (of_group k p.0, lifted k p.0 (ltb-true _ _ e) p.1)
        on (inr n) (inl p) false e = inr (λ g m l j c. n g m (let h = ltb-false k Z.groups e in omega arith) j c)
        on (inr n) (inr q) z e = inr (λ g m l j c. last g m l j c (ℕ_discrete g k))
          where
            last : (g : ℕ) (m : own.Move) → g < suc k → g < Z.groups → own.possible T (shape_of Z g) (view Z S g) m ≡ true → Dec (g ≡ k) → ⊥
            last g m l j c (yes d) = q m (subst (λ i. own.possible T (shape_of Z i) (view Z S i) m ≡ true) d c)
            last g m l j c (no d) = n g m (omega arith) j c

    from : Found ⊎ NoneBelow Z.groups → Found ⊎ ((m : Move) → possible T Z S m ≡ true → ⊥)
    from (inl p) = inl p
    from (inr n) = inr none
      where
        none : (m : Move) → possible T Z S m ≡ true → ⊥
        none (of_group g m) c = n g m (possible_group T Z S g m c) (possible_group T Z S g m c) (possible_own T Z S g m c)

-- A run that ends badly, or comes to a group in which a thread waits at a barrier for ever.
pub record FailedLaunch (T : Table) (Z : Sizes) (S : Groups) : Type 0 where
  pub moves : List Move
  pub run : Run (machine T Z) S moves
  pub fails : ((after (machine T Z) S moves).bad ≡ true) ⊎ ((g : ℕ) × (a : ℕ) × (u : ℕ) × Blocked T (view Z (after (machine T Z) S moves) g) a u)

parts_kept : (T : Table) (Z : Sizes) (S : Groups) (ms : List Move) → length (after (machine T Z) S ms).parts ≡ length S.parts
parts_kept T Z S [] = refl
parts_kept T Z S (of_group g m ∷ ms) =
    parts_kept T Z (next T Z S (of_group g m)) ms
    ∙ ap (λ R. length R.parts) (next_group T Z S g m)
    ∙ length-set S.parts g (part_of (own.next T (shape_of Z g) (view Z S g) m))

-- No such run is one of a launch whose runs always come to an end.
pub failed_not_all : (T : Table) → WellFormed T → (Z : Sizes) (S : Groups) → FailedLaunch T Z S → RunsAlwaysEnd (machine T Z) S → ⊥
failed_not_all T w Z S f all = by f.fails
  where
    S₁ : Groups
    S₁ = after (machine T Z) S f.moves

    blocked_there : (g a u : ℕ) → Blocked T (view Z S₁ g) a u → g < length S₁.parts
    blocked_there g a u s = at (ltb g (length S₁.parts)) refl
      where
        nobody : length no_part.threads ≡ 0
        nobody = unfold no_part in refl

        at : (z : Bool) → ltb g (length S₁.parts) ≡ z → g < length S₁.parts
        at true z = ltb-true _ _ z
        at false z =
            absurd
            (let h = s.first in
            let e : length (get_or S₁.parts g no_part).threads ≡ length no_part.threads =
            ap (λ p. length p.threads) (get_or-eq_default S₁.parts no_part (ltb-false _ _ z)) in
            let n = nobody in
            omega arith)

    by : (S₁.bad ≡ true) ⊎ ((g : ℕ) × (a : ℕ) × (u : ℕ) × Blocked T (view Z S₁ g) a u) → ⊥
    by (inl b) = (all_laws T Z).end_good _ (all.ends f.moves f.run (λ m c. (all_laws T Z).bad_last _ m b c)) b
    by (inr p) =
        let k = all_after (machine T Z) S f.moves f.run all in
        let e = finish (machine T Z) (any_move T Z) k.bound S₁ k.bounded k.ends in
        let S₂ = after (machine T Z) S₁ e.0 in
        let there : p.0 < length S₂.parts =
        (let h = blocked_there p.0 p.1 p.2 p.3 in let n = parts_kept T Z S₁ e.0 in omega arith) in
        blocked_end T w (shape_of Z p.0) p.1 p.2 (view Z S₂ p.0)
        (group_blocked_run T w Z p.0 p.1 p.2 S₁ e.0 e.1 p.3) (view_end T Z S₂ p.0 e.2 there)
