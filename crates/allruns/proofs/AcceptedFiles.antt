-- What every accepted launch file has: a table that is not refused, a group at least, and as many cells as its sizes say. Assumes nothing.
use mathlib.Core.Path.{◌≡◌, refl, ◌∙◌, ap₂, subst}
use mathlib.Core.List.{List, [], ◌∷◌, ◌++◌, map}
use mathlib.Core.Bool.{Bool, true, false, ◌&&◌}
use mathlib.Core.Option.{Option, none, some}
use Prim.Native.Nat.{ℕ, zero, suc, ◌+◌, ◌≤◌}
use native.Mathlib.Omega.{arith}
use lib.Dec.{leb}
use lib.ListN.{length, length-append, replicate}
use Rattle.spec.specs.declared.Refusal.{Refusal}
use Rattle.spec.specs.declared.Refusal.TheVariants.{FileTooLong}
use Rattle.spec.specs.Limits.{max_cells, max_file}
use Rattle.spec.specs.TableCheck.{table_refusal}
use Rattle.spec.specs.Shape.{Sizes, all_cells, all_own}
use Rattle.spec.specs.Launch.{Launch}
use Rattle.spec.specs.LaunchFile.{Checked, refused, accepted, Read, stop, read, Reader, continue, ◌>>=◌, ◌>>◌, gives, in_order, times, due, exactly, require, file_ends}
use Rattle.spec.specs.LaunchFile.{number, row_value, NumberLine, due_number, numbers, size_lines, length_lines, sizes_in, limit_in, rows_in, content_lines, launch_lines}
use Rattle.spec.specs.LaunchFile.{unless_refused, checked_table, file_launch}

-- What is read has the property P, and what a reader reads always has it.
abbrev Gives : {A : Type 0} → (A → Type 0) → Read A → Type 0
Gives P (stop r) = Unit {0}
Gives P (read a line rest) = P a

abbrev Always : {A : Type 0} → (A → Type 0) → Reader A → Type 0
Always P p = (line : ℕ) (rest : List ℕ) → Gives P (p line rest)

anything : {A : Type 0} (p : Reader A) → Always (λ a. Unit {0}) p
anything p line rest = by (p line rest)
  where
    by : {A : Type 0} (x : Read A) → Gives (λ a. Unit {0}) x
    by (stop r) = tt
    by (read a l r) = tt

continued : {A B : Type 0} (P : A → Type 0) (Q : B → Type 0) (x : Read A) (f : A → Reader B) → Gives P x → ((a : A) → P a → Always Q (f a)) → Gives Q (continue x f)
unfolding continue
continued P Q (stop r) f g k = tt
continued P Q (read a l r) f g k = k a g l r

in_turn_lem : {A B : Type 0} (P : A → Type 0) (Q : B → Type 0) (p : Reader A) (f : A → Reader B) → Always P p → ((a : A) → P a → Always Q (f a)) → Always Q (p >>= f)
unfolding ◌>>=◌
in_turn_lem P Q p f h k line rest = continued P Q (p line rest) f (h line rest) k

and_then : {A B : Type 0} (P : A → Type 0) (Q : B → Type 0) (p : Reader A) (q : Reader B) → Always P p → ((a : A) → P a → Always Q q) → Always Q (p >> q)
unfolding ◌>>◌
and_then P Q p q h k line rest = continued P Q (p line rest) (λ a. q) (h line rest) k

given : {A : Type 0} (P : A → Type 0) (a : A) → P a → Always P (gives a)
unfolding gives
given P a h line rest = h

required : (b : Bool) (r : Refusal) → Always (λ u. b ≡ true) (require b r)
unfolding require
required true r line rest = refl
required false r line rest = tt

-- So many lines give so many values.
all_due : {A : Type 0} (n : ℕ) (p : Reader A) → Always (λ xs. length xs ≡ n) (times n p)
unfolding times in_order
all_due {A} zero p = given (λ (xs : List A). length xs ≡ 0) [] refl
all_due {A} (suc n) p =
    in_turn_lem (λ a. Unit {0}) (λ (xs : List A). length xs ≡ suc n) p (λ x. in_order (replicate n p) >>= λ xs. gives (x ∷ xs)) (anything p) λ x u.
    in_turn_lem (λ (xs : List A). length xs ≡ n) (λ (xs : List A). length xs ≡ suc n) (in_order (replicate n p)) (λ xs. gives (x ∷ xs)) (all_due n p) λ xs e.
    given (λ (ys : List A). length ys ≡ suc n) (x ∷ xs) (omega (arith, e))

-- Each number is within its line's limits.
abbrev Fit : List NumberLine → List ℕ → Type 0
Fit [] [] = Unit {0}
Fit [] (n ∷ ns) = ⊥
Fit (l ∷ ls) [] = ⊥
Fit (l ∷ ls) (n ∷ ns) = ((leb l.least n && leb n l.greatest) ≡ true) × Fit ls ns

number_fits : (l : NumberLine) → Always (λ n. (leb l.least n && leb n l.greatest) ≡ true) (due_number l)
unfolding due_number
number_fits l =
    let within : ℕ → Type 0 = λ n. (leb l.least n && leb n l.greatest) ≡ true in
    in_turn_lem (λ n. Unit {0}) within (due l.key number) _ (anything (due l.key number)) λ n u.
    and_then (λ u. within n) within (require (leb l.least n && leb n l.greatest) l.refusal) (gives n) (required _ l.refusal) λ u e.
    given within n e

numbers_fit : (ls : List NumberLine) → Always (Fit ls) (numbers ls)
unfolding numbers in_order
numbers_fit [] = given (Fit []) [] tt
numbers_fit (l ∷ ls) =
    in_turn_lem (λ n. (leb l.least n && leb n l.greatest) ≡ true) (Fit (l ∷ ls)) (due_number l) _ (number_fits l) λ n e.
    in_turn_lem (Fit ls) (Fit (l ∷ ls)) (in_order (map due_number ls)) _ (numbers_fit ls) λ ns f.
    given (Fit (l ∷ ls)) (n ∷ ns) (e, f)

-- The sizes of a launch with a group at least, and the cells that go with them.
pub record Sized (launch : Launch) : Type 0 where
  pub some_group_lem : 1 ≤ launch.sizes.groups
  pub cells_are : length launch.cells ≡ all_cells launch.sizes

some_group_lem : (ns : List ℕ) → Fit size_lines ns → 1 ≤ (sizes_in ns).groups
unfolding size_lines
some_group_lem (threads ∷ cells ∷ zero ∷ global ∷ []) f = let e = f.1.1.0 in let z : ◌≡◌ {A = Bool} false true = e in absurd (let y : ◌≡◌ {A = ℕ} 0 1 = cc in omega arith)
some_group_lem (threads ∷ cells ∷ suc groups ∷ global ∷ []) f = omega arith
some_group_lem [] f = absurd f
some_group_lem (threads ∷ []) f = absurd f.1
some_group_lem (threads ∷ cells ∷ []) f = absurd f.1.1
some_group_lem (threads ∷ cells ∷ groups ∷ []) f = absurd f.1.1.1
some_group_lem (threads ∷ cells ∷ groups ∷ global ∷ more ∷ ns) f = absurd f.1.1.1.1

contents_sized : (Z : Sizes) (limit rows : ℕ) → 1 ≤ Z.groups → Always Sized (content_lines Z limit rows)
unfolding content_lines
contents_sized Z limit rows one =
    in_turn_lem (λ t. Unit {0}) Sized (times rows (due "row" row_value)) _ (anything (times rows (due "row" row_value))) λ table u.
    in_turn_lem (λ (xs : List ℕ). length xs ≡ all_own Z) Sized (times (all_own Z) (due "cell" number)) _ (all_due (all_own Z) (due "cell" number)) λ own a.
    in_turn_lem (λ (xs : List ℕ). length xs ≡ Z.global) Sized (times Z.global (due "gcell" number)) _ (all_due Z.global (due "gcell" number)) λ global b.
    and_then (λ u. Unit {0}) Sized (due "end" (exactly "kernel")) _ (anything (due "end" (exactly "kernel"))) λ u v.
    and_then (λ u. Unit {0}) Sized file_ends _ (anything file_ends) λ u w.
    given Sized (record { sizes = Z; limit = limit; table = table; cells = own ++ global })
    (record { some_group_lem = one; cells_are = length-append own global ∙ ap₂ ◌+◌ a b })

lines_sized : Always Sized launch_lines
unfolding launch_lines
lines_sized =
    and_then (λ u. Unit {0}) Sized (due "kernel" (exactly "1")) _ (anything (due "kernel" (exactly "1"))) λ u v.
    in_turn_lem (Fit size_lines) Sized (numbers size_lines) _ (numbers_fit size_lines) λ ns f.
    and_then (λ u. Unit {0}) Sized (require (leb (all_cells (sizes_in ns)) max_cells) _) _ (anything (require (leb (all_cells (sizes_in ns)) max_cells) _)) λ u w.
    in_turn_lem (Fit length_lines) Sized (numbers length_lines) _ (numbers_fit length_lines) λ ms m.
    contents_sized (sizes_in ns) (limit_in ms) (rows_in ms) (some_group_lem ns f)

never : {A : Type 0} (r : Refusal) (launch : Launch) → refused r ≡ accepted launch → A
never r launch e = let z : ◌≡◌ {A = ℕ} 0 1 = cc in absurd (omega arith)

-- What holds of the launch that the lines give holds of the one that is accepted; and its table is not refused.
kept : (P : Launch → Type 0) (found : Option Refusal) (launch goal : Launch) → table_refusal launch.table ≡ found → unless_refused found launch ≡ accepted goal
    → P launch → (table_refusal goal.table ≡ none) × P goal
unfolding unless_refused
kept P none launch goal q e h = let same : launch ≡ goal = cc in subst (λ l. (table_refusal l.table ≡ none) × P l) same (q, h)
kept P (some r) launch goal q e h = never r goal e

lines_table : (P : Launch → Type 0) (lines : Read Launch) (goal : Launch) → Gives P lines → checked_table lines ≡ accepted goal
    → (table_refusal goal.table ≡ none) × P goal
unfolding checked_table
lines_table P (stop r) goal g e = never r goal e
lines_table P (read launch line rest) goal g e = kept P (table_refusal launch.table) launch goal refl e g

pub accepted_file : (file : List ℕ) (launch : Launch) → file_launch file ≡ accepted launch → (table_refusal launch.table ≡ none) × Sized launch
unfolding file_launch
accepted_file file launch = by (leb (length file) max_file)
  where
    by : (b : Bool) → (elim b as (λ c. Checked Launch) [ true ↦ checked_table (launch_lines 1 file) | false ↦ refused FileTooLong ]) ≡ accepted launch
        → (table_refusal launch.table ≡ none) × Sized launch
    by true e = lines_table Sized (launch_lines 1 file) launch (lines_sized 1 file) e
    by false e = never FileTooLong launch e
