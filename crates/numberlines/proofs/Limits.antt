-- That every number which was read is within the limits of its line. Assumes nothing.
use mathlib.Core.Path.{◌≡◌, refl, subst}
use mathlib.Core.List.{List, [], ◌∷◌, map}
use mathlib.Core.Bool.{Bool, true, false, ◌&&◌, and-eq-true_iff}
use Prim.Native.Nat.{ℕ, zero, suc, ◌≤◌}
use native.Mathlib.Omega.{arith}
use borrow.Author.Tests.{leb-true}
use lib.Dec.{leb}
use lib.ListN.{get_or}
use Rattle.spec.specs.LaunchFile.{NumberLine, Read, stop, read, Reader, continue, ◌>>=◌, ◌>>◌, gives, in_order, require, due, number, due_number, numbers}
use Rattle.spec.specs.declared.Refusal.{Refusal}
use Rattle.numberlines.specs.Answered.{no_line}

pub record Limited (l : NumberLine) (n : ℕ) : Type 0 where
  pub low : l.least ≤ n
  pub high : n ≤ l.greatest

never : {A B : Type 0} {why : Refusal} {a : A} {line : ℕ} {rest : List ℕ} → stop why ≡ read a line rest → B
never e = let z : ◌≡◌ {A = ℕ} 0 1 = cc in absurd (omega arith)

-- Readers one after the other gave a value: the first one gave a value, and the other one gave the value from there.
record Parts {A B : Type 0} (first : Read A) (f : A → Reader B) (b : B) (next : ℕ) (left : List ℕ) : Type 0 where
  value : A
  line : ℕ
  rest : List ℕ
  before : first ≡ read value line rest
  behind : f value line rest ≡ read b next left

parts : {A B : Type 0} (first : Read A) (f : A → Reader B) (b : B) (next : ℕ) (left : List ℕ) → continue first f ≡ read b next left
    → Parts first f b next left
unfolding continue
parts (stop why) f b next left e = never e
parts (read a line rest) f b next left e = record { value = a; line = line; rest = rest; before = refl; behind = e }

required : (t : Bool) (why : Refusal) (line : ℕ) (rest : List ℕ) (u : Unit {0}) (next : ℕ) (left : List ℕ) → require t why line rest ≡ read u next left → t ≡ true
unfolding require
required true why line rest u next left e = refl
required false why line rest u next left e = never e

module _ (l : NumberLine) (line : ℕ) (file : List ℕ) (n next : ℕ) (left : List ℕ) where
  limited : due_number l line file ≡ read n next left → Limited l n
  unfolding due_number ◌>>=◌ ◌>>◌ gives
  limited e =
      let found = parts (due l.key number line file) _ n next left e in
      let v = found.value in
      let passed = parts (require (leb l.least v && leb v l.greatest) l.refusal found.line found.rest) _ n next left found.behind in
      let same : v ≡ n = cc in
      let tests = (and-eq-true_iff _ _).0 (required _ _ _ _ _ _ _ passed.before) in
      subst (λ (m : ℕ). Limited l m) same (record { low = leb-true _ _ tests.0; high = leb-true _ _ tests.1 })

pub all_limited : (ls : List NumberLine) (line : ℕ) (file ns : List ℕ) (next : ℕ) (left : List ℕ) → numbers ls line file ≡ read ns next left
    → (i : ℕ) → Limited (get_or ls i no_line) (get_or ns i 0)
unfolding numbers in_order ◌>>=◌ gives
all_limited [] line file ns next left e i =
    let none : [] ≡ ns = cc in
    rw (← none) (record { low = omega arith; high = omega arith })
all_limited (l ∷ ls) line file ns next left e zero =
    let first = parts (due_number l line file) _ ns next left e in
    let others = parts (in_order (map due_number ls) first.line first.rest) _ ns next left first.behind in
    let same : first.value ∷ others.value ≡ ns = cc in
    rw (← same) (limited l line file first.value first.line first.rest first.before)
all_limited (l ∷ ls) line file ns next left e (suc i) =
    let first = parts (due_number l line file) _ ns next left e in
    let others = parts (in_order (map due_number ls) first.line first.rest) _ ns next left first.behind in
    let same : first.value ∷ others.value ≡ ns = cc in
    rw (← same) (all_limited ls first.line first.rest others.value others.line others.rest others.before i)
