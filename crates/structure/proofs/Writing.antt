-- That the rows of every body nest. Assumes nothing.
use mathlib.Core.Path.{refl}
use mathlib.Core.List.{List, [], ◌∷◌, ◌++◌, append_assoc, append-nil}
use Prim.Native.Nat.{ℕ, suc, ◌+◌, ◌≤◌}
use native.Mathlib.Omega.{arith}
use lib.ListN.{length}
use Rattle.spec.specs.Limits.{max_nesting}
use Rattle.spec.specs.Table.{Table}
use Rattle.spec.specs.Grammar.{Body, plain_row, construct, Construct, if_end, if_else, while, body_rows, construct_rows, body_depth, construct_depth}
use Rattle.spec.specs.TableCheck.{Open, in_then, in_else, in_loop}
use Rattle.structure.proofs.Ops.{plain_of_role}
use Rattle.structure.proofs.Nesting.{starts_if, starts_loop, stays, opens, divides, closes, Nests, ended, row, end_op}

regroup : (xs ys zs : Table) {r : ℕ} {os : List Open} → Nests (xs ++ (ys ++ zs)) r os → Nests ((xs ++ ys) ++ zs) r os
regroup xs ys zs n = rw append_assoc n

-- A body nests before all rows that nest where it ends, whatever their numbers.
mutual
  unfolding body_rows body_depth end_op

  body_nests : (b : Body) (rest : Table) (r : ℕ) (os : List Open) → length os + body_depth b ≤ max_nesting → ((i : ℕ) → Nests rest i os)
      → Nests (body_rows b ++ rest) r os
  body_nests Body.empty rest r os l n = n r
  body_nests (plain_row x p b) rest r os l n = row refl (stays (plain_of_role x.op p)) (body_nests b rest (suc r) os l n)
  body_nests (construct c b) rest r os l n =
      regroup (construct_rows c) (body_rows b) rest (construct_nests c (body_rows b ++ rest) r os (omega arith) (λ i. body_nests b rest i os (omega arith) n))

  construct_nests : (c : Construct) (rest : Table) (r : ℕ) (os : List Open) → length os + construct_depth c ≤ max_nesting → ((i : ℕ) → Nests rest i os)
      → Nests (construct_rows c ++ rest) r os
  construct_nests (if_end x p b z q) rest r os l n =
      row p (opens {os = os} starts_if (omega arith))
      (regroup (body_rows b) (z ∷ []) rest (body_nests b (z ∷ rest) (suc r) (in_then r ∷ os) (omega arith) (λ i. row q closes (n (suc i)))))
  construct_nests (if_else x p b y q c z e) rest r os l n =
      row p (opens {os = os} starts_if (omega arith))
      (regroup (body_rows b) (y ∷ (body_rows c ++ (z ∷ []))) rest
      (body_nests b (y ∷ ((body_rows c ++ (z ∷ [])) ++ rest)) (suc r) (in_then r ∷ os) (omega arith) (λ i.
      row q divides
      (regroup (body_rows c) (z ∷ []) rest (body_nests c (z ∷ rest) (suc i) (in_else r ∷ os) (omega arith) (λ j. row e closes (n (suc j))))))))
  construct_nests (while x p b z q) rest r os l n =
      row p (opens {os = os} starts_loop (omega arith))
      (regroup (body_rows b) (z ∷ []) rest (body_nests b (z ∷ rest) (suc r) (in_loop r ∷ os) (omega arith) (λ i. row q closes (n (suc i)))))

pub written : (b : Body) → body_depth b ≤ max_nesting → Nests (body_rows b) 0 []
written b l = rw append-nil at (body_nests b [] 0 [] (omega arith) (λ i. ended))
