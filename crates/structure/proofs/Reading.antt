-- That rows which nest are the rows of a body, read from the last row up. Assumes nothing.
use mathlib.Core.Path.{◌≡◌, refl, ◌∙◌, ap}
use mathlib.Core.List.{List, [], ◌∷◌, ◌++◌, append_assoc, append-nil}
use Prim.Native.Nat.{ℕ, suc, ◌+◌, ◌≤◌, max}
use native.Mathlib.Omega.{arith}
use lib.ListN.{length}
use Rattle.spec.specs.Limits.{max_nesting}
use Rattle.spec.specs.Op.{Op, ELSE}
use Rattle.spec.specs.Table.{Row, Table, role}
use Rattle.spec.specs.Grammar.{Body, plain_row, construct, Construct, if_end, if_else, while, body_rows, construct_rows, body_depth, construct_depth}
use Rattle.spec.specs.TableCheck.{Open, in_then, in_else}
use Rattle.structure.proofs.Nesting.{end_op, Starts, starts_if, starts_loop, Step, stays, opens, divides, closes, step_depth, Nests, ended, row}

-- How an open construct goes on after a body: with its end, or with an ELSE and a second part.
data Ending : Open → Type 0 where
  at : {o : Open} (z : Row) → z.op ≡ end_op o → Ending o
  past : {k : ℕ} (y : Row) → y.op ≡ ELSE → Body → Ending (in_else k) → Ending (in_then k)

ending_rows : {o : Open} → Ending o → Table
ending_rows (at z q) = z ∷ []
ending_rows (past y q b e) = y ∷ (body_rows b ++ ending_rows e)

ending_depth : {o : Open} → Ending o → ℕ
ending_depth (at z q) = 0
ending_depth (past y q b e) = max (body_depth b) (ending_depth e)

-- A whole construct, from its first row, its first part and its ending.
record Built (x : Row) (b : Body) {o : Open} (e : Ending o) : Type 0 where
  whole : Construct
  rows : construct_rows whole ≡ x ∷ (body_rows b ++ ending_rows e)
  depth : construct_depth whole ≤ suc (max (body_depth b) (ending_depth e))

build : {r : ℕ} {op : Op} {o : Open} (x : Row) → x.op ≡ op → Starts r op o → (b : Body) (e : Ending o) → Built x b e
unfolding construct_rows body_rows construct_depth body_depth ending_rows ending_depth end_op
build x p starts_if b (at z q) = record { whole = if_end x p b z q; rows = refl; depth = omega arith }
build x p starts_if b (past y q c (at z e)) = record { whole = if_else x p b y q c z e; rows = refl; depth = omega arith }
build x p starts_loop b (at z q) = record { whole = while x p b z q; rows = refl; depth = omega arith }

-- Rows that begin with those of a body or an ending, d constructs being open there, and go on with rows that are `After`.
record Begin {A : Type 0} (rows_of : A → Table) (depth_of : A → ℕ) (d : ℕ) (After : Table → Type 0) (rows : Table) : Type 0 where
  front : A
  rest : Table
  split : rows_of front ++ rest ≡ rows
  deep : d + depth_of front ≤ max_nesting
  after : After rest

-- Rows that end the open constructs from the innermost on, with a body after each end.
abbrev EndsAll : List Open → Table → Type 0
EndsAll [] rows = rows ≡ []
EndsAll (o ∷ os) rows = Begin (ending_rows {o = o}) ending_depth (suc (length os)) (Begin body_rows body_depth (length os) (EndsAll os)) rows

abbrev Reads : List Open → Table → Type 0
Reads os rows = Begin body_rows body_depth (length os) (EndsAll os) rows

-- One more row in front. An opening row makes a construct of the body and the ending behind it.
grow : {r : ℕ} {op : Op} {before after : List Open} (x : Row) → x.op ≡ op → Step r op before after → (rows : Table) → length before ≤ max_nesting
    → Reads after rows → Reads before (x ∷ rows)
unfolding body_rows body_depth ending_rows ending_depth
grow x p (stays q) rows l m =
    record { front = plain_row x (ap role p ∙ q.alone) m.front; rest = m.rest; split = simp m.split; deep = m.deep; after = m.after }
grow x p (opens s k) rows l m =
    let e = m.after in
    let n = e.after in
    let c = build x p s m.front e.front in
    record {
      front = construct c.whole n.front;
      rest = n.rest;
      split = simp (c.rows, append_assoc, n.split, e.split, m.split);
      deep = omega (arith, c.depth, m.deep, n.deep, e.deep);
      after = n.after;
    }
grow x p divides rows l m =
    let e = m.after in
    record {
      front = Body.empty;
      rest = x ∷ rows;
      split = refl;
      deep = omega arith;
      after =
          record {
            front = past x p m.front e.front;
            rest = e.rest;
            split = simp (append_assoc, e.split, m.split);
            deep = omega (arith, m.deep, e.deep);
            after = e.after;
          };
    }
grow x p closes rows l m =
    record {
      front = Body.empty;
      rest = x ∷ rows;
      split = refl;
      deep = omega arith;
      after = record { front = at x p; rest = rows; split = refl; deep = omega arith; after = m };
    }

reads : {rows : Table} {r : ℕ} {os : List Open} → Nests rows r os → length os ≤ max_nesting → Reads os rows
unfolding body_rows body_depth
reads ended l = record { front = Body.empty; rest = []; split = refl; deep = omega arith; after = refl }
reads (row {x} {rows} p s n) l = grow x p s rows l (reads n (step_depth s l))

-- A body with the rows of T, at most eight deep.
pub record Read (T : Table) : Type 0 where
  pub body : Body
  pub whole : body_rows body ≡ T
  pub shallow : body_depth body ≤ max_nesting

pub read : {T : Table} → Nests T 0 [] → Read T
read n =
    let m = reads n (omega arith) in
    record { body = m.front; whole = simp (m.after, append-nil) at m.split; shallow = omega (arith, m.deep) }
