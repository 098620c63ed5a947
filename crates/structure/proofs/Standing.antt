-- What is open before each row of a table whose rows nest, as the runs have it and as the check has it. Assumes nothing.
use mathlib.Core.Path.{◌≡◌, refl, sym, ap, ap₂}
use mathlib.Core.Logic.{inl, inr}
use mathlib.Core.List.{List, [], ◌∷◌, tail, map, cons≢nil, head-eq_of_cons-eq, tail-eq_of_cons-eq}
use mathlib.Core.Bool.{true}
use Prim.Native.Nat.{ℕ, zero, suc, ◌≤◌, ◌<◌}
use native.Mathlib.Omega.{arith}
use lib.ListN.{length, drop, length-map}
use lib.Seq.{drop-cons, drop-length}
use Rattle.spec.specs.Limits.{max_nesting}
use Rattle.spec.specs.Op.{Op}
use Rattle.spec.specs.Table.{Table, no_row, row_at, role, opened_by, open_before, innermost, Fits}
use Rattle.spec.specs.TableCheck.{Open, in_then, in_else, in_loop, is_known}
use Rattle.structure.proofs.Nesting.{head_op, end_op, starts_if, starts_loop, Step, stays, opens, divides, closes, step_depth, Nests, ended, Begins, begins}

module _ (T : Table) where
  unfoldable pub op_at : ℕ → Op
  op_at r = (row_at T r).op

  -- The innermost open construct, and those around it.
  top : (bs : List ℕ) {p : Op} {ps : List Op} → map op_at bs ≡ p ∷ ps → (innermost T bs ≡ p) × (map op_at (tail bs) ≡ ps)
  unfolding op_at innermost
  top [] e = absurd (cons≢nil (sym e))
  top (b ∷ bs) e = (head-eq_of_cons-eq e, tail-eq_of_cons-eq e)

  -- The heads of the open constructs are the same for both, and stay so over a row that steps.
  heads_after : {r : ℕ} {op : Op} {before after : List Open} → Step r op before after → op_at r ≡ op → (bs : List ℕ) → map op_at bs ≡ map head_op before
      → map op_at (opened_by (role op) r bs) ≡ map head_op after
  unfolding role opened_by head_op end_op
  heads_after (stays q) p bs h = rw q.alone h
  heads_after (opens starts_if l) p bs h = ap₂ ◌∷◌ p h
  heads_after (opens starts_loop l) p bs h = ap₂ ◌∷◌ p h
  heads_after divides p bs h = ap₂ ◌∷◌ p (top bs h).1
  heads_after (closes {o = in_then k}) p bs h = (top bs h).1
  heads_after (closes {o = in_else k}) p bs h = (top bs h).1
  heads_after (closes {o = in_loop k}) p bs h = (top bs h).1

  -- A known row that steps fits the innermost of them.
  fits_there : {r : ℕ} {op : Op} {before after : List Open} → Step r op before after → is_known op ≡ true → (bs : List ℕ) → map op_at bs ≡ map head_op before
      → Fits op (innermost T bs)
  unfolding head_op end_op
  fits_there (stays q) k bs h = q.anywhere k (innermost T bs)
  fits_there (opens starts_if l) k bs h = tt
  fits_there (opens starts_loop l) k bs h = tt
  fits_there divides k bs h = (top bs h).0
  fits_there (closes {o = in_then j}) k bs h = inl (top bs h).0
  fits_there (closes {o = in_else j}) k bs h = inr (top bs h).0
  fits_there (closes {o = in_loop j}) k bs h = (top bs h).0

  -- Before row r: the check's open constructs are those of the runs, and the rows from r on nest in them.
  pub record Stands (r : ℕ) : Type 0 where
    pub open_here : List Open
    pub heads : map op_at (open_before T r) ≡ map head_op open_here
    pub deep : length open_here ≤ max_nesting
    pub onward : Nests (drop r T) r open_here

  -- The row there.
  pub begins_at : (r : ℕ) → r < length T → (s : Stands r) → Begins (row_at T r) (drop (suc r) T) r s.open_here
  unfolding row_at
  begins_at r l s = begins (rw (drop-cons T r no_row l) at s.onward)

  pub stands : Nests T 0 [] → (r : ℕ) → r ≤ length T → Stands r
  unfolding open_before op_at
  stands n zero l = record { open_here = []; heads = refl; deep = omega arith; onward = n }
  stands n (suc r) l =
      let s = stands n r (omega arith) in
      let b = begins_at r l s in
      record {
        open_here = b.after;
        heads = heads_after b.now refl (open_before T r) s.heads;
        deep = step_depth b.now s.deep;
        onward = b.later;
      }

  pub fitting : Nests T 0 [] → (r : ℕ) → r < length T → is_known (row_at T r).op ≡ true → Fits (row_at T r).op (innermost T (open_before T r))
  fitting n r l k = let s = stands n r (omega arith) in fits_there (begins_at r l s).now k (open_before T r) s.heads

  pub closed : Nests T 0 [] → open_before T (length T) ≡ []
  closed n =
      let s = stands n (length T) (omega arith) in
      none_open (open_before T (length T)) (rw drop-length at s.onward) s.heads
    where
      none_open : (bs : List ℕ) {r : ℕ} {os : List Open} → Nests [] r os → map op_at bs ≡ map head_op os → bs ≡ []
      none_open [] n h = refl
      none_open (b ∷ bs) ended h = cc

  pub depth : Nests T 0 [] → (r : ℕ) → r ≤ length T → length (open_before T r) ≤ max_nesting
  depth n r l = let s = stands n r l in omega (arith, s.deep, simp length-map at (ap length s.heads))
