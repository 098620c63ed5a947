-- That an answer to what the lines come to is an answer to the lines. Assumes nothing.
use mathlib.Core.Path.{◌≡◌, refl, sym, subst, ◌∙◌}
use mathlib.Core.List.{List}
use Prim.Native.Nat.{ℕ, zero, suc, ◌+◌, ◌-◌, ◌*◌}
use native.Mathlib.Omega.{arith}
use lib.ListN.{drop, replicate}
use Rattle.spec.specs.Shape.{Sizes, sizes, all_own}
use Rattle.spec.specs.LaunchFile.{Read, stop, content_lines}
use Rattle.spec.specs.declared.Refusal.{Refusal}
use Rattle.std.specs.Prelude.{Result, Ok, Err}
use Rattle.numberlines.specs.Answered.{line_count, answered}
use Rattle.launchfile.specs.declared.Launch.{Launch}
use Rattle.launchfile.specs.Parsed.{Within, ReadAs, ContentsRead, lines_read, ParsedIs}
use Rattle.spec.specs.Launch as definition

zeros_behind_lem : (n k : ℕ) → drop k (replicate {A = ℕ} n 0) ≡ replicate (n - k) 0
zeros_behind_lem n zero = let e : n - 0 ≡ n = omega arith in rw e
zeros_behind_lem zero (suc k) = let e : 0 - suc k ≡ 0 = omega arith in rw e
zeros_behind_lem (suc n) (suc k) = let e : suc n - suc k ≡ n - k = omega arith in rw e (zeros_behind_lem n k)

pub answers : {whole part : Read definition.Launch} (r : Result Launch Refusal) → whole ≡ part → ReadAs part r → ReadAs whole r
answers r e h = rw e h

-- What reading the lines behind the numbers comes to, as the launch that is answered.
module _ (Z : Sizes) (limit : ℕ) {rows count shared : ℕ} {rest table cells global : List ℕ} {r : Result (Unit {0}) Refusal} {table' cells' global' : List ℕ}
    (C : ContentsRead rest rows count shared table cells global r table' cells' global') (c : count ≡ all_own Z) (g : shared ≡ Z.global) where
  pub contents_refused : {why : Refusal} → r ≡ Err why → ReadAs (content_lines Z limit rows (2 + line_count) rest) (Err why)
  unfolding answered
  contents_refused e = rw (C.answer Z limit c g, e)

  -- without common cells
  pub contents_accepted : (plain : Z ≡ sizes Z.threads Z.cells Z.groups Z.global)
      → r ≡ Ok tt → table ≡ replicate 1024 0 → cells ≡ replicate 1024 0 → global ≡ replicate 1024 0 → Within Z limit rows
      → ReadAs (content_lines Z limit rows (2 + line_count) rest)
      (Ok (record {
        threads = Z.threads;
        groups = Z.groups;
        limit = limit;
        rows = rows;
        each = Z.cells;
        count = count;
        shared = shared;
        table = table';
        cells = cells';
        global = global';
      }))
  unfolding answered
  contents_accepted plain e t w v within =
      let f = C.filled e in
      rw (C.answer Z limit c g, e)
      (record {
        sizes_are = rw g (sym plain);
        limit = refl;
        table = refl;
        cells = refl;
        own = c;
        within = rw g (subst (λ Y. Within Y limit rows) plain within);
        table_long = f.table_long;
        cells_long = f.cells_long;
        global_long = f.global_long;
        table_zeros = f.table_kept ∙ rw t (zeros_behind_lem 1024 (4 * rows));
        cells_zeros = f.cells_kept ∙ rw w (zeros_behind_lem 1024 count);
        global_zeros = f.global_kept ∙ rw v (zeros_behind_lem 1024 shared);
      })

pub refused_is : {file : List ℕ} {why : Refusal} → lines_read file ≡ stop why → ParsedIs file (Err why)
refused_is e = record { read_as = rw e; bytes = tt }
