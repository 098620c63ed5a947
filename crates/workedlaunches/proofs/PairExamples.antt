-- Worked pairs, item 12 of the change requests: the filter's file, the trigger's and the common one, with all that is printed. `/` stands between the lines. Worked out
-- by hand from the papers. Assumes nothing.
use mathlib.Core.Path.{◌≡◌, refl}
use mathlib.Core.List.{List, [], ◌∷◌, ◌++◌, map}
use Prim.Native.Nat.{ℕ}
use lib.ListN.{replicate}
use Rattle.spec.specs.Lists.{joined}
use Rattle.spec.specs.Text.{text}
use Rattle.spec.specs.PairFiles.{pair_prints}
use Rattle.spec.proofs.Lines.{lines}
use Rattle.spec.proofs.Computing.{computing}

pub record WorkedPair : Type 0 where
  pub filter : List ℕ
  pub trigger : List ℕ
  pub common : List ℕ
  pub prints : List ℕ

-- Thread t loads common cell t into own cell 16 × t, both of one bank; behind a BARRIER each adds up both, which costs again, and stores the sum to cell 1 + t.
unfoldable pub summing : List ℕ
summing =
    lines "kernel=1/threads=2/cells=17/groups=1/global=0/limit=100/rows=15/row=2,0,0,0/row=1,4,0,1/row=6,5,4,4/row=4,5,5,0/row=16,3,5,0/row=1,6,16,0/row=6,7,6,0"
    ++ (lines "row=17,7,3,0/row=37,0,0,0/row=5,8,6,7/row=16,9,8,0/row=4,9,9,3/row=1,1,1,0/row=4,1,1,0/row=17,1,9,0"
    ++ (joined (replicate 17 (text "cell=0\n")) ++ lines "end=kernel"))

unfoldable pub summed : List ℕ
summed =
    lines "verdict=passed/row=-/group=-/othergroup=-/thread=-/other=-/kind=-/at=-/rows=15/steps=14/steps=14/barriers=1/conflicts=2/cell=77/cell=165/cell=165"
    ++ (joined (replicate 13 (text "cell=0\n")) ++ lines "cell=88/end=report")

-- Two groups. Each thread adds 65,536 to the global cell and stores it to the own cell of its launch number; that of launch number 3 stores to common cell 3.
unfoldable pub straying : List ℕ
straying =
    lines "kernel=1/threads=2/cells=4/groups=2/global=1/limit=100/rows=9/row=19,0,0,0/row=1,4,0,1/row=6,5,4,4/row=1,1,3,0/row=12,6,0,1/row=6,7,6,5/row=4,7,7,0"
    ++ lines "row=22,8,5,0/row=17,7,5,0/cell=0/cell=0/cell=0/cell=0/cell=0/cell=0/cell=0/cell=0/gcell=0/end=kernel"

unfoldable pub strayed : (verdict : List ℕ) → List ℕ
strayed verdict =
    verdict
    ++ (lines "row=8/group=1/othergroup=-/thread=1/other=-/kind=-/at=65539/rows=17/steps=9/steps=9/steps=9/steps=8/barriers=0/conflicts=0"
    ++ lines "cell=65536/cell=65536/cell=0/cell=0/cell=0/cell=0/cell=65536/cell=0/gcell=262144/end=report")

-- A table with an op that there is none of, in row 1.
unfoldable pub unknown : List ℕ
unknown = lines "kernel=1/threads=1/cells=1/groups=1/global=0/limit=0/rows=2/row=2,0,0,0/row=15,0,0,0/cell=0/end=kernel"

unfoldable pub worked_pairs : List WorkedPair
worked_pairs =
    record {
      filter = summing;
      trigger = straying;
      common = lines "common=4/cell=77/cell=88/cell=99/cell=4294967295/end=common";
      prints = summed ++ strayed (lines "verdict=common");
    }
    -- the other way round, and with three common cells: launch number 3 is outside
    ∷ record {
      filter = straying;
      trigger = summing;
      common = lines "common=3/cell=77/cell=88/cell=99/end=common";
      prints = strayed (lines "verdict=outside") ++ summed;
    }
    -- the same kernel twice: each has its own cells
    ∷ record { filter = summing; trigger = summing; common = lines "common=2/cell=77/cell=88/end=common"; prints = summed ++ summed }
    -- a table that is refused, beside a kernel that is not; and the same with a common file that counts a cell too many
    ∷ record {
      filter = unknown;
      trigger = summing;
      common = lines "common=2/cell=77/cell=88/end=common";
      prints = lines "refused=3/place=1/end=report" ++ summed;
    }
    ∷ record {
      filter = summing;
      trigger = unknown;
      common = lines "common=3/cell=77/cell=88/end=common";
      prints = lines "refused=37/place=4/end=report/refused=3/place=1/end=report";
    }
    ∷ []

pub worked_pairs_lem : map (λ x. pair_prints x.filter x.trigger x.common) worked_pairs ≡ map (λ x. x.prints) worked_pairs
unfolding computing summing summed straying strayed unknown worked_pairs
worked_pairs_lem = refl
