-- Worked launches with shifts by 32 places and more, item 3 of the change requests, each with the report and the whole log. Worked out by hand from the
-- papers. Assumes nothing.
use mathlib.Core.Path.{◌≡◌, refl}
use mathlib.Core.List.{List, [], ◌∷◌, ◌++◌, map}
use lib.ListN.{replicate}
use Rattle.spec.proofs.Lines.{lines}
use Rattle.spec.proofs.Computing.{computing}
use Rattle.workedlaunches.proofs.Worked.{Worked, computed, expected, final_log}

unfoldable pub shift_examples : List Worked
shift_examples =
    -- thread t shifts 2^31 + 9 by cell t, which is 32, 33, 63, 64, 2^31 or 2^32 - 1: by 0, 1, 31, 0, 0 and 31 places; SHR into cell t, SAR into cell 6 + t
    record {
      file = lines "kernel=1/threads=6/cells=13/groups=1/global=0/limit=100/rows=10"
          ++ lines "row=2,0,0,0/row=16,1,0,0/row=1,2,12,0/row=16,3,2,0/row=10,4,3,1/row=11,5,3,1/row=17,0,4,0/row=1,6,6,0/row=4,6,6,0/row=17,6,5,0"
          ++ lines "cell=32/cell=33/cell=63/cell=64/cell=2147483648/cell=4294967295/cell=9/cell=9/cell=9/cell=9/cell=9/cell=9/cell=2147483657/end=kernel";
      report = lines "verdict=passed/row=-/group=-/othergroup=-/thread=-/other=-/kind=-/at=-/rows=10/steps=10/steps=10/steps=10/steps=10/steps=10/steps=10/barriers=0/conflicts=0"
          ++ lines "cell=2147483657/cell=1073741828/cell=1/cell=2147483657/cell=2147483657/cell=1"
          ++ lines "cell=2147483657/cell=3221225476/cell=4294967295/cell=2147483657/cell=2147483657/cell=4294967295/cell=2147483657/end=report";
      log = 1 ∷ 2 ∷ 4 ∷ 8 ∷ 16 ∷ 32 ∷ replicate 6 0 ++ (63 ∷ 1 ∷ 2 ∷ 4 ∷ 8 ∷ 16 ∷ 32 ∷ 1 ∷ 2 ∷ 4 ∷ 8 ∷ 16 ∷ 32 ∷ replicate 14 0)
          ++ (2147483657 ∷ 1073741828 ∷ 1 ∷ 2147483657 ∷ 2147483657 ∷ 1 ∷ 2147483657 ∷ 3221225476 ∷ 4294967295 ∷ 2147483657 ∷ 2147483657 ∷ 4294967295 ∷ replicate 53 0);
    }
    -- thread t halves 3 + t by SHR with 33 until nothing is left, and stores the number of rounds: two and three
    ∷ record {
      file = lines "kernel=1/threads=2/cells=2/groups=1/global=0/limit=100/rows=10"
          ++ lines "row=2,0,0,0/row=1,1,3,0/row=4,1,1,0/row=1,2,33,0/row=1,3,1,0/row=35,0,1,0/row=10,1,1,2/row=4,4,4,3/row=36,0,0,0/row=17,0,4,0"
          ++ lines "cell=9/cell=9/end=kernel";
      report = lines "verdict=passed/row=-/group=-/othergroup=-/thread=-/other=-/kind=-/at=-/rows=19/steps=15/steps=19/barriers=0/conflicts=0/cell=2/cell=3/end=report";
      log = 0 ∷ 0 ∷ 1 ∷ 2 ∷ 0 ∷ 0 ∷ 2 ∷ 3 ∷ replicate 8 0;
    }
    -- SAR by 32 and by 31 under a partial mask: thread 1 keeps its -2, thread 0 gets 0 from 5; as cell numbers, 0 is inside and 2^32 - 2 is outside
    ∷ record {
      file = lines "kernel=1/threads=2/cells=2/groups=1/global=0/limit=100/rows=9"
          ++ lines "row=2,0,0,0/row=16,1,0,0/row=1,2,31,0/row=4,2,2,0/row=32,0,0,0/row=11,3,1,2/row=34,0,0,0/row=11,4,1,2/row=17,4,3,0"
          ++ lines "cell=5/cell=4294967294/end=kernel";
      report = lines "verdict=outside/row=8/group=0/othergroup=-/thread=1/other=-/kind=-/at=4294967294/rows=8/steps=8/steps=8/barriers=0/conflicts=0/cell=0/cell=4294967294/end=report";
      log = 1 ∷ 2 ∷ 1 ∷ replicate 13 0;
    }
    ∷ []

pub worked_shifts : map computed shift_examples ≡ map expected shift_examples
unfolding computing computed expected final_log shift_examples
worked_shifts = refl
