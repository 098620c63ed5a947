-- Worked launches with equal and unequal stores, item 6 of the change requests, each with the report and the whole log. Worked out by hand from the papers.
-- Assumes nothing.
use mathlib.Core.Path.{◌≡◌, refl}
use mathlib.Core.List.{List, [], ◌∷◌, ◌++◌, map}
use lib.ListN.{replicate}
use Rattle.spec.proofs.Lines.{lines}
use Rattle.spec.proofs.Computing.{computing}
use Rattle.workedlaunches.proofs.Worked.{Worked, computed, expected, final_log}

unfoldable pub store_examples : List Worked
store_examples =
    -- five threads set a flag to 1, clear another one, and set a third to 2^32 - 1
    record {
      file = lines "kernel=1/threads=5/cells=4/groups=1/global=0/limit=100/rows=6/row=1,1,1,0/row=17,0,1,0/row=17,1,0,0/row=5,2,0,1/row=1,3,2,0/row=17,3,2,0/cell=9/cell=9/cell=9/cell=9"
          ++ lines "end=kernel";
      report = lines "verdict=passed/row=-/group=-/othergroup=-/thread=-/other=-/kind=-/at=-/rows=6/steps=6/steps=6/steps=6/steps=6/steps=6/barriers=0/conflicts=0/cell=1/cell=0/cell=4294967295"
          ++ lines "cell=9/end=report";
      log = 0 ∷ 0 ∷ 0 ∷ 0 ∷ 31 ∷ 31 ∷ 31 ∷ 0 ∷ 0 ∷ 0 ∷ 0 ∷ 0 ∷ 1 ∷ 0 ∷ 4294967295 ∷ replicate 17 0;
    }
    -- threads 0 and 1 store 5, thread 2 stores 6: it meets thread 0, and its store sets no mark
    ∷ record {
      file = lines "kernel=1/threads=4/cells=5/groups=1/global=0/limit=100/rows=4/row=2,0,0,0/row=16,1,0,0/row=1,2,4,0/row=17,2,1,0/cell=5/cell=5/cell=6/cell=5/cell=9/end=kernel";
      report = lines "verdict=race/row=3/group=0/othergroup=0/thread=2/other=0/kind=ww/at=4/rows=3/steps=4/steps=4/steps=3/steps=3/barriers=0/conflicts=0/cell=5/cell=5/cell=6/cell=5/cell=5"
          ++ lines "end=report";
      log = 1 ∷ 2 ∷ 4 ∷ 8 ∷ 0 ∷ 0 ∷ 0 ∷ 0 ∷ 0 ∷ 3 ∷ 0 ∷ 0 ∷ 0 ∷ 0 ∷ 0 ∷ 0 ∷ 0 ∷ 0 ∷ 0 ∷ 5 ∷ replicate 20 0;
    }
    -- thread 0 stores 5 and 6, thread 1 stores the first of them
    ∷ record {
      file = lines "kernel=1/threads=2/cells=1/groups=1/global=0/limit=100/rows=10/row=2,0,0,0/row=1,1,5,0/row=1,2,6,0/row=12,3,0,15/row=32,0,3,0/row=17,15,1,0/row=17,15,2,0/row=33,0,0,0"
          ++ lines "row=17,15,1,0/row=34,0,0,0/cell=9/end=kernel";
      report = lines "verdict=race/row=8/group=0/othergroup=0/thread=1/other=0/kind=ww/at=0/rows=8/steps=8/steps=5/barriers=0/conflicts=0/cell=6/end=report";
      log = 0 ∷ 1 ∷ 0 ∷ 5 ∷ 1 ∷ replicate 3 0;
    }
    -- the same, but thread 1 stores the last of them, which the cell holds
    ∷ record {
      file = lines "kernel=1/threads=2/cells=1/groups=1/global=0/limit=100/rows=10/row=2,0,0,0/row=1,1,5,0/row=1,2,6,0/row=12,3,0,15/row=32,0,3,0/row=17,15,1,0/row=17,15,2,0/row=33,0,0,0"
          ++ lines "row=17,15,2,0/row=34,0,0,0/cell=9/end=kernel";
      report = lines "verdict=race/row=8/group=0/othergroup=0/thread=1/other=0/kind=ww/at=0/rows=8/steps=8/steps=5/barriers=0/conflicts=0/cell=6/end=report";
      log = 0 ∷ 1 ∷ 0 ∷ 5 ∷ 1 ∷ replicate 3 0;
    }
    -- unequal stores by one thread alone: 5, 6 and 5 to cell 0, 0 and 5 to cell 1, 6 and 6 to cell 2; all values stand before all marks
    ∷ record {
      file = lines "kernel=1/threads=2/cells=3/groups=1/global=0/limit=100/rows=14/row=2,0,0,0/row=1,1,5,0/row=1,2,6,0/row=1,4,2,0/row=32,0,0,0/row=17,0,15,0/row=17,0,1,0/row=33,0,0,0"
          ++ lines "row=17,0,1,0/row=17,0,2,0/row=17,0,1,0/row=17,4,2,0/row=17,4,2,0/row=34,0,0,0/cell=9/cell=9/cell=9/end=kernel";
      report = lines "verdict=passed/row=-/group=-/othergroup=-/thread=-/other=-/kind=-/at=-/rows=14/steps=11/steps=9/barriers=0/conflicts=0/cell=5/cell=5/cell=6/end=report";
      log = 0 ∷ 0 ∷ 0 ∷ 1 ∷ 2 ∷ 1 ∷ 0 ∷ 0 ∷ 0 ∷ 5 ∷ 0 ∷ 6 ∷ 1 ∷ 1 ∷ replicate 10 0;
    }
    -- a first store of 0, by thread 0, and 7 by thread 1: 0 is a value
    ∷ record {
      file = lines "kernel=1/threads=2/cells=1/groups=1/global=0/limit=100/rows=4/row=2,0,0,0/row=1,1,7,0/row=6,2,0,1/row=17,15,2,0/cell=9/end=kernel";
      report = lines "verdict=race/row=3/group=0/othergroup=0/thread=1/other=0/kind=ww/at=0/rows=3/steps=4/steps=3/barriers=0/conflicts=0/cell=0/end=report";
      log = 0 ∷ 1 ∷ replicate 6 0;
    }
    -- the cell held 5 before; thread 0 stores 6, thread 1 stores 5
    ∷ record {
      file = lines "kernel=1/threads=2/cells=1/groups=1/global=0/limit=100/rows=4/row=2,0,0,0/row=1,1,6,0/row=5,2,1,0/row=17,15,2,0/cell=5/end=kernel";
      report = lines "verdict=race/row=3/group=0/othergroup=0/thread=1/other=0/kind=ww/at=0/rows=3/steps=4/steps=3/barriers=0/conflicts=0/cell=6/end=report";
      log = 0 ∷ 1 ∷ 0 ∷ 6 ∷ replicate 4 0;
    }
    -- values that differ in the top bit alone
    ∷ record {
      file = lines "kernel=1/threads=2/cells=3/groups=1/global=0/limit=100/rows=4/row=2,0,0,0/row=16,1,0,0/row=1,2,2,0/row=17,2,1,0/cell=9/cell=2147483657/cell=7/end=kernel";
      report = lines "verdict=race/row=3/group=0/othergroup=0/thread=1/other=0/kind=ww/at=2/rows=3/steps=4/steps=3/barriers=0/conflicts=0/cell=9/cell=2147483657/cell=9/end=report";
      log = 1 ∷ 2 ∷ 0 ∷ 0 ∷ 0 ∷ 1 ∷ 0 ∷ 0 ∷ 0 ∷ 0 ∷ 0 ∷ 9 ∷ replicate 12 0;
    }
    -- thread 0 stores 5 and adds 5, thread 1 stores 5: only the add conflicts
    ∷ record {
      file = lines "kernel=1/threads=2/cells=1/groups=1/global=0/limit=100/rows=10/row=2,0,0,0/row=1,1,5,0/row=1,2,6,0/row=12,3,0,15/row=32,0,3,0/row=17,15,1,0/row=18,15,1,0/row=33,0,0,0"
          ++ lines "row=17,15,1,0/row=34,0,0,0/cell=9/end=kernel";
      report = lines "verdict=race/row=8/group=0/othergroup=0/thread=1/other=0/kind=aw/at=0/rows=8/steps=8/steps=5/barriers=0/conflicts=0/cell=10/end=report";
      log = 0 ∷ 1 ∷ 1 ∷ 5 ∷ replicate 4 0;
    }
    -- thread 0 stores 6 and adds 2^32 - 1, thread 1 stores 5, which the cell holds: the stores conflict
    ∷ record {
      file = lines "kernel=1/threads=2/cells=1/groups=1/global=0/limit=100/rows=11/row=2,0,0,0/row=1,1,5,0/row=1,2,6,0/row=12,3,0,15/row=5,4,1,2/row=32,0,3,0/row=17,15,2,0/row=18,15,4,0"
          ++ lines "row=33,0,0,0/row=17,15,1,0/row=34,0,0,0/cell=9/end=kernel";
      report = lines "verdict=race/row=9/group=0/othergroup=0/thread=1/other=0/kind=ww/at=0/rows=9/steps=9/steps=6/barriers=0/conflicts=0/cell=5/end=report";
      log = 0 ∷ 1 ∷ 1 ∷ 6 ∷ replicate 4 0;
    }
    -- thread 0 stores 5 and loads it, thread 1 stores 5: only the load conflicts
    ∷ record {
      file = lines "kernel=1/threads=2/cells=1/groups=1/global=0/limit=100/rows=10/row=2,0,0,0/row=1,1,5,0/row=1,2,6,0/row=12,3,0,15/row=32,0,3,0/row=17,15,1,0/row=16,4,15,0/row=33,0,0,0"
          ++ lines "row=17,15,1,0/row=34,0,0,0/cell=9/end=kernel";
      report = lines "verdict=race/row=8/group=0/othergroup=0/thread=1/other=0/kind=rw/at=0/rows=8/steps=8/steps=5/barriers=0/conflicts=0/cell=5/end=report";
      log = 1 ∷ 1 ∷ 0 ∷ 5 ∷ replicate 4 0;
    }
    -- the same, but thread 1 stores 6: the stores conflict
    ∷ record {
      file = lines "kernel=1/threads=2/cells=1/groups=1/global=0/limit=100/rows=10/row=2,0,0,0/row=1,1,5,0/row=1,2,6,0/row=12,3,0,15/row=32,0,3,0/row=17,15,1,0/row=16,4,15,0/row=33,0,0,0"
          ++ lines "row=17,15,2,0/row=34,0,0,0/cell=9/end=kernel";
      report = lines "verdict=race/row=8/group=0/othergroup=0/thread=1/other=0/kind=ww/at=0/rows=8/steps=8/steps=5/barriers=0/conflicts=0/cell=5/end=report";
      log = 1 ∷ 1 ∷ 0 ∷ 5 ∷ replicate 4 0;
    }
    -- a LOAD beside equal stores, and an add of that value
    ∷ record {
      file = lines "kernel=1/threads=3/cells=1/groups=1/global=0/limit=100/rows=3/row=1,1,5,0/row=17,0,1,0/row=16,2,0,0/cell=9/end=kernel";
      report = lines "verdict=race/row=2/group=0/othergroup=0/thread=0/other=1/kind=wr/at=0/rows=2/steps=2/steps=2/steps=2/barriers=0/conflicts=0/cell=5/end=report";
      log = 0 ∷ 7 ∷ 0 ∷ 5 ∷ replicate 4 0;
    }
    ∷ record {
      file = lines "kernel=1/threads=3/cells=1/groups=1/global=0/limit=100/rows=3/row=1,1,5,0/row=17,0,1,0/row=18,0,1,0/cell=9/end=kernel";
      report = lines "verdict=race/row=2/group=0/othergroup=0/thread=0/other=1/kind=wa/at=0/rows=2/steps=2/steps=2/steps=2/barriers=0/conflicts=0/cell=5/end=report";
      log = 0 ∷ 7 ∷ 0 ∷ 5 ∷ replicate 4 0;
    }
    -- equal stores in both parts of an IF; a BARRIER that nobody comes to forgets none of them, and thread 0, which stored too, meets thread 1
    ∷ record {
      file = lines "kernel=1/threads=2/cells=1/groups=1/global=0/limit=100/rows=13/row=2,0,0,0/row=1,1,5,0/row=1,2,6,0/row=12,3,0,15/row=32,0,3,0/row=17,15,1,0/row=33,0,0,0/row=17,15,1,0"
          ++ lines "row=34,0,0,0/row=32,0,15,0/row=37,0,0,0/row=34,0,0,0/row=17,15,2,0/cell=9/end=kernel";
      report = lines "verdict=race/row=12/group=0/othergroup=0/thread=0/other=1/kind=ww/at=0/rows=12/steps=10/steps=9/barriers=0/conflicts=0/cell=5/end=report";
      log = 0 ∷ 3 ∷ 0 ∷ 5 ∷ replicate 4 0;
    }
    -- a BARRIER clears values and marks: before it 5 and 6 to cell 0 by thread 0, 5 to cell 1 by both and to cell 2 by thread 1, behind it 6 to cells 0 and 1 by both
    ∷ record {
      file = lines "kernel=1/threads=2/cells=3/groups=1/global=0/limit=100/rows=15/row=2,0,0,0/row=1,1,5,0/row=1,2,6,0/row=1,4,1,0/row=1,5,2,0/row=17,4,1,0/row=32,0,0,0/row=17,5,1,0"
          ++ lines "row=33,0,0,0/row=17,15,1,0/row=17,15,2,0/row=34,0,0,0/row=37,0,0,0/row=17,15,2,0/row=17,4,2,0/cell=9/cell=9/cell=9/end=kernel";
      report = lines "verdict=passed/row=-/group=-/othergroup=-/thread=-/other=-/kind=-/at=-/rows=15/steps=12/steps=12/barriers=1/conflicts=0/cell=6/cell=6/cell=5/end=report";
      log = 0 ∷ 0 ∷ 0 ∷ 3 ∷ 3 ∷ 0 ∷ 0 ∷ 0 ∷ 0 ∷ 6 ∷ 6 ∷ replicate 13 0;
    }
    ∷ []

pub worked_stores : map computed store_examples ≡ map expected store_examples
unfolding computing computed expected final_log store_examples
worked_stores = refl
