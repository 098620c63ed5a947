-- Worked launch files of several groups and with global cells, item 7 of the change requests, each with the report and the whole log, and below with the words
-- of its records. The log is given kind by kind: readers, writers, adders, first values, marks, then the groups that have read, written and added; in each kind
-- the own cells of group 0, of group 1 and so on, then the global ones. Worked out by hand from the papers, and compared with a small model written from them.
-- Assumes nothing.
use mathlib.Core.Path.{◌≡◌, refl}
use mathlib.Core.List.{List, [], ◌∷◌, ◌++◌, map}
use Prim.Native.Nat.{ℕ}
use lib.ListN.{replicate}
use Rattle.spec.specs.Lists.{joined}
use Rattle.spec.specs.LaunchFile.{file_launch}
use Rattle.spec.proofs.Lines.{lines}
use Rattle.spec.proofs.Computing.{computing}
use Rattle.workedlaunches.proofs.Worked.{Worked, computed, expected, final_log, final_records}

unfoldable pub group_files : List Worked
group_files =
    -- a sum in two steps: the threads of a group add their cells into own cell 2, and behind a BARRIER thread 0 adds that into the global cell, once a group
    record {
      file = lines "kernel=1/threads=2/cells=3/groups=2/global=1/limit=100/rows=10/row=2,0,0,0/row=16,1,0,0/row=1,2,2,0/row=18,2,1,0/row=37,0,0,0/row=12,3,0,15"
          ++ lines "row=32,0,3,0/row=16,4,2,0/row=22,15,4,0/row=34,0,0,0/cell=3/cell=4/cell=0/cell=5/cell=6/cell=0/gcell=100/end=kernel";
      report = lines "verdict=passed/row=-/group=-/othergroup=-/thread=-/other=-/kind=-/at=-/rows=20/steps=9/steps=7/steps=9/steps=7/barriers=2/conflicts=0"
          ++ lines "cell=3/cell=4/cell=7/cell=5/cell=6/cell=11/gcell=118/end=report";
      log = joined
          ((0 ∷ 0 ∷ 1 ∷ 0 ∷ 0 ∷ 1 ∷ 0 ∷ [])
          ∷ replicate 7 0
          ∷ (0 ∷ 0 ∷ 0 ∷ 0 ∷ 0 ∷ 0 ∷ 1 ∷ [])
          ∷ replicate 4 (replicate 7 0)
          ++ ((0 ∷ 0 ∷ 0 ∷ 0 ∷ 0 ∷ 0 ∷ 3 ∷ []) ∷ []));
    }
    -- the same with a store in that add's place: group 1's meets group 0's, of whom no thread is named. The log of the global cell is group 1's, clear since its BARRIER
    ∷ record {
      file = lines "kernel=1/threads=2/cells=3/groups=2/global=1/limit=100/rows=10/row=2,0,0,0/row=16,1,0,0/row=1,2,2,0/row=18,2,1,0/row=37,0,0,0/row=12,3,0,15"
          ++ lines "row=32,0,3,0/row=16,4,2,0/row=21,15,4,0/row=34,0,0,0/cell=3/cell=4/cell=0/cell=5/cell=6/cell=0/gcell=100/end=kernel";
      report = lines "verdict=race/row=8/group=1/othergroup=0/thread=0/other=-/kind=ww/at=0/rows=18/steps=9/steps=7/steps=7/steps=6/barriers=2/conflicts=0"
          ++ lines "cell=3/cell=4/cell=7/cell=5/cell=6/cell=11/gcell=7/end=report";
      log = joined ((0 ∷ 0 ∷ 1 ∷ 0 ∷ 0 ∷ 1 ∷ 0 ∷ []) ∷ replicate 5 (replicate 7 0) ++ ((0 ∷ 0 ∷ 0 ∷ 0 ∷ 0 ∷ 0 ∷ 1 ∷ []) ∷ replicate 7 0 ∷ []));
    }
    -- each thread stores its number to the global cell of that number: fine in one group; in two, thread 0 of group 1 meets thread 0 of group 0, though the value is
    -- the same; by launch number it is fine again
    ∷ record {
      file = lines "kernel=1/threads=2/cells=1/groups=1/global=4/limit=100/rows=2/row=2,0,0,0/row=21,0,0,0/cell=9/gcell=5/gcell=5/gcell=5/gcell=5/end=kernel";
      report = lines "verdict=passed/row=-/group=-/othergroup=-/thread=-/other=-/kind=-/at=-/rows=2/steps=2/steps=2/barriers=0/conflicts=0"
          ++ lines "cell=9/gcell=0/gcell=1/gcell=5/gcell=5/end=report";
      log = joined
          (replicate 5 0
          ∷ (0 ∷ 1 ∷ 2 ∷ 0 ∷ 0 ∷ [])
          ∷ replicate 5 0
          ∷ (0 ∷ 0 ∷ 1 ∷ 0 ∷ 0 ∷ [])
          ∷ replicate 5 0
          ∷ replicate 5 0
          ∷ (0 ∷ 1 ∷ 1 ∷ 0 ∷ 0 ∷ [])
          ∷ replicate 5 0
          ∷ []);
    }
    ∷ record {
      file = lines "kernel=1/threads=2/cells=1/groups=2/global=4/limit=100/rows=2/row=2,0,0,0/row=21,0,0,0/cell=9/cell=8/gcell=5/gcell=5/gcell=5/gcell=5/end=kernel";
      report = lines "verdict=race/row=1/group=1/othergroup=0/thread=0/other=-/kind=ww/at=0/rows=3/steps=2/steps=2/steps=1/steps=1/barriers=0/conflicts=0"
          ++ lines "cell=9/cell=8/gcell=0/gcell=1/gcell=5/gcell=5/end=report";
      log = joined (replicate 6 (replicate 6 0) ++ ((0 ∷ 0 ∷ 1 ∷ 1 ∷ 0 ∷ 0 ∷ []) ∷ replicate 6 0 ∷ []));
    }
    ∷ record {
      file = lines "kernel=1/threads=2/cells=1/groups=2/global=4/limit=100/rows=2/row=19,0,0,0/row=21,0,0,0/cell=9/cell=8/gcell=5/gcell=5/gcell=5/gcell=5/end=kernel";
      report = lines "verdict=passed/row=-/group=-/othergroup=-/thread=-/other=-/kind=-/at=-/rows=4/steps=2/steps=2/steps=2/steps=2/barriers=0/conflicts=0"
          ++ lines "cell=9/cell=8/gcell=0/gcell=1/gcell=2/gcell=3/end=report";
      log = joined
          (replicate 6 0
          ∷ (0 ∷ 0 ∷ 0 ∷ 0 ∷ 1 ∷ 2 ∷ [])
          ∷ replicate 6 0
          ∷ (0 ∷ 0 ∷ 0 ∷ 0 ∷ 2 ∷ 3 ∷ [])
          ∷ replicate 6 0
          ∷ replicate 6 0
          ∷ (0 ∷ 0 ∷ 1 ∷ 1 ∷ 2 ∷ 2 ∷ [])
          ∷ replicate 6 0
          ∷ []);
    }
    -- the launch number where the number in the group is meant: own cell 2 of two, by thread 0 of group 1
    ∷ record {
      file = lines "kernel=1/threads=2/cells=2/groups=2/global=0/limit=100/rows=2/row=19,0,0,0/row=17,0,0,0/cell=9/cell=9/cell=9/cell=9/end=kernel";
      report = lines "verdict=outside/row=1/group=1/othergroup=-/thread=0/other=-/kind=-/at=2/rows=3/steps=2/steps=2/steps=1/steps=1/barriers=0/conflicts=0"
          ++ lines "cell=0/cell=1/cell=9/cell=9/end=report";
      log = joined (replicate 4 0 ∷ (1 ∷ 2 ∷ 0 ∷ 0 ∷ []) ∷ replicate 4 0 ∷ (0 ∷ 1 ∷ 0 ∷ 0 ∷ []) ∷ replicate 4 (replicate 4 0));
    }
    -- where own cell 0 has 1, in group 1, the threads store their numbers to the global cell: a race in the own group, which is named as the other's
    ∷ record {
      file = lines "kernel=1/threads=2/cells=1/groups=2/global=1/limit=100/rows=5/row=16,1,15,0/row=32,0,1,0/row=2,2,0,0/row=21,15,2,0/row=34,0,0,0"
          ++ lines "cell=0/cell=1/gcell=9/end=kernel";
      report = lines "verdict=race/row=3/group=1/othergroup=1/thread=1/other=0/kind=ww/at=0/rows=8/steps=3/steps=3/steps=4/steps=3/barriers=0/conflicts=0"
          ++ lines "cell=0/cell=1/gcell=0/end=report";
      log = joined ((3 ∷ 3 ∷ 0 ∷ []) ∷ (0 ∷ 0 ∷ 1 ∷ []) ∷ replicate 4 (replicate 3 0) ++ ((0 ∷ 0 ∷ 2 ∷ []) ∷ replicate 3 0 ∷ []));
    }
    -- all add to the global cell; where own cell 0 has 1, thread 1 then loads it: in group 1 it meets thread 0's add and group 0's, and thread 0 is named
    ∷ record {
      file = lines "kernel=1/threads=2/cells=1/groups=2/global=1/limit=100/rows=8/row=1,3,1,0/row=22,15,3,0/row=16,1,15,0/row=2,2,0,0/row=7,1,1,2/row=32,0,1,0"
          ++ lines "row=20,4,15,0/row=34,0,0,0/cell=0/cell=1/gcell=10/end=kernel";
      report = lines "verdict=race/row=6/group=1/othergroup=1/thread=1/other=0/kind=ar/at=0/rows=14/steps=7/steps=7/steps=6/steps=6/barriers=0/conflicts=0"
          ++ lines "cell=0/cell=1/gcell=14/end=report";
      log = joined ((3 ∷ 3 ∷ 0 ∷ []) ∷ replicate 3 0 ∷ (0 ∷ 0 ∷ 3 ∷ []) ∷ replicate 4 (replicate 3 0) ++ ((0 ∷ 0 ∷ 3 ∷ []) ∷ []));
    }
    -- the same behind a BARRIER, which has cleared the own group's adds: group 0's are met
    ∷ record {
      file = lines "kernel=1/threads=2/cells=1/groups=2/global=1/limit=100/rows=9/row=1,3,1,0/row=22,15,3,0/row=37,0,0,0/row=16,1,15,0/row=2,2,0,0/row=7,1,1,2"
          ++ lines "row=32,0,1,0/row=20,4,15,0/row=34,0,0,0/cell=0/cell=1/gcell=10/end=kernel";
      report = lines "verdict=race/row=7/group=1/othergroup=0/thread=1/other=-/kind=ar/at=0/rows=16/steps=7/steps=7/steps=6/steps=6/barriers=2/conflicts=0"
          ++ lines "cell=0/cell=1/gcell=14/end=report";
      log = joined ((3 ∷ 3 ∷ 0 ∷ []) ∷ replicate 6 (replicate 3 0) ++ ((0 ∷ 0 ∷ 3 ∷ []) ∷ []));
    }
    -- group 0 stores to the global cell and loads it behind its BARRIER; group 1 loads it behind its own, and meets that store
    ∷ record {
      file = lines "kernel=1/threads=1/cells=1/groups=2/global=1/limit=100/rows=6/row=16,1,15,0/row=32,0,1,0/row=21,15,1,0/row=34,0,0,0/row=37,0,0,0/row=20,2,15,0"
          ++ lines "cell=1/cell=0/gcell=9/end=kernel";
      report = lines "verdict=race/row=5/group=1/othergroup=0/thread=0/other=-/kind=wr/at=0/rows=11/steps=5/steps=3/barriers=2/conflicts=0/cell=1/cell=0/gcell=1/end=report";
      log = joined (replicate 5 (replicate 3 0) ++ ((0 ∷ 0 ∷ 1 ∷ []) ∷ (0 ∷ 0 ∷ 1 ∷ []) ∷ replicate 3 0 ∷ []));
    }
    -- each group stores to the global cell that its own cell numbers: groups 1 and 2 to cell 1. Group 0 is lower than group 1, but in no conflict
    ∷ record {
      file = lines "kernel=1/threads=1/cells=1/groups=3/global=2/limit=100/rows=2/row=16,1,0,0/row=21,1,1,0/cell=0/cell=1/cell=1/gcell=8/gcell=9/end=kernel";
      report = lines "verdict=race/row=1/group=2/othergroup=1/thread=0/other=-/kind=ww/at=1/rows=5/steps=2/steps=2/steps=1/barriers=0/conflicts=0"
          ++ lines "cell=0/cell=1/cell=1/gcell=0/gcell=1/end=report";
      log = joined ((1 ∷ 1 ∷ 1 ∷ 0 ∷ 0 ∷ []) ∷ replicate 5 (replicate 5 0) ++ ((0 ∷ 0 ∷ 0 ∷ 1 ∷ 2 ∷ []) ∷ replicate 5 0 ∷ []));
    }
    -- groups 0 and 1 load the global cell, group 2 stores to it, by own cell 0: it meets both, and group 0 is named
    ∷ record {
      file = lines "kernel=1/threads=1/cells=1/groups=3/global=1/limit=100/rows=6/row=16,1,15,0/row=32,0,1,0/row=21,15,1,0/row=33,0,0,0/row=20,2,15,0/row=34,0,0,0"
          ++ lines "cell=0/cell=0/cell=1/gcell=9/end=kernel";
      report = lines "verdict=race/row=2/group=2/othergroup=0/thread=0/other=-/kind=rw/at=0/rows=14/steps=4/steps=4/steps=2/barriers=0/conflicts=0"
          ++ lines "cell=0/cell=0/cell=1/gcell=9/end=report";
      log = joined ((1 ∷ 1 ∷ 1 ∷ 0 ∷ []) ∷ replicate 4 (replicate 4 0) ++ ((0 ∷ 0 ∷ 0 ∷ 3 ∷ []) ∷ replicate 2 (replicate 4 0)));
    }
    -- group 0 loads the global cell, adds 9 to it and stores 9, by own cell 0; group 1 adds: of the two kinds that it meets w is shown
    ∷ record {
      file = lines "kernel=1/threads=1/cells=1/groups=2/global=1/limit=100/rows=8/row=16,1,15,0/row=32,0,1,0/row=22,15,1,0/row=33,0,0,0/row=20,2,15,0/row=22,15,2,0"
          ++ lines "row=21,15,2,0/row=34,0,0,0/cell=0/cell=1/gcell=9/end=kernel";
      report = lines "verdict=race/row=2/group=1/othergroup=0/thread=0/other=-/kind=wa/at=0/rows=10/steps=6/steps=2/barriers=0/conflicts=0/cell=0/cell=1/gcell=9/end=report";
      log = joined ((1 ∷ 1 ∷ 0 ∷ []) ∷ replicate 4 (replicate 3 0) ++ replicate 3 (0 ∷ 0 ∷ 1 ∷ []));
    }
    -- all threads of a group store 5 to the global cell: one group may, two may not
    ∷ record {
      file = lines "kernel=1/threads=3/cells=1/groups=1/global=1/limit=100/rows=2/row=1,1,5,0/row=21,15,1,0/cell=7/gcell=9/end=kernel";
      report = lines "verdict=passed/row=-/group=-/othergroup=-/thread=-/other=-/kind=-/at=-/rows=2/steps=2/steps=2/steps=2/barriers=0/conflicts=0/cell=7/gcell=5/end=report";
      log = joined ((0 ∷ 0 ∷ []) ∷ (0 ∷ 7 ∷ []) ∷ (0 ∷ 0 ∷ []) ∷ (0 ∷ 5 ∷ []) ∷ (0 ∷ 0 ∷ []) ∷ (0 ∷ 0 ∷ []) ∷ (0 ∷ 1 ∷ []) ∷ (0 ∷ 0 ∷ []) ∷ []);
    }
    ∷ record {
      file = lines "kernel=1/threads=3/cells=1/groups=2/global=1/limit=100/rows=2/row=1,1,5,0/row=21,15,1,0/cell=7/cell=8/gcell=9/end=kernel";
      report = lines "verdict=race/row=1/group=1/othergroup=0/thread=0/other=-/kind=ww/at=0/rows=3/steps=2/steps=2/steps=2/steps=1/steps=1/steps=1/barriers=0/conflicts=0"
          ++ lines "cell=7/cell=8/gcell=5/end=report";
      log = joined (replicate 6 (replicate 3 0) ++ ((0 ∷ 0 ∷ 1 ∷ []) ∷ replicate 3 0 ∷ []));
    }
    -- two groups add their numbers to the global cell, two rows each: under limit 4 both pass; under 3 group 1 has one row; under 2 it starts, which clears the log of
    -- the global cell and opens an interval, and is spent at its row 0; under 1 it does not start
    ∷ record {
      file = lines "kernel=1/threads=2/cells=1/groups=2/global=1/limit=4/rows=2/row=2,0,0,0/row=22,15,0,0/cell=7/cell=8/gcell=9/end=kernel";
      report = lines "verdict=passed/row=-/group=-/othergroup=-/thread=-/other=-/kind=-/at=-/rows=4/steps=2/steps=2/steps=2/steps=2/barriers=0/conflicts=0"
          ++ lines "cell=7/cell=8/gcell=11/end=report";
      log = joined (replicate 2 (replicate 3 0) ++ ((0 ∷ 0 ∷ 3 ∷ []) ∷ replicate 4 (replicate 3 0) ++ ((0 ∷ 0 ∷ 3 ∷ []) ∷ [])));
    }
    ∷ record {
      file = lines "kernel=1/threads=2/cells=1/groups=2/global=1/limit=3/rows=2/row=2,0,0,0/row=22,15,0,0/cell=7/cell=8/gcell=9/end=kernel";
      report = lines "verdict=spent/row=1/group=1/othergroup=-/thread=-/other=-/kind=-/at=-/rows=3/steps=2/steps=2/steps=1/steps=1/barriers=0/conflicts=0"
          ++ lines "cell=7/cell=8/gcell=10/end=report";
      log = joined (replicate 7 (replicate 3 0) ++ ((0 ∷ 0 ∷ 1 ∷ []) ∷ []));
    }
    ∷ record {
      file = lines "kernel=1/threads=2/cells=1/groups=2/global=1/limit=2/rows=2/row=2,0,0,0/row=22,15,0,0/cell=7/cell=8/gcell=9/end=kernel";
      report = lines "verdict=spent/row=0/group=1/othergroup=-/thread=-/other=-/kind=-/at=-/rows=2/steps=2/steps=2/steps=0/steps=0/barriers=0/conflicts=0"
          ++ lines "cell=7/cell=8/gcell=10/end=report";
      log = joined (replicate 7 (replicate 3 0) ++ ((0 ∷ 0 ∷ 1 ∷ []) ∷ []));
    }
    ∷ record {
      file = lines "kernel=1/threads=2/cells=1/groups=2/global=1/limit=1/rows=2/row=2,0,0,0/row=22,15,0,0/cell=7/cell=8/gcell=9/end=kernel";
      report = lines "verdict=spent/row=1/group=0/othergroup=-/thread=-/other=-/kind=-/at=-/rows=1/steps=1/steps=1/steps=0/steps=0/barriers=0/conflicts=0"
          ++ lines "cell=7/cell=8/gcell=9/end=report";
      log = joined (replicate 8 (replicate 3 0));
    }
    -- where own cell 0 has 1, thread 1 alone comes to a BARRIER: in group 0 nobody does, in group 1 the run diverges
    ∷ record {
      file = lines "kernel=1/threads=2/cells=1/groups=2/global=0/limit=100/rows=6/row=16,1,2,0/row=2,0,0,0/row=7,1,1,0/row=32,0,1,0/row=37,0,0,0/row=34,0,0,0"
          ++ lines "cell=0/cell=1/end=kernel";
      report = lines "verdict=diverged/row=4/group=1/othergroup=-/thread=1/other=0/kind=-/at=-/rows=10/steps=5/steps=5/steps=4/steps=4/barriers=0/conflicts=0"
          ++ lines "cell=0/cell=1/end=report";
      log = joined ((3 ∷ 3 ∷ []) ∷ replicate 7 (0 ∷ 0 ∷ []));
    }
    -- global cell 1 of one is outside, though there are three own cells: groups 1 and 2 do not start
    ∷ record {
      file = lines "kernel=1/threads=1/cells=1/groups=3/global=1/limit=100/rows=2/row=1,1,1,0/row=20,2,1,0/cell=4/cell=5/cell=6/gcell=9/end=kernel";
      report = lines "verdict=outside/row=1/group=0/othergroup=-/thread=0/other=-/kind=-/at=1/rows=1/steps=1/steps=0/steps=0/barriers=0/conflicts=0"
          ++ lines "cell=4/cell=5/cell=6/gcell=9/end=report";
      log = joined (replicate 8 (replicate 4 0));
    }
    -- three groups without global cells: each adds 7 to its own cell, and the log of each is left. Then a load of global cell 0 is outside
    ∷ record {
      file = lines "kernel=1/threads=1/cells=1/groups=3/global=0/limit=100/rows=2/row=1,1,7,0/row=18,15,1,0/cell=1/cell=2/cell=3/end=kernel";
      report = lines "verdict=passed/row=-/group=-/othergroup=-/thread=-/other=-/kind=-/at=-/rows=6/steps=2/steps=2/steps=2/barriers=0/conflicts=0"
          ++ lines "cell=8/cell=9/cell=10/end=report";
      log = joined (replicate 2 (replicate 3 0) ++ ((1 ∷ 1 ∷ 1 ∷ []) ∷ replicate 5 (replicate 3 0)));
    }
    ∷ record {
      file = lines "kernel=1/threads=1/cells=1/groups=3/global=0/limit=100/rows=3/row=1,1,7,0/row=18,15,1,0/row=20,2,15,0/cell=1/cell=2/cell=3/end=kernel";
      report = lines "verdict=outside/row=2/group=0/othergroup=-/thread=0/other=-/kind=-/at=0/rows=2/steps=2/steps=0/steps=0/barriers=0/conflicts=0"
          ++ lines "cell=8/cell=2/cell=3/end=report";
      log = joined (replicate 2 (replicate 3 0) ++ ((1 ∷ 0 ∷ 0 ∷ []) ∷ replicate 5 (replicate 3 0)));
    }
    -- both numbers: own cell by number in group, which gets the launch number, and global cell by launch number, which gets the number in group
    ∷ record {
      file = lines "kernel=1/threads=2/cells=3/groups=2/global=4/limit=100/rows=4/row=2,0,0,0/row=19,1,0,0/row=17,0,1,0/row=21,1,0,0"
          ++ lines "cell=9/cell=9/cell=9/cell=9/cell=9/cell=9/gcell=8/gcell=8/gcell=8/gcell=8/end=kernel";
      report = lines "verdict=passed/row=-/group=-/othergroup=-/thread=-/other=-/kind=-/at=-/rows=8/steps=4/steps=4/steps=4/steps=4/barriers=0/conflicts=0"
          ++ lines "cell=0/cell=1/cell=9/cell=2/cell=3/cell=9/gcell=0/gcell=1/gcell=0/gcell=1/end=report";
      log = joined
          (replicate 10 0
          ∷ (1 ∷ 2 ∷ 0 ∷ 1 ∷ 2 ∷ 0 ∷ 0 ∷ 0 ∷ 1 ∷ 2 ∷ [])
          ∷ replicate 10 0
          ∷ (0 ∷ 1 ∷ 0 ∷ 2 ∷ 3 ∷ 0 ∷ 0 ∷ 0 ∷ 0 ∷ 1 ∷ [])
          ∷ replicate 10 0
          ∷ replicate 10 0
          ∷ (0 ∷ 0 ∷ 0 ∷ 0 ∷ 0 ∷ 0 ∷ 1 ∷ 1 ∷ 2 ∷ 2 ∷ [])
          ∷ replicate 10 0
          ∷ []);
    }
    -- thread t loops as often as its number and own cell 0 say together: 0, 1, 2 and 3 times. Steps go by launch number
    ∷ record {
      file = lines "kernel=1/threads=2/cells=1/groups=2/global=0/limit=100/rows=7/row=16,1,2,0/row=2,0,0,0/row=4,0,0,1/row=1,1,1,0/row=35,0,0,0/row=5,0,0,1/row=36,0,0,0"
          ++ lines "cell=0/cell=2/end=kernel";
      report = lines "verdict=passed/row=-/group=-/othergroup=-/thread=-/other=-/kind=-/at=-/rows=22/steps=5/steps=8/steps=11/steps=14/barriers=0/conflicts=0"
          ++ lines "cell=0/cell=2/end=report";
      log = joined ((3 ∷ 3 ∷ []) ∷ replicate 7 (0 ∷ 0 ∷ []));
    }
    -- eight groups of one thread add their launch numbers to their own cells and to the global one
    ∷ record {
      file = lines "kernel=1/threads=1/cells=1/groups=8/global=1/limit=24/rows=3/row=19,0,0,0/row=18,15,0,0/row=22,15,0,0"
          ++ lines "cell=10/cell=10/cell=10/cell=10/cell=10/cell=10/cell=10/cell=10/gcell=100/end=kernel";
      report = lines "verdict=passed/row=-/group=-/othergroup=-/thread=-/other=-/kind=-/at=-/rows=24/steps=3/steps=3/steps=3/steps=3/steps=3/steps=3/steps=3/steps=3"
          ++ lines "barriers=0/conflicts=0/cell=10/cell=11/cell=12/cell=13/cell=14/cell=15/cell=16/cell=17/gcell=128/end=report";
      log = joined (replicate 2 (replicate 9 0) ++ (replicate 9 1 ∷ replicate 4 (replicate 9 0) ++ ((replicate 8 0 ++ (255 ∷ [])) ∷ [])));
    }
    -- two threads load cells that are 16 apart, global ones at no cost and own ones at cost 1, in each of two groups, and add to them behind a BARRIER
    ∷ record {
      file = lines "kernel=1/threads=2/cells=17/groups=2/global=17/limit=100/rows=8/row=2,0,0,0/row=1,1,16,0/row=6,2,0,1/row=20,3,2,0/row=16,4,2,0/row=37,0,0,0/row=18,2,1,0"
          ++ lines "row=20,3,2,0/cell=7/cell=7/cell=7/cell=7/cell=7/cell=7/cell=7/cell=7/cell=7/cell=7/cell=7/cell=7/cell=7/cell=7/cell=7/cell=7/cell=7"
          ++ lines "cell=7/cell=7/cell=7/cell=7/cell=7/cell=7/cell=7/cell=7/cell=7/cell=7/cell=7/cell=7/cell=7/cell=7/cell=7/cell=7/cell=7"
          ++ lines "gcell=7/gcell=7/gcell=7/gcell=7/gcell=7/gcell=7/gcell=7/gcell=7/gcell=7/gcell=7/gcell=7/gcell=7/gcell=7/gcell=7/gcell=7/gcell=7/gcell=7/end=kernel";
      report = lines "verdict=passed/row=-/group=-/othergroup=-/thread=-/other=-/kind=-/at=-/rows=16/steps=7/steps=7/steps=7/steps=7/barriers=2/conflicts=4"
          ++ lines "cell=23/cell=7/cell=7/cell=7/cell=7/cell=7/cell=7/cell=7/cell=7/cell=7/cell=7/cell=7/cell=7/cell=7/cell=7/cell=7/cell=23"
          ++ lines "cell=23/cell=7/cell=7/cell=7/cell=7/cell=7/cell=7/cell=7/cell=7/cell=7/cell=7/cell=7/cell=7/cell=7/cell=7/cell=7/cell=23"
          ++ lines "gcell=7/gcell=7/gcell=7/gcell=7/gcell=7/gcell=7/gcell=7/gcell=7/gcell=7/gcell=7/gcell=7/gcell=7/gcell=7/gcell=7/gcell=7/gcell=7/gcell=7/end=report";
      log = joined
          ((replicate 34 0 ++ (1 ∷ replicate 15 0 ++ (2 ∷ [])))
          ∷ replicate 51 0
          ∷ (1 ∷ replicate 15 0 ++ (2 ∷ 1 ∷ replicate 15 0 ++ (2 ∷ replicate 17 0)))
          ∷ replicate 51 0
          ∷ replicate 51 0
          ∷ (replicate 34 0 ++ (3 ∷ replicate 15 0 ++ (3 ∷ [])))
          ∷ replicate 51 0
          ∷ replicate 51 0
          ∷ []);
    }
    -- refusals: 19 has d, 20 to 22 have d and a, 23 is no op
    ∷ record {
      file = lines "kernel=1/threads=1/cells=1/groups=1/global=0/limit=1/rows=2/row=19,15,0,0/row=19,0,1,0/cell=0/end=kernel";
      report = lines "refused=4/place=1/end=report";
      log = [];
    }
    ∷ record {
      file = lines "kernel=1/threads=1/cells=1/groups=2/global=1/limit=1/rows=4/row=20,15,15,0/row=21,15,15,0/row=22,15,15,0/row=22,15,15,1/cell=0/cell=0/gcell=0/end=kernel";
      report = lines "refused=4/place=3/end=report";
      log = [];
    }
    ∷ record {
      file = lines "kernel=1/threads=1/cells=1/groups=2/global=1/limit=1/rows=2/row=22,0,0,0/row=23,0,0,0/cell=0/cell=0/gcell=0/end=kernel";
      report = lines "refused=3/place=1/end=report";
      log = [];
    }
    -- refusals: groups and global cells, each before the line behind; and their `cell=` and `gcell=` lines
    ∷ record { file = lines "kernel=1/threads=1/cells=1/groups=0/global=x"; report = lines "refused=32/place=4/end=report"; log = [] }
    ∷ record { file = lines "kernel=1/threads=1/cells=1/groups=1/global=4294967295/limit=x"; report = lines "refused=33/place=5/end=report"; log = [] }
    ∷ record { file = lines "kernel=1/threads=1/cells=1024/groups=8/global=0/limit=x"; report = lines "refused=33/place=5/end=report"; log = [] }
    ∷ record { file = lines "kernel=1/threads=1/cells=1/limit=1/rows=0/cell=0/end=kernel"; report = lines "refused=11/place=4/end=report"; log = [] }
    ∷ record {
      file = lines "kernel=1/threads=1/cells=1/groups=2/global=1/limit=1/rows=0/cell=0/gcell=0/cell=0/end=kernel";
      report = lines "refused=11/place=9/end=report";
      log = [];
    }
    ∷ record {
      file = lines "kernel=1/threads=1/cells=1/groups=2/global=1/limit=1/rows=0/cell=0/cell=0/cell=0/end=kernel";
      report = lines "refused=11/place=10/end=report";
      log = [];
    }
    ∷ []

-- The words of the records of each of them: start, rows and cost of each interval. One starts with each group. None for a refusal.
unfoldable pub group_file_records : List (List ℕ)
group_file_records =
    (0 ∷ 5 ∷ 0 ∷ 5 ∷ 5 ∷ 0 ∷ 0 ∷ 5 ∷ 0 ∷ 5 ∷ 5 ∷ 0 ∷ [])
    ∷ (0 ∷ 5 ∷ 0 ∷ 5 ∷ 5 ∷ 0 ∷ 0 ∷ 5 ∷ 0 ∷ 5 ∷ 3 ∷ 0 ∷ [])
    ∷ (0 ∷ 2 ∷ 0 ∷ [])
    ∷ (0 ∷ 2 ∷ 0 ∷ 0 ∷ 1 ∷ 0 ∷ [])
    ∷ (0 ∷ 2 ∷ 0 ∷ 0 ∷ 2 ∷ 0 ∷ [])
    ∷ (0 ∷ 2 ∷ 0 ∷ 0 ∷ 1 ∷ 0 ∷ [])
    ∷ (0 ∷ 5 ∷ 0 ∷ 0 ∷ 3 ∷ 0 ∷ [])
    ∷ (0 ∷ 8 ∷ 0 ∷ 0 ∷ 6 ∷ 0 ∷ [])
    ∷ (0 ∷ 3 ∷ 0 ∷ 3 ∷ 6 ∷ 0 ∷ 0 ∷ 3 ∷ 0 ∷ 3 ∷ 4 ∷ 0 ∷ [])
    ∷ (0 ∷ 5 ∷ 0 ∷ 5 ∷ 1 ∷ 0 ∷ 0 ∷ 5 ∷ 0 ∷ 5 ∷ 0 ∷ 0 ∷ [])
    ∷ (0 ∷ 2 ∷ 0 ∷ 0 ∷ 2 ∷ 0 ∷ 0 ∷ 1 ∷ 0 ∷ [])
    ∷ (0 ∷ 6 ∷ 0 ∷ 0 ∷ 6 ∷ 0 ∷ 0 ∷ 2 ∷ 0 ∷ [])
    ∷ (0 ∷ 8 ∷ 0 ∷ 0 ∷ 2 ∷ 0 ∷ [])
    ∷ (0 ∷ 2 ∷ 0 ∷ [])
    ∷ (0 ∷ 2 ∷ 0 ∷ 0 ∷ 1 ∷ 0 ∷ [])
    ∷ (0 ∷ 2 ∷ 0 ∷ 0 ∷ 2 ∷ 0 ∷ [])
    ∷ (0 ∷ 2 ∷ 0 ∷ 0 ∷ 1 ∷ 0 ∷ [])
    ∷ (0 ∷ 2 ∷ 0 ∷ 0 ∷ 0 ∷ 0 ∷ [])
    ∷ (0 ∷ 1 ∷ 0 ∷ [])
    ∷ (0 ∷ 6 ∷ 0 ∷ 0 ∷ 4 ∷ 0 ∷ [])
    ∷ (0 ∷ 1 ∷ 0 ∷ [])
    ∷ (0 ∷ 2 ∷ 0 ∷ 0 ∷ 2 ∷ 0 ∷ 0 ∷ 2 ∷ 0 ∷ [])
    ∷ (0 ∷ 2 ∷ 0 ∷ [])
    ∷ (0 ∷ 4 ∷ 0 ∷ 0 ∷ 4 ∷ 0 ∷ [])
    ∷ (0 ∷ 8 ∷ 0 ∷ 0 ∷ 14 ∷ 0 ∷ [])
    ∷ (0 ∷ 3 ∷ 0 ∷ 0 ∷ 3 ∷ 0 ∷ 0 ∷ 3 ∷ 0 ∷ 0 ∷ 3 ∷ 0 ∷ 0 ∷ 3 ∷ 0 ∷ 0 ∷ 3 ∷ 0 ∷ 0 ∷ 3 ∷ 0 ∷ 0 ∷ 3 ∷ 0 ∷ [])
    ∷ (0 ∷ 6 ∷ 1 ∷ 6 ∷ 2 ∷ 1 ∷ 0 ∷ 6 ∷ 1 ∷ 6 ∷ 2 ∷ 1 ∷ [])
    ∷ replicate 9 []

pub worked_groups : map computed group_files ≡ map expected group_files
unfolding computing computed expected final_log group_files
worked_groups = refl

pub worked_group_records : map (λ x. final_records (file_launch x.file)) group_files ≡ group_file_records
unfolding computing final_records group_files group_file_records
worked_group_records = refl
