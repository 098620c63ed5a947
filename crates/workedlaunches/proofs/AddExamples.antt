-- Worked launches with ATOMIC ADD, item 1 of the change requests, each with the report and the whole log. Worked out from the papers alone, before they
-- were computed. Assumes nothing.
use mathlib.Core.Path.{◌≡◌, refl}
use mathlib.Core.List.{List, [], ◌∷◌, ◌++◌, map}
use lib.ListN.{replicate}
use Rattle.spec.proofs.Lines.{lines}
use Rattle.spec.proofs.Computing.{computing}
use Rattle.workedlaunches.proofs.Worked.{Worked, computed, expected, final_log}

unfoldable pub add_examples : List Worked
add_examples =
    -- two threads add R2, which is 10 + t, to cell R1, which is cell 4; then R1 and R2 are stored, as they were
    record {
      file = lines "kernel=1/threads=2/cells=5/groups=1/global=0/limit=100/rows=9"
          ++ lines "row=2,0,0,0/row=1,1,4,0/row=1,2,10,0/row=4,2,2,0/row=18,1,2,0/row=17,0,1,0/row=1,3,2,0/row=4,3,3,0/row=17,3,2,0"
          ++ lines "cell=9/cell=9/cell=9/cell=9/cell=100/end=kernel";
      report = lines "verdict=passed/row=-/group=-/othergroup=-/thread=-/other=-/kind=-/at=-/rows=9/steps=9/steps=9/barriers=0/conflicts=0/cell=4/cell=4/cell=10/cell=11/cell=121/end=report";
      log = 0 ∷ 0 ∷ 0 ∷ 0 ∷ 0 ∷ 1 ∷ 2 ∷ 1 ∷ 2 ∷ 0 ∷ 0 ∷ 0 ∷ 0 ∷ 0 ∷ 3 ∷ 4 ∷ 4 ∷ 10 ∷ 11 ∷ replicate 21 0;
    }
    -- modulo 2^32: 2^32 - 1 and 1 are 0, and 2 more are 2; 2^32 - 1 added takes 1 off
    ∷ record {
      file = lines "kernel=1/threads=2/cells=2/groups=1/global=0/limit=100/rows=6"
          ++ lines "row=2,0,0,0/row=1,1,1,0/row=4,2,0,1/row=18,3,2,0/row=5,4,3,1/row=18,1,4,0"
          ++ lines "cell=4294967295/cell=5/end=kernel";
      report = lines "verdict=passed/row=-/group=-/othergroup=-/thread=-/other=-/kind=-/at=-/rows=6/steps=6/steps=6/barriers=0/conflicts=0/cell=2/cell=3/end=report";
      log = 0 ∷ 0 ∷ 0 ∷ 0 ∷ 3 ∷ 3 ∷ replicate 10 0;
    }
    -- a thread's own accesses, each in its own cell: add, load, add, store, add
    ∷ record {
      file = lines "kernel=1/threads=2/cells=2/groups=1/global=0/limit=100/rows=7"
          ++ lines "row=2,0,0,0/row=1,1,7,0/row=18,0,1,0/row=16,2,0,0/row=18,0,2,0/row=17,0,1,0/row=18,0,2,0"
          ++ lines "cell=10/cell=20/end=kernel";
      report = lines "verdict=passed/row=-/group=-/othergroup=-/thread=-/other=-/kind=-/at=-/rows=7/steps=7/steps=7/barriers=0/conflicts=0/cell=24/cell=34/end=report";
      log = 1 ∷ 2 ∷ 1 ∷ 2 ∷ 1 ∷ 2 ∷ 7 ∷ 7 ∷ replicate 8 0;
    }
    -- a BARRIER between each two of: all add, thread 1 stores, all add, all load, all add
    ∷ record {
      file = lines "kernel=1/threads=2/cells=1/groups=1/global=0/limit=100/rows=13"
          ++ lines "row=2,0,0,0/row=18,1,0,0/row=37,0,0,0/row=32,0,0,0/row=17,1,0,0/row=34,0,0,0/row=37,0,0,0/row=1,2,7,0/row=18,1,2,0/row=37,0,0,0"
          ++ lines "row=16,3,1,0/row=37,0,0,0/row=18,1,3,0"
          ++ lines "cell=4/end=kernel";
      report = lines "verdict=passed/row=-/group=-/othergroup=-/thread=-/other=-/kind=-/at=-/rows=13/steps=8/steps=9/barriers=4/conflicts=0/cell=45/end=report";
      log = 0 ∷ 0 ∷ 3 ∷ replicate 5 0;
    }
    -- a histogram: five threads' data are 2, 0, 2, 1 and 2, the bins are cells 5 to 7
    ∷ record {
      file = lines "kernel=1/threads=5/cells=8/groups=1/global=0/limit=100/rows=6"
          ++ lines "row=2,0,0,0/row=16,1,0,0/row=3,2,0,0/row=4,1,1,2/row=1,3,1,0/row=18,1,3,0"
          ++ lines "cell=2/cell=0/cell=2/cell=1/cell=2/cell=0/cell=0/cell=0/end=kernel";
      report = lines "verdict=passed/row=-/group=-/othergroup=-/thread=-/other=-/kind=-/at=-/rows=6/steps=6/steps=6/steps=6/steps=6/steps=6/barriers=0/conflicts=0"
          ++ lines "cell=2/cell=0/cell=2/cell=1/cell=2/cell=1/cell=1/cell=3/end=report";
      log = 1 ∷ 2 ∷ 4 ∷ 8 ∷ 16 ∷ replicate 16 0 ++ (2 ∷ 8 ∷ 21 ∷ replicate 40 0);
    }
    -- the same, and a load of each thread's bin without a BARRIER between: bin 7 is thread 2's and thread 4's too
    ∷ record {
      file = lines "kernel=1/threads=5/cells=8/groups=1/global=0/limit=100/rows=7"
          ++ lines "row=2,0,0,0/row=16,1,0,0/row=3,2,0,0/row=4,1,1,2/row=1,3,1,0/row=18,1,3,0/row=16,4,1,0"
          ++ lines "cell=2/cell=0/cell=2/cell=1/cell=2/cell=0/cell=0/cell=0/end=kernel";
      report = lines "verdict=race/row=6/group=0/othergroup=0/thread=0/other=2/kind=ar/at=7/rows=6/steps=6/steps=6/steps=6/steps=6/steps=6/barriers=0/conflicts=0"
          ++ lines "cell=2/cell=0/cell=2/cell=1/cell=2/cell=1/cell=1/cell=3/end=report";
      log = 1 ∷ 2 ∷ 4 ∷ 8 ∷ 16 ∷ replicate 16 0 ++ (2 ∷ 8 ∷ 21 ∷ replicate 40 0);
    }
    -- the load before the add
    ∷ record {
      file = lines "kernel=1/threads=5/cells=8/groups=1/global=0/limit=100/rows=7"
          ++ lines "row=2,0,0,0/row=16,1,0,0/row=3,2,0,0/row=4,1,1,2/row=1,3,1,0/row=16,4,1,0/row=18,1,3,0"
          ++ lines "cell=2/cell=0/cell=2/cell=1/cell=2/cell=0/cell=0/cell=0/end=kernel";
      report = lines "verdict=race/row=6/group=0/othergroup=0/thread=0/other=2/kind=ra/at=7/rows=6/steps=6/steps=6/steps=6/steps=6/steps=6/barriers=0/conflicts=0"
          ++ lines "cell=2/cell=0/cell=2/cell=1/cell=2/cell=0/cell=0/cell=0/end=report";
      log = 1 ∷ 2 ∷ 4 ∷ 8 ∷ 16 ∷ 2 ∷ 8 ∷ 21 ∷ replicate 56 0;
    }
    -- the histogram with its sum: behind a BARRIER threads 0 to 2 add the bins into cell 8, behind another all store that sum
    ∷ record {
      file = lines "kernel=1/threads=5/cells=9/groups=1/global=0/limit=100/rows=19"
          ++ lines "row=2,0,0,0/row=16,1,0,0/row=3,2,0,0/row=4,1,1,2/row=1,3,1,0/row=18,1,3,0/row=37,0,0,0/row=1,4,3,0/row=13,5,0,4/row=32,0,5,0"
          ++ lines "row=4,6,0,2/row=16,7,6,0/row=1,8,8,0/row=18,8,7,0/row=34,0,0,0/row=37,0,0,0/row=1,8,8,0/row=16,9,8,0/row=17,0,9,0"
          ++ lines "cell=2/cell=0/cell=2/cell=1/cell=2/cell=0/cell=0/cell=0/cell=40/end=kernel";
      report = lines "verdict=passed/row=-/group=-/othergroup=-/thread=-/other=-/kind=-/at=-/rows=19/steps=17/steps=17/steps=17/steps=13/steps=13/barriers=2/conflicts=0"
          ++ lines "cell=45/cell=45/cell=45/cell=45/cell=45/cell=1/cell=1/cell=3/cell=45/end=report";
      log = replicate 8 0 ++ (31 ∷ 1 ∷ 2 ∷ 4 ∷ 8 ∷ 16 ∷ replicate 13 0 ++ (45 ∷ 45 ∷ 45 ∷ 45 ∷ 45 ∷ replicate 40 0));
    }
    -- adds in a loop: thread t adds 1 to cell 0 t times, and thread 0 never
    ∷ record {
      file = lines "kernel=1/threads=3/cells=1/groups=1/global=0/limit=100/rows=6"
          ++ lines "row=2,0,0,0/row=1,1,1,0/row=35,0,0,0/row=18,2,1,0/row=5,0,0,1/row=36,0,0,0"
          ++ lines "cell=4/end=kernel";
      report = lines "verdict=passed/row=-/group=-/othergroup=-/thread=-/other=-/kind=-/at=-/rows=11/steps=3/steps=7/steps=11/barriers=0/conflicts=0/cell=7/end=report";
      log = 0 ∷ 0 ∷ 6 ∷ replicate 5 0;
    }
    -- 32 threads add their numbers to one cell
    ∷ record {
      file = lines "kernel=1/threads=32/cells=1/groups=1/global=0/limit=100/rows=2/row=2,0,0,0/row=18,1,0,0/cell=4/end=kernel";
      report = lines "verdict=passed/row=-/group=-/othergroup=-/thread=-/other=-/kind=-/at=-/rows=2"
          ++ lines "steps=2/steps=2/steps=2/steps=2/steps=2/steps=2/steps=2/steps=2/steps=2/steps=2/steps=2/steps=2/steps=2/steps=2/steps=2/steps=2"
          ++ lines "steps=2/steps=2/steps=2/steps=2/steps=2/steps=2/steps=2/steps=2/steps=2/steps=2/steps=2/steps=2/steps=2/steps=2/steps=2/steps=2"
          ++ lines "barriers=0/conflicts=0/cell=500/end=report";
      log = 0 ∷ 0 ∷ 4294967295 ∷ replicate 5 0;
    }
    -- a LOAD meets an add, though of 0
    ∷ record {
      file = lines "kernel=1/threads=2/cells=1/groups=1/global=0/limit=100/rows=5/row=2,0,0,0/row=32,0,0,0/row=18,1,1,0/row=34,0,0,0/row=16,2,1,0/cell=4/end=kernel";
      report = lines "verdict=race/row=4/group=0/othergroup=0/thread=0/other=1/kind=ar/at=0/rows=4/steps=3/steps=4/barriers=0/conflicts=0/cell=4/end=report";
      log = 0 ∷ 0 ∷ 2 ∷ replicate 5 0;
    }
    -- a LOAD meets thread 0, which read and added: thread 0 loads again, thread 1 stops
    ∷ record {
      file = lines "kernel=1/threads=2/cells=1/groups=1/global=0/limit=100/rows=8"
          ++ lines "row=2,0,0,0/row=1,4,6,0/row=32,0,0,0/row=33,0,0,0/row=16,2,1,0/row=18,1,4,0/row=34,0,0,0/row=16,2,1,0"
          ++ lines "cell=4/end=kernel";
      report = lines "verdict=race/row=7/group=0/othergroup=0/thread=1/other=0/kind=ar/at=0/rows=7/steps=7/steps=5/barriers=0/conflicts=0/cell=10/end=report";
      log = 1 ∷ 0 ∷ 1 ∷ replicate 5 0;
    }
    -- a LOAD meets thread 2, which wrote and added
    ∷ record {
      file = lines "kernel=1/threads=3/cells=1/groups=1/global=0/limit=100/rows=8"
          ++ lines "row=2,0,0,0/row=1,3,2,0/row=12,4,0,3/row=32,0,4,0/row=17,1,0,0/row=18,1,0,0/row=34,0,0,0/row=16,2,1,0"
          ++ lines "cell=9/end=kernel";
      report = lines "verdict=race/row=7/group=0/othergroup=0/thread=0/other=2/kind=wr/at=0/rows=7/steps=5/steps=5/steps=7/barriers=0/conflicts=0/cell=4/end=report";
      log = 0 ∷ 4 ∷ 4 ∷ 2 ∷ replicate 4 0;
    }
    -- a STORE meets an add
    ∷ record {
      file = lines "kernel=1/threads=2/cells=1/groups=1/global=0/limit=100/rows=5/row=2,0,0,0/row=32,0,0,0/row=18,1,0,0/row=34,0,0,0/row=17,1,0,0/cell=4/end=kernel";
      report = lines "verdict=race/row=4/group=0/othergroup=0/thread=0/other=1/kind=aw/at=0/rows=4/steps=3/steps=4/barriers=0/conflicts=0/cell=5/end=report";
      log = 0 ∷ 0 ∷ 2 ∷ replicate 5 0;
    }
    -- a STORE meets one that read and added
    ∷ record {
      file = lines "kernel=1/threads=2/cells=1/groups=1/global=0/limit=100/rows=6/row=2,0,0,0/row=32,0,0,0/row=16,2,1,0/row=18,1,0,0/row=34,0,0,0/row=17,1,0,0/cell=4/end=kernel";
      report = lines "verdict=race/row=5/group=0/othergroup=0/thread=0/other=1/kind=aw/at=0/rows=5/steps=3/steps=5/barriers=0/conflicts=0/cell=5/end=report";
      log = 2 ∷ 0 ∷ 2 ∷ replicate 5 0;
    }
    -- a STORE meets one that wrote, added and read
    ∷ record {
      file = lines "kernel=1/threads=2/cells=1/groups=1/global=0/limit=100/rows=7"
          ++ lines "row=2,0,0,0/row=32,0,0,0/row=17,1,0,0/row=18,1,0,0/row=16,2,1,0/row=34,0,0,0/row=17,1,0,0"
          ++ lines "cell=4/end=kernel";
      report = lines "verdict=race/row=6/group=0/othergroup=0/thread=0/other=1/kind=ww/at=0/rows=6/steps=3/steps=6/barriers=0/conflicts=0/cell=2/end=report";
      log = 2 ∷ 2 ∷ 2 ∷ 1 ∷ replicate 4 0;
    }
    -- a STORE meets the adders of its own cell only: cell 0 was read, cell 1 added to
    ∷ record {
      file = lines "kernel=1/threads=2/cells=2/groups=1/global=0/limit=100/rows=4/row=16,2,1,0/row=1,3,1,0/row=18,3,3,0/row=17,1,3,0/cell=4/cell=5/end=kernel";
      report = lines "verdict=race/row=3/group=0/othergroup=0/thread=0/other=1/kind=rw/at=0/rows=3/steps=3/steps=3/barriers=0/conflicts=0/cell=4/cell=7/end=report";
      log = 3 ∷ 0 ∷ 0 ∷ 0 ∷ 0 ∷ 3 ∷ replicate 10 0;
    }
    -- an add meets a store
    ∷ record {
      file = lines "kernel=1/threads=2/cells=1/groups=1/global=0/limit=100/rows=5/row=2,0,0,0/row=32,0,0,0/row=17,1,0,0/row=34,0,0,0/row=18,1,0,0/cell=4/end=kernel";
      report = lines "verdict=race/row=4/group=0/othergroup=0/thread=0/other=1/kind=wa/at=0/rows=4/steps=3/steps=4/barriers=0/conflicts=0/cell=1/end=report";
      log = 0 ∷ 2 ∷ 0 ∷ 1 ∷ replicate 4 0;
    }
    -- an add meets thread 0, which wrote and added: thread 0 adds again, thread 1 stops
    ∷ record {
      file = lines "kernel=1/threads=3/cells=1/groups=1/global=0/limit=100/rows=8"
          ++ lines "row=2,0,0,0/row=1,4,6,0/row=32,0,0,0/row=33,0,0,0/row=17,1,4,0/row=18,1,4,0/row=34,0,0,0/row=18,1,4,0"
          ++ lines "cell=4/end=kernel";
      report = lines "verdict=race/row=7/group=0/othergroup=0/thread=1/other=0/kind=wa/at=0/rows=7/steps=7/steps=5/steps=5/barriers=0/conflicts=0/cell=18/end=report";
      log = 0 ∷ 1 ∷ 1 ∷ 6 ∷ replicate 4 0;
    }
    -- an add meets one that read and added: adds do not conflict, so r is shown
    ∷ record {
      file = lines "kernel=1/threads=2/cells=1/groups=1/global=0/limit=100/rows=6/row=2,0,0,0/row=32,0,0,0/row=16,2,1,0/row=18,1,0,0/row=34,0,0,0/row=18,1,0,0/cell=4/end=kernel";
      report = lines "verdict=race/row=5/group=0/othergroup=0/thread=0/other=1/kind=ra/at=0/rows=5/steps=3/steps=5/barriers=0/conflicts=0/cell=5/end=report";
      log = 2 ∷ 0 ∷ 2 ∷ replicate 5 0;
    }
    -- an add meets one that wrote, added and read
    ∷ record {
      file = lines "kernel=1/threads=2/cells=1/groups=1/global=0/limit=100/rows=7"
          ++ lines "row=2,0,0,0/row=32,0,0,0/row=17,1,0,0/row=18,1,0,0/row=16,2,1,0/row=34,0,0,0/row=18,1,0,0"
          ++ lines "cell=4/end=kernel";
      report = lines "verdict=race/row=6/group=0/othergroup=0/thread=0/other=1/kind=wa/at=0/rows=6/steps=3/steps=6/barriers=0/conflicts=0/cell=2/end=report";
      log = 2 ∷ 2 ∷ 2 ∷ 1 ∷ replicate 4 0;
    }
    -- of four adders, and of three readers, the lowest other one is named
    ∷ record {
      file = lines "kernel=1/threads=4/cells=1/groups=1/global=0/limit=100/rows=3/row=1,2,3,0/row=18,1,2,0/row=17,1,2,0/cell=4/end=kernel";
      report = lines "verdict=race/row=2/group=0/othergroup=0/thread=0/other=1/kind=aw/at=0/rows=2/steps=2/steps=2/steps=2/steps=2/barriers=0/conflicts=0/cell=16/end=report";
      log = 0 ∷ 0 ∷ 15 ∷ replicate 5 0;
    }
    ∷ record {
      file = lines "kernel=1/threads=3/cells=1/groups=1/global=0/limit=100/rows=2/row=16,2,1,0/row=18,1,2,0/cell=4/end=kernel";
      report = lines "verdict=race/row=1/group=0/othergroup=0/thread=0/other=1/kind=ra/at=0/rows=1/steps=1/steps=1/steps=1/barriers=0/conflicts=0/cell=4/end=report";
      log = 7 ∷ replicate 7 0;
    }
    -- thread 2 meets thread 0's load: threads 0 and 1 of the row have added and counted
    ∷ record {
      file = lines "kernel=1/threads=3/cells=3/groups=1/global=0/limit=100/rows=7"
          ++ lines "row=2,0,0,0/row=1,1,2,0/row=12,2,0,3/row=32,0,2,0/row=16,4,1,0/row=34,0,0,0/row=18,0,1,0"
          ++ lines "cell=4/cell=5/cell=6/end=kernel";
      report = lines "verdict=race/row=6/group=0/othergroup=0/thread=2/other=0/kind=ra/at=2/rows=6/steps=7/steps=6/steps=5/barriers=0/conflicts=0/cell=6/cell=7/cell=6/end=report";
      log = 0 ∷ 0 ∷ 1 ∷ 0 ∷ 0 ∷ 0 ∷ 1 ∷ 2 ∷ replicate 16 0;
    }
    -- outside: thread 0 has added 2 to the last cell when thread 1 reaches for cell 3 of 3, with 2 to add
    ∷ record {
      file = lines "kernel=1/threads=3/cells=3/groups=1/global=0/limit=100/rows=4/row=2,0,0,0/row=1,1,2,0/row=4,2,0,1/row=18,2,1,0/cell=4/cell=5/cell=6/end=kernel";
      report = lines "verdict=outside/row=3/group=0/othergroup=-/thread=1/other=-/kind=-/at=3/rows=3/steps=4/steps=3/steps=3/barriers=0/conflicts=0/cell=4/cell=5/cell=8/end=report";
      log = 0 ∷ 0 ∷ 0 ∷ 0 ∷ 0 ∷ 0 ∷ 0 ∷ 0 ∷ 1 ∷ replicate 15 0;
    }
    -- two adds that stop, the lowest thread's is told: thread 0 meets thread 1's load, thread 1 reaches outside
    ∷ record {
      file = lines "kernel=1/threads=2/cells=2/groups=1/global=0/limit=100/rows=6/row=2,0,0,0/row=32,0,0,0/row=16,2,1,0/row=1,1,2,0/row=34,0,0,0/row=18,1,0,0/cell=4/cell=5/end=kernel";
      report = lines "verdict=race/row=5/group=0/othergroup=0/thread=0/other=1/kind=ra/at=0/rows=5/steps=3/steps=5/barriers=0/conflicts=0/cell=4/cell=5/end=report";
      log = 2 ∷ replicate 15 0;
    }
    -- the other way round: thread 0 reaches outside, thread 1 would meet thread 0's load
    ∷ record {
      file = lines "kernel=1/threads=2/cells=2/groups=1/global=0/limit=100/rows=7"
          ++ lines "row=2,0,0,0/row=16,2,1,0/row=1,3,2,0/row=32,0,0,0/row=4,3,1,1/row=34,0,0,0/row=18,3,0,0"
          ++ lines "cell=4/cell=5/end=kernel";
      report = lines "verdict=outside/row=6/group=0/othergroup=-/thread=0/other=-/kind=-/at=2/rows=6/steps=5/steps=6/barriers=0/conflicts=0/cell=4/cell=5/end=report";
      log = 3 ∷ replicate 15 0;
    }
    -- a BARRIER that nobody comes to forgets no adders
    ∷ record {
      file = lines "kernel=1/threads=2/cells=1/groups=1/global=0/limit=100/rows=6/row=2,0,0,0/row=18,1,0,0/row=32,0,1,0/row=37,0,0,0/row=34,0,0,0/row=16,2,1,0/cell=4/end=kernel";
      report = lines "verdict=race/row=5/group=0/othergroup=0/thread=0/other=1/kind=ar/at=0/rows=5/steps=4/steps=4/barriers=0/conflicts=0/cell=5/end=report";
      log = 0 ∷ 0 ∷ 3 ∷ replicate 5 0;
    }
    -- diverged: the adders are left in the log
    ∷ record {
      file = lines "kernel=1/threads=3/cells=1/groups=1/global=0/limit=100/rows=5/row=2,0,0,0/row=18,1,0,0/row=32,0,0,0/row=37,0,0,0/row=34,0,0,0/cell=4/end=kernel";
      report = lines "verdict=diverged/row=3/group=0/othergroup=-/thread=1/other=0/kind=-/at=-/rows=3/steps=3/steps=3/steps=3/barriers=0/conflicts=0/cell=7/end=report";
      log = 0 ∷ 0 ∷ 7 ∷ replicate 5 0;
    }
    -- refusals: d and a are registers, b is not used, and 23 is no op
    ∷ record { file = lines "kernel=1/threads=1/cells=1/groups=1/global=0/limit=1/rows=1/row=18,16,0,0/cell=0/end=kernel"; report = lines "refused=4/place=0/end=report"; log = [] }
    ∷ record { file = lines "kernel=1/threads=1/cells=1/groups=1/global=0/limit=1/rows=1/row=18,0,16,0/cell=0/end=kernel"; report = lines "refused=4/place=0/end=report"; log = [] }
    ∷ record { file = lines "kernel=1/threads=1/cells=1/groups=1/global=0/limit=1/rows=1/row=18,0,0,1/cell=0/end=kernel"; report = lines "refused=4/place=0/end=report"; log = [] }
    ∷ record { file = lines "kernel=1/threads=1/cells=1/groups=1/global=0/limit=1/rows=1/row=23,0,0,0/cell=0/end=kernel"; report = lines "refused=3/place=0/end=report"; log = [] }
    ∷ []

pub worked_adds : map computed add_examples ≡ map expected add_examples
unfolding computing computed expected final_log add_examples
worked_adds = refl
