-- More worked launches: every op and every row kind in runs of several threads, each with the report and the log that document 01 gives it.
-- Worked out from the paper alone, before they were computed. Assumes nothing.
use mathlib.Core.Path.{◌≡◌, refl}
use mathlib.Core.List.{List, [], ◌∷◌, ◌++◌, map}
use lib.ListN.{replicate}
use Rattle.spec.proofs.Lines.{lines}
use Rattle.spec.proofs.Computing.{computing}
use Rattle.workedlaunches.proofs.Worked.{Worked, computed, expected, final_log}

unfoldable pub run_examples : List Worked
run_examples =
    -- every computing op by its byte: R1 is 2,949,075,000 (its top bit is set), R2 is 11
    record {
      file = lines "kernel=1/threads=1/cells=11/groups=1/global=0/limit=100/rows=37"
          ++ lines "row=1,1,200,175/row=1,3,255,255/row=6,1,1,3/row=1,2,11,0/row=4,5,1,2/row=1,6,0,0/row=17,6,5,0/row=5,5,1,2/row=1,6,1,0/row=17,6,5,0"
          ++ lines "row=6,5,1,2/row=1,6,2,0/row=17,6,5,0/row=7,5,1,2/row=1,6,3,0/row=17,6,5,0/row=8,5,1,2/row=1,6,4,0/row=17,6,5,0/row=9,5,1,2/row=1,6,5,0"
          ++ lines "row=17,6,5,0/row=10,5,1,2/row=1,6,6,0/row=17,6,5,0/row=11,5,1,2/row=1,6,7,0/row=17,6,5,0/row=12,5,1,2/row=1,6,8,0/row=17,6,5,0/row=13,5,1,2"
          ++ lines "row=1,6,9,0/row=17,6,5,0/row=14,5,1,2/row=1,6,10,0/row=17,6,5,0"
          ++ lines "cell=9/cell=9/cell=9/cell=9/cell=9/cell=9/cell=9/cell=9/cell=9/cell=9/cell=9/end=kernel";
      report = lines "verdict=passed/row=-/group=-/othergroup=-/thread=-/other=-/kind=-/at=-/rows=37/steps=37/barriers=0/conflicts=0/cell=2949075011/cell=2949074989/cell=2375053928/cell=8"
          ++ lines "cell=2949075003/cell=2949074995/cell=1439978/cell=4294310122/cell=0/cell=0/cell=1/end=report";
      log = replicate 11 0 ++ (replicate 11 1 ++ replicate 11 0)
          ++ (2949075011 ∷ 2949074989 ∷ 2375053928 ∷ 8 ∷ 2949075003 ∷ 2949074995 ∷ 1439978 ∷ 4294310122 ∷ 0 ∷ 0 ∷ 1 ∷ replicate 44 0);
    }
    -- COUNT, TID and the number of cells, all three different; SET to R15 of two bytes
    ∷ record {
      file = lines "kernel=1/threads=3/cells=5/groups=1/global=0/limit=100/rows=12"
          ++ lines "row=2,0,0,0/row=3,1,0,0/row=17,0,1,0/row=1,15,255,254/row=32,0,0,0/row=1,2,4,0/row=1,14,2,0/row=12,3,0,14/row=32,0,3,0/row=17,2,15,0"
          ++ lines "row=34,0,0,0/row=34,0,0,0"
          ++ lines "cell=9/cell=9/cell=9/cell=9/cell=9/end=kernel";
      report = lines "verdict=passed/row=-/group=-/othergroup=-/thread=-/other=-/kind=-/at=-/rows=12/steps=6/steps=11/steps=12/barriers=0/conflicts=0/cell=3/cell=3/cell=3/cell=9/cell=65279"
          ++ lines "end=report";
      log = 0 ∷ 0 ∷ 0 ∷ 0 ∷ 0 ∷ 1 ∷ 2 ∷ 4 ∷ 0 ∷ 4 ∷ 0 ∷ 0 ∷ 0 ∷ 0 ∷ 0 ∷ 3 ∷ 3 ∷ 3 ∷ 0 ∷ 65279 ∷ replicate 20 0;
    }
    -- 2^31 is true for IF and for WHILE; so is 2
    ∷ record {
      file = lines "kernel=1/threads=1/cells=4/groups=1/global=0/limit=100/rows=26"
          ++ lines "row=1,1,0,128/row=1,2,0,1/row=6,2,2,2/row=6,1,1,2/row=1,3,2,0/row=1,4,0,0/row=32,0,1,0/row=17,4,3,0/row=33,0,0,0/row=17,4,2,0/row=34,0,0,0"
          ++ lines "row=1,4,1,0/row=32,0,3,0/row=17,4,3,0/row=34,0,0,0/row=1,4,2,0/row=1,5,1,0/row=35,0,1,0/row=5,1,1,1/row=17,4,3,0/row=36,0,0,0/row=1,4,3,0"
          ++ lines "row=35,0,3,0/row=5,3,3,5/row=17,4,3,0/row=36,0,0,0"
          ++ lines "cell=9/cell=9/cell=9/cell=9/end=kernel";
      report = lines "verdict=passed/row=-/group=-/othergroup=-/thread=-/other=-/kind=-/at=-/rows=32/steps=31/barriers=0/conflicts=0/cell=2/cell=2/cell=2/cell=0/end=report";
      log = 0 ∷ 0 ∷ 0 ∷ 0 ∷ 1 ∷ 1 ∷ 1 ∷ 1 ∷ 0 ∷ 0 ∷ 0 ∷ 0 ∷ 2 ∷ 2 ∷ 2 ∷ 1 ∷ 0 ∷ 0 ∷ 0 ∷ 1 ∷ replicate 12 0;
    }
    -- a BARRIER forgets readers: all load cell 0, and behind it thread 1 stores there
    ∷ record {
      file = lines "kernel=1/threads=2/cells=1/groups=1/global=0/limit=100/rows=6/row=2,0,0,0/row=16,1,2,0/row=37,0,0,0/row=32,0,0,0/row=17,2,0,0/row=34,0,0,0/cell=4/end=kernel";
      report = lines "verdict=passed/row=-/group=-/othergroup=-/thread=-/other=-/kind=-/at=-/rows=6/steps=4/steps=5/barriers=1/conflicts=0/cell=1/end=report";
      log = 0 ∷ 2 ∷ 0 ∷ 1 ∷ replicate 4 0;
    }
    -- a BARRIER forgets writers: each stores its own cell, and behind it loads the other's
    ∷ record {
      file = lines "kernel=1/threads=2/cells=2/groups=1/global=0/limit=100/rows=8"
          ++ lines "row=2,0,0,0/row=1,1,1,0/row=5,2,1,0/row=17,0,1,0/row=37,0,0,0/row=16,3,2,0/row=37,0,0,0/row=17,0,2,0"
          ++ lines "cell=4/cell=5/end=kernel";
      report = lines "verdict=passed/row=-/group=-/othergroup=-/thread=-/other=-/kind=-/at=-/rows=8/steps=6/steps=6/barriers=2/conflicts=0/cell=1/cell=0/end=report";
      log = 0 ∷ 0 ∷ 1 ∷ 2 ∷ 0 ∷ 0 ∷ 1 ∷ replicate 9 0;
    }
    -- a thread loads what it stored, and stores what it loaded and stored
    ∷ record {
      file = lines "kernel=1/threads=2/cells=2/groups=1/global=0/limit=100/rows=6/row=2,0,0,0/row=1,1,7,0/row=17,0,1,0/row=16,2,0,0/row=17,0,0,0/row=17,0,2,0/cell=4/cell=5/end=kernel";
      report = lines "verdict=passed/row=-/group=-/othergroup=-/thread=-/other=-/kind=-/at=-/rows=6/steps=6/steps=6/barriers=0/conflicts=0/cell=7/cell=7/end=report";
      log = 1 ∷ 2 ∷ 1 ∷ 2 ∷ 0 ∷ 0 ∷ 7 ∷ 7 ∷ 1 ∷ 1 ∷ replicate 6 0;
    }
    -- diverged with threads 1 and 3 enabled
    ∷ record {
      file = lines "kernel=1/threads=4/cells=1/groups=1/global=0/limit=100/rows=6/row=2,0,0,0/row=1,1,1,0/row=7,2,0,1/row=32,0,2,0/row=37,0,0,0/row=34,0,0,0/cell=0/end=kernel";
      report = lines "verdict=diverged/row=4/group=0/othergroup=-/thread=1/other=0/kind=-/at=-/rows=4/steps=4/steps=4/steps=4/steps=4/barriers=0/conflicts=0/cell=0/end=report";
      log = replicate 8 0;
    }
    -- diverged with all but thread 2 enabled
    ∷ record {
      file = lines "kernel=1/threads=4/cells=1/groups=1/global=0/limit=100/rows=8"
          ++ lines "row=2,0,0,0/row=1,1,2,0/row=12,2,0,1/row=32,0,2,0/row=2,3,0,0/row=33,0,0,0/row=37,0,0,0/row=34,0,0,0"
          ++ lines "cell=0/end=kernel";
      report = lines "verdict=diverged/row=6/group=0/othergroup=-/thread=0/other=2/kind=-/at=-/rows=6/steps=4/steps=4/steps=6/steps=4/barriers=0/conflicts=0/cell=0/end=report";
      log = replicate 8 0;
    }
    -- diverged under two saved masks: in the inner ELSE only thread 1 is enabled
    ∷ record {
      file = lines "kernel=1/threads=4/cells=1/groups=1/global=0/limit=100/rows=10"
          ++ lines "row=2,0,0,0/row=1,1,1,0/row=13,2,1,0/row=32,0,0,0/row=32,0,2,0/row=2,3,0,0/row=33,0,0,0/row=37,0,0,0/row=34,0,0,0/row=34,0,0,0"
          ++ lines "cell=0/end=kernel";
      report = lines "verdict=diverged/row=7/group=0/othergroup=-/thread=1/other=0/kind=-/at=-/rows=7/steps=4/steps=5/steps=7/steps=7/barriers=0/conflicts=0/cell=0/end=report";
      log = replicate 8 0;
    }
    -- outside: thread 1 has loaded when thread 3 reaches for cell 3 of 3
    ∷ record {
      file = lines "kernel=1/threads=4/cells=3/groups=1/global=0/limit=100/rows=6"
          ++ lines "row=2,0,0,0/row=1,1,1,0/row=7,2,0,1/row=32,0,2,0/row=16,3,0,0/row=34,0,0,0"
          ++ lines "cell=4/cell=5/cell=6/end=kernel";
      report = lines "verdict=outside/row=4/group=0/othergroup=-/thread=3/other=-/kind=-/at=3/rows=4/steps=4/steps=5/steps=4/steps=4/barriers=0/conflicts=0/cell=4/cell=5/cell=6/end=report";
      log = 0 ∷ 2 ∷ replicate 22 0;
    }
    -- outside: threads 0 and 1 have stored when thread 2 reaches for cell 200 of 3
    ∷ record {
      file = lines "kernel=1/threads=3/cells=3/groups=1/global=0/limit=100/rows=9"
          ++ lines "row=2,0,0,0/row=1,1,100,0/row=6,2,0,1/row=1,3,2,0/row=13,4,0,3/row=32,0,4,0/row=4,2,0,15/row=34,0,0,0/row=17,2,1,0"
          ++ lines "cell=4/cell=5/cell=6/end=kernel";
      report = lines "verdict=outside/row=8/group=0/othergroup=-/thread=2/other=-/kind=-/at=200/rows=8/steps=9/steps=9/steps=7/barriers=0/conflicts=0/cell=100/cell=100/cell=6/end=report";
      log = 0 ∷ 0 ∷ 0 ∷ 1 ∷ 2 ∷ 0 ∷ 0 ∷ 0 ∷ 0 ∷ 100 ∷ 100 ∷ replicate 13 0;
    }
    -- IF and ELSE within either part of an IF: threads 0 to 3 come to 14, 12, 13 and 11
    ∷ record {
      file = lines "kernel=1/threads=4/cells=4/groups=1/global=0/limit=100/rows=19"
          ++ lines "row=2,0,0,0/row=1,1,1,0/row=1,2,2,0/row=7,3,0,1/row=7,4,0,2/row=32,0,3,0/row=32,0,4,0/row=1,5,11,0/row=33,0,0,0/row=1,5,12,0/row=34,0,0,0"
          ++ lines "row=33,0,0,0/row=32,0,4,0/row=1,5,13,0/row=33,0,0,0/row=1,5,14,0/row=34,0,0,0/row=34,0,0,0/row=17,0,5,0"
          ++ lines "cell=9/cell=9/cell=9/cell=9/end=kernel";
      report = lines "verdict=passed/row=-/group=-/othergroup=-/thread=-/other=-/kind=-/at=-/rows=19/steps=11/steps=12/steps=12/steps=13/barriers=0/conflicts=0/cell=14/cell=12/cell=13"
          ++ lines "cell=11/end=report";
      log = 0 ∷ 0 ∷ 0 ∷ 0 ∷ 1 ∷ 2 ∷ 4 ∷ 8 ∷ 0 ∷ 0 ∷ 0 ∷ 0 ∷ 14 ∷ 12 ∷ 13 ∷ 11 ∷ replicate 16 0;
    }
    -- nobody enabled: plain row, access outside, loop, IF with ELSE, BARRIER; each is a row without steps
    ∷ record {
      file = lines "kernel=1/threads=2/cells=1/groups=1/global=0/limit=100/rows=15"
          ++ lines "row=1,2,9,0/row=32,0,0,0/row=2,1,0,0/row=16,3,2,0/row=17,2,3,0/row=35,0,2,0/row=2,1,0,0/row=36,0,0,0/row=32,0,0,0/row=33,0,0,0/row=2,1,0,0"
          ++ lines "row=34,0,0,0/row=37,0,0,0/row=34,0,0,0/row=2,4,0,0"
          ++ lines "cell=4/end=kernel";
      report = lines "verdict=passed/row=-/group=-/othergroup=-/thread=-/other=-/kind=-/at=-/rows=13/steps=4/steps=4/barriers=0/conflicts=0/cell=4/end=report";
      log = replicate 8 0;
    }
    -- a loop in a loop, by each thread its own number of times, the inner one entered anew: thread t adds t * (t + 1) times
    ∷ record {
      file = lines "kernel=1/threads=3/cells=3/groups=1/global=0/limit=100/rows=13"
          ++ lines "row=2,0,0,0/row=1,1,1,0/row=1,6,2,0/row=4,2,0,1/row=35,0,2,0/row=4,3,0,15/row=35,0,3,0/row=5,3,3,1/row=4,4,4,1/row=36,0,0,0/row=5,2,2,1"
          ++ lines "row=36,0,0,0/row=17,0,4,0"
          ++ lines "cell=9/cell=9/cell=9/end=kernel";
      report = lines "verdict=passed/row=-/group=-/othergroup=-/thread=-/other=-/kind=-/at=-/rows=45/steps=11/steps=24/steps=45/barriers=0/conflicts=0/cell=0/cell=2/cell=6/end=report";
      log = 0 ∷ 0 ∷ 0 ∷ 1 ∷ 2 ∷ 4 ∷ 0 ∷ 0 ∷ 0 ∷ 0 ∷ 2 ∷ 6 ∷ replicate 12 0;
    }
    -- a loop in an IF that thread 0 does not enter: behind the loop all of the IF go on, behind ENDIF all
    ∷ record {
      file = lines "kernel=1/threads=3/cells=3/groups=1/global=0/limit=100/rows=14"
          ++ lines "row=2,0,0,0/row=1,1,1,0/row=32,0,0,0/row=4,2,0,15/row=35,0,2,0/row=5,2,2,1/row=32,0,2,0/row=4,3,3,1/row=34,0,0,0/row=36,0,0,0/row=4,4,0,0"
          ++ lines "row=34,0,0,0/row=4,3,3,4/row=17,0,3,0"
          ++ lines "cell=9/cell=9/cell=9/end=kernel";
      report = lines "verdict=passed/row=-/group=-/othergroup=-/thread=-/other=-/kind=-/at=-/rows=21/steps=6/steps=14/steps=20/barriers=0/conflicts=0/cell=0/cell=2/cell=5/end=report";
      log = 0 ∷ 0 ∷ 0 ∷ 1 ∷ 2 ∷ 4 ∷ 0 ∷ 0 ∷ 0 ∷ 0 ∷ 2 ∷ 5 ∷ replicate 12 0;
    }
    -- a BARRIER in a loop, twice, and one behind it
    ∷ record {
      file = lines "kernel=1/threads=2/cells=2/groups=1/global=0/limit=100/rows=10"
          ++ lines "row=2,0,0,0/row=1,1,1,0/row=1,2,2,0/row=35,0,2,0/row=4,3,0,2/row=17,0,3,0/row=37,0,0,0/row=5,2,2,1/row=36,0,0,0/row=37,0,0,0"
          ++ lines "cell=9/cell=9/end=kernel";
      report = lines "verdict=passed/row=-/group=-/othergroup=-/thread=-/other=-/kind=-/at=-/rows=17/steps=14/steps=14/barriers=3/conflicts=0/cell=1/cell=2/end=report";
      log = replicate 16 0;
    }
    -- thread 2 meets thread 0's load: threads 0 and 1 of the row have stored and counted
    ∷ record {
      file = lines "kernel=1/threads=3/cells=3/groups=1/global=0/limit=100/rows=7"
          ++ lines "row=2,0,0,0/row=1,1,2,0/row=12,2,0,3/row=32,0,2,0/row=16,4,1,0/row=34,0,0,0/row=17,0,1,0"
          ++ lines "cell=4/cell=5/cell=6/end=kernel";
      report = lines "verdict=race/row=6/group=0/othergroup=0/thread=2/other=0/kind=rw/at=2/rows=6/steps=7/steps=6/steps=5/barriers=0/conflicts=0/cell=2/cell=2/cell=6/end=report";
      log = 0 ∷ 0 ∷ 1 ∷ 1 ∷ 2 ∷ 0 ∷ 0 ∷ 0 ∷ 0 ∷ 2 ∷ 2 ∷ replicate 13 0;
    }
    -- thread 0's load meets thread 2's store
    ∷ record {
      file = lines "kernel=1/threads=3/cells=1/groups=1/global=0/limit=100/rows=8"
          ++ lines "row=2,0,0,0/row=1,1,2,0/row=12,2,0,1/row=32,0,2,0/row=17,3,1,0/row=33,0,0,0/row=16,4,3,0/row=34,0,0,0"
          ++ lines "cell=4/end=kernel";
      report = lines "verdict=race/row=6/group=0/othergroup=0/thread=0/other=2/kind=wr/at=0/rows=6/steps=4/steps=4/steps=6/barriers=0/conflicts=0/cell=2/end=report";
      log = 0 ∷ 4 ∷ 0 ∷ 2 ∷ replicate 4 0;
    }
    -- a limit that the last row reaches, and one less
    ∷ record {
      file = lines "kernel=1/threads=2/cells=1/groups=1/global=0/limit=3/rows=3/row=2,0,0,0/row=2,1,0,0/row=2,2,0,0/cell=4/end=kernel";
      report = lines "verdict=passed/row=-/group=-/othergroup=-/thread=-/other=-/kind=-/at=-/rows=3/steps=3/steps=3/barriers=0/conflicts=0/cell=4/end=report";
      log = replicate 8 0;
    }
    ∷ record {
      file = lines "kernel=1/threads=2/cells=1/groups=1/global=0/limit=2/rows=3/row=2,0,0,0/row=2,1,0,0/row=2,2,0,0/cell=4/end=kernel";
      report = lines "verdict=spent/row=2/group=0/othergroup=-/thread=-/other=-/kind=-/at=-/rows=2/steps=2/steps=2/barriers=0/conflicts=0/cell=4/end=report";
      log = replicate 8 0;
    }
    -- a BARRIER in a loop in a loop, to which thread 0 comes in the first round and thread 1 in the second
    ∷ record {
      file = lines "kernel=1/threads=2/cells=1/groups=1/global=0/limit=100/rows=12"
          ++ lines "row=2,0,0,0/row=1,1,1,0/row=1,2,2,0/row=35,0,2,0/row=5,3,2,1/row=9,4,3,0/row=35,0,4,0/row=37,0,0,0/row=5,4,4,1/row=36,0,0,0/row=5,2,2,1"
          ++ lines "row=36,0,0,0"
          ++ lines "cell=0/end=kernel";
      report = lines "verdict=diverged/row=7/group=0/othergroup=-/thread=0/other=1/kind=-/at=-/rows=7/steps=7/steps=7/barriers=0/conflicts=0/cell=0/end=report";
      log = replicate 8 0;
    }
    -- the same by one thread: it passes once
    ∷ record {
      file = lines "kernel=1/threads=1/cells=1/groups=1/global=0/limit=100/rows=12"
          ++ lines "row=2,0,0,0/row=1,1,1,0/row=1,2,2,0/row=35,0,2,0/row=5,3,2,1/row=9,4,3,0/row=35,0,4,0/row=37,0,0,0/row=5,4,4,1/row=36,0,0,0/row=5,2,2,1"
          ++ lines "row=36,0,0,0"
          ++ lines "cell=0/end=kernel";
      report = lines "verdict=passed/row=-/group=-/othergroup=-/thread=-/other=-/kind=-/at=-/rows=20/steps=19/barriers=1/conflicts=0/cell=0/end=report";
      log = replicate 8 0;
    }
    -- spent within a loop that thread 1 alone stays in: the row due is the first of the body
    ∷ record {
      file = lines "kernel=1/threads=2/cells=1/groups=1/global=0/limit=5/rows=4/row=2,0,0,0/row=35,0,0,0/row=2,1,0,0/row=36,0,0,0/cell=4/end=kernel";
      report = lines "verdict=spent/row=2/group=0/othergroup=-/thread=-/other=-/kind=-/at=-/rows=5/steps=2/steps=5/barriers=0/conflicts=0/cell=4/end=report";
      log = replicate 8 0;
    }
    -- outside with a number of ten digits
    ∷ record {
      file = lines "kernel=1/threads=2/cells=2/groups=1/global=0/limit=100/rows=5/row=1,1,0,128/row=1,2,0,1/row=6,2,2,2/row=6,1,1,2/row=16,3,1,0/cell=4/cell=5/end=kernel";
      report = lines "verdict=outside/row=4/group=0/othergroup=-/thread=0/other=-/kind=-/at=2147483648/rows=4/steps=4/steps=4/barriers=0/conflicts=0/cell=4/cell=5/end=report";
      log = replicate 16 0;
    }
    -- 32 threads
    ∷ record {
      file = lines "kernel=1/threads=32/cells=32/groups=1/global=0/limit=2/rows=2"
          ++ lines "row=2,0,0,0/row=17,0,0,0"
          ++ lines "cell=7/cell=7/cell=7/cell=7/cell=7/cell=7/cell=7/cell=7/cell=7/cell=7/cell=7/cell=7/cell=7/cell=7/cell=7/cell=7/cell=7/cell=7/cell=7/cell=7"
          ++ lines "cell=7/cell=7/cell=7/cell=7/cell=7/cell=7/cell=7/cell=7/cell=7/cell=7/cell=7/cell=7/end=kernel";
      report = lines "verdict=passed/row=-/group=-/othergroup=-/thread=-/other=-/kind=-/at=-/rows=2"
          ++ lines "steps=2/steps=2/steps=2/steps=2/steps=2/steps=2/steps=2/steps=2/steps=2/steps=2/steps=2/steps=2/steps=2/steps=2/steps=2/steps=2"
          ++ lines "steps=2/steps=2/steps=2/steps=2/steps=2/steps=2/steps=2/steps=2/steps=2/steps=2/steps=2/steps=2/steps=2/steps=2/steps=2/steps=2"
          ++ lines "barriers=0/conflicts=1/cell=0/cell=1/cell=2/cell=3/cell=4/cell=5/cell=6/cell=7/cell=8"
          ++ lines "cell=9/cell=10/cell=11/cell=12/cell=13/cell=14/cell=15/cell=16/cell=17/cell=18/cell=19/cell=20/cell=21/cell=22/cell=23/cell=24/cell=25"
          ++ lines "cell=26/cell=27/cell=28/cell=29/cell=30/cell=31/end=report";
      log = replicate 32 0
          ++ (1 ∷ 2 ∷ 4 ∷ 8 ∷ 16 ∷ 32 ∷ 64 ∷ 128 ∷ 256 ∷ 512 ∷ 1024 ∷ 2048 ∷ 4096 ∷ 8192 ∷ 16384 ∷ 32768 ∷ 65536 ∷ 131072 ∷ 262144 ∷ 524288 ∷ 1048576
          ∷ 2097152 ∷ 4194304 ∷ 8388608 ∷ 16777216 ∷ 33554432 ∷ 67108864 ∷ 134217728 ∷ 268435456 ∷ 536870912 ∷ 1073741824 ∷ 2147483648 ∷ replicate 32 0)
          ++ (0 ∷ 1 ∷ 2 ∷ 3 ∷ 4 ∷ 5 ∷ 6 ∷ 7 ∷ 8 ∷ 9 ∷ 10 ∷ 11 ∷ 12 ∷ 13 ∷ 14 ∷ 15 ∷ 16 ∷ 17 ∷ 18 ∷ 19 ∷ 20
          ∷ 21 ∷ 22 ∷ 23 ∷ 24 ∷ 25 ∷ 26 ∷ 27 ∷ 28 ∷ 29 ∷ 30 ∷ 31 ∷ replicate 128 0);
    }
    ∷ []

pub worked_runs : map computed run_examples ≡ map expected run_examples
unfolding computing computed expected final_log run_examples
worked_runs = refl
