-- Worked launches with bank conflicts and barrier intervals, item 5 of the change requests, each with the report and the whole log, and below with the words
-- of its records. Conflicts and records were worked out by hand from the papers, the rest with a small model written from them. Assumes nothing.
use mathlib.Core.Path.{◌≡◌, refl}
use mathlib.Core.List.{List, [], ◌∷◌, ◌++◌, map}
use Prim.Native.Nat.{ℕ}
use lib.ListN.{replicate}
use Rattle.spec.specs.LaunchFile.{file_launch}
use Rattle.spec.proofs.Lines.{lines}
use Rattle.spec.proofs.Computing.{computing}
use Rattle.workedlaunches.proofs.Worked.{Worked, computed, expected, final_log, final_records}

unfoldable pub conflict_examples : List Worked
conflict_examples =
    -- LOAD by four threads, STORE by three and ATOMIC ADD by two, at cells 16 apart: 3, 2 and 1, each in an interval of its own
    record {
      file = lines "kernel=1/threads=4/cells=49/groups=1/global=0/limit=100/rows=14/row=2,0,0,0/row=1,1,16,0/row=6,2,0,1/row=16,3,2,0/row=37,0,0,0/row=32,0,0,0/row=17,2,0,0"
          ++ lines "row=34,0,0,0/row=37,0,0,0/row=1,4,1,0/row=13,5,4,0/row=32,0,5,0/row=18,2,0,0/row=34,0,0,0/cell=7/cell=7/cell=7/cell=7/cell=7/cell=7/cell=7"
          ++ lines "cell=7/cell=7/cell=7/cell=7/cell=7/cell=7/cell=7/cell=7/cell=7/cell=7/cell=7/cell=7/cell=7/cell=7/cell=7/cell=7/cell=7/cell=7/cell=7/cell=7"
          ++ lines "cell=7/cell=7/cell=7/cell=7/cell=7/cell=7/cell=7/cell=7/cell=7/cell=7/cell=7/cell=7/cell=7/cell=7/cell=7/cell=7/cell=7/cell=7/cell=7/cell=7"
          ++ lines "cell=7/cell=7/end=kernel";
      report = lines "verdict=passed/row=-/group=-/othergroup=-/thread=-/other=-/kind=-/at=-/rows=14/steps=10/steps=11/steps=12/steps=12/barriers=2/conflicts=6/cell=7/cell=7/cell=7"
          ++ lines "cell=7/cell=7/cell=7/cell=7/cell=7/cell=7/cell=7/cell=7/cell=7/cell=7/cell=7/cell=7/cell=7/cell=1/cell=7/cell=7/cell=7/cell=7/cell=7/cell=7"
          ++ lines "cell=7/cell=7/cell=7/cell=7/cell=7/cell=7/cell=7/cell=7/cell=7/cell=4/cell=7/cell=7/cell=7/cell=7/cell=7/cell=7/cell=7/cell=7/cell=7/cell=7"
          ++ lines "cell=7/cell=7/cell=7/cell=7/cell=7/cell=6/end=report";
      log = replicate 130 0 ++ (4 ∷ replicate 15 0 ++ (8 ∷ replicate 245 0));
    }
    -- 32 threads add to two cells of one bank
    ∷ record {
      file = lines "kernel=1/threads=32/cells=17/groups=1/global=0/limit=100/rows=6/row=2,0,0,0/row=1,1,1,0/row=7,2,0,1/row=1,3,16,0/row=6,2,2,3/row=18,2,1,0/cell=7/cell=7/cell=7"
          ++ lines "cell=7/cell=7/cell=7/cell=7/cell=7/cell=7/cell=7/cell=7/cell=7/cell=7/cell=7/cell=7/cell=7/cell=7/end=kernel";
      report = lines "verdict=passed/row=-/group=-/othergroup=-/thread=-/other=-/kind=-/at=-/rows=6/steps=6/steps=6/steps=6/steps=6/steps=6/steps=6/steps=6/steps=6/steps=6/steps=6"
          ++ lines "steps=6/steps=6/steps=6/steps=6/steps=6/steps=6/steps=6/steps=6/steps=6/steps=6/steps=6/steps=6/steps=6/steps=6/steps=6/steps=6/steps=6"
          ++ lines "steps=6/steps=6/steps=6/steps=6/steps=6/barriers=0/conflicts=1/cell=23/cell=7/cell=7/cell=7/cell=7/cell=7/cell=7/cell=7/cell=7/cell=7/cell=7"
          ++ lines "cell=7/cell=7/cell=7/cell=7/cell=7/cell=23/end=report";
      log = replicate 34 0 ++ (1431655765 ∷ replicate 15 0 ++ (2863311530 ∷ replicate 85 0));
    }
    -- two threads load cells 0 and 8, then 0 and 16, 15 and 16, 0 and 1: 0 and 16 alone are in one bank
    ∷ record {
      file = lines "kernel=1/threads=2/cells=17/groups=1/global=0/limit=100/rows=13/row=2,0,0,0/row=1,1,8,0/row=6,2,0,1/row=16,3,2,0/row=37,0,0,0/row=4,2,2,2/row=16,3,2,0"
          ++ lines "row=37,0,0,0/row=1,4,15,0/row=4,4,4,0/row=16,3,4,0/row=37,0,0,0/row=16,3,0,0/cell=7/cell=7/cell=7/cell=7/cell=7/cell=7/cell=7/cell=7/cell=7"
          ++ lines "cell=7/cell=7/cell=7/cell=7/cell=7/cell=7/cell=7/cell=7/end=kernel";
      report = lines "verdict=passed/row=-/group=-/othergroup=-/thread=-/other=-/kind=-/at=-/rows=13/steps=10/steps=10/barriers=3/conflicts=1/cell=7/cell=7/cell=7/cell=7/cell=7/cell=7"
          ++ lines "cell=7/cell=7/cell=7/cell=7/cell=7/cell=7/cell=7/cell=7/cell=7/cell=7/cell=7/end=report";
      log = 1 ∷ 2 ∷ replicate 134 0;
    }
    -- seven threads load three cells of bank 0 and two each of banks 1 and 2: the largest number is three
    ∷ record {
      file = lines "kernel=1/threads=7/cells=33/groups=1/global=0/limit=100/rows=3/row=2,0,0,0/row=16,1,0,0/row=16,2,1,0/cell=0/cell=16/cell=32/cell=1/cell=17/cell=2/cell=18"
          ++ lines "cell=7/cell=7/cell=7/cell=7/cell=7/cell=7/cell=7/cell=7/cell=7/cell=7/cell=7/cell=7/cell=7/cell=7/cell=7/cell=7/cell=7/cell=7/cell=7/cell=7"
          ++ lines "cell=7/cell=7/cell=7/cell=7/cell=7/cell=7/end=kernel";
      report = lines "verdict=passed/row=-/group=-/othergroup=-/thread=-/other=-/kind=-/at=-/rows=3/steps=3/steps=3/steps=3/steps=3/steps=3/steps=3/steps=3/barriers=0/conflicts=2"
          ++ lines "cell=0/cell=16/cell=32/cell=1/cell=17/cell=2/cell=18/cell=7/cell=7/cell=7/cell=7/cell=7/cell=7/cell=7/cell=7/cell=7/cell=7/cell=7/cell=7"
          ++ lines "cell=7/cell=7/cell=7/cell=7/cell=7/cell=7/cell=7/cell=7/cell=7/cell=7/cell=7/cell=7/cell=7/cell=7/end=report";
      log = 1 ∷ 10 ∷ 36 ∷ 8 ∷ 16 ∷ 32 ∷ 64 ∷ replicate 9 0 ++ (2 ∷ 16 ∷ 64 ∷ replicate 13 0 ++ (4 ∷ replicate 231 0));
    }
    -- LOADs into the register that has the cell's number: cells 0 and 1 hold 0 and 16, cell 16 holds 3
    ∷ record {
      file = lines "kernel=1/threads=2/cells=17/groups=1/global=0/limit=100/rows=6/row=2,0,0,0/row=16,0,0,0/row=37,0,0,0/row=16,0,0,0/row=37,0,0,0/row=16,0,0,0/cell=0/cell=16"
          ++ lines "cell=7/cell=7/cell=7/cell=7/cell=7/cell=7/cell=7/cell=7/cell=7/cell=7/cell=7/cell=7/cell=7/cell=7/cell=3/end=kernel";
      report = lines "verdict=passed/row=-/group=-/othergroup=-/thread=-/other=-/kind=-/at=-/rows=6/steps=4/steps=4/barriers=2/conflicts=1/cell=0/cell=16/cell=7/cell=7/cell=7/cell=7"
          ++ lines "cell=7/cell=7/cell=7/cell=7/cell=7/cell=7/cell=7/cell=7/cell=7/cell=7/cell=3/end=report";
      log = 1 ∷ 0 ∷ 0 ∷ 2 ∷ replicate 132 0;
    }
    -- an add in a loop that three threads leave one after the other: 2, 1 and 0
    ∷ record {
      file = lines "kernel=1/threads=3/cells=33/groups=1/global=0/limit=100/rows=9/row=2,0,0,0/row=1,1,16,0/row=6,2,0,1/row=1,3,1,0/row=4,4,0,3/row=35,0,4,0/row=18,2,3,0"
          ++ lines "row=5,4,4,3/row=36,0,0,0/cell=7/cell=7/cell=7/cell=7/cell=7/cell=7/cell=7/cell=7/cell=7/cell=7/cell=7/cell=7/cell=7/cell=7/cell=7/cell=7"
          ++ lines "cell=7/cell=7/cell=7/cell=7/cell=7/cell=7/cell=7/cell=7/cell=7/cell=7/cell=7/cell=7/cell=7/cell=7/cell=7/cell=7/cell=7/end=kernel";
      report = lines "verdict=passed/row=-/group=-/othergroup=-/thread=-/other=-/kind=-/at=-/rows=18/steps=10/steps=14/steps=18/barriers=0/conflicts=3/cell=8/cell=7/cell=7/cell=7"
          ++ lines "cell=7/cell=7/cell=7/cell=7/cell=7/cell=7/cell=7/cell=7/cell=7/cell=7/cell=7/cell=7/cell=9/cell=7/cell=7/cell=7/cell=7/cell=7/cell=7/cell=7"
          ++ lines "cell=7/cell=7/cell=7/cell=7/cell=7/cell=7/cell=7/cell=7/cell=10/end=report";
      log = replicate 66 0 ++ (1 ∷ replicate 15 0 ++ (2 ∷ replicate 15 0 ++ (4 ∷ replicate 165 0)));
    }
    -- a race: threads 0 and 1 have stored to cells 0 and 16, thread 2 meets thread 3's add at cell 1; the LOAD and the add before it stay counted
    ∷ record {
      file = lines "kernel=1/threads=4/cells=17/groups=1/global=0/limit=100/rows=6/row=2,0,0,0/row=16,1,0,0/row=16,2,1,0/row=37,0,0,0/row=18,1,0,0/row=17,1,0,0/cell=0/cell=16"
          ++ lines "cell=1/cell=1/cell=7/cell=7/cell=7/cell=7/cell=7/cell=7/cell=7/cell=7/cell=7/cell=7/cell=7/cell=7/cell=7/end=kernel";
      report = lines "verdict=race/row=5/group=0/othergroup=0/thread=2/other=3/kind=aw/at=1/rows=5/steps=5/steps=5/steps=4/steps=4/barriers=1/conflicts=2/cell=0/cell=21/cell=1/cell=1"
          ++ lines "cell=7/cell=7/cell=7/cell=7/cell=7/cell=7/cell=7/cell=7/cell=7/cell=7/cell=7/cell=7/cell=1/end=report";
      log = replicate 17 0 ++ (1 ∷ replicate 15 0 ++ (2 ∷ 1 ∷ 12 ∷ replicate 14 0 ++ (2 ∷ replicate 16 0 ++ (1 ∷ replicate 68 0))));
    }
    -- outside: threads 0 and 1 have loaded cells 0 and 16, thread 2 reaches for cell 17 of 17
    ∷ record {
      file = lines "kernel=1/threads=3/cells=17/groups=1/global=0/limit=100/rows=6/row=2,0,0,0/row=16,1,0,0/row=1,3,16,0/row=7,4,1,3/row=16,5,4,0/row=16,5,1,0/cell=0/cell=16"
          ++ lines "cell=17/cell=7/cell=7/cell=7/cell=7/cell=7/cell=7/cell=7/cell=7/cell=7/cell=7/cell=7/cell=7/cell=7/cell=7/end=kernel";
      report = lines "verdict=outside/row=5/group=0/othergroup=-/thread=2/other=-/kind=-/at=17/rows=5/steps=6/steps=6/steps=5/barriers=0/conflicts=1/cell=0/cell=16/cell=17/cell=7"
          ++ lines "cell=7/cell=7/cell=7/cell=7/cell=7/cell=7/cell=7/cell=7/cell=7/cell=7/cell=7/cell=7/cell=7/end=report";
      log = 1 ∷ 2 ∷ 4 ∷ replicate 13 0 ++ (6 ∷ replicate 119 0);
    }
    -- diverged: the BARRIER that thread 1 alone comes to starts nothing
    ∷ record {
      file = lines "kernel=1/threads=2/cells=17/groups=1/global=0/limit=100/rows=9/row=2,0,0,0/row=1,1,16,0/row=6,2,0,1/row=16,3,2,0/row=37,0,0,0/row=18,2,1,0/row=32,0,0,0"
          ++ lines "row=37,0,0,0/row=34,0,0,0/cell=7/cell=7/cell=7/cell=7/cell=7/cell=7/cell=7/cell=7/cell=7/cell=7/cell=7/cell=7/cell=7/cell=7/cell=7/cell=7"
          ++ lines "cell=7/end=kernel";
      report = lines "verdict=diverged/row=7/group=0/othergroup=-/thread=1/other=0/kind=-/at=-/rows=7/steps=6/steps=6/barriers=1/conflicts=2/cell=23/cell=7/cell=7/cell=7/cell=7/cell=7"
          ++ lines "cell=7/cell=7/cell=7/cell=7/cell=7/cell=7/cell=7/cell=7/cell=7/cell=7/cell=23/end=report";
      log = replicate 34 0 ++ (1 ∷ replicate 15 0 ++ (2 ∷ replicate 85 0));
    }
    -- spent right behind a release in a loop, and one row later
    ∷ record {
      file = lines "kernel=1/threads=2/cells=17/groups=1/global=0/limit=13/rows=7/row=2,0,0,0/row=1,1,16,0/row=6,2,0,1/row=35,0,1,0/row=37,0,0,0/row=16,3,2,0/row=36,0,0,0/cell=7"
          ++ lines "cell=7/cell=7/cell=7/cell=7/cell=7/cell=7/cell=7/cell=7/cell=7/cell=7/cell=7/cell=7/cell=7/cell=7/cell=7/cell=7/end=kernel";
      report = lines "verdict=spent/row=5/group=0/othergroup=-/thread=-/other=-/kind=-/at=-/rows=13/steps=10/steps=10/barriers=3/conflicts=2/cell=7/cell=7/cell=7/cell=7/cell=7/cell=7"
          ++ lines "cell=7/cell=7/cell=7/cell=7/cell=7/cell=7/cell=7/cell=7/cell=7/cell=7/cell=7/end=report";
      log = replicate 136 0;
    }
    ∷ record {
      file = lines "kernel=1/threads=2/cells=17/groups=1/global=0/limit=14/rows=7/row=2,0,0,0/row=1,1,16,0/row=6,2,0,1/row=35,0,1,0/row=37,0,0,0/row=16,3,2,0/row=36,0,0,0/cell=7"
          ++ lines "cell=7/cell=7/cell=7/cell=7/cell=7/cell=7/cell=7/cell=7/cell=7/cell=7/cell=7/cell=7/cell=7/cell=7/cell=7/cell=7/end=kernel";
      report = lines "verdict=spent/row=6/group=0/othergroup=-/thread=-/other=-/kind=-/at=-/rows=14/steps=11/steps=11/barriers=3/conflicts=3/cell=7/cell=7/cell=7/cell=7/cell=7/cell=7"
          ++ lines "cell=7/cell=7/cell=7/cell=7/cell=7/cell=7/cell=7/cell=7/cell=7/cell=7/cell=7/end=report";
      log = 1 ∷ replicate 15 0 ++ (2 ∷ replicate 119 0);
    }
    -- BARRIERs that nobody comes to and a LOAD by nobody, between a LOAD and a STORE by both threads: one interval
    ∷ record {
      file = lines "kernel=1/threads=2/cells=17/groups=1/global=0/limit=100/rows=10/row=2,0,0,0/row=1,1,16,0/row=6,2,0,1/row=16,3,2,0/row=32,0,5,0/row=37,0,0,0/row=16,3,2,0"
          ++ lines "row=37,0,0,0/row=34,0,0,0/row=17,2,0,0/cell=7/cell=7/cell=7/cell=7/cell=7/cell=7/cell=7/cell=7/cell=7/cell=7/cell=7/cell=7/cell=7/cell=7"
          ++ lines "cell=7/cell=7/cell=7/end=kernel";
      report = lines "verdict=passed/row=-/group=-/othergroup=-/thread=-/other=-/kind=-/at=-/rows=10/steps=7/steps=7/barriers=0/conflicts=2/cell=0/cell=7/cell=7/cell=7/cell=7/cell=7"
          ++ lines "cell=7/cell=7/cell=7/cell=7/cell=7/cell=7/cell=7/cell=7/cell=7/cell=7/cell=1/end=report";
      log = 1 ∷ replicate 15 0 ++ (2 ∷ 1 ∷ replicate 15 0 ++ (2 ∷ replicate 33 0 ++ (1 ∷ replicate 68 0)));
    }
    -- a BARRIER in the last row: the interval behind it starts at the number of rows
    ∷ record {
      file = lines "kernel=1/threads=2/cells=17/groups=1/global=0/limit=100/rows=5/row=2,0,0,0/row=1,1,16,0/row=6,2,0,1/row=16,3,2,0/row=37,0,0,0/cell=7/cell=7/cell=7/cell=7"
          ++ lines "cell=7/cell=7/cell=7/cell=7/cell=7/cell=7/cell=7/cell=7/cell=7/cell=7/cell=7/cell=7/cell=7/end=kernel";
      report = lines "verdict=passed/row=-/group=-/othergroup=-/thread=-/other=-/kind=-/at=-/rows=5/steps=4/steps=4/barriers=1/conflicts=1/cell=7/cell=7/cell=7/cell=7/cell=7/cell=7"
          ++ lines "cell=7/cell=7/cell=7/cell=7/cell=7/cell=7/cell=7/cell=7/cell=7/cell=7/cell=7/end=report";
      log = replicate 136 0;
    }
    -- BARRIERs in the first row, right behind another and in the last row
    ∷ record {
      file = lines "kernel=1/threads=1/cells=1/groups=1/global=0/limit=100/rows=4/row=37,0,0,0/row=37,0,0,0/row=2,0,0,0/row=37,0,0,0/cell=7/end=kernel";
      report = lines "verdict=passed/row=-/group=-/othergroup=-/thread=-/other=-/kind=-/at=-/rows=4/steps=1/barriers=3/conflicts=0/cell=7/end=report";
      log = replicate 8 0;
    }
    -- two rounds of a loop with two BARRIERs, the second right before ENDWHILE, and a LOAD behind the loop
    ∷ record {
      file = lines "kernel=1/threads=2/cells=17/groups=1/global=0/limit=100/rows=12/row=2,0,0,0/row=1,1,16,0/row=6,2,0,1/row=1,3,1,0/row=1,4,2,0/row=35,0,4,0/row=18,2,3,0"
          ++ lines "row=37,0,0,0/row=5,4,4,3/row=37,0,0,0/row=36,0,0,0/row=16,5,2,0/cell=7/cell=7/cell=7/cell=7/cell=7/cell=7/cell=7/cell=7/cell=7/cell=7/cell=7"
          ++ lines "cell=7/cell=7/cell=7/cell=7/cell=7/cell=7/end=kernel";
      report = lines "verdict=passed/row=-/group=-/othergroup=-/thread=-/other=-/kind=-/at=-/rows=19/steps=15/steps=15/barriers=4/conflicts=3/cell=9/cell=7/cell=7/cell=7/cell=7/cell=7"
          ++ lines "cell=7/cell=7/cell=7/cell=7/cell=7/cell=7/cell=7/cell=7/cell=7/cell=7/cell=9/end=report";
      log = 1 ∷ replicate 15 0 ++ (2 ∷ replicate 119 0);
    }
    ∷ []

-- The words of the records of each of them: start, rows and cost of each interval.
unfoldable pub conflict_records : List (List ℕ)
conflict_records =
    (0 ∷ 5 ∷ 3 ∷ 5 ∷ 4 ∷ 2 ∷ 9 ∷ 5 ∷ 1 ∷ [])
    ∷ (0 ∷ 6 ∷ 1 ∷ [])
    ∷ (0 ∷ 5 ∷ 0 ∷ 5 ∷ 3 ∷ 1 ∷ 8 ∷ 4 ∷ 0 ∷ 12 ∷ 1 ∷ 0 ∷ [])
    ∷ (0 ∷ 3 ∷ 2 ∷ [])
    ∷ (0 ∷ 3 ∷ 0 ∷ 3 ∷ 2 ∷ 1 ∷ 5 ∷ 1 ∷ 0 ∷ [])
    ∷ (0 ∷ 18 ∷ 3 ∷ [])
    ∷ (0 ∷ 4 ∷ 1 ∷ 4 ∷ 1 ∷ 1 ∷ [])
    ∷ (0 ∷ 5 ∷ 1 ∷ [])
    ∷ (0 ∷ 5 ∷ 1 ∷ 5 ∷ 2 ∷ 1 ∷ [])
    ∷ (0 ∷ 5 ∷ 0 ∷ 5 ∷ 4 ∷ 1 ∷ 5 ∷ 4 ∷ 1 ∷ 5 ∷ 0 ∷ 0 ∷ [])
    ∷ (0 ∷ 5 ∷ 0 ∷ 5 ∷ 4 ∷ 1 ∷ 5 ∷ 4 ∷ 1 ∷ 5 ∷ 1 ∷ 1 ∷ [])
    ∷ (0 ∷ 10 ∷ 2 ∷ [])
    ∷ (0 ∷ 5 ∷ 1 ∷ 5 ∷ 0 ∷ 0 ∷ [])
    ∷ (0 ∷ 1 ∷ 0 ∷ 1 ∷ 1 ∷ 0 ∷ 2 ∷ 2 ∷ 0 ∷ 4 ∷ 0 ∷ 0 ∷ [])
    ∷ (0 ∷ 8 ∷ 1 ∷ 8 ∷ 2 ∷ 0 ∷ 10 ∷ 4 ∷ 1 ∷ 8 ∷ 2 ∷ 0 ∷ 10 ∷ 3 ∷ 1 ∷ [])
    ∷ []

pub worked_conflicts : map computed conflict_examples ≡ map expected conflict_examples
unfolding computing computed expected final_log conflict_examples
worked_conflicts = refl

pub worked_records : map (λ x. final_records (file_launch x.file)) conflict_examples ≡ conflict_records
unfolding computing final_records conflict_examples conflict_records
worked_records = refl
