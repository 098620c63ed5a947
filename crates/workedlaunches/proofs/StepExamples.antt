-- Worked launches in which the threads' counts of steps differ, item 4 of the change requests, each with the report and the whole log. Worked out by hand
-- from the papers. Assumes nothing.
use mathlib.Core.Path.{◌≡◌, refl}
use mathlib.Core.List.{List, [], ◌∷◌, ◌++◌, map}
use Prim.Native.Nat.{ℕ}
use lib.ListN.{replicate}
use Rattle.spec.specs.LaunchFile.{file_launch}
use Rattle.spec.proofs.Lines.{lines}
use Rattle.spec.proofs.Computing.{computing}
use Rattle.workedlaunches.proofs.Worked.{Worked, computed, expected, final_log, all_steps}

unfoldable pub step_examples : List Worked
step_examples =
    -- the arms of an IF: threads 0 and 2 in the first, which step at the ELSE too, threads 1 and 3 in the second
    record {
      file = lines "kernel=1/threads=4/cells=4/groups=1/global=0/limit=100/rows=9"
          ++ lines "row=2,0,0,0/row=16,1,0,0/row=32,0,1,0/row=1,2,5,0/row=1,3,6,0/row=1,4,7,0/row=33,0,0,0/row=1,2,8,0/row=34,0,0,0"
          ++ lines "cell=1/cell=0/cell=1/cell=0/end=kernel";
      report = lines "verdict=passed/row=-/group=-/othergroup=-/thread=-/other=-/kind=-/at=-/rows=9/steps=8/steps=5/steps=8/steps=5/barriers=0/conflicts=0/cell=1/cell=0/cell=1/cell=0/end=report";
      log = 1 ∷ 2 ∷ 4 ∷ 8 ∷ replicate 28 0;
    }
    -- 2, 0, 3 and 1 rounds of a loop: k rounds are k + 1 steps at the WHILE and k at each of the two rows behind it
    ∷ record {
      file = lines "kernel=1/threads=4/cells=4/groups=1/global=0/limit=100/rows=6/row=2,0,0,0/row=16,1,0,0/row=1,2,1,0/row=35,0,1,0/row=5,1,1,2/row=36,0,0,0"
          ++ lines "cell=2/cell=0/cell=3/cell=1/end=kernel";
      report = lines "verdict=passed/row=-/group=-/othergroup=-/thread=-/other=-/kind=-/at=-/rows=13/steps=10/steps=4/steps=13/steps=7/barriers=0/conflicts=0"
          ++ lines "cell=2/cell=0/cell=3/cell=1/end=report";
      log = 1 ∷ 2 ∷ 4 ∷ 8 ∷ replicate 28 0;
    }
    -- thread 2 alone in an IF that threads 1, 2 and 3 come to: its ENDIF steps these three, the outer one all
    ∷ record {
      file = lines "kernel=1/threads=4/cells=1/groups=1/global=0/limit=100/rows=8"
          ++ lines "row=2,0,0,0/row=1,1,2,0/row=12,2,0,1/row=32,0,0,0/row=32,0,2,0/row=1,3,1,0/row=34,0,0,0/row=34,0,0,0"
          ++ lines "cell=7/end=kernel";
      report = lines "verdict=passed/row=-/group=-/othergroup=-/thread=-/other=-/kind=-/at=-/rows=8/steps=5/steps=7/steps=8/steps=7/barriers=0/conflicts=0/cell=7/end=report";
      log = replicate 8 0;
    }
    -- a loop in a loop in an arm: thread t goes t times round the outer one, and t, t - 1, .. 1 times round the inner one
    ∷ record {
      file = lines "kernel=1/threads=3/cells=1/groups=1/global=0/limit=100/rows=11"
          ++ lines "row=2,0,0,0/row=1,1,1,0/row=32,0,0,0/row=35,0,0,0/row=4,3,0,15/row=35,0,3,0/row=5,3,3,1/row=36,0,0,0/row=5,0,0,1/row=36,0,0,0"
          ++ lines "row=34,0,0,0/cell=7/end=kernel";
      report = lines "verdict=passed/row=-/group=-/othergroup=-/thread=-/other=-/kind=-/at=-/rows=24/steps=4/steps=13/steps=24/barriers=0/conflicts=0/cell=7/end=report";
      log = replicate 8 0;
    }
    -- nobody in an arm, at the SET, WHILE and ELSE in it, and nobody in one of thread 0; thread 0 comes to none of the first arm's rows
    ∷ record {
      file = lines "kernel=1/threads=3/cells=1/groups=1/global=0/limit=100/rows=14"
          ++ lines "row=2,0,0,0/row=32,0,0,0/row=32,0,1,0/row=1,2,1,0/row=35,0,2,0/row=1,3,1,0/row=36,0,0,0/row=33,0,0,0/row=1,1,3,0/row=34,0,0,0"
          ++ lines "row=33,0,0,0/row=32,0,1,0/row=34,0,0,0/row=34,0,0,0/cell=7/end=kernel";
      report = lines "verdict=passed/row=-/group=-/othergroup=-/thread=-/other=-/kind=-/at=-/rows=12/steps=5/steps=7/steps=7/barriers=0/conflicts=0/cell=7/end=report";
      log = replicate 8 0;
    }
    -- threads 1, 3 and 4 come to a STORE: thread 1's is made, thread 3's races with thread 5's load, thread 4 has no turn
    ∷ record {
      file = lines "kernel=1/threads=6/cells=6/groups=1/global=0/limit=100/rows=6/row=2,0,0,0/row=16,1,0,0/row=32,0,1,0/row=1,2,9,0/row=17,1,2,0/row=34,0,0,0"
          ++ lines "cell=0/cell=1/cell=0/cell=5/cell=4/cell=0/end=kernel";
      report = lines "verdict=race/row=4/group=0/othergroup=0/thread=3/other=5/kind=rw/at=5/rows=4/steps=3/steps=5/steps=3/steps=4/steps=4/steps=3/barriers=0/conflicts=0"
          ++ lines "cell=0/cell=9/cell=0/cell=5/cell=4/cell=0/end=report";
      log = 1 ∷ 2 ∷ 4 ∷ 8 ∷ 16 ∷ 32 ∷ 0 ∷ 2 ∷ replicate 11 0 ++ (9 ∷ replicate 28 0);
    }
    -- threads 0, 2, 3 and 5 come to a LOAD: those of threads 0 and 2 are made, thread 3's is of cell 6 of six, thread 5 has no turn
    ∷ record {
      file = lines "kernel=1/threads=6/cells=6/groups=1/global=0/limit=100/rows=5/row=2,0,0,0/row=16,1,0,0/row=32,0,1,0/row=16,2,1,0/row=34,0,0,0"
          ++ lines "cell=4/cell=0/cell=1/cell=6/cell=0/cell=2/end=kernel";
      report = lines "verdict=outside/row=3/group=0/othergroup=-/thread=3/other=-/kind=-/at=6/rows=3/steps=4/steps=3/steps=4/steps=3/steps=3/steps=3/barriers=0/conflicts=0"
          ++ lines "cell=4/cell=0/cell=1/cell=6/cell=0/cell=2/end=report";
      log = 1 ∷ 6 ∷ 4 ∷ 8 ∷ 17 ∷ 32 ∷ replicate 42 0;
    }
    -- all store their numbers to one cell: thread 0's store is its second step, threads 1, which stops there, and 2 have none for it
    ∷ record {
      file = lines "kernel=1/threads=3/cells=1/groups=1/global=0/limit=100/rows=2/row=2,1,0,0/row=17,0,1,0/cell=4/end=kernel";
      report = lines "verdict=race/row=1/group=0/othergroup=0/thread=1/other=0/kind=ww/at=0/rows=1/steps=2/steps=1/steps=1/barriers=0/conflicts=0/cell=0/end=report";
      log = 0 ∷ 1 ∷ replicate 6 0;
    }
    -- a BARRIER that all pass, one that nobody comes to, and one at which threads 1 and 2 diverge from thread 0: no steps at any of them
    ∷ record {
      file = lines "kernel=1/threads=3/cells=1/groups=1/global=0/limit=100/rows=9"
          ++ lines "row=2,0,0,0/row=37,0,0,0/row=32,0,1,0/row=37,0,0,0/row=34,0,0,0/row=32,0,0,0/row=1,2,1,0/row=37,0,0,0/row=34,0,0,0"
          ++ lines "cell=7/end=kernel";
      report = lines "verdict=diverged/row=7/group=0/othergroup=-/thread=1/other=0/kind=-/at=-/rows=7/steps=4/steps=5/steps=5/barriers=1/conflicts=0/cell=7/end=report";
      log = replicate 8 0;
    }
    -- spent in the ELSE part, which thread 0 has alone
    ∷ record {
      file = lines "kernel=1/threads=3/cells=1/groups=1/global=0/limit=5/rows=7"
          ++ lines "row=2,0,0,0/row=32,0,0,0/row=1,1,1,0/row=33,0,0,0/row=1,1,2,0/row=1,1,3,0/row=34,0,0,0/cell=7/end=kernel";
      report = lines "verdict=spent/row=5/group=0/othergroup=-/thread=-/other=-/kind=-/at=-/rows=5/steps=3/steps=4/steps=4/barriers=0/conflicts=0/cell=7/end=report";
      log = replicate 8 0;
    }
    -- spent in the second round of a loop, which thread 2 has alone
    ∷ record {
      file = lines "kernel=1/threads=3/cells=1/groups=1/global=0/limit=7/rows=5/row=2,0,0,0/row=1,1,1,0/row=35,0,0,0/row=5,0,0,1/row=36,0,0,0/cell=7/end=kernel";
      report = lines "verdict=spent/row=4/group=0/othergroup=-/thread=-/other=-/kind=-/at=-/rows=7/steps=3/steps=6/steps=7/barriers=0/conflicts=0/cell=7/end=report";
      log = replicate 8 0;
    }
    -- 32 threads, and a row that thread 31 alone comes to
    ∷ record {
      file = lines "kernel=1/threads=32/cells=1/groups=1/global=0/limit=100/rows=6/row=2,0,0,0/row=1,1,31,0/row=12,2,0,1/row=32,0,2,0/row=1,3,1,0/row=34,0,0,0/cell=7/end=kernel";
      report = lines "verdict=passed/row=-/group=-/othergroup=-/thread=-/other=-/kind=-/at=-/rows=6"
          ++ lines "steps=5/steps=5/steps=5/steps=5/steps=5/steps=5/steps=5/steps=5/steps=5/steps=5/steps=5/steps=5/steps=5/steps=5/steps=5/steps=5"
          ++ lines "steps=5/steps=5/steps=5/steps=5/steps=5/steps=5/steps=5/steps=5/steps=5/steps=5/steps=5/steps=5/steps=5/steps=5/steps=5/steps=6"
          ++ lines "barriers=0/conflicts=0/cell=7/end=report";
      log = replicate 8 0;
    }
    ∷ []

-- The steps of all threads together, in each of them.
unfoldable pub step_sums : List ℕ
step_sums = 26 ∷ 34 ∷ 27 ∷ 41 ∷ 19 ∷ 22 ∷ 20 ∷ 4 ∷ 14 ∷ 11 ∷ 16 ∷ 161 ∷ []

pub worked_steps : map computed step_examples ≡ map expected step_examples
unfolding computing computed expected final_log step_examples
worked_steps = refl

pub worked_sums : map (λ x. all_steps (file_launch x.file)) step_examples ≡ step_sums
unfolding computing all_steps step_examples step_sums
worked_sums = refl
