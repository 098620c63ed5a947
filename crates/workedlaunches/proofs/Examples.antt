-- Worked launches: P1 to P8 of document 01, other launches that it names, and launches that tell its misreadings apart.
-- P1's file and report are those of document 01 with what items 4, 5 and 7 of document 02 changed: steps by thread, conflicts, groups. The rest was worked
-- out by hand from both. Assumes nothing.
use mathlib.Core.Path.{◌≡◌, refl}
use mathlib.Core.List.{List, [], ◌∷◌, ◌++◌, map}
use lib.ListN.{take, replicate}
use Rattle.spec.specs.Text.{text}
use Rattle.spec.specs.LaunchFile.{file_launch}
use Rattle.spec.proofs.Lines.{lines}
use Rattle.spec.proofs.Computing.{computing}
use Rattle.workedlaunches.proofs.Worked.{Worked, computed, expected, final_log, final_records}

unfoldable pub examples : List Worked
examples =
    -- P1: thread 1 stores a cell that thread 0 has read
    record {
      file = lines "kernel=1/threads=2/cells=3/groups=1/global=0/limit=100/rows=7"
          ++ lines "row=2,0,0,0/row=1,1,1,0/row=4,2,0,1/row=16,3,2,0/row=16,4,0,0/row=4,3,3,4/row=17,0,3,0"
          ++ lines "cell=1/cell=1/cell=1/end=kernel";
      report = lines "verdict=race/row=6/group=0/othergroup=0/thread=1/other=0/kind=rw/at=1/rows=6/steps=7/steps=6/barriers=0/conflicts=0/cell=2/cell=1/cell=1/end=report";
      log = 1 ∷ 3 ∷ 2 ∷ 1 ∷ 0 ∷ 0 ∷ 0 ∷ 0 ∷ 0 ∷ 2 ∷ replicate 14 0;
    }
    -- P2: the same with a BARRIER between rows 3 and 4
    ∷ record {
      file = lines "kernel=1/threads=2/cells=3/groups=1/global=0/limit=100/rows=8"
          ++ lines "row=2,0,0,0/row=1,1,1,0/row=4,2,0,1/row=16,3,2,0/row=37,0,0,0/row=16,4,0,0/row=4,3,3,4/row=17,0,3,0"
          ++ lines "cell=1/cell=1/cell=1/end=kernel";
      report = lines "verdict=passed/row=-/group=-/othergroup=-/thread=-/other=-/kind=-/at=-/rows=8/steps=7/steps=7/barriers=1/conflicts=0/cell=2/cell=2/cell=1/end=report";
      log = 1 ∷ 2 ∷ 0 ∷ 1 ∷ 2 ∷ 0 ∷ 0 ∷ 0 ∷ 0 ∷ 2 ∷ 2 ∷ replicate 13 0;
    }
    -- P3: an empty table under limit 0
    ∷ record {
      file = lines "kernel=1/threads=1/cells=1/groups=1/global=0/limit=0/rows=0/cell=7/end=kernel";
      report = lines "verdict=passed/row=-/group=-/othergroup=-/thread=-/other=-/kind=-/at=-/rows=0/steps=0/barriers=0/conflicts=0/cell=7/end=report";
      log = replicate 8 0;
    }
    -- P4: one TID, under limit 0 and under limit 1
    ∷ record {
      file = lines "kernel=1/threads=3/cells=1/groups=1/global=0/limit=0/rows=1/row=2,0,0,0/cell=7/end=kernel";
      report = lines "verdict=spent/row=0/group=0/othergroup=-/thread=-/other=-/kind=-/at=-/rows=0/steps=0/steps=0/steps=0/barriers=0/conflicts=0/cell=7/end=report";
      log = replicate 8 0;
    }
    ∷ record {
      file = lines "kernel=1/threads=3/cells=1/groups=1/global=0/limit=1/rows=1/row=2,0,0,0/cell=7/end=kernel";
      report = lines "verdict=passed/row=-/group=-/othergroup=-/thread=-/other=-/kind=-/at=-/rows=1/steps=1/steps=1/steps=1/barriers=0/conflicts=0/cell=7/end=report";
      log = replicate 8 0;
    }
    -- P5: a BARRIER in each part of an IF
    ∷ record {
      file = lines "kernel=1/threads=2/cells=1/groups=1/global=0/limit=100/rows=6/row=2,0,0,0/row=32,0,0,0/row=37,0,0,0/row=33,0,0,0/row=37,0,0,0/row=34,0,0,0/cell=0/end=kernel";
      report = lines "verdict=diverged/row=2/group=0/othergroup=-/thread=1/other=0/kind=-/at=-/rows=2/steps=2/steps=2/barriers=0/conflicts=0/cell=0/end=report";
      log = replicate 8 0;
    }
    -- P6: a BARRIER that nobody comes to
    ∷ record {
      file = lines "kernel=1/threads=1/cells=1/groups=1/global=0/limit=100/rows=3/row=32,0,0,0/row=37,0,0,0/row=34,0,0,0/cell=0/end=kernel";
      report = lines "verdict=passed/row=-/group=-/othergroup=-/thread=-/other=-/kind=-/at=-/rows=3/steps=2/barriers=0/conflicts=0/cell=0/end=report";
      log = replicate 8 0;
    }
    -- P7: a loop without end
    ∷ record {
      file = lines "kernel=1/threads=1/cells=1/groups=1/global=0/limit=10/rows=3/row=1,0,1,0/row=35,0,0,0/row=36,0,0,0/cell=0/end=kernel";
      report = lines "verdict=spent/row=2/group=0/othergroup=-/thread=-/other=-/kind=-/at=-/rows=10/steps=10/barriers=0/conflicts=0/cell=0/end=report";
      log = replicate 8 0;
    }
    -- P8: SLT of 2 ^ 31 and 0, into cell 0, and LT of the same, into cell 1
    ∷ record {
      file = lines "kernel=1/threads=1/cells=2/groups=1/global=0/limit=100/rows=9"
          ++ lines "row=1,1,0,128/row=1,2,0,1/row=6,2,2,2/row=6,1,1,2/row=14,3,1,0/row=13,4,1,0/row=17,0,3,0/row=1,5,1,0/row=17,5,4,0"
          ++ lines "cell=9/cell=9/end=kernel";
      report = lines "verdict=passed/row=-/group=-/othergroup=-/thread=-/other=-/kind=-/at=-/rows=9/steps=9/barriers=0/conflicts=0/cell=1/cell=0/end=report";
      log = 0 ∷ 0 ∷ 1 ∷ 1 ∷ 0 ∷ 0 ∷ 1 ∷ replicate 9 0;
    }
    -- nesting 8, and the ninth IF of nesting 9
    ∷ record {
      file = lines "kernel=1/threads=1/cells=1/groups=1/global=0/limit=100/rows=16"
          ++ lines "row=32,0,0,0/row=32,0,0,0/row=32,0,0,0/row=32,0,0,0/row=32,0,0,0/row=32,0,0,0/row=32,0,0,0/row=32,0,0,0/row=34,0,0,0"
          ++ lines "row=34,0,0,0/row=34,0,0,0/row=34,0,0,0/row=34,0,0,0/row=34,0,0,0/row=34,0,0,0/row=34,0,0,0"
          ++ lines "cell=0/end=kernel";
      report = lines "verdict=passed/row=-/group=-/othergroup=-/thread=-/other=-/kind=-/at=-/rows=16/steps=2/barriers=0/conflicts=0/cell=0/end=report";
      log = replicate 8 0;
    }
    ∷ record {
      file = lines "kernel=1/threads=1/cells=1/groups=1/global=0/limit=100/rows=9"
          ++ lines "row=32,0,0,0/row=32,0,0,0/row=32,0,0,0/row=32,0,0,0/row=32,0,0,0/row=32,0,0,0/row=32,0,0,0/row=32,0,0,0/row=32,0,0,0"
          ++ lines "cell=0/end=kernel";
      report = lines "refused=6/place=8/end=report";
      log = [];
    }
    -- address cells - 1, and address cells
    ∷ record {
      file = lines "kernel=1/threads=1/cells=2/groups=1/global=0/limit=100/rows=2/row=1,1,1,0/row=16,2,1,0/cell=5/cell=6/end=kernel";
      report = lines "verdict=passed/row=-/group=-/othergroup=-/thread=-/other=-/kind=-/at=-/rows=2/steps=2/barriers=0/conflicts=0/cell=5/cell=6/end=report";
      log = 0 ∷ 1 ∷ replicate 14 0;
    }
    ∷ record {
      file = lines "kernel=1/threads=1/cells=2/groups=1/global=0/limit=100/rows=2/row=1,1,2,0/row=16,2,1,0/cell=5/cell=6/end=kernel";
      report = lines "verdict=outside/row=1/group=0/othergroup=-/thread=0/other=-/kind=-/at=2/rows=1/steps=1/barriers=0/conflicts=0/cell=5/cell=6/end=report";
      log = replicate 16 0;
    }
    -- the two-loop barrier of source document 001: each thread comes to it four times, with other loop counts
    ∷ record {
      file = lines "kernel=1/threads=2/cells=1/groups=1/global=0/limit=100/rows=22"
          ++ lines "row=2,0,0,0/row=1,6,1,0/row=1,7,4,0/row=32,0,0,0/row=4,1,6,15/row=4,2,7,15/row=33,0,0,0/row=4,1,7,15/row=4,2,6,15/row=34,0,0,0"
          ++ lines "row=13,5,3,1/row=35,0,5,0/row=1,4,0,0/row=13,8,4,2/row=35,0,8,0/row=37,0,0,0/row=4,4,4,6/row=13,8,4,2/row=36,0,0,0/row=4,3,3,6"
          ++ lines "row=13,5,3,1/row=36,0,0,0"
          ++ lines "cell=0/end=kernel";
      report = lines "verdict=diverged/row=15/group=0/othergroup=-/thread=1/other=0/kind=-/at=-/rows=20/steps=16/steps=17/barriers=1/conflicts=0/cell=0/end=report";
      log = replicate 8 0;
    }
    -- equal stores by two threads: no race, by item 6
    ∷ record {
      file = lines "kernel=1/threads=2/cells=1/groups=1/global=0/limit=100/rows=2/row=1,1,5,0/row=17,0,1,0/cell=0/end=kernel";
      report = lines "verdict=passed/row=-/group=-/othergroup=-/thread=-/other=-/kind=-/at=-/rows=2/steps=2/steps=2/barriers=0/conflicts=0/cell=5/end=report";
      log = 0 ∷ 3 ∷ 0 ∷ 5 ∷ replicate 4 0;
    }
    -- a BARRIER that nobody comes to, between all threads' loads and a store
    ∷ record {
      file = lines "kernel=1/threads=2/cells=1/groups=1/global=0/limit=100/rows=6/row=2,0,0,0/row=16,1,2,0/row=32,0,2,0/row=37,0,0,0/row=34,0,0,0/row=17,2,0,0/cell=4/end=kernel";
      report = lines "verdict=race/row=5/group=0/othergroup=0/thread=0/other=1/kind=rw/at=0/rows=5/steps=4/steps=4/barriers=0/conflicts=0/cell=4/end=report";
      log = 3 ∷ replicate 7 0;
    }
    -- ELSE goes by what its IF enabled, though thread 1 has changed R0 since
    ∷ record {
      file = lines "kernel=1/threads=2/cells=2/groups=1/global=0/limit=100/rows=8"
          ++ lines "row=2,0,0,0/row=2,2,0,0/row=32,0,0,0/row=1,0,0,0/row=33,0,0,0/row=1,1,7,0/row=34,0,0,0/row=17,2,1,0"
          ++ lines "cell=9/cell=9/end=kernel";
      report = lines "verdict=passed/row=-/group=-/othergroup=-/thread=-/other=-/kind=-/at=-/rows=8/steps=6/steps=7/barriers=0/conflicts=0/cell=7/cell=0/end=report";
      log = 0 ∷ 0 ∷ 1 ∷ 2 ∷ 0 ∷ 0 ∷ 7 ∷ replicate 9 0;
    }
    -- thread 1 stores, then thread 0 loads in the ELSE part
    ∷ record {
      file = lines "kernel=1/threads=2/cells=1/groups=1/global=0/limit=100/rows=7"
          ++ lines "row=2,0,0,0/row=32,0,0,0/row=17,1,0,0/row=1,0,0,0/row=33,0,0,0/row=16,2,1,0/row=34,0,0,0"
          ++ lines "cell=4/end=kernel";
      report = lines "verdict=race/row=5/group=0/othergroup=0/thread=0/other=1/kind=wr/at=0/rows=5/steps=2/steps=5/barriers=0/conflicts=0/cell=1/end=report";
      log = 0 ∷ 2 ∷ 0 ∷ 1 ∷ replicate 4 0;
    }
    -- of three readers the lowest other one is named
    ∷ record {
      file = lines "kernel=1/threads=3/cells=1/groups=1/global=0/limit=100/rows=2/row=16,1,0,0/row=17,0,1,0/cell=4/end=kernel";
      report = lines "verdict=race/row=1/group=0/othergroup=0/thread=0/other=1/kind=rw/at=0/rows=1/steps=1/steps=1/steps=1/barriers=0/conflicts=0/cell=4/end=report";
      log = 7 ∷ replicate 7 0;
    }
    -- a thread that has both read and written is met as a writer
    ∷ record {
      file = lines "kernel=1/threads=3/cells=1/groups=1/global=0/limit=100/rows=8"
          ++ lines "row=2,0,0,0/row=1,1,2,0/row=12,2,0,1/row=32,0,2,0/row=16,3,4,0/row=17,4,0,0/row=34,0,0,0/row=17,4,0,0"
          ++ lines "cell=4/end=kernel";
      report = lines "verdict=race/row=7/group=0/othergroup=0/thread=0/other=2/kind=ww/at=0/rows=7/steps=5/steps=5/steps=7/barriers=0/conflicts=0/cell=2/end=report";
      log = 4 ∷ 4 ∷ 0 ∷ 2 ∷ replicate 4 0;
    }
    -- a loop that threads leave at different times, and the ADD behind it by all
    ∷ record {
      file = lines "kernel=1/threads=3/cells=3/groups=1/global=0/limit=100/rows=7"
          ++ lines "row=2,0,0,0/row=1,1,1,0/row=4,2,0,15/row=35,0,2,0/row=5,2,2,1/row=36,0,0,0/row=17,0,2,0"
          ++ lines "cell=7/cell=7/cell=7/end=kernel";
      report = lines "verdict=passed/row=-/group=-/othergroup=-/thread=-/other=-/kind=-/at=-/rows=11/steps=5/steps=8/steps=11/barriers=0/conflicts=0/cell=0/cell=0/cell=0/end=report";
      log = 0 ∷ 0 ∷ 0 ∷ 1 ∷ 2 ∷ 4 ∷ replicate 18 0;
    }
    -- refusals: the empty file, a last line without its byte 10, 32,768 bytes and one more
    ∷ record { file = []; report = lines "refused=11/place=1/end=report"; log = [] }
    ∷ record { file = text "kernel=1"; report = lines "refused=11/place=1/end=report"; log = [] }
    ∷ record { file = replicate 32768 61; report = lines "refused=11/place=1/end=report"; log = [] }
    ∷ record { file = replicate 32769 61; report = lines "refused=12/place=0/end=report"; log = [] }
    -- refusals: a line that is not due, one number after the other out of range, and rows
    ∷ record { file = lines "kernel=2/threads=1"; report = lines "refused=11/place=1/end=report"; log = [] }
    ∷ record { file = lines "kernel=1/threads=33/cells=x"; report = lines "refused=8/place=2/end=report"; log = [] }
    ∷ record { file = lines "kernel=1/threads=01"; report = lines "refused=11/place=2/end=report"; log = [] }
    ∷ record { file = lines "kernel=1/threads=4294967296"; report = lines "refused=11/place=2/end=report"; log = [] }
    ∷ record { file = lines "kernel=1/threads=4294967295"; report = lines "refused=8/place=2/end=report"; log = [] }
    ∷ record { file = lines "kernel=1/threads=1/cells=0/groups=x"; report = lines "refused=9/place=3/end=report"; log = [] }
    ∷ record { file = lines "kernel=1/threads=1/cells=1/groups=9/global=x"; report = lines "refused=32/place=4/end=report"; log = [] }
    ∷ record { file = lines "kernel=1/threads=1/cells=128/groups=8/global=1/limit=x"; report = lines "refused=33/place=5/end=report"; log = [] }
    ∷ record { file = lines "kernel=1/threads=1/cells=1/groups=1/global=0/limit=1000001"; report = lines "refused=10/place=6/end=report"; log = [] }
    ∷ record { file = lines "kernel=1/threads=1/cells=1/groups=1/global=0/limit=1/rows=257"; report = lines "refused=2/place=7/end=report"; log = [] }
    ∷ record { file = lines "kernel=1/threads=1/cells=1/groups=1/global=0/limit=1/rows=1/row=256,0,0,0"; report = lines "refused=11/place=8/end=report"; log = [] }
    ∷ record { file = lines "kernel=1/threads=1/cells=1/groups=1/global=0/limit=1/rows=1/row=0,0,0,0/cell=/end=kernel"; report = lines "refused=11/place=9/end=report"; log = [] }
    ∷ record { file = lines "kernel=1/threads=1/cells=1/groups=1/global=0/limit=1/rows=1/row=0,16,0,0/cell=0/end=kernel"; report = lines "refused=3/place=0/end=report"; log = [] }
    ∷ record { file = lines "kernel=1/threads=1/cells=1/groups=1/global=0/limit=1/rows=1/row=2,16,0,0/cell=0/end=kernel"; report = lines "refused=4/place=0/end=report"; log = [] }
    ∷ record { file = lines "kernel=1/threads=1/cells=1/groups=1/global=0/limit=1/rows=1/row=37,0,0,1/cell=0/end=kernel"; report = lines "refused=4/place=0/end=report"; log = [] }
    ∷ record {
      file = lines "kernel=1/threads=1/cells=1/groups=1/global=0/limit=1/rows=3/row=32,0,0,0/row=33,0,0,0/row=33,0,0,0/cell=0/end=kernel";
      report = lines "refused=5/place=2/end=report";
      log = [];
    }
    ∷ record {
      file = lines "kernel=1/threads=1/cells=1/groups=1/global=0/limit=1/rows=3/row=35,0,0,0/row=32,0,0,0/row=33,0,0,0/cell=0/end=kernel";
      report = lines "refused=7/place=1/end=report";
      log = [];
    }
    ∷ record { file = lines "kernel=1/threads=1/cells=1/groups=1/global=0/limit=1/rows=0/cell=0/end=kernel/"; report = lines "refused=11/place=10/end=report"; log = [] }
    ∷ []

pub worked : map computed examples ≡ map expected examples
unfolding computing computed expected final_log examples
worked = refl

-- P1 to P8 of document 01: an empty table and limit 0 have their record too.
pub records_of_p : map (λ x. final_records (file_launch x.file)) (take 9 examples) ≡
    (0 ∷ 6 ∷ 0 ∷ [])
    ∷ (0 ∷ 5 ∷ 0 ∷ 5 ∷ 3 ∷ 0 ∷ [])
    ∷ (0 ∷ 0 ∷ 0 ∷ [])
    ∷ (0 ∷ 0 ∷ 0 ∷ [])
    ∷ (0 ∷ 1 ∷ 0 ∷ [])
    ∷ (0 ∷ 2 ∷ 0 ∷ [])
    ∷ (0 ∷ 3 ∷ 0 ∷ [])
    ∷ (0 ∷ 10 ∷ 0 ∷ [])
    ∷ (0 ∷ 9 ∷ 0 ∷ [])
    ∷ []
unfolding computing final_records examples
records_of_p = refl
