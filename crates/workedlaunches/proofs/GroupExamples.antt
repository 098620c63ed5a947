-- Worked launches of several groups and with global cells, item 7 of the change requests, each with all that it ends with. Worked out by hand from the papers:
-- group 0 row by row, then group 1 from row 0 with all it starts anew, and so on. Assumes nothing.
use mathlib.Core.Path.{◌≡◌, refl}
use mathlib.Core.List.{List, [], ◌∷◌, ◌++◌, map}
use Prim.Native.Nat.{ℕ}
use lib.ListN.{replicate}
use Rattle.spec.specs.declared.AccessKind.TheVariants.{ReadWrite, WriteRead, WriteWrite}
use Rattle.spec.specs.declared.Verdict.{Verdict}
use Rattle.spec.specs.declared.Verdict.TheVariants.{Passed, Race, GroupRace, Outside, Diverged, Spent}
use Rattle.spec.specs.Table.{Table, row_of}
use Rattle.spec.specs.Shape.{Sizes, sizes}
use Rattle.spec.specs.Log.{log_kinds}
use Rattle.spec.specs.LaunchRun.{lockstep, last_group, steps_by_launch}
use Rattle.spec.specs.Intervals.{interval_records, record_words}
use Rattle.spec.proofs.GlobalRows.{global_load, global_store, global_add, growing, numbering}
use Rattle.spec.proofs.GroupTable.{mask_words}
use Rattle.spec.proofs.Computing.{computing}

-- What a launch ends with: verdict, group and row where it ended; counts; steps by launch number; cells; the log by kind (readers, writers, adders, first
-- values, marks) and the group masks (readers, writers, adders); the records of its intervals, three words each. Cells stand group by group, then the
-- global ones.
pub record Ending : Type 0 where
  pub verdict : Verdict
  pub group : ℕ
  pub row : ℕ
  pub rows : ℕ
  pub barriers : ℕ
  pub steps : List ℕ
  pub cells : List ℕ
  pub log : List (List ℕ)
  pub group_masks : List (List ℕ)
  pub records : List ℕ

pub record GroupLaunch : Type 0 where
  pub table : Table
  pub sizes : Sizes
  pub cells : List ℕ
  pub limit : ℕ
  pub ends : Ending

unfoldable pub group_examples : List GroupLaunch
group_examples =
    -- thread t stores 5 + t to its own group's cell t, behind a BARRIER. Each group's release counts. Group 1 stores to cells 2 and 3 of all; neither its
    -- start nor its BARRIER touches the log of group 0's cells. Each group has a record up to its BARRIER and one behind it
    record {
      table = row_of 2 0 0 0 ∷ row_of 1 1 5 0 ∷ row_of 4 1 1 0 ∷ row_of 37 0 0 0 ∷ row_of 17 0 1 0 ∷ [];
      sizes = sizes 2 2 2 0;
      cells = 1 ∷ 2 ∷ 3 ∷ 4 ∷ [];
      limit = 100;
      ends = record {
        verdict = Passed;
        group = 1;
        row = 5;
        rows = 10;
        barriers = 2;
        steps = 4 ∷ 4 ∷ 4 ∷ 4 ∷ [];
        cells = 5 ∷ 6 ∷ 5 ∷ 6 ∷ [];
        log = replicate 4 0 ∷ (1 ∷ 2 ∷ 1 ∷ 2 ∷ []) ∷ replicate 4 0 ∷ (5 ∷ 6 ∷ 5 ∷ 6 ∷ []) ∷ replicate 4 0 ∷ [];
        group_masks = replicate 3 (replicate 4 0);
        records = 0 ∷ 4 ∷ 0 ∷ 4 ∷ 1 ∷ 0 ∷ 0 ∷ 4 ∷ 0 ∷ 4 ∷ 1 ∷ 0 ∷ [];
      };
    }
    -- own cell 0 says whether the group stores: group 0 does, passes its BARRIER and loads; group 1 passes its BARRIER, and its load meets group 0's store
    ∷ record {
      table = row_of 16 1 0 0 ∷ row_of 32 0 1 0 ∷ global_store 0 1 ∷ row_of 34 0 0 0 ∷ row_of 37 0 0 0 ∷ global_load 2 0 ∷ [];
      sizes = sizes 1 1 2 1;
      cells = 1 ∷ 0 ∷ 9 ∷ [];
      limit = 100;
      ends = record {
        verdict = GroupRace 0 0 WriteRead 0;
        group = 1;
        row = 5;
        rows = 11;
        barriers = 2;
        steps = 5 ∷ 3 ∷ [];
        cells = 1 ∷ 0 ∷ 1 ∷ [];
        log = replicate 5 (replicate 3 0);
        group_masks = (0 ∷ 0 ∷ 1 ∷ []) ∷ (0 ∷ 0 ∷ 1 ∷ []) ∷ (0 ∷ 0 ∷ 0 ∷ []) ∷ [];
        records = 0 ∷ 5 ∷ 0 ∷ 5 ∷ 1 ∷ 0 ∷ 0 ∷ 5 ∷ 0 ∷ 5 ∷ 0 ∷ 0 ∷ [];
      };
    }
    -- both groups store 5 to one global cell, with no BARRIER: group 1's meets group 0's. Its start has cleared the log of the cell, not the group mask
    ∷ record {
      table = row_of 1 1 5 0 ∷ global_store 0 1 ∷ [];
      sizes = sizes 1 1 2 1;
      cells = 7 ∷ 8 ∷ 9 ∷ [];
      limit = 100;
      ends = record {
        verdict = GroupRace 0 0 WriteWrite 0;
        group = 1;
        row = 1;
        rows = 3;
        barriers = 0;
        steps = 2 ∷ 1 ∷ [];
        cells = 7 ∷ 8 ∷ 5 ∷ [];
        log = replicate 5 (replicate 3 0);
        group_masks = (0 ∷ 0 ∷ 0 ∷ []) ∷ (0 ∷ 0 ∷ 1 ∷ []) ∷ (0 ∷ 0 ∷ 0 ∷ []) ∷ [];
        records = 0 ∷ 2 ∷ 0 ∷ 0 ∷ 1 ∷ 0 ∷ [];
      };
    }
    -- both threads of both groups load global cell 0 and add 1 to global cell 1, which held 4. The log has group 1's accesses, the group masks both groups'
    ∷ record {
      table = row_of 1 1 1 0 ∷ global_load 2 0 ∷ global_add 1 1 ∷ [];
      sizes = sizes 2 1 2 2;
      cells = 7 ∷ 8 ∷ 3 ∷ 4 ∷ [];
      limit = 100;
      ends = record {
        verdict = Passed;
        group = 1;
        row = 3;
        rows = 6;
        barriers = 0;
        steps = 3 ∷ 3 ∷ 3 ∷ 3 ∷ [];
        cells = 7 ∷ 8 ∷ 3 ∷ 8 ∷ [];
        log = (0 ∷ 0 ∷ 3 ∷ 0 ∷ []) ∷ replicate 4 0 ∷ (0 ∷ 0 ∷ 0 ∷ 3 ∷ []) ∷ replicate 4 0 ∷ replicate 4 0 ∷ [];
        group_masks = (0 ∷ 0 ∷ 3 ∷ 0 ∷ []) ∷ replicate 4 0 ∷ (0 ∷ 0 ∷ 0 ∷ 3 ∷ []) ∷ [];
        records = 0 ∷ 3 ∷ 0 ∷ 0 ∷ 3 ∷ 0 ∷ [];
      };
    }
    -- all load the global cell; where own cell 0 has 1, thread 1 then stores to it. In group 1 that meets thread 0 as well as group 0: thread 0 is named
    ∷ record {
      table = global_load 3 0 ∷ row_of 16 1 0 0 ∷ row_of 2 2 0 0 ∷ row_of 7 1 1 2 ∷ row_of 32 0 1 0 ∷ global_store 0 1 ∷ row_of 34 0 0 0 ∷ [];
      sizes = sizes 2 1 2 1;
      cells = 0 ∷ 1 ∷ 9 ∷ [];
      limit = 100;
      ends = record {
        verdict = Race 1 0 ReadWrite 0;
        group = 1;
        row = 5;
        rows = 12;
        barriers = 0;
        steps = 6 ∷ 6 ∷ 5 ∷ 5 ∷ [];
        cells = 0 ∷ 1 ∷ 9 ∷ [];
        log = (3 ∷ 3 ∷ 3 ∷ []) ∷ replicate 4 (replicate 3 0);
        group_masks = (0 ∷ 0 ∷ 3 ∷ []) ∷ replicate 2 (replicate 3 0);
        records = 0 ∷ 7 ∷ 0 ∷ 0 ∷ 5 ∷ 0 ∷ [];
      };
    }
    -- groups 0 and 1 load the global cell, group 2 stores to it, by own cell 0: it meets both, and group 0 is named
    ∷ record {
      table = row_of 16 1 0 0 ∷ row_of 32 0 1 0 ∷ global_store 0 1 ∷ row_of 33 0 0 0 ∷ global_load 2 0 ∷ row_of 34 0 0 0 ∷ [];
      sizes = sizes 1 1 3 1;
      cells = 0 ∷ 0 ∷ 1 ∷ 9 ∷ [];
      limit = 100;
      ends = record {
        verdict = GroupRace 0 0 ReadWrite 0;
        group = 2;
        row = 2;
        rows = 14;
        barriers = 0;
        steps = 4 ∷ 4 ∷ 2 ∷ [];
        cells = 0 ∷ 0 ∷ 1 ∷ 9 ∷ [];
        log = (1 ∷ 1 ∷ 1 ∷ 0 ∷ []) ∷ replicate 4 (replicate 4 0);
        group_masks = (0 ∷ 0 ∷ 0 ∷ 3 ∷ []) ∷ replicate 2 (replicate 4 0);
        records = 0 ∷ 6 ∷ 0 ∷ 0 ∷ 6 ∷ 0 ∷ 0 ∷ 2 ∷ 0 ∷ [];
      };
    }
    -- each group stores to the global cell that its own cell 0 numbers: group 0 to cell 0, groups 1 and 2 to cell 1. Group 0 is lower, but in no conflict
    ∷ record {
      table = row_of 16 1 0 0 ∷ global_store 1 1 ∷ [];
      sizes = sizes 1 1 3 2;
      cells = 0 ∷ 1 ∷ 1 ∷ 8 ∷ 9 ∷ [];
      limit = 100;
      ends = record {
        verdict = GroupRace 0 1 WriteWrite 1;
        group = 2;
        row = 1;
        rows = 5;
        barriers = 0;
        steps = 2 ∷ 2 ∷ 1 ∷ [];
        cells = 0 ∷ 1 ∷ 1 ∷ 0 ∷ 1 ∷ [];
        log = (1 ∷ 1 ∷ 1 ∷ 0 ∷ 0 ∷ []) ∷ replicate 4 (replicate 5 0);
        group_masks = replicate 5 0 ∷ (0 ∷ 0 ∷ 0 ∷ 1 ∷ 2 ∷ []) ∷ replicate 5 0 ∷ [];
        records = 0 ∷ 2 ∷ 0 ∷ 0 ∷ 2 ∷ 0 ∷ 0 ∷ 1 ∷ 0 ∷ [];
      };
    }
    -- group 0 loads the global cell, adds what it loaded and stores it, 9, 18 and 9 again; group 1 stores: of the three kinds w is shown
    ∷ record {
      table = row_of 16 1 0 0 ∷ row_of 32 0 1 0 ∷ global_store 0 1 ∷ row_of 33 0 0 0 ∷ global_load 2 0 ∷ global_add 0 2 ∷ global_store 0 2 ∷ row_of 34 0 0 0 ∷ [];
      sizes = sizes 1 1 2 1;
      cells = 0 ∷ 1 ∷ 9 ∷ [];
      limit = 100;
      ends = record {
        verdict = GroupRace 0 0 WriteWrite 0;
        group = 1;
        row = 2;
        rows = 10;
        barriers = 0;
        steps = 6 ∷ 2 ∷ [];
        cells = 0 ∷ 1 ∷ 9 ∷ [];
        log = (1 ∷ 1 ∷ 0 ∷ []) ∷ replicate 4 (replicate 3 0);
        group_masks = replicate 3 (0 ∷ 0 ∷ 1 ∷ []);
        records = 0 ∷ 8 ∷ 0 ∷ 0 ∷ 2 ∷ 0 ∷ [];
      };
    }
    -- under limit 4 both groups run to their end
    ∷ record {
      table = growing;
      sizes = sizes 1 1 2 1;
      cells = 7 ∷ 8 ∷ 9 ∷ [];
      limit = 4;
      ends = record {
        verdict = Passed;
        group = 1;
        row = 2;
        rows = 4;
        barriers = 0;
        steps = 2 ∷ 2 ∷ [];
        cells = 7 ∷ 8 ∷ 13 ∷ [];
        log = replicate 2 (replicate 3 0) ++ ((0 ∷ 0 ∷ 1 ∷ []) ∷ replicate 2 (replicate 3 0));
        group_masks = replicate 2 (replicate 3 0) ++ ((0 ∷ 0 ∷ 3 ∷ []) ∷ []);
        records = 0 ∷ 2 ∷ 0 ∷ 0 ∷ 2 ∷ 0 ∷ [];
      };
    }
    -- under limit 3 group 1 has one row left to it, as the limit is one for all
    ∷ record {
      table = growing;
      sizes = sizes 1 1 2 1;
      cells = 7 ∷ 8 ∷ 9 ∷ [];
      limit = 3;
      ends = record {
        verdict = Spent;
        group = 1;
        row = 1;
        rows = 3;
        barriers = 0;
        steps = 2 ∷ 1 ∷ [];
        cells = 7 ∷ 8 ∷ 11 ∷ [];
        log = replicate 5 (replicate 3 0);
        group_masks = replicate 2 (replicate 3 0) ++ ((0 ∷ 0 ∷ 1 ∷ []) ∷ []);
        records = 0 ∷ 2 ∷ 0 ∷ 0 ∷ 1 ∷ 0 ∷ [];
      };
    }
    -- under limit 2 group 0 ends with all rows used; group 1 starts, which clears the log and opens an interval, and is spent at its row 0
    ∷ record {
      table = growing;
      sizes = sizes 1 1 2 1;
      cells = 7 ∷ 8 ∷ 9 ∷ [];
      limit = 2;
      ends = record {
        verdict = Spent;
        group = 1;
        row = 0;
        rows = 2;
        barriers = 0;
        steps = 2 ∷ 0 ∷ [];
        cells = 7 ∷ 8 ∷ 11 ∷ [];
        log = replicate 5 (replicate 3 0);
        group_masks = replicate 2 (replicate 3 0) ++ ((0 ∷ 0 ∷ 1 ∷ []) ∷ []);
        records = 0 ∷ 2 ∷ 0 ∷ 0 ∷ 0 ∷ 0 ∷ [];
      };
    }
    -- under limit 1 group 0 is spent, and group 1 does not start
    ∷ record {
      table = growing;
      sizes = sizes 1 1 2 1;
      cells = 7 ∷ 8 ∷ 9 ∷ [];
      limit = 1;
      ends = record {
        verdict = Spent;
        group = 0;
        row = 1;
        rows = 1;
        barriers = 0;
        steps = 1 ∷ 0 ∷ [];
        cells = 7 ∷ 8 ∷ 9 ∷ [];
        log = replicate 5 (replicate 3 0);
        group_masks = replicate 3 (replicate 3 0);
        records = 0 ∷ 1 ∷ 0 ∷ [];
      };
    }
    -- two threads load cells that are 16 apart, global ones at no cost and own ones at cost 1
    ∷ record {
      table = row_of 2 0 0 0 ∷ row_of 1 1 16 0 ∷ row_of 6 2 0 1 ∷ global_load 3 2 ∷ row_of 16 4 2 0 ∷ [];
      sizes = sizes 2 17 1 17;
      cells = replicate 34 7;
      limit = 100;
      ends = record {
        verdict = Passed;
        group = 0;
        row = 5;
        rows = 5;
        barriers = 0;
        steps = 5 ∷ 5 ∷ [];
        cells = replicate 34 7;
        log = (1 ∷ replicate 15 0 ++ (2 ∷ 1 ∷ replicate 15 0 ++ (2 ∷ []))) ∷ replicate 4 (replicate 34 0);
        group_masks = (replicate 17 0 ++ (1 ∷ replicate 15 0 ++ (1 ∷ []))) ∷ replicate 2 (replicate 34 0);
        records = 0 ∷ 5 ∷ 1 ∷ [];
      };
    }
    -- one own cell and two global ones: global cell 1 is there; own cell 1 is outside, though group 1 has a cell there. Groups 1 and 2 do not start
    ∷ record {
      table = row_of 1 1 1 0 ∷ global_load 2 1 ∷ row_of 16 3 1 0 ∷ [];
      sizes = sizes 1 1 3 2;
      cells = 6 ∷ 7 ∷ 8 ∷ 4 ∷ 5 ∷ [];
      limit = 100;
      ends = record {
        verdict = Outside 0 1;
        group = 0;
        row = 2;
        rows = 2;
        barriers = 0;
        steps = 2 ∷ 0 ∷ 0 ∷ [];
        cells = 6 ∷ 7 ∷ 8 ∷ 4 ∷ 5 ∷ [];
        log = (0 ∷ 0 ∷ 0 ∷ 0 ∷ 1 ∷ []) ∷ replicate 4 (replicate 5 0);
        group_masks = (0 ∷ 0 ∷ 0 ∷ 0 ∷ 1 ∷ []) ∷ replicate 2 (replicate 5 0);
        records = 0 ∷ 2 ∷ 0 ∷ [];
      };
    }
    -- two own cells and one global one: own cell 1 is there; global cell 1 is outside. Group 1 of two threads does not start
    ∷ record {
      table = row_of 1 1 1 0 ∷ row_of 17 1 1 0 ∷ global_add 1 1 ∷ [];
      sizes = sizes 2 2 2 1;
      cells = 5 ∷ 6 ∷ 7 ∷ 8 ∷ 9 ∷ [];
      limit = 100;
      ends = record {
        verdict = Outside 0 1;
        group = 0;
        row = 2;
        rows = 2;
        barriers = 0;
        steps = 2 ∷ 2 ∷ 0 ∷ 0 ∷ [];
        cells = 5 ∷ 1 ∷ 7 ∷ 8 ∷ 9 ∷ [];
        log = replicate 5 0 ∷ (0 ∷ 3 ∷ 0 ∷ 0 ∷ 0 ∷ []) ∷ replicate 5 0 ∷ (0 ∷ 1 ∷ 0 ∷ 0 ∷ 0 ∷ []) ∷ replicate 5 0 ∷ [];
        group_masks = replicate 3 (replicate 5 0);
        records = 0 ∷ 2 ∷ 0 ∷ [];
      };
    }
    -- own cell 0 numbers the global cell: group 1's is outside
    ∷ record {
      table = row_of 16 1 0 0 ∷ global_load 2 1 ∷ [];
      sizes = sizes 1 1 2 1;
      cells = 0 ∷ 1 ∷ 9 ∷ [];
      limit = 100;
      ends = record {
        verdict = Outside 0 1;
        group = 1;
        row = 1;
        rows = 3;
        barriers = 0;
        steps = 2 ∷ 1 ∷ [];
        cells = 0 ∷ 1 ∷ 9 ∷ [];
        log = (1 ∷ 1 ∷ 0 ∷ []) ∷ replicate 4 (replicate 3 0);
        group_masks = (0 ∷ 0 ∷ 1 ∷ []) ∷ replicate 2 (replicate 3 0);
        records = 0 ∷ 2 ∷ 0 ∷ 0 ∷ 1 ∷ 0 ∷ [];
      };
    }
    -- two threads of one group store 5 to a global cell, and 6 behind a BARRIER, which has cleared the first value
    ∷ record {
      table = row_of 1 1 5 0 ∷ global_store 0 1 ∷ row_of 37 0 0 0 ∷ row_of 1 1 6 0 ∷ global_store 0 1 ∷ [];
      sizes = sizes 2 1 1 1;
      cells = 7 ∷ 9 ∷ [];
      limit = 100;
      ends = record {
        verdict = Passed;
        group = 0;
        row = 5;
        rows = 5;
        barriers = 1;
        steps = 4 ∷ 4 ∷ [];
        cells = 7 ∷ 6 ∷ [];
        log = (0 ∷ 0 ∷ []) ∷ (0 ∷ 3 ∷ []) ∷ (0 ∷ 0 ∷ []) ∷ (0 ∷ 6 ∷ []) ∷ (0 ∷ 0 ∷ []) ∷ [];
        group_masks = (0 ∷ 0 ∷ []) ∷ (0 ∷ 1 ∷ []) ∷ (0 ∷ 0 ∷ []) ∷ [];
        records = 0 ∷ 3 ∷ 0 ∷ 3 ∷ 2 ∷ 0 ∷ [];
      };
    }
    -- their own numbers race. It is cell 0 that they name, wherever it stands
    ∷ record {
      table = row_of 2 1 0 0 ∷ global_store 0 1 ∷ [];
      sizes = sizes 2 1 2 1;
      cells = 7 ∷ 8 ∷ 9 ∷ [];
      limit = 100;
      ends = record {
        verdict = Race 1 0 WriteWrite 0;
        group = 0;
        row = 1;
        rows = 1;
        barriers = 0;
        steps = 2 ∷ 1 ∷ 0 ∷ 0 ∷ [];
        cells = 7 ∷ 8 ∷ 0 ∷ [];
        log = replicate 3 0 ∷ (0 ∷ 0 ∷ 1 ∷ []) ∷ replicate 3 (replicate 3 0);
        group_masks = replicate 3 0 ∷ (0 ∷ 0 ∷ 1 ∷ []) ∷ replicate 3 0 ∷ [];
        records = 0 ∷ 1 ∷ 0 ∷ [];
      };
    }
    -- where own cell 0 has 1, the threads store their numbers to own cell 1: a race in group 1, which names the cell as the row does
    ∷ record {
      table = row_of 16 1 0 0 ∷ row_of 2 2 0 0 ∷ row_of 1 3 1 0 ∷ row_of 32 0 1 0 ∷ row_of 17 3 2 0 ∷ row_of 34 0 0 0 ∷ [];
      sizes = sizes 2 2 2 0;
      cells = 0 ∷ 7 ∷ 1 ∷ 8 ∷ [];
      limit = 100;
      ends = record {
        verdict = Race 1 0 WriteWrite 1;
        group = 1;
        row = 4;
        rows = 10;
        barriers = 0;
        steps = 5 ∷ 5 ∷ 5 ∷ 4 ∷ [];
        cells = 0 ∷ 7 ∷ 1 ∷ 0 ∷ [];
        log = (3 ∷ 0 ∷ 3 ∷ 0 ∷ []) ∷ (0 ∷ 0 ∷ 0 ∷ 1 ∷ []) ∷ replicate 3 (replicate 4 0);
        group_masks = replicate 3 (replicate 4 0);
        records = 0 ∷ 6 ∷ 0 ∷ 0 ∷ 4 ∷ 0 ∷ [];
      };
    }
    -- where own cell 0 has 1, thread 1 alone comes to a BARRIER: in group 0 nobody, in group 1 the run diverges
    ∷ record {
      table = row_of 16 1 2 0 ∷ row_of 2 0 0 0 ∷ row_of 7 1 1 0 ∷ row_of 32 0 1 0 ∷ row_of 37 0 0 0 ∷ row_of 34 0 0 0 ∷ [];
      sizes = sizes 2 1 2 0;
      cells = 0 ∷ 1 ∷ [];
      limit = 100;
      ends = record {
        verdict = Diverged 1 0;
        group = 1;
        row = 4;
        rows = 10;
        barriers = 0;
        steps = 5 ∷ 5 ∷ 4 ∷ 4 ∷ [];
        cells = 0 ∷ 1 ∷ [];
        log = (3 ∷ 3 ∷ []) ∷ replicate 4 (0 ∷ 0 ∷ []);
        group_masks = replicate 3 (0 ∷ 0 ∷ []);
        records = 0 ∷ 6 ∷ 0 ∷ 0 ∷ 4 ∷ 0 ∷ [];
      };
    }
    -- TID and COUNT are the group's, and each group starts with registers 0: R2 is stored before it is set. Thread t stores to own cells t and t + 2
    ∷ record {
      table = row_of 2 0 0 0 ∷ row_of 3 1 0 0 ∷ row_of 17 0 2 0 ∷ row_of 4 3 0 1 ∷ row_of 17 3 1 0 ∷ row_of 1 2 5 0 ∷ [];
      sizes = sizes 2 4 2 0;
      cells = replicate 8 9;
      limit = 100;
      ends = record {
        verdict = Passed;
        group = 1;
        row = 6;
        rows = 12;
        barriers = 0;
        steps = 6 ∷ 6 ∷ 6 ∷ 6 ∷ [];
        cells = 0 ∷ 0 ∷ 2 ∷ 2 ∷ 0 ∷ 0 ∷ 2 ∷ 2 ∷ [];
        log = replicate 8 0 ∷ (1 ∷ 2 ∷ 1 ∷ 2 ∷ 1 ∷ 2 ∷ 1 ∷ 2 ∷ []) ∷ replicate 8 0 ∷ (0 ∷ 0 ∷ 2 ∷ 2 ∷ 0 ∷ 0 ∷ 2 ∷ 2 ∷ []) ∷ replicate 8 0 ∷ [];
        group_masks = replicate 3 (replicate 8 0);
        records = 0 ∷ 6 ∷ 0 ∷ 0 ∷ 6 ∷ 0 ∷ [];
      };
    }
    -- two groups of two threads: numbers 0 and 1 in either group are launch numbers 0 and 1, 2 and 3. No two threads store to one global cell, and group 1's
    -- start clears the log of those that group 0 stored to
    ∷ record {
      table = numbering;
      sizes = sizes 2 3 2 4;
      cells = replicate 10 9;
      limit = 100;
      ends = record {
        verdict = Passed;
        group = 1;
        row = 4;
        rows = 8;
        barriers = 0;
        steps = 4 ∷ 4 ∷ 4 ∷ 4 ∷ [];
        cells = 0 ∷ 1 ∷ 9 ∷ 2 ∷ 3 ∷ 9 ∷ 0 ∷ 1 ∷ 0 ∷ 1 ∷ [];
        log =
            replicate 10 0
            ∷ (1 ∷ 2 ∷ 0 ∷ 1 ∷ 2 ∷ 0 ∷ 0 ∷ 0 ∷ 1 ∷ 2 ∷ [])
            ∷ replicate 10 0
            ∷ (0 ∷ 1 ∷ 0 ∷ 2 ∷ 3 ∷ 0 ∷ 0 ∷ 0 ∷ 0 ∷ 1 ∷ [])
            ∷ replicate 10 0
            ∷ [];
        group_masks = replicate 10 0 ∷ (0 ∷ 0 ∷ 0 ∷ 0 ∷ 0 ∷ 0 ∷ 1 ∷ 1 ∷ 2 ∷ 2 ∷ []) ∷ replicate 10 0 ∷ [];
        records = 0 ∷ 4 ∷ 0 ∷ 0 ∷ 4 ∷ 0 ∷ [];
      };
    }
    -- thread t loops as often as its number and own cell 0 say together: 0 and 1 times in group 0, 2 and 3 times in group 1. Steps go by launch number
    ∷ record {
      table = row_of 16 1 2 0 ∷ row_of 2 0 0 0 ∷ row_of 4 0 0 1 ∷ row_of 1 1 1 0 ∷ row_of 35 0 0 0 ∷ row_of 5 0 0 1 ∷ row_of 36 0 0 0 ∷ [];
      sizes = sizes 2 1 2 0;
      cells = 0 ∷ 2 ∷ [];
      limit = 100;
      ends = record {
        verdict = Passed;
        group = 1;
        row = 7;
        rows = 22;
        barriers = 0;
        steps = 5 ∷ 8 ∷ 11 ∷ 14 ∷ [];
        cells = 0 ∷ 2 ∷ [];
        log = (3 ∷ 3 ∷ []) ∷ replicate 4 (0 ∷ 0 ∷ []);
        group_masks = replicate 3 (0 ∷ 0 ∷ []);
        records = 0 ∷ 8 ∷ 0 ∷ 0 ∷ 14 ∷ 0 ∷ [];
      };
    }
    -- an empty table under limit 0: both groups have passed, each with its interval
    ∷ record {
      table = [];
      sizes = sizes 1 1 2 1;
      cells = 7 ∷ 8 ∷ 9 ∷ [];
      limit = 0;
      ends = record {
        verdict = Passed;
        group = 1;
        row = 0;
        rows = 0;
        barriers = 0;
        steps = 0 ∷ 0 ∷ [];
        cells = 7 ∷ 8 ∷ 9 ∷ [];
        log = replicate 5 (replicate 3 0);
        group_masks = replicate 3 (replicate 3 0);
        records = replicate 6 0;
      };
    }
    ∷ []

unfoldable pub ending : GroupLaunch → Ending
ending x =
    let T = x.table in
    let Z = x.sizes in
    let o = lockstep T Z x.cells x.limit in
    let s = o.state in
    record {
      verdict = o.verdict;
      group = last_group T Z x.cells x.limit;
      row = s.row;
      rows = s.rows;
      barriers = s.barriers;
      steps = steps_by_launch T Z x.cells x.limit;
      cells = s.cells;
      log = log_kinds s.log;
      group_masks = mask_words s.group_log;
      records = record_words (interval_records T Z x.cells x.limit);
    }

pub worked_groups : map ending group_examples ≡ map (λ x. x.ends) group_examples
unfolding computing mask_words ending group_examples
worked_groups = refl
