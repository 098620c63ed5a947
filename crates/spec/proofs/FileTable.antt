-- Launch files: which are refused, with number and place, and what an accepted one says. `/` stands between the lines. Assumes nothing.
use mathlib.Core.Path.{◌≡◌, refl}
use mathlib.Core.List.{List, [], ◌∷◌, ◌++◌, map}
use Prim.Native.Nat.{ℕ}
use Prim.Native.String.{String}
use Rattle.spec.specs.Table.{row_of}
use Rattle.spec.specs.Shape.{sizes}
use Rattle.spec.specs.Launch.{Launch}
use Rattle.spec.specs.LaunchFile.{Checked, accepted, file_launch}
use Rattle.spec.specs.Entries.{checked_refusal}
use Rattle.spec.specs.Text.{text}
use Rattle.spec.proofs.Lines.{lines}
use Rattle.spec.proofs.RefusalTable.{or_zero, told_as}
use Rattle.spec.proofs.Computing.{computing}

-- A file's refusal as number and place; 0 and 0 where it is accepted.
unfoldable pub told_of : Checked Launch → ℕ × ℕ
told_of x = told_as (checked_refusal x)

-- Each of these endings behind the same beginning.
unfoldable pub behind : List ℕ → List String → List (ℕ × ℕ)
behind beginning endings = map (λ s. told_of (file_launch (beginning ++ lines s))) endings

-- Line 1: a key or a value that only begins right or is cut short, no `=`, another `=`, a byte 13 at the end, spaces, capitals. Then line 2 is missing.
pub line_1 : behind []
    ("kernel=1x" ∷ "kernel=11" ∷ "kernel=" ∷ "kernel=2" ∷ "kerne=1" ∷ "kernels=1" ∷ "Kernel=1" ∷ "kernel1" ∷ "=1" ∷ "kernel==1" ∷ "kernel=1=" ∷ "kernel=1\r"
    ∷ " kernel=1" ∷ "kernel=1 " ∷ "" ∷ "/kernel=1" ∷ "kernel=1" ∷ [])
    ≡ (11, 1) ∷ (11, 1) ∷ (11, 1) ∷ (11, 1) ∷ (11, 1) ∷ (11, 1) ∷ (11, 1) ∷ (11, 1) ∷ (11, 1) ∷ (11, 1) ∷ (11, 1) ∷ (11, 1)
    ∷ (11, 1) ∷ (11, 1) ∷ (11, 1) ∷ (11, 1) ∷ (11, 2) ∷ []
unfolding computing or_zero told_as told_of behind
line_1 = refl

-- Line 2, numbers: 0, 1, 32 and 33 threads; what is no number is 11, a number of 2 ^ 32 too.
pub line_2 : behind (lines "kernel=1")
    ("threads=0" ∷ "threads=1" ∷ "threads=32" ∷ "threads=33" ∷ "threads=256" ∷ "threads=4294967295" ∷ "threads=4294967296" ∷ "threads=99999999999"
    ∷ "threads=" ∷ "threads=00" ∷ "threads=01" ∷ "threads=+1" ∷ "threads=-1" ∷ "threads= 1" ∷ "threads=1 " ∷ "threads=1=" ∷ "threads==1" ∷ "threads=1:"
    ∷ "threads=:" ∷ "threads=1\r" ∷ "thread=1" ∷ "threadss=1" ∷ "cells=1" ∷ "threads=1/threads=1" ∷ [])
    ≡ (8, 2) ∷ (11, 3) ∷ (11, 3) ∷ (8, 2) ∷ (8, 2) ∷ (8, 2) ∷ (11, 2) ∷ (11, 2)
    ∷ (11, 2) ∷ (11, 2) ∷ (11, 2) ∷ (11, 2) ∷ (11, 2) ∷ (11, 2) ∷ (11, 2) ∷ (11, 2) ∷ (11, 2) ∷ (11, 2)
    ∷ (11, 2) ∷ (11, 2) ∷ (11, 2) ∷ (11, 2) ∷ (11, 2) ∷ (11, 3) ∷ []
unfolding computing or_zero told_as told_of behind
line_2 = refl

-- Lines 3 and 4, limits from both sides; a number out of its limits goes before any fault in a later line.
pub lines_3_and_4 : behind (lines "kernel=1/threads=1")
    ("cells=0" ∷ "cells=1" ∷ "cells=1024" ∷ "cells=1025" ∷ "cells=x" ∷ "cells=0/groups=x" ∷ "cells=1025/groups=9"
    ∷ "cells=1/groups=0" ∷ "cells=1/groups=1" ∷ "cells=1/groups=8" ∷ "cells=1/groups=9" ∷ "cells=1/groups=256" ∷ "cells=1/groups=4294967295" ∷ "cells=1/groups=4294967296"
    ∷ "cells=1/groups=08" ∷ "cells=1/groups=" ∷ "cells=1/group=1" ∷ "cells=1/global=0" ∷ "cells=1/limit=1" ∷ "cells=1/groups=9/global=x" ∷ "cells=1/groups=0/global=1025"
    ∷ "cells=1024/groups=9/global=0" ∷ [])
    ≡ (9, 3) ∷ (11, 4) ∷ (11, 4) ∷ (9, 3) ∷ (11, 3) ∷ (9, 3) ∷ (9, 3)
    ∷ (32, 4) ∷ (11, 5) ∷ (11, 5) ∷ (32, 4) ∷ (32, 4) ∷ (32, 4) ∷ (11, 4)
    ∷ (11, 4) ∷ (11, 4) ∷ (11, 4) ∷ (11, 4) ∷ (11, 4) ∷ (32, 4) ∷ (32, 4)
    ∷ (32, 4) ∷ []
unfolding computing or_zero told_as told_of behind
lines_3_and_4 = refl

-- Line 5: groups × cells and the global ones together are at most 1,024. Each of them alone, two of them, sums of 2 ^ 32 and a little more. What is no number
-- goes before that, and a fault in a later line behind it.
pub line_5 : behind (lines "kernel=1/threads=1")
    ("cells=1/groups=1/global=0" ∷ "cells=1/groups=1/global=1023" ∷ "cells=1/groups=1/global=1024" ∷ "cells=1/groups=1/global=1025"
    ∷ "cells=1024/groups=1/global=0" ∷ "cells=1024/groups=1/global=1" ∷ "cells=1024/groups=8/global=0"
    ∷ "cells=512/groups=2/global=0" ∷ "cells=512/groups=2/global=1" ∷ "cells=513/groups=2/global=0"
    ∷ "cells=127/groups=8/global=8" ∷ "cells=127/groups=8/global=9" ∷ "cells=128/groups=8/global=0" ∷ "cells=128/groups=8/global=1" ∷ "cells=129/groups=8/global=0"
    ∷ "cells=1/groups=1/global=4294967295" ∷ "cells=2/groups=1/global=4294967295" ∷ "cells=1/groups=8/global=4294967288" ∷ "cells=1024/groups=8/global=4294959104"
    ∷ "cells=1/groups=1/global=4294967296" ∷ "cells=1/groups=1/global=00" ∷ "cells=1/groups=1/global=" ∷ "cells=1/groups=1/globals=0" ∷ "cells=1/groups=1/limit=1"
    ∷ "cells=1024/groups=8" ∷ "cells=1024/groups=8/global=x" ∷ "cells=1024/groups=8/limit=1"
    ∷ "cells=1/groups=1/global=1024/limit=x" ∷ "cells=1024/groups=8/global=0/limit=1000001/rows=257" ∷ "cells=1024/groups=8/global=0/rows=257" ∷ [])
    ≡ (11, 6) ∷ (11, 6) ∷ (33, 5) ∷ (33, 5)
    ∷ (11, 6) ∷ (33, 5) ∷ (33, 5)
    ∷ (11, 6) ∷ (33, 5) ∷ (33, 5)
    ∷ (11, 6) ∷ (33, 5) ∷ (11, 6) ∷ (33, 5) ∷ (33, 5)
    ∷ (33, 5) ∷ (33, 5) ∷ (33, 5) ∷ (33, 5)
    ∷ (11, 5) ∷ (11, 5) ∷ (11, 5) ∷ (11, 5) ∷ (11, 5)
    ∷ (11, 5) ∷ (11, 5) ∷ (11, 5)
    ∷ (33, 5) ∷ (33, 5) ∷ (33, 5) ∷ []
unfolding computing or_zero told_as told_of behind
line_5 = refl

-- Lines 6 and 7.
pub lines_6_and_7 : behind (lines "kernel=1/threads=1/cells=1/groups=1/global=0")
    ("limit=0" ∷ "limit=1000000" ∷ "limit=1000001" ∷ "limit=00" ∷ "limit=1000001/rows=257" ∷ "rows=1" ∷ "global=0"
    ∷ "limit=1/rows=0" ∷ "limit=1/rows=256" ∷ "limit=1/rows=257" ∷ "limit=1/rows=257/row=x" ∷ "limit=1/row=0" ∷ [])
    ≡ (11, 7) ∷ (11, 7) ∷ (10, 6) ∷ (11, 6) ∷ (10, 6) ∷ (11, 6) ∷ (11, 6)
    ∷ (11, 8) ∷ (11, 8) ∷ (2, 7) ∷ (2, 7) ∷ (11, 7) ∷ []
unfolding computing or_zero told_as told_of behind
lines_6_and_7 = refl

-- Everything out of its limits, then one line after the other set right: 8, 9, 32, 33, 10, 2.
pub order_of_lines : behind (lines "kernel=1")
    ("threads=33/cells=0/groups=0/global=9999/limit=1000001/rows=257" ∷ "threads=32/cells=0/groups=0/global=9999/limit=1000001/rows=257"
    ∷ "threads=32/cells=1/groups=0/global=9999/limit=1000001/rows=257" ∷ "threads=32/cells=1/groups=8/global=9999/limit=1000001/rows=257"
    ∷ "threads=32/cells=1/groups=8/global=1016/limit=1000001/rows=257" ∷ "threads=32/cells=1/groups=8/global=1016/limit=1000000/rows=257"
    ∷ "threads=32/cells=1/groups=8/global=1016/limit=1000000/rows=256" ∷ [])
    ≡ (8, 2) ∷ (9, 3) ∷ (32, 4) ∷ (33, 5) ∷ (10, 6) ∷ (2, 7) ∷ (11, 8) ∷ []
unfolding computing or_zero told_as told_of behind
order_of_lines = refl

-- A row: four numbers below 256, no more and no fewer; here the cell's line is missing behind it.
pub row_lines : behind (lines "kernel=1/threads=1/cells=1/groups=1/global=0/limit=1/rows=1")
    ("row=255,255,255,255" ∷ "row=256,0,0,0" ∷ "row=0,256,0,0" ∷ "row=0,0,256,0" ∷ "row=0,0,0,256" ∷ "row=2,0,0" ∷ "row=2,0,0,0,0" ∷ "row=2,0,0,0," ∷ "row=2,,0,0"
    ∷ "row=,0,0,0" ∷ "row=2.0.0.0" ∷ "row=2,0,0,00" ∷ "row=02,0,0,0" ∷ "row=2,01,0,0" ∷ "row=2,0,:,0" ∷ "row=2, 0,0,0" ∷ "rows=2,0,0,0" ∷ "ro=2,0,0,0" ∷ "row=2,0,0,0\r"
    ∷ "row=" ∷ "row=2" ∷ "cell=0" ∷ [])
    ≡ (11, 9) ∷ (11, 8) ∷ (11, 8) ∷ (11, 8) ∷ (11, 8) ∷ (11, 8) ∷ (11, 8) ∷ (11, 8) ∷ (11, 8)
    ∷ (11, 8) ∷ (11, 8) ∷ (11, 8) ∷ (11, 8) ∷ (11, 8) ∷ (11, 8) ∷ (11, 8) ∷ (11, 8) ∷ (11, 8) ∷ (11, 8)
    ∷ (11, 8) ∷ (11, 8) ∷ (11, 8) ∷ []
unfolding computing or_zero told_as told_of behind
row_lines = refl

-- Cells: as many lines as said, of any word. Then the end, and nothing behind it.
pub last_lines_lem : behind (lines "kernel=1/threads=1/cells=2/groups=1/global=0/limit=1/rows=0")
    ("cell=0/cell=256/end=kernel" ∷ "cell=4294967295/cell=4294967295/end=kernel" ∷ "cell=0/cell=4294967296/end=kernel" ∷ "cell=0/cell=01/end=kernel"
    ∷ "cell=0/end=kernel" ∷ "cell=0/cell=0/cell=0/end=kernel" ∷ "cells=0/cell=0/end=kernel" ∷ "end=kernel" ∷ "row=2,0,0,0/cell=0/cell=0/end=kernel"
    ∷ "cell=0/cell=0/end=report" ∷ "cell=0/cell=0/end=kernelx" ∷ "cell=0/cell=0/end=kerne" ∷ "cell=0/cell=0/end=" ∷ "cell=0/cell=0/kernel=end" ∷ "cell=0/cell=0/end=kernel/"
    ∷ "cell=0/cell=0/end=kernel/end=kernel" ∷ "cell=0/cell=0" ∷ [])
    ≡ (0, 0) ∷ (0, 0) ∷ (11, 9) ∷ (11, 9)
    ∷ (11, 9) ∷ (11, 10) ∷ (11, 8) ∷ (11, 8) ∷ (11, 8)
    ∷ (11, 10) ∷ (11, 10) ∷ (11, 10) ∷ (11, 10) ∷ (11, 10) ∷ (11, 11)
    ∷ (11, 11) ∷ (11, 10) ∷ []
unfolding computing or_zero told_as told_of behind
last_lines_lem = refl

-- The own cells of both groups, then the global ones: as many of each as said, none in the other's place.
pub global_lines : behind (lines "kernel=1/threads=1/cells=1/groups=2/global=2/limit=1/rows=0")
    ("cell=0/cell=1/gcell=2/gcell=3/end=kernel" ∷ "cell=0/cell=1/gcell=4294967295/gcell=4294967295/end=kernel" ∷ "cell=0/cell=1/gcell=2/gcell=4294967296/end=kernel"
    ∷ "cell=0/gcell=2/gcell=3/end=kernel" ∷ "gcell=2/gcell=3/cell=0/cell=1/end=kernel" ∷ "cell=0/gcell=2/cell=1/gcell=3/end=kernel" ∷ "gcell=0/gcell=1/gcell=2/gcell=3/end=kernel"
    ∷ "cell=0/cell=1/gcell=2/end=kernel" ∷ "cell=0/cell=1/end=kernel" ∷ "cell=0/cell=1/gcell=2/gcell=3/gcell=4/end=kernel" ∷ "cell=0/cell=1/cell=2/gcell=3/gcell=4/end=kernel"
    ∷ "cell=0/cell=1/cell=2/cell=3/end=kernel" ∷ "cell=0/cell=1/gcell=2/cell=3/end=kernel" ∷ "cell=0/cell=1/gcells=2/gcell=3/end=kernel" ∷ "cell=0/cell=1/global=2/gcell=3/end=kernel"
    ∷ "cell=0/cell=1/gcell=02/gcell=3/end=kernel" ∷ "cell=0/cell=1/gcell=/gcell=3/end=kernel" ∷ "cell=0/cell=1/gcell=2/gcell=3" ∷ "cell=0/cell=1/gcell=2/gcell=3/end=kernel/" ∷ [])
    ≡ (0, 0) ∷ (0, 0) ∷ (11, 11)
    ∷ (11, 9) ∷ (11, 8) ∷ (11, 9) ∷ (11, 8)
    ∷ (11, 11) ∷ (11, 10) ∷ (11, 12) ∷ (11, 10)
    ∷ (11, 10) ∷ (11, 11) ∷ (11, 10) ∷ (11, 10)
    ∷ (11, 10) ∷ (11, 10) ∷ (11, 12) ∷ (11, 13) ∷ []
unfolding computing or_zero told_as told_of behind
global_lines = refl

-- Two groups without global cells: a global cell's line is not due.
pub no_global_lines : behind (lines "kernel=1/threads=1/cells=1/groups=2/global=0/limit=1/rows=0")
    ("cell=0/cell=1/end=kernel" ∷ "cell=0/cell=1/gcell=2/end=kernel" ∷ "cell=0/end=kernel" ∷ "cell=0/cell=1/cell=2/end=kernel" ∷ [])
    ≡ (0, 0) ∷ (11, 10) ∷ (11, 9) ∷ (11, 10) ∷ []
unfolding computing or_zero told_as told_of behind
no_global_lines = refl

-- A last line without its byte 10 is not due, whatever it says; `/` itself is no digit; one byte behind the end.
pub last_bytes : map (λ f. told_of (file_launch f))
    (text ""
    ∷ text "kernel=1"
    ∷ (lines "kernel=1" ++ text "threads=33")
    ∷ (lines "kernel=1" ++ text "threads=1/\n")
    ∷ (lines "kernel=1/threads=1/cells=1/groups=1/global=0/limit=1/rows=0/cell=0" ++ text "end=kernel")
    ∷ (lines "kernel=1/threads=1/cells=1/groups=1/global=0/limit=1/rows=0/cell=0/end=kernel" ++ text "x")
    ∷ [])
    ≡ (11, 1) ∷ (11, 1) ∷ (11, 2) ∷ (11, 2) ∷ (11, 9) ∷ (11, 10) ∷ []
unfolding computing or_zero told_as told_of
last_bytes = refl

-- 3 to 7 come after all lines, at the row from 0.
pub rows_after_lines : behind (lines "kernel=1/threads=1/cells=1/groups=1/global=0/limit=1/rows=3")
    ("row=2,0,0,0/row=0,0,0,0/row=2,0,0,0/cell=0/end=kernel" ∷ "row=2,0,0,0/row=0,0,0,0/row=2,0,0,0/cell=x/end=kernel"
    ∷ "row=0,0,0,0/row=2,0,0,0/row=2,0,0,0,0/cell=0/end=kernel"
    ∷ "row=0,0,0,0/row=2,0,0,0/row=2,0,0,0/cell=0/end=kernel/" ∷ "row=2,0,0,0/row=2,0,0,0/row=2,16,0,0/cell=0/end=kernel"
    ∷ "row=32,0,0,0/row=2,0,0,0/row=36,0,0,0/cell=0/end=kernel"
    ∷ "row=2,0,0,0/row=32,0,0,0/row=33,0,0,0/cell=0/end=kernel" ∷ "row=2,0,0,0/row=32,0,0,0/row=34,0,0,0/cell=0/end=kernel" ∷ [])
    ≡ (3, 1) ∷ (11, 11) ∷ (11, 10) ∷ (11, 13) ∷ (4, 2) ∷ (5, 2) ∷ (7, 1) ∷ (0, 0) ∷ []
unfolding computing or_zero told_as told_of behind
rows_after_lines = refl

-- What the lines say goes to its own place, in the order of the file.
pub what_it_says :
    file_launch
    (lines "kernel=1/threads=5/cells=2/groups=2/global=3/limit=7/rows=2/row=1,2,3,4/row=12,13,14,15"
    ++ lines "cell=256/cell=0/cell=4294967295/cell=9/gcell=6/gcell=0/gcell=70/end=kernel")
    ≡ accepted
    (record {
      sizes = sizes 5 2 2 3;
      limit = 7;
      table = row_of 1 2 3 4 ∷ row_of 12 13 14 15 ∷ [];
      cells = 256 ∷ 0 ∷ 4294967295 ∷ 9 ∷ 6 ∷ 0 ∷ 70 ∷ [];
    })
unfolding computing
what_it_says = refl
