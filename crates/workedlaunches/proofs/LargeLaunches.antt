-- Launches as large as they can be: the most of everything in a file, and more intervals than there are records, of one group and of three. Assumes nothing.
use mathlib.Core.Path.{◌≡◌, refl}
use mathlib.Core.List.{List, [], ◌∷◌, ◌++◌, map}
use Prim.Native.Nat.{ℕ, zero, suc}
use lib.ListN.{length, replicate}
use Rattle.spec.specs.Table.{Table, row_of}
use Rattle.spec.specs.Shape.{sizes}
use Rattle.spec.specs.Intervals.{interval_records, record_words}
use Rattle.spec.specs.Launch.{Launch}
use Rattle.spec.specs.LaunchFile.{Checked, refused, accepted, file_launch}
use Rattle.spec.specs.Entries.{bare_records}
use Rattle.spec.proofs.Lines.{lines}
use Rattle.spec.proofs.OpTable.{bytes_from}
use Rattle.spec.proofs.IntervalTable.{interval, two_apart}
use Rattle.spec.proofs.Computing.{computing}

unfoldable pub repeated : (k : ℕ) → List ℕ → List ℕ
repeated zero w = []
repeated (suc k) w = w ++ repeated k w

unfoldable pub numbers_in : Checked Launch → List ℕ
numbers_in (refused r) = []
numbers_in (accepted launch) =
    launch.sizes.threads
    ∷ launch.sizes.cells
    ∷ launch.sizes.groups
    ∷ launch.sizes.global
    ∷ length launch.cells
    ∷ launch.limit
    ∷ length launch.table
    ∷ []

-- The most of everything: 32 threads, 1,024 cells, limit 1,000,000, 256 rows; and 8 groups with 127 cells each and 8 global ones.
pub the_most :
    map (λ f. numbers_in (file_launch f))
    ((lines "kernel=1/threads=32/cells=1024/groups=1/global=0/limit=1000000/rows=256"
    ++ (repeated 256 (lines "row=2,0,0,0") ++ (repeated 1024 (lines "cell=0") ++ lines "end=kernel")))
    ∷ (lines "kernel=1/threads=32/cells=127/groups=8/global=8/limit=1000000/rows=256"
    ++ (repeated 256 (lines "row=22,0,0,0") ++ (repeated 1016 (lines "cell=0") ++ (repeated 8 (lines "gcell=0") ++ lines "end=kernel"))))
    ∷ [])
    ≡ (32 ∷ 1024 ∷ 1 ∷ 0 ∷ 1024 ∷ 1000000 ∷ 256 ∷ []) ∷ (32 ∷ 127 ∷ 8 ∷ 8 ∷ 1024 ∷ 1000000 ∷ 256 ∷ []) ∷ []
unfolding computing repeated numbers_in
the_most = refl

-- A loop of 64 rounds with 16 BARRIERs, then LOAD, BARRIER, LOAD, BARRIER: 1,026 releases. The 1,025th record starts behind the loop's last BARRIER and takes
-- in what follows: two rows of the loop, its WHILE, two LOADs that cost 1 and two BARRIERs. The two words lent behind it are kept.
unfoldable pub long_table : List ℕ
long_table =
    two_apart
    ++ (1 ∷ 3 ∷ 64 ∷ 0 ∷ 1 ∷ 4 ∷ 1 ∷ 0 ∷ 35 ∷ 0 ∷ 3 ∷ 0 ∷ [])
    ++ repeated 16 (37 ∷ 0 ∷ 0 ∷ 0 ∷ [])
    ++ (5 ∷ 3 ∷ 3 ∷ 4 ∷ 36 ∷ 0 ∷ 0 ∷ 0 ∷ [])
    ++ repeated 2 (16 ∷ 5 ∷ 2 ∷ 0 ∷ 37 ∷ 0 ∷ 0 ∷ 0 ∷ [])

-- The fifteen intervals between the BARRIERs of a round, each with one row.
unfoldable pub within_round : List ℕ
within_round = record_words (map (λ r. interval r 1 0) (bytes_from 7 15))

pub the_last_goes_on : bare_records long_table (sizes 2 17 1 0) 10000 (replicate 17 7) [] (replicate 136 9) (replicate 3077 9) ≡
    (0 ∷ 7 ∷ 0 ∷ within_round) ++ (repeated 63 (22 ∷ 4 ∷ 0 ∷ within_round) ++ (22 ∷ 7 ∷ 2 ∷ 9 ∷ 9 ∷ []))
unfolding computing bytes_from interval two_apart repeated long_table within_round
the_last_goes_on = refl

-- A loop of 32 rounds with 16 BARRIERs, by three groups: 513 intervals each. The 1,025th record is group 1's last but one. It goes on through that group's
-- last interval, 3 rows, and through all 611 rows of group 2, whose start opens no other.
unfoldable pub turning : Table
turning =
    row_of 1 3 32 0 ∷ row_of 1 4 1 0 ∷ row_of 35 0 3 0 ∷ (replicate 16 (row_of 37 0 0 0) ++ (row_of 5 3 3 4 ∷ row_of 36 0 0 0 ∷ []))

pub cap_for_starts :
    record_words (interval_records turning (sizes 1 1 3 0) (7 ∷ 8 ∷ 9 ∷ []) 10000)
    ≡ (let round = record_words (map (λ r. interval r 1 0) (bytes_from 4 15)) in
    let most = (0 ∷ 4 ∷ 0 ∷ round) ++ repeated 30 (19 ∷ 4 ∷ 0 ∷ round) in
    most ++ ((19 ∷ 4 ∷ 0 ∷ round) ++ (19 ∷ 3 ∷ 0 ∷ most) ++ (19 ∷ 4 ∷ 0 ∷ record_words (map (λ r. interval r 1 0) (bytes_from 4 14))) ++ (18 ∷ 615 ∷ 0 ∷ [])))
unfolding computing bytes_from interval repeated turning
cap_for_starts = refl
