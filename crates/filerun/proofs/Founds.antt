-- A launch that was found in a file can be run, over any common cells that are not too many. Assumes nothing.
use mathlib.Core.Path.{◌≡◌, sym}
use mathlib.Core.List.{List, []}
use Prim.Native.Nat.{ℕ, ◌≤◌}
use lib.ListN.{length}
use Rattle.spec.specs.Limits.{max_common}
use Rattle.spec.specs.Entries.{bare_launch}
use Rattle.spec.specs.PairFiles.{sharing}
use Rattle.launchrun.specs.Launches.{sizes_by}
use Rattle.filelaunch.specs.declared.Found.{Found}
use Rattle.filelaunch.specs.declared.Loaded.{Loaded}
use Rattle.filelaunch.specs.Founds.{launch_in, FoundLaunch, LoadedFrom}
use Rattle.filelaunch.proofs.Parts.{own_are, all_few}
use Rattle.filerun.specs.Launches.{CanRun, launch_of}

module _ {file : List ℕ} {f : Found} (F : FoundLaunch file f.launch f.ends) {common : List ℕ} {l : Loaded} (L : LoadedFrom f common l) where
  pub found_runs : length common ≤ max_common → CanRun l
  found_runs few =
      let w = F.within in
      record {
        checked = rw (L.table, L.ends) F.runnable;
        some_thread = rw L.threads w.some_thread;
        few_threads = rw L.threads w.few_threads;
        some_group = rw L.groups w.some_group;
        few_groups = rw L.groups w.few_groups;
        few_runs = rw L.limit w.few_runs;
        few_common = rw L.over few;
        own = rw (L.cells, L.groups, L.each) (own_are file f.launch f.ends F);
        some_cell = rw L.each w.some_cell;
        few_cells = rw (L.cells, L.global) (all_few file f.launch f.ends F);
      }

-- What is run is the file's launch, with these common cells.
pub launch_is : {f : Found} {common : List ℕ} {l : Loaded} → LoadedFrom f common l → sharing common (launch_in f.launch) ≡ launch_of l
unfolding bare_launch
launch_is L =
    λ i. bare_launch (sym L.table i) (sizes_by (sym L.threads i) (sym L.groups i) (sym L.each i) (sym L.over i) (sym L.global i)) (sym L.limit i) (sym L.cells i) (sym L.global i)

pub plain_launch : {f : Found} {l : Loaded} → LoadedFrom f [] l → launch_in f.launch ≡ launch_of l
unfolding bare_launch
plain_launch L = launch_is L
