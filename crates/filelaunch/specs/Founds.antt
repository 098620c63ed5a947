-- What is found in a launch file: a refusal, or a launch that can be run. Assumes nothing.
use Rattle.std.specs.Prelude.{◌≡◌, Result, Ok, Err, List, ℕ, ◌*◌, length, take}
use Rattle.spec.specs.declared.Refusal.{Refusal}
use Rattle.spec.specs.Shape.{sizes, all_own}
use Rattle.spec.specs.Launch as definition
use Rattle.spec.specs.LaunchFile.{refused, accepted, file_launch}
use Rattle.spec.specs.Entries.{bare_launch}
use Rattle.layout.specs.Running.{Runnable}
use Rattle.launchfile.specs.declared.Launch.{Launch}
use Rattle.launchfile.specs.Parsed.{Within, sizes_of}
use Rattle.filelaunch.specs.declared.Found.{Found}
use Rattle.filelaunch.specs.declared.Loaded.{Loaded}

-- The bytes of its table, and the words of both kinds of its cells, stand at the front of their arrays.
abbrev pub table_bytes : Launch → List ℕ
table_bytes l = take (4 * l.rows) l.table

abbrev pub own_words : Launch → List ℕ
own_words l = take l.count l.cells

abbrev pub global_words : Launch → List ℕ
global_words l = take l.shared l.global

-- The launch that is meant.
abbrev pub launch_in : Launch → definition.Launch
launch_in l = bare_launch (table_bytes l) (sizes l.threads l.each l.groups (length (global_words l))) l.limit (own_words l) (global_words l)

pub record FoundLaunch (file : List ℕ) (l : Launch) (ends : List ℕ) : Type 0 where
  pub launch_is : file_launch file ≡ accepted (launch_in l)
  pub runnable : Runnable (table_bytes l) ends
  pub within : Within (sizes_of l) l.limit l.rows
  pub own : l.count ≡ all_own (sizes_of l)
  pub table_long : length l.table ≡ 1024
  pub cells_long : length l.cells ≡ 1024
  pub global_long : length l.global ≡ 1024

-- What the file is refused for, or its launch.
abbrev pub FoundIs : (file : List ℕ) → Result Found Refusal → Type 0
FoundIs file (Err why) = file_launch file ≡ refused why
FoundIs file (Ok f) = FoundLaunch file f.launch f.ends

-- What is handed to the run is the launch that was found, over these common cells.
pub record LoadedFrom (f : Found) (common : List ℕ) (l : Loaded) : Type 0 where
  pub table : l.kernel.table.now ≡ table_bytes f.launch
  pub ends : l.kernel.ends.now ≡ f.ends
  pub threads : l.kernel.threads ≡ f.launch.threads
  pub each : l.kernel.each ≡ f.launch.each
  pub groups : l.kernel.groups ≡ f.launch.groups
  pub limit : l.kernel.limit ≡ f.launch.limit
  pub over : l.kernel.common.now ≡ common
  pub cells : l.cells.now ≡ own_words f.launch
  pub global : l.global.now ≡ global_words f.launch
