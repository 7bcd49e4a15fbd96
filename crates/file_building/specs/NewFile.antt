-- A new file while it is written: what a crash leaves of it, and what reads give.
use Rattle.std.specs.Prelude.{◌≡◌, ◌⊎◌, ℕ, List, Option, Some}
use Rattle.record_layout.specs.Schema.{Schema}
use Rattle.indexed_file.specs.File.{File}
use Rattle.page_store.specs.DeviceFile.{DeviceFile}
use Rattle.page_store.specs.Gate.{WasOrRefused, SameOrRefused}
use Rattle.page_store.specs.Moments.{Throughout}
use Rattle.page_alloc.specs.PagedFile.{IsKeptOrRefused}
use Rattle.shelf_library.specs.ClosedFile.{AreClosed}

-- at each moment a crash leaves what it could leave before, or a refused file
pub record GoesRefused (old new : DeviceFile) : Type 0 where
  pub images : Throughout (WasOrRefused old) old new
  pub stands : IsKeptOrRefused old new

-- it is there, closed, and stands for this file
abbrev pub IsClosedFor : Schema → File → Option (List ℕ) → Type 0
IsClosedFor schema file c = (bytes : List ℕ) × (c ≡ Some bytes) × AreClosed schema file bytes

-- a crash leaves what it could leave before, a refused file, or a closed one that stands for this file
abbrev pub IsOldOrWhole : DeviceFile → Schema → File → Option (List ℕ) → Type 0
IsOldOrWhole old schema file c =
    WasOrRefused old c ⊎ ((bytes : List ℕ) × (c ≡ Some bytes) × AreClosed schema file bytes)

-- what reads give is as it was, or a refused file, or a closed one that stands for this file
abbrev pub ReadsOldOrWhole : (old new : DeviceFile) → Schema → File → Type 0
ReadsOldOrWhole old new schema file =
    SameOrRefused old new ⊎ ((bytes : List ℕ) × (new.seen ≡ Some bytes) × AreClosed schema file bytes)
