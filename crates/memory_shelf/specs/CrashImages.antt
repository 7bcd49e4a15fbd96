-- The images that a crash of a shelf in memory leaves.
use Rattle.std.specs.Prelude.{◌≡◌, ℕ, ◌+◌, List, [], ◌∷◌, Option, option_map, if◌then◌else◌}
use Rattle.page_store.specs.DeviceFile.{DeviceFile}
use Rattle.page_store.specs.Images.{durable, covered, Leaves}
use Rattle.memory_shelf.specs.declared.crash.Image.{Image}
use Rattle.memory_shelf.specs.declared.crash.Image.TheVariants.{AsRead, Synced, Filled}

-- these bytes, of which the first is byte i of a file, with another byte wherever a range covers them
abbrev pub filled_by_ranges : ℕ → List (ℕ × ℕ) → ℕ → List ℕ → List ℕ
filled_by_ranges byte ranges i [] = []
filled_by_ranges byte ranges i (x ∷ bytes) = (if covered ranges i then byte else x)
    ∷ filled_by_ranges byte ranges (i + 1) bytes

-- what this crash leaves of a file
abbrev pub image_of : Image → DeviceFile → Option (List ℕ)
image_of AsRead file = file.seen
image_of Synced file = (durable file.log).base
image_of (Filled byte) file = option_map (filled_by_ranges byte (durable file.log).ranges 0) file.seen

-- the file is what this crash leaves, which is one of its images, and a crash again leaves the same
pub record Crashed (image : Image) (old new : DeviceFile) : Type 0 where
  pub left : new.seen ≡ image_of image old
  pub may : Leaves old new.seen
  pub settled : (c : Option (List ℕ)) → Leaves new c → c ≡ new.seen
