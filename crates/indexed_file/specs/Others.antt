-- What a call on one unit leaves of the other units, and of the names that it has not.
use Rattle.std.specs.Prelude.{◌≡◌, ◌≢◌, ◌<◌, ℕ, false, List, length, bytes_eq}
use Rattle.indexed_file.specs.World.{name_at}
use Rattle.indexed_file.specs.Shown.{Shown}
use Rattle.indexed_file.specs.Images.{Stays}
use Rattle.indexed_file.specs.Calls.{SamePages}

-- the pages of a unit's file, its room and its frames stay, and so does the count of the pages asked
pub record SameUnit {S : Type 0} (shown : Shown S) (u : ℕ) (old new : S) : Type 0 where
  pub pages : SamePages shown u old new
  pub frames : shown.unit_frames new u ≡ shown.unit_frames old u
  pub asked : shown.pages_asked new u ≡ shown.pages_asked old u

-- whatever a call on unit u answers, and whether or not the library is honest: every other unit is
-- the same, and the images of every other name stay
pub record LeavesOthers {S : Type 0} (shown : Shown S) (u : ℕ) (old new : S) : Type 0 where
  pub units : (v : ℕ) → v < length (shown.world old).units → v ≢ u → SameUnit shown v old new
  pub images : (name : List ℕ) → bytes_eq (name_at (shown.world old) u) name ≡ false
      → Stays shown.moments old new name
