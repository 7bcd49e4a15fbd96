-- What a look leaves of a library.
use Rattle.std.specs.Prelude.{◌≡◌, ℕ, ◌<◌, length, slice_set, Result}
use Rattle.io_state.specs.declared.fault.Fault.{Fault}
use Rattle.shelf_library.specs.declared.look.HeaderLook.{HeaderLook}
use Rattle.shelf_library.specs.FileOpening.{LooksOnShelf, counted_shelf}
use Rattle.shelf_library.specs.State.{LibraryState}
use Rattle.shelf_library.specs.Told.{held_after}
use Rattle.shelf_library.specs.OneUnit.{AreUnits}

-- unit u was looked at, and the look found this
pub record LooksAt (u : ℕ) (look : Result HeaderLook Fault) (old new : LibraryState) : Type 0 where
  pub units : AreUnits old.shelf old.held
  pub attached : u < length old.held
  pub holds : new.held ≡ slice_set old.held u (held_after look)
  pub limit : new.limit ≡ old.limit
  pub frames : new.frames ≡ old.frames
  pub looks : LooksOnShelf u (counted_shelf old.shelf old.faults) (counted_shelf new.shelf new.faults) look
