-- What attaching names leaves of a library.
use Rattle.std.specs.Prelude.{◌≡◌, ℕ, List, length, replicate, bytes_eq}
use Rattle.std.specs.List.{IsDistinct}
use Rattle.shelf_library.specs.State.{LibraryState}
use Rattle.shelf_library.specs.OneUnit.{AreUnits}
use Rattle.shelf_library.specs.declared.held.Held.TheVariants.{Nothing}

-- the units have these names, and hold nothing
pub record Attaches (names : List (List ℕ)) (count : ℕ) (old new : LibraryState) : Type 0 where
  pub units : AreUnits old.shelf old.held
  pub distinct : IsDistinct bytes_eq names
  pub counted : count ≡ length names
  pub held : new.held ≡ replicate count Nothing
  pub shelf : new.shelf ≡ record old.shelf { names = names }
  pub faults : new.faults ≡ old.faults
  pub limit : new.limit ≡ old.limit
  pub frames : new.frames ≡ old.frames
