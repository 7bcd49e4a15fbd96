-- What adding a unit leaves of a library.
use Rattle.std.specs.Prelude.{◌≡◌, ℕ, List, [], ◌∷◌, ◌++◌}
use Rattle.page_store.specs.AddedUnit.{with_added}
use Rattle.indexed_file.specs.Growing.{IsNewName}
use Rattle.shelf_library.specs.State.{LibraryState}
use Rattle.shelf_library.specs.OneUnit.{AreUnits}
use Rattle.shelf_library.specs.Units.{world_of}
use Rattle.shelf_library.specs.declared.held.Held.TheVariants.{Nothing}

-- behind the units there is one of this name, which no other has, and it holds nothing
pub record AddsName (name : List ℕ) (old new : LibraryState) : Type 0 where
  pub units : AreUnits old.shelf old.held
  pub is_new : IsNewName (world_of old.shelf old.held) name
  pub held : new.held ≡ old.held ++ Nothing ∷ []
  pub shelf : new.shelf ≡ with_added name old.shelf
  pub faults : new.faults ≡ old.faults
  pub limit : new.limit ≡ old.limit
  pub frames : new.frames ≡ old.frames
