-- What looking, making, opening and closing leave of the shelf.
use Rattle.std.specs.Prelude.{◌≡◌, ◌⊎◌, ℕ, List, Option, Some, true, false, IsTrue, IsFalse, OnOk, Result}
use Rattle.indexed_file.specs.File.{File, empty_file}
use Rattle.indexed_file.specs.Room.{room_of_new}
use Rattle.record_layout.specs.Schema.{Schema}
use Rattle.page_store.specs.DeviceFile.{DeviceFile, content}
use Rattle.page_store.specs.Images.{IsSettled}
use Rattle.page_store.specs.Moments.{Throughout}
use Rattle.page_store.specs.Gate.{IsRefused}
use Rattle.page_store.specs.ShelfState.{ShelfState, HasUnit, unit_file}
use Rattle.open_file.specs.declared.first_page.Header.{Header}
use Rattle.open_file.specs.Bounds.{IsHeader}
use Rattle.shelf_library.specs.declared.look.HeaderLook.{HeaderLook}
use Rattle.shelf_library.specs.declared.look.HeaderLook.TheVariants.{NoFile, Refused, Accepted}
use Rattle.shelf_library.specs.declared.shelf_file.ShelfFile.{ShelfFile}
use Rattle.shelf_library.specs.ClosedFile.{live_in, StandsIn, AreClosed}
use Rattle.shelf_library.specs.Named.{look_of}
use Rattle.shelf_library.specs.ReadOff.{file_by}
use Rattle.shelf_library.specs.Standing.{IsReady, StandsFor, file_read_off, room_in}
use Rattle.page_alloc.specs.PagedFile.{is_begun, times_asked, unit_of_pages}
use Rattle.open_file.specs.Fields.{has_broken, file_schema}

-- a header that was accepted is one that a file may have
abbrev pub HasHeader : HeaderLook → Type 0
HasHeader NoFile = Unit {0}
HasHeader Refused = Unit {0}
HasHeader (Accepted header) = IsHeader header

-- the file is there, and its first page has this header
abbrev pub HasAccepted : ShelfState → ℕ → Header → Type 0
HasAccepted shelf unit header = look_of (unit_file shelf unit).seen ≡ Accepted header

-- the file of a unit that is open, and not changed yet
pub record IsOpened (held : ShelfFile) (unit : ℕ) (header : Header) : Type 0 where
  pub unit_is : unit_of_pages held.pages ≡ unit
  pub schema_is : file_schema held.file ≡ header.schema
  pub unbroken : IsFalse (has_broken held.file)
  pub unchanged : is_begun held.pages ≡ false
  pub asked : times_asked held.pages ≡ 0
  pub ready : (shelf : ShelfState) → HasUnit shelf unit
      → (IsTrue shelf.is_honest → HasAccepted shelf unit header) → IsReady held shelf
  -- it reads as its file does, and stands for what its file stands for
  pub reads : (shelf : ShelfState) → HasAccepted shelf unit header
      → file_read_off held shelf ≡ file_by header (live_in header (content (unit_file shelf unit)))
  pub stands : (shelf : ShelfState) (file : File) → HasAccepted shelf unit header
      → StandsIn header (content (unit_file shelf unit)) file → StandsFor held shelf file

-- the file of a unit that was made, behind an open gate
pub record IsMade (held : ShelfFile) (unit limit : ℕ) (schema : Schema) (shelf : ShelfState) : Type 0 where
  pub unit_is : unit_of_pages held.pages ≡ unit
  pub schema_is : file_schema held.file ≡ schema
  pub unbroken : IsFalse (has_broken held.file)
  pub changed : is_begun held.pages ≡ true
  pub room : room_in held ≡ room_of_new (Some limit) schema
  pub ready : IsReady held shelf
  pub stands : IsTrue shelf.is_honest → StandsFor held shelf empty_file

-- a crash leaves a file that is refused, or one that stands for this file
abbrev pub ClosedFileOrRefused : Schema → File → Option (List ℕ) → Type 0
ClosedFileOrRefused schema file c = IsRefused c ⊎ ((bytes : List ℕ) × (c ≡ Some bytes)
    × AreClosed schema file bytes)

-- closing a changed file that stood for this one: at each moment a crash leaves it closed or
-- refused, and at the end it is closed
pub record Closes {E : Type 0} (schema : Schema) (file : File) (old new : DeviceFile)
    (result : Result (Unit {0}) E) : Type 0 where
  pub images : Throughout (ClosedFileOrRefused schema file) old new
  pub settled : OnOk result (IsSettled new)
  pub closed : OnOk result (AreClosed schema file (content new))
