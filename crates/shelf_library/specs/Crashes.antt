-- What a crash may leave of the files of a library over a shelf.
use Rattle.std.specs.Prelude.{◌≡◌, ℕ, ◌+◌, List, length, take, Option}
use Rattle.indexed_file.specs.File.{File}
use Rattle.indexed_file.specs.Moments.{Moments}
use Rattle.indexed_file.specs.World.{Named}
use Rattle.page_store.specs.DeviceFile.{DeviceFile, bytes_or_none}
use Rattle.page_store.specs.Images.{durable, MayLeave}
use Rattle.page_store.specs.Moments.{Throughout}
use Rattle.page_store.specs.ShelfState.{ShelfState}
use Rattle.open_file.specs.declared.first_page.Header.{Header}
use Rattle.shelf_library.specs.declared.look.HeaderLook.TheVariants.{Accepted}
use Rattle.shelf_library.specs.ClosedFile.{StandsIn}
use Rattle.shelf_library.specs.Named.{look_of, named_of}

-- there is no file, or its first page is refused, as that of a file whose gate is open; or its gate
-- is closed, and it stands for rows
abbrev pub IsSoundImage : Option (List ℕ) → Type 0
IsSoundImage c =
    (header : Header) → look_of c ≡ Accepted header → (rows : File) × StandsIn header (bytes_or_none c) rows

-- a crash at some moment from the one state of a file to the other may leave this: the log had n
-- steps more by then
abbrev pub MayBeFound : DeviceFile → DeviceFile → Option (List ℕ) → Type 0
MayBeFound old new c = (n : ℕ) × MayLeave (durable (take (length old.log + n) new.log)) c

-- and that reads as this
abbrev pub MayReadAs : DeviceFile → DeviceFile → Named → Type 0
MayReadAs old new image = (c : Option (List ℕ)) × MayBeFound old new c × (named_of c ≡ image)

-- the images of the names of a shelf: each is what its file may read as, and is real where it is sound
abbrev pub moments_on : Moments ShelfState
moments_on = record {
  IsImage = λ old new name. MayReadAs (old.file name) (new.file name);
  AreReal = λ old new name. Throughout IsSoundImage (old.file name) (new.file name);
}
