-- The files of a shelf, as a run finds and leaves them. All of this is ours.
use Rattle.std.specs.Prelude.{◌≡◌, ℕ, List, All, Option, Some, None}
use Rattle.indexed_file.specs.World.{World, Named, Absent, Closed, Unsound, named_in}
use Rattle.page_store.specs.ShelfState.{ShelfState}
use Rattle.file_control.specs.Description.{file_names}
use Rattle.deck_reader.specs.declared.deck.Deck.{Deck}
use Rattle.open_file.specs.declared.first_page.Header.{Header}
use Rattle.shelf_library.specs.ClosedFile.{IsAcceptedBy, AreClosed}

-- what a read gives of the file of each name
abbrev pub FileReads : Type 0
FileReads = List ℕ → Option (List ℕ)

abbrev pub reads_of : ShelfState → FileReads
reads_of shelf name = (shelf.file name).seen

-- what a read gives of a file represents this: there is no file; its gate is closed, and its pages
-- stand for exactly these rows of this schema; or it is refused: it begins with the first page of no
-- closed file, as where its gate is open, or has fewer pages than that counts
abbrev pub Represents : Option (List ℕ) → Named → Type 0
Represents c Absent = c ≡ None
Represents c (Closed schema file) = (bytes : List ℕ) × (c ≡ Some bytes) × AreClosed schema file bytes
Represents c Unsound =
    (bytes : List ℕ) × (c ≡ Some bytes) × ((header : Header) → IsAcceptedBy header bytes → ⊥)

-- each of the deck's files represents what its name stands for in this world
abbrev pub AreIn : World → FileReads → Deck → Type 0
AreIn world reads deck = All (λ name. Represents (reads name) (named_in world name)) (file_names deck.files)
