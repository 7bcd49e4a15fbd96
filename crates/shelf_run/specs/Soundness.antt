-- What a crash may leave of the files of a shelf. All of this is ours.
use Rattle.std.specs.Prelude.{ℕ, List, [], All, Option}
use Rattle.indexed_file.specs.World.{World}
use Rattle.page_store.specs.DeviceFile.{DeviceFile}
use Rattle.page_store.specs.Images.{Leaves}
use Rattle.page_store.specs.Moments.{Throughout}
use Rattle.page_store.specs.ShelfState.{ShelfState}
use Rattle.file_control.specs.Description.{file_names}
use Rattle.deck_reader.specs.declared.deck.Deck.{Deck}
use Rattle.shelf_library.specs.Named.{named_of}
use Rattle.shelf_library.specs.Crashes.{IsSoundImage}

-- what each name reads as, whether or not its file represents it
abbrev pub files_of : ShelfState → World
files_of shelf = record { units = []; elsewhere = λ name. named_of (shelf.file name).seen }

-- whatever a crash may leave of a file now is sound
abbrev pub AllSound : DeviceFile → Type 0
AllSound file = (c : Option (List ℕ)) → Leaves file c → IsSoundImage c

-- and so it is of each of the deck's files
abbrev pub AreImagesSound : ShelfState → Deck → Type 0
AreImagesSound shelf deck = All (λ name. AllSound (shelf.file name)) (file_names deck.files)

-- whatever a crash may leave of a file at each moment from the one shelf to the other is sound, if
-- it was so at first
abbrev pub AreSoundThroughout : ShelfState → ShelfState → Type 0
AreSoundThroughout old new = (name : List ℕ) → AllSound (old.file name)
    → Throughout IsSoundImage (old.file name) (new.file name)
