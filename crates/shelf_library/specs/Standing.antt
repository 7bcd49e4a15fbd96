-- An indexed file that is open on a shelf, and what it stands for.
use Rattle.std.specs.Prelude.{◌≡◌, ℕ, Bool, IsTrue}
use Rattle.record_layout.specs.Schema.{Schema}
use Rattle.indexed_file.specs.File.{File}
use Rattle.indexed_file.specs.Room.{Room}
use Rattle.pages.specs.PageMap.{PageMap}
use Rattle.page_store.specs.ShelfState.{ShelfState}
use Rattle.page_alloc.specs.PagedFile.{IsOpenOver, counts_of, most_held, asked_anew}
use Rattle.page_alloc.specs.declared.paged_file.PagedFile.{PagedFile}
use Rattle.open_file.specs.Fields.{has_broken, file_schema}
use Rattle.open_file.specs.declared.open_file.OpenFile.{OpenFile}
use Rattle.page_alloc.specs.Joining.{available_of, page_limit}
use Rattle.page_alloc.specs.Steps.{pages_state_of}
use Rattle.open_file.specs.Stands.{Stands, IsShaped, room_of}
use Rattle.open_file.specs.ReadOff.{file_off}
use Rattle.shelf_library.specs.declared.shelf_file.ShelfFile.{ShelfFile}

-- its indexes and its heap, and the pages that they are in
abbrev pub parts_of : ShelfFile → OpenFile
parts_of held = held.file

abbrev pub pages_behind : ShelfFile → PagedFile
pages_behind held = held.pages

-- its schema, and whether an earlier change failed
abbrev pub schema_behind : ShelfFile → Schema
schema_behind held = file_schema held.file

abbrev pub is_broken_file : ShelfFile → Bool
is_broken_file held = has_broken held.file

-- the same file, with no page asked for yet
abbrev pub recounted : ShelfFile → ShelfFile
recounted held = record held { pages = asked_anew held.pages }

-- its pages in use
abbrev pub live_of : ShelfFile → ShelfState → PageMap
live_of held shelf = (pages_state_of held.pages shelf).live

-- the file that they read as, whether or not they stand for one
abbrev pub file_read_off : ShelfFile → ShelfState → File
file_read_off held shelf = file_off held.file (live_of held shelf)

-- calls may be made, whatever its pages hold
pub record IsReady (held : ShelfFile) (shelf : ShelfState) : Type 0 where
  pub over : IsOpenOver held.pages shelf
  pub shaped : IsShaped held.file

-- its pages stand for this file
pub record StandsFor (held : ShelfFile) (shelf : ShelfState) (file : File) : Type 0 where
  pub stands : Stands held.file (live_of held shelf) file
  pub sound : IsTrue (pages_state_of held.pages shelf).is_sound

-- the pages that it needs and has
abbrev pub room_in : ShelfFile → Room
room_in held = room_of held.file (available_of (counts_of held.pages))

-- the limit of its pages, and the most of them that are held in memory
pub record HasLimits (most frames : ℕ) (held : ShelfFile) : Type 0 where
  pub limit : page_limit (counts_of held.pages) ≡ most
  pub cap : most_held held.pages ≡ frames
