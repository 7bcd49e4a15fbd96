-- What the names of a library stand for, and what its units hold: all of it is read off the files,
-- and off the pages of the open ones.
use Rattle.std.specs.Prelude.{ℕ, List, [], ◌∷◌, Option, None, Some, bytes_eq, if◌then◌else◌}
use Rattle.std.specs.List.{list_any}
use Rattle.indexed_file.specs.Room.{Room, PageCounts, Endless}
use Rattle.indexed_file.specs.World.{World, FileUnit, Named, Absent, Holding, Shut, Looked as HasLooked}
use Rattle.indexed_file.specs.World.{Opened as HasOpened, Broken}
use Rattle.page_store.specs.ShelfState.{ShelfState}
use Rattle.page_alloc.specs.declared.pager.Pager.{Pager}
use Rattle.page_alloc.specs.PagedFile.{counts_of, most_held, times_asked}
use Rattle.page_alloc.specs.Joining.{pages_counted, pages_free}
use Rattle.shelf_library.specs.declared.look.HeaderLook.{HeaderLook}
use Rattle.shelf_library.specs.declared.look.HeaderLook.TheVariants.{NoFile, Refused, Accepted}
use Rattle.shelf_library.specs.Named.{look_of, named_of}
use Rattle.shelf_library.specs.Standing.{file_read_off, room_in, is_broken_file, pages_behind, schema_behind}
use Rattle.shelf_library.specs.declared.held.Held.{Held}
use Rattle.shelf_library.specs.declared.held.Held.TheVariants.{Nothing, Looked, Opened}

abbrev pub holding_of : ShelfState → Held → Holding
holding_of shelf Nothing = Shut
holding_of shelf (Looked header) = HasLooked header.schema
holding_of shelf (Opened file) = if is_broken_file file then Broken (schema_behind file) else HasOpened
    (schema_behind file) (file_read_off file shelf)

abbrev pub unit_of : ShelfState → List ℕ → Held → FileUnit
unit_of shelf name one = record {
  name = name;
  named = named_of (shelf.file name).seen;
  holding = holding_of shelf one;
}

abbrev pub units_of : ShelfState → List (List ℕ) → List Held → List FileUnit
units_of shelf [] held = []
units_of shelf (name ∷ names) [] = []
units_of shelf (name ∷ names) (one ∷ held) = unit_of shelf name one ∷ units_of shelf names held

-- what the other names stand for. A name that a unit has is none of them
abbrev pub elsewhere_of : ShelfState → List ℕ → Named
elsewhere_of shelf name = if list_any (λ other. bytes_eq other name) shelf.names then Absent else named_of
    (shelf.file name).seen

abbrev pub world_of : ShelfState → List Held → World
world_of shelf held = record { units = units_of shelf shelf.names held; elsewhere = elsewhere_of shelf }

-- the pages that an open file needs and has, and those that it asked for
abbrev pub room_of_held : Held → Room
room_of_held Nothing = Endless
room_of_held (Looked header) = Endless
room_of_held (Opened file) = room_in file

abbrev pub pages_asked_of : Held → ℕ
pages_asked_of Nothing = 0
pages_asked_of (Looked header) = 0
pages_asked_of (Opened file) = times_asked (pages_behind file)

-- the pages of an open file are those that its pager counts; of another one, those that its header
-- counts, where a look accepts it
abbrev pub counts_of_pager : Pager → PageCounts
counts_of_pager pager = record { count = pages_counted pager; free = pages_free pager }

abbrev pub counts_by : HeaderLook → PageCounts
counts_by NoFile = record { count = 0; free = 0 }
counts_by Refused = record { count = 0; free = 0 }
counts_by (Accepted header) = record { count = header.pages; free = header.free }

abbrev pub counts_of_held : Option (List ℕ) → Held → PageCounts
counts_of_held seen Nothing = counts_by (look_of seen)
counts_of_held seen (Looked header) = counts_by (look_of seen)
counts_of_held seen (Opened file) = counts_of_pager (counts_of (pages_behind file))

-- the most pages of an open file that are held in memory
abbrev pub frames_of_held : Held → Option ℕ
frames_of_held Nothing = None
frames_of_held (Looked header) = None
frames_of_held (Opened file) = Some (most_held (pages_behind file))
