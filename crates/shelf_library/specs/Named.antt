-- What a look finds of the bytes of a file, and what they read as.
use Rattle.std.specs.Prelude.{ℕ, ◌*◌, List, length, nat_lt, Option, None, Some, if◌then◌else◌}
use Rattle.indexed_file.specs.World.{Named, Absent, Closed, Unsound}
use Rattle.page_store.specs.DeviceFile.{page_of_bytes}
use Rattle.open_file.specs.declared.first_page.Header.{Header}
use Rattle.open_file.specs.FirstPageReading.{header_in}
use Rattle.shelf_library.specs.ClosedFile.{live_in}
use Rattle.shelf_library.specs.ReadOff.{file_by}
use Rattle.shelf_library.specs.declared.look.HeaderLook.{HeaderLook}
use Rattle.shelf_library.specs.declared.look.HeaderLook.TheVariants.{NoFile, Refused, Accepted}

-- what a look finds, by what a read gives: a file whose first page is accepted, and that has the
-- pages which that page counts
abbrev pub look_by : List ℕ → Option Header → HeaderLook
look_by bytes None = Refused
look_by bytes (Some header) = if nat_lt (length bytes) (4096 * header.pages) then Refused else Accepted header

abbrev pub look_of : Option (List ℕ) → HeaderLook
look_of None = NoFile
look_of (Some bytes) = if nat_lt (length bytes) 4096 then Refused else look_by bytes
    (header_in (page_of_bytes bytes 0))

-- what a name stands for, by what a look finds
abbrev pub named_by : List ℕ → HeaderLook → Named
named_by bytes NoFile = Absent
named_by bytes Refused = Unsound
named_by bytes (Accepted header) = Closed header.schema (file_by header (live_in header bytes))

abbrev pub named_of : Option (List ℕ) → Named
named_of None = Absent
named_of (Some bytes) = named_by bytes (look_of (Some bytes))
