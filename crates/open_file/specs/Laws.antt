-- Laws of an open file that stands for a list of records.
use Rattle.std.specs.Prelude.{◌≡◌, ℕ, length}
use Rattle.indexed_file.specs.File.{File}
use Rattle.indexed_file.specs.Room.{IsFilled}
use Rattle.pages.specs.PageMap.{PageMap}
use Rattle.bplus_tree.specs.Fields.{tree_count}
use Rattle.open_file.specs.Stands.{Stands, IsShaped, room_of}
use Rattle.open_file.specs.ReadOff.{file_off}
use Rattle.open_file.specs.declared.open_file.OpenFile.{OpenFile}

-- what is read off the pages is the file
abbrev pub reads_as_its_file : Type 0
reads_as_its_file = (opened : OpenFile) (pages : PageMap) (file : File) → Stands opened pages file
    → file_off opened pages ≡ file

-- each key has its tree, and a tree of two levels or more has its least number of entries
abbrev pub is_filled : Type 0
is_filled = (opened : OpenFile) (pages : PageMap) (file : File) (available : ℕ) → IsShaped opened
    → Stands opened pages file
    → IsFilled (room_of opened available) opened.schema file

-- the prime index has an entry for each row
abbrev pub counts_its_rows : Type 0
counts_its_rows = (opened : OpenFile) (pages : PageMap) (file : File) → Stands opened pages file
    → tree_count opened.prime.tree ≡ length file.rows
