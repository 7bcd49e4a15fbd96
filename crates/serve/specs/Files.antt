-- The files of a session, by their numbers. All of this is ours.
use Rattle.std.specs.Prelude.{◌≡◌, ◌≢◌, ◌<◌, ◌≤◌, ℕ, ◌&&◌, Bool, true, false, not, All, List, [], ◌∷◌, ◌++◌}
use Rattle.std.specs.Prelude.{length, replicate, slice_index_or, slice_set, nat_lt, eqb, bytes_eq, Option}
use Rattle.std.specs.Prelude.{Some, None, is_none, is_some, if◌then◌else◌}
use Rattle.std.specs.List.{list_any, filter, IsDistinct}
use Rattle.indexed_file.specs.Shown.{Shown}
use Rattle.record_layout.specs.Schema.{Schema}
use Rattle.verbs.specs.Fits.{Fits}
use Rattle.verbs.specs.Held.{Held}
use Rattle.verbs.specs.Performed.{FileInMemory, in_memory}
use Rattle.indexed_file.specs.World.{World, holding_at, name_at, is_open}

-- the numbers of files are less
abbrev pub number_limit : ℕ
number_limit = 64

-- a described file: its name, the unit of the session's library that it is, its connector, and its
-- record area
pub record NumberedFile : Type 0 where
  pub name : List ℕ
  pub unit : ℕ
  pub held : Held
  pub area : List ℕ

-- the file of each number, if it is not free; and the numbers of the open files, the one that was
-- opened first at the front
pub record FileTable : Type 0 where
  pub places : List (Option NumberedFile)
  pub opened : List ℕ

abbrev pub no_numbered_files : FileTable
no_numbered_files = record { places = replicate number_limit None; opened = [] }

-- the files of a session: the library whose units they are, and the described ones by their numbers
pub record Files (S : Type 0) : Type 0 where
  pub library : S
  pub table : FileTable

-- a session over this library in which no file is described
abbrev pub files_at_start : {S : Type 0} → S → Files S
files_at_start library = record { library = library; table = no_numbered_files }

-- a described file, with the library
abbrev pub memory_of : {S : Type 0} → S → NumberedFile → FileInMemory S
memory_of library file = in_memory file.held library file.area

-- the file of a number
abbrev pub file_of_number : FileTable → ℕ → Option NumberedFile
file_of_number files number = slice_index_or files.places number None

-- the files with another one of this number
abbrev pub with_file : FileTable → ℕ → Option NumberedFile → FileTable
with_file files number file = record files { places = slice_set files.places number file }

abbrev pub schema_of_file : NumberedFile → Schema
schema_of_file file = file.held.connector.schema

abbrev pub is_open_file : NumberedFile → Bool
is_open_file file = is_some file.held.connector.session

abbrev pub is_open_in : Option NumberedFile → Bool
is_open_in None = false
is_open_in (Some file) = is_open_file file

-- a number of a session that is of no file
abbrev pub is_free_number : FileTable → ℕ → Bool
is_free_number files number = nat_lt number number_limit && is_none (file_of_number files number)

abbrev pub has_file_name : List ℕ → Option NumberedFile → Bool
has_file_name name None = false
has_file_name name (Some file) = bytes_eq name file.name

-- a file of the session has the name
abbrev pub is_named_file : FileTable → List ℕ → Bool
is_named_file files name = list_any (has_file_name name) files.places

-- ---- the order of opening

-- the numbers without this one
abbrev pub without : ℕ → List ℕ → List ℕ
without number opened = filter (λ other. not (eqb number other)) opened

-- a file that is open keeps its place, or takes one at the end; one that is not open has none
abbrev pub order_after : ℕ → Bool → List ℕ → List ℕ
order_after number false opened = without number opened
order_after number true opened = if list_any (eqb number) opened then opened else opened ++ number ∷ []

-- each number once, and numbers of files alone
pub record IsOrder (opened : List ℕ) : Type 0 where
  pub distinct : IsDistinct eqb opened
  pub below : All (λ number. number < number_limit) opened

-- ---- what a session keeps

-- there are 64 places; no two files have one name; and the open files are those in the order of
-- opening, each once
pub record AreNumberedFiles (files : FileTable) : Type 0 where
  pub places : length files.places ≡ number_limit
  pub names : (m n : ℕ) → (a b : NumberedFile) → file_of_number files m ≡ Some a → file_of_number files n ≡ Some b
      → a.name ≡ b.name → m ≡ n
  pub opened : (number : ℕ) → list_any (eqb number) files.opened ≡ is_open_in (file_of_number files number)
  pub order : IsOrder files.opened

-- a described file is a unit of this world: its connector goes with the unit, which has its name
pub record IsUnitOf (world : World) (file : NumberedFile) : Type 0 where
  pub fits : Fits file.held world file.unit
  pub name : name_at world file.unit ≡ file.name

-- the file of a place, if there is one, goes with its unit
abbrev pub PlaceFits : World → Option NumberedFile → Type 0
PlaceFits world None = Unit {0}
PlaceFits world (Some file) = Fits file.held world file.unit

-- no described file is unit u
abbrev pub IsVacant : FileTable → ℕ → Type 0
IsVacant files u = (number : ℕ) → (file : NumberedFile) → file_of_number files number ≡ Some file
    → file.unit ≢ u

-- the described files are units of the library, and a unit that none of them is, is not open
pub record AreSessionFiles {S : Type 0} (shown : Shown S) (files : Files S) : Type 0 where
  pub table : AreNumberedFiles files.table
  pub units : (number : ℕ) → (file : NumberedFile) → file_of_number files.table number ≡ Some file
      → IsUnitOf (shown.world files.library) file
  pub vacant : (u : ℕ) → IsVacant files.table u
      → is_open (holding_at (shown.world files.library) u) ≡ false
