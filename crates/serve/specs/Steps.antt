-- What each call on a session changes. All of this is ours.
use Rattle.std.specs.Prelude.{◌≡◌, ◌≢◌, ◌⊎◌, ◌<◌, ◌≤◌, ℕ, Bool, true, false, not, List, [], ◌∷◌, ◌++◌, length}
use Rattle.std.specs.Prelude.{drop, replicate, nat_lt, Option, Some, None, unwrap_or, IsTrue, IsFalse, Result}
use Rattle.std.specs.Prelude.{Ok, Err, IfOk, OnOk, OnErr, if◌then◌else◌}
use Rattle.io_state.specs.declared.statement.FileStatement.{FileStatement}
use Rattle.io_state.specs.declared.statement.FileStatement.TheVariants.{Open, Close, ReadNext, Read, Start}
use Rattle.io_state.specs.declared.statement.FileStatement.TheVariants.{Write, Rewrite, Delete}
use Rattle.io_state.specs.declared.status.Status.{Status}
use Rattle.record_layout.specs.Schema.{Schema, IsSchema, schema_of_fields}
use Rattle.indexed_file.specs.Shown.{Shown}
use Rattle.indexed_file.specs.World.{World, name_at, holding_at, is_open}
use Rattle.indexed_file.specs.Images.{AllStay}
use Rattle.indexed_file.specs.Calls.{Keeps}
use Rattle.indexed_file.specs.Growing.{IsNewName, AddsUnit, KeepsOpen, LetsFileGo, LetsGoOnly}
use Rattle.verbs.specs.declared.answer.Answer.{Answer}
use Rattle.verbs.specs.Held.{held_at_start, record_delivered, silent}
use Rattle.verbs.specs.Performed.{FileInMemory, IsPerformed}
use Rattle.io_state.specs.FileName.{is_file_name}
use Rattle.serve.specs.Request.{Described, Performed}
use Rattle.serve.specs.declared.request_refusal.RequestRefusal.{RequestRefusal}
use Rattle.serve.specs.declared.request_refusal.RequestRefusal.TheVariants.{NoRequest, TooLong, Number, Description, Name}
use Rattle.serve.specs.declared.request_refusal.RequestRefusal.TheVariants.{Memory, Key}
use Rattle.serve.specs.declared.request_refusal.RequestRefusal.TheVariants.{Open as IsOpen}
use Rattle.serve.specs.Files.{NumberedFile, FileTable, Files, file_of_number, with_file}
use Rattle.serve.specs.Files.{schema_of_file, is_open_file, is_free_number, is_named_file, order_after}
use Rattle.serve.specs.Files.{memory_of}

-- why a call was refused, if it was
abbrev pub refusal_in : {X : Type 0} → Result X RequestRefusal → Option RequestRefusal
refusal_in (Ok x) = None
refusal_in (Err why) = Some why

-- ---- a file is described

abbrev pub schema_described : Described → Schema
schema_described d = schema_of_fields d.least d.greatest d.keys

-- a file can be so: its lengths and keys are those of a schema, and its name is that of a file
pub record CanBeFile (d : Described) : Type 0 where
  pub schema : IsSchema (schema_described d)
  pub name : IsTrue (is_file_name d.name)

-- the number is free, a file can be so, and no file of the session has the name
pub record CanBeDescribed (files : FileTable) (d : Described) : Type 0 where
  pub free : IsTrue (is_free_number files d.file)
  pub file : CanBeFile d
  pub name : IsFalse (is_named_file files d.name)

-- why a description is refused: the first that is amiss; but want of memory may refuse any
abbrev pub RefusesDescription : FileTable → Described → RequestRefusal → Type 0
RefusesDescription files d NoRequest = ⊥
RefusesDescription files d TooLong = ⊥
RefusesDescription files d Number = IsFalse (is_free_number files d.file)
RefusesDescription files d Description = IsTrue (is_free_number files d.file) × (CanBeFile d → ⊥)
RefusesDescription files d Name = IsTrue (is_free_number files d.file) × CanBeFile d
    × IsTrue (is_named_file files d.name)
RefusesDescription files d IsOpen = ⊥
RefusesDescription files d Memory = CanBeDescribed files d
RefusesDescription files d Key = ⊥

-- unit u is one of the library's, has the name, and is not open
pub record IsShutUnit (world : World) (u : ℕ) (name : List ℕ) : Type 0 where
  pub attached : u < length world.units
  pub name_is : name_at world u ≡ name
  pub shut : is_open (holding_at world u) ≡ false

-- unit u was added under this name, which no unit had, behind the others
pub record AddsLast {S : Type 0} (shown : Shown S) (keeps_open : S → ℕ → Bool) (name : List ℕ) (u : ℕ)
    (old new : S) : Type 0 where
  pub last : u ≡ length (shown.world old).units
  pub is_new : IsNewName (shown.world old) name
  pub adds : AddsUnit shown name old new (Ok tt)
  pub kept : KeepsOpen keeps_open old new

-- a library gives unit u to a file of this name: one that it has, and then nothing is changed; or
-- one that is added
pub record GivesUnit {S : Type 0} (shown : Shown S) (keeps_open : S → ℕ → Bool) (name : List ℕ) (u : ℕ)
    (old new : S) : Type 0 where
  pub unit : IsShutUnit (shown.world new) u name
  pub from : (new ≡ old) ⊎ AddsLast shown keeps_open name u old new

-- what a library shows stays, where a unit could not be added for want of memory
pub record LibraryStays {S : Type 0} (shown : Shown S) (old new : S) : Type 0 where
  pub world : shown.world new ≡ shown.world old
  pub images : AllStay shown.moments old new
  pub keeps : Keeps shown old new

-- nothing was changed where a description was refused, but that a library that lacked memory may
-- have sought it
pub record StaysRefused {S : Type 0} (shown : Shown S) (why : RequestRefusal) (old new : Files S) : Type 0 where
  pub table : new.table ≡ old.table
  pub library : LibraryStays shown old.library new.library
  pub same : why ≢ Memory → new ≡ old

-- the file of a description, which is unit u: its connector is closed, and its record area all spaces
abbrev pub file_described : Described → ℕ → NumberedFile
file_described d u = record {
  name = d.name;
  unit = u;
  held = held_at_start d.access d.optional (schema_described d);
  area = replicate d.greatest 32;
}

-- a file was described: its number has it, as a unit that the library has given
pub record Describes {S : Type 0} (shown : Shown S) (keeps_open : S → ℕ → Bool) (d : Described)
    (old new : Files S) : Type 0 where
  pub allowed : CanBeDescribed old.table d
  pub unit : ℕ
  pub gives : GivesUnit shown keeps_open d.name unit old.library new.library
  pub table : new.table ≡ with_file old.table d.file (Some (file_described d unit))

-- ---- a verb is performed

-- the key of a READ or START is one of the file
abbrev pub is_of_keys : Schema → FileStatement → Bool
is_of_keys schema (Open mode) = true
is_of_keys schema (Close lock) = true
is_of_keys schema ReadNext = true
is_of_keys schema (Read key) = nat_lt key (length schema.keys)
is_of_keys schema (Start key bytes relation) = nat_lt key (length schema.keys)
is_of_keys schema Write = true
is_of_keys schema Rewrite = true
is_of_keys schema Delete = true

-- why a verb is refused: there is no file, its key is none of the file, or the bytes are more than
-- the record area has
abbrev pub refusal_by : Option NumberedFile → Performed → Option RequestRefusal
refusal_by None p = Some Number
refusal_by (Some file) p =
    if not (is_of_keys (schema_of_file file) p.statement) then Some Key
    else if nat_lt (length file.area) (length p.bytes) then Some NoRequest
    else None

abbrev pub refusal_of_verb : FileTable → Performed → Option RequestRefusal
refusal_of_verb files p = refusal_by (file_of_number files p.file) p

-- these bytes are put into the beginning of the record area, and the rest stays
abbrev pub with_bytes : {S : Type 0} → List ℕ → FileInMemory S → FileInMemory S
with_bytes bytes file = record file { area = bytes ++ drop (length bytes) file.area }

-- a file of a library has performed the statement, with the bytes put into its area; it has its name
-- and its unit
pub record PerformsWith {S : Type 0} (shown : Shown S) (statement : FileStatement) (n : ℕ) (bytes : List ℕ)
    (library : S) (old : NumberedFile) (answer : Answer) (after : S) (new : NumberedFile) : Type 0 where
  pub performed : IsPerformed shown old.unit statement n (with_bytes bytes (memory_of library old)) answer
      (memory_of after new)
  pub name : new.name ≡ old.name
  pub unit : new.unit ≡ old.unit

-- the file of a place has performed the statement, with the bytes put into its area
pub record PerformsAt {S : Type 0} (shown : Shown S) (p : Performed) (library : S) (old : Option NumberedFile)
    (answer : Answer) (now : S) (new : Option NumberedFile) : Type 0 where
  pub before : NumberedFile
  pub after : NumberedFile
  pub was : old ≡ Some before
  pub is : new ≡ Some after
  pub does : PerformsWith shown p.statement p.length p.bytes library before answer now after

-- the file of the number has performed the statement, with the bytes put into its area. Every other
-- number has the file that it had
pub record PerformsRequest {S : Type 0} (shown : Shown S) (p : Performed) (old : Files S) (answer : Answer)
    (new : Files S) : Type 0 where
  pub before : NumberedFile
  pub after : NumberedFile
  pub file : file_of_number old.table p.file ≡ Some before
  pub does : PerformsWith shown p.statement p.length p.bytes old.library before answer new.library after
  pub places : new.table.places ≡ (with_file old.table p.file (Some after)).places
  pub opened : new.table.opened ≡ order_after p.file (is_open_file after) old.table.opened

-- a verb was performed, or refused, and then nothing was changed
pub record PerformsOrRefuses {S : Type 0} (shown : Shown S) (p : Performed) (old new : Files S)
    (result : Result Answer RequestRefusal) : Type 0 where
  pub performed : IfOk result (λ answer. PerformsRequest shown p old answer new)
  pub refused : refusal_in result ≡ refusal_of_verb old.table p
  pub err : OnErr result (new ≡ old)

-- these are the bytes of a record, and no more than a record can have
pub record ShowsRecord (bytes shown : List ℕ) : Type 0 where
  pub record_is : shown ≡ bytes
  pub short : length shown ≤ 4000

-- the record that an answer has delivered into the area of a file: no bytes where it delivered none
abbrev pub record_by : Option NumberedFile → Option ℕ → List ℕ
record_by None length = []
record_by (Some file) length = unwrap_or (record_delivered file.area length) []

-- ---- a file is given up

abbrev pub refusal_of_file : Option NumberedFile → Option RequestRefusal
refusal_of_file None = Some Number
refusal_of_file (Some file) = if is_open_file file then Some IsOpen else None

abbrev pub refusal_of_release : FileTable → ℕ → Option RequestRefusal
refusal_of_release files number = refusal_of_file (file_of_number files number)

-- the file of a place is not open, and is this unit
pub record IsClosedUnit (place : Option NumberedFile) (u : ℕ) : Type 0 where
  pub file : NumberedFile
  pub was : place ≡ Some file
  pub closed : is_open_file file ≡ false
  pub unit : u ≡ file.unit

-- the number of a file that was not open is free; the library has let the file go, and no other one
pub record Releases {S : Type 0} (shown : Shown S) (keeps_open : S → ℕ → Bool) (number : ℕ)
    (old new : Files S) : Type 0 where
  pub file : NumberedFile
  pub was : file_of_number old.table number ≡ Some file
  pub closed : is_open_file file ≡ false
  pub stays : LetsFileGo shown old.library new.library
  pub gone : LetsGoOnly keeps_open file.unit old.library new.library
  pub table : new.table ≡ with_file old.table number None

-- a file was given up, or that was refused, and then nothing was changed
pub record ReleasesOrRefuses {S : Type 0} (shown : Shown S) (keeps_open : S → ℕ → Bool) (number : ℕ)
    (old new : Files S) (result : Result (Unit {0}) RequestRefusal) : Type 0 where
  pub released : OnOk result (Releases shown keeps_open number old new)
  pub refused : refusal_in result ≡ refusal_of_release old.table number
  pub err : OnErr result (new ≡ old)

-- ---- the file that was opened first is closed

abbrev pub close_request : ℕ → Performed
close_request number = record { file = number; statement = Close false; length = 0; bytes = [] }

-- the file of a place has performed CLOSE
pub record ClosesPlace {S : Type 0} (shown : Shown S) (library : S) (old : Option NumberedFile)
    (status : Status) (now : S) (new : Option NumberedFile) : Type 0 where
  pub before : NumberedFile
  pub after : NumberedFile
  pub was : old ≡ Some before
  pub is : new ≡ Some after
  pub closed : is_open_file after ≡ false
  pub does : PerformsWith shown (Close false) 0 [] library before (silent status) now after

-- it has performed CLOSE, and the open files are the others, in their order
pub record ClosesFirst {S : Type 0} (shown : Shown S) (old : Files S) (status : Status)
    (new : Files S) : Type 0 where
  pub first : ℕ
  pub rest : List ℕ
  pub was : old.table.opened ≡ first ∷ rest
  pub closed : PerformsRequest shown (close_request first) old (silent status) new
  pub opened : new.table.opened ≡ rest
