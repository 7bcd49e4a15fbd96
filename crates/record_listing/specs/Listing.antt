-- What a list promises.
use Rattle.std.specs.Prelude.{◌≡◌, ◌<◌, ◌≤◌, ◌⊎◌, ℕ, List, ◌++◌, length, Option, Result, Ok, Err, IsTrue}
use Rattle.std.specs.Prelude.{IsFalse}
use Rattle.std.specs.Io.KnownBytes.{Appends}
use Rattle.io_state.specs.declared.fault.Fault.{Fault}
use Rattle.io_state.specs.declared.fault.Fault.TheVariants.{Device, Memory as NoMemory, Full, Damage, Broken}
use Rattle.record_layout.specs.Schema.{Schema}
use Rattle.indexed_file.specs.File.{Row, File}
use Rattle.indexed_file.specs.World.{World, Named, Absent as NoFile, Closed, Unsound as Refused, OnlyAt}
use Rattle.indexed_file.specs.World.{name_at, named_at, named_in, holding_at, schema_at, file_at, is_open}
use Rattle.indexed_file.specs.Calls.{Keeps, HasRisen}
use Rattle.indexed_file.specs.Shown.{Shown}
use Rattle.indexed_file.specs.Believed.{Believed}
use Rattle.record_listing.specs.declared.asked.Asked.{Asked}
use Rattle.record_listing.specs.declared.end.ListEnd.{ListEnd}
use Rattle.record_listing.specs.declared.end.ListEnd.TheVariants.{Listed, Absent, Unsound, NoKey, Damaged}
use Rattle.record_listing.specs.declared.end.ListFault.{ListFault}
use Rattle.record_listing.specs.declared.end.ListFault.TheVariants.{Input, Output, Memory}
use Rattle.record_listing.specs.declared.rows.RowsFault.{RowsFault}
use Rattle.record_listing.specs.declared.rows.RowsFault.TheVariants.{Library as GaveUp, Output as NotTaken}
use Rattle.record_listing.specs.Listed.{AreListed}
use Rattle.record_text.specs.declared.form.Form.{Form}
use Rattle.record_listing.specs.Lines.{list_of}

-- what a fault of the library makes of a list
abbrev pub end_by : Fault → Result ListEnd ListFault
end_by Device = Err Input
end_by NoMemory = Err Memory
end_by Full = Err Input
end_by Damage = Ok Damaged
end_by Broken = Err Input

-- what becomes of a list whose lines were written or not, and whose file was closed or not
abbrev pub list_end_of : Result Unit RowsFault → Result Unit Fault → Result ListEnd ListFault
list_end_of (Ok _) (Ok _) = Ok Listed
list_end_of (Ok _) (Err fault) = end_by fault
list_end_of (Err (GaveUp fault)) shut = end_by fault
list_end_of (Err NotTaken) shut = Err Output

-- the list of the rows of a file that are asked for was written
pub record WritesLines (form : Form) (schema : Schema) (file : File) (asked : Asked)
    (before behind : Option (List ℕ)) : Type 0 where
  pub key : asked.key < length schema.keys
  pub rows : List Row
  pub listed : AreListed schema file asked rows
  pub written : Appends before behind (list_of form rows)

-- a front of it was written, which may be empty
pub record WritesFront (form : Form) (schema : Schema) (file : File) (asked : Asked)
    (before behind : Option (List ℕ)) : Type 0 where
  pub rows : List Row
  pub listed : AreListed schema file asked rows
  pub front : List ℕ
  pub rest : List ℕ
  pub text : list_of form rows ≡ front ++ rest
  pub written : Appends before behind front

-- a list of what a name stands for ends so: its list was written; or nothing was, since there is no
-- file, it is refused, or it does not have the key
abbrev pub EndsListWith : Form → Asked → Named → (before behind : Option (List ℕ)) → ListEnd → Type 0
EndsListWith form asked (Closed schema file) before behind Listed =
    WritesLines form schema file asked before behind
EndsListWith form asked (Closed schema file) before behind NoKey =
    (length schema.keys ≤ asked.key) × (behind ≡ before)
EndsListWith form asked NoFile before behind Absent = behind ≡ before
EndsListWith form asked Refused before behind Unsound = behind ≡ before
EndsListWith form asked named before behind end = ⊥

-- a list of what a name stands for ends before its end: nothing was written, or a front of the list
-- of the file
abbrev pub ListBreaksOff : Form → Asked → Named → (before behind : Option (List ℕ)) → Type 0
ListBreaksOff form asked NoFile before behind = behind ≡ before
ListBreaksOff form asked Refused before behind = behind ≡ before
ListBreaksOff form asked (Closed schema file) before behind =
    (behind ≡ before) ⊎ WritesFront form schema file asked before behind

abbrev pub EndsList : Form → Asked → Named → (before behind : Option (List ℕ)) → Result ListEnd ListFault
    → Type 0
EndsList form asked named before behind (Ok end) = EndsListWith form asked named before behind end
EndsList form asked named before behind (Err fault) = ListBreaksOff form asked named before behind

-- why a list ends so: the device failed where the file could not be read; and a page is not what
-- its place requires only where the library lies
abbrev pub TellsWhy : {S : Type 0} → Shown S → List ℕ → (old new : S) → Result ListEnd ListFault → Type 0
TellsWhy shown name old new (Err Input) = HasRisen (shown.fault_count old) (shown.fault_count new)
TellsWhy shown name old new (Err Output) = Unit {0}
TellsWhy shown name old new (Err Memory) = Unit {0}
TellsWhy shown name old new (Ok Damaged) = IsTrue (shown.is_honest new) → shown.IsShownTruly old name → ⊥
TellsWhy shown name old new (Ok end) = Unit {0}

-- unit 0 is closed, and its name stands for what it stood for where the library is honest, what it
-- showed was true, and a premise holds; why the list ended so
pub record LeavesListed {S : Type 0} (shown : Shown S) (Premise : Type 0) (old new : S)
    (result : Result ListEnd ListFault) : Type 0 where
  pub cause : TellsWhy shown (name_at (shown.world old) 0) old new result
  pub only : OnlyAt 0 (shown.world old) (shown.world new)
  pub named : IsTrue (shown.is_honest new) → shown.IsShownTruly old (name_at (shown.world old) 0) → Premise
      → named_at (shown.world new) 0 ≡ named_at (shown.world old) 0
  pub closed : IsFalse (is_open (holding_at (shown.world new) 0))
  pub keeps : Keeps shown old new

-- what the name of unit 0 stands for once its open file is closed
abbrev pub file_when_closed : {S : Type 0} → Shown S → S → Named
file_when_closed shown library = Closed (schema_at (shown.world library) 0) (file_at (shown.world library) 0)

-- a list of unit 0 ends so, where its name stands for a file of this schema
abbrev pub EndsWhereSound : {S : Type 0} → Shown S → S → Form → Asked → Schema
    → (before behind : Option (List ℕ)) → Result ListEnd ListFault → Type 0
EndsWhereSound shown library form asked schema before behind result =
    (file : File) → named_at (shown.world library) 0 ≡ Closed schema file
    → EndsList form asked (Closed schema file) before behind result

-- the name of unit 0 stands for a file of this schema
abbrev pub HasFileOf : {S : Type 0} → Shown S → S → Schema → Type 0
HasFileOf shown library schema = (file : File) × (named_at (shown.world library) 0 ≡ Closed schema file)

-- a list of the open file of unit 0, between two states of the library, ends so
abbrev pub EndsOpen : {S : Type 0} → Shown S → (old new : S) → Form → Asked
    → (before behind : Option (List ℕ)) → Result ListEnd ListFault → Type 0
EndsOpen shown old new form asked before behind result =
    Believed shown 0 old new (EndsList form asked (file_when_closed shown old) before behind result)

-- a list of unit 0, where its name stands for a file of this schema
abbrev pub EndsSound : {S : Type 0} → Shown S → (old new : S) → Form → Asked → Schema
    → (before behind : Option (List ℕ)) → Result ListEnd ListFault → Type 0
EndsSound shown old new form asked schema before behind result =
    Believed shown 0 old new (EndsWhereSound shown old form asked schema before behind result)

-- a list of what the name of unit 0 stands for
abbrev pub EndsAttached : {S : Type 0} → Shown S → (old new : S) → Form → Asked
    → (before behind : Option (List ℕ)) → Result ListEnd ListFault → Type 0
EndsAttached shown old new form asked before behind result =
    Believed shown 0 old new (EndsList form asked (named_at (shown.world old) 0) before behind result)

-- unit 0 is attached, and not open
pub record HasShutUnit {S : Type 0} (shown : Shown S) (library : S) : Type 0 where
  pub attached : 0 < length (shown.world library).units
  pub closed : IsFalse (is_open (holding_at (shown.world library) 0))

-- it is so where the library is honest after a call, and what the name showed before it was true
abbrev pub TrueFor : {S : Type 0} → Shown S → (name : List ℕ) → (old new : S) → Type 0 → Type 0
TrueFor shown name old new fact = IsTrue (shown.is_honest new) → shown.IsShownTruly old name → fact

-- the same of what the name stood for
abbrev pub TrueOf : {S : Type 0} → Shown S → (name : List ℕ) → (old new : S) → (Named → Type 0) → Type 0
TrueOf shown name old new fact = TrueFor shown name old new (fact (named_in (shown.world old) name))

-- a list of what a name stands for
abbrev pub EndsNamed : {S : Type 0} → Shown S → (name : List ℕ) → (old new : S) → Form → Asked
    → (before behind : Option (List ℕ)) → Result ListEnd ListFault → Type 0
EndsNamed shown name old new form asked before behind result =
    TrueOf shown name old new (λ named. EndsList form asked named before behind result)

-- each name stands for what it stood for
abbrev pub NamesStay : (old new : World) → Type 0
NamesStay old new = (name : List ℕ) → named_in new name ≡ named_in old name
