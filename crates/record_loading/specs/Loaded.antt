-- What a load over the files of a shelf leaves. All of this is ours.
use Rattle.std.specs.Prelude.{◌≡◌, ℕ, Bool, List, [], Option, None, is_some, bytes_eq, true, false, replicate}
use Rattle.std.specs.Prelude.{IsTrue, IfOk, OnErr, Result, Ok, Err, ⊤}
use Rattle.io_state.specs.declared.fault.Fault.{Fault}
use Rattle.io_state.specs.declared.fault.Fault.TheVariants.{Device, Memory as NoMemory, Full, Damage, Broken}
use Rattle.io_state.specs.declared.modes.Access.TheVariants.{Dynamic}
use Rattle.io_state.specs.declared.status.Status.{Status}
use Rattle.io_state.specs.declared.status.Status.TheVariants.{AttributeConflict}
use Rattle.record_layout.specs.Schema.{Schema, same_schema}
use Rattle.indexed_file.specs.World.{Named, Absent, Closed, Unsound, named_in}
use Rattle.page_store.specs.ShelfState.{ShelfState}
use Rattle.verbs.specs.Connector.{FileState, closed_connector}
use Rattle.shelf_run.specs.Soundness.{files_of, AllSound, AreSoundThroughout}
use Rattle.shelf_run.specs.Files.{reads_of, Represents}
use Rattle.shelf_run.specs.ShelfRun.{LeavesFiles, StaysSound}
use Rattle.record_loading.specs.Loading.{Listing, Loads, AskedLoad, asked_lines, mode_of}
use Rattle.record_loading.specs.declared.rejected.RejectedLine.{RejectedLine}
use Rattle.record_loading.specs.Told.{ToldLine, TellsRejected}
use Rattle.record_loading.specs.declared.end.Load.{Load}
use Rattle.record_loading.specs.declared.end.Load.TheVariants.{New, Into}
use Rattle.record_loading.specs.declared.end.LoadEnd.{LoadEnd}
use Rattle.record_loading.specs.declared.end.LoadEnd.TheVariants.{NotOpened, Opened}
use Rattle.record_loading.specs.declared.end.LoadFault.{LoadFault}
use Rattle.record_loading.specs.declared.shelf_end.ShelfEnd.{ShelfEnd}
use Rattle.record_loading.specs.declared.shelf_end.ShelfEnd.TheVariants.{IsThere, Loaded}
use Rattle.record_loading.specs.declared.shelf_end.ShelfFault.{ShelfFault}
use Rattle.record_loading.specs.declared.shelf_end.ShelfFault.TheVariants.{Input, Memory}

-- of an honest shelf it is told whether it showed a file of this name
abbrev pub TellsIfThere : (before after : ShelfState) → List ℕ → Bool → Type 0
TellsIfThere before after name there =
    IsTrue after.is_honest → there ≡ is_some (before.file name).seen

-- what became of a load over a library
abbrev pub load_end_of : Result LoadEnd LoadFault → Result ShelfEnd ShelfFault
load_end_of (Ok end) = Ok (Loaded end)
load_end_of (Err fault) = Err Memory

-- what a fault of the shelf makes of a load
abbrev pub fault_by : Fault → ShelfFault
fault_by Device = Input
fault_by NoMemory = Memory
fault_by Full = Input
fault_by Damage = Input
fault_by Broken = Input

-- a file before a load whose name stands for this: its connector is closed, in dynamic access, and
-- its record area all spaces
abbrev pub file_at_first : Named → Schema → FileState
file_at_first named schema = record {
  connector = closed_connector Dynamic false schema;
  named = named;
  file = None;
  area = replicate schema.greatest 32;
}

-- records were loaded into the file that is there only where that is one of the same schema
abbrev pub HasSameSchema : Schema → Load → Named → LoadEnd → Type 0
HasSameSchema schema load named (NotOpened status) = ⊤
HasSameSchema schema New named (Opened lines closed) = ⊤
HasSameSchema schema Into (Closed other file) (Opened lines closed) = IsTrue (same_schema other schema)
HasSameSchema schema Into Unsound (Opened lines closed) = ⊥
HasSameSchema schema Into Absent (Opened lines closed) = ⊥

-- OPEN, the WRITEs and CLOSE of a load of the lines of a text, where the name stood for this, leave
-- what a read then gives
pub record LeavesFile (schema : Schema) (load : Load) (list : Listing) (named : Named) (end : LoadEnd)
    (seen : Option (List ℕ)) : Type 0 where
  pub after : FileState
  pub loads : Loads schema (mode_of load) list (file_at_first named schema) end after
  pub of_schema : HasSameSchema schema load named end
  pub represents : Represents seen after.named

-- so it leaves the file of a name, whatever that represented, over a shelf that has not lied by then
abbrev pub LeavesLoaded : (name : List ℕ) → Schema → Load → (list : Listing) → (old : ShelfState) → LoadEnd
    → (new : ShelfState) → Type 0
LeavesLoaded name schema load list old end new =
    IsTrue new.is_honest → (named : Named) → Represents (reads_of old name) named
    → LeavesFile schema load list named end (reads_of new name)

-- a load that looked for no file before
abbrev pub EndsAnyhow : (name : List ℕ) → Schema → Load → (list : Listing) → (old : ShelfState) → ShelfEnd
    → (new : ShelfState) → Type 0
EndsAnyhow name schema load list old IsThere new = ⊥
EndsAnyhow name schema load list old (Loaded end) new = LeavesLoaded name schema load list old end new

-- a load into a new file: the name had none
pub record LoadsAnew (name : List ℕ) (schema : Schema) (list : Listing) (old : ShelfState) (end : LoadEnd)
    (new : ShelfState) : Type 0 where
  pub absent : reads_of old name ≡ None
  pub leaves : LeavesFile schema New list Absent end (reads_of new name)

-- a new file was not made, since the name has a file: each file is as it was
pub record IsLeftThere (name : List ℕ) (old new : ShelfState) : Type 0 where
  pub there : IsTrue new.is_honest → IsTrue (is_some (reads_of old name))
  pub same : new.file ≡ old.file

-- how a load ends
abbrev pub EndsLoad : (name : List ℕ) → Schema → Load → (list : Listing) → (old : ShelfState) → ShelfEnd
    → (new : ShelfState) → Type 0
EndsLoad name schema New list old IsThere new = (list.told ≡ []) × IsLeftThere name old new
EndsLoad name schema New list old (Loaded end) new = IsTrue new.is_honest
    → LoadsAnew name schema list old end new
EndsLoad name schema Into list old end new = EndsAnyhow name schema Into list old end new

-- a load ended so, of the lines that were told as it went on
abbrev pub TellsLoadEnd : {R : Type 0} → (Tells : R → R → RejectedLine → List ℕ → Type 0) → (log log_after : R)
    → (List ToldLine → ShelfState → ShelfEnd → ShelfState → Type 0) → ShelfState → ShelfEnd → ShelfState
    → Type 0
TellsLoadEnd Tells log log_after EndsSo old end new =
    TellsRejected Tells log log_after (λ told. EndsSo told old end new)

-- every other name stands for what it stood for
abbrev pub KeepsOtherNames : (name : List ℕ) → (old new : ShelfState) → Type 0
KeepsOtherNames name old new = (other : List ℕ) → bytes_eq name other ≡ false
    → named_in (files_of new) other ≡ named_in (files_of old) other

-- honesty may only fall; what is sound stays so; and where whatever a crash might leave of the file
-- was sound at first, what it may leave of any file is so at each moment, if it was so at first
pub record IsSafeLoad (name : List ℕ) (old new : ShelfState) : Type 0 where
  pub honest : IsTrue new.is_honest → IsTrue old.is_honest
  pub sound : StaysSound old new
  pub no_false_file : IsTrue new.is_honest → AllSound (old.file name) → AreSoundThroughout old new

-- a load into the file of a name: it ended so, or nothing was changed; and what it keeps either way
pub record LoadsInto (name : List ℕ) (EndsSo : ShelfState → ShelfEnd → ShelfState → Type 0)
    (old new : ShelfState) (result : Result ShelfEnd ShelfFault) : Type 0 where
  pub ends : IfOk result (λ end. EndsSo old end new)
  pub nothing : OnErr result (LeavesFiles old new)
  pub others : KeepsOtherNames name old new
  pub safe : IsSafeLoad name old new

-- a load into the file of a name, over a shelf that shows this state and is given back: it ended as a load does,
-- and a log was told of the lines that were rejected; or nothing was changed
abbrev pub LoadsTold : {R H : Type 0} → (Tells : R → R → RejectedLine → List ℕ → Type 0) → (log log_after : R)
    → AskedLoad → (state : H → ShelfState) → (shelf : H) → (H × Result ShelfEnd ShelfFault) → Type 0
LoadsTold Tells log log_after asked state shelf given = LoadsInto asked.name
    (TellsLoadEnd Tells log log_after (λ told. EndsLoad asked.name asked.schema asked.load (asked_lines asked told)))
    (state shelf) (state given.0) given.1

-- so of one that looked for no file before
abbrev pub LoadsAnyhow : {R H : Type 0} → (Tells : R → R → RejectedLine → List ℕ → Type 0) → (log log_after : R)
    → AskedLoad → (state : H → ShelfState) → (shelf : H) → (H × Result ShelfEnd ShelfFault) → Type 0
LoadsAnyhow Tells log log_after asked state shelf given = LoadsInto asked.name
    (TellsLoadEnd Tells log log_after (λ told. EndsAnyhow asked.name asked.schema asked.load (asked_lines asked told)))
    (state shelf) (state given.0) given.1

-- 39
abbrev pub is_conflict : Status → Bool
is_conflict AttributeConflict = true
is_conflict status = false

-- whether the schema of the file is held against that of the load behind it: where OPEN found it to be
-- another, and where a new file was wanted and the name has one
abbrev pub is_compared : ShelfEnd → Bool
is_compared IsThere = true
is_compared (Loaded (NotOpened status)) = is_conflict status
is_compared (Loaded (Opened lines closed)) = false
