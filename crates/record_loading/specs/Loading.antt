-- The records of a text, written into a file one after another. All of this is ours.
use Rattle.std.specs.Prelude.{◌≡◌, ◌⊎◌, ℕ, false, List, [], ◌++◌, length, replicate}
use Rattle.std.specs.Prelude.{None, IsTrue, bytes_eq, Result, IfOk}
use Rattle.io_state.specs.Status.{is_successful}
use Rattle.io_state.specs.declared.modes.Access.TheVariants.{Dynamic}
use Rattle.io_state.specs.declared.modes.OpenMode.{OpenMode}
use Rattle.io_state.specs.declared.modes.OpenMode.TheVariants.{Output, InputOutput}
use Rattle.io_state.specs.declared.status.Status.{Status}
use Rattle.io_state.specs.declared.statement.FileStatement.TheVariants.{Open, Close}
use Rattle.record_layout.specs.Schema.{Schema}
use Rattle.indexed_file.specs.World.{World, named_in}
use Rattle.indexed_file.specs.Shown.{Shown}
use Rattle.record_listing.specs.Listing.{TrueFor}
use Rattle.verbs.specs.Connector.{FileState, closed_connector, answers}
use Rattle.verbs.specs.Marred.{Step}
use Rattle.verbs.specs.Verbs.{perform}
use Rattle.record_text.specs.declared.form.Form.{Form}
use Rattle.record_text.specs.Lines.{form_header}
use Rattle.record_text.specs.Header.{LacksHeader}
use Rattle.record_text.specs.declared.mistake.LineMistake.{LineMistake}
use Rattle.record_text.specs.declared.mistake.LineMistake.TheVariants.{Names}
use Rattle.record_loading.specs.declared.end.Load.{Load}
use Rattle.record_loading.specs.declared.end.Load.TheVariants.{New, Into}
use Rattle.record_loading.specs.declared.end.LinesEnd.{LinesEnd}
use Rattle.record_loading.specs.declared.end.LinesEnd.TheVariants.{Loaded, Refused, NoRecord}
use Rattle.record_loading.specs.declared.end.LoadEnd.{LoadEnd}
use Rattle.record_loading.specs.declared.end.LoadEnd.TheVariants.{NotOpened, Opened}
use Rattle.record_loading.specs.declared.end.LoadFault.{LoadFault}
use Rattle.record_loading.specs.declared.options.LoadOptions.{LoadOptions}
use Rattle.record_loading.specs.declared.rejected.RejectReason.{RejectReason}
use Rattle.record_loading.specs.declared.rejected.RejectedLine.{RejectedLine}
use Rattle.record_loading.specs.declared.rejected.RejectReason.TheVariants.{Refused as Refuses, NoRecord as IsNoRecord}
use Rattle.record_loading.specs.Passing.{LoadSource, Place, PassesLines, IsEnd, behind_lines, lines_form}
use Rattle.record_loading.specs.Passing.{number_of_line}
use Rattle.record_loading.specs.Told.{ToldLine, TellsRejected}

-- what is loaded, and the lines that were told as rejected
pub record Listing : Type 0 where
  pub source : LoadSource
  pub told : List ToldLine

-- a text in a form, of which these lines are to be loaded
abbrev pub load_text : Form → List ℕ → LoadOptions → LoadSource
load_text form text options = record { form = form; text = text; options = options }

-- what a load is asked to do: to load these lines, into the file of a name and a schema
pub record AskedLoad : Type 0 where
  pub name : List ℕ
  pub schema : Schema
  pub load : Load
  pub source : LoadSource

-- so of a text in a form
abbrev pub asked_load : (name : List ℕ) → Schema → Load → Form → (text : List ℕ) → LoadOptions → AskedLoad
asked_load name schema load form text options =
    record { name = name; schema = schema; load = load; source = load_text form text options }

-- its lines, of which these were told as rejected
abbrev pub asked_lines : AskedLoad → (told : List ToldLine) → Listing
asked_lines asked told = record { source = asked.source; told = told }

-- so of such a text
abbrev pub listing_by : Form → List ℕ → LoadOptions → (told : List ToldLine) → Listing
listing_by form text options told = record { source = load_text form text options; told = told }

-- no line is skipped, the first that is rejected ends a load, no record is replaced, no value filled up,
-- nothing is held for entries, and nothing sorted
abbrev pub usual_options : LoadOptions
usual_options = record { skip = 0; keep_going = false; replace = false; pad = false; memory = 0; sort = false }

-- so of a text in a form: no line is passed over, and none is told
abbrev pub listing : Form → List ℕ → Listing
listing form text = listing_by form text usual_options []

-- how OPEN opens the file
abbrev pub mode_of : Load → OpenMode
mode_of New = Output
mode_of Into = InputOutput

-- the place behind the header and behind the lines that are skipped
abbrev pub place_at_first : LoadSource → (lines : List ℕ) → FileState → Place
place_at_first source lines file =
    record { rest = behind_lines source.options.skip lines; records = 0; replaced = 0; told = []; file = file }

-- the first lines of a text, behind what stands before them and behind those that are skipped, were passed
-- up to this place
pub record IsPassedUpTo (schema : Schema) (source : LoadSource) (before : FileState) (place : Place) : Type 0 where
  pub lines : List ℕ
  pub text_is : source.text ≡ form_header source.form ++ lines
  pub count : ℕ
  pub passed : PassesLines schema source count (place_at_first source lines before) place

-- the lines were all passed: so many records were written, so many replaced, and so many lines rejected,
-- which are those that were told
pub record ArePassed (schema : Schema) (list : Listing) (before : FileState) (records replaced rejected : ℕ)
    (after : FileState) : Type 0 where
  pub passed : IsPassedUpTo schema list.source before
      (record { rest = []; records = records; replaced = replaced; told = list.told; file = after })
  pub rejected_is : rejected ≡ length list.told

-- lines were passed, and the line of this number behind them ended that for this reason
pub record IsEndedAt (schema : Schema) (list : Listing) (before : FileState) (line : ℕ) (reason : RejectReason)
    (after : FileState) : Type 0 where
  pub place : Place
  pub passed : IsPassedUpTo schema list.source before place
  pub told : place.told ≡ list.told
  pub line_is : line ≡ number_of_line list.source place
  pub behind : List ℕ
  pub end : IsEnd schema (lines_form list.source) list.source.options reason
      (record { text = place.rest; behind = behind; before = place.file; after = after })

-- the text does not begin with what stands before its first line (for text that is nothing, and
-- each text begins with that), which is its mistake, and nothing was written and told
pub record IsHeadless (list : Listing) (line : ℕ) (mistake : LineMistake) (before after : FileState) : Type 0 where
  pub line_is : line ≡ 1
  pub mistake_is : mistake ≡ Names
  pub lacks : LacksHeader list.source.form list.source.text
  pub told : list.told ≡ []
  pub file : after ≡ before

-- what the lines of a text leave of an open file: line 1 is the first of the text, which in CSV is
-- that of the names
abbrev pub LinesLeave : Schema → Listing → FileState → LinesEnd → FileState → Type 0
LinesLeave schema list before (Loaded records replaced rejected) after =
    ArePassed schema list before records replaced rejected after
LinesLeave schema list before (Refused line status) after =
    IsEndedAt schema list before line (Refuses status) after
LinesLeave schema list before (NoRecord line mistake) after =
    IsHeadless list line mistake before after ⊎ IsEndedAt schema list before line (IsNoRecord mistake) after

-- OPEN should be a success, and it was; then came the lines, and CLOSE was answered so
pub record IsLoaded (schema : Schema) (mode : OpenMode) (list : Listing) (before : FileState)
    (lines : LinesEnd) (closed : Status) (after : FileState) : Type 0 where
  pub opened : IsTrue (is_successful (perform (Open mode) 0 before).status)
  pub written : FileState
  pub lines_are : LinesLeave schema list (perform (Open mode) 0 before).next lines written
  pub close : Step (Close false) 0 written (answers closed after)

-- what a load leaves of a file
abbrev pub Loads : Schema → OpenMode → Listing → FileState → LoadEnd → FileState → Type 0
Loads schema mode list before (NotOpened status) after =
    (is_successful status ≡ false) × (list.told ≡ []) × Step (Open mode) 0 before (answers status after)
Loads schema mode list before (Opened lines closed) after =
    IsLoaded schema mode list before lines closed after

-- the file of a name before it: its connector is closed, in dynamic access, and its record area all spaces
abbrev pub file_before_load : World → List ℕ → Schema → FileState
file_before_load world name schema = record {
  connector = closed_connector Dynamic false schema;
  named = named_in world name;
  file = None;
  area = replicate schema.greatest 32;
}

-- a load leaves this of what the name stands for
pub record LoadsNamed (name : List ℕ) (schema : Schema) (mode : OpenMode) (list : Listing) (old : World)
    (end : LoadEnd) (new : World) : Type 0 where
  pub after : FileState
  pub loads : Loads schema mode list (file_before_load old name schema) end after
  pub named : named_in new name ≡ after.named

-- so it does, where the library is honest after it, and what the name showed before it was true
abbrev pub LoadsTruly : {S : Type 0} → Shown S → (name : List ℕ) → Schema → OpenMode → Listing → (old new : S)
    → LoadEnd → Type 0
LoadsTruly shown name schema mode list old new end =
    TrueFor shown name old new (LoadsNamed name schema mode list (shown.world old) end (shown.world new))

-- so a load of a text does
abbrev pub LoadsText : {S : Type 0} → Shown S → (name : List ℕ) → Schema → Load → Listing
    → (old new : S) → LoadEnd → Type 0
LoadsText shown name schema load list old new end =
    LoadsTruly shown name schema (mode_of load) list old new end

-- where it ended, so it did, and a log was told of the lines that were rejected
abbrev pub LoadsOver : {S R : Type 0} → (Tells : R → R → RejectedLine → List ℕ → Type 0) → (log log_after : R)
    → Shown S → AskedLoad → (old new : S) → Result LoadEnd LoadFault → Type 0
LoadsOver Tells log log_after shown asked old new result =
    IfOk result (λ end. TellsRejected Tells log log_after
    (λ told. LoadsText shown asked.name asked.schema asked.load (asked_lines asked told) old new end))

-- every other name stands for what it stood for
abbrev pub OthersStay : (name : List ℕ) → (old new : World) → Type 0
OthersStay name old new = (other : List ℕ) → bytes_eq name other ≡ false
    → named_in new other ≡ named_in old other
