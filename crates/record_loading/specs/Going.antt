-- The parts of a load, on unit 0 of a library.
use Rattle.std.specs.Prelude.{◌≡◌, ◌≤◌, ◌<◌, ℕ, false, List, [], length, IsTrue, ⊤}
use Rattle.io_state.specs.declared.modes.Access.TheVariants.{Dynamic}
use Rattle.io_state.specs.declared.modes.OpenMode.{OpenMode}
use Rattle.record_layout.specs.Schema.{Schema}
use Rattle.indexed_file.specs.World.{OnlyAt, named_at}
use Rattle.indexed_file.specs.Calls.{Keeps}
use Rattle.indexed_file.specs.Shown.{Shown}
use Rattle.indexed_file.specs.Believed.{Believed}
use Rattle.verbs.specs.Connector.{FileState}
use Rattle.verbs.specs.Fits.{Fits}
use Rattle.verbs.specs.Held.{Held, state_of, held_at_start}
use Rattle.verbs.specs.Performed.{FileInMemory, StaysStanding, Trusted, in_memory, state_in}
use Rattle.record_text.specs.declared.form.Form.{Form}
use Rattle.record_text.specs.Whole.{IsWholeForm}
use Rattle.record_loading.specs.declared.end.LinesEnd.{LinesEnd}
use Rattle.record_loading.specs.declared.end.LoadEnd.{LoadEnd}
use Rattle.record_loading.specs.declared.options.LoadOptions.{LoadOptions}
use Rattle.record_loading.specs.declared.rejected.RejectedLine.{RejectedLine}
use Rattle.record_loading.specs.declared.writing.PassedLine.{PassedLine}
use Rattle.record_loading.specs.declared.writing.PassedLine.TheVariants.{Written, Replaced, Rejected, Stopped}
use Rattle.record_loading.specs.Passing.{LoadSource, Passing, IsRecordWritten, IsRecordReplaced, IsRejected, IsEnd}
use Rattle.record_loading.specs.Loading.{Listing, LinesLeave, Loads}
use Rattle.record_loading.specs.Real.{AllStayReal}
use Rattle.record_loading.specs.LineForm.{line_form}
use Rattle.record_loading.specs.Told.{TellsRejected}

-- the area is as long as the greatest record, of which the columns of the form are the whole
pub record HasAreaFor (form : Form) (schema : Schema) (area : List ℕ) : Type 0 where
  pub length_is : length area ≡ schema.greatest
  pub whole : IsWholeForm form (length area)

-- records of lines in a form can be written: the connector goes with its unit, this is the least
-- length of its records, and the area fits
pub record TakesLines {S : Type 0} (shown : Shown S) (form : Form) (shortest : ℕ)
    (before : FileInMemory S) : Type 0 where
  pub fits : Fits before.held (shown.world before.library) 0
  pub least : shortest ≡ before.held.connector.schema.least
  pub room : HasAreaFor form before.held.connector.schema before.area
  pub ordered : shortest ≤ length before.area
  pub short : length before.area ≤ 4000

-- every part: the connector goes with its unit and keeps its schema, nothing else is changed, the
-- library keeps what every call of it does, what the connector keeps stays true, and no image
-- becomes a false one
pub record LoadGoesOn {S : Type 0} (shown : Shown S) (before after : FileInMemory S) : Type 0 where
  pub fits : Fits after.held (shown.world after.library) 0
  pub schema : after.held.connector.schema ≡ before.held.connector.schema
  pub only : OnlyAt 0 (shown.world before.library) (shown.world after.library)
  pub keeps : Keeps shown before.library after.library
  pub standing : StaysStanding shown 0 before after
  pub real : Trusted shown 0 before after (AllStayReal shown before.library after.library)

-- a line left the file so, where these bytes stand in the record area
abbrev pub passing_in : {S : Type 0} → Shown S → (text behind : List ℕ) → FileInMemory S → FileInMemory S
    → (area : List ℕ) → Passing
passing_in shown text behind before after area = record {
  text = text;
  behind = behind;
  before = state_in shown 0 before;
  after = state_in shown 0 (in_memory after.held after.library area);
}

-- what came of a line: what it left of the file, where some bytes stand in the record area
abbrev pub ComesOfLine : {S : Type 0} → Shown S → LoadOptions → Form → (text : List ℕ) → FileInMemory S
    → FileInMemory S → PassedLine → Type 0
ComesOfLine shown options form text before after (Written behind) =
    IsRecordWritten before.held.connector.schema (line_form form options)
    (passing_in shown text behind.now before after after.area)
ComesOfLine shown options form text before after (Replaced behind) =
    IsTrue options.replace
    × IsRecordReplaced before.held.connector.schema (line_form form options)
    (passing_in shown text behind.now before after after.area)
ComesOfLine shown options form text before after (Rejected reason behind) =
    IsTrue options.keep_going
    × IsRejected before.held.connector.schema (line_form form options) options.replace reason
    (passing_in shown text behind.now before after after.area)
ComesOfLine shown options form text before after (Stopped reason) = (area : List ℕ) × (behind : List ℕ)
    × IsEnd before.held.connector.schema (line_form form options) options reason
    (passing_in shown text behind before after area)

-- the text behind a line is shorter
abbrev pub IsShorter : (text : List ℕ) → PassedLine → Type 0
IsShorter text (Written behind) = length behind.now < length text
IsShorter text (Replaced behind) = length behind.now < length text
IsShorter text (Rejected reason behind) = length behind.now < length text
IsShorter text (Stopped reason) = ⊤

-- the first line of a text was passed, or it ends the lines
pub record PassesLineOf {S : Type 0} (shown : Shown S) (options : LoadOptions) (form : Form) (text : List ℕ)
    (before after : FileInMemory S) (passed : PassedLine) : Type 0 where
  pub goes : LoadGoesOn shown (in_memory before.held before.library []) (in_memory after.held after.library [])
  pub shorter : IsShorter text passed
  pub line : Trusted shown 0 (in_memory before.held before.library []) (in_memory after.held after.library [])
      (ComesOfLine shown options form text before after passed)

-- the lines of a text leave the file so, where some bytes stand in the record area
abbrev pub LeavesLines : {S : Type 0} → Shown S → Listing → LinesEnd → FileInMemory S → FileInMemory S
    → Type 0
LeavesLines shown list lines before after =
    (area : List ℕ) × LinesLeave before.held.connector.schema list (state_in shown 0 before) lines
    (state_in shown 0 (in_memory after.held after.library area))

-- the lines of a text were written, up to this end
pub record WritesListing {S : Type 0} (shown : Shown S) (list : Listing) (before after : FileInMemory S)
    (end : LinesEnd) : Type 0 where
  pub goes : LoadGoesOn shown (in_memory before.held before.library []) after
  pub lines : Trusted shown 0 (in_memory before.held before.library []) after
      (LeavesLines shown list end before after)

-- so, from one state of the connector and the library to another, of a text in a form
abbrev pub WritesLinesOf : {S : Type 0} → Shown S → Listing → (held : Held) → (old : S)
    → (area : List ℕ) → (held_after : Held) → (new : S) → LinesEnd → Type 0
WritesLinesOf shown list held old area held_after new end =
    WritesListing shown list (in_memory held old area) (in_memory held_after new []) end

-- and a log was told of the lines that were rejected
abbrev pub WritesTold : {S R : Type 0} → (Tells : R → R → RejectedLine → List ℕ → Type 0)
    → (log log_after : R) → Shown S → LoadSource → (held : Held) → (old : S) → (area : List ℕ)
    → (held_after : Held) → (new : S) → LinesEnd → Type 0
WritesTold Tells log log_after shown source held old area held_after new end =
    TellsRejected Tells log log_after
    (λ told. WritesLinesOf shown (record { source = source; told = told }) held old area held_after new end)

-- a load leaves the file of unit 0 so, which was closed, and no image becomes a false one
pub record LoadsUnit {S : Type 0} (shown : Shown S) (schema : Schema) (mode : OpenMode) (list : Listing)
    (area : List ℕ) (old : S) (end : LoadEnd) (new : S) : Type 0 where
  pub after : FileState
  pub loads : Loads schema mode list (state_of (held_at_start Dynamic false schema)
      (shown.world old) 0 area) end after
  pub named : named_at (shown.world new) 0 ≡ after.named
  pub real : AllStayReal shown old new

-- so, as far as the library is to be believed
abbrev pub LoadsUnitTruly : {S : Type 0} → Shown S → (old new : S) → Schema → OpenMode → Listing
    → (area : List ℕ) → LoadEnd → Type 0
LoadsUnitTruly shown old new schema mode list area end =
    Believed shown 0 old new (LoadsUnit shown schema mode list area old end new)

-- and a log was told of the lines that were rejected
abbrev pub LoadsUnitTold : {S R : Type 0} → (Tells : R → R → RejectedLine → List ℕ → Type 0)
    → (log log_after : R) → Shown S → (old new : S) → Schema → OpenMode → LoadSource → (area : List ℕ) → LoadEnd
    → Type 0
LoadsUnitTold Tells log log_after shown old new schema mode source area end = TellsRejected Tells log log_after
    (λ told. LoadsUnitTruly shown old new schema mode (record { source = source; told = told }) area end)
