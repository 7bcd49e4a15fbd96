-- What comes of the lines of a text, one after another. All of this is ours.
use Rattle.std.specs.Prelude.{◌≡◌, ◌⊎◌, ◌<◌, ℕ, zero, suc, ◌+◌, ◌==◌, Bool, true, false, not, ◌&&◌, ◌||◌}
use Rattle.std.specs.Prelude.{List, [], ◌∷◌, ◌++◌}
use Rattle.std.specs.Prelude.{length, drop, IsTrue, if◌then◌else◌}
use Rattle.io_state.specs.Status.{is_successful}
use Rattle.io_state.specs.declared.status.Status.{Status}
use Rattle.io_state.specs.declared.status.Status.TheVariants.{DuplicateKey, RecordNotFound, NotOpenForUpdating}
use Rattle.io_state.specs.declared.statement.FileStatement.TheVariants.{Write, Rewrite}
use Rattle.record_layout.specs.Schema.{Schema}
use Rattle.verbs.specs.Connector.{FileState, Outcome, answers}
use Rattle.verbs.specs.Fits.{IsRecordOf}
use Rattle.verbs.specs.Marred.{Step}
use Rattle.verbs.specs.Verbs.{perform}
use Rattle.record_text.specs.declared.form.Form.{Form}
use Rattle.record_text.specs.ReadLine.{AreBytes}
use Rattle.record_text.specs.Header.{header_lines}
use Rattle.record_text.specs.declared.mistake.LineMistake.{LineMistake}
use Rattle.record_loading.specs.declared.end.LinesEnd.{LinesEnd}
use Rattle.record_loading.specs.declared.end.LinesEnd.TheVariants as ends
use Rattle.record_loading.specs.declared.options.LoadOptions.{LoadOptions}
use Rattle.record_loading.specs.declared.rejected.RejectReason.{RejectReason}
use Rattle.record_loading.specs.declared.rejected.RejectReason.TheVariants.{Refused, NoRecord}
use Rattle.record_loading.specs.LineForm.{LineForm, line_form, BeginsWith, BeginsWithNone, HasMistake}
use Rattle.record_loading.specs.Told.{ToldLine}

-- ---- lines that are passed over

-- what is behind the first line of a text: behind its LF, or nothing
abbrev pub behind_line : List ℕ → List ℕ
behind_line [] = []
behind_line (char ∷ text) = if char == 10 then text else behind_line text

-- what is behind so many lines
abbrev pub behind_lines : ℕ → List ℕ → List ℕ
behind_lines zero text = text
behind_lines (suc count) text = behind_lines count (behind_line text)

-- ---- one line

-- a record that a file of this schema can have
pub record CanBeRecord (schema : Schema) (bytes : List ℕ) : Type 0 where
  pub are_bytes : AreBytes bytes
  pub length_is : IsRecordOf schema bytes

-- the record is put into the beginning of the record area
abbrev pub with_record : List ℕ → FileState → FileState
with_record bytes s = record s { area = bytes ++ drop (length bytes) s.area }

-- what the WRITE of a record should answer and leave
abbrev pub write_of : List ℕ → FileState → Outcome
write_of bytes s = perform Write (length bytes) (with_record bytes s)

-- 22: a WRITE that was refused for the keys of its record, so that the file can take other records
abbrev pub is_refused_for_keys : Status → Bool
is_refused_for_keys DuplicateKey = true
is_refused_for_keys status = false

-- what a REWRITE of the record should answer and leave, behind a WRITE of it
abbrev pub rewrite_of : List ℕ → FileState → Outcome
rewrite_of bytes s = perform Rewrite (length bytes) (write_of bytes s).next

-- 22, 23 or 49: a REWRITE that replaced nothing, for the keys of its record, since no record has its prime
-- value, or in a file that OPEN OUTPUT made, so that the file can take other records
abbrev pub replaces_nothing : Status → Bool
replaces_nothing DuplicateKey = true
replaces_nothing RecordNotFound = true
replaces_nothing NotOpenForUpdating = true
replaces_nothing status = false

-- a WRITE that was answered so, and is no success, ends the lines: but for one that was refused for its keys,
-- where lines are to be passed over, or records are to be replaced
abbrev pub ends_lines : LoadOptions → Status → Bool
ends_lines options status = not ((options.keep_going || options.replace) && is_refused_for_keys status)

-- a line of a text, and what is left of the file by it
pub record Passing : Type 0 where
  pub text : List ℕ
  pub behind : List ℕ
  pub before : FileState
  pub after : FileState

-- the line is that of a record: WRITE should be a success, and it was
pub record IsRecordWritten (schema : Schema) (form : LineForm) (line : Passing) : Type 0 where
  pub bytes : List ℕ
  pub begins : BeginsWith form.pad form.form schema.greatest line.text bytes line.behind
  pub can_be : CanBeRecord schema bytes
  pub success : IsTrue (is_successful (write_of bytes line.before).status)
  pub file : line.after ≡ (write_of bytes line.before).next

-- the line is that of a record: WRITE should be refused so for its keys, and it was; the file and what its
-- name stands for are as they were
pub record IsRefusedForKeys (schema : Schema) (form : LineForm) (status : Status) (line : Passing) : Type 0 where
  pub bytes : List ℕ
  pub begins : BeginsWith form.pad form.form schema.greatest line.text bytes line.behind
  pub can_be : CanBeRecord schema bytes
  pub status_is : status ≡ (write_of bytes line.before).status
  pub of_keys : IsTrue (is_refused_for_keys status)
  pub file : line.after ≡ (write_of bytes line.before).next
  pub same_file : line.after.file ≡ line.before.file
  pub same_name : line.after.named ≡ line.before.named

-- the line is that of a record: WRITE should be refused for its keys, and REWRITE behind it should be a
-- success, and they were, so that it took the place of the record of its prime value
pub record IsRecordReplaced (schema : Schema) (form : LineForm) (line : Passing) : Type 0 where
  pub bytes : List ℕ
  pub begins : BeginsWith form.pad form.form schema.greatest line.text bytes line.behind
  pub can_be : CanBeRecord schema bytes
  pub of_keys : IsTrue (is_refused_for_keys (write_of bytes line.before).status)
  pub success : IsTrue (is_successful (rewrite_of bytes line.before).status)
  pub file : line.after ≡ (rewrite_of bytes line.before).next

-- the line is that of a record: WRITE should be refused so for its keys, and REWRITE behind it should replace
-- nothing, and so they were answered; the file and what its name stands for are as they were
pub record IsNotReplaced (schema : Schema) (form : LineForm) (status : Status) (line : Passing) : Type 0 where
  pub bytes : List ℕ
  pub begins : BeginsWith form.pad form.form schema.greatest line.text bytes line.behind
  pub can_be : CanBeRecord schema bytes
  pub status_is : status ≡ (write_of bytes line.before).status
  pub of_keys : IsTrue (is_refused_for_keys status)
  pub nothing : IsTrue (replaces_nothing (rewrite_of bytes line.before).status)
  pub file : line.after ≡ (rewrite_of bytes line.before).next
  pub same_file : line.after.file ≡ line.before.file
  pub same_name : line.after.named ≡ line.before.named

-- the line is that of a record that was refused so for its keys: by a WRITE, and by a REWRITE behind it where
-- records are to be replaced
abbrev pub IsRefusedLine : (replace : Bool) → Schema → LineForm → Status → Passing → Type 0
IsRefusedLine false schema form status line = IsRefusedForKeys schema form status line
IsRefusedLine true schema form status line = IsNotReplaced schema form status line

-- the line is that of no record that the file can have, and has this mistake: it is passed over up to its
-- LF, and the file is as it was; in the record area other bytes may be
pub record IsOfNoRecord (schema : Schema) (form : LineForm) (mistake : LineMistake) (line : Passing) : Type 0 where
  pub some : 0 < length line.text
  pub none : BeginsWithNone form.pad form.form line.text schema.least schema.greatest
  pub wrong : HasMistake form.pad form.form line.text schema.least schema.greatest mistake
  pub behind : line.behind ≡ behind_line line.text
  pub area : List ℕ
  pub area_length : length area ≡ length line.before.area
  pub file : line.after ≡ record line.before { area = area }

-- the line was rejected for this reason
abbrev pub IsRejected : Schema → LineForm → (replace : Bool) → RejectReason → Passing → Type 0
IsRejected schema form replace (Refused status) line = IsRefusedLine replace schema form status line
IsRejected schema form replace (NoRecord mistake) line = IsOfNoRecord schema form mistake line

-- the line is that of a record whose WRITE was answered so, which is no success, and it ends the lines
pub record IsRefusal (schema : Schema) (form : LineForm) (options : LoadOptions) (status : Status) (line : Passing)
    : Type 0 where
  pub bytes : List ℕ
  pub begins : BeginsWith form.pad form.form schema.greatest line.text bytes line.behind
  pub can_be : CanBeRecord schema bytes
  pub step : Step Write (length bytes) (with_record bytes line.before) (answers status line.after)
  pub no_success : is_successful status ≡ false
  pub ends : IsTrue (ends_lines options status)

-- the line is that of a record that was refused so for its keys, and replaced none; and it ends the lines
pub record IsNotReplacedEnd (schema : Schema) (form : LineForm) (options : LoadOptions) (status : Status)
    (line : Passing) : Type 0 where
  pub asked : IsTrue options.replace
  pub refused : IsNotReplaced schema form status line
  pub ends : options.keep_going ≡ false

-- the line is that of a record: WRITE should be refused for its keys, and was, and REWRITE behind it was
-- answered so, which is no success, and not that it replaced nothing; and it ends the lines
pub record IsReplacingEnd (schema : Schema) (form : LineForm) (options : LoadOptions) (status : Status)
    (line : Passing) : Type 0 where
  pub asked : IsTrue options.replace
  pub bytes : List ℕ
  pub begins : BeginsWith form.pad form.form schema.greatest line.text bytes line.behind
  pub can_be : CanBeRecord schema bytes
  pub of_keys : IsTrue (is_refused_for_keys (write_of bytes line.before).status)
  pub step : Step Rewrite (length bytes) (write_of bytes line.before).next (answers status line.after)
  pub no_success : is_successful status ≡ false
  pub ends : replaces_nothing status ≡ false

-- the record of the line was answered so, and ends the lines
abbrev pub IsRefusedEnd : Schema → LineForm → LoadOptions → Status → Passing → Type 0
IsRefusedEnd schema form options status line =
    IsRefusal schema form options status line
    ⊎ IsNotReplacedEnd schema form options status line
    ⊎ IsReplacingEnd schema form options status line

-- the line is that of no record that the file can have, and has this mistake; and it ends the lines
pub record IsNoRecordEnd (schema : Schema) (form : LineForm) (keep_going : Bool) (mistake : LineMistake) (line : Passing)
    : Type 0 where
  pub some : 0 < length line.text
  pub none : BeginsWithNone form.pad form.form line.text schema.least schema.greatest
  pub wrong : HasMistake form.pad form.form line.text schema.least schema.greatest mistake
  pub ends : keep_going ≡ false
  pub file : line.after ≡ line.before

-- the line ended the lines, for this reason
abbrev pub IsEnd : Schema → LineForm → LoadOptions → RejectReason → Passing → Type 0
IsEnd schema form options (Refused status) line = IsRefusedEnd schema form options status line
IsEnd schema form options (NoRecord mistake) line = IsNoRecordEnd schema form options.keep_going mistake line

-- ---- lines

-- a text that is to be loaded: what stands before the first line in its form, and then a line for each
-- record; and which lines are asked for
pub record LoadSource : Type 0 where
  pub form : Form
  pub text : List ℕ
  pub options : LoadOptions

-- how its lines are read
abbrev pub lines_form : LoadSource → LineForm
lines_form source = line_form source.form source.options

-- where a load stands between two lines: the text that is left, how many records were written, and how many
-- replaced, which lines were told as rejected, and the file
pub record Place : Type 0 where
  pub rest : List ℕ
  pub records : ℕ
  pub replaced : ℕ
  pub told : List ToldLine
  pub file : FileState

-- from one place to another one
abbrev pub from_to : (before after : Place) → Passing
from_to before after =
    record { text = before.rest; behind = after.rest; before = before.file; after = after.file }

-- the number of the line behind a place: line 1 is the first of the text, which in CSV is that of the names
abbrev pub number_of_line : LoadSource → Place → ℕ
number_of_line source place =
    header_lines source.form + source.options.skip + place.records + place.replaced + length place.told + 1

-- a line of this number, rejected for this reason, that stands so in the text
abbrev pub told_line : ℕ → RejectReason → (bytes : List ℕ) → ToldLine
told_line line reason bytes = record { rejected = record { line = line; reason = reason }; bytes = bytes }

-- the record of the next line was written, and nothing was told
pub record WritesRecordOfLine (schema : Schema) (source : LoadSource) (before after : Place) : Type 0 where
  pub line : IsRecordWritten schema (lines_form source) (from_to before after)
  pub records : after.records ≡ before.records + 1
  pub replaced : after.replaced ≡ before.replaced
  pub told : after.told ≡ before.told

-- the record of the next line replaced another one, as is asked for, and nothing was told
pub record ReplacesRecordOfLine (schema : Schema) (source : LoadSource) (before after : Place) : Type 0 where
  pub asked : IsTrue source.options.replace
  pub line : IsRecordReplaced schema (lines_form source) (from_to before after)
  pub records : after.records ≡ before.records
  pub replaced : after.replaced ≡ before.replaced + 1
  pub told : after.told ≡ before.told

-- the next line was rejected and passed over, as is asked for, which was told with its number and with all its
-- bytes, as they stand in the text, once
pub record RejectsLine (schema : Schema) (source : LoadSource) (before after : Place) : Type 0 where
  pub reason : RejectReason
  pub bytes : List ℕ
  pub whole : before.rest ≡ bytes ++ after.rest
  pub asked : IsTrue source.options.keep_going
  pub line : IsRejected schema (lines_form source) source.options.replace reason (from_to before after)
  pub records : after.records ≡ before.records
  pub replaced : after.replaced ≡ before.replaced
  pub told : after.told ≡ before.told ++ (told_line (number_of_line source before) reason bytes ∷ [])

-- the next line was passed
abbrev pub PassesLine : Schema → LoadSource → (before after : Place) → Type 0
PassesLine schema source before after =
    WritesRecordOfLine schema source before after
    ⊎ ReplacesRecordOfLine schema source before after
    ⊎ RejectsLine schema source before after

-- so many lines were passed, one after another
abbrev pub PassesLines : Schema → LoadSource → ℕ → (before after : Place) → Type 0
PassesLines schema source zero before after = after ≡ before
PassesLines schema source (suc count) before after =
    (between : Place) × PassesLines schema source count before between × PassesLine schema source between after

-- how lines end at a line of this number
abbrev pub lines_end : ℕ → RejectReason → LinesEnd
lines_end line (Refused status) = ends.Refused line status
lines_end line (NoRecord mistake) = ends.NoRecord line mistake
