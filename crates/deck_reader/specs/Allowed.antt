-- What a run can rely on: the files, items and keys of a procedure's statements are those of the
-- deck, and its access modes allow the statements.
use Rattle.std.specs.Prelude.{◌≡◌, ℕ, ◌+◌, ◌<◌, ◌≤◌, Bool, true, false, List, length, slice_get, Some, IsTrue}
use Rattle.std.specs.Prelude.{IsFalse}
use Rattle.std.specs.List.{list_all}
use Rattle.std.specs.Char.{is_ascii_digit}
use Rattle.io_state.specs.Permission.{is_sequential, is_random, may_open}
use Rattle.record_layout.specs.Area.{is_taken_by}
use Rattle.record_layout.specs.Layout.{length_of}
use Rattle.record_layout.specs.Schema.{key_at}
use Rattle.record_layout.specs.declared.area.Source.{Source}
use Rattle.record_layout.specs.declared.area.Source.TheVariants.{Text, Digits, Fill}
use Rattle.io_state.specs.declared.statement.FileStatement.{FileStatement}
use Rattle.io_state.specs.declared.statement.FileStatement.TheVariants.{Open, Close, ReadNext, Read, Start}
use Rattle.io_state.specs.declared.statement.FileStatement.TheVariants.{Write, Rewrite, Delete}
use Rattle.file_control.specs.Description.{FileDesc}
use Rattle.deck_reader.specs.Names.{Names}
use Rattle.deck_reader.specs.declared.statement.Statement.{Statement}
use Rattle.deck_reader.specs.declared.statement.Statement.TheVariants.{Perform, Move, MoveLength}
use Rattle.deck_reader.specs.declared.statement.Statement.TheVariants.{StopRun}

-- a length item takes digits and ZERO alone
abbrev pub is_numeric : Source (List ℕ) → Bool
is_numeric (Text bytes) = false
is_numeric (Digits digits) = list_all is_ascii_digit digits
is_numeric (Fill figure) = is_taken_by true (Fill figure)

-- the file's access mode allows the statement, and its key is one of the file's, with 1 to all of its bytes
abbrev pub IsAllowedOn : FileDesc → FileStatement → Type 0
IsAllowedOn file (Open mode) = IsTrue (may_open file.access mode)
IsAllowedOn file (Close lock) = Unit {0}
IsAllowedOn file ReadNext = IsFalse (is_random file.access)
IsAllowedOn file (Read k) = IsFalse (is_sequential file.access) × (k < length file.schema.keys)
IsAllowedOn file (Start k n relation) =
    IsFalse (is_random file.access) × (k < length file.schema.keys) × (1 ≤ n)
    × (n ≤ (key_at file.schema k).length)
IsAllowedOn file Write = Unit {0}
IsAllowedOn file Rewrite = Unit {0}
IsAllowedOn file Delete = Unit {0}

-- the statement is for a file of the deck that allows it; or its item is one of the deck's, and
-- takes the source
abbrev pub IsAllowed : Names → Statement → Type 0
IsAllowed names (Perform u statement) =
    (file : FileDesc) × (slice_get names.files u ≡ Some file) × IsAllowedOn file statement
IsAllowed names (Move u field source) =
    (file : FileDesc) × (slice_get names.files u ≡ Some file)
    × (field.offset + field.length ≤ length_of file.layout)
    × IsTrue (is_taken_by field.numeric source)
IsAllowed names (MoveLength i source) = (i < length names.items) × IsTrue (is_numeric source)
IsAllowed names StopRun = Unit {0}
