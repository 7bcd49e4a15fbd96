-- What a crash may leave of a file's name in a statement.
use Rattle.std.specs.Prelude.{Bool, ◌||◌, ◌&&◌, Option, Some, None, if◌then◌else◌}
use Rattle.io_state.specs.declared.status.Status.{Status}
use Rattle.io_state.specs.Status.{is_successful}
use Rattle.record_layout.specs.Schema.{Schema}
use Rattle.indexed_file.specs.File.{File}
use Rattle.indexed_file.specs.World.{Named, Absent, Closed, Unsound}
use Rattle.indexed_file.specs.Images.{Trace, untouched, finishing, finished, trace_if}
use Rattle.io_state.specs.declared.statement.FileStatement.{FileStatement}
use Rattle.io_state.specs.declared.statement.FileStatement.TheVariants.{Open, Close, ReadNext, Read, Start}
use Rattle.io_state.specs.declared.statement.FileStatement.TheVariants.{Write, Rewrite, Delete}
use Rattle.verbs.specs.Connector.{Session, FileState, file_of}
use Rattle.verbs.specs.Faults.{is_permanent_error, is_fault}
use Rattle.verbs.specs.Marred.{creates}

-- OPEN, where it makes a file, with 00, 05 or 30
abbrev pub trace_of_open : Bool → Status → Trace
trace_of_open creates status = trace_if (creates && (is_successful status || is_permanent_error status))

-- WRITE, REWRITE and DELETE: accepted, or answered 30, 90 or 91
abbrev pub trace_of_change_by : Status → Trace
trace_of_change_by status = trace_if (is_successful status || is_fault status)

-- CLOSE of a file that was changed: with 00 the file stands closed
abbrev pub trace_of_end : Named → Schema → File → Status → Trace
trace_of_end Unsound schema file status = if is_successful status then finished
    (Closed schema file) else finishing (Closed schema file)
trace_of_end Absent schema file status = untouched
trace_of_end (Closed named was) schema file status = untouched

-- CLOSE: of a connector that is closed or has failed, and of a missing file, nothing is written
abbrev pub trace_of_close : FileState → Option Session → Status → Trace
trace_of_close s None status = untouched
trace_of_close s (Some session) status =
    if session.failed || session.missing then untouched else trace_of_end s.named s.connector.schema
    (file_of s) status

abbrev pub trace_of : FileStatement → FileState → Status → Trace
trace_of (Open mode) s status = trace_of_open (creates mode s.connector.optional s.named) status
trace_of (Close lock) s status = trace_of_close s s.connector.session status
trace_of ReadNext s status = untouched
trace_of (Read key) s status = untouched
trace_of (Start key length relation) s status = untouched
trace_of Write s status = trace_of_change_by status
trace_of Rewrite s status = trace_of_change_by status
trace_of Delete s status = trace_of_change_by status
