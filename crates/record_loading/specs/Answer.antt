-- What is told of a load. The form of its lines is ours.
use Rattle.std.specs.Prelude.{ℕ, Bool, false, List, [], ◌++◌, codes, decimal, ◌==◌, ◌&&◌, if◌then◌else◌}
use Rattle.io_state.specs.Status.{digits_of, is_successful}
use Rattle.io_state.specs.declared.status.Status.{Status}
use Rattle.record_loading.specs.declared.end.LinesEnd.{LinesEnd}
use Rattle.record_loading.specs.declared.end.LinesEnd.TheVariants.{Loaded, Refused, NoRecord}
use Rattle.record_loading.specs.declared.rejected.RejectReason.{RejectReason}
use Rattle.record_loading.specs.declared.rejected.RejectReason.TheVariants.{Refused as Refuses, NoRecord as IsNoRecordEnd}
use Rattle.record_loading.specs.declared.end.LoadEnd.{LoadEnd}
use Rattle.record_loading.specs.declared.end.LoadEnd.TheVariants.{NotOpened, Opened}

-- a status, to the end of its line
abbrev pub status_text : Status → List ℕ
status_text status = codes "status " ++ (digits_of status ++ codes "\n")

-- so many records were replaced, if any were
abbrev pub replaced_text : ℕ → List ℕ
replaced_text replaced = if replaced == 0 then [] else codes ", replaced " ++ decimal replaced

-- so many lines were rejected, if any were
abbrev pub rejected_text : ℕ → List ℕ
rejected_text rejected = if rejected == 0 then [] else codes ", rejected " ++ decimal rejected

-- so many records were loaded, so many replaced, and so many lines rejected
abbrev pub loaded_text : (records replaced rejected : ℕ) → List ℕ
loaded_text records replaced rejected =
    codes "loaded " ++ (decimal records ++ (replaced_text replaced ++ (rejected_text rejected ++ codes "\n")))

-- the beginning of what is told of a line
abbrev pub line_start : ℕ → List ℕ
line_start line = codes "line " ++ (decimal line ++ codes ": ")

-- why the record of a line was not written, to the end of its line
abbrev pub reason_text : RejectReason → List ℕ
reason_text (Refuses status) = status_text status
reason_text (IsNoRecordEnd mistake) = codes "no record of this file\n"

-- what is told of a line whose record was not written
abbrev pub told_line_text : ℕ → RejectReason → List ℕ
told_line_text line reason = line_start line ++ reason_text reason

-- how the lines of a text ended, whose file was closed with this status: records are told as loaded
-- only where CLOSE was a success
abbrev pub told_lines : LinesEnd → Status → List ℕ
told_lines (Loaded records replaced rejected) closed =
    if is_successful closed then loaded_text records replaced rejected else []
told_lines (Refused line status) closed = told_line_text line (Refuses status)
told_lines (NoRecord line mistake) closed = told_line_text line (IsNoRecordEnd mistake)

-- what CLOSE answered, where it was no success
abbrev pub told_close : Status → List ℕ
told_close closed = if is_successful closed then [] else codes "close: " ++ status_text closed

-- the lines that tell of a load
abbrev pub answer_of : LoadEnd → List ℕ
answer_of (NotOpened status) = codes "open: " ++ status_text status
answer_of (Opened lines closed) = told_lines lines closed ++ told_close closed

-- the record of each line was written, or replaced another one, none was rejected, and CLOSE was a success
abbrev pub is_loaded : LoadEnd → Bool
is_loaded (NotOpened status) = false
is_loaded (Opened (Loaded records replaced rejected) closed) = rejected == 0 && is_successful closed
is_loaded (Opened (Refused line status) closed) = false
is_loaded (Opened (NoRecord line mistake) closed) = false
