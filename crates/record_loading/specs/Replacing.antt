-- What a REWRITE makes of a line whose WRITE was refused for the keys of its record.
use Rattle.std.specs.Prelude.{◌≡◌, ◌⊎◌, ℕ, true, false, List}
use Rattle.io_state.specs.Status.{is_successful}
use Rattle.io_state.specs.declared.status.Status.{Status}
use Rattle.io_state.specs.declared.statement.FileStatement.TheVariants.{Rewrite}
use Rattle.indexed_file.specs.Shown.{Shown}
use Rattle.verbs.specs.Held.{Held, silent}
use Rattle.verbs.specs.Performed.{FileInMemory, IsPerformed, in_memory}
use Rattle.record_loading.specs.declared.options.LoadOptions.{LoadOptions}
use Rattle.record_loading.specs.declared.rejected.RejectReason.TheVariants.{Refused}
use Rattle.record_loading.specs.declared.writing.PassedLine.{PassedLine}
use Rattle.record_loading.specs.declared.writing.PassedLine.TheVariants.{Written, Replaced, Rejected, Stopped}
use Rattle.record_loading.specs.Passing.{replaces_nothing}

-- a REWRITE that was answered so passes the line, or ends the lines, behind a WRITE that was refused so: a
-- success replaced a record; where it replaced nothing, the line is refused as its WRITE was; every other
-- answer ends the lines, and is told
abbrev pub IsPassedBy : LoadOptions → (refused : Status) → (behind : List ℕ) → (status : Status) → PassedLine
    → Type 0
IsPassedBy options refused behind status (Written left) = ⊥
IsPassedBy options refused behind status (Replaced left) =
    (left.now ≡ behind) × (is_successful status ≡ true)
IsPassedBy options refused behind status (Rejected reason left) =
    (left.now ≡ behind) × (reason ≡ Refused refused) × (replaces_nothing status ≡ true)
    × (options.keep_going ≡ true)
IsPassedBy options refused behind status (Stopped reason) =
    ((reason ≡ Refused refused) × (replaces_nothing status ≡ true) × (options.keep_going ≡ false))
    ⊎ ((reason ≡ Refused status) × (is_successful status ≡ false) × (replaces_nothing status ≡ false))

-- a REWRITE of a record of this length was performed, and so it passes its line
pub record RewritesRecord {S : Type 0} (shown : Shown S) (options : LoadOptions) (refused : Status)
    (length : ℕ) (behind : List ℕ) (before after : FileInMemory S) (passed : PassedLine) : Type 0 where
  pub status : Status
  pub performed : IsPerformed shown 0 Rewrite length before (silent status) after
  pub passed_by : IsPassedBy options refused behind status passed

-- so, from one state of the connector and the library to another
abbrev pub RewritesRecordIn : {S : Type 0} → Shown S → LoadOptions → (refused : Status) → (length : ℕ)
    → (behind : List ℕ) → (held : Held) → (old : S) → (area : List ℕ) → (held_after : Held) → (new : S)
    → PassedLine → Type 0
RewritesRecordIn shown options refused length behind held old area held_after new passed =
    RewritesRecord shown options refused length behind (in_memory held old area) (in_memory held_after new area)
    passed
