-- The first checks of a verb on records: the file is open for it, and the connector has not failed.
-- ANSI X3.23-1985, Indexed I-O module: I-O status 47, 48 and 49.
use Rattle.std.specs.Prelude.{◌≡◌, ◌⊎◌, Bool, true, false, Option, Some, None}
use Rattle.io_state.specs.declared.modes.Access.{Access}
use Rattle.io_state.specs.declared.modes.OpenMode.{OpenMode}
use Rattle.io_state.specs.declared.status.Status.{Status}
use Rattle.io_state.specs.declared.status.Status.TheVariants.{NotOpenForReading, NotOpenForWriting}
use Rattle.io_state.specs.declared.status.Status.TheVariants.{NotOpenForUpdating, ConnectorFailed}
use Rattle.io_state.specs.Permission.{is_for_reading, is_for_writing, is_for_updating}
use Rattle.verbs.specs.declared.admission.Purpose.{Purpose}
use Rattle.verbs.specs.declared.admission.Purpose.TheVariants.{Reading, Writing, Updating}

-- what a verb answers whose file is closed, or open for other verbs
abbrev pub not_open_for : Purpose → Status
not_open_for Reading = NotOpenForReading
not_open_for Writing = NotOpenForWriting
not_open_for Updating = NotOpenForUpdating

-- such verbs are for a file that is open in this mode
abbrev pub is_for : Purpose → Access → OpenMode → Bool
is_for Reading access mode = is_for_reading mode
is_for Writing access mode = is_for_writing access mode
is_for Updating access mode = is_for_updating mode

-- a verb is refused by its first checks: its file is closed; or the connector has failed; or the
-- file is open for other verbs
abbrev pub IsRefusedFirst : Purpose → Access → Option OpenMode → Bool → Status → Type 0
IsRefusedFirst purpose access None failed status = status ≡ not_open_for purpose
IsRefusedFirst purpose access (Some mode) failed status =
    ((failed ≡ true) × (status ≡ ConnectorFailed))
    ⊎ ((failed ≡ false) × (is_for purpose access mode ≡ false) × (status ≡ not_open_for purpose))
