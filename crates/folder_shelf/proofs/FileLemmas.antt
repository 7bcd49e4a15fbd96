-- What calls that read are, and what answers that are true say of the file of the empty name.
use Rattle.std.proofs.Common.{◌≡◌, ℕ, List, [], ◌∷◌, true, refl}
use Rattle.std.proofs.lemmas.Bool.{and_parts}
use Rattle.page_store.specs.DeviceFile.{DeviceFile, IsThere}
use Rattle.folder_shelf.specs.Calls.{Call, looked, made, measured, read, held, written, flushed}
use Rattle.folder_shelf.specs.Calls.{entered, asked_of_folder, taken, taken_shared, streams_held}
use Rattle.folder_shelf.specs.Reading.{IsReading, AreReading}
use Rattle.folder_shelf.specs.Reads.{is_read, are_reads}
use Rattle.folder_shelf.specs.Shelf.{file_of_empty_name}

is_reading : (call : Call) → is_read call ≡ true → IsReading call
is_reading (looked path found) is = tt
is_reading (made path done) is = absurd (cc)
is_reading (measured path size) is = tt
is_reading (read path done at bytes) is = tt
is_reading (held path done) is = absurd (cc)
is_reading (written path at took bytes) is = absurd (cc)
is_reading (flushed path done) is = absurd (cc)
is_reading (entered path) is = absurd (cc)
is_reading (asked_of_folder path told) is = tt
is_reading (taken path most bytes) is = tt
is_reading (taken_shared path most bytes) is = tt
is_reading (streams_held done) is = tt

pub are_reading : (calls : List Call) → are_reads calls ≡ true → AreReading calls
are_reading [] is = tt
are_reading (call ∷ calls) is =
    let parts = and_parts (is_read call) (are_reads calls) is in
    (is_reading call parts.0, are_reading calls parts.1)

-- a file that is there has the empty name
pub named_where_there : (file : DeviceFile) (name : List ℕ) → IsThere (file_of_empty_name file name) → file_of_empty_name file name ≡ file
named_where_there file [] there = refl
named_where_there file (byte ∷ name) there = let some = there.there in absurd (cc)
