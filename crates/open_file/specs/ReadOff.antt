-- The file that an open unit's pages read as, whether they stand for one or not.
use Rattle.std.specs.Prelude.{ℕ, List, [], ◌∷◌, drop, Option, None, Some, if◌then◌else◌}
use Rattle.byteorder.specs.Endian.{big_number}
use Rattle.record_layout.specs.declared.schema.KeyPart.{KeyPart}
use Rattle.record_layout.specs.Schema.{Schema, has_duplicates}
use Rattle.indexed_file.specs.File.{Row, File}
use Rattle.pages.specs.PageMap.{PageMap}
use Rattle.key_index.specs.declared.entry.PrimeEntry.{PrimeEntry}
use Rattle.record_heap.specs.declared.heap.Heap.{Heap}
use Rattle.key_index.specs.Standing.{prime_off}
use Rattle.record_heap.specs.Standing.{slot_off}
use Rattle.open_file.specs.Stored.{stamps_length}
use Rattle.open_file.specs.declared.open_file.OpenFile.{OpenFile}

-- the stamps in a slot, one for each alternate key, 0 in a unique one
abbrev pub stamps_off : List KeyPart → List ℕ → List ℕ
stamps_off [] bytes = []
stamps_off (part ∷ parts) bytes = if has_duplicates part then big_number 8 bytes ∷ stamps_off parts
    (drop 8 bytes) else 0 ∷ stamps_off parts bytes

-- the row in a slot, without bytes where the slot has none
abbrev pub row_off : Schema → Option (List ℕ) → Row
row_off schema None = record { bytes = []; stamps = [] }
row_off schema (Some bytes) = record {
  bytes = drop (stamps_length (drop 1 schema.keys)) bytes;
  stamps = stamps_off (drop 1 schema.keys) bytes;
}

-- the rows that the entries of the prime index lead to
abbrev pub rows_off : Schema → Heap → PageMap → List PrimeEntry → List Row
rows_off schema heap pages [] = []
rows_off schema heap pages (entry ∷ entries) = row_off schema
    (slot_off heap pages entry.place) ∷ rows_off schema heap pages entries

abbrev pub file_off : OpenFile → PageMap → File
file_off opened pages = record {
  rows = rows_off opened.schema opened.heap pages
      (prime_off opened.prime pages);
  next_stamp = opened.next_stamp;
}
