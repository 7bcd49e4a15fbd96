-- An open file that stands for a file reads as that file.
use Rattle.std.proofs.Common.{◌≡◌, ℕ, ◌^◌, ◌≤◌, ◌<◌, true, List, [], ◌∷◌, ◌++◌, length, drop, Some, refl, ap, sym, subst, ◌∙◌, arith, length-drop}
use Rattle.std.specs.Prelude.{nat_lt, nat_le, ◌&&◌}
use Rattle.std.specs.List.{list_all}
use Rattle.std.proofs.Math.Seq.{drop-append_seam}
use Rattle.std.proofs.lemmas.Bool.{and_parts}
use Rattle.std.proofs.lemmas.Grind.{common_steps}
use Rattle.byteorder.specs.Endian.{big_number, big_bytes}
use Rattle.byteorder.specs.Numbers.{big_number-reads_back}
use Rattle.record_layout.specs.declared.schema.KeyPart.{KeyPart}
use Rattle.record_layout.specs.Schema.{Schema, has_duplicates}
use Rattle.indexed_file.specs.File.{Row, File}
use Rattle.indexed_file.specs.Sound.{is_row, is_stamp}
use Rattle.indexed_file.proofs.RowLemmas.{are_stamps, row_parts, each_row}
use Rattle.pages.specs.PageMap.{PageMap}
use Rattle.record_heap.specs.declared.heap.Heap.{Heap}
use Rattle.record_heap.specs.declared.shape.Place.{Place}
use Rattle.record_heap.specs.Chain.{Slots}
use Rattle.record_heap.specs.Standing.{HeapStands}
use Rattle.key_index.proofs.LawLemmas.{prime_reads_off}
use Rattle.record_heap.proofs.StandLemmas.{slot_read}
use Rattle.open_file.specs.InOrder.{prime_entries}
use Rattle.open_file.specs.Stored.{stamp_bytes, stamps_length, stored, AreAt}
use Rattle.open_file.specs.Parts.{heap_pages, prime_pages}
use Rattle.open_file.specs.Stands.{Stands}
use Rattle.open_file.specs.ReadOff.{stamps_off, row_off, rows_off, file_off}
use Rattle.open_file.specs.declared.open_file.OpenFile.{OpenFile}
use Rattle.open_file.proofs.OrderLemmas.{either}
use Rattle.open_file.proofs.PartsLemmas.{from_eq}
use Rattle.open_file.proofs.LengthLemmas.{stamp_length}

below : (s next : ℕ) → (nat_le 1 s && nat_lt s next) ≡ true → s < next
below s next h = grind (arith, common_steps)

-- stamps read back
pub stamps_back : (parts : List KeyPart) (stamps rest : List ℕ) (next : ℕ) → length stamps ≡ length parts → are_stamps next parts stamps ≡ true → next ≤ 2 ^ 63 → stamps_off parts (stamp_bytes parts stamps ++ rest) ≡ stamps
stamps_back [] [] rest next long all limit = refl
stamps_back [] (s ∷ stamps) rest next long all limit = absurd (omega (arith, long))
stamps_back (part ∷ parts) [] rest next long all limit = absurd (omega (arith, long))
stamps_back (part ∷ parts) (s ∷ stamps) rest next long all limit =
    let one = and_parts (is_stamp next part s) (are_stamps next parts stamps) all in
    let shorter : length stamps ≡ length parts = omega (arith, long) in
    let more = stamps_back parts stamps rest next shorter one.1 limit in
    let behind = stamp_bytes parts stamps ++ rest in
    either (has_duplicates part) (stamps_off (part ∷ parts) (stamp_bytes (part ∷ parts) (s ∷ stamps) ++ rest) ≡ s ∷ stamps)
    (λ yes.
    let low : s < next = below s next (rw yes at one.0) in
    let number : big_number 8 (big_bytes 8 s ++ behind) ≡ s = big_number-reads_back 8 s behind (omega (arith, low, limit)) in
    rw yes (λ i. number i ∷ more i))
    (λ no. let none : s ≡ 0 = from_eq s 0 (rw no at one.0) in rw no (λ i. (sym none) i ∷ more i))

-- a row reads back
row_back : (schema : Schema) (next : ℕ) (row : Row) → is_row schema next row ≡ true → next ≤ 2 ^ 63 → row_off schema (Some (stored schema row)) ≡ row
row_back schema next row fit limit =
    let parts = row_parts schema next row fit in
    let many = from_eq _ _ parts.1 in
    let long : length row.stamps ≡ length (drop 1 schema.keys) = omega (arith, many, length-drop 1 schema.keys) in
    let stamps = stamps_back (drop 1 schema.keys) row.stamps row.bytes next long parts.2 limit in
    let bytes : drop (stamps_length (drop 1 schema.keys)) (stored schema row) ≡ row.bytes =
    ap (λ n. drop n (stored schema row)) (sym (stamp_length (drop 1 schema.keys) row.stamps long))
    ∙ drop-append_seam (stamp_bytes (drop 1 schema.keys) row.stamps) row.bytes in
    λ i. record { bytes = bytes i; stamps = stamps i }

rows_back : (schema : Schema) (heap : Heap) (pages : PageMap) (slots : Slots) (own : List ℕ) (next : ℕ) (places : List Place) (rows : List Row) → HeapStands heap pages slots own → AreAt schema slots places rows
    → list_all (is_row schema next) rows ≡ true → next ≤ 2 ^ 63 → rows_off schema heap pages (prime_entries schema places rows) ≡ rows
rows_back schema heap pages slots own next [] [] stands at all limit = refl
rows_back schema heap pages slots own next [] (row ∷ rows) stands at all limit = absurd at
rows_back schema heap pages slots own next (place ∷ places) [] stands at all limit = absurd at
rows_back schema heap pages slots own next (place ∷ places) (row ∷ rows) stands at all limit =
    let one = and_parts _ _ all in
    let first = ap (row_off schema) (slot_read heap pages slots own place (stored schema row) stands at.0) ∙ row_back schema next row one.0 limit in
    let rest = rows_back schema heap pages slots own next places rows stands at.1 one.1 limit in
    λ i. first i ∷ rest i

-- what is read off an open file that stands for a file is that file
pub reads_as : (u : OpenFile) (pages : PageMap) (file : File) → Stands u pages file → file_off u pages ≡ file
reads_as u pages file s =
    let last : file.next_stamp ≤ 2 ^ 63 = subst (λ n. n ≤ 2 ^ 63) s.stamp s.few in
    let sound = (and_parts _ _ s.sound).1 in
    let entries = prime_reads_off u.prime pages (prime_entries u.schema s.places file.rows) (prime_pages s.parts.owns) s.parts.prime_stands in
    let rows = ap (rows_off u.schema u.heap pages) entries
    ∙ rows_back u.schema u.heap pages s.slots (heap_pages s.parts.owns) file.next_stamp s.places file.rows s.parts.heap_stands s.placed.rows_at (each_row u.schema file.next_stamp file.rows sound) last in
    let stamp = s.stamp in
    λ i. record { rows = rows i; next_stamp = stamp i }
