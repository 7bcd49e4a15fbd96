-- The record of a prime value, as it was found in its slot.
use Rattle.std.proofs.Common.{◌≡◌, ℕ, ◌+◌, ◌-◌, ◌^◌, ◌≤◌, true, List, ◌++◌, length, drop, take, Some, None, ap, sym, subst, ◌∙◌, arith, append_assoc, length-drop}
use Rattle.std.specs.Prelude.{find, option_map, slice_range}
use Rattle.record_layout.specs.Schema.{Schema}
use Rattle.indexed_file.specs.File.{File}
use Rattle.indexed_file.specs.Rank.{has_value}
use Rattle.indexed_file.specs.Change.{row_of}
use Rattle.indexed_file.specs.Sound.{is_row}
use Rattle.indexed_file.proofs.RowLemmas.{row_parts}
use Rattle.pages.specs.PageMap.{PageMap}
use Rattle.key_index.specs.declared.entry.PrimeEntry.{PrimeEntry}
use Rattle.key_index.specs.Entries.{has_prime}
use Rattle.record_heap.specs.Chain.{Slots}
use Rattle.open_file.specs.Fields.{alternates_of, heap_of, prime_index_of, file_schema}
use Rattle.open_file.specs.InOrder.{alt_entries, prime_entries}
use Rattle.open_file.specs.Parts.{Parts}
use Rattle.open_file.specs.Stored.{stored, stamp_bytes, stamps_length}
use Rattle.open_file.specs.ReadOff.{stamps_off}
use Rattle.open_file.specs.Stands.{Stands}
use Rattle.file_changes.specs.Old.{IsOld, IsOldAt, row_with}
use Rattle.open_file.specs.declared.open_file.OpenFile.{OpenFile}
use Rattle.file_changes.specs.declared.old_record.OldRecord.{OldRecord}
use Rattle.open_file.proofs.PlaceLemmas.{LeadsTo, entry_leads, no_entry, find_each}
use Rattle.open_file.proofs.PartsLemmas.{from_eq}
use Rattle.open_file.proofs.LengthLemmas.{is_made}
use Rattle.open_file.proofs.ReadLemmas.{record_part, stored_length}
use Rattle.open_file.proofs.ReadOffLemmas.{stamps_back}
use Rattle.open_file.proofs.RowLemmas.{row_is_first, each_row}
use Rattle.file_changes.proofs.RemovedLemmas.{file_rows}

-- the parts, at a later moment at which the pages show the same
pub parts_later : {u : OpenFile} {before after : PageMap} {file : File} (stands : Stands u before file) → after ≡ before
    → Parts (heap_of u) (prime_index_of u) (alternates_of u) after stands.slots (prime_entries (file_schema u) stands.places file.rows) (λ j. alt_entries (file_schema u) (j + 1) file.rows)
parts_later {u} {before} {after} {file} stands same =
    subst (λ p. Parts (heap_of u) (prime_index_of u) (alternates_of u) p stands.slots (prime_entries (file_schema u) stands.places file.rows) (λ j. alt_entries (file_schema u) (j + 1) file.rows)) (sym same) stands.parts

-- the row to which the entry leads
pub leads_to : (u : OpenFile) (pages : PageMap) (file : File) (stands : Stands u pages file) (prime : List ℕ) (entry : PrimeEntry) → find (has_prime prime) (prime_entries (file_schema u) stands.places file.rows) ≡ Some entry
    → LeadsTo (file_schema u) stands.slots prime file.rows entry
leads_to u pages file stands prime entry found = entry_leads (file_schema u) stands.slots prime stands.places file.rows entry stands.placed.rows_at found

-- it is the record that was read
pub old_is : (u : OpenFile) (pages : PageMap) (file : File) (stands : Stands u pages file) (prime : List ℕ) (entry : PrimeEntry) (found : find (has_prime prime) (prime_entries (file_schema u) stands.places file.rows) ≡ Some entry)
    → (slot before : List ℕ) (old : OldRecord) → old.place ≡ entry.place → old.end ≡ length (stored (file_schema u) (leads_to u pages file stands prime entry found).row)
    → slot ≡ stored (file_schema u) (leads_to u pages file stands prime entry found).row ++ drop (length (stored (file_schema u) (leads_to u pages file stands prime entry found).row)) before
    → old.stamps.items ≡ stamps_off (drop 1 (file_schema u).keys) slot
    → IsOld (file_schema u) stands.slots (prime_entries (file_schema u) stands.places file.rows) file prime slot old
old_is u pages file stands prime entry found slot before old place end is stamps =
    let leads = leads_to u pages file stands prime entry found in
    let row = leads.row in
    let keys = drop 1 (file_schema u).keys in
    let rest = drop (length (stored (file_schema u) row)) before in
    let fit = find_each (λ r. is_row (file_schema u) file.next_stamp r ≡ true) (has_value (file_schema u) 0 prime) file.rows row (each_row (file_schema u) file.next_stamp file.rows (file_rows (file_schema u) file stands.sound)) leads.is_first in
    let made = is_made (file_schema u) file.next_stamp row fit in
    let parts = row_parts (file_schema u) file.next_stamp row fit in
    let many = from_eq (length row.stamps + 1) (length (file_schema u).keys) parts.1 in
    let long : length row.stamps ≡ length keys = omega (arith, many, length-drop 1 (file_schema u).keys) in
    let limit : file.next_stamp ≤ 2 ^ 63 = subst (λ n. n ≤ 2 ^ 63) stands.stamp stands.few in
    let stored_many = stored_length (file_schema u) row (stamps_length keys) made.width in
    let size : old.end - stamps_length keys ≡ length row.bytes = omega (arith, end, stored_many) in
    record {
      row = row;
      at = record {
        is_row = row_is_first (file_schema u) file prime stands.sound ∙ leads.is_first;
        leads = ap (option_map (λ (e : PrimeEntry). e.place)) found ∙ ap Some (sym place);
        here = ap stands.slots place ∙ leads.here;
      };
      bytes = ap (λ n. take n (drop (stamps_length keys) slot)) size ∙ record_part (file_schema u) row (stamps_length keys) slot before made.width is;
      stamps = stamps ∙ ap (stamps_off keys) (is ∙ append_assoc (stamp_bytes keys row.stamps) row.bytes rest) ∙ stamps_back keys row.stamps (row.bytes ++ rest) file.next_stamp long parts.2 limit;
    }

-- there is no such row
pub none_is : (u : OpenFile) (pages : PageMap) (file : File) (stands : Stands u pages file) (prime : List ℕ) → find (has_prime prime) (prime_entries (file_schema u) stands.places file.rows) ≡ None → row_of (file_schema u) prime file ≡ None
none_is u pages file stands prime none =
    row_is_first (file_schema u) file prime stands.sound ∙ no_entry (file_schema u) stands.slots prime stands.places file.rows stands.placed.rows_at none

-- its bytes and stamps are the row's
pub old_at : (schema : Schema) (slots : Slots) (primes : List PrimeEntry) (file : File) (prime slot bytes : List ℕ) (old : OldRecord) → IsOld schema slots primes file prime slot old
    → bytes ≡ slice_range slot (stamps_length (drop 1 schema.keys)) old.end → IsOldAt schema slots primes file prime old.place (row_with bytes old.stamps.items)
old_at schema slots primes file prime slot bytes old is same =
    let one = same ∙ is.bytes in
    let two = is.stamps in
    let row : row_with bytes old.stamps.items ≡ is.row = (λ i. record { bytes = one i; stamps = two i }) in
    subst (λ r. IsOldAt schema slots primes file prime old.place r) (sym row) is.at
