-- The row of a prime value, by the prime index and the heap.
use Rattle.std.proofs.Common.{◌≡◌, ℕ, true, List, length, drop, Option, Some, None, refl, ap, sym, subst, ◌∙◌}
use Rattle.std.specs.Prelude.{find, Ok, option_map}
use Rattle.std.proofs.lemmas.Bool.{and_parts}
use Rattle.record_layout.specs.Schema.{Schema}
use Rattle.indexed_file.specs.File.{Row, File}
use Rattle.indexed_file.specs.Rank.{has_value}
use Rattle.indexed_file.specs.Change.{row_of}
use Rattle.indexed_file.specs.Sound.{is_row}
use Rattle.pages.specs.PageMap.{PageMap}
use Rattle.key_index.specs.declared.entry.PrimeEntry.{PrimeEntry}
use Rattle.record_heap.specs.declared.shape.Place.{Place}
use Rattle.record_heap.specs.Standing.{HeapStands, slot_shape}
use Rattle.key_index.specs.Entries.{has_prime}
use Rattle.open_file.specs.declared.open_file.OpenFile.{OpenFile}
use Rattle.open_file.specs.InOrder.{prime_entries}
use Rattle.open_file.specs.Stands.{Stands}
use Rattle.open_file.specs.Parts.{heap_pages}
use Rattle.open_file.specs.Stored.{stamps_length}
use Rattle.open_file.specs.Reading.{IsRowAt, ReadsRow}
use Rattle.open_file.proofs.OrderLemmas.{from_some, unmapped}
use Rattle.open_file.proofs.PlaceLemmas.{entry_leads, no_entry, find_each}
use Rattle.open_file.proofs.RowLemmas.{row_is_first, each_row}
use Rattle.open_file.proofs.LengthLemmas.{is_made}

pub record PlaceOf (u : OpenFile) (pages : PageMap) (file : File) (value : List ℕ) (place : Place) : Type 0 where
  pub row : Row
  pub is_row : row_of u.schema value file ≡ Some row
  pub at : IsRowAt u.schema u.heap (slot_shape u.heap).stamps pages place row

place_of_row : (u : OpenFile) (pages after : PageMap) → (slot_shape u.heap).stamps ≡ stamps_length (drop 1 u.schema.keys) → after ≡ pages → (file : File) (stands : Stands u pages file) (value : List ℕ) (entry : PrimeEntry)
    → find (has_prime value) (prime_entries u.schema stands.places file.rows) ≡ Some entry → PlaceOf u after file value entry.place
place_of_row u pages after stamps same file stands value entry found =
    let leads = entry_leads u.schema stands.slots value stands.places file.rows entry stands.placed.rows_at found in
    let made = is_made u.schema file.next_stamp leads.row (find_each (λ row. is_row u.schema file.next_stamp row ≡ true) (has_value u.schema 0 value) file.rows leads.row
    (each_row u.schema file.next_stamp file.rows (and_parts _ _ stands.sound).1) leads.is_first) in
    record {
      row = leads.row;
      is_row = row_is_first u.schema file value stands.sound ∙ leads.is_first;
      at = record {
        slots = stands.slots;
        own = heap_pages stands.parts.owns;
        stands = subst (λ p. HeapStands u.heap p stands.slots (heap_pages stands.parts.owns)) (sym same) stands.parts.heap_stands;
        here = leads.here;
        width = made.width ∙ sym stamps;
        short = made.short;
      };
    }

-- the row at the place that the prime index tells
pub row_at_place : (u : OpenFile) (pages after : PageMap) → (slot_shape u.heap).stamps ≡ stamps_length (drop 1 u.schema.keys) → after ≡ pages → (file : File) (stands : Stands u pages file) (value : List ℕ) (place : Place)
    → option_map (λ e. e.place) (find (has_prime value) (prime_entries u.schema stands.places file.rows)) ≡ Some place → PlaceOf u after file value place
row_at_place u pages after stamps same file stands value place told = from_entry (find (has_prime value) (prime_entries u.schema stands.places file.rows)) refl told
  where
    from_entry : (o : Option PrimeEntry) → find (has_prime value) (prime_entries u.schema stands.places file.rows) ≡ o → option_map (λ e. e.place) o ≡ Some place → PlaceOf u after file value place
    from_entry None is told = absurd (cc)
    from_entry (Some entry) is told = subst (λ (p : Place). PlaceOf u after file value p) (from_some _ _ told) (place_of_row u pages after stamps same file stands value entry is)

pub no_row : (u : OpenFile) (pages : PageMap) (file : File) (stands : Stands u pages file) (value old : List ℕ) → option_map (λ e. e.place) (find (has_prime value) (prime_entries u.schema stands.places file.rows)) ≡ None
    → ReadsRow (Ok None) (option_map (λ row. length row.bytes) (row_of u.schema value file)) old old (row_of u.schema value file)
no_row u pages file stands value old none =
    let nowhere = unmapped (λ (e : PrimeEntry). e.place) _ none in
    let missing = row_is_first u.schema file value stands.sound
    ∙ no_entry u.schema stands.slots value stands.places file.rows stands.placed.rows_at nowhere in
    rw missing (record { answered = record { answer = refl; no_damage = tt }; area = refl })

pub found_row : (schema : Schema) (file : File) (value : List ℕ) (row : Row) → row_of schema value file ≡ Some row → (n : ℕ) (old new : List ℕ) → ReadsRow (Ok n) (length row.bytes) old new (Some row)
    → ReadsRow (Ok (Some n)) (option_map (λ row. length row.bytes) (row_of schema value file)) old new (row_of schema value file)
found_row schema file value row is n old new found = rw is (record { answered = record { answer = ap Some found.answered.answer; no_damage = tt }; area = found.area })
