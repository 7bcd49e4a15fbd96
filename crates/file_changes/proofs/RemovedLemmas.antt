-- An open file from whose parts a row was taken out stands for the file without it.
use Rattle.std.proofs.Common.{◌≡◌, ℕ, ◌+◌, ◌<◌, true, false, List, length, Option, Some, None, ap, sym, subst, ◌∙◌, arith}
use Rattle.std.specs.Prelude.{find, is_some, IsSome, option_map, nat_lt, nat_le}
use Rattle.std.proofs.lemmas.Bool.{and_parts}
use Rattle.std.proofs.lemmas.Grind.{common_steps}
use Rattle.record_layout.specs.Schema.{Schema, prime_of}
use Rattle.indexed_file.specs.File.{Row, File}
use Rattle.indexed_file.specs.Rank.{has_value}
use Rattle.indexed_file.specs.Change.{row_of, removed, others}
use Rattle.indexed_file.specs.Sound.{is_file, is_row, are_rows}
use Rattle.indexed_file.proofs.SoundLemmas.{removed_is_file}
use Rattle.pages.specs.PageMap.{PageMap}
use Rattle.key_index.specs.declared.entry.PrimeEntry.{PrimeEntry}
use Rattle.key_index.specs.Entries.{without_prime}
use Rattle.record_heap.specs.declared.shape.Place.{Place}
use Rattle.record_heap.specs.Chain.{put_slot}
use Rattle.open_file.specs.Fields.{alternates_of, heap_of, next_stamp_of, path_of, prime_index_of, file_schema, with_parts_of, without_path}
use Rattle.open_file.specs.InOrder.{alt_entries, prime_entries}
use Rattle.open_file.specs.Parts.{Parts}
use Rattle.open_file.specs.Stands.{Stands, IsShaped}
use Rattle.file_changes.specs.Old.{IsOldAt}
use Rattle.indexed_file.specs.FileChange.{removal}
use Rattle.file_changes.specs.Changes.{HasChanged}
use Rattle.file_changes.specs.Removing.{HasRowAndEntries, without_below}
use Rattle.open_file.specs.declared.open_file.OpenFile.{OpenFile}
use Rattle.open_file.proofs.FirstLemmas.{first_passes, same_bytes}
use Rattle.open_file.proofs.RowLemmas.{row_is_first, each_row}
use Rattle.open_file.proofs.PlaceLemmas.{find_each}
use Rattle.open_file.proofs.PartsLemmas.{said_so}
use Rattle.file_changes.proofs.OneRowLemmas.{entries_left, entry_there}
use Rattle.file_changes.proofs.LeftLemmas.{places_left, prime_entries_left, placed_left}

pub file_rows : (schema : Schema) (file : File) → is_file schema file ≡ true → are_rows schema file.next_stamp file.rows ≡ true
file_rows schema file sound = (and_parts (nat_le 1 file.next_stamp) (are_rows schema file.next_stamp file.rows) sound).1

-- what is known of the row of a prime value
pub record IsOne (schema : Schema) (file : File) (prime : List ℕ) (row : Row) : Type 0 where
  pub first : find (has_value schema 0 prime) file.rows ≡ Some row
  pub has : has_value schema 0 prime row ≡ true
  pub same : prime_of schema row.bytes ≡ prime
  pub fit : is_row schema file.next_stamp row ≡ true

pub is_one : (schema : Schema) (file : File) (prime : List ℕ) (row : Row) → is_file schema file ≡ true → row_of schema prime file ≡ Some row → IsOne schema file prime row
is_one schema file prime row sound found =
    let first = sym (row_is_first schema file prime sound) ∙ found in
    let has = first_passes (has_value schema 0 prime) file.rows row first in
    record {
      first = first;
      has = has;
      same = same_bytes (prime_of schema row.bytes) prime has;
      fit = find_each (λ r. is_row schema file.next_stamp r ≡ true) (has_value schema 0 prime) file.rows row (each_row schema file.next_stamp file.rows (file_rows schema file sound)) first;
    }

some_place : (o : Option PrimeEntry) (place : Place) → option_map (λ (e : PrimeEntry). e.place) o ≡ Some place → IsSome o
some_place o place leads = grind (arith, common_steps)

-- the parts of a file have each of its rows
pub has_row : (u : OpenFile) (pages : PageMap) (file : File) (prime : List ℕ) (place : Place) (row : Row) (stands : Stands u pages file)
    → IsOldAt (file_schema u) stands.slots (prime_entries (file_schema u) stands.places file.rows) file prime place row
    → HasRowAndEntries (file_schema u) row place (length (alternates_of u)) stands.slots (prime_entries (file_schema u) stands.places file.rows) (λ j. alt_entries (file_schema u) (j + 1) file.rows)
has_row u pages file prime place row stands at =
    let one = is_one (file_schema u) file prime row stands.sound at.is_row in
    record {
      in_heap = ap is_some at.here;
      in_prime = rw one.same (some_place _ place at.leads);
      in_alternates = λ j lt. entry_there (file_schema u) (j + 1) prime row file.rows one.first;
    }

pub lt_is : (j n : ℕ) → j < n → nat_lt j n ≡ true
lt_is j n lt = grind (arith, common_steps)

-- as many as before
pub same_many : (u v : OpenFile) → IsShaped u → IsShaped v → file_schema v ≡ file_schema u → length (alternates_of v) ≡ length (alternates_of u)
same_many u v one two same = let l = ap (λ (s : Schema). length s.keys) same in omega (arith, l, one.keys, two.keys)

-- the parts without the row stand for the file without it
pub removed_stands : (u v : OpenFile) (before after : PageMap) (file : File) (prime : List ℕ) (place : Place) (row : Row) (stands : Stands u before file) → IsShaped u
    → IsOldAt (file_schema u) stands.slots (prime_entries (file_schema u) stands.places file.rows) file prime place row
    → file_schema v ≡ file_schema u → next_stamp_of v ≡ next_stamp_of u → path_of v ≡ None → length (alternates_of v) ≡ length (alternates_of u)
    → Parts (heap_of v) (prime_index_of v) (alternates_of v) after (put_slot stands.slots place None) (without_prime (prime_of (file_schema u) row.bytes) (prime_entries (file_schema u) stands.places file.rows))
    (without_below (file_schema u) row (length (alternates_of u)) (λ j. alt_entries (file_schema u) (j + 1) file.rows))
    → Stands v after (removed (file_schema u) prime file)
removed_stands u v before after file prime place row stands shaped at schema stamp path many parts =
    let one = is_one (file_schema u) file prime row stands.sound at.is_row in
    let rows = file_rows (file_schema u) file stands.sound in
    let left = places_left (file_schema u) prime stands.places file.rows in
    let placed = placed_left (file_schema u) stands.slots file.next_stamp prime row place stands.places file.rows one.fit one.has at.here at.leads rows stands.placed in
    let first : prime_entries (file_schema u) left (others (file_schema u) prime file) ≡ without_prime (prime_of (file_schema u) row.bytes) (prime_entries (file_schema u) stands.places file.rows) =
    sym (prime_entries_left (file_schema u) stands.slots prime stands.places file.rows stands.placed.rows_at) ∙ ap (λ p. without_prime p (prime_entries (file_schema u) stands.places file.rows)) (sym one.same) in
    let said = said_so (heap_of v) (prime_index_of v) (alternates_of v) after (put_slot stands.slots place None) _ _ parts (prime_entries (file_schema u) left (others (file_schema u) prime file))
    (λ j. alt_entries (file_schema u) (j + 1) (others (file_schema u) prime file)) first
    (λ j lt.
    let within : j < length (alternates_of u) = omega (arith, lt, many) in
    let key : j + 1 < length (file_schema u).keys = omega (arith, within, shaped.keys) in
    sym (rw (lt_is j (length (alternates_of u)) within) (entries_left (file_schema u) file.next_stamp (j + 1) prime row file.rows key rows one.first))) in
    record {
      sound = rw schema (removed_is_file (file_schema u) prime file stands.sound);
      stamp = stamp ∙ stands.stamp;
      few = rw stamp stands.few;
      places = left;
      slots = put_slot stands.slots place None;
      placed = rw schema placed;
      parts = rw schema said;
      on_path = rw path tt;
    }

-- the record was there, and is removed
pub has_removed : (u v : OpenFile) (before after : PageMap) (is_sound : Type 0) (file : File) (prime : List ℕ) (place : Place) (row : Row) (stands : Stands u before file) → IsShaped u → IsShaped v
    → IsOldAt (file_schema u) stands.slots (prime_entries (file_schema u) stands.places file.rows) file prime place row
    → v ≡ with_parts_of v (without_path u)
    → Parts (heap_of v) (prime_index_of v) (alternates_of v) after (put_slot stands.slots place None) (without_prime (prime_of (file_schema u) row.bytes) (prime_entries (file_schema u) stands.places file.rows))
    (without_below (file_schema u) row (length (alternates_of u)) (λ j. alt_entries (file_schema u) (j + 1) file.rows)) × is_sound
    → HasChanged (Stands v after) is_sound (removal (file_schema u) prime) file true
has_removed u v before after is_sound file prime place row stands one two at rest parts =
    let schema = ap file_schema rest in
    let stamp = ap next_stamp_of rest in
    let path = ap path_of rest in
    record {
      answers = sym (ap is_some at.is_row);
      stands = rw at.is_row (removed_stands u v before after file prime place row stands one at schema stamp path (same_many u v one two schema) parts.0);
      sound = parts.1;
    }

-- there was none
pub none_removed : (u : OpenFile) (before after : PageMap) (is_sound : Type 0) (file : File) (prime : List ℕ) → Stands u before file → after ≡ before → row_of (file_schema u) prime file ≡ None → is_sound
    → HasChanged (Stands u after) is_sound (removal (file_schema u) prime) file false
none_removed u before after is_sound file prime stands same none sound = record {
  answers = sym (ap is_some none);
  stands = rw none (subst (λ p. Stands u p file) (sym same) stands);
  sound = sound;
}
