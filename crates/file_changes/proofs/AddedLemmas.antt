-- An open file to whose parts a new record was added stands for the file with it.
use Rattle.std.proofs.Common.{◌≡◌, ℕ, ◌+◌, ◌≤◌, ◌<◌, ◌^◌, Bool, true, false, List, [], ◌∷◌, length, Option, Some, None, refl, ap, sym, ◌∙◌, arith}
use Rattle.std.specs.Prelude.{find, is_some, option_map, slice_index_or, nat_lt, ◌&&◌, not, bytes_eq, ◌==◌}
use Rattle.std.specs.List.{list_any}
use Rattle.std.proofs.lemmas.Bool.{and_from, or_parts, le-leb}
use Rattle.std.proofs.lemmas.Grind.{common_steps}
use Rattle.record_layout.specs.declared.schema.KeyPart.{KeyPart}
use Rattle.record_layout.specs.Schema.{Schema, IsSchema, AreKeys, prime_of, value_of, is_duplicates, has_duplicates, no_key}
use Rattle.indexed_file.specs.File.{Row, File, stamp_of}
use Rattle.indexed_file.specs.Change.{clashes, is_there, added, new_row}
use Rattle.indexed_file.specs.Sound.{is_file, is_length}
use Rattle.indexed_file.proofs.SoundLemmas.{added_is_file}
use Rattle.pages.specs.Each.{Each}
use Rattle.pages.specs.PageMap.{PageMap}
use Rattle.record_heap.specs.declared.shape.Place.{Place}
use Rattle.record_heap.specs.Chain.{put_slot}
use Rattle.record_heap.proofs.ChainLemmas.{put_here, put_there}
use Rattle.key_index.specs.Entries.{with_alt, with_prime, has_rank, has_prime}
use Rattle.open_file.specs.Fields.{alternates_of, heap_of, next_stamp_of, path_of, prime_index_of}
use Rattle.open_file.specs.Fields.{file_schema, with_alternates_of, with_heap_of, with_mark, with_prime_of}
use Rattle.open_file.specs.InOrder.{in_order, alt_entry, alt_entries, prime_entries}
use Rattle.open_file.specs.Stored.{stored}
use Rattle.open_file.specs.Parts.{Parts}
use Rattle.open_file.specs.Stands.{Stands, IsShaped}
use Rattle.file_changes.specs.Adding.{added_below, entry_of_record, stamp_in, AreFree}
use Rattle.open_file.specs.declared.open_file.OpenFile.{OpenFile}
use Rattle.open_file.proofs.ByKeyLemmas.{in_order_each}
use Rattle.open_file.proofs.RepeatLemmas.{find_mapped}
use Rattle.open_file.proofs.FirstLemmas.{there_by_prime}
use Rattle.open_file.proofs.PartsLemmas.{said_so, each_map}
use Rattle.file_changes.proofs.RankLemmas.{same_rank, new_rank, new_stamp}
use Rattle.file_changes.proofs.InsertLemmas.{entries_inserted}
use Rattle.file_changes.proofs.PlacedLemmas.{places_with, prime_entries_with, placed_with}

-- the new record's entry in an alternate index
entry_is : (schema : Schema) (stamp : ℕ) (bytes : List ℕ) (j : ℕ) → j + 1 < length schema.keys → alt_entry schema (j + 1) (new_row schema stamp bytes) ≡ entry_of_record schema stamp bytes j
entry_is schema stamp bytes j lt =
    let same = new_stamp schema stamp bytes j lt in
    λ i. record { value = record { items = value_of schema (j + 1) bytes }; stamp = same i; prime = record { items = prime_of schema bytes } }

-- the entries of each alternate index, with the new one
said : (schema : Schema) (file : File) (bytes : List ℕ) (count j : ℕ) → IsSchema schema → is_file schema file ≡ true → clashes schema bytes file.rows ≡ false → length schema.keys ≡ count + 1 → j < count
    → alt_entries schema (j + 1) (added schema bytes file).rows ≡ added_below schema file.next_stamp bytes count (λ j. alt_entries schema (j + 1) file.rows) j
said schema file bytes count j is sound clash many lt =
    let within : j + 1 < length schema.keys = omega (arith, lt, many) in
    let new = new_row schema file.next_stamp bytes in
    let apart = new_rank schema file bytes (j + 1) is sound clash within in
    let below : nat_lt j count ≡ true = grind (arith, common_steps) in
    rw below (entries_inserted schema (j + 1) new file.rows apart
    ∙ ap (λ e. with_alt e (alt_entries schema (j + 1) file.rows)) (entry_is schema file.next_stamp bytes j within))

-- no alternate index has an entry of its rank
pub none_passes : {X : Type 0} (test : X → Bool) (xs : List X) → Each (λ x. test x ≡ false) xs → find test xs ≡ None
none_passes test [] h = refl
none_passes test (x ∷ xs) h = rw h.0 (none_passes test xs h.1)

pub free_rank : (schema : Schema) (file : File) (bytes : List ℕ) (count : ℕ) → IsSchema schema → is_file schema file ≡ true → clashes schema bytes file.rows ≡ false → length schema.keys ≡ count + 1
    → AreFree schema file.next_stamp bytes count (λ j. alt_entries schema (j + 1) file.rows)
free_rank schema file bytes count is sound clash many j lt =
    let within : j + 1 < length schema.keys = omega (arith, lt, many) in
    let new = new_row schema file.next_stamp bytes in
    let v = value_of schema (j + 1) bytes in
    let s = stamp_in schema file.next_stamp j in
    let stamp = new_stamp schema file.next_stamp bytes j within in
    let apart = new_rank schema file bytes (j + 1) is sound clash within in
    let told = each_map (λ row. same_rank schema (j + 1) row new ≡ false) (λ row. has_rank v s (alt_entry schema (j + 1) row) ≡ false)
    (λ row h. ap (λ t. bytes_eq (value_of schema (j + 1) row.bytes) v && (stamp_of (j + 1) row == t)) (sym stamp) ∙ h) file.rows apart in
    find_mapped (alt_entry schema (j + 1)) (has_rank v s) (in_order schema (j + 1) file.rows)
    ∙ ap (option_map (alt_entry schema (j + 1))) (none_passes (λ row. has_rank v s (alt_entry schema (j + 1) row)) (in_order schema (j + 1) file.rows)
    (in_order_each schema (j + 1) (λ row. has_rank v s (alt_entry schema (j + 1) row) ≡ false) file.rows told))

-- the prime index has no entry of its value
none_found : {X : Type 0} (o : Option X) → is_some o ≡ false → o ≡ None
none_found o e = grind (arith, common_steps)

first_free : (keys : List KeyPart) (d : KeyPart) (bytes : List ℕ) (rows : List Row) → AreKeys keys → list_any (λ part. not (has_duplicates part) && is_there part bytes rows) keys ≡ false → is_there (slice_index_or keys 0 d) bytes rows ≡ false
first_free [] d bytes rows are none = absurd are
first_free (prime ∷ keys) d bytes rows are none =
    ap (λ b. not b && is_there prime bytes rows) (sym (ap is_duplicates are.0)) ∙ (or_parts _ _ none).0

pub free_prime : (u : OpenFile) (pages : PageMap) (file : File) (bytes : List ℕ) (stands : Stands u pages file) → IsSchema (file_schema u) → clashes (file_schema u) bytes file.rows ≡ false
    → find (has_prime (prime_of (file_schema u) bytes)) (prime_entries (file_schema u) stands.places file.rows) ≡ None
free_prime u pages file bytes stands is clash =
    let d : KeyPart = no_key in
    none_found _ (sym (there_by_prime (file_schema u) stands.slots (prime_of (file_schema u) bytes) stands.places file.rows stands.placed.rows_at) ∙ first_free (file_schema u).keys d bytes file.rows is.keys clash)

-- the parts with the new record stand for the file with it
pub added_stands : (u v : OpenFile) (before after : PageMap) (file : File) (bytes : List ℕ) (place : Place) (stands : Stands u before file) → IsShaped u → (file_schema u).least ≤ length bytes → length bytes ≤ (file_schema u).greatest
    → clashes (file_schema u) bytes file.rows ≡ false → file_schema v ≡ file_schema u → next_stamp_of v ≡ next_stamp_of u + 1 → next_stamp_of u < 2 ^ 63 → path_of v ≡ None → length (alternates_of v) ≡ length (alternates_of u)
    → stands.slots place ≡ None
    → Parts (heap_of v) (prime_index_of v) (alternates_of v) after (put_slot stands.slots place (Some (stored (file_schema u) (new_row (file_schema u) (next_stamp_of u) bytes))))
    (with_prime (record { value = record { items = prime_of (file_schema u) bytes }; place = place }) (prime_entries (file_schema u) stands.places file.rows))
    (added_below (file_schema u) (next_stamp_of u) bytes (length (alternates_of u)) (λ j. alt_entries (file_schema u) (j + 1) file.rows))
    → Stands v after (added (file_schema u) bytes file)
added_stands u v before after file bytes place stands shaped least greatest clash schema stamp few path many free parts =
    let new = new_row (file_schema u) file.next_stamp bytes in
    let slot = Some (stored (file_schema u) (new_row (file_schema u) (next_stamp_of u) bytes)) in
    let fit : is_length (file_schema u) (length bytes) ≡ true = and_from _ _ (le-leb _ _ least) (le-leb _ _ greatest) in
    let sound = added_is_file (file_schema u) bytes file shaped.is_schema stands.sound fit clash in
    let here = put_here stands.slots place slot ∙ ap (λ s. Some (stored (file_schema u) (new_row (file_schema u) s bytes))) stands.stamp in
    let placed = placed_with (file_schema u) stands.slots (put_slot stands.slots place slot) new place stands.places file.rows free here (λ p other. put_there stands.slots place p slot other) stands.placed in
    let parts_said = said_so (heap_of v) (prime_index_of v) (alternates_of v) after (put_slot stands.slots place slot) _ _ parts
    (prime_entries (file_schema u) (places_with (file_schema u) new place stands.places file.rows) (added (file_schema u) bytes file).rows)
    (λ j. alt_entries (file_schema u) (j + 1) (added (file_schema u) bytes file).rows)
    (prime_entries_with (file_schema u) stands.slots new place stands.places file.rows stands.placed.rows_at)
    (λ j lt. said (file_schema u) file bytes (length (alternates_of u)) j shaped.is_schema stands.sound clash shaped.keys (omega (arith, lt, many))
    ∙ ap (λ s. added_below (file_schema u) s bytes (length (alternates_of u)) (λ j. alt_entries (file_schema u) (j + 1) file.rows) j) (sym stands.stamp)) in
    record {
      sound = rw schema sound;
      stamp = stamp ∙ ap (λ n. n + 1) stands.stamp;
      few = omega (arith, stamp, few);
      places = places_with (file_schema u) new place stands.places file.rows;
      slots = put_slot stands.slots place slot;
      placed = rw schema placed;
      parts = rw schema parts_said;
      on_path = rw path tt;
    }

-- a file stands for the same rows whether it is broken or not
pub broken_or_not : (u : OpenFile) (b : Bool) (pages : PageMap) (file : File) → Stands u pages file → Stands (with_mark b u) pages file
broken_or_not u b pages file s =
    record { sound = s.sound; stamp = s.stamp; few = s.few; places = s.places; slots = s.slots; placed = s.placed; parts = s.parts; on_path = s.on_path }

-- ---- what the steps leave as it was

pub record Keeps (u v : OpenFile) : Type 0 where
  pub schema : file_schema v ≡ file_schema u
  pub stamp : next_stamp_of v ≡ next_stamp_of u
  pub path : path_of v ≡ path_of u

pub keeps_on : (u v w : OpenFile) → Keeps u v → Keeps v w → Keeps u w
keeps_on u v w one two = record { schema = two.schema ∙ one.schema; stamp = two.stamp ∙ one.stamp; path = two.path ∙ one.path }

pub but_heap : (u v : OpenFile) → v ≡ with_heap_of v u → Keeps u v × (prime_index_of v ≡ prime_index_of u) × (alternates_of v ≡ alternates_of u)
but_heap u v rest = (
  record { schema = ap file_schema rest; stamp = ap next_stamp_of rest; path = ap path_of rest },
  ap prime_index_of rest,
  ap alternates_of rest,
)

pub but_prime : (u v : OpenFile) → v ≡ with_prime_of v u → Keeps u v × (alternates_of v ≡ alternates_of u)
but_prime u v rest =
    (record { schema = ap file_schema rest; stamp = ap next_stamp_of rest; path = ap path_of rest }, ap alternates_of rest)

pub but_alternates : (u v : OpenFile) → v ≡ with_alternates_of v u → Keeps u v
but_alternates u v rest =
    record { schema = ap file_schema rest; stamp = ap next_stamp_of rest; path = ap path_of rest }
