-- What READ NEXT tells, by the first entry that the position admits.
use Rattle.std.proofs.Common.{◌≡◌, ◌≢◌, ℕ, true, false, List, length, drop, Option, Some, None, refl, ap, sym, subst, ◌∙◌, arith}
use Rattle.std.specs.Prelude.{find, option_map, Result, Ok, Err}
use Rattle.std.specs.Ordering.{is_gt, nat_cmp, ordering_then}
use Rattle.std.specs.declared.cmp.Ordering.{Ordering}
use Rattle.std.specs.declared.cmp.Ordering.TheVariants.{Less, Equal, Greater}
use Rattle.std.proofs.lemmas.Bool.{and_parts}
use Rattle.std.proofs.lemmas.Bool.Decides.{nat_tests}
use Rattle.std.proofs.lemmas.Grind.{common_steps}
use Rattle.arrayvec.specs.ArrayVec.{ArrayVec}
use Rattle.io_state.specs.declared.fault.Fault.{Fault}
use Rattle.io_state.specs.declared.fault.Fault.TheVariants.{Damage}
use Rattle.io_state.specs.declared.position.Position.{Position}
use Rattle.io_state.specs.declared.position.Position.TheVariants.{Invalid, Missing, From, After}
use Rattle.record_layout.specs.Schema.{Schema, prime_of}
use Rattle.indexed_file.specs.File.{Row, File}
use Rattle.io_state.specs.Rank.{value_cmp}
use Rattle.indexed_file.specs.Rank.{least, admits}
use Rattle.indexed_file.specs.Sound.{is_row}
use Rattle.indexed_file.specs.Answers.{found_of}
use Rattle.indexed_file.specs.declared.answer.Found.{Found}
use Rattle.pages.specs.PageMap.{PageMap}
use Rattle.key_index.specs.declared.entry.PrimeEntry.{PrimeEntry}
use Rattle.key_index.specs.declared.entry.AltEntry.{AltEntry}
use Rattle.record_heap.specs.declared.shape.Place.{Place}
use Rattle.record_heap.specs.Standing.{HeapStands, slot_shape}
use Rattle.open_file.specs.declared.open_file.OpenFile.{OpenFile}
use Rattle.open_file.specs.InOrder.{in_order, alt_entry, alt_entries, prime_entries}
use Rattle.open_file.specs.Stored.{stamps_length}
use Rattle.open_file.specs.Parts.{heap_pages}
use Rattle.open_file.specs.Stands.{Stands}
use Rattle.open_file.specs.Reading.{ReadsRow, IsRowAt, IsEntryOfRow}
use Rattle.open_file.specs.Steps.{admits_prime, admits_alt}
use Rattle.open_file.proofs.RowLemmas.{least_is_first, each_row}
use Rattle.open_file.proofs.PlaceLemmas.{find_each}
use Rattle.open_file.proofs.LengthLemmas.{is_made}
use Rattle.open_file.proofs.FirstLemmas.{row_of_entry}
use Rattle.open_file.proofs.ByKeyLemmas.{prime_once, entry_is_of}
use Rattle.open_file.proofs.StartLemmas.{find_alike}
use Rattle.open_file.proofs.EntryLemmas.{prime_entry, prime_some, prime_none, alt_none}
use Rattle.open_file.proofs.SeekLemmas.{in_prime_order}

-- no row, and the area as it was
pub nothing_read : (schema : Schema) (k : ℕ) (file : File) (row : Option Row) (old : List ℕ) → row ≡ None
    → ReadsRow {X = Option Found} (Ok None) (option_map (found_of schema k file) row) old old row
nothing_read schema k file row old none = rw none (record { answered = record { answer = refl; no_damage = tt }; area = refl })

-- a row, in the area
pub row_read : (schema : Schema) (k : ℕ) (file : File) (found : Option Row) (row : Row) (told : Found) (old new : List ℕ) → found ≡ Some row
    → ReadsRow (Ok told) (found_of schema k file row) old new (Some row) → ReadsRow (Ok (Some told)) (option_map (found_of schema k file) found) old new found
row_read schema k file found row told old new is reads =
    rw is (record { answered = record { answer = ap Some reads.answered.answer; no_damage = tt }; area = reads.area })

-- ---- by an alternate key

same_alt : (schema : Schema) (k : ℕ) (position : Position) (row : Row) → admits schema k position row ≡ admits_alt position (alt_entry schema k row)
same_alt schema k Invalid row = refl
same_alt schema k Missing row = refl
same_alt schema k (From value) row = refl
same_alt schema k (After value stamp) row = refl

least_admitted : (schema : Schema) (k : ℕ) (position : Position) (file : File)
    → least schema k (admits schema k position) file ≡ find (λ row. admits_alt position (alt_entry schema k row)) (in_order schema k file.rows)
least_admitted schema k position file =
    least_is_first schema k (admits schema k position) file.rows
    ∙ find_alike (admits schema k position) (λ row. admits_alt position (alt_entry schema k row)) (same_alt schema k position) (in_order schema k file.rows)

pub alt_not_admitted : (schema : Schema) (k : ℕ) (position : Position) (file : File) → find (admits_alt position) (alt_entries schema k file.rows) ≡ None
    → least schema k (admits schema k position) file ≡ None
alt_not_admitted schema k position file none = least_admitted schema k position file ∙ alt_none schema k (admits_alt position) file.rows none

-- the entry leads to the row that comes next
record NextRow (schema : Schema) (k : ℕ) (position : Position) (file : File) (entry : AltEntry) : Type 0 where
  pub row : Row
  pub is_next : least schema k (admits schema k position) file ≡ Some row
  pub is_of : IsEntryOfRow schema k file entry row

alt_admitted : (opened : OpenFile) (pages : PageMap) (file : File) → Stands opened pages file → (k : ℕ) (position : Position) (entry : AltEntry)
    → find (admits_alt position) (alt_entries opened.schema k file.rows) ≡ Some entry → NextRow opened.schema k position file entry
alt_admitted opened pages file stands k position entry found =
    let schema = opened.schema in
    let r = row_of_entry schema k (admits_alt position) file.rows entry found in
    record {
      row = r.row;
      is_next = least_admitted schema k position file ∙ r.is_first;
      is_of = entry_is_of schema k file stands.sound (λ row. admits_alt position (alt_entry schema k row)) entry r;
    }

-- what is read of the row of an entry
abbrev pub ReadsOf : OpenFile → ℕ → File → AltEntry → Result Found Fault → List ℕ → List ℕ → Type 0
ReadsOf opened k file entry result old new =
    (row : Row) → IsEntryOfRow opened.schema k file entry row → ReadsRow result (found_of opened.schema k file row) old new (Some row)

module _ (opened after : OpenFile) (k : ℕ) (rest : after ≡ record opened { path = after.path }) (pages : PageMap) (file : File) (stands : Stands opened pages file) (position : Position) (entry : AltEntry)
    (found : find (admits_alt position) (alt_entries opened.schema k file.rows) ≡ Some entry) (old new : List ℕ) where
  -- another path changes nothing of it
  delivered : (row : Row) (result : Result Found Fault) → IsEntryOfRow opened.schema k file entry row → ReadsOf after k file entry result old new → ReadsRow result (found_of opened.schema k file row) old new (Some row)
  delivered row result is_of reads = subst (λ (o : OpenFile). ReadsOf o k file entry result old new) rest reads row is_of

  pub alt_read : (answer : Found) → ReadsOf after k file entry (Ok answer) old new
      → ReadsRow (Ok (Some answer)) (option_map (found_of opened.schema k file) (least opened.schema k (admits opened.schema k position) file)) old new (least opened.schema k (admits opened.schema k position) file)
  alt_read answer reads =
      let next = alt_admitted opened pages file stands k position entry found in
      row_read opened.schema k file (least opened.schema k (admits opened.schema k position) file) next.row answer old new next.is_next
      (delivered next.row (Ok answer) next.is_of reads)

  pub alt_not_read : (fault : Fault) → ReadsOf after k file entry (Err fault) old new → fault ≢ Damage
  alt_not_read fault reads =
      let next = alt_admitted opened pages file stands k position entry found in
      (delivered next.row (Err fault) next.is_of reads).answered.no_damage

-- ---- by the prime key, in which every stamp is 0

no_stamp : (o : Ordering) (stamp : ℕ) → is_gt o ≡ is_gt (ordering_then o (nat_cmp 0 stamp))
no_stamp Less stamp = refl
no_stamp Equal stamp = not_above
  where
    not_above : false ≡ is_gt (nat_cmp 0 stamp)
    not_above = grind (arith, common_steps, nat_tests)
no_stamp Greater stamp = refl

same_prime : (schema : Schema) (position : Position) (place : Place) (row : Row) → admits_prime position (prime_entry schema place row) ≡ admits schema 0 position row
same_prime schema Invalid place row = refl
same_prime schema Missing place row = refl
same_prime schema (From value) place row = refl
same_prime schema (After value stamp) place row = no_stamp (value_cmp (prime_of schema row.bytes) value.items) stamp

pub prime_not_admitted : (opened : OpenFile) (pages : PageMap) (file : File) (stands : Stands opened pages file) (position : Position)
    → find (admits_prime position) (prime_entries opened.schema stands.places file.rows) ≡ None → least opened.schema 0 (admits opened.schema 0 position) file ≡ None
prime_not_admitted opened pages file stands position none =
    let schema = opened.schema in
    least_is_first schema 0 (admits schema 0 position) file.rows
    ∙ in_prime_order schema file (admits schema 0 position) stands.sound
    ∙ prime_none schema stands.slots (admits_prime position) (admits schema 0 position) (same_prime schema position) stands.places file.rows stands.placed.rows_at none

-- the entry leads to the row that comes next, which stands at its place
pub record NextAt (opened after : OpenFile) (now : PageMap) (position : Position) (file : File) (entry : PrimeEntry) : Type 0 where
  pub row : Row
  pub is_next : least opened.schema 0 (admits opened.schema 0 position) file ≡ Some row
  pub value : entry.value.items ≡ prime_of opened.schema row.bytes
  pub at : IsRowAt after.schema after.heap (slot_shape after.heap).stamps now entry.place row

pub prime_admitted : (opened after : OpenFile) (pages now : PageMap) (file : File) (stands : Stands opened pages file) (position : Position) (entry : PrimeEntry)
    → after ≡ record opened { path = after.path } → (slot_shape opened.heap).stamps ≡ stamps_length (drop 1 opened.schema.keys) → now ≡ pages
    → find (admits_prime position) (prime_entries opened.schema stands.places file.rows) ≡ Some entry → NextAt opened after now position file entry
prime_admitted opened after pages now file stands position entry rest stamps same found =
    let schema = opened.schema in
    let leads = prime_some schema stands.slots (admits_prime position) (admits schema 0 position) (same_prime schema position) stands.places file.rows entry stands.placed.rows_at found in
    let each = each_row schema file.next_stamp file.rows (and_parts _ _ stands.sound).1 in
    let made = is_made schema file.next_stamp leads.row (find_each (λ row. is_row schema file.next_stamp row ≡ true) (admits schema 0 position) file.rows leads.row each leads.is_first) in
    let at : IsRowAt schema opened.heap (slot_shape opened.heap).stamps now entry.place leads.row = record {
      slots = stands.slots;
      own = heap_pages stands.parts.owns;
      stands = subst (λ (p : PageMap). HeapStands opened.heap p stands.slots (heap_pages stands.parts.owns)) (sym same) stands.parts.heap_stands;
      here = leads.here;
      width = made.width ∙ sym stamps;
      short = made.short;
    } in
    record {
      row = leads.row;
      is_next = least_is_first schema 0 (admits schema 0 position) file.rows ∙ in_prime_order schema file (admits schema 0 position) stands.sound ∙ leads.is_first;
      value = leads.value;
      at = subst (λ (o : OpenFile). IsRowAt o.schema o.heap (slot_shape o.heap).stamps now entry.place leads.row) (sym rest) at;
    }

-- what is told of it
pub prime_told : (schema : Schema) (file : File) (row : Row) (value : ArrayVec ℕ) (n : ℕ) (old new : List ℕ) → value.items ≡ prime_of schema row.bytes
    → ReadsRow (Ok n) (length row.bytes) old new (Some row)
    → ReadsRow (Ok (record { key = value; stamp = 0; repeated = false; length = n })) (found_of schema 0 file row) old new (Some row)
prime_told schema file row value n old new same reads =
    let once = sym (prime_once schema row file) in
    record {
      answered = record { answer = λ i. record { key = record { items = same i }; stamp = 0; repeated = once i; length = reads.answered.answer i }; no_damage = tt };
      area = reads.area;
    }
