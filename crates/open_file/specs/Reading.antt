-- What the calls answer that look for a row.
use Rattle.std.specs.Prelude.{◌≡◌, ℕ, ◌≤◌, Bool, List, length, drop, Option, None, Some, Result, Ok, OnOk}
use Rattle.std.specs.Prelude.{OnErr, IsTrue, option_map}
use Rattle.record_layout.specs.Schema.{Schema, key_at, value_of}
use Rattle.indexed_file.specs.File.{Row, File}
use Rattle.indexed_file.specs.Change.{row_of, is_there}
use Rattle.indexed_file.specs.Rank.{least, satisfies, highest_of, is_repeated, has_value, admits}
use Rattle.indexed_file.specs.Answers.{found_of, key_of_row, area_after}
use Rattle.indexed_file.specs.declared.answer.Found.{Found}
use Rattle.io_state.specs.declared.fault.Fault.{Fault}
use Rattle.io_state.specs.declared.position.Position.{Position}
use Rattle.io_state.specs.declared.modes.Relation.{Relation}
use Rattle.arrayvec.specs.ArrayVec.{ArrayVec}
use Rattle.pages.specs.PageMap.{PageMap}
use Rattle.pages.specs.Answer.{IsAnswer}
use Rattle.pages.specs.ShownPages.{ShownPages}
use Rattle.pages.specs.PageCalls.{ReadsPages}
use Rattle.key_index.specs.declared.entry.AltEntry.{AltEntry}
use Rattle.record_heap.specs.declared.shape.Place.{Place}
use Rattle.record_heap.specs.declared.heap.Heap.{Heap}
use Rattle.record_heap.specs.Chain.{Slots}
use Rattle.record_heap.specs.Standing.{HeapStands, slot_shape}
use Rattle.open_file.specs.Stored.{stored, stamp_bytes}
use Rattle.open_file.specs.InOrder.{alt_entry}
use Rattle.open_file.specs.Stands.{Stands}
use Rattle.open_file.specs.Asked.{OfHonestPages}
use Rattle.open_file.specs.declared.open_file.OpenFile.{OpenFile}

-- the answer, and the area with the record in its front; or as it was, where there is none
pub record ReadsRow {X : Type 0} (result : Result X Fault) (answer : X) (old new : List ℕ)
    (row : Option Row) : Type 0 where
  pub answered : IsAnswer result (λ x. x ≡ answer)
  pub area : OnOk result (new ≡ area_after old row)

-- the first row by key k that passes a test is told, and read into the area
abbrev pub Delivers : OpenFile → PageMap → ℕ → (Row → Bool) → List ℕ → List ℕ → Result (Option Found) Fault
    → Type 0
Delivers opened pages k test old new result =
    (file : File) → Stands opened pages file
    → ReadsRow result (option_map (found_of opened.schema k file) (least opened.schema k test file)) old
    new (least opened.schema k test file)

-- a call that looks for that row: what it delivers where no wrong answer of the device was taken as
-- true, and that the area stays where it tells of none, and at a fault
pub record FindsFirst (is_honest : Bool) (opened : OpenFile) (pages : PageMap) (k : ℕ) (test : Row → Bool)
    (old new : List ℕ)
    (result : Result (Option Found) Fault) : Type 0 where
  pub found : IsTrue is_honest → Delivers opened pages k test old new result
  pub none : result ≡ Ok None → new ≡ old
  pub kept : OnErr result (new ≡ old)

-- the same of pages before and after it
abbrev pub FindsIn : {S : Type 0} → ShownPages S → S → S → OpenFile → ℕ → (Row → Bool) → List ℕ → List ℕ
    → Result (Option Found) Fault → Type 0
FindsIn shown before after opened k test old new result =
    FindsFirst (shown.state after).is_honest opened (shown.state before).live k test old new result

-- a call that looks for the first row whose key k has a value
abbrev pub FindsByValue : {S : Type 0} → ShownPages S → OpenFile → ℕ → List ℕ → (before after : S)
    → (old new : List ℕ) → Result (Option Found) Fault → Type 0
FindsByValue shown opened k value before after old new result =
    FindsIn shown before after opened k (has_value opened.schema k value) old new result

-- a call that looks for the first row by key k that a position admits
abbrev pub FindsNext : {S : Type 0} → ShownPages S → OpenFile → ℕ → Position → (before after : S)
    → (old new : List ℕ) → Result (Option Found) Fault → Type 0
FindsNext shown opened k position before after old new result =
    FindsIn shown before after opened k (admits opened.schema k position) old new result

-- the full value of key k of the first row whose value begins so related to the operand
abbrev pub Seeks : OpenFile → PageMap → ℕ → Relation → List ℕ → Result (Option (ArrayVec ℕ)) Fault → Type 0
Seeks opened pages k relation operand result =
    (file : File) → Stands opened pages file
    → IsAnswer result (λ key. key ≡ option_map (key_of_row opened.schema k)
    (least opened.schema k (satisfies opened.schema k relation operand) file))

-- the row stands at this place of the heap
pub record IsRowAt (schema : Schema) (heap : Heap) (stamps : ℕ) (pages : PageMap) (place : Place)
    (row : Row) : Type 0 where
  pub slots : Slots
  pub own : List ℕ
  pub stands : HeapStands heap pages slots own
  pub here : slots place ≡ Some (stored schema row)
  pub width : length (stamp_bytes (drop 1 schema.keys) row.stamps) ≡ stamps
  pub short : length row.bytes ≤ schema.greatest

-- the entry is that of the row in alternate index k, and the row is the one of its prime value
pub record IsEntryOfRow (schema : Schema) (k : ℕ) (file : File) (entry : AltEntry) (row : Row) : Type 0 where
  pub is_entry : entry ≡ alt_entry schema k row
  pub is_row : row_of schema entry.prime.items file ≡ Some row

-- the row at this place of the heap is read: its length is the answer
abbrev pub ReadsAtPlace : {S : Type 0} → ShownPages S → OpenFile → Place → (before after : S)
    → (old new : List ℕ) → Result ℕ Fault → Type 0
ReadsAtPlace shown opened place before after old new result = OfHonestPages shown before after (λ live.
    (row : Row) → IsRowAt opened.schema opened.heap (slot_shape opened.heap).stamps live place row
    → ReadsRow result (length row.bytes) old new (Some row))

-- the row of a prime value is read, where there is one
abbrev pub ReadsByPrime : {S : Type 0} → ShownPages S → OpenFile → List ℕ → (before after : S)
    → (old new : List ℕ) → Result (Option ℕ) Fault → Type 0
ReadsByPrime shown opened prime before after old new result = OfHonestPages shown before after (λ live.
    (file : File) → Stands opened live file
    → ReadsRow result (option_map (λ row. length row.bytes) (row_of opened.schema prime file)) old new
    (row_of opened.schema prime file))

-- the row of an entry of alternate index k is told and read
abbrev pub ReadsByEntry : {S : Type 0} → ShownPages S → OpenFile → ℕ → AltEntry → (before after : S)
    → (old new : List ℕ) → Result Found Fault → Type 0
ReadsByEntry shown opened k entry before after old new result = OfHonestPages shown before after (λ live.
    (file : File) → Stands opened live file → (row : Row) → IsEntryOfRow opened.schema k file entry row
    → ReadsRow result (found_of opened.schema k file row) old new (Some row))

-- the same, where it is known whether a later row has the entry's value
abbrev pub TellsByEntry : {S : Type 0} → ShownPages S → OpenFile → AltEntry → Bool → (before after : S)
    → (old new : List ℕ) → Result Found Fault → Type 0
TellsByEntry shown opened entry told before after old new result = OfHonestPages shown before after (λ live.
    (file : File) → Stands opened live file → (k : ℕ) (row : Row)
    → IsEntryOfRow opened.schema k file entry row
    → told ≡ is_repeated opened.schema k row file
    → ReadsRow result (found_of opened.schema k file row) old new (Some row))

-- what a call keeps that reads a record into the area: why it gave up, how many pages it asked for
-- at most, that it left them, and that the area stays at a fault
pub record ReadsInto {S X : Type 0} (shown : ShownPages S) (most : ℕ) (before after : S) (old new : List ℕ)
    (result : Result X Fault) : Type 0 where
  pub reads : ReadsPages shown most before after result
  pub kept : OnErr result (new ≡ old)

-- the greatest prime value
abbrev pub TellsHighest : OpenFile → PageMap → Result (Option (ArrayVec ℕ)) Fault → Type 0
TellsHighest opened pages result =
    (file : File) → Stands opened pages file → IsAnswer result
    (λ key. option_map (λ key. key.items) key ≡ highest_of opened.schema file.rows)

-- whether some row has the value of key k that this record has
abbrev pub TellsThere : OpenFile → PageMap → ℕ → List ℕ → Result Bool Fault → Type 0
TellsThere opened pages k bytes result =
    (file : File) → Stands opened pages file → IsAnswer result
    (λ found. found ≡ is_there (key_at opened.schema k) bytes file.rows)

-- the same, by the value alone
abbrev pub TellsValueThere : OpenFile → PageMap → ℕ → List ℕ → Result Bool Fault → Type 0
TellsValueThere opened pages k value result =
    (file : File) (bytes : List ℕ) → Stands opened pages file → value ≡ value_of opened.schema k bytes
    → IsAnswer result (λ found. found ≡ is_there (key_at opened.schema k) bytes file.rows)
