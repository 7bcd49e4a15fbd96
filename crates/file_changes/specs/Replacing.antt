-- What replacing a record makes of an open file.
use Rattle.std.specs.Prelude.{◌≡◌, ℕ, ◌+◌, ◌*◌, ◌<◌, ◌≤◌, ◌^◌, ◌||◌, ◌&&◌, Bool, true, false, not, List, ◌++◌}
use Rattle.std.specs.Prelude.{length, map, drop, find, bytes_eq, nat_lt, nat_le, sum_by, IsSome, IsTrue}
use Rattle.std.specs.Prelude.{IsFalse, None, Some, Result, Err, IfOk, OnOk, if◌then◌else◌}
use Rattle.io_state.specs.declared.fault.Fault.{Fault}
use Rattle.io_state.specs.declared.fault.Fault.TheVariants.{Full}
use Rattle.record_layout.specs.Schema.{Schema, key_at, value_of, prime_of}
use Rattle.indexed_file.specs.File.{Row, File, stamp_of}
use Rattle.indexed_file.specs.Change.{takes_stamp, changed_row, is_there, row_of}
use Rattle.indexed_file.specs.Answers.{replaced_answer_at}
use Rattle.indexed_file.specs.declared.answer.Replaced.{Replaced}
use Rattle.indexed_file.specs.FileChange.{replacement, is_replaced, has_room_for, LacksRoomFor}
use Rattle.pages.specs.Answer.{IsAnswer}
use Rattle.pages.specs.ShownPages.{ShownPages}
use Rattle.indexed_file.specs.Room.{need_of_changed}
use Rattle.key_index.specs.declared.entry.AltEntry.{AltEntry}
use Rattle.key_index.specs.declared.alt_index.AltIndex.{AltIndex}
use Rattle.key_index.specs.Entries.{has_rank, with_alt, without_rank}
use Rattle.key_index.specs.Standing.{alt_height}
use Rattle.file_changes.specs.Adding.{stamp_in, entry_of_record, index_levels}
use Rattle.record_heap.specs.declared.shape.Place.{Place}
use Rattle.record_heap.specs.Chain.{Slots, put_slot}
use Rattle.record_heap.specs.Standing.{slot_shape}
use Rattle.open_file.specs.Fields.{alternates_of, has_broken, heap_of, next_stamp_of, file_schema}
use Rattle.open_file.specs.Fields.{with_alternates_of, with_next_stamp, without_path}
use Rattle.open_file.specs.Stored.{stored}
use Rattle.open_file.specs.Parts.{but_at}
use Rattle.open_file.specs.Stands.{Stands, IsShaped, heights_of, room_of}
use Rattle.open_file.specs.declared.open_file.OpenFile.{OpenFile}
use Rattle.file_changes.specs.Changes.{HasChanged}
use Rattle.file_changes.specs.Contents.{Contents, PartsStep, TakesStep}
use Rattle.file_changes.specs.InPages.{FileInPages, in_pages, shown_in}
use Rattle.file_changes.specs.Old.{row_with, IsFoundIn}
use Rattle.file_changes.specs.Steps.{CanLookFor, CanChangeWith, CanStore, IsRowOf, HasRoomFor, HaveEachKey}
use Rattle.file_changes.specs.Steps.{AnswersFor}
use Rattle.file_changes.specs.Removing.{AreThere}
use Rattle.file_changes.specs.declared.old_record.OldRecord.{OldRecord}

-- the value of alternate key j stays
abbrev pub stays : Schema → List ℕ → List ℕ → ℕ → Bool
stays schema old new j = bytes_eq (value_of schema (j + 1) old) (value_of schema (j + 1) new)

-- the pages that may be taken for the alternate indexes
abbrev pub need_in_indexes : Schema → List ℕ → List ℕ → List AltIndex → ℕ
need_in_indexes schema old new indexes = need_of_changed (drop 1 schema.keys) old new (map alt_height indexes)

-- the entries of alternate index j but that of the old row
abbrev pub freed : Schema → Row → ℕ → List AltEntry → List AltEntry
freed schema old j entries = without_rank (value_of schema (j + 1) old.bytes) (stamp_of (j + 1) old) entries

-- they have none of the new value and stamp, where the value changes
abbrev pub AreFreed : Schema → ℕ → Row → List ℕ → ℕ → (ℕ → List AltEntry) → Type 0
AreFreed schema stamp old bytes count entries = (j : ℕ) → j < count → IsFalse (stays schema old.bytes bytes j)
    → find (has_rank (value_of schema (j + 1) bytes) (stamp_in schema stamp j))
    (freed schema old j (entries j)) ≡ None

-- where the value of a key stays, its index has the entries that it had; else the new record's in
-- the place of the old row's
abbrev pub changed_in : Schema → ℕ → Row → List ℕ → ℕ → List AltEntry → List AltEntry
changed_in schema stamp old bytes j entries =
    if stays schema old.bytes bytes j then entries else with_alt (entry_of_record schema stamp bytes j)
    (freed schema old j entries)

-- the alternate indexes below i have changed, and the others have not yet
abbrev pub changed_below : Schema → ℕ → Row → List ℕ → ℕ → (ℕ → List AltEntry) → ℕ → List AltEntry
changed_below schema stamp old bytes i entries j =
    if nat_lt j i then changed_in schema stamp old bytes j (entries j) else entries j

-- the stamp in alternate key j after a change: the next one, where the value changes
abbrev pub stamp_after : Schema → ℕ → List ℕ → ℕ → List ℕ → ℕ → ℕ
stamp_after schema next old stamp new j = if stays schema old new j then stamp else next

-- the slot of a row after a change
abbrev pub slot_after : Schema → ℕ → Row → List ℕ → List ℕ
slot_after schema stamp old bytes = stored schema (changed_row schema stamp bytes old)

-- the parts with the new record in the place of the old row
abbrev pub with_row : Schema → ℕ → Row → List ℕ → Place → ℕ → Contents → Contents
with_row schema stamp old bytes place count held = record {
  slots = put_slot held.slots place (Some (slot_after schema stamp old bytes));
  primes = held.primes;
  entries = changed_below schema stamp old bytes count held.entries;
}

-- alternate index j has the entry of the old record, of this stamp, and without it none of the new
-- record's value and stamp
pub record CanChangeEntry (schema : Schema) (next : ℕ) (old : List ℕ) (stamp : ℕ) (bytes : List ℕ) (j : ℕ)
    (entries : List AltEntry) : Type 0 where
  pub there : IsSome (find (has_rank (value_of schema (j + 1) old) stamp) entries)
  pub freed : find (has_rank (value_of schema (j + 1) bytes) (stamp_in schema next j))
      (without_rank (value_of schema (j + 1) old) stamp entries) ≡ None

-- and then it has the new record's entry in the place of that one
abbrev pub changed_entries : Schema → ℕ → List ℕ → ℕ → List ℕ → ℕ → List AltEntry → List AltEntry
changed_entries schema next old stamp bytes j entries =
    with_alt (entry_of_record schema next bytes j) (without_rank (value_of schema (j + 1) old) stamp entries)

-- the heap has the old row at this place, each alternate index has its entry, and where a value
-- changes, room for the new record's
pub record CanPutOver (schema : Schema) (stamp : ℕ) (old : Row) (bytes : List ℕ) (place : Place)
    (count : ℕ) (slots : Slots) (entries : ℕ → List AltEntry) : Type 0 where
  pub in_heap : IsSome (slots place)
  pub there : AreThere schema old count entries
  pub freed : AreFreed schema stamp old bytes count entries

-- the next stamp after a change
abbrev pub next_after : Schema → ℕ → List ℕ → List ℕ → ℕ
next_after schema stamp old new = if takes_stamp schema old new then stamp + 1 else stamp

-- ---- what each step changes

-- the slot of the record that was found gets the new record
abbrev pub slot_put : OldRecord → (was bytes : List ℕ) → OpenFile → PartsStep
slot_put old was bytes file = record {
  Asks = λ held. IsSome (held.slots old.place);
  leaves = λ held. record held {
    slots = put_slot held.slots old.place
        (Some (slot_after (file_schema file) (next_stamp_of file) (row_with was old.stamps.items) bytes));
  };
}

-- alternate index j gets the new record's entry in the place of the old one's, of this stamp
abbrev pub entry_put : (was : List ℕ) → ℕ → (bytes : List ℕ) → ℕ → OpenFile → PartsStep
entry_put was stamp bytes j file = record {
  Asks = λ held. CanChangeEntry (file_schema file) (next_stamp_of file) was stamp bytes j (held.entries j);
  leaves = λ held. record held {
    entries = but_at j
        (changed_entries (file_schema file) (next_stamp_of file) was stamp bytes j (held.entries j))
        held.entries;
  };
}

-- so does each whose value changes
abbrev pub entries_put : (was stamps bytes : List ℕ) → OpenFile → PartsStep
entries_put was stamps bytes file = record {
  Asks = λ held. AreThere (file_schema file) (row_with was stamps) (length (alternates_of file)) held.entries
      × AreFreed (file_schema file) (next_stamp_of file) (row_with was stamps) bytes
      (length (alternates_of file)) held.entries;
  leaves = λ held. record held {
    entries = changed_below (file_schema file) (next_stamp_of file)
        (row_with was stamps) bytes (length (alternates_of file)) held.entries;
  };
}

-- the parts get the new record in the place of the one that was found
abbrev pub row_put : OldRecord → (was bytes : List ℕ) → OpenFile → PartsStep
row_put old was bytes file = record {
  Asks = λ held. CanPutOver (file_schema file) (next_stamp_of file) (row_with was old.stamps.items) bytes
      old.place (length (alternates_of file)) held.slots held.entries;
  leaves = with_row (file_schema file) (next_stamp_of file) (row_with was old.stamps.items) bytes old.place
      (length (alternates_of file));
}

-- the new record is put into the slot of the old one
abbrev pub PutsInSlot : {S : Type 0} → ShownPages S → OldRecord → (was bytes : List ℕ) → OpenFile
    → (before after : S) → Result Unit Fault → Type 0
PutsInSlot shown old was bytes file before after result =
    TakesStep shown (slot_put old was bytes) file file before after result

-- its entries are put into the alternate indexes
abbrev pub PutsEntries : {S : Type 0} → ShownPages S → (was stamps bytes : List ℕ) → (file now : OpenFile)
    → (before after : S) → Result Unit Fault → Type 0
PutsEntries shown was stamps bytes file now before after result =
    TakesStep shown (entries_put was stamps bytes) file now before after result

-- it is put into all parts
abbrev pub PutsOver : {S : Type 0} → ShownPages S → OldRecord → (was bytes : List ℕ) → (file now : OpenFile)
    → (before after : S) → Result Unit Fault → Type 0
PutsOver shown old was bytes file now before after result =
    TakesStep shown (row_put old was bytes) file now before after result

-- ---- what is needed, answered and left

-- the pages that may be taken for the values that change
abbrev pub need_to_put : OpenFile → List ℕ → List ℕ → ℕ
need_to_put file old new = need_in_indexes (file_schema file) old new (alternates_of file)

-- there are fewer pages, or no stamp for a record that takes one
abbrev pub is_full_for : OpenFile → ℕ → List ℕ → List ℕ → Bool
is_full_for file available old new = nat_lt available (need_to_put file old new)
    || (takes_stamp (file_schema file) old new && nat_le (2 ^ 63) (next_stamp_of file))

-- the most pages that putting the new record in asks for
abbrev pub most_to_put : OpenFile → List ℕ → List ℕ → ℕ
most_to_put file old new = 1 + 16 * need_to_put file old new

-- the value of key k changes, and a row has the new one
abbrev pub new_there : Schema → List ℕ → List ℕ → List Row → ℕ → Bool
new_there schema old bytes rows k = not (bytes_eq (value_of schema k old) (value_of schema k bytes))
    && is_there (key_at schema k) bytes rows

-- the answer tells whether it is so
abbrev pub AnswersNewThere : {S : Type 0} → ShownPages S → OpenFile → (was bytes : List ℕ) → ℕ
    → (before after : S) → Result Bool Fault → Type 0
AnswersNewThere shown opened was bytes k before after result = AnswersFor shown opened before after
    (λ file stands x. x ≡ new_there (file_schema opened) was bytes file.rows k) result

-- where the row of the new record's prime value has these bytes, the answer is the one of the definitions
abbrev pub AnswersReplacing : {S : Type 0} → ShownPages S → OpenFile → (was bytes : List ℕ)
    → (before after : S) → Result Replaced Fault → Type 0
AnswersReplacing shown opened was bytes before after result =
    IsTrue (shown.state after).is_honest → (file : File) → Stands opened (shown.state before).live file
    → (row : Row) → row_of (file_schema opened) (prime_of (file_schema opened) bytes) file ≡ Some row
    → row.bytes ≡ was
    → IsAnswer result (λ answer. answer ≡ replaced_answer_at (file_schema opened) bytes file (Some row))

-- the path is forgotten, and a stamp was taken where the new record takes one
pub record LeavesPutOver (old new : OpenFile) (was bytes : List ℕ) (result : Result Unit Fault) : Type 0 where
  pub rest : OnOk result (new ≡ with_alternates_of new (with_next_stamp
      (next_after (file_schema old) (next_stamp_of old) was bytes) (without_path old)))
  pub schema : file_schema new ≡ file_schema old
  pub broken : has_broken new ≡ has_broken old
  pub shaped : IsShaped new

-- what is kept after the row was found, and how many pages are asked for
pub record KeepsFound {S : Type 0} (shown : ShownPages S) (before after : FileInPages S) : Type 0 where
  pub schema : file_schema after.file ≡ file_schema before.file
  pub broken : has_broken after.file ≡ has_broken before.file
  pub shaped : IsShaped after.file
  pub begins : shown.Begins before.pages after.pages
  pub asked : (shown.state after.pages).asked
      ≤ (shown.state before.pages).asked + 2 * sum_by (λ height. height)
      (heights_of before.file) + 1 + 16 * index_levels (alternates_of before.file)

-- what `Changes` says of a replacement, where its row was found before: it had these bytes
pub record ReplacesFound {S : Type 0} (shown : ShownPages S) (old : OldRecord) (was bytes : List ℕ)
    (before after : FileInPages S) (result : Result Replaced Fault) : Type 0 where
  pub done : IsTrue (shown.state after.pages).is_honest → IsTrue (shown.state before.pages).is_sound
      → (file : File)
      → (stands : Stands before.file (shown.state before.pages).live file)
      → IsFoundIn stands (prime_of (file_schema before.file) bytes) old was
      → IsAnswer result (HasChanged (Stands after.file (shown.state after.pages).live)
      (IsTrue (shown.state after.pages).is_sound) (replacement (file_schema before.file) bytes) file)
  pub unmade : IfOk result (λ x. is_replaced x ≡ false → (shown_in shown).Reads before after)
  pub begun : IfOk result (λ x. is_replaced x ≡ true → shown.CanChange after.pages)
  pub room : IsTrue (shown.state after.pages).is_honest → (file : File)
      → Stands before.file (shown.state before.pages).live file
      → row_of (file_schema before.file) (prime_of (file_schema before.file) bytes) file ≡ Some
      (row_with was old.stamps.items)
      → OnOk result (IsTrue (has_room_for (room_of before.file (shown.state before.pages).available)
      (replacement (file_schema before.file) bytes) file))
  pub full : result ≡ Err Full → (shown_in shown).Reads before after
  pub lacks : result ≡ Err Full → IsTrue (shown.state after.pages).is_honest → (file : File)
      → Stands before.file (shown.state before.pages).live file
      → row_of (file_schema before.file) (prime_of (file_schema before.file) bytes) file ≡ Some
      (row_with was old.stamps.items)
      → LacksRoomFor (room_of before.file (shown.state before.pages).available)
      (replacement (file_schema before.file) bytes) file
  pub keeps : KeepsFound shown before after

-- the same of a file and its pages
abbrev pub ReplacesRow : {S : Type 0} → ShownPages S → OldRecord → (was bytes : List ℕ)
    → (file now : OpenFile) → (before after : S) → Result Replaced Fault → Type 0
ReplacesRow shown old was bytes file now before after result =
    ReplacesFound shown old was bytes (in_pages file before) (in_pages now after) result

-- ---- what the steps ask for

-- it can be looked whether a record's value of key k is there, and the old record has one
pub record CanLookForKey {S : Type 0} (shown : ShownPages S) (file : OpenFile) (pages : S) (k : ℕ)
    (was bytes : List ℕ) : Type 0 where
  pub can : CanLookFor shown file pages bytes
  pub key : k < length (file_schema file).keys
  pub old : (file_schema file).least ≤ length was

-- the old record is a row, and there is room for the new one in its place
pub record CanPutInPlace {S : Type 0} (shown : ShownPages S) (file : OpenFile) (pages : S) (found : OldRecord)
    (was bytes : List ℕ) : Type 0 where
  pub can : CanStore shown file pages bytes
  pub old : IsRowOf file (row_with was found.stamps.items)
  pub room : HasRoomFor shown file pages (need_to_put file was bytes)
      (takes_stamp (file_schema file) was bytes)

-- the same of the alternate indexes alone
pub record CanChangeIndexes {S : Type 0} (shown : ShownPages S) (file : OpenFile) (pages : S)
    (was stamps bytes : List ℕ) : Type 0 where
  pub can : CanChangeWith shown file pages bytes
  pub old : IsRowOf file (row_with was stamps)
  pub room : need_to_put file was bytes ≤ (shown.state pages).available

-- the entry of the old record in alternate index j can be changed
pub record CanPutEntry {S : Type 0} (shown : ShownPages S) (file : OpenFile) (pages : S) (j : ℕ)
    (was bytes : List ℕ) : Type 0 where
  pub can : CanChangeWith shown file pages bytes
  pub old : (file_schema file).least ≤ length was
  pub index : j < length (alternates_of file)

-- two records differ in the value of key k
abbrev pub differs_in : OpenFile → ℕ → (old new : List ℕ) → Bool
differs_in file k old new =
    not (bytes_eq (value_of (file_schema file) k old) (value_of (file_schema file) k new))

-- both records have a value of key k
pub record HaveKey (file : OpenFile) (k : ℕ) (was bytes : List ℕ) : Type 0 where
  pub key : k < length (file_schema file).keys
  pub records : HaveEachKey file was bytes

-- both records have a value of each key, and the old one these stamps
pub record HaveStamps (file : OpenFile) (was old_stamps bytes : List ℕ) : Type 0 where
  pub records : HaveEachKey file was bytes
  pub stamps : length old_stamps ≡ length (alternates_of file)

-- the stamps of a record that takes the place of another, in front of it in its slot
pub record AreStampsAfter (file : OpenFile) (was stamps bytes result : List ℕ) : Type 0 where
  pub stored : result ++ bytes
      ≡ slot_after (file_schema file) (next_stamp_of file) (row_with was stamps) bytes
  pub length : length result ≡ (slot_shape (heap_of file)).stamps
