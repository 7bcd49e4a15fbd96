-- What a salvage of the bytes of a file promises. All of this is ours.
use Rattle.std.specs.Prelude.{◌≡◌, ◌⊎◌, ◌<◌, ℕ, ◌-◌, ◌^◌, Bool, true, false, List, [], length, filter, slice_set}
use Rattle.std.specs.Prelude.{Option, Some, None, Result, Ok, Err, IfOk, ⊤}
use Rattle.page_store.specs.DeviceFile.{page_of_bytes}
use Rattle.record_heap.specs.declared.shape.SlotShape.{SlotShape}
use Rattle.pages.specs.declared.fault_place.FaultPlace.{FaultPlace}
use Rattle.record_layout.specs.Schema.{Schema}
use Rattle.open_file.specs.declared.first_page.Header.{Header}
use Rattle.open_file.specs.FirstPage.{IsFirstPage}
use Rattle.file_checker.specs.Bytes.{AreAllPages}
use Rattle.file_checker.specs.Sound.{IsRight, IsSound, IsUnsound}
use Rattle.file_checker.specs.declared.verdict.Verdict.TheVariants.{Unsound as IsRefused}
use Rattle.std.specs.Io.KnownBytes.{Appends}
use Rattle.record_text.specs.declared.form.Form.{Form}
use Rattle.record_text.specs.declared.form.Form.TheVariants.{Text}
use Rattle.record_listing.specs.FileList.{EndsWithIn}
use Rattle.record_listing.specs.declared.file_list.FileList.TheVariants.{Listed}
use Rattle.record_listing.specs.declared.asked.Asked.{Asked}
use Rattle.record_listing.specs.declared.end.ListFault.{ListFault}
use Rattle.salvaged_records.specs.declared.doubts.Doubts.{Doubts}
use Rattle.salvaged_records.specs.Doubt.{AreSortedOut}
use Rattle.salvaged_records.specs.Slots.{FoundSlot, used_slots_in}
use Rattle.salvaged_records.specs.Lines.{salvaged_list}
use Rattle.salvaged_records.specs.Shapes.{IsShapeOf}
use Rattle.salvaged_records.specs.Telling.{is_kept_by, is_told_by}
use Rattle.salvaged_records.specs.Writing.{WritesSlotList}
use Rattle.salvaged_records.specs.declared.lead.Lead.{Lead}
use Rattle.salvaged_records.specs.declared.lead.Lead.TheVariants.{Bare, Place, Doubt}
use Rattle.salvaged_records.specs.declared.salvaging.Salvage.{Salvage}
use Rattle.salvaged_records.specs.declared.slot_salvage.SalvageForm.{SalvageForm}
use Rattle.salvaged_records.specs.declared.salvaging.Salvage.TheVariants.{All, Slots, Unsound}

-- the bytes with the gate closed: byte 0 is 'C', if there is one
abbrev pub with_gate_closed : List ℕ → List ℕ
with_gate_closed bytes = slice_set bytes 0 67

-- all records are asked for, in the order of the prime key: from the first one to the last, and the
-- greatest number at most, without a condition
pub record AreAllAsked (asked : Asked) : Type 0 where
  pub key_is : asked.key ≡ 0
  pub from_is : asked.from.items ≡ []
  pub to_is : asked.to ≡ None
  pub first_is : asked.first ≡ 2 ^ 64 - 1
  pub none_refused : asked.conditions.items ≡ []

-- what a writer of lines has before and behind, and so a writer to which slots in doubt are told
pub record Outputs : Type 0 where
  pub before : Option (List ℕ)
  pub behind : Option (List ℕ)
  pub told_before : Option (List ℕ)
  pub told_behind : Option (List ℕ)

abbrev pub outputs : (before behind told_before told_behind : Option (List ℕ)) → Outputs
outputs before behind told_before told_behind = record {
  before = before;
  behind = behind;
  told_before = told_before;
  told_behind = told_behind;
}

-- the same of two writers, before a call and after it: that of lines, and that to which slots are told
abbrev pub writings : {W E : Type 0} → (listed : W → Option (List ℕ)) → (told : E → Option (List ℕ))
    → (old new : W × E) → Outputs
writings listed told old new = outputs (listed old.0) (listed new.0) (told old.1) (told new.1)

-- the records of the file that the bytes stand for were written in a form, in the order of the prime
-- key, and nothing was told
abbrev pub WritesAll : Form → List ℕ → Outputs → Type 0
WritesAll form bytes o = ((asked : Asked) × AreAllAsked asked
    × EndsWithIn form bytes asked o.before o.behind Listed) × (o.told_behind ≡ o.told_before)

-- no file has bytes that begin so
abbrev pub HasNoHeader : List ℕ → Type 0
HasNoHeader bytes = (length bytes < 4096)
    ⊎ ((header : Header) → IsFirstPage header (page_of_bytes bytes 0) → ⊥)

-- the schema is that of the first page; or there is no such page, and a deck has this schema
abbrev pub IsSchemaFor : Option Schema → List ℕ → Schema → Type 0
IsSchemaFor deck bytes schema =
    ((header : Header) × IsFirstPage header (page_of_bytes bytes 0) × (header.schema ≡ schema))
    ⊎ (HasNoHeader bytes × (deck ≡ Some schema))

-- what stands before the line of a record, with its place or without
abbrev pub lead_by : (places : Bool) → Lead
lead_by true = Place
lead_by false = Bare

-- the slots that are told were told, a line for each, and the others were listed
pub record WritesSorted (kept told : List FoundSlot) (form : Form) (places : Bool) (o : Outputs) : Type 0 where
  pub tells : Appends o.told_before o.told_behind (salvaged_list Doubt Text told)
  pub lists : Appends o.before o.behind (salvaged_list (lead_by places) form kept)

-- The slots in use of these pages, as they are in a file of this schema, were sorted out; those whose
-- prime value others have were told, page by page, and so many they are; and so many were listed, page by
-- page: those whose value no other has, and the one of several to which the entries of the prime key
-- lead, if they lead to one.
pub record WritesSlotsOf (schema : Schema) (pages : List (List ℕ)) (form : Form) (places : Bool) (o : Outputs)
    (listed told : ℕ) : Type 0 where
  pub shape : SlotShape
  pub shape_is : IsShapeOf schema shape
  pub kept : List FoundSlot
  pub doubted : List FoundSlot
  pub sorted : AreSortedOut schema shape pages kept doubted
  pub written : WritesSorted kept doubted form places o
  pub listed_is : listed ≡ length kept
  pub told_is : told ≡ length doubted

-- those of all whole pages of a file were
pub record WritesSlots (schema : Schema) (bytes : List ℕ) (form : Form) (places : Bool) (o : Outputs)
    (listed told : ℕ) : Type 0 where
  pub pages : List (List ℕ)
  pub all_pages : AreAllPages bytes pages
  pub slots : WritesSlotsOf schema pages form places o listed told

-- so many were listed, and so many told, of pages
abbrev pub ListsSlotsOf : Schema → List (List ℕ) → SalvageForm → Outputs → (counts : ℕ × ℕ) → Type 0
ListsSlotsOf schema pages asked o counts =
    WritesSlotsOf schema pages asked.form.now asked.places o counts.0 counts.1

-- the slots of these that are told by what tells slots apart were told, so many, and those that are kept
-- were listed, so many
pub record ListsBoth (doubts : Doubts) (slots : List FoundSlot) (asked : SalvageForm) (o : Outputs)
    (counts : ℕ × ℕ) : Type 0 where
  pub tells : WritesSlotList Doubt Text (filter (is_told_by doubts) slots) o.told_before o.told_behind counts.1
  pub lists : WritesSlotList (lead_by asked.places) asked.form.now (filter (is_kept_by doubts) slots)
      o.before o.behind counts.0

-- where a call did not fail, so of the slots in use of these pages, by what tells them apart
abbrev pub Sorts : {E : Type 0} → Doubts → SlotShape → SalvageForm → Outputs → Result (ℕ × ℕ) E
    → (pages : List (List ℕ)) → Type 0
Sorts doubts shape asked o result pages = IfOk result (ListsBoth doubts (used_slots_in shape pages) asked o)

-- or by the pages of a file of a schema
abbrev pub GivesSlotsOf : {E : Type 0} → Schema → SalvageForm → Outputs → Result (ℕ × ℕ) E
    → (pages : List (List ℕ)) → Type 0
GivesSlotsOf schema asked o result pages = IfOk result (ListsSlotsOf schema pages asked o)

-- so many were listed, and so many told
abbrev pub ListsSlots : Schema → List ℕ → SalvageForm → Outputs → (counts : ℕ × ℕ) → Type 0
ListsSlots schema bytes asked o counts =
    WritesSlots schema bytes asked.form.now asked.places o counts.0 counts.1

-- the same by the schema of the bytes, or that of a deck
abbrev pub WritesSlotsFor : Option Schema → List ℕ → Form → (places : Bool) → Outputs → (listed told : ℕ)
    → Type 0
WritesSlotsFor deck bytes form places o listed told =
    (schema : Schema) × IsSchemaFor deck bytes schema × WritesSlots schema bytes form places o listed told

-- all records of a file that the bytes stand for were listed, so many: by the prime key, or with their
-- places, when there are as many slots in use, each with a prime value of its own
abbrev pub WritesFile : Option Schema → List ℕ → Form → (places : Bool) → Outputs → (records : ℕ) → Type 0
WritesFile deck bytes form false o records = WritesAll form bytes o
WritesFile deck bytes form true o records = WritesSlotsFor deck bytes form true o records 0

-- what so many slots are that were listed, and so many that were told, of a file of so many records
abbrev pub IsSalvageOf : (listed told records : ℕ) → Salvage → Type 0
IsSalvageOf listed told records (All count) = (count ≡ records) × (listed ≡ records) × (told ≡ 0)
IsSalvageOf listed told records (Slots count doubted) = (count ≡ listed) × (doubted ≡ told)
IsSalvageOf listed told records (Unsound reason) = ⊥

-- A salvage of bytes whose gate is closed ends so, where a deck has this schema, if there is one:
-- they stand for so many records, and exactly these were written; or they stand for no file, and
-- so many slots were listed and so many told; or nothing was, since their first page is none, and a check
-- tells this reason.
abbrev pub EndsWith : Option Schema → List ℕ → Form → (places : Bool) → Outputs → Salvage → Type 0
EndsWith deck bytes form places o (All records) =
    ((pages : ℕ) × IsSound bytes records pages) × WritesFile deck bytes form places o records
EndsWith deck bytes form places o (Slots listed told) = (IsUnsound bytes ⊎ (places ≡ true))
    × WritesSlotsFor deck bytes form places o listed told
EndsWith deck bytes form places o (Unsound reason) =
    ((place : FaultPlace) × IsRight bytes (IsRefused reason place)) × HasNoHeader bytes × (deck ≡ None)
    × (o.behind ≡ o.before) × (o.told_behind ≡ o.told_before)

abbrev pub Salvages : Option Schema → List ℕ → SalvageForm → Outputs → Salvage → Type 0
Salvages deck bytes asked o end = EndsWith deck bytes asked.form.now asked.places o end

-- so it ends of the bytes with the gate closed, unless a writer refused a line or memory was wanted
abbrev pub Ends : Option Schema → List ℕ → SalvageForm → Outputs → Result Salvage ListFault → Type 0
Ends deck bytes asked o (Ok end) = Salvages deck (with_gate_closed bytes) asked o end
Ends deck bytes asked o (Err fault) = ⊤
