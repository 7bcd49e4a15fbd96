-- Slots that are written, page by page. All of this is ours.
use Rattle.std.specs.Prelude.{◌≡◌, ℕ, ◌+◌, Bool, List, ◌++◌, length, filter, Option, vec_capacity}
use Rattle.std.specs.Prelude.{Result, IfOk, OnOk}
use Rattle.record_heap.specs.declared.shape.SlotShape.{SlotShape}
use Rattle.std.specs.Io.KnownBytes.{Appends}
use Rattle.record_text.specs.declared.form.Form.{Form}
use Rattle.record_text.specs.Room.{IsLineRoom}
use Rattle.streams.specs.Output.{HoldsText}
use Rattle.salvaged_records.specs.declared.doubts.Doubts.{Doubts}
use Rattle.salvaged_records.specs.declared.held_lines.HeldLines.{HeldLines}
use Rattle.salvaged_records.specs.declared.lead.Lead.{Lead}
use Rattle.salvaged_records.specs.declared.slot_list.SlotKind.{SlotKind}
use Rattle.salvaged_records.specs.declared.slot_list.SlotKind.TheVariants.{Kept, Told}
use Rattle.salvaged_records.specs.declared.slot_list.SlotList.{SlotList}
use Rattle.salvaged_records.specs.Lines.{salvaged_lines, salvaged_list}
use Rattle.salvaged_records.specs.Slots.{FoundSlot, used_slots_in}
use Rattle.salvaged_records.specs.Telling.{is_kept_by, is_told_by}

-- a slot is of this kind, by what tells slots apart
abbrev pub is_of_kind : SlotKind → Doubts → FoundSlot → Bool
is_of_kind Kept doubts slot = is_kept_by doubts slot
is_of_kind Told doubts slot = is_told_by doubts slot

-- those of slots that are written
abbrev pub listed_slots : SlotList → List FoundSlot → List FoundSlot
listed_slots list slots = filter (is_of_kind list.kind list.doubts.now) slots

-- the lines of those slots of these that are written were held behind others, and were counted
pub record HoldsSlots (list : SlotList) (before after : Option (List ℕ)) (old new : HeldLines)
    (slots : List FoundSlot) : Type 0 where
  pub held : HoldsText before after old.lines new.lines
      (salvaged_lines list.lead list.form.now (listed_slots list slots))
  pub counted : new.count ≡ old.count + length (listed_slots list slots)
  pub roomy : IsLineRoom list.form.now 4077 (vec_capacity new.line)

-- the list of slots was written, so many
pub record WritesSlotList (lead : Lead) (form : Form) (slots : List FoundSlot) (before after : Option (List ℕ))
    (count : ℕ) : Type 0 where
  pub written : Appends before after (salvaged_list lead form slots)
  pub counted : count ≡ length slots

-- what was held and the lines of those slots of these that are written were handed over, so many
pub record HandsSlots (list : SlotList) (before after : Option (List ℕ)) (held : List ℕ)
    (slots : List FoundSlot) (count : ℕ) : Type 0 where
  pub handed : Appends before after (held ++ salvaged_lines list.lead list.form.now (listed_slots list slots))
  pub counted : count ≡ length (listed_slots list slots)

-- where a call did not fail, so of the slots in use of all these pages: they were held
abbrev pub HoldsAll : {T E : Type 0} → SlotList → SlotShape → (before after : Option (List ℕ)) → (old new : HeldLines)
    → Result T E → (pages : List (List ℕ)) → Type 0
HoldsAll list shape before after old new result pages =
    OnOk result (HoldsSlots list before after old new (used_slots_in shape pages))

-- they were handed over with what was held
abbrev pub HandsAll : {E : Type 0} → SlotList → SlotShape → (before after : Option (List ℕ)) → (held : List ℕ)
    → Result ℕ E → (pages : List (List ℕ)) → Type 0
HandsAll list shape before after held result pages =
    IfOk result (HandsSlots list before after held (used_slots_in shape pages))

-- or their list was written
abbrev pub WritesAllSlots : {E : Type 0} → SlotList → SlotShape → (before after : Option (List ℕ))
    → Result ℕ E → (pages : List (List ℕ)) → Type 0
WritesAllSlots list shape before after result pages = IfOk result
    (WritesSlotList list.lead list.form.now (listed_slots list (used_slots_in shape pages)) before after)
