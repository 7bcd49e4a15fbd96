-- The slots in use of pages, whether or not they are those of a sound file. All of this is ours.
use Rattle.std.specs.Prelude.{ℕ, zero, suc, Bool, List, [], ◌∷◌, ◌++◌, length, take, nat_eq}
use Rattle.std.specs.Prelude.{slice_index_or, Option, Some, None, if◌then◌else◌}
use Rattle.std.specs.Cmp.Lexicographic.{pointwise}
use Rattle.open_file.specs.FirstPageReading.{number_in}
use Rattle.record_heap.specs.declared.shape.SlotShape.{SlotShape}
use Rattle.record_heap.specs.Slot.{room, record_in}
use Rattle.record_heap.specs.Slots.{slot_at, start_of}
use Rattle.salvaged_records.specs.declared.used_slot.UsedSlot.{UsedSlot}

-- the page begins as a heap page does: with its kind, the next heap page, and zeros
abbrev pub is_heap_page : List ℕ → Bool
is_heap_page page = pointwise nat_eq (take 16 page) (start_of (number_in page 4 4))

-- the record in slot i, where the slot is in use and its record has a length of the file
abbrev pub record_at : SlotShape → List ℕ → ℕ → Option (List ℕ)
record_at shape page i = record_in shape (slot_at shape page i)

-- a slot in use: the number of its page, its own number, and its record
pub record FoundSlot : Type 0 where
  pub page : ℕ
  pub slot : ℕ
  pub bytes : List ℕ

abbrev pub found_slot : UsedSlot → FoundSlot
found_slot used = record { page = used.page; slot = used.slot; bytes = used.bytes.now }

-- slot i of page n behind others, if it has a record
abbrev pub with_slot : List FoundSlot → (n i : ℕ) → Option (List ℕ) → List FoundSlot
with_slot slots n i None = slots
with_slot slots n i (Some bytes) = slots ++ record { page = n; slot = i; bytes = bytes } ∷ []

-- those in use of the first slots of page n, so many, in rising order
abbrev pub slots_to : SlotShape → List ℕ → (n : ℕ) → ℕ → List FoundSlot
slots_to shape page n zero = []
slots_to shape page n (suc i) = with_slot (slots_to shape page n i) n i (record_at shape page i)

-- those of all slots of page n, if it is a heap page
abbrev pub slots_of_page : SlotShape → List ℕ → (n : ℕ) → List FoundSlot
slots_of_page shape page n = if is_heap_page page then slots_to shape page n (room shape) else []

-- those of the first pages, so many, one page after another
abbrev pub slots_before : SlotShape → List (List ℕ) → ℕ → List FoundSlot
slots_before shape pages zero = []
slots_before shape pages (suc n) =
    slots_before shape pages n ++ slots_of_page shape (slice_index_or pages n []) n

-- those of all pages
abbrev pub used_slots_in : SlotShape → List (List ℕ) → List FoundSlot
used_slots_in shape pages = slots_before shape pages (length pages)
