-- Entries of an alternate key that are held in memory, as bytes one behind another.
use Rattle.std.specs.Prelude.{◌≡◌, ℕ, ◌+◌, ◌/◌, List, length, map, not}
use Rattle.std.specs.List.{filter}
use Rattle.pages.specs.Chunks.{chunks}
use Rattle.key_index.specs.declared.entry.AltEntry.{AltEntry}
use Rattle.key_index.specs.Stored.{alt_entry_in}
use Rattle.file_building.specs.declared.held_entries.HeldEntries.{HeldEntries}
use Rattle.file_building.specs.Ranks.{is_lower}

-- so many bytes has each
abbrev pub held_size : HeldEntries → ℕ
held_size held = held.width + 8 + held.prime

-- so many are held
abbrev pub held_count : HeldEntries → ℕ
held_count held = length held.bytes.items / held_size held

-- the entries
abbrev pub held_entries : HeldEntries → List AltEntry
held_entries held = map (alt_entry_in held.width) (chunks (held_size held) (held_count held) held.bytes.items)

-- for values and prime values of these lengths
pub record IsHeldFor (width prime : ℕ) (held : HeldEntries) : Type 0 where
  pub width_is : held.width ≡ width
  pub prime_is : held.prime ≡ prime

-- those of some entries that are of no higher rank than this one
abbrev pub entries_up_to : AltEntry → List AltEntry → List AltEntry
entries_up_to top entries = filter (λ e. not (is_lower top e)) entries

-- an entry has a value and a prime value of the lengths of those that are held
pub record FitsHeld (held : HeldEntries) (e : AltEntry) : Type 0 where
  pub value : length e.value.items ≡ held.width
  pub prime : length e.prime.items ≡ held.prime
