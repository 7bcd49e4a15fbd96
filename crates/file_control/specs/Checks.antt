-- The checks of a file: one after another, each on its own.
use Rattle.std.specs.Prelude.{ℕ, ◌≤◌, Bool, true, not, ◌&&◌, List, Option, Some}
use Rattle.std.specs.List.{list_all}
use Rattle.std.specs.Option.{option_map_or}
use Rattle.record_layout.specs.Layout.{Entry, is_name_of}
use Rattle.record_layout.specs.SchemaFault.{KeyClause}
use Rattle.deck_entries.specs.FileControlEntry.{FileControlEntry}
use Rattle.deck_entries.specs.FileDescription.{StorageEntry}
use Rattle.file_control.specs.Description.{has_name, HasDigits, digit_count}

-- each of these keys names one of the items
abbrev pub are_named : List Entry → List KeyClause → Bool
are_named items keys = list_all (λ key. is_name_of items (Some key.name)) keys

-- each key names one of the items
abbrev pub are_keys_named : List Entry → FileControlEntry → Bool
are_keys_named items entry = is_name_of items (Some entry.record_key) && are_named items entry.alternate_keys

-- a name that is not there yet; FILLER is none
abbrev pub is_new : List (List ℕ) → Option (List ℕ) → Bool
is_new names name = option_map_or (λ name. not (has_name names name)) name true

-- no item has a name that is there
abbrev pub are_new : List (List ℕ) → List Entry → Bool
are_new names items = list_all (λ item. is_new names item.name) items

-- the item has digits enough for the length
abbrev pub HasDigitsFor : StorageEntry → ℕ → Type 0
HasDigitsFor entry greatest = (digits : ℕ) × HasDigits entry.picture digits × (digit_count greatest ≤ digits)
