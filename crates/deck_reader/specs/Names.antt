-- What the procedure knows of the deck's descriptions, and what its names stand for. Data names are
-- unique in a deck.
use Rattle.std.specs.Prelude.{ℕ, List, position, slice_get, Option, is_some, option_map}
use Rattle.std.specs.Prelude.{option_and_then}
use Rattle.std.specs.Option.{option_map_or}
use Rattle.io_state.specs.declared.modes.Access.{Access}
use Rattle.io_state.specs.declared.modes.Access.TheVariants.{Sequential}
use Rattle.record_layout.specs.declared.item.Field.{Field}
use Rattle.record_layout.specs.Layout.{field_of}
use Rattle.record_layout.specs.Schema.{key_at, key_of_field, key_led_by}
use Rattle.file_control.specs.Description.{FileDesc, LengthItem}

-- the files in the order of their SELECT entries, and the 77-level items in the order of theirs
pub record Names : Type 0 where
  pub files : List FileDesc
  pub items : List LengthItem

abbrev pub names_of : List FileDesc → List LengthItem → Names
names_of files items = record { files = files; items = items }

-- ---- names

-- the item of this name in the record of the file of a place; the record itself is one
abbrev pub item_in : Names → ℕ → List ℕ → Option Field
item_in names u name = option_and_then (λ file. field_of file.layout name) (slice_get names.files u)

-- the place of the file whose record has an item of this name, and the item
abbrev pub item_named : Names → List ℕ → Option (ℕ × Field)
item_named names name =
    option_and_then (λ u. option_map {U = ℕ × Field} (λ field. (u, field)) (item_in names u name))
    (position (λ file. is_some (field_of file.layout name)) names.files)

-- ---- the file of a place

abbrev pub access_at : Names → ℕ → Access
access_at names u = option_map_or (λ file. file.access) (slice_get names.files u) Sequential

-- the length of its prime key
abbrev pub prime_length : Names → ℕ → ℕ
prime_length names u = option_map_or (λ file. (key_at file.schema 0).length) (slice_get names.files u) 0

-- its key that the item is
abbrev pub key_by_item : Names → ℕ → Field → Option ℕ
key_by_item names u field = option_and_then (λ file. key_of_field file.schema field) (slice_get names.files u)

-- its key that begins with the item, and the item's length
abbrev pub led_key_by_item : Names → ℕ → Field → Option (ℕ × ℕ)
led_key_by_item names u field = option_and_then {U = ℕ × ℕ}
    (λ file. option_map {U = ℕ × ℕ} (λ k. (k, field.length)) (key_led_by file.schema field))
    (slice_get names.files u)
