-- The item that is a key, as the code has it and as the definitions have it.
use Rattle.std.proofs.Common.{◌≡◌, Bool, true, false, List, [], ◌∷◌, Option, Some, map, find, option_map, if◌then◌else◌, refl}
use Rattle.record_layout.specs.Layout.{Placed, item_of}
use Rattle.record_layout.specs.declared.item.Placed.{Placed as Declared}
use Rattle.record_layout.specs.declared.schema.KeyPart.{KeyPart}
use Rattle.deck_listing.specs.Lines.{is_key_item}

-- the first item, if it is the one that is looked for, or else what is found behind it
first_or : (here : Bool) (item : Declared) (more : Option Declared) (others : Option Placed) → others ≡ option_map item_of more
    → (if here then Some (item_of item) else others) ≡ option_map item_of (if here then Some item else more)
first_or true item more others same = refl
first_or false item more others same = same

-- the item that is found is the same in both
pub found_item : (key : KeyPart) (items : List Declared)
    → find (is_key_item key) (map item_of items) ≡ option_map item_of (find (λ item. is_key_item key (item_of item)) items)
found_item key [] = refl
found_item key (item ∷ items) = first_or (is_key_item key (item_of item)) item _ _ (found_item key items)
