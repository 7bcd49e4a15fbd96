-- What is lent of the pages of a file.
use Rattle.std.specs.Prelude.{◌≡◌, ℕ, List, Option, IfSome, IsSome, option_map}
use Rattle.std.specs.Option.{option_copied}
use Rattle.std.specs.Borrow.{Bor}
use Rattle.pages.specs.PageList.{pages_in}
use Rattle.record_layout.specs.Schema.{prime_of}
use Rattle.tree_node.specs.declared.shape.NodeShape.{NodeShape}
use Rattle.page_walks.specs.declared.spot.LeafSpot.{LeafSpot}
use Rattle.page_walks.specs.Spots.{IsSpotThere, entry_at_spot}
use Rattle.record_heap.specs.declared.shape.Place.{Place}
use Rattle.record_heap.specs.Standing.{slot_off}
use Rattle.open_file.specs.Fields.{heap_of, file_schema}
use Rattle.open_file.specs.declared.open_file.OpenFile.{OpenFile}
use Rattle.file_checker.specs.Leading.{stored_row}

-- what was lent is the entry that stands there in these pages, and something was lent where one stands
pub record IsLentEntry (shape : NodeShape) (spot : LeafSpot) (lent : Option (Bor (List ℕ)))
    (list : List (List ℕ)) : Type 0 where
  pub value : IfSome lent (λ entry. entry.now ≡ entry_at_spot shape list spot)
  pub there : IsSpotThere shape list spot → IsSome lent

-- what was lent is what the slot at this place holds in these pages, where it is in use
abbrev pub IsLentSlot : OpenFile → Place → Option (Bor (List ℕ)) → List (List ℕ) → Type 0
IsLentSlot opened place lent list = option_copied lent ≡ slot_off (heap_of opened) (pages_in list) place

-- the value of the prime key of the record in a slot, where it is in use
abbrev pub prime_value_off : OpenFile → List (List ℕ) → Place → Option (List ℕ)
prime_value_off opened list place = option_map (λ bytes. prime_of (file_schema opened) (stored_row opened bytes).bytes)
    (slot_off (heap_of opened) (pages_in list) place)
