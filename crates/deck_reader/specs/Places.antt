-- The places of 77-level items, by their names in order.
use Rattle.std.specs.Prelude.{◌≡◌, ℕ, List, Option, Some, None, bytes_eq, position, if◌then◌else◌}
use Rattle.std.specs.Option.{option_or}
use Rattle.std.specs.Ordering.{nat_cmp}
use Rattle.std.specs.Cmp.Lexicographic.{slice_cmp}
use Rattle.std.specs.BTreeMap.{BTreeMap, get_by}
use Rattle.file_control.specs.Description.{LengthItem}
use denote.Ref.{Bor}

-- what the map has for a name
abbrev pub place_of_name : BTreeMap (Bor (List ℕ)) ℕ → List ℕ → Option ℕ
place_of_name map name = get_by (λ key. slice_cmp nat_cmp name key.now) map

-- the map has the place of the first item of each name
abbrev pub ArePlaces : BTreeMap (Bor (List ℕ)) ℕ → List LengthItem → Type 0
ArePlaces map items = (name : List ℕ) → place_of_name map name
    ≡ position (λ item. bytes_eq item.name name) items

-- a name that has no place gets this one
abbrev pub AddsPlace : List ℕ → ℕ → (old new : BTreeMap (Bor (List ℕ)) ℕ) → Type 0
AddsPlace name place old new = (other : List ℕ)
    → place_of_name new other
    ≡ option_or (place_of_name old other) (if bytes_eq name other then Some place else None)
