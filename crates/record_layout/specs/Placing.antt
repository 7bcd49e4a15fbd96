-- How the items of a record are placed: first each by itself, where the pictures before it end, and
-- then each group gets the length of its members.
use Rattle.std.specs.Prelude.{◌≡◌, ℕ, ◌+◌, ◌≤◌, false, List, [], ◌∷◌, map, nat_lt, Option, Some, None}
use Rattle.std.specs.Prelude.{is_none, Result, Ok, Err, IsTrue, IsFalse, if◌then◌else◌}
use Rattle.std.specs.Global.{Vec}
use Rattle.record_layout.specs.declared.fault.LayoutFault.{LayoutFault}
use Rattle.record_layout.specs.declared.item.Field.{Field}
use Rattle.record_layout.specs.declared.item.Placed.{Placed as Declared}
use Rattle.record_layout.specs.declared.picture.Picture.{Picture}
use Rattle.record_layout.specs.Picture.{IsPicture}
use Rattle.record_layout.specs.Layout.{Entry, Placed, item_of}
use Rattle.record_layout.specs.LayoutFault.{is_in_place, is_unfinished, HaveFirstFault}

-- an entry with a place
pub record PlacedEntry : Type 0 where
  pub entry : Entry
  pub field : Field

-- its name and its place
abbrev pub place_of : PlacedEntry → Placed
place_of item = record { name = item.entry.name; field = item.field }

-- behind items of `total` characters, a group has none of its own, and an elementary item those of
-- its picture
abbrev pub IsOwnPlace : ℕ → Option (List ℕ) → Field → Type 0
IsOwnPlace total None field = field ≡ record { offset = total; length = 0; numeric = false }
IsOwnPlace total (Some text) field =
    (picture : Picture) × IsPicture text picture × (total + picture.length ≤ 4000)
    × (field ≡ record { offset = total; length = picture.length; numeric = picture.numeric })

-- each entry is in place behind those before it, the nearest first, and has its own place; the last
-- is no group
abbrev pub ArePlaced : List Entry → ℕ → List PlacedEntry → Type 0
ArePlaced before total [] = IsFalse (is_unfinished before)
ArePlaced before total (item ∷ after) =
    IsTrue (is_in_place before item.entry) × IsOwnPlace total item.entry.picture item.field
    × ArePlaced (item.entry ∷ before) (total + item.field.length) after

-- the entries have no fault, and these are their own places
abbrev pub HavePlaces : List Entry → List Placed → Type 0
HavePlaces entries places =
    (items : List PlacedEntry) × (map (λ item. item.entry) items ≡ entries) × (map place_of items ≡ places)
    × ArePlaced [] 0 items

-- an answer that has the places of the entries, or their first fault
abbrev pub AnswersPlaces : List Entry → Result (Vec Declared) LayoutFault → Type 0
AnswersPlaces entries (Ok places) = HavePlaces entries (map item_of places.items)
AnswersPlaces entries (Err fault) = HaveFirstFault entries fault

-- how many characters the items behind a group have, up to the first that is not deeper
abbrev pub members_length : ℕ → List Entry → List Placed → ℕ
members_length level [] places = 0
members_length level (entry ∷ entries) [] = 0
members_length level (entry ∷ entries) (place ∷ places) =
    if nat_lt level entry.level then place.field.length + members_length level entries places else 0

-- the place with another length
abbrev pub with_length : Placed → ℕ → Placed
with_length place length = record { name = place.name; field = record place.field { length = length } }

-- the places, with the length of each group
abbrev pub with_group_lengths : List Entry → List Placed → List Placed
with_group_lengths [] places = places
with_group_lengths (entry ∷ entries) [] = []
with_group_lengths (entry ∷ entries) (place ∷ places) =
    (if is_none entry.picture then with_length place
    (members_length entry.level entries places) else place) ∷ with_group_lengths entries places
