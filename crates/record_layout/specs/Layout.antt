-- The places of the items of a record.
-- ANSI X3.23-1985, Nucleus module, data description entry, level-number: an item without a picture
-- is a group, of the items of one greater level number that follow it.
use Rattle.std.specs.Prelude.{◌≡◌, ℕ, ◌+◌, ◌<◌, ◌≤◌, Bool, true, false, List, [], ◌∷◌, ◌++◌, bytes_eq, Option}
use Rattle.std.specs.Prelude.{Some, None, option_map, IsNone, IsTrue, IsFalse, All, AllPairs, if◌then◌else◌}
use Rattle.std.specs.List.{list_any}
use Rattle.record_layout.specs.declared.item.Item.{Item}
use Rattle.record_layout.specs.declared.item.Field.{Field}
use Rattle.record_layout.specs.declared.item.Placed.{Placed as Declared}
use Rattle.record_layout.specs.declared.picture.Picture.{Picture}
use Rattle.record_layout.specs.Picture.{IsPicture}

-- a data description entry: FILLER has no name, and a group no picture
pub record Entry : Type 0 where
  pub level : ℕ
  pub name : Option (List ℕ)
  pub picture : Option (List ℕ)

-- what an item says
abbrev pub entry_of_item : Item → Entry
entry_of_item item = record {
  level = item.level;
  name = option_map (λ name. name.bytes) item.name;
  picture = option_map (λ picture. picture.bytes) item.picture;
}

-- an item with its place in the record
pub record Placed : Type 0 where
  pub name : Option (List ℕ)
  pub field : Field

-- the same of an item as the code has it
abbrev pub item_of : Declared → Placed
item_of item = record { name = option_map (λ name. name.bytes) item.name; field = item.field }

-- ---- the structure that the levels spell

-- items of one level, one after another: an elementary item is written with a picture, and a group
-- has items of a greater level number
pub data Structure : Type 0 where
  Nothing : Structure
  Elementary : (name : Option (List ℕ)) → (text : List ℕ) → (picture : Picture) → (after : Structure)
      → Structure
  Group : (name : Option (List ℕ)) → (inner : ℕ) → (members : Structure) → (after : Structure) → Structure

-- the items as they are written, at this level
abbrev pub written_items : ℕ → Structure → List Entry
written_items level Nothing = []
written_items level (Elementary name text picture after) =
    record { level = level; name = name; picture = Some text } ∷ written_items level after
written_items level (Group name inner members after) =
    record { level = level; name = name; picture = None } ∷ written_items inner members
    ++ written_items level after

-- how many characters they have together
abbrev pub width : Structure → ℕ
width Nothing = 0
width (Elementary name text picture after) = picture.length + width after
width (Group name inner members after) = width members + width after

-- one item with its place
abbrev pub placed : Option (List ℕ) → ℕ → ℕ → Bool → Placed
placed name offset length numeric = record {
  name = name;
  field = record { offset = offset; length = length; numeric = numeric };
}

-- where they stand, from an offset on: each behind the one before, and a group where its first member stands
abbrev pub places : ℕ → Structure → List Placed
places offset Nothing = []
places offset (Elementary name text picture after) =
    record {
      name = name;
      field = record { offset = offset; length = picture.length; numeric = picture.numeric };
    } ∷ places (offset + picture.length) after
places offset (Group name inner members after) =
    record {
      name = name;
      field = record { offset = offset; length = width members; numeric = false };
    } ∷ places offset members ++ places (offset + width members) after

abbrev pub is_nothing : Structure → Bool
is_nothing Nothing = true
is_nothing (Elementary name text picture after) = false
is_nothing (Group name inner members after) = false

-- each picture means what it is taken for, and a group has a member, of a greater level number up to 49
abbrev pub IsWellFormed : ℕ → Structure → Type 0
IsWellFormed level Nothing = Unit {0}
IsWellFormed level (Elementary name text picture after) = IsPicture text picture × IsWellFormed level after
IsWellFormed level (Group name inner members after) =
    (level < inner) × (inner ≤ 49) × IsFalse (is_nothing members) × IsWellFormed inner members
    × IsWellFormed level after

-- one item alone
abbrev pub is_one : Structure → Bool
is_one Nothing = false
is_one (Elementary name text picture after) = is_nothing after
is_one (Group name inner members after) = is_nothing after

-- ---- names

-- whether an item has this name
abbrev pub is_named : List ℕ → Option (List ℕ) → Bool
is_named name None = false
is_named name (Some other) = bytes_eq other name

-- whether one of these entries has the name, if there is a name
abbrev pub is_name_of : List Entry → Option (List ℕ) → Bool
is_name_of entries None = false
is_name_of entries (Some name) = list_any (λ entry. is_named name entry.name) entries

-- ---- a layout

-- the entries are a record, an item of level 01 of at most 4,000 characters, of which no two have one
-- name, and these are the places of its items
pub record IsLayout (entries : List Entry) (layout : List Placed) : Type 0 where
  pub structure : Structure
  pub one : IsTrue (is_one structure)
  pub entries_are : entries ≡ written_items 1 structure
  pub sound : IsWellFormed 1 structure
  pub names : AllPairs (λ a b. a.name ≡ b.name → IsNone a.name) entries
  pub short : width structure ≤ 4000
  pub layout_is : layout ≡ places 0 structure

-- the length of the record, which is the first item
abbrev pub length_of : List Placed → ℕ
length_of [] = 0
length_of (item ∷ after) = item.field.length

-- the item of a name
abbrev pub field_of : List Placed → List ℕ → Option Field
field_of [] name = None
field_of (item ∷ after) name = if is_named name item.name then Some item.field else field_of after name

-- what is true of every layout: the record has 1 to 4,000 characters, and each item has one or more of them
pub record IsRecord (layout : List Placed) : Type 0 where
  pub some : 1 ≤ length_of layout
  pub short : length_of layout ≤ 4000
  pub within : All (λ item. (1 ≤ item.field.length)
      × (item.field.offset + item.field.length ≤ length_of layout)) layout
