-- The columns of a record that is cut at offsets, and those of a record that is described. All of
-- this is ours.
use Rattle.std.specs.Prelude.{◌≡◌, ℕ, ◌+◌, ◌-◌, ◌==◌, ◌&&◌, Bool, true, false, nat_lt, List, [], ◌∷◌, ◌++◌}
use Rattle.std.specs.Prelude.{map, codes, decimal, Option, Some, None, if◌then◌else◌}
use Rattle.record_layout.specs.Layout.{Entry, Placed, Structure, Nothing, Elementary, Group, width, placed}
use Rattle.record_layout.specs.Layout.{IsLayout}
use Rattle.record_text.specs.declared.column.Column.{Column}

-- what a column says: its name, its place, and whether it is numeric
pub record Part : Type 0 where
  pub name : List ℕ
  pub offset : ℕ
  pub length : ℕ
  pub numeric : Bool

abbrev pub part_of_column : Column → Part
part_of_column column = record {
  name = column.name.bytes;
  offset = column.offset;
  length = column.length;
  numeric = column.numeric;
}

-- columns with these parts were added
abbrev pub AddsParts : (old new : List Column) → List Part → Type 0
AddsParts old new parts = map part_of_column new ≡ map part_of_column old ++ parts

-- ---- cuts

-- each cut is behind the one before it, and the first one behind this offset
abbrev pub do_rise : ℕ → List ℕ → Bool
do_rise from [] = true
do_rise from (at ∷ cuts) = nat_lt from at && do_rise at cuts

-- column n
abbrev pub cut_part : ℕ → ℕ → ℕ → Part
cut_part n offset length = record {
  name = codes "column-" ++ decimal n;
  offset = offset;
  length = length;
  numeric = false;
}

-- from column n on, which begins at an offset: up to each cut, and what is behind the last one (no
-- record has more than 4,000 bytes)
abbrev pub cut_parts : ℕ → ℕ → List ℕ → List Part
cut_parts n from [] = cut_part n from 4000 ∷ []
cut_parts n from (at ∷ cuts) = cut_part n from (at - from) ∷ cut_parts (n + 1) at cuts

-- ---- a description

-- FILLER has no name: its column is named after its offset, and no item can have that name
abbrev pub name_or : ℕ → Option (List ℕ) → List ℕ
name_or offset (Some name) = name
name_or offset None = codes "FILLER " ++ decimal offset

abbrev pub item_part : Placed → Part
item_part item = record {
  name = name_or item.field.offset item.name;
  offset = item.field.offset;
  length = item.field.length;
  numeric = item.field.numeric;
}

-- whether an item is a group: the item behind it, its first one, begins where it does
abbrev pub is_group : Placed → List Placed → Bool
is_group item [] = false
is_group item (next ∷ after) = next.field.offset == item.field.offset

-- the part of an item that is no group
abbrev pub part_if_elementary : Placed → List Placed → List Part
part_if_elementary item after = if is_group item after then [] else item_part item ∷ []

-- the elementary items, in the order of their entries
abbrev pub item_parts : List Placed → List Part
item_parts [] = []
item_parts (item ∷ after) = (if is_group item after then [] else item_part item ∷ []) ++ item_parts after

-- the same by the structure of the record, from an offset on: an item with a picture is elementary,
-- and the items of a group stand in its place
abbrev pub elementary_parts : ℕ → Structure → List Part
elementary_parts offset Nothing = []
elementary_parts offset (Elementary name text picture after) =
    item_part (placed name offset picture.length picture.numeric) ∷ elementary_parts
    (offset + picture.length) after
elementary_parts offset (Group name inner members after) =
    elementary_parts offset members ++ elementary_parts (offset + width members) after

-- the columns of a record are those of its elementary items
abbrev pub AreElementary : Type 0
AreElementary = (entries : List Entry) (layout : List Placed) (laid : IsLayout entries layout)
    → item_parts layout ≡ elementary_parts 0 laid.structure

-- ---- no columns asked for

-- the record, as one column
abbrev pub whole_part : Part
whole_part = record { name = codes "record"; offset = 0; length = 4000; numeric = false }
