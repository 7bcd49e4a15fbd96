-- The description of a deck: its files, in the order of their file control entries, and its
-- 77-level items. ANSI X3.23-1985, Indexed I-O module, FILE-CONTROL entry, file description entry
-- and RECORD clause. That data names are unique in a deck, and that a 77-level item is one of
-- digits, is ours.
use Rattle.std.specs.Prelude.{◌≡◌, ℕ, ◌≤◌, ◌==◌, Bool, true, false, not, ◌&&◌, List, [], ◌∷◌, ◌++◌, nat_le}
use Rattle.std.specs.Prelude.{nat_lt, slice_get, position, filter_map, if◌then◌else◌, Option, Some, None}
use Rattle.std.specs.Prelude.{option_and_then, map}
use Rattle.std.specs.List.{list_all, list_any, find}
use Rattle.std.specs.Option.{option_map_or}
use Rattle.std.specs.Str.{bytes_eq}
use Rattle.io_state.specs.declared.modes.Access.{Access}
use Rattle.record_layout.specs.declared.picture.Picture.{Picture}
use Rattle.record_layout.specs.Picture.{IsPicture}
use Rattle.record_layout.specs.Layout.{Entry, Placed, IsLayout, length_of}
use Rattle.record_layout.specs.Schema.{Schema, IsSchema}
use Rattle.record_layout.specs.SchemaFault.{HasNamedKeys, GivesSchema}
use Rattle.deck_entries.specs.FileControlEntry.{FileControlEntry}
use Rattle.deck_entries.specs.declared.record_length.RecordLength.{RecordLength}
use Rattle.deck_entries.specs.declared.record_length.RecordLength.TheVariants.{Fixed, Varying}
use Rattle.deck_entries.specs.FileDescription.{FileDescription, StorageEntry}

-- ---- data names

abbrev pub has_name : List (List ℕ) → List ℕ → Bool
has_name names name = list_any (λ other. bytes_eq other name) names

-- the names, with those of the items
abbrev pub with_names : List (List ℕ) → List Entry → List (List ℕ)
with_names names items = names ++ filter_map (λ item. item.name) items

-- ---- 77-level items

-- a 77-level item: its name, and how many digits it has
pub record LengthItem : Type 0 where
  pub name : List ℕ
  pub digits : ℕ

-- the picture is one of so many digits
abbrev pub HasDigits : List ℕ → ℕ → Type 0
HasDigits text digits = (picture : Picture) × IsPicture text picture × (picture.numeric ≡ true)
    × (picture.length ≡ digits)

-- each entry of the working storage is an item of digits, and its name is new behind these
abbrev pub AreItems : List (List ℕ) → List StorageEntry → List LengthItem → Type 0
AreItems names [] items = items ≡ []
AreItems names (entry ∷ entries) [] = ⊥
AreItems names (entry ∷ entries) (item ∷ items) =
    (has_name names entry.name ≡ false) × (item.name ≡ entry.name) × HasDigits entry.picture item.digits
    × AreItems (names ++ entry.name ∷ []) entries items

-- each entry of the working storage is an item of digits
abbrev pub HaveDigits : List StorageEntry → List LengthItem → Type 0
HaveDigits [] items = items ≡ []
HaveDigits (entry ∷ entries) [] = ⊥
HaveDigits (entry ∷ entries) (item ∷ items) = (item.name ≡ entry.name)
    × HasDigits entry.picture item.digits × HaveDigits entries items

-- ---- lengths

-- the least length of the records of a description, where the greatest one is that of the record
abbrev pub least_length : Option RecordLength → ℕ → Option ℕ
least_length None greatest = Some greatest
least_length (Some (Fixed n)) greatest = if n == greatest then Some greatest else None
least_length (Some (Varying lengths)) greatest =
    if nat_le 1 lengths.least && (nat_le lengths.least lengths.greatest
    && lengths.greatest == greatest) then Some lengths.least else None

-- how many digits a record's length has
abbrev pub digit_count : ℕ → ℕ
digit_count n = if nat_lt n 10 then 1 else if nat_lt n 100 then 2 else if nat_lt n 1000 then 3 else 4

-- the item of this name is the entry of this place, and has digits enough for the length
abbrev pub IsLengthItem : List StorageEntry → List ℕ → ℕ → ℕ → Type 0
IsLengthItem storage name greatest place =
    (position (λ entry. bytes_eq entry.name name) storage ≡ Some place)
    × ((entry : StorageEntry) × (slice_get storage place ≡ Some entry)
    × ((digits : ℕ) × HasDigits entry.picture digits × (digit_count greatest ≤ digits)))

-- the place of the item that the length of a record depends on
abbrev pub DependsOn : List StorageEntry → Option RecordLength → Option ℕ → Type 0
DependsOn storage None place = place ≡ None
DependsOn storage (Some (Fixed n)) place = place ≡ None
DependsOn storage (Some (Varying lengths)) None = ⊥
DependsOn storage (Some (Varying lengths)) (Some place) =
    IsLengthItem storage lengths.item lengths.greatest place

-- ---- files

-- a file, as its entry and its description describe it
pub record FileDesc : Type 0 where
  pub name : List ℕ
  pub file : List ℕ
  pub access : Access
  pub optional : Bool
  pub entry : Option (List ℕ)
  pub layout : List Placed
  pub schema : Schema
  pub depends_on : Option ℕ

-- the file of an entry and of the items of its record, with this layout and schema
abbrev pub described_by : FileControlEntry → List Entry → List Placed → Schema → Option ℕ → FileDesc
described_by entry items layout schema depends_on = record {
  name = entry.name;
  file = entry.file_name;
  access = entry.access;
  optional = entry.optional;
  entry = option_and_then (λ item. item.name) (slice_get items 0);
  layout = layout;
  schema = schema;
  depends_on = depends_on;
}

-- the keys of an entry are those of this schema
abbrev pub GivesKeys : List Placed → ℕ → FileControlEntry → Schema → Type 0
GivesKeys layout least entry schema = GivesSchema layout least entry.record_key entry.alternate_keys schema

-- the file of an entry and a description, behind these data names of earlier files: its record is the
-- first item, and no item has one of these names
pub record IsFile (names : List (List ℕ)) (storage : List StorageEntry) (entry : FileControlEntry)
    (description : FileDescription) (file : FileDesc) : Type 0 where
  pub name : file.name ≡ entry.name
  pub file_name : file.file ≡ entry.file_name
  pub access : file.access ≡ entry.access
  pub optional : file.optional ≡ entry.optional
  pub record_entry : file.entry ≡ option_and_then (λ item. item.name) (slice_get description.items 0)
  pub layout : IsLayout description.items file.layout
  pub least : least_length description.lengths (length_of file.layout) ≡ Some file.schema.least
  pub new : list_all (λ item. option_map_or (λ name. not (has_name names name)) item.name true)
      description.items ≡ true
  pub depends_on : DependsOn storage description.lengths file.depends_on
  pub keys : HasNamedKeys file.layout entry.record_key entry.alternate_keys file.schema
  pub schema : IsSchema file.schema

-- the files of these entries, each by its description, behind these data names, and all data names then
abbrev pub AreFiles : List FileDescription → List StorageEntry → List (List ℕ) → List FileControlEntry
    → List FileDesc → List (List ℕ) → Type 0
AreFiles descriptions storage names [] files after = (files ≡ []) × (after ≡ names)
AreFiles descriptions storage names (entry ∷ entries) [] after = ⊥
AreFiles descriptions storage names (entry ∷ entries) (file ∷ files) after =
    (description : FileDescription)
    × (find (λ description. bytes_eq description.name entry.name) descriptions ≡ Some description)
    × IsFile names storage entry description file × AreFiles descriptions storage
    (names ++ filter_map (λ item. item.name) description.items) entries files after

abbrev pub file_names : List FileDesc → List (List ℕ)
file_names files = map (λ file. file.file) files
