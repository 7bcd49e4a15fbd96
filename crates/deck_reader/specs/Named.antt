-- What has a name, of what the procedure knows.
use Rattle.std.specs.Prelude.{◌≡◌, ℕ, List, Some, None, position, is_some, true, bytes_eq}
use Rattle.record_layout.specs.Layout.{is_named, field_of}
use Rattle.deck_parser.specs.declared.fault.Named.{Named}
use Rattle.deck_parser.specs.declared.fault.Named.TheVariants.{Nothing, File, Record, Item, LengthItem}
use Rattle.deck_reader.specs.Names.{Names}

-- the name is that of no file, no item and no 77-level item; or of a file; of its record; of an item of
-- its record; or of a 77-level item
abbrev pub IsNamed : Names → List ℕ → Named → Type 0
IsNamed names name Nothing =
    (position (λ file. bytes_eq file.name name) names.files ≡ None)
    × (position (λ file. is_some (field_of file.layout name)) names.files ≡ None)
    × (position (λ item. bytes_eq item.name name) names.items ≡ None)
IsNamed names name (File u) = position (λ file. bytes_eq file.name name) names.files ≡ Some u
IsNamed names name (Record u) = position (λ file. is_named name file.entry) names.files ≡ Some u
IsNamed names name (Item u) = position (λ file. is_some (field_of file.layout name)) names.files ≡ Some u
IsNamed names name LengthItem = is_some (position (λ item. bytes_eq item.name name) names.items) ≡ true
