-- Columns that are a whole record. All of this is ours.
use Rattle.std.specs.Prelude.{◌≡◌, ℕ, ◌+◌, List, [], ◌∷◌, map, ⊤}
use Rattle.record_layout.specs.Layout.{Entry, Placed, IsLayout, length_of}
use Rattle.record_text.specs.declared.form.Form.{Form}
use Rattle.record_text.specs.declared.form.Form.TheVariants.{Text, Csv, Json}
use Rattle.record_text.specs.Parts.{Part, part_of_column, item_parts}

-- the parts stand one behind the other, from an offset up to another one
abbrev pub AreTiled : ℕ → List Part → ℕ → Type 0
AreTiled from [] end = from ≡ end
AreTiled from (part ∷ parts) end = (part.offset ≡ from) × AreTiled (from + part.length) parts end

-- the columns of a form are a record of this length from its first byte to its last; text has none
abbrev pub IsWholeForm : Form → ℕ → Type 0
IsWholeForm Text length = ⊤
IsWholeForm (Csv columns) length = AreTiled 0 (map part_of_column columns.items) length
IsWholeForm (Json columns) length = AreTiled 0 (map part_of_column columns.items) length

-- the columns of the elementary items of a record are the whole of it
abbrev pub AreItemsWhole : Type 0
AreItemsWhole = (entries : List Entry) (layout : List Placed) → IsLayout entries layout
    → AreTiled 0 (item_parts layout) (length_of layout)
