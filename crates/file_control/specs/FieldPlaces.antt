-- The places of a record's items, by their names in order.
use Rattle.std.specs.Prelude.{◌≡◌, ℕ, List, ◌∷◌, Option}
use Rattle.std.specs.Ordering.{nat_cmp}
use Rattle.std.specs.Cmp.Lexicographic.{slice_cmp}
use Rattle.std.specs.BTreeMap.{BTreeMap, get_by}
use Rattle.arrayvec.specs.ArrayString.{ArrayString}
use Rattle.record_layout.specs.declared.item.Field.{Field}
use Rattle.record_layout.specs.Layout.{Placed, field_of}

-- what the map has for a name
abbrev pub field_at : BTreeMap ArrayString Field → List ℕ → Option Field
field_at fields name = get_by (λ key. slice_cmp nat_cmp name key.bytes) fields

-- the map has the place of each item of the layout, and of no other name
abbrev pub AreFields : BTreeMap ArrayString Field → List Placed → Type 0
AreFields fields layout = (name : List ℕ) → field_at fields name ≡ field_of layout name

-- the place of one item more, which stands before the others
abbrev pub AddsField : Placed → (old new : BTreeMap ArrayString Field) → Type 0
AddsField item old new = (items : List Placed) → AreFields old items → AreFields new (item ∷ items)
