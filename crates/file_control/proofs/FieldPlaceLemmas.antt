-- Places of items by their names, one item at a time.
use Rattle.std.proofs.Common.{cond, List, [], ◌∷◌, Some, ap, ◌∙◌}
use Rattle.std.specs.Ordering.{nat_cmp}
use Rattle.std.specs.Str.{bytes_eq}
use Rattle.std.specs.Cmp.Lexicographic.{slice_cmp}
use Rattle.std.specs.BTreeMap.{BTreeMap, UpdatesBy}
use Rattle.std.proofs.lemmas.Map.Text.{is_eq-slice_cmp}
use Rattle.arrayvec.specs.ArrayString.{ArrayString}
use Rattle.record_layout.specs.declared.item.Field.{Field}
use Rattle.record_layout.specs.Layout.{Placed}
use Rattle.file_control.specs.FieldPlaces.{field_at, AreFields}

-- the place of a name is put into the map
pub with_field : (key : ArrayString) (field : Field) (items : List Placed) (before after : BTreeMap ArrayString Field) → UpdatesBy (λ s t. slice_cmp nat_cmp s.bytes t.bytes) (λ t. slice_cmp nat_cmp key.bytes t.bytes) before after (Some field) → AreFields before items → AreFields after (record { name = Some key.bytes; field = field } ∷ items)
with_field key field items before after updates known name =
    updates.0 (record { bytes = name; spare = [] })
    ∙ ap (λ here. cond here (Some field) (field_at before name)) (is_eq-slice_cmp key.bytes name)
    ∙ ap (cond (bytes_eq key.bytes name) (Some field)) (known name)
