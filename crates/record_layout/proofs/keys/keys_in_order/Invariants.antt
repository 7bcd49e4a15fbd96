use Rattle.std.proofs.Common.{◌≡◌, ◌+◌, [], ◌∷◌, length, drop, map}
use Rattle.record_layout.specs.declared.schema.KeyKind.TheVariants.{Prime}
use Rattle.record_layout.specs.Layout.{field_of}
use Rattle.record_layout.specs.SchemaFault.{clause_of, key_of_item, where_a_key, keys_behind}
use Rattle.record_layout.proofs.keys.keys_in_order.Given as goal

abbrev pub invariant-loop-name : goal.invariant-loop-name
invariant-loop-name l =
    (where_a_key (key_of_item l.least [] Prime (field_of l.layout l.prime)) (λ key. keys_behind l.layout l.least (key ∷ []) (map clause_of l.alternates))
    ≡ keys_behind l.layout l.least l.keys.items (map clause_of (drop l.name-index l.alternates)))
    × (length l.keys.items ≡ l.name-index + 1)
