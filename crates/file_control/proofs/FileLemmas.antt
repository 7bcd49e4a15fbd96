-- What a file's checks say of it.
use Rattle.std.proofs.Common.{◌≡◌, ℕ, Bool, true, false, cond, ltb, List, [], ◌∷◌, ◌++◌, length, Option, Some, None, refl, sym, ◌∙◌}
use Rattle.std.specs.Prelude.{Result, Ok, Err}
use Rattle.std.specs.List.{list_all}
use Rattle.record_layout.specs.declared.fault.SchemaFault.{SchemaFault}
use Rattle.record_layout.specs.declared.item.Field.{Field}
use Rattle.record_layout.specs.declared.schema.KeyKind.{KeyKind}
use Rattle.record_layout.specs.declared.schema.KeyKind.TheVariants.{Prime}
use Rattle.record_layout.specs.declared.schema.KeyPart.{KeyPart}
use Rattle.record_layout.specs.Layout.{Entry, Placed, IsLayout, is_name_of, field_of}
use Rattle.record_layout.specs.SchemaFault.{KeyClause, key_of_item, key_of_clause, where_a_key, keys_behind, GivesSchema}
use Rattle.record_layout.specs.Schema.{Schema, alternate_kind}
use Rattle.deck_parser.proofs.TestLemmas.{both_are}
use Rattle.deck_entries.specs.FileControlEntry.{FileControlEntry}
use Rattle.file_control.specs.Checks.{are_keys_named}
use Rattle.file_control.proofs.LayoutLemmas.{no_field}

-- ---- keys are items

key_found : (least : ℕ) (keys : List KeyPart) (kind : KeyKind) (found : Option Field) (key : KeyPart) → key_of_item least keys kind found ≡ Ok key → (field : Field) × (found ≡ Some field)
key_found least keys kind None key e = absurd (cc)
key_found least keys kind (Some field) key e = (field, refl)

then_key : (r : Result KeyPart SchemaFault) (follows : KeyPart → Result (List KeyPart) SchemaFault) (all : List KeyPart) → where_a_key r follows ≡ Ok all → (key : KeyPart) × (r ≡ Ok key) × (follows key ≡ Ok all)
then_key (Err fault) follows all e = absurd (cc)
then_key (Ok key) follows all e = (key, refl, e)

named_by : (entries : List Entry) (layout : List Placed) (name : List ℕ) (field : Field) → IsLayout entries layout → field_of layout name ≡ Some field → is_name_of entries (Some name) ≡ true
named_by entries layout name field is e = by_test (is_name_of entries (Some name)) refl
  where
    by_test : (b : Bool) → is_name_of entries (Some name) ≡ b → b ≡ true
    by_test true k = refl
    by_test false k = let none = sym (no_field entries layout name is k) ∙ e in absurd (cc)

all_named : (entries : List Entry) (layout : List Placed) (least : ℕ) (clauses : List KeyClause) (keys all : List KeyPart) → IsLayout entries layout → keys_behind layout least keys clauses ≡ Ok all → list_all (λ clause. is_name_of entries (Some clause.name)) clauses ≡ true
all_named entries layout least [] keys all is e = refl
all_named entries layout least (clause ∷ clauses) keys all is e =
    let t = then_key (key_of_clause layout least keys clause) (λ key. keys_behind layout least (keys ++ key ∷ []) clauses) all e in
    let f = key_found least keys (alternate_kind clause.duplicates) (field_of layout clause.name) t.0 t.1 in
    both_are (is_name_of entries (Some clause.name)) _ (named_by entries layout clause.name f.0 is f.1) (all_named entries layout least clauses (keys ++ t.0 ∷ []) all is t.2)

passed : (b : Bool) (fault : SchemaFault) (r : Result (List KeyPart) SchemaFault) (all : List KeyPart) → cond b (Err fault) r ≡ Ok all → r ≡ Ok all
passed true fault r all e = absurd (cc)
passed false fault r all e = e

-- where there is a schema, each key is an item
pub keys_are_named : (entries : List Entry) (layout : List Placed) (least : ℕ) (entry : FileControlEntry) (schema : Schema) → IsLayout entries layout → GivesSchema layout least entry.record_key entry.alternate_keys schema → are_keys_named entries entry ≡ true
keys_are_named entries layout least entry schema is given =
    let clauses = entry.alternate_keys in
    let prime = key_of_item least [] Prime (field_of layout entry.record_key) in
    let t = then_key prime (λ key. keys_behind layout least (key ∷ []) clauses) given.0 (passed (ltb 8 (length clauses)) _ _ given.0 given.1) in
    let f = key_found least [] Prime (field_of layout entry.record_key) t.0 t.1 in
    both_are (is_name_of entries (Some entry.record_key)) _ (named_by entries layout entry.record_key f.0 is f.1) (all_named entries layout least clauses (t.0 ∷ []) given.0 is t.2)

-- ---- lengths
