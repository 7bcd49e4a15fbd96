-- Which keys a schema has, and which fault a list of keys has: the prime key is looked at first,
-- and then the alternates in the order in which they are given, each by the tests below in their
-- order.
-- ANSI X3.23-1985, Indexed I-O module, FILE-CONTROL entry: the leftmost character of no key is that
-- of another; RECORD clause: each key is within the least record length. The limits of 250
-- characters and 8 alternate keys are ours.
use Rattle.std.specs.Prelude.{◌≡◌, ℕ, ◌+◌, ◌==◌, Bool, List, [], ◌∷◌, ◌++◌, length, map, nat_lt, Option}
use Rattle.std.specs.Prelude.{Some, None, option_map, Result, Ok, Err, IsPermutation, if◌then◌else◌}
use Rattle.std.specs.List.{list_any}
use Rattle.arrayvec.specs.ArrayString.{ArrayString as Text}
use Rattle.arrayvec.specs.ArrayVec.{ArrayVec}
use Rattle.record_layout.specs.declared.fault.SchemaFault.{SchemaFault}
use Rattle.record_layout.specs.declared.fault.SchemaFault.TheVariants.{NoSuchField, KeyTooLong, SameLeftmost}
use Rattle.record_layout.specs.declared.fault.SchemaFault.TheVariants.{TooManyKeys, KeyPastLeast}
use Rattle.record_layout.specs.declared.item.Field.{Field}
use Rattle.record_layout.specs.declared.schema.KeyKind.{KeyKind}
use Rattle.record_layout.specs.declared.schema.KeyKind.TheVariants.{Prime, Unique, Duplicates}
use Rattle.record_layout.specs.declared.schema.KeyPart.{KeyPart}
use Rattle.record_layout.specs.Layout.{Placed, field_of, length_of}
use Rattle.record_layout.specs.Schema.{Schema, alternate_kind}

-- the clause of an alternate key: the name of an item, and whether it says WITH DUPLICATES
pub record KeyClause : Type 0 where
  pub name : List ℕ
  pub duplicates : Bool

-- an alternate key as it is given
abbrev pub clause_of : Text × Bool → KeyClause
clause_of alternate = record { name = alternate.0.bytes; duplicates = alternate.1 }

-- the item of this name, as a key of this kind
abbrev pub item_as_key : List Placed → List ℕ → KeyKind → Option KeyPart
item_as_key layout name kind = option_map
    (λ field. record { offset = field.offset; length = field.length; kind = kind }) (field_of layout name)

-- the schema is one of this record, and its keys are the items that the clauses name: the prime key
-- first, and then the alternates, sorted as each schema has them
pub record HasNamedKeys (layout : List Placed) (prime : List ℕ) (alternates : List KeyClause)
    (schema : Schema) : Type 0 where
  pub greatest : schema.greatest ≡ length_of layout
  pub first : KeyPart
  pub others : List KeyPart
  pub sorted : List KeyPart
  pub prime_is : item_as_key layout prime Prime ≡ Some first
  pub others_are : map (λ clause. item_as_key layout clause.name
      (if clause.duplicates then Duplicates else Unique)) alternates ≡ map Some others
  pub order : IsPermutation others sorted
  pub keys : schema.keys ≡ first ∷ sorted

-- ---- the first fault of the clauses, where they have one

-- whether a key begins with the item's leftmost character
abbrev pub begins_one : List KeyPart → Field → Bool
begins_one keys field = list_any (λ key. key.offset == field.offset) keys

-- the key that an item is, or its first fault, behind these keys
abbrev pub key_of_item : ℕ → List KeyPart → KeyKind → Option Field → Result KeyPart SchemaFault
key_of_item least keys kind None = Err NoSuchField
key_of_item least keys kind (Some field) =
    if nat_lt 250 field.length then Err KeyTooLong
    else if begins_one keys field then Err SameLeftmost
    else if nat_lt least (field.offset + field.length) then Err KeyPastLeast
    else Ok (record { offset = field.offset; length = field.length; kind = kind })

abbrev pub key_of_clause : List Placed → ℕ → List KeyPart → KeyClause → Result KeyPart SchemaFault
key_of_clause layout least keys clause =
    key_of_item least keys (alternate_kind clause.duplicates) (field_of layout clause.name)

-- what follows a key, or its fault
abbrev pub where_a_key : Result KeyPart SchemaFault → (KeyPart → Result (List KeyPart) SchemaFault)
    → Result (List KeyPart) SchemaFault
where_a_key (Err fault) follows = Err fault
where_a_key (Ok key) follows = follows key

-- the keys of the clauses behind these keys, in the order given, or the first fault
abbrev pub keys_behind : List Placed → ℕ → List KeyPart → List KeyClause → Result (List KeyPart) SchemaFault
keys_behind layout least keys [] = Ok keys
keys_behind layout least keys (clause ∷ clauses) =
    where_a_key (key_of_clause layout least keys clause)
    (λ key. keys_behind layout least (keys ++ key ∷ []) clauses)

-- all keys in the order given, the prime key first, or the first fault
abbrev pub keys_given : List Placed → ℕ → List ℕ → List KeyClause → Result (List KeyPart) SchemaFault
keys_given layout least prime alternates =
    if nat_lt 8 (length alternates) then Err TooManyKeys
    else where_a_key (key_of_item least [] Prime (field_of layout prime))
    (λ key. keys_behind layout least (key ∷ []) alternates)

-- a schema of these keys: the prime key first, and then the same alternates, by rising offset as
-- each schema has them
abbrev pub HasKeys : Schema → List KeyPart → Type 0
HasKeys schema [] = ⊥
HasKeys schema (prime ∷ alternates) = (sorted : List KeyPart) × (schema.keys ≡ prime ∷ sorted)
    × IsPermutation alternates sorted

-- what a layout and key clauses give
abbrev pub GivesSchema : List Placed → ℕ → List ℕ → List KeyClause → Schema → Type 0
GivesSchema layout least prime alternates schema =
    (keys : List KeyPart) × (keys_given layout least prime alternates ≡ Ok keys) × HasKeys schema keys
    × (schema.least ≡ least) × (schema.greatest ≡ length_of layout)

-- what a layout and key clauses give that have a fault
abbrev pub GivesFault : List Placed → ℕ → List ℕ → List KeyClause → SchemaFault → Type 0
GivesFault layout least prime alternates fault = keys_given layout least prime alternates ≡ Err fault

-- an answer that has the keys in the order given, or their first fault
abbrev pub AnswersKeys : List Placed → ℕ → List ℕ → List KeyClause
    → Result (ArrayVec KeyPart) SchemaFault → Type 0
AnswersKeys layout least prime alternates (Ok keys) =
    keys_given layout least prime alternates ≡ Ok keys.items
AnswersKeys layout least prime alternates (Err fault) = GivesFault layout least prime alternates fault
