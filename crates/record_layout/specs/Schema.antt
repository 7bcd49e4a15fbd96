-- The keys of a file's records, and the values of a record's keys.
-- ANSI X3.23-1985, Indexed I-O module, FILE-CONTROL entry: RECORD KEY and ALTERNATE RECORD KEY clauses.
use Rattle.std.specs.Prelude.{◌≡◌, ◌≢◌, ℕ, ◌+◌, ◌<◌, ◌≤◌, ◌==◌, Bool, true, false, ◌&&◌, List, []}
use Rattle.std.specs.Prelude.{◌∷◌, length, take, drop, nat_le, slice_index_or, Option, position, IfSome, All}
use Rattle.std.specs.Prelude.{AllPairs, if◌then◌else◌}
use Rattle.std.specs.Cmp.Lexicographic.{pointwise}
use Rattle.record_layout.specs.declared.item.Field.{Field}
use Rattle.record_layout.specs.declared.schema.KeyKind.{KeyKind}
use Rattle.record_layout.specs.declared.schema.KeyKind.TheVariants.{Prime, Unique, Duplicates}
use Rattle.record_layout.specs.declared.schema.KeyPart.{KeyPart}

-- the least and the greatest length of a file's records, and its keys: key 0 is the prime key, and
-- the alternates follow by rising offset (ours: so the order of their clauses does not matter)
pub record Schema : Type 0 where
  pub least : ℕ
  pub greatest : ℕ
  pub keys : List KeyPart

abbrev pub schema_of_fields : ℕ → ℕ → List KeyPart → Schema
schema_of_fields least greatest keys = record { least = least; greatest = greatest; keys = keys }

-- the kind of an alternate key, by whether its clause says WITH DUPLICATES
abbrev pub alternate_kind : Bool → KeyKind
alternate_kind duplicates = if duplicates then Duplicates else Unique

-- the kinds are the same
abbrev pub same_kind : KeyKind → KeyKind → Bool
same_kind Prime Prime = true
same_kind Unique Unique = true
same_kind Duplicates Duplicates = true
same_kind _ _ = false

-- whether keys of this kind may have duplicates
abbrev pub is_duplicates : KeyKind → Bool
is_duplicates kind = same_kind kind Duplicates

-- whether the key may have duplicates
abbrev pub has_duplicates : KeyPart → Bool
has_duplicates part = same_kind part.kind Duplicates

-- the part of a key that a schema does not have: no bytes
abbrev pub no_key : KeyPart
no_key = record { offset = 0; length = 0; kind = Prime }

-- key k; a key that the schema does not have is no bytes
abbrev pub key_at : Schema → ℕ → KeyPart
key_at schema k = slice_index_or schema.keys k (record { offset = 0; length = 0; kind = Prime })

-- the bytes of a part of a record
abbrev pub part_of : KeyPart → List ℕ → List ℕ
part_of part bytes = take part.length (drop part.offset bytes)

-- the value of key k of a record
abbrev pub value_of : Schema → ℕ → List ℕ → List ℕ
value_of schema k bytes = part_of (key_at schema k) bytes

-- the value of the prime key of a record
abbrev pub prime_of : Schema → List ℕ → List ℕ
prime_of schema bytes = value_of schema 0 bytes

-- a part of 1 to 250 bytes that each record has whole
pub record IsKey (least : ℕ) (part : KeyPart) : Type 0 where
  pub some : 1 ≤ part.length
  pub short : part.length ≤ 250
  pub within : part.offset + part.length ≤ least

-- the first key alone is the prime key, it begins elsewhere than each alternate, and the alternates stand
-- by rising offset
abbrev pub AreKeys : List KeyPart → Type 0
AreKeys [] = ⊥
AreKeys (prime ∷ alternates) =
    (prime.kind ≡ Prime) × All (λ part. (part.offset ≡ prime.offset → ⊥)) alternates
    × AllPairs (λ a b. a.offset < b.offset) alternates × All (λ part. part.kind ≢ Prime) alternates

-- what is true of every schema: records have 1 to 4,000 bytes, and there are 1 to 9 keys
pub record IsSchema (schema : Schema) : Type 0 where
  pub some : 1 ≤ schema.least
  pub ordered : schema.least ≤ schema.greatest
  pub limit : schema.greatest ≤ 4000
  pub few : length schema.keys ≤ 9
  pub whole : All (IsKey schema.least) schema.keys
  pub keys : AreKeys schema.keys

-- the parts are the same bytes of a record, and keys of the same kind
abbrev pub same_part : KeyPart → KeyPart → Bool
same_part a b = (a.offset == b.offset) && (a.length == b.length) && same_kind a.kind b.kind

-- the lengths are the same, and all keys: the same bytes of a record, of the same kinds
abbrev pub same_schema : Schema → Schema → Bool
same_schema a b = (a.least == b.least) && (a.greatest == b.greatest) && pointwise (λ key other.
    (key.offset == other.offset) && (key.length == other.length) && same_kind key.kind other.kind)
    a.keys b.keys

-- the key that is the item's very bytes: an item with a key's offset and length counts as that key (ours)
abbrev pub key_of_field : Schema → Field → Option ℕ
key_of_field schema field = position (λ part. (part.offset == field.offset)
    && (part.length == field.length)) schema.keys

-- the key that begins with the item: the item's leftmost character is the key's, and it is not longer
abbrev pub key_led_by : Schema → Field → Option ℕ
key_led_by schema field = position (λ part. (part.offset == field.offset)
    && nat_le field.length part.length) schema.keys

-- the number of the first part that passes a test, which is one of the parts
abbrev pub IsFirstPart : (KeyPart → Bool) → List KeyPart → Option ℕ → Type 0
IsFirstPart passes parts k = (k ≡ position passes parts) × IfSome k (λ k. k < length parts)
