-- The stamps of a new record, as the heap keeps them.
use Rattle.std.specs.Prelude.{◌≡◌, ℕ, List, length, drop, map, if◌then◌else◌}
use Rattle.record_layout.specs.declared.schema.KeyPart.{KeyPart}
use Rattle.record_layout.specs.Schema.{Schema, has_duplicates}
use Rattle.open_file.specs.Stored.{stamp_bytes, stamps_length}

-- the stamps of a new row in the alternate keys
abbrev pub stamps_from : Schema → ℕ → List ℕ
stamps_from schema stamp =
    map (λ (part : KeyPart). if has_duplicates part then stamp else 0) (drop 1 schema.keys)

-- these bytes are its stamps, eight bytes for each alternate key of duplicates
pub record AreStampsOf (schema : Schema) (stamp : ℕ) (bytes : List ℕ) : Type 0 where
  pub are : bytes ≡ stamp_bytes (drop 1 schema.keys) (stamps_from schema stamp)
  pub long : length bytes ≡ stamps_length (drop 1 schema.keys)
