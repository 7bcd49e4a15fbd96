-- What the heap keeps of a row.
use Rattle.std.specs.Prelude.{◌≡◌, ℕ, ◌+◌, List, [], ◌∷◌, ◌++◌, drop, Some, ⊤, if◌then◌else◌}
use Rattle.byteorder.specs.Endian.{big_bytes}
use Rattle.record_layout.specs.declared.schema.KeyPart.{KeyPart}
use Rattle.record_layout.specs.Schema.{Schema, has_duplicates}
use Rattle.indexed_file.specs.File.{Row}
use Rattle.record_heap.specs.declared.shape.Place.{Place}
use Rattle.record_heap.specs.Chain.{Slots}

-- the stamps in the duplicates keys, eight bytes each, by key number
abbrev pub stamp_bytes : List KeyPart → List ℕ → List ℕ
stamp_bytes [] stamps = []
stamp_bytes (part ∷ parts) [] = []
stamp_bytes (part ∷ parts) (stamp ∷ stamps) = if has_duplicates part then big_bytes 8 stamp
    ++ stamp_bytes parts stamps else stamp_bytes parts stamps

-- how long they are
abbrev pub stamps_length : List KeyPart → ℕ
stamps_length [] = 0
stamps_length (part ∷ parts) = if has_duplicates part then 8 + stamps_length parts else stamps_length parts

-- and the record after them
abbrev pub stored : Schema → Row → List ℕ
stored schema row = stamp_bytes (drop 1 schema.keys) row.stamps ++ row.bytes

-- each row is at its place
abbrev pub AreAt : Schema → Slots → List Place → List Row → Type 0
AreAt schema slots [] [] = ⊤
AreAt schema slots [] (row ∷ rows) = ⊥
AreAt schema slots (place ∷ places) [] = ⊥
AreAt schema slots (place ∷ places) (row ∷ rows) =
    (slots place ≡ Some (stored schema row)) × AreAt schema slots places rows
