-- How long a row is, and its stamps in the heap.
use Rattle.std.proofs.Common.{◌≡◌, ℕ, ◌+◌, ◌≤◌, true, List, [], ◌∷◌, length, drop, refl, arith, length-append, length-drop}
use Rattle.std.specs.Prelude.{nat_le}
use Rattle.std.proofs.lemmas.Grind.{common_steps}
use Rattle.byteorder.specs.Endian.{big_bytes}
use Rattle.record_layout.specs.declared.schema.KeyPart.{KeyPart}
use Rattle.record_layout.specs.Schema.{Schema, has_duplicates}
use Rattle.indexed_file.specs.File.{Row}
use Rattle.indexed_file.specs.Sound.{is_row}
use Rattle.open_file.specs.Stored.{stamp_bytes, stamps_length}
use Rattle.open_file.proofs.OrderLemmas.{either}
use Rattle.open_file.proofs.PartsLemmas.{from_eq}
use Rattle.indexed_file.proofs.RowLemmas.{row_parts}
use Rattle.std.proofs.lemmas.Bool.{and_parts}

pub record IsMade (schema : Schema) (row : Row) : Type 0 where
  pub short : length row.bytes ≤ schema.greatest
  pub width : length (stamp_bytes (drop 1 schema.keys) row.stamps) ≡ stamps_length (drop 1 schema.keys)

eight : (x : ℕ) → length (big_bytes 8 x) ≡ 8
eight x = refl

pub stamp_length : (parts : List KeyPart) (stamps : List ℕ) → length stamps ≡ length parts → length (stamp_bytes parts stamps) ≡ stamps_length parts
stamp_length [] stamps h = refl
stamp_length (part ∷ parts) [] h = absurd (omega (arith, h))
stamp_length (part ∷ parts) (stamp ∷ stamps) h =
    let rest : length stamps ≡ length parts = omega (arith, h) in
    either (has_duplicates part) (length (stamp_bytes (part ∷ parts) (stamp ∷ stamps)) ≡ stamps_length (part ∷ parts))
    (λ yes. rw yes (omega (arith, length-append (big_bytes 8 stamp) (stamp_bytes parts stamps), eight stamp, stamp_length parts stamps rest)))
    (λ no. rw no (stamp_length parts stamps rest))

from_le : (a b : ℕ) → nat_le a b ≡ true → a ≤ b
from_le a b h = grind (arith, common_steps)

pub is_made : (schema : Schema) (next : ℕ) (row : Row) → is_row schema next row ≡ true → IsMade schema row
is_made schema next row h =
    let parts = row_parts schema next row h in
    let lengths : (nat_le schema.least (length row.bytes) ≡ true) × (nat_le (length row.bytes) schema.greatest ≡ true) = and_parts _ _ parts.0 in
    let count : length row.stamps + 1 ≡ length schema.keys = from_eq _ _ parts.1 in
    let same : length row.stamps ≡ length (drop 1 schema.keys) = omega (arith, count, length-drop 1 schema.keys) in
    record { short = from_le _ _ lengths.1; width = stamp_length (drop 1 schema.keys) row.stamps same }
