-- A row in the buffer of the heap.
use Rattle.std.proofs.Common.{◌≡◌, ℕ, ◌+◌, List, ◌++◌, length, drop, take, sym, arith, length-append, append_assoc}
use Rattle.std.proofs.Math.Seq.{drop-append_seam, take-append_seam}
use Rattle.record_layout.specs.Schema.{Schema}
use Rattle.indexed_file.specs.File.{Row}
use Rattle.open_file.specs.Stored.{stamp_bytes, stored}

pub stored_length : (schema : Schema) (row : Row) (stamps : ℕ) → length (stamp_bytes (drop 1 schema.keys) row.stamps) ≡ stamps → length (stored schema row) ≡ stamps + length row.bytes
stored_length schema row stamps h = omega (arith, h, length-append (stamp_bytes (drop 1 schema.keys) row.stamps) row.bytes)

-- the part of the buffer behind the stamps is the record
pub record_part : (schema : Schema) (row : Row) (stamps : ℕ) (buffer old : List ℕ) → length (stamp_bytes (drop 1 schema.keys) row.stamps) ≡ stamps
    → buffer ≡ stored schema row ++ drop (length (stored schema row)) old → take (length row.bytes) (drop stamps buffer) ≡ row.bytes
record_part schema row stamps buffer old h b =
    let front = stamp_bytes (drop 1 schema.keys) row.stamps in
    let rest = drop (length (stored schema row)) old in
    rw (b, sym h, append_assoc front row.bytes rest, drop-append_seam front (row.bytes ++ rest)) (take-append_seam row.bytes rest)

-- behind the stamps of a row stands its record
pub behind_stamps : (schema : Schema) (row : Row) (stamps : ℕ) → length (stamp_bytes (drop 1 schema.keys) row.stamps) ≡ stamps → drop stamps (stored schema row) ≡ row.bytes
behind_stamps schema row stamps h = rw (sym h) (drop-append_seam (stamp_bytes (drop 1 schema.keys) row.stamps) row.bytes)
