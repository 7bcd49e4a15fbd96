-- The alternate indexes without a row, one after another.
use Rattle.std.proofs.Common.{◌≡◌, ℕ, suc, ◌+◌, List, refl, arith}
use Rattle.std.specs.Prelude.{slice_index}
use Rattle.record_layout.specs.Schema.{Schema, value_of}
use Rattle.indexed_file.specs.File.{Row, stamp_of}
use Rattle.key_index.specs.declared.entry.AltEntry.{AltEntry}
use Rattle.key_index.specs.Entries.{without_rank}
use Rattle.open_file.specs.Parts.{but_at}
use Rattle.file_changes.specs.Removing.{without_below}
use Rattle.file_changes.specs.Replacing.{freed}
use Rattle.file_changes.proofs.LevelLemmas.{none_below, same_below, one_below}

-- the stamp in an alternate key
pub stamp_in_key : (j : ℕ) (row : Row) → stamp_of (j + 1) row ≡ slice_index row.stamps j
stamp_in_key j row = let e : j + 1 ≡ suc j = omega arith in rw e refl

pub without_start : (schema : Schema) (row : Row) (entries : ℕ → List AltEntry) (i : ℕ) → without_below schema row 0 entries i ≡ entries i
without_start schema row entries i = none_below (freed schema row) entries i

pub without_here : (schema : Schema) (row : Row) (j : ℕ) (entries : ℕ → List AltEntry) → without_below schema row j entries j ≡ entries j
without_here schema row j entries = same_below (freed schema row) entries j

-- one more index is without it
pub without_step : (schema : Schema) (row : Row) (j : ℕ) (entries : ℕ → List AltEntry) (i : ℕ) →
    without_below schema row (j + 1) entries i ≡ but_at j (without_rank (value_of schema (j + 1) row.bytes) (stamp_of (j + 1) row) (without_below schema row j entries j)) (without_below schema row j entries) i
without_step schema row j entries i = one_below (freed schema row) entries j i
