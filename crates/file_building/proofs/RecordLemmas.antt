-- One record more behind others.
use Rattle.std.proofs.Common.{◌≡◌, ℕ, ◌+◌, ◌≤◌, ◌<◌, true, List, [], ◌∷◌, ◌++◌, length, drop, refl, arith, length-drop, length-take-le}
use Rattle.std.specs.Ordering.{is_lt}
use Rattle.record_layout.specs.Schema.{Schema, IsSchema, AreKeys, key_at, prime_of}
use Rattle.record_layout.specs.declared.schema.KeyPart.{KeyPart}
use Rattle.file_building.proofs.EntryLemmas.{key_whole}
use Rattle.io_state.specs.Rank.{value_cmp}
use Rattle.indexed_file.specs.Sound.{is_length}
use Rattle.indexed_file.specs.File.{Row}
use Rattle.indexed_file.proofs.OrderLemmas.{below-trans}
use Rattle.pages.specs.Each.{Each}
use Rattle.pages.proofs.EachLemmas.{each_join}
use Rattle.file_building.specs.Written.{comes_before, RecordsRise, HaveLengths, rows_with_stamps}
use Rattle.file_building.specs.Rows.{RowsRise}
use Rattle.file_building.specs.Building.{last_prime}

-- the last of records whose prime values rise comes before one more: so do all
before_more : (schema : Schema) (first : List ℕ) (records : List (List ℕ)) (bytes : List ℕ) → RecordsRise schema (first ∷ records) → is_lt (value_cmp (last_prime schema (first ∷ records)) (prime_of schema bytes)) ≡ true
    → comes_before schema first bytes ≡ true
before_more schema first [] bytes rise low = low
before_more schema first (next ∷ records) bytes rise low =
    below-trans (prime_of schema first) (prime_of schema next) (prime_of schema bytes) rise.0.0 (before_more schema next records bytes rise.1 low)

pub rise_more : (schema : Schema) (records : List (List ℕ)) (bytes : List ℕ) → RecordsRise schema records → is_lt (value_cmp (last_prime schema records) (prime_of schema bytes)) ≡ true → RecordsRise schema (records ++ bytes ∷ [])
rise_more schema [] bytes rise low = (tt, tt)
rise_more schema (first ∷ []) bytes rise low = ((low, tt), (tt, tt))
rise_more schema (first ∷ next ∷ records) bytes rise low = (
  each_join (λ other. comes_before schema first other ≡ true) (next ∷ records) (bytes ∷ []) rise.0 (before_more schema first (next ∷ records) bytes rise low, tt),
  rise_more schema (next ∷ records) bytes rise.1 low,
)

-- where records rise with one more, the last before it comes before it; no bytes come before each value
pub last_before : (schema : Schema) (records : List (List ℕ)) (bytes : List ℕ) → (is_lt (value_cmp [] (prime_of schema bytes)) ≡ true) → RecordsRise schema (records ++ bytes ∷ []) → is_lt (value_cmp (last_prime schema records) (prime_of schema bytes)) ≡ true
last_before schema [] bytes some rise = some
last_before schema (first ∷ []) bytes some rise = rise.0.0
last_before schema (first ∷ next ∷ records) bytes some rise = last_before schema (next ∷ records) bytes some rise.1

pub last_of_more : (schema : Schema) (records : List (List ℕ)) (bytes : List ℕ) → last_prime schema (records ++ bytes ∷ []) ≡ prime_of schema bytes
last_of_more schema [] bytes = refl
last_of_more schema (first ∷ []) bytes = refl
last_of_more schema (first ∷ next ∷ records) bytes = last_of_more schema (next ∷ records) bytes

pub lengths_more : (schema : Schema) (records : List (List ℕ)) (bytes : List ℕ) → HaveLengths schema records → is_length schema (length bytes) ≡ true → HaveLengths schema (records ++ bytes ∷ [])
lengths_more schema records bytes long fit = each_join (λ b. is_length schema (length b) ≡ true) records (bytes ∷ []) long (fit, tt)

-- the rows of records whose prime values rise do
rows_after : (schema : Schema) (first : List ℕ) (stamp : ℕ) (records : List (List ℕ)) → Each (λ other. comes_before schema first other ≡ true) records
    → Each (λ (row : Row). is_lt (value_cmp (prime_of schema first) (prime_of schema row.bytes)) ≡ true) (rows_with_stamps schema stamp records)
rows_after schema first stamp [] rise = tt
rows_after schema first stamp (bytes ∷ records) rise = (rise.0, rows_after schema first (stamp + 1) records rise.1)

pub rows_rise_of : (schema : Schema) (stamp : ℕ) (records : List (List ℕ)) → RecordsRise schema records → RowsRise schema (rows_with_stamps schema stamp records)
rows_rise_of schema stamp [] rise = tt
rows_rise_of schema stamp (bytes ∷ records) rise = (rows_after schema bytes (stamp + 1) records rise.0, rows_rise_of schema (stamp + 1) records rise.1)

-- no bytes come before a prime value
some_value : (v : List ℕ) → 1 ≤ length v → is_lt (value_cmp [] v) ≡ true
some_value [] some = absurd (omega (arith, some))
some_value (x ∷ v) some = refl

pub some_prime : (schema : Schema) (bytes : List ℕ) → IsSchema schema → schema.least ≤ length bytes → is_lt (value_cmp [] (prime_of schema bytes)) ≡ true
some_prime schema bytes is enough =
    let part = key_at schema 0 in
    let whole = key_whole schema 0 is (first_key schema.keys is.keys) in
    let within = whole.within in
    let some = whole.some in
    let long = length-take-le part.length (drop part.offset bytes) (omega (arith, within, enough, length-drop part.offset bytes)) in
    some_value (prime_of schema bytes) (omega (arith, some, long))
  where
    first_key : (keys : List KeyPart) → AreKeys keys → 0 < length keys
    first_key [] are = absurd are
    first_key (key ∷ keys) are = omega arith
