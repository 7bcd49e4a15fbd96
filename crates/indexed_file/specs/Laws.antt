-- Which row is the least of those that pass a test, and when two rows are apart, without the way in
-- which that is found.
use Rattle.std.specs.Prelude.{◌≡◌, ◌≢◌, ◌+◌, ◌<◌, ◌⊎◌, ◌↔◌, ℕ, Bool, true, false, List, [], ◌∷◌}
use Rattle.std.specs.Prelude.{length, Option, Some, None}
use Rattle.std.specs.Ordering.{is_lt}
use Rattle.record_layout.specs.Schema.{Schema, key_at, value_of, has_duplicates}
use Rattle.indexed_file.specs.File.{Row, File, stamp_of}
use Rattle.indexed_file.specs.Rank.{row_cmp, least}
use Rattle.indexed_file.specs.Sound.{are_apart}

-- a row is one of these
abbrev pub IsOf : List Row → Row → Type 0
IsOf [] row = ⊥
IsOf (other ∷ rows) row = (row ≡ other) ⊎ IsOf rows row

-- a row of the file that passes the test, and no other row that passes is of lower rank by key k
pub record IsLeast (schema : Schema) (k : ℕ) (test : Row → Bool) (file : File) (row : Row) : Type 0 where
  pub there : IsOf file.rows row
  pub passes : test row ≡ true
  pub least : (other : Row) → IsOf file.rows other → test other ≡ true
      → is_lt (row_cmp schema k other row) ≡ false

-- no row of the file passes the test
abbrev pub NonePasses : (Row → Bool) → File → Type 0
NonePasses test file = (row : Row) → IsOf file.rows row → test row ≡ false

-- `least` gives such a row, and none where no row passes
abbrev pub IsLeastOrNone : Schema → ℕ → (Row → Bool) → File → Option Row → Type 0
IsLeastOrNone schema k test file None = NonePasses test file
IsLeastOrNone schema k test file (Some row) = IsLeast schema k test file row

abbrev pub least_is_lowest : Type 0
least_is_lowest = (schema : Schema) (k : ℕ) (test : Row → Bool) (file : File)
    → IsLeastOrNone schema k test file (least schema k test file)

-- a row has a stamp for each alternate key
abbrev pub HasStamps : Schema → Row → Type 0
HasStamps schema row = length row.stamps + 1 ≡ length schema.keys

-- two rows differ in their values of key k, or it may have duplicates and their stamps differ
abbrev pub DifferIn : Schema → ℕ → Row → Row → Type 0
DifferIn schema k a b = (value_of schema k a.bytes ≢ value_of schema k b.bytes)
    ⊎ ((has_duplicates (key_at schema k) ≡ true) × (stamp_of k a ≢ stamp_of k b))

-- rows that are apart differ in each key
abbrev pub apart_in_each_key : Type 0
apart_in_each_key = (schema : Schema) (a b : Row) → HasStamps schema a → HasStamps schema b
    → (are_apart schema a b ≡ true) ↔ ((k : ℕ) → k < length schema.keys → DifferIn schema k a b)
