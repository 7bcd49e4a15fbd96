-- Which rows of a file are listed, and in which order. All of this is ours.
use Rattle.std.specs.Prelude.{◌≡◌, ◌⊎◌, ◌≤◌, ℕ, Bool, false, not, ◌&&◌, List, [], ◌∷◌, length, take, Option}
use Rattle.std.specs.Prelude.{Some, None, IsTrue}
use Rattle.std.specs.Ordering.{is_lt, is_gt}
use Rattle.arrayvec.specs.ArrayVec.{ArrayVec}
use Rattle.pages.specs.Each.{Each}
use Rattle.io_state.specs.declared.modes.Relation.TheVariants.{NotLess}
use Rattle.record_layout.specs.Schema.{Schema, value_of}
use Rattle.indexed_file.specs.Laws.{IsOf}
use Rattle.indexed_file.specs.File.{Row, File}
use Rattle.io_state.specs.Rank.{value_cmp}
use Rattle.indexed_file.specs.Rank.{row_cmp, satisfies}
use Rattle.record_listing.specs.declared.asked.Asked.{Asked}
use Rattle.record_listing.specs.Condition.{all_hold}

-- the first bytes of a value, as many as the bound has, are greater than the bound
abbrev pub is_past : Option (ArrayVec ℕ) → List ℕ → Bool
is_past None value = false
is_past (Some to) value = is_gt (value_cmp (take (length to.items) value) to.items)

-- a START with NOT LESS would take the row by the first bound, its value is not past the last one, and
-- each condition holds of its record
abbrev pub is_row_within : Schema → Asked → Row → Bool
is_row_within schema asked row = satisfies schema asked.key NotLess asked.from.items row
    && not (is_past asked.to (value_of schema asked.key row.bytes))
    && all_hold asked.conditions.items row.bytes

-- a row comes before another by key k: by value, and then by stamp
abbrev pub ComesBefore : Schema → ℕ → Row → Row → Type 0
ComesBefore schema k a b = IsTrue (is_lt (row_cmp schema k a b))

-- each comes before all those behind it
abbrev pub Rise : Schema → ℕ → List Row → Type 0
Rise schema k [] = Unit {0}
Rise schema k (row ∷ rows) = Each (ComesBefore schema k row) rows × Rise schema k rows

-- the rows of a file that are asked for
pub record AreListed (schema : Schema) (file : File) (asked : Asked) (rows : List Row) : Type 0 where
  -- each is a row of the file within the bounds, for which the conditions hold
  pub within : Each (λ row. IsOf file.rows row × IsTrue (is_row_within schema asked row)) rows
  -- they rise, so that each is there once
  pub rise : Rise schema asked.key rows
  -- they are as many as are asked for at most
  pub few : length rows ≤ asked.first
  -- each such row of the file is there, or as many as are asked for come before it
  pub whole : (row : Row) → IsOf file.rows row → IsTrue (is_row_within schema asked row)
      → IsOf rows row ⊎ ((length rows ≡ asked.first)
      × Each (λ other. ComesBefore schema asked.key other row) rows)
