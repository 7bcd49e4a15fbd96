-- A scan from the last row to the first.
use Rattle.std.proofs.Common.{◌≡◌, ◌<◌, ◌+◌, ℕ, Bool, true, false, List, [], ◌∷◌, filter, length, drop, slice_index_or, Option, Some, None, refl, ap, add-one, drop-cons, arith}
use Rattle.std.proofs.lemmas.Option.{slice_get-get_or}
use Rattle.std.specs.Prelude.{slice_get, is_some, IfSome}
use Rattle.record_layout.specs.Schema.{Schema, prime_of}
use Rattle.indexed_file.specs.File.{Row}
use Rattle.indexed_file.specs.Rank.{lowest, lower_of, highest_of, greater_of}
use Rattle.list_library.specs.Scans.{row_of_place}

-- the rows from the i-th on
pub from_row : (rows : List Row) (i : ℕ) (row : Row) → i < length rows → row ≡ slice_index_or rows i row → drop i rows ≡ row ∷ drop (i + 1) rows
from_row rows i row h e = rw (add-one, drop-cons rows i row h) (rw (← e) refl)

-- a row that passes is weighed against the lowest of those after it
pub scan_passed :
    (schema : Schema) (k : ℕ) (test : Row → Bool) (rows : List Row) (i : ℕ) (row : Row)
    → i < length rows → row ≡ slice_index_or rows i row → true ≡ test row
    → lowest schema k (filter test (drop i rows)) ≡ Some (lower_of schema k row (lowest schema k (filter test (drop (i + 1) rows))))
scan_passed schema k test rows i row h e t = rw (from_row rows i row h e, ← t) refl

-- a row that fails is left out
pub scan_failed :
    (schema : Schema) (k : ℕ) (test : Row → Bool) (rows : List Row) (i : ℕ) (row : Row)
    → i < length rows → row ≡ slice_index_or rows i row → false ≡ test row
    → lowest schema k (filter test (drop i rows)) ≡ lowest schema k (filter test (drop (i + 1) rows))
scan_failed schema k test rows i row h e t = rw (from_row rows i row h e, ← t) refl

-- the row at its place
pub row_here : (rows : List Row) (i : ℕ) (row : Row) → i < length rows → row ≡ slice_index_or rows i row → row_of_place rows (Some i) ≡ Some row
row_here rows i row h e = rw (slice_get-get_or rows i row h) (rw (← e) refl)

-- the greatest prime value from the i-th row on
pub highest_from :
    (schema : Schema) (rows : List Row) (i : ℕ) (row : Row) → i < length rows → row ≡ slice_index_or rows i row
    → highest_of schema (drop i rows) ≡ Some (greater_of (prime_of schema row.bytes) (highest_of schema (drop (i + 1) rows)))
highest_from schema rows i row h e = rw (from_row rows i row h e) refl

-- there is a row at a place
pub some_row : (rows : List Row) (place : Option ℕ) → IfSome place (λ i. i < length rows) → is_some (row_of_place rows place) ≡ is_some place
some_row rows None h = refl
some_row rows (Some i) h = some_at rows i h
  where
    some_at : (rows : List Row) (i : ℕ) → i < length rows → is_some (slice_get rows i) ≡ true
    some_at [] i h = absurd (omega (arith, h))
    some_at (row ∷ rows) i h = let e = slice_get-get_or (row ∷ rows) i row h in ap is_some e
