-- The values of a key: those of the entries are those of the rows.
use Rattle.std.proofs.Common.{◌≡◌, ℕ, ◌+◌, List, [], ◌∷◌, ◌++◌, length, map, take, refl, sym, subst, ◌∙◌, arith}
use Rattle.std.specs.Prelude.{bytes_eq}
use Rattle.std.specs.Ordering.{is_lt}
use Rattle.std.proofs.Math.Seq.{take-append_seam}
use Rattle.pages.specs.Each.{Each}
use Rattle.record_layout.specs.Schema.{Schema, value_of}
use Rattle.indexed_file.specs.File.{Row}
use Rattle.indexed_file.specs.Rank.{row_cmp}
use Rattle.record_heap.specs.Chain.{Slots}
use Rattle.record_heap.specs.declared.shape.Place.{Place}
use Rattle.key_index.specs.Stored.{prime_bytes, alt_bytes, IsPrimeEntry, IsAltEntry}
use Rattle.open_file.specs.InOrder.{put_row, in_order, alt_entry, alt_entries, prime_entries}
use Rattle.open_file.specs.Stored.{AreAt}
use Rattle.open_file.proofs.OrderLemmas.{either}
use Rattle.page_walks.specs.Runs.{values_of, count_of_value, IsGreatestCount}
use Rattle.page_walks.proofs.RunLemmas.{one_if, count_step}
use Rattle.file_reports.specs.Statistics.{values_in}

-- a value that stands before other bytes
front_is : (width : ℕ) (value behind : List ℕ) → length value ≡ width
    → take width (value ++ behind) ≡ value
front_is width value behind long =
    subst (λ (n : ℕ). take n (value ++ behind) ≡ value) long (take-append_seam value behind)

-- the entries of the prime key stand as the rows do
prime_values : (schema : Schema) (slots : Slots) (width : ℕ) (places : List Place)
    (rows : List Row) → AreAt schema slots places rows
    → Each (IsPrimeEntry width) (prime_entries schema places rows)
    → values_of width (map prime_bytes (prime_entries schema places rows)) ≡ values_in schema 0 rows
prime_values schema slots width [] [] at each = refl
prime_values schema slots width [] (row ∷ rows) at each = absurd at
prime_values schema slots width (place ∷ places) [] at each = absurd at
prime_values schema slots width (place ∷ places) (row ∷ rows) at each =
    let first = front_is width (value_of schema 0 row.bytes) _ each.0.long in
    let rest = prime_values schema slots width places rows at.1 each.1 in
    λ i. first i ∷ rest i

-- those of an alternate key stand as the rows in order do
alt_values : (schema : Schema) (k width prime : ℕ) (rows : List Row)
    → Each (IsAltEntry width prime) (map (alt_entry schema k) rows)
    → values_of width (map alt_bytes (map (alt_entry schema k) rows)) ≡ values_in schema k rows
alt_values schema k width prime [] each = refl
alt_values schema k width prime (row ∷ rows) each =
    let first = front_is width (value_of schema k row.bytes) _ each.0.long in
    let rest = alt_values schema k width prime rows each.1 in
    λ i. first i ∷ rest i

module _ (schema : Schema) (k : ℕ) (value : List ℕ) where
  -- how many of these rows have the value
  abbrev count_in : List Row → ℕ
  count_in rows = count_of_value value (values_in schema k rows)

  abbrev one_of : Row → ℕ
  one_of row = one_if (bytes_eq value (value_of schema k row.bytes))

  count_first : (row : Row) (rows : List Row) → count_in (row ∷ rows) ≡ one_of row + count_in rows
  count_first row rows =
      count_step value (value_of schema k row.bytes) (values_in schema k rows)

  count_put : (row : Row) (rows : List Row)
      → count_in (put_row schema k row rows) ≡ one_of row + count_in rows
  count_put row [] = count_first row []
  count_put row (next ∷ rows) =
      let before = count_first next (put_row schema k row rows) in
      let after = count_first next rows in
      let rest = count_put row rows in
      either (is_lt (row_cmp schema k next row))
      (count_in (put_row schema k row (next ∷ rows)) ≡ one_of row + count_in (next ∷ rows))
      (λ yes. rw yes (omega (arith, before, after, rest)))
      (λ no. rw no (count_first row (next ∷ rows)))

  -- rows in order are as many of each value
  count_ordered : (rows : List Row) → count_in (in_order schema k rows) ≡ count_in rows
  count_ordered [] = refl
  count_ordered (row ∷ rows) =
      let first = count_put row (in_order schema k rows) in
      let here = count_first row rows in
      let rest = count_ordered rows in
      omega (arith, first, here, rest)

-- as many entries of the prime key have one value at most as rows have
pub prime_greatest : (schema : Schema) (slots : Slots) (width : ℕ) (places : List Place)
    (rows : List Row) (count : ℕ) → AreAt schema slots places rows
    → Each (IsPrimeEntry width) (prime_entries schema places rows)
    → IsGreatestCount (values_of width (map prime_bytes (prime_entries schema places rows))) count
    → IsGreatestCount (values_in schema 0 rows) count
prime_greatest schema slots width places rows count at each =
    subst (λ (values : List (List ℕ)). IsGreatestCount values count)
    (prime_values schema slots width places rows at each)

-- and so it is of an alternate key
pub alt_greatest : (schema : Schema) (k width prime : ℕ) (rows : List Row) (count : ℕ)
    → Each (IsAltEntry width prime) (alt_entries schema k rows)
    → IsGreatestCount (values_of width (map alt_bytes (alt_entries schema k rows))) count
    → IsGreatestCount (values_in schema k rows) count
alt_greatest schema k width prime rows count each greatest =
    let ordered = subst (λ (values : List (List ℕ)). IsGreatestCount values count)
    (alt_values schema k width prime (in_order schema k rows) each) greatest in
    record {
      most = λ value.
          (let same = count_ordered schema k value rows in
          let most = ordered.most value in
          omega (arith, same, most));
      some = (
        ordered.some.0,
        sym (count_ordered schema k ordered.some.0 rows) ∙ ordered.some.1,
      );
    }
