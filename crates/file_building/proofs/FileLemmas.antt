-- Rows whose prime values rise, and no two of which have one rank, are those of a file.
use Rattle.std.proofs.Common.{◌≡◌, ◌⊎◌, inl, inr, ℕ, zero, suc, ◌==◌, ◌&&◌, ◌||◌, not, ◌<◌, Bool, true, false, List, [], ◌∷◌, length, drop, refl, ap, sym, ◌∙◌, arith, length-drop}
use Rattle.std.specs.Prelude.{IsTrue, bytes_eq, slice_index, slice_index_or, zip}
use Rattle.std.specs.List.{list_all}
use Rattle.std.specs.Ordering.{is_lt}
use Rattle.std.proofs.lemmas.Bool.{and_parts, and_from}
use Rattle.std.proofs.lemmas.Slice.Eq.{bytes_eq-Decides}
use Rattle.pages.specs.Each.{Each}
use Rattle.record_layout.specs.declared.schema.KeyPart.{KeyPart}
use Rattle.record_layout.specs.Schema.{Schema, key_at, part_of, value_of, prime_of, has_duplicates, no_key}
use Rattle.indexed_file.specs.File.{Row, stamp_of}
use Rattle.io_state.specs.Rank.{value_cmp, rank_cmp}
use Rattle.indexed_file.specs.Rank.{row_cmp}
use Rattle.indexed_file.specs.Sound.{is_stamp, is_row, are_apart, are_rows}
use Rattle.indexed_file.proofs.OrderLemmas.{below_differs}
use Rattle.indexed_file.proofs.RowLemmas.{are_stamps, is_before, row_parts, rows_from}
use Rattle.open_file.proofs.OrderLemmas.{either, not_back}
use Rattle.open_file.proofs.PartsLemmas.{from_eq}
use Rattle.open_file.proofs.RowLemmas.{row_total}
use Rattle.file_building.specs.Rows.{RowsRise}
use Rattle.file_building.specs.Ranks.{NoRankTwice}

abbrev none : KeyPart
none = no_key

-- ---- two rows

-- what holds at each place of three lists
zip_all : (test : KeyPart × (ℕ × ℕ) → Bool) (keys : List KeyPart) (ss ts : List ℕ) → ((k : ℕ) → k < length keys → test (slice_index_or keys k none, (slice_index ss k, slice_index ts k)) ≡ true)
    → list_all test (zip keys (zip ss ts)) ≡ true
zip_all test [] ss ts all = refl
zip_all test (key ∷ keys) [] ts all = refl
zip_all test (key ∷ keys) (s ∷ ss) [] all = refl
zip_all test (key ∷ keys) (s ∷ ss) (t ∷ ts) all =
    and_from (test (key, (s, t))) (list_all test (zip keys (zip ss ts))) (all 0 (omega arith)) (zip_all test keys ss ts (λ k within. all (suc k) (omega (arith, within))))

stamp_at : (next : ℕ) (parts : List KeyPart) (stamps : List ℕ) (j : ℕ) → are_stamps next parts stamps ≡ true → j < length parts → j < length stamps
    → is_stamp next (slice_index_or parts j none) (slice_index stamps j) ≡ true
stamp_at next [] stamps j all within many = absurd (omega (arith, within))
stamp_at next (part ∷ parts) [] j all within many = absurd (omega (arith, many))
stamp_at next (part ∷ parts) (s ∷ stamps) zero all within many = (and_parts _ _ all).0
stamp_at next (part ∷ parts) (s ∷ stamps) (suc j) all within many = stamp_at next parts stamps j (and_parts _ _ all).1 (omega (arith, within)) (omega (arith, many))

unique_stamp : (next s : ℕ) (part : KeyPart) → has_duplicates part ≡ false → is_stamp next part s ≡ true → s ≡ 0
unique_stamp next s part one is = from_eq s 0 (rw one at is)

key_behind : (keys : List KeyPart) (j : ℕ) → slice_index_or (drop 1 keys) j none ≡ slice_index_or keys (suc j) none
key_behind [] j = refl
key_behind (key ∷ keys) j = refl

-- the stamp of a row in a unique key
no_stamp : (schema : Schema) (next j : ℕ) (row : Row) → is_row schema next row ≡ true → suc j < length schema.keys → has_duplicates (key_at schema (suc j)) ≡ false → slice_index row.stamps j ≡ 0
no_stamp schema next j row fit within one =
    let parts = row_parts schema next row fit in
    let many = from_eq _ _ parts.1 in
    let keys = length-drop 1 schema.keys in
    unique_stamp next (slice_index row.stamps j) (slice_index_or (drop 1 schema.keys) j none) (ap has_duplicates (key_behind schema.keys j) ∙ one)
    (stamp_at next (drop 1 schema.keys) row.stamps j parts.2 (omega (arith, keys, within)) (omega (arith, many, within)))

-- values in order are not the same
not_same : (x y : List ℕ) → is_lt (value_cmp x y) ≡ true → bytes_eq x y ≡ false
not_same x y low =
    either (bytes_eq x y) (bytes_eq x y ≡ false)
    (λ same. let back : bytes_eq y x ≡ true = (bytes_eq-Decides y x).1 (sym ((bytes_eq-Decides x y).0 same)) in
    let other = below_differs x y low in absurd (cc (back, other)))
    (λ differ. differ)

-- rows of one value and stamp are not in order
not_lower : (schema : Schema) (k : ℕ) (a b : Row) → value_of schema k a.bytes ≡ value_of schema k b.bytes → stamp_of k a ≡ stamp_of k b → is_lt (row_cmp schema k a b) ≡ true → ⊥
not_lower schema k a b value stamp low =
    let same : row_cmp schema k a b ≡ row_cmp schema k a a =
    ap (λ (v : List ℕ). rank_cmp (value_of schema k a.bytes) (stamp_of k a) v (stamp_of k b)) (sym value) ∙ ap (rank_cmp (value_of schema k a.bytes) (stamp_of k a) (value_of schema k a.bytes)) (sym stamp) in
    let on : is_lt (row_cmp schema k a a) ≡ true = ap is_lt (sym same) ∙ low in
    let off = not_back (row_cmp schema k) (row_total schema k) a a on in
    cc (on, off)

one_lower : (schema : Schema) (k : ℕ) (a b : Row) → IsTrue (is_lt (row_cmp schema k a b)) ⊎ IsTrue (is_lt (row_cmp schema k b a)) → value_of schema k a.bytes ≡ value_of schema k b.bytes → stamp_of k a ≡ stamp_of k b → ⊥
one_lower schema k a b (inl low) value stamp = not_lower schema k a b value stamp low
one_lower schema k a b (inr low) value stamp = not_lower schema k b a (sym value) (sym stamp) low

module _ (schema : Schema) (next : ℕ) (a b : Row) (fit : is_row schema next a ≡ true) (fit' : is_row schema next b ≡ true)
    (low : is_lt (value_cmp (prime_of schema a.bytes) (prime_of schema b.bytes)) ≡ true)
    (differ : (j : ℕ) → suc j < length schema.keys → IsTrue (is_lt (row_cmp schema (suc j) a b)) ⊎ IsTrue (is_lt (row_cmp schema (suc j) b a))) where
  abbrev apart_test : KeyPart × (ℕ × ℕ) → Bool
  apart_test p = not (bytes_eq (part_of p.0 a.bytes) (part_of p.0 b.bytes)) || (has_duplicates p.0 && not (p.1.0 == p.1.1))

  apart_at : (k : ℕ) → k < length schema.keys → apart_test (slice_index_or schema.keys k none, (slice_index (0 ∷ a.stamps) k, slice_index (0 ∷ b.stamps) k)) ≡ true
  apart_at zero within = rw (not_same (prime_of schema a.bytes) (prime_of schema b.bytes) low) refl
  apart_at (suc j) within =
      let va = value_of schema (suc j) a.bytes in
      let vb = value_of schema (suc j) b.bytes in
      let sa = slice_index a.stamps j in
      let sb = slice_index b.stamps j in
      either (bytes_eq va vb) (apart_test (key_at schema (suc j), (sa, sb)) ≡ true)
      (λ same.
      let value = (bytes_eq-Decides va vb).0 same in
      let other : sa ≡ sb → ⊥ = λ stamp. one_lower schema (suc j) a b (differ j within) value stamp in
      let apart : (sa == sb) ≡ false = either (sa == sb) ((sa == sb) ≡ false) (λ e. absurd (other (from_eq sa sb e))) (λ e. e) in
      let many : has_duplicates (key_at schema (suc j)) ≡ true =
      either (has_duplicates (key_at schema (suc j))) (has_duplicates (key_at schema (suc j)) ≡ true) (λ e. e)
      (λ one. absurd (other (no_stamp schema next j a fit within one ∙ sym (no_stamp schema next j b fit' within one)))) in
      rw (same, apart, many) refl)
      (λ differs. rw differs refl)

  are_apart_rows : are_apart schema a b ≡ true
  are_apart_rows = zip_all apart_test schema.keys (0 ∷ a.stamps) (0 ∷ b.stamps) apart_at

-- ---- all rows

module _ (schema : Schema) (next : ℕ) where
  all_before : (row : Row) (rows : List Row) → is_row schema next row ≡ true → Each (λ other. IsTrue (is_row schema next other)) rows
      → Each (λ other. IsTrue (is_lt (value_cmp (prime_of schema row.bytes) (prime_of schema other.bytes)))) rows
      → ((j : ℕ) → suc j < length schema.keys → Each (λ other. IsTrue (is_lt (row_cmp schema (suc j) row other)) ⊎ IsTrue (is_lt (row_cmp schema (suc j) other row))) rows)
      → list_all (is_before schema row) rows ≡ true
  all_before row [] fit all rise differ = refl
  all_before row (other ∷ rows) fit all rise differ =
      and_from (is_before schema row other) (list_all (is_before schema row) rows)
      (and_from (is_lt (value_cmp (prime_of schema row.bytes) (prime_of schema other.bytes))) (are_apart schema row other) rise.0
      (are_apart_rows schema next row other fit all.0 rise.0 (λ j within. (differ j within).0)))
      (all_before row rows fit all.1 rise.1 (λ j within. (differ j within).1))

  pub rows_sound : (rows : List Row) → Each (λ row. IsTrue (is_row schema next row)) rows → RowsRise schema rows → ((j : ℕ) → suc j < length schema.keys → NoRankTwice schema (suc j) rows) → are_rows schema next rows ≡ true
  rows_sound [] all rise differ = refl
  rows_sound (row ∷ rows) all rise differ =
      rows_from schema next row rows all.0 (all_before row rows all.0 all.1 rise.0 (λ j within. (differ j within).0)) (rows_sound rows all.1 rise.1 (λ j within. (differ j within).1))
