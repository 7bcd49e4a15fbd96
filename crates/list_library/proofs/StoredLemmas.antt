-- The rows of a stored file.
use Rattle.std.proofs.Common.{◌≡◌, ℕ, ◌<◌, ◌≤◌, ◌^◌, true, false, List, length, Some, slice_get, arith, refl, slice_index_or}
use Rattle.std.proofs.lemmas.Bool.Decides.{nat_tests}
use Rattle.std.proofs.lemmas.Option.{slice_get-get_or}
use Rattle.record_layout.specs.Schema.{Schema, prime_of}
use Rattle.indexed_file.specs.File.{Row, File}
use Rattle.indexed_file.specs.Sound.{is_length}
use Rattle.list_library.specs.Stored.{IsStored, IsFit, FitsSchema}
use Rattle.indexed_file.specs.Change.{clashes, clashes_with_others, added, replaced, removed, row_of}
use Rattle.indexed_file.proofs.SoundLemmas.{row_length, added_is_file, replaced_is_file, removed_is_file}

least_of : (schema : Schema) (n : ℕ) → is_length schema n ≡ true → schema.least ≤ n
least_of schema n e = grind (arith, nat_tests)

greatest_of : (schema : Schema) (n : ℕ) → is_length schema n ≡ true → n ≤ schema.greatest
greatest_of schema n e = grind (arith, nat_tests)

-- each row has a fit length
pub row_fits : (schema : Schema) (file : File) (i : ℕ) (row : Row) → IsStored schema file → slice_get file.rows i ≡ Some row → IsFit schema (length row.bytes)
row_fits schema file i row stored at =
    let fit = row_length schema file i row stored.sound at in
    let most = greatest_of schema (length row.bytes) fit in
    record { least = least_of schema (length row.bytes) fit; greatest = most; limit = omega (arith, stored.keys.limit) }

-- the row at a place
pub row_at_place : (rows : List Row) (i : ℕ) (row : Row) → i < length rows → row ≡ slice_index_or rows i row → slice_get rows i ≡ Some row
row_at_place rows i row h e = rw (slice_get-get_or rows i row h) (rw (← e) refl)

-- a length that fits passes the test
fit_length : (schema : Schema) (n : ℕ) → schema.least ≤ n → n ≤ schema.greatest → is_length schema n ≡ true
fit_length schema n h k = grind (arith, nat_tests)

-- a record that was added leaves a stored file
pub added_stored :
    (schema : Schema) (bytes : List ℕ) (file : File) → IsStored schema file → FitsSchema schema bytes
    → clashes schema bytes file.rows ≡ false → file.next_stamp < 2 ^ 63 → IsStored schema (added schema bytes file)
added_stored schema bytes file stored fits clash room = record {
  keys = stored.keys;
  sound = added_is_file schema bytes file stored.keys stored.sound (fit_length schema (length bytes) fits.least fits.greatest) clash;
  stamp = omega arith;
}

-- as one that was removed
pub removed_stored : (schema : Schema) (prime : List ℕ) (file : File) → IsStored schema file → IsStored schema (removed schema prime file)
removed_stored schema prime file stored = record { keys = stored.keys; sound = removed_is_file schema prime file stored.sound; stamp = stored.stamp }

-- and one that was replaced
pub replaced_stored :
    (schema : Schema) (bytes : List ℕ) (row : Row) (file : File) → IsStored schema file → FitsSchema schema bytes
    → row_of schema (prime_of schema bytes) file ≡ Some row → clashes_with_others schema bytes file ≡ false
    → (replaced schema bytes row file).next_stamp ≤ 2 ^ 63 → IsStored schema (replaced schema bytes row file)
replaced_stored schema bytes row file stored fits there clash room = record {
  keys = stored.keys;
  sound = replaced_is_file schema bytes row file stored.keys stored.sound (fit_length schema (length bytes) fits.least fits.greatest) there clash;
  stamp = room;
}
