-- A row is replaced at the place where the scan found it.
use Rattle.std.proofs.Common.{◌≡◌, ℕ, ◌+◌, ◌<◌, Bool, true, false, List, [], ◌∷◌, length, Option, Some, None, Ok, refl, sym, ap, ◌∙◌, subst, if◌then◌else◌, slice_index_or}
use Rattle.std.specs.Prelude.{slice_get, slice_set, filter, is_some, IfSome, nat_le, ◌||◌, ◌&&◌, ◌^◌, not}
use Rattle.std.specs.Ordering.{is_lt}
use Rattle.std.proofs.lemmas.Option.{same_Some}
use Rattle.std.proofs.lemmas.Bool.{and_parts}
use Rattle.record_layout.specs.Schema.{Schema, prime_of}
use Rattle.indexed_file.specs.declared.answer.Replaced.TheVariants.{Done, Clash, Gone}
use Rattle.indexed_file.specs.File.{Row, File}
use Rattle.indexed_file.specs.Rank.{lowest, lower_of, row_cmp, has_value}
use Rattle.indexed_file.specs.Change.{changed_row, takes_stamp, replaced, row_of, clashes_with_others, repeats_changed}
use Rattle.indexed_file.specs.FileChange.{replacement}
use Rattle.indexed_file.specs.Room.{Endless, is_full_to_replace}
use Rattle.indexed_file.specs.Sound.{are_rows}
use Rattle.list_library.specs.Stored.{Stored, IsStored, ChangesStored}
use Rattle.indexed_file.proofs.TestLemmas.{either}
use Rattle.list_library.proofs.ScanLemmas.{some_row}
use Rattle.indexed_file.proofs.ReplaceLemmas.{replaced_at}
use Rattle.list_library.proofs.StoredLemmas.{row_at_place}

-- of a row that passes a test, and one that does if there is one, the lower passes it
lower_passes : (schema : Schema) (k : ℕ) (test : Row → Bool) (first : Row) (o : Option Row) (row : Row) → ((other : Row) → o ≡ Some other → test other ≡ true) → test first ≡ true → lower_of schema k first o ≡ row → test row ≡ true
lower_passes schema k test first None row passes mine same = rw (← same) mine
lower_passes schema k test first (Some other) row passes mine same =
    either (is_lt (row_cmp schema k other first)) (test row ≡ true)
    (λ lower. rw (← (rw lower at same)) (passes other refl))
    (λ not_lower. rw (← (rw not_lower at same)) mine)

-- the lowest of some rows that pass a test passes it
pub lowest_passes : (schema : Schema) (k : ℕ) (test : Row → Bool) (rows : List Row) (row : Row) → lowest schema k (filter test rows) ≡ Some row → test row ≡ true
lowest_passes schema k test [] row e = absurd (cc)
lowest_passes schema k test (first ∷ rows) row e =
    let rest = λ (other : Row) (is : lowest schema k (filter test rows) ≡ Some other). lowest_passes schema k test rows other is in
    either (test first) (test row ≡ true)
    (λ yes. lower_passes schema k test first (lowest schema k (filter test rows)) row rest yes
    (same_Some (lower_of schema k first (lowest schema k (filter test rows))) row (rw yes at e)))
    (λ no. rest row (rw no at e))

-- the row of a place that a scan found
pub row_found : (rows : List Row) (place : ℕ) → IfSome (Some place) (λ i. i < length rows) → (row : Row) × (slice_get rows place ≡ Some row)
row_found rows place within = take_out (slice_get rows place) (some_row rows (Some place) within)
  where
    take_out : (o : Option Row) → is_some o ≡ true → (row : Row) × (o ≡ Some row)
    take_out None e = absurd (cc)
    take_out (Some row) e = (row, refl)

-- what a scan for the record's prime value found is its row
pub found_there :
    (schema : Schema) (bytes value : List ℕ) (seen rows : List Row) (next place : ℕ) → seen ≡ rows → value ≡ prime_of schema bytes → place < length seen
    → slice_get seen place ≡ lowest schema 0 (filter (has_value schema 0 value) seen)
    → (row : Row) × (slice_get rows place ≡ Some row) × (row_of schema (prime_of schema bytes) (record { rows = rows; next_stamp = next }) ≡ Some row)
found_there schema bytes value seen rows next place same is within low =
    let first = subst (λ v. slice_get seen place ≡ lowest schema 0 (filter (has_value schema 0 v) seen)) is low in
    let at = subst (λ (l : List Row). slice_get l place ≡ lowest schema 0 (filter (has_value schema 0 (prime_of schema bytes)) l)) same first in
    let found = row_found rows place (subst (λ (l : List Row). place < length l) same within) in
    (found.0, found.1, sym at ∙ found.1)

-- the file in which the row of the place has changed is the file after a replacement
pub replaced_is :
    (schema : Schema) (bytes : List ℕ) (file : File) (place : ℕ) (row : Row) → IsStored schema file → slice_get file.rows place ≡ Some row
    → row_of schema (prime_of schema bytes) file ≡ Some row
    → record { rows = slice_set file.rows place (changed_row schema file.next_stamp bytes row); next_stamp = if takes_stamp schema row.bytes bytes then file.next_stamp + 1 else file.next_stamp }
    ≡ replaced schema bytes row file
replaced_is schema bytes file place row stored at there =
    let has = lowest_passes schema 0 (has_value schema 0 (prime_of schema bytes)) file.rows row there in
    let sound = and_parts (nat_le 1 file.next_stamp) (are_rows schema file.next_stamp file.rows) stored.sound in
    let rows = replaced_at schema file.next_stamp (prime_of schema bytes) (changed_row schema file.next_stamp bytes) file.rows place row sound.1 at has in
    ap (λ (l : List Row). let f : File = record { rows = l; next_stamp = if takes_stamp schema row.bytes bytes then file.next_stamp + 1 else file.next_stamp } in f) (sym rows)

-- as the code makes it
pub replaced_file :
    (schema : Schema) (bytes : List ℕ) (rows : List Row) (next place : ℕ) (row new : Row) (takes : Bool) (after : ℕ)
    → IsStored schema (record { rows = rows; next_stamp = next }) → slice_get rows place ≡ Some row
    → row_of schema (prime_of schema bytes) (record { rows = rows; next_stamp = next }) ≡ Some row
    → new ≡ changed_row schema next bytes row → takes ≡ takes_stamp schema row.bytes bytes → after ≡ (if takes then next + 1 else next)
    → record { rows = slice_set rows place new; next_stamp = after } ≡ replaced schema bytes row (record { rows = rows; next_stamp = next })
replaced_file schema bytes rows next place row new takes after stored at there is needs later =
    rw (is, later, needs) (replaced_is schema bytes (record { rows = rows; next_stamp = next }) place row stored at there)

-- the row of a place, as the code reads it
pub row_read : (rows : List Row) (place : ℕ) (row seen : Row) → place < length rows → slice_get rows place ≡ Some row → seen ≡ slice_index_or rows place seen → seen ≡ row
row_read rows place row seen within at is = same_Some seen row (sym (row_at_place rows place seen within is) ∙ at)

-- either of two tests holds where the second does
second_holds : (b c : Bool) → c ≡ true → (b || c) ≡ true
second_holds true c holds = refl
second_holds false c holds = holds

-- a replacement where there is no row, one that clashes with the others, and one that is made
pub gone_changes : (s : Stored) (bytes : List ℕ) → row_of s.schema (prime_of s.schema bytes) s.file ≡ None → ChangesStored (replacement s.schema bytes) s s (Ok Gone)
gone_changes s bytes gone = record {
  answer = rw gone refl;
  file = rw gone refl;
  room = second_holds (clashes_with_others s.schema bytes s.file) (not (is_full_to_replace Endless s.schema bytes s.file)) (rw gone refl);
  full = λ e. absurd (cc);
  fault = tt;
  err = tt;
}

pub clash_changes : (s : Stored) (bytes : List ℕ) (row : Row) → row_of s.schema (prime_of s.schema bytes) s.file ≡ Some row → clashes_with_others s.schema bytes s.file ≡ true
    → ChangesStored (replacement s.schema bytes) s s (Ok Clash)
clash_changes s bytes row there clash = record {
  answer = rw (there, clash) refl;
  file = rw (there, clash) refl;
  room = rw clash refl;
  full = λ e. absurd (cc);
  fault = tt;
  err = tt;
}

pub done_changes : (s : Stored) (bytes : List ℕ) (row : Row) → row_of s.schema (prime_of s.schema bytes) s.file ≡ Some row → clashes_with_others s.schema bytes s.file ≡ false
    → (takes_stamp s.schema row.bytes bytes && nat_le (2 ^ 63) s.file.next_stamp) ≡ false
    → ChangesStored (replacement s.schema bytes) s (record s { file = replaced s.schema bytes row s.file }) (Ok (Done (repeats_changed s.schema bytes row s.file)))
done_changes s bytes row there clash left = record {
  answer = rw (there, clash) refl;
  file = rw (there, clash) refl;
  room = second_holds (clashes_with_others s.schema bytes s.file) (not (is_full_to_replace Endless s.schema bytes s.file)) (rw (there, left) refl);
  full = λ e. absurd (cc);
  fault = tt;
  err = tt;
}
