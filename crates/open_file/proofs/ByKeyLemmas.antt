-- The first row of a value, by the first entry of it.
use Rattle.std.proofs.Common.{◌≡◌, ℕ, Bool, true, false, List, [], ◌∷◌, Some, None, refl, ap, sym, ◌∙◌, arith}
use Rattle.std.specs.Prelude.{find, ◌&&◌, nat_lt}
use Rattle.std.specs.List.{list_any, list_all}
use Rattle.std.specs.Ordering.{is_lt, is_eq}
use Rattle.std.specs.declared.cmp.Ordering.{Ordering}
use Rattle.std.proofs.Math.Bool.{and-false}
use Rattle.std.proofs.lemmas.Bool.{and_parts}
use Rattle.std.proofs.lemmas.Grind.{common_steps}
use Rattle.std.proofs.lemmas.Map.Text.{is_eq-slice_cmp}
use Rattle.std.proofs.lemmas.Cmp.{nat_list_cmp_total, tied_itself}
use Rattle.record_layout.specs.Schema.{Schema, value_of, prime_of}
use Rattle.indexed_file.specs.File.{Row, File, stamp_of}
use Rattle.io_state.specs.Rank.{value_cmp}
use Rattle.indexed_file.specs.Rank.{has_value, is_repeated, least}
use Rattle.indexed_file.specs.Sound.{are_rows, is_file, are_apart}
use Rattle.pages.specs.Each.{Each}
use Rattle.key_index.specs.declared.entry.AltEntry.{AltEntry}
use Rattle.key_index.specs.Entries.{entry_has_value}
use Rattle.open_file.specs.InOrder.{in_order, alt_entry, alt_entries}
use Rattle.open_file.specs.Reading.{IsEntryOfRow}
use Rattle.open_file.proofs.RowLemmas.{least_is_first, row_is_first, put_each}
use Rattle.open_file.proofs.EntryLemmas.{alt_none}
use Rattle.open_file.proofs.PlaceLemmas.{find_each}
use Rattle.open_file.proofs.FirstLemmas.{RowOf}

-- a row is the first of its own prime value
own_each : (schema : Schema) (row : Row) (all rows : List Row)
    → list_all (λ other. is_lt (value_cmp (prime_of schema row.bytes) (prime_of schema other.bytes)) && are_apart schema row other) rows ≡ true
    → Each (λ other. find (has_value schema 0 (prime_of schema other.bytes)) all ≡ Some other) rows
    → Each (λ other. find (has_value schema 0 (prime_of schema other.bytes)) (row ∷ all) ≡ Some other) rows
own_each schema row all [] h each = tt
own_each schema row all (other ∷ rows) h each =
    let one = and_parts _ _ h in
    let less = (and_parts _ _ one.0).0 in
    let miss : has_value schema 0 (prime_of schema other.bytes) row ≡ false = sym (is_eq-slice_cmp (prime_of schema row.bytes) (prime_of schema other.bytes)) ∙ not_tied _ less in
    (rw miss each.0, own_each schema row all rows one.1 each.1)
  where
    not_tied : (o : Ordering) → is_lt o ≡ true → is_eq o ≡ false
    not_tied o h = grind (arith, common_steps)

pub each_own : (schema : Schema) (next : ℕ) (rows : List Row) → are_rows schema next rows ≡ true → Each (λ row. find (has_value schema 0 (prime_of schema row.bytes)) rows ≡ Some row) rows
each_own schema next [] h = tt
each_own schema next (row ∷ rows) h =
    let one = and_parts _ _ h in
    let two = and_parts _ _ one.0 in
    let p = prime_of schema row.bytes in
    let itself : has_value schema 0 p row ≡ true = sym (is_eq-slice_cmp p p) ∙ ap is_eq (tied_itself nat_list_cmp_total p) in
    (rw itself refl, own_each schema row rows rows two.1 (each_own schema next rows one.1))

pub in_order_each : (schema : Schema) (k : ℕ) (P : Row → Type 0) (rows : List Row) → Each P rows → Each P (in_order schema k rows)
in_order_each schema k P [] h = tt
in_order_each schema k P (row ∷ rows) h = put_each schema k P row (in_order schema k rows) h.0 (in_order_each schema k P rows h.1)

-- so an entry leads to its row
pub entry_is_of : (schema : Schema) (k : ℕ) (file : File) → is_file schema file ≡ true → (test : Row → Bool) (entry : AltEntry) (r : RowOf schema k test (in_order schema k file.rows) entry) → IsEntryOfRow schema k file entry r.row
entry_is_of schema k file sound test entry r =
    let Own : Row → Type 0 = λ row. find (has_value schema 0 (prime_of schema row.bytes)) file.rows ≡ Some row in
    let own = find_each Own test (in_order schema k file.rows) r.row
    (in_order_each schema k Own file.rows (each_own schema file.next_stamp file.rows (and_parts _ _ sound).1)) r.is_first in
    record { is_entry = r.is_entry; is_row = rw (r.is_entry) (row_is_first schema file (prime_of schema r.row.bytes) sound ∙ own) }

-- a row of the prime key is never repeated
never : {X : Type 0} (test : X → Bool) (xs : List X) → ((x : X) → test x ≡ false) → list_any test xs ≡ false
never test [] h = refl
never test (x ∷ xs) h = rw (h x) (never test xs h)

pub prime_once : (schema : Schema) (row : Row) (file : File) → is_repeated schema 0 row file ≡ false
prime_once schema row file =
    never (λ other. has_value schema 0 (value_of schema 0 row.bytes) other && nat_lt (stamp_of 0 row) (stamp_of 0 other)) file.rows
    (λ other. and-false _)

-- no entry, so no row
pub by_none : (schema : Schema) (k : ℕ) (v : List ℕ) (file : File) → find (entry_has_value v) (alt_entries schema k file.rows) ≡ None → least schema k (has_value schema k v) file ≡ None
by_none schema k v file none =
    least_is_first schema k (has_value schema k v) file.rows ∙ alt_none schema k (entry_has_value v) file.rows none

-- the first entry tells
pub by_entry : (schema : Schema) (k : ℕ) (v : List ℕ) (file : File) (entry : AltEntry) (r : RowOf schema k (λ row. entry_has_value v (alt_entry schema k row)) (in_order schema k file.rows) entry)
    → least schema k (has_value schema k v) file ≡ Some r.row
by_entry schema k v file entry r = least_is_first schema k (has_value schema k v) file.rows ∙ r.is_first
