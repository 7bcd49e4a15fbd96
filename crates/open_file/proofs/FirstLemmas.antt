-- The first row of a value, by the first entry that is not below it.
use Rattle.std.proofs.Common.{◌≡◌, ℕ, Bool, true, false, List, [], ◌∷◌, Option, Some, None, refl, ap, sym, ◌∙◌, arith}
use Rattle.std.specs.Prelude.{find, option_map, is_some, if◌then◌else◌, bytes_eq}
use Rattle.std.specs.List.{list_any}
use Rattle.std.specs.Ordering.{is_lt, is_ge}
use Rattle.std.specs.declared.cmp.Ordering.TheVariants.{Greater}
use Rattle.std.proofs.lemmas.Map.Text.{is_eq-slice_cmp}
use Rattle.std.proofs.lemmas.Slice.Eq.{bytes_eq-Decides}
use Rattle.std.proofs.lemmas.Grind.{common_steps}
use Rattle.record_layout.specs.Schema.{Schema, value_of}
use Rattle.indexed_file.specs.File.{Row}
use Rattle.io_state.specs.Rank.{value_cmp}
use Rattle.indexed_file.specs.Rank.{row_cmp, has_value}
use Rattle.pages.specs.Each.{Each}
use Rattle.key_index.specs.declared.entry.AltEntry.{AltEntry}
use Rattle.record_heap.specs.declared.shape.Place.{Place}
use Rattle.record_heap.specs.Chain.{Slots}
use Rattle.key_index.specs.Entries.{from_value, has_prime}
use Rattle.open_file.specs.InOrder.{in_order, alt_entry, alt_entries, prime_entries}
use Rattle.open_file.specs.Stored.{AreAt}
use Rattle.open_file.proofs.OrderLemmas.{either, from_some, tied_ge, above}
use Rattle.open_file.proofs.EntryLemmas.{alt_none}
use Rattle.open_file.proofs.RowLemmas.{AreSorted, in_order_sorted}
use Rattle.open_file.proofs.RepeatLemmas.{find_mapped, value_below, any_in_order}

-- the first that passes does
pub first_passes : {X : Type 0} (test : X → Bool) (xs : List X) (x : X) → find test xs ≡ Some x → test x ≡ true
first_passes test [] x found = absurd (cc)
first_passes test (y ∷ xs) x found = grind (arith, common_steps, first_passes test xs x)

-- bytes that are alike are the same
pub same_bytes : (v w : List ℕ) → bytes_eq v w ≡ true → v ≡ w
same_bytes v w e = (bytes_eq-Decides v w).0 e

abbrev pub kept : (Row → Bool) → Option Row → Option Row
kept test None = None
kept test (Some row) = if test row then Some row else None

none_has : (schema : Schema) (k : ℕ) (v : List ℕ) (row : Row) (rows : List Row) → value_cmp (value_of schema k row.bytes) v ≡ Greater
    → Each (λ other. is_lt (row_cmp schema k other row) ≡ false) rows → find (has_value schema k v) rows ≡ None
none_has schema k v row [] high low = refl
none_has schema k v row (other ∷ rows) high low = rw (value_below schema k v row other high low.0) (none_has schema k v row rows high low.1)

-- the first of a value is the first that is not below it, if that has the value
pub first_exact : (schema : Schema) (k : ℕ) (v : List ℕ) (rows : List Row) → AreSorted schema k rows
    → find (has_value schema k v) rows ≡ kept (has_value schema k v) (find (λ row. from_value v (alt_entry schema k row)) rows)
first_exact schema k v [] sorted = refl
first_exact schema k v (row ∷ rows) sorted =
    let w = value_of schema k row.bytes in
    let eq = is_eq-slice_cmp w v in
    either (is_ge (value_cmp w v)) (find (has_value schema k v) (row ∷ rows) ≡ kept (has_value schema k v) (find (λ row. from_value v (alt_entry schema k row)) (row ∷ rows)))
    (λ ge. either (has_value schema k v row) (find (has_value schema k v) (row ∷ rows) ≡ kept (has_value schema k v) (find (λ row. from_value v (alt_entry schema k row)) (row ∷ rows)))
    (λ yes. rw (ge, yes) refl)
    (λ no. rw (ge, no) (none_has schema k v row rows (above (value_cmp w v) ge (eq ∙ no)) sorted.0)))
    (λ lt. either (has_value schema k v row) (find (has_value schema k v) (row ∷ rows) ≡ kept (has_value schema k v) (find (λ row. from_value v (alt_entry schema k row)) (row ∷ rows)))
    (λ yes. let ge = tied_ge (value_cmp w v) (eq ∙ yes) in absurd (cc))
    (λ no. rw (lt, no) (first_exact schema k v rows sorted.1)))

-- the row of an entry that the index found
pub record RowOf (schema : Schema) (k : ℕ) (test : Row → Bool) (rows : List Row) (entry : AltEntry) : Type 0 where
  pub row : Row
  pub is_entry : entry ≡ alt_entry schema k row
  pub is_first : find test rows ≡ Some row

row_of_mapped : (schema : Schema) (k : ℕ) (test : Row → Bool) (rows : List Row) (entry : AltEntry) (found : Option Row) → find test rows ≡ found → option_map (alt_entry schema k) found ≡ Some entry → RowOf schema k test rows entry
row_of_mapped schema k test rows entry None is e = absurd (cc)
row_of_mapped schema k test rows entry (Some row) is e = record { row = row; is_entry = sym (from_some _ _ e); is_first = is }

pub row_of_entry : (schema : Schema) (k : ℕ) (test : AltEntry → Bool) (rows : List Row) (entry : AltEntry) → find test (alt_entries schema k rows) ≡ Some entry
    → RowOf schema k (λ row. test (alt_entry schema k row)) (in_order schema k rows) entry
row_of_entry schema k test rows entry found =
    row_of_mapped schema k (λ row. test (alt_entry schema k row)) (in_order schema k rows) entry _ refl (sym (find_mapped (alt_entry schema k) test (in_order schema k rows)) ∙ found)

-- ---- whether a value is there

pub any_is_found : {X : Type 0} (test : X → Bool) (xs : List X) → list_any test xs ≡ is_some (find test xs)
any_is_found test [] = refl
any_is_found test (x ∷ xs) = grind (arith, common_steps, any_is_found test xs)

-- some row has a value exactly where the first that is not below it does
any_kept : (schema : Schema) (k : ℕ) (v : List ℕ) (rows : List Row) → list_any (has_value schema k v) rows ≡ is_some (kept (has_value schema k v) (find (λ row. from_value v (alt_entry schema k row)) (in_order schema k rows)))
any_kept schema k v rows =
    any_in_order schema k (has_value schema k v) rows ∙ any_is_found (has_value schema k v) (in_order schema k rows)
    ∙ ap is_some (first_exact schema k v (in_order schema k rows) (in_order_sorted schema k rows))

some_kept : (b : Bool) (row : Row) → is_some (if b then Some row else None) ≡ b
some_kept b row = grind (arith, common_steps)

-- the first entry of an alternate index tells
pub there_by_entry : (schema : Schema) (k : ℕ) (v : List ℕ) (rows : List Row) (entry : AltEntry) → find (from_value v) (alt_entries schema k rows) ≡ Some entry → list_any (has_value schema k v) rows ≡ bytes_eq entry.value.items v
there_by_entry schema k v rows entry found =
    let r = row_of_entry schema k (from_value v) rows entry found in
    any_kept schema k v rows ∙ ap (λ o. is_some (kept (has_value schema k v) o)) r.is_first ∙ some_kept (has_value schema k v r.row) r.row
    ∙ ap (λ (e : AltEntry). bytes_eq e.value.items v) (sym r.is_entry)

pub not_there : (schema : Schema) (k : ℕ) (v : List ℕ) (rows : List Row) → find (from_value v) (alt_entries schema k rows) ≡ None → list_any (has_value schema k v) rows ≡ false
not_there schema k v rows none =
    any_kept schema k v rows ∙ ap (λ o. is_some (kept (has_value schema k v) o))
    (alt_none schema k (from_value v) rows none)

-- the entry of a prime value tells
pub there_by_prime : (schema : Schema) (slots : Slots) (v : List ℕ) (places : List Place) (rows : List Row) → AreAt schema slots places rows
    → list_any (has_value schema 0 v) rows ≡ is_some (find (has_prime v) (prime_entries schema places rows))
there_by_prime schema slots v [] [] at = refl
there_by_prime schema slots v [] (row ∷ rows) at = absurd at
there_by_prime schema slots v (place ∷ places) [] at = absurd at
there_by_prime schema slots v (place ∷ places) (row ∷ rows) at =
    grind (arith, common_steps, there_by_prime schema slots v places rows at.1)
