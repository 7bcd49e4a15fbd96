-- Rows with some of them taken out, in the order of each key.
use Rattle.std.proofs.Common.{◌≡◌, ℕ, Bool, true, false, List, [], ◌∷◌, map, refl, ap, sym, ◌∙◌, arith}
use Rattle.std.specs.Prelude.{filter}
use Rattle.std.specs.Ordering.{is_lt}
use Rattle.std.proofs.lemmas.Grind.{common_steps}
use Rattle.record_layout.specs.Schema.{Schema}
use Rattle.indexed_file.specs.File.{Row}
use Rattle.indexed_file.specs.Rank.{row_cmp}
use Rattle.pages.specs.Each.{Each}
use Rattle.key_index.specs.declared.entry.AltEntry.{AltEntry}
use Rattle.open_file.specs.InOrder.{put_row, in_order, alt_entry, alt_entries}
use Rattle.open_file.proofs.OrderLemmas.{either, not_below}
use Rattle.open_file.proofs.RowLemmas.{AreSorted, in_order_sorted, row_total}
use Rattle.open_file.proofs.PartsLemmas.{each_map}

each_filter : {X : Type 0} (P : X → Type 0) (test : X → Bool) (xs : List X) → Each P xs → Each P (filter test xs)
each_filter P test [] h = tt
each_filter P test (x ∷ xs) h =
    either (test x) (Each P (filter test (x ∷ xs)))
    (λ yes. rw yes (h.0, each_filter P test xs h.1))
    (λ no. rw no (each_filter P test xs h.1))

put_first : (schema : Schema) (k : ℕ) (row : Row) (rows : List Row) → Each (λ other. is_lt (row_cmp schema k other row) ≡ false) rows → put_row schema k row rows ≡ row ∷ rows
put_first schema k row [] h = refl
put_first schema k row (next ∷ rows) h = rw h.0 refl

filter_put_no : (schema : Schema) (k : ℕ) (test : Row → Bool) (row : Row) (rows : List Row) → test row ≡ false → filter test (put_row schema k row rows) ≡ filter test rows
filter_put_no schema k test row [] h = rw h refl
filter_put_no schema k test row (next ∷ rows) h = grind (arith, common_steps, filter_put_no schema k test row rows h)

filter_put_yes : (schema : Schema) (k : ℕ) (test : Row → Bool) (row : Row) (rows : List Row) → AreSorted schema k rows → test row ≡ true → filter test (put_row schema k row rows) ≡ put_row schema k row (filter test rows)
filter_put_yes schema k test row [] sorted h = rw h refl
filter_put_yes schema k test row (next ∷ rows) sorted h =
    either (is_lt (row_cmp schema k next row)) (filter test (put_row schema k row (next ∷ rows)) ≡ put_row schema k row (filter test (next ∷ rows)))
    (λ yes. rw yes (either (test next) _
    (λ t. rw (t, yes) (ap (λ (r : List Row). next ∷ r) (filter_put_yes schema k test row rows sorted.1 h)))
    (λ f. rw f (filter_put_yes schema k test row rows sorted.1 h))))
    (λ no.
    let low : Each (λ other. is_lt (row_cmp schema k other row) ≡ false) (next ∷ rows) = (
      no,
      each_map (λ other. is_lt (row_cmp schema k other next) ≡ false) (λ other. is_lt (row_cmp schema k other row) ≡ false)
          (λ other under. not_below (row_cmp schema k) (row_total schema k) other next row under no) rows sorted.0,
    ) in
    let first = put_first schema k row (filter test (next ∷ rows)) (each_filter (λ other. is_lt (row_cmp schema k other row) ≡ false) test (next ∷ rows) low) in
    rw (no, h) (sym first))

-- the rows that are left, in order, are those left of the rows in order
pub in_order_filtered : (schema : Schema) (k : ℕ) (test : Row → Bool) (rows : List Row) → in_order schema k (filter test rows) ≡ filter test (in_order schema k rows)
in_order_filtered schema k test [] = refl
in_order_filtered schema k test (row ∷ rows) =
    let rest = in_order_filtered schema k test rows in
    either (test row) (in_order schema k (filter test (row ∷ rows)) ≡ filter test (put_row schema k row (in_order schema k rows)))
    (λ yes. rw yes (ap (put_row schema k row) rest ∙ sym (filter_put_yes schema k test row (in_order schema k rows) (in_order_sorted schema k rows) yes)))
    (λ no. rw no (rest ∙ sym (filter_put_no schema k test row (in_order schema k rows) no)))

filter_mapped : {X Y : Type 0} (f : X → Y) (test : Y → Bool) (xs : List X) → filter test (map f xs) ≡ map f (filter (λ x. test (f x)) xs)
filter_mapped f test [] = refl
filter_mapped f test (x ∷ xs) = grind (arith, common_steps, filter_mapped f test xs)

-- the entries that are left are those of the rows that are left
pub entries_filtered : (schema : Schema) (k : ℕ) (test : AltEntry → Bool) (rows : List Row) → filter test (alt_entries schema k rows) ≡ alt_entries schema k (filter (λ row. test (alt_entry schema k row)) rows)
entries_filtered schema k test rows =
    filter_mapped (alt_entry schema k) test (in_order schema k rows) ∙ ap (map (alt_entry schema k)) (sym (in_order_filtered schema k (λ row. test (alt_entry schema k row)) rows))
