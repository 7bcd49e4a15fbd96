-- Whether a later row has the value of a row: one look at the next entry tells.
use Rattle.std.proofs.Common.{◌≡◌, ℕ, Bool, true, false, List, [], ◌∷◌, Option, Some, None, refl, ap, sym, ◌∙◌, arith}
use Rattle.std.specs.Prelude.{find, map, option_map, ◌&&◌, ◌||◌, bytes_eq, nat_lt}
use Rattle.std.specs.Option.{option_map_or}
use Rattle.std.specs.List.{list_any}
use Rattle.std.specs.Ordering.{is_lt, is_gt, is_eq, nat_cmp, ordering_then, ordering_reverse}
use Rattle.std.specs.declared.cmp.Ordering.{Ordering}
use Rattle.std.specs.declared.cmp.Ordering.TheVariants.{Less, Greater}
use Rattle.std.specs.Cmp.{Equal-is}
use Rattle.std.proofs.lemmas.Cmp.{nat_list_cmp_total}
use Rattle.std.proofs.lemmas.Map.Text.{is_eq-slice_cmp}
use Rattle.std.proofs.lemmas.Bool.Decides.{nat_tests}
use Rattle.pages.specs.Each.{Each}
use Rattle.std.proofs.lemmas.Grind.{common_steps}
use Rattle.record_layout.specs.Schema.{Schema, value_of}
use Rattle.indexed_file.specs.File.{Row, File, stamp_of}
use Rattle.io_state.specs.Rank.{rank_cmp, value_cmp}
use Rattle.indexed_file.specs.Rank.{row_cmp, has_value, is_repeated}
use Rattle.key_index.specs.declared.entry.AltEntry.{AltEntry}
use Rattle.key_index.specs.Entries.{after_rank}
use Rattle.open_file.specs.InOrder.{put_row, in_order, alt_entry, alt_entries}
use Rattle.open_file.proofs.OrderLemmas.{either}
use Rattle.open_file.proofs.RowLemmas.{AreSorted, in_order_sorted}

-- a test of the entries of rows is a test of the rows
pub find_mapped : {X Y : Type 0} (f : X → Y) (test : Y → Bool) (xs : List X) → find test (map f xs) ≡ option_map f (find (λ x. test (f x)) xs)
find_mapped f test [] = refl
find_mapped f test (x ∷ xs) = grind (arith, common_steps, find_mapped f test xs)

-- some row passes, in whatever order
any_put : (schema : Schema) (k : ℕ) (test : Row → Bool) (row : Row) (rows : List Row) → list_any test (put_row schema k row rows) ≡ list_any test (row ∷ rows)
any_put schema k test row [] = refl
any_put schema k test row (next ∷ rows) = grind (arith, common_steps, any_put schema k test row rows)

pub any_in_order : (schema : Schema) (k : ℕ) (test : Row → Bool) (rows : List Row) → list_any test rows ≡ list_any test (in_order schema k rows)
any_in_order schema k test [] = refl
any_in_order schema k test (row ∷ rows) = ap (λ b. test row || b) (any_in_order schema k test rows) ∙ sym (any_put schema k test row (in_order schema k rows))

-- the rows that come after a value and stamp
abbrev pub comes_after : Schema → ℕ → List ℕ → ℕ → Row → Bool
comes_after schema k v s row = is_gt (rank_cmp (value_of schema k row.bytes) (stamp_of k row) v s)

tied_after : (o p : Ordering) → is_gt (ordering_then o p) ≡ true → is_eq o ≡ true → is_gt p ≡ true
tied_after o p h e = grind (arith, common_steps)

above_after : (o p : Ordering) → is_gt (ordering_then o p) ≡ true → is_eq o ≡ false → o ≡ Greater
above_after o p h e = grind (arith, common_steps)

not_after : (o p : Ordering) → is_gt (ordering_then o p) ≡ false → is_eq o ≡ true → is_gt p ≡ false
not_after o p h e = grind (arith, common_steps)

gt_numbers : (a s : ℕ) → is_gt (nat_cmp a s) ≡ nat_lt s a
gt_numbers a s = grind (arith, common_steps, nat_tests)

-- a row of this value is below one of a greater value
pub value_below : (schema : Schema) (k : ℕ) (v : List ℕ) (row other : Row) → value_cmp (value_of schema k row.bytes) v ≡ Greater → is_lt (row_cmp schema k other row) ≡ false → has_value schema k v other ≡ false
value_below schema k v row other above low =
    either (has_value schema k v other) (has_value schema k v other ≡ false)
    (λ yes.
    let same = (Equal-is (value_cmp (value_of schema k other.bytes) v)).0 (is_eq-slice_cmp (value_of schema k other.bytes) v ∙ yes) in
    let under : value_cmp v (value_of schema k row.bytes) ≡ Less = nat_list_cmp_total.antisymm v (value_of schema k row.bytes) ∙ ap ordering_reverse above in
    let less : value_cmp (value_of schema k other.bytes) (value_of schema k row.bytes) ≡ Less = nat_list_cmp_total.congr (value_of schema k other.bytes) v (value_of schema k row.bytes) same ∙ under in
    let lower : is_lt (row_cmp schema k other row) ≡ true = ap (λ o. is_lt (ordering_then o (nat_cmp (stamp_of k other) (stamp_of k row)))) less in
    absurd (cc))
    (λ no. no)

none_later : (schema : Schema) (k : ℕ) (v : List ℕ) (s : ℕ) (row : Row) (rows : List Row) → value_cmp (value_of schema k row.bytes) v ≡ Greater
    → Each (λ other. is_lt (row_cmp schema k other row) ≡ false) rows → list_any (λ other. has_value schema k v other && nat_lt s (stamp_of k other)) rows ≡ false
none_later schema k v s row [] above low = refl
none_later schema k v s row (other ∷ rows) above low =
    rw (value_below schema k v row other above low.0) (none_later schema k v s row rows above low.1)

-- in rows in order, one of them has the value and a greater stamp exactly where the first that comes after has the value
pub one_look : (schema : Schema) (k : ℕ) (v : List ℕ) (s : ℕ) (rows : List Row) → AreSorted schema k rows
    → list_any (λ other. has_value schema k v other && nat_lt s (stamp_of k other)) rows ≡ option_map_or (has_value schema k v) (find (comes_after schema k v s) rows) false
one_look schema k v s [] sorted = refl
one_look schema k v s (row ∷ rows) sorted =
    let w = value_of schema k row.bytes in
    let eq = is_eq-slice_cmp w v in
    either (comes_after schema k v s row) (list_any (λ other. has_value schema k v other && nat_lt s (stamp_of k other)) (row ∷ rows) ≡ option_map_or (has_value schema k v) (find (comes_after schema k v s) (row ∷ rows)) false)
    (λ after. either (has_value schema k v row) (list_any (λ other. has_value schema k v other && nat_lt s (stamp_of k other)) (row ∷ rows) ≡ option_map_or (has_value schema k v) (find (comes_after schema k v s) (row ∷ rows)) false)
    (λ yes. let greater = sym (gt_numbers (stamp_of k row) s) ∙ tied_after (value_cmp w v) (nat_cmp (stamp_of k row) s) after (eq ∙ yes) in
    rw (after, yes, greater) refl)
    (λ no. let above = above_after (value_cmp w v) (nat_cmp (stamp_of k row) s) after (eq ∙ no) in
    rw (after, no) (none_later schema k v s row rows above sorted.0)))
    (λ before. either (has_value schema k v row) (list_any (λ other. has_value schema k v other && nat_lt s (stamp_of k other)) (row ∷ rows) ≡ option_map_or (has_value schema k v) (find (comes_after schema k v s) (row ∷ rows)) false)
    (λ yes. let lesser = sym (gt_numbers (stamp_of k row) s) ∙ not_after (value_cmp w v) (nat_cmp (stamp_of k row) s) before (eq ∙ yes) in
    rw (before, yes, lesser) (one_look schema k v s rows sorted.1))
    (λ no. rw (before, no) (one_look schema k v s rows sorted.1)))

-- so the next entry tells whether a row is repeated
pub next_tells : (schema : Schema) (k : ℕ) (row : Row) (file : File) →
    is_repeated schema k row file ≡ option_map_or (λ (e : AltEntry). bytes_eq e.value.items (value_of schema k row.bytes)) (find (after_rank (value_of schema k row.bytes) (stamp_of k row)) (alt_entries schema k file.rows)) false
next_tells schema k row file =
    let v = value_of schema k row.bytes in
    let s = stamp_of k row in
    let one = any_in_order schema k (λ other. has_value schema k v other && nat_lt s (stamp_of k other)) file.rows ∙ one_look schema k v s (in_order schema k file.rows) (in_order_sorted schema k file.rows) in
    let mapped = find_mapped (alt_entry schema k) (after_rank v s) (in_order schema k file.rows) in
    rw mapped (one ∙ sym (through _))
  where
    through : (found : Option Row) → option_map_or (λ (e : AltEntry). bytes_eq e.value.items (value_of schema k row.bytes)) (option_map (alt_entry schema k) found) false ≡ option_map_or (has_value schema k (value_of schema k row.bytes)) found false
    through None = refl
    through (Some r) = refl
