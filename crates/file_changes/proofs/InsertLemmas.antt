-- Rows with one more, in the order of each key.
use Rattle.std.proofs.Common.{◌≡◌, ℕ, true, false, List, [], ◌∷◌, refl, ap, ◌∙◌, arith}
use Rattle.std.specs.Prelude.{map}
use Rattle.std.specs.Ordering.{is_lt, is_eq, ordering_reverse}
use Rattle.std.proofs.lemmas.Grind.{common_steps}
use Rattle.std.specs.declared.cmp.Ordering.{Ordering}
use Rattle.record_layout.specs.Schema.{Schema, prime_of}
use Rattle.indexed_file.specs.File.{Row}
use Rattle.io_state.specs.Rank.{value_cmp}
use Rattle.indexed_file.specs.Rank.{row_cmp}
use Rattle.indexed_file.specs.Change.{inserted}
use Rattle.pages.specs.Each.{Each}
use Rattle.key_index.specs.Entries.{with_alt}
use Rattle.open_file.specs.InOrder.{put_row, in_order, alt_entry, alt_entries}
use Rattle.open_file.proofs.OrderLemmas.{either, not_below, not_back}
use Rattle.open_file.proofs.RowLemmas.{row_total}
use Rattle.open_file.proofs.PartsLemmas.{each_map}
use Rattle.file_changes.proofs.RankLemmas.{same_rank, not_tied}

turned : (o : Ordering) → is_lt o ≡ false → is_eq o ≡ false → is_lt (ordering_reverse o) ≡ true
turned o h e = grind (arith, common_steps)

-- of two rows that are not tied one is below the other
other_way : (schema : Schema) (k : ℕ) (a b : Row) → is_eq (row_cmp schema k a b) ≡ false → is_lt (row_cmp schema k a b) ≡ false → is_lt (row_cmp schema k b a) ≡ true
other_way schema k a b apart above = ap is_lt ((row_total schema k).antisymm b a) ∙ turned (row_cmp schema k a b) above apart

-- two rows that are not tied may be put in either order
put_put : (schema : Schema) (k : ℕ) (a b : Row) → is_eq (row_cmp schema k a b) ≡ false → is_eq (row_cmp schema k b a) ≡ false → (rows : List Row) → put_row schema k a (put_row schema k b rows) ≡ put_row schema k b (put_row schema k a rows)
put_put schema k a b ab ba [] =
    either (is_lt (row_cmp schema k b a)) (put_row schema k a (put_row schema k b []) ≡ put_row schema k b (put_row schema k a []))
    (λ yes. rw (yes, not_back (row_cmp schema k) (row_total schema k) b a yes) refl)
    (λ no. rw (no, other_way schema k b a ba no) refl)
put_put schema k a b ab ba (x ∷ rows) =
    let R = row_cmp schema k in
    let total = row_total schema k in
    either (is_lt (R x a)) (put_row schema k a (put_row schema k b (x ∷ rows)) ≡ put_row schema k b (put_row schema k a (x ∷ rows)))
    (λ xa. either (is_lt (R x b)) (put_row schema k a (put_row schema k b (x ∷ rows)) ≡ put_row schema k b (put_row schema k a (x ∷ rows)))
    (λ xb. rw (xb, xa, xb) (ap (λ rest. x ∷ rest) (put_put schema k a b ab ba rows)))
    (λ xb.
    let low = either (is_lt (R b a)) (is_lt (R b a) ≡ true) (λ yes. yes) (λ no. let high = not_below R total x b a xb no in absurd (cc)) in
    rw (xb, low, xa, xb) refl))
    (λ xa. either (is_lt (R x b)) (put_row schema k a (put_row schema k b (x ∷ rows)) ≡ put_row schema k b (put_row schema k a (x ∷ rows)))
    (λ xb.
    let low = either (is_lt (R a b)) (is_lt (R a b) ≡ true) (λ yes. yes) (λ no. let high = not_below R total x a b xa no in absurd (cc)) in
    rw (xb, xa, low, xb) refl)
    (λ xb. either (is_lt (R b a)) (put_row schema k a (put_row schema k b (x ∷ rows)) ≡ put_row schema k b (put_row schema k a (x ∷ rows)))
    (λ yes. rw (xb, yes, xa, not_back R total b a yes) refl)
    (λ no. rw (xb, no, xa, other_way schema k b a ba no, xb) refl)))

-- the rows with one more, in order, are the rows in order with one more
pub in_order_inserted : (schema : Schema) (k : ℕ) (row : Row) (rows : List Row) → Each (λ other. is_eq (row_cmp schema k other row) ≡ false) rows → Each (λ other. is_eq (row_cmp schema k row other) ≡ false) rows
    → in_order schema k (inserted schema row rows) ≡ put_row schema k row (in_order schema k rows)
in_order_inserted schema k row [] one two = refl
in_order_inserted schema k row (next ∷ rows) one two =
    either (is_lt (value_cmp (prime_of schema row.bytes) (prime_of schema next.bytes))) (in_order schema k (inserted schema row (next ∷ rows)) ≡ put_row schema k row (in_order schema k (next ∷ rows)))
    (λ yes. rw yes refl)
    (λ no. rw no (ap (put_row schema k next) (in_order_inserted schema k row rows one.1 two.1) ∙ put_put schema k next row one.0 two.0 (in_order schema k rows)))

-- an index with the entry of one more row has the entries of the rows with that row
with_put : (schema : Schema) (k : ℕ) (row : Row) (rows : List Row) → map (alt_entry schema k) (put_row schema k row rows) ≡ with_alt (alt_entry schema k row) (map (alt_entry schema k) rows)
with_put schema k row [] = refl
with_put schema k row (next ∷ rows) =
    either (is_lt (row_cmp schema k next row)) _ (λ yes. rw (yes, with_put schema k row rows) refl) (λ no. rw no refl)

-- where no other row has its rank
pub entries_inserted : (schema : Schema) (k : ℕ) (row : Row) (rows : List Row) → Each (λ other. same_rank schema k other row ≡ false) rows
    → alt_entries schema k (inserted schema row rows) ≡ with_alt (alt_entry schema k row) (alt_entries schema k rows)
entries_inserted schema k row rows apart =
    let one = each_map (λ other. same_rank schema k other row ≡ false) (λ other. is_eq (row_cmp schema k other row) ≡ false)
    (λ other h. not_tied schema k other row h) rows apart in
    let two = each_map (λ other. is_eq (row_cmp schema k other row) ≡ false) (λ other. is_eq (row_cmp schema k row other) ≡ false)
    (λ other h. ap is_eq ((row_total schema k).antisymm row other) ∙ reversed (row_cmp schema k other row) ∙ h) rows one in
    ap (map (alt_entry schema k)) (in_order_inserted schema k row rows one two) ∙ with_put schema k row (in_order schema k rows)
  where
    reversed : (o : Ordering) → is_eq (ordering_reverse o) ≡ is_eq o
    reversed o = grind (arith, common_steps)
