-- Rows in order: the least that passes a test is the first that does.
use Rattle.std.proofs.Common.{◌≡◌, ℕ, zero, suc, ◌+◌, ◌<◌, Bool, true, false, List, [], ◌∷◌, length, drop, Some, refl, ap, ◌∙◌, arith, length-drop}
use Rattle.std.specs.Prelude.{find, filter, slice_index, slice_index_or, ⊤, ◌&&◌}
use Rattle.std.specs.List.{list_all}
use Rattle.std.specs.Ordering.{is_lt, nat_cmp, ordering_then}
use Rattle.std.specs.declared.cmp.Ordering.{Ordering}
use Rattle.std.specs.Cmp.{IsTotalOrder}
use Rattle.std.proofs.lemmas.Cmp.{nat_list_cmp_total, nat_cmp_total, on_total, then_total}
use Rattle.std.proofs.lemmas.Bool.{and_parts}
use Rattle.std.proofs.lemmas.Grind.{common_steps}
use Rattle.record_layout.specs.declared.schema.KeyPart.{KeyPart}
use Rattle.record_layout.specs.Schema.{Schema, key_at, value_of, prime_of, has_duplicates, no_key}
use Rattle.indexed_file.specs.File.{Row, File, stamp_of}
use Rattle.io_state.specs.Rank.{value_cmp}
use Rattle.indexed_file.specs.Rank.{row_cmp, lower_of, lowest, least, has_value}
use Rattle.indexed_file.specs.Sound.{is_row, is_stamp, are_rows, are_apart, is_file}
use Rattle.indexed_file.proofs.RowLemmas.{are_stamps, row_parts}
use Rattle.pages.specs.Each.{Each}
use Rattle.open_file.specs.InOrder.{put_row, in_order}
use Rattle.open_file.proofs.OrderLemmas.{either, not_below, not_back}
use Rattle.open_file.proofs.PartsLemmas.{from_eq, each_map}

pub row_total : (schema : Schema) (k : ℕ) → IsTotalOrder (row_cmp schema k)
row_total schema k = then_total (on_total (λ (row : Row). value_of schema k row.bytes) nat_list_cmp_total) (on_total (λ (row : Row). stamp_of k row) nat_cmp_total)

-- no row is below one before it
abbrev pub AreSorted : Schema → ℕ → List Row → Type 0
AreSorted schema k [] = ⊤
AreSorted schema k (row ∷ rows) = Each (λ other. is_lt (row_cmp schema k other row) ≡ false) rows × AreSorted schema k rows

pub put_each : (schema : Schema) (k : ℕ) (P : Row → Type 0) (row : Row) (rows : List Row) → P row → Each P rows → Each P (put_row schema k row rows)
put_each schema k P row [] p ps = (p, tt)
put_each schema k P row (next ∷ rows) p ps =
    either (is_lt (row_cmp schema k next row)) (Each P (put_row schema k row (next ∷ rows)))
    (λ yes. rw yes (ps.0, put_each schema k P row rows p ps.1))
    (λ no. rw no (p, ps))

pub put_sorted : (schema : Schema) (k : ℕ) (row : Row) (rows : List Row) → AreSorted schema k rows → AreSorted schema k (put_row schema k row rows)
put_sorted schema k row [] h = (tt, tt)
put_sorted schema k row (next ∷ rows) h =
    either (is_lt (row_cmp schema k next row)) (AreSorted schema k (put_row schema k row (next ∷ rows)))
    (λ yes. rw yes (put_each schema k (λ other. is_lt (row_cmp schema k other next) ≡ false) row rows (not_back (row_cmp schema k) (row_total schema k) next row yes) h.0, put_sorted schema k row rows h.1))
    (λ no. rw no (
      (
        no,
        each_map (λ other. is_lt (row_cmp schema k other next) ≡ false) (λ other. is_lt (row_cmp schema k other row) ≡ false)
            (λ other low. not_below (row_cmp schema k) (row_total schema k) other next row low no) rows h.0,
      ),
      h,
    ))

pub in_order_sorted : (schema : Schema) (k : ℕ) (rows : List Row) → AreSorted schema k (in_order schema k rows)
in_order_sorted schema k [] = tt
in_order_sorted schema k (row ∷ rows) = put_sorted schema k row (in_order schema k rows) (in_order_sorted schema k rows)

-- a row that fails is not the first
find_put_no : (schema : Schema) (k : ℕ) (test : Row → Bool) (row : Row) (rows : List Row) → test row ≡ false → find test (put_row schema k row rows) ≡ find test rows
find_put_no schema k test row [] h = rw h refl
find_put_no schema k test row (next ∷ rows) h = grind (arith, common_steps, find_put_no schema k test row rows h)

-- of rows none of which is below this one, the first that passes is not lower
lower_kept : (schema : Schema) (k : ℕ) (test : Row → Bool) (row : Row) (rows : List Row) → Each (λ other. is_lt (row_cmp schema k other row) ≡ false) rows → lower_of schema k row (find test rows) ≡ row
lower_kept schema k test row [] h = refl
lower_kept schema k test row (next ∷ rows) h = grind (arith, common_steps, h.0, lower_kept schema k test row rows h.1)

find_put_yes : (schema : Schema) (k : ℕ) (test : Row → Bool) (row : Row) (rows : List Row) → AreSorted schema k rows → test row ≡ true → find test (put_row schema k row rows) ≡ Some (lower_of schema k row (find test rows))
find_put_yes schema k test row [] sorted h = rw h refl
find_put_yes schema k test row (next ∷ rows) sorted h =
    either (is_lt (row_cmp schema k next row)) (find test (put_row schema k row (next ∷ rows)) ≡ Some (lower_of schema k row (find test (next ∷ rows))))
    (λ yes. grind (arith, common_steps, find_put_yes schema k test row rows sorted.1 h))
    (λ no. let low : Each (λ other. is_lt (row_cmp schema k other row) ≡ false) (next ∷ rows) = (
      no,
      each_map (λ other. is_lt (row_cmp schema k other next) ≡ false) (λ other. is_lt (row_cmp schema k other row) ≡ false)
          (λ other low. not_below (row_cmp schema k) (row_total schema k) other next row low no) rows sorted.0,
    ) in
    let same = lower_kept schema k test row (next ∷ rows) low in
    rw (no, h, same) refl)

-- the least row that passes is the first, in order, that does
pub least_is_first : (schema : Schema) (k : ℕ) (test : Row → Bool) (rows : List Row) → lowest schema k (filter test rows) ≡ find test (in_order schema k rows)
least_is_first schema k test [] = refl
least_is_first schema k test (row ∷ rows) =
    let rest = least_is_first schema k test rows in
    either (test row) (lowest schema k (filter test (row ∷ rows)) ≡ find test (put_row schema k row (in_order schema k rows)))
    (λ yes. rw (find_put_yes schema k test row (in_order schema k rows) (in_order_sorted schema k rows) yes, yes, rest) refl)
    (λ no. rw (find_put_no schema k test row (in_order schema k rows) no, no) rest)

then_lt : (a b : Ordering) → is_lt a ≡ true → is_lt (ordering_then a b) ≡ true
then_lt a b h = grind (arith, common_steps)

put_front : (schema : Schema) (row : Row) (rows : List Row) → list_all (λ other. is_lt (value_cmp (prime_of schema row.bytes) (prime_of schema other.bytes)) && are_apart schema row other) rows ≡ true
    → put_row schema 0 row rows ≡ row ∷ rows
put_front schema row [] h = refl
put_front schema row (next ∷ rows) h =
    let first = and_parts _ _ h in
    let below = and_parts _ _ first.0 in
    let less = then_lt (value_cmp (prime_of schema row.bytes) (prime_of schema next.bytes)) (nat_cmp 0 0) below.0 in
    let back = not_back (row_cmp schema 0) (row_total schema 0) row next less in
    rw back refl

-- in the order of the prime key rows stand as they are
pub prime_order : (schema : Schema) (next : ℕ) (rows : List Row) → are_rows schema next rows ≡ true → in_order schema 0 rows ≡ rows
prime_order schema next [] h = refl
prime_order schema next (row ∷ rows) h =
    let one = and_parts _ _ h in
    let two = and_parts _ _ one.0 in
    rw (prime_order schema next rows one.1) (put_front schema row rows two.1)

-- the row of a prime value is the first that has it
pub row_is_first : (schema : Schema) (file : File) (prime : List ℕ) → is_file schema file ≡ true → least schema 0 (has_value schema 0 prime) file ≡ find (has_value schema 0 prime) file.rows
row_is_first schema file prime h =
    least_is_first schema 0 (has_value schema 0 prime) file.rows
    ∙ ap (find (has_value schema 0 prime)) (prime_order schema file.next_stamp file.rows (and_parts _ _ h).1)

-- each row is one
pub each_row : (schema : Schema) (next : ℕ) (rows : List Row) → are_rows schema next rows ≡ true → Each (λ row. is_row schema next row ≡ true) rows
each_row schema next [] h = tt
each_row schema next (row ∷ rows) h =
    let one = and_parts _ _ h in
    let two = and_parts _ _ one.0 in
    (two.0, each_row schema next rows one.1)

zero_at : (parts : List KeyPart) (stamps : List ℕ) (next j : ℕ) (d : KeyPart) → are_stamps next parts stamps ≡ true → j < length parts → j < length stamps → has_duplicates (slice_index_or parts j d) ≡ false → slice_index stamps j ≡ 0
zero_at [] stamps next j d all lt within one = absurd (omega (arith, lt))
zero_at (part ∷ parts) [] next j d all lt within one = absurd (omega (arith, within))
zero_at (part ∷ parts) (s ∷ stamps) next zero d all lt within one = from_eq s 0 (rw one at (and_parts (is_stamp next part s) (are_stamps next parts stamps) all).0)
zero_at (part ∷ parts) (s ∷ stamps) next (suc j) d all lt within one =
    zero_at parts stamps next j d (and_parts (is_stamp next part s) (are_stamps next parts stamps) all).1 (omega (arith, lt)) (omega (arith, within)) one

-- the keys behind the first
pub behind_first : (keys : List KeyPart) (j : ℕ) (d : KeyPart) → slice_index_or (drop 1 keys) j d ≡ slice_index_or keys (suc j) d
behind_first [] j d = refl
behind_first (x ∷ xs) j d = refl

-- in a unique key each row has the stamp 0
pub stamp_zero : (schema : Schema) (next k : ℕ) (row : Row) → is_row schema next row ≡ true → k < length schema.keys → has_duplicates (key_at schema k) ≡ false → stamp_of k row ≡ 0
stamp_zero schema next zero row fit lt one = refl
stamp_zero schema next (suc j) row fit lt one =
    let d : KeyPart = no_key in
    let parts = row_parts schema next row fit in
    let many = from_eq (length row.stamps + 1) (length schema.keys) parts.1 in
    zero_at (drop 1 schema.keys) row.stamps next j d parts.2 (omega (arith, lt, length-drop 1 schema.keys)) (omega (arith, lt, many))
    (ap has_duplicates (behind_first schema.keys j d) ∙ one)
