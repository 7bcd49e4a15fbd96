-- Rows, and the entries of an index, as one row put in among the others.
use Rattle.std.proofs.Common.{◌≡◌, ℕ, ◌<◌, true, false, List, [], ◌∷◌, length, Some, None, refl, ap, sym, ◌∙◌}
use Rattle.std.specs.Prelude.{find, option_map}
use Rattle.std.specs.List.{list_all}
use Rattle.std.specs.Ordering.{is_lt}
use Rattle.std.proofs.lemmas.Bool.{and_parts}
use Rattle.std.proofs.lemmas.Cmp.{nat_list_cmp_total}
use Rattle.record_layout.specs.Schema.{Schema, prime_of, value_of}
use Rattle.indexed_file.specs.File.{Row, stamp_of}
use Rattle.io_state.specs.Rank.{value_cmp}
use Rattle.indexed_file.specs.Rank.{has_value}
use Rattle.indexed_file.specs.Change.{inserted, others_in}
use Rattle.indexed_file.specs.Sound.{are_rows}
use Rattle.indexed_file.proofs.RowLemmas.{is_before, rows_parts}
use Rattle.pages.specs.Each.{Each}
use Rattle.key_index.specs.Entries.{has_rank, with_alt}
use Rattle.open_file.specs.InOrder.{in_order, alt_entry, alt_entries}
use Rattle.open_file.proofs.OrderLemmas.{either, from_some, not_back}
use Rattle.open_file.proofs.ByKeyLemmas.{in_order_each}
use Rattle.open_file.proofs.PartsLemmas.{each_map}
use Rattle.open_file.proofs.PlaceLemmas.{find_each}
use Rattle.open_file.proofs.RepeatLemmas.{find_mapped}
use Rattle.file_changes.proofs.RankLemmas.{same_rank, each_all}
use Rattle.file_changes.proofs.InsertLemmas.{entries_inserted}
use Rattle.file_changes.proofs.AddedLemmas.{none_passes}
use Rattle.file_changes.proofs.OneRowLemmas.{none_after, one_of_rank}

-- a row goes before rows that it is before
inserted_front : (schema : Schema) (row : Row) (rows : List Row) → list_all (is_before schema row) rows ≡ true → inserted schema row rows ≡ row ∷ rows
inserted_front schema row [] before = refl
inserted_front schema row (next ∷ rows) before =
    let ones = and_parts (is_before schema row next) (list_all (is_before schema row) rows) before in
    let below : is_lt (value_cmp (prime_of schema row.bytes) (prime_of schema next.bytes)) ≡ true = (and_parts _ _ ones.0).0 in
    rw below refl

-- all are left where none has the value
all_left : (schema : Schema) (prime : List ℕ) (rows : List Row) → Each (λ row. has_value schema 0 prime row ≡ false) rows → others_in schema prime rows ≡ rows
all_left schema prime [] none = refl
all_left schema prime (row ∷ rows) none = rw none.0 (ap (λ r. row ∷ r) (all_left schema prime rows none.1))

-- rows are the one of a prime value, put in among the others
split_one : (schema : Schema) (next : ℕ) (prime : List ℕ) (old : Row) (rows : List Row) → are_rows schema next rows ≡ true → find (has_value schema 0 prime) rows ≡ Some old
    → rows ≡ inserted schema old (others_in schema prime rows)
split_one schema next prime old [] sound found = absurd (cc)
split_one schema next prime old (row ∷ rows) sound found =
    let parts = rows_parts schema next row rows sound in
    either (has_value schema 0 prime row) (row ∷ rows ≡ inserted schema old (others_in schema prime (row ∷ rows)))
    (λ yes.
    let same : row ≡ old = from_some row old (rw yes at found) in
    let left = all_left schema prime rows (none_after schema prime row rows yes parts.1) in
    rw (yes, left) (sym (inserted_front schema row rows parts.1) ∙ ap (λ r. inserted schema r rows) same))
    (λ no.
    let rest : find (has_value schema 0 prime) rows ≡ Some old = rw no at found in
    let before = find_each (λ r. is_before schema row r ≡ true) (has_value schema 0 prime) rows old (each_all (is_before schema row) rows parts.1) rest in
    let above = not_back value_cmp nat_list_cmp_total (prime_of schema row.bytes) (prime_of schema old.bytes) (and_parts _ _ before).0 in
    rw no (rw above (ap (λ r. row ∷ r) (split_one schema next prime old rows parts.2 rest))))

-- of what is left, none has the value, and what held of all holds
each_left : (schema : Schema) (prime : List ℕ) (P : Row → Type 0) (rows : List Row) → Each (λ row. has_value schema 0 prime row ≡ false → P row) rows → Each P (others_in schema prime rows)
each_left schema prime P [] h = tt
each_left schema prime P (row ∷ rows) h =
    either (has_value schema 0 prime row) (Each P (others_in schema prime (row ∷ rows)))
    (λ yes. rw yes (each_left schema prime P rows h.1))
    (λ no. rw no (h.0 no, each_left schema prime P rows h.1))

-- the others have other ranks than the one
pub others_apart : (schema : Schema) (next k : ℕ) (prime : List ℕ) (old : Row) (rows : List Row) → k < length schema.keys → are_rows schema next rows ≡ true → find (has_value schema 0 prime) rows ≡ Some old
    → Each (λ row. same_rank schema k row old ≡ false) (others_in schema prime rows)
others_apart schema next k prime old rows lt sound found =
    each_left schema prime (λ row. same_rank schema k row old ≡ false) rows
    (each_map (λ row. same_rank schema k row old ≡ has_value schema 0 prime row) (λ row. has_value schema 0 prime row ≡ false → same_rank schema k row old ≡ false) (λ row one none. one ∙ none)
    rows (one_of_rank schema next k prime old rows lt sound found))

-- an index has the entry of the one among those of the others
pub entries_split : (schema : Schema) (next k : ℕ) (prime : List ℕ) (old : Row) (rows : List Row) → k < length schema.keys → are_rows schema next rows ≡ true → find (has_value schema 0 prime) rows ≡ Some old
    → alt_entries schema k rows ≡ with_alt (alt_entry schema k old) (alt_entries schema k (others_in schema prime rows))
entries_split schema next k prime old rows lt sound found =
    let others = others_in schema prime rows in
    let apart = others_apart schema next k prime old rows lt sound found in
    ap (alt_entries schema k) (split_one schema next prime old rows sound found) ∙ entries_inserted schema k old others apart

-- and no other of its rank
pub none_of_rank : (schema : Schema) (next k : ℕ) (prime : List ℕ) (old : Row) (rows : List Row) → k < length schema.keys → are_rows schema next rows ≡ true → find (has_value schema 0 prime) rows ≡ Some old
    → find (has_rank (value_of schema k old.bytes) (stamp_of k old)) (alt_entries schema k (others_in schema prime rows)) ≡ None
none_of_rank schema next k prime old rows lt sound found =
    let v = value_of schema k old.bytes in
    let s = stamp_of k old in
    let others = others_in schema prime rows in
    find_mapped (alt_entry schema k) (has_rank v s) (in_order schema k others)
    ∙ ap (option_map (alt_entry schema k)) (none_passes (λ row. has_rank v s (alt_entry schema k row)) (in_order schema k others)
    (in_order_each schema k (λ row. has_rank v s (alt_entry schema k row) ≡ false) others (others_apart schema next k prime old rows lt sound found)))
