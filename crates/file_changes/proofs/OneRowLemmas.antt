-- The row of a prime value, among the rows of a file.
use Rattle.std.proofs.Common.{◌≡◌, ℕ, ◌+◌, ◌<◌, Bool, true, false, List, [], ◌∷◌, length, Option, Some, refl, ap, sym, subst, ◌∙◌, arith}
use Rattle.std.specs.Prelude.{find, filter, is_some, IsSome, not, option_map}
use Rattle.std.specs.List.{list_all, list_any}
use Rattle.std.proofs.lemmas.Bool.{and_parts, and_from, eq-eqb}
use Rattle.std.proofs.lemmas.Grind.{common_steps}
use Rattle.std.proofs.lemmas.Slice.Eq.{bytes_eq-Decides}
use Rattle.record_layout.specs.Schema.{Schema, value_of, prime_of}
use Rattle.indexed_file.specs.File.{Row, stamp_of}
use Rattle.indexed_file.specs.Rank.{has_value}
use Rattle.indexed_file.specs.Change.{others_in}
use Rattle.indexed_file.specs.Sound.{is_row, are_rows}
use Rattle.indexed_file.proofs.OrderLemmas.{below_differs}
use Rattle.indexed_file.proofs.ApartLemmas.{apart_back}
use Rattle.indexed_file.proofs.RowLemmas.{is_before, row_parts, rows_parts}
use Rattle.pages.specs.Each.{Each}
use Rattle.key_index.specs.Entries.{has_rank, without_rank}
use Rattle.open_file.specs.InOrder.{in_order, alt_entry, alt_entries}
use Rattle.open_file.proofs.OrderLemmas.{either, from_some}
use Rattle.open_file.proofs.PartsLemmas.{from_eq, each_map, each_both}
use Rattle.open_file.proofs.FirstLemmas.{same_bytes, any_is_found}
use Rattle.open_file.proofs.PlaceLemmas.{find_each}
use Rattle.open_file.proofs.RepeatLemmas.{find_mapped, any_in_order}
use Rattle.file_changes.proofs.RankLemmas.{same_rank, apart_in, each_all}
use Rattle.file_changes.proofs.RemoveLemmas.{entries_filtered}

pub many_stamps : (schema : Schema) (next : ℕ) (row : Row) → is_row schema next row ≡ true → length row.stamps + 1 ≡ length schema.keys
many_stamps schema next row fit = from_eq _ _ (row_parts schema next row fit).1

-- the rows after one of this prime value have others
pub none_after : (schema : Schema) (prime : List ℕ) (row : Row) (rows : List Row) → has_value schema 0 prime row ≡ true → list_all (is_before schema row) rows ≡ true
    → Each (λ other. has_value schema 0 prime other ≡ false) rows
none_after schema prime row [] has before = tt
none_after schema prime row (other ∷ rows) has before =
    let parts = and_parts (is_before schema row other) (list_all (is_before schema row) rows) before in
    let below = (and_parts _ _ parts.0).0 in
    let same : prime_of schema row.bytes ≡ prime = same_bytes (prime_of schema row.bytes) prime has in
    (rw same at (below_differs (prime_of schema row.bytes) (prime_of schema other.bytes) below), none_after schema prime row rows has parts.1)

-- they have other ranks too
ranks_after : (schema : Schema) (next k : ℕ) (row : Row) (rows : List Row) → k < length schema.keys → is_row schema next row ≡ true → are_rows schema next rows ≡ true → list_all (is_before schema row) rows ≡ true
    → Each (λ other. same_rank schema k other row ≡ false) rows
ranks_after schema next k row [] lt fit sound before = tt
ranks_after schema next k row (other ∷ rows) lt fit sound before =
    let parts = rows_parts schema next other rows sound in
    let ones = and_parts (is_before schema row other) (list_all (is_before schema row) rows) before in
    let apart = apart_back schema row other (and_parts _ _ ones.0).1 in
    (apart_in schema k other row lt (many_stamps schema next other parts.0) (many_stamps schema next row fit) apart, ranks_after schema next k row rows lt fit parts.2 ones.1)

same_rank_itself : (schema : Schema) (k : ℕ) (row : Row) → same_rank schema k row row ≡ true
same_rank_itself schema k row = and_from _ _ ((bytes_eq-Decides (value_of schema k row.bytes) (value_of schema k row.bytes)).1 refl) (eq-eqb (stamp_of k row) (stamp_of k row) refl)

-- among rows, the one of a prime value is the one of its rank in each key
pub one_of_rank : (schema : Schema) (next k : ℕ) (prime : List ℕ) (old : Row) (rows : List Row) → k < length schema.keys → are_rows schema next rows ≡ true → find (has_value schema 0 prime) rows ≡ Some old
    → Each (λ row. same_rank schema k row old ≡ has_value schema 0 prime row) rows
one_of_rank schema next k prime old [] lt sound found = tt
one_of_rank schema next k prime old (row ∷ rows) lt sound found =
    let parts = rows_parts schema next row rows sound in
    either (has_value schema 0 prime row) (Each (λ r. same_rank schema k r old ≡ has_value schema 0 prime r) (row ∷ rows))
    (λ yes.
    let same : row ≡ old = from_some row old (rw yes at found) in
    let ranks = ranks_after schema next k row rows lt parts.0 parts.2 parts.1 in
    let none = none_after schema prime row rows yes parts.1 in
    subst (λ o. Each (λ r. same_rank schema k r o ≡ has_value schema 0 prime r) (row ∷ rows)) same (
      same_rank_itself schema k row ∙ sym yes,
      each_both (λ r. same_rank schema k r row ≡ false) (λ r. has_value schema 0 prime r ≡ false) (λ r. same_rank schema k r row ≡ has_value schema 0 prime r) (λ r one two. one ∙ sym two) rows ranks none,
    ))
    (λ no.
    let rest : find (has_value schema 0 prime) rows ≡ Some old = rw no at found in
    let before = find_each (λ r. is_before schema row r ≡ true) (has_value schema 0 prime) rows old (each_all (is_before schema row) rows parts.1) rest in
    let fits = find_each (λ r. is_row schema next r ≡ true) (has_value schema 0 prime) rows old (rows_fit schema next rows parts.2) rest in
    let apart = apart_in schema k row old lt (many_stamps schema next row parts.0) (many_stamps schema next old fits) (and_parts _ _ before).1 in
    (apart ∙ sym no, one_of_rank schema next k prime old rows lt parts.2 rest))
  where
    rows_fit : (schema : Schema) (next : ℕ) (rows : List Row) → are_rows schema next rows ≡ true → Each (λ r. is_row schema next r ≡ true) rows
    rows_fit schema next [] sound = tt
    rows_fit schema next (row ∷ rows) sound = let parts = rows_parts schema next row rows sound in (parts.0, rows_fit schema next rows parts.2)

-- and the only one of that prime value
pub only_one : (schema : Schema) (next : ℕ) (prime : List ℕ) (old : Row) (rows : List Row) → are_rows schema next rows ≡ true → find (has_value schema 0 prime) rows ≡ Some old
    → Each (λ row. has_value schema 0 prime row ≡ true → row ≡ old) rows
only_one schema next prime old [] sound found = tt
only_one schema next prime old (row ∷ rows) sound found =
    let parts = rows_parts schema next row rows sound in
    either (has_value schema 0 prime row) (Each (λ r. has_value schema 0 prime r ≡ true → r ≡ old) (row ∷ rows))
    (λ yes.
    let same : row ≡ old = from_some row old (rw yes at found) in
    (λ e. same, each_map (λ r. has_value schema 0 prime r ≡ false) (λ r. has_value schema 0 prime r ≡ true → r ≡ old) (λ r none e. absurd (differ e none)) rows (none_after schema prime row rows yes parts.1)))
    (λ no. (λ e. absurd (differ e no), only_one schema next prime old rows parts.2 (rw no at found)))
  where
    differ : {b : Bool} → b ≡ true → b ≡ false → ⊥
    differ e k = let both : true ≡ false = sym e ∙ k in cc

filter_same : {X : Type 0} (p q : X → Bool) (xs : List X) → Each (λ x. p x ≡ q x) xs → filter p xs ≡ filter q xs
filter_same p q [] h = refl
filter_same p q (x ∷ xs) h = grind (arith, common_steps, h.0, filter_same p q xs h.1)

-- the entries of the other rows are those of other ranks
pub entries_left : (schema : Schema) (next k : ℕ) (prime : List ℕ) (old : Row) (rows : List Row) → k < length schema.keys → are_rows schema next rows ≡ true → find (has_value schema 0 prime) rows ≡ Some old
    → without_rank (value_of schema k old.bytes) (stamp_of k old) (alt_entries schema k rows) ≡ alt_entries schema k (others_in schema prime rows)
entries_left schema next k prime old rows lt sound found =
    let v = value_of schema k old.bytes in
    let s = stamp_of k old in
    let one = one_of_rank schema next k prime old rows lt sound found in
    entries_filtered schema k (λ e. not (has_rank v s e)) rows
    ∙ ap (alt_entries schema k) (filter_same (λ r. not (has_rank v s (alt_entry schema k r))) (λ r. not (has_value schema 0 prime r)) rows
    (each_map (λ r. same_rank schema k r old ≡ has_value schema 0 prime r) (λ r. not (has_rank v s (alt_entry schema k r)) ≡ not (has_value schema 0 prime r)) (λ r h. ap not h) rows one))

any_found : (p t : Row → Bool) (rows : List Row) (row : Row) → find p rows ≡ Some row → t row ≡ true → list_any t rows ≡ true
any_found p t [] row found has = absurd (cc)
any_found p t (first ∷ rows) row found has = grind (arith, common_steps, any_found p t rows row)

some_mapped : {X Y : Type 0} (f : X → Y) (o : Option X) → is_some (option_map f o) ≡ is_some o
some_mapped f o = grind (arith, common_steps)

-- the row's own entry is among them
pub entry_there : (schema : Schema) (k : ℕ) (prime : List ℕ) (old : Row) (rows : List Row) → find (has_value schema 0 prime) rows ≡ Some old
    → IsSome (find (has_rank (value_of schema k old.bytes) (stamp_of k old)) (alt_entries schema k rows))
entry_there schema k prime old rows found =
    let v = value_of schema k old.bytes in
    let s = stamp_of k old in
    let test : Row → Bool = λ row. has_rank v s (alt_entry schema k row) in
    ap is_some (find_mapped (alt_entry schema k) (has_rank v s) (in_order schema k rows))
    ∙ some_mapped (alt_entry schema k) (find test (in_order schema k rows))
    ∙ sym (any_is_found test (in_order schema k rows))
    ∙ sym (any_in_order schema k test rows)
    ∙ any_found (has_value schema 0 prime) test rows old found (same_rank_itself schema k old)
