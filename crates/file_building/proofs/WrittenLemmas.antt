-- Records that were added one after another, and their rows.
use Rattle.std.proofs.Common.{◌≡◌, ℕ, suc, ◌+◌, ◌≤◌, ◌==◌, Bool, true, false, not, ◌&&◌, ◌||◌, List, [], ◌∷◌, ◌++◌, length, refl, ap, sym, subst, ◌∙◌, arith, append-nil, append_assoc}
use Rattle.std.specs.Prelude.{bytes_eq, zip}
use Rattle.std.specs.List.{list_all, list_any}
use Rattle.std.specs.Ordering.{is_lt}
use Rattle.std.proofs.lemmas.Bool.{and_parts, and_from, or_left, or_right, not_from_false}
use Rattle.std.proofs.lemmas.Grind.{common_steps}
use Rattle.record_layout.specs.declared.schema.KeyPart.{KeyPart}
use Rattle.record_layout.specs.Schema.{Schema, IsSchema, part_of, prime_of, has_duplicates}
use Rattle.io_state.specs.Rank.{value_cmp}
use Rattle.indexed_file.specs.File.{Row, File, empty_file}
use Rattle.indexed_file.specs.Change.{clashes, is_there, inserted, added, new_row}
use Rattle.indexed_file.specs.Sound.{is_file, is_row, are_rows}
use Rattle.indexed_file.proofs.TestLemmas.{either}
use Rattle.std.proofs.lemmas.Slice.Eq.{bytes_eq-Decides}
use Rattle.indexed_file.proofs.OrderLemmas.{below-trans, below_differs}
use Rattle.indexed_file.proofs.RowLemmas.{is_before, row_parts, row_later, rows_parts}
use Rattle.indexed_file.proofs.ApartLemmas.{is_unlike, are_unlike, are_apart_in}
use Rattle.indexed_file.proofs.AddedLemmas.{new_row_fits}
use Rattle.indexed_file.proofs.SoundLemmas.{added_is_file}
use Rattle.pages.specs.Each.{Each}
use Rattle.pages.proofs.EachLemmas.{each_join}
use Rattle.open_file.proofs.PartsLemmas.{from_eq}
use Rattle.file_building.specs.Written.{with_all_added, AreAccepted, comes_before, RecordsRise, HaveLengths, rows_with_stamps, rows_of}

-- ---- a row behind all others

-- a value below another is not above it
not_above : (x y : List ℕ) → is_lt (value_cmp x y) ≡ true → is_lt (value_cmp y x) ≡ false
not_above x y low =
    either (is_lt (value_cmp y x)) (is_lt (value_cmp y x) ≡ false)
    (λ high. let loop = below-trans x y x low high in absurd (not_itself x loop))
    (λ no. no)
  where
    not_itself : (v : List ℕ) → is_lt (value_cmp v v) ≡ true → ⊥
    not_itself v low = let differs = below_differs v v low in let same : bytes_eq v v ≡ true = (bytes_eq-Decides v v).1 refl in cc

-- the rows come before a record by their prime values
abbrev pub AllBefore : Schema → List Row → List ℕ → Type 0
AllBefore schema rows bytes = Each (λ row. comes_before schema row.bytes bytes ≡ true) rows

pub put_behind : (schema : Schema) (new : Row) (rows : List Row) → AllBefore schema rows new.bytes → inserted schema new rows ≡ rows ++ new ∷ []
put_behind schema new [] before = refl
put_behind schema new (row ∷ rows) before =
    let no = not_above (prime_of schema row.bytes) (prime_of schema new.bytes) before.0 in
    rw no (ap (λ (l : List Row). row ∷ l) (put_behind schema new rows before.1))

-- ---- records whose prime values rise, above those of the rows

pub record RiseAbove (schema : Schema) (rows : List Row) (records : List (List ℕ)) : Type 0 where
  pub above : Each (AllBefore schema rows) records
  pub rise : RecordsRise schema records

-- the first of them behind the rows
rise_on : (schema : Schema) (rows : List Row) (new : Row) (records : List (List ℕ)) → Each (AllBefore schema rows) records → Each (λ other. comes_before schema new.bytes other ≡ true) records
    → Each (AllBefore schema (rows ++ new ∷ [])) records
rise_on schema rows new [] above later = tt
rise_on schema rows new (bytes ∷ records) above later =
    (each_join (λ (row : Row). comes_before schema row.bytes bytes ≡ true) rows (new ∷ []) above.0 (later.0, tt), rise_on schema rows new records above.1 later.1)

next_rise : (schema : Schema) (rows : List Row) (stamp : ℕ) (bytes : List ℕ) (records : List (List ℕ)) → RiseAbove schema rows (bytes ∷ records) → RiseAbove schema (rows ++ new_row schema stamp bytes ∷ []) records
next_rise schema rows stamp bytes records r = record { above = rise_on schema rows (new_row schema stamp bytes) records r.above.1 r.rise.0; rise = r.rise.1 }

-- the file with the first of them
first_added : (schema : Schema) (rows : List Row) (stamp : ℕ) (bytes : List ℕ) (records : List (List ℕ)) → RiseAbove schema rows (bytes ∷ records)
    → added schema bytes (record { rows = rows; next_stamp = stamp }) ≡ record { rows = rows ++ new_row schema stamp bytes ∷ []; next_stamp = stamp + 1 }
first_added schema rows stamp bytes records r =
    ap (λ (l : List Row). record { rows = l; next_stamp = stamp + 1 }) (put_behind schema (new_row schema stamp bytes) rows r.above.0)

-- the file with all of them
all_added : (schema : Schema) (records : List (List ℕ)) (rows : List Row) (stamp : ℕ) → RiseAbove schema rows records
    → with_all_added schema records (record { rows = rows; next_stamp = stamp }) ≡ record { rows = rows ++ rows_with_stamps schema stamp records; next_stamp = stamp + length records }
all_added schema [] rows stamp r =
    ap (λ (l : List Row). record { rows = l; next_stamp = stamp }) (sym (append-nil rows))
    ∙ ap (λ (n : ℕ). record { rows = rows ++ []; next_stamp = n }) (omega arith)
all_added schema (bytes ∷ records) rows stamp r =
    let new = new_row schema stamp bytes in
    let rest = rows_with_stamps schema (stamp + 1) records in
    ap (with_all_added schema records) (first_added schema rows stamp bytes records r)
    ∙ all_added schema records (rows ++ new ∷ []) (stamp + 1) (next_rise schema rows stamp bytes records r)
    ∙ ap (λ (l : List Row). record { rows = l; next_stamp = stamp + 1 + length records }) (append_assoc rows (new ∷ []) rest)
    ∙ ap (λ (n : ℕ). record { rows = rows ++ new ∷ rest; next_stamp = n }) (omega arith)

none_above : (schema : Schema) (records : List (List ℕ)) → Each (AllBefore schema []) records
none_above schema [] = tt
none_above schema (bytes ∷ records) = (tt, none_above schema records)

rise_alone : (schema : Schema) (records : List (List ℕ)) → RecordsRise schema records → RiseAbove schema [] records
rise_alone schema records rise = record { above = none_above schema records; rise = rise }

-- what records whose prime values rise make of a file without rows
pub file_of : (schema : Schema) (records : List (List ℕ)) → RecordsRise schema records
    → with_all_added schema records empty_file ≡ record { rows = rows_of schema records; next_stamp = length records + 1 }
file_of schema records rise =
    all_added schema records [] 1 (rise_alone schema records rise)
    ∙ ap (λ (n : ℕ). record { rows = rows_of schema records; next_stamp = n }) (omega arith)

-- ---- what is accepted is a file

accepted_on : (schema : Schema) (records : List (List ℕ)) (file : File) → IsSchema schema → is_file schema file ≡ true → HaveLengths schema records → AreAccepted schema records file
    → is_file schema (with_all_added schema records file) ≡ true
accepted_on schema [] file is sound long accepted = sound
accepted_on schema (bytes ∷ records) file is sound long accepted =
    accepted_on schema records (added schema bytes file) is (added_is_file schema bytes file is sound long.0 accepted.0) long.1 accepted.1

pub accepted_is_file : (schema : Schema) (records : List (List ℕ)) → IsSchema schema → HaveLengths schema records → AreAccepted schema records empty_file
    → is_file schema (with_all_added schema records empty_file) ≡ true
accepted_is_file schema records is long accepted = accepted_on schema records empty_file is refl long accepted

-- ---- what is a file was accepted

-- rows that are apart are unlike in each key
unlike_in : (a b : List ℕ) (keys : List KeyPart) (s t : List ℕ) → length keys ≤ length s → length keys ≤ length t → list_all (are_apart_in a b) (zip keys (zip s t)) ≡ true
    → list_all (is_unlike a b) keys ≡ true
unlike_in a b [] s t ls lt apart = refl
unlike_in a b (part ∷ keys) [] t ls lt apart = absurd (omega (arith, ls))
unlike_in a b (part ∷ keys) (x ∷ s) [] ls lt apart = absurd (omega (arith, lt))
unlike_in a b (part ∷ keys) (x ∷ s) (y ∷ t) ls lt apart =
    let parts = and_parts (are_apart_in a b (part, (x, y))) (list_all (are_apart_in a b) (zip keys (zip s t))) apart in
    and_from _ _ (one parts.0) (unlike_in a b keys s t (omega (arith, ls)) (omega (arith, lt)) parts.1)
  where
    one : are_apart_in a b (part, (x, y)) ≡ true → is_unlike a b part ≡ true
    one h =
        either (has_duplicates part) (is_unlike a b part ≡ true)
        (λ yes. or_left _ _ yes)
        (λ no. either (bytes_eq (part_of part a) (part_of part b)) (is_unlike a b part ≡ true)
        (λ same. let bad : (not true || (false && not (x == y))) ≡ true = rw (same, no) at h in absurd (cc))
        (λ differs. or_right _ _ (not_from_false _ differs)))

-- a record that is unlike a row, and does not clash with those behind it, does not clash with it
no_clash_in : (bytes : List ℕ) (row : Row) (rows : List Row) (keys : List KeyPart) → list_all (is_unlike row.bytes bytes) keys ≡ true → list_any (λ part. not (has_duplicates part) && is_there part bytes rows) keys ≡ false
    → list_any (λ part. not (has_duplicates part) && is_there part bytes (row ∷ rows)) keys ≡ false
no_clash_in bytes row rows [] unlike none = refl
no_clash_in bytes row rows (part ∷ keys) unlike none = grind (arith, common_steps, no_clash_in bytes row rows keys)

none_there : (bytes : List ℕ) (keys : List KeyPart) → list_any (λ part. not (has_duplicates part) && is_there part bytes []) keys ≡ false
none_there bytes [] = refl
none_there bytes (part ∷ keys) = grind (arith, common_steps, none_there bytes keys)

no_clash : (schema : Schema) (bytes : List ℕ) (rows : List Row) → list_all (λ row. are_unlike schema row.bytes bytes) rows ≡ true → clashes schema bytes rows ≡ false
no_clash schema bytes [] unlike = none_there bytes schema.keys
no_clash schema bytes (row ∷ rows) unlike =
    let parts = and_parts (are_unlike schema row.bytes bytes) (list_all (λ r. are_unlike schema r.bytes bytes) rows) unlike in
    no_clash_in bytes row rows schema.keys parts.0 (no_clash schema bytes rows parts.1)

all_at : {X : Type 0} (p : X → Bool) (xs : List X) (x : X) (ys : List X) → list_all p (xs ++ x ∷ ys) ≡ true → p x ≡ true
all_at p [] x ys all = (and_parts _ _ all).0
all_at p (z ∷ xs) x ys all = all_at p xs x ys (and_parts _ _ all).1

-- of rows of a file, those before another are unlike it
unlike_before : (schema : Schema) (next : ℕ) (rows : List Row) (new : Row) (more : List Row) → (length new.stamps + 1 == length schema.keys) ≡ true → are_rows schema next (rows ++ new ∷ more) ≡ true
    → list_all (λ row. are_unlike schema row.bytes new.bytes) rows ≡ true
unlike_before schema next [] new more many sound = refl
unlike_before schema next (row ∷ rows) new more many sound =
    let parts = rows_parts schema next row (rows ++ new ∷ more) sound in
    let here = from_eq _ _ (row_parts schema next row parts.0).1 in
    let there = from_eq _ _ many in
    let before = all_at (is_before schema row) rows new more parts.1 in
    let apart = (and_parts _ _ before).1 in
    and_from _ _ (unlike_in row.bytes new.bytes schema.keys (0 ∷ row.stamps) (0 ∷ new.stamps) (omega (arith, here)) (omega (arith, there)) apart)
    (unlike_before schema next rows new more many parts.2)

row_at : (schema : Schema) (next : ℕ) (rows : List Row) (new : Row) (more : List Row) → are_rows schema next (rows ++ new ∷ more) ≡ true → is_row schema next new ≡ true
row_at schema next [] new more sound = (rows_parts schema next new more sound).0
row_at schema next (row ∷ rows) new more sound = row_at schema next rows new more (rows_parts schema next row (rows ++ new ∷ more) sound).2

were_accepted : (schema : Schema) (next : ℕ) (records : List (List ℕ)) (rows : List Row) (stamp : ℕ) → RiseAbove schema rows records → are_rows schema next (rows ++ rows_with_stamps schema stamp records) ≡ true
    → AreAccepted schema records (record { rows = rows; next_stamp = stamp })
were_accepted schema next [] rows stamp r sound = tt
were_accepted schema next (bytes ∷ records) rows stamp r sound =
    let new = new_row schema stamp bytes in
    let more = rows_with_stamps schema (stamp + 1) records in
    let fit = row_at schema next rows new more sound in
    let unlike = unlike_before schema next rows new more (row_parts schema next new fit).1 sound in
    let behind : are_rows schema next ((rows ++ new ∷ []) ++ more) ≡ true = ap (are_rows schema next) (append_assoc rows (new ∷ []) more) ∙ sound in (
      no_clash schema bytes rows unlike,
      subst (AreAccepted schema records) (sym (first_added schema rows stamp bytes records r))
          (were_accepted schema next records (rows ++ new ∷ []) (stamp + 1) (next_rise schema rows stamp bytes records r) behind),
    )

pub file_was_accepted : (schema : Schema) (records : List (List ℕ)) (next : ℕ) → RecordsRise schema records → are_rows schema next (rows_of schema records) ≡ true → AreAccepted schema records empty_file
file_was_accepted schema records next rise sound = were_accepted schema next records [] 1 (rise_alone schema records rise) sound

-- ---- the rows of records

-- one more
pub rows_more : (schema : Schema) (stamp : ℕ) (records : List (List ℕ)) (bytes : List ℕ) → rows_with_stamps schema stamp (records ++ bytes ∷ []) ≡ rows_with_stamps schema stamp records ++ new_row schema (stamp + length records) bytes ∷ []
rows_more schema stamp [] bytes = ap (λ (n : ℕ). new_row schema n bytes ∷ []) (omega arith)
rows_more schema stamp (first ∷ records) bytes =
    let on : stamp + 1 + length records ≡ stamp + suc (length records) = omega arith in
    ap (λ (l : List Row). new_row schema stamp first ∷ l) (rows_more schema (stamp + 1) records bytes ∙ ap (λ (n : ℕ). rows_with_stamps schema (stamp + 1) records ++ new_row schema n bytes ∷ []) on)

-- each is one under the stamp behind all
pub each_is_row : (schema : Schema) (stamp : ℕ) (records : List (List ℕ)) (next : ℕ) → IsSchema schema → 1 ≤ stamp → HaveLengths schema records → stamp + length records ≤ next
    → Each (λ row. is_row schema next row ≡ true) (rows_with_stamps schema stamp records)
each_is_row schema stamp [] next is some long within = tt
each_is_row schema stamp (bytes ∷ records) next is some long within = (
  row_later schema (stamp + 1) next (new_row schema stamp bytes) (omega (arith, within)) (new_row_fits schema stamp bytes is.keys some long.0),
  each_is_row schema (stamp + 1) records next is (omega arith) long.1 (omega (arith, within)),
)
