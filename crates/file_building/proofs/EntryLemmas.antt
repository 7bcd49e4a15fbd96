-- The entries that an alternate key has of records, by their fronts.
use Rattle.std.proofs.Common.{◌≡◌, ℕ, zero, suc, ◌+◌, ◌-◌, ◌*◌, ◌/◌, ◌≤◌, ◌<◌, true, List, [], ◌∷◌, ◌++◌, length, take, drop, map, refl, ap, sym, subst, ◌∙◌, arith, length-drop, length-append}
use Rattle.std.specs.Prelude.{slice_index_or, slice_range, if◌then◌else◌}
use Rattle.std.proofs.lemmas.List.{drop-take, take-take, get_or-map, length-map, map-append, take_all, length-take-le}
use Rattle.std.proofs.lemmas.List.Elements.{All-get_or}
use Rattle.std.proofs.Math.Nat.{mul-div_cancel, div-mul-le_self}
use Rattle.std.proofs.Math.Seq.{take-suc}
use Rattle.record_layout.specs.declared.schema.KeyPart.{KeyPart}
use Rattle.record_layout.specs.Schema.{Schema, IsSchema, IsKey, key_at, part_of, value_of, has_duplicates, no_key}
use Rattle.indexed_file.specs.File.{stamp_of}
use Rattle.indexed_file.specs.Change.{new_row}
use Rattle.pages.specs.Chunks.{chunks}
use Rattle.pages.proofs.ChunkLemmas.{chunks-add, chunks_joined, length-chunks}
use Rattle.key_index.specs.declared.entry.AltEntry.{AltEntry}
use Rattle.open_file.specs.InOrder.{alt_entry}
use Rattle.open_file.proofs.RowLemmas.{behind_first}
use Rattle.file_building.specs.Written.{rows_with_stamps}
use Rattle.pages.specs.Each.{Each}
use Rattle.file_building.specs.Alternates.{FitIndex}
use Rattle.file_building.specs.declared.ranked.Ranked.{Ranked}
use Rattle.file_building.specs.Ranks.{RanksRise, is_lower}
use Rattle.file_building.proofs.RankLemmas.{rises_more}
use Rattle.file_building.specs.Entries.{stamp_of_key, entry_of_new, entry_in, ranked_entries, entries_from, AreFronts}

-- ---- a value in the front of a record

part_in_front : (part : KeyPart) (n : ℕ) (bytes : List ℕ) → part.offset + part.length ≤ n → part_of part (take n bytes) ≡ part_of part bytes
part_in_front part n bytes within =
    let m : ℕ = n - part.offset in
    let sum : part.offset + m ≡ n = omega (arith, within) in
    ap (λ (k : ℕ). take part.length (drop part.offset (take k bytes))) (sym sum)
    ∙ ap (take part.length) (drop-take part.offset m bytes)
    ∙ take-take part.length m (drop part.offset bytes) (omega (arith, within))

pub key_whole : (schema : Schema) (k : ℕ) → IsSchema schema → k < length schema.keys → IsKey schema.least (key_at schema k)
key_whole schema k is within = All-get_or (IsKey schema.least) schema.keys k no_key within is.whole

pub value_in_front : (schema : Schema) (k : ℕ) (bytes : List ℕ) → IsSchema schema → k < length schema.keys → value_of schema k (take schema.least bytes) ≡ value_of schema k bytes
value_in_front schema k bytes is within = part_in_front (key_at schema k) schema.least bytes (key_whole schema k is within).within

-- ---- the stamp of a new row

stamp_of_new : (schema : Schema) (stamp j : ℕ) (bytes : List ℕ) → suc j < length schema.keys → stamp_of (suc j) (new_row schema stamp bytes) ≡ stamp_of_key schema (suc j) stamp
stamp_of_new schema stamp j bytes within =
    let d : KeyPart = no_key in
    let of = λ (part : KeyPart). if has_duplicates part then stamp else 0 in
    get_or-map of (drop 1 schema.keys) j d 0 (omega (arith, within, length-drop 1 schema.keys)) ∙ ap of (behind_first schema.keys j d)

-- ---- the entries of rows

pub entry_is : (schema : Schema) (stamp j : ℕ) (bytes : List ℕ) → IsSchema schema → suc j < length schema.keys
    → entry_of_new schema (suc j) stamp (take schema.least bytes) ≡ alt_entry schema (suc j) (new_row schema stamp bytes)
entry_is schema stamp j bytes is within =
    let value = value_in_front schema (suc j) bytes is within in
    let prime = value_in_front schema 0 bytes is (omega (arith, within)) in
    let number = stamp_of_new schema stamp j bytes within in
    λ i. record { value = record { items = value i }; stamp = sym number i; prime = record { items = prime i } }

pub entries_are : (schema : Schema) (stamp j : ℕ) (records : List (List ℕ)) → IsSchema schema → suc j < length schema.keys
    → entries_from schema (suc j) stamp (map (take schema.least) records) ≡ map (alt_entry schema (suc j)) (rows_with_stamps schema stamp records)
entries_are schema stamp j [] is within = refl
entries_are schema stamp j (bytes ∷ records) is within =
    let first = entry_is schema stamp j bytes is within in
    let rest = entries_are schema (stamp + 1) j records is within in
    λ i. first i ∷ rest i

-- one more
pub entries_more : (schema : Schema) (k stamp : ℕ) (records : List (List ℕ)) (bytes : List ℕ)
    → entries_from schema k stamp (records ++ bytes ∷ []) ≡ entries_from schema k stamp records ++ entry_of_new schema k (stamp + length records) bytes ∷ []
entries_more schema k stamp [] bytes = ap (λ (n : ℕ). entry_of_new schema k n bytes ∷ []) (omega arith)
entries_more schema k stamp (first ∷ records) bytes =
    let on : stamp + 1 + length records ≡ stamp + suc (length records) = omega arith in
    ap (λ (l : List AltEntry). entry_of_new schema k stamp first ∷ l)
    (entries_more schema k (stamp + 1) records bytes ∙ ap (λ (n : ℕ). entries_from schema k (stamp + 1) records ++ entry_of_new schema k n bytes ∷ []) on)

-- ---- fronts

-- the next chunk
pub chunk_more : (size i : ℕ) (bytes : List ℕ) → chunks size (i + 1) bytes ≡ chunks size i bytes ++ take size (drop (i * size) bytes) ∷ []
unfolding chunks
chunk_more size i bytes = chunks-add size i 1 bytes

pub no_chunks : (size : ℕ) (bytes : List ℕ) → chunks size 0 bytes ≡ []
unfolding chunks
no_chunks size bytes = refl

pub no_fronts : (schema : Schema) → AreFronts schema [] []
no_fronts schema = record { long = omega arith; are = no_chunks schema.least [] }

one_chunk : (size : ℕ) (bytes : List ℕ) → chunks size 1 (take size bytes) ≡ take size bytes ∷ []
unfolding chunks
one_chunk size bytes = ap (λ (l : List ℕ). l ∷ []) (take-take size size bytes (omega arith))

map_more : (n : ℕ) (records : List (List ℕ)) (bytes : List ℕ) → map (take n) (records ++ bytes ∷ []) ≡ map (take n) records ++ take n bytes ∷ []
map_more n [] bytes = refl
map_more n (first ∷ records) bytes = ap (λ (l : List (List ℕ)). take n first ∷ l) (map_more n records bytes)

-- the front of one more record
pub front_more : (schema : Schema) (records : List (List ℕ)) (fronts bytes : List ℕ) → AreFronts schema records fronts → length (take schema.least bytes) ≡ schema.least
    → AreFronts schema (records ++ bytes ∷ []) (fronts ++ take schema.least bytes)
front_more schema records fronts bytes f long =
    let more : length (records ++ bytes ∷ []) ≡ length records + 1 = length-append records (bytes ∷ []) in
    record {
      long = length-append fronts (take schema.least bytes) ∙ omega (arith, f.long, long, more, times (length records) schema.least) ∙ ap (λ (n : ℕ). n * schema.least) (sym more);
      are = ap (λ (n : ℕ). chunks schema.least n (fronts ++ take schema.least bytes)) more
          ∙ chunks_joined schema.least (length records) 1 fronts (take schema.least bytes) f.long
          ∙ ap (λ (l : List (List ℕ)). l ++ chunks schema.least 1 (take schema.least bytes)) f.are
          ∙ ap (λ (l : List (List ℕ)). map (take schema.least) records ++ l) (one_chunk schema.least bytes)
          ∙ sym (map_more schema.least records bytes);
    }
  where
    times : (n size : ℕ) → (n + 1) * size ≡ n * size + size
    times n size = omega arith

-- the fronts of as many records as there are, as entries
pub fronts_entries : (schema : Schema) (j : ℕ) (records : List (List ℕ)) (fronts : List ℕ) → IsSchema schema → suc j < length schema.keys → AreFronts schema records fronts
    → entries_from schema (suc j) 1 (chunks schema.least (length fronts / schema.least) fronts) ≡ map (alt_entry schema (suc j)) (rows_with_stamps schema 1 records)
fronts_entries schema j records fronts is within f =
    let count : length fronts / schema.least ≡ length records = ap (λ (n : ℕ). n / schema.least) f.long ∙ mul-div_cancel (length records) is.some in
    ap (λ (n : ℕ). entries_from schema (suc j) 1 (chunks schema.least n fronts)) count
    ∙ ap (entries_from schema (suc j) 1) f.are
    ∙ entries_are schema 1 j records is within

-- ---- entries as they are found

-- one entry more of them
pub next_entry : (xs : List Ranked) (i : ℕ) (d : Ranked) (e : AltEntry) → i < length xs → e ≡ entry_in (slice_index_or xs i d) → take i (ranked_entries xs) ++ e ∷ [] ≡ take (i + 1) (ranked_entries xs)
next_entry xs i d e within is =
    let long : i < length (ranked_entries xs) = omega (arith, within, length-map xs entry_in) in
    let next : suc i ≡ i + 1 = omega arith in
    sym (ap (λ (n : ℕ). take n (ranked_entries xs)) (sym next)
    ∙ take-suc (ranked_entries xs) i (entry_in d) long
    ∙ ap (λ (v : AltEntry). take i (ranked_entries xs) ++ v ∷ []) (get_or-map entry_in xs i d (entry_in d) within ∙ sym is))

pub all_entries : (xs : List Ranked) (i : ℕ) → length xs ≤ i → take i (ranked_entries xs) ≡ ranked_entries xs
all_entries xs i within = take_all i (ranked_entries xs) (omega (arith, within, length-map xs entry_in))

-- neighbours of rising entries
low_at : (xs : List Ranked) (j : ℕ) (d e : Ranked) → suc j < length xs → RanksRise (ranked_entries xs) → is_lower (entry_in (slice_index_or xs j d)) (entry_in (slice_index_or xs (suc j) e)) ≡ true
low_at [] j d e within rise = absurd (omega (arith, within))
low_at (x ∷ []) j d e within rise = absurd (omega (arith, within))
low_at (x ∷ y ∷ xs) zero d e within rise = rise.0.0
low_at (x ∷ y ∷ xs) (suc j) d e within rise = low_at (y ∷ xs) j d e (omega (arith, within)) rise.1

pub neighbours_low : (xs : List Ranked) (i : ℕ) (d e : Ranked) → 1 ≤ i → i < length xs → RanksRise (ranked_entries xs) → is_lower (entry_in (slice_index_or xs (i - 1) d)) (entry_in (slice_index_or xs i e)) ≡ true
neighbours_low xs i d e some within rise =
    let same : suc (i - 1) ≡ i = omega (arith, some) in
    subst (λ (n : ℕ). is_lower (entry_in (slice_index_or xs (i - 1) d)) (entry_in (slice_index_or xs n e)) ≡ true) same (low_at xs (i - 1) d e (omega (arith, some, within)) rise)

pub rise_on : (xs : List Ranked) (i : ℕ) (d e : Ranked) → 1 ≤ i → i < length xs → RanksRise (take i (ranked_entries xs)) → is_lower (entry_in (slice_index_or xs (i - 1) d)) (entry_in (slice_index_or xs i e)) ≡ true
    → RanksRise (take (i + 1) (ranked_entries xs))
rise_on xs i d e some within rise low =
    let y = entry_in (slice_index_or xs (i - 1) d) in
    let z = entry_in (slice_index_or xs i e) in
    let front = take (i - 1) (ranked_entries xs) in
    let same : i - 1 + 1 ≡ i = omega (arith, some) in
    let first : front ++ y ∷ [] ≡ take i (ranked_entries xs) = next_entry xs (i - 1) d y (omega (arith, some, within)) refl ∙ ap (λ (n : ℕ). take n (ranked_entries xs)) same in
    let both : (front ++ y ∷ []) ++ z ∷ [] ≡ take (i + 1) (ranked_entries xs) = ap (λ (l : List AltEntry). l ++ z ∷ []) first ∙ next_entry xs i e z within refl in
    subst RanksRise both (rises_more front y z (subst RanksRise (sym first) rise) low)

-- the entry of the next front
pub entry_more : (schema : Schema) (k i r : ℕ) (fronts : List ℕ) (old : List Ranked) (e : Ranked) → r ≡ schema.least → entry_in e ≡ entry_of_new schema k (i + 1) (slice_range fronts (i * r) ((i + 1) * r))
    → ranked_entries old ≡ entries_from schema k 1 (chunks schema.least i fronts) → ranked_entries (old ++ e ∷ []) ≡ entries_from schema k 1 (chunks schema.least (i + 1) fronts)
entry_more schema k i r fronts old e size is had =
    let before = chunks schema.least i fronts in
    let front = take schema.least (drop (i * schema.least) fronts) in
    let long : (i + 1) * r - i * r ≡ schema.least = omega (arith, size) in
    let cut : slice_range fronts (i * r) ((i + 1) * r) ≡ front = ap (λ (n : ℕ). take n (drop (i * r) fronts)) long ∙ ap (λ (n : ℕ). take schema.least (drop (i * n) fronts)) size in
    let number : 1 + length before ≡ i + 1 = omega (arith, length-chunks schema.least i fronts) in
    map-append entry_in old (e ∷ [])
    ∙ ap (λ (l : List AltEntry). l ++ entry_in e ∷ []) had
    ∙ ap (λ (v : AltEntry). entries_from schema k 1 before ++ v ∷ []) (is ∙ ap (entry_of_new schema k (i + 1)) cut ∙ ap (λ (n : ℕ). entry_of_new schema k n front) (sym number))
    ∙ sym (entries_more schema k 1 before front)
    ∙ ap (entries_from schema k 1) (sym (chunk_more schema.least i fronts))

-- ---- the lengths of entries

pub fit_at : (w p : ℕ) (xs : List Ranked) (i : ℕ) (d : Ranked) → i < length xs → FitIndex w p (ranked_entries xs) → (length (slice_index_or xs i d).value.now ≡ w) × (length (slice_index_or xs i d).prime.now ≡ p)
fit_at w p [] i d within fit = absurd (omega (arith, within))
fit_at w p (x ∷ xs) zero d within fit = fit.0
fit_at w p (x ∷ xs) (suc i) d within fit = fit_at w p xs i d (omega (arith, within)) fit.1

chunks_long : (size n : ℕ) (bytes : List ℕ) → n * size ≤ length bytes → Each (λ c. length c ≡ size) (chunks size n bytes)
unfolding chunks
chunks_long size zero bytes within = tt
chunks_long size (suc n) bytes within =
    let sum : suc n * size ≡ n * size + size = omega arith in
    (length-take-le size bytes (omega (arith, within, sum)), chunks_long size n (drop size bytes) (omega (arith, within, sum, length-drop size bytes)))

value_long : (schema : Schema) (k : ℕ) (bytes : List ℕ) → IsSchema schema → k < length schema.keys → length bytes ≡ schema.least → length (value_of schema k bytes) ≡ (key_at schema k).length
value_long schema k bytes is within long =
    let part = key_at schema k in
    let whole = (key_whole schema k is within).within in
    length-take-le part.length (drop part.offset bytes) (omega (arith, whole, long, length-drop part.offset bytes))

fits_from : (schema : Schema) (k stamp : ℕ) (fronts : List (List ℕ)) → IsSchema schema → k < length schema.keys → Each (λ c. length c ≡ schema.least) fronts
    → FitIndex (key_at schema k).length (key_at schema 0).length (entries_from schema k stamp fronts)
fits_from schema k stamp [] is within long = tt
fits_from schema k stamp (front ∷ fronts) is within long =
    ((value_long schema k front is within long.0, value_long schema 0 front is (omega (arith, within)) long.0), fits_from schema k (stamp + 1) fronts is within long.1)

pub entries_fit : (schema : Schema) (k : ℕ) (fronts : List ℕ) → IsSchema schema → k < length schema.keys
    → FitIndex (key_at schema k).length (key_at schema 0).length (entries_from schema k 1 (chunks schema.least (length fronts / schema.least) fronts))
entries_fit schema k fronts is within =
    fits_from schema k 1 (chunks schema.least (length fronts / schema.least) fronts) is within (chunks_long schema.least (length fronts / schema.least) fronts (div-mul-le_self (length fronts) schema.least))
