-- The looks for the values that a record changes, one key after another.
use Rattle.std.proofs.Common.{◌≡◌, ℕ, ◌+◌, ◌==◌, ◌≤◌, ◌<◌, Bool, true, false, not, ◌&&◌, List, [], ◌∷◌, length, Some, refl, ap, sym, ◌∙◌}
use Rattle.std.proofs.Common.{arith}
use Rattle.std.specs.Prelude.{bytes_eq, find, if◌then◌else◌}
use Rattle.std.specs.List.{list_any}
use Rattle.std.proofs.Math.Bool.{or-true}
use Rattle.std.proofs.lemmas.Bool.{eq-eqb, and_from, and_right}
use Rattle.std.proofs.lemmas.Grind.{common_steps}
use Rattle.record_layout.specs.declared.schema.KeyPart.{KeyPart}
use Rattle.record_layout.specs.Schema.{Schema, AreKeys, key_at, value_of, prime_of, has_duplicates, no_key}
use Rattle.indexed_file.specs.File.{Row, File, stamp_of}
use Rattle.indexed_file.specs.Rank.{has_value}
use Rattle.indexed_file.specs.Change.{is_there, is_changed, others_in, repeats_changed}
use Rattle.indexed_file.specs.Sound.{is_row, are_rows}
use Rattle.indexed_file.specs.Answers.{replaced_answer_at}
use Rattle.indexed_file.specs.declared.answer.Replaced.TheVariants.{Done, Clash}
use Rattle.pages.specs.Each.{Each}
use Rattle.file_changes.specs.Replacing.{new_there}
use Rattle.open_file.proofs.OrderLemmas.{either}
use Rattle.open_file.proofs.PartsLemmas.{each_map, each_both}
use Rattle.open_file.proofs.LookLemmas.{HasLooked, look_start, look_on, look_found, look_none, look_told}
use Rattle.file_changes.proofs.OneRowLemmas.{one_of_rank, only_one}
use Rattle.open_file.proofs.FirstLemmas.{same_bytes}
use Rattle.open_file.proofs.RowLemmas.{each_row, stamp_zero}
use Rattle.file_changes.proofs.RankLemmas.{same_rank}

-- the record's value of a unique key is that of another row
abbrev pub clashes_at : Schema → List ℕ → List Row → KeyPart → Bool
clashes_at schema bytes rows part = not (has_duplicates part) && is_there part bytes (others_in schema (prime_of schema bytes) rows)

-- the changed value of a key of duplicates is that of another row
abbrev pub repeats_at : Schema → List ℕ → List ℕ → List Row → KeyPart → Bool
repeats_at schema old bytes rows part = is_changed old bytes part && is_there part bytes (others_in schema (prime_of schema bytes) rows)

-- the keys before k do not clash, and tell whether a value is repeated
abbrev pub SeenOn : Schema → List ℕ → List ℕ → List Row → ℕ → Bool → Type 0
SeenOn schema old bytes rows k repeated =
    HasLooked (clashes_at schema bytes rows) (repeats_at schema old bytes rows) schema.keys k repeated

-- where the row of the prime value does not have a value of key k, it is there if another row has it
there_beside : (schema : Schema) (k : ℕ) (prime bytes : List ℕ) (rows : List Row) → Each (λ row. has_value schema 0 prime row ≡ true → has_value schema k (value_of schema k bytes) row ≡ false) rows
    → is_there (key_at schema k) bytes rows ≡ is_there (key_at schema k) bytes (others_in schema prime rows)
there_beside schema k prime bytes [] h = refl
there_beside schema k prime bytes (row ∷ rows) h =
    grind (arith, common_steps, h.0, there_beside schema k prime bytes rows h.1)

-- where only that row has it, none of the others does
none_beside : (schema : Schema) (k : ℕ) (prime bytes : List ℕ) (rows : List Row) → Each (λ row. has_value schema 0 prime row ≡ false → has_value schema k (value_of schema k bytes) row ≡ false) rows
    → is_there (key_at schema k) bytes (others_in schema prime rows) ≡ false
none_beside schema k prime bytes [] h = refl
none_beside schema k prime bytes (row ∷ rows) h =
    grind (arith, common_steps, h.0, none_beside schema k prime bytes rows h.1)

-- rows of other ranks have other values in a unique key
other_value : (v w : Bool) (s t : ℕ) → s ≡ 0 → t ≡ 0 → (v && (s == t)) ≡ w → w ≡ false → v ≡ false
other_value true w s t e f h none = absurd (let same : true ≡ false = sym (eq-eqb s t (e ∙ sym f)) ∙ h ∙ none in cc)
other_value false w s t e f h none = refl

unique_beside : (schema : Schema) (next k : ℕ) (prime bytes : List ℕ) (old : Row) (rows : List Row) → k < length schema.keys → has_duplicates (key_at schema k) ≡ false → are_rows schema next rows ≡ true
    → is_row schema next old ≡ true → find (has_value schema 0 prime) rows ≡ Some old → bytes_eq (value_of schema k old.bytes) (value_of schema k bytes) ≡ true
    → is_there (key_at schema k) bytes (others_in schema prime rows) ≡ false
unique_beside schema next k prime bytes old rows lt one sound fit found stays =
    let same : value_of schema k old.bytes ≡ value_of schema k bytes = same_bytes (value_of schema k old.bytes) (value_of schema k bytes) stays in
    let zero_old = stamp_zero schema next k old fit lt one in
    none_beside schema k prime bytes rows
    (each_both (λ row. is_row schema next row ≡ true) (λ row. same_rank schema k row old ≡ has_value schema 0 prime row) (λ row. has_value schema 0 prime row ≡ false → has_value schema k (value_of schema k bytes) row ≡ false)
    (λ row fits rank none. rw same at (other_value (bytes_eq (value_of schema k row.bytes) (value_of schema k old.bytes)) (has_value schema 0 prime row) (stamp_of k row) (stamp_of k old) (stamp_zero schema next k row fits lt one) zero_old rank none))
    rows (each_row schema next rows sound) (one_of_rank schema next k prime old rows lt sound found))

-- what is told of a key is what the definitions say of it
pub record IsTold (schema : Schema) (old bytes : List ℕ) (rows : List Row) (k : ℕ) : Type 0 where
  pub clash : clashes_at schema bytes rows (key_at schema k) ≡ (not (has_duplicates (key_at schema k)) && new_there schema old bytes rows k)
  pub repeat : repeats_at schema old bytes rows (key_at schema k) ≡ (has_duplicates (key_at schema k) && new_there schema old bytes rows k)

pub is_told : (schema : Schema) (next k : ℕ) (bytes : List ℕ) (old : Row) (rows : List Row) → k < length schema.keys → are_rows schema next rows ≡ true → is_row schema next old ≡ true
    → find (has_value schema 0 (prime_of schema bytes)) rows ≡ Some old → IsTold schema old.bytes bytes rows k
is_told schema next k bytes old rows lt sound fit found =
    let prime = prime_of schema bytes in
    let part = key_at schema k in
    let others = others_in schema prime rows in
    either (bytes_eq (value_of schema k old.bytes) (value_of schema k bytes)) (IsTold schema old.bytes bytes rows k)
    (λ stays.
    record {
      clash = either (has_duplicates part) (clashes_at schema bytes rows part ≡ (not (has_duplicates part) && new_there schema old.bytes bytes rows k))
          (λ many. rw many refl)
          (λ one. rw (one, stays) (unique_beside schema next k prime bytes old rows lt one sound fit found stays));
      repeat = rw stays (never (has_duplicates part) (is_there part bytes others) (is_there part bytes rows));
    })
    (λ moves.
    let same = there_beside schema k prime bytes rows
    (each_map (λ row. has_value schema 0 prime row ≡ true → row ≡ old) (λ row. has_value schema 0 prime row ≡ true → has_value schema k (value_of schema k bytes) row ≡ false)
    (λ row is has. ap (λ (r : Row). has_value schema k (value_of schema k bytes) r) (is has) ∙ moves) rows (only_one schema next prime old rows sound found)) in
    record {
      clash = rw moves (ap (λ b. not (has_duplicates part) && b) (sym same));
      repeat = rw moves (both (has_duplicates part) (is_there part bytes others) (is_there part bytes rows) (sym same));
    })
  where
    never : (d a b : Bool) → ((d && false) && a) ≡ (d && (false && b))
    never d a b = grind (arith, common_steps)

    both : (d a b : Bool) → a ≡ b → ((d && true) && a) ≡ (d && (true && b))
    both d a b e = grind (arith, common_steps)

-- ---- one key after another

-- the value stays, or is not there
pub seen_none : (schema : Schema) (old bytes : List ℕ) (rows : List Row) (k : ℕ) (repeated : Bool) → k < length schema.keys
    → IsTold schema old bytes rows k → new_there schema old bytes rows k ≡ false
    → SeenOn schema old bytes rows k repeated → SeenOn schema old bytes rows (k + 1) repeated
seen_none schema old bytes rows k repeated lt told none =
    look_on (clashes_at schema bytes rows) (repeats_at schema old bytes rows) schema.keys no_key k false repeated repeated lt
    (told.clash ∙ and_right _ _ none) (told.repeat ∙ and_right _ _ none) (λ b. refl)

-- it is there, in a key of duplicates
pub seen_repeated : (schema : Schema) (old bytes : List ℕ) (rows : List Row) (k : ℕ) (repeated : Bool) → k < length schema.keys
    → IsTold schema old bytes rows k → new_there schema old bytes rows k ≡ true → has_duplicates (key_at schema k) ≡ true
    → SeenOn schema old bytes rows k repeated → SeenOn schema old bytes rows (k + 1) true
seen_repeated schema old bytes rows k repeated lt told there many =
    look_on (clashes_at schema bytes rows) (repeats_at schema old bytes rows) schema.keys no_key k true repeated true lt
    (told.clash ∙ ap (λ b. not b && new_there schema old bytes rows k) many) (told.repeat ∙ and_from _ _ many there) (λ b. or-true repeated)

-- it is there, in a unique key
pub seen_clash : (schema : Schema) (old bytes : List ℕ) (rows : List Row) (k : ℕ) (repeated : Bool) → k < length schema.keys
    → IsTold schema old bytes rows k → new_there schema old bytes rows k ≡ true → has_duplicates (key_at schema k) ≡ false
    → SeenOn schema old bytes rows k repeated → list_any (clashes_at schema bytes rows) schema.keys ≡ true
seen_clash schema old bytes rows k repeated lt told there one =
    look_found (clashes_at schema bytes rows) (repeats_at schema old bytes rows) schema.keys no_key k repeated lt
    (told.clash ∙ and_from _ _ (ap not one) there)

-- the prime key needs no look
pub seen_start : (schema : Schema) (next : ℕ) (bytes : List ℕ) (old : Row) (rows : List Row) → 0 < length schema.keys → AreKeys schema.keys → are_rows schema next rows ≡ true → is_row schema next old ≡ true
    → find (has_value schema 0 (prime_of schema bytes)) rows ≡ Some old → bytes_eq (value_of schema 0 old.bytes) (value_of schema 0 bytes) ≡ true → SeenOn schema old.bytes bytes rows 1 false
seen_start schema next bytes old rows lt are sound fit found stays =
    seen_none schema old.bytes bytes rows 0 false lt (is_told schema next 0 bytes old rows lt sound fit found) (ap (λ b. not b && is_there (key_at schema 0) bytes rows) stays)
    (look_start (clashes_at schema bytes rows) (repeats_at schema old.bytes bytes rows) schema.keys)

-- all keys were looked at
pub all_seen : (schema : Schema) (bytes : List ℕ) (file : File) (old : Row) (k : ℕ) (repeated : Bool) → length schema.keys ≤ k → SeenOn schema old.bytes bytes file.rows k repeated
    → Done repeated ≡ replaced_answer_at schema bytes file (Some old)
all_seen schema bytes file old k repeated all on =
    let clash = clashes_at schema bytes file.rows in
    let repeat = repeats_at schema old.bytes bytes file.rows in
    ap Done (look_told clash repeat schema.keys k repeated all on)
    ∙ ap (λ b. if b then Clash else Done (repeats_changed schema bytes old file))
    (sym (look_none clash repeat schema.keys k repeated all on))

pub clash_seen : (schema : Schema) (bytes : List ℕ) (file : File) (old : Row) → list_any (clashes_at schema bytes file.rows) schema.keys ≡ true → Clash ≡ replaced_answer_at schema bytes file (Some old)
clash_seen schema bytes file old clash = ap (λ b. if b then Clash else Done (repeats_changed schema bytes old file)) (sym clash)

pub was_false : (b : Bool) → not b ≡ true → b ≡ false
was_false b h = grind (arith, common_steps)

pub was_true : (b : Bool) → not b ≡ false → b ≡ true
was_true b h = grind (arith, common_steps)
