-- What a change of a record changes, key by key.
use Rattle.std.proofs.Common.{◌≡◌, ℕ, zero, suc, ◌+◌, ◌≤◌, ◌<◌, Bool, true, false, not, ◌&&◌, List, [], ◌∷◌, ◌++◌, length, drop, map, refl}
use Rattle.std.proofs.Common.{ap, sym, ◌∙◌, arith, append_assoc, length-append, length-drop}
use Rattle.std.specs.Prelude.{slice_index, slice_index_or, zip, if◌then◌else◌}
use Rattle.std.proofs.lemmas.Grind.{common_steps}
use Rattle.std.proofs.lemmas.List.{append-nil, get_or-map}
use Rattle.byteorder.specs.Endian.{big_bytes}
use Rattle.record_layout.specs.declared.schema.KeyPart.{KeyPart}
use Rattle.record_layout.specs.Schema.{Schema, key_at, has_duplicates, no_key}
use Rattle.indexed_file.specs.Change.{is_changed}
use Rattle.indexed_file.specs.Room.{need_of_changed}
use Rattle.key_index.specs.declared.alt_index.AltIndex.{AltIndex}
use Rattle.key_index.specs.Standing.{alt_height}
use Rattle.open_file.specs.Stored.{stamp_bytes, stamps_length}
use Rattle.file_changes.specs.Replacing.{stays, stamp_after}
use Rattle.open_file.proofs.LookLemmas.{dropped, all_dropped}
use Rattle.open_file.proofs.RowLemmas.{behind_first}
use Rattle.open_file.proofs.StampedLemmas.{few_stamps}

-- ---- the pages that are needed

-- the need of the indexes from j on
abbrev pub need_from : Schema → List ℕ → List ℕ → List AltIndex → ℕ → ℕ
need_from schema old new indexes j = need_of_changed (drop (j + 1) schema.keys) old new (map alt_height (drop j indexes))

-- the need of one
abbrev pub need_at : Schema → List ℕ → List ℕ → ℕ → AltIndex → ℕ
need_at schema old new j index = if stays schema old new j then 0 else alt_height index + 1

indexes_dropped : (indexes : List AltIndex) (j : ℕ) (index : AltIndex) → j < length indexes → index ≡ slice_index_or indexes j index → drop j indexes ≡ index ∷ drop (j + 1) indexes
indexes_dropped indexes j index lt is = dropped indexes index j lt ∙ ap (λ (i : AltIndex). i ∷ drop (j + 1) indexes) (sym is)

pub need_step : (schema : Schema) (old new : List ℕ) (indexes : List AltIndex) (j : ℕ) (index : AltIndex) → length schema.keys ≡ length indexes + 1 → j < length indexes → index ≡ slice_index_or indexes j index
    → need_from schema old new indexes j ≡ need_at schema old new j index + need_from schema old new indexes (j + 1)
need_step schema old new indexes j index many lt is =
    let d : KeyPart = no_key in
    let key : j + 1 < length schema.keys = omega (arith, lt, many) in
    ap (λ ks. need_of_changed ks old new (map alt_height (drop j indexes))) (dropped schema.keys d (j + 1) key)
    ∙ ap (λ (is : List AltIndex). need_of_changed (key_at schema (j + 1) ∷ drop (j + 1 + 1) schema.keys) old new (map alt_height is)) (indexes_dropped indexes j index lt is)

-- ---- the stamps and the record

-- the stamps of the keys up to j are written
pub record AreWritten (keys : List KeyPart) (stamps : List ℕ) (j : ℕ) (written : List ℕ) : Type 0 where
  pub bytes : written ++ stamp_bytes (drop (j + 1) keys) (drop j stamps) ≡ stamp_bytes (drop 1 keys) stamps
  pub long : length written + stamps_length (drop (j + 1) keys) ≡ stamps_length (drop 1 keys)

pub write_start : (keys : List KeyPart) (stamps : List ℕ) → AreWritten keys stamps 0 []
write_start keys stamps = record { bytes = refl; long = omega arith }

index_dropped : (stamps : List ℕ) (j : ℕ) → j < length stamps → drop j stamps ≡ slice_index stamps j ∷ drop (j + 1) stamps
index_dropped stamps j lt = dropped stamps 0 j lt

bytes_dropped : (keys : List KeyPart) (d : KeyPart) (stamps : List ℕ) (j : ℕ) → j + 1 < length keys → j < length stamps →
    stamp_bytes (drop (j + 1) keys) (drop j stamps)
    ≡ (if has_duplicates (slice_index_or keys (j + 1) d) then big_bytes 8 (slice_index stamps j) ++ stamp_bytes (drop (j + 1 + 1) keys) (drop (j + 1) stamps) else stamp_bytes (drop (j + 1 + 1) keys) (drop (j + 1) stamps))
bytes_dropped keys d stamps j lt within =
    ap (λ ks. stamp_bytes ks (drop j stamps)) (dropped keys d (j + 1) lt)
    ∙ ap (λ ss. stamp_bytes (slice_index_or keys (j + 1) d ∷ drop (j + 1 + 1) keys) ss) (index_dropped stamps j within)

pub write_more : (keys : List KeyPart) (d : KeyPart) (stamps : List ℕ) (j : ℕ) (written now : List ℕ) → j + 1 < length keys → j < length stamps → has_duplicates (slice_index_or keys (j + 1) d) ≡ true → now ≡ written ++ big_bytes 8 (slice_index stamps j)
    → AreWritten keys stamps j written → AreWritten keys stamps (j + 1) now
write_more keys d stamps j written now lt within many is w =
    let rest = stamp_bytes (drop (j + 1 + 1) keys) (drop (j + 1) stamps) in
    let here = big_bytes 8 (slice_index stamps j) in
    record {
      bytes = ap (λ bs. bs ++ rest) is ∙ append_assoc written here rest
          ∙ ap (λ bs. written ++ bs) (sym (bytes_dropped keys d stamps j lt within ∙ ap (λ b. if b then here ++ rest else rest) many)) ∙ w.bytes;
      long = (let l : stamps_length (drop (j + 1) keys) ≡ 8 + stamps_length (drop (j + 1 + 1) keys) =
          ap stamps_length (dropped keys d (j + 1) lt) ∙ ap (λ b. if b then 8 + stamps_length (drop (j + 1 + 1) keys) else stamps_length (drop (j + 1 + 1) keys)) many in
          let n : length now ≡ length written + 8 = ap length is ∙ length-append written here in
          omega (arith, l, n, w.long));
    }

pub write_none : (keys : List KeyPart) (d : KeyPart) (stamps : List ℕ) (j : ℕ) (written : List ℕ) → j + 1 < length keys → j < length stamps → has_duplicates (slice_index_or keys (j + 1) d) ≡ false
    → AreWritten keys stamps j written → AreWritten keys stamps (j + 1) written
write_none keys d stamps j written lt within one w =
    let rest = stamp_bytes (drop (j + 1 + 1) keys) (drop (j + 1) stamps) in
    let here = big_bytes 8 (slice_index stamps j) in
    record {
      bytes = ap (λ bs. written ++ bs) (sym (bytes_dropped keys d stamps j lt within ∙ ap (λ b. if b then here ++ rest else rest) one)) ∙ w.bytes;
      long = (let l : stamps_length (drop (j + 1) keys) ≡ stamps_length (drop (j + 1 + 1) keys) =
          ap stamps_length (dropped keys d (j + 1) lt) ∙ ap (λ b. if b then 8 + stamps_length (drop (j + 1 + 1) keys) else stamps_length (drop (j + 1 + 1) keys)) one in
          omega (arith, l, w.long));
    }

pub write_whole : (keys : List KeyPart) (stamps : List ℕ) (j : ℕ) (written : List ℕ) → length keys ≤ j + 1 → AreWritten keys stamps j written
    → (written ≡ stamp_bytes (drop 1 keys) stamps) × (length written ≡ stamps_length (drop 1 keys))
write_whole keys stamps j written all w =
    let e = all_dropped keys (j + 1) all in (
      sym (append-nil written) ∙ ap (λ ks. written ++ stamp_bytes ks (drop j stamps)) (sym e) ∙ w.bytes,
      (let l : stamps_length (drop (j + 1) keys) ≡ 0 = ap stamps_length e in omega (arith, l, w.long)),
    )

pub write_room : (keys : List KeyPart) (d : KeyPart) (stamps : List ℕ) (j : ℕ) (written : List ℕ) → length keys ≤ 9 → j + 1 < length keys → has_duplicates (slice_index_or keys (j + 1) d) ≡ true → AreWritten keys stamps j written → length written + 8 ≤ 64
write_room keys d stamps j written few lt many w =
    let l : stamps_length (drop (j + 1) keys) ≡ 8 + stamps_length (drop (j + 1 + 1) keys) =
    ap stamps_length (dropped keys d (j + 1) lt) ∙ ap (λ b. if b then 8 + stamps_length (drop (j + 1 + 1) keys) else stamps_length (drop (j + 1 + 1) keys)) many in
    omega (arith, few_stamps keys few, l, w.long)

behind : (keys : List KeyPart) (j : ℕ) (d : KeyPart) → slice_index_or (drop 1 keys) j d ≡ slice_index_or keys (j + 1) d
behind keys j d = let e : j + 1 ≡ suc j = omega arith in rw e (behind_first keys j d)

-- the stamps of a new row
abbrev pub stamps_of : ℕ → List KeyPart → List ℕ
stamps_of stamp parts = map (λ (part : KeyPart). if has_duplicates part then stamp else 0) parts

pub stamp_of_new : (schema : Schema) (stamp j : ℕ) → j + 1 < length schema.keys
    → slice_index (stamps_of stamp (drop 1 schema.keys)) j ≡ (if has_duplicates (key_at schema (j + 1)) then stamp else 0)
stamp_of_new schema stamp j lt =
    let d : KeyPart = no_key in
    let of = λ (part : KeyPart). if has_duplicates part then stamp else 0 in
    get_or-map of (drop 1 schema.keys) j d 0 (omega (arith, lt, length-drop 1 schema.keys)) ∙ ap of (behind schema.keys j d)

-- the stamps of a changed row
abbrev pub stamps_after : ℕ → List ℕ → List ℕ → List KeyPart → List ℕ → List ℕ
stamps_after next old new parts stamps = map (λ (p : KeyPart × ℕ). if is_changed old new p.0 then next else p.1) (zip parts stamps)

after_at : (next : ℕ) (old new : List ℕ) (parts : List KeyPart) (stamps : List ℕ) (j : ℕ) (d : KeyPart) → j < length parts → j < length stamps
    → slice_index (stamps_after next old new parts stamps) j ≡ (if is_changed old new (slice_index_or parts j d) then next else slice_index stamps j)
after_at next old new [] stamps j d lt within = absurd (omega (arith, lt))
after_at next old new (part ∷ parts) [] j d lt within = absurd (omega (arith, within))
after_at next old new (part ∷ parts) (s ∷ stamps) zero d lt within = refl
after_at next old new (part ∷ parts) (s ∷ stamps) (suc j) d lt within = after_at next old new parts stamps j d (omega (arith, lt)) (omega (arith, within))

pub after_many : (next : ℕ) (old new : List ℕ) (parts : List KeyPart) (stamps : List ℕ) → length stamps ≡ length parts → length (stamps_after next old new parts stamps) ≡ length parts
after_many next old new [] stamps h = refl
after_many next old new (part ∷ parts) [] h = absurd (omega (arith, h))
after_many next old new (part ∷ parts) (s ∷ stamps) h = ap suc (after_many next old new parts stamps (omega (arith, h)))

-- in alternate key j
pub stamp_at_after : (schema : Schema) (next : ℕ) (old new : List ℕ) (stamps : List ℕ) (j : ℕ) → j + 1 < length schema.keys → length stamps + 1 ≡ length schema.keys
    → slice_index (stamps_after next old new (drop 1 schema.keys) stamps) j ≡ (if is_changed old new (key_at schema (j + 1)) then next else slice_index stamps j)
stamp_at_after schema next old new stamps j lt many =
    let d : KeyPart = no_key in
    after_at next old new (drop 1 schema.keys) stamps j d (omega (arith, lt, length-drop 1 schema.keys)) (omega (arith, lt, many))
    ∙ ap (λ part. if is_changed old new part then next else slice_index stamps j) (behind schema.keys j d)

-- in a key of duplicates it is the next one where the value changes
pub stamp_of_duplicates : (schema : Schema) (next : ℕ) (old new : List ℕ) (stamps : List ℕ) (j : ℕ) → j + 1 < length schema.keys → length stamps + 1 ≡ length schema.keys → has_duplicates (key_at schema (j + 1)) ≡ true
    → stamp_after schema next old (slice_index stamps j) new j ≡ slice_index (stamps_after next old new (drop 1 schema.keys) stamps) j
stamp_of_duplicates schema next old new stamps j lt many dup =
    sym (stamp_at_after schema next old new stamps j lt many
    ∙ ap (λ b. if (b && not (stays schema old new j)) then next else slice_index stamps j) dup ∙ turned (stays schema old new j) next (slice_index stamps j))
  where
    turned : (b : Bool) (x y : ℕ) → (if not b then x else y) ≡ (if b then y else x)
    turned b x y = grind (arith, common_steps)
