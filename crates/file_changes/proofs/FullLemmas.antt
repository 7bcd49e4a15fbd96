-- Whether there is room for a record in the place of another.
use Rattle.std.proofs.Common.{◌≡◌, ℕ, ◌+◌, ◌^◌, ◌≤◌, ◌<◌, Bool, true, false, ◌&&◌, ◌||◌, List, [], ◌∷◌, length, drop, map, Some, ap, sym, ◌∙◌, arith}
use Rattle.std.specs.Prelude.{nat_lt, nat_le, bytes_eq, slice_index_or, if◌then◌else◌}
use Rattle.std.proofs.lemmas.Bool.{or_parts, ltb-false}
use Rattle.std.proofs.lemmas.Grind.{common_steps}
use Rattle.std.proofs.lemmas.List.Sums.{sum_by-cons}
use Rattle.record_layout.specs.declared.schema.KeyPart.{KeyPart}
use Rattle.record_layout.specs.Schema.{part_of, prime_of, no_key}
use Rattle.indexed_file.specs.File.{Row, File}
use Rattle.indexed_file.specs.Change.{row_of, takes_stamp}
use Rattle.indexed_file.specs.Room.{is_full_to_replace, is_full_at, need_of_changed}
use Rattle.pages.specs.PageMap.{PageMap}
use Rattle.key_index.specs.declared.alt_index.AltIndex.{AltIndex}
use Rattle.key_index.specs.Standing.{prime_height, alt_height}
use Rattle.file_changes.specs.Adding.{index_levels}
use Rattle.open_file.specs.Fields.{alternates_of, next_stamp_of, prime_index_of, file_schema}
use Rattle.open_file.specs.Stands.{Stands, IsShaped, room_of}
use Rattle.file_changes.specs.Replacing.{need_in_indexes, is_full_for}
use Rattle.open_file.specs.declared.open_file.OpenFile.{OpenFile}
use Rattle.file_changes.proofs.RemovedLemmas.{is_one}

-- where the prime value stays, no page is needed for its index
need_but_prime : (keys : List KeyPart) (d : KeyPart) (old new : List ℕ) (height : ℕ) (heights : List ℕ) → 0 < length keys → bytes_eq (part_of (slice_index_or keys 0 d) old) (part_of (slice_index_or keys 0 d) new) ≡ true
    → need_of_changed keys old new (height ∷ heights) ≡ need_of_changed (drop 1 keys) old new heights
need_but_prime [] d old new height heights some same = absurd (omega (arith, some))
need_but_prime (part ∷ parts) d old new height heights some same =
    let none : 0 + need_of_changed parts old new heights ≡ need_of_changed parts old new heights = omega arith in
    ap (λ b. (if b then 0 else height + 1) + need_of_changed parts old new heights) same ∙ none

pub full_is : (u : OpenFile) (pages : PageMap) (bytes : List ℕ) (file : File) (old : Row) (available : ℕ) → Stands u pages file → IsShaped u → row_of (file_schema u) (prime_of (file_schema u) bytes) file ≡ Some old
    → is_full_to_replace (room_of u available) (file_schema u) bytes file ≡ is_full_for u available old.bytes bytes
full_is u pages bytes file old available stands shaped is =
    let one = is_one (file_schema u) file (prime_of (file_schema u) bytes) old stands.sound is in
    let d : KeyPart = no_key in
    let some : 0 < length (file_schema u).keys = omega (arith, shaped.keys) in
    let need = need_but_prime (file_schema u).keys d old.bytes bytes (prime_height (prime_index_of u)) (map alt_height (alternates_of u)) some one.has in
    ap (is_full_at (room_of u available) (file_schema u) bytes file) is
    ∙ ap (λ n. nat_lt available n || (takes_stamp (file_schema u) old.bytes bytes && nat_le (2 ^ 63) file.next_stamp)) need
    ∙ ap (λ s. nat_lt available (need_in_indexes (file_schema u) old.bytes bytes (alternates_of u)) || (takes_stamp (file_schema u) old.bytes bytes && nat_le (2 ^ 63) s)) (sym stands.stamp)

enough : (available need : ℕ) (other : Bool) → (nat_lt available need || other) ≡ false → need ≤ available
enough available need other none = ltb-false available need (or_parts _ _ none).0

limited : (short takes : Bool) (stamp : ℕ) → (short || (takes && nat_le (2 ^ 63) stamp)) ≡ false → takes ≡ true → stamp < 2 ^ 63
limited short takes stamp none taken =
    let low : nat_le (2 ^ 63) stamp ≡ false = rw taken at (or_parts short (takes && nat_le (2 ^ 63) stamp) none).1 in
    grind (arith, common_steps)

-- where the test fails, there is room, and a stamp where one is taken
pub room_is : (u : OpenFile) (available : ℕ) (old new : List ℕ) → is_full_for u available old new ≡ false → need_in_indexes (file_schema u) old new (alternates_of u) ≤ available
room_is u available old new none = enough available (need_in_indexes (file_schema u) old new (alternates_of u)) (takes_stamp (file_schema u) old new && nat_le (2 ^ 63) (next_stamp_of u)) none

pub stamp_is : (u : OpenFile) (available : ℕ) (old new : List ℕ) → is_full_for u available old new ≡ false → takes_stamp (file_schema u) old new ≡ true → next_stamp_of u < 2 ^ 63
stamp_is u available old new none taken = limited (nat_lt available (need_in_indexes (file_schema u) old new (alternates_of u))) (takes_stamp (file_schema u) old new) (next_stamp_of u) none taken

-- no more pages are needed than the trees have levels, with one more of each
need_few : (parts : List KeyPart) (old new : List ℕ) (indexes : List AltIndex) → need_of_changed parts old new (map alt_height indexes) ≤ index_levels indexes
need_few [] old new indexes = omega arith
need_few (part ∷ parts) old new [] = omega arith
need_few (part ∷ parts) old new (index ∷ indexes) =
    grind (arith, common_steps, need_few parts old new indexes, sum_by-cons (λ (i : AltIndex). alt_height i + 1) index indexes)

pub need_within : (u : OpenFile) (old new : List ℕ) → need_in_indexes (file_schema u) old new (alternates_of u) ≤ index_levels (alternates_of u)
need_within u old new = need_few (drop 1 (file_schema u).keys) old new (alternates_of u)
