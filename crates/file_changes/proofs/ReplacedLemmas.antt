-- An open file in whose parts a record took the place of another stands for the file with it.
use Rattle.std.proofs.Common.{◌≡◌, ◌≢◌, ℕ, ◌+◌, ◌^◌, ◌≤◌, ◌<◌, Bool, true, false, not, ◌&&◌, List, length, Some, None, refl, ap, sym, subst, ◌∙◌, arith}
use Rattle.std.specs.Prelude.{find, is_some, if◌then◌else◌, Option}
use Rattle.std.proofs.lemmas.Bool.{and_from, le-leb}
use Rattle.std.proofs.lemmas.Grind.{common_steps}
use Rattle.record_layout.specs.Schema.{Schema, key_at, prime_of, value_of, has_duplicates}
use Rattle.indexed_file.specs.File.{Row, File, stamp_of}
use Rattle.indexed_file.specs.Rank.{has_value}
use Rattle.indexed_file.specs.Change.{row_of, replaced, changed_row, takes_stamp, is_changed, clashes_with_others, others_in}
use Rattle.indexed_file.specs.Sound.{is_file, is_row, is_length, are_rows}
use Rattle.indexed_file.specs.Answers.{replaced_answer_at}
use Rattle.indexed_file.specs.declared.answer.Replaced.{Replaced}
use Rattle.indexed_file.specs.declared.answer.Replaced.TheVariants.{Done, Clash, Gone}
use Rattle.indexed_file.proofs.SoundLemmas.{replaced_is_file}
use Rattle.pages.specs.PageMap.{PageMap}
use Rattle.key_index.specs.declared.alt_index.AltIndex.{AltIndex}
use Rattle.key_index.specs.declared.entry.AltEntry.{AltEntry}
use Rattle.key_index.specs.declared.entry.PrimeEntry.{PrimeEntry}
use Rattle.key_index.specs.declared.prime_index.PrimeIndex.{PrimeIndex}
use Rattle.key_index.specs.Entries.{has_rank, with_alt}
use Rattle.record_heap.specs.declared.shape.Place.{Place}
use Rattle.record_heap.specs.Chain.{put_slot}
use Rattle.open_file.specs.Fields.{alternates_of, heap_of, next_stamp_of, path_of, prime_index_of}
use Rattle.open_file.specs.Fields.{file_schema, with_alternates_of, with_next_stamp, without_path}
use Rattle.open_file.specs.InOrder.{alt_entry, alt_entries, prime_entries}
use Rattle.open_file.specs.Stored.{stored}
use Rattle.file_changes.specs.Adding.{entry_of_record, stamp_in}
use Rattle.open_file.specs.Parts.{Parts}
use Rattle.open_file.specs.Stands.{Stands, IsShaped}
use Rattle.file_changes.specs.Old.{IsOldAt}
use Rattle.indexed_file.specs.FileChange.{replacement}
use Rattle.file_changes.specs.Changes.{HasChanged}
use Rattle.file_changes.specs.Replacing.{stays, changed_in, changed_below, AreFreed, CanPutOver, next_after}
use Rattle.open_file.specs.Paths.{IsOnPath}
use Rattle.open_file.specs.declared.open_file.OpenFile.{OpenFile}
use Rattle.open_file.specs.declared.path.Path.{Path}
use Rattle.open_file.proofs.OrderLemmas.{either}
use Rattle.open_file.proofs.FirstLemmas.{same_bytes}
use Rattle.open_file.proofs.PartsLemmas.{said_so}
use Rattle.file_changes.proofs.OneRowLemmas.{many_stamps, entries_left, entry_there}
use Rattle.file_changes.proofs.WithoutLemmas.{stamp_in_key}
use Rattle.file_changes.proofs.ChangedLemmas.{stamp_at_after}
use Rattle.open_file.proofs.RowLemmas.{stamp_zero}
use Rattle.file_changes.proofs.SplitLemmas.{entries_split, none_of_rank}
use Rattle.file_changes.proofs.RenewedLemmas.{others_renewed, found_renewed, prime_entries_renewed, placed_renewed}
use Rattle.file_changes.proofs.RemovedLemmas.{IsOne, is_one, file_rows, same_many, lt_is}

-- the stamp of a changed row in an alternate key
stamp_changed : (schema : Schema) (next : ℕ) (bytes : List ℕ) (old : Row) (j : ℕ) → j + 1 < length schema.keys → is_row schema next old ≡ true
    → stamp_of (j + 1) (changed_row schema next bytes old) ≡ (if is_changed old.bytes bytes (key_at schema (j + 1)) then next else stamp_of (j + 1) old)
stamp_changed schema next bytes old j lt fit =
    stamp_in_key j (changed_row schema next bytes old) ∙ stamp_at_after schema next old.bytes bytes old.stamps j lt (many_stamps schema next old fit)
    ∙ ap (λ s. if is_changed old.bytes bytes (key_at schema (j + 1)) then next else s) (sym (stamp_in_key j old))

-- it stays where the value does
stamp_stays : (schema : Schema) (next : ℕ) (bytes : List ℕ) (old : Row) (j : ℕ) → j + 1 < length schema.keys → is_row schema next old ≡ true → stays schema old.bytes bytes j ≡ true
    → stamp_of (j + 1) (changed_row schema next bytes old) ≡ stamp_of (j + 1) old
stamp_stays schema next bytes old j lt fit same =
    stamp_changed schema next bytes old j lt fit ∙ ap (λ b. if has_duplicates (key_at schema (j + 1)) && not b then next else stamp_of (j + 1) old) same ∙ never (has_duplicates (key_at schema (j + 1))) next (stamp_of (j + 1) old)
  where
    never : (d : Bool) (x y : ℕ) → (if d && false then x else y) ≡ y
    never d x y = grind (arith, common_steps)

-- else it is that of a new record
stamp_moves : (schema : Schema) (next : ℕ) (bytes : List ℕ) (old : Row) (j : ℕ) → j + 1 < length schema.keys → is_row schema next old ≡ true → stays schema old.bytes bytes j ≡ false
    → stamp_of (j + 1) (changed_row schema next bytes old) ≡ stamp_in schema next j
stamp_moves schema next bytes old j lt fit moves =
    stamp_changed schema next bytes old j lt fit ∙ ap (λ b. if has_duplicates (key_at schema (j + 1)) && not b then next else stamp_of (j + 1) old) moves
    ∙ either (has_duplicates (key_at schema (j + 1))) ((if has_duplicates (key_at schema (j + 1)) && true then next else stamp_of (j + 1) old) ≡ stamp_in schema next j)
    (λ many. rw many refl)
    (λ one. rw one (stamp_zero schema next (j + 1) old fit lt one))

-- the entry of the changed row
entry_stays : (schema : Schema) (next : ℕ) (bytes : List ℕ) (old : Row) (j : ℕ) → j + 1 < length schema.keys → is_row schema next old ≡ true → prime_of schema old.bytes ≡ prime_of schema bytes → stays schema old.bytes bytes j ≡ true
    → alt_entry schema (j + 1) (changed_row schema next bytes old) ≡ alt_entry schema (j + 1) old
entry_stays schema next bytes old j lt fit prime same =
    let value : value_of schema (j + 1) bytes ≡ value_of schema (j + 1) old.bytes = sym (same_bytes (value_of schema (j + 1) old.bytes) (value_of schema (j + 1) bytes) same) in
    let stamp = stamp_stays schema next bytes old j lt fit same in
    let first = sym prime in
    λ i. record { value = record { items = value i }; stamp = stamp i; prime = record { items = first i } }

entry_moves : (schema : Schema) (next : ℕ) (bytes : List ℕ) (old : Row) (j : ℕ) → j + 1 < length schema.keys → is_row schema next old ≡ true → stays schema old.bytes bytes j ≡ false
    → alt_entry schema (j + 1) (changed_row schema next bytes old) ≡ entry_of_record schema next bytes j
entry_moves schema next bytes old j lt fit moves =
    let stamp = stamp_moves schema next bytes old j lt fit moves in
    λ i. record { value = record { items = value_of schema (j + 1) bytes }; stamp = stamp i; prime = record { items = prime_of schema bytes } }

-- what is known of a record that may take the place of its row
pub record IsChange (schema : Schema) (bytes : List ℕ) (file : File) (old : Row) : Type 0 where
  pub one : IsOne schema file (prime_of schema bytes) old
  pub rows : are_rows schema file.next_stamp file.rows ≡ true
  pub sound : is_file schema (replaced schema bytes old file) ≡ true
  pub found : find (has_value schema 0 (prime_of schema bytes)) (replaced schema bytes old file).rows ≡ Some (changed_row schema file.next_stamp bytes old)

pub is_change : (u : OpenFile) (bytes : List ℕ) (file : File) (old : Row) → IsShaped u → is_file (file_schema u) file ≡ true → (file_schema u).least ≤ length bytes → length bytes ≤ (file_schema u).greatest
    → row_of (file_schema u) (prime_of (file_schema u) bytes) file ≡ Some old → clashes_with_others (file_schema u) bytes file ≡ false → IsChange (file_schema u) bytes file old
is_change u bytes file old shaped sound least greatest is clash =
    let fit : is_length (file_schema u) (length bytes) ≡ true = and_from _ _ (le-leb _ _ least) (le-leb _ _ greatest) in
    let one = is_one (file_schema u) file (prime_of (file_schema u) bytes) old sound is in
    record {
      one = one;
      rows = file_rows (file_schema u) file sound;
      sound = replaced_is_file (file_schema u) bytes old file shaped.is_schema sound fit is clash;
      found = found_renewed (file_schema u) file.next_stamp bytes old file.rows one.first;
    }

-- no other row has the new value and stamp
pub change_freed : (schema : Schema) (bytes : List ℕ) (file : File) (old : Row) (count : ℕ) → length schema.keys ≡ count + 1 → IsChange schema bytes file old
    → AreFreed schema file.next_stamp old bytes count (λ j. alt_entries schema (j + 1) file.rows)
change_freed schema bytes file old count keys change j lt moves =
    let k : j + 1 < length schema.keys = omega (arith, lt, keys) in
    let prime = prime_of schema bytes in
    let rows = (replaced schema bytes old file).rows in
    let none = none_of_rank schema (replaced schema bytes old file).next_stamp (j + 1) prime (changed_row schema file.next_stamp bytes old) rows k (file_rows schema (replaced schema bytes old file) change.sound) change.found in
    ap (λ es. find (has_rank (value_of schema (j + 1) bytes) (stamp_in schema file.next_stamp j)) es)
    (entries_left schema file.next_stamp (j + 1) prime old file.rows k change.rows change.one.first ∙ ap (alt_entries schema (j + 1)) (sym (others_renewed schema file.next_stamp bytes file.rows)))
    ∙ ap (λ s. find (has_rank (value_of schema (j + 1) bytes) s) (alt_entries schema (j + 1) (others_in schema prime rows))) (sym (stamp_moves schema file.next_stamp bytes old j k change.one.fit moves))
    ∙ none

-- the entries of an alternate index after the change
pub change_said : (schema : Schema) (bytes : List ℕ) (file : File) (old : Row) (j : ℕ) → j + 1 < length schema.keys → IsChange schema bytes file old
    → alt_entries schema (j + 1) (replaced schema bytes old file).rows ≡ changed_in schema file.next_stamp old bytes j (alt_entries schema (j + 1) file.rows)
change_said schema bytes file old j lt change =
    let prime = prime_of schema bytes in
    let next = file.next_stamp in
    let new = changed_row schema next bytes old in
    let rows = (replaced schema bytes old file).rows in
    let others = alt_entries schema (j + 1) (others_in schema prime file.rows) in
    let split = entries_split schema (replaced schema bytes old file).next_stamp (j + 1) prime new rows lt (file_rows schema (replaced schema bytes old file) change.sound) change.found
    ∙ ap (λ rs. with_alt (alt_entry schema (j + 1) new) (alt_entries schema (j + 1) rs)) (others_renewed schema next bytes file.rows) in
    either (stays schema old.bytes bytes j) (alt_entries schema (j + 1) rows ≡ changed_in schema next old bytes j (alt_entries schema (j + 1) file.rows))
    (λ same. rw same (split ∙ ap (λ (e : AltEntry). with_alt e others) (entry_stays schema next bytes old j lt change.one.fit change.one.same same)
    ∙ sym (entries_split schema next (j + 1) prime old file.rows lt change.rows change.one.first)))
    (λ moves. rw moves (split ∙ ap (λ (e : AltEntry). with_alt e others) (entry_moves schema next bytes old j lt change.one.fit moves)
    ∙ ap (with_alt (entry_of_record schema next bytes j)) (sym (entries_left schema next (j + 1) prime old file.rows lt change.rows change.one.first))))

-- the parts of a file can take the record in the place of its row
pub can_put_over : (u : OpenFile) (pages : PageMap) (bytes : List ℕ) (file : File) (place : Place) (old : Row) (stands : Stands u pages file) → IsShaped u
    → IsOldAt (file_schema u) stands.slots (prime_entries (file_schema u) stands.places file.rows) file (prime_of (file_schema u) bytes) place old → IsChange (file_schema u) bytes file old
    → CanPutOver (file_schema u) (next_stamp_of u) old bytes place (length (alternates_of u)) stands.slots (λ j. alt_entries (file_schema u) (j + 1) file.rows)
can_put_over u pages bytes file place old stands shaped at change = record {
  in_heap = ap is_some at.here;
  there = λ j lt. entry_there (file_schema u) (j + 1) (prime_of (file_schema u) bytes) old file.rows change.one.first;
  freed = subst (λ s. AreFreed (file_schema u) s old bytes (length (alternates_of u)) (λ j. alt_entries (file_schema u) (j + 1) file.rows)) (sym stands.stamp)
      (change_freed (file_schema u) bytes file old (length (alternates_of u)) shaped.keys change);
}

next_few : (takes : Bool) (now : ℕ) → now ≤ 2 ^ 63 → (takes ≡ true → now < 2 ^ 63) → (if takes then now + 1 else now) ≤ 2 ^ 63
next_few true now few limit = omega (arith, limit refl)
next_few false now few limit = few

-- where no path is kept, there is none to be on
none_on_path : (prime : PrimeIndex) (alternates : List AltIndex) (pages : PageMap) (primes : List PrimeEntry) (entries : ℕ → List AltEntry)
    (owns : List (List ℕ)) (path : Option Path) → path ≡ None → IsOnPath path prime alternates pages primes entries owns
none_on_path prime alternates pages primes entries owns path none = rw none tt

-- the parts with the record stand for the file with it
pub replaced_stands : (u v : OpenFile) (before after : PageMap) (bytes : List ℕ) (file : File) (place : Place) (old : Row) (stands : Stands u before file) → IsShaped u
    → IsOldAt (file_schema u) stands.slots (prime_entries (file_schema u) stands.places file.rows) file (prime_of (file_schema u) bytes) place old → IsChange (file_schema u) bytes file old
    → (takes_stamp (file_schema u) old.bytes bytes ≡ true → next_stamp_of u < 2 ^ 63)
    → file_schema v ≡ file_schema u → next_stamp_of v ≡ next_after (file_schema u) (next_stamp_of u) old.bytes bytes → path_of v ≡ None → length (alternates_of v) ≡ length (alternates_of u)
    → Parts (heap_of v) (prime_index_of v) (alternates_of v) after (put_slot stands.slots place (Some (stored (file_schema u) (changed_row (file_schema u) (next_stamp_of u) bytes old)))) (prime_entries (file_schema u) stands.places file.rows)
    (changed_below (file_schema u) (next_stamp_of u) old bytes (length (alternates_of u)) (λ j. alt_entries (file_schema u) (j + 1) file.rows))
    → Stands v after (replaced (file_schema u) bytes old file)
replaced_stands u v before after bytes file place old stands shaped at change limit schema stamp path many parts =
    let next = file.next_stamp in
    let rows = (replaced (file_schema u) bytes old file).rows in
    let slots = put_slot stands.slots place (Some (stored (file_schema u) (changed_row (file_schema u) next bytes old))) in
    let had = subst (λ s. Parts (heap_of v) (prime_index_of v) (alternates_of v) after (put_slot stands.slots place (Some (stored (file_schema u) (changed_row (file_schema u) s bytes old)))) (prime_entries (file_schema u) stands.places file.rows)
    (changed_below (file_schema u) s old bytes (length (alternates_of u)) (λ j. alt_entries (file_schema u) (j + 1) file.rows))) stands.stamp parts in
    let placed = placed_renewed (file_schema u) stands.slots next bytes old place stands.places file.rows change.one.fit change.one.has at.here change.rows change.one.first at.leads stands.placed in
    let said = said_so (heap_of v) (prime_index_of v) (alternates_of v) after slots _ _ had (prime_entries (file_schema u) stands.places rows) (λ j. alt_entries (file_schema u) (j + 1) rows)
    (prime_entries_renewed (file_schema u) stands.slots next bytes stands.places file.rows stands.placed.rows_at)
    (λ j lt.
    let within : j < length (alternates_of u) = omega (arith, lt, many) in
    let key : j + 1 < length (file_schema u).keys = omega (arith, within, shaped.keys) in
    rw (lt_is j (length (alternates_of u)) within) (change_said (file_schema u) bytes file old j key change)) in
    record {
      sound = rw schema change.sound;
      stamp = stamp ∙ ap (λ s. next_after (file_schema u) s old.bytes bytes) stands.stamp;
      few = rw stamp (next_few (takes_stamp (file_schema u) old.bytes bytes) (next_stamp_of u) stands.few limit);
      places = stands.places;
      slots = slots;
      placed = rw schema placed;
      parts = rw schema said;
      on_path = none_on_path _ _ _ _ _ _ (path_of v) path;
    }

-- the record took the place of its row
pub has_replaced : (u v : OpenFile) (before after : PageMap) (is_sound : Type 0) (bytes : List ℕ) (file : File) (place : Place) (old : Row) (answer : Replaced) (stands : Stands u before file) → IsShaped u → IsShaped v
    → IsOldAt (file_schema u) stands.slots (prime_entries (file_schema u) stands.places file.rows) file (prime_of (file_schema u) bytes) place old → IsChange (file_schema u) bytes file old
    → clashes_with_others (file_schema u) bytes file ≡ false → (takes_stamp (file_schema u) old.bytes bytes ≡ true → next_stamp_of u < 2 ^ 63)
    → v ≡ with_alternates_of v (with_next_stamp (next_after (file_schema u) (next_stamp_of u) old.bytes bytes) (without_path u))
    → answer ≡ replaced_answer_at (file_schema u) bytes file (Some old)
    → Parts (heap_of v) (prime_index_of v) (alternates_of v) after (put_slot stands.slots place (Some (stored (file_schema u) (changed_row (file_schema u) (next_stamp_of u) bytes old)))) (prime_entries (file_schema u) stands.places file.rows)
    (changed_below (file_schema u) (next_stamp_of u) old bytes (length (alternates_of u)) (λ j. alt_entries (file_schema u) (j + 1) file.rows)) × is_sound
    → HasChanged (Stands v after) is_sound (replacement (file_schema u) bytes) file answer
has_replaced u v before after is_sound bytes file place old answer stands one two at change clash limit rest told parts =
    let schema = ap file_schema rest in
    let stamp = ap next_stamp_of rest in
    let path = ap path_of rest in
    record {
      answers = told ∙ ap (replaced_answer_at (file_schema u) bytes file) (sym at.is_row);
      stands = rw (at.is_row, clash) (replaced_stands u v before after bytes file place old stands one at change limit schema stamp path (same_many u v one two schema) parts.0);
      sound = parts.1;
    }

-- what is answered tells whether there is a clash
pub clashed : (schema : Schema) (bytes : List ℕ) (file : File) (old : Row) → Clash ≡ replaced_answer_at schema bytes file (Some old) → clashes_with_others schema bytes file ≡ true
clashed schema bytes file old told =
    either (clashes_with_others schema bytes file) _ (λ yes. yes) (λ no. let e = rw no at told in absurd (cc))

-- a clash changes nothing
pub has_clashed : (u : OpenFile) (before after : PageMap) (is_sound : Type 0) (bytes : List ℕ) (file : File) (old : Row) → Stands u before file → after ≡ before → row_of (file_schema u) (prime_of (file_schema u) bytes) file ≡ Some old
    → Clash ≡ replaced_answer_at (file_schema u) bytes file (Some old) → is_sound → HasChanged (Stands u after) is_sound (replacement (file_schema u) bytes) file Clash
has_clashed u before after is_sound bytes file old stands same is told sound = record {
  answers = told ∙ ap (replaced_answer_at (file_schema u) bytes file) (sym is);
  stands = rw (is, clashed (file_schema u) bytes file old told) (subst (λ p. Stands u p file) (sym same) stands);
  sound = sound;
}

-- there is no such row
pub has_none : (u : OpenFile) (before after : PageMap) (is_sound : Type 0) (bytes : List ℕ) (file : File) → Stands u before file → after ≡ before → row_of (file_schema u) (prime_of (file_schema u) bytes) file ≡ None
    → is_sound → HasChanged (Stands u after) is_sound (replacement (file_schema u) bytes) file Gone
has_none u before after is_sound bytes file stands same none sound = record {
  answers = sym (ap (replaced_answer_at (file_schema u) bytes file) none);
  stands = rw none (subst (λ p. Stands u p file) (sym same) stands);
  sound = sound;
}

pub not_clashed : (schema : Schema) (bytes : List ℕ) (file : File) (old : Row) (r : Bool) → Done r ≡ replaced_answer_at schema bytes file (Some old) → clashes_with_others schema bytes file ≡ false
not_clashed schema bytes file old r told =
    either (clashes_with_others schema bytes file) _ (λ yes. let e = rw yes at told in absurd (cc)) (λ no. no)

pub only_clash : (r : Replaced) → r ≢ Gone → ((b : Bool) → r ≡ Done b → ⊥) → r ≡ Clash
only_clash (Done b) some not_done = absurd (not_done b refl)
only_clash Clash some not_done = refl
only_clash Gone some not_done = absurd (some refl)
