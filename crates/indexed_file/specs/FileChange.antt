-- A change of a file of rows: what it answers and leaves, and when nothing is changed.
use Rattle.std.specs.Prelude.{ℕ, Bool, true, false, not, ◌||◌, List, Option, None, Some, is_some, IsTrue}
use Rattle.std.specs.Prelude.{IsFalse, if◌then◌else◌}
use Rattle.record_layout.specs.Schema.{Schema, prime_of}
use Rattle.indexed_file.specs.File.{Row, File}
use Rattle.indexed_file.specs.Change.{clashes, added, row_of, clashes_with_others, replaced, removed}
use Rattle.indexed_file.specs.Answers.{added_answer, replaced_answer}
use Rattle.indexed_file.specs.Room.{Room, is_full_to_add, is_full_to_replace}
use Rattle.indexed_file.specs.declared.answer.Added.{Added}
use Rattle.indexed_file.specs.declared.answer.Added.TheVariants.{Done as DoneAdding, Clash as ClashAdding}
use Rattle.indexed_file.specs.declared.answer.Replaced.{Replaced}
use Rattle.indexed_file.specs.declared.answer.Replaced.TheVariants.{Done as DoneReplacing}
use Rattle.indexed_file.specs.declared.answer.Replaced.TheVariants.{Clash as ClashReplacing, Gone}

-- what it answers and leaves, whether an answer tells that it was made, whether it clashes, whether
-- it lacks room, and whether it may take pages at all
pub record FileChange (X : Type 0) : Type 0 where
  pub answer : File → X
  pub leaves : File → File
  pub is_made : X → Bool
  pub clashes : File → Bool
  pub lacks_room : Room → File → Bool
  pub takes_pages : Bool

-- it is not refused for want of room: it clashes, or there is room for it
abbrev pub has_room_for : {X : Type 0} → Room → FileChange X → File → Bool
has_room_for room change file = change.clashes file || not (change.lacks_room room file)

-- it has to be refused for want of room: it does not clash, and there is no room for it
abbrev pub LacksRoomFor : {X : Type 0} → Room → FileChange X → File → Type 0
LacksRoomFor room change file = IsFalse (change.clashes file) × IsTrue (change.lacks_room room file)

-- ---- the answers that tell of a change

abbrev pub is_added : Added → Bool
is_added (DoneAdding repeated) = true
is_added ClashAdding = false

abbrev pub is_replaced : Replaced → Bool
is_replaced (DoneReplacing repeated) = true
is_replaced ClashReplacing = false
is_replaced Gone = false

abbrev pub is_removed : Bool → Bool
is_removed removed = removed

-- ---- the file after each of the three

-- a clash changes nothing
abbrev pub file_after_add : Schema → List ℕ → File → File
file_after_add schema bytes file = if clashes schema bytes file.rows then file else added schema bytes file

-- where there is no row of the record's prime value, or a clash with another, nothing is changed
abbrev pub file_with : Schema → List ℕ → File → Option Row → File
file_with schema bytes file None = file
file_with schema bytes file (Some row) = if clashes_with_others schema bytes file then file else replaced
    schema bytes row file

abbrev pub file_after_replace : Schema → List ℕ → File → File
file_after_replace schema bytes file = file_with schema bytes file
    (row_of schema (prime_of schema bytes) file)

-- where there is no such record nothing is changed
abbrev pub file_after_remove : Schema → List ℕ → File → File
file_after_remove schema prime file = if is_some
    (row_of schema prime file) then removed schema prime file else file

-- ---- the three changes

abbrev pub addition : Schema → List ℕ → FileChange Added
addition schema bytes = record {
  answer = added_answer schema bytes;
  leaves = file_after_add schema bytes;
  is_made = is_added;
  clashes = λ file. clashes schema bytes file.rows;
  lacks_room = is_full_to_add;
  takes_pages = true;
}

abbrev pub replacement : Schema → List ℕ → FileChange Replaced
replacement schema bytes = record {
  answer = replaced_answer schema bytes;
  leaves = file_after_replace schema bytes;
  is_made = is_replaced;
  clashes = clashes_with_others schema bytes;
  lacks_room = λ room. is_full_to_replace room schema bytes;
  takes_pages = true;
}

abbrev pub removal : Schema → List ℕ → FileChange Bool
removal schema prime = record {
  answer = λ file. is_some (row_of schema prime file);
  leaves = file_after_remove schema prime;
  is_made = is_removed;
  clashes = λ file. false;
  lacks_room = λ room file. false;
  takes_pages = false;
}
