-- What the calls on an open file leave.
use Rattle.std.specs.Prelude.{◌≡◌, ◌≤◌, ◌<◌, ◌+◌, ℕ, Bool, true, List, length, Option, option_map, IsTrue}
use Rattle.std.specs.Prelude.{Result, Err, IfErr}
use Rattle.arrayvec.specs.ArrayVec.{ArrayVec}
use Rattle.io_state.specs.declared.fault.Fault.{Fault}
use Rattle.io_state.specs.declared.fault.Fault.TheVariants.{Broken}
use Rattle.indexed_file.specs.File.{Row, File}
use Rattle.io_state.specs.declared.position.Position.{Position}
use Rattle.io_state.specs.declared.modes.Relation.{Relation}
use Rattle.indexed_file.specs.FileChange.{FileChange, addition, replacement, removal}
use Rattle.indexed_file.specs.Rank.{highest_of, has_value, admits}
use Rattle.indexed_file.specs.Room.{most_to_read, most_to_seek}
use Rattle.indexed_file.specs.declared.answer.Found.{Found}
use Rattle.indexed_file.specs.declared.answer.Added.{Added}
use Rattle.indexed_file.specs.declared.answer.Replaced.{Replaced}
use Rattle.pages.specs.Answer.{IsAnswer}
use Rattle.record_layout.specs.Schema.{Schema}
use Rattle.page_store.specs.ShelfState.{ShelfState}
use Rattle.page_alloc.specs.Joining.{FaultsRose}
use Rattle.page_alloc.specs.Steps.{ReadsFilePages, MayOpenGate, pages_state_of}
use Rattle.page_alloc.specs.PagedFile.{is_begun, times_asked}
use Rattle.open_file.specs.Fields.{has_broken, file_schema, with_path_of}
use Rattle.open_file.specs.Stands.{Stands}
use Rattle.open_file.specs.Faults.{IsCausedIn}
use Rattle.open_file.specs.Reading.{FindsFirst, Seeks}
use Rattle.file_changes.specs.Changes.{ShownFile, Changes, MayBreak}
use Rattle.shelf_library.specs.Standing.{IsReady, StandsFor, live_of, room_in}
use Rattle.shelf_library.specs.declared.shelf_file.ShelfFile.{ShelfFile}

-- a call may be made that reads a record by key k into an area of these bytes
pub record IsReadyToRead (held : ShelfFile) (shelf : ShelfState) (k : ℕ) (bytes : List ℕ) : Type 0 where
  pub ready : IsReady held shelf
  pub key : k < length (file_schema held.file).keys
  pub area : length bytes ≡ (file_schema held.file).greatest

-- a call may be made that looks for a value of key k
pub record IsReadyToSeek (held : ShelfFile) (shelf : ShelfState) (k : ℕ) : Type 0 where
  pub ready : IsReady held shelf
  pub key : k < length (file_schema held.file).keys

-- a call may be made that puts this record into the file
pub record IsReadyToWrite (held : ShelfFile) (shelf : ShelfState) (bytes : List ℕ) : Type 0 where
  pub ready : IsReady held shelf
  pub least : (file_schema held.file).least ≤ length bytes
  pub greatest : length bytes ≤ (file_schema held.file).greatest

-- a call that only reads: but for its path the file is as it was, and so are its pages
pub record OnlyReadsFile (old new : ShelfFile) (before after : ShelfState) (failed fails : ℕ) : Type 0 where
  pub file : new.file ≡ with_path_of new.file old.file
  pub pages : ReadsFilePages old.pages new.pages before after failed fails
  pub ready : IsReady old before → IsReady new after
  pub stands : IsTrue after.is_honest → (file : File) → StandsFor old before file → StandsFor new after file

-- an open file on a shelf whose device has failed so often
pub record FileOnShelf : Type 0 where
  pub held : ShelfFile
  pub shelf : ShelfState
  pub faults : ℕ

abbrev pub on_shelf : ShelfFile → ShelfState → ℕ → FileOnShelf
on_shelf held shelf faults = record { held = held; shelf = shelf; faults = faults }

-- what it shows
abbrev pub shown_on_shelf : ShownFile FileOnShelf
shown_on_shelf = record {
  is_honest = λ at. at.shelf.is_honest;
  IsSound = λ at. IsTrue (pages_state_of at.held.pages at.shelf).is_sound;
  StandsFor = λ at. Stands at.held.file (live_of at.held at.shelf);
  is_broken = λ at. has_broken at.held.file;
  schema = λ at. file_schema at.held.file;
  room = λ at. room_in at.held;
  asked = λ at. times_asked at.held.pages;
  IsReady = λ at. IsReady at.held at.shelf;
  CanChange = λ at. is_begun at.held.pages ≡ true;
  Reads = λ before after. OnlyReadsFile before.held after.held before.shelf after.shelf before.faults
      after.faults;
  Begins = λ before after. MayOpenGate before.held.pages after.held.pages before.shelf after.shelf
      before.faults after.faults;
  HasFailed = λ before after. FaultsRose before.faults after.faults;
}

-- a call that only reads: why it gave up, how many pages it asked for at most, and what it left
pub record ReadsOnShelf {X : Type 0} (most : ℕ) (before after : FileOnShelf)
    (result : Result X Fault) : Type 0 where
  pub broken : IsTrue (has_broken before.held.file) → result ≡ Err Broken
  pub cause : IfErr result
      (IsCausedIn (has_broken before.held.file) (FaultsRose before.faults after.faults) ⊥)
  pub asked : times_asked after.held.pages ≤ times_asked before.held.pages + most
  pub step : OnlyReadsFile before.held after.held before.shelf after.shelf before.faults after.faults

-- a call that makes this change of the file, or may break it
pub record ChangesOnShelf {X : Type 0} (change : Schema → FileChange X) (before after : FileOnShelf)
    (result : Result X Fault) : Type 0 where
  pub changes : Changes shown_on_shelf (change (file_schema before.held.file)) before after result
  pub breaks : MayBreak shown_on_shelf (change (file_schema before.held.file)).takes_pages before after result

-- the greatest prime value of the rows, if there is any
abbrev pub IsHighestPrime : Schema → List Row → Option (ArrayVec ℕ) → Type 0
IsHighestPrime schema rows key = option_map (λ (key : ArrayVec ℕ). key.items) key ≡ highest_of schema rows

-- on shelves that show this state
module _ {H : Type 0} (state : H → ShelfState) where
  -- where no wrong answer was taken as true, for each file that the pages stand for
  abbrev pub WhereStands : ShelfFile → H → H → (File → Type 0) → Type 0
  WhereStands held old new P = IsTrue (state new).is_honest → (file : File)
      → Stands held.file (live_of held (state old)) file → P file

  -- a call that reads the first row by key k that passes a test into the area
  abbrev pub FindsHeld : ℕ → (Row → Bool) → ShelfFile → H → H → (area now : List ℕ)
      → Result (Option Found) Fault → Type 0
  FindsHeld k test held old new area now result = FindsFirst (state new).is_honest held.file
      (live_of held (state old)) k test area now result

  -- whose key k has a value
  abbrev pub FindsByValueHeld : ℕ → (value : List ℕ) → ShelfFile → H → H → (area now : List ℕ)
      → Result (Option Found) Fault → Type 0
  FindsByValueHeld k value held old new area now result = FindsFirst (state new).is_honest held.file
      (live_of held (state old)) k (has_value (file_schema held.file) k value) area now result

  -- that a position admits
  abbrev pub FindsNextHeld : ℕ → Position → ShelfFile → H → H → (area now : List ℕ)
      → Result (Option Found) Fault → Type 0
  FindsNextHeld k position held old new area now result = FindsFirst (state new).is_honest held.file
      (live_of held (state old)) k (admits (file_schema held.file) k position) area now result

  -- a call that looks for the first value of key k that begins so related to an operand
  abbrev pub SeeksHeld : ℕ → Relation → (operand : List ℕ) → ShelfFile → H → H
      → Result (Option (ArrayVec ℕ)) Fault → Type 0
  SeeksHeld k relation operand held old new result = IsTrue (state new).is_honest
      → Seeks held.file (live_of held (state old)) k relation operand result

  -- a call that looks for the greatest prime value
  abbrev pub SeeksHighestHeld : ShelfFile → H → H → Result (Option (ArrayVec ℕ)) Fault → Type 0
  SeeksHighestHeld held old new result = WhereStands held old new (λ file.
      IsAnswer result (IsHighestPrime (file_schema held.file) file.rows))

  -- so, of shelves that count their faults so
  module _ (count : H → ℕ) {X : Type 0} where
    -- a call that only reads, and asks for at most so many pages
    abbrev pub ReadsHeld : ℕ → (held now : ShelfFile) → H → H → Result X Fault → Type 0
    ReadsHeld most held now old new result = ReadsOnShelf most (on_shelf held (state old) (count old))
        (on_shelf now (state new) (count new)) result

    -- one that reads a record by key k
    abbrev pub ReadsByKeyHeld : ℕ → (held now : ShelfFile) → H → H → Result X Fault → Type 0
    ReadsByKeyHeld k held now old new result = ReadsOnShelf (most_to_read (room_in held) k)
        (on_shelf held (state old) (count old)) (on_shelf now (state new) (count new)) result

    -- one that looks for a value of key k
    abbrev pub ReadsToSeekHeld : ℕ → (held now : ShelfFile) → H → H → Result X Fault → Type 0
    ReadsToSeekHeld k held now old new result = ReadsOnShelf (most_to_seek (room_in held) k)
        (on_shelf held (state old) (count old)) (on_shelf now (state new) (count new)) result

    -- a call that makes this change of the file
    abbrev pub ChangesHeld : (Schema → FileChange X) → (held now : ShelfFile) → H → H → Result X Fault
        → Type 0
    ChangesHeld change held now old new result = ChangesOnShelf change
        (on_shelf held (state old) (count old)) (on_shelf now (state new) (count new)) result

  module _ (count : H → ℕ) where
    -- a record is added
    abbrev pub AddsHeld : List ℕ → (held now : ShelfFile) → H → H → Result Added Fault → Type 0
    AddsHeld bytes held now old new result = ChangesHeld count (λ schema. addition schema bytes) held now
        old new result

    -- a record is put in the place of that of its prime value
    abbrev pub ReplacesHeld : List ℕ → (held now : ShelfFile) → H → H → Result Replaced Fault → Type 0
    ReplacesHeld bytes held now old new result = ChangesHeld count (λ schema. replacement schema bytes)
        held now old new result

    -- the record of a prime value is taken out
    abbrev pub RemovesHeld : List ℕ → (held now : ShelfFile) → H → H → Result Bool Fault → Type 0
    RemovesHeld prime held now old new result = ChangesHeld count (λ schema. removal schema prime)
        held now old new result
