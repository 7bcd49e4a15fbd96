-- What is asked of pages, and where what they told is believed.
use Rattle.std.specs.Prelude.{ℕ, ◌+◌, ◌*◌, ◌≤◌, ◌<◌, slice_index, IsTrue, IsFalse}
use Rattle.record_layout.specs.Schema.{key_at, has_duplicates}
use Rattle.indexed_file.specs.Room.{most_to_read, most_to_seek}
use Rattle.pages.specs.PageMap.{PageMap}
use Rattle.pages.specs.ShownPages.{ShownPages}
use Rattle.key_index.specs.Standing.{prime_height, alt_height}
use Rattle.key_index.specs.declared.alt_index.AltIndex.{AltIndex}
use Rattle.open_file.specs.Stands.{room_of, heights_of}
use Rattle.open_file.specs.declared.open_file.OpenFile.{OpenFile}

-- where no wrong answer of the device was taken as true, this is so of the pages as they were before the call
abbrev pub OfHonestPages : {S : Type 0} → ShownPages S → S → S → (PageMap → Type 0) → Type 0
OfHonestPages shown before after fact = IsTrue (shown.state after).is_honest → fact (shown.state before).live

-- no more than these pages were asked for
abbrev pub AsksFor : {S : Type 0} → ShownPages S → ℕ → S → S → Type 0
AsksFor shown most before after = (shown.state after).asked ≤ (shown.state before).asked + most

-- fewer pages are left than these
abbrev pub LacksPages : {S : Type 0} → ShownPages S → S → ℕ → Type 0
LacksPages shown pages need = (shown.state pages).available < need

-- no more than so many were asked for, by a key that one record alone can have
abbrev pub AsksAlone : {S : Type 0} → ShownPages S → OpenFile → ℕ → ℕ → S → S → Type 0
AsksAlone shown opened k most before after = IsFalse (has_duplicates (key_at opened.schema k))
    → AsksFor shown most before after

-- the most that a call asks for that reads a record by key k
abbrev pub pages_to_read : {S : Type 0} → ShownPages S → OpenFile → S → ℕ → ℕ
pages_to_read shown opened pages k = most_to_read (room_of opened (shown.state pages).available) k

-- the most that one asks for that looks for a value of key k
abbrev pub pages_to_seek : {S : Type 0} → ShownPages S → OpenFile → S → ℕ → ℕ
pages_to_seek shown opened pages k = most_to_seek (room_of opened (shown.state pages).available) k

-- the most that a look for a value of key k asks for, and then for its record
abbrev pub most_by_key : OpenFile → ℕ → ℕ
most_by_key opened k = 2 * slice_index (heights_of opened) k + prime_height opened.prime + 1

-- by a key that one record alone can have
abbrev pub most_by_unique_key : OpenFile → ℕ → ℕ
most_by_unique_key opened k = slice_index (heights_of opened) k + prime_height opened.prime + 1

-- the most that the record of an entry asks for, and a look whether the next one has its value
abbrev pub most_by_entry : OpenFile → AltIndex → ℕ
most_by_entry opened index = 2 * alt_height index + prime_height opened.prime + 1
