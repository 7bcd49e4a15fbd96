-- The kinds of calls on a unit: what each call of a kind promises, besides its answer.
use Rattle.std.specs.Prelude.{◌≡◌, ◌≢◌, ℕ, ◌≤◌, ◌⊎◌, List, Option, None, option_map, Result, Ok, Err, OnOk}
use Rattle.std.specs.Prelude.{OnErr, IfOk, IfErr, IsOkUnless, IsTrue, IsFalse}
use Rattle.arrayvec.specs.ArrayVec.{ArrayVec}
use Rattle.io_state.specs.declared.fault.Fault.{Fault}
use Rattle.io_state.specs.declared.fault.Fault.TheVariants.{Memory, Full, Damage, Broken as BrokenUnit}
use Rattle.io_state.specs.declared.modes.Relation.{Relation}
use Rattle.io_state.specs.declared.position.Position.{Position}
use Rattle.record_layout.specs.Schema.{Schema}
use Rattle.indexed_file.specs.File.{Row, empty_file}
use Rattle.indexed_file.specs.World.{World, OnlyAt, Unsound, Shut, Opened, holding_at, named_at, name_at}
use Rattle.indexed_file.specs.World.{schema_at, file_at, is_open, is_broken, opened_from, attached}
use Rattle.indexed_file.specs.declared.answer.Found.{Found}
use Rattle.indexed_file.specs.declared.answer.Seen.{Seen}
use Rattle.indexed_file.specs.Answers.{area_after, seen_of}
use Rattle.indexed_file.specs.FileChange.{FileChange, has_room_for, LacksRoomFor}
use Rattle.indexed_file.specs.UnitAnswers.{found_at, world_changed, row_by_key, row_next, row_sought}
use Rattle.indexed_file.specs.UnitAnswers.{key_of_row_at}
use Rattle.indexed_file.specs.UnitAnswers.{highest_at}
use Rattle.indexed_file.specs.Room.{most_to_read, most_to_change, room_of_new}
use Rattle.indexed_file.specs.Shown.{Shown}
use Rattle.indexed_file.specs.Believed.{Believed}
use Rattle.indexed_file.specs.Images.{Trace, AllStay, CallGoes, untouched, trace_of_change, trace_of_shut}
use Rattle.indexed_file.specs.Calls.{Keeps, OnlyReads, MayAnswer, MayAnswerShut, LeavesBroken, SamePages}
use Rattle.indexed_file.specs.Calls.{StaysOrUnsound, NamesFile, is_unmade, AsksAtMost}
use Rattle.indexed_file.specs.Others.{LeavesOthers}

-- the count of a unit's pages begins again, and nothing else changes
pub record RestartsCount {S : Type 0} (shown : Shown S) (u : ℕ) (old new : S) : Type 0 where
  pub asked : shown.pages_asked new u ≡ 0
  pub others : (v : ℕ) → v ≢ u → shown.pages_asked new v ≡ shown.pages_asked old v
  pub world : shown.world new ≡ shown.world old
  pub room : (v : ℕ) → shown.room new v ≡ shown.room old v
  pub counts : (v : ℕ) → shown.page_counts new v ≡ shown.page_counts old v
  pub honest : shown.is_honest new ≡ shown.is_honest old
  pub truth : (name : List ℕ) → shown.IsShownTruly old name → shown.IsShownTruly new name
  pub count : shown.fault_count new ≡ shown.fault_count old
  pub limit : shown.page_limit new ≡ shown.page_limit old
  pub frames : shown.frames new ≡ shown.frames old
  pub images : AllStay shown.moments old new

-- a call on unit u lacked memory, and that is all: its name stands for what it stood for, a crash
-- leaves of every name what it could leave before, and no further fault of the device was counted
pub record LacksMemoryAlone {S : Type 0} (shown : Shown S) (u : ℕ) (old new : S) : Type 0 where
  pub named : named_at (shown.world new) u ≡ named_at (shown.world old) u
  pub images : AllStay shown.moments old new
  pub count : shown.fault_count new ≡ shown.fault_count old

-- a call that opens unit u, or looks whether it can be opened: a fault leaves it shut. It is no
-- Damage where the library is honest, since a first page that is not right is refused; and Memory
-- stands for no other fault
pub record OpensUnit {S X : Type 0} (shown : Shown S) (u : ℕ) (trace : Trace) (old new : S)
    (result : Result X Fault) : Type 0 where
  pub err : OnErr result (holding_at (shown.world new) u ≡ Shut)
  pub unbroken : OnOk result (IsFalse (is_broken (holding_at (shown.world new) u)))
  pub only : OnlyAt u (shown.world old) (shown.world new)
  pub fault : IfErr result (MayAnswerShut shown u old new)
  pub undamaged : IsTrue (shown.is_honest new) → IfErr result (λ fault. fault ≢ Damage)
  pub memory : result ≡ Err Memory → LacksMemoryAlone shown u old new
  pub images : CallGoes shown u trace old new
  pub others : LeavesOthers shown u old new
  pub keeps : Keeps shown old new

-- a call that only reads the open unit u, and asks for so many of its pages at most: the count of
-- them does not fall
pub record ReadsUnit {S X : Type 0} (shown : Shown S) (u most : ℕ) (old new : S)
    (result : Result X Fault) : Type 0 where
  pub asked : Believed shown u old new (AsksAtMost shown u most old new result)
  pub counted : shown.pages_asked old u ≤ shown.pages_asked new u
  pub world : OnlyReads u (shown.is_honest new) (shown.world old) (shown.world new)
  pub pages : SamePages shown u old new
  pub broken : IsTrue (is_broken (holding_at (shown.world old) u)) → result ≡ Err BrokenUnit
  pub fault : IfErr result (MayAnswer shown u old new)
  pub images : CallGoes shown u untouched old new
  pub others : LeavesOthers shown u old new
  pub keeps : Keeps shown old new

-- a call that looks in the open unit u for this row by key k, and reads its record into the front of the area
pub record FindsRow {S : Type 0} (shown : Shown S) (u k : ℕ) (row : Option Row) (before after : List ℕ)
    (old new : S)
    (result : Result (Option Found) Fault) : Type 0 where
  pub found : Believed shown u old new (IfOk result (λ found. found ≡ found_at (shown.world old) u k row))
  pub area : Believed shown u old new (OnOk result (after ≡ area_after before row))
  pub none : result ≡ Ok None → after ≡ before
  pub err : OnErr result (after ≡ before)
  pub reads : ReadsUnit shown u (most_to_read (shown.room old u) k) old new result

-- a call on unit u has given up: it has only read, and the reason is to be believed
abbrev pub GivesUp : {S : Type 0} → Shown S → ℕ → S → S → Type 0 → Type 0
GivesUp shown u old new reason =
    OnlyReads u (shown.is_honest new) (shown.world old) (shown.world new) × Believed shown u old new reason

-- a call that makes this change of the open unit u, which stays open: it answers Full exactly where
-- the change does not clash and lacks room, and any other fault leaves the unit broken. The count
-- of its pages does not fall
pub record ChangesUnit {S X : Type 0} (shown : Shown S) (u : ℕ) (change : FileChange X) (old new : S)
    (result : Result X Fault) : Type 0 where
  pub answer : Believed shown u old new (IfOk result
      (λ answer. answer ≡ change.answer (file_at (shown.world old) u)))
  pub done : Believed shown u old new (OnOk result
      (shown.world new ≡ world_changed change (shown.world old) u))
  pub room : Believed shown u old new (OnOk result
      (IsTrue (has_room_for (shown.room old u) change (file_at (shown.world old) u))))
  pub full : result ≡ Err Full → IsTrue change.takes_pages
      × GivesUp shown u old new (LacksRoomFor (shown.room old u) change (file_at (shown.world old) u))
  pub asked : Believed shown u old new (AsksAtMost shown u (most_to_change (shown.room old u)) old new result)
  pub counted : shown.pages_asked old u ≤ shown.pages_asked new u
  pub broken : IsTrue (is_broken (holding_at (shown.world old) u)) → result ≡ Err BrokenUnit
  pub fault : IfErr result (λ fault. fault ≢ Full
      → LeavesBroken u (shown.is_honest new) (shown.world old) (shown.world new)
      × MayAnswer shown u old new fault)
  pub unbroken : OnOk result (IsFalse (is_broken (holding_at (shown.world new) u)))
  pub only : OnlyAt u (shown.world old) (shown.world new)
  pub opened : IsTrue (is_open (holding_at (shown.world new) u))
  pub schema : schema_at (shown.world new) u ≡ schema_at (shown.world old) u
  pub unmade : IsTrue (is_unmade change.is_made result) → SamePages shown u old new
  pub images : CallGoes shown u (trace_of_change change.is_made result) old new
  pub others : LeavesOthers shown u old new
  pub keeps : Keeps shown old new

-- a call that shuts the open unit u, whatever it answers
pub record ShutsUnit {S X : Type 0} (shown : Shown S) (u : ℕ) (old new : S)
    (result : Result X Fault) : Type 0 where
  pub shut : holding_at (shown.world new) u ≡ Shut
  pub only : OnlyAt u (shown.world old) (shown.world new)
  pub fault : IfErr result (MayAnswer shown u old new)
  pub images : CallGoes shown u (trace_of_shut (named_at (shown.world old) u)
      (holding_at (shown.world old) u) result) old new
  pub others : LeavesOthers shown u old new
  pub keeps : Keeps shown old new

-- the file of unit u is new: it is open without rows and shown truly, its name is unsound until it
-- is closed, and it has the room of a new file
pub record IsNew {S : Type 0} (shown : Shown S) (u : ℕ) (schema : Schema) (old new : S) : Type 0 where
  pub named : named_at (shown.world new) u ≡ Unsound
  pub holding : holding_at (shown.world new) u ≡ Opened schema empty_file
  pub truly : shown.IsShownTruly new (name_at (shown.world old) u)
  pub room : shown.room new u ≡ room_of_new (shown.page_limit new) schema

-- ---- what a call answers and leaves of its unit, in so many words

-- unit u is open with this schema
abbrev pub IsOpenAs : World → ℕ → Schema → Type 0
IsOpenAs world u schema = IsTrue (is_open (holding_at world u)) × (schema_at world u ≡ schema)

-- of a library before and after a call
module _ {S : Type 0} (shown : Shown S) where
  -- the units are those of these names, where the call was answered
  abbrev pub AttachesUnits : List (List ℕ) → S → S → Result (Unit {0}) Fault → Type 0
  AttachesUnits names old new result =
      OnOk result ((shown.world new).units ≡ attached (shown.world old) names)

  -- a call that was not answered lacked memory, and leaves the world
  abbrev pub LacksMemoryAtMost : S → S → Result (Unit {0}) Fault → Type 0
  LacksMemoryAtMost old new result = OnErr result (shown.world new ≡ shown.world old)
      × IsOkUnless result Memory

  module _ (u : ℕ) where
    -- a look tells what the name stands for
    abbrev pub TellsNamed : S → S → Result Seen Fault → Type 0
    TellsNamed old new result = IsTrue (shown.is_honest new)
        → IfOk result (λ seen. seen ≡ seen_of (named_at (shown.world old) u))

    -- the name stays or is unsound, where a file was not made
    abbrev pub StaysOrUnsoundAtFault : S → S → Result (Unit {0}) Fault → Type 0
    StaysOrUnsoundAtFault old new result = IsTrue (shown.is_honest new)
        → OnErr result (StaysOrUnsound u (shown.world old) (shown.world new))

    -- the unit has the file that its name stood for, where it was opened, and so many pages
    abbrev pub OpensNamed : S → S → Result (Unit {0}) Fault → Type 0
    OpensNamed old new result = IsTrue (shown.is_honest new)
        → OnOk result (holding_at (shown.world new) u ≡ opened_from (named_at (shown.world old) u))

    abbrev pub KeepsPageCounts : S → S → Result (Unit {0}) Fault → Type 0
    KeepsPageCounts old new result = IsTrue (shown.is_honest new)
        → OnOk result (shown.page_counts new u ≡ shown.page_counts old u)

    -- the first row of a value of key k is found, and that which comes next at a position
    abbrev pub FindsByKey : (k : ℕ) → (value before after : List ℕ) → S → S
        → Result (Option Found) Fault → Type 0
    FindsByKey k value before after old new result =
        FindsRow shown u k (row_by_key (shown.world old) u k value) before after old new result

    abbrev pub FindsNext : (k : ℕ) → Position → (before after : List ℕ) → S → S
        → Result (Option Found) Fault → Type 0
    FindsNext k position before after old new result =
        FindsRow shown u k (row_next (shown.world old) u k position) before after old new result

    -- the value of key k is told of the row that a START looks for; and the greatest prime value
    abbrev pub FindsValue : (k : ℕ) → Relation → (operand : List ℕ) → S → S
        → Result (Option (ArrayVec ℕ)) Fault → Type 0
    FindsValue k relation operand old new result = Believed shown u old new (IfOk result
        (λ found. found ≡ key_of_row_at (shown.world old) u k
        (row_sought (shown.world old) u k relation operand)))

    abbrev pub FindsHighest : S → S → Result (Option (ArrayVec ℕ)) Fault → Type 0
    FindsHighest old new result = Believed shown u old new (IfOk result
        (λ found. option_map (λ (key : ArrayVec ℕ). key.items) found ≡ highest_at (shown.world old) u))

    -- the name stands for the file of a unit that was shut; at a fault for that, or it is unsound
    abbrev pub NamesFileAtShut : S → S → Result (Unit {0}) Fault → Type 0
    NamesFileAtShut old new result = Believed shown u old new
        (OnOk result (NamesFile u (shown.world old) (shown.world new)))

    abbrev pub NamesFileAtFault : S → S → Result (Unit {0}) Fault → Type 0
    NamesFileAtFault old new result = Believed shown u old new (IfErr result (λ fault. fault ≢ BrokenUnit
        → NamesFile u (shown.world old) (shown.world new) ⊎ (named_at (shown.world new) u ≡ Unsound)))

    -- the name of a broken unit stays, and so does one that stands for the file
    abbrev pub KeepsNameOfBroken : S → S → Result (Unit {0}) Fault → Type 0
    KeepsNameOfBroken old new result = IsTrue (is_broken (holding_at (shown.world old) u))
        → (result ≡ Err BrokenUnit) × (named_at (shown.world new) u ≡ named_at (shown.world old) u)

    abbrev pub KeepsNameOfFile : S → S → Type 0
    KeepsNameOfFile old new = Believed shown u old new (NamesFile u (shown.world old) (shown.world old)
        → named_at (shown.world new) u ≡ named_at (shown.world old) u)
