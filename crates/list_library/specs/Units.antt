-- What a unit of a list library shows.
use Rattle.indexed_file.specs.Rank.{highest_of}
use Rattle.std.specs.Prelude.{◌≡◌, ℕ, Bool, true, false, List, [], ◌∷◌, bytes_eq, Option, Some, None}
use Rattle.std.specs.Prelude.{unwrap_or, Result, Err, OnOk, IfOk, IfErr, IsTrue, IsFalse, if◌then◌else◌}
use Rattle.std.specs.List.{list_all}
use Rattle.list_library.specs.declared.list_unit.UnitState.{UnitState}
use Rattle.list_library.specs.declared.list_unit.UnitState.TheVariants.{IsShut, IsLooked, IsOpened, IsBroken}
use Rattle.io_state.specs.declared.fault.Fault.{Fault}
use Rattle.io_state.specs.declared.fault.Fault.TheVariants.{Device, Memory, Full, Damage}
use Rattle.io_state.specs.declared.fault.Fault.TheVariants.{Broken as BrokenUnit}
use Rattle.indexed_file.specs.File.{File, empty_file}
use Rattle.indexed_file.specs.FileChange.{FileChange, has_room_for, LacksRoomFor}
use Rattle.indexed_file.specs.Room.{Endless}
use Rattle.list_library.specs.Stored.{Stored}
use Rattle.indexed_file.specs.SoundWorld.{is_sound_unit}
use Rattle.indexed_file.specs.World.{Named, Absent, Closed, Unsound, Holding, Shut, Looked, Opened, Broken}
use Rattle.indexed_file.specs.World.{FileUnit, file_in, schema_in, is_broken}

-- a name stands for its file, unless that was changed since
abbrev pub named_by_change : Bool → Option Stored → Named
named_by_change true file = Unsound
named_by_change false None = Absent
named_by_change false (Some file) = Closed file.schema file.file

-- what a unit in this state holds
abbrev pub holding_by_state : UnitState → Option Stored → Holding
holding_by_state IsShut file = Shut
holding_by_state IsLooked None = Shut
holding_by_state IsLooked (Some file) = Looked file.schema
holding_by_state IsOpened None = Shut
holding_by_state IsOpened (Some file) = Opened file.schema file.file
holding_by_state IsBroken None = Shut
holding_by_state IsBroken (Some file) = Broken file.schema

abbrev pub is_looked_state : UnitState → Bool
is_looked_state IsShut = false
is_looked_state IsLooked = true
is_looked_state IsOpened = false
is_looked_state IsBroken = false

-- a unit
abbrev pub unit_by : List ℕ → Option Stored → Bool → UnitState → FileUnit
unit_by name file changed state = record {
  name = name;
  named = named_by_change changed file;
  holding = holding_by_state state file;
}

-- what a name stands for among these units
abbrev pub named_among : List FileUnit → List ℕ → Named
named_among [] name = Absent
named_among (unit ∷ units) name = if bytes_eq unit.name name then unit.named else named_among units name

-- every name but this one stands among the units for what it stood for
abbrev pub KeepsNamesBut : List ℕ → List FileUnit → List FileUnit → Type 0
KeepsNamesBut own old new = (name : List ℕ) → IsFalse (bytes_eq own name)
    → named_among new name ≡ named_among old name

-- a unit whose name stands for nothing
abbrev pub absent_unit : List ℕ → FileUnit
absent_unit name = record { name = name; named = Absent; holding = Shut }

-- a unit that is shut, and stands for what its name stands for among these units
abbrev pub in_place_among : List FileUnit → List ℕ → FileUnit
in_place_among units name = record { name = name; named = named_among units name; holding = Shut }

-- a unit is now what stood for this name among the others; they keep every other name, and are
-- sound where they were
pub record TakesPlace (own : List ℕ) (now : FileUnit) (old new : List FileUnit) : Type 0 where
  pub unit : now ≡ in_place_among old own
  pub others : KeepsNamesBut own old new
  pub sound : IsTrue (list_all is_sound_unit old) → IsTrue (list_all is_sound_unit new)

-- the file that a unit holds, with no rows where there is none
abbrev pub file_or_empty : Holding → File
file_or_empty holding = unwrap_or (file_in holding) empty_file

-- the greatest prime value of what a unit holds
abbrev pub highest_in : Holding → Option (List ℕ)
highest_in holding = highest_of (schema_in holding) (file_or_empty holding).rows

-- a broken unit answers so, and no other unit does
pub record AnswersBroken {X : Type 0} (holding : Holding) (result : Result X Fault) : Type 0 where
  pub always : IsTrue (is_broken holding) → result ≡ Err BrokenUnit
  pub only : IfErr result (λ fault. (fault ≡ BrokenUnit) × IsTrue (is_broken holding))

-- the unit with other rows, and so with a name that is unsound
abbrev pub with_rows : FileUnit → File → FileUnit
with_rows unit file = record unit { named = Unsound; holding = Opened (schema_in unit.holding) file }

-- the unit after a change of its file: where nothing was made it stays
abbrev pub unit_changed : {X : Type 0} → FileChange X → FileUnit → FileUnit
unit_changed change unit =
    if change.is_made (change.answer (file_or_empty unit.holding)) then with_rows unit
    (change.leaves (file_or_empty unit.holding)) else unit

-- the unit after it was closed
abbrev pub unit_after_shut : FileUnit → FileUnit
unit_after_shut unit = record unit {
  named = Closed (schema_in unit.holding) (file_or_empty unit.holding);
  holding = Shut;
}

-- a change that failed: Full under this condition, and then nothing is changed; Memory, and then
-- the unit is broken; Broken on a broken unit
abbrev pub FailsChange : FileUnit → FileUnit → Type 0 → Fault → Type 0
FailsChange old new is_full Full = is_full × (new ≡ old)
FailsChange old new is_full Memory = IsFalse (is_broken old.holding)
    × (new ≡ record old { holding = Broken (schema_in old.holding) })
FailsChange old new is_full BrokenUnit = IsTrue (is_broken old.holding) × (new ≡ old)
FailsChange old new is_full Device = ⊥
FailsChange old new is_full Damage = ⊥

-- this change was made of the file that the unit holds, or failed
pub record ChangesHeld {X : Type 0} (change : FileChange X) (old new : FileUnit)
    (result : Result X Fault) : Type 0 where
  pub answer : IfOk result (λ answer. answer ≡ change.answer (file_or_empty old.holding))
  pub unit : OnOk result (new ≡ unit_changed change old)
  pub room : OnOk result (IsTrue (has_room_for Endless change (file_or_empty old.holding)))
  pub fault : IfErr result (FailsChange old new (LacksRoomFor Endless change (file_or_empty old.holding)))
  pub broken : IsTrue (is_broken old.holding) → result ≡ Err BrokenUnit
