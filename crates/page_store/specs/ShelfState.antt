-- What a shelf shows, and what a call leaves of it.
use Rattle.std.specs.Prelude.{◌≡◌, ◌⊎◌, ℕ, ◌+◌, ◌-◌, ◌^◌, ◌<◌, ◌≤◌, min, Bool, IsTrue, List, [], length}
use Rattle.std.specs.Prelude.{get_or, Result, IsOkUnless, OnErr}
use Rattle.io_state.specs.declared.fault.Fault.{Fault}
use Rattle.io_state.specs.declared.fault.Fault.TheVariants.{Device}
use Rattle.page_store.specs.DeviceFile.{DeviceFile}

pub record ShelfState : Type 0 where
  -- the name of each unit
  pub names : List (List ℕ)
  -- the file of each name
  pub file : List ℕ → DeviceFile
  -- no wrong answer was taken as true; it may fall at a call that answers, and no code can tell
  pub is_honest : Bool

-- the unit is one of those attached
pub record HasUnit (shelf : ShelfState) (unit : ℕ) : Type 0 where
  pub attached : unit < length shelf.names

abbrev pub unit_name : ShelfState → ℕ → List ℕ
unit_name shelf unit = get_or shelf.names unit []

-- the shelf with these names of units, in place of those that it had
abbrev pub attached_as : List (List ℕ) → ShelfState → ShelfState
attached_as names shelf = record shelf { names = names }

-- the file of a unit
abbrev pub unit_file : ShelfState → ℕ → DeviceFile
unit_file shelf unit = shelf.file (unit_name shelf unit)

-- where the shelf is honest, this is true of the unit's file
abbrev pub WhereHonest : ShelfState → ℕ → (DeviceFile → Type 0) → Type 0
WhereHonest shelf unit P = IsTrue shelf.is_honest → P (unit_file shelf unit)

-- this is true of the unit's file before and after
abbrev pub FileGoes : ℕ → ShelfState → ShelfState → (DeviceFile → DeviceFile → Type 0) → Type 0
FileGoes unit old new P = P (unit_file old unit) (unit_file new unit)

-- a call that only answers: the names and files stay, and honest after is honest before
pub record OnlyAnswers (old new : ShelfState) : Type 0 where
  pub names : new.names ≡ old.names
  pub file : new.file ≡ old.file
  pub honest : IsTrue new.is_honest → IsTrue old.is_honest

-- a call that changes only the file of one unit
pub record ChangesOnly (unit : ℕ) (old new : ShelfState) : Type 0 where
  pub names : new.names ≡ old.names
  pub others : (name : List ℕ) → ¬ (name ≡ unit_name old unit) → new.file name ≡ old.file name
  pub honest : new.is_honest ≡ old.is_honest

-- calls that answer, and change only the file of one unit
pub record KeepsOthers (unit : ℕ) (old new : ShelfState) : Type 0 where
  pub names : new.names ≡ old.names
  pub others : (name : List ℕ) → ¬ (name ≡ unit_name old unit) → new.file name ≡ old.file name
  pub honest : IsTrue new.is_honest → IsTrue old.is_honest

-- a fault is Device, and comes only where the count of faults rose, or stands at its greatest value
pub record FaultHasCause {T : Type 0} (old new : ℕ) (result : Result T Fault) : Type 0 where
  pub no_fewer : old ≤ new
  pub counted : OnErr result (min (old + 1) (2 ^ 64 - 1) ≤ new)
  pub device : IsOkUnless result Device
