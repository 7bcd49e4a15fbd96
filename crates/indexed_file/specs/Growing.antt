-- What adding a unit to a library leaves, and letting the file of one go.
use Rattle.std.specs.Prelude.{◌≡◌, ◌≢◌, ℕ, ◌<◌, Bool, false, List, [], ◌∷◌, ◌++◌, length, bytes_eq, Result}
use Rattle.std.specs.Prelude.{OnOk, OnErr, IsOkUnless, IsTrue, IsFalse}
use Rattle.std.specs.List.{list_any}
use Rattle.io_state.specs.declared.fault.Fault.{Fault}
use Rattle.io_state.specs.declared.fault.Fault.TheVariants.{Memory}
use Rattle.indexed_file.specs.World.{World, FileUnit, Shut, named_in}
use Rattle.indexed_file.specs.Shown.{Shown}
use Rattle.indexed_file.specs.Images.{AllStay}
use Rattle.indexed_file.specs.Calls.{Keeps}
use Rattle.indexed_file.specs.Others.{SameUnit}

-- a unit of the world has the name
abbrev pub has_unit_named : World → List ℕ → Bool
has_unit_named world name = list_any (λ unit. bytes_eq unit.name name) world.units

abbrev pub IsNewName : World → List ℕ → Type 0
IsNewName world name = IsFalse (has_unit_named world name)

-- the unit of a name that stands for what it stood for, shut
abbrev pub shut_unit : World → List ℕ → FileUnit
shut_unit world name = record { name = name; named = named_in world name; holding = Shut }

-- the units, and one of this name behind them
abbrev pub with_added_unit : World → List ℕ → List FileUnit
with_added_unit world name = world.units ++ shut_unit world name ∷ []

-- a unit of this name was added, unless memory was lacking. Every other unit stays, open or not,
-- every name stands for what it stood for, and so it is with all images
pub record AddsUnit {S : Type 0} (shown : Shown S) (name : List ℕ) (old new : S)
    (result : Result (Unit {0}) Fault) : Type 0 where
  pub units : OnOk result ((shown.world new).units ≡ with_added_unit (shown.world old) name)
  pub named : (other : List ℕ) → named_in (shown.world new) other ≡ named_in (shown.world old) other
  pub err : OnErr result (shown.world new ≡ shown.world old)
  pub only_memory : IsOkUnless result Memory
  pub others : (u : ℕ) → u < length (shown.world old).units → SameUnit shown u old new
  pub images : AllStay shown.moments old new
  pub keeps : Keeps shown old new

-- nothing changes but that a file is let go
pub record LetsFileGo {S : Type 0} (shown : Shown S) (old new : S) : Type 0 where
  pub world : shown.world new ≡ shown.world old
  pub units : (u : ℕ) → SameUnit shown u old new
  pub honest : shown.is_honest new ≡ shown.is_honest old
  pub truth : (name : List ℕ) → shown.IsShownTruly old name → shown.IsShownTruly new name
  pub count : shown.fault_count new ≡ shown.fault_count old
  pub limit : shown.page_limit new ≡ shown.page_limit old
  pub frames : shown.frames new ≡ shown.frames old
  pub images : AllStay shown.moments old new

-- ---- which files are kept open

-- the files kept open are those that were
abbrev pub KeepsOpen : {S : Type 0} → (S → ℕ → Bool) → (old new : S) → Type 0
KeepsOpen keeps_open old new = (u : ℕ) → keeps_open new u ≡ keeps_open old u

-- the file of unit u is let go, and no other one
pub record LetsGoOnly {S : Type 0} (keeps_open : S → ℕ → Bool) (u : ℕ) (old new : S) : Type 0 where
  pub gone : keeps_open new u ≡ false
  pub others : (v : ℕ) → v ≢ u → keeps_open new v ≡ keeps_open old v
