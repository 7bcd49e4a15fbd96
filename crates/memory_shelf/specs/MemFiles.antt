-- Files in memory, each under its name.
use Rattle.std.specs.Prelude.{ℕ, zero, suc, List, [], ◌∷◌, Option, Some, None, MatchOption, option_map}
use Rattle.std.specs.Prelude.{if◌then◌else◌, bytes_eq, ◌+◌, ◌≤◌, Bool, true, false, ◌≡◌, length, get_or, set}
use Rattle.std.specs.Prelude.{Result, IfOk, OnOk, OnErr, IsOkUnless}
use Rattle.io_state.specs.declared.fault.Fault.{Fault}
use Rattle.io_state.specs.declared.fault.Fault.TheVariants.{Memory}
use Rattle.page_store.specs.DeviceFile.{DeviceFile, absent, synced, IsWithin}
use Rattle.page_store.specs.Images.{durable}
use Rattle.memory_shelf.specs.Events.{steps}
use Rattle.memory_shelf.specs.CrashImages.{filled_by_ranges}
use Rattle.memory_shelf.specs.declared.memory_file.MemFile.{MemFile}

abbrev pub is_file_of_name : MemFile → List ℕ → Bool
is_file_of_name f name = bytes_eq f.name.bytes name

-- what a file in memory stands for
abbrev pub device_file_of : MemFile → DeviceFile
device_file_of f = record { seen = Some f.bytes.items; log = steps f.log.items }

-- its bytes, with this one wherever a write was asked for since the last sync
abbrev pub filled_file : ℕ → MemFile → List ℕ
filled_file byte f = filled_by_ranges byte (durable (steps f.log.items)).ranges 0 f.bytes.items

-- a file that has just been synced
abbrev pub just_synced : List ℕ → DeviceFile
just_synced bytes = record { seen = Some bytes; log = synced bytes ∷ [] }

-- a file is made, named so, of which this is true, unless memory is lacking
pub record MakesMemFile (IsNamed : MemFile → Type 0) (IsMade : DeviceFile → Type 0)
    (result : Result MemFile Fault) : Type 0 where
  pub named : IfOk result IsNamed
  pub made : IfOk result (λ file. IsMade (device_file_of file))
  pub only_memory : IsOkUnless result Memory

-- a file changes, and keeps its name: how it goes where memory is there, and how where it is lacking
pub record ChangesMemFile (Done Failed : DeviceFile → DeviceFile → Type 0) (old new : MemFile)
    (result : Result (Unit {0}) Fault) : Type 0 where
  pub name : new.name ≡ old.name
  pub done : OnOk result (Done (device_file_of old) (device_file_of new))
  pub failed : OnErr result (Failed (device_file_of old) (device_file_of new))
  pub only_memory : IsOkUnless result Memory

-- the file of this name
abbrev pub file_by_name : List MemFile → List ℕ → DeviceFile
file_by_name [] name = absent
file_by_name (f ∷ fs) name = if is_file_of_name f name then device_file_of f else file_by_name fs name

-- and where it stands
abbrev pub index_of : List MemFile → List ℕ → Option ℕ
index_of [] name = None
index_of (f ∷ fs) name = if is_file_of_name f name then Some 0 else option_map (λ i. i + 1) (index_of fs name)

-- the first with this name is at i
abbrev pub IsFirstNamedAt : List MemFile → List ℕ → ℕ → Type 0
IsFirstNamedAt [] name i = ⊥
IsFirstNamedAt (f ∷ fs) name zero = is_file_of_name f name ≡ true
IsFirstNamedAt (f ∷ fs) name (suc i) = (is_file_of_name f name ≡ false) × IsFirstNamedAt fs name i

-- what is known of a file that was found
pub record Found (fs : List MemFile) (name : List ℕ) (i : ℕ) : Type 0 where
  pub at : IsFirstNamedAt fs name i
  pub file : (d : MemFile) → file_by_name fs name ≡ device_file_of (get_or fs i d)
  pub named : (d : MemFile) → is_file_of_name (get_or fs i d) name ≡ true
  pub within : (d : MemFile) (n : ℕ) → IsWithin n (file_by_name fs name) → n
      ≤ length (get_or fs i d).bytes.items

-- the place at which the file of this name was found, or none where it is absent
abbrev pub IsPlaceOfFile : List MemFile → List ℕ → Option ℕ → Type 0
IsPlaceOfFile fs name place = MatchOption place ((file_by_name fs name).seen ≡ None) (λ i. Found fs name i)

-- one file is changed in its place
pub record ChangedMemFile (fs : List MemFile) (name : List ℕ) (i : ℕ) (f g : MemFile) : Type 0 where
  pub was : file_by_name fs name ≡ device_file_of f
  pub this : file_by_name (set fs i g) name ≡ device_file_of g
  pub others : (other : List ℕ) → ¬ (other ≡ name) → file_by_name (set fs i g) other ≡ file_by_name fs other
