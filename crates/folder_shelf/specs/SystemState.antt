-- What is known of a system: the files of its units, and what it was asked and answered.
use Rattle.std.specs.Prelude.{◌≡◌, ◌<◌, ◌≤◌, ℕ, List, [], ◌∷◌, ◌++◌, map, length, get_or, codes}
use Rattle.std.specs.Prelude.{Bool, true, false, Option, Some, None, Result, Ok, Err, IfOk, OnOk, OnErr}
use Rattle.std.specs.Prelude.{IsOkUnless}
use Rattle.std.specs.Global.{Vec}
use Rattle.io_state.specs.declared.fault.Fault.{Fault}
use Rattle.io_state.specs.declared.fault.Fault.TheVariants.{Memory}
use Rattle.system_files.specs.declared.front.ReadFault.{ReadFault}
use Rattle.folder_shelf.specs.Calls.{Call, entered}

pub record SystemState : Type 0 where
  -- the path of the folder of its units
  pub folder : List ℕ
  -- the name of the file of each unit in that folder
  pub names : List (List ℕ)
  -- each call on a file or a folder, with its answer, the newest in front
  pub calls : List Call

-- the path of the file of a name in the folder of a path
abbrev pub file_path : (folder name : List ℕ) → List ℕ
file_path folder name = folder ++ codes "/" ++ name

-- the path of the file of each unit
abbrev pub unit_paths : SystemState → List (List ℕ)
unit_paths system = map (file_path system.folder) system.names

-- the path of the file of a unit
abbrev pub unit_path : SystemState → ℕ → List ℕ
unit_path system unit = get_or (unit_paths system) unit []

-- there is such a unit
abbrev pub IsUnit : SystemState → ℕ → Type 0
IsUnit system unit = unit < length system.names

-- a call is noted with its answer
abbrev pub with_call : Call → SystemState → SystemState
with_call call system = record system { calls = call ∷ system.calls }

-- a call on the file of a unit is noted with its answer
abbrev pub noted_of : ℕ → (List ℕ → Call) → SystemState → SystemState
noted_of unit call system = with_call (call (unit_path system unit)) system

-- units are files of the folder of this path, and there is none yet
abbrev pub entered_at : List ℕ → SystemState → SystemState
entered_at path system =
    record { folder = path; names = []; calls = entered path ∷ system.calls }

-- units are the files of these names
abbrev pub with_units : List (List ℕ) → SystemState → SystemState
with_units names system = record system { names = names }

-- the record is another one
abbrev pub recording : List Call → SystemState → SystemState
recording calls system = record system { calls = calls }

-- what was told, if that was
abbrev pub if_told : {X E : Type 0} → Result X E → Option X
if_told (Ok x) = Some x
if_told (Err e) = None

-- whether a call was done
abbrev pub is_done : {X E : Type 0} → Result X E → Bool
is_done (Ok x) = true
is_done (Err e) = false

-- the units are the files of these names, or memory was lacking, and they are those that they were
pub record AttachesNames (names : List (List ℕ)) (old new : SystemState) (result : Result Unit Fault)
    : Type 0 where
  pub attached : OnOk result (new ≡ with_units names old)
  pub failed : OnErr result (new ≡ old)
  pub only_memory : IsOkUnless result Memory

-- at most so many bytes were given, and that is noted; or it is, that they did not come
pub record TakesBytes (most : ℕ) (call : Option (List ℕ) → Call) (old new : SystemState)
    (result : Result (Vec ℕ) ReadFault) : Type 0 where
  pub came : IfOk result (λ bytes. new ≡ with_call (call (Some bytes.items)) old)
  pub within : IfOk result (λ bytes. length bytes.items ≤ most)
  pub failed : OnErr result (new ≡ with_call (call None) old)
