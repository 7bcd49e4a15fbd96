-- The record of a shelf stays that of its folder.
use Rattle.std.proofs.Common.{◌≡◌, ◌<◌, ◌&&◌, [], ◌∷◌, ◌++◌, Bool, true, List, ℕ, length, take, bytes_eq, codes, get_or, refl, sym, ◌∙◌, ap, subst}
use Rattle.std.proofs.lemmas.List.{get_or-map}
use Rattle.std.proofs.Math.Seq.{take-append_seam}
use Rattle.std.proofs.lemmas.Slice.Eq.{bytes_eq-Decides}
use Rattle.folder_shelf.specs.Calls.{Call}
use Rattle.folder_shelf.specs.SystemState.{SystemState, file_path, unit_path, noted_of}
use Rattle.folder_shelf.specs.Within.{is_below, stay_within}

same : (bytes : List ℕ) → bytes_eq bytes bytes ≡ true
same bytes = (bytes_eq-Decides bytes bytes).1 refl

file_below : (folder name : List ℕ) → is_below folder (file_path folder name) ≡ true
file_below folder name = ap (λ (front : List ℕ). bytes_eq front (folder ++ codes "/")) (take-append_seam (folder ++ codes "/") name) ∙ same (folder ++ codes "/")

unit_below : (system : SystemState) (unit : ℕ) → unit < length system.names → is_below system.folder (unit_path system unit) ≡ true
unit_below system unit has = ap (is_below system.folder) (get_or-map (file_path system.folder) system.names unit [] [] has) ∙ file_below system.folder (get_or system.names unit [])

pub entered_within : (path : List ℕ) → bytes_eq path path ≡ true
entered_within = same

-- a call of a kind that is on files
abbrev pub IsOnFiles : SystemState → (List ℕ → Call) → Type 0
IsOnFiles system call = (path : List ℕ) → stay_within system.folder (call path ∷ system.calls) ≡ (is_below system.folder path && stay_within system.folder system.calls)

pub noted_within : (system after : SystemState) (unit : ℕ) (call : List ℕ → Call) → unit < length system.names → IsOnFiles system call
    → after ≡ noted_of unit call system → stay_within system.folder system.calls ≡ true → stay_within after.folder after.calls ≡ true
noted_within system after unit call has on is before = ap (λ (s : SystemState). stay_within s.folder s.calls) is
    ∙ on (unit_path system unit) ∙ rw (unit_below system unit has, before) refl
