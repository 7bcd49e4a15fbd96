-- What the first page says of a file.
use Rattle.std.specs.Prelude.{◌≡◌, ℕ, List, length, ⊤}
use Rattle.pages.specs.declared.fault_place.FaultPlace.TheVariants.{File as TheFile}
use Rattle.page_store.specs.DeviceFile.{DeviceFile, IsWithin, content, page_of_bytes}
use Rattle.open_file.specs.Bounds.{IsHeader}
use Rattle.shelf_library.specs.ClosedFile.{IsAcceptedBy}
use Rattle.file_checker.specs.declared.first_look.FirstLook.{FirstLook}
use Rattle.file_checker.specs.declared.first_look.FirstLook.TheVariants.{Refused, Accepted}
use Rattle.file_checker.specs.Sound.{IsUnsoundAt}

-- this is so of all bytes of this number that begin with this page
abbrev pub OnFirstPage : ℕ → List ℕ → (List ℕ → Type 0) → Type 0
OnFirstPage size first P = (bytes : List ℕ) → length bytes ≡ size → page_of_bytes bytes 0 ≡ first → P bytes

-- the bytes are those of no sound file, for this reason; or they begin with the first page of this
-- header, and have all pages that it counts
abbrev pub IsFirstLook : List ℕ → FirstLook → Type 0
IsFirstLook bytes (Refused reason) = IsUnsoundAt TheFile bytes reason
IsFirstLook bytes (Accepted header) = IsAcceptedBy header bytes

-- the numbers of the header are within their bounds
abbrev pub HasAllowed : FirstLook → Type 0
HasAllowed (Refused reason) = ⊤
HasAllowed (Accepted header) = IsHeader header

-- this is so of a file on a shelf; one that is accepted is there
abbrev pub IsLookAt : DeviceFile → FirstLook → Type 0
IsLookAt file (Refused reason) = IsUnsoundAt TheFile (content file) reason
IsLookAt file (Accepted header) = IsWithin 4096 file × IsAcceptedBy header (content file)
