-- What a check says of the bytes of a file.
use Rattle.std.specs.Prelude.{◌≡◌, ◌≢◌, ◌⊎◌, ℕ, ◌+◌, ◌-◌, ◌*◌, ◌≤◌, ◌<◌, List, length, slice_index}
use Rattle.std.specs.Prelude.{Option, Some, None, Result, IfOk, IfErr}
use Rattle.std.specs.Option.{IfSome}
use Rattle.std.specs.Io.KnownBytes.{Consumes, IsAtEnd}
use Rattle.indexed_file.specs.File.{File}
use Rattle.page_store.specs.DeviceFile.{page_of_bytes}
use Rattle.pages.specs.declared.fault_place.FaultPlace.{FaultPlace}
use Rattle.pages.specs.declared.fault_place.FaultPlace.TheVariants.{File as TheFile}
use Rattle.open_file.specs.declared.first_page.Header.{Header}
use Rattle.open_file.specs.FirstPageReading.{header_in, number_in}
use Rattle.shelf_library.specs.ClosedFile.{IsAcceptedBy, StandsIn}
use Rattle.pages.specs.declared.damage.Damage.TheVariants.{Shared as SharedPage, Node as WrongNode}
use Rattle.pages.specs.declared.damage.Damage.TheVariants.{Order as WrongOrder, Heap as BrokenHeap}
use Rattle.pages.specs.declared.damage.Damage.TheVariants.{Index as WrongIndex, Lost as LostPage}
use Rattle.file_checker.specs.declared.verdict.Reason.{Reason}
use Rattle.file_checker.specs.declared.verdict.Reason.TheVariants.{Short, Gate, Header as NoHeader}
use Rattle.file_checker.specs.declared.verdict.Reason.TheVariants.{Shared, Node, Order, Heap, Index}
use Rattle.file_checker.specs.declared.verdict.Reason.TheVariants.{Lost}
use Rattle.file_checker.specs.declared.verdict.Verdict.{Verdict}
use Rattle.file_checker.specs.declared.verdict.Verdict.TheVariants.{Sound, Unsound}
use Rattle.file_checker.specs.declared.verdict.CheckFault.{CheckFault}
use Rattle.file_checker.specs.declared.verdict.CheckFault.TheVariants.{Input, Memory}
use Rattle.file_checker.specs.Bytes.{HasGiven, HasGivenLess, HasGivenPages, AreFirstPages}
use Rattle.file_checker.specs.Later.{IsMetIn}

-- a file of these bytes can be opened, and stands for so many records; its first page counts so many pages
pub record IsSound (bytes : List ℕ) (records pages : ℕ) : Type 0 where
  pub header : Header
  pub accepted : IsAcceptedBy header bytes
  pub pages_are : header.pages ≡ pages
  pub file : File
  pub stands : StandsIn header bytes file
  pub records_are : length file.rows ≡ records

-- how many pages the first page counts, whether or not it is accepted
abbrev pub counted_in : List ℕ → ℕ
counted_in bytes = number_in (page_of_bytes bytes 0) 12 4

-- there are as many bytes as a page has, and as the page count needs
pub record IsLong (bytes : List ℕ) : Type 0 where
  pub first : 4096 ≤ length bytes
  pub counted : 4096 * counted_in bytes ≤ length bytes

-- these are all its pages, and it can be opened
pub record HasPages (bytes : List ℕ) (header : Header) (list : List (List ℕ)) : Type 0 where
  pub accepted : IsAcceptedBy header bytes
  pub pages : AreFirstPages bytes list
  pub many : length list ≡ header.pages

-- it can be opened, and this is so of its pages
abbrev pub IsShown : List ℕ → (Header → List (List ℕ) → Type 0) → Type 0
IsShown bytes P = (header : Header) × (list : List (List ℕ)) × HasPages bytes header list × P header list

-- there are fewer bytes than a page has, or than the page count needs
abbrev pub IsShort : List ℕ → Type 0
IsShort bytes = (length bytes < 4096) ⊎ (length bytes < 4096 * counted_in bytes)

-- The reason holds of the bytes, at this place. The first three are those of a file that cannot be
-- opened, tell why in this order, and are told of the file as a whole.
abbrev pub HoldsAt : List ℕ → Reason → FaultPlace → Type 0
HoldsAt bytes Short place = (place ≡ TheFile) × IsShort bytes
HoldsAt bytes Gate place = (place ≡ TheFile) × IsLong bytes × (slice_index bytes 0 ≢ 67)
HoldsAt bytes NoHeader place = (place ≡ TheFile) × IsLong bytes × (slice_index bytes 0 ≡ 67)
    × (header_in (page_of_bytes bytes 0) ≡ None)
HoldsAt bytes Shared place = IsShown bytes (λ header list. IsMetIn header list SharedPage place)
HoldsAt bytes Node place = IsShown bytes (λ header list. IsMetIn header list WrongNode place)
HoldsAt bytes Order place = IsShown bytes (λ header list. IsMetIn header list WrongOrder place)
HoldsAt bytes Heap place = IsShown bytes (λ header list. IsMetIn header list BrokenHeap place)
HoldsAt bytes Index place = IsShown bytes (λ header list. IsMetIn header list WrongIndex place)
HoldsAt bytes Lost place = IsShown bytes (λ header list. IsMetIn header list LostPage place)

-- the bytes are those of no sound file
abbrev pub IsUnsound : List ℕ → Type 0
IsUnsound bytes = (records pages : ℕ) → IsSound bytes records pages → ⊥

-- bytes of no sound file, of which the reason holds at this place
abbrev pub IsUnsoundAt : FaultPlace → List ℕ → Reason → Type 0
IsUnsoundAt place bytes reason = HoldsAt bytes reason place × IsUnsound bytes

-- A verdict that is right: the bytes are those of a sound file, of so many records and pages; or they are
-- those of none, and this is known by the reason, which holds at the place. So of any bytes a verdict of
-- one kind alone is right.
abbrev pub IsRight : List ℕ → Verdict → Type 0
IsRight bytes (Sound records pages) = IsSound bytes records pages
IsRight bytes (Unsound reason place) = IsUnsoundAt place bytes reason

-- the verdict is right of each file with this header that has these pages
abbrev pub IsRightOfPages : Header → List (List ℕ) → Verdict → Type 0
IsRightOfPages header list verdict =
    (bytes : List ℕ) → HasPages bytes header list → IsRight bytes verdict

-- how many bytes are asked for: those of the first page, and of the others that it counts
abbrev pub asked_in : List ℕ → ℕ
asked_in bytes = 4096 + 4096 * (counted_in bytes - 1)

-- what was read for a verdict: all bytes that are asked for and no more, or all that there are
-- where they are too few
pub record IsReadFor (bytes : List ℕ) (after : Option (List ℕ)) (verdict : Verdict) : Type 0 where
  pub whole : verdict ≢ Unsound Short TheFile → HasGiven (Some bytes) after (asked_in bytes)
  pub short : verdict ≡ Unsound Short TheFile → IsAtEnd after

-- What was read where no verdict is told: for want of input, fewer bytes than are asked for; for
-- want of memory, whole pages of a file whose first page is accepted.
abbrev pub CheckGivesUp : List ℕ → Option (List ℕ) → CheckFault → Type 0
CheckGivesUp bytes after Input = HasGivenLess (Some bytes) after (asked_in bytes)
CheckGivesUp bytes after Memory = HasGivenPages (Some bytes) after (counted_in bytes)
    × ((header : Header) × (header_in (page_of_bytes bytes 0) ≡ Some header))

-- What a check tells of a file whose bytes are known: a verdict that is right, and what was read is what
-- it asks for; a fault tells where the reading ended.
pub record ChecksReader (before after : Option (List ℕ)) (result : Result Verdict CheckFault) : Type 0 where
  pub right : IfSome before (λ bytes. IfOk result (IsRight bytes))
  pub read : IfSome before (λ bytes. IfOk result (IsReadFor bytes after))
  pub fault : IfSome before (λ bytes. IfErr result (CheckGivesUp bytes after))

-- the same where the first page was read already, and what a call finds tells the verdict
pub record ChecksBehind {X : Type 0} (first : List ℕ) (Right : List ℕ → X → Type 0)
    (verdict : X → Verdict) (before after : Option (List ℕ)) (result : Result X CheckFault) : Type 0 where
  pub right : (bytes : List ℕ) → Consumes (Some bytes) before first → IfOk result (Right bytes)
  pub read : (bytes : List ℕ) → Consumes (Some bytes) before first
      → IfOk result (λ found. IsReadFor bytes after (verdict found))
  pub fault : (bytes : List ℕ) → Consumes (Some bytes) before first → IfErr result (CheckGivesUp bytes after)

-- so a file is refused by its first page
abbrev pub RefusesBehind : (first : List ℕ) → (before after : Option (List ℕ)) → Result Reason CheckFault
    → Type 0
RefusesBehind first before after result =
    ChecksBehind first (IsUnsoundAt TheFile) (λ reason. Unsound reason TheFile) before after result
