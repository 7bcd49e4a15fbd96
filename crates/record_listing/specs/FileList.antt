-- What the list of a file's bytes promises. All of this is ours.
use Rattle.std.specs.Prelude.{◌≡◌, ◌⊎◌, ◌≤◌, ℕ, List, [], length, Option, Result, Ok, Err, IsTrue}
use Rattle.record_layout.specs.Schema.{Schema}
use Rattle.indexed_file.specs.File.{File}
use Rattle.indexed_file.specs.World.{Closed}
use Rattle.page_store.specs.DeviceFile.{DeviceFile, content, page_of_bytes}
use Rattle.page_store.specs.ShelfState.{ShelfState}
use Rattle.shelf_library.specs.ClosedFile.{AreClosed}
use Rattle.shelf_run.specs.Files.{Represents}
use Rattle.file_checker.specs.Sound.{IsRight}
use Rattle.file_checker.specs.declared.verdict.Reason.{Reason}
use Rattle.file_checker.specs.declared.verdict.Verdict.TheVariants.{Unsound as IsRefused}
use Rattle.pages.specs.declared.fault_place.FaultPlace.{FaultPlace}
use Rattle.record_text.specs.declared.form.Form.{Form}
use Rattle.record_text.specs.declared.form.Form.TheVariants.{Text}
use Rattle.record_listing.specs.declared.asked.Asked.{Asked}
use Rattle.record_listing.specs.declared.end.ListEnd.{ListEnd}
use Rattle.record_listing.specs.declared.end.ListEnd.TheVariants.{Listed as LinesWritten, NoKey as HasNoKey}
use Rattle.record_listing.specs.declared.end.ListEnd.TheVariants.{Absent, Unsound as Refused, Damaged}
use Rattle.record_listing.specs.declared.end.ListFault.{ListFault}
use Rattle.record_listing.specs.declared.end.ListFault.TheVariants.{Input}
use Rattle.record_listing.specs.Listing.{EndsList, WritesLines, WritesFront}
use Rattle.record_listing.specs.declared.file_list.FileList.{FileList}
use Rattle.record_listing.specs.declared.file_list.FileList.TheVariants.{Listed, NoKey, Unsound}

-- the bytes stand for a file of a schema, and this is so of it
abbrev pub HoldsFileWith : List ℕ → (Schema → File → Type 0) → Type 0
HoldsFileWith bytes P = (schema : Schema) × (file : File) × AreClosed schema file bytes × P schema file

-- a list of these bytes in a form ends so: the list of their rows that are asked for was written;
-- or nothing was, since they stand for a file that does not have the key, or a check tells this
-- reason
abbrev pub EndsWithIn : Form → List ℕ → Asked → (before behind : Option (List ℕ)) → FileList → Type 0
EndsWithIn form bytes asked before behind Listed =
    HoldsFileWith bytes (λ schema file. WritesLines form schema file asked before behind)
EndsWithIn form bytes asked before behind NoKey =
    HoldsFileWith bytes (λ schema file. (length schema.keys ≤ asked.key) × (behind ≡ before))
EndsWithIn form bytes asked before behind (Unsound reason) =
    ((place : FaultPlace) × IsRight bytes (IsRefused reason place)) × (behind ≡ before)

-- it ends before its end: nothing was written, or a front of the list
abbrev pub BreaksOffIn : Form → List ℕ → Asked → (before behind : Option (List ℕ)) → Type 0
BreaksOffIn form bytes asked before behind = (behind ≡ before)
    ⊎ HoldsFileWith bytes (λ schema file. WritesFront form schema file asked before behind)

abbrev pub EndsIn : Form → List ℕ → Asked → (before behind : Option (List ℕ)) → Result FileList ListFault
    → Type 0
EndsIn form bytes asked before behind (Ok end) = EndsWithIn form bytes asked before behind end
EndsIn form bytes asked before behind (Err fault) = BreaksOffIn form bytes asked before behind

-- the same of a list as text
abbrev pub EndsFileListWith : List ℕ → Asked → (before behind : Option (List ℕ)) → FileList → Type 0
EndsFileListWith bytes asked before behind end = EndsWithIn Text bytes asked before behind end

abbrev pub EndsFileList : List ℕ → Asked → (before behind : Option (List ℕ)) → Result FileList ListFault
    → Type 0
EndsFileList bytes asked before behind result = EndsIn Text bytes asked before behind result

-- a list of a file that is read page after page, between two states, ends as it does of the rows for
-- which the file stands, if it stands for some
abbrev pub EndsOfFile : DeviceFile → Form → Asked → (before behind : Option (List ℕ))
    → Result ListEnd ListFault → Type 0
EndsOfFile device form asked before behind result =
    (schema : Schema) (file : File) → Represents device.seen (Closed schema file)
    → EndsList form asked (Closed schema file) before behind result

-- so a list of the file of the empty name of a shelf, where each answer was that of this file
abbrev pub ListsTruly : (first last : ShelfState) → Form → Asked → (before behind : Option (List ℕ))
    → Result ListEnd ListFault → Type 0
ListsTruly first last form asked before behind result =
    IsTrue last.is_honest → EndsOfFile (first.file []) form asked before behind result

-- these bytes stand for a file
abbrev pub IsFileOfRows : List ℕ → Type 0
IsFileOfRows bytes = (schema : Schema) × (file : File) × AreClosed schema file bytes

-- a list of these bytes, after a check of them, ended so; where it was not for the check, they begin with
-- this page
abbrev pub EndsChecked : (page bytes : List ℕ) → Form → Asked → (before behind : Option (List ℕ))
    → Result FileList ListFault → Type 0
EndsChecked page bytes form asked before behind (Ok (Unsound reason)) =
    EndsWithIn form bytes asked before behind (Unsound reason)
EndsChecked page bytes form asked before behind (Ok end) =
    (page ≡ page_of_bytes bytes 0) × EndsWithIn form bytes asked before behind end
EndsChecked page bytes form asked before behind (Err fault) = BreaksOffIn form bytes asked before behind

-- so a list of the file of the empty name of a shelf, where each answer was that of this file; and of one
-- that is not sound nothing was written
pub record ListsChecked (first last : ShelfState) (page : List ℕ) (form : Form) (asked : Asked)
    (before behind : Option (List ℕ)) (result : Result FileList ListFault) : Type 0 where
  pub ends : IsTrue last.is_honest → EndsChecked page (content (first.file [])) form asked before behind result
  pub unlisted : (reason : Reason) → result ≡ Ok (Unsound reason) → behind ≡ before

-- so of one that is sound
abbrev pub ListsSound : (first last : ShelfState) → (page : List ℕ) → Form → Asked
    → (before behind : Option (List ℕ)) → Result FileList ListFault → Type 0
ListsSound first last page form asked before behind result =
    ListsChecked first last page form asked before behind result
    × ((reason : Reason) → result ≡ Ok (Unsound reason) → ⊥)

-- how a list of a file that is sound ended is told so
abbrev pub ToldAsChecked : Result ListEnd ListFault → Result FileList ListFault → Type 0
ToldAsChecked (Ok LinesWritten) result = result ≡ Ok Listed
ToldAsChecked (Ok HasNoKey) result = result ≡ Ok NoKey
ToldAsChecked (Ok Absent) result = result ≡ Err Input
ToldAsChecked (Ok Refused) result = result ≡ Err Input
ToldAsChecked (Ok Damaged) result = result ≡ Err Input
ToldAsChecked (Err fault) result = result ≡ Err fault
