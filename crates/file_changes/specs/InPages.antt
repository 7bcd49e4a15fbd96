-- An open file in its pages.
use Rattle.std.specs.Prelude.{◌≡◌, ℕ, Bool, true, false, List, Result, IsTrue}
use Rattle.io_state.specs.declared.fault.Fault.{Fault}
use Rattle.indexed_file.specs.FileChange.{addition, replacement, removal}
use Rattle.indexed_file.specs.declared.answer.Added.{Added}
use Rattle.indexed_file.specs.declared.answer.Replaced.{Replaced}
use Rattle.pages.specs.ShownPages.{ShownPages}
use Rattle.open_file.specs.Fields.{has_broken, file_schema}
use Rattle.open_file.specs.Stands.{Stands, IsShaped, room_of}
use Rattle.open_file.specs.declared.open_file.OpenFile.{OpenFile}
use Rattle.file_changes.specs.Changes.{ShownFile, Changes, MayBreak}

pub record FileInPages (S : Type 0) : Type 0 where
  pub file : OpenFile
  pub pages : S

abbrev pub in_pages : {S : Type 0} → OpenFile → S → FileInPages S
in_pages file pages = record { file = file; pages = pages }

-- its parts are made for its schema, and calls may be made on its pages
pub record IsReadyIn {S : Type 0} (shown : ShownPages S) (held : FileInPages S) : Type 0 where
  pub pages : shown.IsReady held.pages
  pub shaped : IsShaped held.file

abbrev pub shown_in : {S : Type 0} → ShownPages S → ShownFile (FileInPages S)
shown_in shown = record {
  is_honest = λ held. (shown.state held.pages).is_honest;
  IsSound = λ held. IsTrue (shown.state held.pages).is_sound;
  StandsFor = λ held. Stands held.file (shown.state held.pages).live;
  is_broken = λ held. has_broken held.file;
  schema = λ held. file_schema held.file;
  room = λ held. room_of held.file (shown.state held.pages).available;
  asked = λ held. (shown.state held.pages).asked;
  IsReady = IsReadyIn shown;
  CanChange = λ held. shown.CanChange held.pages;
  Reads = λ before after. (after.file ≡ before.file) × shown.Reads before.pages after.pages;
  Begins = λ before after. shown.Begins before.pages after.pages;
  HasFailed = λ before after. shown.HasFailed before.pages after.pages;
}

-- ---- the changes of an open file in its pages

-- a record is added
abbrev pub MakesAddition : {S : Type 0} → ShownPages S → List ℕ → (old new : OpenFile) → (before after : S)
    → Result Added Fault → Type 0
MakesAddition shown bytes old new before after result = Changes (shown_in shown)
    (addition (file_schema old) bytes) (in_pages old before) (in_pages new after) result

-- a record is put in the place of that of its prime value
abbrev pub MakesReplacement : {S : Type 0} → ShownPages S → List ℕ → (old new : OpenFile) → (before after : S)
    → Result Replaced Fault → Type 0
MakesReplacement shown bytes old new before after result = Changes (shown_in shown)
    (replacement (file_schema old) bytes) (in_pages old before) (in_pages new after) result

-- the record of a prime value is taken out
abbrev pub MakesRemoval : {S : Type 0} → ShownPages S → List ℕ → (old new : OpenFile) → (before after : S)
    → Result Bool Fault → Type 0
MakesRemoval shown prime old new before after result = Changes (shown_in shown)
    (removal (file_schema old) prime) (in_pages old before) (in_pages new after) result

-- a record is added, or the file may break
pub record AddsRecord {S : Type 0} (shown : ShownPages S) (bytes : List ℕ) (old new : OpenFile)
    (before after : S) (result : Result Added Fault) : Type 0 where
  pub adds : MakesAddition shown bytes old new before after result
  pub breaks : MayBreak (shown_in shown) true (in_pages old before) (in_pages new after) result

-- a record takes the place of that of its prime value, or the file may break
pub record ReplacesRecord {S : Type 0} (shown : ShownPages S) (bytes : List ℕ) (old new : OpenFile)
    (before after : S) (result : Result Replaced Fault) : Type 0 where
  pub replaces : MakesReplacement shown bytes old new before after result
  pub breaks : MayBreak (shown_in shown) true (in_pages old before) (in_pages new after) result

-- the record of a prime value is taken out, or the file may break
pub record RemovesRecord {S : Type 0} (shown : ShownPages S) (prime : List ℕ) (old new : OpenFile)
    (before after : S) (result : Result Bool Fault) : Type 0 where
  pub removes : MakesRemoval shown prime old new before after result
  pub breaks : MayBreak (shown_in shown) false (in_pages old before) (in_pages new after) result
