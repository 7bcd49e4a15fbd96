-- What a library over the bytes of a sound file shows, and what a list of it tells.
use Rattle.std.proofs.Common.{◌≡◌, ℕ, List, [], Option, Some, Result, Ok, Err, IfOk, inl, inr, refl, sym, ap, subst, ◌∙◌}
use Rattle.record_layout.specs.Schema.{Schema}
use Rattle.indexed_file.specs.File.{File}
use Rattle.indexed_file.specs.World.{World, Named, Closed, named_in}
use Rattle.shelf_library.specs.ClosedFile.{AreClosed}
use Rattle.shelf_library.specs.Truth.{IsShownTruly}
use Rattle.shelf_library.specs.Units.{world_of}
use Rattle.shelf_library.specs.declared.held.Held.{Held}
use Rattle.shelf_run.specs.Files.{Represents}
use Rattle.shelf_run.proofs.FilesLemmas.{world_at_first, shown_truly, named_is, sound_of}
use Rattle.file_checker.specs.Sound.{IsSound, IsRight}
use Rattle.file_checker.specs.declared.verdict.Reason.{Reason}
use Rattle.file_checker.specs.declared.verdict.Verdict.{Verdict}
use Rattle.pages.specs.declared.fault_place.FaultPlace.{FaultPlace}
use Rattle.file_checker.specs.declared.verdict.Verdict.TheVariants.{Unsound}
use Rattle.record_text.specs.declared.form.Form.{Form}
use Rattle.record_listing.specs.declared.asked.Asked.{Asked}
use Rattle.record_listing.specs.declared.end.ListEnd.{ListEnd}
use Rattle.record_listing.specs.declared.end.ListEnd.TheVariants.{Listed as LinesWritten, Absent, Unsound as Refused, NoKey as HasNoKey, Damaged}
use Rattle.record_listing.specs.declared.end.ListFault.{ListFault}
use Rattle.record_listing.specs.Listing.{EndsList as EndsNamed}
use Rattle.record_listing.specs.Shelf.{shelf_state_of}
use Rattle.record_listing.specs.FileList.{EndsWithIn, BreaksOffIn, EndsOfFile}
use Rattle.page_store.specs.ShelfState.{ShelfState}
use Rattle.record_listing.specs.declared.file_bytes.FileBytes.{FileBytes}
use Rattle.record_listing.specs.declared.file_list.FileList.TheVariants.{Listed, NoKey}

-- a library over these bytes, to which no name is attached, shows the file for which they stand under the empty name
module _ (shelf : FileBytes) (held : List Held) (bytes : List ℕ) (schema : Schema) (file : File) (closed : AreClosed schema file bytes)
    (none : (shelf_state_of shelf).names ≡ []) (empty : held ≡ []) (same : shelf.bytes.items ≡ bytes) where
  stands : Represents (Some shelf.bytes.items) (Closed schema file)
  stands = (bytes, ap (λ (b : List ℕ). Some b) same, closed)

  pub truly : IsShownTruly (shelf_state_of shelf) held []
  truly = rw empty (shown_truly (shelf_state_of shelf) [] none (sound_of (Some shelf.bytes.items) (Closed schema file) stands))

  pub named : named_in (world_of (shelf_state_of shelf) held) [] ≡ Closed schema file
  named =
      rw empty
      (ap (λ (world : World). named_in world []) (world_at_first (shelf_state_of shelf) none) ∙ named_is (Some shelf.bytes.items) (Closed schema file) stands)

-- what the end of a list of the file of the name means for its bytes
abbrev pub MeansFor : Form → List ℕ → Asked → (before behind : Option (List ℕ)) → Result ListEnd ListFault → Type 0
MeansFor form bytes asked before behind (Ok LinesWritten) = EndsWithIn form bytes asked before behind Listed
MeansFor form bytes asked before behind (Ok HasNoKey) = EndsWithIn form bytes asked before behind NoKey
MeansFor form bytes asked before behind (Ok Absent) = ⊥
MeansFor form bytes asked before behind (Ok Refused) = ⊥
MeansFor form bytes asked before behind (Ok Damaged) = ⊥
MeansFor form bytes asked before behind (Err fault) = BreaksOffIn form bytes asked before behind

pub means : (form : Form) (bytes : List ℕ) (asked : Asked) (before behind : Option (List ℕ)) (schema : Schema) (file : File) (closed : AreClosed schema file bytes) (result : Result ListEnd ListFault)
    → EndsNamed form asked (Closed schema file) before behind result → MeansFor form bytes asked before behind result
means form bytes asked before behind schema file closed (Ok LinesWritten) is = (schema, file, closed, is)
means form bytes asked before behind schema file closed (Ok HasNoKey) is = (schema, file, closed, is)
means form bytes asked before behind schema file closed (Ok Absent) is = is
means form bytes asked before behind schema file closed (Ok Refused) is = is
means form bytes asked before behind schema file closed (Ok Damaged) is = is
means form bytes asked before behind schema file closed (Err fault) (inl nothing) = inl nothing
means form bytes asked before behind schema file closed (Err fault) (inr front) = inr (schema, file, closed, front)

pub meant : (form : Form) (shelf : FileBytes) (held : List Held) (name bytes : List ℕ) (records pages : ℕ) → IsSound bytes records pages → (shelf_state_of shelf).names ≡ [] → held ≡ [] → shelf.bytes.items ≡ bytes
    → name ≡ [] → (asked : Asked) (before behind : Option (List ℕ)) (result : Result ListEnd ListFault)
    → (IsShownTruly (shelf_state_of shelf) held name → EndsNamed form asked (named_in (world_of (shelf_state_of shelf) held) name) before behind result)
    → MeansFor form bytes asked before behind result
meant form shelf held name bytes records pages sound none empty same unnamed asked before behind result ends =
    let closed : AreClosed sound.header.schema sound.file bytes = record { header = sound.header; accepted = sound.accepted; schema_is = refl; stands = sound.stands } in
    let shown = subst (λ (n : List ℕ). IsShownTruly (shelf_state_of shelf) held n) (sym unnamed) (truly shelf held bytes sound.header.schema sound.file closed none empty same) in
    let stands_for = subst (λ (n : List ℕ). named_in (world_of (shelf_state_of shelf) held) n ≡ Closed sound.header.schema sound.file) (sym unnamed)
    (named shelf held bytes sound.header.schema sound.file closed none empty same) in
    means form bytes asked before behind sound.header.schema sound.file closed result
    (subst (λ (n : Named). EndsNamed form asked n before behind result) stands_for (ends shown))

-- a check that tells this reason is right of the bytes
pub refused : {E : Type 0} (bytes : List ℕ) (reason : Reason) (place : FaultPlace) (verdict : Verdict) (result : Result Verdict E)
    → IfOk result (IsRight bytes) → result ≡ Ok verdict → verdict ≡ Unsound reason place
    → (place : FaultPlace) × IsRight bytes (Unsound reason place)
refused bytes reason place verdict result right is told =
    (place, subst (IsRight bytes) told (subst (λ result. IfOk result (IsRight bytes)) is right))

-- a library to which no name is attached shows of the empty name what the file of the shelf stands for
module _ (shelf : ShelfState) (held : List Held) (schema : Schema) (file : File) (stands : Represents (shelf.file []).seen (Closed schema file))
    (none : shelf.names ≡ []) (empty : held ≡ []) where
  pub shown_of : IsShownTruly shelf held []
  shown_of = rw empty (shown_truly shelf [] none (sound_of (shelf.file []).seen (Closed schema file) stands))

  pub named_of_shelf : named_in (world_of shelf held) [] ≡ Closed schema file
  named_of_shelf =
      rw empty
      (ap (λ (world : World). named_in world []) (world_at_first shelf none) ∙ named_is (shelf.file []).seen (Closed schema file) stands)

-- so a list of it in the library ends as it does of that file
pub listed_truly : (form : Form) (shelf : ShelfState) (held : List Held) (name : List ℕ) → shelf.names ≡ [] → held ≡ [] → name ≡ []
    → (asked : Asked) (before behind : Option (List ℕ)) (result : Result ListEnd ListFault)
    → (IsShownTruly shelf held name → EndsNamed form asked (named_in (world_of shelf held) name) before behind result)
    → EndsOfFile (shelf.file []) form asked before behind result
listed_truly form shelf held name none empty unnamed asked before behind result ends schema file stands =
    let shown = subst (λ (n : List ℕ). IsShownTruly shelf held n) (sym unnamed) (shown_of shelf held schema file stands none empty) in
    let is = subst (λ (n : List ℕ). named_in (world_of shelf held) n ≡ Closed schema file) (sym unnamed) (named_of_shelf shelf held schema file stands none empty) in
    subst (λ (n : Named). EndsNamed form asked n before behind result) is (ends shown)
