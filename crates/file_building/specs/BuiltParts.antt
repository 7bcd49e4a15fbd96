-- The parts of a new file that is built from the records of a source.
use Rattle.std.specs.Prelude.{◌≡◌, ◌≤◌, ℕ, List, true, IsTrue, Result, IfOk, IfErr, ⊤}
use Rattle.io_state.specs.declared.fault.Fault.{Fault}
use Rattle.record_layout.specs.Schema.{Schema}
use Rattle.indexed_file.specs.File.{empty_file}
use Rattle.pages.specs.Answer.{IsAnswer}
use Rattle.page_store.specs.Moments.{IsQuiet}
use Rattle.page_store.specs.ShelfState.{ShelfState, KeepsOthers}
use Rattle.page_alloc.specs.declared.paged_file.PagedFile.{PagedFile}
use Rattle.page_alloc.specs.Joining.{FaultsRose, page_limit}
use Rattle.page_alloc.specs.PagedFile.{IsOpenOver, is_begun, counts_of, unit_of_pages}
use Rattle.open_file.specs.Fields.{file_schema}
use Rattle.shelf_library.specs.FileOpening.{CountedShelf, counted_shelf}
use Rattle.shelf_library.specs.Standing.{StandsFor}
use Rattle.tree_building.specs.Fresh.{IsBuildCause}
use Rattle.file_building.specs.declared.built_parts.BuiltParts.{BuiltParts}
use Rattle.file_building.specs.declared.built_parts.BuiltParts.TheVariants.{File as Parts, OutOfOrder as PartsStopped, Clash as PartsClashed}
use Rattle.file_building.specs.declared.file_parts.FileParts.{FileParts}
use Rattle.file_building.specs.Closing.{IsReadyParts}
use Rattle.file_building.specs.Filling.{IsBlank, IsFullFile}
use Rattle.file_building.specs.Parts.{joined_file}
use Rattle.file_building.specs.Written.{with_all_added, AreAccepted, RecordsRise}

-- the gate of the new pages is open
pub record CanBuildParts (target : PagedFile) (shelf : ShelfState) : Type 0 where
  pub writable : IsOpenOver target shelf
  pub begun : is_begun target ≡ true

-- all records were accepted, and the parts are those of the file that they make; or their prime values do
-- not rise, or one of them was not accepted
abbrev pub EndsParts : Schema → List (List ℕ) → ShelfState → BuiltParts → Type 0
EndsParts schema given shelf (Parts parts) = RecordsRise schema given × AreAccepted schema given empty_file
    × StandsFor (joined_file parts) shelf (with_all_added schema given empty_file)
EndsParts schema given shelf PartsStopped = RecordsRise schema given → ⊥
EndsParts schema given shelf PartsClashed = AreAccepted schema given empty_file → ⊥

-- where there are parts, this is so
abbrev pub WhereParts : Type 0 → BuiltParts → Type 0
WhereParts fact (Parts parts) = fact
WhereParts fact PartsStopped = ⊤
WhereParts fact PartsClashed = ⊤

-- they are those of a file of this unit and this schema, behind an open gate
pub record ArePartsOf (schema : Schema) (unit : ℕ) (shelf : ShelfState) (parts : FileParts) : Type 0 where
  pub ready : IsReadyParts parts shelf
  pub unit_is : unit_of_pages parts.pages ≡ unit
  pub schema_is : file_schema parts.file ≡ schema

-- so, where there are parts
abbrev pub AreBuiltPartsOf : Schema → ℕ → ShelfState → BuiltParts → Type 0
AreBuiltPartsOf schema unit shelf (Parts parts) = ArePartsOf schema unit shelf parts
AreBuiltPartsOf schema unit shelf PartsStopped = ⊤
AreBuiltPartsOf schema unit shelf PartsClashed = ⊤

-- a call that builds the parts in new pages: the file of their unit goes quietly, and each other stays
pub record BuildsOnPages (target : PagedFile) (schema : Schema) (given : List (List ℕ))
    (old new : CountedShelf) (result : Result BuiltParts Fault) : Type 0 where
  pub built : IsTrue new.shelf.is_honest → IsBlank target old.shelf
      → IsAnswer result (EndsParts schema given new.shelf)
  pub made : IfOk result (AreBuiltPartsOf schema (unit_of_pages target) new.shelf)
  pub others : KeepsOthers (unit_of_pages target) old.shelf new.shelf
  pub quiet : IsQuiet (unit_of_pages target) old.shelf new.shelf
  pub count : old.faults ≤ new.faults
  pub cause : IfErr result (IsBuildCause (FaultsRose old.faults new.faults)
      (IsFullFile (unit_of_pages target) (page_limit (counts_of target)) new.shelf))

-- the same, of shelves that show this state and count their faults so
module _ {H : Type 0} (state : H → ShelfState) (count : H → ℕ) where
  abbrev pub BuildsParts : PagedFile → Schema → List (List ℕ) → H → H → Result BuiltParts Fault → Type 0
  BuildsParts target schema given old new result = BuildsOnPages target schema given
      (counted_shelf (state old) (count old)) (counted_shelf (state new) (count new)) result
