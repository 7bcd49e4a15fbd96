-- A file that is built from the records of a source.
use Rattle.std.specs.Prelude.{◌≡◌, ℕ, List, None, Result, IfOk, IsTrue, IsFalse, ⊤}
use Rattle.io_state.specs.declared.fault.Fault.{Fault}
use Rattle.record_layout.specs.Schema.{Schema}
use Rattle.indexed_file.specs.File.{empty_file}
use Rattle.pages.specs.PageMap.{PageMap}
use Rattle.pages.specs.Answer.{IsAnswer}
use Rattle.pages.specs.ShownPages.{ShownPages}
use Rattle.open_file.specs.Fields.{file_schema, has_broken}
use Rattle.open_file.specs.Stands.{Stands, IsShaped}
use Rattle.open_file.specs.declared.open_file.OpenFile.{OpenFile}
use Rattle.file_building.specs.declared.built_file.BuiltFile.{BuiltFile}
use Rattle.file_building.specs.declared.built_file.BuiltFile.TheVariants.{File as AFile, OutOfOrder as AllStopped, Clash as AllClashed}
use Rattle.file_building.specs.declared.file_builder.FileBuilder.{FileBuilder}
use Rattle.file_building.specs.declared.file_builder.Pushed.{Pushed}
use Rattle.file_building.specs.declared.file_builder.Pushed.TheVariants.{Done, OutOfOrder}
use Rattle.file_building.specs.Building.{IsBuildingFile}
use Rattle.file_building.specs.Steps.{WhereBuiltHonestly, KeepsWhileBuilding}
use Rattle.file_building.specs.Written.{with_all_added, AreAccepted, RecordsRise}

-- all records that were given were put into the builder; or the last one's prime value is not the greatest
abbrev pub EndsPushes : FileBuilder → List (List ℕ) → (after : PageMap) → (is_sound : Type 0) → Pushed → Type 0
EndsPushes new given after is_sound Done = IsBuildingFile new after given × is_sound
EndsPushes new given after is_sound OutOfOrder = RecordsRise new.schema given → ⊥

-- where all records were put in, this is so
abbrev pub WherePushed : Type 0 → Pushed → Type 0
WherePushed fact Done = fact
WherePushed fact OutOfOrder = ⊤

-- a call that puts the records of a source behind those which it gave before
pub record PushesGiven {S : Type 0} (shown : ShownPages S) (before after : S) (old new : FileBuilder)
    (given given_now : List (List ℕ)) (result : Result Pushed Fault) : Type 0 where
  pub pushed : WhereBuiltHonestly shown before after (IsBuildingFile old (shown.state before).live given
      → IsAnswer result (EndsPushes new given_now (shown.state after).live
      (IsTrue (shown.state after).is_sound)))
  pub schema_is : new.schema ≡ old.schema
  pub keeps : KeepsWhileBuilding shown before after result

-- all records were accepted, and the file is the one that they make; or their prime values do not rise,
-- or one of them was not accepted
abbrev pub EndsBuiltFile : Schema → List (List ℕ) → (after : PageMap) → (is_sound : Type 0) → BuiltFile → Type 0
EndsBuiltFile schema given after is_sound (AFile opened) = RecordsRise schema given
    × AreAccepted schema given empty_file × Stands opened after (with_all_added schema given empty_file) × is_sound
EndsBuiltFile schema given after is_sound AllStopped = RecordsRise schema given → ⊥
EndsBuiltFile schema given after is_sound AllClashed = AreAccepted schema given empty_file → ⊥

-- where there is a file, this is so
abbrev pub WhereBuilt : Type 0 → BuiltFile → Type 0
WhereBuilt fact (AFile opened) = fact
WhereBuilt fact AllStopped = ⊤
WhereBuilt fact AllClashed = ⊤

-- the file is one of this schema, and not broken
pub record IsFileFor (schema : Schema) (opened : OpenFile) : Type 0 where
  pub schema_is : file_schema opened ≡ schema
  pub shaped : IsShaped opened
  pub unbroken : IsFalse (has_broken opened)

-- so, where there is a file
abbrev pub IsBuiltFileFor : Schema → BuiltFile → Type 0
IsBuiltFileFor schema (AFile opened) = IsFileFor schema opened
IsBuiltFileFor schema AllStopped = ⊤
IsBuiltFileFor schema AllClashed = ⊤

-- a call that builds a file in pages of which none is in use, where page 0, the header's, was not given out
pub record BuildsFile {S : Type 0} (shown : ShownPages S) (before after : S) (schema : Schema)
    (given : List (List ℕ)) (result : Result BuiltFile Fault) : Type 0 where
  pub built : WhereBuiltHonestly shown before after (((n : ℕ) → (shown.state before).live n ≡ None)
      → (shown.state after).live 0 ≡ None
      → IsAnswer result (EndsBuiltFile schema given (shown.state after).live
      (IsTrue (shown.state after).is_sound)))
  pub made : IfOk result (IsBuiltFileFor schema)
  pub keeps : KeepsWhileBuilding shown before after result
