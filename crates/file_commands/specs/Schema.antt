-- What is told of a file by its first page, as what was done. All of this is ours.
use Rattle.std.specs.Prelude.{◌≡◌, ◌≢◌, ℕ, List, [], Option, None, Result, Ok, Err, IfOk, IfErr, ⊤}
use denote.Ref.{Bor}
use Rattle.clap.specs.Words.{Text}
use Rattle.record_layout.specs.Schema.{Schema}
use Rattle.open_file.specs.declared.first_page.Header.{Header}
use Rattle.file_reports.specs.declared.first_page.Refusal.{Refusal}
use Rattle.file_reports.specs.declared.schema_listing.ListingFault.{ListingFault}
use Rattle.file_reports.specs.declared.schema_listing.ListingFault.TheVariants.{Input as Unread}
use Rattle.file_reports.specs.declared.schema_listing.ListingFault.TheVariants.{Output as Unwritten}
use Rattle.file_reports.specs.declared.schema_listing.ListingFault.TheVariants.{Memory as NoMemory}
use Rattle.file_reports.specs.SchemaListing.{TellsHeader, read_of_file}
use Rattle.file_reports.specs.declared.comparing.Comparison.{Comparison}
use Rattle.file_control.specs.Description.{FileDesc}
use Rattle.file_reports.specs.Comparing.{TellsDifferences}
use Rattle.command_support.specs.DeckFile.{IsOfDeck, IsDeckAsked, IsDeckFile, IsHalf, IsDeckFault}
use Rattle.folder_shelf.specs.Calls.{Call}
use Rattle.command_support.specs.Front.{IsDeckNamed, IsDeckReadBy, OfFirstPage, GivesSuch, word_in}
use Rattle.command_support.specs.Status.{status_of}
use Rattle.command_support.specs.declared.form_fault.FormFault.TheVariants.{HalfDeck}
use Rattle.command_support.specs.declared.fault.CommandFault.{CommandFault}
use Rattle.command_support.specs.declared.fault.CommandFault.TheVariants.{Deck as DeckRefused, NoSuchFile}
use Rattle.command_support.specs.declared.fault.CommandFault.TheVariants.{Form as NoForm, Input, Output, Memory}
use Rattle.command_support.specs.declared.outcome.Outcome.{Outcome}
use Rattle.command_support.specs.declared.outcome.Outcome.TheVariants.{SchemaTold, SchemaCompared}
use Rattle.command_support.specs.declared.outcome.Outcome.TheVariants.{SchemaRefused}

-- why nothing is told, or not all
abbrev pub listing_told_as : ListingFault → CommandFault
listing_told_as Unread = Input
listing_told_as Unwritten = Output
listing_told_as NoMemory = Memory

-- its lines were written, or it was told why the page is none
abbrev pub TellsAs : (before after : Option (List ℕ)) → Result Header Refusal → Outcome → Type 0
TellsAs before after read SchemaTold = TellsHeader before after read (Ok tt)
TellsAs before after read (SchemaRefused refusal) = TellsHeader before after read (Err refusal)
TellsAs before after read outcome = ⊥

-- this was done for the schema of a file
abbrev pub IsOfSchema : Outcome → Type 0
IsOfSchema SchemaTold = ⊤
IsOfSchema (SchemaRefused refusal) = ⊤
IsOfSchema outcome = ⊥

-- its differences from the schema of a deck were written, or it was told why the page is none
abbrev pub ComparesAs : Schema → (before after : Option (List ℕ)) → Result Header Refusal → Outcome → Type 0
ComparesAs deck before after read (SchemaCompared told) = TellsDifferences deck before after read (Ok told)
ComparesAs deck before after read (SchemaRefused refusal) =
    TellsDifferences deck before after read (Err refusal)
ComparesAs deck before after read outcome = ⊥

-- this was done for the schema of a file that was held against that of a deck
abbrev pub IsOfComparison : Outcome → Type 0
IsOfComparison (SchemaCompared told) = ⊤
IsOfComparison (SchemaRefused refusal) = ⊤
IsOfComparison outcome = ⊥

-- this was done for a schema beside a deck and a name, which may be given: without them it is told,
-- and with both of them compared
abbrev pub IsSchemaDone : (deck name : Option Text) → Outcome → Type 0
IsSchemaDone deck name SchemaTold = (deck ≡ None) × (name ≡ None)
IsSchemaDone deck name (SchemaCompared told) = IsDeckAsked deck name
IsSchemaDone deck name (SchemaRefused refusal) = ⊤
IsSchemaDone deck name outcome = ⊥

-- why a schema is not told or compared: half of what is to be held against it is given, the deck is
-- refused or does not have the file, or the input, the output or memory failed
abbrev pub IsSchemaFault : (deck name : Option Text) → CommandFault → Type 0
IsSchemaFault deck name (DeckRefused fault) = IsDeckAsked deck name
IsSchemaFault deck name NoSuchFile = IsDeckAsked deck name
IsSchemaFault deck name (NoForm fault) = IsHalf deck name × (fault ≡ HalfDeck)
IsSchemaFault deck name Input = ⊤
IsSchemaFault deck name Output = ⊤
IsSchemaFault deck name Memory = ⊤
IsSchemaFault deck name fault = ⊥

-- of the first bytes of the file of a path, which the last call gave
abbrev pub TellsFile : {W : Type 0} → (path : List ℕ) → (W → Option (List ℕ)) → (old new : W)
    → (before calls : List Call) → Outcome → Type 0
TellsFile path contents old new before calls outcome = OfFirstPage path before calls (λ bytes.
    TellsAs (contents old) (contents new) (read_of_file bytes) outcome)

abbrev pub ComparesFile : {W : Type 0} → (path : List ℕ) → Schema → (W → Option (List ℕ)) → (old new : W)
    → (before calls : List Call) → Outcome → Type 0
ComparesFile path deck contents old new before calls outcome = OfFirstPage path before calls (λ bytes.
    ComparesAs deck (contents old) (contents new) (read_of_file bytes) outcome)

-- behind the calls by which a deck was read, if one is given
abbrev pub TellsAsked : {W : Type 0} → (input : Option (List ℕ)) → (path : List ℕ) → (deck : Option Text)
    → (W → Option (List ℕ)) → (old new : W) → List Call → Outcome → Type 0
TellsAsked input path deck contents old new calls outcome = (before : List Call)
    × IsDeckReadBy before input deck × TellsFile path contents old new before calls outcome

-- with the file of a name in the deck of a path
abbrev pub ComparesWithDeck : {W : Type 0} → (input : Option (List ℕ)) → (path deck name : Text)
    → (W → Option (List ℕ)) → (old new : W) → List Call → Outcome → Type 0
ComparesWithDeck input path deck name contents old new calls outcome = (described : FileDesc)
    × (before : List Call) × IsOfDeck (IsDeckNamed before input deck) name described
    × ComparesFile path described.schema contents old new before calls outcome

-- where a deck and a name are given, and the outcome tells of a comparison
abbrev pub ComparesAsked : {W : Type 0} → (input : Option (List ℕ)) → (path : List ℕ)
    → (deck name : Option Text) → (W → Option (List ℕ)) → (old new : W) → List Call → Outcome → Type 0
ComparesAsked input path deck name contents old new calls outcome =
    (told : Comparison) → outcome ≡ SchemaCompared told → (described : FileDesc) × (before : List Call)
    × IsDeckFile (IsDeckNamed before input) deck name described
    × ComparesFile path described.schema contents old new before calls outcome

-- an outcome of a kind, of which this is so
pub record ComesOfFile (IsKind IsSo : Outcome → Type 0) (result : Result Outcome CommandFault) : Type 0 where
  pub told : IfOk result IsSo
  pub kind : GivesSuch IsKind result

-- the schema of the file of a path was held against that of a deck, by these calls alone; or the input, the
-- output or memory failed
abbrev pub ComparesFileAlone : {W : Type 0} → (path : List ℕ) → Schema → (W → Option (List ℕ)) → (old new : W)
    → Result Outcome CommandFault → List Call → Type 0
ComparesFileAlone path deck contents old new result calls =
    ComesOfFile IsOfComparison (ComparesFile path deck contents old new [] calls) result

-- the schema of a file was held against that of the file of a name in the deck of a path; or nothing
-- came of them. Unless the input, the output or memory failed, nothing is written then
pub record ComparesPaths
    {W : Type 0} (input : Option (List ℕ)) (path deck name : Text) (contents : W → Option (List ℕ))
    (old new : W) (result : Result Outcome CommandFault) (calls : List Call) : Type 0 where
  pub told : IfOk result (ComparesWithDeck input path deck name contents old new calls)
  pub kind : IfOk result IsOfComparison
  pub untouched : IfErr result (λ fault. status_of fault ≢ 4 → new ≡ old)
  pub fault : IfErr result IsDeckFault

-- the same where a deck and a name may be given, without which the schema is told
pub record AnswersSchema
    {W : Type 0} (input : Option (List ℕ)) (path : List ℕ) (deck name : Option (Bor (List ℕ)))
    (contents : W → Option (List ℕ)) (old new : W) (result : Result Outcome CommandFault) (calls : List Call)
    : Type 0 where
  pub told : IfOk result (λ outcome. IsOfSchema outcome
      → TellsAsked input path (word_in deck) contents old new calls outcome)
  pub compared : IfOk result
      (ComparesAsked input path (word_in deck) (word_in name) contents old new calls)
  pub done : IfOk result (IsSchemaDone (word_in deck) (word_in name))
  pub untouched : IfErr result (λ fault. status_of fault ≢ 4 → new ≡ old)
  pub fault : IfErr result (IsSchemaFault (word_in deck) (word_in name))
