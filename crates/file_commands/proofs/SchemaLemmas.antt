-- What is told of a schema that was held against that of a deck.
use Rattle.std.proofs.Common.{rules, ◌≡◌, ℕ, List, [], ◌++◌, Option, Some, None, Result, Ok, Err, Bor, refl, sym, ap, ◌∙◌}
use Rattle.record_layout.specs.Schema.{Schema}
use Rattle.open_file.specs.declared.first_page.Header.{Header}
use Rattle.file_reports.specs.Comparing.{TellsDifferences}
use Rattle.file_reports.specs.SchemaListing.{TellsHeader, read_of_file}
use Rattle.file_reports.specs.declared.first_page.Refusal.{Refusal}
use Rattle.file_control.specs.Description.{FileDesc}
use Rattle.folder_shelf.specs.Calls.{Call}
use Rattle.command_support.specs.DeckFile.{IsDeckFault, IsOfDeck}
use Rattle.command_support.specs.Front.{IsDeckNamed, word_in}
use Rattle.file_commands.specs.Schema.{ComparesFile, TellsFile, ComparesPaths, AnswersSchema, IsSchemaFault, ComesOfFile, IsOfSchema, IsOfComparison}
use Rattle.command_support.proofs.DeckLemmas.{not_there}
use Rattle.command_support.specs.Status.{status_of}
use Rattle.command_support.specs.declared.fault.CommandFault.{CommandFault}
use Rattle.command_support.specs.declared.fault.CommandFault.TheVariants.{Deck as DeckRefused, NoSuchFile, Input, Output, Memory}
use Rattle.command_support.specs.declared.outcome.Outcome.{Outcome}
use Rattle.command_support.specs.declared.outcome.Outcome.TheVariants.{SchemaTold, SchemaCompared, SchemaRefused}

-- why a page is none is told alike, with a deck or without
same_refusal : (deck : Schema) (before after : Option (List ℕ)) (read : Result Header Refusal) (refusal : Refusal) → TellsDifferences deck before after read (Err refusal)
    → TellsHeader before after read (Err refusal)
same_refusal deck before after (Ok header) refusal is = is
same_refusal deck before after (Err why) refusal is = is

-- what is told of a file, and what follows from it
pub file_told : {IsKind IsSo AlsoSo : Outcome → Type 0} (result : Result Outcome CommandFault) → ((outcome : Outcome) → IsSo outcome → AlsoSo outcome) → ComesOfFile IsKind IsSo result
    → ComesOfFile IsKind AlsoSo result
file_told (Ok outcome) also is = record { told = also outcome is.told; kind = is.kind }
file_told (Err fault) also is = record { told = tt; kind = is.kind }

-- nothing is told of a file that was not read
pub file_not_read : {IsKind IsSo : Outcome → Type 0} (fault : CommandFault) → status_of fault ≡ 4 → ComesOfFile IsKind IsSo (Err fault)
file_not_read fault four = record { told = tt; kind = four }

not_told : (fault : CommandFault) → status_of fault ≡ 4 → IsSchemaFault None None fault
not_told Input is = tt
not_told Output is = tt
not_told Memory is = tt
not_told fault is = absurd (cc)

module _ {W : Type 0} (input : Option (List ℕ)) (path : List ℕ) (contents : W → Option (List ℕ)) (old new : W) (calls : List Call) where
  -- without a deck and a name, the schema is told
  pub told_alone : (result : Result Outcome CommandFault) → ComesOfFile IsOfSchema (TellsFile path contents old new [] calls) result → AnswersSchema input path None None contents old new result calls
  told_alone (Ok SchemaTold) is = record { told = λ of. ([], refl, is.told); compared = λ t same. absurd (cc); done = (refl, refl); untouched = tt; fault = tt }
  told_alone (Ok (SchemaRefused refusal)) is = record { told = λ of. ([], refl, is.told); compared = λ t same. absurd (cc); done = tt; untouched = tt; fault = tt }
  told_alone (Ok outcome) is = absurd is.kind
  told_alone (Err fault) is = record { told = tt; compared = tt; done = tt; untouched = λ other. absurd (other is.kind); fault = not_told fault is.kind }

  module _ (deck name : Bor (List ℕ)) where
    refused_as : (schema : Schema) (before : List Call) (refusal : Refusal) → ComparesFile path schema contents old new before calls (SchemaRefused refusal)
        → TellsFile path contents old new before calls (SchemaRefused refusal)
    refused_as schema before refusal is = (is.0, is.1, same_refusal schema (contents old) (contents new) (read_of_file is.0) refusal is.2)

    not_compared : (fault : CommandFault) → IsDeckFault fault → IsSchemaFault (word_in (Some deck)) (word_in (Some name)) fault
    not_compared (DeckRefused why) is = search rules
    not_compared NoSuchFile is = search rules
    not_compared Input is = tt
    not_compared Output is = tt
    not_compared Memory is = tt
    not_compared fault is = absurd is

    -- where a deck and a name are given, the schema is told or compared as with them
    pub compared_with : (result : Result Outcome CommandFault) → ComparesPaths input path deck.now name.now contents old new result calls
        → AnswersSchema input path (Some deck) (Some name) contents old new result calls
    compared_with (Ok (SchemaCompared told)) is = record { told = λ of. absurd of; compared = λ t same. is.told; done = search rules; untouched = tt; fault = tt }
    compared_with (Ok (SchemaRefused refusal)) is = record {
      told = λ of. (is.told.1, (is.told.2.bytes, is.told.2.is_read), refused_as is.told.0.schema is.told.1 refusal is.told.3);
      compared = λ t same. absurd (cc);
      done = tt;
      untouched = tt;
      fault = tt;
    }
    compared_with (Ok outcome) is = absurd is.kind
    compared_with (Err fault) is = record { told = tt; compared = tt; done = tt; untouched = is.untouched; fault = not_compared fault is.fault }

  -- the file was held against that of a deck
  pub compared_by : (described : FileDesc) (before later : List Call) (deck name : List ℕ) → IsOfDeck (IsDeckNamed before input deck) name described → later ++ before ≡ calls
      → (result : Result Outcome CommandFault) → ComesOfFile IsOfComparison (ComparesFile path described.schema contents old new [] later) result
      → ComparesPaths input path deck name contents old new result calls
  compared_by described before later deck name of both (Ok outcome) is = record {
    told = (described, before, of, (is.told.0, sym both ∙ ap (λ (l : List Call). l ++ before) is.told.1, is.told.2));
    kind = is.kind;
    untouched = tt;
    fault = tt;
  }
  compared_by described before later deck name of both (Err fault) is = record { told = tt; kind = tt; untouched = λ other. absurd (other is.kind); fault = not_there fault is.kind }

-- nothing was compared, and nothing written
pub not_found : {W : Type 0} {input : Option (List ℕ)} {path deck name : List ℕ} {contents : W → Option (List ℕ)} {out : W} {calls : List Call} (fault : CommandFault) → IsDeckFault fault
    → ComparesPaths input path deck name contents out out (Err fault) calls
not_found fault is = record { told = tt; kind = tt; untouched = λ _. refl; fault = is }
