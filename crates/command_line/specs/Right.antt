-- What an outcome means where no folder was entered: of what it is right, by the calls that were made, and
-- what was written. All of this is ours.
use Rattle.std.specs.Prelude.{◌≡◌, ◌⊎◌, ℕ, Bool, true, false, List, [], ◌∷◌, Option, Result, IfOk, ⊤}
use Rattle.clap.specs.Words.{Text}
use Rattle.folder_shelf.specs.Calls.{Call}
use Rattle.folder_shelf.specs.Reading.{AreReading}
use Rattle.command_words.specs.Asks.{Ask, AskCheck, AskCobol, AskDeck, AskExplain, AskStat}
use Rattle.command_words.specs.declared.request.Request.{Request}
use Rattle.command_words.specs.declared.request.Request.TheVariants.{Run, Serve, Load, Copy}
use Rattle.file_commands.specs.Counted.{CountsFileAt}
use Rattle.command_support.specs.Front.{OfNamedDeck}
use Rattle.file_commands.specs.Listed.{WritesList, WritesCobol}
use Rattle.file_commands.specs.ByIndex.{ListsRecordsByIndex, FindsOther}
use Rattle.record_listing.specs.declared.file_list.FileList.{FileList}
use Rattle.folder_shelf.specs.Replay.{Unseen}
use Rattle.file_commands.specs.Records.{ListsRecords}
use Rattle.salvaged_records.specs.Salvaged.{outputs}
use Rattle.file_commands.specs.Salvaged.{SalvagesFileAt}
use Rattle.file_commands.specs.Schema.{TellsAsked, ComparesAsked}
use Rattle.file_commands.specs.Verdicts.{ChecksFile, WritesVerdicts}
use Rattle.explanations.specs.Tables.{explanation}
use Rattle.command_line.specs.CallsMade.{CallsMade, all_calls, BeginsWithStreams}
use Rattle.command_line.specs.Encoding.{WritesIn}
use Rattle.command_line.specs.Explained.{WritesExplanation}
use Rattle.command_line.specs.Performed.{AskForRecords, AskForSalvage, AskForSchema, words_of_list}
use Rattle.command_support.specs.declared.fault.CommandFault.{CommandFault}
use Rattle.command_support.specs.declared.outcome.Outcome.{Outcome}
use Rattle.command_support.specs.declared.outcome.Outcome.TheVariants.{Helped, Checked, Ended, Served}
use Rattle.command_support.specs.declared.outcome.Outcome.TheVariants.{SchemaTold, SchemaCompared}
use Rattle.command_support.specs.declared.outcome.Outcome.TheVariants.{SchemaRefused, Explained, Listed}
use Rattle.command_support.specs.declared.outcome.Outcome.TheVariants.{CheckedAll, Records, InCobol, Loaded}
use Rattle.command_support.specs.declared.outcome.Outcome.TheVariants.{Counted, OtherSchema, Salvaged, Copied}

-- the records that words ask for were listed, after a check of the file or without one, page after page
abbrev pub ListsAsAsked : (checked : Bool) → {words : List Text} → Unseen → (input : Option (List ℕ))
    → AskForRecords words → List Call → (before behind : Option (List ℕ)) → FileList → Type 0
ListsAsAsked true disk input asked calls before behind list =
    ListsRecords disk input asked.file (words_of_list asked) asked.from asked.to asked.first before behind
    calls list
ListsAsAsked false disk input asked calls before behind list =
    ListsRecordsByIndex disk input asked.file (words_of_list asked) asked.from asked.to asked.first before
    behind calls list

-- so the differences of the file from the deck whose columns they ask for
abbrev pub DiffersAsAsked : {words : List Text} → (input : Option (List ℕ))
    → AskForRecords words → List Call → (before behind : Option (List ℕ)) → Type 0
DiffersAsAsked input asked calls before behind =
    FindsOther input asked.file (words_of_list asked) before behind calls

-- the records that are left in a file were salvaged as words ask for it, or its differences from a deck were
-- written; and what was told, a writer took
abbrev pub SalvagesAsAsked : {words : List Text} → (input : Option (List ℕ)) → AskForSalvage words → List Call
    → (before behind : Option (List ℕ)) → Outcome → Type 0
SalvagesAsAsked input asked calls before behind outcome = (told : Option (List ℕ))
    × (told_behind : Option (List ℕ))
    × SalvagesFileAt input asked.file asked.form asked.places (outputs before behind told told_behind)
    calls outcome

-- words that are answered by these calls, on a disk with these files at first, with what the input had left at
-- first, by what a writer has before and after
module _ {W : Type 0} (disk : Unseen) (words : List Text) (calls : List Call) (input : Option (List ℕ))
    (contents : W → Option (List ℕ)) (old new : W) where
  -- the outcome is right, of what was read and of what was written. A run, a session, a load and a copy have
  -- entered a folder, and are none of these; of the text of help nothing is said
  abbrev pub IsRightOf : Outcome → Type 0
  IsRightOf (Ended end) = ⊥
  IsRightOf Served = ⊥
  IsRightOf (Loaded end) = ⊥
  IsRightOf (Copied end) = ⊥
  IsRightOf Helped = ⊤
  -- the verdict is that on the file that the words name, and its line was written
  IsRightOf (Checked verdict) = (file : Text) × (quiet : Bool) × AskCheck words (file ∷ []) quiet
      × ChecksFile disk file contents old new calls (Checked verdict)
  -- a line was written of each file that the words name, and this is what is worst of them
  IsRightOf (CheckedAll worst) = (files : List Text) × (quiet : Bool) × AskCheck words files quiet
      × WritesVerdicts disk files (contents old) (contents new) calls worst
  -- the lines of the schema of the file that the words name were written
  IsRightOf SchemaTold = (schema : AskForSchema words)
      × TellsAsked input schema.file schema.deck contents old new calls SchemaTold
  -- it has no schema, for this reason
  IsRightOf (SchemaRefused refusal) = (schema : AskForSchema words)
      × TellsAsked input schema.file schema.deck contents old new calls (SchemaRefused refusal)
  -- its differences from that of the file of a deck that the words name were written
  IsRightOf (SchemaCompared told) = (schema : AskForSchema words)
      × ComparesAsked input schema.file schema.deck schema.name contents old new calls (SchemaCompared told)
  -- the text of the number that the words name was written, and no call was made
  IsRightOf Explained = (kind : Text) × (number : Text) × AskExplain words kind number
      × WritesExplanation (explanation kind number) (contents old) (contents new)
  -- the list of the deck that the words name was written
  IsRightOf Listed = (deck : Text) × AskDeck words deck
      × OfNamedDeck calls input deck (λ bytes. WritesList bytes (contents old) (contents new))
  -- the records that the words ask for were written, in the form and the encoding that they name, or it is
  -- told why not
  IsRightOf (Records list) = (asked : AskForRecords words)
      × WritesIn asked.form.encoding asked.form.kind (contents old) (contents new)
      (λ before behind. ListsAsAsked asked.checked disk input asked calls before behind list)
  -- the file is of another schema than the deck whose columns the words ask for, or by which it is to be
  -- salvaged, and the differences were written
  IsRightOf OtherSchema =
      ((asked : AskForRecords words) × WritesIn asked.form.encoding asked.form.kind (contents old) (contents new)
      (λ before behind. DiffersAsAsked input asked calls before behind))
      ⊎ ((asked : AskForSalvage words) × WritesIn asked.form.encoding asked.form.kind (contents old) (contents new)
      (λ before behind. SalvagesAsAsked input asked calls before behind OtherSchema))
  -- the deck that the words name was written as a program
  IsRightOf InCobol = (deck : Text) × (fixed : Bool) × AskCobol words deck fixed
      × OfNamedDeck calls input deck (λ bytes. WritesCobol bytes fixed (contents old) (contents new))
  -- what the file that the words name has was counted and written, or it is told why not
  IsRightOf (Counted end) = (path : Text) × AskStat words path
      × CountsFileAt disk path contents old new calls (Counted end)
  -- the records that are left in the file that the words name were written, or it is told why not
  IsRightOf (Salvaged end) = (asked : AskForSalvage words)
      × WritesIn asked.form.encoding asked.form.kind (contents old) (contents new)
      (λ before behind. SalvagesAsAsked input asked calls before behind (Salvaged end))

-- the request is for no run, no session, no load and no copy
abbrev pub IsToRead : Request → Type 0
IsToRead (Run deck folder limits strict wait) = ⊥
IsToRead (Serve folder limits wait) = ⊥
IsToRead (Load deck folder file text form encoding into limits lines rejects quiet) = ⊥
IsToRead (Copy file new key limits) = ⊥
IsToRead request = ⊤

-- so do the words ask
abbrev pub AskToRead : List Text → Type 0
AskToRead words = (request : Request) × IsToRead request × Ask words request

-- no folder was entered, and none but reads were made, of which the outcome is right; and nothing was written,
-- where the words ask for a run, a session, a load or a copy
pub record ReadsAlone {W : Type 0} (disk : Unseen) (words : List Text) (input : Option (List ℕ))
    (made : CallsMade) (contents : W → Option (List ℕ)) (old new : W) (outcome : Result Outcome CommandFault) : Type
    0 where
  pub reads : List Call
  pub calls : BeginsWithStreams (all_calls made) reads
  pub reading : AreReading reads
  pub right : IfOk outcome (IsRightOf disk words reads input contents old new)
  pub unwritten : AskToRead words ⊎ (new ≡ old)
