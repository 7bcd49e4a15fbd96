-- What the program did for the words of its command line. All of this is ours.
use Rattle.std.specs.Prelude.{◌≡◌, ◌≢◌, ◌⊎◌, ℕ, Bool, true, false, List, [], ◌∷◌, Option, Some, None}
use Rattle.std.specs.Prelude.{IsSome}
use Rattle.std.specs.Prelude.{Result, Ok, Err, IfOk, IfErr, ⊤, String, string_bytes, codes}
use Rattle.std.specs.Global.{Global, Vec}
use Rattle.folder_shelf.specs.Calls.{Call, asked_of_folder}
use Rattle.folder_shelf.specs.Reading.{ByReads}
use Rattle.clap.specs.Words.{Text}
use Rattle.clap.specs.declared.error.Error.{Error}
use Rattle.folder_shelf.specs.SystemState.{SystemState, with_call}
use Rattle.folder_shelf.specs.FailedCalls.{failed_calls}
use Rattle.folder_shelf.specs.Replay.{Unseen}
use Rattle.folder_shelf.specs.Within.{StaysWithin}
use Rattle.deck_parser.specs.declared.fault.DeckFault.{DeckFault}
use Rattle.deck_runner.specs.DeckRun.{IsNoDeck}
use Rattle.deck_runner.specs.RunEnd.{TellsLines, ToldInPart}
use Rattle.deck_runner.specs.declared.run_end.RunEnd.{RunEnd}
use Rattle.shelf_run.specs.ShelfRun.{OnShelf, Runs, BreaksOff, LeavesFiles, StaysSound}
use Rattle.shelf_run.specs.ExactRun.{IsExactRun}
use Rattle.command_words.specs.Asks.{FormText, AskRun, AskCheck, AskServe, AskSchema, AskExplain, AskDeck}
use Rattle.command_words.specs.declared.line_options.LineOptions.{LineOptions}
use Rattle.command_words.specs.Asks.{AskList, AskCobol, AskLoad, AskStat, AskSalvage, AskHelp, AskNothing}
use Rattle.command_words.specs.declared.limits.Limits.{Limits}
use Rattle.command_line.specs.CallsMade.{CallsMade, BeginsNothing, calls_made, folder_behind, streams_first}
use Rattle.command_line.specs.Copied.{AskForCopy, EndsInName}
use Rattle.command_line.specs.Devices.{Devices}
use Rattle.command_line.specs.Folder.{OverFolder}
use Rattle.command_line.specs.Transcript.{IsRunFault}
use Rattle.command_line.specs.Encoding.{IsNoEncodingWord}
use Rattle.command_line.specs.LoadForm.{IsNoFormWord}
use Rattle.command_support.specs.AskedForm.{ListWords, IsConditionFaultOf}
use Rattle.command_support.specs.AskedKey.{IsKeyRefused}
use Rattle.command_support.specs.DeckFile.{IsDeckAsked, IsHalf}
use Rattle.command_support.specs.Forms.{HasFormFault}
use Rattle.command_support.specs.Front.{IsDeckNamed}
use Rattle.streams.specs.declared.standard_input.StandardInput.{StandardInput}
use Rattle.command_line.specs.declared.done.Done.{Done}
use Rattle.command_line.specs.declared.done.Ran.{Ran}
use Rattle.command_support.specs.Status.{status_of}
use Rattle.command_support.specs.declared.form_fault.FormFault.{FormFault}
use Rattle.command_support.specs.declared.form_fault.FormFault.TheVariants.{Kind, HalfDeck}
use Rattle.command_support.specs.declared.form_fault.FormFault.TheVariants.{Encoding as NoEncoding}
use Rattle.command_support.specs.declared.fault.CommandFault.{CommandFault}
use Rattle.command_support.specs.declared.fault.CommandFault.TheVariants.{Deck, NotListed, NoSuchFile}
use Rattle.command_support.specs.declared.fault.CommandFault.TheVariants.{Form as NoForm, Unexplained, LongValue, NoFileName}
use Rattle.command_support.specs.declared.fault.CommandFault.TheVariants.{Condition as NoCondition, LoneRejects}
use Rattle.command_support.specs.declared.fault.CommandFault.TheVariants.{NoSuchKey, LoneKeyName}
use Rattle.command_support.specs.declared.fault.CommandFault.TheVariants.{Usage, Input, Output, Memory}
use Rattle.command_support.specs.declared.outcome.Outcome.{Outcome}
use Rattle.command_support.specs.declared.outcome.Outcome.TheVariants.{Helped, Checked, Ended, Served}
use Rattle.command_support.specs.declared.outcome.Outcome.TheVariants.{SchemaTold, SchemaCompared}
use Rattle.command_support.specs.declared.outcome.Outcome.TheVariants.{SchemaRefused, Explained, Listed}
use Rattle.command_support.specs.declared.outcome.Outcome.TheVariants.{CheckedAll, Records, InCobol, Loaded}
use Rattle.command_support.specs.declared.outcome.Outcome.TheVariants.{Counted, OtherSchema, Salvaged, Copied}

-- a run over a folder: the bytes of its deck, and the system since the folder was entered
pub record Begun : Type 0 where
  pub bytes : List ℕ
  pub disk : Unseen
  pub system : SystemState

-- the same, by its parts
abbrev pub begun : Unseen → List ℕ → SystemState → Begun
begun disk bytes system = record { bytes = bytes; disk = disk; system = system }

-- how often a call on a file failed in it
abbrev pub faults_in : Begun → ℕ
faults_in run = failed_calls run.system.calls

-- how a run ended, as what was done
abbrev pub outcome_of : Result RunEnd CommandFault → Result Outcome CommandFault
outcome_of (Ok end) = Ok (Ended end)
outcome_of (Err fault) = Err fault

-- the end of a run, or why it came to none
abbrev pub IsRunOutcome : Result Outcome CommandFault → Type 0
IsRunOutcome (Ok (Ended end)) = ⊤
IsRunOutcome (Ok outcome) = ⊥
IsRunOutcome (Err fault) = IsRunFault fault

-- what was written before and after it
pub record Written : Type 0 where
  pub before : Option (List ℕ)
  pub behind : Option (List ℕ)

-- the same, by its parts
abbrev pub written : (before behind : Option (List ℕ)) → Written
written before behind = record { before = before; behind = behind }

-- by what a writer has
abbrev pub wrote : {W : Type 0} → (W → Option (List ℕ)) → (old new : W) → Written
wrote contents old new = written (contents old) (contents new)

-- the run of these bytes over the folder of this path, with this limit of pages and this number of
-- frames, came to this
pub record CameTo (folder : List ℕ) (limit frames : ℕ) (run : Begun) (out : Written)
    (outcome : Result Outcome CommandFault) : Type 0 where
  pub exact : (end : RunEnd) → outcome ≡ Ok (Ended end) → end.clean ≡ true
      → OverFolder run.disk folder run.system
      (λ first last. IsExactRun run.bytes first last out.before out.behind end)
  pub whole : (end : RunEnd) → outcome ≡ Ok (Ended end)
      → OverFolder run.disk folder run.system (λ first last. OnShelf run.bytes first last (λ deck.
      TellsLines out.before out.behind end (Runs limit frames first last 0 (faults_in run) deck)))
  pub part : outcome ≡ Err Output
      → OverFolder run.disk folder run.system (λ first last. OnShelf run.bytes first last (λ deck.
      ToldInPart out.before out.behind (BreaksOff limit frames first last 0 (faults_in run) deck)))
  pub nothing : (fault : CommandFault) → outcome ≡ Err fault → fault ≢ Output
      → (out.behind ≡ out.before) × OverFolder run.disk folder run.system LeavesFiles
  pub refused : (fault : DeckFault) → outcome ≡ Err (Deck fault) → IsNoDeck run.bytes fault
  pub sound : OverFolder run.disk folder run.system StaysSound

-- the path was read of a folder, which it was told to be; or it was not, and nothing but that was asked
pub record ReadsFolder (path : List ℕ) (old new : SystemState) (result : Result (String Global) CommandFault)
    : Type 0 where
  pub given : IfOk result (λ found. (string_bytes found ≡ path)
      × (new ≡ with_call (asked_of_folder path (Some true)) old))
  pub reads : ByReads (λ _. ⊤) old new
  pub fault : IfErr result (λ fault. status_of fault ≡ 4)

-- the bytes of a deck were read of the path, or of the input where the path is a hyphen, and then the path
-- of a folder; or only reads were made
pub record ReadsInputs (input : Option (List ℕ)) (deck folder : List ℕ) (old new : SystemState)
    (result : Result (Vec ℕ × String Global) CommandFault) : Type 0 where
  pub given : IfOk result (λ inputs. (string_bytes inputs.1 ≡ folder) × (reads : List Call)
      × IsDeckNamed reads input deck inputs.0.items × (new.calls ≡ folder_behind folder reads old.calls))
  pub reads : ByReads (λ _. ⊤) old new
  pub fault : IfErr result (λ fault. status_of fault ≡ 4)

-- a run was begun, behind what was asked before: the bytes of its deck were read of the path, or of the
-- input where the path is a hyphen; it was told that the folder is one; since then the system was asked
-- of the files of the folder that it entered, and of nothing else; and so the run came to this
pub record BeginsRun (base : List Call) (input : Option (List ℕ)) (deck folder : Text) (limit frames : ℕ)
    (disk : Unseen) (made : CallsMade) (bytes : List ℕ) (out : Written)
    (outcome : Result Outcome CommandFault) : Type 0 where
  pub reads : List Call
  pub is_deck : IsDeckNamed reads input deck bytes
  pub before : made.before ≡ folder_behind folder reads base
  pub within : StaysWithin made.system
  pub came : CameTo folder limit frames (begun disk bytes made.system) out outcome
  pub told : IsRunOutcome outcome

-- a run was begun so, strict or not, which is given back; or none was
abbrev pub ComesOfRun : {I W : Type 0} → (old : SystemState) → (I → Option (List ℕ)) → StandardInput I
    → (deck folder : List ℕ) → Limits → (strict : Bool) → Unseen → CallsMade → (W → Option (List ℕ))
    → (out out_after : W) → Option Ran → Result Outcome CommandFault → Type 0
ComesOfRun old left input deck folder limits strict disk made contents out out_after None outcome =
    BeginsNothing old made out out_after outcome × IfErr outcome (λ fault. status_of fault ≡ 4)
ComesOfRun old left input deck folder limits strict disk made contents out out_after (Some ran) outcome =
    (ran.strict ≡ strict) × BeginsRun old.calls (left input.reader) deck folder limits.pages
    limits.frames.value disk made ran.bytes.items (wrote contents out out_after) outcome

-- the words ask for a run, strict or not as it is said, and this run was begun, over the folder that
-- they name, with their limit of pages and number of frames
pub record RanAsAsked (words : List Text) (input : Option (List ℕ)) (disk : Unseen) (made : CallsMade)
    (out : Written) (strict : Bool) (outcome : Result Outcome CommandFault) : Type 0 where
  pub deck : Text
  pub folder : Text
  pub pages : ℕ
  pub frames : ℕ
  pub bytes : List ℕ
  pub asks : AskRun words deck folder pages frames strict
  pub run : BeginsRun streams_first input deck folder pages frames disk made bytes out outcome

-- the words ask for a run
pub record AskForRun (words : List Text) : Type 0 where
  pub deck : Text
  pub folder : Text
  pub pages : ℕ
  pub frames : ℕ
  pub strict : Bool
  pub asked : AskRun words deck folder pages frames strict

-- the words ask for the list of a deck, or for a deck as a COBOL program
abbrev pub AskOfDeck : List Text → Type 0
AskOfDeck words = ((deck : Text) × AskDeck words deck)
    ⊎ ((deck : Text) × (fixed : Bool) × AskCobol words deck fixed)

-- the words ask for a load
pub record AskForLoad (words : List Text) : Type 0 where
  pub deck : Text
  pub folder : Text
  pub file : Text
  pub text : Text
  pub form : Text
  pub encoding : Text
  pub into : Bool
  pub pages : ℕ
  pub frames : ℕ
  pub lines : LineOptions
  pub rejects : Option Text
  pub quiet : Bool
  pub asked : AskLoad words deck folder file text form encoding into pages frames lines rejects quiet

-- the words ask for records of a file
pub record AskForRecords (words : List Text) : Type 0 where
  pub file : Text
  pub key : Text
  pub from : Option Text
  pub to : Option Text
  pub first : ℕ
  pub conditions : List Text
  pub form : FormText
  pub checked : Bool
  pub quiet : Bool
  pub asked : AskList words file key from to first conditions form checked quiet

-- what they ask for, of which a deck may tell something
abbrev pub words_of_list : {words : List Text} → AskForRecords words → ListWords
words_of_list list = record { form = list.form; key = list.key; conditions = list.conditions }

-- the words ask for a schema
pub record AskForSchema (words : List Text) : Type 0 where
  pub file : Text
  pub deck : Option Text
  pub name : Option Text
  pub asked : AskSchema words file deck name

-- the words ask for what is left in a file
pub record AskForSalvage (words : List Text) : Type 0 where
  pub file : Text
  pub form : FormText
  pub places : Bool
  pub asked : AskSalvage words file form places

-- the words of a salvage have this fault of its form: as text half of a file of a deck is given; the fault is
-- one of a list; or there is no such encoding
abbrev pub HasSalvageFault : FormText → FormFault → Type 0
HasSalvageFault form fault =
    ((form.kind ≡ codes "text") × IsHalf form.deck form.name × (fault ≡ HalfDeck))
    ⊎ ((form.kind ≢ codes "text") × HasFormFault form fault)
    ⊎ ((fault ≡ NoEncoding) × HasFormFault form NoEncoding)

-- the words ask for a file of a deck: to load a text into it, to have the columns of its record, to
-- hold its schema against that of a file, or to salvage a file by it
abbrev pub AskOfFile : List Text → Type 0
AskOfFile words =
    AskForLoad words ⊎ ((list : AskForRecords words) × IsDeckAsked list.form.deck list.form.name)
    ⊎ ((schema : AskForSchema words) × IsDeckAsked schema.deck schema.name)
    ⊎ ((salvage : AskForSalvage words) × IsDeckAsked salvage.form.deck salvage.form.name)

-- the words ask for a list in a form that has this fault, for a schema beside half of what is to be
-- held against it, for a salvage in a form that has it, or for a load by a word that asks for no form, or
-- for no encoding
abbrev pub AskForNoForm : List Text → FormFault → Type 0
AskForNoForm words fault =
    ((list : AskForRecords words) × HasFormFault list.form fault)
    ⊎ ((schema : AskForSchema words) × IsHalf schema.deck schema.name × (fault ≡ HalfDeck))
    ⊎ ((salvage : AskForSalvage words) × HasSalvageFault salvage.form fault)
    ⊎ ((load : AskForLoad words) × (fault ≡ Kind) × IsNoFormWord load.form)
    ⊎ ((load : AskForLoad words) × (fault ≡ NoEncoding) × IsNoEncodingWord load.encoding)

-- what was done for the words: help was written for those that ask for it, files checked for those
-- that ask for that, records listed for those that ask for records, or the file found to be of another
-- schema than its deck, for these and for those that ask for a salvage, a program written for those that ask for one in COBOL, a text loaded
-- for those that ask for that, the pages of a file counted for those that ask for that, the
-- records of a file salvaged for those that ask for that, a file copied for those that ask for that, requests
-- answered for those that ask for a
-- session, a schema told, compared or refused for those that ask for one, and a run came to its end for those that ask for one; a fault that is told of the words is
-- theirs. The input, the output or memory may fail for any words.
abbrev pub Did : List Text → Result Outcome CommandFault → Type 0
Did words (Ok Helped) = (text : Error) × AskHelp words text
Did words (Ok (Checked verdict)) = (file : Text) × (quiet : Bool) × AskCheck words (file ∷ []) quiet
Did words (Ok (CheckedAll worst)) = (files : List Text) × (quiet : Bool) × AskCheck words files quiet
Did words (Ok (Ended end)) = AskForRun words
Did words (Ok Served) = (folder : Text) × (pages : ℕ) × (frames : ℕ) × AskServe words folder pages frames
Did words (Ok SchemaTold) = (file : Text) × AskSchema words file None None
Did words (Ok (SchemaCompared told)) = (schema : AskForSchema words)
    × IsDeckAsked schema.deck schema.name
Did words (Ok (SchemaRefused refusal)) = AskForSchema words
Did words (Ok Explained) = (kind : Text) × (number : Text) × AskExplain words kind number
Did words (Ok Listed) = (deck : Text) × AskDeck words deck
Did words (Ok (Records list)) = AskForRecords words
Did words (Ok OtherSchema) = AskForRecords words ⊎ AskForSalvage words
Did words (Ok InCobol) = (deck : Text) × (fixed : Bool) × AskCobol words deck fixed
Did words (Ok (Loaded end)) = AskForLoad words
Did words (Ok (Counted end)) = (file : Text) × AskStat words file
Did words (Ok (Salvaged end)) = AskForSalvage words
Did words (Ok (Copied end)) = AskForCopy words
Did words (Err (Deck fault)) = AskOfFile words ⊎ AskForRun words
Did words (Err NoSuchFile) = AskOfFile words
Did words (Err (NoForm fault)) = AskForNoForm words fault
Did words (Err (NoCondition fault)) =
    (list : AskForRecords words) × IsConditionFaultOf list.form list.conditions fault
Did words (Err LoneKeyName) =
    (list : AskForRecords words) × IsKeyRefused list.form list.key LoneKeyName
Did words (Err (NoSuchKey told)) =
    (list : AskForRecords words) × IsKeyRefused list.form list.key (NoSuchKey told)
Did words (Err LongValue) = AskForRecords words
Did words (Err LoneRejects) =
    (load : AskForLoad words) × IsSome load.rejects × (load.lines.keep_going ≡ false)
Did words (Err NoFileName) = (copy : AskForCopy words) × (EndsInName copy.new → ⊥)
Did words (Err Unexplained) = (kind : Text) × (number : Text) × AskExplain words kind number
Did words (Err (NotListed fault)) = AskOfDeck words
Did words (Err (Usage text)) = AskNothing words text
Did words (Err Input) = ⊤
Did words (Err Output) = ⊤
Did words (Err Memory) = ⊤

-- so over devices
abbrev pub ComesOfRunOver : {S X I W : Type 0} → Devices S X I W → (system : S) → (aside : List Call) → S × Done
    → StandardInput I → (deck folder : List ℕ) → Limits → (strict : Bool) → (out out_after : W) → Type 0
ComesOfRunOver over system aside result input deck folder limits strict out out_after =
    ComesOfRun (over.state system) over.left input deck folder limits strict over.disk
    (calls_made aside (over.state result.0)) over.contents out out_after result.1.ran result.1.outcome
