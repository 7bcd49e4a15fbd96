-- What is loaded into a file of a deck over a folder. All of this is ours.
use Rattle.std.specs.Prelude.{◌≡◌, ◌≢◌, ◌⊎◌, ◌*◌, ℕ, Bool, true, false, List, [], ◌++◌, Option, IsTrue}
use Rattle.std.specs.Prelude.{Result, Ok, Err, IfOk, IfErr, OnErr}
use Rattle.std.specs.Prelude.{String, string_bytes, option_map}
use Rattle.std.specs.Global.{Global}
use Rattle.std.specs.Io.KnownBytes.{Appends}
use Rattle.folder_shelf.specs.Calls.{Call}
use Rattle.folder_shelf.specs.Reading.{with_calls}
use Rattle.folder_shelf.specs.SystemState.{SystemState, file_path}
use Rattle.folder_shelf.specs.Replay.{Unseen}
use Rattle.folder_shelf.specs.Within.{StaysWithin}
use Rattle.record_layout.specs.Schema.{Schema}
use Rattle.file_control.specs.Description.{FileDesc}
use Rattle.deck_reader.specs.declared.deck.Deck.{Deck}
use Rattle.deck_reader.specs.Deck.{IsDeck}
use Rattle.shelf_run.specs.ShelfRun.{LeavesFiles}
use Rattle.record_text.specs.declared.form.Form.{Form}
use Rattle.page_store.specs.ShelfState.{ShelfState}
use Rattle.command_words.specs.declared.line_options.LineOptions.{LineOptions}
use Rattle.record_loading.specs.Passing.{LoadSource}
use Rattle.record_loading.specs.declared.options.LoadOptions.{LoadOptions}
use Rattle.record_loading.specs.Told.{ToldLine}
use Rattle.record_loading.specs.declared.end.Load.{Load}
use Rattle.record_loading.specs.declared.end.Load.TheVariants.{New, Into}
use Rattle.record_loading.specs.Answer.{answer_of}
use Rattle.record_loading.specs.Loaded.{KeepsOtherNames, IsSafeLoad, is_compared}
use Rattle.record_loading.specs.SortedLoad.{EndsTextLoad}
use Rattle.record_loading.specs.declared.shelf_end.ShelfEnd.{ShelfEnd}
use Rattle.record_loading.specs.declared.shelf_end.ShelfEnd.TheVariants.{IsThere, Loaded}
use Rattle.command_line.specs.CallsMade.{CallsMade, BeginsNothing, calls_made, folder_behind}
use Rattle.command_line.specs.Devices.{Devices}
use Rattle.command_line.specs.Folder.{OverFolder}
use Rattle.command_line.specs.Encoding.{IsTextIn, encoding_word}
use Rattle.command_line.specs.LoadForm.{IsFormOf, IsFaultOfLoad, form_word}
use Rattle.command_support.specs.DeckFile.{IsFileOf, IsDeckFault}
use Rattle.file_commands.specs.Differing.{AreDifferencesOf}
use Rattle.command_support.specs.Front.{IsTextNamed, IsDeckNamed}
use Rattle.streams.specs.declared.standard_input.StandardInput.{StandardInput}
use Rattle.command_line.specs.declared.encoding.Encoding.{Encoding}
use Rattle.command_line.specs.declared.load_form.FormKind.{FormKind}
use Rattle.command_line.specs.declared.loading.Loading.{Loading}
use Rattle.command_support.specs.Status.{status_of}
use Rattle.command_support.specs.declared.outcome.Outcome.{Outcome}
use Rattle.command_support.specs.declared.outcome.Outcome.TheVariants.{Loaded as LoadEnded}
use Rattle.command_support.specs.declared.fault.CommandFault.{CommandFault}
use Rattle.command_support.specs.declared.fault.CommandFault.TheVariants.{Input, Output, Memory}

-- into what a flag says that records are loaded
abbrev pub load_of : Bool → Load
load_of true = Into
load_of false = New

-- which lines the words ask for
abbrev pub options_of : LineOptions → LoadOptions
options_of lines = record {
  skip = lines.skip;
  keep_going = lines.keep_going;
  replace = lines.replace;
  pad = lines.pad;
  memory = lines.memory * 1048576;
  sort = lines.sort;
}

-- a text in a form, of which these lines are to be loaded
abbrev pub load_source : Form → (text : List ℕ) → LoadOptions → LoadSource
load_source form text options = record { form = form; text = text; options = options }

-- a load ended so, of some lines that were rejected and told: of the text, or of the text sorted
abbrev pub EndsLoadOf : (name : List ℕ) → Schema → Load → LoadSource → (old : ShelfState) → ShelfEnd
    → (new : ShelfState) → Type 0
EndsLoadOf name schema load source old end new = (told : List ToldLine)
    × EndsTextLoad name schema load source told old end new

-- a load of a text into the file of a name in the folder of this path, which the system entered, and of
-- whose files alone it was asked since: how it ended, and what it left where it came to nothing; all other names stand for what they stood for; and
-- no crash leaves a false file
pub record LoadsFolder (disk : Unseen) (folder name : List ℕ) (schema : Schema) (load : Load)
    (source : LoadSource) (system : SystemState) (result : Result ShelfEnd CommandFault) : Type 0 where
  pub within : StaysWithin system
  pub ends : OverFolder disk folder system (λ first last.
      IfOk result (λ end. EndsLoadOf name schema load source first end last))
  pub nothing : OverFolder disk folder system (λ first last. OnErr result (LeavesFiles first last))
  pub others : OverFolder disk folder system (KeepsOtherNames name)
  pub safe : OverFolder disk folder system (IsSafeLoad name)

-- so of a load of a text into a file that is described
abbrev pub LoadsDescribed : (disk : Unseen) → (path : List ℕ) → FileDesc → Load → LoadSource → SystemState
    → Result ShelfEnd CommandFault → Type 0
LoadsDescribed disk path file load source system result =
    LoadsFolder disk path file.file file.schema load source system result

-- why nothing was loaded
abbrev pub IsShelfFault : CommandFault → Type 0
IsShelfFault fault = (fault ≡ Input) ⊎ (fault ≡ Memory)

-- the lines that tell of a load; nothing is told of it where the name has a file already
abbrev pub told_of_load : ShelfEnd → List ℕ
told_of_load IsThere = []
told_of_load (Loaded end) = answer_of end

-- the lines of what the file of a path differs from a deck in, by the calls behind a load; none, and no
-- such call, where its schema is not held against that of the deck
abbrev pub AreToldBy : (is_compared : Bool) → (path : List ℕ) → Schema → List Call → (lines : List ℕ)
    → Type 0
AreToldBy true path schema calls lines = AreDifferencesOf path schema calls lines
AreToldBy false path schema calls lines = (calls ≡ []) × (lines ≡ [])

-- the lines that tell of a load were written, and those of the differences behind them
abbrev pub WritesAnswer : (path : List ℕ) → Schema → ShelfEnd → List Call → (before behind : Option (List ℕ))
    → Type 0
WritesAnswer path schema end calls before behind = (lines : List ℕ)
    × AreToldBy (is_compared end) path schema calls lines
    × Appends before behind (told_of_load end ++ lines)

-- the lines that tell of a load were written, and these behind them; or the output took not all of that
abbrev pub WritesEnd : ShelfEnd → (lines : List ℕ) → (before behind : Option (List ℕ))
    → Result Outcome CommandFault → Type 0
WritesEnd end lines before behind outcome =
    ((outcome ≡ Ok (LoadEnded end)) × Appends before behind (told_of_load end ++ lines))
    ⊎ (outcome ≡ Err Output)

-- memory was lacking for the lines of the differences, and nothing was written
abbrev pub LacksMemoryFor : ShelfEnd → (before behind : Option (List ℕ)) → Result Outcome CommandFault → Type 0
LacksMemoryFor end before behind outcome =
    (outcome ≡ Err Memory) × IsTrue (is_compared end) × (behind ≡ before)

-- it was told how a load ended into the file of a path, and by the calls behind it how that differs; or
-- the output took not all of that, or memory was lacking; or it is told why nothing was loaded, and
-- nothing was written
abbrev pub TellsLoad : (path : List ℕ) → Schema → Result ShelfEnd CommandFault → List Call
    → (before behind : Option (List ℕ)) → Result Outcome CommandFault → Type 0
TellsLoad path schema (Ok end) calls before behind outcome =
    ((outcome ≡ Ok (LoadEnded end)) × WritesAnswer path schema end calls before behind)
    ⊎ (outcome ≡ Err Output) ⊎ LacksMemoryFor end before behind outcome
TellsLoad path schema (Err fault) calls before behind outcome =
    (outcome ≡ Err fault) × IsShelfFault fault × (calls ≡ []) × (behind ≡ before)

-- so of a load that ended so
abbrev pub TellsEndOfLoad : (path : List ℕ) → Schema → ShelfEnd → (before behind : Option (List ℕ))
    → Result Outcome CommandFault → List Call → Type 0
TellsEndOfLoad path schema end before behind outcome calls = TellsLoad path schema (Ok end) calls before behind outcome

-- the bytes are a deck that has a file of this name, a text was loaded into that file in this folder,
-- in the form that a word asks for, which left this system, and it was told how that ended
pub record LoadsDeck
    (disk : Unseen) (system : SystemState) (IsTheText : List ℕ → Type 0) (bytes folder name word : List ℕ)
    (into : Bool) (options : LoadOptions) (before behind : Option (List ℕ)) (outcome : Result Outcome CommandFault) : Type 0 where
  pub deck : Deck
  pub is_deck : IsDeck bytes deck
  pub file : FileDesc
  pub named : IsFileOf deck.files name file
  pub form : Form
  pub is_form : IsFormOf word file form
  pub text : List ℕ
  pub is_text : IsTheText text
  pub end : Result ShelfEnd CommandFault
  pub left : SystemState
  pub loads : LoadsFolder disk folder file.file file.schema (load_of into) (load_source form text options) left end
  pub calls : List Call
  pub behind_load : system ≡ with_calls calls left
  pub told : TellsLoad (file_path folder file.file) file.schema end calls before behind outcome

-- a load was begun of which this is so; or none was; a fault is one of these, and if it is none of the
-- input, the output and memory, nothing was written
pub record ComesOfLoad {W : Type 0} (IsBegun : Type 0) (IsSuch : CommandFault → Type 0) (old : SystemState)
    (made : CallsMade) (out out_after : W) (outcome : Result Outcome CommandFault) : Type 0 where
  pub came : BeginsNothing old made out out_after outcome ⊎ IsBegun
  pub untouched : IfErr outcome (λ fault. status_of fault ≢ 4 → out_after ≡ out)
  pub fault : IfErr outcome IsSuch

-- a load was begun, behind what was asked before: a text was read of the path, or of the input where the
-- path is a hyphen, which is in an encoding, and loaded into a file of the deck that the bytes are
abbrev pub BeginsLoad : (base : List Call) → (input : Option (List ℕ)) → (bytes folder : List ℕ)
    → (file text form encoding : List ℕ) → (into : Bool) → LoadOptions → Unseen → CallsMade → (before behind : Option (List ℕ))
    → Result Outcome CommandFault → Type 0
BeginsLoad base input bytes folder file text form encoding into options disk made before behind outcome =
    (reads : List Call) × (made.before ≡ reads ++ base)
    × LoadsDeck disk made.system (IsTextIn encoding form (IsTextNamed reads input text)) bytes folder file form
    into options before behind outcome

abbrev pub LoadsBytes : {I W : Type 0} → (old : SystemState) → (I → Option (List ℕ)) → StandardInput I
    → Unseen → CallsMade → (bytes : List ℕ) → (path : String Global) → FormKind → Encoding → Loading
    → (W → Option (List ℕ)) → (out out_after : W) → Result Outcome CommandFault → Type 0
LoadsBytes old left input disk made bytes path kind encoding asks contents out out_after outcome = ComesOfLoad
    (BeginsLoad old.calls (left input.reader) bytes (string_bytes path) asks.file.now asks.text.now
    (form_word kind) (encoding_word encoding) asks.into asks.lines disk made (contents out) (contents out_after)
    outcome)
    IsDeckFault old made out out_after outcome

-- so of the bytes of a deck that were read of a path, or of the input where the path is a hyphen, once it
-- was told that the folder is one
abbrev pub BeginsLoadOfDeck : (base : List Call) → (input : Option (List ℕ)) → (deck folder : List ℕ)
    → (file text form encoding : List ℕ) → (into : Bool) → LoadOptions → Unseen → CallsMade → (before behind : Option (List ℕ))
    → Result Outcome CommandFault → Type 0
BeginsLoadOfDeck base input deck folder file text form encoding into options disk made before behind outcome =
    (bytes : List ℕ) × (reads : List Call) × IsDeckNamed reads input deck bytes
    × BeginsLoad (folder_behind folder reads base) input bytes folder file text form encoding into options disk
    made before behind outcome

abbrev pub LoadsAsked : {I W : Type 0} → (old : SystemState) → (I → Option (List ℕ)) → StandardInput I
    → Unseen → CallsMade → (deck folder : List ℕ) → Loading → (W → Option (List ℕ)) → (out out_after : W)
    → Result Outcome CommandFault → Type 0
LoadsAsked old left input disk made deck folder asks contents out out_after outcome = ComesOfLoad
    (BeginsLoadOfDeck old.calls (left input.reader) deck folder asks.file.now asks.text.now asks.form.now
    asks.encoding.now asks.into asks.lines disk made (contents out) (contents out_after) outcome)
    (IsFaultOfLoad asks.form.now asks.encoding.now (option_map (λ text. text.now) asks.rejects) asks.lines.keep_going)
    old made out out_after outcome

-- both over devices
abbrev pub LoadsDeckBy : {S X I W : Type 0} → Devices S X I W → (system : S) → (aside : List Call)
    → S × Result Outcome CommandFault → StandardInput I → (bytes : List ℕ) → (path : String Global) → FormKind
    → Encoding → Loading → (out out_after : W) → Type 0
LoadsDeckBy over system aside result input bytes path kind encoding asks out out_after =
    LoadsBytes (over.state system) over.left input over.disk (calls_made aside (over.state result.0)) bytes path kind
    encoding asks over.contents out out_after result.1

abbrev pub LoadsAskedOver : {S X I W : Type 0} → Devices S X I W → (system : S) → (aside : List Call)
    → S × Result Outcome CommandFault → StandardInput I → (deck folder : List ℕ) → Loading → (out out_after : W)
    → Type 0
LoadsAskedOver over system aside result input deck folder asks out out_after = LoadsAsked (over.state system)
    over.left input over.disk (calls_made aside (over.state result.0)) deck folder asks over.contents out out_after
    result.1
