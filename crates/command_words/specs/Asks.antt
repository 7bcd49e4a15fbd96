-- What the words of a command line ask for. All of this is ours; which words give an argument which
-- values, and which are a fault, is a definition of `clap`.
use Rattle.std.specs.Prelude.{◌≡◌, ◌≢◌, ◌⊎◌, ◌≤◌, ◌<◌, ◌^◌, ℕ, Bool, true, false, List, [], map, Option, Some, None}
use Rattle.std.specs.Prelude.{option_map, codes}
use Rattle.std.specs.Option.{unwrap_or}
use Rattle.std.specs.Str.Parse.{IsNumeral, digits_value, without_leading_plus}
use Rattle.clap.specs.Words.{IsAmong, Row, Text, all_of, first_of, one_of, fault_of, kind_of, subcommand_of}
use Rattle.clap.specs.declared.error.Error.{Error}
use Rattle.clap.specs.declared.error.ErrorKind.TheVariants.{DisplayHelp, DisplayVersion, OutOfMemory}
use Rattle.command_words.specs.CommandLine.{program_app}
use Rattle.command_words.specs.declared.fault.WordsFault.{WordsFault}
use Rattle.command_words.specs.declared.fault.WordsFault.TheVariants.{Usage}
use Rattle.command_words.specs.declared.form_words.FormWords.{FormWords}
use Rattle.command_words.specs.declared.line_options.LineOptions.{LineOptions}
use Rattle.command_words.specs.declared.request.Request.{Request}
use Rattle.command_words.specs.declared.request.Request.TheVariants.{Run, Check, Serve, Schema, Explain, Deck}
use Rattle.command_words.specs.declared.request.Request.TheVariants.{List as ListRecords, Cobol, Load, Stat}
use Rattle.command_words.specs.declared.request.Request.TheVariants.{Salvage, Copy, Help}

-- the text is this number
abbrev pub IsNumber : ℕ → Text → ℕ → Type 0
IsNumber bits text n =
    IsNumeral 10 (without_leading_plus text) × (digits_value 10 (without_leading_plus text) < 2 ^ bits)
    × (n ≡ digits_value 10 (without_leading_plus text))

-- the numbers of pages and frames that a run may have, and a session, a load or a copy
pub record AreLimits (rows : List Row) (pages frames : ℕ) : Type 0 where
  pub pages_text : Text
  pub frames_text : Text
  pub pages_given : one_of (codes "pages") rows ≡ Some pages_text
  pub frames_given : one_of (codes "frames") rows ≡ Some frames_text
  pub pages_are : IsNumber 32 pages_text pages
  pub frames_are : IsNumber 64 frames_text frames
  pub fewest_pages : 16 ≤ pages
  pub fewest_frames : 0 < frames
  pub most_frames : frames ≤ 4096

-- the values ask to wait so many seconds for a lock that another run has
pub record IsWaitRequest (rows : List Row) (seconds : ℕ) : Type 0 where
  pub text : Text
  pub given : one_of (codes "wait") rows ≡ Some text
  pub is : IsNumber 32 text seconds

-- so many seconds are asked for with the subcommand that was met
pub record IsWaitMet (met : Option (Text × List Row)) (seconds : ℕ) : Type 0 where
  pub name : Text
  pub rows : List Row
  pub is : met ≡ Some (name, rows)
  pub wait_is : IsWaitRequest rows seconds

-- the text is this truth value
abbrev pub IsFlag : Text → Bool → Type 0
IsFlag text true = text ≡ codes "true"
IsFlag text false = text ≡ codes "false"

-- the subcommand that was met is the run of this deck over this folder, with these limits, strict or not
pub record IsRunRequest (met : Option (Text × List Row)) (deck folder : Text) (pages frames : ℕ)
    (strict : Bool) : Type 0 where
  pub rows : List Row
  pub is : met ≡ Some (codes "run", rows)
  pub deck_given : first_of (codes "deck") rows ≡ Some deck
  pub folder_given : first_of (codes "folder") rows ≡ Some folder
  pub limits : AreLimits rows pages frames
  pub strict_text : Text
  pub strict_given : one_of (codes "strict") rows ≡ Some strict_text
  pub strict_is : IsFlag strict_text strict
  pub seconds : ℕ
  pub wait_is : IsWaitRequest rows seconds

-- the values ask that no progress is shown, or do not
pub record IsQuietRequest (rows : List Row) (quiet : Bool) : Type 0 where
  pub text : Text
  pub given : one_of (codes "quiet") rows ≡ Some text
  pub is : IsFlag text quiet

-- the file is to be checked before it is listed, or not
pub record IsCheckedRequest (rows : List Row) (checked : Bool) : Type 0 where
  pub text : Text
  pub given : one_of (codes "checked") rows ≡ Some text
  pub is : IsFlag text checked

-- the subcommand that was met is the check of these files, with progress or not
pub record IsCheck (met : Option (Text × List Row)) (files : List Text) (quiet : Bool) : Type 0 where
  pub rows : List Row
  pub is : met ≡ Some (codes "check", rows)
  pub files_given : all_of (codes "file") rows ≡ Some files
  pub quiet_is : IsQuietRequest rows quiet
  pub seconds : ℕ
  pub wait_is : IsWaitRequest rows seconds

-- the subcommand that was met is to serve the files of this folder, with these limits
pub record IsServe (met : Option (Text × List Row)) (folder : Text) (pages frames : ℕ) : Type 0 where
  pub rows : List Row
  pub is : met ≡ Some (codes "serve", rows)
  pub folder_given : first_of (codes "folder") rows ≡ Some folder
  pub limits : AreLimits rows pages frames
  pub seconds : ℕ
  pub wait_is : IsWaitRequest rows seconds

-- the subcommand that was met is to tell the schema of this file, or to hold it against that of a
-- file of a deck
pub record IsSchemaRequest (met : Option (Text × List Row)) (file : Text) (deck name : Option Text) : Type
    0 where
  pub rows : List Row
  pub is : met ≡ Some (codes "schema", rows)
  pub file_given : first_of (codes "file") rows ≡ Some file
  pub deck_is : first_of (codes "deck") rows ≡ deck
  pub name_is : first_of (codes "name") rows ≡ name

-- the subcommand that was met is to explain the number of this kind
pub record IsExplain (met : Option (Text × List Row)) (kind number : Text) : Type 0 where
  pub rows : List Row
  pub is : met ≡ Some (codes "explain", rows)
  pub kind_given : first_of (codes "kind") rows ≡ Some kind
  pub number_given : first_of (codes "number") rows ≡ Some number

-- the subcommand that was met is to list this deck
pub record IsDeckRequest (met : Option (Text × List Row)) (deck : Text) : Type 0 where
  pub rows : List Row
  pub is : met ≡ Some (codes "deck", rows)
  pub deck_given : first_of (codes "deck") rows ≡ Some deck

-- the words that ask for the form of a list: which it is, how characters outside of ASCII are written,
-- and what its columns are: those between cuts, or those of a file of a deck
pub record FormText : Type 0 where
  pub kind : Text
  pub encoding : Text
  pub cut : Option Text
  pub deck : Option Text
  pub name : Option Text

abbrev pub form_text : FormWords → FormText
form_text form = record {
  kind = form.kind.now;
  encoding = form.encoding.now;
  cut = option_map (λ text. text.now) form.cut;
  deck = option_map (λ text. text.now) form.deck;
  name = option_map (λ text. text.now) form.name;
}

-- the values ask for a list in this form
pub record IsForm (rows : List Row) (form : FormText) : Type 0 where
  pub kind_given : first_of (codes "as") rows ≡ Some form.kind
  pub encoding_given : first_of (codes "encoding") rows ≡ Some form.encoding
  pub cut_is : first_of (codes "cut") rows ≡ form.cut
  pub deck_is : first_of (codes "deck") rows ≡ form.deck
  pub name_is : first_of (codes "name") rows ≡ form.name

-- the values ask for records of which these conditions hold
abbrev pub AreConditions : List Row → (conditions : List Text) → Type 0
AreConditions rows conditions = unwrap_or (all_of (codes "where") rows) [] ≡ conditions

-- the subcommand that was met is to list records of this file in the order of a key, of which this is
-- the word, from a value on, to a value, and so many at most of those for which conditions hold, in a
-- form, with progress or not
pub record IsList (met : Option (Text × List Row)) (file key : Text) (from to : Option Text)
    (first : ℕ) (conditions : List Text) (form : FormText) (checked quiet : Bool) : Type 0 where
  pub rows : List Row
  pub is : met ≡ Some (codes "list", rows)
  pub file_given : first_of (codes "file") rows ≡ Some file
  pub key_given : first_of (codes "key") rows ≡ Some key
  pub first_text : Text
  pub first_given : one_of (codes "first") rows ≡ Some first_text
  pub first_is : IsNumber 64 first_text first
  pub from_is : first_of (codes "from") rows ≡ from
  pub to_is : first_of (codes "to") rows ≡ to
  pub conditions_are : AreConditions rows conditions
  pub form_is : IsForm rows form
  pub checked_is : IsCheckedRequest rows checked
  pub quiet_is : IsQuietRequest rows quiet
  pub seconds : ℕ
  pub wait_is : IsWaitRequest rows seconds

-- the subcommand that was met is to write this deck in COBOL, in fixed form or not
pub record IsCobol (met : Option (Text × List Row)) (deck : Text) (fixed : Bool) : Type 0 where
  pub rows : List Row
  pub is : met ≡ Some (codes "cobol", rows)
  pub deck_given : first_of (codes "deck") rows ≡ Some deck
  pub fixed_text : Text
  pub fixed_given : one_of (codes "fixed") rows ≡ Some fixed_text
  pub fixed_is : IsFlag fixed_text fixed

-- the values ask for these lines of a text, and so much memory
pub record AreLineOptions (rows : List Row) (lines : LineOptions) : Type 0 where
  pub skip_text : Text
  pub skip_given : one_of (codes "skip") rows ≡ Some skip_text
  pub skip_is : IsNumber 64 skip_text lines.skip
  pub keep_text : Text
  pub keep_given : one_of (codes "keep-going") rows ≡ Some keep_text
  pub keep_is : IsFlag keep_text lines.keep_going
  pub replace_text : Text
  pub replace_given : one_of (codes "replace") rows ≡ Some replace_text
  pub replace_is : IsFlag replace_text lines.replace
  pub pad_text : Text
  pub pad_given : one_of (codes "pad") rows ≡ Some pad_text
  pub pad_is : IsFlag pad_text lines.pad
  pub sort_text : Text
  pub sort_given : one_of (codes "sort") rows ≡ Some sort_text
  pub sort_is : IsFlag sort_text lines.sort
  pub memory_text : Text
  pub memory_given : one_of (codes "memory") rows ≡ Some memory_text
  pub memory_is : IsNumber 32 memory_text lines.memory

-- the subcommand that was met is to load the lines of this text, in a form and an encoding, into a
-- file of this deck over this folder, into the one that is there or not, with these limits, these of
-- the lines, with a file of those that are rejected or without, with progress or not
pub record IsLoad (met : Option (Text × List Row)) (deck folder file text form encoding : Text) (into : Bool)
    (pages frames : ℕ) (lines : LineOptions) (rejects : Option Text) (quiet : Bool) : Type 0 where
  pub rows : List Row
  pub is : met ≡ Some (codes "load", rows)
  pub deck_given : first_of (codes "deck") rows ≡ Some deck
  pub folder_given : first_of (codes "folder") rows ≡ Some folder
  pub file_given : first_of (codes "file") rows ≡ Some file
  pub text_given : first_of (codes "text") rows ≡ Some text
  pub form_given : first_of (codes "as") rows ≡ Some form
  pub encoding_given : first_of (codes "encoding") rows ≡ Some encoding
  pub into_text : Text
  pub into_given : one_of (codes "into") rows ≡ Some into_text
  pub into_is : IsFlag into_text into
  pub limits : AreLimits rows pages frames
  pub lines_are : AreLineOptions rows lines
  pub rejects_are : first_of (codes "rejects") rows ≡ rejects
  pub quiet_is : IsQuietRequest rows quiet

-- the subcommand that was met is to count what this file has
pub record IsStat (met : Option (Text × List Row)) (file : Text) : Type 0 where
  pub rows : List Row
  pub is : met ≡ Some (codes "stat", rows)
  pub file_given : first_of (codes "file") rows ≡ Some file

-- the values ask for a salvage in this form, which cuts no columns
pub record IsSalvageForm (rows : List Row) (form : FormText) : Type 0 where
  pub kind_given : first_of (codes "as") rows ≡ Some form.kind
  pub encoding_given : first_of (codes "encoding") rows ≡ Some form.encoding
  pub cut_is : form.cut ≡ None
  pub deck_is : first_of (codes "deck") rows ≡ form.deck
  pub name_is : first_of (codes "name") rows ≡ form.name

-- the subcommand that was met is to salvage the records of this file in a form, by itself or beside a
-- file of a deck, with their places or without
pub record IsSalvageRequest (met : Option (Text × List Row)) (file : Text) (form : FormText)
    (places : Bool) : Type 0 where
  pub rows : List Row
  pub is : met ≡ Some (codes "salvage", rows)
  pub file_given : first_of (codes "file") rows ≡ Some file
  pub form_is : IsSalvageForm rows form
  pub places_text : Text
  pub places_given : one_of (codes "places") rows ≡ Some places_text
  pub places_is : IsFlag places_text places

-- the subcommand that was met is to copy this file into the new one of a path, in the order of a key,
-- with these limits
pub record IsCopyRequest (met : Option (Text × List Row)) (file new : Text) (key pages frames : ℕ) : Type
    0 where
  pub rows : List Row
  pub is : met ≡ Some (codes "copy", rows)
  pub file_given : first_of (codes "file") rows ≡ Some file
  pub new_given : first_of (codes "new") rows ≡ Some new
  pub key_text : Text
  pub key_given : one_of (codes "key") rows ≡ Some key_text
  pub key_is : IsNumber 8 key_text key
  pub limits : AreLimits rows pages frames

-- the subcommand that was met, with its values, is what is asked for
abbrev pub IsRequestMet : Option (Text × List Row) → Request → Type 0
IsRequestMet met (Run deck folder limits strict wait) =
    IsRunRequest met deck.now folder.now limits.pages limits.frames.value strict × IsWaitMet met wait
IsRequestMet met (Check files quiet wait) =
    IsCheck met (map (λ file. file.now) files.items) quiet × IsWaitMet met wait
IsRequestMet met (Serve folder limits wait) =
    IsServe met folder.now limits.pages limits.frames.value × IsWaitMet met wait
IsRequestMet met (Schema file deck name) = IsSchemaRequest met file.now (option_map (λ text. text.now) deck)
    (option_map (λ text. text.now) name)
IsRequestMet met (Explain kind number) = IsExplain met kind.now number.now
IsRequestMet met (Deck deck) = IsDeckRequest met deck.now
IsRequestMet met (ListRecords file key from to first conditions form checked quiet wait) =
    IsList met file.now key.now (option_map (λ text. text.now) from) (option_map (λ text. text.now) to) first
    (map (λ text. text.now) conditions.items) (form_text form) checked quiet × IsWaitMet met wait
IsRequestMet met (Cobol deck fixed) = IsCobol met deck.now fixed
IsRequestMet met (Load deck folder file text form encoding into limits lines rejects quiet) =
    IsLoad met deck.now folder.now file.now text.now form.now encoding.now into limits.pages
    limits.frames.value lines (option_map (λ text. text.now) rejects) quiet
IsRequestMet met (Stat file) = IsStat met file.now
IsRequestMet met (Salvage file form places) = IsSalvageRequest met file.now (form_text form) places
IsRequestMet met (Copy file new key limits) =
    IsCopyRequest met file.now new.now key limits.pages limits.frames.value
IsRequestMet met (Help text) = ⊥

-- the subcommand that was met is no run, or its values are none that a run can have; and so of each
-- other subcommand
abbrev pub IsNoRun : Option (Text × List Row) → Type 0
IsNoRun met = (deck folder : Text) (pages frames : ℕ) (strict : Bool)
    → ¬ (IsRunRequest met deck folder pages frames strict)

abbrev pub IsNoCheck : Option (Text × List Row) → Type 0
IsNoCheck met = (files : List Text) (quiet : Bool) → ¬ (IsCheck met files quiet)

abbrev pub IsNoServe : Option (Text × List Row) → Type 0
IsNoServe met = (folder : Text) (pages frames : ℕ) → ¬ (IsServe met folder pages frames)

abbrev pub IsNoSchema : Option (Text × List Row) → Type 0
IsNoSchema met = (file : Text) (deck name : Option Text) → ¬ (IsSchemaRequest met file deck name)

abbrev pub IsNoExplain : Option (Text × List Row) → Type 0
IsNoExplain met = (kind number : Text) → ¬ (IsExplain met kind number)

abbrev pub IsNoDeckList : Option (Text × List Row) → Type 0
IsNoDeckList met = (deck : Text) → ¬ (IsDeckRequest met deck)

abbrev pub IsNoList : Option (Text × List Row) → Type 0
IsNoList met = (file key : Text) (from to : Option Text) (first : ℕ) (conditions : List Text)
    (form : FormText) (checked quiet : Bool)
    → ¬ (IsList met file key from to first conditions form checked quiet)

abbrev pub IsNoCobol : Option (Text × List Row) → Type 0
IsNoCobol met = (deck : Text) (fixed : Bool) → ¬ (IsCobol met deck fixed)

abbrev pub IsNoLoad : Option (Text × List Row) → Type 0
IsNoLoad met = (deck folder file text form encoding : Text) (into : Bool) (pages frames : ℕ)
    (lines : LineOptions) (rejects : Option Text) (quiet : Bool)
    → ¬ (IsLoad met deck folder file text form encoding into pages frames lines rejects quiet)

abbrev pub IsNoStat : Option (Text × List Row) → Type 0
IsNoStat met = (file : Text) → ¬ (IsStat met file)

abbrev pub IsNoSalvage : Option (Text × List Row) → Type 0
IsNoSalvage met = (file : Text) (form : FormText) (places : Bool)
    → ¬ (IsSalvageRequest met file form places)

abbrev pub IsNoCopy : Option (Text × List Row) → Type 0
IsNoCopy met = (file new : Text) (key pages frames : ℕ) → ¬ (IsCopyRequest met file new key pages frames)

-- it is no run, session, schema, explanation or list of a deck
pub record IsNoRunOrList (met : Option (Text × List Row)) : Type 0 where
  pub no_run : IsNoRun met
  pub no_serve : IsNoServe met
  pub no_schema : IsNoSchema met
  pub no_explain : IsNoExplain met
  pub no_deck : IsNoDeckList met

-- and no program in COBOL, no load, no count, no salvage and no copy
pub record IsNoRecords (met : Option (Text × List Row)) : Type 0 where
  pub no_cobol : IsNoCobol met
  pub no_load : IsNoLoad met
  pub no_stat : IsNoStat met
  pub no_salvage : IsNoSalvage met
  pub no_copy : IsNoCopy met

-- it is none of these, no list of records, and no check
pub record IsNone (met : Option (Text × List Row)) : Type 0 where
  pub no_run_or_list : IsNoRunOrList met
  pub no_records : IsNoRecords met
  pub no_list : IsNoList met
  pub no_check : IsNoCheck met

-- the words have no fault
abbrev pub AreFaultless : List Text → Type 0
AreFaultless words = fault_of program_app words ≡ []

-- the words have the fault that the text tells; to ask for help or the version counts as one
abbrev pub HaveFault : List Text → Error → Type 0
HaveFault words text = IsAmong (kind_of text) (fault_of program_app words)

-- where the words are a fault that is told in a text, this is so of the text
abbrev pub IfUsage : (IsSo : Error → Type 0) → WordsFault → Type 0
IfUsage IsSo fault = (text : Error) → fault ≡ Usage text → IsSo text

-- the text is help or the version
abbrev pub IsHelpText : Error → Type 0
IsHelpText text = (kind_of text ≡ DisplayHelp) ⊎ (kind_of text ≡ DisplayVersion)

-- the text that is told is that of the error, which is a mistake and no want of memory
abbrev pub IsMistake : (error text : Error) → Type 0
IsMistake error text = (text ≡ error) × (IsHelpText error → ⊥) × (kind_of error ≢ OutOfMemory)

-- the words, the program's name first, ask for the run of this deck over this folder, with these
-- limits, strict or not
abbrev pub AskRun : List Text → (deck folder : Text) (pages frames : ℕ) (strict : Bool) → Type 0
AskRun words deck folder pages frames strict = AreFaultless words
    × IsRunRequest (subcommand_of program_app words) deck folder pages frames strict

-- for the check of these files, with progress or not
abbrev pub AskCheck : List Text → (files : List Text) (quiet : Bool) → Type 0
AskCheck words files quiet = AreFaultless words × IsCheck (subcommand_of program_app words) files quiet

-- to serve the files of this folder, with these limits
abbrev pub AskServe : List Text → (folder : Text) (pages frames : ℕ) → Type 0
AskServe words folder pages frames = AreFaultless words
    × IsServe (subcommand_of program_app words) folder pages frames

-- for the schema of this file, or to hold it against that of a file of a deck
abbrev pub AskSchema : List Text → (file : Text) (deck name : Option Text) → Type 0
AskSchema words file deck name = AreFaultless words
    × IsSchemaRequest (subcommand_of program_app words) file deck name

-- to explain the number of this kind
abbrev pub AskExplain : List Text → (kind number : Text) → Type 0
AskExplain words kind number = AreFaultless words × IsExplain (subcommand_of program_app words) kind number

-- to list this deck
abbrev pub AskDeck : List Text → (deck : Text) → Type 0
AskDeck words deck = AreFaultless words × IsDeckRequest (subcommand_of program_app words) deck

-- to list records of this file in a form, with progress or not
abbrev pub AskList : List Text → (file key : Text) (from to : Option Text) (first : ℕ)
    (conditions : List Text) (form : FormText) (checked quiet : Bool) → Type 0
AskList words file key from to first conditions form checked quiet = AreFaultless words
    × IsList (subcommand_of program_app words) file key from to first conditions form checked quiet

-- to write this deck in COBOL
abbrev pub AskCobol : List Text → (deck : Text) (fixed : Bool) → Type 0
AskCobol words deck fixed = AreFaultless words × IsCobol (subcommand_of program_app words) deck fixed

-- to load these lines of this text, in a form and an encoding, into a file of this deck, with a file of
-- those that are rejected or without, with progress or not
abbrev pub AskLoad : List Text → (deck folder file text form encoding : Text) (into : Bool) (pages frames : ℕ)
    (lines : LineOptions) (rejects : Option Text) (quiet : Bool) → Type 0
AskLoad words deck folder file text form encoding into pages frames lines rejects quiet =
    AreFaultless words × IsLoad (subcommand_of program_app words) deck folder file text form encoding into
    pages frames lines rejects quiet

-- to count what this file has
abbrev pub AskStat : List Text → (file : Text) → Type 0
AskStat words file = AreFaultless words × IsStat (subcommand_of program_app words) file

-- to salvage the records of this file in a form, by itself or beside a file of a deck, with their
-- places or without
abbrev pub AskSalvage : List Text → (file : Text) (form : FormText) (places : Bool) → Type 0
AskSalvage words file form places = AreFaultless words
    × IsSalvageRequest (subcommand_of program_app words) file form places

-- to copy this file into the new one of a path, in the order of a key, with these limits
abbrev pub AskCopy : List Text → (file new : Text) (key pages frames : ℕ) → Type 0
AskCopy words file new key pages frames = AreFaultless words
    × IsCopyRequest (subcommand_of program_app words) file new key pages frames

-- to wait so many seconds for a lock that another run has
abbrev pub AskWait : List Text → (seconds : ℕ) → Type 0
AskWait words seconds = AreFaultless words × IsWaitMet (subcommand_of program_app words) seconds

-- for help or the version, as the text shows it
abbrev pub AskHelp : List Text → Error → Type 0
AskHelp words text = HaveFault words text × IsHelpText text

-- for this
abbrev pub Ask : List Text → Request → Type 0
Ask words (Run deck folder limits strict wait) =
    AskRun words deck.now folder.now limits.pages limits.frames.value strict × AskWait words wait
Ask words (Check files quiet wait) =
    AskCheck words (map (λ file. file.now) files.items) quiet × AskWait words wait
Ask words (Serve folder limits wait) =
    AskServe words folder.now limits.pages limits.frames.value × AskWait words wait
Ask words (Schema file deck name) = AskSchema words file.now (option_map (λ text. text.now) deck)
    (option_map (λ text. text.now) name)
Ask words (Explain kind number) = AskExplain words kind.now number.now
Ask words (Deck deck) = AskDeck words deck.now
Ask words (ListRecords file key from to first conditions form checked quiet wait) =
    AskList words file.now key.now (option_map (λ text. text.now) from) (option_map (λ text. text.now) to) first
    (map (λ text. text.now) conditions.items) (form_text form) checked quiet × AskWait words wait
Ask words (Cobol deck fixed) = AskCobol words deck.now fixed
Ask words (Load deck folder file text form encoding into limits lines rejects quiet) =
    AskLoad words deck.now folder.now file.now text.now form.now encoding.now into limits.pages
    limits.frames.value lines (option_map (λ text. text.now) rejects) quiet
Ask words (Stat file) = AskStat words file.now
Ask words (Salvage file form places) = AskSalvage words file.now (form_text form) places
Ask words (Copy file new key limits) =
    AskCopy words file.now new.now key limits.pages limits.frames.value
Ask words (Help text) = AskHelp words text

-- for nothing, and the text tells why
abbrev pub AskNothing : List Text → Error → Type 0
AskNothing words text = (HaveFault words text × (IsHelpText text → ⊥))
    ⊎ (AreFaultless words × IsNone (subcommand_of program_app words))

-- the seconds that a request waits for a lock that another run has
abbrev pub seconds_of : Request → ℕ
seconds_of (Run deck folder limits strict wait) = wait
seconds_of (Check files quiet wait) = wait
seconds_of (Serve folder limits wait) = wait
seconds_of (ListRecords file key from to first conditions form checked quiet wait) = wait
seconds_of other = 0
