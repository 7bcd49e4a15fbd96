-- What is listed of the records of a file. All of this is ours.
use Rattle.std.specs.Prelude.{◌≡◌, ◌≢◌, ℕ, Bool, true, false, List, [], ◌∷◌, ◌++◌, Option, Some, None}
use Rattle.std.specs.Prelude.{option_map}
use Rattle.std.specs.Prelude.{Result, Ok, IfOk, IfErr, ⊤}
use Rattle.std.specs.Option.{unwrap_or}
use Rattle.record_layout.specs.Schema.{Schema}
use Rattle.open_file.specs.declared.first_page.Header.{Header}
use Rattle.file_reports.specs.SchemaListing.{read_of_file}
use Rattle.file_reports.specs.Comparing.{comparison_of, TellsDifferences}
use Rattle.file_reports.specs.declared.comparing.Comparison.TheVariants.{Same, Different}
use Rattle.record_listing.specs.declared.asked.Asked.{Asked}
use Rattle.record_listing.specs.declared.condition.Condition.{Condition}
use Rattle.record_text.specs.declared.form.Form.{Form}
use Rattle.record_listing.specs.FileList.{EndsChecked}
use Rattle.record_listing.specs.declared.file_list.FileList.{FileList}
use Rattle.record_listing.specs.declared.file_list.FileList.TheVariants.{Unsound}
use Rattle.file_checker.specs.declared.verdict.Reason.{Reason}
use Rattle.record_listing.specs.declared.end.ListFault.{ListFault}
use Rattle.command_support.specs.Status.{status_of}
use Rattle.command_support.specs.declared.fault.CommandFault.{CommandFault}
use Rattle.command_words.specs.declared.form_words.FormWords.{FormWords}
use Rattle.folder_shelf.specs.Calls.{Call, taken_shared}
use Rattle.folder_shelf.specs.Replay.{Unseen}
use Rattle.file_commands.specs.ByPages.{OfFileAtPath}
use Rattle.command_support.specs.Bound.{unescaped}
use Rattle.command_support.specs.Front.{OfFirstPage, word_in}
use Rattle.command_support.specs.AskedForm.{ListWords, list_words, IsAskedFormBy, IsListRefused}
use Rattle.command_support.specs.declared.asked_form.AskedForm.{AskedForm}
use Rattle.file_commands.specs.declared.listing.Bounds.{Bounds}
use Rattle.file_commands.specs.declared.listing.Values.{Values}
use Rattle.command_support.specs.declared.outcome.Outcome.{Outcome}
use Rattle.command_support.specs.declared.outcome.Outcome.TheVariants.{Records, OtherSchema}

-- this is asked for by the number of a key, the first and the last value, how many records at most,
-- and what has to hold of each
pub record IsAskedFor (key : ℕ) (from to : Option (List ℕ)) (first : ℕ) (conditions : List Condition)
    (asked : Asked) : Type 0 where
  pub key_is : asked.key ≡ key
  pub from_is : asked.from.items ≡ unescaped (unwrap_or from [])
  pub to_is : option_map (λ value. value.items) asked.to ≡ option_map unescaped to
  pub first_is : asked.first ≡ first
  pub conditions_are : asked.conditions.items ≡ conditions

-- this is asked for by the words of a command line, which ask for the key of this number and for these
-- conditions
abbrev pub IsAskedBy : Bounds → (key : ℕ) → List Condition → Asked → Type 0
IsAskedBy bounds key conditions asked =
    IsAskedFor key (word_in bounds.from) (word_in bounds.to) bounds.first conditions asked

-- what the words of a list ask for, of which a deck may tell something
abbrev pub words_of : Bounds → FormWords → ListWords
words_of bounds form = list_words form bounds.key.now bounds.conditions.now

-- the first and the last value that the words of a list ask for
pub record AreValues (bounds : Bounds) (values : Values) : Type 0 where
  pub from_is : values.from.items ≡ unescaped (unwrap_or (word_in bounds.from) [])
  pub to_is : option_map (λ value. value.items) values.to ≡ option_map unescaped (word_in bounds.to)

-- OPEN would find a file of these bytes to be of the schema of a deck, where there is one
abbrev pub AgreesWith : Option Schema → List ℕ → Type 0
AgreesWith None bytes = ⊤
AgreesWith (Some deck) bytes =
    (header : Header) → read_of_file bytes ≡ Ok header → comparison_of header.schema deck ≡ Same

-- it would not, and the differences were written
abbrev pub WritesOther : Option Schema → List ℕ → (before behind : Option (List ℕ)) → Type 0
WritesOther None bytes before behind = ⊥
WritesOther (Some deck) bytes before behind =
    TellsDifferences deck before behind (read_of_file bytes) (Ok Different)

-- a list of the file of a path by these reads, after a check of it, ended so: where each answer was that of
-- the files of a disk, the one at the path began with this page; and of one that is not sound nothing was
-- written
pub record ListsPath (disk : Unseen) (path page : List ℕ) (form : Form) (asked : Asked)
    (before behind : Option (List ℕ)) (result : Result FileList ListFault) (reads : List Call) : Type 0 where
  pub ends : OfFileAtPath disk path reads (λ bytes. EndsChecked page bytes form asked before behind result)
  pub unlisted : (reason : Reason) → result ≡ Ok (Unsound reason) → behind ≡ before

-- so by a writer
abbrev pub ListsTo : {W : Type 0} → Unseen → (path page : List ℕ) → Form → Asked → (W → Option (List ℕ)) → (old new : W)
    → Result FileList ListFault → (reads : List Call) → Type 0
ListsTo disk path page form asked contents old new result reads =
    ListsPath disk path page form asked (contents old) (contents new) result reads

-- the form is the one that is asked for, and so are the key and the conditions; behind the calls by which
-- their deck was read, if one is asked for, one gave the first page of the file of a path, which agrees with
-- that deck, and then these reads were made
pub record OfFormAndFile (input : Option (List ℕ)) (path : List ℕ) (words : ListWords) (calls : List Call)
    (IsSo : AskedForm → (page : List ℕ) → (reads : List Call) → Type 0) : Type 0 where
  pub told : AskedForm
  pub deck : List Call
  pub page : List ℕ
  pub reads : List Call
  pub is_form : IsAskedFormBy deck input words told
  pub agrees : AgreesWith told.told.schema page
  pub are : calls ≡ reads ++ taken_shared path 4096 (Some page) ∷ deck
  pub so : IsSo told page reads

-- the records of a file were listed as is asked for, after a check of it, and this is how the list ended
abbrev pub ListsRecords : Unseen → (input : Option (List ℕ)) → (path : List ℕ) → ListWords
    → (from to : Option (List ℕ)) (first : ℕ) → (before behind : Option (List ℕ)) → List Call → FileList
    → Type 0
ListsRecords disk input path words from to first before behind calls list =
    OfFormAndFile input path words calls (λ told page reads. (asked : Asked)
    × IsAskedFor told.key from to first told.conditions.items asked
    × ListsPath disk path page told.told.form asked before behind (Ok list) reads)

-- the records of a file were listed as these words ask for it, in the form that is asked for, and this
-- is how the list ended; or the file is of another schema than the deck whose columns are asked for
abbrev pub ListsAsked : {W : Type 0} → Unseen → (input : Option (List ℕ)) → (path : List ℕ) → Bounds
    → ListWords → (W → Option (List ℕ)) → (old new : W) → List Call → Outcome → Type 0
ListsAsked disk input path bounds asked contents old new calls (Records list) =
    ListsRecords disk input path asked (word_in bounds.from) (word_in bounds.to) bounds.first (contents old)
    (contents new) calls list
ListsAsked disk input path bounds asked contents old new calls OtherSchema = (told : AskedForm)
    × (deck : List Call) × IsAskedFormBy deck input asked told
    × OfFirstPage path deck calls (λ page. WritesOther told.told.schema page (contents old) (contents new))
ListsAsked disk input path bounds asked contents old new calls outcome = ⊥

-- whether a file of these bytes is of another schema than that of a deck, if there is one: the
-- differences are written then, and nothing otherwise
abbrev pub TellsOther : {W : Type 0} → Option Schema → List ℕ → (W → Option (List ℕ)) → (old new : W)
    → Bool → Type 0
TellsOther schema bytes contents old new true = WritesOther schema bytes (contents old) (contents new)
TellsOther schema bytes contents old new false = AgreesWith schema bytes × (new ≡ old)

-- how a list ended, as what was done
pub record ToldOfList (end : Result FileList ListFault) (result : Result Outcome CommandFault) : Type 0 where
  pub done : IfOk result (λ outcome. IfOk end (λ list. outcome ≡ Records list))
  pub there : IfErr end (λ _. IfOk result (λ _. ⊥))
  pub fault : IfErr result (λ fault. status_of fault ≡ 4)

-- the records that words ask for were listed; or the words are refused, or the input, the output or
-- memory failed. Unless one of these failed, nothing is written where nothing is listed
pub record ListsAs
    {W : Type 0} (disk : Unseen) (input : Option (List ℕ)) (path : List ℕ) (bounds : Bounds) (form : FormWords)
    (contents : W → Option (List ℕ)) (old new : W) (result : Result Outcome CommandFault) (calls : List Call)
    : Type 0 where
  pub records : IfOk result (ListsAsked disk input path bounds (words_of bounds form) contents old new calls)
  pub untouched : IfErr result (λ fault. status_of fault ≢ 4 → new ≡ old)
  pub fault : IfErr result (IsListRefused (words_of bounds form))
