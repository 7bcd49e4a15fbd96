-- What is listed of the records of a file that is read page after page. All of this is ours.
use Rattle.std.specs.Prelude.{◌≡◌, ◌≢◌, ℕ, List, [], ◌∷◌, ◌++◌, Option, Some, Result, Ok, IfOk, IfErr}
use Rattle.std.specs.Prelude.{IsTrue}
use Rattle.record_layout.specs.Schema.{Schema}
use Rattle.indexed_file.specs.File.{File}
use Rattle.indexed_file.specs.World.{Closed}
use Rattle.shelf_run.specs.Files.{Represents}
use Rattle.record_text.specs.declared.form.Form.{Form}
use Rattle.record_listing.specs.declared.asked.Asked.{Asked}
use Rattle.record_listing.specs.declared.end.ListEnd.{ListEnd}
use Rattle.record_listing.specs.declared.end.ListEnd.TheVariants.{Listed as LinesWritten, NoKey as HasNoKey}
use Rattle.record_listing.specs.declared.end.ListEnd.TheVariants.{Absent, Unsound as NotOpened, Damaged}
use Rattle.record_listing.specs.declared.end.ListFault.{ListFault}
use Rattle.file_checker.specs.Sound.{IsRight}
use Rattle.file_checker.specs.declared.verdict.Verdict.TheVariants.{Unsound as IsRefused}
use Rattle.pages.specs.declared.fault_place.FaultPlace.{FaultPlace}
use Rattle.record_listing.specs.declared.file_list.FileList.{FileList}
use Rattle.record_listing.specs.declared.file_list.FileList.TheVariants.{Listed, NoKey, Unsound}
use Rattle.folder_shelf.specs.Replay.{Unseen}
use Rattle.record_listing.specs.ByPath.{ListsAtPath}
use Rattle.folder_shelf.specs.Answers.{are_answers_of}
use Rattle.folder_shelf.specs.Calls.{Call, taken_shared}
use Rattle.command_support.specs.Status.{status_of}
use Rattle.command_support.specs.declared.fault.CommandFault.{CommandFault}
use Rattle.command_support.specs.declared.outcome.Outcome.{Outcome}
use Rattle.command_support.specs.declared.outcome.Outcome.TheVariants.{Records, OtherSchema}
use Rattle.command_words.specs.declared.form_words.FormWords.{FormWords}
use Rattle.command_support.specs.Front.{OfFirstPage, counted_calls, word_in}
use Rattle.command_support.specs.AskedForm.{ListWords, IsAskedFormBy, IsListRefused}
use Rattle.command_support.specs.declared.asked_form.AskedForm.{AskedForm}
use Rattle.file_commands.specs.Records.{IsAskedFor, IsAskedBy, AgreesWith, WritesOther, words_of}
use Rattle.file_commands.specs.declared.asked_list.Listing.{Listing}
use Rattle.file_commands.specs.declared.by_index.ListStart.{ListStart}
use Rattle.file_commands.specs.declared.listing.Bounds.{Bounds}

-- where each answer to these reads was that of the files of a disk, the one at a path stands for no rows
abbrev pub StandsForNone : Unseen → (path : List ℕ) → (reads : List Call) → Type 0
StandsForNone disk path reads = IsTrue (are_answers_of disk.first reads)
    → (schema : Schema) (file : File) → Represents (disk.first path).seen (Closed schema file) → ⊥

-- no file stands in the bytes that the first page of the file of a path counts, for a reason that a
-- check tells
abbrev pub TellsReasonBy : (path : List ℕ) → (calls : List Call) → Outcome → Type 0
TellsReasonBy path calls (Records (Unsound reason)) =
    (bytes : List ℕ) × (calls ≡ counted_calls path bytes)
    × ((place : FaultPlace) × IsRight bytes (IsRefused reason place))
TellsReasonBy path calls outcome = ⊥

-- so it was told; or the input or memory failed
pub record TellsReason (path : List ℕ) (result : Result Outcome CommandFault) (calls : List Call) : Type 0 where
  pub told : IfOk result (TellsReasonBy path calls)
  pub fault : IfErr result (λ fault. status_of fault ≡ 4)

-- how a list that was read page after page ended is told so, by these calls
abbrev pub TellsEnd : (path : List ℕ) → ListEnd → List Call → Outcome → Type 0
TellsEnd path LinesWritten calls outcome = (outcome ≡ Records Listed) × (calls ≡ [])
TellsEnd path HasNoKey calls outcome = (outcome ≡ Records NoKey) × (calls ≡ [])
TellsEnd path Absent calls outcome = TellsReasonBy path calls outcome
TellsEnd path NotOpened calls outcome = TellsReasonBy path calls outcome
TellsEnd path Damaged calls outcome = TellsReasonBy path calls outcome

-- so it was told; or the list or the input failed, or memory
pub record ToldOfPages (path : List ℕ) (end : Result ListEnd ListFault) (result : Result Outcome CommandFault)
    (calls : List Call) : Type 0 where
  pub told : IfOk result (λ outcome. IfOk end (λ end. TellsEnd path end calls outcome))
  pub there : IfErr end (λ _. IfOk result (λ _. ⊥))
  pub fault : IfErr result (λ fault. status_of fault ≡ 4)

-- what is listed is what the words ask for, and so are the form, the key and the conditions; behind the
-- calls by which their deck was read, if one is asked for, one gave the first page of the file of a path
pub record IsStart (input : Option (List ℕ)) (path : List ℕ) (bounds : Bounds) (words : ListWords)
    (calls : List Call) (start : ListStart) : Type 0 where
  pub deck : List Call
  pub told : AskedForm
  pub asked : IsAskedBy bounds told.key told.conditions.items start.asked
  pub is_form : IsAskedFormBy deck input words told
  pub form_is : start.told ≡ told.told
  pub are : calls ≡ taken_shared path 4096 (Some start.page.items) ∷ deck

-- so it was read; or the words are refused, or the input or memory failed
pub record ReadsStart (input : Option (List ℕ)) (path : List ℕ) (bounds : Bounds) (form : FormWords)
    (result : Result ListStart CommandFault) (calls : List Call) : Type 0 where
  pub start : IfOk result (IsStart input path bounds (words_of bounds form) calls)
  pub fault : IfErr result (IsListRefused (words_of bounds form))

-- what a list of a file by these reads, and the calls behind them, ended with
abbrev pub EndsByIndex : Unseen → (path : List ℕ) → Form → Asked → (reads later : List Call)
    → (before behind : Option (List ℕ)) → FileList → Type 0
EndsByIndex disk path form asked reads later before behind Listed =
    (later ≡ []) × ListsAtPath disk path form asked before behind (Ok LinesWritten) reads
EndsByIndex disk path form asked reads later before behind NoKey =
    (later ≡ []) × ListsAtPath disk path form asked before behind (Ok HasNoKey) reads
EndsByIndex disk path form asked reads later before behind (Unsound reason) =
    StandsForNone disk path reads
    × ((bytes : List ℕ) × (later ≡ counted_calls path bytes)
    × ((place : FaultPlace) × IsRight bytes (IsRefused reason place)))

-- the file of a path was listed by these calls, and so this was done; or the input, the output or memory
-- failed
pub record ListsPages (disk : Unseen) (path : List ℕ) (form : Form) (asked : Asked)
    (before behind : Option (List ℕ)) (result : Result Outcome CommandFault) (calls : List Call) : Type 0 where
  pub done : IfOk result (λ outcome. (list : FileList) × (outcome ≡ Records list)
      × (reads : List Call) × (later : List Call) × (calls ≡ later ++ reads)
      × EndsByIndex disk path form asked reads later before behind list)
  pub fault : IfErr result (λ fault. status_of fault ≡ 4)

-- the form is the one that is asked for, and so are the key and the conditions; behind the calls by which
-- their deck was read, if one is asked for, one gave the first page of the file of a path, and then it was
-- listed by these reads and calls
pub record ReadsByIndex (input : Option (List ℕ)) (path : List ℕ) (words : ListWords) (calls : List Call)
    (IsSo : AskedForm → (reads later : List Call) → Type 0) : Type 0 where
  pub told : AskedForm
  pub deck : List Call
  pub page : List ℕ
  pub reads : List Call
  pub later : List Call
  pub is_form : IsAskedFormBy deck input words told
  pub agrees : AgreesWith told.told.schema page
  pub are : calls ≡ later ++ reads ++ taken_shared path 4096 (Some page) ∷ deck
  pub so : IsSo told reads later

-- the records of a file were listed as is asked for, and this is how the list ended
abbrev pub ListsRecordsByIndex : Unseen → (input : Option (List ℕ)) → (path : List ℕ) → ListWords
    → (from to : Option (List ℕ)) (first : ℕ) → (before behind : Option (List ℕ)) → List Call → FileList
    → Type 0
ListsRecordsByIndex disk input path words from to first before behind calls list =
    ReadsByIndex input path words calls (λ told reads later. (asked : Asked)
    × IsAskedFor told.key from to first told.conditions.items asked
    × EndsByIndex disk path told.told.form asked reads later before behind list)

-- the first page of the file is that of another schema than the deck's, and the differences were written
abbrev pub FindsOther : (input : Option (List ℕ)) → (path : List ℕ) → ListWords
    → (before behind : Option (List ℕ)) → List Call → Type 0
FindsOther input path words before behind calls = (told : AskedForm) × (deck : List Call)
    × IsAskedFormBy deck input words told
    × OfFirstPage path deck calls (λ page. WritesOther told.told.schema page before behind)

-- what was done for these words
abbrev pub DoesByIndex : Unseen → (input : Option (List ℕ)) → (path : List ℕ) → Bounds → ListWords
    → (before behind : Option (List ℕ)) → List Call → Outcome → Type 0
DoesByIndex disk input path bounds words before behind calls (Records list) =
    ListsRecordsByIndex disk input path words (word_in bounds.from) (word_in bounds.to) bounds.first before
    behind calls list
DoesByIndex disk input path bounds words before behind calls OtherSchema =
    FindsOther input path words before behind calls
DoesByIndex disk input path bounds words before behind calls outcome = ⊥

-- the records that words ask for were listed; or the words are refused, or the input, the output or
-- memory failed. Unless one of these failed, nothing is written where nothing is listed
pub record ListsByIndex
    {W : Type 0} (disk : Unseen) (input : Option (List ℕ)) (path : List ℕ) (bounds : Bounds)
    (form : FormWords) (contents : W → Option (List ℕ)) (old new : W) (result : Result Outcome CommandFault)
    (calls : List Call) : Type 0 where
  pub records : IfOk result
      (DoesByIndex disk input path bounds (words_of bounds form) (contents old) (contents new) calls)
  pub untouched : IfErr result (λ fault. status_of fault ≢ 4 → new ≡ old)
  pub fault : IfErr result (IsListRefused (words_of bounds form))

-- so for what is asked of a list
abbrev pub ListsAskedByIndex : {W : Type 0} → Unseen → (input : Option (List ℕ)) → Listing
    → (W → Option (List ℕ)) → (old new : W) → Result Outcome CommandFault → List Call → Type 0
ListsAskedByIndex disk input asked contents old new result calls =
    ListsByIndex disk input asked.file.now asked.bounds asked.form contents old new result calls
