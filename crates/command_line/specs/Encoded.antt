-- What is listed or salvaged of the records of a file, in the encoding that words ask for. All of this is
-- ours.
use Rattle.std.specs.Prelude.{◌≡◌, ◌≢◌, ◌⊎◌, ℕ, Bool, true, false, List, [], Option, Result, Ok, Err, IfOk, IfErr}
use Rattle.std.specs.Io.KnownBytes.{Appends}
use Rattle.folder_shelf.specs.Replay.{Unseen}
use Rattle.folder_shelf.specs.Calls.{Call}
use Rattle.command_words.specs.Asks.{FormText, form_text}
use Rattle.command_words.specs.declared.form_words.FormWords.{FormWords}
use Rattle.command_support.specs.AskedForm.{IsListRefused}
use Rattle.command_support.specs.Forms.{HasFormFault}
use Rattle.file_commands.specs.ByIndex.{DoesByIndex}
use Rattle.file_commands.specs.Records.{ListsAsked, words_of}
use Rattle.file_commands.specs.Salvaged.{SalvagesFileAt, IsSalvageRefused}
use Rattle.file_commands.specs.declared.asked_list.Listing.{Listing}
use Rattle.file_commands.specs.declared.listing.Bounds.{Bounds}
use Rattle.file_commands.specs.declared.salvaging.Salvaging.{Salvaging}
use Rattle.salvaged_records.specs.Salvaged.{outputs}
use Rattle.streams.specs.InUtf8.{in_utf_8}
use Rattle.streams.specs.declared.backslashes.Backslashes.{Backslashes}
use Rattle.command_support.specs.Status.{status_of}
use Rattle.command_support.specs.declared.fault.CommandFault.{CommandFault}
use Rattle.command_support.specs.declared.fault.CommandFault.TheVariants.{Form as NoForm, Output, Memory}
use Rattle.command_support.specs.declared.form_fault.FormFault.TheVariants.{Encoding as NoEncoding}
use Rattle.command_support.specs.declared.outcome.Outcome.{Outcome}
use Rattle.command_line.specs.Encoding.{WritesIn}

-- the output or memory failed
abbrev pub IsNoRoom : CommandFault → Type 0
IsNoRoom fault = (fault ≡ Output) ⊎ (fault ≡ Memory)

-- a text that was listed so was written in UTF-8, and this is how the list ended; or the list, the output
-- or memory failed. Of an empty text nothing is written
pub record HandsTextOver {W : Type 0} (backslashes : Backslashes) (text : List ℕ) (made : Result Outcome CommandFault)
    (contents : W → Option (List ℕ)) (old new : W) (result : Result Outcome CommandFault) : Type 0 where
  pub done : IfOk result (λ outcome. made ≡ Ok outcome)
  pub written : IfOk result (λ _. Appends (contents old) (contents new) (in_utf_8 backslashes text))
  pub fault : IfErr result (λ fault. (made ≡ Err fault) ⊎ IsNoRoom fault)
  pub nothing : text ≡ [] → new ≡ old

-- the records of a file were listed, after a check of it or page after page, and this was done
abbrev pub DoesList : (checked : Bool) → Unseen → (input : Option (List ℕ)) → (path : List ℕ) → Bounds
    → FormWords → (before behind : Option (List ℕ)) → List Call → Outcome → Type 0
DoesList true disk input path bounds form before behind calls outcome =
    ListsAsked disk input path bounds (words_of bounds form) (λ known. known) before behind calls outcome
DoesList false disk input path bounds form before behind calls outcome =
    DoesByIndex disk input path bounds (words_of bounds form) before behind calls outcome

-- so in the encoding that the words ask for; or they are refused, or the input, the output or memory
-- failed. Unless one of these failed, nothing is written where nothing is listed
pub record ListsEncoded
    {W : Type 0} (checked : Bool) (disk : Unseen) (input : Option (List ℕ)) (path : List ℕ)
    (bounds : Bounds) (form : FormWords) (contents : W → Option (List ℕ)) (old new : W)
    (result : Result Outcome CommandFault) (calls : List Call) : Type 0 where
  pub records : IfOk result (λ outcome. WritesIn form.encoding.now form.kind.now (contents old) (contents new)
      (λ before behind. DoesList checked disk input path bounds form before behind calls outcome))
  pub untouched : IfErr result (λ fault. status_of fault ≢ 4 → new ≡ old)
  pub fault : IfErr result (IsListRefused (words_of bounds form))

-- there is no such form of a salvage, nothing came of its deck, the input, an output or memory failed, or
-- there is no such encoding
abbrev pub IsEncodedRefused : FormText → CommandFault → Type 0
IsEncodedRefused asked fault =
    IsSalvageRefused asked fault ⊎ ((fault ≡ NoForm NoEncoding) × HasFormFault asked NoEncoding)
    ⊎ IsNoRoom fault

-- the records that are left in a file were salvaged in the encoding that the words ask for; or they are
-- refused, or the input, an output or memory failed. Unless one of these failed, nothing is written then
pub record SalvagesEncoded
    {E W : Type 0} (input : Option (List ℕ)) (path : List ℕ) (asked : FormText) (places : Bool)
    (contents_told : E → Option (List ℕ)) (told told_after : E) (contents : W → Option (List ℕ))
    (old new : W) (result : Result Outcome CommandFault) (calls : List Call)
    : Type 0 where
  pub records : IfOk result (λ outcome. WritesIn asked.encoding asked.kind (contents old) (contents new)
      (λ before behind. SalvagesFileAt input path asked places
      (outputs before behind (contents_told told) (contents_told told_after)) calls outcome))
  pub untouched : IfErr result (λ fault. status_of fault ≢ 4 → new ≡ old)
  pub fault : IfErr result (IsEncodedRefused asked)

-- both for what is asked of a list and of a salvage
abbrev pub ListsIn : {W : Type 0} → Unseen → (input : Option (List ℕ)) → Listing → (W → Option (List ℕ))
    → (old new : W) → Result Outcome CommandFault → List Call → Type 0
ListsIn disk input asked contents old new result calls = ListsEncoded asked.checked disk input asked.file.now
    asked.bounds asked.form contents old new result calls

abbrev pub SalvagesIn : {E W : Type 0} → (input : Option (List ℕ)) → Salvaging → (E → Option (List ℕ))
    → (told told_after : E) → (W → Option (List ℕ)) → (old new : W) → Result Outcome CommandFault → List Call → Type 0
SalvagesIn input asked contents_told told told_after contents old new result calls = SalvagesEncoded input
    asked.file.now (form_text asked.form) asked.places contents_told told told_after contents old new result calls
