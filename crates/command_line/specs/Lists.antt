-- What is listed of the records of a file, for words that ask for it. All of this is ours.
use Rattle.std.specs.Prelude.{ℕ, Bool, true, false, List, Option, Result}
use Rattle.folder_shelf.specs.Replay.{Unseen}
use Rattle.folder_shelf.specs.Calls.{Call}
use Rattle.command_words.specs.declared.form_words.FormWords.{FormWords}
use Rattle.file_commands.specs.ByIndex.{ListsByIndex}
use Rattle.file_commands.specs.Records.{ListsAs}
use Rattle.file_commands.specs.declared.asked_list.Listing.{Listing}
use Rattle.file_commands.specs.declared.listing.Bounds.{Bounds}
use Rattle.command_support.specs.declared.fault.CommandFault.{CommandFault}
use Rattle.command_support.specs.declared.outcome.Outcome.{Outcome}

-- the records of a file were listed: after a check of it, or page after page
abbrev pub ListsEitherWay : {W : Type 0} → (checked : Bool) → Unseen → (input : Option (List ℕ)) → (path : List ℕ)
    → Bounds → FormWords → (W → Option (List ℕ)) → (old new : W) → Result Outcome CommandFault → List Call → Type 0
ListsEitherWay true disk input path bounds form contents old new result calls =
    ListsAs disk input path bounds form contents old new result calls
ListsEitherWay false disk input path bounds form contents old new result calls =
    ListsByIndex disk input path bounds form contents old new result calls

-- so for what is asked of a list
abbrev pub ListsAsAsked : {W : Type 0} → Unseen → (input : Option (List ℕ)) → Listing → (W → Option (List ℕ))
    → (old new : W) → Result Outcome CommandFault → List Call → Type 0
ListsAsAsked disk input asked contents old new result calls = ListsEitherWay asked.checked disk input asked.file.now
    asked.bounds asked.form contents old new result calls
