-- What a list of a file that is read by its path promises. All of this is ours.
use Rattle.std.specs.Prelude.{◌≡◌, ℕ, List, ◌++◌, Option, Result, IsTrue}
use Rattle.record_text.specs.declared.form.Form.{Form}
use Rattle.record_listing.specs.declared.asked.Asked.{Asked}
use Rattle.record_listing.specs.declared.end.ListEnd.{ListEnd}
use Rattle.record_listing.specs.declared.end.ListFault.{ListFault}
use Rattle.record_listing.specs.FileList.{EndsOfFile}
use Rattle.folder_shelf.specs.Replay.{Unseen}
use Rattle.folder_shelf.specs.Answers.{are_answers_of}
use Rattle.folder_shelf.specs.Calls.{Call}
use Rattle.folder_shelf.specs.Reading.{AreReading}
use Rattle.folder_shelf.specs.SystemState.{SystemState}

-- after these earlier calls others were made that only read, and no more; the earlier ones may have been
-- set aside; and this is so of the others
pub record ByReadsAside (IsSo : List Call → Type 0) (old aside new : List Call) : Type 0 where
  pub calls : List Call
  pub noted : new ++ aside ≡ calls ++ old
  pub reading : AreReading calls
  pub so : IsSo calls

-- the same of what a call gives back: the system, and an answer of which this is so with the others
abbrev pub ReadsAside : {S E : Type 0} → (state : S → SystemState) → S → (aside : List Call) → S × E
    → (IsSo : E → List Call → Type 0) → Type 0
ReadsAside state system aside result IsSo =
    ByReadsAside (IsSo result.1) (state system).calls aside (state result.0).calls

-- where each answer to these reads was that of the files of a disk, a list of the one at a path ends as
-- it does of the rows for which that file stands, if it stands for some
abbrev pub ListsAtPath : Unseen → (path : List ℕ) → Form → Asked → (before behind : Option (List ℕ))
    → Result ListEnd ListFault → (reads : List Call) → Type 0
ListsAtPath disk path form asked before behind end reads =
    IsTrue (are_answers_of disk.first reads)
    → EndsOfFile (disk.first path) form asked before behind end
