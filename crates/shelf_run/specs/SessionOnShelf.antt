-- An exact session over the files of a shelf: what it answers, and what a read then gives of its
-- files. All of this is ours.
use Rattle.std.specs.Prelude.{◌≡◌, ℕ, Bool, List, [], Result, IsTrue}
use Rattle.io_state.specs.declared.status.Status.{Status}
use Rattle.indexed_file.specs.Shown.{Shown}
use Rattle.indexed_file.specs.World.{Named}
use Rattle.page_store.specs.ShelfState.{ShelfState}
use Rattle.shelf_run.specs.Files.{FileReads, reads_of, Represents}
use Rattle.serve.specs.Files.{Files}
use Rattle.serve.specs.ExactFiles.{ExactFiles, exact_at_start, ServesExactly, EndsExactly}
use Rattle.serve.specs.ExactSession.{IsSoOfAllDescribed, AreCleanAnswers, AreCleanCloses, ExactAfter}
use Rattle.serve.specs.Serving.{Exchange, ClosesAllFiles, Streams, Served}
use Rattle.serve.specs.declared.fault.ServeFault.{ServeFault}

-- what a read gives of each described file represents what its name stands for
abbrev pub AreDescribedIn : FileReads → (List ℕ → Named) → List Exchange → Type 0
AreDescribedIn reads named exchanges =
    IsSoOfAllDescribed (λ name. Represents (reads name) (named name)) exchanges

-- each file that represented what its name stood for represents what it stands for now
abbrev pub RepresentsWhatIsLeft : (old new : ShelfState) → (named left : List ℕ → Named) → Type 0
RepresentsWhatIsLeft old new named left =
    (name : List ℕ) → Represents (reads_of old name) (named name) → Represents (reads_of new name) (left name)

-- requests without a fault were answered as the definitions say, from all that the described files
-- represented at first, where the shelf has not lied by now; and its files represent what they leave
abbrev pub AnswersExactlyOn : (old new : ShelfState) → List Exchange → Type 0
AnswersExactlyOn old new exchanges =
    IsTrue new.is_honest → AreCleanAnswers exchanges
    → (named : List ℕ → Named) → AreDescribedIn (reads_of old) named exchanges
    → (now : ExactFiles) × ServesExactly (exact_at_start named) exchanges now
    × RepresentsWhatIsLeft old new named now.named

-- the same of requests and of the closes behind them
abbrev pub IsExactSessionOn : (old new : ShelfState) → List Exchange → (closes : List Status) → Type 0
IsExactSessionOn old new exchanges closes =
    IsTrue new.is_honest → AreCleanAnswers exchanges → AreCleanCloses closes
    → (named : List ℕ → Named) → AreDescribedIn (reads_of old) named exchanges
    → (end : ExactFiles) × EndsExactly named exchanges closes end
    × RepresentsWhatIsLeft old new named end.named

-- ---- the law

-- of libraries with such shelves: it is so after requests, however they came; when the open files are
-- closed behind them; and of every whole session over a library that had no unit at first
pub record ExactOnShelf {S : Type 0} (shown : Shown S) (keeps_open : S → ℕ → Bool) (shelf_of : S → ShelfState) : Type
    0 where
  pub requests : (start : S) → (exchanges : List Exchange) → (now : Files S)
      → ExactAfter shown keeps_open start exchanges now
      → AnswersExactlyOn (shelf_of start) (shelf_of now.library) exchanges
  pub closed : (start : S) → (exchanges : List Exchange) → (now : Files S)
      → ExactAfter shown keeps_open start exchanges now
      → (closes : List Status) → (end : Files S) → ClosesAllFiles shown now closes end
      → IsExactSessionOn (shelf_of start) (shelf_of end.library) exchanges closes
  pub session : (start : S) → (s : Streams) → (result : Result Unit ServeFault)
      → (session : Served shown keeps_open start s result) → (shown.world start).units ≡ []
      → IsExactSessionOn (shelf_of start) (shelf_of session.end.library) session.served.exchanges session.closes
