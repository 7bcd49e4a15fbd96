-- The ledgers of a session: what the images of each name may be. All of this is ours.
use Rattle.std.specs.Prelude.{ℕ, List, [], bytes_eq, IsTrue}
use Rattle.std.specs.List.{list_any}
use Rattle.indexed_file.specs.Shown.{Shown}
use Rattle.deck_runner.specs.NoFalseFile.{Ledger, first_ledger, StandsBy}
use Rattle.serve.specs.Files.{Files, files_at_start}

-- a point between two requests: the files there, the names that were described so far, and what the
-- images of each name may be, as it is of the run of a deck
pub record JudgedFiles (S : Type 0) : Type 0 where
  pub files : Files S
  pub names : List (List ℕ)
  pub ledger : List ℕ → Ledger

-- before the first request
abbrev pub none_judged : {S : Type 0} → S → JudgedFiles S
none_judged start = record { files = files_at_start start; names = []; ledger = λ name. first_ledger }

-- the name was described
abbrev pub IsDescribed : List (List ℕ) → List ℕ → Type 0
IsDescribed names name = IsTrue (list_any (bytes_eq name) names)

-- what the library showed of these names at the start was true
abbrev pub WereTrue : {S : Type 0} → Shown S → (start : S) → List (List ℕ) → Type 0
WereTrue shown start names = (name : List ℕ) → IsDescribed names name → shown.IsShownTruly start name

-- at each moment from the one library to the other each name stands by its ledger: where the
-- library has not lied by then, and what it showed of the described names at the start was true
abbrev pub AllStand : {S : Type 0} → Shown S → (start : S) → (names : List (List ℕ)) → (List ℕ → Ledger)
    → (old new : S) → Type 0
AllStand shown start names ledger old new =
    IsTrue (shown.is_honest new) → WereTrue shown start names
    → (name : List ℕ) → StandsBy shown.moments start name (ledger name) old new

-- under the same premises: where each image of a name really was absent, closed or refused at the
-- start, it has been so at each moment since
abbrev pub AllReal : {S : Type 0} → Shown S → (start : S) → (names : List (List ℕ)) → (now : S) → Type 0
AllReal shown start names now =
    IsTrue (shown.is_honest now) → WereTrue shown start names
    → (name : List ℕ) → shown.moments.AreReal start start name → shown.moments.AreReal start now name

-- each name stands by its ledger now, and has had no false image since the start
pub record StandsNow {S : Type 0} (shown : Shown S) (start : S) (judged : JudgedFiles S) : Type 0 where
  pub now : AllStand shown start judged.names judged.ledger judged.files.library judged.files.library
  pub since : AllReal shown start judged.names judged.files.library
