-- How the schema of a file differs from that of a deck, as lines. All of this is ours.
use Rattle.std.specs.Prelude.{◌≡◌, ℕ, List, [], ◌∷◌, Option, Some, None, Result, Ok, Err, IfOk, IfErr}
use Rattle.std.specs.Global.{Vec}
use Rattle.record_layout.specs.Schema.{Schema}
use Rattle.open_file.specs.declared.first_page.Header.{Header}
use Rattle.file_reports.specs.declared.first_page.Refusal.{Refusal}
use Rattle.file_reports.specs.Differences.{differences}
use Rattle.file_reports.specs.SchemaListing.{read_of_file}
use Rattle.folder_shelf.specs.Calls.{Call, taken_shared}
use Rattle.command_support.specs.declared.fault.CommandFault.{CommandFault}
use Rattle.command_support.specs.declared.fault.CommandFault.TheVariants.{Memory}

-- a line for each difference of a first page from a deck; none, where the page is none
abbrev pub differences_of_page : Schema → Result Header Refusal → List ℕ
differences_of_page deck (Ok header) = differences header.schema deck
differences_of_page deck (Err why) = []

-- the same by the first bytes of a file, where they came
abbrev pub differences_told : Schema → Option (List ℕ) → List ℕ
differences_told deck None = []
differences_told deck (Some bytes) = differences_of_page deck (read_of_file bytes)

-- the first page of the file of a path was asked for, and nothing else, and these are the lines of what it
-- differs from a deck in
abbrev pub AreDifferencesOf : (path : List ℕ) → Schema → List Call → (lines : List ℕ) → Type 0
AreDifferencesOf path deck calls lines = (told : Option (List ℕ))
    × (calls ≡ taken_shared path 4096 told ∷ []) × (lines ≡ differences_told deck told)

-- these lines were given; or memory was lacking
pub record GivesDifferences (path : List ℕ) (deck : Schema) (result : Result (Vec ℕ) CommandFault)
    (calls : List Call) : Type 0 where
  pub lines : IfOk result (λ lines. AreDifferencesOf path deck calls lines.items)
  pub fault : IfErr result (λ fault. fault ≡ Memory)
