-- Lines that tell how the schema of a file differs from that of a deck.
use Rattle.std.proofs.Common.{◌≡◌, ℕ, List, [], ◌∷◌, Some, Result, Ok, Err, IfOk, IfErr, refl}
use Rattle.std.specs.Global.{Vec}
use Rattle.record_layout.specs.Schema.{Schema}
use Rattle.file_reports.specs.SchemaListing.{read_of_file}
use Rattle.folder_shelf.specs.Calls.{taken_shared}
use Rattle.file_commands.specs.Differing.{differences_of_page, GivesDifferences}
use Rattle.command_support.specs.declared.fault.CommandFault.{CommandFault}
use Rattle.command_support.specs.declared.fault.CommandFault.TheVariants.{Memory}

-- lines of the first page that a call gave
pub given : (path : List ℕ) (deck : Schema) (bytes : List ℕ) (result : Result (Vec ℕ) CommandFault) → IfOk result (λ lines. lines.items ≡ differences_of_page deck (read_of_file bytes))
    → IfErr result (λ fault. fault ≡ Memory) → GivesDifferences path deck result (taken_shared path 4096 (Some bytes) ∷ [])
given path deck bytes (Ok lines) are fault = record { lines = (Some bytes, refl, are); fault = tt }
given path deck bytes (Err why) are fault = record { lines = tt; fault = fault }
