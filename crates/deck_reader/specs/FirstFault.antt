-- The fault that is told of bytes that are no deck: by which pass, and what is known of it there.
-- The passes, and their order, are ours.
use Rattle.std.specs.Prelude.{◌≡◌, ◌⊎◌, ℕ, List, drop}
use Rattle.deck_parser.specs.Fault.{HasFault}
use Rattle.deck_parser.specs.Word.{Word}
use Rattle.deck_parser.specs.Words.{HasWords}
use Rattle.deck_parser.specs.declared.fault.DeckFault.{DeckFault}
use Rattle.deck_parser.specs.Rule.{Stop, stop_at, stop_behind}
use Rattle.deck_parser.specs.Unfit.{IsFirstLine}
use Rattle.file_control.specs.FirstFault.{IsDescriptionFault}
use Rattle.file_control.specs.Whole.{IsDescription}
use Rattle.file_control.specs.declared.description.Description.{Description}
use Rattle.deck_reader.specs.Names.{Names, names_of}
use Rattle.deck_reader.specs.Procedure.{procedure, IsProcedure}
use Rattle.deck_reader.specs.declared.placed.PlacedStatements.{PlacedStatements}

-- where the reading of words stops that are no procedure: where the rule stops, or, with code 2, at
-- the first word behind what it reads
abbrev pub procedure_stop : Names → List Word → Stop
procedure_stop names words =
    stop_behind ((procedure names).reads words) ((procedure names).stops words) (λ read. stop_at read.1 2)

-- the words are no procedure of these names, and the fault is told where their reading stops: in the
-- line of the word there, and with the code that it has
pub record IsProcedureFault (names : Names) (words : List Word) (fault : DeckFault) : Type 0 where
  pub none : (statements : PlacedStatements) → IsProcedure names words statements → ⊥
  pub line : IsFirstLine (procedure_stop names words).words fault.line
  pub code : fault.code ≡ (procedure_stop names words).code

-- the words are a description, and the words behind it have this fault as a procedure of its names
abbrev pub HasProcedureFault : List Word → DeckFault → Type 0
HasProcedureFault words fault =
    (description : Description) × IsDescription words description
    × IsProcedureFault (names_of description.files description.items) (drop description.words words) fault

-- why words spell no deck: the first fault of their description, or that of the procedure behind it
abbrev pub IsWordsFault : List Word → DeckFault → Type 0
IsWordsFault words fault = IsDescriptionFault words fault ⊎ HasProcedureFault words fault

-- why bytes are no deck: the fault for which they have no words; or that of their words
abbrev pub IsFaultOfDeck : List ℕ → DeckFault → Type 0
IsFaultOfDeck bytes fault = HasFault bytes fault
    ⊎ ((words : List Word) × HasWords bytes words × IsWordsFault words fault)
