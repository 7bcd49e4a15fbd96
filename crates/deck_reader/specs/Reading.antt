-- How statements are read, behind those before them.
use Rattle.std.specs.Prelude.{List, Result}
use Rattle.deck_parser.specs.Rule.{Rule, where_it_gives}
use Rattle.deck_parser.specs.Reading.{Reads, Stops}
use Rattle.deck_parser.specs.declared.fault.ParseRefusal.{ParseRefusal}
use Rattle.deck_parser.specs.Word.{Word}
use Rattle.deck_reader.specs.declared.placed.PlacedStatements.{PlacedStatements}
use Rattle.deck_reader.specs.StatementRules.{joined_statements}

-- the statements of a rule, behind others
abbrev pub behind_statements : PlacedStatements → Rule PlacedStatements → Rule PlacedStatements
behind_statements before rule = where_it_gives (joined_statements before) rule

-- the statements that are read are added to those before, and where words are refused, it is where
-- the rule stops
abbrev pub AddsStatements : Rule PlacedStatements → PlacedStatements → List Word
    → Result PlacedStatements ParseRefusal → List Word → Type 0
AddsStatements rule before words result rest =
    Reads ((behind_statements before rule).reads words) result rest × Stops rule words result
