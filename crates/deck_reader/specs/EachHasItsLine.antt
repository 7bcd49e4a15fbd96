-- That each statement of a procedure has a line.
use Rattle.std.specs.Prelude.{◌≡◌, List, length}
use Rattle.deck_parser.specs.Word.{Word}
use Rattle.deck_reader.specs.declared.placed.PlacedStatements.{PlacedStatements}
use Rattle.deck_reader.specs.Names.{Names}
use Rattle.deck_reader.specs.Procedure.{IsProcedure}

-- there are as many lines as statements
abbrev pub HasLines : PlacedStatements → Type 0
HasLines placed = length placed.places.lines ≡ length placed.statements

abbrev pub EachHasItsLine : Type 0
EachHasItsLine = (names : Names) (placed : PlacedStatements) (words : List Word)
    → IsProcedure names words placed → HasLines placed
