-- That all statements of a procedure are allowed.
use Rattle.std.specs.Prelude.{List, All}
use Rattle.deck_parser.specs.Word.{Word}
use Rattle.file_control.specs.Described.{AreDescribed}
use Rattle.deck_reader.specs.declared.placed.PlacedStatements.{PlacedStatements}
use Rattle.deck_reader.specs.Allowed.{IsAllowed}
use Rattle.deck_reader.specs.Names.{Names}
use Rattle.deck_reader.specs.Procedure.{IsProcedure}

-- where files and items are described, the statements of each procedure are allowed
abbrev pub HaveOnlyAllowed : Type 0
HaveOnlyAllowed = (names : Names) (placed : PlacedStatements) (words : List Word)
    → AreDescribed names.files names.items → IsProcedure names words placed
    → All (IsAllowed names) placed.statements
