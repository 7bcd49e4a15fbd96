-- Statements in their order, with their places: one, none, and some behind others.
use Rattle.std.specs.Prelude.{ℕ, ◌+◌, List, [], ◌∷◌, ◌++◌, length, map}
use Rattle.deck_reader.specs.declared.placed.PlacedStatements.{PlacedStatements}
use Rattle.deck_reader.specs.declared.statement.Statement.{Statement}
use Rattle.deck_reader.specs.StatementPlaces.{Paragraph}

-- these statements, with these lines and paragraphs
abbrev pub with_places : List Statement → List ℕ → List Paragraph → PlacedStatements
with_places statements lines paragraphs =
    record { statements = statements; places = record { lines = lines; paragraphs = paragraphs } }

abbrev pub nothing_placed : PlacedStatements
nothing_placed = with_places [] [] []

-- a statement in this line
abbrev pub placed_statement : ℕ → Statement → PlacedStatements
placed_statement line statement = with_places (statement ∷ []) (line ∷ []) []

-- a paragraph whose name stands in this line
abbrev pub placed_paragraph : ℕ → List ℕ → PlacedStatements
placed_paragraph line name = with_places [] [] (record { name = name; line = line; at = 0 } ∷ [])

-- a paragraph behind so many more statements
abbrev pub paragraph_behind : ℕ → Paragraph → Paragraph
paragraph_behind count paragraph =
    record { name = paragraph.name; line = paragraph.line; at = count + paragraph.at }

-- these statements, and then those
abbrev pub placed_behind : PlacedStatements → PlacedStatements → PlacedStatements
placed_behind before after =
    with_places (before.statements ++ after.statements) (before.places.lines ++ after.places.lines)
    (before.places.paragraphs
    ++ map (paragraph_behind (length before.statements)) after.places.paragraphs)
