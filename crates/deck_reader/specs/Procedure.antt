-- The procedure division: paragraphs and sentences, and the statements that have no phrases.
-- ANSI X3.23-1985, Nucleus module, procedure division structure, and general format of the STOP
-- statement; Indexed I-O module, those of the DELETE, REWRITE and WRITE statements. Names of
-- paragraphs have no effect, which is ours.
use Rattle.std.specs.Prelude.{List, [], codes, position}
use Rattle.deck_parser.specs.Word.{Word}
use Rattle.deck_parser.specs.Rule.{Rule, onto, where_it_gives_or}
use Rattle.deck_parser.specs.Notation.{the, name, period, ◌▸◌, ◌◂◌, ◌∣◌, ◌<$>◌, may}
use Rattle.record_layout.specs.Layout.{is_named}
use Rattle.io_state.specs.declared.statement.FileStatement.TheVariants.{Write, Rewrite, Delete}
use Rattle.deck_reader.specs.declared.statement.Statement.{Statement}
use Rattle.deck_reader.specs.declared.statement.Statement.TheVariants.{Perform, StopRun}
use Rattle.deck_reader.specs.declared.placed.PlacedStatements.{PlacedStatements}
use Rattle.deck_parser.specs.Located.{with_line}
use Rattle.deck_reader.specs.Names.{Names}
use Rattle.deck_reader.specs.Placed.{nothing_placed, placed_paragraph}
use Rattle.deck_reader.specs.StatementRules.{joined_statements, some_of, in_its_line, file}
use Rattle.deck_reader.specs.StatementRules.{open_statement, close_statement, read_statement}
use Rattle.deck_reader.specs.StatementRules.{start_statement, move_statement}

-- READ | START | WRITE name | REWRITE name | DELETE name [RECORD] | STOP RUN
unfoldable pub one_statement : Names → Rule Statement
one_statement names =
    let record_name = where_it_gives_or (λ _. 3)
    (λ text. position (λ file. is_named text file.entry) names.files) name in
    read_statement names ∣ start_statement names
    ∣ ((λ u. Perform u Write) <$> the (codes "WRITE") ▸ record_name)
    ∣ ((λ u. Perform u Rewrite) <$> the (codes "REWRITE") ▸ record_name)
    ∣ ((λ u. Perform u Delete) <$> the (codes "DELETE") ▸ file names ◂ may (codes "RECORD"))
    ∣ ((λ _. StopRun) <$> the (codes "STOP") ▸ the (codes "RUN"))

-- OPEN | CLOSE | MOVE, which are several statements, or one statement in the line of its first word
unfoldable pub statement : Names → Rule PlacedStatements
statement names =
    open_statement names ∣ close_statement names ∣ move_statement names ∣ in_its_line (one_statement names)

-- a paragraph's name, in its line: name .
unfoldable pub paragraph : Rule PlacedStatements
paragraph = (λ p. placed_paragraph p.0 p.1) <$> with_line (name ◂ period)

-- PROCEDURE DIVISION . {name . | {statement}.. .}..?
unfoldable pub procedure : Names → Rule PlacedStatements
procedure names =
    the (codes "PROCEDURE") ▸ the (codes "DIVISION") ▸ period
    ▸ onto joined_statements nothing_placed (paragraph ∣ (some_of (statement names) ◂ period))

-- these words, all of them, are a procedure of these statements, with their lines and paragraphs
abbrev pub IsProcedure : Names → List Word → PlacedStatements → Type 0
IsProcedure names words statements = (procedure names).Spells statements words []
