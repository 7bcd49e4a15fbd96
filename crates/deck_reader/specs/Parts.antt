-- Parts of rules, as the rules have them, for the functions that read them.
use Rattle.std.specs.Prelude.{ℕ, position, codes, if◌then◌else◌, Some, None}
use Rattle.io_state.specs.declared.modes.OpenMode.{OpenMode}
use Rattle.io_state.specs.declared.modes.OpenMode.TheVariants.{Input, Output, InputOutput, Extend}
use Rattle.io_state.specs.Permission.{may_open}
use Rattle.record_layout.specs.Layout.{is_named}
use Rattle.deck_parser.specs.Rule.{Rule, optional, where_it_gives, where_it_gives_or}
use Rattle.deck_parser.specs.Notation.{the, name, period, ◌▸◌, ◌◂◌, ◌⊗◌, ◌∣◌, ◌<$>◌, is_word_there, may}
use Rattle.io_state.specs.declared.statement.FileStatement.TheVariants.{Open, Close, Write, Rewrite, Delete}
use Rattle.deck_reader.specs.declared.placed.PlacedStatements.{PlacedStatements}
use Rattle.deck_reader.specs.declared.statement.Statement.{Statement}
use Rattle.deck_reader.specs.declared.statement.Statement.TheVariants.{Perform}
use Rattle.deck_reader.specs.Names.{Names, access_at}
use Rattle.deck_reader.specs.StatementRules.{some_of, in_its_line, file}
use Rattle.deck_reader.specs.Procedure.{one_statement, statement, paragraph}

-- the name of a file's record; code 3 for another name
unfoldable pub record_named : Names → Rule ℕ
record_named names = where_it_gives_or (λ _. 3) (λ text. position (λ file. is_named text file.entry) names.files) name

-- WRITE name
abbrev pub write_statement : Names → Rule Statement
write_statement names = (λ u. Perform u Write) <$> the (codes "WRITE") ▸ record_named names

-- REWRITE name
abbrev pub rewrite_statement : Names → Rule Statement
rewrite_statement names = (λ u. Perform u Rewrite) <$> the (codes "REWRITE") ▸ record_named names

-- DELETE name [RECORD]
abbrev pub delete_statement : Names → Rule Statement
delete_statement names = (λ u. Perform u Delete) <$> the (codes "DELETE") ▸ file names ◂ may (codes "RECORD")

-- the OPEN of a file, where its access mode permits the open mode
unfoldable pub name_to_open : Names → OpenMode → Rule PlacedStatements
name_to_open names mode = in_its_line (where_it_gives
    (λ u. if may_open (access_at names u) mode then Some (Perform u (Open mode)) else None) (file names))

-- (INPUT | OUTPUT | I-O | EXTEND) {name}..
unfoldable pub opening : Names → Rule PlacedStatements
opening names =
    (the (codes "INPUT") ▸ some_of (name_to_open names Input))
    ∣ (the (codes "OUTPUT") ▸ some_of (name_to_open names Output))
    ∣ (the (codes "I-O") ▸ some_of (name_to_open names InputOutput))
    ∣ (the (codes "EXTEND") ▸ some_of (name_to_open names Extend))

-- name [[WITH] LOCK]
unfoldable pub file_to_close : Names → Rule PlacedStatements
file_to_close names =
    let lock = is_word_there <$> optional (may (codes "WITH") ▸ the (codes "LOCK")) in
    in_its_line ((λ c. Perform c.0 (Close c.1)) <$> file names ⊗ lock)

-- a statement that is one, in the line of its verb
unfoldable pub one_in_its_line : Names → Rule PlacedStatements
one_in_its_line names = in_its_line (one_statement names)

-- a paragraph's name, or a sentence: name . | {statement}.. .
unfoldable pub paragraph_or_sentence : Names → Rule PlacedStatements
paragraph_or_sentence names = paragraph ∣ (some_of (statement names) ◂ period)
