-- Each statement of a procedure has a line.
use Rattle.std.proofs.Common.{ℕ, cond, List, Some, None, refl, arith, length-append}
use Rattle.std.specs.Prelude.{codes}
use Rattle.deck_parser.specs.Rule.{Rule, optional, onto, where_it_gives}
use Rattle.deck_parser.specs.Notation.{the, name, period, may, is_word_there, ◌▸◌, ◌◂◌, ◌⊗◌, ◌∣◌, ◌<$>◌}
use Rattle.io_state.specs.declared.modes.OpenMode.{OpenMode}
use Rattle.io_state.specs.declared.modes.OpenMode.TheVariants.{Input, Output, InputOutput, Extend}
use Rattle.io_state.specs.Permission.{may_open}
use Rattle.io_state.specs.declared.statement.FileStatement.TheVariants.{Open, Close}
use Rattle.record_layout.specs.declared.area.Source.{Source}
use Rattle.record_layout.specs.declared.area.Source.TheVariants.{Fill}
use Rattle.record_layout.specs.declared.area.Figure.TheVariants.{Zero}
use Rattle.deck_reader.specs.declared.placed.PlacedStatements.{PlacedStatements}
use Rattle.deck_reader.specs.declared.statement.Statement.{Statement}
use Rattle.deck_reader.specs.declared.statement.Statement.TheVariants.{Perform}
use Rattle.deck_reader.specs.EachHasItsLine.{HasLines}
use Rattle.deck_parser.specs.Located.{with_line}
use Rattle.deck_reader.specs.Names.{Names, access_at}
use Rattle.deck_reader.specs.Parts.{name_to_open, opening, file_to_close, paragraph_or_sentence}
use Rattle.deck_reader.specs.Placed.{nothing_placed, placed_statement, placed_paragraph, placed_behind}
use Rattle.deck_reader.specs.Procedure.{one_statement, statement, paragraph, procedure}
use Rattle.deck_reader.specs.StatementRules.{joined_statements, some_of, in_its_line, file, open_statement, close_statement, receiver, moved_source, move_statement}
use Rattle.deck_reader.proofs.GivesLemmas.{Gives, gives_second, gives_first, gives_either, gives_one, gives_followed, joined_all, gives_some}
use Rattle.deck_reader.proofs.ProcedureLemmas.{receivers, sentence}
use Rattle.deck_reader.proofs.AllowedLemmas.{moved_to_named}

join_lines : (before after : PlacedStatements) → HasLines before → HasLines after → HasLines (placed_behind before after)
join_lines before after h k = omega (arith, length-append before.places.lines after.places.lines, length-append before.statements after.statements, h, k)

some_lines : (p : Rule PlacedStatements) → Gives HasLines p → Gives HasLines (some_of p)
some_lines p h = gives_some HasLines refl join_lines p h

lines_placed : (p : Rule Statement) → Gives HasLines (in_its_line p)
lines_placed p = gives_one (λ _. Unit {0}) HasLines (λ (s : ℕ × Statement). placed_statement s.0 s.1) (with_line p) (λ _ _ _ _. tt) (λ _ _. refl)

lines_opened : (names : Names) (mode : OpenMode) → Gives HasLines (name_to_open names mode)
unfolding name_to_open
lines_opened names mode = lines_placed (where_it_gives (λ u. cond (may_open (access_at names u) mode) (Some (Perform u (Open mode))) None) (file names))

opened_lines : (names : Names) (text : List ℕ) (mode : OpenMode) → Gives HasLines (the text ▸ some_of (name_to_open names mode))
opened_lines names text mode = gives_second HasLines (the text) (some_of (name_to_open names mode)) (some_lines (name_to_open names mode) (lines_opened names mode))

lines_opening : (names : Names) → Gives HasLines (opening names)
unfolding opening
lines_opening names =
    let input = the (codes "INPUT") ▸ some_of (name_to_open names Input) in
    let output = the (codes "OUTPUT") ▸ some_of (name_to_open names Output) in
    let update = the (codes "I-O") ▸ some_of (name_to_open names InputOutput) in
    let extend = the (codes "EXTEND") ▸ some_of (name_to_open names Extend) in
    gives_either HasLines input (output ∣ update ∣ extend) (opened_lines names (codes "INPUT") Input)
    (gives_either HasLines output (update ∣ extend) (opened_lines names (codes "OUTPUT") Output)
    (gives_either HasLines update extend (opened_lines names (codes "I-O") InputOutput) (opened_lines names (codes "EXTEND") Extend)))

lines_open : (names : Names) → Gives HasLines (open_statement names)
unfolding open_statement opening name_to_open
lines_open names = gives_second HasLines (the (codes "OPEN")) (some_of (opening names)) (some_lines (opening names) (lines_opening names))

lines_closed : (names : Names) → Gives HasLines (file_to_close names)
unfolding file_to_close
lines_closed names =
    let lock = is_word_there <$> optional (may (codes "WITH") ▸ the (codes "LOCK")) in
    lines_placed ((λ c. Perform c.0 (Close c.1)) <$> file names ⊗ lock)

lines_close : (names : Names) → Gives HasLines (close_statement names)
unfolding close_statement file_to_close
lines_close names = gives_second HasLines (the (codes "CLOSE")) (some_of (file_to_close names)) (some_lines (file_to_close names) (lines_closed names))

lines_receiver : (names : Names) (line : ℕ) (sent : Source (List ℕ)) → Gives HasLines (receiver names line sent)
unfolding receiver
lines_receiver names line sent = gives_one (λ _. Unit {0}) HasLines (placed_statement line) (where_it_gives (moved_to_named names sent) name) (λ _ _ _ _. tt) (λ _ _. refl)

lines_receivers : (names : Names) (move : ℕ × Source (List ℕ)) → Gives HasLines (receivers names move)
lines_receivers names move =
    gives_second HasLines (the (codes "TO")) (some_of (receiver names move.0 move.1)) (some_lines (receiver names move.0 move.1) (lines_receiver names move.0 move.1))

lines_move : (names : Names) → Gives HasLines (move_statement names)
unfolding move_statement
lines_move names = gives_followed (λ _. Unit {0}) HasLines (0, Fill Zero) (with_line moved_source) (receivers names) (λ _ _ _ _. tt) (λ move _. lines_receivers names move)

lines_statement : (names : Names) → Gives HasLines (statement names)
unfolding statement
lines_statement names =
    let last = in_its_line (one_statement names) in
    gives_either HasLines (open_statement names) (close_statement names ∣ move_statement names ∣ last) (lines_open names)
    (gives_either HasLines (close_statement names) (move_statement names ∣ last) (lines_close names)
    (gives_either HasLines (move_statement names) last (lines_move names) (lines_placed (one_statement names))))

lines_paragraph : Gives HasLines paragraph
unfolding paragraph
lines_paragraph = gives_one (λ _. Unit {0}) HasLines (λ (p : ℕ × List ℕ). placed_paragraph p.0 p.1) (with_line (name ◂ period)) (λ _ _ _ _. tt) (λ _ _. refl)

lines_turn : (names : Names) → Gives HasLines (paragraph_or_sentence names)
unfolding paragraph_or_sentence
lines_turn names =
    gives_either HasLines paragraph (sentence names) lines_paragraph
    (gives_first HasLines (some_of (statement names)) period (some_lines (statement names) (lines_statement names)))

-- a procedure has as many lines as statements
pub lines_of_procedure : (names : Names) → Gives HasLines (procedure names)
unfolding procedure paragraph_or_sentence
lines_of_procedure names =
    let turns = onto joined_statements nothing_placed (paragraph_or_sentence names) in
    gives_second HasLines (the (codes "PROCEDURE")) (the (codes "DIVISION") ▸ period ▸ turns)
    (gives_second HasLines (the (codes "DIVISION")) (period ▸ turns)
    (gives_second HasLines period turns (λ placed words rest s.
    joined_all HasLines refl join_lines (paragraph_or_sentence names) (lines_turn names) nothing_placed placed s.0 words rest refl s.1)))
