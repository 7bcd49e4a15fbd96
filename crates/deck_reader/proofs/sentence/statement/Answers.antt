use Rattle.std.proofs.Common.{◌≡◌, false, List, ◌∷◌, [], Option, sym, subst, ◌∙◌}
use Rattle.std.specs.Prelude.{codes, option_and_then, Result, IfErr}
use Rattle.std.specs.Option.{option_map}
use Rattle.deck_parser.specs.Class.{begins, this}
use Rattle.deck_parser.specs.Rule.{Rule, Stop}
use Rattle.deck_parser.specs.Notation.{◌∣◌}
use Rattle.deck_parser.specs.Reading.{Reads, TellsStop}
use Rattle.deck_parser.specs.Word.{Word}
use Rattle.deck_parser.specs.declared.fault.ParseRefusal.{ParseRefusal}
use Rattle.deck_reader.specs.declared.placed.PlacedStatements.{PlacedStatements}
use Rattle.deck_reader.specs.Names.{Names}
use Rattle.deck_reader.specs.Reading.{AddsStatements}
use Rattle.deck_reader.specs.StatementRules.{joined_statements, open_statement, close_statement, move_statement}
use Rattle.deck_reader.specs.Parts.{one_in_its_line}
use Rattle.deck_reader.specs.Procedure.{statement}
use Rattle.deck_parser.proofs.EitherLemmas.{Alike, first, other, chained}
use Rattle.deck_reader.proofs.ProcedureLemmas.{open_starts, close_starts, move_starts}
use Rattle.deck_reader.proofs.sentence.statement.Goals as goal

-- what is read by another rule in the same way is added in the same way
added : (p q : Rule PlacedStatements) (before : PlacedStatements) (words : List Word) (result : Result PlacedStatements ParseRefusal) (rest : List Word) → Alike p q words → AddsStatements q before words result rest
    → AddsStatements p before words result rest
added p q before words result rest same adds = (
  subst (λ (read : Option (PlacedStatements × List Word)). Reads (option_and_then {U = PlacedStatements × List Word} (λ a. option_map {U = PlacedStatements × List Word} (λ y. (y, a.1)) (joined_statements before a.0)) read) result rest) (sym same.0) adds.0,
  subst (λ (stop : Stop). IfErr result (TellsStop stop)) (sym same.1) adds.1,
)

-- the rules from each one on
abbrev from_move : Names → Rule PlacedStatements
from_move names = move_statement names ∣ one_in_its_line names

abbrev from_close : Names → Rule PlacedStatements
from_close names = close_statement names ∣ from_move names

-- which one is read where the words do not begin those before
past_open : (names : Names) (words : List Word) → begins (this (codes "OPEN") ∷ []) words ≡ false → Alike (statement names) (from_close names) words
unfolding statement one_in_its_line
past_open names words e1 = other (open_statement names) (from_close names) words (open_starts names words ∙ e1)

past_close : (names : Names) (words : List Word) → begins (this (codes "OPEN") ∷ []) words ≡ false → begins (this (codes "CLOSE") ∷ []) words ≡ false → Alike (statement names) (from_move names) words
past_close names words e1 e2 = chained (past_open names words e1) (other (close_statement names) (from_move names) words (close_starts names words ∙ e2))

past_move : (names : Names) (words : List Word) → begins (this (codes "OPEN") ∷ []) words ≡ false → begins (this (codes "CLOSE") ∷ []) words ≡ false → begins (this (codes "MOVE") ∷ []) words ≡ false → Alike (statement names) (one_in_its_line names) words
past_move names words e1 e2 e3 = chained (past_close names words e1 e2) (other (move_statement names) (one_in_its_line names) words (move_starts names words ∙ e3))

pub returns-then-sees : goal.returns-then-sees
unfolding statement one_in_its_line
returns-then-sees c =
    let names = c.args.names.now in
    let words = c.args.parser.now in
    added (statement names) (open_statement names) c.args.statements words c.open_statement.result c.open_statement.new.parser
    (first (open_statement names) (from_close names) words (open_starts names words ∙ (sym c.sees.ensures ∙ c.if-sees.true))) c.open_statement.ensures

pub returns-then-sees-2 : goal.returns-then-sees-2
returns-then-sees-2 c =
    let names = c.args.names.now in
    let words = c.args.parser.now in
    added (statement names) (close_statement names) c.args.statements words c.close_statement.result c.close_statement.new.parser
    (chained (past_open names words (sym c.sees.ensures ∙ c.if-sees.false)) (first (close_statement names) (from_move names) words (close_starts names words ∙ (sym c.sees-2.ensures ∙ c.if-sees-2.true)))) c.close_statement.ensures

pub returns-then-sees-3 : goal.returns-then-sees-3
returns-then-sees-3 c =
    let names = c.args.names.now in
    let words = c.args.parser.now in
    added (statement names) (move_statement names) c.args.statements words c.move_statement.result c.move_statement.new.parser
    (chained (past_close names words (sym c.sees.ensures ∙ c.if-sees.false) (sym c.sees-2.ensures ∙ c.if-sees-2.false)) (first (move_statement names) (one_in_its_line names) words (move_starts names words ∙ (sym c.sees-3.ensures ∙ c.if-sees-3.true)))) c.move_statement.ensures

pub returns : goal.returns
returns c =
    let names = c.args.names.now in
    let words = c.args.parser.now in
    added (statement names) (one_in_its_line names) c.args.statements words c.one_in_its_line.result c.one_in_its_line.new.parser
    (past_move names words (sym c.sees.ensures ∙ c.if-sees.false) (sym c.sees-2.ensures ∙ c.if-sees-2.false) (sym c.sees-3.ensures ∙ c.if-sees-3.false)) c.one_in_its_line.ensures
