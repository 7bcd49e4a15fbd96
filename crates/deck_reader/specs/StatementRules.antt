-- The statements of the procedure division: how they are written, and what they say. ANSI
-- X3.23-1985, Indexed I-O module, general formats of the CLOSE, OPEN, READ and START statements;
-- Nucleus module, that of the MOVE statement. Which phrases there are is ours.
use Rattle.std.specs.Prelude.{ℕ, Bool, true, false, not, ◌||◌, List, if◌then◌else◌, codes}
use Rattle.std.specs.Prelude.{Option, Some, None, option_and_then, option_map, bytes_eq, position, is_some}
use Rattle.std.specs.Prelude.{slice_get}
use Rattle.std.specs.List.{list_all}
use Rattle.std.specs.Option.{option_map_or}
use Rattle.std.specs.Char.{is_ascii_digit}
use Rattle.io_state.specs.declared.modes.Access.{Access}
use Rattle.io_state.specs.declared.modes.OpenMode.{OpenMode}
use Rattle.io_state.specs.declared.modes.OpenMode.TheVariants.{Input, Output, InputOutput, Extend}
use Rattle.io_state.specs.declared.modes.Relation.{Relation}
use Rattle.io_state.specs.declared.modes.Relation.TheVariants.{Equal, Greater, NotLess}
use Rattle.io_state.specs.Permission.{is_sequential, is_random, may_open}
use Rattle.record_layout.specs.declared.area.Source.{Source}
use Rattle.record_layout.specs.declared.area.Source.TheVariants.{Text, Digits, Fill}
use Rattle.record_layout.specs.declared.area.Figure.{Figure}
use Rattle.record_layout.specs.declared.area.Figure.TheVariants.{Space, Zero, Low, High}
use Rattle.record_layout.specs.Area.{is_taken_by}
use Rattle.deck_parser.specs.Rule.{Rule, optional, some_onto, where_it_gives, where_it_gives_or}
use Rattle.deck_parser.specs.Notation.{the, name, literal, ◌▸◌, ◌◂◌, ◌⊗◌, ◌∣◌, ◌<$>◌, is_word_there, may}
use Rattle.deck_parser.specs.Operand.{sign, digits}
use Rattle.io_state.specs.declared.statement.FileStatement.{FileStatement}
use Rattle.io_state.specs.declared.statement.FileStatement.TheVariants.{Open, Close, ReadNext, Read, Start}
use Rattle.deck_reader.specs.declared.statement.Statement.{Statement}
use Rattle.deck_reader.specs.declared.statement.Statement.TheVariants.{Perform, Move, MoveLength}
use Rattle.deck_parser.specs.Following.{followed, where_allowed}
use Rattle.deck_parser.specs.Located.{with_line}
use Rattle.deck_reader.specs.Names.{Names, item_in, item_named, access_at}
use Rattle.deck_reader.specs.Names.{prime_length, key_by_item, led_key_by_item}
use Rattle.deck_reader.specs.Placed.{nothing_placed, placed_statement, placed_behind}
use Rattle.deck_reader.specs.declared.placed.PlacedStatements.{PlacedStatements}

-- ---- statements and their lines

-- these statements, and then those
abbrev pub joined_statements : PlacedStatements → PlacedStatements → Option PlacedStatements
joined_statements before statements = Some (placed_behind before statements)

-- the statements of a rule, once or more
abbrev pub some_of : Rule PlacedStatements → Rule PlacedStatements
some_of rule = some_onto joined_statements nothing_placed rule

-- the statement of a rule, in the line of the first of its words
abbrev pub in_its_line : Rule Statement → Rule PlacedStatements
in_its_line rule = (λ s. placed_statement s.0 s.1) <$> with_line rule

-- ---- files

-- the name of a file; code 3 for another name
unfoldable pub file : Names → Rule ℕ
file names = where_it_gives_or (λ _. 3) (λ text. position (λ file. bytes_eq file.name text) names.files) name

-- ---- OPEN and CLOSE: a statement for each file, in order

-- OPEN {(INPUT | OUTPUT | I-O | EXTEND) {name}..}.., where the files' access modes permit the open
-- modes, with code 5 for the name of a file whose access mode does not; a statement stands in the
-- line of its file's name
unfoldable pub open_statement : Names → Rule PlacedStatements
open_statement names =
    let name_to_open : OpenMode → Rule PlacedStatements = λ mode. in_its_line (where_it_gives
    (λ u. if may_open (access_at names u) mode then Some (Perform u (Open mode)) else None)
    (file names)) in
    the (codes "OPEN") ▸ some_of
    ((the (codes "INPUT") ▸ some_of (name_to_open Input))
    ∣ (the (codes "OUTPUT") ▸ some_of (name_to_open Output))
    ∣ (the (codes "I-O") ▸ some_of (name_to_open InputOutput))
    ∣ (the (codes "EXTEND") ▸ some_of (name_to_open Extend)))

-- CLOSE {name [[WITH] LOCK]}.., each statement in the line of its file's name
unfoldable pub close_statement : Names → Rule PlacedStatements
close_statement names =
    let lock = is_word_there <$> optional (may (codes "WITH") ▸ the (codes "LOCK")) in
    the (codes "CLOSE") ▸ some_of (in_its_line ((λ c. Perform c.0 (Close c.1)) <$> file names ⊗ lock))

-- ---- READ

-- the code for a name of an item of the file that is not what is asked for, and for another name
abbrev pub item_code : Names → ℕ → List ℕ → ℕ
item_code names u text = if is_some (item_in names u text) then 5 else 3

-- the name of an item of the file that is a key
unfoldable pub key : Names → ℕ → Rule ℕ
key names u = where_it_gives_or (item_code names u)
    (λ text. option_and_then (key_by_item names u) (item_in names u text)) name

-- [RECORD] [KEY [IS] name], where KEY stands in no sequential READ. ANSI X3.23-1985, Indexed I-O
-- module, READ statement, general rules: by this key, or by the prime key where no KEY phrase stands
unfoldable pub read_operand : Names → ℕ → Bool → Rule Statement
read_operand names u sequential =
    (λ k. Perform u (option_map_or (λ k. Read k) k (if sequential then ReadNext else Read 0)))
    <$> may (codes "RECORD")
    ▸ optional (where_allowed (not sequential) (the (codes "KEY")) ▸ may (codes "IS") ▸ key names u)

-- [NEXT], which random access has not: whether the READ is sequential, which it always is in
-- sequential access
abbrev pub next_phrase : Access → Rule Bool
next_phrase access = (λ n. is_sequential access || is_word_there n)
    <$> optional (where_allowed (not (is_random access)) (the (codes "NEXT")))

-- READ name [NEXT] [RECORD] [KEY [IS] name]
unfoldable pub read_statement : Names → Rule Statement
read_statement names = the (codes "READ") ▸ followed 0 (file names)
    (λ u. followed false (next_phrase (access_at names u)) (read_operand names u))

-- ---- START

-- GREATER [THAN] [OR EQUAL [TO]]
abbrev pub greater_relation : Rule Relation
greater_relation = (λ or_equal. if is_some or_equal then NotLess else Greater)
    <$> the (codes "GREATER") ▸ may (codes "THAN")
    ▸ optional (the (codes "OR") ▸ the (codes "EQUAL") ▸ may (codes "TO"))

-- EQUAL [TO] | = | GREATER [THAN] [OR EQUAL [TO]] | > | NOT (LESS [THAN] | <) | >=
unfoldable pub relation : Rule Relation
relation =
    ((λ _. Equal) <$> the (codes "EQUAL") ▸ may (codes "TO"))
    ∣ ((λ _. Equal) <$> sign (codes "="))
    ∣ greater_relation
    ∣ ((λ _. Greater) <$> sign (codes ">"))
    ∣ ((λ _. NotLess)
    <$> the (codes "NOT") ▸ ((the (codes "LESS") ◂ may (codes "THAN")) ∣ sign (codes "<")))
    ∣ ((λ _. NotLess) <$> sign (codes ">="))

-- the name of an item of the file that is a key, or the leading part of one: the key, and the item's length
unfoldable pub led_key : Names → ℕ → Rule (ℕ × ℕ)
led_key names u = where_it_gives_or (item_code names u)
    (λ text. option_and_then {U = ℕ × ℕ} (led_key_by_item names u) (item_in names u text)) name

-- ANSI X3.23-1985, Indexed I-O module, START statement, general rules: EQUAL by the prime key where
-- no KEY phrase stands
abbrev pub start_by : Names → ℕ → Option (Relation × (ℕ × ℕ)) → FileStatement
start_by names u None = Start 0 (prime_length names u) Equal
start_by names u (Some operand) = Start operand.1.0 operand.1.1 operand.0

-- the name of a file whose access is not random; code 5 for the name of a file whose access is
abbrev pub file_to_start : Names → Rule ℕ
file_to_start names =
    where_it_gives (λ u. if is_random (access_at names u) then None else Some u) (file names)

-- [KEY [IS] relation name]: the relation, the key, and the item's length
abbrev pub start_phrase : Names → ℕ → Rule (Option (Relation × (ℕ × ℕ)))
start_phrase names u = optional (the (codes "KEY") ▸ may (codes "IS") ▸ relation ⊗ led_key names u)

-- the START of a file by its phrase
abbrev pub start_operand : Names → ℕ → Rule Statement
start_operand names u = (λ operand. Perform u (start_by names u operand)) <$> start_phrase names u

-- START name [KEY [IS] relation name]
unfoldable pub start_statement : Names → Rule Statement
start_statement names = the (codes "START") ▸ followed 0 (file_to_start names) (start_operand names)

-- ---- MOVE: a statement for each receiver, in order

-- SPACE | SPACES | ZERO | ZEROS | ZEROES | LOW-VALUE | LOW-VALUES | HIGH-VALUE | HIGH-VALUES
unfoldable pub figure : Rule Figure
figure =
    ((λ _. Space) <$> (the (codes "SPACE") ∣ the (codes "SPACES")))
    ∣ ((λ _. Zero) <$> (the (codes "ZERO") ∣ the (codes "ZEROS") ∣ the (codes "ZEROES")))
    ∣ ((λ _. Low) <$> (the (codes "LOW-VALUE") ∣ the (codes "LOW-VALUES")))
    ∣ ((λ _. High) <$> (the (codes "HIGH-VALUE") ∣ the (codes "HIGH-VALUES")))

-- literal | number | a figurative constant. Ours: a literal of digits alone is moved as a number is
unfoldable pub source : Rule (Source (List ℕ))
source =
    ((λ text. if list_all is_ascii_digit text then Digits text else Text text) <$> literal)
    ∣ (Digits <$> digits) ∣ (Fill <$> figure)

-- the code for a name of an item that does not take the source, and for another name
abbrev pub receiver_code : Names → List ℕ → ℕ
receiver_code names text = if is_some (item_named names text)
    || is_some (position (λ item. bytes_eq item.name text) names.items) then 5 else 3

-- the name of an item that takes the source of a MOVE in this line: one of a file, or else a length
-- item, which takes what a numeric item takes
unfoldable pub receiver : Names → ℕ → Source (List ℕ) → Rule PlacedStatements
receiver names line sent = placed_statement line <$> where_it_gives_or (receiver_code names) (λ text. option_map_or
    (λ item. if is_taken_by item.1.numeric sent then Some (Move item.0 item.1 sent) else None)
    (item_named names text)
    (option_and_then (λ i. if is_taken_by true sent then Some (MoveLength i sent) else None)
    (position (λ item. bytes_eq item.name text) names.items))) name

-- MOVE source
unfoldable pub moved_source : Rule (Source (List ℕ))
moved_source = the (codes "MOVE") ▸ source

-- MOVE source TO {name}.., each statement in the line of MOVE
unfoldable pub move_statement : Names → Rule PlacedStatements
move_statement names = followed (0, Fill Zero) (with_line moved_source)
    (λ move. the (codes "TO") ▸ some_of (receiver names move.0 move.1))
