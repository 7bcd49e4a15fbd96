-- The procedure is read as it is spelled: one word of look-ahead is enough.
use Rattle.std.proofs.Common.{◌≡◌, ◌||◌, ℕ, Bool, true, false, not, cond, refl, sym, ap, ◌∙◌, List, [], ◌∷◌, ◌++◌, Option, Some, None}
use Rattle.std.specs.Prelude.{codes, option_and_then}
use Rattle.std.specs.Option.{option_map_or}
use Rattle.io_state.specs.declared.modes.OpenMode.{OpenMode}
use Rattle.io_state.specs.declared.modes.Access.{Access}
use Rattle.io_state.specs.Permission.{is_sequential, is_random}
use Rattle.io_state.specs.declared.statement.FileStatement.TheVariants.{Write, Rewrite, Delete}
use Rattle.deck_reader.specs.declared.statement.Statement.{Statement}
use Rattle.deck_reader.specs.declared.statement.Statement.TheVariants.{Perform, Move, MoveLength, StopRun}
use Rattle.deck_reader.specs.declared.placed.PlacedStatements.{PlacedStatements}
use Rattle.record_layout.specs.declared.item.Field.{Field}
use Rattle.record_layout.specs.Area.{is_taken_by}
use Rattle.record_layout.specs.declared.area.Source.{Source}
use Rattle.record_layout.specs.declared.area.Source.TheVariants.{Fill}
use Rattle.record_layout.specs.declared.area.Figure.TheVariants.{Zero}
use Rattle.deck_parser.specs.Name.{is_reserved}
use Rattle.deck_parser.specs.Class as class
use Rattle.deck_parser.specs.Class.{begins}
use Rattle.deck_parser.specs.Word.{Word}
use Rattle.deck_parser.specs.Rule.{Rule, many, optional, where_it_gives}
use Rattle.deck_parser.specs.Notation.{the, name, literal, period, may, is_word_there, ◌▸◌, ◌◂◌, ◌⊗◌, ◌<$>◌}
use Rattle.deck_parser.specs.Operand.{sign, digits}
use Rattle.deck_parser.proofs.ClassLemmas.{begins-append, begins_apart}
use Rattle.deck_parser.proofs.RuleLemmas.{Lawful, lawful_turn, lawful_optional, lawful_either, lawful_as}
use Rattle.deck_parser.proofs.RepeatLemmas.{lawful_onto, lawful_some}
use Rattle.deck_parser.proofs.NotationLemmas.{lawful_the, lawful_name, lawful_literal, lawful_period}
use Rattle.deck_parser.proofs.OperandLemmas.{lawful_sign, lawful_digits}
use Rattle.deck_reader.specs.Names.{Names, access_at}
use Rattle.deck_parser.specs.Following.{followed, where_allowed}
use Rattle.deck_parser.specs.Located.{with_line}
use Rattle.deck_reader.specs.StatementRules.{some_of, file, open_statement, close_statement, key, next_phrase, read_operand, read_statement, relation, led_key, file_to_start, start_operand, start_statement, figure, source, receiver, moved_source, move_statement}
use Rattle.deck_reader.specs.Parts.{record_named, write_statement, rewrite_statement, delete_statement, name_to_open, opening, file_to_close, paragraph_or_sentence}
use Rattle.deck_reader.specs.Procedure.{one_statement, statement, paragraph, procedure}
use Rattle.deck_parser.proofs.FollowLemmas.{AreAlike, lawful_followed}
use Rattle.deck_parser.proofs.LocatedLemmas.{lawful_with_line}

pub ruleset steps = (lawful_with_line, lawful_the, lawful_name, lawful_literal, lawful_period, lawful_sign, lawful_digits, lawful_turn, lawful_optional, lawful_either, lawful_onto, lawful_some, lawful_as)

-- ---- parts of rules

-- [NEXT] [RECORD] [KEY [IS] name]
abbrev pub read_phrases : Names → ℕ → Rule Statement
read_phrases names u = followed false (next_phrase (access_at names u)) (read_operand names u)

-- the MOVE to an item of a file, or else to a length item
abbrev pub moved_to : Source (List ℕ) → Option (ℕ × Field) → Option ℕ → Option Statement
moved_to sent item place =
    option_map_or (λ item. cond (is_taken_by item.1.numeric sent) (Some (Move item.0 item.1 sent)) None) item
    (option_and_then (λ i. cond (is_taken_by true sent) (Some (MoveLength i sent)) None) place)

-- TO {name}..
abbrev pub receivers : Names → ℕ × Source (List ℕ) → Rule PlacedStatements
receivers names move = the (codes "TO") ▸ some_of (receiver names move.0 move.1)

abbrev pub stop_statement : Rule Statement
stop_statement = (λ _. StopRun) <$> the (codes "STOP") ▸ the (codes "RUN")

-- {statement}.. .
abbrev pub sentence : Names → Rule PlacedStatements
sentence names = some_of (statement names) ◂ period

-- ---- files

pub lawful_file : (names : Names) → Lawful (file names)
unfolding file
lawful_file names = search steps depth 12

-- ---- OPEN and CLOSE

pub lawful_opened : (names : Names) (mode : OpenMode) → Lawful (name_to_open names mode)
unfolding name_to_open
lawful_opened names mode = search (steps, lawful_file) depth 12

pub lawful_opening : (names : Names) → Lawful (opening names)
unfolding opening
lawful_opening names = search (steps, lawful_opened) depth 16

pub lawful_open : (names : Names) → Lawful (open_statement names)
unfolding open_statement
lawful_open names = search (steps, lawful_file) depth 24

pub lawful_closed : (names : Names) → Lawful (file_to_close names)
unfolding file_to_close
lawful_closed names = search (steps, lawful_file) depth 16

pub lawful_close : (names : Names) → Lawful (close_statement names)
unfolding close_statement
lawful_close names = search (steps, lawful_file) depth 20

-- ---- READ

pub lawful_next : (access : Access) → Lawful (next_phrase access)
lawful_next access = search steps depth 12

pub lawful_key : (names : Names) (u : ℕ) → Lawful (key names u)
unfolding key
lawful_key names u = search steps depth 12

pub lawful_read_operand : (names : Names) (u : ℕ) (sequential : Bool) → Lawful (read_operand names u sequential)
unfolding read_operand
lawful_read_operand names u sequential = search (steps, lawful_key) depth 20

pub read_operands_alike : (names : Names) (u : ℕ) (sequential : Bool) → AreAlike (read_operand names u sequential) (read_operand names u false)
unfolding read_operand key
read_operands_alike names u sequential = record { starts = refl; goes_on = refl; may_be_empty = refl; is_fit = refl }

pub lawful_read_phrases : (names : Names) (u : ℕ) → Lawful (read_phrases names u)
lawful_read_phrases names u =
    lawful_followed false (next_phrase (access_at names u)) (read_operand names u) (lawful_next (access_at names u)) (lawful_read_operand names u) (read_operands_alike names u)

pub read_phrases_alike : (names : Names) (u : ℕ) → AreAlike (read_phrases names u) (read_phrases names 0)
unfolding read_operand key
read_phrases_alike names u = record { starts = refl; goes_on = refl; may_be_empty = refl; is_fit = refl }

pub lawful_read : (names : Names) → Lawful (read_statement names)
unfolding read_statement
lawful_read names =
    lawful_turn _ _ _ (lawful_the _) (lawful_followed 0 (file names) (read_phrases names) (lawful_file names) (lawful_read_phrases names) (read_phrases_alike names))

-- ---- START

pub lawful_relation : Lawful relation
unfolding relation
lawful_relation = search steps depth 24

pub lawful_file_to_start : (names : Names) → Lawful (file_to_start names)
lawful_file_to_start names = search (steps, lawful_file) depth 12

pub lawful_led_key : (names : Names) (u : ℕ) → Lawful (led_key names u)
unfolding led_key
lawful_led_key names u = search steps depth 12

pub lawful_start_operand : (names : Names) (u : ℕ) → Lawful (start_operand names u)
lawful_start_operand names u = search (steps, lawful_relation, lawful_led_key) depth 20

pub start_operands_alike : (names : Names) (u : ℕ) → AreAlike (start_operand names u) (start_operand names 0)
unfolding led_key
start_operands_alike names u = record { starts = refl; goes_on = refl; may_be_empty = refl; is_fit = refl }

pub lawful_start : (names : Names) → Lawful (start_statement names)
unfolding start_statement
lawful_start names =
    lawful_turn _ _ _ (lawful_the _) (lawful_followed 0 (file_to_start names) (start_operand names) (lawful_file_to_start names) (lawful_start_operand names) (start_operands_alike names))

-- ---- WRITE, REWRITE and DELETE

pub lawful_delete : (names : Names) → Lawful (delete_statement names)
lawful_delete names = search (steps, lawful_file) depth 12

-- ---- MOVE

pub lawful_figure : Lawful figure
unfolding figure
lawful_figure = search steps depth 20

pub lawful_source : Lawful source
unfolding source
lawful_source = search (steps, lawful_figure) depth 12

pub lawful_receiver : (names : Names) (line : ℕ) (sent : Source (List ℕ)) → Lawful (receiver names line sent)
unfolding receiver
lawful_receiver names line sent = search steps depth 12

pub lawful_receivers : (names : Names) (move : ℕ × Source (List ℕ)) → Lawful (receivers names move)
lawful_receivers names move = search (steps, lawful_receiver) depth 12

pub receivers_alike : (names : Names) (move : ℕ × Source (List ℕ)) → AreAlike (receivers names move) (receivers names (0, Fill Zero))
unfolding receiver
receivers_alike names move = record { starts = refl; goes_on = refl; may_be_empty = refl; is_fit = refl }

pub lawful_moved_source : Lawful moved_source
unfolding moved_source
lawful_moved_source = search (steps, lawful_source) depth 12

pub lawful_move : (names : Names) → Lawful (move_statement names)
unfolding move_statement
lawful_move names =
    lawful_followed (0, Fill Zero) (with_line moved_source) (receivers names) (lawful_with_line moved_source lawful_moved_source) (lawful_receivers names) (receivers_alike names)

-- ---- STOP

pub lawful_stop : Lawful stop_statement
lawful_stop = search steps depth 12

-- ---- the procedure

pub lawful_one_statement : (names : Names) → Lawful (one_statement names)
unfolding one_statement
lawful_one_statement names = search (steps, lawful_read, lawful_start, lawful_delete, lawful_stop) depth 24

pub lawful_statement : (names : Names) → Lawful (statement names)
unfolding statement
lawful_statement names = search (steps, lawful_open, lawful_close, lawful_move, lawful_one_statement) depth 24

pub lawful_sentence : (names : Names) → Lawful (sentence names)
lawful_sentence names = search (steps, lawful_statement) depth 12

pub lawful_paragraph : Lawful paragraph
unfolding paragraph
lawful_paragraph = search steps depth 12

pub lawful_paragraph_or_sentence : (names : Names) → Lawful (paragraph_or_sentence names)
unfolding paragraph_or_sentence
lawful_paragraph_or_sentence names = search (steps, lawful_paragraph, lawful_sentence) depth 12

pub lawful_procedure : (names : Names) → Lawful (procedure names)
unfolding procedure
lawful_procedure names = search (steps, lawful_statement, lawful_paragraph) depth 20

-- ---- one word of look-ahead

pub procedure_is_fit : (names : Names) → (procedure names).is_fit ≡ true
unfolding procedure paragraph statement one_statement open_statement close_statement file read_statement read_operand key start_statement relation led_key move_statement moved_source source figure receiver the name literal period sign digits is_reserved
procedure_is_fit names = refl

pub sentences_are_fit : (names : Names) → (many (paragraph_or_sentence names)).is_fit ≡ true
unfolding paragraph_or_sentence paragraph statement one_statement open_statement close_statement file read_statement read_operand key start_statement relation led_key move_statement moved_source source figure receiver the name literal period sign digits is_reserved
sentences_are_fit names = refl

pub statements_are_fit : (names : Names) → (many (statement names)).is_fit ≡ true
unfolding statement one_statement open_statement close_statement file read_statement read_operand key start_statement relation led_key move_statement moved_source source figure receiver the name literal sign digits is_reserved
statements_are_fit names = refl

pub openings_are_fit : (names : Names) → (many (opening names)).is_fit ≡ true
unfolding opening name_to_open file the name is_reserved
openings_are_fit names = refl

pub opened_are_fit : (names : Names) (mode : OpenMode) → (many (name_to_open names mode)).is_fit ≡ true
unfolding name_to_open file name
opened_are_fit names mode = refl

pub closed_are_fit : (names : Names) → (many (file_to_close names)).is_fit ≡ true
unfolding file_to_close file the name is_reserved
closed_are_fit names = refl

pub receivers_are_fit : (names : Names) (line : ℕ) (sent : Source (List ℕ)) → (many (receiver names line sent)).is_fit ≡ true
unfolding receiver name
receivers_are_fit names line sent = refl

-- ---- how repeated rules begin

pub opened_starts : (names : Names) (mode : OpenMode) (words : List Word) → begins (name_to_open names mode).starts words ≡ begins (class.names ∷ []) words
unfolding name_to_open file name
opened_starts names mode words = refl

pub closed_starts : (names : Names) (words : List Word) → begins (file_to_close names).starts words ≡ begins (class.names ∷ []) words
unfolding file_to_close file name
closed_starts names words = refl

pub receiver_starts : (names : Names) (line : ℕ) (sent : Source (List ℕ)) (words : List Word) → begins (receiver names line sent).starts words ≡ begins (class.names ∷ []) words
unfolding receiver name
receiver_starts names line sent words = refl

pub open_starts : (names : Names) (words : List Word) → begins (open_statement names).starts words ≡ begins (class.this (codes "OPEN") ∷ []) words
unfolding open_statement the
open_starts names words = refl

pub close_starts : (names : Names) (words : List Word) → begins (close_statement names).starts words ≡ begins (class.this (codes "CLOSE") ∷ []) words
unfolding close_statement the
close_starts names words = refl

pub read_starts : (names : Names) (words : List Word) → begins (read_statement names).starts words ≡ begins (class.this (codes "READ") ∷ []) words
unfolding read_statement the
read_starts names words = refl

pub start_starts : (names : Names) (words : List Word) → begins (start_statement names).starts words ≡ begins (class.this (codes "START") ∷ []) words
unfolding start_statement the
start_starts names words = refl

pub write_starts : (names : Names) (words : List Word) → begins (write_statement names).starts words ≡ begins (class.this (codes "WRITE") ∷ []) words
unfolding the
write_starts names words = refl

pub rewrite_starts : (names : Names) (words : List Word) → begins (rewrite_statement names).starts words ≡ begins (class.this (codes "REWRITE") ∷ []) words
unfolding the
rewrite_starts names words = refl

pub delete_starts : (names : Names) (words : List Word) → begins (delete_statement names).starts words ≡ begins (class.this (codes "DELETE") ∷ []) words
unfolding the
delete_starts names words = refl

pub move_starts : (names : Names) (words : List Word) → begins (move_statement names).starts words ≡ begins (class.this (codes "MOVE") ∷ []) words
unfolding move_statement moved_source the
move_starts names words = refl

or_swap : (a b c d : Bool) → (a || (b || (c || d))) ≡ (a || (c || (b || d)))
or_swap true b c d = refl
or_swap false true true d = refl
or_swap false true false d = refl
or_swap false false c d = refl

-- the words that begin statements, in the order in which they are tried
pub statements_start : (names : Names) (words : List Word) → begins (class.this (codes "OPEN") ∷ class.this (codes "CLOSE") ∷ class.this (codes "READ") ∷ class.this (codes "START") ∷ class.this (codes "WRITE") ∷ class.this (codes "REWRITE") ∷ class.this (codes "DELETE") ∷ class.this (codes "MOVE") ∷ class.this (codes "STOP") ∷ []) words ≡ begins (statement names).starts words
unfolding statement one_statement open_statement close_statement read_statement start_statement move_statement moved_source the
statements_start names words =
    let several = class.this (codes "OPEN") ∷ class.this (codes "CLOSE") ∷ [] in
    let one = class.this (codes "READ") ∷ class.this (codes "START") ∷ class.this (codes "WRITE") ∷ class.this (codes "REWRITE") ∷ class.this (codes "DELETE") ∷ [] in
    let move = class.this (codes "MOVE") ∷ [] in
    let stop = class.this (codes "STOP") ∷ [] in
    let tried = begins-append several (one ++ (move ++ stop)) words ∙ ap (λ v. begins several words || v) (begins-append one (move ++ stop) words ∙ ap (λ v. begins one words || v) (begins-append move stop words)) in
    let ruled = begins-append several (move ++ (one ++ stop)) words ∙ ap (λ v. begins several words || v) (begins-append move (one ++ stop) words ∙ ap (λ v. begins move words || v) (begins-append one stop words)) in
    tried ∙ (or_swap (begins several words) (begins one words) (begins move words) (begins stop words) ∙ sym ruled)

pub paragraph_starts : (words : List Word) → begins paragraph.starts words ≡ begins (class.names ∷ []) words
unfolding paragraph name
paragraph_starts words = refl

pub sentences_start : (names : Names) (words : List Word) → begins (paragraph_or_sentence names).starts words ≡ (begins (class.names ∷ []) words || begins (statement names).starts words)
unfolding paragraph_or_sentence paragraph name
sentences_start names words = begins-append (class.names ∷ []) (statement names).starts words

-- a word that begins a statement is no name
pub no_name_begins : (known : Names) (words : List Word) → begins (statement known).starts words ≡ true → begins (class.names ∷ []) words ≡ false
unfolding statement one_statement open_statement close_statement read_statement start_statement move_statement moved_source the is_reserved
no_name_begins known words e = begins_apart (statement known).starts (class.names ∷ []) words refl e
