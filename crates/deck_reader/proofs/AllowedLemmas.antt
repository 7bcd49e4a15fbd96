-- The statements of a procedure are allowed.
use Rattle.std.proofs.Common.{◌≡◌, ℕ, cond, ◌+◌, ◌<◌, ◌≤◌, ◌==◌, Bool, true, false, not, ◌&&◌, ◌||◌, List, length, Option, Some, None, refl, sym, ap, ◌∙◌, subst, arith}
use Rattle.std.specs.Prelude.{codes, nat_le, bytes_eq, is_some, position, slice_get, option_and_then, All, IsFalse}
use Rattle.std.specs.Option.{option_map, option_map_or}
use Rattle.std.proofs.lemmas.List.Elements.{All-append}
use Rattle.std.proofs.lemmas.Bool.{false≢true}
use Rattle.std.proofs.lemmas.Option.{get_or_from_slice_get, slice_get_within, same_Some}
use Rattle.deck_parser.specs.Rule.{Rule, optional, onto, where_it_gives}
use Rattle.deck_parser.specs.Notation.{the, name, period, may, is_word_there, ◌▸◌, ◌◂◌, ◌⊗◌, ◌∣◌, ◌<$>◌}
use Rattle.deck_parser.proofs.TestLemmas.{both_true, bind_some, map_some, then_some, not_is}
use Rattle.io_state.specs.declared.modes.Access.{Access}
use Rattle.io_state.specs.declared.modes.Access.TheVariants.{Sequential, Random, Dynamic}
use Rattle.io_state.specs.declared.modes.OpenMode.{OpenMode}
use Rattle.io_state.specs.declared.modes.OpenMode.TheVariants.{Input, Output, InputOutput, Extend}
use Rattle.io_state.specs.Permission.{is_sequential, is_random, may_open}
use Rattle.record_layout.specs.declared.item.Field.{Field}
use Rattle.record_layout.specs.declared.schema.KeyPart.{KeyPart}
use Rattle.record_layout.specs.Layout.{Placed, is_named, field_of, length_of, IsRecord}
use Rattle.record_layout.specs.Schema.{AreKeys, IsSchema, key_at, key_of_field, key_led_by, no_key}
use Rattle.record_layout.specs.Area.{is_taken_by}
use Rattle.record_layout.specs.declared.area.Source.{Source}
use Rattle.record_layout.specs.declared.area.Source.TheVariants.{Fill}
use Rattle.record_layout.specs.declared.area.Figure.TheVariants.{Zero}
use Rattle.io_state.specs.declared.modes.Relation.{Relation}
use Rattle.std.proofs.lemmas.Bool.Decides.{nat_tests}
use Rattle.io_state.specs.declared.statement.FileStatement.{FileStatement}
use Rattle.io_state.specs.declared.statement.FileStatement.TheVariants.{Open, Close, ReadNext, Read, Write, Rewrite, Delete}
use Rattle.deck_reader.specs.declared.statement.Statement.{Statement}
use Rattle.deck_reader.specs.declared.statement.Statement.TheVariants.{Perform, Move, MoveLength, StopRun}
use Rattle.file_control.specs.Description.{FileDesc}
use Rattle.file_control.specs.Described.{IsDescribedFile, AreDescribed}
use Rattle.deck_reader.specs.Allowed.{IsAllowedOn, IsAllowed}
use Rattle.deck_parser.specs.Following.{followed, where_allowed}
use Rattle.deck_parser.specs.Located.{with_line}
use Rattle.deck_reader.specs.Placed.{nothing_placed, placed_statement, placed_paragraph, placed_behind}
use Rattle.deck_reader.specs.declared.placed.PlacedStatements.{PlacedStatements}
use Rattle.deck_reader.specs.Names.{Names, item_in, item_named, access_at, prime_length, key_by_item, led_key_by_item}
use Rattle.deck_reader.specs.Procedure.{one_statement, statement, paragraph, procedure}
use Rattle.deck_reader.specs.StatementRules.{joined_statements, some_of, in_its_line, file, open_statement, close_statement, key, next_phrase, read_operand, read_statement, relation, led_key, start_by, file_to_start, start_phrase, start_operand, start_statement, source, receiver, moved_source, move_statement}
use Rattle.deck_reader.specs.Parts.{record_named, write_statement, rewrite_statement, delete_statement, name_to_open, opening, file_to_close, paragraph_or_sentence}
use Rattle.deck_reader.proofs.ProcedureLemmas.{read_phrases, moved_to, receivers, stop_statement, sentence}
use Rattle.deck_reader.proofs.GivesLemmas.{Gives, gives_with_line, gives_second, gives_first, gives_pair, gives_either, gives_as, gives_one, gives_followed, IfThere, gives_optional, joined_all, gives_some, found, all_at, one_all, field_found, keys_there}
use Rattle.deck_reader.proofs.SourceLemmas.{HasDigits, gives_source, taken_is_number}

-- by this key, or by the prime key where no KEY phrase stands
abbrev read_by : Bool → Option ℕ → FileStatement
read_by sequential k = option_map_or (λ k. Read k) k (cond sequential ReadNext (Read 0))

-- the place of the 77-level item of this name
abbrev length_item_of : Names → List ℕ → Option ℕ
length_item_of names name = position (λ item. bytes_eq item.name name) names.items

-- [[WITH] LOCK]
abbrev lock : Rule Bool
lock = is_word_there <$> optional (may (codes "WITH") ▸ the (codes "LOCK"))

-- the key that the file's item of this name is
abbrev key_named : Names → ℕ → List ℕ → Option ℕ
key_named names u name = option_and_then (key_by_item names u) (item_in names u name)

-- the key that the file's item of this name leads, and the item's length
abbrev led_key_named : Names → ℕ → List ℕ → Option (ℕ × ℕ)
led_key_named names u name = option_and_then (led_key_by_item names u) (item_in names u name)

-- the MOVE to the item of this name
abbrev pub moved_to_named : Names → Source (List ℕ) → List ℕ → Option Statement
moved_to_named names sent name = moved_to sent (item_named names name) (length_item_of names name)

-- ---- the file of a place

abbrev pub IsFileOf : Names → ℕ → Type 0
IsFileOf names u = (known : FileDesc) × (slice_get names.files u ≡ Some known)

pub gives_file : (names : Names) → Gives (IsFileOf names) (file names)
unfolding file
gives_file names = gives_as (λ _. Unit {0}) (IsFileOf names) (λ text. position (λ known. bytes_eq known.name text) names.files) name (λ _ _ _ _. tt) (λ text u _ e. let f = found (λ known. bytes_eq known.name text) names.files u e in (f.0, f.1))

pub gives_record_name : (names : Names) → Gives (IsFileOf names) (record_named names)
unfolding record_named
gives_record_name names = gives_as (λ _. Unit {0}) (IsFileOf names) (λ text. position (λ known. is_named text known.entry) names.files) name (λ _ _ _ _. tt) (λ text u _ e. let f = found (λ known. is_named text known.entry) names.files u e in (f.0, f.1))

-- all of these statements are allowed
abbrev pub AreAllowed : Names → PlacedStatements → Type 0
AreAllowed names placed = All (IsAllowed names) placed.statements

nothing_all : (names : Names) → AreAllowed names nothing_placed
nothing_all names i d within = absurd (omega (arith, within))

join_all : (names : Names) (before after : PlacedStatements) → AreAllowed names before → AreAllowed names after → AreAllowed names (placed_behind before after)
join_all names before after all more = All-append (IsAllowed names) before.statements after.statements all more

some_all : (names : Names) (p : Rule PlacedStatements) → Gives (AreAllowed names) p → Gives (AreAllowed names) (some_of p)
some_all names p h = gives_some (AreAllowed names) (nothing_all names) (join_all names) p h

-- an allowed statement, in its line
pub gives_placed : (names : Names) (p : Rule Statement) → Gives (IsAllowed names) p → Gives (AreAllowed names) (in_its_line p)
gives_placed names p h =
    gives_one (λ (s : ℕ × Statement). IsAllowed names s.1) (AreAllowed names) (λ (s : ℕ × Statement). placed_statement s.0 s.1) (with_line p) (gives_with_line (IsAllowed names) p h) (λ s a. one_all (IsAllowed names) s.1 a)

access_is : (names : Names) (u : ℕ) (known : FileDesc) → slice_get names.files u ≡ Some known → access_at names u ≡ known.access
access_is names u known e = ap (λ o. option_map_or (λ file. file.access) o Sequential) e

-- ---- OPEN and CLOSE

open_allowed : (names : Names) (mode : OpenMode) (u : ℕ) (statement : Statement) → IsFileOf names u → cond (may_open (access_at names u) mode) (Some (Perform u (Open mode))) None ≡ Some statement → IsAllowed names statement
open_allowed names mode u statement f e =
    let t = then_some (may_open (access_at names u) mode) (Some (Perform u (Open mode))) statement e in
    subst (IsAllowed names) (same_Some (Perform u (Open mode)) statement t.1)
    (f.0, f.1, subst (λ access. may_open access mode ≡ true) (access_is names u f.0 f.1) t.0)

pub gives_opened : (names : Names) (mode : OpenMode) → Gives (AreAllowed names) (name_to_open names mode)
unfolding name_to_open
gives_opened names mode =
    let test = λ (u : ℕ). cond (may_open (access_at names u) mode) (Some (Perform u (Open mode))) None in
    gives_placed names (where_it_gives test (file names)) (gives_as (IsFileOf names) (IsAllowed names) test (file names) (gives_file names) (open_allowed names mode))

opened_all : (names : Names) (text : List ℕ) (mode : OpenMode) → Gives (AreAllowed names) (the text ▸ some_of (name_to_open names mode))
opened_all names text mode =
    gives_second (AreAllowed names) (the text) (some_of (name_to_open names mode)) (some_all names (name_to_open names mode) (gives_opened names mode))

pub gives_opening : (names : Names) → Gives (AreAllowed names) (opening names)
unfolding opening
gives_opening names =
    let P = AreAllowed names in
    let input = the (codes "INPUT") ▸ some_of (name_to_open names Input) in
    let output = the (codes "OUTPUT") ▸ some_of (name_to_open names Output) in
    let update = the (codes "I-O") ▸ some_of (name_to_open names InputOutput) in
    let extend = the (codes "EXTEND") ▸ some_of (name_to_open names Extend) in
    gives_either P input (output ∣ update ∣ extend) (opened_all names (codes "INPUT") Input)
    (gives_either P output (update ∣ extend) (opened_all names (codes "OUTPUT") Output)
    (gives_either P update extend (opened_all names (codes "I-O") InputOutput) (opened_all names (codes "EXTEND") Extend)))

pub gives_open : (names : Names) → Gives (AreAllowed names) (open_statement names)
unfolding open_statement opening name_to_open
gives_open names =
    gives_second (AreAllowed names) (the (codes "OPEN")) (some_of (opening names)) (some_all names (opening names) (gives_opening names))

pub gives_closed : (names : Names) → Gives (AreAllowed names) (file_to_close names)
unfolding file_to_close
gives_closed names =
    gives_placed names ((λ c. Perform c.0 (Close c.1)) <$> file names ⊗ lock)
    (gives_one (λ (c : ℕ × Bool). IsFileOf names c.0 × Unit {0}) (IsAllowed names) (λ (c : ℕ × Bool). Perform c.0 (Close c.1)) (file names ⊗ lock)
    (gives_pair (IsFileOf names) (λ _. Unit {0}) (file names) lock (gives_file names) (λ _ _ _ _. tt)) (λ c p. (p.0.0, p.0.1, tt)))

pub gives_close : (names : Names) → Gives (AreAllowed names) (close_statement names)
unfolding close_statement file_to_close
gives_close names =
    gives_second (AreAllowed names) (the (codes "CLOSE")) (some_of (file_to_close names)) (some_all names (file_to_close names) (gives_closed names))

-- ---- WRITE, REWRITE, DELETE and STOP

pub gives_write : (names : Names) → Gives (IsAllowed names) (write_statement names)
gives_write names =
    gives_one (IsFileOf names) (IsAllowed names) (λ u. Perform u Write) (the (codes "WRITE") ▸ record_named names)
    (gives_second (IsFileOf names) (the (codes "WRITE")) (record_named names) (gives_record_name names)) (λ u p. (p.0, p.1, tt))

pub gives_rewrite : (names : Names) → Gives (IsAllowed names) (rewrite_statement names)
gives_rewrite names =
    gives_one (IsFileOf names) (IsAllowed names) (λ u. Perform u Rewrite) (the (codes "REWRITE") ▸ record_named names)
    (gives_second (IsFileOf names) (the (codes "REWRITE")) (record_named names) (gives_record_name names)) (λ u p. (p.0, p.1, tt))

pub gives_delete : (names : Names) → Gives (IsAllowed names) (delete_statement names)
gives_delete names =
    gives_one (IsFileOf names) (IsAllowed names) (λ u. Perform u Delete) (the (codes "DELETE") ▸ file names ◂ may (codes "RECORD"))
    (gives_second (IsFileOf names) (the (codes "DELETE")) (file names ◂ may (codes "RECORD"))
    (gives_first (IsFileOf names) (file names) (may (codes "RECORD")) (gives_file names))) (λ u p. (p.0, p.1, tt))

pub gives_stop : (names : Names) → Gives (IsAllowed names) stop_statement
gives_stop names = gives_one (λ _. Unit {0}) (IsAllowed names) (λ _. StopRun) (the (codes "STOP") ▸ the (codes "RUN")) (λ _ _ _ _. tt) (λ _ _. tt)

-- ---- READ

-- what a READ that is sequential, or not, asks of the access mode
abbrev pub IsWay : Access → Bool → Type 0
IsWay access true = IsFalse (is_random access)
IsWay access false = IsFalse (is_sequential access)

way_of : (access : Access) (n : Option (Unit {0})) → IfThere (λ _. not (is_random access) ≡ true) n → IsWay access (is_sequential access || is_word_there n)
way_of Sequential n h = refl
way_of Random None h = refl
way_of Random (Some _) h = absurd (false≢true h)
way_of Dynamic None h = refl
way_of Dynamic (Some _) h = refl

pub gives_next : (access : Access) → Gives (IsWay access) (next_phrase access)
gives_next access =
    let word = where_allowed (not (is_random access)) (the (codes "NEXT")) in
    gives_as (IfThere (λ _. not (is_random access) ≡ true)) (IsWay access) (λ n. Some (is_sequential access || is_word_there n)) (optional word)
    (gives_optional (λ _. not (is_random access) ≡ true) word
    (gives_as (λ _. Unit {0}) (λ _. not (is_random access) ≡ true) (λ x. cond (not (is_random access)) (Some x) None) (the (codes "NEXT")) (λ _ _ _ _. tt)
    (λ x y _ e. (then_some (not (is_random access)) (Some x) y e).0)))
    (λ n y h e. subst (IsWay access) (same_Some (is_sequential access || is_word_there n) y e) (way_of access n h))

module _ (names : Names) (u : ℕ) (known : FileDesc) (at : slice_get names.files u ≡ Some known) where
  item_in_is : (text : List ℕ) → item_in names u text ≡ field_of known.layout text
  item_in_is text = ap (λ o. option_and_then (λ file. field_of file.layout text) o) at

  key_of_is : (field : Field) → key_by_item names u field ≡ key_of_field known.schema field
  key_of_is field = ap (λ o. option_and_then (λ file. key_of_field file.schema field) o) at

  pub gives_key : Gives (λ k. k < length known.schema.keys) (key names u)
  unfolding key
  gives_key = gives_as (λ _. Unit {0}) (λ k. k < length known.schema.keys) (key_named names u) name (λ _ _ _ _. tt) (λ text k _ e.
      let a = bind_some (key_by_item names u) (item_in names u text) k e in
      let f = found (λ part. (part.offset == a.0.offset) && (part.length == a.0.length)) known.schema.keys k (sym (key_of_is a.0) ∙ a.2) in
      slice_get_within known.schema.keys k f.0 f.1)

  -- [KEY [IS] name], where the READ is not sequential
  abbrev key_phrase : Bool → Rule (Option ℕ)
  key_phrase sequential = optional (where_allowed (not sequential) (the (codes "KEY")) ▸ may (codes "IS") ▸ key names u)

  pub gives_key_phrase : (sequential : Bool) → Gives (IfThere (λ k. (sequential ≡ false) × (k < length known.schema.keys))) (key_phrase sequential)
  gives_key_phrase sequential =
      let Q = λ (k : ℕ). (sequential ≡ false) × (k < length known.schema.keys) in
      let word = where_allowed (not sequential) (the (codes "KEY")) in
      let rest = may (codes "IS") ▸ key names u in
      gives_optional Q (word ▸ rest) (λ k words after s. (
        not_is sequential (then_some (not sequential) (Some s.4.0) s.0 s.4.1).0,
        gives_second (λ k. k < length known.schema.keys) word rest (gives_second (λ k. k < length known.schema.keys) (may (codes "IS")) (key names u) gives_key) k words after s,
      ))

  read_allowed : AreKeys known.schema.keys → (sequential : Bool) (k : Option ℕ) → IsWay known.access sequential → IfThere (λ k. (sequential ≡ false) × (k < length known.schema.keys)) k → IsAllowedOn known (read_by sequential k)
  read_allowed keys true None way h = way
  read_allowed keys false None way h = (way, keys_there known.schema.keys keys)
  read_allowed keys true (Some k) way h = absurd (false≢true (sym h.0))
  read_allowed keys false (Some k) way h = (way, h.1)

  pub gives_read_operand : AreKeys known.schema.keys → (sequential : Bool) → IsWay known.access sequential → Gives (IsAllowed names) (read_operand names u sequential)
  unfolding read_operand
  gives_read_operand keys sequential way =
      let Q = IfThere (λ (k : ℕ). (sequential ≡ false) × (k < length known.schema.keys)) in
      gives_one Q (IsAllowed names) (λ k. Perform u (read_by sequential k)) (may (codes "RECORD") ▸ key_phrase sequential)
      (gives_second Q (may (codes "RECORD")) (key_phrase sequential) (gives_key_phrase sequential))
      (λ k h. (known, at, read_allowed keys sequential k way h))

  pub gives_read_phrases : AreKeys known.schema.keys → Gives (IsAllowed names) (read_phrases names u)
  gives_read_phrases keys =
      gives_followed (IsWay (access_at names u)) (IsAllowed names) false (next_phrase (access_at names u)) (read_operand names u) (gives_next (access_at names u))
      (λ sequential way. gives_read_operand keys sequential (subst (λ access. IsWay access sequential) (access_is names u known at) way))

keys_of : (names : Names) → AreDescribed names.files names.items → (u : ℕ) (known : FileDesc) → slice_get names.files u ≡ Some known → IsSchema known.schema
keys_of names described u known at = (all_at (IsDescribedFile (length names.items)) names.files u known described.files_are at).schema

pub gives_read : (names : Names) → AreDescribed names.files names.items → Gives (IsAllowed names) (read_statement names)
unfolding read_statement
gives_read names described =
    gives_second (IsAllowed names) (the (codes "READ")) (followed 0 (file names) (read_phrases names))
    (gives_followed (IsFileOf names) (IsAllowed names) 0 (file names) (read_phrases names) (gives_file names)
    (λ u f. gives_read_phrases names u f.0 f.1 (keys_of names described u f.0 f.1).keys))

-- ---- START

not_random : (b : Bool) (u v : ℕ) → cond b None (Some u) ≡ Some v → (b ≡ false) × (u ≡ v)
not_random true u v e = absurd (cc)
not_random false u v e = (refl, same_Some u v e)

pub gives_file_to_start : (names : Names) → Gives (λ u. (known : FileDesc) × (slice_get names.files u ≡ Some known) × IsFalse (is_random known.access)) (file_to_start names)
gives_file_to_start names =
    gives_as (IsFileOf names) (λ u. (known : FileDesc) × (slice_get names.files u ≡ Some known) × IsFalse (is_random known.access)) (λ u. cond (is_random (access_at names u)) None (Some u)) (file names) (gives_file names) (λ u v f e.
    let b = not_random (is_random (access_at names u)) u v e in
    (f.0, subst (λ u. slice_get names.files u ≡ Some f.0) b.1 f.1, subst (λ access. is_random access ≡ false) (access_is names u f.0 f.1) b.0))

at_most : (a b : ℕ) → nat_le a b ≡ true → a ≤ b
at_most a b e = grind (arith, nat_tests)

-- what is true of an item of a record
item_fits : (layout : List Placed) → IsRecord layout → (text : List ℕ) (field : Field) → field_of layout text ≡ Some field → (1 ≤ field.length) × (field.offset + field.length ≤ length_of layout)
item_fits layout described text field e =
    let f = field_found layout text field e in
    subst (λ (field : Field). (1 ≤ field.length) × (field.offset + field.length ≤ length_of layout)) f.3
    (all_at (λ item. (1 ≤ item.field.length) × (item.field.offset + item.field.length ≤ length_of layout)) layout f.1 f.0 described.within f.2)

abbrev pub IsLed : FileDesc → ℕ → ℕ → Type 0
IsLed known k n = (k < length known.schema.keys) × (1 ≤ n) × (n ≤ (key_at known.schema k).length)

module _ (names : Names) (u : ℕ) (known : FileDesc) (at : slice_get names.files u ≡ Some known) where
  led_key_is : (field : Field) → led_key_by_item names u field ≡ option_map {U = ℕ × ℕ} (λ k. (k, field.length)) (key_led_by known.schema field)
  led_key_is field = ap (λ o. option_and_then (λ file. option_map {U = ℕ × ℕ} (λ k. (k, field.length)) (key_led_by file.schema field)) o) at

  led_of : IsRecord known.layout → (text : List ℕ) (led : ℕ × ℕ) → led_key_named names u text ≡ Some led → IsLed known led.0 led.1
  led_of described text led e =
      let a = bind_some (led_key_by_item names u) (item_in names u text) led e in
      let b = map_some (λ k. (k, a.0.length)) (key_led_by known.schema a.0) led (sym (led_key_is a.0) ∙ a.2) in
      let f = found (λ part. (part.offset == a.0.offset) && nat_le a.0.length part.length) known.schema.keys b.0 b.1 in
      let test = (both_true (f.0.offset == a.0.offset) (nat_le a.0.length f.0.length) f.2).1 in
      let part = get_or_from_slice_get known.schema.keys b.0 f.0 no_key f.1 in
      subst (λ (led : ℕ × ℕ). IsLed known led.0 led.1) b.2
      (slice_get_within known.schema.keys b.0 f.0 f.1, (item_fits known.layout described text a.0 (sym (item_in_is names u known at text) ∙ a.1)).0, subst (λ (part : KeyPart). a.0.length ≤ part.length) (sym part) (at_most a.0.length f.0.length test))

  pub gives_led_key : IsRecord known.layout → Gives (λ led. IsLed known led.0 led.1) (led_key names u)
  unfolding led_key
  gives_led_key described = gives_as (λ _. Unit {0}) (λ led. IsLed known led.0 led.1) (led_key_named names u) name (λ _ _ _ _. tt) (λ text led _ e. led_of described text led e)

  pub gives_start_phrase : IsRecord known.layout → Gives (IfThere (λ operand. IsLed known operand.1.0 operand.1.1)) (start_phrase names u)
  gives_start_phrase described =
      let Q = λ (operand : Relation × (ℕ × ℕ)). IsLed known operand.1.0 operand.1.1 in
      let pair = relation ⊗ led_key names u in
      gives_optional Q (the (codes "KEY") ▸ may (codes "IS") ▸ pair)
      (gives_second Q (the (codes "KEY")) (may (codes "IS") ▸ pair) (gives_second Q (may (codes "IS")) pair
      (λ z words rest s. (gives_pair (λ _. Unit {0}) (λ led. IsLed known led.0 led.1) relation (led_key names u) (λ _ _ _ _. tt) (gives_led_key described) z words rest s).1)))

  prime_led : IsSchema known.schema → IsLed known 0 (prime_length names u)
  prime_led described =
      let there = keys_there known.schema.keys described.keys in
      let length_is : prime_length names u ≡ (key_at known.schema 0).length = ap (λ o. option_map_or (λ file. (key_at file.schema 0).length) o 0) at in
      (there, subst (λ n. 1 ≤ n) (sym length_is) (described.whole 0 no_key there).some, omega (arith, length_is))

  start_allowed : IsSchema known.schema → IsFalse (is_random known.access) → (operand : Option (Relation × (ℕ × ℕ))) → IfThere (λ operand. IsLed known operand.1.0 operand.1.1) operand → IsAllowedOn known (start_by names u operand)
  start_allowed described way None h = let p = prime_led described in (way, p.0, p.1, p.2)
  start_allowed described way (Some operand) h = (way, h.0, h.1, h.2)

  pub gives_start_operand : IsRecord known.layout → IsSchema known.schema → IsFalse (is_random known.access) → Gives (IsAllowed names) (start_operand names u)
  gives_start_operand record_is schema_is way =
      gives_one (IfThere (λ operand. IsLed known operand.1.0 operand.1.1)) (IsAllowed names) (λ operand. Perform u (start_by names u operand)) (start_phrase names u) (gives_start_phrase record_is)
      (λ operand h. (known, at, start_allowed schema_is way operand h))

pub gives_start : (names : Names) → AreDescribed names.files names.items → Gives (IsAllowed names) (start_statement names)
unfolding start_statement
gives_start names described =
    gives_second (IsAllowed names) (the (codes "START")) (followed 0 (file_to_start names) (start_operand names))
    (gives_followed (λ u. (known : FileDesc) × (slice_get names.files u ≡ Some known) × IsFalse (is_random known.access)) (IsAllowed names) 0 (file_to_start names) (start_operand names) (gives_file_to_start names)
    (λ u f. let d = all_at (IsDescribedFile (length names.items)) names.files u f.0 described.files_are f.1 in gives_start_operand names u f.0 f.1 d.layout d.schema f.2))

-- ---- MOVE

move_allowed : (names : Names) → AreDescribed names.files names.items → (sent : Source (List ℕ)) → HasDigits sent → (text : List ℕ) (item : Option (ℕ × Field)) (place : Option ℕ) (statement : Statement) → item_named names text ≡ item → length_item_of names text ≡ place → moved_to sent item place ≡ Some statement → IsAllowed names statement
move_allowed names described sent numeral text (Some item) place statement e p m =
    let t = then_some (is_taken_by item.1.numeric sent) (Some (Move item.0 item.1 sent)) statement m in
    let a = bind_some (λ u. option_map {U = ℕ × Field} (λ field. (u, field)) (item_in names u text)) (position (λ known. is_some (field_of known.layout text)) names.files) item e in
    let b = map_some (λ field. (a.0, field)) (item_in names a.0 text) item a.2 in
    let f = found (λ known. is_some (field_of known.layout text)) names.files a.0 a.1 in
    let d = all_at (IsDescribedFile (length names.items)) names.files a.0 f.0 described.files_are f.1 in
    let fits = item_fits f.0.layout d.layout text b.0 (sym (item_in_is names a.0 f.0 f.1 text) ∙ b.1) in
    let at : slice_get names.files item.0 ≡ Some f.0 = subst (λ (item : ℕ × Field). slice_get names.files item.0 ≡ Some f.0) b.2 f.1 in
    let within : item.1.offset + item.1.length ≤ length_of f.0.layout = subst (λ (item : ℕ × Field). item.1.offset + item.1.length ≤ length_of f.0.layout) b.2 fits.1 in
    subst (IsAllowed names) (same_Some (Move item.0 item.1 sent) statement t.1) (f.0, at, within, t.0)
move_allowed names described sent numeral text None (Some i) statement e p m =
    let t = then_some (is_taken_by true sent) (Some (MoveLength i sent)) statement m in
    let f = found (λ item. bytes_eq item.name text) names.items i p in
    subst (IsAllowed names) (same_Some (MoveLength i sent) statement t.1) (slice_get_within names.items i f.0 f.1, taken_is_number sent numeral t.0)
move_allowed names described sent numeral text None None statement e p m = absurd (cc)

pub gives_receiver : (names : Names) → AreDescribed names.files names.items → (line : ℕ) (sent : Source (List ℕ)) → HasDigits sent → Gives (AreAllowed names) (receiver names line sent)
unfolding receiver
gives_receiver names described line sent numeral =
    gives_one (IsAllowed names) (AreAllowed names) (placed_statement line) (where_it_gives (moved_to_named names sent) name)
    (gives_as (λ _. Unit {0}) (IsAllowed names) (moved_to_named names sent) name (λ _ _ _ _. tt)
    (λ text statement _ e. move_allowed names described sent numeral text (item_named names text) (length_item_of names text) statement refl refl e))
    (λ statement a. one_all (IsAllowed names) statement a)

pub gives_receivers : (names : Names) → AreDescribed names.files names.items → (move : ℕ × Source (List ℕ)) → HasDigits move.1 → Gives (AreAllowed names) (receivers names move)
gives_receivers names described move numeral =
    gives_second (AreAllowed names) (the (codes "TO")) (some_of (receiver names move.0 move.1)) (some_all names (receiver names move.0 move.1) (gives_receiver names described move.0 move.1 numeral))

gives_moved_source : Gives HasDigits moved_source
unfolding moved_source
gives_moved_source = gives_second HasDigits (the (codes "MOVE")) source gives_source

pub gives_move : (names : Names) → AreDescribed names.files names.items → Gives (AreAllowed names) (move_statement names)
unfolding move_statement
gives_move names described =
    gives_followed (λ (move : ℕ × Source (List ℕ)). HasDigits move.1) (AreAllowed names) (0, Fill Zero) (with_line moved_source) (receivers names) (gives_with_line HasDigits moved_source gives_moved_source) (gives_receivers names described)

-- ---- the procedure

pub gives_one_statement : (names : Names) → AreDescribed names.files names.items → Gives (IsAllowed names) (one_statement names)
unfolding one_statement record_named
gives_one_statement names described =
    let P = IsAllowed names in
    let five = delete_statement names ∣ stop_statement in
    let four = rewrite_statement names ∣ five in
    let three = write_statement names ∣ four in
    let two = start_statement names ∣ three in
    gives_either P (read_statement names) two (gives_read names described)
    (gives_either P (start_statement names) three (gives_start names described)
    (gives_either P (write_statement names) four (gives_write names)
    (gives_either P (rewrite_statement names) five (gives_rewrite names)
    (gives_either P (delete_statement names) stop_statement (gives_delete names) (gives_stop names)))))

pub gives_statement : (names : Names) → AreDescribed names.files names.items → Gives (AreAllowed names) (statement names)
unfolding statement
gives_statement names described =
    let P = AreAllowed names in
    let last = in_its_line (one_statement names) in
    gives_either P (open_statement names) (close_statement names ∣ move_statement names ∣ last) (gives_open names)
    (gives_either P (close_statement names) (move_statement names ∣ last) (gives_close names)
    (gives_either P (move_statement names) last (gives_move names described) (gives_placed names (one_statement names) (gives_one_statement names described))))

pub gives_sentence : (names : Names) → AreDescribed names.files names.items → Gives (AreAllowed names) (sentence names)
gives_sentence names described =
    gives_first (AreAllowed names) (some_of (statement names)) period (some_all names (statement names) (gives_statement names described))

pub gives_paragraph : (names : Names) → Gives (AreAllowed names) paragraph
unfolding paragraph
gives_paragraph names =
    gives_one (λ _. Unit {0}) (AreAllowed names) (λ (p : ℕ × List ℕ). placed_paragraph p.0 p.1) (with_line (name ◂ period)) (λ _ _ _ _. tt) (λ _ _. nothing_all names)

pub gives_turn : (names : Names) → AreDescribed names.files names.items → Gives (AreAllowed names) (paragraph_or_sentence names)
unfolding paragraph_or_sentence
gives_turn names described =
    gives_either (AreAllowed names) paragraph (sentence names) (gives_paragraph names) (gives_sentence names described)

-- every statement of a procedure is allowed
pub all_allowed : (names : Names) → AreDescribed names.files names.items → Gives (AreAllowed names) (procedure names)
unfolding procedure paragraph_or_sentence
all_allowed names described =
    let P = AreAllowed names in
    let turns = onto joined_statements nothing_placed (paragraph_or_sentence names) in
    gives_second P (the (codes "PROCEDURE")) (the (codes "DIVISION") ▸ period ▸ turns)
    (gives_second P (the (codes "DIVISION")) (period ▸ turns)
    (gives_second P period turns (λ statements words rest s.
    joined_all P (nothing_all names) (join_all names) (paragraph_or_sentence names) (gives_turn names described) nothing_placed statements s.0 words rest (nothing_all names) s.1)))
