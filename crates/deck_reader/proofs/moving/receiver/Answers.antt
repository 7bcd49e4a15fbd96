use Rattle.std.proofs.Common.{◌≡◌, ℕ, true, false, List, Option, Some, None, refl, sym, ap, ◌∙◌}
use Rattle.std.specs.Prelude.{bytes_eq, position, option_and_then}
use Rattle.std.specs.Option.{option_map}
use Rattle.deck_parser.specs.Notation.{name}
use Rattle.deck_parser.specs.Word.{Word}
use Rattle.record_layout.specs.Area.{sent, is_taken_by}
use Rattle.record_layout.specs.declared.area.Source.{Source}
use Rattle.deck_reader.specs.declared.statement.Statement.{Statement}
use Rattle.deck_reader.specs.declared.statement.Statement.TheVariants.{MoveLength}
use Rattle.deck_reader.specs.declared.placed.PlacedStatements.{PlacedStatements}
use Rattle.deck_reader.specs.Placed.{placed_statement, placed_behind}
use Rattle.deck_reader.specs.Names.{Names, item_named}
use Rattle.deck_reader.specs.StatementRules.{receiver}
use Rattle.deck_reader.proofs.ProcedureLemmas.{moved_to}
use Rattle.deck_parser.specs.Rule.{stop_at}
use Rattle.deck_parser.specs.declared.fault.FaultCause.TheVariants.{NotAllowed}
use Rattle.deck_parser.specs.declared.fault.NotAllowed.TheVariants.{Source as SourceRefused}
use Rattle.deck_reader.proofs.JoinLemmas.{refused, told_there}
use Rattle.deck_reader.proofs.moving.receiver.Goals as goal

none_of : {A : Type 0} (o : Option A) → ((x : A) → o ≡ Some x → ⊥) → o ≡ None
none_of None h = refl
none_of (Some x) h = absurd (h x refl)

-- a statement that is read, in its line
placed_each : (moved : Option Statement) (line : ℕ) (rest : List Word) → option_and_then {U = PlacedStatements × List Word} (λ (a : Statement × List Word). Some (placed_statement line a.0, a.1)) (option_map {U = Statement × List Word} (λ y. (y, rest)) moved) ≡ option_map {U = PlacedStatements × List Word} (λ statement. (placed_statement line statement, rest)) moved
placed_each None line rest = refl
placed_each (Some statement) line rest = refl

-- where no item of a file has the name that is read, a length item takes the source
no_item : (names : Names) (line : ℕ) (source : Source (List ℕ)) (text bytes : List ℕ) (place : Option ℕ) (words rest : List Word) → name.reads words ≡ Some (bytes, rest) → item_named names bytes ≡ None → text ≡ bytes → place ≡ position (λ item. bytes_eq item.name text) names.items → (receiver names line source).reads words ≡ option_map {U = PlacedStatements × List Word} (λ statement. (placed_statement line statement, rest)) (moved_to source None place)
unfolding receiver
no_item names line source text bytes place words rest read none same at =
    let here = sym (at ∙ ap (λ t. position (λ item. bytes_eq item.name t) names.items) same) in
    rw (read, none, here) (placed_each (moved_to source None place) line rest)

-- where no length item has it either, the name is none that a MOVE can have there
no_receiver : (names : Names) (line : ℕ) (source : Source (List ℕ)) (text bytes : List ℕ) (words rest : List Word) → name.reads words ≡ Some (bytes, rest) → item_named names bytes ≡ None → text ≡ bytes → position (λ item. bytes_eq item.name text) names.items ≡ None → (receiver names line source).stops words ≡ stop_at words 3
unfolding receiver
no_receiver names line source text bytes words rest read none same at =
    let here = sym (ap (λ t. position (λ item. bytes_eq item.name t) names.items) same) ∙ at in
    rw (read, none, here) refl

-- a length item of the name that does not take the source
not_taken : (names : Names) (line : ℕ) (source : Source (List ℕ)) (text bytes : List ℕ) (i : ℕ) (words rest : List Word) → name.reads words ≡ Some (bytes, rest) → item_named names bytes ≡ None → text ≡ bytes → position (λ item. bytes_eq item.name text) names.items ≡ Some i → is_taken_by true source ≡ false → (receiver names line source).stops words ≡ stop_at words 5
unfolding receiver
not_taken names line source text bytes i words rest read none same at refused =
    let here = sym (ap (λ t. position (λ item. bytes_eq item.name t) names.items) same) ∙ at in
    rw (read, none, here, refused) refl

pub returns-in_default-length_item : goal.returns-in_default-length_item
returns-in_default-length_item c =
    let none = sym c.item.ensures ∙ none_of _ (λ x e. c.in_default.not-Some x e) in
    let nowhere = none_of _ (λ x e. c.in_default-length_item.not-Some x e) in
    let reads = no_item c.args.names.now c.args.places.line (sent c.args.source.now) c.as_str.result.now c.in_ok-name.name.bytes None c.args.parser.now c.name.new.self c.in_ok-name.ensures.reads none c.as_str.ensures.value (sym nowhere ∙ c.length_item.ensures) in
    let stops = no_receiver c.args.names.now c.args.places.line (sent c.args.source.now) c.as_str.result.now c.in_ok-name.name.bytes c.args.parser.now c.name.new.self c.in_ok-name.ensures.reads none c.as_str.ensures.value (sym c.length_item.ensures ∙ nowhere) in
    (refused _ _ (rw reads refl), rw stops (told_there c.args.parser.now c.place-place.result _ c.fault-in_default-length_item.result c.fault-in_default-length_item.ensures.given c.place-place.ensures))

pub returns-then-not-is_numeric : goal.returns-then-not-is_numeric
returns-then-not-is_numeric c =
    let none = sym c.item.ensures ∙ none_of _ (λ x e. c.in_default.not-Some x e) in
    let reads = no_item c.args.names.now c.args.places.line (sent c.args.source.now) c.as_str.result.now c.in_ok-name.name.bytes (Some c.in-Some-length_item.item) c.args.parser.now c.name.new.self c.in_ok-name.ensures.reads none c.as_str.ensures.value (sym c.in-Some-length_item.is ∙ c.length_item.ensures) in
    let refused_source = sym c.is_numeric.ensures ∙ c.if-not-is_numeric.true in
    let stops = not_taken c.args.names.now c.args.places.line (sent c.args.source.now) c.as_str.result.now c.in_ok-name.name.bytes c.in-Some-length_item.item c.args.parser.now c.name.new.self c.in_ok-name.ensures.reads none c.as_str.ensures.value (sym c.length_item.ensures ∙ c.in-Some-length_item.is) refused_source in
    (refused _ _ (rw (reads, refused_source) refl), rw stops (told_there c.args.parser.now c.place-place.result (NotAllowed (SourceRefused c.args.places.source c.digits.result)) c.fault-then-not-is_numeric.result c.fault-then-not-is_numeric.ensures.given c.place-place.ensures))

pub returns : goal.returns
returns c =
    let none = sym c.item.ensures ∙ none_of _ (λ x e. c.in_default.not-Some x e) in
    let reads = no_item c.args.names.now c.args.places.line (sent c.args.source.now) c.as_str.result.now c.in_ok-name.name.bytes (Some c.in-Some-length_item.item) c.args.parser.now c.name.new.self c.in_ok-name.ensures.reads none c.as_str.ensures.value (sym c.in-Some-length_item.is ∙ c.length_item.ensures) in
    let taken = sym c.is_numeric.ensures ∙ c.if-not-is_numeric.false in
    let all = c.in_ok-with-2.ensures ∙ ap (λ (s : Source (List ℕ)). placed_behind c.args.statements (placed_statement c.args.places.line (MoveLength c.in-Some-length_item.item s))) c.in_ok-source-2.ensures in
    (rw (reads, taken) (ap (λ (statements : PlacedStatements). Some (statements, c.name.new.self)) (sym all)), tt)
