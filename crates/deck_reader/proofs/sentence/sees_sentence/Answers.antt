use Rattle.std.proofs.Common.{◌≡◌, ◌||◌, ◌∙◌, sym, ap, [], ◌∷◌, Bool, true, false, refl}
use Rattle.deck_parser.specs.Class.{begins, names}
use Rattle.deck_reader.proofs.ProcedureLemmas.{sentences_start}
use Rattle.deck_reader.proofs.sentence.sees_sentence.Goals as goal

or_true : (b : Bool) → (b || true) ≡ true
or_true true = refl
or_true false = refl

or_false : (b : Bool) → (b || false) ≡ b
or_false true = refl
or_false false = refl

pub returns-then-sees_statement : goal.returns-then-sees_statement
returns-then-sees_statement c = λ known.
    let named = begins (names ∷ []) c.args.parser.now in
    c.if-sees_statement.true
    ∙ sym (sentences_start known c.args.parser.now ∙ ap (λ v. named || v) (sym (c.sees_statement.ensures known) ∙ c.if-sees_statement.true) ∙ or_true named)

pub returns-else-sees_statement : goal.returns-else-sees_statement
returns-else-sees_statement c = λ known.
    let named = begins (names ∷ []) c.args.parser.now in
    c.sees_name.ensures
    ∙ sym (sentences_start known c.args.parser.now ∙ ap (λ v. named || v) (sym (c.sees_statement.ensures known) ∙ c.if-sees_statement.false) ∙ or_false named)
