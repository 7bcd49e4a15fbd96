use Rattle.std.proofs.Common.{◌≡◌, false, List, ◌∷◌, [], refl, sym, ◌∙◌}
use Rattle.std.specs.Prelude.{codes}
use Rattle.deck_parser.specs.Class.{begins, this}
use Rattle.deck_parser.specs.Notation.{the, ◌∣◌}
use Rattle.deck_parser.specs.Word.{Word}
use Rattle.deck_entries.specs.declared.clauses.DescriptionClauses.{DescriptionClauses}
use Rattle.deck_entries.specs.FileDescription.{label, block, record_clause, description_clause}
use Rattle.deck_parser.proofs.EitherLemmas.{Alike, first, other, chained, alike}
use Rattle.deck_entries.proofs.clauses.clause.Goals as goal

label_starts : (said : DescriptionClauses) (words : List Word) → begins (label said).starts words ≡ begins (this (codes "LABEL") ∷ []) words
unfolding label the
label_starts said words = refl

block_starts : (said : DescriptionClauses) (words : List Word) → begins (block said).starts words ≡ begins (this (codes "BLOCK") ∷ []) words
unfolding block the
block_starts said words = refl

-- the words do not begin the clauses before
past_label : (said : DescriptionClauses) (words : List Word) → begins (this (codes "LABEL") ∷ []) words ≡ false → Alike (description_clause said) (block said ∣ record_clause said) words
unfolding description_clause
past_label said words e1 = other (label said) (block said ∣ record_clause said) words (label_starts said words ∙ e1)

past_block : (said : DescriptionClauses) (words : List Word) → begins (this (codes "LABEL") ∷ []) words ≡ false → begins (this (codes "BLOCK") ∷ []) words ≡ false → Alike (description_clause said) (record_clause said) words
past_block said words e1 e2 = chained (past_label said words e1) (other (block said) (record_clause said) words (block_starts said words ∙ e2))

pub returns-then-sees : goal.returns-then-sees
unfolding description_clause
returns-then-sees c =
    let said = c.args.clauses in
    let words = c.args.parser.now in
    alike (description_clause said) (label said) words c.label.result c.label.new.parser
    (first (label said) (block said ∣ record_clause said) words (label_starts said words ∙ (sym c.sees.ensures ∙ c.if-sees.true))) c.label.ensures

pub returns-then-sees-2 : goal.returns-then-sees-2
returns-then-sees-2 c =
    let said = c.args.clauses in
    let words = c.args.parser.now in
    alike (description_clause said) (block said) words c.block.result c.block.new.parser
    (chained (past_label said words (sym c.sees.ensures ∙ c.if-sees.false)) (first (block said) (record_clause said) words (block_starts said words ∙ (sym c.sees-2.ensures ∙ c.if-sees-2.true)))) c.block.ensures

pub returns : goal.returns
returns c =
    let said = c.args.clauses in
    let words = c.args.parser.now in
    alike (description_clause said) (record_clause said) words c.record_clause.result c.record_clause.new.parser
    (past_block said words (sym c.sees.ensures ∙ c.if-sees.false) (sym c.sees-2.ensures ∙ c.if-sees-2.false)) c.record_clause.ensures
