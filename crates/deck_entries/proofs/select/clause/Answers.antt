use Rattle.std.proofs.Common.{◌≡◌, false, List, ◌∷◌, [], refl, sym, ◌∙◌}
use Rattle.std.specs.Prelude.{codes}
use Rattle.deck_parser.specs.Class.{begins, this}
use Rattle.deck_parser.specs.Rule.{Rule}
use Rattle.deck_parser.specs.Notation.{the, ◌∣◌}
use Rattle.deck_parser.specs.Word.{Word}
use Rattle.deck_entries.specs.FileControlEntry.{EntryClauses, indexed, access, record_key, alternate, status, clause}
use Rattle.deck_parser.proofs.EitherLemmas.{Alike, first, other, chained, alike}
use Rattle.deck_entries.proofs.select.clause.Goals as goal

-- ---- how the clauses begin

indexed_starts : (said : EntryClauses) (words : List Word) → begins (indexed said).starts words ≡ begins (this (codes "ORGANIZATION") ∷ this (codes "INDEXED") ∷ []) words
unfolding indexed the
indexed_starts said words = refl

access_starts : (said : EntryClauses) (words : List Word) → begins (access said).starts words ≡ begins (this (codes "ACCESS") ∷ []) words
unfolding access the
access_starts said words = refl

record_key_starts : (said : EntryClauses) (words : List Word) → begins (record_key said).starts words ≡ begins (this (codes "RECORD") ∷ []) words
unfolding record_key the
record_key_starts said words = refl

alternate_starts : (said : EntryClauses) (words : List Word) → begins (alternate said).starts words ≡ begins (this (codes "ALTERNATE") ∷ []) words
unfolding alternate the
alternate_starts said words = refl

-- ---- which clause is read

-- the rules from each one on
abbrev from_alternate : EntryClauses → Rule EntryClauses
from_alternate said = alternate said ∣ status said

abbrev from_record_key : EntryClauses → Rule EntryClauses
from_record_key said = record_key said ∣ from_alternate said

abbrev from_access : EntryClauses → Rule EntryClauses
from_access said = access said ∣ from_record_key said

-- the words do not begin the clauses before
past_indexed : (said : EntryClauses) (words : List Word) → begins (this (codes "ORGANIZATION") ∷ this (codes "INDEXED") ∷ []) words ≡ false → Alike (clause said) (from_access said) words
unfolding clause
past_indexed said words e1 = other (indexed said) (from_access said) words (indexed_starts said words ∙ e1)

past_access : (said : EntryClauses) (words : List Word) → begins (this (codes "ORGANIZATION") ∷ this (codes "INDEXED") ∷ []) words ≡ false → begins (this (codes "ACCESS") ∷ []) words ≡ false → Alike (clause said) (from_record_key said) words
past_access said words e1 e2 = chained (past_indexed said words e1) (other (access said) (from_record_key said) words (access_starts said words ∙ e2))

past_record_key : (said : EntryClauses) (words : List Word) → begins (this (codes "ORGANIZATION") ∷ this (codes "INDEXED") ∷ []) words ≡ false → begins (this (codes "ACCESS") ∷ []) words ≡ false → begins (this (codes "RECORD") ∷ []) words ≡ false → Alike (clause said) (from_alternate said) words
past_record_key said words e1 e2 e3 = chained (past_access said words e1 e2) (other (record_key said) (from_alternate said) words (record_key_starts said words ∙ e3))

past_alternate : (said : EntryClauses) (words : List Word) → begins (this (codes "ORGANIZATION") ∷ this (codes "INDEXED") ∷ []) words ≡ false → begins (this (codes "ACCESS") ∷ []) words ≡ false → begins (this (codes "RECORD") ∷ []) words ≡ false → begins (this (codes "ALTERNATE") ∷ []) words ≡ false → Alike (clause said) (status said) words
past_alternate said words e1 e2 e3 e4 = chained (past_record_key said words e1 e2 e3) (other (alternate said) (status said) words (alternate_starts said words ∙ e4))

pub returns-then-sees_one_of : goal.returns-then-sees_one_of
unfolding clause
returns-then-sees_one_of c =
    let said = c.args.clauses in
    let words = c.args.parser.now in
    alike (clause said) (indexed said) words c.indexed.result c.indexed.new.parser
    (first (indexed said) (from_access said) words (indexed_starts said words ∙ (sym c.sees_one_of.ensures ∙ c.if-sees_one_of.true))) c.indexed.ensures

pub returns-then-sees : goal.returns-then-sees
returns-then-sees c =
    let said = c.args.clauses in
    let words = c.args.parser.now in
    alike (clause said) (access said) words c.access.result c.access.new.parser
    (chained (past_indexed said words (sym c.sees_one_of.ensures ∙ c.if-sees_one_of.false)) (first (access said) (from_record_key said) words (access_starts said words ∙ (sym c.sees.ensures ∙ c.if-sees.true)))) c.access.ensures

pub returns-then-sees-2 : goal.returns-then-sees-2
returns-then-sees-2 c =
    let said = c.args.clauses in
    let words = c.args.parser.now in
    alike (clause said) (record_key said) words c.record_key.result c.record_key.new.parser
    (chained (past_access said words (sym c.sees_one_of.ensures ∙ c.if-sees_one_of.false) (sym c.sees.ensures ∙ c.if-sees.false)) (first (record_key said) (from_alternate said) words (record_key_starts said words ∙ (sym c.sees-2.ensures ∙ c.if-sees-2.true)))) c.record_key.ensures

pub returns-then-sees-3 : goal.returns-then-sees-3
returns-then-sees-3 c =
    let said = c.args.clauses in
    let words = c.args.parser.now in
    alike (clause said) (alternate said) words c.alternate.result c.alternate.new.parser
    (chained (past_record_key said words (sym c.sees_one_of.ensures ∙ c.if-sees_one_of.false) (sym c.sees.ensures ∙ c.if-sees.false) (sym c.sees-2.ensures ∙ c.if-sees-2.false)) (first (alternate said) (status said) words (alternate_starts said words ∙ (sym c.sees-3.ensures ∙ c.if-sees-3.true)))) c.alternate.ensures

pub returns : goal.returns
returns c =
    let said = c.args.clauses in
    let words = c.args.parser.now in
    alike (clause said) (status said) words c.status.result c.status.new.parser
    (past_alternate said words (sym c.sees_one_of.ensures ∙ c.if-sees_one_of.false) (sym c.sees.ensures ∙ c.if-sees.false) (sym c.sees-2.ensures ∙ c.if-sees-2.false) (sym c.sees-3.ensures ∙ c.if-sees-3.false)) c.status.ensures
