use Rattle.std.proofs.Common.{◌≡◌, false, List, ◌∷◌, [], sym, ◌∙◌}
use Rattle.std.specs.Prelude.{codes}
use Rattle.deck_parser.specs.Class.{begins, this}
use Rattle.deck_parser.specs.Rule.{Rule}
use Rattle.deck_parser.specs.Notation.{◌∣◌}
use Rattle.deck_parser.specs.Word.{Word}
use Rattle.deck_reader.specs.declared.statement.Statement.{Statement}
use Rattle.deck_reader.specs.Names.{Names}
use Rattle.deck_reader.specs.StatementRules.{read_statement, start_statement}
use Rattle.deck_reader.specs.Parts.{record_named, write_statement, rewrite_statement, delete_statement}
use Rattle.deck_reader.specs.Procedure.{one_statement}
use Rattle.deck_parser.proofs.EitherLemmas.{Alike, first, other, chained, alike}
use Rattle.deck_reader.proofs.ProcedureLemmas.{stop_statement, read_starts, start_starts, write_starts, rewrite_starts, delete_starts}
use Rattle.deck_reader.proofs.sentence.one_statement.Goals as goal

-- the rules from each one on
abbrev from_delete : Names → Rule Statement
from_delete names = delete_statement names ∣ stop_statement

abbrev from_rewrite : Names → Rule Statement
from_rewrite names = rewrite_statement names ∣ from_delete names

abbrev from_write : Names → Rule Statement
from_write names = write_statement names ∣ from_rewrite names

abbrev from_start : Names → Rule Statement
from_start names = start_statement names ∣ from_write names

-- which one is read where the words do not begin those before
past_read : (names : Names) (words : List Word) → begins (this (codes "READ") ∷ []) words ≡ false
    → Alike (one_statement names) (from_start names) words
unfolding one_statement record_named
past_read names words e1 = other (read_statement names) (from_start names) words (read_starts names words ∙ e1)

past_start : (names : Names) (words : List Word) → begins (this (codes "READ") ∷ []) words ≡ false → begins (this (codes "START") ∷ []) words ≡ false
    → Alike (one_statement names) (from_write names) words
past_start names words e1 e2 = chained (past_read names words e1) (other (start_statement names) (from_write names) words (start_starts names words ∙ e2))

past_write : (names : Names) (words : List Word) → begins (this (codes "READ") ∷ []) words ≡ false → begins (this (codes "START") ∷ []) words ≡ false → begins (this (codes "WRITE") ∷ []) words ≡ false
    → Alike (one_statement names) (from_rewrite names) words
past_write names words e1 e2 e3 = chained (past_start names words e1 e2) (other (write_statement names) (from_rewrite names) words (write_starts names words ∙ e3))

past_rewrite : (names : Names) (words : List Word) → begins (this (codes "READ") ∷ []) words ≡ false → begins (this (codes "START") ∷ []) words ≡ false → begins (this (codes "WRITE") ∷ []) words ≡ false → begins (this (codes "REWRITE") ∷ []) words ≡ false
    → Alike (one_statement names) (from_delete names) words
past_rewrite names words e1 e2 e3 e4 = chained (past_write names words e1 e2 e3) (other (rewrite_statement names) (from_delete names) words (rewrite_starts names words ∙ e4))

past_delete : (names : Names) (words : List Word) → begins (this (codes "READ") ∷ []) words ≡ false → begins (this (codes "START") ∷ []) words ≡ false → begins (this (codes "WRITE") ∷ []) words ≡ false → begins (this (codes "REWRITE") ∷ []) words ≡ false → begins (this (codes "DELETE") ∷ []) words ≡ false
    → Alike (one_statement names) stop_statement words
past_delete names words e1 e2 e3 e4 e5 = chained (past_rewrite names words e1 e2 e3 e4) (other (delete_statement names) stop_statement words (delete_starts names words ∙ e5))

pub returns-then-sees : goal.returns-then-sees
unfolding one_statement record_named
returns-then-sees c =
    let names = c.args.names.now in
    let words = c.args.parser.now in
    alike (one_statement names) (read_statement names) words c.read_statement.result c.read_statement.new.parser
    (first (read_statement names) (from_start names) words (read_starts names words ∙ (sym c.sees.ensures ∙ c.if-sees.true))) c.read_statement.ensures

pub returns-then-sees-2 : goal.returns-then-sees-2
returns-then-sees-2 c =
    let names = c.args.names.now in
    let words = c.args.parser.now in
    alike (one_statement names) (start_statement names) words c.start_statement.result c.start_statement.new.parser
    (chained (past_read names words (sym c.sees.ensures ∙ c.if-sees.false)) (first (start_statement names) (from_write names) words (start_starts names words ∙ (sym c.sees-2.ensures ∙ c.if-sees-2.true)))) c.start_statement.ensures

pub returns-then-sees-3 : goal.returns-then-sees-3
returns-then-sees-3 c =
    let names = c.args.names.now in
    let words = c.args.parser.now in
    alike (one_statement names) (write_statement names) words c.write_statement.result c.write_statement.new.parser
    (chained (past_start names words (sym c.sees.ensures ∙ c.if-sees.false) (sym c.sees-2.ensures ∙ c.if-sees-2.false)) (first (write_statement names) (from_rewrite names) words (write_starts names words ∙ (sym c.sees-3.ensures ∙ c.if-sees-3.true)))) c.write_statement.ensures

pub returns-then-sees-4 : goal.returns-then-sees-4
returns-then-sees-4 c =
    let names = c.args.names.now in
    let words = c.args.parser.now in
    alike (one_statement names) (rewrite_statement names) words c.rewrite_statement.result c.rewrite_statement.new.parser
    (chained (past_write names words (sym c.sees.ensures ∙ c.if-sees.false) (sym c.sees-2.ensures ∙ c.if-sees-2.false) (sym c.sees-3.ensures ∙ c.if-sees-3.false)) (first (rewrite_statement names) (from_delete names) words (rewrite_starts names words ∙ (sym c.sees-4.ensures ∙ c.if-sees-4.true)))) c.rewrite_statement.ensures

pub returns-then-sees-5 : goal.returns-then-sees-5
returns-then-sees-5 c =
    let names = c.args.names.now in
    let words = c.args.parser.now in
    alike (one_statement names) (delete_statement names) words c.delete_statement.result c.delete_statement.new.parser
    (chained (past_rewrite names words (sym c.sees.ensures ∙ c.if-sees.false) (sym c.sees-2.ensures ∙ c.if-sees-2.false) (sym c.sees-3.ensures ∙ c.if-sees-3.false) (sym c.sees-4.ensures ∙ c.if-sees-4.false)) (first (delete_statement names) stop_statement words (delete_starts names words ∙ (sym c.sees-5.ensures ∙ c.if-sees-5.true)))) c.delete_statement.ensures

pub returns : goal.returns
returns c =
    let names = c.args.names.now in
    let words = c.args.parser.now in
    alike (one_statement names) stop_statement words c.stop_statement.result c.stop_statement.new.parser
    (past_delete names words (sym c.sees.ensures ∙ c.if-sees.false) (sym c.sees-2.ensures ∙ c.if-sees-2.false) (sym c.sees-3.ensures ∙ c.if-sees-3.false) (sym c.sees-4.ensures ∙ c.if-sees-4.false) (sym c.sees-5.ensures ∙ c.if-sees-5.false)) c.stop_statement.ensures
