use Rattle.std.proofs.Common.{◌∙◌, sym}
use Rattle.std.proofs.lemmas.Result.{err_from_is_err_and}
use Rattle.deck_parser.proofs.TurnLemmas.{further, not_further, finished, turn_takes_some}
use Rattle.deck_entries.specs.FileDescription.{description_clause}
use Rattle.deck_entries.proofs.DescriptionLemmas.{alike_clauses}
use Rattle.deck_entries.proofs.clauses.read_clauses.Goals as goal

pub returns-in_err-clauses : goal.returns-in_err-clauses
returns-in_err-clauses c =
    let p = err_from_is_err_and c.from_residual.result c.from_residual.ensures.1 in
    rw (p.1, p.2) (not_further description_clause _ _ alike_clauses _ _ c.more.clauses c.more.parser c.in_err-clauses.field-0.0 c.more.invariant (sym (c.sees_clause.ensures c.more.clauses) ∙ c.more-test.true) c.in_err-clauses.ensures)

pub more-smaller : goal.more-smaller
more-smaller c =
    turn_takes_some description_clause _ _ alike_clauses c.more.clauses c.in_ok-clauses.clauses c.more.parser c.clause.new.parser c.in_ok-clauses.ensures.0

pub more-preserved : goal.more-preserved
more-preserved c =
    further description_clause _ _ alike_clauses _ _ c.more.clauses c.in_ok-clauses.clauses c.more.parser c.clause.new.parser c.more.invariant (sym (c.sees_clause.ensures c.more.clauses) ∙ c.more-test.true) c.in_ok-clauses.ensures.0

pub returns : goal.returns
returns c =
    (finished description_clause _ _ alike_clauses _ _ c.more.clauses c.more.parser c.more.invariant (sym (c.sees_clause.ensures c.more.clauses) ∙ c.more-test.false), tt)
