use Rattle.std.proofs.Common.{◌≡◌, ◌∙◌, sym, subst, Some, List}
use Rattle.std.proofs.lemmas.Result.{err_from_is_err_and}
use Rattle.deck_parser.proofs.TurnLemmas.{begun, further, not_further, finished, turn_takes_some}
use Rattle.deck_entries.specs.FileControlEntry.{clause, no_clauses}
use Rattle.deck_entries.proofs.EntryLemmas.{alike_clauses}
use Rattle.deck_entries.proofs.select.all_clauses.Goals as goal

pub more-init : goal.more-init
more-init c =
    begun clause _ _ alike_clauses _ c.in_ok-clauses.clauses c.args.parser.now c.clause.new.parser (subst (λ first. (clause first).reads c.args.parser.now ≡ Some (c.in_ok-clauses.clauses, c.clause.new.parser)) c.new.ensures c.in_ok-clauses.ensures.0)

pub returns-in_err-clauses-2 : goal.returns-in_err-clauses-2
returns-in_err-clauses-2 c =
    let p = err_from_is_err_and c.from_residual-in_err-clauses-2.result c.from_residual-in_err-clauses-2.ensures.1 in
    rw (p.1, p.2) (not_further clause _ _ alike_clauses _ _ c.more.clauses c.more.parser c.in_err-clauses-2.field-0.0 c.more.invariant (sym (c.sees_clause.ensures c.more.clauses) ∙ c.more-test.true) c.in_err-clauses-2.ensures)

pub more-smaller : goal.more-smaller
more-smaller c =
    turn_takes_some clause _ _ alike_clauses c.more.clauses c.in_ok-clauses-2.clauses c.more.parser c.clause-in-more.new.parser c.in_ok-clauses-2.ensures.0

pub more-preserved : goal.more-preserved
more-preserved c =
    further clause _ _ alike_clauses _ _ c.more.clauses c.in_ok-clauses-2.clauses c.more.parser c.clause-in-more.new.parser c.more.invariant (sym (c.sees_clause.ensures c.more.clauses) ∙ c.more-test.true) c.in_ok-clauses-2.ensures.0

pub returns : goal.returns
returns c =
    (finished clause _ _ alike_clauses _ _ c.more.clauses c.more.parser c.more.invariant (sym (c.sees_clause.ensures c.more.clauses) ∙ c.more-test.false), tt)
