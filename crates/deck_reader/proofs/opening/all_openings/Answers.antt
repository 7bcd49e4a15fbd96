use Rattle.std.proofs.Common.{◌∙◌, sym}
use Rattle.std.proofs.lemmas.Result.{err_from_is_err_and}
use Rattle.deck_reader.specs.Parts.{opening}
use Rattle.deck_reader.proofs.JoinLemmas.{begun, further, shorter, not_further, finished}
use Rattle.deck_reader.proofs.ProcedureLemmas.{lawful_opening, openings_are_fit}
use Rattle.deck_reader.proofs.opening.all_openings.Goals as goal

pub more-init : goal.more-init
more-init c =
    begun (opening c.args.names.now) (lawful_opening _) (openings_are_fit _) c.args.statements c.in_ok-statements.statements c.args.parser.now c.opening.new.parser c.in_ok-statements.ensures.0

pub returns-in_err-statements-2 : goal.returns-in_err-statements-2
returns-in_err-statements-2 c =
    let p = err_from_is_err_and c.from_residual-in_err-statements-2.result c.from_residual-in_err-statements-2.ensures.1 in
    rw (p.1, p.2) (not_further (opening c.args.names.now) (lawful_opening _) (openings_are_fit _) _ _ c.more.statements c.more.parser c.in_err-statements-2.field-0.0 c.more.invariant (sym (c.sees_mode.ensures c.args.names.now) ∙ c.more-test.true) c.in_err-statements-2.ensures)

pub more-smaller : goal.more-smaller
more-smaller c =
    shorter (opening c.args.names.now) (lawful_opening _) (openings_are_fit _) c.more.statements c.in_ok-statements-2.statements c.more.parser c.opening-in-more.new.parser c.in_ok-statements-2.ensures.0

pub more-preserved : goal.more-preserved
more-preserved c =
    further (opening c.args.names.now) (lawful_opening _) (openings_are_fit _) _ _ c.more.statements c.in_ok-statements-2.statements c.more.parser c.opening-in-more.new.parser c.more.invariant (sym (c.sees_mode.ensures c.args.names.now) ∙ c.more-test.true) c.in_ok-statements-2.ensures.0

pub returns : goal.returns
returns c =
    (finished (opening c.args.names.now) (lawful_opening _) (openings_are_fit _) _ _ c.more.statements c.more.parser c.more.invariant (sym (c.sees_mode.ensures c.args.names.now) ∙ c.more-test.false), tt)
