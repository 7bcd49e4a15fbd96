use Rattle.std.proofs.Common.{◌∙◌, sym}
use Rattle.std.proofs.lemmas.Result.{err_from_is_err_and}
use Rattle.deck_reader.specs.Parts.{name_to_open}
use Rattle.deck_reader.proofs.JoinLemmas.{begun, further, shorter, not_further, finished}
use Rattle.deck_reader.proofs.ProcedureLemmas.{lawful_opened, opened_are_fit, opened_starts}
use Rattle.deck_reader.proofs.opening.all_opened.Goals as goal

pub more-init : goal.more-init
more-init c =
    begun (name_to_open c.args.names.now c.args.mode) (lawful_opened _ _) (opened_are_fit _ _) c.args.statements c.in_ok-statements.statements c.args.parser.now c.opened.new.parser c.in_ok-statements.ensures.0

pub returns-in_err-statements-2 : goal.returns-in_err-statements-2
returns-in_err-statements-2 c =
    let p = err_from_is_err_and c.from_residual-in_err-statements-2.result c.from_residual-in_err-statements-2.ensures.1 in
    rw (p.1, p.2) (not_further (name_to_open c.args.names.now c.args.mode) (lawful_opened _ _) (opened_are_fit _ _) _ _ c.more.statements c.more.parser c.in_err-statements-2.field-0.0 c.more.invariant (opened_starts _ _ _ ∙ sym c.sees_name.ensures ∙ c.more-test.true) c.in_err-statements-2.ensures)

pub more-smaller : goal.more-smaller
more-smaller c =
    shorter (name_to_open c.args.names.now c.args.mode) (lawful_opened _ _) (opened_are_fit _ _) c.more.statements c.in_ok-statements-2.statements c.more.parser c.opened-in-more.new.parser c.in_ok-statements-2.ensures.0

pub more-preserved : goal.more-preserved
more-preserved c =
    further (name_to_open c.args.names.now c.args.mode) (lawful_opened _ _) (opened_are_fit _ _) _ _ c.more.statements c.in_ok-statements-2.statements c.more.parser c.opened-in-more.new.parser c.more.invariant (opened_starts _ _ _ ∙ sym c.sees_name.ensures ∙ c.more-test.true) c.in_ok-statements-2.ensures.0

pub returns : goal.returns
returns c =
    (finished (name_to_open c.args.names.now c.args.mode) (lawful_opened _ _) (opened_are_fit _ _) _ _ c.more.statements c.more.parser c.more.invariant (opened_starts _ _ _ ∙ sym c.sees_name.ensures ∙ c.more-test.false), tt)
