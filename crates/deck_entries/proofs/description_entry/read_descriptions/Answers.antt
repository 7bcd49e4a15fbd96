use Rattle.std.proofs.Common.{◌≡◌, ◌∙◌, sym, subst, Some, List}
use Rattle.std.proofs.lemmas.Result.{err_from_is_err_and}
use Rattle.deck_parser.proofs.TurnLemmas.{begun, further, not_further, finished, turn_takes_some}
use Rattle.deck_entries.specs.Divisions.{more_description}
use Rattle.deck_entries.proofs.DivisionLemmas.{alike_descriptions}
use Rattle.deck_entries.proofs.description_entry.read_descriptions.Goals as goal

pub more-init : goal.more-init
more-init c =
    begun (more_description c.args.entries.now) _ _ (alike_descriptions c.args.entries.now) _ c.in_ok-read.read c.args.parser.now c.one_more.new.parser (subst (λ first. ((more_description c.args.entries.now) first).reads c.args.parser.now ≡ Some (c.in_ok-read.read, c.one_more.new.parser)) c.new.ensures c.in_ok-read.ensures.0)

pub returns-in_err-read-2 : goal.returns-in_err-read-2
returns-in_err-read-2 c =
    let p = err_from_is_err_and c.from_residual-in_err-read-2.result c.from_residual-in_err-read-2.ensures.1 in
    rw (p.1, p.2) (not_further (more_description c.args.entries.now) _ _ (alike_descriptions c.args.entries.now) _ _ c.more.read c.more.parser c.in_err-read-2.field-0.0 c.more.invariant (sym (c.sees_description.ensures) ∙ c.more-test.true) c.in_err-read-2.ensures)

pub more-smaller : goal.more-smaller
more-smaller c =
    turn_takes_some (more_description c.args.entries.now) _ _ (alike_descriptions c.args.entries.now) c.more.read c.in_ok-read-2.read c.more.parser c.one_more-in-more.new.parser c.in_ok-read-2.ensures.0

pub more-preserved : goal.more-preserved
more-preserved c =
    further (more_description c.args.entries.now) _ _ (alike_descriptions c.args.entries.now) _ _ c.more.read c.in_ok-read-2.read c.more.parser c.one_more-in-more.new.parser c.more.invariant (sym (c.sees_description.ensures) ∙ c.more-test.true) c.in_ok-read-2.ensures.0

pub returns : goal.returns
returns c =
    (finished (more_description c.args.entries.now) _ _ (alike_descriptions c.args.entries.now) _ _ c.more.read c.more.parser c.more.invariant (sym (c.sees_description.ensures) ∙ c.more-test.false), tt)
